use Rattle.fluent_uri_c.proofs.Common.{◌≡◌, ◌≤◌, ◌&&◌, ◌∙◌, List, Some, ap, arith, false, length, refl, subst, ℕ, sym, IsCharBoundary, IsCharBoundary-start, set_of}
use Rattle.fluent_uri.specs.Prelude.{is_next, percent_sign}
use Rattle.fluent_uri_c.proofs.CharacterErrors.{IsScanned, other-character-is-error, scan-is-within, scanned-bytes, scanned-text-has-no-error, scanned-text-passes}
use Rattle.fluent_uri_c.proofs.rules.read_characters.Goals as goal

pub scan-end-requires : goal.scan-end-requires
scan-end-requires c = subst (λ (t : List ℕ). IsCharBoundary t 0) (sym c.in_ok-text.ensures.text)
    (IsCharBoundary-start c.args.bytes.now (c.in_ok-text.ensures.accepts.0 refl).0)

pub returns-then-end-text-clause-valid : goal.returns-then-end-text-clause-valid
returns-then-end-text-clause-valid c = grind (arith, scanned-bytes, scanned-text-passes)

pub returns-then-end-text-clause-rejected : goal.returns-then-end-text-clause-rejected
returns-then-end-text-clause-rejected c = grind (arith, scanned-bytes, scanned-text-has-no-error)

pub returns-else-is_stray_percent-clause-rejected :
    goal.returns-else-is_stray_percent-clause-rejected
returns-else-is_stray_percent-clause-rejected c =
    let set = set_of c.args.table.now in
    let bytes = c.args.bytes.now in
    let end = c.scan-end.result in
    let is : IsScanned set bytes end = scanned-bytes set bytes _ end
    (c.in_ok-text.ensures.accepts.0 refl) c.in_ok-text.ensures.text c.scan-end.ensures.end in
    let within : end ≤ length bytes = scan-is-within set bytes end is in
    let percent : (set.pct_encoded && is_next bytes percent_sign end) ≡ false =
    sym (ap (λ (t : List ℕ). set.pct_encoded && is_next t percent_sign end)
    (c.as_bytes.ensures.value ∙ c.in_ok-text.ensures.text))
    ∙ sym c.is_stray_percent.ensures ∙ c.if-is_stray_percent.false in
    ap Some c.at-else-is_stray_percent.ensures ∙ sym (other-character-is-error set bytes end is
    percent (omega (arith, within, ap length c.in_ok-text.ensures.text)))
