use Rattle.uri_ops.proofs.Common.{rules, ◌≡◌, ◌++◌, ◌&&◌, false, true, length, sym, ap, ◌∙◌, string_bytes, is_some, and_right, IsUtf8-string_bytes, decode_unreserved, text_of, print, starts, remove_dot_segments}
use Rattle.uri_ops.proofs.Normal.NormalPieces.{path-with-dots-is-normal-when-decoded, pushed-path-without-dots-is-normal, absolute-is-leading-slash}
use Rattle.uri_ops.proofs.Paths.GuardedPaths.{guard-inserted-before-path, pushed-path-begins-at-boundary}
use Rattle.uri_ops.proofs.normalize.normal_text.push_normal_path.Goals as goal
use Rattle.uri_ops.proofs.normalize.normal_text.push_normal_path.Goals.{then-not-has_scheme-via-then-not-has_scheme, then-not-has_scheme-via-else-not-has_scheme+then-not-is_absolute}

pub returns-then-not-has_scheme-clause-text : goal.returns-then-not-has_scheme-clause-text
returns-then-not-has_scheme-clause-text g c = λ scheme authority s a.
    let path = text_of c.args.path in
    let off : (is_some scheme && starts 47 path) ≡ false = elim c.then-not-has_scheme.branch [
      | then-not-has_scheme-via-then-not-has_scheme w ↦ ap (λ b. b && starts 47 path)
          (s ∙ w.if-not-has_scheme.true)
      | then-not-has_scheme-via-else-not-has_scheme+then-not-is_absolute w ↦ and_right
          (is_some scheme) (starts 47 path)
          (absolute-is-leading-slash path ∙ sym w.is_absolute.ensures ∙ w.if-not-is_absolute.true)
    ] in
    c.in_ok-push_decoded_component.ensures ∙ ap (λ t. string_bytes c.args.out.now ++ t)
    (sym (path-with-dots-is-normal-when-decoded g.E.Encoder.set c.requires.set scheme authority path
    (search rules) c.args.path.valid off))

pub guard_path-requires : goal.guard_path-requires
guard_path-requires g c =
    let at : c.len-start.result ≡ length (string_bytes c.args.out.now) = search rules in
    pushed-path-begins-at-boundary (string_bytes c.args.out.now) _
    (string_bytes c.push_decoded_path.new.out)
    c.len-start.result at c.in_ok-underflowed.ensures.text
    (IsUtf8-string_bytes c.args.out.now) (IsUtf8-string_bytes c.push_decoded_path.new.out)

pub returns-in_ok-guard_path-clause-text : goal.returns-in_ok-guard_path-clause-text
returns-in_ok-guard_path-clause-text g c = λ scheme authority s same.
    let path = text_of c.args.path in
    let old = string_bytes c.args.out.now in
    let at : c.len-start.result ≡ length old = search rules in
    let absolute : starts 47 path ≡ true = absolute-is-leading-slash path
    ∙ sym c.is_absolute.ensures ∙ c.if-not-is_absolute.false in
    pushed-path-without-dots-is-normal g.E.Encoder.set scheme authority path old
    (string_bytes c.guard_path.new.out) (s ∙ c.if-not-has_scheme.false) absolute
    (guard-inserted-before-path authority old (string_bytes c.push_decoded_path.new.out)
    (string_bytes c.guard_path.new.out) _ c.len-start.result (same ∙ c.if-not-has_authority.true) at
    (c.in_ok-underflowed.ensures.text ∙ (λ i. old ++ print (decode_unreserved (c.table.ensures i)
    (remove_dot_segments (c.as_str.ensures.text i))))) c.in_ok-guard_path.ensures)
