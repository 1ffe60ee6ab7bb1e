use Rattle.uri_ops.proofs.Common.{◌≡◌, ◌++◌, ◌≤◌, List, ℕ, [], true, length, take, sym, ap, ◌∙◌, subst, arith, IfSome, Some, codes, slice_index, list_all, IsUtf8, IsTextOf, authority_parts, recompose_authority, Components, components, marked, core_text, Kind, is_authority, packed, positions_of, is_authority_for-sound, recompose-components, is_literal_byte, is_unchanged_host_byte}
use Rattle.uri_ops.proofs.Normal.NormalTexts.{text-has-parts-of-kind}
use Rattle.uri_ops.proofs.Normal.UnchangedPrefixes.{host-ends-before-path, host-ends-in-text, unchanged-prefix-has-unchanged-scheme-and-host}
use Rattle.uri_ops.proofs.normalize.unchanged.unchanged_prefix_len.Goals as goal

authority-is-whole : (kind : Kind) (text : List ℕ) → IsTextOf kind text → (a : List ℕ)
    → (components text).authority ≡ Some a → recompose_authority (authority_parts a) ≡ a
authority-is-whole kind text is a found =
    (is_authority_for-sound kind.userinfo kind.reg_name a (subst (λ o. IfSome o
    (λ a. IsUtf8 a × (is_authority kind a ≡ true))) found
    (text-has-parts-of-kind kind text is).authority).1).whole

pub unchanged_host_end-requires : goal.unchanged_host_end-requires
unchanged_host_end-requires g c =
    let text = core_text c.args.core in
    subst (λ t. c.packed_positions.result.host_end ≤ length t)
    (sym (c.as_bytes-bytes.ensures.value ∙ c.as_str.ensures.text))
    (host-ends-in-text text _ (ap (λ q. q.host_end) c.packed_positions.ensures)
    (authority-is-whole g.K.Kind.kind text (record {
      utf8 = subst IsUtf8 c.as_str.ensures.text c.as_str.utf8;
      grammar = c.args.core.of_kind;
    })))

pub returns-in-Some : goal.returns-in-Some
returns-in-Some g c = λ some.
    let kind : Kind = g.K.Kind.kind in
    let text : List ℕ = core_text c.args.core in
    let p : Components = components text in
    let whole = authority-is-whole kind text (record {
      utf8 = subst IsUtf8 c.as_str.ensures.text c.as_str.utf8;
      grammar = c.args.core.of_kind;
    }) in
    let host_end : ℕ = c.in-Some.end in
    let found = c.in-Some.ensures in
    let end : host_end ≡ (packed (positions_of p)).host_end = found.end some
    ∙ ap (λ q. q.host_end) c.packed_positions.ensures in
    let bytes : c.as_bytes-bytes.result.now ≡ text =
    c.as_bytes-bytes.ensures.value ∙ c.as_str.ensures.text in
    let rest = p.path ++ (marked (codes "?") p.query [] ++ marked (codes "#") p.fragment []) in
    let both = unchanged-prefix-has-unchanged-scheme-and-host p.scheme p.authority rest whole
    (omega (arith, end, some))
    (ap (λ t. list_all is_unchanged_host_byte (take (packed (positions_of p)).host_end t))
    (recompose-components text) ∙ ap (λ n. list_all is_unchanged_host_byte (take n text)) (sym end)
    ∙ ap (λ t. list_all is_unchanged_host_byte (take host_end t)) (sym bytes)
    ∙ found.unchanged some) in
    let before = host-ends-before-path p whole in
    record {
      scheme = both.0;
      host = both.1;
      within = host-ends-in-text text host_end end whole;
      literal = λ k h. ap (λ t. is_literal_byte (slice_index t k)) (sym bytes)
          ∙ found.literal k h;
      path = λ _. omega (arith, end, before);
    }
