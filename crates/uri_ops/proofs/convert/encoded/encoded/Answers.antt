use Rattle.uri_ops.proofs.Common.{common_steps, rules, ◌≡◌, arith, ap, sym, subst, ◌∙◌, length, string_bytes, IsUtf8, false≢true, core_text, IsOfKind, packed, ArePositionsOf, encode_past_ascii}
use Rattle.uri_ops.specs.Models.EncodedPlaces.{ArePositionsOrdered, positions_in_encoded}
use Rattle.uri_ops.proofs.AsciiForms.EncodedPlaces.{encoded-positions-are-right, positions-are-ordered}
use Rattle.uri_ops.proofs.AsciiForms.EncodedTokens.{encoded-text-is-utf8}
use Rattle.uri_ops.proofs.convert.encoded.encoded.Goals as goal

pub returns-then-ascii-bytes-clause-text : goal.returns-then-ascii-bytes-clause-text
returns-then-ascii-bytes-clause-text g c = grind (arith, common_steps)

pub push_encoded_components-requires-clause-ordered
    : goal.push_encoded_components-requires-clause-ordered
push_encoded_components-requires-clause-ordered g c =
    let text = core_text c.core-core.result in
    subst (λ t. ArePositionsOrdered (length t) c.positions.result)
    (sym (c.as_bytes-bytes.ensures.value ∙ c.as_str-text.ensures.text))
    (positions-are-ordered g.R.RiMaybeRef.kind g.met.R.RiMaybeRef.component_sets text (record {
      utf8 = subst IsUtf8 c.as_str-text.ensures.text c.as_str-text.utf8;
      grammar = subst (IsOfKind g.R.RiMaybeRef.kind) (sym c.core-core.ensures.text)
          c.core-core.ensures.of_kind;
    }) c.positions.result c.positions.ensures)

pub unreachable-requires : goal.unreachable-requires
unreachable-requires g c =
    let all = c.in_ok-positions.ensures.text
    ∙ ap encode_past_ascii c.as_bytes-bytes.ensures.value in
    false≢true (c.in-Err.ensures.succeeds
    (subst IsUtf8 (sym all) (encoded-text-is-utf8 c.as_str-text.result.now c.as_str-text.utf8)))

pub returns-clause-at : goal.returns-clause-at
returns-clause-at g c =
    let text = core_text c.core-core.result in
    let same = c.as_bytes-bytes.ensures.value ∙ c.as_str-text.ensures.text in
    let written : string_bytes c.in-Ok.text ≡ encode_past_ascii c.as_bytes-bytes.result.now =
    search rules in
    let places = c.in_ok-positions.ensures.places
    ∙ ap (λ t. positions_in_encoded t c.positions.result) same in
    c.of.ensures ∙ ap packed (subst (λ p. ArePositionsOf (string_bytes c.in-Ok.text) p)
    (sym places) (subst (λ t. ArePositionsOf t (positions_in_encoded text c.positions.result))
    (sym (written ∙ ap encode_past_ascii same)) (encoded-positions-are-right g.R.RiMaybeRef.kind
    g.met.R.RiMaybeRef.component_sets text (record {
      utf8 = subst IsUtf8 c.as_str-text.ensures.text c.as_str-text.utf8;
      grammar = subst (IsOfKind g.R.RiMaybeRef.kind) (sym c.core-core.ensures.text)
          c.core-core.ensures.of_kind;
    }) c.positions.result c.positions.ensures)))
