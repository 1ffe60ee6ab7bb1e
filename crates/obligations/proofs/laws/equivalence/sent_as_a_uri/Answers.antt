use Rattle.std.proofs.Common.{subst}
use Rattle.fluent_uri.specs.Prelude.{IsTextOf, default_rules, iri}
use Rattle.obligations.proofs.laws.equivalence.sent_as_a_uri.Goals as goal

pub returns : goal.returns
returns c =
    let text = subst (IsTextOf iri) c.as_str-text.ensures.text
    (record { utf8 = c.as_str-text.utf8; grammar = c.as_str-text.ensures.of_kind }) in
    c.encoding_past_ascii_keeps_meaning.ensures.meaning iri default_rules _
    c.four_kinds_have_component_sets.ensures.iri text
