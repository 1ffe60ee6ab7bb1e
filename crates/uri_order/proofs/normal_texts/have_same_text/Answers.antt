use Rattle.std.proofs.Common.{sym, ◌∙◌}
use Rattle.std.proofs.lemmas.Slice.Eq.{bytes_eq-Decides}
use Rattle.uri_order.proofs.Equivalences.{equal_text_is_of_kind}
use Rattle.uri_order.proofs.normal_texts.have_same_text.Goals as goal

pub returns-clause-same : goal.returns-clause-same
returns-clause-same g c =
    let decides = bytes_eq-Decides c.as_str.result.now c.as_str-2.result.now in (
      λ e. sym c.as_str.ensures.text ∙ decides.0 (sym c.eq.ensures ∙ e) ∙ c.as_str-2.ensures.text,
      λ same. c.eq.ensures
          ∙ decides.1 (c.as_str.ensures.text ∙ same ∙ sym c.as_str-2.ensures.text),
    )

pub returns-clause-one : goal.returns-clause-one
returns-clause-one g c = equal_text_is_of_kind _ _ _ c.as_str.ensures.text c.as_str.utf8
    c.as_str.ensures.of_kind

pub returns-clause-other : goal.returns-clause-other
returns-clause-other g c = equal_text_is_of_kind _ _ _ c.as_str-2.ensures.text c.as_str-2.utf8
    c.as_str-2.ensures.of_kind
