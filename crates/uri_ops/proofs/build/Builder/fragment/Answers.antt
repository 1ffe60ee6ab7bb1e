use Rattle.uri_ops.proofs.Common.{arith, refl, ap, ◌∙◌, with_fragment, draft_parts}
use Rattle.uri_ops.proofs.Builders.BuilderDrafts.{step-adds-to-contents, valid-utf8-is-text-for-encoder}
use Rattle.uri_ops.proofs.Builders.DraftHosts.{host-range-stays-with-authority}
use Rattle.uri_ops.proofs.Builders.PartRules.{parts-with-fragment-meet-rules, parts-with-fragment-are-in-order, before-fragment-lacks-fragment}
use Rattle.uri_ops.proofs.build.Builder.fragment.Goals as goal

pub with_fragment-requires : goal.with_fragment-requires
with_fragment-requires g c = before-fragment-lacks-fragment g.R.RiMaybeRef.kind.needs_scheme
    (draft_parts c.into_draft.result) c.into_draft.ensures.before

pub from_draft-requires-clause-rules : goal.from_draft-requires-clause-rules
from_draft-requires-clause-rules g c = parts-with-fragment-meet-rules
    _ g.R.RiMaybeRef.kind.needs_scheme _ _ _ c.with_fragment.ensures.adds c.into_draft.ensures.rules
    (valid-utf8-is-text-for-encoder _ _ (g.met.R.Kind.Kind.fragment_set ∙ ap (λ kind. kind.fragment)
    g.met.R.RiMaybeRef.kind_is_its_own) _ c.as_str.utf8 c.as_str.ensures.valid)

pub from_draft-requires-clause-place : goal.from_draft-requires-clause-place
from_draft-requires-clause-place g c = parts-with-fragment-are-in-order g.R.RiMaybeRef.kind _ _ _ _
    c.with_fragment.ensures.adds c.into_draft.ensures.before

pub from_draft-requires-clause-host : goal.from_draft-requires-clause-host
from_draft-requires-clause-host g c = grind (arith, host-range-stays-with-authority)

pub returns : goal.returns
returns g c = step-adds-to-contents with_fragment _ _ _ _ _ _ refl c.as_str.ensures.text
    c.into_draft.ensures.same c.with_fragment.ensures.adds c.from_draft.ensures
