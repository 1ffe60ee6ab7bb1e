use Rattle.uri_ops.proofs.Common.{arith, refl, ap, ◌∙◌, with_query}
use Rattle.uri_ops.proofs.Builders.BuilderDrafts.{step-adds-to-contents, valid-utf8-is-text-for-encoder}
use Rattle.uri_ops.proofs.Builders.DraftHosts.{host-range-stays-with-authority}
use Rattle.uri_ops.proofs.Builders.PartRules.{parts-with-query-meet-rules, parts-with-query-are-in-order, path-last-lacks-query-and-fragment}
use Rattle.uri_ops.proofs.build.Builder.query.Goals as goal

pub with_query-requires : goal.with_query-requires
with_query-requires g c = path-last-lacks-query-and-fragment _ _ c.into_draft.ensures.before

pub from_draft-requires-clause-rules : goal.from_draft-requires-clause-rules
from_draft-requires-clause-rules g c =
    parts-with-query-meet-rules _ g.R.RiMaybeRef.kind.needs_scheme _ _ _ c.with_query.ensures.adds
    c.into_draft.ensures.rules (valid-utf8-is-text-for-encoder _ _ (g.met.R.Kind.Kind.query_set ∙ ap
    (λ kind. kind.query) g.met.R.RiMaybeRef.kind_is_its_own) _ c.as_str.utf8 c.as_str.ensures.valid)

pub from_draft-requires-clause-place : goal.from_draft-requires-clause-place
from_draft-requires-clause-place g c = parts-with-query-are-in-order g.R.RiMaybeRef.kind _ _ _ _
    c.with_query.ensures.adds c.into_draft.ensures.before

pub from_draft-requires-clause-host : goal.from_draft-requires-clause-host
from_draft-requires-clause-host g c = grind (arith, host-range-stays-with-authority)

pub returns : goal.returns
returns g c = step-adds-to-contents with_query _ _ _ _ _ _ refl c.as_str.ensures.text
    c.into_draft.ensures.same c.with_query.ensures.adds c.from_draft.ensures
