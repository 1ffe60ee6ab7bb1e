use Rattle.uri_ops.proofs.Common.{arith, [], refl, draft_parts, with_authority}
use Rattle.uri_ops.proofs.Builders.BuilderDrafts.{step-adds-to-contents}
use Rattle.uri_ops.proofs.Builders.BuilderAuthorities.{empty-text-is-authority}
use Rattle.uri_ops.proofs.Builders.DraftHosts.{host-range-of-new-authority, empty-authority-has-host-range}
use Rattle.uri_ops.proofs.Builders.PartRules.{parts-with-authority-meet-rules, parts-with-begun-authority-are-in-order, in-order-parts-pass-the-test}
use Rattle.uri_ops.proofs.build.Builder.with_authority_begun.Goals as goal

pub with_authority-requires : goal.with_authority-requires
with_authority-requires g c = in-order-parts-pass-the-test _ _ _ c.into_draft.ensures.before

pub from_draft-requires-clause-rules : goal.from_draft-requires-clause-rules
from_draft-requires-clause-rules g c =
    grind (arith, parts-with-authority-meet-rules, empty-text-is-authority)

pub from_draft-requires-clause-place : goal.from_draft-requires-clause-place
from_draft-requires-clause-place g c = g.met.S.BeginsAuthority.begun
    g.R.RiMaybeRef.kind.needs_scheme (draft_parts c.with_authority.result)
    (parts-with-begun-authority-are-in-order g.R.RiMaybeRef.kind _ _ _ []
    c.with_authority.ensures.adds c.into_draft.ensures.before)

pub from_draft-requires-clause-host : goal.from_draft-requires-clause-host
from_draft-requires-clause-host g c =
    grind (arith, host-range-of-new-authority, empty-authority-has-host-range)

pub returns : goal.returns
returns g c = step-adds-to-contents with_authority _ _ _ _ _ _ refl refl c.into_draft.ensures.same
    c.with_authority.ensures.adds c.from_draft.ensures
