use Rattle.uri_ops.proofs.Common.{arith, refl, with_scheme}
use Rattle.uri_ops.proofs.Builders.BuilderDrafts.{step-adds-to-contents, scheme-rule-gives-scheme-text}
use Rattle.uri_ops.proofs.Builders.DraftHosts.{host-range-stays-with-authority}
use Rattle.uri_ops.proofs.Builders.PartRules.{fresh-builder-lacks-all-parts, parts-with-scheme-meet-rules, parts-with-scheme-are-in-order}
use Rattle.uri_ops.proofs.build.Builder.scheme.Goals as goal

pub with_scheme-requires : goal.with_scheme-requires
with_scheme-requires g c = fresh-builder-lacks-all-parts _ _ c.into_draft.ensures.before

pub from_draft-requires-clause-rules : goal.from_draft-requires-clause-rules
from_draft-requires-clause-rules g c =
    grind (arith, parts-with-scheme-meet-rules, scheme-rule-gives-scheme-text)

pub from_draft-requires-clause-place : goal.from_draft-requires-clause-place
from_draft-requires-clause-place g c = parts-with-scheme-are-in-order g.R.RiMaybeRef.kind _ _ _ _
    c.with_scheme.ensures.adds c.into_draft.ensures.before

pub from_draft-requires-clause-host : goal.from_draft-requires-clause-host
from_draft-requires-clause-host g c = grind (arith, host-range-stays-with-authority, with_scheme)

pub returns : goal.returns
returns g c = step-adds-to-contents with_scheme _ _ _ _ _ _ refl c.as_str.ensures.text
    c.into_draft.ensures.same c.with_scheme.ensures.adds c.from_draft.ensures
