use Rattle.uri_ops.proofs.Common.{arith, refl, ap, ◌∙◌, with_path, draft_parts, lacks_path}
use Rattle.uri_ops.proofs.Builders.BuilderDrafts.{step-adds-to-contents, valid-utf8-is-text-for-encoder}
use Rattle.uri_ops.proofs.Builders.DraftHosts.{host-range-stays-with-authority}
use Rattle.uri_ops.proofs.Builders.PartRules.{parts-with-path-meet-rules, parts-with-path-are-in-order, in-order-parts-pass-the-test}
use Rattle.uri_ops.proofs.build.Builder.path.Goals as goal

pub with_path-requires : goal.with_path-requires
with_path-requires g c = in-order-parts-pass-the-test lacks_path g.R.RiMaybeRef.kind.needs_scheme
    (draft_parts c.into_draft.result) c.into_draft.ensures.before

pub from_draft-requires-clause-rules : goal.from_draft-requires-clause-rules
from_draft-requires-clause-rules g c = parts-with-path-meet-rules _ g.R.RiMaybeRef.kind.needs_scheme
    _ _ _ c.with_path.ensures.adds c.into_draft.ensures.rules (valid-utf8-is-text-for-encoder _ _
    (g.met.R.Kind.Kind.path_set ∙ ap (λ kind. kind.path) g.met.R.RiMaybeRef.kind_is_its_own) _
    c.as_str.utf8 c.as_str.ensures.valid)

pub from_draft-requires-clause-place : goal.from_draft-requires-clause-place
from_draft-requires-clause-place g c = parts-with-path-are-in-order g.R.RiMaybeRef.kind _ _ _ _
    c.with_path.ensures.adds c.into_draft.ensures.before

pub from_draft-requires-clause-host : goal.from_draft-requires-clause-host
from_draft-requires-clause-host g c = grind (arith, host-range-stays-with-authority)

pub returns : goal.returns
returns g c = step-adds-to-contents with_path _ _ _ _ _ _ refl c.as_str.ensures.text
    c.into_draft.ensures.same c.with_path.ensures.adds c.from_draft.ensures
