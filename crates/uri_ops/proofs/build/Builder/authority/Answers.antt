use Rattle.uri_ops.proofs.Common.{arith, ap, refl, ◌∙◌, with_authority}
use Rattle.uri_ops.proofs.Builders.BuilderAuthorities.{authority-text-from-encoders}
use Rattle.uri_ops.proofs.Builders.DraftHosts.{host-range-of-new-authority}
use Rattle.uri_ops.proofs.Builders.PartRules.{parts-with-authority-meet-rules, parts-with-authority-are-in-order, in-order-parts-pass-the-test}
use Rattle.uri_ops.proofs.Builders.BuilderDrafts.{step-adds-to-contents}
use Rattle.uri_ops.proofs.build.Builder.authority.Goals as goal

pub with_authority-requires : goal.with_authority-requires
with_authority-requires g c = in-order-parts-pass-the-test _ _ _ c.into_draft.ensures.before

pub from_draft-requires-clause-rules : goal.from_draft-requires-clause-rules
from_draft-requires-clause-rules g c = parts-with-authority-meet-rules _
    g.R.RiMaybeRef.kind.needs_scheme _ _ _ c.with_authority.ensures.adds c.into_draft.ensures.rules
    (authority-text-from-encoders _ _ _ (g.met.R.Kind.Kind.userinfo_set
    ∙ ap (λ kind. kind.userinfo) g.met.R.RiMaybeRef.kind_is_its_own) (g.met.R.Kind.Kind.reg_name_set
    ∙ ap (λ kind. kind.reg_name) g.met.R.RiMaybeRef.kind_is_its_own) _ c.as_str.utf8
    c.as_str.ensures.valid)

pub from_draft-requires-clause-place : goal.from_draft-requires-clause-place
from_draft-requires-clause-place g c = parts-with-authority-are-in-order g.R.RiMaybeRef.kind _ _ _ _
    c.with_authority.ensures.adds c.into_draft.ensures.before

pub from_draft-requires-clause-host : goal.from_draft-requires-clause-host
from_draft-requires-clause-host g c = grind (arith, host-range-of-new-authority)

pub returns : goal.returns
returns g c = step-adds-to-contents with_authority _ _ _ _ _ _ refl c.as_str.ensures.text
    c.into_draft.ensures.same c.with_authority.ensures.adds c.from_draft.ensures
