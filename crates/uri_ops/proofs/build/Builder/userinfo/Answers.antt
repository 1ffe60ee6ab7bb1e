use Rattle.uri_ops.proofs.Common.{◌++◌, ap, refl, sym, ◌∙◌, codes, unwrap_or, is_valid_for, lacks_host_and_port, with_userinfo, draft_parts, is_empty}
use Rattle.uri_ops.proofs.Builders.BuilderGrowth.{userinfo-extends-authority}
use Rattle.uri_ops.proofs.Builders.DraftHosts.{host-range-of-longer-authority, host-range-after-userinfo}
use Rattle.uri_ops.proofs.Builders.PartRules.{parts-with-longer-authority-meet-rules, parts-with-longer-authority-are-in-order, in-order-parts-end-in-authority}
use Rattle.uri_ops.proofs.Builders.BuilderDrafts.{step-adds-to-contents}
use Rattle.uri_ops.proofs.build.Builder.userinfo.Goals as goal

pub with_userinfo-requires : goal.with_userinfo-requires
with_userinfo-requires g c = in-order-parts-end-in-authority _ _ _ c.into_draft.ensures.before

pub from_draft-requires-clause-rules : goal.from_draft-requires-clause-rules
from_draft-requires-clause-rules g c =
    parts-with-longer-authority-meet-rules g.R.RiMaybeRef.kind g.R.RiMaybeRef.kind.needs_scheme
    (draft_parts c.into_draft.result) (draft_parts c.with_userinfo.result)
    (c.as_str.result.now ++ codes "@") is_empty lacks_host_and_port c.with_userinfo.ensures.adds
    c.into_draft.ensures.rules c.into_draft.ensures.before (λ _. userinfo-extends-authority
    g.R.RiMaybeRef.kind g.met.R.RiMaybeRef.component_sets c.as_str.result.now c.as_str.utf8
    (sym (ap (λ set. is_valid_for set c.as_str.result.now) (g.met.R.Kind.Kind.userinfo_set
    ∙ ap (λ kind. kind.userinfo) g.met.R.RiMaybeRef.kind_is_its_own)) ∙ c.as_str.ensures.valid))

pub from_draft-requires-clause-place : goal.from_draft-requires-clause-place
from_draft-requires-clause-place g c = parts-with-longer-authority-are-in-order _ _ _ _ _ _ _
    c.with_userinfo.ensures.adds c.into_draft.ensures.rules c.into_draft.ensures.before
    (λ _. userinfo-extends-authority g.R.RiMaybeRef.kind g.met.R.RiMaybeRef.component_sets
    c.as_str.result.now c.as_str.utf8 (sym (ap (λ set. is_valid_for set c.as_str.result.now)
    (g.met.R.Kind.Kind.userinfo_set
    ∙ ap (λ kind. kind.userinfo) g.met.R.RiMaybeRef.kind_is_its_own)) ∙ c.as_str.ensures.valid))

pub from_draft-requires-clause-host : goal.from_draft-requires-clause-host
from_draft-requires-clause-host g c = host-range-of-longer-authority g.R.RiMaybeRef.kind
    g.R.RiMaybeRef.kind.needs_scheme c.into_draft.result c.with_userinfo.result (c.as_str.result.now
    ++ codes "@") is_empty c.with_userinfo.ensures.adds c.into_draft.ensures.rules
    c.into_draft.ensures.before (λ _. host-range-after-userinfo g.R.RiMaybeRef.kind
    g.met.R.RiMaybeRef.component_sets c.into_draft.result.host c.with_userinfo.result.host
    (unwrap_or c.with_userinfo.result.lengths.authority 0) c.as_str.result.now c.as_str.utf8
    (sym (ap (λ set. is_valid_for set c.as_str.result.now) (g.met.R.Kind.Kind.userinfo_set
    ∙ ap (λ kind. kind.userinfo) g.met.R.RiMaybeRef.kind_is_its_own)) ∙ c.as_str.ensures.valid)
    c.with_userinfo.ensures.host.0 c.with_userinfo.ensures.host.1) c.into_draft.ensures.host

pub returns : goal.returns
returns g c = step-adds-to-contents with_userinfo _ _ _ _ _ _ refl c.as_str.ensures.text
    c.into_draft.ensures.same c.with_userinfo.ensures.adds c.from_draft.ensures
