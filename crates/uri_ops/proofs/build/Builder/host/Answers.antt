use Rattle.uri_ops.proofs.Common.{ap, subst, ◌∙◌, refl, unwrap_or, lacks_host_and_port, lacks_port, with_host, draft_parts, IsHostText}
use Rattle.uri_ops.proofs.Builders.BuilderGrowth.{host-extends-open-authority}
use Rattle.uri_ops.proofs.Builders.DraftHosts.{host-range-after-host, host-range-of-longer-authority}
use Rattle.uri_ops.proofs.Builders.PartRules.{parts-with-longer-authority-meet-rules, parts-with-longer-authority-are-in-order, in-order-parts-end-in-authority}
use Rattle.uri_ops.proofs.Builders.BuilderDrafts.{step-adds-to-contents}
use Rattle.uri_ops.proofs.build.Builder.host.Goals as goal

pub with_host-requires : goal.with_host-requires
with_host-requires g c = in-order-parts-end-in-authority _ _ _ c.into_draft.ensures.before

pub from_draft-requires-clause-rules : goal.from_draft-requires-clause-rules
from_draft-requires-clause-rules g c = parts-with-longer-authority-meet-rules g.R.RiMaybeRef.kind
    g.R.RiMaybeRef.kind.needs_scheme (draft_parts c.into_draft.result)
    (draft_parts c.with_host.result) (g.H.AsHost.host_text c.args.host) lacks_host_and_port
    lacks_port c.with_host.ensures.adds c.into_draft.ensures.rules c.into_draft.ensures.before
    (λ f. host-extends-open-authority _ g.met.R.RiMaybeRef.component_sets _ (subst
    (λ names. IsHostText names (g.H.AsHost.host_text c.args.host)) (g.met.R.Kind.Kind.reg_name_set
    ∙ ap (λ kind. kind.reg_name) g.met.R.RiMaybeRef.kind_is_its_own) (c.with_host.ensures.host f)))

pub from_draft-requires-clause-place : goal.from_draft-requires-clause-place
from_draft-requires-clause-place g c = parts-with-longer-authority-are-in-order _ _ _ _ _ _ _
    c.with_host.ensures.adds c.into_draft.ensures.rules c.into_draft.ensures.before
    (λ f. host-extends-open-authority _ g.met.R.RiMaybeRef.component_sets _ (subst
    (λ names. IsHostText names (g.H.AsHost.host_text c.args.host)) (g.met.R.Kind.Kind.reg_name_set
    ∙ ap (λ kind. kind.reg_name) g.met.R.RiMaybeRef.kind_is_its_own) (c.with_host.ensures.host f)))

pub from_draft-requires-clause-host : goal.from_draft-requires-clause-host
from_draft-requires-clause-host g c = host-range-of-longer-authority g.R.RiMaybeRef.kind
    g.R.RiMaybeRef.kind.needs_scheme c.into_draft.result c.with_host.result
    (g.H.AsHost.host_text c.args.host) lacks_host_and_port c.with_host.ensures.adds
    c.into_draft.ensures.rules c.into_draft.ensures.before
    (λ f. host-range-after-host g.R.RiMaybeRef.kind g.met.R.RiMaybeRef.component_sets
    c.into_draft.result.host c.with_host.result.host
    (unwrap_or c.with_host.result.lengths.authority 0) (g.H.AsHost.host_text c.args.host) (subst
    (λ names. IsHostText names (g.H.AsHost.host_text c.args.host)) (g.met.R.Kind.Kind.reg_name_set
    ∙ ap (λ kind. kind.reg_name) g.met.R.RiMaybeRef.kind_is_its_own) (c.with_host.ensures.host f))
    c.with_host.ensures.start c.with_host.ensures.end) c.into_draft.ensures.host

pub returns : goal.returns
returns g c = step-adds-to-contents with_host _ _ _ _ _ _ refl refl c.into_draft.ensures.same
    c.with_host.ensures.adds c.from_draft.ensures
