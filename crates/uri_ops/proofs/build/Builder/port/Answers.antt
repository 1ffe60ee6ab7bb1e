use Rattle.uri_ops.proofs.Common.{◌++◌, codes, refl, unwrap_or, lacks_port, with_port, any_authority, draft_parts}
use Rattle.uri_ops.proofs.Builders.BuilderGrowth.{port-extends-open-authority}
use Rattle.uri_ops.proofs.Builders.DraftHosts.{host-range-of-longer-authority, host-range-after-port}
use Rattle.uri_ops.proofs.Builders.PartRules.{parts-with-longer-authority-meet-rules, parts-with-longer-authority-are-in-order, in-order-parts-end-in-authority}
use Rattle.uri_ops.proofs.Builders.BuilderDrafts.{step-adds-to-contents}
use Rattle.uri_ops.proofs.build.Builder.port.Goals as goal

pub with_port-requires : goal.with_port-requires
with_port-requires g c = in-order-parts-end-in-authority lacks_port g.R.RiMaybeRef.kind.needs_scheme
    (draft_parts c.into_draft.result) c.into_draft.ensures.before

pub from_draft-requires-clause-rules : goal.from_draft-requires-clause-rules
from_draft-requires-clause-rules g c = parts-with-longer-authority-meet-rules g.R.RiMaybeRef.kind
    g.R.RiMaybeRef.kind.needs_scheme (draft_parts c.into_draft.result)
    (draft_parts c.with_port.result) (codes ":" ++ g.P.AsPort.port_digits c.args.port) lacks_port
    any_authority c.with_port.ensures.adds c.into_draft.ensures.rules c.into_draft.ensures.before
    (λ f. port-extends-open-authority g.R.RiMaybeRef.kind g.met.R.RiMaybeRef.component_sets
    (g.P.AsPort.port_digits c.args.port) (c.with_port.ensures.digits f))

pub from_draft-requires-clause-place : goal.from_draft-requires-clause-place
from_draft-requires-clause-place g c = parts-with-longer-authority-are-in-order _ _ _ _ _ _ _
    c.with_port.ensures.adds c.into_draft.ensures.rules c.into_draft.ensures.before
    (λ f. port-extends-open-authority _ g.met.R.RiMaybeRef.component_sets
    _ (c.with_port.ensures.digits f))

pub from_draft-requires-clause-host : goal.from_draft-requires-clause-host
from_draft-requires-clause-host g c = host-range-of-longer-authority g.R.RiMaybeRef.kind
    g.R.RiMaybeRef.kind.needs_scheme c.into_draft.result c.with_port.result
    (codes ":" ++ g.P.AsPort.port_digits c.args.port) lacks_port c.with_port.ensures.adds
    c.into_draft.ensures.rules c.into_draft.ensures.before
    (λ f. host-range-after-port g.R.RiMaybeRef.kind g.met.R.RiMaybeRef.component_sets
    c.into_draft.result.host c.with_port.result.host
    (unwrap_or c.with_port.result.lengths.authority 0) (g.P.AsPort.port_digits c.args.port)
    (c.with_port.ensures.digits f) c.with_port.ensures.host) c.into_draft.ensures.host

pub returns : goal.returns
returns g c = step-adds-to-contents with_port _ _ _ _ _ _ refl refl c.into_draft.ensures.same
    c.with_port.ensures.adds c.from_draft.ensures
