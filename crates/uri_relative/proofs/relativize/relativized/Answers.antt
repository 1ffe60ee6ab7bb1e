use Rattle.uri_relative.proofs.Common.{string_bytes, subst, sym, ap, ◌∙◌, arith, components, recompose, core_text, IsOfKind, IsReferenceTo, settled, reference_components, reference_to}
use Rattle.fluent_uri.specs.Prelude.{packed, reference_text}
use Rattle.uri_relative.proofs.Leading.{reference-leads-back-to-target, reference-leads-to-target, reference-is-no-longer-than-target, reference-is-relative}
use Rattle.uri_relative.proofs.ShortestTexts.{reference-is-shortest}
use Rattle.uri_relative.proofs.relativize.relativized.Goals as goal

pub new-requires-clause-of_kind : goal.new-requires-clause-of_kind
new-requires-clause-of_kind g c = subst (λ k. IsOfKind k (string_bytes c.in_ok-made.made.text))
    (sym g.met.K.BaseKind.same_tables) c.in_ok-made.ensures.leads.meets

pub new-requires-clause-at : goal.new-requires-clause-at
new-requires-clause-at g c = c.of-positions.ensures ∙ ap packed c.in_ok-made.ensures.at

pub returns : goal.returns
unfolding reference_to
returns g c =
    let kind = g.K.Kind.kind in
    let prefers = c.args.prefers_relative_path in
    let made = string_bytes c.in_ok-made.made.text in
    let base = reference_text c.args.base.now in
    let target = reference_text c.args.target.now in
    let reference = reference_text c.of_core.result in
    let of_base = c.core.ensures.text in
    let of_target = c.core-2.ensures.text in
    let of_made = c.of_core.ensures.text ∙ c.new.ensures.text in
    let leads = subst (λ b. IsReferenceTo kind prefers b (settled (core_text c.core-2.result))
    (components made)) c.of_core-base.ensures.components c.in_ok-made.ensures.leads in
    record {
      text = of_made ∙ c.in_ok-made.ensures.text
          ∙ ap (λ b. recompose (reference_components prefers b
          (settled (core_text c.core-2.result)))) c.of_core-base.ensures.components
          ∙ ap (λ b. reference_to prefers b (core_text c.core-2.result)) of_base
          ∙ ap (reference_to prefers base) of_target;
      leads = reference-leads-to-target kind prefers (core_text c.core.result)
          (core_text c.core-2.result) made base target reference g.met.K.BaseKind.needs_scheme
          c.core-2.result.of_kind of_base of_target of_made leads;
      back = reference-leads-back-to-target kind prefers (core_text c.core.result)
          (core_text c.core-2.result) made base target reference g.met.K.BaseKind.needs_scheme
          c.core.result.of_kind c.core-2.result.of_kind of_base of_target of_made leads;
      short = λ not. reference-is-no-longer-than-target kind prefers
          (components (core_text c.core.result)) (core_text c.core-2.result) made target reference
          not of_target of_made leads;
      shortest = λ not. reference-is-shortest kind prefers (core_text c.core.result)
          (core_text c.core-2.result) made base target reference g.met.K.BaseKind.needs_scheme
          c.core.result.of_kind c.core-2.result.of_kind of_base of_target of_made not leads;
      relative = grind (arith, reference-is-relative);
    }
