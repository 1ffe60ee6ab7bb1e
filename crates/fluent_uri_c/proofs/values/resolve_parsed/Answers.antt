use Rattle.fluent_uri_c.proofs.Common.{List, ℕ, subst, sym, reference_text, Parts, basic_resolution, resolution, resolution_by, takes_memory_for_target, LeavesValueOrDenied}
use Rattle.fluent_uri_c.proofs.Targets.{target-is-returned}
use Rattle.fluent_uri_c.proofs.values.resolve_parsed.Goals as goal

pub returns-then-is_basic : goal.returns-then-is_basic
returns-then-is_basic g c =
    let base = reference_text c.args.base.now in
    let reference = reference_text c.args.reference.now in
    subst (λ b. LeavesValueOrDenied (takes_memory_for_target (resolution_by b base reference))
    (resolution_by b base reference) c.args.out.now c.put_value_or_report.new.out c.args.parts.now
    c.put_value_or_report.new.parts c.put_value_or_report.new.outcome c.put_value_or_report.result)
    (sym c.if-is_basic.true)
    (c.put_value_or_report.ensures (takes_memory_for_target (basic_resolution base reference))
    (basic_resolution base reference) c.resolve_text_by_basic_algorithm-target.ensures)

pub returns-then-put_pieces_of_target : goal.returns-then-put_pieces_of_target
returns-then-put_pieces_of_target g c =
    let base = reference_text c.args.base.now in
    let reference = reference_text c.args.reference.now in
    subst (λ b. LeavesValueOrDenied (takes_memory_for_target (resolution_by b base reference))
    (resolution_by b base reference) c.args.out.now c.put_pieces_of_target.new.out c.args.parts.now
    c.put_pieces_of_target.new.parts c.put_pieces_of_target.new.outcome 0) (sym c.if-is_basic.false)
    (c.put_pieces_of_target.ensures.written c.if-put_pieces_of_target.true
    (takes_memory_for_target (resolution base reference)))

pub returns : goal.returns
returns g c =
    let base = reference_text c.args.base.now in
    let reference = reference_text c.args.reference.now in
    let by = resolution_by c.args.is_basic base reference in
    let left = c.put_value_or_report-2 in
    let kept = c.put_pieces_of_target.ensures in
    let is = c.if-put_pieces_of_target.false in
    subst (λ (old : List ℕ). LeavesValueOrDenied (takes_memory_for_target by) by old left.new.out
    c.args.parts.now left.new.parts left.new.outcome left.result) (kept.out is) (subst
    (λ (old : List Parts). LeavesValueOrDenied (takes_memory_for_target by) by
    c.put_pieces_of_target.new.out left.new.out old left.new.parts left.new.outcome left.result)
    (kept.parts is) (left.ensures (takes_memory_for_target by) by (target-is-returned reference_text
    base reference c.args.is_basic _ c.if-is_basic.false c.resolve_text-target.ensures)))
