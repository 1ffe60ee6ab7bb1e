use Rattle.uri_mend.proofs.Common.{take, sym, ◌∙◌, and_parts, set_of, lacks_percent, lacks_marks}
use Rattle.uri_mend.proofs.ComponentProgress.{all-is-mended-at-end, nothing-is-scanned-after-scan, octets-go-on, scan-goes-on}
use Rattle.uri_mend.proofs.component.mend_component.Goals as goal

pub returns-then-is_component_end-clause-text : goal.returns-then-is_component_end-clause-text
returns-then-is_component_end-clause-text c =
    let set = set_of c.args.table.now in
    let holds = c.loop-p.invariant in
    let p = c.loop-p.p in
    let out = take p.at c.loop-p.out.items in
    let step = scan-goes-on c.args.marks.now set (lacks_percent c.args.table.now) c.requires.octets
    (and_parts (lacks_marks set c.args.marks.now) _ c.requires.marks).0 c.args.text.now out _
    p.run_start p.end c.scan.result c.utf8.text holds.progress.boundary holds.progress.ordered
    c.scan.ensures.end holds.text in
    all-is-mended-at-end set _ _ _ (c.is_component_end.ensures.before c.if-is_component_end.true)
    step.0

pub returns-then-is_component_end-clause-rest : goal.returns-then-is_component_end-clause-rest
returns-then-is_component_end-clause-rest c =
    let set = set_of c.args.table.now in
    let holds = c.loop-p.invariant in
    let p = c.loop-p.p in
    let step = scan-goes-on c.args.marks.now set (lacks_percent c.args.table.now) c.requires.octets
    (and_parts (lacks_marks set c.args.marks.now) _ c.requires.marks).0 c.args.text.now
    (take p.at c.loop-p.out.items) _ p.run_start p.end c.scan.result c.utf8.text
    holds.progress.boundary holds.progress.ordered c.scan.ensures.end holds.text in
    sym (sym holds.rest ∙ step.1 ∙ c.is_component_end.ensures.from c.if-is_component_end.true)

pub encode_next-requires-clause-stop : goal.encode_next-requires-clause-stop
encode_next-requires-clause-stop c = nothing-is-scanned-after-scan (set_of c.args.table.now)
    c.args.text.now c.loop-p.p.end c.scan.result c.scan.ensures.end

pub loop-p-preserved : goal.loop-p-preserved
loop-p-preserved c =
    let set = set_of c.args.table.now in
    let marks = c.args.marks.now in
    let holds = c.loop-p.invariant in
    let p = c.loop-p.p in
    let step = scan-goes-on marks set (lacks_percent c.args.table.now) c.requires.octets
    (and_parts (lacks_marks set marks) _ c.requires.marks).0 c.args.text.now
    (take p.at c.loop-p.out.items) _ p.run_start p.end c.scan.result c.utf8.text
    holds.progress.boundary holds.progress.ordered c.scan.ensures.end holds.text in
    let found = c.in_ok-p.ensures.encoded marks c.requires.marks
    (c.is_component_end.ensures.other c.if-is_component_end.false) in
    record {
      progress = c.in_ok-p.ensures.progress;
      text = octets-go-on _ _ _ _ _ _ c.in_ok-p.ensures.text found.0 step.0;
      rest = sym (sym holds.rest ∙ step.1 ∙ found.1);
    }
