use Rattle.uri_mend.proofs.Common.{arith, ◌+◌, List, ℕ, drop, length, sym, ap, ◌∙◌, Kind, mended_so_far, mended_path, mended_query}
use Rattle.uri_parts.specs.KindTables.{kind_of}
use Rattle.uri_mend.proofs.NeverAllowed.{known-kind-has-mended-sets}
use Rattle.uri_mend.proofs.MendedTails.{length-of-mended-so-far, part-ends-where-mended, parts-are-mended-tail}
use Rattle.uri_mend.proofs.tail.mend_tail.Goals as goal

pub mend_component-requires-clause-never : goal.mend_component-requires-clause-never
mend_component-requires-clause-never g c =
    (known-kind-has-mended-sets _ _ g.met.K.Kind.known c.tables-tables.ensures.kind).path

pub mend_component-requires-clause-marks : goal.mend_component-requires-clause-marks
mend_component-requires-clause-marks g c =
    (known-kind-has-mended-sets _ _ g.met.K.Kind.known c.tables-tables.ensures.kind).path_marks

pub mend_marked-requires-clause-never : goal.mend_marked-requires-clause-never
mend_marked-requires-clause-never g c =
    (known-kind-has-mended-sets _ _ g.met.K.Kind.known c.tables-tables.ensures.kind).query

pub mend_marked-requires-clause-marks : goal.mend_marked-requires-clause-marks
mend_marked-requires-clause-marks g c =
    (known-kind-has-mended-sets _ _ g.met.K.Kind.known c.tables-tables.ensures.kind).query_marks

pub mend_marked-requires-2-clause-never : goal.mend_marked-requires-2-clause-never
mend_marked-requires-2-clause-never g c =
    (known-kind-has-mended-sets _ _ g.met.K.Kind.known c.tables-tables.ensures.kind).fragment

pub returns-clause-text : goal.returns-clause-text
returns-clause-text g c = grind (arith, parts-are-mended-tail)

pub returns-clause-path_end : goal.returns-clause-path_end
returns-clause-path_end g c =
    let text = c.args.text.now in
    let tail = drop c.args.from.end text in
    let old : List ℕ = mended_so_far text c.args.out.now.items c.args.from in
    part-ends-where-mended text c.mend_component.new.out.items old _ c.in_ok-path.path
    c.in_ok-path_end.path_end c.in_ok-path.ensures.progress c.in_ok-path_end.ensures
    c.in_ok-path.ensures.text
    ∙ ap (λ k. length old + length (mended_path k tail)) c.tables-tables.ensures.kind

pub returns-clause-query_end : goal.returns-clause-query_end
returns-clause-query_end g c =
    let text = c.args.text.now in
    let tail = drop c.args.from.end text in
    let path : List ℕ = mended_so_far text c.mend_component.new.out.items c.in_ok-path.path in
    part-ends-where-mended text c.mend_marked.new.out.items path _ c.in_ok-query.query
    c.in_ok-query_end.query_end c.in_ok-query.ensures.progress c.in_ok-query_end.ensures
    c.in_ok-query.ensures.text ∙ ap (λ n. n + length
    (mended_query (kind_of c.tables-tables.result).query (drop c.in_ok-path.path.end text)))
    (length-of-mended-so-far text c.mend_component.new.out.items c.in_ok-path.path
    c.in_ok-path.ensures.progress ∙ sym c.in_ok-path_end.ensures) ∙ ap (λ (k : Kind).
    c.in_ok-path_end.path_end + length (mended_query k.query (drop c.in_ok-path.path.end text)))
    c.tables-tables.ensures.kind ∙ ap
    (λ t. c.in_ok-path_end.path_end + length (mended_query g.K.Kind.kind.query t))
    c.in_ok-path.ensures.rest
