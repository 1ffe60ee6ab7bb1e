use Rattle.uri_mend.proofs.Common.{◌≡◌, ◌++◌, ◌∙◌, [], ap, arith, drop, string_bytes, sym, append-nil, drop_all, eqb-true, tab_and_newlines, without_any}
use Rattle.uri_mend.proofs.TrimmedLinks.{boundary-after-tab-or-newline, text-without-marks-after-run}
use Rattle.uri_mend.proofs.trimming.push_without_newlines.Goals as goal

pub returns-then-is_empty : goal.returns-then-is_empty
returns-then-is_empty c =
    let mid = string_bytes c.push_str.new.self in
    let from = c.cut_before.result.1.now in
    let none : drop 1 from ≡ [] = drop_all 1 from (omega (
      arith,
      eqb-true _ 0 (sym c.is_empty-in-loop-rest.ensures ∙ c.if-is_empty.true),
    )) in
    sym (append-nil mid) ∙ ap (λ t. mid ++ without_any tab_and_newlines t) (sym none)
    ∙ text-without-marks-after-run tab_and_newlines (string_bytes c.loop-rest.out) mid
    c.loop-rest.rest.now from _ (c.in_ok-push_str.ensures.bytes
    ∙ ap (λ x. string_bytes c.loop-rest.out ++ x) c.cut_before.ensures.before)
    c.cut_before.ensures.from c.loop-rest.invariant.1

pub range_from-rest-requires : goal.range_from-rest-requires
range_from-rest-requires c = grind (arith, boundary-after-tab-or-newline)

pub loop-rest-preserved : goal.loop-rest-preserved
loop-rest-preserved c =
    let mid = string_bytes c.push_str.new.self in
    let from = c.cut_before.result.1.now in (
      c.range_from-rest.utf8,
      ap (λ t. mid ++ without_any tab_and_newlines t) c.range_from-rest.ensures.value
          ∙ text-without-marks-after-run tab_and_newlines (string_bytes c.loop-rest.out) mid
          c.loop-rest.rest.now from _ (c.in_ok-push_str.ensures.bytes
          ∙ ap (λ x. string_bytes c.loop-rest.out ++ x) c.cut_before.ensures.before)
          c.cut_before.ensures.from c.loop-rest.invariant.1,
    )
