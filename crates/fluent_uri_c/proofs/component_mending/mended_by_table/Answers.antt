use Rattle.fluent_uri_c.proofs.Common.{common_steps, arith, ◌++◌, ap, drop, drop_all, IsCharBoundary-start, set_of, mended}
use Rattle.uri_pct.proofs.Offered.{lacks_percent}
use Rattle.uri_mend.proofs.Offered.{all-is-mended-at-end}
use Rattle.fluent_uri_c.proofs.ComponentMending.{mended-rest-by-run-and-char, text-grows-by-run-and-octets}
use Rattle.fluent_uri_c.proofs.component_mending.mended_by_table.Goals as goal

pub loop-done-init : goal.loop-done-init
loop-done-init c = record {
  boundary = IsCharBoundary-start c.args.text.now c.utf8.text;
  text = ap (λ t. t ++ mended (set_of c.args.table.now) c.args.text.now) c.in_ok-made.ensures.bytes;
}

pub loop-done-preserved : goal.loop-done-preserved
loop-done-preserved c =
    grind (
      arith,
      common_steps,
      text-grows-by-run-and-octets,
      mended-rest-by-run-and-char,
      lacks_percent,
    )

pub returns : goal.returns
returns c = all-is-mended-at-end (set_of c.args.table.now) _ (drop c.loop-done.done c.args.text.now)
    _ (drop_all _ _ c.loop-done-test.false) c.loop-done.invariant.text
