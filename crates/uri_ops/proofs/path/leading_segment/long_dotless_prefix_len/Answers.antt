use Rattle.uri_ops.proofs.Common.{◌≡◌, ◌+◌, ◌-◌, ap, arith, get_or, length, ◌∙◌}
use Rattle.uri_ops.proofs.Paths.DotStarts.{window-extends-dotless-prefix}
use Rattle.uri_ops.proofs.path.leading_segment.long_dotless_prefix_len.Goals as goal

pub returns-then-dotless-lt-LANES : goal.returns-then-dotless-lt-LANES
returns-then-dotless-lt-LANES c =
    let bytes = c.args.bytes.now in
    let i = c.loop-i.i in
    let n = c.len_before_slash_dot-dotless.result in
    let before = window-extends-dotless-prefix bytes i i n (omega arith) c.loop-i.invariant.none
    c.len_before_slash_dot-dotless.ensures.none in
    let end : i + n + 1 - 1 ≡ i + n = omega arith in
    record {
      some = omega arith;
      within = omega (arith, c.requires, c.loop-i-test.true, c.if-dotless-lt-LANES.true);
      none = λ k h. before k (omega (arith, h));
      ends = λ _. ap (λ m. get_or bytes m 0) end
          ∙ c.len_before_slash_dot-dotless.ensures.slash c.if-dotless-lt-LANES.true;
    }

pub loop-i-preserved : goal.loop-i-preserved
loop-i-preserved c =
    let bytes = c.args.bytes.now in
    let i = c.loop-i.i in
    let n = c.len_before_slash_dot-dotless.result in
    let before = window-extends-dotless-prefix bytes i i n (omega arith) c.loop-i.invariant.none
    c.len_before_slash_dot-dotless.ensures.none in
    record {
      within = omega (arith, c.loop-i-test.true);
      none = λ k h. before k (omega (arith, h, c.if-dotless-lt-LANES.false));
    }

pub returns : goal.returns
returns c =
    let bytes = c.args.bytes.now in
    let last = length bytes - 16 - 1 in
    let n = c.len_before_slash_dot-dotless-2.result in
    let before = window-extends-dotless-prefix bytes c.loop-i.i last n
    (omega (arith, c.loop-i-test.false))
    c.loop-i.invariant.none c.len_before_slash_dot-dotless-2.ensures.none in
    let end : last + n + 1 - 1 ≡ last + n = omega arith in
    record {
      some = omega arith;
      within = omega (arith, c.requires, c.len_before_slash_dot-dotless-2.ensures.few);
      none = λ k h. before k (omega (arith, h));
      ends = λ more. ap (λ m. get_or bytes m 0) end
          ∙ c.len_before_slash_dot-dotless-2.ensures.slash (omega (arith, c.requires, more));
    }
