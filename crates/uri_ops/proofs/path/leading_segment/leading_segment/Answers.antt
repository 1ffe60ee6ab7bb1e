use Rattle.uri_ops.proofs.Common.{◌≡◌, ◌+◌, drop, ap, ◌∙◌, arith, dot_len}
use Rattle.uri_ops.proofs.Paths.DotLengths.{dot_len-of-slice-is-of-drop, two-dot-lengths-are-double-dot, ends_segment-of-slice-is-of-drop, path-that-ends-segment-is-abempty, no-dot-lengths-no-dot-segment, one-dot-length-is-single-dot}
use Rattle.uri_ops.proofs.path.leading_segment.leading_segment.Goals as goal
use Rattle.uri_ops.proofs.path.leading_segment.leading_segment.Goals.{then-end-eq0-via-then-end-eq0, then-end-eq0-via-else-end-eq0+then-not-ends_segment}

pub returns-then-end-eq0-clause-leading : goal.returns-then-end-eq0-clause-leading
returns-then-end-eq0-clause-leading c =
    grind (
      arith,
      dot_len-of-slice-is-of-drop,
      ends_segment-of-slice-is-of-drop,
      no-dot-lengths-no-dot-segment,
    )

pub returns-then-second-eq0-clause-leading : goal.returns-then-second-eq0-clause-leading
returns-then-second-eq0-clause-leading c =
    grind (
      arith,
      dot_len-of-slice-is-of-drop,
      one-dot-length-is-single-dot,
      path-that-ends-segment-is-abempty,
      ends_segment-of-slice-is-of-drop,
    )

pub returns-clause-leading : goal.returns-clause-leading
returns-clause-leading c =
    let path = c.args.path.now in
    let first = c.dot_len-first.result in
    let second = c.dot_len-second.result in
    let value = c.as_bytes-bytes.ensures.value in
    let first_is : first ≡ dot_len path = c.dot_len-first.ensures.bytes ∙ ap dot_len value in
    let second_is : second ≡ dot_len (drop first path) = dot_len-of-slice-is-of-drop
    path c.as_bytes-bytes.result.now first value second c.dot_len-second.ensures.bytes in
    let shown = two-dot-lengths-are-double-dot path first second first_is second_is
    (omega (arith, c.if-second-eq0.false)) in
    record {
      end = first + second;
      segment = shown.0;
      suffix = path-that-ends-segment-is-abempty (drop (first + second) path)
          (ends_segment-of-slice-is-of-drop path c.as_bytes-bytes.result.now (first + second)
          value c.ends_segment.result c.ends_segment.ensures ∙ c.if-not-ends_segment.false);
      passes = shown.1;
      rest = c.next_segment_start-next.ensures.rest;
    }
