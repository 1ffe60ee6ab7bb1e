use Rattle.uri_ops.proofs.Common.{common_steps, arith, ◌≡◌, ◌++◌, ap, length, rules, string_bytes, ◌∙◌}
use Rattle.uri_ops.proofs.Paths.DotStarts.{path-without-leading-dot-begins-with-none}
use Rattle.uri_ops.proofs.Paths.LeftPaths.{slice-from-zero-is-prefix}
use Rattle.uri_ops.proofs.Paths.PushedPaths.{absolute-path-begins-with-no-dot, pushed-dotless-path-prefix-is-directory, pushed-path-loses-its-dots, pushed-rest-underflows-as-path, dotless-path-is-its-own-removal}
use Rattle.uri_ops.proofs.Paths.Piecewise.{identity-keeps-slashes-and-dots}
use Rattle.uri_ops.proofs.path.dot_segments.push_without_dot_segments.Goals as goal

pub dotless_prefix_len-dotless-requires-clause-some
    : goal.dotless_prefix_len-dotless-requires-clause-some
dotless_prefix_len-dotless-requires-clause-some c =
    (absolute-path-begins-with-no-dot c.args.path.now c.requires).1

pub dotless_prefix_len-dotless-requires-clause-first
    : goal.dotless_prefix_len-dotless-requires-clause-first
dotless_prefix_len-dotless-requires-clause-first c = path-without-leading-dot-begins-with-none
    c.args.path.now (absolute-path-begins-with-no-dot c.args.path.now c.requires).0

pub returns-then-dotless-path : goal.returns-then-dotless-path
returns-then-dotless-path c =
    let path = c.args.path.now in
    let n = c.dotless_prefix_len-dotless.result in
    let own = dotless-path-is-its-own-removal path c.range.result.now n c.requires
    c.if-dotless-path.true c.dotless_prefix_len-dotless.ensures.dotless.dotless
    (slice-from-zero-is-prefix path c.range.result.now n c.range.ensures.value) in
    record {
      text = c.in_ok-push_str.ensures.bytes ∙ ap (λ t. string_bytes c.args.out.now ++ t) own.0;
      underflow = own.1;
    }

pub push_segments-requires-clause-keeps : goal.push_segments-requires-clause-keeps
push_segments-requires-clause-keeps c = identity-keeps-slashes-and-dots

pub push_segments-requires-clause-directory : goal.push_segments-requires-clause-directory
push_segments-requires-clause-directory c =
    let at : c.len-start.result ≡ length (string_bytes c.args.out.now) = search rules in
    let path = c.args.path.now in
    let n = c.dotless_prefix_len-dotless.result in
    pushed-dotless-path-prefix-is-directory (string_bytes c.args.out.now) c.len-start.result at
    (string_bytes c.push_str.new.self) path c.requires n c.range.result.now
    (slice-from-zero-is-prefix path c.range.result.now n c.range.ensures.value)
    c.in_ok-push_str.ensures.bytes
    c.dotless_prefix_len-dotless.ensures.some c.dotless_prefix_len-dotless.ensures.place.0
    c.if-dotless-path.false c.dotless_prefix_len-dotless.ensures.dotless.dotless
    c.dotless_prefix_len-dotless.ensures.dotless.closed

pub returns : goal.returns
returns c =
    grind (
      arith,
      common_steps,
      slice-from-zero-is-prefix,
      pushed-path-loses-its-dots,
      pushed-rest-underflows-as-path,
    )
