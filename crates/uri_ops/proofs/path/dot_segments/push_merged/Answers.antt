use Rattle.uri_ops.proofs.Common.{arith, ◌≡◌, length, rules, string_bytes}
use Rattle.uri_ops.proofs.Paths.LeftPaths.{slice-from-zero-is-prefix}
use Rattle.uri_ops.proofs.Paths.PushedPaths.{pushed-base-directory-is-dotless-directory, prefix-loses-dots-as-directory, prefix-underflows-as-directory, pushed-merged-path-loses-its-dots, base-or-rest-underflows-as-merged-path}
use Rattle.uri_ops.proofs.Paths.Piecewise.{identity-keeps-slashes-and-dots}
use Rattle.uri_ops.proofs.path.dot_segments.push_merged.Goals as goal

pub push_segments-requires-clause-keeps : goal.push_segments-requires-clause-keeps
push_segments-requires-clause-keeps c = identity-keeps-slashes-and-dots

pub push_segments-requires-clause-directory : goal.push_segments-requires-clause-directory
push_segments-requires-clause-directory c =
    let at : c.len-start.result ≡ length (string_bytes c.args.out.now) = search rules in
    pushed-base-directory-is-dotless-directory (string_bytes c.args.out.now) c.len-start.result at
    (string_bytes c.push_without_dot_segments.new.out)
    c.args.base.now c.path_or_slash-base.result.now c.path_or_slash-base.ensures.absolute
    c.path_or_slash-base.ensures.directory c.range-directory.result.now
    (prefix-loses-dots-as-directory c.path_or_slash-base.result.now c.range-directory.result.now
    c.directory_end.result (slice-from-zero-is-prefix c.path_or_slash-base.result.now
    c.range-directory.result.now c.directory_end.result c.range-directory.ensures.value)
    c.directory_end.ensures.text) c.in_ok-of_base.ensures.text

pub returns : goal.returns
returns c =
    grind (
      arith,
      slice-from-zero-is-prefix,
      prefix-loses-dots-as-directory,
      pushed-merged-path-loses-its-dots,
      base-or-rest-underflows-as-merged-path,
      prefix-underflows-as-directory,
    )
