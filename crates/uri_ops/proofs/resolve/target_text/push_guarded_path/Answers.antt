use Rattle.uri_ops.proofs.Common.{◌≡◌, length, rules, string_bytes, IsUtf8-string_bytes}
use Rattle.uri_ops.proofs.Paths.GuardedPaths.{guard-inserted-before-path, pushed-path-begins-at-boundary}
use Rattle.uri_ops.proofs.resolve.target_text.push_guarded_path.Goals as goal

pub guard_path-requires : goal.guard_path-requires
guard_path-requires c =
    let at : c.len-start.result ≡ length (string_bytes c.args.out.now) = search rules in
    pushed-path-begins-at-boundary (string_bytes c.args.out.now) _
    (string_bytes c.push_path.new.out) c.len-start.result at c.in_ok-underflowed.ensures.text
    (IsUtf8-string_bytes c.args.out.now) (IsUtf8-string_bytes c.push_path.new.out)

pub returns-in_ok-guard_path-clause-text : goal.returns-in_ok-guard_path-clause-text
returns-in_ok-guard_path-clause-text c = search (rules, guard-inserted-before-path)
