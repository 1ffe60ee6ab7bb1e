use Rattle.uri_ops.proofs.Common.{common_steps, ◌≡◌, List, ℕ, arith, subst, IsDotlessPrefix, IsPrefixToSlashDot, BeginsWithoutDotSegment}
use Rattle.uri_ops.proofs.Paths.DotStarts.{prefix-to-slash-dot-ends-at-boundary, prefix-to-slash-dot-is-dotless}
use Rattle.uri_ops.proofs.path.leading_segment.dotless_prefix_len.Goals as goal

dotless-prefix-of-bytes : (bytes path : List ℕ) (n : ℕ) → bytes ≡ path
    → IsPrefixToSlashDot bytes n → BeginsWithoutDotSegment path → IsDotlessPrefix path n
dotless-prefix-of-bytes bytes path n same prefix first =
    prefix-to-slash-dot-is-dotless path n (subst (λ t. IsPrefixToSlashDot t n) same prefix) first

pub returns-then-bytes-gt-LANES-clause-dotless : goal.returns-then-bytes-gt-LANES-clause-dotless
returns-then-bytes-gt-LANES-clause-dotless c = grind (arith, common_steps, dotless-prefix-of-bytes)

pub returns-then-bytes-gt-LANES-clause-place : goal.returns-then-bytes-gt-LANES-clause-place
returns-then-bytes-gt-LANES-clause-place c = grind (arith, prefix-to-slash-dot-ends-at-boundary)

pub returns-then-bytes-i-eq37-clause-dotless : goal.returns-then-bytes-i-eq37-clause-dotless
returns-then-bytes-i-eq37-clause-dotless c = grind (arith, common_steps, dotless-prefix-of-bytes)

pub returns-clause-dotless : goal.returns-clause-dotless
returns-clause-dotless c = grind (arith, common_steps, dotless-prefix-of-bytes)
