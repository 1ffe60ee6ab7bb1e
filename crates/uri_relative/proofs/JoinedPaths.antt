-- When the path of a target begins with `/`: RFC 3986, sections 5.2.2 and 5.2.3.
use Rattle.uri_relative.proofs.Common.{◌≡◌, ℕ, true, false, List, arith, Option, nat_tests, eq_true_from_IsTrue, slash, IsAbemptyPath, starts, equal-to-true-is-IsTrue, IsAbsolute, is_empty, dotless_if_absolute, guarded, removing-dots-keeps-leading-slash, joined_path}
use Rattle.uri_ops.proofs.Offered.{merged-path-is-absolute}

-- targets to relativize: a path without its dot segments, and guarded, begins with `/` where it
-- did; a: the authority
pub target-path-stays-absolute : (a : Option (List ℕ)) (path : List ℕ) → IsAbsolute path
    → starts slash (guarded a (dotless_if_absolute path)) ≡ true
target-path-stays-absolute a path h =
    grind (arith, nat_tests, removing-dots-keeps-leading-slash, eq_true_from_IsTrue)

pub path-joined-to-absolute-is-absolute : (base way : List ℕ) → IsAbemptyPath base → IsAbsolute base
    → IsAbsolute (joined_path base way)
path-joined-to-absolute-is-absolute base way rooted h =
    grind (arith, nat_tests, equal-to-true-is-IsTrue, merged-path-is-absolute)

pub nonempty-joined-path-is-absolute : (base way : List ℕ) → IsAbemptyPath base
    → is_empty way ≡ false → IsAbsolute (joined_path base way)
nonempty-joined-path-is-absolute base way rooted e =
    grind (arith, nat_tests, equal-to-true-is-IsTrue, merged-path-is-absolute)
