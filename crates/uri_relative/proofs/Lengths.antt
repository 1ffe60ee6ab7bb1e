-- How long the two paths are that lead to a path.
use Rattle.uri_relative.proofs.Common.{◌≡◌, ℕ, zero, suc, ◌+◌, ◌*◌, ◌<◌, ◌≤◌, ◌/◌, Bool, true, false, List, ◌++◌, length, refl, arith, length-append, false≢true, leb-true, nat_tests, is_empty, double_dots, relative_path}
use Rattle.std.proofs.lemmas.Nat.{div-add-mod', mod_below}
use mir.Val.{bool_byte}
use lib.Dec.{leb}
use Rattle.uri_relative.proofs.Climbs.{relative_path-of-some-climbs}

length-of-double-dots-is-threefold : (n : ℕ) → length (double_dots n) ≡ 3 * n
unfolding double_dots
length-of-double-dots-is-threefold zero = refl
length-of-double-dots-is-threefold (suc n) = omega (arith, length-of-double-dots-is-threefold n)

length-of-double-dots-and-rest : (n : ℕ) (rest : List ℕ) → length (double_dots n ++ rest)
    ≡ 3 * n + length rest
length-of-double-dots-and-rest n rest = omega
    (arith, length-append (double_dots n) rest, length-of-double-dots-is-threefold n)

-- lengths of relativized paths: one that goes n + 1 directories up, to some rest
pub length-of-path-up-to-some : (n : ℕ) (rest : List ℕ) → is_empty rest ≡ false
    → length (relative_path (suc n) rest) ≡ 3 * suc n + length rest
length-of-path-up-to-some n rest e =
    grind (arith, relative_path-of-some-climbs, length-of-double-dots-and-rest)

-- relativized paths: one that goes n + 1 directories up, and adds nothing, has 3 * n + 2 bytes
pub length-of-path-up-to-nothing : (n : ℕ) (rest : List ℕ) → is_empty rest ≡ true
    → length (relative_path (suc n) rest) ≡ 3 * n + 2
length-of-path-up-to-nothing n rest e =
    grind (arith, relative_path-of-some-climbs, length-of-double-dots-and-rest)

-- lengths of relativized paths: by the code's test, a division by 3, one that goes up is no longer
-- than the path from the root
pub relative-path-fits-by-division : (n prefix : ℕ) (rest : List ℕ) (none : Bool) → 0 < n
    → none ≡ is_empty rest → leb n ((prefix + bool_byte none) / 3) ≡ true
    → length (relative_path n rest) ≤ prefix + length rest
relative-path-fits-by-division zero prefix rest none some e h = absurd (omega (arith, some))
relative-path-fits-by-division (suc m) prefix rest true some e h =
    grind (arith, nat_tests, leb-true, div-add-mod', length-of-path-up-to-nothing)
relative-path-fits-by-division (suc m) prefix rest false some e h =
    grind (arith, nat_tests, leb-true, div-add-mod', length-of-path-up-to-some)

-- relativized paths: one that goes up n times is longer than a path from the root, if n exceeds a
-- third of the shared prefix; none: whether the rest is empty
pub relative-path-is-longer-by-division : (n prefix : ℕ) (rest : List ℕ) (none : Bool) → 0 < n
    → none ≡ is_empty rest → leb n ((prefix + bool_byte none) / 3) ≡ false
    → prefix + length rest < length (relative_path n rest)
relative-path-is-longer-by-division zero prefix rest none some e h = absurd (omega (arith, some))
relative-path-is-longer-by-division (suc m) prefix rest true some e h =
    grind (arith, nat_tests, div-add-mod', mod_below, length-of-path-up-to-nothing, false≢true)
relative-path-is-longer-by-division (suc m) prefix rest false some e h =
    grind (arith, nat_tests, div-add-mod', mod_below, length-of-path-up-to-some)
