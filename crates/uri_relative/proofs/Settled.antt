-- Targets of which no dot segment is left to remove: RFC 3986, section 5.2.2.
use Rattle.std.proofs.lemmas.Grind.{common_steps}
use Rattle.uri_relative.proofs.Common.{◌≡◌, ℕ, Bool, true, false, cond, List, ◌∷◌, ◌++◌, ◌&&◌, arith, drop, refl, sym, ap, ◌∙◌, ⊎_elim, codes, Option, None, IfNone, is_some, is_none, IsCharBoundary, IsUtf8, and-false, cases_Bool, cond-true, cond-false, false≢true, nat_tests, eq_true_from_IsTrue, slash, Components, starts, has_authority, equal-to-true-is-IsTrue, IsAbsolute, lacks_dot_segments, remove_dot_segments, underflows, with_final_path, dotless_if_absolute, underflows_if_absolute, guarded, removing-dots-keeps-absolute, removing-dots-leaves-no-dot-segment, remove-dots-of-dotless, dotless-path-does-not-underflow, two-slashes-begin-with-slash, guard-is-removed-as-dot-segment, dotless_if_absolute-is-idempotent, absolute-path-is-slash-and-rest, path_after_authority_gets_no_guard, IsUnguarded, is_guarded}
use Rattle.uri_relative.proofs.Climbs.{underflows-follows-dots}
use Rattle.uri_relative.proofs.Ways.{guard-counts-as-no-segment, rootless-path-has-no-authority}

-- targets to relativize: the path without dot segments and guarded; a: the authority
abbrev finish : Option (List ℕ) → List ℕ → List ℕ
finish a p = guarded a (dotless_if_absolute p)

-- targets to relativize: removing dot segments from a target's path, and guarding it, twice is
-- doing so once
pub final-path-is-idempotent : (t : Components) → with_final_path (with_final_path t)
    ≡ with_final_path t
final-path-is-idempotent t =
    grind (arith, guard-is-removed-as-dot-segment, dotless_if_absolute-is-idempotent)

-- targets to relativize: a path that doesn't begin with `/` keeps its dot segments and gets no
-- guard; a: the authority
pub finish-keeps-rootless-path : (a : Option (List ℕ)) (path : List ℕ) → starts slash path ≡ false
    → finish a path ≡ path
finish-keeps-rootless-path a path e = grind (arith, rootless-path-has-no-authority, and-false)

-- targets to relativize: nothing is left to remove of a path without dot segments that is guarded
guarded-path-does-not-underflow : (path : List ℕ) (guard : Bool) → IsAbsolute path
    → underflows path ≡ false
    → underflows_if_absolute (cond guard (codes "/." ++ path) path) ≡ false
guarded-path-does-not-underflow path guard h e =
    grind (arith, guard-counts-as-no-segment, underflows-follows-dots, starts, slash, and-false)

finished-absolute-path-does-not-underflow : (a : Option (List ℕ)) (path : List ℕ) → IsAbsolute path
    → underflows_if_absolute (finish a path) ≡ false
finished-absolute-path-does-not-underflow a path h =
    let q = remove_dot_segments path in
    let clean : dotless_if_absolute path ≡ q = cond-true _ _ _ (eq_true_from_IsTrue _ h) in
    ap (λ t. underflows_if_absolute (guarded a t)) clean ∙ guarded-path-does-not-underflow q
    (is_none a && has_authority q) (removing-dots-keeps-absolute path h)
    (dotless-path-does-not-underflow q (removing-dots-keeps-absolute path h)
    (removing-dots-leaves-no-dot-segment path h))

-- targets to relativize: a path without dot segments, guarded, does not underflow; a: the authority
finished-path-does-not-underflow : (a : Option (List ℕ)) (path : List ℕ)
    → underflows_if_absolute (finish a path) ≡ false
finished-path-does-not-underflow a path = ⊎_elim
    (λ e. finished-absolute-path-does-not-underflow a path (equal-to-true-is-IsTrue _ e))
    (grind (arith, finish-keeps-rootless-path)) (cases_Bool (starts slash path))

-- targets to relativize: one without removable dot segments has no underflow
pub settled-target-does-not-underflow : (t : Components) → with_final_path t ≡ t
    → underflows_if_absolute t.path ≡ false
settled-target-does-not-underflow t done = grind (arith, finished-path-does-not-underflow)

-- targets to relativize: a path after an authority, or without `//` at its start, needs no guard;
-- a: the authority
pub path-without-slashes-needs-no-guard : (a : Option (List ℕ)) (path : List ℕ)
    → IfNone a (has_authority path ≡ false) → guarded a path ≡ path
path-without-slashes-needs-no-guard a path e = grind (arith, cond-false)

-- targets to relativize: an absolute path without dot segments stays; a: the authority
finish-keeps-dotless-path : (a : Option (List ℕ)) (path : List ℕ)
    → IfNone a (has_authority path ≡ false)
    → IsAbsolute path → lacks_dot_segments path ≡ true → finish a path ≡ path
finish-keeps-dotless-path a path none absolute dotless =
    ap (guarded a) (cond-true _ _ _ (eq_true_from_IsTrue _ absolute)
    ∙ remove-dots-of-dotless path absolute dotless)
    ∙ path-without-slashes-needs-no-guard a path none

-- targets to relativize: if the path stays when dot segments are removed, so does the target
target-with-finished-path-is-settled : (t : Components) → finish t.authority t.path ≡ t.path
    → with_final_path t ≡ t
target-with-finished-path-is-settled t e = let g : List ℕ
    → Components = λ p. record t { path = p } in ap g e

-- targets to relativize: one with an absolute path without dot segments has none to remove
pub dotless-target-is-settled : (t : Components) → IfNone t.authority (has_authority t.path ≡ false)
    → IsAbsolute t.path → lacks_dot_segments t.path ≡ true → with_final_path t ≡ t
dotless-target-is-settled t none absolute dotless = target-with-finished-path-is-settled t
    (finish-keeps-dotless-path t.authority t.path none absolute dotless)

-- targets to relativize: one with a path that does not begin with `/` has no dot segments to remove
pub rootless-target-is-settled : (t : Components) → starts slash t.path ≡ false
    → with_final_path t ≡ t
rootless-target-is-settled t e = target-with-finished-path-is-settled t
    (finish-keeps-rootless-path t.authority t.path e)

-- targets to relativize: a path with its guard put back is the target's path
guarded-dotless-path-is-the-path : (t : Components) → IsAbsolute t.path → with_final_path t ≡ t
    → guarded t.authority (remove_dot_segments t.path) ≡ t.path
guarded-dotless-path-is-the-path t h done = grind (arith, eq_true_from_IsTrue)

-- targets to relativize: a path without dot segments that needs no guard has none to leave out
path-without-dots-is-unguarded : (t : Components) → IsAbsolute t.path → remove_dot_segments t.path
    ≡ t.path
    → guarded t.authority t.path ≡ t.path → IsUnguarded t t.path
path-without-dots-is-unguarded t h e guards =
    grind (arith, nat_tests, removing-dots-leaves-no-dot-segment)

-- targets to relativize: the path after an authority has no guard `/.` to leave out
pub path-after-authority-is-unguarded : (t : Components) → is_some t.authority ≡ true
    → IsAbsolute t.path → with_final_path t ≡ t → IsUnguarded t t.path
path-after-authority-is-unguarded t some h done =
    let q = remove_dot_segments t.path in
    let e : q ≡ t.path = sym (path_after_authority_gets_no_guard t.authority q some)
    ∙ guarded-dotless-path-is-the-path t h done in
    grind (arith, path-without-dots-is-unguarded, path_after_authority_gets_no_guard)

-- targets to relativize: without an authority (a), a path is guarded as it is for None
guard-is-that-without-authority : (a : Option (List ℕ)) (path : List ℕ) → is_some a ≡ false
    → guarded a path ≡ guarded None path
guard-is-that-without-authority a path e = grind (arith, false≢true)

guard-is-dot-segment : (rest : List ℕ) → lacks_dot_segments (codes "/." ++ 47 ∷ rest) ≡ false
guard-is-dot-segment rest = refl

guarded-path-has-dot-segment : (rest : List ℕ) → has_authority rest ≡ true
    → lacks_dot_segments (codes "/." ++ rest) ≡ false
guarded-path-has-dot-segment rest e = ap (λ t. lacks_dot_segments (codes "/." ++ t))
    (absolute-path-is-slash-and-rest rest
    (equal-to-true-is-IsTrue _ (two-slashes-begin-with-slash rest e)))
    ∙ guard-is-dot-segment (drop 1 rest)

path-after-guard-is-unguarded : (t : Components) (rest : List ℕ) → is_some t.authority ≡ false
    → IsAbsolute t.path → with_final_path t ≡ t → t.path ≡ codes "/." ++ rest
    → has_authority rest ≡ true → IsUnguarded t rest
path-after-guard-is-unguarded t rest none h done whole double =
    let q = remove_dot_segments t.path in
    let guards : guarded None q ≡ t.path =
    grind (arith, guard-is-that-without-authority, guarded-dotless-path-is-the-path) in
    let lacks = removing-dots-leaves-no-dot-segment t.path h in
    let same : q ≡ rest = grind (arith, guarded-path-has-dot-segment) in
    grind (arith, removing-dots-keeps-absolute, guarded-dotless-path-is-the-path)

guarded-path-is-guard-and-path : (path : List ℕ) → is_guarded path ≡ true
    → (path ≡ codes "/." ++ drop 2 path) × (has_authority (drop 2 path) ≡ true)
guarded-path-is-guard-and-path path e = grind (arith, false≢true, nat_tests)

pub path-without-guard-is-unguarded : (t : Components) → is_some t.authority ≡ false
    → IsAbsolute t.path
    → with_final_path t ≡ t → is_guarded t.path ≡ true → IsUnguarded t (drop 2 t.path)
path-without-guard-is-unguarded t none h done e =
    let g = guarded-path-is-guard-and-path t.path e in
    path-after-guard-is-unguarded t (drop 2 t.path) none h done g.0 g.1

pub path-that-needs-no-guard-is-unguarded : (t : Components) → is_some t.authority ≡ false
    → IsAbsolute t.path → with_final_path t ≡ t → is_guarded t.path ≡ false → IsUnguarded t t.path
path-that-needs-no-guard-is-unguarded t none h done e =
    grind (arith, path-without-dots-is-unguarded)

pub guard-ends-at-character : (path : List ℕ) → IsUtf8 path → is_guarded path ≡ true
    → IsCharBoundary path 2
guard-ends-at-character path utf8 e = grind (arith, common_steps, guarded-path-is-guard-and-path)
