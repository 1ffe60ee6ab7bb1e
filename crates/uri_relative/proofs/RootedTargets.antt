-- Which targets need an authority in their reference, and which bases have a rooted path: RFC 3986,
-- section 5.2.2.
use Rattle.uri_relative.proofs.Common.{◌≡◌, ◌≢◌, ℕ, Bool, true, false, List, [], ◌&&◌, sym, ap, ◌∙◌, inr, ⊎_elim, arith, codes, Option, IfSome, is_some, is_none, both_ways, cases_Bool, false≢true, not-false, nat_tests, slash, Components, IsAbemptyPath, Lacks, components, starts, Kind, not_some_is_none, eq_true_from_IsTrue, components-are-split-of-text, equal-to-true-is-IsTrue, is_opaque, empty-text-is-nil, IsDotlessTargetOf, NeedsPath, needs_authority}

abempty-path-without-slash-is-empty : (path : List ℕ) → IsAbemptyPath path → starts slash path
    ≡ false → path ≡ []
abempty-path-without-slash-is-empty path e h = grind (arith, both_ways, eq_true_from_IsTrue)

rootless-path-without-authority-needs-one : (base t : Components) → is_some t.authority ≡ false
    → starts slash t.path ≡ false → needs_authority base t ≡ true
rootless-path-without-authority-needs-one base t none e = grind (arith, not_some_is_none)

empty-path-after-authority-needs-authority : (base t : Components) → NeedsPath base t
    → base.authority ≡ t.authority → is_opaque base ≡ false → is_some t.authority ≡ true
    → t.path ≡ [] → needs_authority base t ≡ true
empty-path-after-authority-needs-authority base t n a opaque some e =
    grind (arith, nat_tests, empty-text-is-nil, false≢true)

-- targets to relativize: the path after an authority (a) is empty or begins with `/`
path-after-authority-is-abempty : (a : Option (List ℕ)) (path : List ℕ) → is_some a ≡ true
    → IfSome a (λ x. Lacks (codes "/?#") x × IsAbemptyPath path) → IsAbemptyPath path
path-after-authority-is-abempty a path e h = grind (arith, false≢true)

-- targets to relativize: one without a leading `/` in its path needs a reference with a scheme or
-- an authority
pub rootless-target-needs-authority : (kind : Kind) (base t : Components) → IsDotlessTargetOf kind t
    → NeedsPath base t → base.authority ≡ t.authority → is_opaque base ≡ false
    → starts slash t.path ≡ false → needs_authority base t ≡ true
rootless-target-needs-authority kind base t w n a opaque e = ⊎_elim
    (λ some. empty-path-after-authority-needs-authority base t n a opaque some
    (abempty-path-without-slash-is-empty t.path
    (path-after-authority-is-abempty t.authority t.path some w.split.authority) e))
    (λ none. rootless-path-without-authority-needs-one base t none e)
    (cases_Bool (is_some t.authority))

-- relativized references: the path of a base that is not opaque is empty or begins with `/`
pub base-that-is-not-opaque-is-rooted : (text : List ℕ) → is_opaque (components text) ≡ false
    → IsAbemptyPath (components text).path
base-that-is-not-opaque-is-rooted text e =
    let b = components text in
    ⊎_elim
    (λ some. path-after-authority-is-abempty b.authority b.path some
    (components-are-split-of-text text).authority)
    (λ none. inr (equal-to-true-is-IsTrue _ (not-false _
    (and_right_of (is_none b.authority) _ (not_some_is_none b.authority none) e))))
    (cases_Bool (is_some b.authority))
  where
    and_right_of : (a c : Bool) → a ≡ true → (a && c) ≡ false → c ≡ false
    and_right_of a c h e = sym (ap (λ d. d && c) h) ∙ e
