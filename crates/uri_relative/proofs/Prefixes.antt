-- The prefix that two paths share.
use Rattle.std.proofs.lemmas.Grind.{common_steps}
use Rattle.uri_relative.proofs.Common.{◌≡◌, ℕ, zero, suc, ◌+◌, ◌<◌, ◌≤◌, List, ◌++◌, length, take, get_or, refl, sym, ap, ◌∙◌, arith, append_assoc, length-append, ◌-◌, ◌⊎◌, ⊎_elim, drop, false, subst, codes, ◌==◌, false≢true, list_any_at, nat_tests, EndsInSlash, IsAbsolute, has_slash, absolute-path-is-slash-and-rest, IsLongestPrefix, IsSharedPrefix, double_dots}
use Rattle.std.proofs.lemmas.List.{append-nil, get_or-drop, get_or-take, length-drop, length-take-le, take-take, take_more}
use Rattle.std.proofs.Math.Seq.{get_or-append_seam}
use Rattle.uri_ops.specs.Models.Places.{IsSlashOrStart}
use Rattle.uri_ops.proofs.Offered.{slash-position-is-of-slash, prefix-of-absolute-path-is-absolute}

-- relativized paths: two paths with equal first n bytes share the prefix up to a `/` (47) in these
pub shared-prefix-to-slash : (base path : List ℕ) (last n : ℕ) → last < n → n ≤ length base
    → get_or base last 0 ≡ 47 → take n base ≡ take n path → IsSharedPrefix (last + 1) base path
shared-prefix-to-slash base path last n h within e same =
    grind (arith, common_steps, take-take, take_more)

-- relativized paths: two texts with equal first n bytes have the same byte at each index below n
shared-prefix-has-same-bytes : (n i : ℕ) (a b : List ℕ) → i < n → take n a ≡ take n b → get_or a i 0
    ≡ get_or b i 0
shared-prefix-has-same-bytes n i a b h e =
    sym (get_or-take n a i 0 h) ∙ ap (λ t. get_or t i 0) e ∙ get_or-take n b i 0 h

-- relativized paths: a slash (47) of the base before the end n of the shared prefix is in the path
pub shared-prefix-has-same-slash : (base path : List ℕ) (last n : ℕ) → last < n
    → get_or base last 0 ≡ 47 → take n base ≡ take n path → get_or path last 0 ≡ 47
shared-prefix-has-same-slash base path last n h e same = sym
    (shared-prefix-has-same-bytes n last base path h same) ∙ e

-- relativized paths: two absolute paths share their first `/`; n: where they first differ
pub absolute-paths-share-a-byte : (base path : List ℕ) (n : ℕ) → IsAbsolute base → IsAbsolute path
    → (n < length base → n < length path → get_or base n 0 ≡ get_or path n 0 → ⊥) → 0 < n
absolute-paths-share-a-byte base path n h k most =
    grind (arith, nat_tests, absolute-path-is-slash-and-rest)

-- relativized paths: the last byte of a shared prefix is `/` (47)
prefix-to-slash-has-slash-last : (text : List ℕ) (m : ℕ) → m ≤ length text
    → EndsInSlash (take m text) → (0 < m) × (get_or text (m - 1) 0 ≡ 47)
prefix-to-slash-has-slash-last text m h closed =
    let prefix = closed.0 in
    let n : m ≡ length prefix + 1 = omega (
      arith,
      length-take-le m text h,
      ap length closed.1,
      length-append prefix (codes "/"),
    ) in
    let at : m - 1 ≡ length prefix = omega (arith, n) in
    grind (arith, get_or-take, get_or-append_seam)

at-most-or-greater : (m n : ℕ) → (m ≤ n) ⊎ (n < m)
at-most-or-greater m n = grind arith

-- relativized paths: the prefix up to the last shared slash is the longest that the two paths
-- share; n: where they first differ
pub prefix-to-last-shared-slash-is-longest : (base path : List ℕ) (last n : ℕ) → last < n
    → take n base ≡ take n path
    → (n < length base → n < length path → get_or base n 0 ≡ get_or path n 0 → ⊥)
    → ((k : ℕ) → last < k → k < n → get_or base k 0 ≡ 47 → ⊥) → IsLongestPrefix (last + 1) base path
prefix-to-last-shared-slash-is-longest base path last n h same most none =
    λ m in_base in_path shared.
    let c = prefix-to-slash-has-slash-last base m in_base shared.closed in
    ⊎_elim (λ small. small)
    (λ more. ⊎_elim
    (λ inside. absurd (none (m - 1) (omega (arith, more)) (omega (arith, inside, c.0)) c.1))
    (λ outside. absurd (most (omega (arith, outside, in_base)) (omega (arith, outside, in_path))
    (shared-prefix-has-same-bytes m n base path outside shared.same)))
    (at-most-or-greater m n))
    (at-most-or-greater m (last + 1))

-- relativized paths: the last `/` (47) of a path before a position
pub record IsLastSlashBefore (path : List ℕ) (end slash : ℕ) : Type 0 where
  pub before : slash < end
  pub is : get_or path slash 0 ≡ 47
  pub last : (k : ℕ) → slash < k → k < end → get_or path k 0 ≡ 47 → ⊥

-- relativized paths: the last `/` (47) of a prefix is the last before the end of that
pub last-slash-of-prefix-is-last-before-its-end : (path prefix : List ℕ) (end slash : ℕ)
    → prefix ≡ take end path → IsAbsolute path → 0 < end → end ≤ length path
    → IsSlashOrStart prefix 0 slash → has_slash (drop (slash + 1) prefix) ≡ false
    → IsLastSlashBefore path end slash
last-slash-of-prefix-is-last-before-its-end path prefix end slash e absolute some within place
    none =
    let at = slash-position-is-of-slash prefix slash
    (subst IsAbsolute (sym e) (prefix-of-absolute-path-is-absolute path end absolute some)) place in
    let len : length prefix ≡ end = ap length e ∙ length-take-le end path within in
    let same : (k : ℕ) → k < end → get_or prefix k 0 ≡ get_or path k 0
    = λ k h. ap (λ t. get_or t k 0) e ∙ get_or-take end path k 0 h in
    let before : slash < end = omega (arith, at.0, len) in
    record {
      before = before;
      is = sym (same slash before) ∙ at.1;
      last = λ k after below is.
          let after_slash : slash + 1 + (k - (slash + 1)) ≡ k = omega (arith, after) in
          false≢true (sym none
          ∙ list_any_at (λ c. c == 47) (drop (slash + 1) prefix) (k - (slash + 1)) 0
          (omega (arith, length-drop (slash + 1) prefix, len, after, below))
          (ap (λ c. c == 47) (get_or-drop (slash + 1) prefix (k - (slash + 1)) 0
          ∙ ap (λ i. get_or prefix i 0) after_slash ∙ same k below ∙ is)));
    }

-- relativized paths: one `../` more is before or after the others
double-dot-before-or-after-others : (n : ℕ) → double_dots n ++ codes "../"
    ≡ codes "../" ++ double_dots n
unfolding double_dots
double-dot-before-or-after-others zero = refl
double-dot-before-or-after-others (suc n) = ap (λ t. codes "../" ++ t)
    (double-dot-before-or-after-others n)

-- relativized paths: one more `../` is appended; old, before, new: the text before all, before the
-- last and after it
pub one-more-double-dot-is-pushed : (old before new : List ℕ) (n : ℕ)
    → before ≡ old ++ double_dots n → new ≡ before ++ codes "../" → new ≡ old ++ double_dots (n + 1)
unfolding double_dots
one-more-double-dot-is-pushed old before new n e f =
    grind (arith, append_assoc, double-dot-before-or-after-others)

-- relativized paths: at first no `../` is appended
pub no-double-dots-are-pushed : (old : List ℕ) → old ≡ old ++ double_dots 0
unfolding double_dots
no-double-dots-are-pushed old = sym (append-nil old)
