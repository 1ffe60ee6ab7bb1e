-- One segment of a path in the loop of section 5.2.4.
use Rattle.uri_basic.proofs.Common.{◌≡◌, ℕ, suc, false, not, List, [], ◌∷◌, ◌++◌, take, drop, refl, ap, ◌∙◌, arith, rules, codes, bytes_eq, ◌==◌, prefix_len, cond-true, cond-false, and_left, and_right, false≢true, or_parts, or_from, is_one_of, before_any, from_any, has_slash, has_prefix, output_of, step}
use Rattle.uri_basic.proofs.Buffers.{other-byte-ends-no-segment, output-after-step}

-- dot segments: the text begins with no dot segment, whether a `/` or its end is after that
pub record BeginsWithNoDots (text : List ℕ) : Type 0 where
  pub double_slash : has_prefix (codes "../") text ≡ false
  pub single_slash : has_prefix (codes "./") text ≡ false
  pub single : bytes_eq text (codes ".") ≡ false
  pub double : bytes_eq text (codes "..") ≡ false

-- dot segments: a segment that is none, with a `/` (47) after it, begins with none
pub other-segment-begins-with-no-dots : (s q : List ℕ) → has_slash s ≡ false
    → bytes_eq s (codes ".") ≡ false → bytes_eq s (codes "..") ≡ false
    → BeginsWithNoDots (s ++ 47 ∷ q)
other-segment-begins-with-no-dots [] q lacks single double =
    record { double_slash = refl; single_slash = refl; single = refl; double = refl }
other-segment-begins-with-no-dots (c ∷ []) q lacks single double =
    grind (arith, rules, and_right, false≢true)
other-segment-begins-with-no-dots (c ∷ d ∷ []) q lacks single double =
    grind (arith, rules, false≢true, and_right, and_left, or_parts)
other-segment-begins-with-no-dots (c ∷ d ∷ e ∷ s) q lacks single double =
    search (rules, and_right, and_left, or_parts)

pub other-last-segment-begins-with-no-dots : (s : List ℕ) → has_slash s ≡ false
    → bytes_eq s (codes ".") ≡ false → bytes_eq s (codes "..") ≡ false → BeginsWithNoDots s
other-last-segment-begins-with-no-dots [] lacks single double =
    record { double_slash = refl; single_slash = refl; single = refl; double = refl }
other-last-segment-begins-with-no-dots (c ∷ []) lacks single double = search (rules, and_right)
other-last-segment-begins-with-no-dots (c ∷ d ∷ []) lacks single double =
    search (rules, and_right, and_left, or_parts)
other-last-segment-begins-with-no-dots (c ∷ d ∷ e ∷ s) lacks single double =
    search (rules, and_right, and_left, or_parts)

-- paths: the first segment of a text ends before its first `/` (47)
pub segment-ends-before-slash : (s q : List ℕ) → has_slash s ≡ false
    → (before_any (codes "/") (s ++ 47 ∷ q) ≡ s) × (from_any (codes "/") (s ++ 47 ∷ q) ≡ 47 ∷ q)
segment-ends-before-slash [] q e = (refl, refl)
segment-ends-before-slash (c ∷ s) q e =
    let p = or_parts (c == 47) (has_slash s) e in
    let ih = segment-ends-before-slash s q p.1 in
    let m : prefix_len (λ c. not (is_one_of (codes "/") c)) ((c ∷ s) ++ 47 ∷ q)
    ≡ suc (prefix_len (λ c. not (is_one_of (codes "/") c)) (s ++ 47 ∷ q)) =
    cond-true _ _ _ (other-byte-ends-no-segment c p.0) ∙ omega arith in (
      ap (λ n. take n ((c ∷ s) ++ 47 ∷ q)) m ∙ ap (λ t. c ∷ t) ih.0,
      ap (λ n. drop n ((c ∷ s) ++ 47 ∷ q)) m ∙ ih.1,
    )

pub last-segment-is-text : (s : List ℕ) → has_slash s ≡ false
    → (before_any (codes "/") s ≡ s) × (from_any (codes "/") s ≡ [])
last-segment-is-text [] e = (refl, refl)
last-segment-is-text (c ∷ s) e =
    let p = or_parts (c == 47) (has_slash s) e in
    let ih = last-segment-is-text s p.1 in
    let m : prefix_len (λ c. not (is_one_of (codes "/") c)) (c ∷ s)
    ≡ suc (prefix_len (λ c. not (is_one_of (codes "/") c)) s) =
    cond-true _ _ _ (other-byte-ends-no-segment c p.0) ∙ omega arith in (
      ap (λ n. take n (c ∷ s)) m ∙ ap (λ t. c ∷ t) ih.0,
      ap (λ n. drop n (c ∷ s)) m ∙ ih.1,
    )

-- removing dot segments: a buffer with a `/` (47) before no dot segment loses a segment (step 2E)
step-moves-rooted-segment : (text output : List ℕ) → BeginsWithNoDots text → step (record {
  input =
      47 ∷ text;
  output = output;
}) ≡ record {
  input = from_any (codes "/") text;
  output = output ++ (codes "/" ++ before_any (codes "/") text);
}
step-moves-rooted-segment text output f = cond-false _ _ _ f.single_slash
    ∙ cond-false _ _ _ f.single ∙ cond-false _ _ _ f.double_slash ∙ cond-false _ _ _ f.double

pub output-after-rooted-segment : (text output segment rest : List ℕ) → BeginsWithNoDots text
    → before_any (codes "/") text ≡ segment → from_any (codes "/") text ≡ rest
    → output_of (record { input = 47 ∷ text; output = output })
    ≡ output_of (record { input = rest; output = output ++ 47 ∷ segment })
output-after-rooted-segment text output segment rest f e g =
    search (rules, output-after-step, step-moves-rooted-segment)

pub output-after-rootless-segment : (c : ℕ) (text output segment rest : List ℕ)
    → (c == 47) ≡ false → BeginsWithNoDots (c ∷ text)
    → before_any (codes "/") (c ∷ text) ≡ segment → from_any (codes "/") (c ∷ text) ≡ rest
    → output_of (record { input = c ∷ text; output = output })
    ≡ output_of (record { input = rest; output = output ++ segment })
output-after-rootless-segment c text output segment rest h f e g =
    grind (arith, rules, output-after-step, cond-false, and_left, or_from)
