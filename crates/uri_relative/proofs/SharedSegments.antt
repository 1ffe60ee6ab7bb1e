-- What the segments of a path make of a directory, against the segments that they share: RFC 3986,
-- section 5.2.4.
use Rattle.std.proofs.lemmas.Grind.{common_steps}
use Rattle.uri_relative.proofs.Common.{◌≡◌, ◌⊎◌, ℕ, ◌+◌, ◌*◌, ◌<◌, ◌≤◌, Bool, true, false, List, [], ◌∷◌, ◌++◌, ◌||◌, length, refl, sym, ap, ◌∙◌, arith, append_assoc, inl, inr, length-append, append-nil, and-false, false≢true, nat_tests, is_double_dot, is_single_dot, single-dot-is-not-empty, closing, end_of, pop, pop-undoes-push, step_of, steps, next_output, slashed}
use Rattle.uri_relative.proofs.Climbs.{segments-are-all-but-last-and-last}
use Rattle.uri_relative.proofs.Shrinking.{segments_left, length-of-first-segment-and-rest, no-segments-have-length-zero}

-- the segments begin with the same one
unfoldable pub BeginWithSameSegment : List (List ℕ) → List (List ℕ) → Type 0
BeginWithSameSegment [] down = ⊥
BeginWithSameSegment (s ∷ segs) down = (tail : List (List ℕ)) × (down ≡ s ∷ tail)

-- relativized paths: segments lead from a directory (output) to what is left of it, which shares a
-- prefix with it, and are no shorter than `../` for each step up, and the way down
pub record SharesDirectoryPrefix (output left segs : List (List ℕ)) : Type 0 where
  pub prefix : List (List ℕ)
  pub up : List (List ℕ)
  pub down : List (List ℕ)
  pub output_is : output ≡ prefix ++ up
  pub left_is : left ≡ prefix ++ down
  pub spare : ℕ
  pub few : spare ≤ 1
  pub some : 0 < length down
  pub why : (spare ≡ 0) ⊎ ((down ≡ [] ∷ []) × (0 < length up))
  pub cost : 3 * length up + length (slashed down) ≤ length (slashed segs) + spare
  pub first : (0 < length up) ⊎ ((down ≡ [] ∷ []) ⊎ (BeginWithSameSegment segs down
      ⊎ (3 * length up + length (slashed down) + 2 ≤ length (slashed segs) + spare)))

double-dot-segment-has-two-bytes : (s : List ℕ) → is_double_dot s ≡ true → 1 < length s
double-dot-segment-has-two-bytes s e = grind (arith, common_steps, false≢true, and-false)

staying-segment-shares-directory-prefix : (s : List ℕ) (output : List (List ℕ)) → 0 < length s
    → SharesDirectoryPrefix output (output ++ [] ∷ []) (s ∷ [])
staying-segment-shares-directory-prefix s output some = record {
  prefix = output;
  up = [];
  down = [] ∷ [];
  output_is = sym (append-nil output);
  left_is = refl;
  spare = 0;
  few = omega arith;
  some = omega arith;
  why = inl refl;
  cost = omega (
    arith,
    some,
    length-of-first-segment-and-rest s [],
    length-of-first-segment-and-rest [] [],
    no-segments-have-length-zero,
  );
  first = inr (inl refl);
}

-- relativized paths: what the last segment makes of a directory shares a prefix with it; single,
-- double: whether it is `.`, or `..`
last-segment-shares-directory-prefix : (single double : Bool) (s : List ℕ) (output : List (List ℕ))
    → (single ≡ true → 0 < length s) → (double ≡ true → 1 < length s) → SharesDirectoryPrefix output
    (next_output single double output s ++ end_of (single || double)) (s ∷ [])
unfolding next_output pop BeginWithSameSegment
last-segment-shares-directory-prefix true double s output one two =
    staying-segment-shares-directory-prefix s output (one refl)
last-segment-shares-directory-prefix false true s [] one two =
    staying-segment-shares-directory-prefix s [] (omega (arith, two refl))
last-segment-shares-directory-prefix false true s (o ∷ output) one two =
    let l = segments-are-all-but-last-and-last o output in
    record {
      prefix = pop (o ∷ output);
      up = l.0 ∷ [];
      down = [] ∷ [];
      output_is = l.1;
      left_is = refl;
      spare = 1;
      few = omega arith;
      some = omega arith;
      why = inr (refl, omega arith);
      cost = omega (
        arith,
        two refl,
        length-of-first-segment-and-rest s [],
        length-of-first-segment-and-rest [] [],
        no-segments-have-length-zero,
      );
      first = inl (omega arith);
    }
last-segment-shares-directory-prefix false false s output one two = record {
  prefix = output;
  up = [];
  down = s ∷ [];
  output_is = sym (append-nil output);
  left_is = append-nil (output ++ s ∷ []);
  spare = 0;
  few = omega arith;
  some = omega arith;
  why = inl refl;
  cost = omega arith;
  first = inr (inr (inl ([], refl)));
}

no-byte-is-spare-without-climb : (spare : ℕ) (down : List (List ℕ))
    → (spare ≡ 0) ⊎ ((down ≡ [] ∷ []) × (0 < 0)) → spare ≡ 0
no-byte-is-spare-without-climb spare down h = grind arith

-- relativized paths: if the rest of a path, after segment s, goes up from s or stays in it, the
-- path shares a prefix with the directory; spare: a byte too many
pushed-segment-shares-directory-prefix : (s : List ℕ)
    (output left segs prefix up down : List (List ℕ)) (spare : ℕ)
    → output ++ s ∷ [] ≡ prefix ++ up → left ≡ prefix ++ down → spare ≤ 1 → 0 < length down
    → (spare ≡ 0) ⊎ ((down ≡ [] ∷ []) × (0 < length up))
    → 3 * length up + length (slashed down) ≤ length (slashed segs) + spare
    → SharesDirectoryPrefix output left (s ∷ segs)
unfolding BeginWithSameSegment
pushed-segment-shares-directory-prefix s output left segs prefix [] down spare e f few some why
    cost = record {
      prefix = output;
      up = [];
      down = s ∷ down;
      output_is = sym (append-nil output);
      left_is = grind (arith, append-nil, append_assoc);
      spare = 0;
      few = omega arith;
      some = omega arith;
      why = inl refl;
      cost = omega (
        arith,
        cost,
        no-byte-is-spare-without-climb spare down why,
        length-of-first-segment-and-rest s down,
        length-of-first-segment-and-rest s segs,
      );
      first = inr (inr (inl (down, refl)));
    }
pushed-segment-shares-directory-prefix s output left segs prefix (u ∷ us) down spare e f few
    some why cost =
    let l = segments-are-all-but-last-and-last u us in
    let fewer : length (u ∷ us) ≡ length (pop (u ∷ us)) + 1 = omega (
      arith,
      ap length l.1,
      length-append (pop (u ∷ us)) (l.0 ∷ []),
    ) in
    record {
      prefix = prefix;
      up = pop (u ∷ us);
      down = down;
      output_is = sym (pop-undoes-push output s) ∙ ap pop
          (e ∙ ap (λ t. prefix ++ t) l.1 ∙ sym (append_assoc prefix (pop (u ∷ us)) (l.0 ∷ [])))
          ∙ pop-undoes-push (prefix ++ pop (u ∷ us)) l.0;
      left_is = f;
      spare = 0;
      few = omega arith;
      some = some;
      why = inl refl;
      cost = omega (arith, cost, few, fewer, length-of-first-segment-and-rest s segs);
      first = grind (arith, length-of-first-segment-and-rest);
    }

spare-byte-stays-with-one-more-climb : (spare : ℕ) (up down : List (List ℕ)) (last : List ℕ)
    → (spare ≡ 0) ⊎ ((down ≡ [] ∷ []) × (0 < length up))
    → (spare ≡ 0) ⊎ ((down ≡ [] ∷ []) × (0 < length (up ++ last ∷ [])))
spare-byte-stays-with-one-more-climb spare up down last h = grind (arith, length-append)

-- relativized paths: what holds of the prefix shared after a segment does so before it; single,
-- double: whether it is `.`, or `..`
next-segment-shares-directory-prefix : (single double : Bool) (s : List ℕ)
    (output left segs : List (List ℕ))
    → (single ≡ true → 0 < length s) → (double ≡ true → 1 < length s)
    → SharesDirectoryPrefix (next_output single double output s) left segs
    → SharesDirectoryPrefix output left (s ∷ segs)
unfolding next_output pop
next-segment-shares-directory-prefix true double s output left segs one two w =
    grind (arith, nat_tests, length-of-first-segment-and-rest)
next-segment-shares-directory-prefix false true s [] left segs one two w =
    grind (arith, nat_tests, length-of-first-segment-and-rest)
next-segment-shares-directory-prefix false true s (o ∷ output) left segs one two w =
    let l = segments-are-all-but-last-and-last o output in
    grind (
      arith,
      append_assoc,
      spare-byte-stays-with-one-more-climb,
      length-of-first-segment-and-rest,
      length-append,
    )
next-segment-shares-directory-prefix false false s output left segs one two w =
    pushed-segment-shares-directory-prefix s output left segs w.prefix w.up w.down w.spare
    w.output_is w.left_is w.few w.some w.why w.cost

-- relativized paths: what the segments leave of a directory shares a prefix with it; output: the
-- directory's segments
pub segments-share-directory-prefix : (s : List ℕ) (rest output : List (List ℕ))
    → SharesDirectoryPrefix output (segments_left output (s ∷ rest)) (s ∷ rest)
unfolding segments_left steps step_of closing
segments-share-directory-prefix s [] output = last-segment-shares-directory-prefix (is_single_dot s)
    (is_double_dot s) s output (single-dot-is-not-empty s) (double-dot-segment-has-two-bytes s)
segments-share-directory-prefix s (t ∷ rest) output = next-segment-shares-directory-prefix
    (is_single_dot s) (is_double_dot s) s output (segments_left (step_of output s) (t ∷ rest))
    (t ∷ rest) (single-dot-is-not-empty s) (double-dot-segment-has-two-bytes s)
    (segments-share-directory-prefix t rest (step_of output s))
