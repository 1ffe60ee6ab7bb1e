use Rattle.uri_ops.proofs.Common.{common_steps, ◌≡◌, ℕ, ◌+◌, ◌*◌, ◌≤◌, List, [], ◌∷◌, ◌++◌, length, get_or, set, take, refl, sym, ap, ◌∙◌, arith, length-set}
use Rattle.uri_ops.proofs.AsciiForms.EncodedTokens.{octet_text}
use Rattle.uri_ops.proofs.AsciiForms.EncodedRuns.{pushed-octet-is-encoding}
use Rattle.uri_ops.proofs.AsciiForms.EncodedPaths.{encoding-of-nil-is-nil}
use Rattle.uri_ops.proofs.convert.encoded.push_leading_octets.Goals as goal

three-stores : (xs : List ℕ) (n m a b c : ℕ) → m ≡ n + 3 → m ≤ length xs
    → take m (set (set (set xs n a) (n + 1) b) (n + 2) c) ≡ take n xs ++ a ∷ b ∷ c ∷ []
three-stores xs n m a b c e inside = grind (arith, common_steps, set)

list-of-three : (xs ys : List ℕ) (a b c : ℕ) → xs ≡ ys → ys ≡ a ∷ b ∷ c ∷ []
    → get_or xs 0 0 ∷ get_or xs 1 0 ∷ get_or xs 2 0 ∷ [] ≡ ys
list-of-three xs ys a b c same three =
    ap (λ t. get_or t 0 0 ∷ get_or t 1 0 ∷ get_or t 2 0 ∷ []) (same ∙ three) ∙ sym three

pub loop-count-init : goal.loop-count-init
loop-count-init c = grind (arith, encoding-of-nil-is-nil)

pub loop-count-preserved : goal.loop-count-preserved
loop-count-preserved c =
    let bytes = c.args.bytes.now in
    let count = c.loop-count.count in
    let octets = c.loop-count.octets in
    let octet = c.as_bytes-octet.result.now in
    let text = octet_text (get_or bytes count 0) in
    let holds = c.loop-count.invariant in
    let a = get_or octet 0 0 in
    let b = get_or octet 1 0 in
    let d = get_or octet 2 0 in
    let within : 3 * (count + 1) ≤ length octets = omega (arith, holds.size) in
    let same : octet ≡ text = c.as_bytes-octet.ensures.value ∙ c.pct_encoded.ensures in
    let three : a ∷ b ∷ d ∷ [] ≡ text = list-of-three _ _ _ _ _ same refl in
    let stored = three-stores _ _ _ a b d (omega arith) within in
    let one = set octets (3 * count) a in
    let two = set one (3 * count + 1) b in
    record {
      inside = omega arith;
      few = omega arith;
      size = length-set two _ d ∙ length-set one _ b ∙ length-set octets _ a ∙ holds.size;
      octets = pushed-octet-is-encoding [] _ _ _ _ (omega arith) c.if-bytes-count-ge128.true
          holds.octets (stored ∙ ap (λ t. take (3 * count) octets ++ t) three);
    }
