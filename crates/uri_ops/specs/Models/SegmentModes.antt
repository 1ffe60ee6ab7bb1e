-- What may be done with the segments of a path while its dot segments are removed (RFC 3986,
-- section 5.2.4).
use Rattle.std.specs.Prelude.{◌≡◌, ◌++◌, ◌∷◌, ℕ, Bool, List, [], true, false}
use Rattle.uri_ops.specs.Dots.{has_slash, is_double_dot, is_empty, is_single_dot, lacks_dot_segments}

-- a change of paths that goes from `/` to `/`, and keeps which segments are dots, such as decoding
pub record KeepsSlashesAndDots (change : List ℕ → List ℕ) (among : List ℕ → Bool) : Type 0 where
  pub nothing : change [] ≡ []
  pub none : among [] ≡ true
  pub empty : (text : List ℕ) → among text ≡ true → is_empty (change text) ≡ is_empty text
  pub cut : (x y : List ℕ) → among (x ++ 47 ∷ y) ≡ true → (among x ≡ true) × (among y ≡ true)
  pub join : (x y : List ℕ) → among x ≡ true → among y ≡ true → among (x ++ 47 ∷ y) ≡ true
  pub pieces : (x y : List ℕ) → among x ≡ true
      → change (x ++ 47 ∷ y) ≡ change x ++ 47 ∷ change y
  pub free : (s : List ℕ) → among s ≡ true → has_slash s ≡ false → has_slash (change s) ≡ false
  pub single : (s : List ℕ) → among s ≡ true → is_single_dot (change s) ≡ is_single_dot s
  pub double : (s : List ℕ) → among s ≡ true → is_double_dot (change s) ≡ is_double_dot s
  pub dotless : (text : List ℕ) → among text ≡ true → lacks_dot_segments text ≡ true
      → lacks_dot_segments (change text) ≡ true
