-- Paths that are read from their end: their segments are decoded one by one.
use Rattle.uri_ops.proofs.Common.{common_steps, arith, ◌≡◌, ℕ, Bool, true, false, cond, List, [], ◌∷◌, ◌++◌, refl, ap, ◌∙◌, subst, codes, IsUtf8, append-nil, widest_set, TableSet, unreserved_set, IsValidFor, every_set_is_subset_of_widest, IsAbsolute, remove_dot_segments, print_decoded, normal_component, segments_left}
use Rattle.uri_ops.proofs.Meanings.AllowedParts.{decoding-splits-at-slash, empty-text-is-set-text, print_decoded-of-nil-is-nil, set-text-from-utf8, set-text-is-utf8, set-text-is-valid}
use Rattle.uri_ops.proofs.Paths.DecodedPaths.{dotless-set-text-is-set-text, set-text-splits}
use Rattle.uri_ops.proofs.FromEnd.SegmentsLeft.{segments_left-of-nothing}

-- paths: one that decodes
abbrev pub IsDecodableText : List ℕ → Type 0
IsDecodableText text = IsUtf8 text × IsValidFor widest_set text

-- paths: what is before a `/` (47) and what is after it decode, if the whole does
pub decodable-text-splits : (x y : List ℕ) → IsDecodableText (x ++ 47 ∷ y)
    → IsDecodableText x × IsDecodableText y
decodable-text-splits x y h =
    grind (arith, set-text-from-utf8, set-text-splits, set-text-is-utf8, set-text-is-valid)

-- segments left: what is left of a path without a last `/` decodes
text-before-slash-is-decodable : (dot : Bool) (left : List ℕ)
    → IsDecodableText (left ++ cond dot (codes "/") []) → IsDecodableText left
text-before-slash-is-decodable true left h = (decodable-text-splits left [] h).0
text-before-slash-is-decodable false left h = subst IsDecodableText (append-nil left) h

pub segments_left-are-decodable : (path : List ℕ) (dot : Bool)
    → IsAbsolute path → IsDecodableText path → remove_dot_segments path
    ≡ segments_left path ++ cond dot (codes "/") [] → IsDecodableText (segments_left path)
segments_left-are-decodable path dot h valid e =
    let t = dotless-set-text-is-set-text widest_set refl
    (every_set_is_subset_of_widest unreserved_set refl) refl path h
    (set-text-from-utf8 widest_set path valid.0 valid.1) in
    text-before-slash-is-decodable dot (segments_left path) (subst IsDecodableText e (
      set-text-is-utf8 widest_set (remove_dot_segments path) t,
      set-text-is-valid widest_set (remove_dot_segments path) t,
    ))

pub empty-text-is-decodable : IsDecodableText []
empty-text-is-decodable = grind (arith, set-text-is-utf8, empty-text-is-set-text, set-text-is-valid)

-- a path in a normal form, read from its end
module _ (set : TableSet) where
  -- paths: nothing is written as nothing
  component-of-nothing : normal_component false set [] ≡ []
  unfolding print_decoded
  component-of-nothing = print_decoded-of-nil-is-nil set

  -- paths: a path is written before its last `/` (47) and after it
  component-with-segment : (left segment : List ℕ) → IsUtf8 left → normal_component false set (left
      ++ 47 ∷ segment) ≡ normal_component false set left ++ 47 ∷ normal_component false set segment
  unfolding print_decoded
  component-with-segment left segment u = decoding-splits-at-slash set left segment u

  -- paths: a path that ends in a dot segment is written before the `/` that this leaves
  component-with-last-slash : (dot : Bool) (left : List ℕ) → IsUtf8 left
      → normal_component false set (left ++ cond dot (codes "/") [])
      ≡ normal_component false set left ++ (cond dot (codes "/") [] ++ [])
  component-with-last-slash dot left u =
      grind (arith, common_steps, component-with-segment, component-of-nothing, append-nil)

  pub unread-of-dotted-path : (text octets : List ℕ) → octets ≡ normal_component false set text
      → normal_component false set (segments_left []) ++ ([] ++ octets)
      ≡ normal_component false set text
  unread-of-dotted-path text octets e = ap (λ t. t ++ octets)
      (ap (normal_component false set) segments_left-of-nothing ∙ component-of-nothing) ∙ e

  pub unread-of-dotless-path : (dot : Bool) (left removed octets : List ℕ) → IsUtf8 left
      → removed ≡ left ++ cond dot (codes "/") [] → octets ≡ normal_component false set []
      → normal_component false set left ++ (cond dot (codes "/") [] ++ octets)
      ≡ normal_component false set removed
  unread-of-dotless-path dot left removed octets u e f =
      grind (arith, component-of-nothing, component-with-last-slash)

  pub unread-of-begun-segment : (slashed : Bool) (whole left segment octets before : List ℕ)
      → slashed ≡ false → before ≡ [] → IsUtf8 left → whole ≡ left ++ 47 ∷ segment
      → octets ≡ normal_component false set segment → normal_component false set left ++ (codes "/"
      ++ octets) ≡ normal_component false set whole ++ (cond slashed (codes "/") [] ++ before)
  unread-of-begun-segment slashed whole left segment octets before none read u e f =
      grind (arith, common_steps, component-with-segment)

  pub unread-of-read-path : (slashed : Bool) (whole octets : List ℕ)
      → slashed ≡ false → octets ≡ [] → whole ≡ []
      → normal_component false set whole ++ (cond slashed (codes "/") [] ++ octets) ≡ []
  unread-of-read-path slashed whole octets none read e = grind (arith, component-of-nothing)
