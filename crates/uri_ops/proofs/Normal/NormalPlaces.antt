-- Where the components of a normal text are.
use Rattle.uri_ops.proofs.Common.{◌≡◌, ℕ, ◌+◌, true, List, sym, ap, ◌∙◌, option_map, arith, option_and_then, Option, IfSome, IsUtf8, str_to_ascii_lowercase, components, Kind, is_authority, IsTextOf, ArePackedPositionsOf, packed, authority_at, delimited_length, positions_of, HasComponentSets, authority_meaning, meaning_of, normal_authority, normal_components, normal_parts, normal_text, PortFunction, authority_parts_at, positions_by_authority_parts, common_steps}
use Rattle.uri_parts.specs.declared.packed_positions.PackedPositions.{PackedPositions}
use Rattle.uri_ops.proofs.Meanings.AuthorityMeanings.{normal-authority-has-normal-parts}
use Rattle.uri_ops.proofs.Normal.NormalTexts.{components-of-normal_text, text-has-parts-of-kind}
use Rattle.uri_ops.proofs.Normal.WrittenPlaces.{positions-with-parts-are-of-components, positions-of-parts-are-of-text}

module _ (kind : Kind) (sets : HasComponentSets kind) (ports : PortFunction) where
  normal-authority-positions-by-parts : (place : ℕ) (default : Option ℕ) (o : Option (List ℕ))
      → IfSome o (λ a. IsUtf8 a × (is_authority kind a ≡ true))
      → option_map (authority_parts_at place) (option_map normal_parts
      (option_map (authority_meaning kind default) o)) ≡ option_map (authority_at place)
      (option_map normal_authority (option_map (authority_meaning kind default) o))
  normal-authority-positions-by-parts place default o h =
      grind (arith, common_steps, positions-of-parts-are-of-text, normal-authority-has-normal-parts)

  pub written-positions-are-of-normal-text : (text normal : List ℕ) (positions : PackedPositions)
      → IsTextOf kind text → normal ≡ normal_text (meaning_of kind ports text) → positions
      ≡ packed (positions_by_authority_parts (normal_components (meaning_of kind ports text))
      (option_map normal_parts (meaning_of kind ports text).authority))
      → ArePackedPositionsOf normal positions
  written-positions-are-of-normal-text text normal positions w e places =
      let m = meaning_of kind ports text in
      let p = components text in
      let default = option_and_then ports (option_map str_to_ascii_lowercase p.scheme) in
      places ∙ ap packed (positions-with-parts-are-of-components (normal_components m)
      (option_map normal_parts m.authority) (normal-authority-positions-by-parts (delimited_length 1
      m.scheme + 2) default p.authority (text-has-parts-of-kind kind text w).authority)
      ∙ sym (ap positions_of (ap components e ∙ components-of-normal_text kind ports sets text w)))
