-- What is known of a target where what it is made of is found.
use Rattle.uri_ops.proofs.Common.{arith, ◌≡◌, true, false, Bool, List, ℕ, ap, sym, ◌∙◌, is_some, Components, components, recompose, ArePackedPositionsOf, packed, positions_of, IsTarget, with_final_path, dotted_target, is_opaque_rejection, underflows_if_absolute}
use Rattle.uri_parts.specs.declared.packed_positions.PackedPositions.{PackedPositions}
use Rattle.uri_ops.proofs.Targeting.Targets.{target-text-has-target-components}

module _ (b r : Components) where
  -- the text of the target
  abbrev pub final_text : List ℕ
  final_text = recompose (with_final_path (dotted_target b r))

  pub text-of-found-target-is-target : (allowed : Bool) (text : List ℕ) → is_some b.fragment ≡ false
      → is_opaque_rejection b r ≡ false → text ≡ final_text → (allowed ≡ false
      → underflows_if_absolute (dotted_target b r).path ≡ false) → IsTarget allowed b r text
  text-of-found-target-is-target allowed text none taken same underflow = grind arith

-- positions in a target: those of its components are those of its text
pub text-of-target-has-positions : (base reference text : List ℕ) (positions : PackedPositions)
    → is_some (components base).scheme ≡ true
    → text ≡ final_text (components base) (components reference) → positions ≡ packed
    (positions_of (with_final_path (dotted_target (components base) (components reference))))
    → ArePackedPositionsOf text positions
text-of-target-has-positions base reference text positions some same at = at ∙ sym (ap (λ p. packed
    (positions_of p)) (ap components same ∙ target-text-has-target-components base reference some))
