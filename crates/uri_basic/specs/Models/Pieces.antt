-- Parts of a text that the code copies whole, and where they are.
use Rattle.std.specs.Prelude.{◌≡◌, ℕ, List, [], ◌++◌, codes}
use Rattle.uri_parts.specs.Prelude.{Components, marked, packed, positions_of}
use Rattle.uri_parts.specs.declared.packed_positions.PackedPositions.{PackedPositions}

-- what a base or a reference has after its path: query and fragment, with their delimiters
abbrev pub after_path : Components → List ℕ
after_path p = marked (codes "?") p.query [] ++ marked (codes "#") p.fragment []

-- up to the end of the host, the positions are those of the components in their text
pub record ArePlacesToHost (p : Components) (places : PackedPositions) : Type 0 where
  pub scheme_end : places.scheme_end ≡ (packed (positions_of p)).scheme_end
  pub host_start : places.host_start ≡ (packed (positions_of p)).host_start
  pub host_end : places.host_end ≡ (packed (positions_of p)).host_end
