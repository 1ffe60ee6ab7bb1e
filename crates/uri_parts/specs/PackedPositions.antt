-- The positions of a text's components in six words, as each value holds them.
use Rattle.std.specs.Prelude.{◌≡◌, ℕ, List, unwrap_or, option_map}
use Rattle.uri_parts.specs.declared.packed_positions.PackedPositions.{PackedPositions}
use Rattle.uri_parts.specs.declared.positions.Positions.{Positions}
use Rattle.uri_parts.specs.Components.{components}
use Rattle.uri_parts.specs.Positions.{before_fragment, positions_of}

-- the positions p in six words: what is absent has the position 0, or that of the path's end
abbrev pub packed : Positions → PackedPositions
packed p = record {
  scheme_end = unwrap_or p.scheme_end 0;
  host_start = unwrap_or (option_map (λ a. a.host_start) p.authority) 0;
  host_end = unwrap_or (option_map (λ a. a.host_end) p.authority) 0;
  path_start = p.path_start;
  path_end = p.path_end;
  query_end = before_fragment p;
}

-- p are the positions of the text's own components (RFC 3986, section 3)
abbrev pub ArePackedPositionsOf : List ℕ → PackedPositions → Type 0
ArePackedPositionsOf text p = p ≡ packed (positions_of (components text))
