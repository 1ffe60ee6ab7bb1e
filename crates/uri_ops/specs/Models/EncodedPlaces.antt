-- Positions in a text whose characters past ASCII are encoded: RFC 3987, section 3.1.
use Rattle.std.specs.Prelude.{◌≡◌, ℕ, ◌≤◌, List, length, take, IfSome, option_map}
use Rattle.uri_parts.specs.declared.positions.AuthorityPositions.{AuthorityPositions}
use Rattle.uri_parts.specs.declared.positions.Positions.{Positions}
use Rattle.uri_parts.specs.Prelude.{before_fragment}
use Rattle.uri_ops.specs.Encoded.{encode_past_ascii}

-- the position that a position of a text becomes when its characters past ASCII are percent-encoded
-- (RFC 3987, section 3.1)
abbrev pub position_in_encoded : List ℕ → ℕ → ℕ
position_in_encoded text place = length (encode_past_ascii (take place text))

-- the positions of an authority's components in the text with its characters past ASCII
-- percent-encoded
abbrev pub authority_positions_in_encoded : List ℕ → AuthorityPositions → AuthorityPositions
authority_positions_in_encoded text p = record {
  start = position_in_encoded text p.start;
  host_start = position_in_encoded text p.host_start;
  host_end = position_in_encoded text p.host_end;
  end = position_in_encoded text p.end;
}

-- The positions of the components in the text with its characters past ASCII percent-encoded.
-- Each is `position_in_encoded` of its own but the end of the scheme, before which every character
-- is ASCII.
abbrev pub positions_in_encoded : List ℕ → Positions → Positions
positions_in_encoded text p = record {
  scheme_end = p.scheme_end;
  authority = option_map (authority_positions_in_encoded text) p.authority;
  path_start = position_in_encoded text p.path_start;
  path_end = position_in_encoded text p.path_end;
  query_end = option_map (position_in_encoded text) p.query_end;
}

-- the positions of an authority's components in an IRI that is converted are in order, and it ends
-- at `path_start`, where the path begins
pub record AreAuthorityPositionsOrdered (path_start : ℕ) (p : AuthorityPositions) : Type 0 where
  pub userinfo : p.start ≤ p.host_start
  pub host : p.host_start ≤ p.host_end
  pub port : p.host_end ≤ p.end
  pub end : p.end ≡ path_start

-- the positions of the components of an IRI that is converted, of length `len`, are in order
pub record ArePositionsOrdered (len : ℕ) (p : Positions) : Type 0 where
  pub authority : IfSome p.authority (AreAuthorityPositionsOrdered p.path_start)
  pub path : p.path_start ≤ p.path_end
  pub query : p.path_end ≤ before_fragment p
  pub fragment : before_fragment p ≤ len
