-- The positions of a text's components: RFC 3986, section 3.
use Rattle.std.specs.Prelude.{◌≡◌, ℕ, ◌+◌, List, length, Option, Some, None, option_map, unwrap_or}
use Rattle.uri_parts.specs.declared.positions.Positions.{Positions}
use Rattle.uri_parts.specs.declared.positions.AuthorityPositions.{AuthorityPositions}
use Rattle.uri_parts.specs.Authority.{authority_parts}
use Rattle.uri_parts.specs.Components.{Components, components}

-- the length of a component with that of the delimiters beside it (marks), or 0 if it is absent
abbrev pub delimited_length : ℕ → Option (List ℕ) → ℕ
delimited_length marks None = 0
delimited_length marks (Some part) = marks + length part

-- where the host begins in the text of an authority (RFC 3986, section 3.2)
abbrev pub host_start_of : List ℕ → ℕ
host_start_of text = delimited_length 1 (authority_parts text).userinfo

-- where the host ends in the text of an authority (RFC 3986, section 3.2)
abbrev pub host_end_of : List ℕ → ℕ
host_end_of text = host_start_of text + length (authority_parts text).host

-- the positions of an authority with this text, which begins at the position place
abbrev pub authority_at : ℕ → List ℕ → AuthorityPositions
authority_at place text = record {
  start = place;
  host_start = place + host_start_of text;
  host_end = place + host_end_of text;
  end = place + length text;
}

-- the positions of components in their text, by the lengths of those before each
abbrev pub positions_of : Components → Positions
positions_of p =
    let from_scheme_end = delimited_length 1 p.scheme in
    let path_start = from_scheme_end + delimited_length 2 p.authority in
    let path_end = path_start + length p.path in
    record {
      scheme_end = option_map length p.scheme;
      authority = option_map (authority_at (from_scheme_end + 2)) p.authority;
      path_start = path_start;
      path_end = path_end;
      query_end = option_map (λ q. path_end + 1 + length q) p.query;
    }

-- the position where the query ends, or the path if there is no query: what is before the fragment
abbrev pub before_fragment : Positions → ℕ
before_fragment p = unwrap_or p.query_end p.path_end

-- p are the positions of the text's own components (RFC 3986, section 3)
abbrev pub ArePositionsOf : List ℕ → Positions → Type 0
ArePositionsOf text p = p ≡ positions_of (components text)
