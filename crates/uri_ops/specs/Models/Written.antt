-- Where components are in a text that is written of them: RFC 3986, section 5.3.
use Rattle.std.specs.Prelude.{ℕ, ◌+◌, length, Option, option_map}
use Rattle.uri_parts.specs.declared.positions.AuthorityPositions.{AuthorityPositions}
use Rattle.uri_parts.specs.declared.positions.Positions.{Positions}
use Rattle.uri_parts.specs.Prelude.{AuthorityParts, Components, delimited_length, positions_of, recompose_authority}

-- the positions of an authority's components, where it begins at the position `place` of a text, as
-- a normal one, that is written
abbrev pub authority_parts_at : ℕ → AuthorityParts → AuthorityPositions
authority_parts_at place p =
    let host = delimited_length 1 p.userinfo in
    record {
      start = place;
      host_start = place + host;
      host_end = place + (host + length p.host);
      end = place + length (recompose_authority p);
    }

-- the positions of components in a text, as a normal one, that is recomposed of them, where the
-- authority has these parts, the Option
abbrev pub positions_by_authority_parts : Components → Option AuthorityParts → Positions
positions_by_authority_parts p parts =
    let place = delimited_length 1 p.scheme + 2 in
    record (positions_of p) { authority = option_map (authority_parts_at place) parts }
