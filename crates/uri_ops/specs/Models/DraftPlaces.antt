-- Where the parts of a builder are in its text, by their lengths: RFC 3986, section 5.3.
use Rattle.std.specs.Prelude.{◌≡◌, ℕ, ◌+◌, ◌≤◌, List, length, Option, Some, None, option_map, false}
use Rattle.uri_parts.specs.declared.positions.AuthorityPositions.{AuthorityPositions}
use Rattle.uri_parts.specs.declared.positions.Positions.{Positions}
use Rattle.uri_parts.specs.Prelude.{host_end_of, host_start_of}
use Rattle.uri_ops.specs.declared.build.draft.Draft.{Draft}
use Rattle.uri_ops.specs.declared.build.lengths.Lengths.{Lengths}
use Rattle.uri_ops.specs.declared.build.places.HostRange.{HostRange}
use Rattle.uri_ops.specs.Builders.{draft_parts}

-- the host of the authority that a builder holds is between these positions of the authority
pub record IsHostAt (place : HostRange) (authority : List ℕ) : Type 0 where
  pub start : place.start ≡ host_start_of authority
  pub end : place.end ≡ host_end_of authority
  pub inside : place.end ≤ length authority

-- the host of an authority that a builder holds is between these positions of it, if there is an
-- authority
abbrev pub IsHostAtIfSome : HostRange → Option (List ℕ) → Type 0
IsHostAtIfSome place o = (authority : List ℕ) → o ≡ Some authority → IsHostAt place authority

-- the host of the authority that the draft of a builder holds is where the draft says, unless it is
-- marked failed
abbrev pub HasRightHostRange : Draft → Type 0
HasRightHostRange d = d.failed ≡ false → IsHostAtIfSome d.host (draft_parts d).authority

-- the length of a part of a builder with its delimiters, of length `marks`, or 0 without the part
abbrev pub delimited_len : ℕ → Option ℕ → ℕ
delimited_len marks None = 0
delimited_len marks (Some n) = marks + n

-- the positions of a built authority's components: it begins at the first number, its host is in
-- the range, and its length is the last number
abbrev pub authority_positions_from_length : ℕ → HostRange → ℕ → AuthorityPositions
authority_positions_from_length place host len = record {
  start = place;
  host_start = place + host.start;
  host_end = place + host.end;
  end = place + len;
}

-- the positions of the components of a builder's text, by the lengths of its parts and the range of
-- its host in the authority
abbrev pub positions_from_lengths : Lengths → HostRange → Positions
positions_from_lengths lengths host =
    let from_scheme_end = delimited_len 1 lengths.scheme in
    let path_start = from_scheme_end + delimited_len 2 lengths.authority in
    let path_end = path_start + delimited_len 0 lengths.path in
    record {
      scheme_end = lengths.scheme;
      authority = option_map (authority_positions_from_length (from_scheme_end + 2) host)
          lengths.authority;
      path_start = path_start;
      path_end = path_end;
      query_end = option_map (λ n. path_end + 1 + n) lengths.query;
    }
