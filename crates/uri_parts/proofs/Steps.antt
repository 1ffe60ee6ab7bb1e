-- What the proofs of the parser's functions cite and unfold: their attributes name it.
use Rattle.uri_parts.proofs.Common.{⊤, error_from_end, error_from_fragment, error_from_query, error_from_path, error_from_relative_path, port_length, name_and_port_length, name_ends_authority, host_end, host_and_port_length, further_userinfo_length, userinfo_length, host_offset, other_authority, other_authority_length, found_authority_length, found_authority, error_after_port, port_error, host_error, left_over_error, name_error, userinfo_error, other_authority_error, authority_error, hier_part_error, schemeless_error, parsed_error, query_end_at, path_positions, authority_positions, hier_part_positions, relative_positions, schemeless_positions, parsed_positions}
use Rattle.uri_pct.proofs.Offered.{digit_masks_are_digit_set, scheme_masks_are_scheme_set, segment_nz_nc_masks_are_segment_nz_nc_set, isegment_nz_nc_masks_are_isegment_nz_nc_set}
use Rattle.uri_parts.proofs.Authorities.AuthorityCuts.{suffix, drop-after-drop-of-one}
use Rattle.uri_parts.proofs.Parsing.NextBytes.{starts_at_position, stray_percent_ends_scan, authority_may_end_at_end, authority_may_end_at_byte, authority_may_end_at_slash, text_ends_where_position_is_length, name_has_no_port_where_authority_may_end}
use Rattle.uri_parts.proofs.Parsing.WebSchemes.{letters_before_colon_are_from_A, scheme_of_http_ends_at_4, scheme_of_https_ends_at_5}
use Rattle.uri_parts.proofs.Refusals.Colons.{last_colon-at-colon, last_colon-stays-past-other-byte, last_colon_is_below_position}
use Rattle.uri_parts.proofs.Refusals.Digits.{digits_end-stays-at-other-byte, digits_end-stays-where-none-may-follow, digits_end-stays-past-text, octets_end-of-no-octets-stays, octets_end-goes-on-after-dot, octets_end-fails-without-dot}

-- what is next
pub ruleset marks = (authority_may_end_at_end, authority_may_end_at_byte)

pub ruleset next_bytes = (starts_at_position, text_ends_where_position_is_length)

pub ruleset strays = (stray_percent_ends_scan, starts_at_position)

-- the tables of a kind
pub ruleset segments = (
  segment_nz_nc_masks_are_segment_nz_nc_set,
  isegment_nz_nc_masks_are_isegment_nz_nc_set,
)

-- an address in brackets
pub ruleset digits = (
  digits_end-stays-at-other-byte,
  digits_end-stays-where-none-may-follow,
  digits_end-stays-past-text,
)

pub ruleset octets = (
  octets_end-of-no-octets-stays,
  octets_end-goes-on-after-dot,
  octets_end-fails-without-dot,
)

-- an authority
pub ruleset colons = (last_colon-at-colon, last_colon-stays-past-other-byte)

pub ruleset below = (last_colon_is_below_position)

pub ruleset ports = (digit_masks_are_digit_set, drop-after-drop-of-one)

pub ruleset cuts = (suffix)

pub ruleset names = (
  suffix,
  name_has_no_port_where_authority_may_end,
  authority_may_end_at_slash,
)

-- what a proof unfolds where a name and a port are parsed
unfoldable pub name : ⊤
unfolding port_length name_ends_authority name_and_port_length
name = tt

-- what a proof unfolds where a host and its error are parsed
unfoldable pub host : ⊤
unfolding host_and_port_length host_end host_error port_error error_after_port
host = tt

-- what a proof unfolds where userinfo is parsed
unfoldable pub user : ⊤
unfolding further_userinfo_length userinfo_error
user = tt

-- what a proof unfolds where a name and a port were parsed that do not end the authority
unfoldable pub after_name : ⊤
unfolding further_userinfo_length userinfo_error name_error left_over_error
after_name = tt

-- what a proof unfolds where an authority that is no name alone is parsed
unfoldable pub other : ⊤
unfolding userinfo_length host_offset other_authority other_authority_error
other = tt

-- what a proof unfolds where an authority is parsed
unfoldable pub authority : ⊤
unfolding found_authority_length found_authority other_authority_length other_authority
    authority_error
authority = tt

-- a whole text
pub ruleset schemes = (scheme_masks_are_scheme_set)

pub ruleset letters = (letters_before_colon_are_from_A)

pub ruleset web_schemes = (scheme_of_http_ends_at_4, scheme_of_https_ends_at_5)

-- what a proof unfolds where a path, a query and a fragment are parsed
unfoldable pub tail : ⊤
unfolding error_from_end error_from_fragment query_end_at error_from_query path_positions
    error_from_path
tail = tt

-- what a proof unfolds where what comes before a path is parsed
unfoldable pub before_path : ⊤
unfolding authority_positions hier_part_positions hier_part_error relative_positions
    error_from_relative_path
before_path = tt

-- what a proof unfolds where a whole text is parsed
unfoldable pub whole : ⊤
unfolding schemeless_positions schemeless_error parsed_positions parsed_error
whole = tt

-- what a proof unfolds where an authority that comes before a path is parsed
unfoldable pub authority_before_path : ⊤
unfolding authority other before_path tail after_name
authority_before_path = tt

-- what a proof unfolds where what comes before a path is parsed from the beginning of the text on
unfoldable pub beginning : ⊤
unfolding whole before_path tail
beginning = tt
