-- What a proof unfolds to compute the error of a literal text.
use Rattle.uri_parts.proofs.Common.{⊤, valid_prefix_from, allows_first, begins_with_hex_digits, first_char, allows_past_ascii, is_ucschar, is_iprivate, is_end, octet_end, octets_end, groups_from, ipv6_end, literal, cannot_begin_ipv6, refusal, last_colon, error_from_end, error_from_fragment, error_from_query, error_from_path, error_from_abempty_path, error_from_port, error_from_host, error_from_name, error_from_authority, error_from_hier_part, error_from_relative_path}

-- the characters that a scan passes
unfoldable scans_on_literals : ⊤
unfolding valid_prefix_from allows_first begins_with_hex_digits first_char allows_past_ascii
    is_ucschar is_iprivate
scans_on_literals = tt

-- where an address in brackets ends
unfoldable addresses_on_literals : ⊤
unfolding is_end octet_end octets_end groups_from ipv6_end cannot_begin_ipv6 literal
addresses_on_literals = tt

-- what follows an authority, and a relative path
unfoldable paths_on_literals : ⊤
unfolding error_from_end error_from_fragment error_from_query error_from_path
    error_from_abempty_path error_from_relative_path
paths_on_literals = tt

unfoldable authorities_on_literals : ⊤
unfolding last_colon error_from_port error_from_host error_from_name error_from_authority
    error_from_hier_part
authorities_on_literals = tt

unfoldable pub errors_on_literals : ⊤
unfolding scans_on_literals addresses_on_literals paths_on_literals authorities_on_literals refusal
errors_on_literals = tt
