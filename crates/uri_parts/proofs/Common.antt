-- What proofs import from std, from lower crates and from `specs/`: the modules that three
-- files or more use.
pub use Rattle.std.proofs.Common.{◌≡◌, ℕ, true, false, not, eqb, ltb, List, [], ◌∷◌, ◌++◌, drop, refl, sym, ap, subst, ◌∙◌, arith, ◌&&◌, inl, inr, ◌⊎◌, append_assoc, append-nil, codes, bytes_eq, Option, Some, None, IfSome, IsUtf8, ◌+◌, length, drop-drop, ◌-◌, ◌<◌, ◌≤◌, get_or, take, ◌||◌, length-append, slice_range, is_some, IsCharBoundary, map, replicate, ⊎_elim, lit<, zero-add, cond, suc, Bool, All, ◌^◌, Result, Ok, Err, find, option_map, Bor, filter, ◌≢◌, zero, decimal, lit≤, length-take-le, take-append-drop, get_or-take, get_or-drop, add-zero, le-ltb, length-drop, drop_at, ◌/◌, ◌%◌, ltb-true, ◌==◌, nat_lt, max, min, ◌*◌, IsTrue, if◌then◌else◌, add_assoc, is_none, is_ok, add-one, nat_le, option_and_then, take_at, take_all, IfNone, unwrap_or, rules, IfOk, slice_set, IsAscii, tests, string_bytes, IsOk, fold, flat_map}
pub use Rattle.std.proofs.Math.Bool.{or-false, and-true, and_assoc, and-false}
pub use Rattle.std.proofs.Math.Seq.{drop-append_seam, take-append_seam, get_or-append_seam, take-length}
pub use Rattle.std.proofs.NetLemmas.Alphabet.{IsDigitOrDot, All-ipv4_text, IsHexOrColon, All-hex_groups_text}
pub use Rattle.std.proofs.NetLemmas.Ipv4.{read_ipv4_sound, read_ipv4_none, read_ipv4_complete}
pub use Rattle.std.proofs.NetLemmas.Ipv6.{read_ipv6_complete, read_ipv6_sound, EndsGroups-nil, EndsGroups}
pub use Rattle.std.proofs.NetLemmas.Numbers.{NoDigit, read_number_some_at, read_number_sound, read_number_empty, digit_count_none, digit_count-append, read_number_large_at}
pub use Rattle.std.proofs.NetLemmas.Options.{map_some, cond_none, and_then_some}
pub use Rattle.std.proofs.lemmas.Bool.{and_from, and_parts, cond-true, cond-false, or_parts, ne_eqb, or_right, cases_Bool, and_left, eq-eqb, both_ways, false_from_ne_true, eqb-true, false≢true, lt-ltb, cases_lt, not_from_false, and_right, not-true, cases_eq, not_from_true, or_left, le-leb, eqb-false}
pub use Rattle.std.proofs.lemmas.Bool.Decides.{nat_tests, Decides-below_and}
pub use Rattle.std.proofs.lemmas.Fmt.{length-decimal-le, decimal_is_IsNumeral, decimal_digit, first_decimal, decimal-digits_value}
pub use Rattle.std.proofs.lemmas.Int.Digits.{digits_value-lt, digits_more, digits_value_more}
pub use Rattle.std.proofs.lemmas.List.{get_or-map, length-map, at_drop_more, at_drop_all, get_or_past, ext_get_or, get_or_append_left, get_or-append_right, get_or-append-add, get_or-replicate, length-replicate, drop_more, drop_all, places, take_more_set}
pub use Rattle.std.proofs.lemmas.List.Elements.{All-nil, All-cons, All-append, All-weaker, All-get_or}
pub use Rattle.std.proofs.lemmas.List.Folds.{length-prefix_len, list_all-append, drop_split}
pub use Rattle.std.proofs.lemmas.Option.{none-some, same_Some, MatchOption-at_some}
pub use Rattle.std.proofs.lemmas.Slice.Eq.{bytes_eq-Decides}
pub use Rattle.std.proofs.lemmas.Str.{IsCharBoundary-start, IsCharBoundary-end, IsCharBoundary-before_ascii, IsUtf8-take, digit_value_digit, IsCharBoundary-after_ascii, IsUtf8-drop, IsAscii-append, IsUtf8-from_ascii}
pub use Rattle.std.specs.Char.{is_ascii_hexdigit, digit_value, is_ascii_digit, to_ascii_lowercase, is_ascii_lowercase, digit_char, is_ascii_alphabetic, is_digit}
pub use Rattle.std.specs.Fmt.{debug_option, debug_str, DisplaysOnOk}
pub use Rattle.std.specs.List.{list_any, list_all, prefix_len}
pub use Rattle.std.specs.Net.Addr.{ipv4_octets, segments_of}
pub use Rattle.std.specs.Net.Grammar.{IsDotted, IsGroupsAfter, IsColonHex, IsIpv4Text}
pub use Rattle.std.specs.Net.Reader.{Read, whole_value, read_separator, read_ipv4_if, read_byte, digit_count}
unfoldable pub use Rattle.std.specs.Net.Reader.{read_ipv4, read_ipv6, read_segments, read_segment, read_number, read_octet}
pub use Rattle.std.specs.Net.Text.{dotted_text, zero_run, longest_zero_run, hex_groups_text, groups_text}
unfoldable pub use Rattle.std.specs.Net.Text.{hex, ipv6_text}
pub use Rattle.std.specs.Option.{option_map_or, option_or}
pub use Rattle.std.specs.Prelude.{⊤, slice_index}
pub use Rattle.std.specs.Result.{result_err, result_ok}
pub use Rattle.std.specs.Str.{str_to_ascii_lowercase, str_eq_ignore_ascii_case}
unfoldable pub use Rattle.std.specs.Str.{chars}
pub use Rattle.std.specs.Str.Parse.{AllDigits, IsNumeral, ParsesUnsigned, ExplainsUnsignedError, error_kind, without_leading_plus, digits_value}
pub use Rattle.uri_parts.specs.Authority.{AuthorityParts, recompose_authority, IsAuthorityFor, LackAuthorityDelimiters, after_userinfo, leading_host, after_host, authority_parts}
unfoldable pub use Rattle.uri_parts.specs.Authority.{is_authority_for}
pub use Rattle.uri_parts.specs.AuthorityTexts.{host_kind_of, HasRegisteredName, authority_text}
pub use Rattle.uri_parts.specs.Components.{Lacks, before_any, from_any, starts, marked, when, has_authority, after_query, has_scheme, after_authority, components, after_scheme, recompose, Components, IsSplitOf, IsAbemptyPath}
unfoldable pub use Rattle.uri_parts.specs.Components.{is_end}
pub use Rattle.uri_parts.specs.Errors.{IsErrorIn, IsErrorKindAt, unexpected, malformed_ipv6, stray_percent}
pub use Rattle.uri_parts.specs.Fragments.{IsWithFragment, StaysOfKind}
pub use Rattle.uri_parts.specs.Grammar.{Kind, absent_or_passes, is_scheme, is_authority, has_colon_in_first_segment, is_of_kind, uri, uri_ref, first_segment_set, kind_by_flags, IsOfKind, components_meet_rules, iri, iri_ref}
pub use Rattle.uri_parts.specs.Hosts.{HostKind, Ipv4, Ipv6, IpvFuture, RegName, IsHost, bracketed, name_kind, literal_kind, literal_of, IsIpvFuture, is_future_address}
unfoldable pub use Rattle.uri_parts.specs.Hosts.{is_host, host_kind, ipv4_value, ipv6_value, is_ipv_future}
pub use Rattle.uri_parts.specs.LiteralErrors.{closed, Groups, Groups_end, Elision, digits_end, ipv4_end, after_ipv4, after_groups, after_elision, Malformed}
unfoldable pub use Rattle.uri_parts.specs.LiteralErrors.{literal, cannot_begin_ipv6, groups_from, ipv6_end, octet_end, octets_end}
pub use Rattle.uri_parts.specs.Models.AuthorityParsing.{text_from_host}
unfoldable pub use Rattle.uri_parts.specs.Models.AuthorityParsing.{name_and_port_length, name_ends_authority, host_end, host_and_port_length, host_offset, other_authority_length, found_authority_length, other_authority, found_authority, is_empty_or_begins_with_any, port_length, further_userinfo_length, userinfo_length}
pub use Rattle.uri_parts.specs.Models.Literals.{AreLeadingHexDigits, segments_of_ipv4, BeginsNumber, text_before_bracket}
unfoldable pub use Rattle.uri_parts.specs.Models.Literals.{literal_length}
unfoldable pub use Rattle.uri_parts.specs.Models.ParseErrors.{left_over_error, name_error, error_after_port, port_error, host_error, userinfo_error, parsed_error, other_authority_error, authority_error, hier_part_error, schemeless_error}
unfoldable pub use Rattle.uri_parts.specs.Models.Parsing.{query_end_at, path_positions, authority_positions, hier_part_positions, relative_positions, schemeless_positions, parsed_positions}
pub use Rattle.uri_parts.specs.PackedPositions.{ArePackedPositionsOf, packed}
pub use Rattle.uri_parts.specs.Positions.{host_start_of, host_end_of, delimited_length, authority_at, positions_of, ArePositionsOf, before_fragment}
pub use Rattle.uri_parts.specs.Printing.{debug_host, debug_host_of, debug_field, debug_authority_of, debug_reference_of}
unfoldable pub use Rattle.uri_parts.specs.Printing.{debug_authority, debug_reference}
pub use Rattle.uri_parts.specs.Refusals.{OptionalParseError, ◌>>=◌}
unfoldable pub use Rattle.uri_parts.specs.Refusals.{error_from_end, error_from_fragment, error_from_query, error_from_path, error_from_relative_path, last_colon, error_from_host, error_from_name, error_from_authority, refusal, error_from_abempty_path, error_from_port, error_from_hier_part}
pub use Rattle.uri_parts.specs.Scanning.{ScanResult, scan_to_mark, is_next, scan_end, scan}
pub use Rattle.uri_parts.specs.SchemePorts.{scheme_ports, rows_by_letter, rows_of_letter}
unfoldable pub use Rattle.uri_parts.specs.SchemePorts.{default_port, port_ignoring_case}
pub use Rattle.uri_parts.specs.declared.error.ParseError.{ParseError}
pub use Rattle.uri_parts.specs.declared.positions.AuthorityPositions.{AuthorityPositions}
pub use Rattle.uri_parts.specs.declared.positions.Positions.{Positions}
pub use Rattle.uri_pct.proofs.Offered.{second-holds-if-first-is-false, eq_true_from_IsTrue, None-from-not-is_some, IfSome-weaken, excludes, cut, valid_prefix_at_mark_is_empty, is_valid_for_is_scanned_to_end, excluded_mark_is_not_in_set, excluded_mark_is_no_percent, valid_prefix-ends-by-mark, valid_prefix_by_first_byte, empty_text_has_empty_valid_prefix, valid_prefix_ends_at_boundary, length_before_marks, AreAscii-by-test, AreAscii, first_mark_is_at_boundary, cut_leaves_mark_or_nothing, length_before_marks_counts_other_byte, ascii_byte_has_no_continuation, length_before_mark_at_start_is_zero, valid_prefix_passes_ascii_char_of_set, unscanned_percent_has_no_hex_digits, successor_is_not_zero, valid_prefix_stops_where_none_may_begin, valid_prefix_of_superset_goes_on_from_subset, nothing_is_scanned_after_valid_prefix}
pub use Rattle.uri_pct.specs.Delimiters.{at_sign, colon, full_stop, left_bracket, number_sign, percent_sign, question_mark, right_bracket}
pub use Rattle.uri_pct.specs.EncodedTexts.{text_of}
pub use Rattle.uri_pct.specs.Prefixes.{valid_prefix, after}
unfoldable pub use Rattle.uri_pct.specs.Prefixes.{valid_prefix_from, allows_first, begins_with_hex_digits, first_char}
pub use Rattle.uri_pct.specs.Sets.{TableSet, is_one_of, digit_set, ipv_future_set, userinfo_set, reg_name_set, LacksPercent, IsSubset, hexdig_set, is_userinfo_char, is_reg_name_char, scheme_set, ireg_name_set, iuserinfo_set, characters_only, is_scheme_char, is_segment_nz_nc_char, path_set, is_path_char, segment_nz_nc_set, query_set, fragment_set}
unfoldable pub use Rattle.uri_pct.specs.Sets.{allows_past_ascii, is_ucschar, is_iprivate}
pub use Rattle.uri_pct.specs.Tokens.{IsValidFor}
unfoldable pub use Rattle.uri_pct.specs.Tokens.{is_valid_for, tokens_from_chars}
