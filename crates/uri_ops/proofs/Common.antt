-- What proofs import from std, from lower crates and from `specs/`: the modules that three
-- files or more use.
pub use Rattle.std.proofs.Common.{◌≡◌, ℕ, zero, suc, ◌<◌, Bool, true, false, eqb, ltb, List, [], ◌∷◌, ◌++◌, take, refl, sym, ap, subst, ◌∙◌, arith, ◌&&◌, ⊎_elim, map, inl, inr, option_map, not, length, ◌||◌, ◌≤◌, nat_lt, lit<, ◌+◌, ◌-◌, drop, append_assoc, length-append, get_or, cond, Err, ◌*◌, ◌/◌, ◌%◌, string_bytes, ◌^◌, ◌⊎◌, set, add-one, MatchOption, Bor, replicate, All, add-zero, bit_and, bit_or, w64, pow_mono, rules, drop-cons, tests, leb, vec_capacity, vec_len, slice_set, le-leb, if◌then◌else◌}
pub use Rattle.std.proofs.Math.Bool.{or-false, or_assoc, and-false}
pub use Rattle.std.proofs.Math.Seq.{take-add, take-append_seam, drop-append_seam, take-append-add, take-suc, take-length}
pub use Rattle.std.proofs.Math.Utf8.{low_scalar}
pub use Rattle.std.proofs.NetLemmas.Alphabet.{IsDigitOrDot}
pub use Rattle.std.proofs.lemmas.Bool.{cases_Bool, cases_lt, cond-true, cond-false, and_parts, and_from, lt-ltb, both_ways, eqb-true, or_right, le-ltb, not-true, not_from_false, ltb-true, false_from_ne_true, and_right, cond_both, and_left, false≢true, agree_below_at, ne_eqb, or_parts, or_from, leb-true, or_left, not-false, or_cases, and_cases, ltb-false, true≢false, lt-leb, agree_below}
pub use Rattle.std.proofs.lemmas.Bool.Decides.{nat_tests, Decides-eqb, Decides-and, Decides-like}
pub use Rattle.std.proofs.lemmas.Grind.{common_steps}
pub use Rattle.std.proofs.lemmas.List.{append-nil, map-append, length-drop, take_all, nil_from_length, take-append-drop, get_or_append_left, get_or_at, length-take, drop_all, take-append-le, drop_more, get_or-drop, take_at, drop_at, get_or_past, length-replicate, drop-drop, length-map, get_or-take, length-take-le, take-take, drop-append-le, get_or-append-add, length-set, take_more_set}
pub use Rattle.std.proofs.lemmas.List.Concat.{flat_map-append}
pub use Rattle.std.proofs.lemmas.List.Elements.{All-weaker, All-nil, All-cons, All-append, All-replicate, All-get_or, All-head, All-tail, All-from_get_or}
pub use Rattle.std.proofs.lemmas.List.Folds.{list_all-append, list_any-append}
pub use Rattle.std.proofs.lemmas.List.Sums.{list_all-from_AllPass}
pub use Rattle.std.proofs.lemmas.Result.{IfErr-weaker, IfOk-weaker, on_ok_weaker}
pub use Rattle.std.proofs.lemmas.Slice.Eq.{bytes_eq-Decides, slice_eq-Decides}
pub use Rattle.std.proofs.lemmas.Str.{IsUtf8-from_is_utf8, is_utf8-from_IsUtf8, IsUtf8-append, IsUtf8-nil, chars-encodes, chars-IsAscii, encode_ascii, encode_same, length-encode, len_utf8_bounds, chars-append, chars-nil, IsUtf8-take, IsUtf8-drop, IsCharBoundary-before_ascii, cons_from_encodes, IsCharBoundary-from_take, IsUtf8-from_ascii, IsAscii-append, IsAscii-drop, IsAscii-take, encodes-chars, scalars-chars, IsUtf8-encode, IsCharBoundary-from_rest, IsCharBoundary-after_ascii, IsCharBoundary-from_drop, IsCharBoundary-at_seam, IsCharBoundary-start, IsUtf8-past_char, chars_past_char, IsUtf8-string_bytes, IsUtf8-had}
pub use Rattle.std.proofs.lemmas.Str.Ascii.{lowercase_ascii, lowercase-lowercase, IsAscii-nil, IsAscii-push}
pub use Rattle.std.specs.Char.{is_ascii_hexdigit, is_ascii_digit, is_ascii_alphabetic, IsScalar, digit_value, to_ascii_lowercase, digit_char, is_ascii_uppercase, len_utf8}
unfoldable pub use Rattle.std.specs.Char.{encode_utf8}
pub use Rattle.std.specs.Fmt.{digit_glyph, decimal}
unfoldable pub use Rattle.std.specs.Fmt.{digits}
pub use Rattle.std.specs.Int.{is_in_range, bit_at, trailing_zeros, leading_zeros}
pub use Rattle.std.specs.List.{list_all, flat_map, list_any, position_or_len, prefix_len, onto_first, position}
pub use Rattle.std.specs.Net.Grammar.{IsDotted, IsGroup, IsGroupsAfter, IsColonHex, IsGroups, IsElided}
unfoldable pub use Rattle.std.specs.Net.Reader.{read_ipv6, read_ipv4, read_octet, read_number, read_segment, read_segments}
pub use Rattle.std.specs.Net.Text.{groups_text, zero_run, longest_zero_run, compressed_text}
unfoldable pub use Rattle.std.specs.Net.Text.{ipv6_text, hex, hex_groups_text}
pub use Rattle.std.specs.Option.{option_map_or, option_and_then, option_eq, option_or}
pub use Rattle.std.specs.Prelude.{codes, Option, Some, None, IfSome, IfNone, is_some, slice_index, unwrap_or, Result, Ok, is_none, is_ok, ◌==◌, bytes_eq, ◌↔◌, slice_range, IfErr, IsErrAnd, IfOk, ⊤}
pub use Rattle.std.specs.Result.{result_map_both}
pub use Rattle.std.specs.Str.{IsUtf8, is_utf8, encode_utf8_all, all_scalars, str_to_ascii_lowercase, IsAscii, IsCharBoundary, continuation_len}
unfoldable pub use Rattle.std.specs.Str.{chars}
pub use Rattle.std.specs.Str.Iter.{chars_rest}
pub use Rattle.uri_ops.specs.BuilderParts.{lacks_host_and_port, lacks_port, AddsOrFails, AddsUnlessFailed, BuilderParts, with_authority, with_fragment, with_path, with_query, with_scheme, with_more_authority, MeetsOrFailed, as_components, meet_rules, parts_text, with_host, with_port, with_userinfo}
unfoldable pub use Rattle.uri_ops.specs.BuilderParts.{is_authority_text, is_scheme_text, is_text_for}
pub use Rattle.uri_ops.specs.Builders.{draft_parts, lacks_query_and_fragment, lacks_all, lacks_authority, lacks_path, any_authority, ends_in_authority, is_at_end, has_path, has_path_before_fragment, has_path_last, has_needed_scheme}
unfoldable pub use Rattle.uri_ops.specs.Builders.{is_in_order, is_fresh}
pub use Rattle.uri_ops.specs.Built.{IsTextOfParts, refusal}
unfoldable pub use Rattle.uri_ops.specs.Built.{build_error_of_path}
pub use Rattle.uri_ops.specs.ComponentSets.{IsComponentSet, HasComponentSets, IsWithin}
pub use Rattle.uri_ops.specs.Dots.{is_empty, has_slash, IsAbsolute, before_last_slash, is_dot_segment, is_double_dot, is_single_dot, lacks_dot_segments, dots, segments, EndsInSlash, Buffers, or_slash, step, buffers_after_removal, last_segment}
unfoldable pub use Rattle.uri_ops.specs.Dots.{remove_dot_segments, underflows, directory, run}
pub use Rattle.uri_ops.specs.Drafts.{after_part, parts_in, part_in, IsDraft, lengths_of}
pub use Rattle.uri_ops.specs.Encoded.{ascii_set, ascii_kind, encode_byte_past_ascii}
unfoldable pub use Rattle.uri_ops.specs.Encoded.{encode_past_ascii, AreEquivalent}
pub use Rattle.uri_ops.specs.FromEnd.Held.{held_text}
pub use Rattle.uri_ops.specs.FromEnd.LastTokens.{IsAsciiSuffix, LacksPercentThird, EndInNoOctet, EndInNoDecodable, TokensEndInNoDecodable, EndsInDecodable}
pub use Rattle.uri_ops.specs.FromEnd.Literals.{cased}
pub use Rattle.uri_ops.specs.FromEnd.NormalComponents.{normal_component}
pub use Rattle.uri_ops.specs.FromEnd.OctetsBack.{octets_unread}
pub use Rattle.uri_ops.specs.FromEnd.SegmentsLeft.{is_abempty_path, with_segment}
unfoldable pub use Rattle.uri_ops.specs.FromEnd.SegmentsLeft.{segments_left, without_last_segments}
pub use Rattle.uri_ops.specs.HostParts.{IsHostText}
pub use Rattle.uri_ops.specs.Meaning.{Name, host_meaning, authority_meaning, dotless_path, components_meaning, meaning_of, AuthorityMeaning, port_meaning, HostMeaning, FutureAddress, Meaning, bare_meaning_of, under, Address}
pub use Rattle.uri_ops.specs.Models.Decodings.{lowered_code_if, lowered_if, cased_append, lowered_text_if, IsOctetAt, KeepsPrefixWhenDecoded, decoded_parts, decoded_text, AppendsDecodedParts}
pub use Rattle.uri_ops.specs.Models.Directories.{BeginsWith, EndsIn, IsDotlessDirectory, RemovalState, parent_directory, IsCutAtSegment}
pub use Rattle.uri_ops.specs.Models.DraftPlaces.{IsHostAtIfSome, IsHostAt, HasRightHostRange, positions_from_lengths, delimited_len}
pub use Rattle.uri_ops.specs.Models.LeadingSegments.{begins_with_dot, BeginsWithoutDotSegment, dot_len, ends_segment, IsPrefixToSlashDot, IsDotlessPrefix, has_slash_dot_at, IsFirstSegment}
pub use Rattle.uri_ops.specs.Models.Places.{before_path, IsSlashOrStart}
pub use Rattle.uri_ops.specs.Models.RuledComponents.{changed_components, has_default_host, has_root_path, is_text, ruled_text, ruled_components, ruled_path, ruled_authority}
pub use Rattle.uri_ops.specs.Models.TargetCases.{IsCaseOf, target_in_case}
pub use Rattle.uri_ops.specs.Models.TargetPieces.{HasJoinedPath, IsDirectoryOfBase}
pub use Rattle.uri_ops.specs.Models.Unchanged.{is_literal_at, HasUnchangedOctets, has_unchanged_octets, is_octet_unchanged_at, is_unchanged_octet, keeps_digits, is_dot_unchanged_at, is_literal_byte, is_unchanged_at, IsUnchangedPath, IsUnchangedHost, is_unchanged_host_byte, AreUnchanged, IsUnchangedPort, KindLacksPastAscii, IsUnchangedPrefix, IsLiteralRun}
pub use Rattle.uri_ops.specs.Models.Written.{authority_parts_at, positions_by_authority_parts}
pub use Rattle.uri_ops.specs.Normal.{host_text, normal_authority, normal_path, normal_path_text, normal_parts, normal_text, normal_components, normal_scheme, default_port_of, normal_part, path_underflows, normal_authority_with_delimiter}
pub use Rattle.uri_ops.specs.NormalTargets.{reference_kind, resolved_meaning, HasMeaningOf, HasTargetMeaning, IsErrorUnderSetting, IsNormalFormOfTarget, IsTargetOfMeanings, IsErrorOfMeanings, IsNormalTarget, IsNormalTargetError}
pub use Rattle.uri_ops.specs.Normalizers.{HasNormalText, IsNormalForm, scheme_rules_of}
unfoldable pub use Rattle.uri_ops.specs.Normalizers.{text_underflows}
pub use Rattle.uri_ops.specs.Resolving.{IsTargetOfEncoded, IsErrorForEncoded, IsTarget, IsErrorFor, with_final_path, IsErrorWithUnderflowAllowed, components_of, base_of}
pub use Rattle.uri_ops.specs.SchemeRules.{Rules, meaning_under, under_rules, authority_under, empty_authority, has_no_token, is_localhost, is_scheme_of, path_under, root, only_ports, default_rules}
pub use Rattle.uri_ops.specs.Target.{dotless_if_absolute, guarded, TargetError, is_opaque_rejection, merged, dotted_target, target_of, target_underflows, resolution_of, is_fragment_only, query_or, InvalidReferenceAgainstOpaqueBase, underflows_if_absolute, is_opaque, BaseWithFragment, resolution_of_texts}
pub use Rattle.uri_ops.specs.declared.build.draft.Draft.{Draft}
pub use Rattle.uri_ops.specs.declared.build.lengths.Lengths.{Lengths}
pub use Rattle.uri_ops.specs.declared.resolve.error.ResolveError.{ResolveError}
pub use Rattle.uri_ops.specs.declared.resolve.target_case.TargetCase.TheVariants.{WithScheme, AbsolutePath}
pub use Rattle.uri_parts.proofs.Offered.{is_authority_for-sound, is_authority_for-complete, authority_parts-are-unique, names_exclude_delimiters, empty_is_authority, reg_name_host_is_valid, host_is_at_positions, holds, utf8_before_marks, ipv6-text-is-address-text, ipv4_value-sound, ipv6_value-sound, ipv4-text-is-digits-and-dots, ipv4-text-lacks-name-marks, ipv6-text-lacks-excluded-marks, ipvfuture-text-lacks-excluded-marks, joined-texts-lack-marks, hexdigit_is_userinfo_char, address-in-brackets-is-utf8, is_host-sound, lacking_text_does_not_begin_with, is_host-complete, IsEmptyOrMarked, text-is-cut-at-first-mark, cut-at-end-of-text-without-marks, slice_range-from-start, boundary-at-fragment-mark, query_text, cons_is_not_nil, fragment_text, authority_has_abempty_path, boundary_after_mark, length-before_hash, before_hash, split-text-is-before-fragment-and-fragment, slice-between-prefix-and-suffix, recompose-components, components-are-split-of-text, equal-to-true-is-IsTrue, components_of_parts, scheme_set_lacks_percent, scheme_set_excludes_delimiters, only-split-is-components, valid_text_lacks_excluded_marks, utf8_around_ascii_byte, scheme-rule-holds-without-need, uri_has_scheme, uri_is_uri_ref, iri_has_scheme, iri_is_iri_ref}
unfoldable pub use Rattle.uri_parts.proofs.Offered.{is_address_char, is_address_text}
pub use Rattle.uri_parts.specs.Authority.{authority_parts, AuthorityParts, IsAuthorityFor, LackAuthorityDelimiters, recompose_authority}
unfoldable pub use Rattle.uri_parts.specs.Authority.{is_authority_for}
pub use Rattle.uri_parts.specs.AuthorityTexts.{host_kind_of, authority_text}
pub use Rattle.uri_parts.specs.Components.{Components, components, marked, recompose, IsSplitOf, Lacks, IsAbemptyPath, starts, has_scheme, from_any, before_any, has_authority, after_scheme, after_authority, after_query, when}
pub use Rattle.uri_parts.specs.CoreTexts.{core_text}
pub use Rattle.uri_parts.specs.Grammar.{Kind, is_authority, IsTextOf, is_scheme, has_colon_in_first_segment, components_meet_rules, IsOfKind, absent_or_passes, uri, uri_ref, iri, iri_ref, kind_by_flags}
pub use Rattle.uri_parts.specs.Hosts.{HostKind, Ipv4, Ipv6, IpvFuture, RegName, IsHost, bracketed, IsIpv4Text, IsIpv6Text, literal_kind, literal_of, name_kind, IsIpvFuture}
unfoldable pub use Rattle.uri_parts.specs.Hosts.{host_kind, ipv4_value, ipv6_value, is_host}
pub use Rattle.uri_parts.specs.PackedPositions.{ArePackedPositionsOf, packed}
pub use Rattle.uri_parts.specs.Ports.{PortFunction, is_default, no_defaults}
pub use Rattle.uri_parts.specs.Positions.{ArePositionsOf, authority_at, host_end_of, host_start_of, delimited_length, positions_of, before_fragment}
pub use Rattle.uri_parts.specs.declared.positions.AuthorityPositions.{AuthorityPositions}
pub use Rattle.uri_parts.specs.declared.positions.Positions.{Positions}
pub use Rattle.uri_pct.proofs.Offered.{BeginsWithOctet, bytes_from_percent_begin_with_octet, every_set_is_subset_of_widest, len_before_percent, boundary_after_octet, tokens_after_unencoded_prefix, first_percent_is_at_boundary, prefix_len_bytes_pass, IfSome-weaken, IfSome-combine, eq_true_from_IsTrue, is_none-option_map, is_some-option_map, not_some_is_none, None-from-is_none, second-holds-if-first-is-false, none-is-not-some, some_is_not_none, bit_of_right_shift, is_set_bit, equality_mask_is_below_2_16, mask_bit_is_equality_of_byte, byte_below_80_or_from_c0_is_no_continuation, first_piece_is_of_character, utf8_pieces-are-of-characters, first_char_is_first_piece, char_of_utf8_is_the_char, hexdigit_is_ascii, char_has_encoding, is_no_ascii_byte, char_past_ascii_begins_past_ascii, utf8_pieces_are_cut_at_non_continuation, first_piece_tail_is_within_rest, first_piece_has_first_bytes, pieces_from_are_pieces_after_skipped_bytes, take_then_take_is_take_of_sum, decodable_char_octets_split_decoding, octets_before_tokens_lengthen_run, char_separates_decoded_tokens, decodable_char_octets_decode_as_char, printed_decode_unreserved_stays_valid, decode_unreserved_keeps_bytes, decode_unreserved_keeps_tokens_allowed, decode_tokens_keeps_tokens_printable, ascii_char_separates_encode_formatting, lowering_keeps_octets, lowercase_keeps_char_past_ascii, ascii_char_is_no_formatting_char, never_literal_is_formatting_if_both_flags, encode_formatting_commutes_with_lowering, printed_tokens_parse_to_themselves, printed_tokens_are_utf8, char_but_percent_is_its_own_token, printed_tokens_are_valid_iff_allowed, chars_of_token, chars_of_printed_tokens, allowed_past_ascii_is_scalar, valid_text_has_printable_tokens, decodable_char_is_printable, unreserved_is_ascii, lowered_tokens_are_printable, lowered_tokens_are_allowed, lowering_tokens_is_idempotent, hexdigit_value_is_below_16, excludes, valid_for_superset, empty_text_is_valid, AreAscii-by-test, test_holds_of_each, length_before_mark_at_start_is_zero, length_before_marks_counts_other_byte, AreAscii, validity_of_tokens_is_validity_of_bytes, first_byte_past_ascii_is_allowed_by_its_char, ascii_char_is_allowed_iff_in_set, char_past_ascii_is_allowed_by_flags, chars_not_pct_encoded_begin_no_octet, validity_by_first_byte, ascii_first_byte_is_allowed_iff_in_set}
unfoldable pub use Rattle.uri_pct.proofs.Offered.{print_decoded, valid_from}
pub use Rattle.uri_pct.specs.Chunks.{widest_set, Chunk, Text, Byte}
unfoldable pub use Rattle.uri_pct.specs.Chunks.{prepend_to_chunks, chunks_of_tokens}
pub use Rattle.uri_pct.specs.DecodeUnreserved.{decode_unreserved, lower_token, decode_tokens, encode_formatting, decode_octet, decode_piece, formatting_as_octets, is_printable, LacksPastAscii, encoded_formatting_char, encoded_formatting_text}
unfoldable pub use Rattle.uri_pct.specs.DecodeUnreserved.{is_decodable, decode_run, decode_after_run, is_bidi_formatting, is_never_literal}
pub use Rattle.uri_pct.specs.Delimiters.{left_bracket}
pub use Rattle.uri_pct.specs.EncodedTexts.{text_of}
pub use Rattle.uri_pct.specs.Encoding.{encode_char, encode_text, encode_piece}
pub use Rattle.uri_pct.specs.Parts.{ArePastAscii, Decoded, parts, Part, Literal}
unfoldable pub use Rattle.uri_pct.specs.Parts.{parts_from}
pub use Rattle.uri_pct.specs.Pieces.{utf8_pieces, Piece, WellFormed, IllFormed, ByteRange, piece_bytes, char_of, len_in_ranges, first_piece_tail_len, first_piece, following_ranges, IsOfCharacter}
unfoldable pub use Rattle.uri_pct.specs.Pieces.{pieces_from}
pub use Rattle.uri_pct.specs.Prefixes.{first_char}
unfoldable pub use Rattle.uri_pct.specs.Prefixes.{allows_first, begins_with_hex_digits}
pub use Rattle.uri_pct.specs.Sets.{TableSet, LacksPercent, digit_set, is_userinfo_char, allows, is_scheme_char, scheme_set, is_one_of, reg_name_set, is_unreserved, unreserved_set, IsSubset, ipv_future_set, is_reg_name_char, is_pchar, is_path_char, is_query_char, ireg_name_set}
unfoldable pub use Rattle.uri_pct.specs.Sets.{allows_past_ascii, is_ucschar, is_iprivate}
pub use Rattle.uri_pct.specs.Tables.{set_of}
pub use Rattle.uri_pct.specs.Texts.{lacks, is_absolute}
pub use Rattle.uri_pct.specs.Tokens.{IsValidFor, Token, Char, Octet, tokens, allows_token, bytes_decoded_from, bytes_of_one_token, text_of_token, print}
unfoldable pub use Rattle.uri_pct.specs.Tokens.{is_valid_for, tokens_from_chars, is_pct_encoded}
