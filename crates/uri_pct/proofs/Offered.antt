-- What proofs of the crates above may use of those of this crate, by `tools/reach`.
pub use Rattle.uri_pct.proofs.Decodings.Decoding.{BeginsWithOctet, boundary_after_octet, bytes_from_percent_begin_with_octet, every_set_is_subset_of_widest, first_percent_is_at_boundary, len_before_percent, prefix_len_bytes_pass, tokens_after_unencoded_prefix}
pub use Rattle.uri_pct.proofs.Decodings.OctetTexts.{octet_entry_is_printed_octet, octet_table_is_ascii}
pub use Rattle.uri_pct.proofs.EncodedTexts.EncodedTokens.{encoded_char_is_printable, is_eight_bit, octets_are_allowed_if_pct_encoded, utf8_bytes_are_eight_bit}
pub use Rattle.uri_pct.proofs.EncodedTexts.Encodings.{allowed_char_is_printed_literally, disallowed_char_is_encoded_as_octets, octets_decode_to_their_bytes, pieces_of_text_are_encoded_as_text, print-append}
pub use Rattle.uri_pct.proofs.General.{IfSome-combine, IfSome-weaken, None-from-is_none, None-from-not-is_some, bit_is_failing_test, eq_true_from_IsTrue, is_none-option_map, is_some-option_map, none-is-not-some, not_some_is_none, second-holds-if-first-is-false, some_is_not_none}
pub use Rattle.uri_pct.proofs.LaneScans.LaneBits.{bit_of_right_shift, equality_mask_is_below_2_16, is_set_bit, mask_bit_is_equality_of_byte, mask_bit_is_test_of_byte}
pub use Rattle.uri_pct.proofs.LaneScans.LaneMasks.{lanes_fit_swizzle, swizzle_is_lookup}
pub use Rattle.uri_pct.proofs.LaneScans.LaneRuns.{MarksFailingLanes, last_load_marks_failing_lanes, run_ends_at_first_marked_lane, run_goes_on_past_unmarked_lanes}
pub use Rattle.uri_pct.proofs.TableSets.Constants.{constant_tables, digit_masks_are_digit_set, isegment_nz_nc_masks_are_isegment_nz_nc_set, past_ascii_is_no_hexdigit, reserved_table_allows_reserved_only, scheme_masks_are_scheme_set, segment_nz_nc_masks_are_segment_nz_nc_set}
pub use Rattle.uri_pct.proofs.TableSets.Masks.{bit_of_bit_and, bit_of_bit_or, has_bit-only-ascii, has_bit_past_ascii_is_false}
pub use Rattle.uri_pct.proofs.TableSets.Percent.{lacks_percent}
pub use Rattle.uri_pct.proofs.Theorems.{encoding_laws}
pub use Rattle.uri_pct.proofs.Unicode.AsciiOctets.{ascii_byte_is_utf8}
pub use Rattle.uri_pct.proofs.Unicode.CharacterPieces.{byte_below_80_or_from_c0_is_no_continuation, char_of_utf8_is_the_char, first_char_is_first_piece, first_piece_is_of_character, utf8_pieces-are-of-characters}
pub use Rattle.uri_pct.proofs.Unicode.Characters.{HasEncoding, char_has_encoding, char_past_ascii_begins_past_ascii, encoded_chars_begin_with_same_hex_digits, hexdigit_is_ascii, is_no_ascii_byte}
pub use Rattle.uri_pct.proofs.Unicode.Lossy.{lossy_text-is-utf8_lossy}
pub use Rattle.uri_pct.proofs.Unicode.PartPieces.{printable_char_is_scalar, unencoded_text_decodes_to_itself}
pub use Rattle.uri_pct.proofs.Unicode.Pieces.{first_piece_has_first_bytes, first_piece_tail_is_within_rest, pieces_from_are_pieces_after_skipped_bytes, take_then_take_is_take_of_sum, utf8_pieces_are_cut_at_non_continuation}
pub use Rattle.uri_pct.proofs.UnreservedDecoding.DecodedTokens.{char_separates_decoded_tokens, decodable_char_octets_decode_as_char, decodable_char_octets_split_decoding, decode_tokens_keeps_tokens_printable, decode_unreserved_keeps_bytes, decode_unreserved_keeps_tokens_allowed, decode_unreserved_keeps_tokens_printable, octets_before_tokens_lengthen_run, printed_decode_unreserved_stays_valid}
pub use Rattle.uri_pct.proofs.UnreservedDecoding.DecodedTwice.{decode_unreserved_is_idempotent, decoding_keeps_lowered_decoded_text}
pub use Rattle.uri_pct.proofs.UnreservedDecoding.Formatting.{ascii_char_is_no_formatting_char, ascii_char_separates_encode_formatting, encode_formatting_commutes_with_lowering, encode_formatting_without_flags_keeps_tokens, lowercase_keeps_char_past_ascii, lowering_keeps_octets, never_literal_is_formatting_if_both_flags}
pub use Rattle.uri_pct.proofs.UnreservedDecoding.Octets.{text_is_decoded_octet_by_octet_in_uri}
pub use Rattle.uri_pct.proofs.UnreservedDecoding.Printing.{char_but_percent_is_its_own_token, chars_of_printed_tokens, chars_of_token, chars_of_token_encode_to_its_text, octet_digits_are_hexadecimal, printed_tokens_are_utf8, printed_tokens_are_valid_iff_allowed, printed_tokens_parse_to_themselves, scalars-append}
unfoldable pub use Rattle.uri_pct.proofs.UnreservedDecoding.Printing.{print_decoded}
pub use Rattle.uri_pct.proofs.UnreservedDecoding.Representations.{represented_tokens_are_tokens_of_text, text_represents_its_printable_tokens}
pub use Rattle.uri_pct.proofs.ValidTexts.Allowed.{allowed_past_ascii_is_scalar, decodable_char_is_printable, hexdigit_value_is_below_16, lowered_tokens_are_allowed, lowered_tokens_are_printable, lowering_tokens_is_idempotent, unreserved_is_ascii, valid_text_has_printable_tokens}
pub use Rattle.uri_pct.proofs.ValidTexts.Appending.{valid_text_after_valid_text_is_valid}
pub use Rattle.uri_pct.proofs.ValidTexts.Cuts.{cut, excluded_mark_is_no_percent, excluded_mark_is_not_in_set, excludes, is_valid_for_is_scanned_to_end, valid_prefix-ends-by-mark, valid_prefix_at_mark_is_empty, valid_prefix_by_first_byte}
pub use Rattle.uri_pct.proofs.ValidTexts.Delimiters.{rsplit_once_cuts_at_last}
pub use Rattle.uri_pct.proofs.ValidTexts.EStrs.{empty_text_is_valid, valid_for_superset}
pub use Rattle.uri_pct.proofs.ValidTexts.Literals.{char_from_a0_to_d7ff_is_allowed, literal_text_is_valid}
pub use Rattle.uri_pct.proofs.ValidTexts.LongestPrefixes.{empty_text_has_empty_valid_prefix, valid_prefix_ends_at_boundary, valid_prefix_is_longest, valid_prefix_is_valid}
pub use Rattle.uri_pct.proofs.ValidTexts.MarksInTexts.{AreAscii, AreAscii-by-test, ascii_byte_has_no_continuation, cut_leaves_mark_or_nothing, first_mark_is_at_boundary, length_before_mark_at_start_is_zero, length_before_marks, length_before_marks_counts_other_byte, test_holds_of_each}
pub use Rattle.uri_pct.proofs.ValidTexts.PrefixSteps.{successor_is_not_zero, unscanned_percent_has_no_hex_digits, valid_prefix_by_first_char, valid_prefix_passes_ascii_char_of_set, valid_prefix_passes_octet, valid_prefix_stops_at_ascii_outside_set, valid_prefix_stops_at_stray_percent, valid_prefix_stops_where_none_may_begin}
pub use Rattle.uri_pct.proofs.ValidTexts.Prefixes.{nothing_is_scanned_after_valid_prefix, valid_prefix_is_at_most_length, valid_prefix_of_superset_goes_on_from_subset}
pub use Rattle.uri_pct.proofs.ValidTexts.TokenCuts.{ascii_byte_is_first_of_chars, reserved_is_never_in_octet, valid_before_mark}
pub use Rattle.uri_pct.proofs.ValidTexts.Validity.{ascii_char_is_allowed_iff_in_set, ascii_first_byte_is_allowed_iff_in_set, char_past_ascii_is_allowed_by_flags, chars_not_pct_encoded_begin_no_octet, first_byte_past_ascii_is_allowed_by_its_char, validity_by_first_byte, validity_of_tokens_is_validity_of_bytes}
unfoldable pub use Rattle.uri_pct.proofs.ValidTexts.Validity.{valid_from}
