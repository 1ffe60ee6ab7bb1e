-- What proofs import from std and from `specs/`: the modules that three files or more use.
pub use Rattle.std.proofs.Common.{ℕ, ◌+◌, ◌*◌, ◌≤◌, Bool, true, false, cond, List, [], ◌∷◌, length, ap, arith, IsUtf8, ◌≡◌, suc, ◌<◌, ◌≢◌, eqb, not, ◌++◌, get_or, take, drop, map, refl, sym, ◌∙◌, subst, ⊎_elim, append_assoc, lit<, add-zero, IsCharBoundary, length-drop, zero, ◌&&◌, ◌||◌, ltb, ◌/◌, ◌%◌, IsAscii, bytes_eq, Some, string_bytes, Result, Ok, Err, OnOk, is_ok, codes, ◌-◌, length-take, rules, option_map, Option, None, IsTrue, IfSome, is_some, is_none, ◌^◌, leb, w64, bit_and, nat_le, bit_or, min, replicate, w8, Fits, T, pow_mono, slice_index_or, inl, ◌⊎◌, inr, lit≤, slice_index, take_at, drop_at, unwrap_or, ◌↔◌, take_all, zero-add, ◌==◌, length-append, nat_lt, MatchOption, Bor, OnErr, if◌then◌else◌, length-take-le, add-one, String, Vec, Global}
pub use Rattle.std.proofs.Math.Bool.{and-true, or-false}
pub use Rattle.std.proofs.Math.ListN.{get_or-map}
pub use Rattle.std.proofs.Math.Seq.{take-append_seam, drop-append_seam, get_or-append_seam, take-append-add, drop-append-add}
pub use Rattle.std.proofs.Math.Utf8.{scalar_cases, low_scalar}
pub use Rattle.std.proofs.lemmas.Bool.{cases_Bool, cases_lt, cond-true, cond-false, and_parts, and_from, eqb-true, eqb-false, ne_eqb, not-true, not-false, not_from_false, false≢true, false_from_ne_true, ltb-true, lt-ltb, both_ways, eq-eqb, and_right, leb-true, le-leb, or_cases, le-ltb, agree_below_at, or_left, or_right, or_parts, or_from, lt-leb, agree_below, cases_eq, and_left, not_from_true}
pub use Rattle.std.proofs.lemmas.Bool.Decides.{nat_tests, Decides-below_and, Decides-by_and, Decides-ltb}
pub use Rattle.std.proofs.lemmas.List.{append-nil, take-append-drop, drop_all, get_or-drop, drop-drop, take-append-le, take-take, nil_from_length, get_or_default, length-map, ext_get_or, drop-take, map-append, drop_more, at_drop_more}
pub use Rattle.std.proofs.lemmas.List.Concat.{flat_map-append}
pub use Rattle.std.proofs.lemmas.List.Elements.{All-head, All-tail, All-same, All-take, All-drop, All-from_recursion}
pub use Rattle.std.proofs.lemmas.List.Folds.{list_all-append, list_any_none, list_any_more}
pub use Rattle.std.proofs.lemmas.List.Sums.{count_by-le-length, prefix_len-le-length, prefix_len_stops, position_or_len_is, AllPass-from_list_all, prefix_len_is}
pub use Rattle.std.proofs.lemmas.Nat.{and_le_l, shr-shr, and_mask, pow_pos, shr_below, or_lt, and_le_r}
pub use Rattle.std.proofs.lemmas.Nat.Bits.{bit_at-zero, bit_at_above, bit_at_ones, bit_at-lt, bit_at_and, bit_at_cat_high, bit_at_cat_low, bit_at-trailing_zeros, and_pow, shr_and_one, bit_at_or, bit_at_not, bit_at_set_same, bit_at_set_other, same_from_bits_below}
pub use Rattle.std.proofs.lemmas.Result.{on_ok_weaker}
pub use Rattle.std.proofs.lemmas.Simd.{bit_mask_l, mask_l-lt, get_or-chunk, length-chunk, swz_l, SwzOk, SwzOk-from_Each1, Each1-from_get_or, Each1-get_or, length-swz_l, get_or-swz_l, zip2_of_maps, bitmask_splat, map-map, zip2_splat}
pub use Rattle.std.proofs.lemmas.Str.{encodes-chars, length-le-encodes, chars-append, chars-encodes, encode_ascii, scalars-chars, IsUtf8-take, IsUtf8-drop, IsCharBoundary-after_ascii, chars_past_char, length-encode, IsCharBoundary-past_char, drop_past_char, IsUtf8-from_ascii, IsUtf8-append, IsUtf8-nil, IsUtf8-encode, IsUtf8-from_is_utf8, is_utf8-from_IsUtf8, utf8_valid_len_le, utf8_lossy_step, utf8_lossy-IsUtf8, encodes-append, chars-nil, IsCharBoundary-at_seam, IsCharBoundary-before_ascii, IsCharBoundary-from_take, IsUtf8-string_bytes, IsCharBoundary-start, IsCharBoundary-from_ascii}
pub use Rattle.std.proofs.lemmas.Str.Ascii.{IsAscii-from_all, IsAscii-nil, IsAscii-push, lowercase-lowercase}
pub use Rattle.std.specs.Char.{digit_value, is_ascii_hexdigit, IsScalar, len_utf8, is_ascii_alphabetic, is_ascii_digit, to_ascii_lowercase}
unfoldable pub use Rattle.std.specs.Char.{encode_utf8}
pub use Rattle.std.specs.Int.{bit_at, trailing_zeros, bit_not, is_in_range}
pub use Rattle.std.specs.List.{slice_split, list_all, position_or_len, prefix_len, flat_map, All, list_any, find, AllByRecursion, repeat, onto_first, copy_within}
pub use Rattle.std.specs.Simd.Lanes.{mask_l, chunk, zip2, top, digits_l, Each1}
pub use Rattle.std.specs.Str.{encode_utf8_all, all_scalars, continuation_len, is_utf8, chars_after, lead_bits}
unfoldable pub use Rattle.std.specs.Str.{chars}
pub use Rattle.std.specs.Str.Chunks.{utf8_chunks_rest, utf8_chunk_valid, utf8_chunk_invalid}
pub use Rattle.std.specs.Str.Lossy.{utf8_invalid_len, error_len_after_one, second_byte_min, second_byte_max, valid_len_up_to, utf8_lossy, replacement_bytes, after_first_chunk}
unfoldable pub use Rattle.std.specs.Str.Lossy.{utf8_error_len, utf8_valid_len}
pub use Rattle.uri_pct.specs.Chunks.{Chunk, Text, Byte, chunks, widest_set, chunk_bytes}
unfoldable pub use Rattle.uri_pct.specs.Chunks.{prepend_to_chunks, chunks_of_tokens}
pub use Rattle.uri_pct.specs.DecodeUnreserved.{is_printable, decode_unreserved, decode_octet, lower_token, decode_piece, decode_tokens, is_literal_formatting, encode_formatting, formatting_as_octets, LacksPastAscii}
unfoldable pub use Rattle.uri_pct.specs.DecodeUnreserved.{is_decodable, decode_after_run, decode_run, is_bidi_formatting, is_never_literal}
pub use Rattle.uri_pct.specs.Decodes.{undecoded, decoded, bytes_left, chunks_left, chunk_of}
pub use Rattle.uri_pct.specs.EncodedTexts.{text_of, substrings_left}
pub use Rattle.uri_pct.specs.Encoding.{encode_char, encode_text, encode_piece, encode_bytes, IsEncodedBy}
pub use Rattle.uri_pct.specs.Masks.{is_unencoded_ascii}
unfoldable pub use Rattle.uri_pct.specs.Masks.{has_bit}
pub use Rattle.uri_pct.specs.Models.ByteRuns.{IsLongestRun, AreCharactersOrOctets, is_char_byte, IsByteOfEncodedText}
pub use Rattle.uri_pct.specs.Models.LaneMasks.{is_lane_of_octet, bytes_of_masks}
unfoldable pub use Rattle.uri_pct.specs.Models.LaneMasks.{bit_in_mask_byte}
pub use Rattle.uri_pct.specs.Models.Unfinished.{CutsNoPiece, range_count, following_byte_count}
unfoldable pub use Rattle.uri_pct.specs.Models.Unfinished.{unfinished_len}
pub use Rattle.uri_pct.specs.Models.Windows.{window_bytes}
pub use Rattle.uri_pct.specs.Parts.{Part, Literal, pieces_of_parts, parts, ill_formed_piece_if_any, ArePastAscii, Decoded}
unfoldable pub use Rattle.uri_pct.specs.Parts.{parts_from}
pub use Rattle.uri_pct.specs.Pieces.{lossy_piece, utf8_pieces, lossy_text, Piece, WellFormed, IllFormed, IsOfCharacter, char_of, piece_bytes, bytes_of_pieces, ByteRange, Row, is_in_byte_range, continuation, well_formed_rows, begins_with_continuation, len_in_ranges, first_piece_tail_len, first_piece, is_well_formed}
unfoldable pub use Rattle.uri_pct.specs.Pieces.{pieces_from, following_ranges}
pub use Rattle.uri_pct.specs.Prefixes.{valid_prefix, after}
unfoldable pub use Rattle.uri_pct.specs.Prefixes.{begins_with_hex_digits, first_char, allows_first, valid_prefix_from}
pub use Rattle.uri_pct.specs.Sets.{TableSet, LacksPercent, IsSubset, allows, data_set, idata_set, path_set, characters_only, is_unreserved, is_gen_delim, is_sub_delim, is_reserved, is_scheme_char, is_reg_name_char, is_userinfo_char, is_pchar, is_segment_nz_nc_char, is_path_char, is_query_char, alpha_set, digit_set, hexdig_set, scheme_set, userinfo_set, ipv_future_set, reg_name_set, segment_nz_nc_set, pchar_set, query_set, fragment_set, unreserved_set, reserved_set, gen_delims_set, sub_delims_set, iuserinfo_set, ireg_name_set, ipath_set, isegment_nz_nc_set, iquery_set, ifragment_set, difference, is_one_of}
unfoldable pub use Rattle.uri_pct.specs.Sets.{allows_past_ascii, is_ucschar, is_iprivate}
pub use Rattle.uri_pct.specs.Tables.{set_of, empty_set}
pub use Rattle.uri_pct.specs.Texts.{lacks, is_unencoded, is_absolute, IsCutAtFirst, IsCutAtLast}
unfoldable pub use Rattle.uri_pct.specs.Texts.{has_hex_digits_after}
pub use Rattle.uri_pct.specs.Tokens.{Token, Char, Octet, tokens, allows_token, IsValidFor, text_of_token, bytes_decoded_from, bytes_of_one_token, print}
unfoldable pub use Rattle.uri_pct.specs.Tokens.{is_pct_encoded, tokens_from_chars, is_valid_for}
pub use Rattle.uri_pct.specs.declared.octet.TheConstants.{DIGIT_VALUES, OCTETS}
pub use Rattle.uri_pct.specs.declared.table.Table.{Table}
pub use Rattle.uri_pct.specs.declared.table.characters.TheConstants.{HEXDIG_LOW, HEXDIG_HIGH, ALPHA, DIGIT, FRAGMENT, GEN_DELIMS, HEXDIG, IPV_FUTURE, PATH, PCHAR, QUERY, REG_NAME, RESERVED, SCHEME, SEGMENT_NZ_NC, SUB_DELIMS, UNRESERVED, USERINFO}
