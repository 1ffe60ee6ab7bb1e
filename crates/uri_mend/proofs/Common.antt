-- What proofs import from std, from lower crates and from `specs/`: the modules that three
-- files or more use.
pub use Rattle.std.proofs.Common.{◌≡◌, ℕ, ◌<◌, ◌≤◌, true, false, eqb, ltb, List, [], ◌∷◌, ◌++◌, map, refl, sym, ap, ◌∙◌, arith, ⊎_elim, zero, suc, ◌+◌, ◌*◌, length, take, drop, append_assoc, ◌-◌, not, ◌&&◌, get_or, subst, length-drop, ◌||◌, length-append, Bool, lit<, cond, string_bytes, ◌/◌, ◌%◌, ◌^◌, bit_and, w8, replicate, rules}
pub use Rattle.std.proofs.Math.Seq.{take-add, take-append-add, take-nil, take-append_seam, drop-append_seam, drop-append-add}
pub use Rattle.std.proofs.lemmas.Bool.{cases_Bool, cases_lt, cond-true, cond-false, and_parts, and_from, agree_below_at, ltb-true, le-ltb, eqb-true, leb-true, not-true, not_from_false, and_left, and_right, both_ways, ne_eqb, or_cases, not-false, or_parts, false≢true}
pub use Rattle.std.proofs.lemmas.Bool.Decides.{nat_tests}
pub use Rattle.std.proofs.lemmas.Grind.{common_steps}
pub use Rattle.std.proofs.lemmas.List.{length-take-le, map-append, take-append-le, take-take, append-nil, drop-drop, drop-append-le, get_or-drop, drop_at, drop_more, take-append-drop, take_all, drop_all}
pub use Rattle.std.proofs.lemmas.List.Folds.{list_all-append}
pub use Rattle.std.proofs.lemmas.Simd.{put_chunk_is, zip2_splat, length-chunk}
pub use Rattle.std.proofs.lemmas.Str.{encode_ascii, scalars-chars, IsUtf8-drop, chars-nil, IsUtf8-take, IsCharBoundary-after_ascii, IsCharBoundary-past_char, IsUtf8-between, encodes-chars, len_utf8_ascii, length-encode, IsUtf8-append, IsCharBoundary-from_drop, IsCharBoundary-at_seam, len_utf8_bounds, chars_past_char, chars-encodes, IsUtf8-nil, IsUtf8-string_bytes, IsCharBoundary-start}
pub use Rattle.std.specs.Char.{IsScalar, encode_utf8, is_ascii_hexdigit, len_utf8, digit_value, is_ascii_whitespace}
pub use Rattle.std.specs.List.{list_all, flat_map, list_any, prefix_len}
pub use Rattle.std.specs.Prelude.{Option, Some, None, IfSome, nat_le, option_map, codes, IfNone, is_some, slice_range}
pub use Rattle.std.specs.Simd.Lanes.{put_chunk, zip2, chunk}
pub use Rattle.std.specs.Str.{chars, all_scalars, IsUtf8, IsCharBoundary, encode_utf8_all, IsTrimAscii}
pub use Rattle.uri_mend.specs.Links.{IsLink, with_ends_at}
pub use Rattle.uri_mend.specs.MendedParts.{mend_token}
unfoldable pub use Rattle.uri_mend.specs.MendedParts.{mended_from_chars, mended}
pub use Rattle.uri_mend.specs.Mending.{mended_components}
unfoldable pub use Rattle.uri_mend.specs.Mending.{link_components, mended_text, has_false_scheme, with_dot_segment, can_be_mended}
pub use Rattle.uri_mend.specs.Progress.{IsEncodedBetween, IsLackedRun, are_marks, is_never, lacks_marks, IsProgress, mended_so_far}
pub use Rattle.uri_mend.specs.Tails.{mended_marked, mended_query, IsMendedByPieces, IsPathMendedByPieces, query_of_tail, dot_segment_if, mended_path}
unfoldable pub use Rattle.uri_mend.specs.Tails.{mended_tail}
pub use Rattle.uri_mend.specs.Trimming.{tab_and_newlines, without_any, without_outer_space}
unfoldable pub use Rattle.uri_mend.specs.Trimming.{trimmed_link}
pub use Rattle.uri_mend.specs.declared.component.TheConstants.{NEVER_HIGH, NEVER_LOW}
pub use Rattle.uri_mend.specs.declared.link.Link.{Link}
pub use Rattle.uri_ops.proofs.Offered.{components-of-utf8-are-utf8, grammar-gives-components-of-kind, AreUtf8, one-of-four-kinds-has-sets}
pub use Rattle.fluent_uri.specs.Prelude.{ArePackedPositionsOf, Char, Components, HasComponentSets, IsAbemptyPath, IsOfKind, IsSplitOf, IsTextOf, IsValidFor, Kind, Lacks, LacksPercent, Octet, TableSet, Token, absent_or_passes, after_authority, after_query, after_scheme, allows, allows_token, before_any, before_path, bytes_decoded_from, components, components_meet_rules, encode_char, from_any, has_authority, has_colon_in_first_segment, has_scheme, is_authority, is_of_kind, is_one_of, is_path_char, is_query_char, is_scheme, kind_by_flags, marked, packed, print, recompose, set_of, starts, text_of_token, tokens, valid_prefix, when}
pub use Rattle.uri_parts.proofs.Offered.{before_any-past-other, from_any-past-other, cut-at-end-of-text-without-marks, text-is-cut-at-first-mark, from_any-at-mark, before_any-at-mark, IsEmptyOrMarked, recompose-components, components-are-split-of-text, equal-parts-make-equal-components, only-split-is-components}
pub use Rattle.uri_pct.proofs.Offered.{is_eight_bit, utf8_bytes_are_eight_bit, octets_are_allowed_if_pct_encoded, encoded_char_is_printable, allowed_char_is_printed_literally, disallowed_char_is_encoded_as_octets, print-append, octets_decode_to_their_bytes, has_bit_past_ascii_is_false, has_bit-only-ascii, lacks_percent, is_no_ascii_byte, hexdigit_is_ascii, HasEncoding, char_has_encoding, char_past_ascii_begins_past_ascii, encoded_chars_begin_with_same_hex_digits, excludes, valid_prefix-ends-by-mark, is_valid_for_is_scanned_to_end, valid_prefix_by_first_byte, AreAscii, first_mark_is_at_boundary, length_before_marks, test_holds_of_each, AreAscii-by-test}
unfoldable pub use Rattle.uri_pct.specs.Masks.{has_bit}
unfoldable pub use Rattle.uri_pct.specs.Prefixes.{begins_with_hex_digits, valid_prefix_from}
unfoldable pub use Rattle.uri_pct.specs.Sets.{allows_past_ascii}
unfoldable pub use Rattle.uri_pct.specs.Tokens.{is_pct_encoded, is_valid_for, tokens_from_chars}
