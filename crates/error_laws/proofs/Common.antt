-- What proofs import from std, from lower crates and from `specs/`: the modules that three
-- files or more use.
pub use Rattle.std.proofs.Common.{[], ◌≡◌, ℕ, suc, ◌+◌, ◌-◌, ◌<◌, ◌≤◌, Bool, true, false, cond, eqb, ap, List, ◌∷◌, ◌++◌, take, drop, Some, refl, sym, subst, ◌∙◌, arith, ◌&&◌, ⊎_elim, length-drop, rules, codes, nat_lt, IsUtf8, drop-drop, length, Option, None, ◌⊎◌, ◌||◌, inl, length-append, take_all, length-take-le, drop_at, take-append-drop, append_assoc, append-nil, take_at, inr, Ok, Err, slice_index, is_some, ◌≢◌, zero, not, slice_range, option_and_then, ltb, IsAscii, map, get_or, is_ok, zero-add, is_none, get_or-drop}
pub use Rattle.std.proofs.lemmas.Bool.{cases_Bool, cases_lt, cond-true, cond-false, and_left, and_right, and_from, eq-eqb, ltb-true, ltb-false, lt-ltb, le-ltb, both_ways, and_parts, or_left, false≢true, not-true, not_from_false, eqb-true, and_cases, not-false, not_from_true, or_right, cases_eq, ne_eqb, or_from, or_parts, or_cases}
pub use Rattle.std.proofs.lemmas.Bool.Decides.{nat_tests}
pub use Rattle.std.proofs.lemmas.List.{drop_all, append_cancel_right, drop-append-le, drop_more, get_or_past, take-append-le, get_or_append_left, drop-take, take-take, get_or-take}
pub use Rattle.std.proofs.lemmas.Option.{same_Some, none-some, cond_some}
pub use Rattle.std.proofs.lemmas.Str.{IsUtf8-nil, IsUtf8-append, IsUtf8-take, IsCharBoundary-from_drop, IsUtf8-from_ascii, IsCharBoundary-from_take, IsUtf8-drop, IsCharBoundary-before_ascii}
pub use Rattle.error_laws.specs.ViablePrefixes.{is_unrooted, holds_at_end, is_ipv6_end_uncounted, IsViablePrefix, begins_without_letter, is_late_from_hier}
unfoldable pub use Rattle.error_laws.specs.ViablePrefixes.{is_late_from_host, is_late_from_authority, is_late_from_port, has_late_error}
pub use Rattle.uri_parts.proofs.Offered.{text-begins-with-one-byte-alone, userinfo-stops-with-name-without-colon, valid_prefix-at-digit-is-one-more, valid_prefix-at-other-byte-is-zero, scan-stops-at-stray-percent-or-goes-on, nothing-is-scanned-at-mark, stray-percent-stops-every-set, Adjoins, greater-set-goes-on-with-mark, text-at-mark-is-mark-and-rest, Holds, ipv6_end-before-bracket-ends-ipv6, ipv6_end-before-text-ends-ipv6, empty-or-marked-for-more-marks, begins-with-mark, begins-with-no-other, begins-with-further-mark, IsEmptyOrMarked, cut-at-end-of-text-without-marks, text-is-cut-at-first-mark, utf8_around_ascii_byte, valid_text_lacks_excluded_marks}
pub use Rattle.uri_parts.specs.Components.{starts, Lacks, before_any, from_any, has_authority}
unfoldable pub use Rattle.uri_parts.specs.Components.{is_end}
pub use Rattle.uri_parts.specs.Errors.{unexpected, stray_percent}
pub use Rattle.uri_parts.specs.Grammar.{Kind, first_segment_set, kind_by_flags, IsTextOf, is_of_kind, uri, uri_ref, iri, iri_ref}
pub use Rattle.uri_parts.specs.LiteralErrors.{closed, Groups, Groups_end, Elision, Malformed, digits_end, ipv4_end, after_ipv4, groups_from, after_elision, after_groups}
unfoldable pub use Rattle.uri_parts.specs.LiteralErrors.{literal, ipv6_end, cannot_begin_ipv6, octet_end, octets_end}
pub use Rattle.uri_parts.specs.Refusals.{OptionalParseError, ◌>>=◌}
unfoldable pub use Rattle.uri_parts.specs.Refusals.{last_colon, error_from_abempty_path, error_from_host, error_from_name, error_from_authority, error_from_port, error_from_end, error_from_fragment, error_from_query, error_from_path, refusal, error_from_hier_part, error_from_relative_path}
pub use Rattle.uri_parts.specs.Scanning.{is_next, scan_end, ScanResult, is_at_end, scan_to_mark, scan}
pub use Rattle.uri_parts.specs.declared.error.ParseError.{ParseError}
pub use Rattle.uri_pct.proofs.Offered.{excludes, cut, valid_prefix_by_first_byte, nothing_is_scanned_after_valid_prefix, valid_prefix_is_at_most_length, valid_prefix_of_superset_goes_on_from_subset}
pub use Rattle.uri_pct.specs.Prefixes.{valid_prefix, valid_prefix_from}
unfoldable pub use Rattle.uri_pct.specs.Prefixes.{allows_first}
pub use Rattle.uri_pct.specs.Sets.{digit_set, is_one_of, TableSet, is_userinfo_char, is_path_char, LacksPercent, hexdig_set, ipv_future_set, scheme_set}
unfoldable pub use Rattle.uri_pct.specs.Sets.{allows_past_ascii}
pub use Rattle.uri_pct.specs.Tokens.{IsValidFor}
unfoldable pub use Rattle.uri_pct.specs.Tokens.{is_valid_for, tokens_from_chars}
