-- What proofs import from std, from lower crates and from `specs/`: the modules that three
-- files or more use.
pub use Rattle.std.proofs.Common.{◌≡◌, ℕ, zero, suc, ◌+◌, ◌-◌, ◌^◌, ◌%◌, ◌<◌, ◌≤◌, Bool, true, false, cond, eqb, leb, List, [], ◌∷◌, map, length, get_or, replicate, sym, refl, ap, ◌∙◌, arith, leb-false, eqb-true, inl, inr, subst, ◌≢◌, ◌++◌, set, take, drop, append_assoc, ⊎_elim, length-append, ◌/◌, ◌&&◌, ◌||◌, not, zero-add, length-drop, ◌==◌, lit≤, add-zero, ◌⊎◌, ◌↔◌, Ordering, Equal, rules, w8, string_bytes, below_more}
pub use Rattle.std.proofs.Math.Seq.{drop-append_seam, take-append_seam, take-length}
pub use Rattle.std.proofs.lemmas.Bool.{cond-false, cond-true, false_from_ne_true, cases_eq, and_from, and_parts, eq-eqb, cases_lt, not-true, false≢true, le-ltb}
pub use Rattle.std.proofs.lemmas.Grind.{common_steps}
pub use Rattle.std.proofs.lemmas.List.{length-map, length-replicate, drop-drop, drop-set-lt, get_or-set_same, drop_all, get_or-drop, append_cancel_left, take-take, take_rest, length-take-le}
pub use Rattle.std.proofs.lemmas.Option.{none-some, slice_get_read, same_Some}
pub use Rattle.std.proofs.lemmas.Str.{IsUtf8-from_is_utf8, is_utf8-from_IsUtf8, IsUtf8-append, IsUtf8-drop, utf8_valid_len-IsUtf8, IsCharBoundary-start, IsUtf8-from_ascii}
pub use Rattle.std.specs.List.{position_or_len, fold, position}
pub use Rattle.std.specs.Prelude.{IsSomeAnd, Option, Some, None, Ok, Err, is_none, ok_or, option_map, IsSome, slice_get, is_some, IfSome, codes, slice_index, unwrap_or, IsTrue, encode_utf8, slice_range, bytes_eq, nat_lt, Result, IsOk, option_and_then}
pub use Rattle.std.specs.Result.{is_ok, result_ok, result_map_both}
pub use Rattle.std.specs.Str.{is_utf8, IsUtf8, IsCharBoundary}
pub use Rattle.fluent_uri.specs.Prelude.{Components, IsNormalFormOfTarget, IsOfKind, Kind, LacksPercent, Octet, TableSet, absent_or_passes, before_any, components, from_any, hexdig_set, iri, iri_ref, is_one_of, is_scheme, kind_by_flags, print, reference_text, rules_of_set, set_of, starts}
unfoldable pub use Rattle.fluent_uri.specs.Hosts.{host_kind}
pub use Rattle.fluent_uri.specs.Tokens.{is_valid_for}
pub use Rattle.fluent_uri_c.specs.Building.{HasGivenComponents, HasValidAuthority, HasValidTail, error_of_building, given, given_authority, given_components, missing, path_rejection, together_rejection}
unfoldable pub use Rattle.fluent_uri_c.specs.Building.{is_host_text}
pub use Rattle.fluent_uri_c.specs.Columns.{Buffers, IsColumn, bit_of, buffers, bytes_of, joined_results, number_of_bool, column_of, text_in, call_result_bytes, result_in}
pub use Rattle.fluent_uri_c.specs.Errors.{in_component, rejected, parse_rejection, mend_rejection, error_of_kind, number_of, basic_resolve_rejection, resolve_rejection}
pub use Rattle.fluent_uri_c.specs.Fnv.{fnv_bytes, fnv_write}
pub use Rattle.fluent_uri_c.specs.Kinds.{iri_numbered, kind_numbered}
pub use Rattle.fluent_uri_c.specs.Lines.{is_newline, lines_of, HasConsumed, IsFullAt, LeavesLines, LineBuffers, TakesMemoryAt, newline, error_number_at, number_returned, written_at, line_buffers}
pub use Rattle.fluent_uri_c.specs.Mends.{mended_link_result, mended_result, takes_memory_for_link, mend_link_result, mend_result, unmendable_error}
pub use Rattle.fluent_uri_c.specs.Outcomes.{outcome_of_batch, outcome_of_text, written}
pub use Rattle.fluent_uri_c.specs.Relatives.{relativize_result, reference_from}
pub use Rattle.fluent_uri_c.specs.Results.{text_error, first_rejection, IsPossibleUtf8, component_error, is_possible_length, Returned, utf8_error, normal_result, rejection_or_result, IsReturnedOrDenied, second_text_error, with_base, decode_result, encode_result, error_of_basic_target, error_of_target, resolution_by, is_out_of_memory, length_error, normalize_result, resolve_result, resolve_normalized_result, to_uri_result, with_valid_number, normal_target_from, IsPossibleText, IsReturnedAs, IsTargetReturned, takes_memory_for_target}
unfoldable pub use Rattle.fluent_uri_c.specs.Results.{normal_form_of, basic_resolution, normal_resolution, resolution}
pub use Rattle.fluent_uri_c.specs.Spans.{AreSpansOf, IsSpan, absent, authority_host_number, authority_start, fragment_start, host_of, host_start, path_start, port_of, port_start, query_start, userinfo_of, ArePartsOf, rejected_parts}
pub use Rattle.fluent_uri_c.specs.Values.{HasPartsFirst, LeavesValueOrDenied}
pub use Rattle.fluent_uri_c.specs.declared.errors.Rejection.{Rejection}
pub use Rattle.fluent_uri_c.specs.declared.parts.Parts.{Parts}
pub use Rattle.uri_mend.specs.MendedParts.{mended}
pub use Rattle.uri_ops.specs.BuilderParts.{BuilderParts, is_authority_text, meet_rules}
unfoldable pub use Rattle.uri_ops.specs.BuilderParts.{is_scheme_text, is_text_for}
pub use Rattle.uri_ops.specs.declared.scheme_rules.RuleSet.{RuleSet}
pub use Rattle.uri_parts.proofs.Offered.{authority_is_at_positions, fragment_is_at_positions, no_fragment_at_end, query_is_at_positions, path_is_at_positions}
pub use Rattle.uri_parts.specs.Hosts.{RegName, ipv6_value, is_future_address}
unfoldable pub use Rattle.uri_parts.specs.Hosts.{ipv4_value, is_host, is_ipv_future}
pub use Rattle.uri_parts.specs.declared.positions.Positions.{Positions}
