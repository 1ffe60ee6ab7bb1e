-- What proofs import from std, from lower crates and from `specs/`: the modules that three
-- files or more use.
pub use Rattle.std.proofs.BufReadLemmas.{take_through_nonempty, Consumes_through, Consumes_shown, zero_unless_positive}
pub use Rattle.std.proofs.Common.{◌≡◌, ℕ, Bool, true, false, cond, List, ◌-◌, length, subst, sym, take, ◌≢◌, Result, refl, ap, ◌∙◌, ◌+◌, ◌++◌, ◌⊎◌, [], ◌∷◌, inl, inr, Option, Some, None, ◌<◌, ◌≤◌, arith, ⊎_elim, length-take-le, take_all, lt-ltb, ltb-true, ltb-false, drop, get_or, get_or-take, eqb-true, take-take, All, true≢false, suc, zero, eqb, length-drop, add-one, rules, append_assoc, ◌==◌, ◌%◌, length-append, IfSome, min, eq-eqb, zero-add, ◌^◌, string_bytes, bit_or, replicate, w8}
pub use Rattle.std.proofs.KnownBytes.{Appends-kept, Appends-nil, Appends-trans, Keeps-refl, Keeps-trans, Consumes-nil, Consumes-kept, Consumes-trans}
pub use Rattle.std.proofs.Math.Seq.{drop-cons, drop-length, take-add, take-suc, take-append-add, take-nil}
pub use Rattle.std.proofs.lemmas.Bool.{and_parts, false_from_ne_true, cond-true, cond-false, and_from, cases_lt, both_ways, not-true}
pub use Rattle.std.proofs.lemmas.Bool.Decides.{nat_tests, Decides-below_and, Decides-like}
pub use Rattle.std.proofs.lemmas.Grind.{common_steps}
pub use Rattle.std.proofs.lemmas.List.{drop_more, append-nil, take-append-drop, take_rest, take-append-le, length-take, nil_from_length, drop-drop, length-map, map-id}
pub use Rattle.std.proofs.lemmas.List.Concat.{flat_map-append}
pub use Rattle.std.proofs.lemmas.List.Elements.{All-nil, All-from_get_or, recursion_from_All, All-get_or, All-more, All-append}
pub use Rattle.std.proofs.lemmas.List.Folds.{list_all-append}
pub use Rattle.std.proofs.lemmas.List.Sums.{list_all-from_AllPass, sum_by-append}
pub use Rattle.std.proofs.lemmas.Str.{IsAscii-take, IsUtf8-append, IsUtf8-encode, IsUtf8-nil, IsUtf8-from_is_utf8, encodes-chars, chars-append, chars-IsAscii, chars-encodes, chars-nil, IsUtf8-from_ascii, scalars-chars, is_utf8-from_IsUtf8, encode_ascii}
pub use Rattle.std.specs.Char.{is_ascii_hexdigit, IsScalar, is_ascii_digit}
unfoldable pub use Rattle.std.specs.Char.{encode_utf8}
pub use Rattle.std.specs.Io.BufRead.{ends_with_byte, strip_last, drop_through, take_through, DropsConsumable, DropsThrough, FillKeeps}
pub use Rattle.std.specs.Io.Buffered.{reader_remaining, reader_buffer, reader_capacity, reader_inner}
pub use Rattle.std.specs.Io.KnownBytes.{Appends, Consumes, Keeps, IsAtEnd, prepend_known}
pub use Rattle.std.specs.List.{AllPass, concat, filter, list_all, flat_map, onto_first, slice_split, AllByRecursion}
unfoldable pub use Rattle.std.specs.List.{IsDistinct}
pub use Rattle.std.specs.Prelude.{IsTrue, IfOk, not, ◌&&◌, nat_lt, Ok, Err, slice_get, if◌then◌else◌, ◌||◌, IfErr, slice_range, codes, option_map, option_and_then, map, bytes_eq, unwrap_or, slice_index, OnErr, OnOk, ◌↔◌, nat_le}
pub use Rattle.std.specs.Str.{IsAscii, encode_utf8_all, IsUtf8, all_scalars}
unfoldable pub use Rattle.std.specs.Str.{is_utf8, chars}
pub use Rattle.fluent_uri.specs.Prelude.{Components, IsOfKind, IsTextOf, Kind, components, is_of_kind, recompose, reference_text, uri_ref}
pub use Rattle.fluent_uri.specs.declared.ParseError.{ParseError}
pub use Rattle.uri_commands.proofs.Offered.{AppendsPrefix-after-Appends, AppendsPrefix-of-longer, AppendsPrefix-of-kept, AppendsPrefix-then-Keeps, AppendsPrefix-after-Keeps, on-ok}
pub use Rattle.uri_commands.specs.Ends.{is_output_failure, has_output_failed}
pub use Rattle.uri_commands.specs.Kinds.{kind_named, normal_form_of}
pub use Rattle.uri_commands.specs.Messages.{error_text, resolve_error_text}
pub use Rattle.uri_commands.specs.Prefixes.{AppendsPrefix}
pub use Rattle.uri_commands.specs.declared.kinds.KindName.{KindName}
pub use Rattle.uri_query.specs.Pairs.{decode_pair, NameAndValue, pair_texts}
pub use Rattle.uri_streams.specs.Causes.{is_input_cause, is_output_cause}
pub use Rattle.uri_streams.specs.Fields.{Cut, cut_at_field, cut_of, cut_without_other_fields, fields_of, IsFieldStart, fields_after_delimiters, fields_before_delimiters, no_text_message, bounded_cut}
unfoldable pub use Rattle.uri_streams.specs.Fields.{field_cut}
pub use Rattle.uri_streams.specs.Json.{host_word, member, member_before, member_after, authority_members}
unfoldable pub use Rattle.uri_streams.specs.Json.{json_of}
pub use Rattle.uri_streams.specs.JsonTexts.{JsonValue, Object, Members, EndOfObject, Member, is_unescaped, IsJsonTextOf, RepresentsValue, RepresentsMembers, RepresentsMoreMembers, Array, String, Elements, EndOfArray, Element, IsStructural, RepresentsElements, RepresentsMoreElements, False, Null, True, Number, ◌then◌, RepresentsString, IsWhitespace, IsNumber, IsOneOf, IsOptional, IsFraction, IsExponent, AreSomeDigits, IsUnicodeEscape, escaped_by, RepresentsCharacter, Rule, Is, RepresentsCharacters, is_whitespace, AreDigits, IsInteger}
unfoldable pub use Rattle.uri_streams.specs.JsonTexts.{hex_number}
pub use Rattle.uri_streams.specs.JsonValues.{text_members, with_present, present, named_components, components_value, query_value, pair_value, pair_elements}
pub use Rattle.uri_streams.specs.Lines.{end_byte, has_return, line_text, lines_of, prepend_to_first_line, ends_with_return, return_after}
pub use Rattle.uri_streams.specs.Models.{IsCutLine, bytes_output, FailsInWriting, HasWrittenSoFar, KeepsFailures, ProcessedSoFar, StepFails, IsBufferedLine, ReadsFirstLine, IsStepOf, ReadsPartOfLine, Steps, WritesLineOutput, WritesOutputPrefix, WritesResult, bytes_report, FindsEnd, WritesLine}
pub use Rattle.uri_streams.specs.Outputs.{is_error, is_last, is_stop, line_cut, line_output, line_result, output_of, processed, result_output, line_ending, ProcessedLine, processed_in, errors_of, line_report, error_count, tallies_after, tallies_of, line_end, result_report, reported_error, error_report}
unfoldable pub use Rattle.uri_streams.specs.Outputs.{processed_lines}
pub use Rattle.uri_streams.specs.Queries.{pairs_of_query, pair_json, following_pairs_json, pairs_json, hex_digit, control_json, escaped_char, escaped_text}
unfoldable pub use Rattle.uri_streams.specs.Queries.{query_json}
pub use Rattle.uri_streams.specs.Results.{Text, Error, basic_resolution_result, double_slash_message, LineResult, passed_if, parse_message, parsed_result, resolution_result, target_result_by}
unfoldable pub use Rattle.uri_streams.specs.Results.{basic_target_result, passes_check, mend_result, normalize_result, target_result, relativize_result, resolve_result, query_result, parse_result}
pub use Rattle.uri_streams.specs.Returned.{result_in, IsResult, line_error_message, cut_in}
pub use Rattle.uri_streams.specs.Runs.{ErrorOutput, Reports, StopsAfterPrefix, WritesOutput, ReportsPrefix, WritesWholeLines, Sees, error_output_of, LeavesRest, left_after}
pub use Rattle.uri_streams.specs.Tasks.{Known, cut_result, given_text, bytes_result, no_text_result, text_kind, text_result, Remembers, HasMet, text_if_new, noted_result, has_met}
unfoldable pub use Rattle.uri_streams.specs.Tasks.{link_result, unique_result}
pub use Rattle.uri_streams.specs.declared.fault.LineError.TheVariants.{PathStartsWithDoubleSlash, Refused}
pub use Rattle.uri_streams.specs.declared.fault.NoText.TheVariants.{NoField, NotUtf8, TooLong}
pub use Rattle.uri_streams.specs.declared.job.Job.{Job}
pub use Rattle.uri_streams.specs.declared.run.Tally.{Tally}
pub use Rattle.uri_streams.specs.declared.task.Task.{Task}
