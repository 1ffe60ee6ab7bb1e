-- What proofs import from std, from lower crates and from `specs/`: the modules that three
-- files or more use.
pub use Rattle.std.proofs.Common.{◌≡◌, ℕ, zero, suc, ◌<◌, ◌≤◌, true, false, not, List, [], ◌∷◌, rules, ◌++◌, length, drop, refl, sym, ap, ◌∙◌, arith, ⊎_elim, Bool, ◌&&◌, ◌||◌, subst, append_assoc, cond, inl, inr, ◌+◌, ◌-◌, ◌⊎◌, take, get_or, eqb, drop-cons, true≢false, option_map, unwrap_or, ◌↔◌, string_bytes}
pub use Rattle.std.proofs.lemmas.Bool.{cases_Bool, cond-true, cond-false, cond_both, false≢true, not_from_false, and_left, and_parts, not-true, or_from, or_parts, and_from, eqb-true, or_cases, both_ways, ne_eqb, eq-eqb, not-false, not_from_true, and_right, ltb-true, or_left}
pub use Rattle.std.proofs.lemmas.List.{length-drop, length-take, nil_from_length, append-nil, get_or_append_left, length-take-le, take-append-drop, drop_all, drop_at, get_or-take, take_more, get_or-drop, length-append, take-append-le, take_at}
pub use Rattle.std.proofs.lemmas.List.Folds.{list_any-append, list_all-append}
pub use Rattle.std.proofs.lemmas.Slice.Eq.{bytes_eq-Decides}
pub use Rattle.std.proofs.lemmas.Str.{IsCharBoundary-after_ascii, IsCharBoundary-from_take, IsCharBoundary-start, IsUtf8-string_bytes}
pub use Rattle.std.specs.List.{list_all, list_any, prefix_len}
pub use Rattle.std.specs.Prelude.{◌==◌, codes, bytes_eq, Ok, is_some, slice_range, None, Option, nat_lt, IfNone, IfSome, Some, Err, IfOk, Result, IfErr, OnOk, is_none}
pub use Rattle.std.specs.Str.{IsCharBoundary, IsUtf8}
pub use Rattle.uri_basic.specs.Deviations.{has_encoded_dot_segment, has_literal_dot_segment, is_literal_dot_segment, takes_base_path, NothingDeviates, is_merged}
pub use Rattle.uri_basic.specs.Models.Directories.{IsDirectoryOrNothing}
unfoldable pub use Rattle.uri_basic.specs.Models.Directories.{after_segment, parent, path_left, buffers_at}
pub use Rattle.uri_basic.specs.Removal.{Buffers, after_first_segment, has_prefix, step}
unfoldable pub use Rattle.uri_basic.specs.Removal.{output_of, run, remove_dot_segments}
pub use Rattle.uri_basic.specs.Target.{basic_resolution_of_texts, is_ambiguous, target, merge, basic_resolution, PathStartsWithDoubleSlash}
pub use Rattle.uri_ops.proofs.Offered.{string_len-is-length-of-bytes, appended-segments-lack-slashes, path-after-slash-appends-its-segments, property-of-absolute-path-by-segments, segments-of-dotless-path-are-dotless, directory-is-absolute, remove-dots-of-dotless, removing-dots-keeps-absolute, removing-dots-leaves-no-dot-segment, before_last_slash-of-slashless-is-empty, before_last_slash-of-slashless-tail, lacked-delimiters-fail-test, test-of-delimiters-gives-lacks, before_last_slash-passes-test, AllPass, is_dotless, pop, popped-segments-pass-test, segments-pass-true-test, end_of, next_output-passes-test, before_last_slash-of-slashed-is-popped, lacks_slash, segments-of-slashed-segments, segments-of-text-lack-slashes, slashed-of-append, slashed-of-push, slashed-of-segments-is-text-after-slash, NoSlashes, segments-of-text-are-not-none, first-segment-and-rest-lack-slashes, segments-of-joined-segments, slash-in-suffix-is-in-append, remove-dots-by-segments, merging-base-is-not-opaque, text-of-kind-has-needed-scheme, appended-absolute-path-is-absolute, option-that-is-some-has-no-none, authority-property-implies-other-if-some}
unfoldable pub use Rattle.uri_ops.proofs.Offered.{closing, dotless_of, next_output, step_of, steps, slashed}
pub use Rattle.fluent_uri.specs.Prelude.{ArePackedPositionsOf, Components, EndsInSlash, IsAbemptyPath, IsAbsolute, IsLongestRun, IsOfKind, IsSplitOf, IsTextOf, Kind, Lacks, TableSet, authority_at, before_any, before_last_slash, components, components_of, delimited_length, dotless_if_absolute, dotted_target, from_any, guarded, has_authority, has_colon_in_first_segment, has_scheme, has_slash, host_end_of, is_dot_segment, is_double_dot, is_empty, is_one_of, is_opaque, is_single_dot, lacks_dot_segments, last_segment, marked, merged, or_slash, packed, positions_of, recompose, resolution_of, segments, starts, target_of, up_to_last_slash, with_final_path}
unfoldable pub use Rattle.uri_ops.specs.Dots.{directory}
pub use Rattle.uri_parts.proofs.Offered.{components-are-split-of-text, equal-to-true-is-IsTrue, recompose-components}
pub use Rattle.uri_pct.proofs.Offered.{eq_true_from_IsTrue, not_some_is_none, some_is_not_none}
