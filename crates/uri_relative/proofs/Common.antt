-- What proofs import from std, from lower crates and from `specs/`: the modules that three
-- files or more use.
pub use Rattle.std.proofs.Common.{◌≡◌, ℕ, zero, suc, ◌+◌, ◌-◌, Bool, true, false, cond, eqb, List, [], ◌∷◌, ◌++◌, length, take, drop, refl, sym, ap, subst, ◌∙◌, arith, append_assoc, inl, inr, ◌||◌, codes, append-nil, take-append-drop, ◌≤◌, length-append, option_map, is_some, IfSome, Option, Some, None, not, ◌&&◌, ⊎_elim, ◌<◌, rules, IfNone, Ok, IsUtf8, ◌*◌, ◌/◌, get_or, ◌⊎◌, ◌==◌, ◌≢◌, bytes_eq, Decides, IsCharBoundary, nat_lt, length-drop, lit<, OnOk, Result, drop_at, take_at, string_bytes, IfOk, is_none}
pub use Rattle.std.proofs.Math.Bool.{and-false}
pub use Rattle.std.proofs.lemmas.Bool.{and_parts, false≢true, both_ways, not-true, or_cases, and_from, cond_both, or_left, cond-false, cond-true, leb-true, not_from_false, or_parts, cases_Bool, not-false, and_left, and_right, false_from_ne_true, lt-leb, not_from_true, or_from, eq-eqb, eqb-true, lt-ltb, or_right}
pub use Rattle.std.proofs.lemmas.Bool.Decides.{nat_tests, Decides-like}
pub use Rattle.std.proofs.lemmas.List.{length-take-le}
pub use Rattle.std.proofs.lemmas.List.Folds.{list_all-append, list_any_at}
pub use Rattle.std.proofs.lemmas.Str.{IsUtf8-nil, IsCharBoundary-after_ascii, IsCharBoundary-from_take}
pub use Rattle.uri_ops.proofs.Offered.{path_after_authority_gets_no_guard, validity-splits-at-slash, set-text-from-utf8, set-text-is-valid, is_set_text, path-after-slash-appends-its-segments, appended-segments-lack-slashes, property-of-path-to-slash-by-segments, property-of-absolute-path-by-segments, segments-of-dotless-path-are-dotless, remove-dots-of-dotless, dotless-path-does-not-underflow, removing-dots-keeps-absolute, removing-dots-leaves-no-dot-segment, length-of-slashed-append-is-sum, popped-segments-are-no-longer, removing-dots-lengthens-no-path, empty-text-is-nil, not-empty-has-length, single-dot-is-not-empty, removing-dots-keeps-leading-slash, path-without-dots-is-set-text, guarded-set-text-is-set-text, two-slashes-begin-with-slash, guard-is-removed-as-dot-segment, dotless_if_absolute-is-idempotent, dot-is-set-text, pop-undoes-push, pushed-segments-are-not-none, AllPass, is_dotless, parent-of-dotless-is-pop, appended-segments-pass-test, dotless_of-append, steps-of-dotless-append-all, end_of, NoSlashes, lacks_slash, segments-of-slashed-segments, segments-of-text-are-not-none, directory-by-segments, first-segment-and-rest-lack-slashes, is_one_of-slash-is-equality, remove-dots-by-segments, segments-of-text-lack-slashes, slashed-of-append, slashed-of-push, slashed-of-segments-is-text-after-slash, removing-dots-after-directory, underflow-after-directory, absolute-path-is-slash-and-rest, ok-result-has-no-opaque-rejection, settled-text-has-settled-components, target-text-has-target-components, one-of-four-kinds-has-sets}
unfoldable pub use Rattle.uri_ops.proofs.Offered.{pop, step_of, next_output, closing, steps, dotless_of, slashed, result_or_target_error}
pub use Rattle.uri_ops.specs.Dots.{is_empty, IsAbsolute, EndsInSlash, lacks_dot_segments, segments, remove_dot_segments, underflows, directory, has_slash, or_slash, is_double_dot, is_single_dot}
pub use Rattle.fluent_uri.specs.Prelude.{Components, IsAbemptyPath, IsOfKind, IsSplitOf, Kind, Lacks, TableSet, absent_or_passes, allows, authority_at, components, components_meet_rules, components_of, core_text, delimited_length, dotless_if_absolute, dotted_target, guarded, has_authority, has_colon_in_first_segment, has_scheme, is_authority, is_fragment_only, is_one_of, is_opaque, is_opaque_rejection, is_scheme, marked, merged, positions_of, query_or, recompose, resolution_of, resolution_of_texts, slash, starts, target_of, target_underflows, underflows_if_absolute, with_final_path}
pub use Rattle.uri_parts.proofs.Offered.{equal-to-true-is-IsTrue, components-are-split-of-text, recompose-components, kind-that-needs-scheme-has-one}
pub use Rattle.uri_pct.proofs.Offered.{eq_true_from_IsTrue, None-from-not-is_some, not_some_is_none, none-is-not-some}
pub use Rattle.uri_relative.specs.Forms.{IsDotlessTargetOf, IsReferenceTo, IsUnguarded, NeedsPath, after_path, from_authority, is_guarded, after_scheme}
pub use Rattle.uri_relative.specs.Leading.{NeedsSchemeOrAuthority, without_fragment, is_rootless, has_emptied_path, needs_authority, settled, would_inherit_query, IsRelativeTo, LeadsBackToTarget, IsNoLonger, LeadsTo}
pub use Rattle.uri_relative.specs.Relative.{slashes, relative_path, relative_from, IsSharedPrefix, joined_path, IsPathTo, IsLongestPrefix, needs_leading_dot}
unfoldable pub use Rattle.uri_relative.specs.Relative.{double_dots}
pub use Rattle.uri_relative.specs.Rule.{has_same_authority, has_same_query, has_same_scheme, path_from_base, has_same_authority_and_path}
unfoldable pub use Rattle.uri_relative.specs.Rule.{reference_components, shortest_or_preferred_path, shared_directory_len, reference_to}
pub use Rattle.uri_relative.specs.Shortest.{IsShortestPath, Shortest, IsReferenceFrom, IsShortest}
