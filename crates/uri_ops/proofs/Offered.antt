-- What proofs of the crates above may use of those of this crate, by `tools/reach`.
pub use Rattle.uri_ops.proofs.AsciiForms.EncodedComponents.{encoding-and-recomposing-swap}
pub use Rattle.uri_ops.proofs.AsciiForms.EncodedMeanings.{schemes-are-ascii}
pub use Rattle.uri_ops.proofs.AsciiForms.EncodedPaths.{ascii-text-is-its-own-encoding, encoding-of-append-is-append, encoding-of-nil-is-nil}
pub use Rattle.uri_ops.proofs.AsciiForms.EncodedRuns.{slice_from-is-drop}
pub use Rattle.uri_ops.proofs.AsciiForms.EncodedTokens.{character-past-ascii-has-no-ascii-byte}
pub use Rattle.uri_ops.proofs.Builders.BuilderAuthorities.{authority-lacks-its-ends, authority-text-from-rule, authority-text-is-utf8, authority-text-meets-rule}
pub use Rattle.uri_ops.proofs.Builders.BuilderGrowth.{string_len-is-length-of-bytes}
pub use Rattle.uri_ops.proofs.Builders.BuilderHosts.{valid-name-is-host}
pub use Rattle.uri_ops.proofs.Builders.Built.{accepted-parts-have-their-text}
pub use Rattle.uri_ops.proofs.FromEnd.Blocks.{rest_of_block_is_text}
pub use Rattle.uri_ops.proofs.FromEnd.NormalParts.{path_after_authority_gets_no_guard}
pub use Rattle.uri_ops.proofs.Meanings.AllowedParts.{empty-text-is-set-text, set-text-from-utf8, set-text-is-utf8, set-text-is-valid, validity-splits-at-slash}
unfoldable pub use Rattle.uri_ops.proofs.Meanings.AllowedParts.{is_set_text}
pub use Rattle.uri_ops.proofs.Meanings.AsciiCharacters.{ascii-bytes-are-utf8, ascii-in-test-is-set-text, is_ascii_in}
pub use Rattle.uri_ops.proofs.Meanings.AuthorityMeanings.{authority-parts-are-utf8, authority-text-lacks-its-ends, kind-sets-lack-authority-delimiters}
pub use Rattle.uri_ops.proofs.Meanings.ComponentEnds.{ends-are-excluded-from-set, no_scheme, path-set-excludes-its-ends, query-set-excludes-its-end}
pub use Rattle.uri_ops.proofs.Meanings.HostMeanings.{bracketed-address-lacks-delimiters, bracketed-utf8-is-utf8}
pub use Rattle.uri_ops.proofs.Meanings.TextParts.{ArePartsOfKind, AreUtf8, components-of-kind-meet-grammar, components-of-utf8-are-utf8, grammar-gives-components-of-kind}
pub use Rattle.uri_ops.proofs.Normal.NormalTexts.{recomposed-components-are-utf8, text-has-parts-of-kind}
pub use Rattle.uri_ops.proofs.Normal.WrittenPlaces.{length-before_path-is-path_start, length-with-delimiter-after}
pub use Rattle.uri_ops.proofs.Paths.DecodedPaths.{joined-segments-of-set-text-are-set-texts, set-text-splits, set-texts-join-at-slash}
pub use Rattle.uri_ops.proofs.Paths.DecodedStarts.{no-leading-slash-no-two-slashes, second-slash-makes-two-slashes}
pub use Rattle.uri_ops.proofs.Paths.DotBytes.{tests-that-imply-each-other-are-equal}
pub use Rattle.uri_ops.proofs.Paths.DotLaws.{appended-segments-lack-slashes, directory-is-absolute, dotless-path-does-not-underflow, length-of-slashed-append-is-sum, path-after-slash-appends-its-segments, popped-segments-are-no-longer, property-of-absolute-path-by-segments, property-of-path-to-slash-by-segments, remove-dots-of-dotless, removing-dots-keeps-absolute, removing-dots-leaves-no-dot-segment, removing-dots-lengthens-no-path, segments-of-dotless-path-are-dotless}
pub use Rattle.uri_ops.proofs.Paths.DotRuns.{empty-text-is-nil, not-empty-has-length, single-dot-is-not-empty}
pub use Rattle.uri_ops.proofs.Paths.LastSlashes.{before_last_slash-of-slashless-is-empty, before_last_slash-of-slashless-tail, slash-position-is-of-slash}
pub use Rattle.uri_ops.proofs.Paths.MergedPaths.{merged-path-is-absolute}
pub use Rattle.uri_ops.proofs.Paths.PathCharacters.{before_last_slash-passes-test, lacked-delimiters-fail-test, test-of-delimiters-gives-lacks}
pub use Rattle.uri_ops.proofs.Paths.PathMeanings.{dot-is-set-text, dotless_if_absolute-is-idempotent, guard-is-removed-as-dot-segment, guarded-set-text-is-set-text, path-without-dots-is-set-text, removing-dots-keeps-leading-slash, two-slashes-begin-with-slash}
pub use Rattle.uri_ops.proofs.Paths.PushedPaths.{prefix-of-absolute-path-is-absolute}
pub use Rattle.uri_ops.proofs.Paths.Segments.{AllPass, appended-segments-pass-test, dotless_of-append, end_of, is_dotless, next_output-passes-test, parent-of-dotless-is-pop, pop-undoes-push, popped-segments-pass-test, pushed-segments-are-not-none, segments-pass-true-test, steps-of-dotless-append-all}
unfoldable pub use Rattle.uri_ops.proofs.Paths.Segments.{closing, dotless_of, is_none, next_output, pop, step_of, steps}
pub use Rattle.uri_ops.proofs.Paths.SlashedSegments.{NoSlashes, before_last_slash-of-slashed-is-popped, directory-by-segments, first-segment-and-rest-lack-slashes, is_one_of-slash-is-equality, lacks_slash, remove-dots-by-segments, segments-of-joined-segments, segments-of-slashed-segments, segments-of-text-are-not-none, segments-of-text-lack-slashes, slash-in-suffix-is-in-append, slashed-of-append, slashed-of-push, slashed-of-segments-is-text-after-slash}
unfoldable pub use Rattle.uri_ops.proofs.Paths.SlashedSegments.{slashed}
pub use Rattle.uri_ops.proofs.Paths.TakenSegments.{absolute-path-is-slash-and-rest, removing-dots-after-directory, underflow-after-directory}
unfoldable pub use Rattle.uri_ops.proofs.Paths.Underflows.{underflows_at}
pub use Rattle.uri_ops.proofs.SchemeRules.RuledTargets.{resolving-respects-meaning}
pub use Rattle.uri_ops.proofs.SchemeRules.RuledTexts.{same-normal-text-same-meaning}
pub use Rattle.uri_ops.proofs.Targeting.JoinedPieces.{zero-length-is-empty}
pub use Rattle.uri_ops.proofs.Targeting.NormalTargets.{allowed-underflow-is-no-error, equal-mapped-results-are-ok-alike, equal-mapped-results-have-equal-errors, equal-mapped-results-have-equal-targets, mapped, resolution-is-unique, same-meaning-same-normal-form, same-resolution-error-with-underflow-allowed}
pub use Rattle.uri_ops.proofs.Targeting.RefusalOrder.{ok-result-has-no-opaque-rejection}
unfoldable pub use Rattle.uri_ops.proofs.Targeting.RefusalOrder.{result_or_target_error}
pub use Rattle.uri_ops.proofs.Targeting.Swaps.{merging-base-is-not-opaque, text-of-kind-has-needed-scheme}
pub use Rattle.uri_ops.proofs.Targeting.TargetCases.{settled-text-has-settled-components}
pub use Rattle.uri_ops.proofs.Targeting.Targets.{appended-absolute-path-is-absolute, authority-property-implies-other-if-some, option-that-is-some-has-no-none, target-text-has-target-components}
pub use Rattle.uri_ops.proofs.TextKinds.Conversions.{uri_ref_is_iri_ref}
pub use Rattle.uri_ops.proofs.TextKinds.FourKinds.{one-of-four-kinds-has-sets}
pub use Rattle.uri_ops.proofs.TextKinds.GrammarTexts.{iri_refs-are-texts-of-grammar, iris-are-texts-of-grammar, uri_refs-are-texts-of-grammar, uris-are-texts-of-grammar}
