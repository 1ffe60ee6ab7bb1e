-- What proofs of the crates above may use of those of this crate, by `tools/reach`.
pub use Rattle.uri_parts.proofs.Authorities.Authority.{is_authority_for-sound, names_exclude_delimiters}
pub use Rattle.uri_parts.proofs.Authorities.AuthorityCuts.{length-of-text-before-marks}
pub use Rattle.uri_parts.proofs.Authorities.AuthorityPlaces.{empty_is_authority, holds, host_is_at_positions, port_follows_host, port_is_after_host, reg_name_host_is_valid, userinfo_is_before_host}
pub use Rattle.uri_parts.proofs.Authorities.NamesAndPorts.{utf8_before_marks}
pub use Rattle.uri_parts.proofs.HostForms.Addresses.{ipv4_value-sound, ipv6-text-is-address-text, ipv6_value-complete, ipv6_value-sound}
unfoldable pub use Rattle.uri_parts.proofs.HostForms.Addresses.{is_address_char, is_address_text}
pub use Rattle.uri_parts.proofs.HostForms.Futures.{hexdigit_is_userinfo_char, ipv4-text-is-digits-and-dots, ipv4-text-lacks-name-marks, ipv6-text-lacks-excluded-marks, ipvfuture-text-lacks-excluded-marks, is_ipv_future-complete, joined-texts-lack-marks, version-letter-is-ascii}
pub use Rattle.uri_parts.proofs.HostForms.Hosts.{address-in-brackets-is-utf8, is_host-complete, is_host-sound, lacking_text_does_not_begin_with}
unfoldable pub use Rattle.uri_parts.proofs.Parsing.Acceptance.{is_literal, parses_literal}
pub use Rattle.uri_parts.proofs.Parsing.NextBytes.{text_ends_where_position_is_length}
pub use Rattle.uri_parts.proofs.Parsing.ScanStops.{utf8_after_ascii_byte, utf8_after_mark, utf8_after_slashes, utf8_from_marks}
pub use Rattle.uri_parts.proofs.Parsing.WholeTexts.{parses-is-is_of_kind, slashes-begin-with-no-colon, slashes-begin-with-no-scheme, utf8_after_authority, utf8_after_scheme}
pub use Rattle.uri_parts.proofs.Refusals.Accepted.{no-error-iff-text-is-parsed}
pub use Rattle.uri_parts.proofs.Refusals.Colons.{last_colon_is_below_position}
pub use Rattle.uri_parts.proofs.Refusals.Complete.{cannot_begin_ipv6-has-no-end}
pub use Rattle.uri_parts.proofs.Refusals.GroupTurns.{dotted, groups_from-elides-at-two-colons, groups_from-ends-with-text, groups_from-ends-without-group, groups_from-ends-without-room, groups_from-goes-on-after-group, groups_from-rejects-ipv4-without-room, groups_from-rejects-lone-colon, groups_from-rejects-misplaced-colon, text-with-mark-is-not-ended}
pub use Rattle.uri_parts.proofs.Refusals.LiteralEnds.{literal-ends-as-parsed}
pub use Rattle.uri_parts.proofs.Refusals.Literals.{literal-without-address-is-unexpected, version-letter-begins-no-ipv6}
pub use Rattle.uri_parts.proofs.Refusals.Names.{text-begins-with-one-byte-alone, userinfo-stops-with-name-without-colon, valid_prefix-at-digit-is-one-more, valid_prefix-at-other-byte-is-zero}
unfoldable pub use Rattle.uri_parts.proofs.Refusals.OnLiterals.{errors_on_literals}
pub use Rattle.uri_parts.proofs.Refusals.Rooted.{Adjoins, greater-set-goes-on-with-mark, nothing-is-scanned-at-mark, scan-stops-at-stray-percent-or-goes-on, stray-percent-stops-every-set}
pub use Rattle.uri_parts.proofs.Refusals.Sound.{Holds, ipv6_end-before-bracket-ends-ipv6, ipv6_end-before-text-ends-ipv6, text-at-mark-is-mark-and-rest}
pub use Rattle.uri_parts.proofs.Refusals.Whole.{known-kind-adjoins, parsed_error-is-refusal}
pub use Rattle.uri_parts.proofs.Splitting.ComponentPositions.{authority_is_at_positions, fragment_is_at_positions, no_fragment_at_end, path_is_at_positions, query_is_at_positions}
pub use Rattle.uri_parts.proofs.Splitting.Cuts.{IsEmptyOrMarked, before_any-at-mark, before_any-past-other, begins-with-further-mark, begins-with-mark, begins-with-no-other, cut-at-end-of-text-without-marks, empty-or-marked-for-more-marks, from_any-at-mark, from_any-past-other, text-is-cut-at-first-mark}
pub use Rattle.uri_parts.proofs.Splitting.Fragments.{boundary-at-fragment-mark, slice_range-from-start}
pub use Rattle.uri_parts.proofs.Splitting.Marks.{IsEmptyOrMarked-query_text, cons_is_not_nil, fragment_text, query_text}
pub use Rattle.uri_parts.proofs.Splitting.Places.{IsComponentAt, authority_has_abempty_path, before_hash, boundary_after_mark, length-before_hash, slice-between-prefix-and-suffix, split-text-is-before-fragment-and-fragment}
pub use Rattle.uri_parts.proofs.Splitting.Recompose.{components-are-split-of-text, components_of_parts, equal-to-true-is-IsTrue, recompose-components, text-with-mark-is-mark-and-rest}
pub use Rattle.uri_parts.proofs.Splitting.Relative.{colon_in_first_segment-is-at-start, question_or_hash_ends_scheme, question_or_hash_is_no_colon, scheme_set_excludes_delimiters, scheme_set_lacks_percent}
pub use Rattle.uri_parts.proofs.Splitting.Splits.{equal-parts-make-equal-components, only-split-is-components}
pub use Rattle.uri_parts.proofs.TextKinds.AsciiSets.{is_ascii_in, valid_ascii_text}
pub use Rattle.uri_parts.proofs.TextKinds.ComponentRules.{authority-of-text-of-kind-is-valid}
pub use Rattle.uri_parts.proofs.TextKinds.GrammarTexts.{utf8_around_ascii_byte, valid_text_lacks_excluded_marks}
pub use Rattle.uri_parts.proofs.TextKinds.KindSets.{each_kind_separates_components, empty_is_reference, iri_has_scheme, iri_is_iri_ref, kind-that-needs-scheme-has-one, scheme-rule-holds-without-need, uri_has_scheme, uri_is_uri_ref, with_scheme}
pub use Rattle.uri_parts.proofs.TextKinds.Separations.{HasAllBut, SeparatesComponents, greater-set-has-all-but-marks}
pub use Rattle.uri_parts.proofs.Theorems.{authority_parts-are-unique, is_authority_for-complete}
