-- The usual words of a caller's contract, from one module, as
-- `ghost use Rattle.fluent_uri.specs.Prelude.{components, uri_text};`.

-- The text of a value.
pub use Rattle.uri_pct.specs.EncodedTexts.{text_of}
pub use Rattle.uri_pct.specs.EStrings.{owned_text}
pub use Rattle.uri_parts.specs.AuthorityTexts.{authority_text, host_kind_of}
pub use Rattle.uri_parts.specs.Schemes.{lowered_scheme, scheme_text}
pub use Rattle.fluent_uri.specs.References.{held_text, reference_text}
pub use Rattle.fluent_uri.specs.Uris.{uri_text, uri_ref_text}
pub use Rattle.fluent_uri.specs.Iris.{iri_text, iri_ref_text}
-- Parsing: the texts of a kind, and the error of any other text.
pub use Rattle.uri_parts.specs.Grammar.{IsOfKind, IsTextOf, Kind, absent_or_passes, components_meet_rules, has_colon_in_first_segment, iri, iri_ref, is_authority, is_of_kind, is_scheme, kind_by_flags, uri, uri_ref}
pub use Rattle.uri_parts.specs.Refusals.{refusal}
pub use Rattle.uri_parts.specs.Errors.{error_index, error_kind_of, malformed_ipv6, stray_percent, unexpected}
pub use Rattle.error_laws.specs.ViablePrefixes.{IsViablePrefix, has_late_error}
-- Components, and where to connect to.
pub use Rattle.uri_parts.specs.CoreTexts.{core_text}
pub use Rattle.uri_parts.specs.PackedPositions.{ArePackedPositionsOf, packed}
pub use Rattle.uri_parts.specs.Positions.{authority_at, delimited_length, host_end_of, positions_of}
pub use Rattle.uri_parts.specs.Scanning.{is_next, scan_end}
pub use Rattle.uri_parts.specs.Addresses.{IsSameAddress, ipv4_octets, ipv6_segments}
pub use Rattle.uri_parts.specs.Components.{Components, IsAbemptyPath, IsSplitOf, Lacks, after_authority, after_query, after_scheme, before_any, components, from_any, has_authority, has_scheme, marked, recompose, starts, when}
pub use Rattle.uri_parts.specs.Authority.{AuthorityParts, IsAuthorityFor, authority_parts, recompose_authority}
pub use Rattle.uri_parts.specs.GrammarInWords.{IsInGrammar}
pub use Rattle.uri_parts.specs.Hosts.{HostKind, Ipv4, Ipv6, IpvFuture, IsHost, IsIpv4Text, RegName, bracketed, host_kind, is_host}
pub use Rattle.uri_parts.specs.Ports.{FitsPort, port_number}
pub use Rattle.uri_parts.specs.SchemePorts.{default_port}
pub use Rattle.uri_parts.specs.Connecting.{IsTargetResultFor, name_bytes}
-- Changing, resolving and normalising.
pub use Rattle.uri_ops.specs.Models.Places.{before_path}
pub use Rattle.uri_parts.specs.Fragments.{IsWithFragment}
pub use Rattle.uri_ops.specs.BuilderParts.{AddsOrFails, BuilderParts, as_components, no_parts, parts_text, with_authority, with_fragment, with_host, with_path, with_query, with_scheme}
pub use Rattle.uri_ops.specs.BuilderStates.{contents_of, parts_in_state}
pub use Rattle.uri_ops.specs.Built.{build_error_of_path}
pub use Rattle.uri_ops.specs.ComponentSets.{HasComponentSets, IsWithin}
pub use Rattle.uri_ops.specs.Dots.{EndsInSlash, IsAbsolute, before_last_slash, directory, has_slash, is_dot_segment, is_double_dot, is_empty, is_single_dot, lacks_dot_segments, last_segment, or_slash, remove_dot_segments, run, segments, up_to_last_slash}
pub use Rattle.uri_ops.specs.Encoded.{ascii_kind, encode_past_ascii}
pub use Rattle.uri_ops.specs.HostParts.{IsHostText, ip_host}
pub use Rattle.uri_ops.specs.Meaning.{bare_meaning_of, meaning_of}
pub use Rattle.uri_ops.specs.NormalTargets.{IsNormalFormOfTarget, reference_kind, resolved_meaning}
pub use Rattle.uri_ops.specs.RuleSets.{rules_of_set}
pub use Rattle.uri_ops.specs.SameMeanings.{same_meaning}
pub use Rattle.uri_ops.specs.Target.{BaseWithFragment, InvalidReferenceAgainstOpaqueBase, TargetError, dotless_if_absolute, dotted_target, guarded, is_fragment_only, is_opaque, is_opaque_rejection, merged, query_or, resolution_of, resolution_of_texts, target_of, target_underflows, underflows_if_absolute}
pub use Rattle.uri_ops.specs.Resolving.{IsErrorWithUnderflowAllowed, IsTarget, components_of, with_final_path}
pub use Rattle.fluent_uri.specs.Targets.{target_of_texts}
pub use Rattle.uri_ops.specs.SchemeRules.{Rules, default_rules, meaning_under, only_ports, rules_with}
pub use Rattle.uri_ops.specs.StandardRules.{standard_rules}
pub use Rattle.uri_ops.specs.Normal.{normal_text}
pub use Rattle.uri_ops.specs.Normalizers.{HasNormalText, IsNormalForm}
-- Encoding and decoding.
pub use Rattle.uri_pct.specs.Delimiters.{percent_sign, slash}
pub use Rattle.uri_pct.specs.Models.ByteRuns.{IsLongestRun}
pub use Rattle.uri_pct.specs.Chunks.{chunk_bytes, chunks}
pub use Rattle.uri_pct.specs.Cows.{cow_items, cow_text}
pub use Rattle.uri_pct.specs.DecodeUnreserved.{decode_octet, decode_unreserved, is_decodable}
pub use Rattle.uri_pct.specs.Decodes.{decoded}
pub use Rattle.uri_pct.specs.Masks.{is_unencoded_ascii}
pub use Rattle.uri_pct.specs.Prefixes.{valid_prefix}
pub use Rattle.uri_pct.specs.Representation.{Represents, RepresentsWithin}
pub use Rattle.uri_pct.specs.Tables.{set_of}
pub use Rattle.uri_pct.specs.Texts.{is_unencoded, lacks}
pub use Rattle.uri_pct.specs.Tokens.{Char, IsValidFor, Octet, Token, allows_token, bytes_decoded_from, print, text_of_token, tokens}
pub use Rattle.uri_pct.specs.Encoding.{encode_bytes, encode_char, encode_text}
pub use Rattle.uri_pct.specs.Pieces.{bytes_of_pieces, lossy_text, utf8_pieces}
pub use Rattle.uri_pct.specs.Sets.{IsSubset, LacksPercent, TableSet, allows, characters_only, data_set, difference, digit_set, fragment_set, hexdig_set, ifragment_set, ipath_set, iquery_set, ireg_name_set, is_one_of, is_path_char, is_query_char, iuserinfo_set, path_set, query_set, reg_name_set, scheme_set, union, unreserved_set, userinfo_set}
