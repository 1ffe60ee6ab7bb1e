-- What clauses and specifications of the crates above name, from one module.
pub use Rattle.uri_parts.specs.Addresses.{ipv4_octets, ipv6_segments}
pub use Rattle.uri_parts.specs.Authority.{AuthorityParts, IsAuthorityFor, authority_parts, recompose_authority}
pub use Rattle.uri_parts.specs.AuthorityTexts.{authority_text}
pub use Rattle.uri_parts.specs.Components.{Components, IsAbemptyPath, IsSplitOf, Lacks, after_authority, after_query, after_scheme, before_any, components, from_any, has_authority, marked, recompose, starts, when}
pub use Rattle.uri_parts.specs.Connecting.{name_bytes}
pub use Rattle.uri_parts.specs.CoreTexts.{core_text}
pub use Rattle.uri_parts.specs.Errors.{IsErrorIn, error_index, unexpected}
pub use Rattle.uri_parts.specs.Fragments.{IsWithFragment}
pub use Rattle.uri_parts.specs.Grammar.{IsOfKind, IsTextOf, Kind, absent_or_passes, components_meet_rules, has_colon_in_first_segment, iri, iri_ref, is_authority, is_of_kind, is_scheme, uri, uri_ref}
pub use Rattle.uri_parts.specs.GrammarInWords.{IsInGrammar}
pub use Rattle.uri_parts.specs.Hosts.{HostKind, Ipv4, Ipv6, IpvFuture, IsHost, RegName, bracketed, host_kind, ipv6_value, is_future_address, is_host, is_ipv_future}
pub use Rattle.uri_parts.specs.LiteralErrors.{ipv6_end, literal}
pub use Rattle.uri_parts.specs.PackedPositions.{ArePackedPositionsOf, packed}
pub use Rattle.uri_parts.specs.Ports.{PortFunction, is_default, no_defaults, port_number, port_value}
pub use Rattle.uri_parts.specs.Positions.{ArePositionsOf, authority_at, before_fragment, delimited_length, host_end_of, host_start_of, positions_of}
pub use Rattle.uri_parts.specs.Printing.{debug_reference}
pub use Rattle.uri_parts.specs.Refusals.{OptionalParseError, refusal, ◌>>=◌}
pub use Rattle.uri_parts.specs.Scanning.{ScanResult, is_at_end, is_next, scan, scan_end}
pub use Rattle.uri_parts.specs.SchemePorts.{default_port}
pub use Rattle.uri_parts.specs.Schemes.{lowered_scheme, scheme_text}
