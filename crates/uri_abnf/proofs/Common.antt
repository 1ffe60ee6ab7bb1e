-- What proofs import from std, from lower crates and from `specs/`: the modules that three
-- files or more use.
pub use Rattle.std.proofs.Common.{◌≡◌, ℕ, zero, suc, List, [], ◌∷◌, ◌++◌, refl, sym, ap, subst, ◌∙◌, inl, inr, ⊎_elim, arith, ◌≤◌, ◌<◌, ◌+◌, ◌*◌, ◌-◌, ◌/◌, ◌%◌, append_assoc, rules, codes, decimal, Bool, true, false, append-nil, length, ◌&&◌, nat_lt, map, get_or, drop, IsUtf8, Option, None, Some, IfSome, IsSome, is_some, ◌||◌, ◌⊎◌, ◌==◌, if◌then◌else◌, ◌↔◌, IfNone, IsTrue, slice_index, eq-eqb}
pub use Rattle.std.proofs.lemmas.Bool.{cases_lt, false≢true, and_parts, ltb-true, cases_Bool, or_cases, eqb-true, or_right, cond-false, or_left, and_from, cond-true, false_from_ne_true}
pub use Rattle.std.proofs.lemmas.Bool.Decides.{nat_tests}
pub use Rattle.std.proofs.lemmas.Str.{encodes-append, chars-encodes, encodes-chars, encode_ascii, IsUtf8-nil, chars_past_char, chars-append, scalars-chars, IsUtf8-append}
pub use Rattle.std.specs.Char.{digit_value, is_ascii_hexdigit, to_ascii_lowercase, is_ascii_alphabetic, encode_utf8}
pub use Rattle.std.specs.List.{list_all, list_any}
pub use Rattle.std.specs.Net.Grammar.{IsDotted, IsGroup, IsGroups, IsGroupsAfter, IsColonHex}
pub use Rattle.std.specs.Str.{encode_utf8_all, all_scalars}
unfoldable pub use Rattle.std.specs.Str.{chars}
pub use Rattle.uri_abnf.specs.Abnf.{Abnf, Has, lit, times, ◌⋅◌, ◌⋯◌, IsPower, opt, upto, Rule, Literal, Range, Sequence, Either, Repeat, Optional, IsOf, any, ◌∣◌, some}
pub use Rattle.uri_abnf.specs.Derivations.{Rules, IsAuthorityDerived, uri_rules, iri_rules, IsDerived, path_rule, unrooted_path_rule, start_rule}
unfoldable pub use Rattle.uri_abnf.specs.Rfc3986.{dec-octet, IPv4address, h16, ls32, IPv6address, port, unreserved, sub-delims, pct-encoded, pchar, scheme, IPvFuture, IP-literal, reserved, gen-delims}
unfoldable pub use Rattle.uri_abnf.specs.Rfc5234.{DIGIT, HEXDIG, ALPHA}
pub use Rattle.uri_parts.proofs.Offered.{valid_text_lacks_excluded_marks, utf8_around_ascii_byte}
pub use Rattle.uri_parts.specs.Authority.{AuthorityParts, IsAuthorityFor, authority_parts, LackAuthorityDelimiters}
pub use Rattle.uri_parts.specs.Components.{Lacks, marked, Components, IsSplitOf, IsAbemptyPath, components, has_authority, has_scheme, starts}
pub use Rattle.uri_parts.specs.Grammar.{Kind, uri, iri, has_colon_in_first_segment, IsOfKind, IsTextOf, kind_by_flags, uri_ref, iri_ref, is_scheme, is_authority}
pub use Rattle.uri_pct.proofs.Offered.{IfSome-weaken, None-from-not-is_some}
pub use Rattle.uri_pct.specs.Sets.{digit_set, userinfo_set, reg_name_set, path_set, query_set, fragment_set, iuserinfo_set, ireg_name_set, ipath_set, iquery_set, ifragment_set, pchar_set, segment_nz_nc_set, isegment_nz_nc_set, international, is_one_of, hexdig_set, ipv_future_set, TableSet, scheme_set, is_unreserved, is_reserved, LacksPercent, allows}
unfoldable pub use Rattle.uri_pct.specs.Sets.{allows_past_ascii, is_ucschar, is_iprivate}
pub use Rattle.uri_pct.specs.Tokens.{IsValidFor, allows_token}
unfoldable pub use Rattle.uri_pct.specs.Tokens.{tokens_from_chars, is_pct_encoded, is_valid_for}
