-- Which texts are parsed, as tests of the text that is left: RFC 3986, sections 3 and 4.1. The
-- parser
-- returns no error for these (`Refusals.Accepted`), and they are those of the grammar.
use Rattle.uri_parts.proofs.Common.{ℕ, ◌+◌, Bool, true, not, ◌&&◌, ◌||◌, ◌==◌, List, drop, codes, nat_lt, slice_index, is_some, if◌then◌else◌, is_ascii_alphabetic, at_sign, colon, full_stop, left_bracket, number_sign, percent_sign, question_mark, right_bracket, valid_prefix, after, TableSet, hexdig_set, ipv_future_set, scheme_set, starts, from_any, has_authority, is_end, Kind, ipv6_value, is_ipv_future, is_empty_or_begins_with_any, name_ends_authority, text_from_host, found_authority_length, host_and_port_length, userinfo_length, text_before_bracket}

-- what may be in brackets
unfoldable pub is_literal : List ℕ → Bool
is_literal address = is_some (ipv6_value address) || is_ipv_future address

-- an address and `]` come first
unfoldable pub parses_literal : List ℕ → Bool
parses_literal rest = starts right_bracket (from_any (codes "]") rest)
    && is_literal (text_before_bracket rest)

-- one or more characters of the set come first, and then the mark
unfoldable pub parses_marked : TableSet → ℕ → List ℕ → Bool
parses_marked set mark rest = nat_lt 0 (valid_prefix set rest) && starts mark (after set rest)

-- how many characters come up to the mark, with it
unfoldable pub length_to_mark : TableSet → List ℕ → ℕ
length_to_mark set rest = valid_prefix set rest + 1

-- parsing: what is left of an IPvFuture address after its version and the `.`
abbrev pub after_version : List ℕ → List ℕ
after_version rest = drop (length_to_mark hexdig_set rest) rest

-- after a `v`, the rest of an IPvFuture address and `]` come first
unfoldable pub parses_future : List ℕ → Bool
parses_future rest = parses_marked hexdig_set full_stop rest
    && parses_marked ipv_future_set right_bracket (after_version rest)

-- the length of an IPvFuture address after its `v`, with its `]`
unfoldable pub future_length : List ℕ → ℕ
future_length rest =
    length_to_mark hexdig_set rest + length_to_mark ipv_future_set (after_version rest)

-- a host is next: a name, or an address and its brackets
unfoldable pub passes_host : List ℕ → Bool
passes_host rest = if starts left_bracket rest then parses_literal (drop 1 rest) else true

-- a host and a port are next, and then what ends an authority
unfoldable pub finds_host : Kind → List ℕ → Bool
finds_host kind rest = passes_host rest
    && is_empty_or_begins_with_any (codes "/?#") (drop (host_and_port_length kind rest) rest)

-- userinfo is next, with its `@`
unfoldable pub passes_user : Kind → List ℕ → Bool
passes_user kind rest = starts at_sign (drop (userinfo_length kind rest) rest)

-- an authority of any other form than a name
unfoldable pub finds_other : Kind → List ℕ → Bool
finds_other kind rest = (starts left_bracket rest || passes_user kind rest)
    && finds_host kind (text_from_host kind rest)

-- an authority is next: a name and a port, or one of another form
unfoldable pub finds_authority : Kind → List ℕ → Bool
finds_authority kind rest = name_ends_authority kind rest || finds_other kind rest

-- parsing: a scan for a set with octets stopped at a `%` that begins none
abbrev pub is_stray : TableSet → List ℕ → Bool
is_stray set rest = set.pct_encoded && starts percent_sign rest

-- parsing: what follows the longest prefix that the set allows passes a test
abbrev pub parses_after : TableSet → (List ℕ → Bool) → List ℕ → Bool
parses_after set test rest = not (is_stray set (after set rest)) && test (after set rest)

-- a fragment if there is one, and then the end
unfoldable pub parses_fragment : Kind → List ℕ → Bool
parses_fragment kind rest =
    if starts number_sign rest then parses_after kind.fragment is_end (drop 1 rest) else is_end rest

-- a query if there is one, and what follows it
unfoldable pub parses_end : Kind → List ℕ → Bool
parses_end kind rest = if starts question_mark rest then parses_after kind.query
    (parses_fragment kind) (drop 1 rest) else parses_fragment kind rest

-- a path, and what follows it
unfoldable pub parses_path : Kind → List ℕ → Bool
parses_path kind rest = parses_after kind.path (parses_end kind) rest

-- an authority, and what follows it
unfoldable pub parses_authority : Kind → List ℕ → Bool
parses_authority kind rest =
    finds_authority kind rest && parses_path kind (drop (found_authority_length kind rest) rest)

-- a path that has no colon after the characters of a first segment, and what follows it
unfoldable pub parses_relative : TableSet → Kind → List ℕ → Bool
parses_relative segment kind rest =
    parses_after segment (λ r. not (starts colon r) && parses_path kind r) rest

-- what follows a scheme
unfoldable pub parses_hier_part : Kind → List ℕ → Bool
parses_hier_part kind rest =
    if has_authority rest then parses_authority kind (drop 2 rest) else parses_path kind rest

-- a text that has no scheme, of which so many characters are passed that may be in one
unfoldable pub parses_schemeless : TableSet → Kind → ℕ → List ℕ → Bool
parses_schemeless segment kind passed rest = if passed == 0 && has_authority
    rest then parses_authority kind (drop 2 rest) else parses_relative segment kind rest

-- a whole text: a scheme and what follows it, or a text without a scheme
unfoldable pub parses : TableSet → Kind → List ℕ → Bool
parses segment kind text =
    if starts colon (after scheme_set text) then is_ascii_alphabetic (slice_index text 0)
    && parses_hier_part kind (drop 1 (after scheme_set text)) else not kind.needs_scheme
    && parses_schemeless segment kind (valid_prefix scheme_set text) (after scheme_set text)
