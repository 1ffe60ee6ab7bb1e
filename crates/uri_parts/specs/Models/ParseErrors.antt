-- Why the parser rejects a text, on the way that it goes: no RFC has this.
use Rattle.std.specs.Prelude.{ℕ, ◌+◌, ◌&&◌, ◌==◌, nat_lt, List, drop, codes, slice_index, Some, if◌then◌else◌}
use Rattle.std.specs.Char.{is_ascii_alphabetic}
use Rattle.uri_pct.specs.Prelude.{TableSet, at_sign, colon, left_bracket, scheme_set}
use Rattle.uri_parts.specs.Components.{has_authority}
use Rattle.uri_parts.specs.Errors.{unexpected}
use Rattle.uri_parts.specs.LiteralErrors.{literal}
use Rattle.uri_parts.specs.Refusals.{OptionalParseError, ◌>>=◌, last_colon, error_from_path, error_from_relative_path}
use Rattle.uri_parts.specs.Scanning.{is_next, scan_end, scan}
use Rattle.uri_parts.specs.Grammar.{Kind}
use Rattle.uri_parts.specs.Models.AuthorityParsing.{is_empty_or_begins_with_any, port_length, name_and_port_length, name_ends_authority}

-- the error that the parser comes to at index i, where something is left after an authority: a
-- stray `%` of a path, or else that it is unexpected
unfoldable pub left_over_error : Kind → List ℕ → ℕ → OptionalParseError
left_over_error kind text i = scan text kind.path i >>= λ _. Some (unexpected i)

-- the error that the parser comes to where a registered name and a port end at start, and
-- characters of userinfo go on up to end, without an `@` there
unfoldable pub name_error : Kind → List ℕ → ℕ → ℕ → OptionalParseError
name_error kind text start end =
    if start == end then left_over_error kind text end
    else (if nat_lt (last_colon text end) start then Some (unexpected start)
    else Some (unexpected (last_colon text end)))

-- the error that the parser comes to from index i of the text on, where a host and its port have
-- ended, or `None`
unfoldable pub error_after_port : Kind → List ℕ → ℕ → OptionalParseError
error_after_port kind text i =
    if is_empty_or_begins_with_any (codes "/?#") (drop i text) then error_from_path kind text i
    else left_over_error kind text i

-- the error that the parser comes to from index i of the text on, where a host has ended and a port
-- may begin, or `None`
unfoldable pub port_error : Kind → List ℕ → ℕ → OptionalParseError
port_error kind text i = error_after_port kind text (i + port_length (drop i text))

-- the error that the parser comes to from index i of the text on, where a host begins, or `None`
unfoldable pub host_error : Kind → List ℕ → ℕ → OptionalParseError
host_error kind text i =
    if is_next text left_bracket i then literal text (i + 1) >>= port_error kind text
    else port_error kind text (scan_end text kind.reg_name i)

-- the error that the parser comes to from index i of the text on, where a name and a port have
-- ended that may be a prefix of userinfo, or `None`
unfoldable pub userinfo_error : Kind → List ℕ → ℕ → OptionalParseError
userinfo_error kind text i =
    if is_next text at_sign i then host_error kind text (i + 1)
    else (scan text kind.userinfo i >>= λ end.
    if is_next text at_sign end then host_error kind text (end + 1) else name_error kind text i end)

-- the error that the parser comes to from index i of the text on, where an authority begins that is
-- not just a name and a port, or `None`
unfoldable pub other_authority_error : Kind → List ℕ → ℕ → OptionalParseError
other_authority_error kind text i =
    if is_next text left_bracket i then host_error kind text i
    else userinfo_error kind text (i + name_and_port_length kind (drop i text))

-- the error that the parser comes to from index i of the text on, where an authority begins, after
-- its `//`, or `None`
unfoldable pub authority_error : Kind → List ℕ → ℕ → OptionalParseError
authority_error kind text i =
    if name_ends_authority kind (drop i text) then error_from_path kind text
    (i + name_and_port_length kind (drop i text))
    else other_authority_error kind text i

-- the error that the parser comes to from index i of the text on, where a scheme and its `:` have
-- ended, or `None`
unfoldable pub hier_part_error : Kind → List ℕ → ℕ → OptionalParseError
hier_part_error kind text i =
    if has_authority (drop i text) then authority_error kind text (i + 2) else error_from_path
    kind text i

-- the error that the parser comes to in a text without a scheme, of which what is before index i
-- may be in one, or `None`; segment: the set of a first segment without `:`
unfoldable pub schemeless_error : TableSet → Kind → List ℕ → ℕ → OptionalParseError
schemeless_error segment kind text i =
    if i == 0 && has_authority (drop i text) then authority_error kind text (i + 2)
    else error_from_relative_path kind text segment i

-- the error that the parser comes to in the text, or `None`; segment: the kind's set of a first
-- segment without `:`
unfoldable pub parsed_error : TableSet → Kind → List ℕ → OptionalParseError
parsed_error segment kind text =
    let scheme = scan_end text scheme_set 0 in
    if is_next text colon scheme
    then (if is_ascii_alphabetic (slice_index text 0) then hier_part_error kind text (scheme + 1)
    else Some (unexpected 0))
    else (if kind.needs_scheme then Some (unexpected scheme)
    else schemeless_error segment kind text scheme)
