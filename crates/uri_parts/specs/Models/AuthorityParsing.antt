-- What the parser takes of an authority, as functions of the text that is left: RFC 3986, section
-- 3.2.
use Rattle.std.specs.Prelude.{ℕ, ◌+◌, Bool, true, List, [], ◌∷◌, drop, codes, if◌then◌else◌}
use Rattle.uri_pct.specs.Prelude.{after, at_sign, colon, digit_set, is_one_of, left_bracket, valid_prefix}
use Rattle.uri_parts.specs.Components.{starts}
use Rattle.uri_parts.specs.Grammar.{Kind}
use Rattle.uri_parts.specs.Models.Literals.{literal_length}
use Rattle.uri_parts.specs.declared.positions.AuthorityPositions.{AuthorityPositions}

-- the text begins with one of the characters marks, or is empty
unfoldable pub is_empty_or_begins_with_any : List ℕ → List ℕ → Bool
is_empty_or_begins_with_any marks [] = true
is_empty_or_begins_with_any marks (b ∷ rest) = is_one_of marks b

-- the length of the port that begins the text, with its `:`, or 0 if no `:` is next (RFC 3986,
-- section 3.2.3)
unfoldable pub port_length : List ℕ → ℕ
port_length rest = if starts colon rest then 1 + valid_prefix digit_set (drop 1 rest) else 0

-- the length of the registered name that begins the text, and of the port after it if there is one
unfoldable pub name_and_port_length : Kind → List ℕ → ℕ
name_and_port_length kind rest = valid_prefix kind.reg_name rest + port_length
    (after kind.reg_name rest)

-- the registered name that begins the text, with the port after it if there is one, is a whole
-- authority: `/`, `?`, `#` or nothing follows (RFC 3986, section 3.2).
-- Most authorities are so.
unfoldable pub name_ends_authority : Kind → List ℕ → Bool
name_ends_authority kind rest = is_empty_or_begins_with_any (codes "/?#")
    (drop (name_and_port_length kind rest) rest)

-- the length of the host that begins the text: an address in brackets if `[` is next, and else a
-- registered name
unfoldable pub host_end : Kind → List ℕ → ℕ
host_end kind rest =
    if starts left_bracket rest then 1 + literal_length (drop 1 rest) else valid_prefix
    kind.reg_name rest

-- the length of the host that begins the text, and of the port after it if there is one
unfoldable pub host_and_port_length : Kind → List ℕ → ℕ
host_and_port_length kind rest = host_end kind rest + port_length (drop (host_end kind rest) rest)

-- the length of the userinfo that goes on at the start of the text, after a prefix that was passed
-- as a name and a port; 0 if `@` is next
unfoldable pub further_userinfo_length : Kind → List ℕ → ℕ
further_userinfo_length kind rest = if starts at_sign rest then 0 else valid_prefix
    kind.userinfo rest

-- the length of the userinfo that begins the text: of what is passed as a name and a port, and of
-- what goes on from there
unfoldable pub userinfo_length : Kind → List ℕ → ℕ
userinfo_length kind rest =
    name_and_port_length kind rest + further_userinfo_length kind
    (drop (name_and_port_length kind rest) rest)

-- where the host begins in a text that begins with an authority: at once if it is in brackets, and
-- else after userinfo and its `@`
unfoldable pub host_offset : Kind → List ℕ → ℕ
host_offset kind rest = if starts left_bracket rest then 0 else userinfo_length kind rest + 1

-- of a text that begins with an authority, what is left from the host on
abbrev pub text_from_host : Kind → List ℕ → List ℕ
text_from_host kind rest = drop (host_offset kind rest) rest

-- the length of the authority that begins the text, if it has a userinfo or its host is in brackets
unfoldable pub other_authority_length : Kind → List ℕ → ℕ
other_authority_length kind rest = host_offset kind rest + host_and_port_length kind
    (text_from_host kind rest)

-- the length of the authority that the parser finds at the start of a text
unfoldable pub found_authority_length : Kind → List ℕ → ℕ
found_authority_length kind rest =
    if name_ends_authority kind rest then name_and_port_length kind rest else other_authority_length
    kind rest

-- the positions of an authority that has a userinfo or whose host is in brackets; rest is the text
-- from the authority on, which is at the position place
unfoldable pub other_authority : Kind → ℕ → List ℕ → AuthorityPositions
other_authority kind place rest =
    let host = place + host_offset kind rest in
    record {
      start = place;
      host_start = host;
      host_end = host + host_end kind (text_from_host kind rest);
      end = host + host_and_port_length kind (text_from_host kind rest);
    }

-- the positions of the authority that the parser finds at the start of the text rest, which is at
-- the position place
unfoldable pub found_authority : Kind → ℕ → List ℕ → AuthorityPositions
found_authority kind place rest =
    if name_ends_authority kind rest
    then record {
      start = place;
      host_start = place;
      host_end = place + valid_prefix kind.reg_name rest;
      end = place + name_and_port_length kind rest;
    }
    else other_authority kind place rest
