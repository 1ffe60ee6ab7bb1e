-- The characters that delimit components, and the one that begins an octet: RFC 3986, sections 2.1
-- and 2.2.
use Rattle.std.specs.Prelude.{ℕ}

-- the code of `#`, which begins a fragment (RFC 3986, section 3.5)
abbrev pub number_sign : ℕ
number_sign = 35

-- the code of `%`, which begins a percent-encoded octet (RFC 3986, section 2.1)
abbrev pub percent_sign : ℕ
percent_sign = 37

-- the code of `.`, which separates the octets of an IPv4 address (RFC 3986, section 3.2.2)
abbrev pub full_stop : ℕ
full_stop = 46

-- the code of `/`, which separates the segments of a path; `//` begins an authority (RFC 3986,
-- sections 3.2 and 3.3)
abbrev pub slash : ℕ
slash = 47

-- the code of `:`, which ends a scheme and begins a port (RFC 3986, sections 3.1 and 3.2.3)
abbrev pub colon : ℕ
colon = 58

-- the code of `?`, which begins a query (RFC 3986, section 3.4)
abbrev pub question_mark : ℕ
question_mark = 63

-- the code of `@`, which ends userinfo (RFC 3986, section 3.2.1)
abbrev pub at_sign : ℕ
at_sign = 64

-- the code of `[`, which begins an IP literal (RFC 3986, section 3.2.2)
abbrev pub left_bracket : ℕ
left_bracket = 91

-- the code of `]`, which ends an IP literal (RFC 3986, section 3.2.2)
abbrev pub right_bracket : ℕ
right_bracket = 93
