-- The default ports of schemes: RFC 3986, section 3.2.3. The standard names none, and this list is
-- the project's own.
use Rattle.std.specs.Prelude.{ℕ, ◌==◌, List, [], ◌∷◌, map, filter, slice_index, codes, bytes_eq, Option, option_map, find}
use Rattle.std.specs.Char.{to_ascii_lowercase}
use Rattle.std.specs.List.{range_with_len}
use Rattle.std.specs.Str.{str_eq_ignore_ascii_case}

-- the schemes that have a default port, in lower case, each with its port
abbrev pub scheme_ports : List (List ℕ × ℕ)
scheme_ports =
    (codes "aaa", 3868)
    ∷ (codes "aaas", 5658)
    ∷ (codes "acap", 674)
    ∷ (codes "cap", 1026)
    ∷ (codes "coap", 5683)
    ∷ (codes "coap+tcp", 5683)
    ∷ (codes "coap+ws", 80)
    ∷ (codes "coaps", 5684)
    ∷ (codes "coaps+tcp", 5684)
    ∷ (codes "coaps+ws", 443)
    ∷ (codes "dict", 2628)
    ∷ (codes "dns", 53)
    ∷ (codes "ftp", 21)
    ∷ (codes "go", 1096)
    ∷ (codes "gopher", 70)
    ∷ (codes "http", 80)
    ∷ (codes "https", 443)
    ∷ (codes "icap", 1344)
    ∷ (codes "imap", 143)
    ∷ (codes "ipp", 631)
    ∷ (codes "ipps", 631)
    ∷ (codes "ldap", 389)
    ∷ (codes "mtqp", 1038)
    ∷ (codes "mupdate", 3905)
    ∷ (codes "nfs", 2049)
    ∷ (codes "nntp", 119)
    ∷ (codes "pop", 110)
    ∷ (codes "rtsp", 554)
    ∷ (codes "rtsps", 322)
    ∷ (codes "rtspu", 554)
    ∷ (codes "snmp", 161)
    ∷ (codes "stun", 3478)
    ∷ (codes "stuns", 5349)
    ∷ (codes "telnet", 23)
    ∷ (codes "tip", 3372)
    ∷ (codes "tn3270", 23)
    ∷ (codes "turn", 3478)
    ∷ (codes "turns", 5349)
    ∷ (codes "vemmi", 575)
    ∷ (codes "vnc", 5900)
    ∷ (codes "ws", 80)
    ∷ (codes "wss", 443)
    ∷ (codes "z39.50r", 210)
    ∷ (codes "z39.50s", 210)
    ∷ []

-- the default port of a scheme that is given in lower case, or `None` if it has none (RFC 3986,
-- section 3.2.3)
unfoldable pub default_port : List ℕ → Option ℕ
default_port scheme = option_map (λ row. row.1) (find (λ row. bytes_eq row.0 scheme) scheme_ports)

-- the port in the first of these rows whose scheme is this name, ASCII case apart, or `None` if
-- there is no such row
unfoldable pub port_ignoring_case : List ℕ → List (List ℕ × ℕ) → Option ℕ
port_ignoring_case name rows =
    option_map (λ row. row.1) (find (λ row. str_eq_ignore_ascii_case row.0 name) rows)

-- the rows of the schemes that begin with a letter
abbrev pub rows_of_letter : ℕ → List (List ℕ × ℕ)
rows_of_letter letter =
    filter (λ row. to_ascii_lowercase (slice_index row.0 0) == letter) scheme_ports

-- the rows of each letter, from `a` (97) on
abbrev pub rows_by_letter : List (List (List ℕ × ℕ))
rows_by_letter = map rows_of_letter (range_with_len 97 26)
