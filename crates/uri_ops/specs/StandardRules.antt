-- The rules that the registered documents of schemes give: RFC 3986, section 6.2.3.
use Rattle.std.specs.Prelude.{ℕ, Bool, List, [], ◌∷◌, codes, bytes_eq}
use Rattle.std.specs.List.{list_any}
use Rattle.uri_parts.specs.Prelude.{default_port}
use Rattle.uri_ops.specs.SchemeRules.{Rules, rules_with}

-- the schemes, in lower case, under which an empty path after an authority is equivalent to `/`:
-- RFC 9110, section 4.2.3, and RFC 7252, section 6.3, say so of `http`, `https`, `coap` and `coaps`;
-- RFC 3510, section 4.7, and RFC 7472, section 4.6, compare `ipp` and `ipps` as `http`; RFC 4516,
-- section 4, has three equivalent texts under `ldap`; RFC 6455, section 3, RFC 8323, section 8.6,
-- and RFC 2224, section 1, read both paths alike under `ws`, `wss`, those of CoAP and `nfs`; and the
-- `/` may be left out under `ftp` (RFC 1738, section 3.2.2), `gopher` (RFC 4266, section 2.1),
-- `imap` (RFC 5092, section 4), `snmp` (RFC 4088, section 3), `telnet` (RFC 4248, section 2) and
-- `tn3270` (RFC 6270, section 2.1)
abbrev pub rooted_schemes : List (List ℕ)
rooted_schemes =
    codes "coap" ∷ codes "coap+tcp" ∷ codes "coap+ws" ∷ codes "coaps" ∷ codes "coaps+tcp"
    ∷ codes "coaps+ws" ∷ codes "ftp" ∷ codes "gopher" ∷ codes "http" ∷ codes "https" ∷ codes "imap"
    ∷ codes "ipp" ∷ codes "ipps" ∷ codes "ldap" ∷ codes "nfs" ∷ codes "snmp" ∷ codes "telnet"
    ∷ codes "tn3270" ∷ codes "ws" ∷ codes "wss" ∷ []

-- the schemes, in lower case, whose default host is `localhost`: under `file` it means the same as
-- no host (RFC 8089, section 2)
abbrev pub local_schemes : List (List ℕ)
local_schemes = codes "file" ∷ []

-- whether the scheme is one of the list
abbrev pub is_listed : List (List ℕ) → List ℕ → Bool
is_listed schemes scheme = list_any (bytes_eq scheme) schemes

-- the rules by these lists, and by the default ports of `Scheme::default_port`
abbrev pub standard_rules : Rules
standard_rules = rules_with default_port (is_listed rooted_schemes) (is_listed local_schemes)
