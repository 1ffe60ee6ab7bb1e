-- The components that a text has by the rules of the ABNF: RFC 3986, sections 3 and 4, and
-- RFC 3987, section 2.2.
use Rattle.std.specs.Prelude.{◌≡◌, ℕ, List, Option, Some, None, IfSome, if◌then◌else◌}
use Rattle.uri_parts.specs.Prelude.{AuthorityParts, Components, Kind, recompose, recompose_authority}
use Rattle.uri_abnf.specs.Abnf.{Abnf, ◌∣◌, IsOf}
use Rattle.uri_abnf.specs.Rfc3986 as Rfc3986
use Rattle.uri_abnf.specs.Rfc3987 as Rfc3987

-- the rules by which one of the RFCs derives references and their components
pub record Rules : Type 0 where
  pub with_scheme : Abnf
  pub reference : Abnf
  pub absolute : Abnf
  pub authority : Abnf
  pub userinfo : Abnf
  pub host : Abnf
  pub reg_name : Abnf
  pub path : Abnf
  pub path_abempty : Abnf
  pub path_absolute : Abnf
  pub path_noscheme : Abnf
  pub path_rootless : Abnf
  pub path_empty : Abnf
  pub query : Abnf
  pub fragment : Abnf

-- the rules of URIs (RFC 3986, appendix A)
abbrev pub uri_rules : Rules
uri_rules = record {
  with_scheme = Rfc3986.URI;
  reference = Rfc3986.URI-reference;
  absolute = Rfc3986.absolute-URI;
  authority = Rfc3986.authority;
  userinfo = Rfc3986.userinfo;
  host = Rfc3986.host;
  reg_name = Rfc3986.reg-name;
  path = Rfc3986.path;
  path_abempty = Rfc3986.path-abempty;
  path_absolute = Rfc3986.path-absolute;
  path_noscheme = Rfc3986.path-noscheme;
  path_rootless = Rfc3986.path-rootless;
  path_empty = Rfc3986.path-empty;
  query = Rfc3986.query;
  fragment = Rfc3986.fragment;
}

-- the rules of IRIs (RFC 3987, section 2.2)
abbrev pub iri_rules : Rules
iri_rules = record {
  with_scheme = Rfc3987.IRI;
  reference = Rfc3987.IRI-reference;
  absolute = Rfc3987.absolute-IRI;
  authority = Rfc3987.iauthority;
  userinfo = Rfc3987.iuserinfo;
  host = Rfc3987.ihost;
  reg_name = Rfc3987.ireg-name;
  path = Rfc3987.ipath;
  path_abempty = Rfc3987.ipath-abempty;
  path_absolute = Rfc3987.ipath-absolute;
  path_noscheme = Rfc3987.ipath-noscheme;
  path_rootless = Rfc3987.ipath-rootless;
  path_empty = Rfc3987.ipath-empty;
  query = Rfc3987.iquery;
  fragment = Rfc3987.ifragment;
}

-- the rules of a kind of references
abbrev pub rules_of : Kind → Rules
rules_of kind = if kind.path.ucschar then iri_rules else uri_rules

-- the rule that the texts of a kind are of
abbrev pub start_rule : Kind → Abnf
start_rule kind =
    if kind.needs_scheme then (rules_of kind).with_scheme else (rules_of kind).reference

-- the rule for a path that does not begin with `/`, by the scheme before it (RFC 3986, sections 3
-- and 4.2)
abbrev pub unrooted_path_rule : Rules → Option (List ℕ) → Abnf
unrooted_path_rule rules (Some scheme) = rules.path_rootless
unrooted_path_rule rules None = rules.path_noscheme

-- the rule for a path, by the authority before it, where unrooted is the rule for one that does not
-- begin with `/` (RFC 3986, sections 3 and 4.2)
abbrev pub path_rule : Rules → Abnf → Option (List ℕ) → Abnf
path_rule rules unrooted (Some authority) = rules.path_abempty
path_rule rules unrooted None = rules.path_absolute ∣ unrooted ∣ rules.path_empty

-- the text is derived with these components: they are together the text, and each is of the rule
-- that its place asks for (RFC 3986, sections 3 and 4.2)
pub record IsDerived (rules : Rules) (text : List ℕ) (p : Components) : Type 0 where
  pub whole : recompose p ≡ text
  pub scheme : IfSome p.scheme (IsOf Rfc3986.scheme)
  pub authority : IfSome p.authority (IsOf rules.authority)
  pub path : IsOf (path_rule rules (unrooted_path_rule rules p.scheme) p.authority) p.path
  pub query : IfSome p.query (IsOf rules.query)
  pub fragment : IfSome p.fragment (IsOf rules.fragment)

-- the text is derived as an authority with these components (RFC 3986, section 3.2)
pub record IsAuthorityDerived (rules : Rules) (text : List ℕ) (p : AuthorityParts) : Type 0 where
  pub whole : recompose_authority p ≡ text
  pub userinfo : IfSome p.userinfo (IsOf rules.userinfo)
  pub host : IsOf rules.host p.host
  pub port : IfSome p.port (IsOf Rfc3986.port)
