-- How the rules of both RFCs are made of one another, and what their components are.
use Rattle.uri_abnf.proofs.Common.{◌≡◌, ℕ, true, false, List, arith, ◌↔◌, codes, IsUtf8, TableSet, LacksPercent, IsValidFor, LackAuthorityDelimiters, IsAbemptyPath, has_authority, Kind, has_colon_in_first_segment, Abnf, Has, IsOf, any, lit, opt, ◌⋅◌, ◌∣◌, Rules, scheme, port, IP-literal, IPv4address}
use Rattle.uri_pct.proofs.Offered.{excludes}
use Rattle.uri_abnf.proofs.Texts.{same-text}
use Rattle.uri_abnf.proofs.Tokens.{IsSetOf, any-is-valid, valid-is-any}

-- one expression has the texts of the other
abbrev pub Same : Abnf → Abnf → Type 0
Same g h = (cs : List ℕ) → (Has g cs ↔ Has h cs)

-- `[ "?" query ] [ "#" fragment ]`
abbrev pub tail : Rules → Abnf
tail r = opt (lit "?" ⋅ r.query) ⋅ opt (lit "#" ⋅ r.fragment)

-- `"//" authority path-abempty / path-absolute / .. / path-empty`
abbrev pub hierarchy : Rules → Abnf → Abnf
hierarchy r other = lit "//" ⋅ r.authority ⋅ r.path_abempty ∣ r.path_absolute ∣ other ∣ r.path_empty

-- `scheme ":" hier-part ..`
abbrev pub after_colon : Rules → Abnf → Abnf
after_colon r rest = scheme ⋅ lit ":" ⋅ hierarchy r r.path_rootless ⋅ rest

-- `relative-part [ "?" query ] [ "#" fragment ]`
abbrev pub relative : Rules → Abnf
relative r = hierarchy r r.path_noscheme ⋅ tail r

-- the rules are made of one another as in RFC 3986, section 3
pub record AreMade (r : Rules) : Type 0 where
  pub with_scheme : Same r.with_scheme (after_colon r (tail r))
  pub absolute : Same r.absolute (after_colon r (opt (lit "?" ⋅ r.query)))
  pub reference : Same r.reference (r.with_scheme ∣ relative r)
  pub authority : Same r.authority (opt (r.userinfo ⋅ lit "@") ⋅ r.host ⋅ opt (lit ":" ⋅ port))
  pub host : Same r.host (IP-literal ∣ IPv4address ∣ r.reg_name)

-- a rule has what an expression with the same texts has
pub same-rule : {g h : Abnf} {P : Type 0} (t : List ℕ) → Same g h → (IsOf h t ↔ P) → (IsOf g t ↔ P)
same-rule t same e = grind (arith, same-text)

-- the bytes are UTF-8, and their text is valid for the set
abbrev pub IsText : TableSet → List ℕ → Type 0
IsText set t = IsUtf8 t × IsValidFor set t

-- the rule has the texts that are valid for the set
abbrev pub IsRuleOf : TableSet → Abnf → Type 0
IsRuleOf set g = (t : List ℕ) → (IsOf g t ↔ IsText set t)

-- the rules of the components have what the kind asks of these
pub record Fit (r : Rules) (kind : Kind) : Type 0 where
  pub made : AreMade r
  pub userinfo : IsRuleOf kind.userinfo r.userinfo
  pub reg_name : IsRuleOf kind.reg_name r.reg_name
  pub query : IsRuleOf kind.query r.query
  pub fragment : IsRuleOf kind.fragment r.fragment
  pub any_path : IsRuleOf kind.path r.path
  pub abempty : (t : List ℕ) → (IsOf r.path_abempty t ↔ (IsText kind.path t × IsAbemptyPath t))
  pub rootless : (t : List ℕ) → (IsOf (r.path_absolute ∣ r.path_rootless ∣ r.path_empty) t
      ↔ (IsText kind.path t × (has_authority t ≡ false)))
  pub noscheme : (t : List ℕ) → (IsOf (r.path_absolute ∣ r.path_noscheme ∣ r.path_empty) t
      ↔ (IsText kind.path t × (has_authority t ≡ false) × (has_colon_in_first_segment t ≡ false)))
  pub apart : LackAuthorityDelimiters kind.userinfo kind.reg_name
  pub path_percent : LacksPercent kind.path
  pub query_percent : LacksPercent kind.query
  pub userinfo_marks : excludes kind.userinfo (codes "/?#") ≡ true
  pub reg_name_marks : excludes kind.reg_name (codes "/?#") ≡ true
  pub path_marks : excludes kind.path (codes "?#") ≡ true
  pub query_marks : excludes kind.query (codes "#") ≡ true

pub set-rule : (g rule : Abnf) (set : TableSet) → IsSetOf g set → Same rule (any g)
    → IsRuleOf set rule
set-rule g rule set w same t = grind (arith, same-rule, any-is-valid, valid-is-any)
