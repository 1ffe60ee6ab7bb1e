-- What a builder holds, and the text of it: RFC 3986, section 5.3.
use Rattle.std.specs.Prelude.{◌≡◌, ◌==◌, ◌&&◌, ℕ, Bool, true, false, List, [], ◌++◌, Option, Some, None, codes, is_none, option_map, unwrap_or, if◌then◌else◌}
use Rattle.std.specs.Fmt.{decimal}
use Rattle.std.specs.Str.{is_utf8}
use Rattle.uri_pct.specs.Prelude.{TableSet, is_valid_for}
use Rattle.uri_parts.specs.Prelude.{Components, Kind, absent_or_passes, authority_parts, is_authority, is_scheme, recompose}
use Rattle.uri_ops.specs.Dots.{is_empty}

-- the parts that a builder holds so far, each perhaps absent, and whether the builder is marked
-- failed
pub record BuilderParts : Type 0 where
  pub scheme : Option (List ℕ)
  pub authority : Option (List ℕ)
  pub path : Option (List ℕ)
  pub query : Option (List ℕ)
  pub fragment : Option (List ℕ)
  pub failed : Bool

-- what a fresh builder holds: no part, and it is not marked failed
abbrev pub no_parts : BuilderParts
no_parts = record {
  scheme = None;
  authority = None;
  path = None;
  query = None;
  fragment = None;
  failed = false;
}

-- the parts of a builder as the components of a text: a path that is not there is empty
abbrev pub as_components : BuilderParts → Components
as_components p = record {
  scheme = p.scheme;
  authority = p.authority;
  path = unwrap_or p.path [];
  query = p.query;
  fragment = p.fragment;
}

-- the text of a builder's parts: they are recomposed as components (section 5.3)
abbrev pub parts_text : BuilderParts → List ℕ
parts_text p = recompose (as_components p)

-- a step of a builder's draft: what it holds `after` is what it held `before`, so changed, or it is
-- marked failed
abbrev pub AddsUnlessFailed : (BuilderParts → BuilderParts) → BuilderParts → BuilderParts → Type 0
AddsUnlessFailed change before after = after.failed ≡ false → after ≡ change before

-- a step of a builder: what it holds `after` is what it held `before`, so changed, or it is marked
-- failed; and a builder that was marked failed stays so
pub record AddsOrFails (change : BuilderParts → BuilderParts) (before after : BuilderParts)
    : Type 0 where
  pub adds : AddsUnlessFailed change before after
  pub stays : before.failed ≡ true → after.failed ≡ true

-- the parts of a builder, with this text as the scheme (section 3.1)
abbrev pub with_scheme : List ℕ → BuilderParts → BuilderParts
with_scheme text p = record p { scheme = Some text }

-- the parts of a builder, with this text as the whole authority (section 3.2)
abbrev pub with_authority : List ℕ → BuilderParts → BuilderParts
with_authority text p = record p { authority = Some text }

-- the parts of a builder, with this text after what the authority has so far
abbrev pub with_more_authority : List ℕ → BuilderParts → BuilderParts
with_more_authority text p =
    record p { authority = option_map (λ authority. authority ++ text) p.authority }

-- the parts of a builder, with this userinfo and its `@` in the authority (section 3.2.1)
abbrev pub with_userinfo : List ℕ → BuilderParts → BuilderParts
with_userinfo text = with_more_authority (text ++ codes "@")

-- the parts of a builder, with this host after what the authority has so far (section 3.2.2)
abbrev pub with_host : List ℕ → BuilderParts → BuilderParts
with_host text = with_more_authority text

-- the parts of a builder, with `:` and these digits as the port at the end of the authority
-- (section 3.2.3)
abbrev pub with_port : List ℕ → BuilderParts → BuilderParts
with_port digits = with_more_authority (codes ":" ++ digits)

-- the parts of a builder, with the number `port` as the port of the authority, unless it equals the
-- number `default`
abbrev pub with_port_unless_default : ℕ → ℕ → BuilderParts → BuilderParts
with_port_unless_default default port p = if port == default then p else with_port (decimal port) p

-- the parts of a builder, with this text as the path (section 3.3)
abbrev pub with_path : List ℕ → BuilderParts → BuilderParts
with_path text p = record p { path = Some text }

-- the parts of a builder, with this text as the query, without its `?` (section 3.4)
abbrev pub with_query : List ℕ → BuilderParts → BuilderParts
with_query text p = record p { query = Some text }

-- the parts of a builder, with this text as the fragment, without its `#` (section 3.5)
abbrev pub with_fragment : List ℕ → BuilderParts → BuilderParts
with_fragment text p = record p { fragment = Some text }

-- whether the text may be a component of a builder: it is UTF-8, and valid for the component's set
unfoldable pub is_text_for : TableSet → List ℕ → Bool
is_text_for set text = is_utf8 text && is_valid_for set text

-- whether the text may be the scheme of a builder: it is UTF-8, and a scheme (section 3.1)
unfoldable pub is_scheme_text : List ℕ → Bool
is_scheme_text text = is_utf8 text && is_scheme text

-- whether the text may be the authority of a builder of the kind: it is UTF-8, and an authority
-- (section 3.2)
unfoldable pub is_authority_text : Kind → List ℕ → Bool
is_authority_text kind text = is_utf8 text && is_authority kind text

-- whether each part that a builder of the kind holds meets its rule
abbrev pub meet_rules : Kind → BuilderParts → Bool
meet_rules kind p =
    absent_or_passes p.scheme is_scheme_text
    && (absent_or_passes p.authority (is_authority_text kind)
    && (absent_or_passes p.path (is_text_for kind.path)
    && (absent_or_passes p.query (is_text_for kind.query)
    && absent_or_passes p.fragment (is_text_for kind.fragment))))

-- each part that a builder of the kind holds meets its rule, unless the builder is marked failed
abbrev pub MeetsOrFailed : Kind → BuilderParts → Type 0
MeetsOrFailed kind p = p.failed ≡ false → meet_rules kind p ≡ true

-- whether an authority has no port, so that a builder may add one (section 3.2.3)
abbrev pub lacks_port : List ℕ → Bool
lacks_port authority = is_none (authority_parts authority).port

-- whether an authority has neither a host nor a port, so that a builder may add a host (section
-- 3.2.2)
abbrev pub lacks_host_and_port : List ℕ → Bool
lacks_host_and_port authority = is_empty (authority_parts authority).host && lacks_port authority
