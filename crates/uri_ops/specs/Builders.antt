-- The states of a builder: which parts it may hold before each step, unless it is marked failed.
-- RFC 3986, section 3, has their order.
use Rattle.std.specs.Prelude.{◌≡◌, ◌&&◌, ◌||◌, not, ℕ, Bool, true, false, List, is_some, is_none, string_bytes}
use Rattle.std.specs.Option.{option_map_or}
use Rattle.uri_ops.specs.declared.build.draft.Draft.{Draft}
use Rattle.uri_ops.specs.BuilderParts.{BuilderParts, lacks_host_and_port, lacks_port}
use Rattle.uri_ops.specs.Dots.{is_empty}
use Rattle.uri_ops.specs.Drafts.{parts_in}

-- the parts that the draft of a builder holds: those of its lengths in its text
abbrev pub draft_parts : Draft → BuilderParts
draft_parts d = parts_in d.lengths (string_bytes d.text) d.failed

-- whether a builder holds no query and no fragment
abbrev pub lacks_query_and_fragment : BuilderParts → Bool
lacks_query_and_fragment p = is_none p.query && is_none p.fragment

-- whether a builder holds no path, and nothing that comes after it
abbrev pub lacks_path : BuilderParts → Bool
lacks_path p = is_none p.path && lacks_query_and_fragment p

-- whether a builder holds no authority, and nothing that comes after it
abbrev pub lacks_authority : BuilderParts → Bool
lacks_authority p = is_none p.authority && lacks_path p

-- whether a builder holds no part
abbrev pub lacks_all : BuilderParts → Bool
lacks_all p = is_none p.scheme && lacks_authority p

-- whether a builder holds an authority, which passes the test, and nothing that comes after it
abbrev pub ends_in_authority : (List ℕ → Bool) → BuilderParts → Bool
ends_in_authority takes p = option_map_or takes p.authority false && lacks_path p

-- the test of an authority in a builder that each authority passes
abbrev pub any_authority : List ℕ → Bool
any_authority authority = true

-- whether a builder holds a path, and nothing that comes after it
abbrev pub has_path_last : BuilderParts → Bool
has_path_last p = is_some p.path && lacks_query_and_fragment p

-- whether a builder holds a path, perhaps with a query, and no fragment
abbrev pub has_path_before_fragment : BuilderParts → Bool
has_path_before_fragment p = is_some p.path && is_none p.fragment

-- whether a builder holds a path, and perhaps what comes after it
abbrev pub has_path : BuilderParts → Bool
has_path p = is_some p.path

-- whether a builder holds a scheme, if its kind needs one: the Bool is whether it does
abbrev pub has_needed_scheme : Bool → BuilderParts → Bool
has_needed_scheme needs_scheme p = is_some p.scheme || not needs_scheme

-- whether a builder's parts pass the test, with a scheme if its kind needs one (the Bool); or it is
-- marked failed
unfoldable pub is_in_order : (BuilderParts → Bool) → Bool → BuilderParts → Bool
is_in_order test needs_scheme p = p.failed || (has_needed_scheme needs_scheme p && test p)

-- fresh: a builder that holds no part, whether or not its kind needs a scheme (the Bool); or it is
-- marked failed
unfoldable pub is_fresh : Bool → BuilderParts → Bool
is_fresh needs_scheme p = p.failed || lacks_all p

-- fresh, of a kind that needs no scheme (the Bool): a builder that holds no part; or it is marked
-- failed
abbrev pub is_fresh_reference : Bool → BuilderParts → Bool
is_fresh_reference = is_in_order lacks_all

-- before the authority: a builder holds no part but a scheme, if its kind needs one (the Bool); or
-- it is marked failed
abbrev pub is_before_authority : Bool → BuilderParts → Bool
is_before_authority = is_in_order lacks_authority

-- before the userinfo: the authority of a builder has begun and is empty, nothing follows it, and
-- there is a scheme if one is needed (the Bool); or it is marked failed
abbrev pub is_before_userinfo : Bool → BuilderParts → Bool
is_before_userinfo = is_in_order (ends_in_authority is_empty)

-- before the host: the authority of a builder has no host and no port yet, nothing follows it, and
-- there is a scheme if one is needed (the Bool); or it is marked failed
abbrev pub is_before_host : Bool → BuilderParts → Bool
is_before_host = is_in_order (ends_in_authority lacks_host_and_port)

-- before the port: the authority of a builder has no port, nothing follows it, and there is a
-- scheme if one is needed (the Bool); or it is marked failed
abbrev pub is_before_port : Bool → BuilderParts → Bool
is_before_port = is_in_order (ends_in_authority lacks_port)

-- in the authority: a builder has one of any text, nothing follows it, and there is a scheme if one
-- is needed (the Bool); or it is marked failed
abbrev pub is_in_authority : Bool → BuilderParts → Bool
is_in_authority = is_in_order (ends_in_authority any_authority)

-- before the path: a builder holds no path and nothing that follows it, and a scheme if one is
-- needed (the Bool); or it is marked failed
abbrev pub is_before_path : Bool → BuilderParts → Bool
is_before_path = is_in_order lacks_path

-- before the query: a builder holds a path, nothing that follows it, and a scheme if one is needed
-- (the Bool); or it is marked failed
abbrev pub is_before_query : Bool → BuilderParts → Bool
is_before_query = is_in_order has_path_last

-- before the fragment: a builder holds a path, perhaps a query, no fragment, and a scheme if one is
-- needed (the Bool); or it is marked failed
abbrev pub is_before_fragment : Bool → BuilderParts → Bool
is_before_fragment = is_in_order has_path_before_fragment

-- at the end: a builder holds a path, and a scheme if one is needed (the Bool); or it is marked
-- failed
abbrev pub is_at_end : Bool → BuilderParts → Bool
is_at_end = is_in_order has_path

-- what a builder may hold in the state `place` it may hold in the state `next`, whether or not its
-- kind needs a scheme
abbrev pub HoldsAlsoIn : (Bool → BuilderParts → Bool) → (Bool → BuilderParts → Bool) → Type 0
HoldsAlsoIn place next =
    (needs_scheme : Bool) (p : BuilderParts)
    → place needs_scheme p ≡ true → next needs_scheme p ≡ true
