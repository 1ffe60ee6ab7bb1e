-- The components by the numbers of the header: RFC 3986, section 3.
use Rattle.std.specs.Prelude.{ℕ, List, ◌==◌, Option, Some, None, is_none, option_and_then, if◌then◌else◌}
use Rattle.fluent_uri.specs.Prelude.{Kind, authority_parts, components}
use Rattle.fluent_uri_c.specs.Spans.{parse_error}

-- the component of an authority with a number of the C header, or the whole authority (sections
-- 3.2.1 to 3.2.3)
abbrev pub authority_component : ℕ → List ℕ → Option (List ℕ)
authority_component n authority =
    let parts = authority_parts authority in
    if n == 0 then parts.userinfo
    else (if n == 1 then Some parts.host
    else (if n == 6 then Some authority else (if n == 7 then parts.port else None)))

-- the component of a text with a number of the C header, if there is such a number and the text has
-- the component
abbrev pub component_numbered : ℕ → List ℕ → Option (List ℕ)
component_numbered n text =
    let c = components text in
    if n == 2 then Some c.path
    else (if n == 3 then c.query
    else (if n == 4 then c.fragment
    else (if n == 5 then c.scheme else option_and_then (authority_component n) c.authority)))

-- the component, with a number of the C header, of bytes that are a text of the kind, if they are
-- and have it
abbrev pub component_result : Option Kind → ℕ → List ℕ → Option (List ℕ)
component_result kind n bytes =
    if is_none (parse_error kind bytes) then component_numbered n bytes else None
