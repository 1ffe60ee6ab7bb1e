-- The origin of a URI, in ASCII: RFC 6454, sections 4 and 6.2.
use Rattle.std.specs.Prelude.{ℕ, ◌++◌, ◌==◌, ◌&&◌, Bool, true, List, [], codes, decimal, length, nat_lt, Option, Some, None, Ok, is_some, option_map, if◌then◌else◌}
use Rattle.std.specs.Option.{option_map_or}
use Rattle.std.specs.Str.{str_to_ascii_lowercase}
use Rattle.fluent_uri.specs.Prelude.{AuthorityParts, Kind, authority_parts, components, marked, uri, uri_ref}
use Rattle.uri_ops.specs.declared.scheme_rules.RuleSet.TheVariants as Set
use Rattle.uri_parts.specs.Prelude.{default_port, port_number}
use Rattle.fluent_uri_c.specs.Results.{Returned, normal_form_of, rejection_or_result, text_error, with_valid_number}

-- whether the number of a port is below 65536, if there is one
abbrev pub is_possible_port : Option ℕ → Bool
is_possible_port number = option_map_or (λ n. nat_lt n 65536) number true

-- whether a scheme and the components of an authority have an origin: the scheme has a default
-- port, the host is not empty, and the port is a possible one (section 4)
abbrev pub has_origin : List ℕ → AuthorityParts → Bool
has_origin scheme parts =
    is_some (default_port (str_to_ascii_lowercase scheme))
    && (nat_lt 0 (length parts.host) && is_possible_port (port_number parts.port))

-- an origin as a text: the scheme, the host, and the port if there is one, in base ten (section
-- 6.2)
abbrev pub origin_text : List ℕ → AuthorityParts → List ℕ
origin_text scheme parts =
    scheme ++ (codes "://" ++ (parts.host
    ++ marked (codes ":") (option_map decimal (port_number parts.port)) []))

-- the origin of a scheme and an authority of a normal text, or the empty text if they have none
abbrev pub origin_of : Option (List ℕ) → Option (List ℕ) → List ℕ
origin_of None authority = []
origin_of (Some scheme) None = []
origin_of (Some scheme) (Some authority) =
    if has_origin scheme (authority_parts authority)
    then origin_text scheme (authority_parts authority) else []

-- the origin of a text of the kind: that of its normal form, in which scheme and host are in lower
-- case and no port is the default one (sections 4 and 6.2)
abbrev pub origin_of_text : Kind → List ℕ → List ℕ
origin_of_text kind text =
    let normal = components (normal_form_of Set.DefaultPorts kind text) in
    origin_of normal.scheme normal.authority

-- the result of a call for C that writes the origin of a text of the kind
abbrev pub origin_of_kind : Kind → List ℕ → Returned
origin_of_kind kind text =
    rejection_or_result (text_error kind text) (Ok (origin_of_text kind text))

-- the kind of URIs, `uri` or `uri_ref`, with a number of the C header, if there is one
abbrev pub uri_numbered : ℕ → Option Kind
uri_numbered n = if n == 0 then Some uri else (if n == 1 then Some uri_ref else None)

-- the result of `fluent_uri_origin` for a text of the kind with a number of the C header
abbrev pub origin_result : ℕ → List ℕ → Returned
origin_result n text = with_valid_number (uri_numbered n) λ kind. origin_of_kind kind text
