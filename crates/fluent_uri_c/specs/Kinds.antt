-- The kinds by the numbers of the header: RFC 3986, sections 3 and 4.1, and RFC 3987, section 2.2.
use Rattle.std.specs.Prelude.{ℕ, ◌==◌, Option, Some, None, if◌then◌else◌}
use Rattle.fluent_uri.specs.Prelude.{Kind, iri, iri_ref, uri, uri_ref}

-- the kind with a number of the C header, if there is one
abbrev pub kind_numbered : ℕ → Option Kind
kind_numbered n =
    if n == 0 then Some uri
    else (if n == 1 then Some uri_ref
    else (if n == 2 then Some iri else (if n == 3 then Some iri_ref else None)))

-- the kind of bases, `uri` or `iri`, with a number of the C header, if there is one
abbrev pub base_numbered : ℕ → Option Kind
base_numbered n = if n == 0 then Some uri else (if n == 2 then Some iri else None)

-- the kind of IRIs, `iri` or `iri_ref`, with a number of the C header, if there is one
abbrev pub iri_numbered : ℕ → Option Kind
iri_numbered n = if n == 2 then Some iri else (if n == 3 then Some iri_ref else None)
