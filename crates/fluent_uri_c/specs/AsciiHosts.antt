-- Hosts in ASCII, as DNS has them: RFC 3987, section 3.1, and UTS 46, section 4.2.
use Rattle.std.specs.Prelude.{ℕ, ◌&&◌, Bool, false, not, List, [], Option, is_none, ok_or, option_map, unwrap_or, if◌then◌else◌}
use Rattle.std.specs.Option.{option_map_or}
use Rattle.std.specs.Str.{is_utf8}
use Rattle.fluent_uri.specs.Prelude.{Kind, components, encode_past_ascii}
use Rattle.uri_parts.specs.Prelude.{name_bytes}
use Rattle.uri_idna.specs.declared.error.AsciiHostError.{AsciiHostError}
use Rattle.uri_idna.specs.declared.error.AsciiHostError.TheVariants as Ascii
use Rattle.uri_idna.specs.AsciiHosts.{ascii_host, is_unencoded_ascii}
use Rattle.uri_idna.specs.AsciiReferences.{with_ascii_host}
use Rattle.fluent_uri_c.specs.declared.errors.Error.TheVariants as Of
use Rattle.fluent_uri_c.specs.declared.errors.Rejection.{Rejection}
use Rattle.fluent_uri_c.specs.Errors.{rejected}
use Rattle.fluent_uri_c.specs.Kinds.{iri_numbered, kind_numbered}
use Rattle.fluent_uri_c.specs.Results.{Returned, rejection_or_result, text_error, with_valid_number}
use Rattle.fluent_uri_c.specs.Spans.{host_of}

-- the rejection of a call for an error of a host
abbrev pub ascii_host_rejection : AsciiHostError → Rejection
ascii_host_rejection Ascii.NameNotUtf8 = rejected Of.NameNotUtf8
ascii_host_rejection Ascii.InvalidName = rejected Of.InvalidName
ascii_host_rejection Ascii.OutOfMemory = rejected Of.OutOfMemory

-- why a host has no form in ASCII, where it has none: its name does not decode to UTF-8, or is no
-- domain name
abbrev pub no_ascii_host : List ℕ → Rejection
no_ascii_host host =
    if is_utf8 (name_bytes host) then rejected Of.InvalidName else rejected Of.NameNotUtf8

-- the host of an authority, which is empty without an authority
abbrev pub host_or_empty : Option (List ℕ) → List ℕ
host_or_empty authority = unwrap_or (host_of authority) []

-- a host in ASCII, or why it has no such form
abbrev pub ascii_host_or_error : List ℕ → Returned
ascii_host_or_error host = ok_or (ascii_host host) (no_ascii_host host)

-- whether memory is taken for a host: it has a `%`, or characters past ASCII
abbrev pub takes_memory_for_host : List ℕ → Bool
takes_memory_for_host host = not (is_unencoded_ascii host)

-- the result of a call for C that writes the host of a text of the kind in ASCII
abbrev pub ascii_host_of_kind : Kind → List ℕ → Returned
ascii_host_of_kind kind text =
    rejection_or_result (text_error kind text)
    (ascii_host_or_error (host_or_empty (components text).authority))

-- whether that call takes memory
abbrev pub takes_memory_for_host_of_kind : Kind → List ℕ → Bool
takes_memory_for_host_of_kind kind text =
    is_none (text_error kind text)
    && takes_memory_for_host (host_or_empty (components text).authority)

-- the result of `fluent_uri_ascii_host` for a text of the kind with a number of the C header
abbrev pub ascii_host_result : ℕ → List ℕ → Returned
ascii_host_result n text = with_valid_number (kind_numbered n) λ kind. ascii_host_of_kind kind text

-- whether `fluent_uri_ascii_host` takes memory for a text; the number is that of the kind
abbrev pub ascii_host_takes_memory : ℕ → List ℕ → Bool
ascii_host_takes_memory n text =
    option_map_or (λ kind. takes_memory_for_host_of_kind kind text) (kind_numbered n) false

-- a text with its host in ASCII, and then characters past ASCII percent-encoded, or why it has no
-- such form (RFC 3987, section 3.1)
abbrev pub ascii_uri_or_error : List ℕ → Returned
ascii_uri_or_error text =
    ok_or (option_map encode_past_ascii (with_ascii_host text))
    (no_ascii_host (host_or_empty (components text).authority))

-- the result of a call for C that converts an IRI, of the kind, to a URI with its host in ASCII
abbrev pub ascii_uri_of_kind : Kind → List ℕ → Returned
ascii_uri_of_kind kind text = rejection_or_result (text_error kind text) (ascii_uri_or_error text)

-- the result of `fluent_uri_to_uri_with_ascii_host` for a text of the kind with a number of the C
-- header
abbrev pub ascii_uri_result : ℕ → List ℕ → Returned
ascii_uri_result n text = with_valid_number (iri_numbered n) λ kind. ascii_uri_of_kind kind text

-- whether that call takes memory: for each text of its kind
abbrev pub ascii_uri_takes_memory : ℕ → List ℕ → Bool
ascii_uri_takes_memory n text =
    option_map_or (λ kind. is_none (text_error kind text)) (iri_numbered n) false
