-- What is returned of a host in ASCII is the result that is defined.
use Rattle.fluent_uri_c.proofs.Common.{◌≡◌, ℕ, true, List, [], arith, inl, inr, refl, sym, ap, ◌∙◌, subst, IsSomeAnd, Option, Some, None, Ok, Err, is_none, not, ok_or, cond-true, false_from_ne_true, IsUtf8-from_is_utf8, is_utf8-from_IsUtf8, components, Kind, Rejection, text_error}
use Rattle.uri_ops.proofs.Offered.{ascii-bytes-are-utf8}
use Rattle.uri_parts.specs.Authority.{authority_parts}
use Rattle.uri_idna.specs.declared.error.AsciiHostError.{AsciiHostError}
use Rattle.uri_idna.specs.declared.error.AsciiHostError.TheVariants.{InvalidName, NameNotUtf8, OutOfMemory}
use Rattle.uri_idna.specs.AsciiHosts.{IsAsciiHostError, ascii_host, is_unencoded_ascii}
use Rattle.uri_idna.specs.AsciiReferences.{IsAsciiHostErrorOf, with_authority}
use Rattle.uri_idna.proofs.Offered.{name_not_utf8_has_no_ascii_form, unencoded_ascii_name_stays}
use Rattle.fluent_uri_c.specs.AsciiHosts.{ascii_host_or_error, ascii_host_rejection, ascii_uri_of_kind, ascii_uri_or_error, host_or_empty, no_ascii_host, takes_memory_for_host}
use Rattle.fluent_uri_c.proofs.HostNames.{empty_is_name}
use Rattle.fluent_uri_c.proofs.Mends.{IsErrorOf}

-- hosts in ASCII: a host has no form in ASCII, and is rejected for this with the error
abbrev IsRejectedHost : List ℕ → AsciiHostError → Type 0
IsRejectedHost host error =
    (ascii_host host ≡ None) × (no_ascii_host host ≡ ascii_host_rejection error)

name-not-utf8-is-rejected : (host : List ℕ) → IsAsciiHostError host NameNotUtf8
    → IsRejectedHost host NameNotUtf8
name-not-utf8-is-rejected host is =
    grind (arith, name_not_utf8_has_no_ascii_form, IsUtf8-from_is_utf8)

invalid-name-is-rejected : (host : List ℕ) → IsAsciiHostError host InvalidName
    → IsRejectedHost host InvalidName
invalid-name-is-rejected host is = grind (arith, cond-true, is_utf8-from_IsUtf8)

rejected-host-has-error : (host : List ℕ) (error : AsciiHostError) → IsRejectedHost host error
    → ascii_host_or_error host ≡ Err (ascii_host_rejection error)
rejected-host-has-error host error is =
    ap (λ made. ok_or made (no_ascii_host host)) is.0 ∙ ap Err is.1

host-error-is-defined : (host : List ℕ) (error : AsciiHostError) → IsAsciiHostError host error
    → IsErrorOf (takes_memory_for_host host) (ascii_host_or_error host) (ascii_host_rejection error)
host-error-is-defined host NameNotUtf8 is =
    inr (rejected-host-has-error host NameNotUtf8 (name-not-utf8-is-rejected host is))
host-error-is-defined host InvalidName is =
    inr (rejected-host-has-error host InvalidName (invalid-name-is-rejected host is))
host-error-is-defined host OutOfMemory is =
    inl (refl, ap not (false_from_ne_true (is_unencoded_ascii host) is.1))

pub host-without-authority-is-empty : (authority : Option (List ℕ)) → authority ≡ None
    → ascii_host_or_error (host_or_empty authority) ≡ Ok []
host-without-authority-is-empty authority none =
    grind (arith, empty_is_name, unencoded_ascii_name_stays, ascii-bytes-are-utf8)

pub authority-error-is-defined : (authority : Option (List ℕ)) (text : List ℕ)
    (error : AsciiHostError) (why : Rejection) → authority ≡ Some text
    → IsAsciiHostError (authority_parts text).host error → why ≡ ascii_host_rejection error
    → IsErrorOf (takes_memory_for_host (host_or_empty authority))
    (ascii_host_or_error (host_or_empty authority)) why
authority-error-is-defined authority text error why had is e =
    rw (had, e) (host-error-is-defined (authority_parts text).host error is)

rejected-authority : (authority : Option (List ℕ)) (error : AsciiHostError)
    → ((host : List ℕ) → IsAsciiHostError host error → IsRejectedHost host error)
    → IsSomeAnd authority (λ a. IsAsciiHostError (authority_parts a).host error)
    → IsSomeAnd authority (λ a. IsRejectedHost (authority_parts a).host error)
rejected-authority None error of_host is = is
rejected-authority (Some authority) error of_host is = of_host (authority_parts authority).host is

rejected-text-has-error : (text : List ℕ) (error : AsciiHostError)
    → IsSomeAnd (components text).authority (λ a. IsRejectedHost (authority_parts a).host error)
    → ascii_uri_or_error text ≡ Err (ascii_host_rejection error)
rejected-text-has-error text error is = grind (arith, components, with_authority)

text-error-is-defined : (text : List ℕ) (error : AsciiHostError) → IsAsciiHostErrorOf text error
    → IsErrorOf true (ascii_uri_or_error text) (ascii_host_rejection error)
text-error-is-defined text NameNotUtf8 is = inr (rejected-text-has-error text NameNotUtf8
    (rejected-authority (components text).authority NameNotUtf8 name-not-utf8-is-rejected is))
text-error-is-defined text InvalidName is = inr (rejected-text-has-error text InvalidName
    (rejected-authority (components text).authority InvalidName invalid-name-is-rejected is))
text-error-is-defined text OutOfMemory is = inl (refl, refl)

-- exports for C: if an IRI is not converted so, memory is out or the rejection is the defined one
pub ascii_uri-of-error : (kind : Kind) (bytes text : List ℕ) (error : AsciiHostError)
    (why : Rejection) → None ≡ text_error kind bytes → text ≡ bytes
    → IsAsciiHostErrorOf text error → why ≡ ascii_host_rejection error
    → IsErrorOf (is_none (text_error kind bytes)) (ascii_uri_of_kind kind bytes) why
ascii_uri-of-error kind bytes text error why valid same is e = rw (sym valid, e)
    (text-error-is-defined bytes error (subst (λ t. IsAsciiHostErrorOf t error) same is))
