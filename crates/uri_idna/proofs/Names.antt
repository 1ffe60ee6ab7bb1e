-- Hosts that are their own names in ASCII, and those that have none.
use Rattle.std.proofs.Common.{◌≡◌, ℕ, true, false, List, refl, ap, ◌∙◌}
use Rattle.std.specs.Prelude.{Some, None, IsUtf8}
use Rattle.std.specs.Str.{is_utf8}
use Rattle.std.proofs.lemmas.Bool.{and_parts, cond-false, cond-true, false_from_ne_true}
use Rattle.std.proofs.lemmas.Str.{IsUtf8-from_is_utf8}
use Rattle.idna.specs.Uts46.{to_ascii}
use Rattle.fluent_uri.specs.Prelude.{is_unencoded, name_bytes}
use Rattle.uri_pct.proofs.Offered.{unencoded_text_decodes_to_itself}
use Rattle.uri_ops.proofs.Offered.{ascii-bytes-are-utf8}
use Rattle.uri_idna.specs.AsciiHosts.{ascii_name, dns_name, is_ascii_text, is_unencoded_ascii}

-- hosts in ASCII: a name that is ASCII alone and has no `%` is its own name in ASCII
pub unencoded_ascii_name_stays : (host : List ℕ) → IsUtf8 host → is_unencoded_ascii host ≡ true
    → ascii_name host ≡ Some host
unencoded_ascii_name_stays host utf8 e =
    let parts = and_parts (is_unencoded host) (is_ascii_text host) e in
    cond-true _ _ _ (ap is_ascii_text (unencoded_text_decodes_to_itself host utf8 parts.0)
    ∙ parts.1)

-- hosts in ASCII: bytes that are not UTF-8 are no domain name
no_domain_name_unless_utf8 : (name : List ℕ) → is_utf8 name ≡ false → dns_name name ≡ None
unfolding to_ascii
no_domain_name_unless_utf8 name e = rw e refl

-- hosts in ASCII: a name that does not decode to UTF-8 has no form in ASCII
pub name_not_utf8_has_no_ascii_form : (host : List ℕ) → ¬ (IsUtf8 (name_bytes host))
    → ascii_name host ≡ None
name_not_utf8_has_no_ascii_form host outside =
    let bytes = name_bytes host in
    let other = false_from_ne_true (is_ascii_text bytes)
    (λ ascii. outside (ascii-bytes-are-utf8 bytes ascii)) in
    let broken = false_from_ne_true (is_utf8 bytes) (λ e. outside (IsUtf8-from_is_utf8 bytes e)) in
    cond-false _ _ _ other ∙ no_domain_name_unless_utf8 bytes broken
