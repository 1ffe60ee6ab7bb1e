-- A base that a call for C has parsed: RFC 3986, section 5.1.
use Rattle.std.specs.Prelude.{◌≡◌, ℕ, List, Some, None, Err}
use Rattle.fluent_uri.specs.Prelude.{Kind, iri, reference_text, uri}
use Rattle.fluent_uri_c.specs.declared.bases.Base.{Base}
use Rattle.fluent_uri_c.specs.declared.bases.Base.TheVariants.{Iri, Rejected, Uri}
use Rattle.fluent_uri_c.specs.Kinds.{base_numbered}
use Rattle.fluent_uri_c.specs.Options.{basic_choice, path_preference, rules_choice}
use Rattle.fluent_uri_c.specs.Relatives.{reference_from}
use Rattle.fluent_uri_c.specs.Results.{Returned, normal_target_from, target_from, text_error, with_valid_number}
use Rattle.fluent_uri_c.specs.Spans.{parse_error}

-- the text is what the bytes are as a base of the kind, which has the number in the C header
pub record IsParsedBase (n : ℕ) (bytes : List ℕ) (kind : Kind) (text : List ℕ) : Type 0 where
  pub number : base_numbered n ≡ Some kind
  pub same : text ≡ bytes
  pub valid : None ≡ text_error kind bytes

-- the base is what the bytes are as one of the kind with the number in the C header, or why they
-- are rejected
abbrev pub IsBaseOf : ℕ → List ℕ → Base → Type 0
IsBaseOf n bytes (Uri base) = IsParsedBase n bytes uri (reference_text base)
IsBaseOf n bytes (Iri base) = IsParsedBase n bytes iri (reference_text base)
IsBaseOf n bytes (Rejected why) = parse_error (base_numbered n) bytes ≡ Some why

-- what a call for C returns by a base: the result that the function has for the base's kind and
-- text, or why the base is rejected
abbrev pub by_base : (Kind → List ℕ → Returned) → Base → Returned
by_base result (Uri base) = result uri (reference_text base)
by_base result (Iri base) = result iri (reference_text base)
by_base result (Rejected why) = Err why

-- the target of a reference against a base, by the options of a call
abbrev pub target_by : ℕ → Base → List ℕ → Returned
target_by options base reference =
    with_valid_number (basic_choice options) λ is_basic.
    by_base (λ kind text. target_from is_basic kind text reference) base

-- the normal form of the target of a reference against a base, by the options of a call
abbrev pub normal_target_by : ℕ → Base → List ℕ → Returned
normal_target_by options base reference =
    with_valid_number (rules_choice options) λ set.
    by_base (λ kind text. normal_target_from set kind text reference) base

-- the reference from a base to a target, by the options of a call
abbrev pub reference_by : ℕ → Base → List ℕ → Returned
reference_by options base target =
    with_valid_number (path_preference options) λ prefers.
    by_base (λ kind text. reference_from prefers kind text target) base
