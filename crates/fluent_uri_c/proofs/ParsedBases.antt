-- What a call returns by a base that is parsed is what it returns for the base's bytes.
use Rattle.fluent_uri_c.proofs.Common.{arith, ◌≡◌, ℕ, List, Kind, relativize_result, Returned, resolve_normalized_result, resolve_result, with_base, Option, Some, None, Err, unwrap_or, Rejection, text_error, rejection_or_result, with_valid_number, sym, ap}
use Rattle.fluent_uri_c.specs.Spans.{parse_error}
use Rattle.fluent_uri_c.specs.declared.bases.Base.{Base}
use Rattle.fluent_uri_c.specs.Bases.{IsBaseOf, IsParsedBase, by_base, normal_target_by, reference_by, target_by}

of_parsed_base : (result : Kind → List ℕ → Returned) (n : ℕ) (bytes text : List ℕ) (kind : Kind)
    → IsParsedBase n bytes kind text → result kind text ≡ with_base n bytes (λ k. result k bytes)
of_parsed_base result n bytes text kind is = grind arith

of_rejected_base : (kind : Option Kind) (bytes : List ℕ) (why : Rejection)
    (result : Kind → Returned) → parse_error kind bytes ≡ Some why
    → Err why ≡ with_valid_number kind (λ k. rejection_or_result (text_error k bytes) (result k))
of_rejected_base None bytes why result e = sym (ap (λ o. Err (unwrap_or o why)) e)
of_rejected_base (Some kind) bytes why result e =
    sym (ap (λ o. rejection_or_result o (result kind)) e)

-- exports for C: what a call returns by a base is its result for the bytes of that base
of_base : (result : Kind → List ℕ → Returned) (n : ℕ) (bytes : List ℕ) (base : Base)
    → IsBaseOf n bytes base → by_base result base ≡ with_base n bytes (λ k. result k bytes)
of_base result n bytes base is = grind (arith, of_parsed_base, of_rejected_base)

-- exports for C: the target by a base is what resolving against its bytes returns
pub target_by-is-resolve_result : (n options : ℕ) (bytes : List ℕ) (base : Base)
    (reference : List ℕ) → IsBaseOf n bytes base
    → target_by options base reference ≡ resolve_result n options bytes reference
target_by-is-resolve_result n options bytes base reference is = grind (arith, of_base)

pub normal_target_by-is-resolve_normalized_result : (n options : ℕ) (bytes : List ℕ) (base : Base)
    (reference : List ℕ) → IsBaseOf n bytes base
    → normal_target_by options base reference ≡ resolve_normalized_result n options bytes reference
normal_target_by-is-resolve_normalized_result n options bytes base reference is =
    grind (arith, of_base)

pub reference_by-is-relativize_result : (n options : ℕ) (bytes : List ℕ) (base : Base)
    (target : List ℕ) → IsBaseOf n bytes base
    → reference_by options base target ≡ relativize_result n options bytes target
reference_by-is-relativize_result n options bytes base target is = grind (arith, of_base)
