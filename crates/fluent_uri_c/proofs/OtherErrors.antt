-- No call is defined to return that memory is out: that comes from a denied request alone.
use Rattle.fluent_uri_c.proofs.Common.{arith, ◌≡◌, ℕ, Bool, false, List, refl, ◌==◌, Option, Some, None, Result, Err, IsTrue, ◌⊎◌, option_map, result_map_both, components, Kind, RuleSet, Rejection, error_of_kind, number_of, parse_rejection, rejected, iri_numbered, mend_link_result, mend_result, unmendable_error, relativize_result, IsReturnedOrDenied, Returned, second_text_error, with_base, basic_resolution, decode_result, encode_result, error_of_basic_target, error_of_target, first_rejection, is_out_of_memory, length_error, normal_form_of, normal_resolution, normalize_result, rejection_or_result, resolution, resolve_result, resolve_normalized_result, text_error, to_uri_result, utf8_error, with_valid_number}
use Rattle.uri_parts.specs.declared.error.ParseError.{ParseError}
use Rattle.uri_parts.specs.declared.error.ParseErrorKind.{ParseErrorKind}
use Rattle.uri_parts.specs.Refusals.{refusal}
use Rattle.uri_ops.specs.Target as Target
use Rattle.uri_relative.specs.Leading.{without_fragment}
use Rattle.uri_basic.specs.Target as Basic
use Rattle.fluent_uri_c.specs.declared.errors.Error.TheVariants.{OutOfMemory}
use Rattle.fluent_uri_c.specs.Sets.{encoding_set}

-- exports for C: whether a rejection, if there is one, is that memory is out
abbrev option_is_memory : Option Rejection → Bool
option_is_memory None = false
option_is_memory (Some why) = number_of why.error == 8

of_rejection_or_result : (o : Option Rejection) (r : Returned) → option_is_memory o ≡ false
    → is_out_of_memory r ≡ false → is_out_of_memory (rejection_or_result o r) ≡ false
of_rejection_or_result o r p q = grind arith

of_first_rejection : (o other : Option Rejection) → option_is_memory o ≡ false
    → option_is_memory other ≡ false → option_is_memory (first_rejection o other) ≡ false
of_first_rejection o other p q = grind arith

of_valid_number : {A : Type 0} → (o : Option A) (f : A → Returned)
    → ((a : A) → is_out_of_memory (f a) ≡ false) → is_out_of_memory (with_valid_number o f) ≡ false
of_valid_number o f h = grind arith

of_kind : (kind : ParseErrorKind) → (number_of (error_of_kind kind) == 8) ≡ false
of_kind kind = grind arith

of_parse_error : (o : Option ParseError) → option_is_memory (option_map parse_rejection o) ≡ false
of_parse_error None = refl
of_parse_error (Some e) = of_kind e.kind

of_length_error : (bytes : List ℕ) → option_is_memory (length_error bytes) ≡ false
of_length_error bytes = grind arith

of_utf8_error : (bytes : List ℕ) → option_is_memory (utf8_error bytes) ≡ false
of_utf8_error bytes = grind (arith, of_first_rejection, of_length_error)

of_text_error : (kind : Kind) (bytes : List ℕ) → option_is_memory (text_error kind bytes) ≡ false
of_text_error kind bytes = of_first_rejection (utf8_error bytes) _ (of_utf8_error bytes)
    (of_parse_error (refusal kind bytes))

of_second_text : (kind : Kind) (bytes : List ℕ)
    → option_is_memory (second_text_error kind bytes) ≡ false
of_second_text kind bytes = grind (arith, of_text_error)

of_base : (n : ℕ) (base : List ℕ) (result : Kind → Returned)
    → ((kind : Kind) → is_out_of_memory (result kind) ≡ false)
    → is_out_of_memory (with_base n base result) ≡ false
of_base n base result h = grind (arith, of_valid_number, of_rejection_or_result, of_text_error)

of_mending : (kind : Kind) (bytes link : List ℕ)
    → option_is_memory (first_rejection (utf8_error bytes) (unmendable_error kind link)) ≡ false
of_mending kind bytes link =
    grind (arith, of_first_rejection, of_utf8_error, of_parse_error, refusal)

of_target_error : (r : Result (List ℕ) Target.TargetError)
    → is_out_of_memory (result_map_both (λ target. target) error_of_target r) ≡ false
of_target_error r = grind arith

of_resolution : (base reference : List ℕ) → is_out_of_memory (resolution base reference) ≡ false
unfolding resolution
of_resolution base reference = of_target_error
    (Target.resolution_of (without_fragment (components base)) (components reference))

of_basic_target_error : (r : Result (List ℕ) Basic.BasicTargetError)
    → is_out_of_memory (result_map_both (λ target. target) error_of_basic_target r) ≡ false
of_basic_target_error r = grind arith

of_basic_resolution : (base reference : List ℕ)
    → is_out_of_memory (basic_resolution base reference) ≡ false
unfolding basic_resolution
of_basic_resolution base reference =
    of_basic_target_error (Basic.basic_resolution_of_texts base reference)

of_mapped_text : (f : List ℕ → List ℕ) (r : Returned) → is_out_of_memory r ≡ false
    → is_out_of_memory (result_map_both f (λ why. why) r) ≡ false
of_mapped_text f r p = grind arith

of_normal_resolution : (set : RuleSet) (kind : Kind) (base reference : List ℕ)
    → is_out_of_memory (normal_resolution set kind base reference) ≡ false
unfolding normal_resolution
of_normal_resolution set kind base reference = of_mapped_text (normal_form_of set kind)
    (resolution base reference) (of_resolution base reference)

-- exports for C: normalising is not defined to return that memory is out
pub normalize_result-is-other : (n options : ℕ) (text : List ℕ)
    → is_out_of_memory (normalize_result n options text) ≡ false
normalize_result-is-other n options text =
    grind (arith, of_valid_number, of_rejection_or_result, of_text_error)

-- exports for C: converting is not defined to return that memory is out
pub to_uri_result-is-other : (n : ℕ) (text : List ℕ)
    → is_out_of_memory (to_uri_result n text) ≡ false
to_uri_result-is-other n text = of_valid_number (iri_numbered n) _
    (λ kind. of_rejection_or_result (text_error kind text) _ (of_text_error kind text) refl)

-- exports for C: resolving is not defined to return that memory is out
pub resolve_result-is-other : (n options : ℕ) (base reference : List ℕ)
    → is_out_of_memory (resolve_result n options base reference) ≡ false
resolve_result-is-other n options base reference = grind (arith, of_basic_resolution, of_resolution)

-- exports for C: resolving and normalising are not defined to return that memory is out
pub resolve_normalized_result-is-other : (n options : ℕ) (base reference : List ℕ)
    → is_out_of_memory (resolve_normalized_result n options base reference) ≡ false
resolve_normalized_result-is-other n options base reference = grind (arith, of_normal_resolution)

-- exports for C: relativizing is not defined to return that memory is out
pub relativize_result-is-other : (n options : ℕ) (base target : List ℕ)
    → is_out_of_memory (relativize_result n options base target) ≡ false
relativize_result-is-other n options base target =
    grind (arith, of_valid_number, of_base, of_rejection_or_result, of_second_text)

-- exports for C: decoding is not defined to return that memory is out
pub decode_result-is-other : (n : ℕ) (text : List ℕ)
    → is_out_of_memory (decode_result n text) ≡ false
decode_result-is-other n text = grind arith

-- exports for C: encoding is not defined to return that memory is out
pub encode_result-is-other : (n : ℕ) (bytes : List ℕ)
    → is_out_of_memory (encode_result n bytes) ≡ false
encode_result-is-other n bytes = of_valid_number (encoding_set n) _
    (λ set. of_rejection_or_result (length_error bytes) _ (of_length_error bytes) refl)

-- exports for C: mending is not defined to return that memory is out
pub mend_result-is-other : (n : ℕ) (text : List ℕ) → is_out_of_memory (mend_result n text) ≡ false
mend_result-is-other n text = grind (arith, of_valid_number, of_rejection_or_result, of_mending)

-- exports for C: mending a link is not defined to return that memory is out
pub mend_link_result-is-other : (n : ℕ) (text : List ℕ)
    → is_out_of_memory (mend_link_result n text) ≡ false
mend_link_result-is-other n text =
    grind (arith, of_valid_number, of_rejection_or_result, of_mending)

pub takes-memory-if-out-of-memory : (takes_memory : Bool) (defined : Returned) (why : Rejection)
    → why.error ≡ OutOfMemory → is_out_of_memory defined ≡ false
    → (((why ≡ rejected OutOfMemory) × IsTrue takes_memory) ⊎ (defined ≡ Err why))
    → IsTrue takes_memory
takes-memory-if-out-of-memory takes_memory defined why e other h = grind arith

-- exports for C: the same, of what a call returned
pub takes-memory-if-denied : {T : Type 0} → (takes_memory : Bool) (bytes : T → List ℕ)
    (defined : Returned) (returned : Result T Rejection) (why : Rejection) → returned ≡ Err why
    → why.error ≡ OutOfMemory → is_out_of_memory defined ≡ false
    → IsReturnedOrDenied takes_memory bytes defined returned → IsTrue takes_memory
takes-memory-if-denied takes_memory bytes defined returned why is e other h =
    grind (arith, takes-memory-if-out-of-memory)
