-- The result of each call for its arguments: a text, or why there is none.
use Rattle.std.specs.Prelude.{◌≡◌, ◌⊎◌, ℕ, ◌^◌, Bool, false, true, ◌==◌, List, length, nat_lt, Option, Some, None, Result, Ok, Err, IsTrue, option_map, if◌then◌else◌}
use Rattle.std.specs.Str.{IsUtf8}
use Rattle.std.specs.Result.{is_ok, result_map_both}
use Rattle.std.specs.Str.Lossy.{utf8_valid_len}
use Rattle.fluent_uri.specs.Prelude.{IsTextOf, Kind, TableSet, bytes_decoded_from, components, encode_bytes, encode_past_ascii, normal_text, print, reference_kind, refusal, tokens}
use Rattle.fluent_uri.specs.Target as Target
use Rattle.uri_ops.specs.Prelude.{meaning_under, rules_of_set}
use Rattle.uri_ops.specs.declared.scheme_rules.RuleSet.{RuleSet}
use Rattle.uri_parts.specs.Prelude.{OptionalParseError, is_at_end, scan, unexpected, ◌>>=◌}
use Rattle.uri_relative.specs.Leading.{without_fragment}
use Rattle.uri_basic.specs.Target as Basic
use Rattle.fluent_uri_c.specs.declared.errors.Error.TheVariants as Of
use Rattle.fluent_uri_c.specs.declared.errors.Rejection.{Rejection}
use Rattle.fluent_uri_c.specs.Errors.{in_reference, number_of, parse_rejection, rejected, rejected_at}
use Rattle.fluent_uri_c.specs.Kinds.{kind_numbered, base_numbered, iri_numbered}
use Rattle.fluent_uri_c.specs.Options.{basic_choice, rules_choice}
use Rattle.fluent_uri_c.specs.Sets.{encoding_set, decoding_set}

-- what a call for C returns before it is written: a text, or the rejection that says why there is
-- none
abbrev pub Returned : Type 0
Returned = Result (List ℕ) Rejection

-- whether what a call returns is that memory is out, which no call is defined to return
abbrev pub is_out_of_memory : Returned → Bool
is_out_of_memory (Ok text) = false
is_out_of_memory (Err why) = number_of why.error == 8

-- the rejection of a call's texts, if there is one, and otherwise the result of the call
abbrev pub rejection_or_result : Option Rejection → Returned → Returned
rejection_or_result None result = result
rejection_or_result (Some why) result = Err why

-- the first of two rejections, of a call's first and second text, that is present, if any
abbrev pub first_rejection : Option Rejection → Option Rejection → Option Rejection
first_rejection None second = second
first_rejection (Some why) second = Some why

-- the result of a call for what its numeric argument means, such as a kind, or `InvalidArgument` if
-- it means nothing
abbrev pub with_valid_number : {A : Type 0} → Option A → (A → Returned) → Returned
with_valid_number None result = Err (rejected Of.InvalidArgument)
with_valid_number (Some it) result = result it

-- whether bytes are no more than `PTRDIFF_MAX`, so that an object in memory can have them
abbrev pub is_possible_length : List ℕ → Bool
is_possible_length bytes = nat_lt (length bytes) (2 ^ 63)

-- why a call for C rejects bytes, if they are more than `PTRDIFF_MAX`
abbrev pub length_error : List ℕ → Option Rejection
length_error bytes =
    if is_possible_length bytes then None else Some (rejected Of.InvalidArgument)

-- why a call for C rejects its first or its second text for its length, if it does
abbrev pub lengths_error : List ℕ → List ℕ → Option Rejection
lengths_error first second =
    first_rejection (length_error first) (option_map in_reference (length_error second))

-- the result of a call for C on two texts, or why it rejects one of them for its length
abbrev pub if_possible_lengths : List ℕ → List ℕ → Returned → Returned
if_possible_lengths first second result = rejection_or_result (lengths_error first second) result

-- why a call for C rejects bytes as a text, if it does: they are too many, or not UTF-8; the index
-- is after the longest prefix that is
abbrev pub utf8_error : List ℕ → Option Rejection
utf8_error bytes = first_rejection (length_error bytes) (if nat_lt (utf8_valid_len bytes)
    (length bytes)
    then Some (rejected_at Of.NotUtf8 (utf8_valid_len bytes)) else None)

-- why a call for C rejects bytes as a text of the kind, if it does: they are not a text, or have a
-- parse error
abbrev pub text_error : Kind → List ℕ → Option Rejection
text_error kind bytes =
    first_rejection (utf8_error bytes) (option_map parse_rejection (refusal kind bytes))

-- bytes that a call for C accepts as a text: UTF-8, and no more than `PTRDIFF_MAX`
abbrev pub IsPossibleUtf8 : List ℕ → Type 0
IsPossibleUtf8 bytes = IsUtf8 bytes × IsTrue (is_possible_length bytes)

-- bytes that a call for C accepts as a text of the kind, and no more than `PTRDIFF_MAX`
abbrev pub IsPossibleText : Kind → List ℕ → Type 0
IsPossibleText kind bytes = IsTextOf kind bytes × IsTrue (is_possible_length bytes)

-- the normal form of a text of the kind by a set of rules (section 6.2.3)
unfoldable pub normal_form_of : RuleSet → Kind → List ℕ → List ℕ
normal_form_of set kind text = normal_text (meaning_under kind (rules_of_set set) text)

-- the result of a call for C that normalises bytes as a text of the kind by a set of rules: its
-- normal form, or why they are rejected
abbrev pub normal_result : RuleSet → Kind → List ℕ → Returned
normal_result set kind text =
    rejection_or_result (text_error kind text) (Ok (normal_form_of set kind text))

-- the result of a call for C that converts an IRI, of the kind, to a URI: characters past ASCII are
-- percent-encoded (RFC 3987, section 3.1)
abbrev pub encoded_result : Kind → List ℕ → Returned
encoded_result kind text = rejection_or_result (text_error kind text) (Ok (encode_past_ascii text))

-- the rejection of a call for the reason that a reference has no target
abbrev pub error_of_target : Target.TargetError → Rejection
error_of_target Target.BaseWithFragment = rejected Of.BaseWithFragment
error_of_target Target.InvalidReferenceAgainstOpaqueBase =
    rejected Of.InvalidReferenceAgainstOpaqueBase

-- the target of a base and a reference, in this order, or why there is none: that of the base
-- without its fragment (sections 5.1 and 5.2)
unfoldable pub resolution : List ℕ → List ℕ → Returned
resolution base reference =
    result_map_both (λ target. target) error_of_target
    (Target.resolution_of (without_fragment (components base)) (components reference))

-- the rejection of a call for the reason that a target by the basic algorithm is not a text
abbrev pub error_of_basic_target : Basic.BasicTargetError → Rejection
error_of_basic_target Basic.PathStartsWithDoubleSlash = rejected Of.PathStartsWithDoubleSlash

-- the target of a base and a reference, in this order, by the basic algorithm, which does not look
-- at the base's fragment, or why there is none (section 5.2)
unfoldable pub basic_resolution : List ℕ → List ℕ → Returned
basic_resolution base reference =
    result_map_both (λ target. target) error_of_basic_target
    (Basic.basic_resolution_of_texts base reference)

-- the target of a base and a reference, in this order, or why there is none; the Bool is whether it
-- is by the basic algorithm
abbrev pub resolution_by : Bool → List ℕ → List ℕ → Returned
resolution_by is_basic base reference =
    if is_basic then basic_resolution base reference else resolution base reference

-- the normal form, by a set of rules, of the target of a base and a reference, in this order, as a
-- text of the kind, or why there is no target
unfoldable pub normal_resolution : RuleSet → Kind → List ℕ → List ℕ → Returned
normal_resolution set kind base reference =
    result_map_both (normal_form_of set kind) (λ why. why) (resolution base reference)

-- why a call for C rejects its second text as one of the kind, if it does
abbrev pub second_text_error : Kind → List ℕ → Option Rejection
second_text_error kind bytes = option_map in_reference (text_error kind bytes)

-- the result of a call for C that resolves a reference against a text of the kind, the base, which
-- comes first; the Bool is whether it does so by the basic algorithm
abbrev pub target_from : Bool → Kind → List ℕ → List ℕ → Returned
target_from is_basic kind base reference =
    rejection_or_result (second_text_error (reference_kind kind) reference)
    (resolution_by is_basic base reference)

-- the result of a call for C that resolves a reference against a text of the kind, the base, and
-- normalises the target by a set of rules; the base comes first
abbrev pub normal_target_from : RuleSet → Kind → List ℕ → List ℕ → Returned
normal_target_from set kind base reference =
    rejection_or_result (second_text_error (reference_kind kind) reference)
    (normal_resolution set kind base reference)

-- the parse error of a component that has characters of the set alone, if it has one: it is scanned
-- from left to right, and what is left over is unexpected
abbrev pub component_refusal : TableSet → List ℕ → OptionalParseError
component_refusal set text =
    scan text set 0 >>= λ end. if is_at_end text end then None else Some (unexpected end)

-- why a call for C rejects bytes as a component that has characters of the set alone, if it does:
-- they are not a text, or have a parse error
abbrev pub component_error : TableSet → List ℕ → Option Rejection
component_error set bytes =
    first_rejection (utf8_error bytes)
    (option_map parse_rejection (component_refusal set bytes))

-- the result of a call for C that decodes a component that has characters of the set alone (section
-- 2.1), or why it is rejected
abbrev pub decoded_result : TableSet → List ℕ → Returned
decoded_result set text =
    rejection_or_result (component_error set text) (Ok (bytes_decoded_from (tokens text)))

-- the result of a call for C that encodes bytes by the set (section 2.1), or why they are rejected
abbrev pub encoded_as_result : TableSet → List ℕ → Returned
encoded_as_result set bytes =
    rejection_or_result (length_error bytes) (Ok (print (encode_bytes set bytes)))

-- the result of `fluent_uri_normalize` for a text; the numbers are those of its kind and of the
-- options in the C header
abbrev pub normalize_result : ℕ → ℕ → List ℕ → Returned
normalize_result n options text =
    with_valid_number (rules_choice options) λ set. with_valid_number (kind_numbered n)
    λ kind. normal_result set kind text

-- the result of `fluent_uri_to_uri` for a text of the kind with a number of the C header
abbrev pub to_uri_result : ℕ → List ℕ → Returned
to_uri_result n text = with_valid_number (iri_numbered n) λ kind. encoded_result kind text

-- the result of a call for C whose first text is a base, of the kind with a number of the C header:
-- the function has it for the kind, and the base is rejected if it is not of that
abbrev pub with_base : ℕ → List ℕ → (Kind → Returned) → Returned
with_base n base result =
    with_valid_number (base_numbered n) λ kind. rejection_or_result (text_error kind base)
    (result kind)

-- the result of `fluent_uri_resolve` for a base and a reference, in this order; the numbers are
-- those of the base's kind and of the options in the C header
abbrev pub resolve_result : ℕ → ℕ → List ℕ → List ℕ → Returned
resolve_result n options base reference =
    with_valid_number (basic_choice options) λ is_basic. with_base n base
    λ kind. target_from is_basic kind base reference

-- the result of `fluent_uri_resolve_normalized` for a base and a reference, in this order; the
-- numbers are those of the base's kind and of the options in the C header
abbrev pub resolve_normalized_result : ℕ → ℕ → List ℕ → List ℕ → Returned
resolve_normalized_result n options base reference =
    with_valid_number (rules_choice options) λ set. with_base n base
    λ kind. normal_target_from set kind base reference

-- the result of `fluent_uri_decode` for a component with a number of the C header
abbrev pub decode_result : ℕ → List ℕ → Returned
decode_result n text = with_valid_number (decoding_set n) λ set. decoded_result set text

-- the result of `fluent_uri_encode` for bytes and the component with a number of the C header
abbrev pub encode_result : ℕ → List ℕ → Returned
encode_result n bytes = with_valid_number (encoding_set n) λ set. encoded_as_result set bytes

-- a call for C returns its defined result, or, where the Bool says that it takes memory, perhaps
-- that an allocation failed; the function has the bytes of what it returns
abbrev pub IsReturnedOrDenied : {T : Type 0} → Bool → (T → List ℕ) → Returned
    → Result T Rejection → Type 0
IsReturnedOrDenied takes_memory bytes returned (Ok made) = returned ≡ Ok (bytes made)
IsReturnedOrDenied takes_memory bytes returned (Err why) =
    ((why ≡ rejected Of.OutOfMemory) × IsTrue takes_memory) ⊎ (returned ≡ Err why)

-- a call for C that takes memory for the texts that it returns, and for nothing else, returns its
-- defined result, or perhaps that an allocation failed; the function has the bytes of what it
-- returns
abbrev pub IsReturnedAs : {T : Type 0} → (T → List ℕ) → Returned → Result T Rejection → Type 0
IsReturnedAs bytes returned made = IsReturnedOrDenied (is_ok returned) bytes returned made

-- whether a call for C that resolves takes memory, by its result: for a target, and for one whose
-- path would be parsed as an authority, of which the text is made
abbrev pub takes_memory_for_target : Returned → Bool
takes_memory_for_target (Ok target) = true
takes_memory_for_target (Err why) = number_of why.error == 12

-- a call for C that resolves returns its defined result, or perhaps that an allocation failed; the
-- function has the bytes of what it returns
abbrev pub IsTargetReturned : {T : Type 0} → (T → List ℕ) → Returned → Result T Rejection
    → Type 0
IsTargetReturned bytes returned made =
    IsReturnedOrDenied (takes_memory_for_target returned) bytes returned made
