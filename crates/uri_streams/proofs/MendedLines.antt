-- What `mended` returned of a link is the result of its line.
use Rattle.uri_streams.proofs.Common.{arith, ◌≡◌, ◌≢◌, ℕ, Bool, true, false, true≢false, List, Result, ap, sym, ◌∙◌, IfOk, if◌then◌else◌, string_bytes, Kind, ParseError, is_output_failure, kind_named, error_text, KindName, LineResult, Text, Error, mend_result, parse_message, result_in, Refused}
use Rattle.std.specs.Prelude.{String}
use Rattle.uri_commands.specs.Commands.{Mend}
use Rattle.uri_commands.specs.MendedLinks.{mended_link}
use Rattle.uri_commands.specs.Refusals.{IsErrorOfCommand}
use Rattle.uri_commands.specs.declared.refusal.CommandError.{CommandError}
use Rattle.uri_commands.specs.declared.refusal.CommandError.TheVariants.{Text as TextError, OutOfMemory}
use Rattle.uri_mend.specs.Mending.{can_be_mended, mended_text}
use Rattle.uri_mend.specs.Refusing.{IsMendErrorOf}
use Rattle.uri_mend.specs.Trimming.{trimmed_link}
use Rattle.uri_mend.specs.declared.error.MendError.TheVariants.{Unmendable}
use Rattle.uri_streams.specs.declared.line_result.LineResult.{LineResult as Returned}
use Rattle.uri_streams.specs.declared.line_result.LineResult.TheVariants as returned
use Rattle.uri_streams.proofs.TextResults.{error_text-is-parse_message}

-- lines: an error of mending, but for lack of memory, is the parse error of a link that cannot be
-- mended
IsRejection : KindName → List ℕ → CommandError → Type 0
IsRejection name text why = (error : ParseError) × (why ≡ TextError error)
    × IsMendErrorOf (kind_named name) (trimmed_link text) (Unmendable error)

IsRejection-of-error : (name : KindName) (text : List ℕ) (why : CommandError)
    → IsErrorOfCommand (Mend name text) why → is_output_failure why ≡ false → why ≢ OutOfMemory
    → IsRejection name text why
unfolding IsRejection
IsRejection-of-error name text why is written some = grind (arith, IsRejection, true≢false)

-- lines: what `urilines mend` writes, if a link can be mended or not
mend_result_if : Kind → List ℕ → Bool → LineResult
mend_result_if kind text mendable = if mendable then Text (mended_text kind (trimmed_link text))
    else Error (parse_message kind (trimmed_link text))

-- lines: what `urilines mend` writes is what the link is mended to, if it can be
pub mend_result-of-mended : (kind : Kind) (text link : List ℕ)
    → (can_be_mended kind (trimmed_link text) ≡ true)
    × (link ≡ mended_text kind (trimmed_link text)) → Text link ≡ mend_result kind text
unfolding mend_result mend_result_if
mend_result-of-mended kind text link mended =
    ap Text mended.1 ∙ sym (ap (mend_result_if kind text) mended.0)

-- lines: what `urilines mend` writes of a link that cannot be mended is its error
mend_result-of-error : (kind : Kind) (text : List ℕ) (e : ParseError)
    → IsMendErrorOf kind (trimmed_link text) (Unmendable e)
    → Error (error_text e) ≡ mend_result kind text
unfolding mend_result mend_result_if
mend_result-of-error kind text e refused =
    grind (arith, error_text-is-parse_message, mend_result_if)

pub mend_result-of-returned-error : {E : Type 0} (name : KindName) (text : List ℕ)
    (why : CommandError) (result : Result Returned E) → IsErrorOfCommand (Mend name text) why
    → is_output_failure why ≡ false
    → IfOk result (λ line_result. line_result ≡ returned.Error (Refused why))
    → IfOk result (λ line_result. why ≢ OutOfMemory)
    → IfOk result (λ line_result. result_in line_result ≡ mend_result (kind_named name) text)
unfolding IsRejection
mend_result-of-returned-error name text why h is written error some =
    grind (arith, IsRejection-of-error, mend_result-of-error, kind_named)

mended_link_if : Kind → List ℕ → Bool → List ℕ
mended_link_if kind text mendable =
    if mendable then mended_text kind (trimmed_link text) else trimmed_link text

pub mended_link-of-mended : (kind : Kind) (text link : List ℕ)
    → can_be_mended kind (trimmed_link text) ≡ true
    → link ≡ mended_text kind (trimmed_link text) → link ≡ mended_link kind text
unfolding mended_link mended_link_if
mended_link-of-mended kind text link mendable is = is ∙ sym (ap (mended_link_if kind text) mendable)

-- lines: a link that is not mended is trimmed, unless there is no memory
pub mended_link-of-trimmed : {A E : Type 0} (name : KindName) (text : List ℕ) (why : CommandError)
    (result : Result (String A) E) → IsErrorOfCommand (Mend name text) why
    → is_output_failure why ≡ false → IfOk result (λ link. string_bytes link ≡ trimmed_link text)
    → IfOk result (λ link. why ≢ OutOfMemory)
    → IfOk result (λ link. string_bytes link ≡ mended_link (kind_named name) text)
unfolding IsRejection mended_link mended_link_if
mended_link-of-trimmed name text why h is written trimmed some =
    grind (arith, IsRejection-of-error, kind_named)
