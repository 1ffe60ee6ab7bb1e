-- What a call leaves whose result is a text of a kind: the text, and the parts of it.
use Rattle.std.specs.Prelude.{◌≡◌, ◌≢◌, ℕ, ◌<◌, Bool, List, length, drop, IsOkAnd, IsSomeAnd, slice_get}
use Rattle.std.specs.Result.{is_ok}
use Rattle.fluent_uri_c.specs.declared.outcome.Outcome.{Outcome}
use Rattle.fluent_uri_c.specs.declared.parts.Parts.{Parts}
use Rattle.fluent_uri_c.specs.Outcomes.{LeavesTextOrDenied}
use Rattle.fluent_uri_c.specs.Results.{Returned}
use Rattle.fluent_uri_c.specs.Spans.{AreSpansOf}

-- the parts that C gets of the text that a call returns: no error, and the spans of its components
pub record ArePartsOfResult (text : List ℕ) (parts : Parts) : Type 0 where
  pub error : parts.error ≡ 0
  pub spans : AreSpansOf text parts

-- a call writes the parts of its result to the first of its caller's parts, if there is one, and no
-- others; the lists are the parts before and after
pub record HasPartsFirst (text : List ℕ) (old new : List Parts) : Type 0 where
  pub first : 0 < length old → IsSomeAnd (slice_get new 0) (ArePartsOfResult text)
  pub others : drop 1 new ≡ drop 1 old

-- What a call for C whose result is a text of a kind writes to its buffer and its parts, reports in
-- its outcome and returns as a number; the Bool is whether it takes memory.
-- The parts are those of the whole result, also if that does not fit the buffer. If there is none,
-- the parts are as they were.
pub record LeavesValueOrDenied (takes_memory : Bool) (returned : Returned) (old new : List ℕ)
    (old_parts new_parts : List Parts) (outcome : Outcome) (number : ℕ) : Type 0 where
  pub text : LeavesTextOrDenied takes_memory returned old new outcome number
  pub parts : number ≡ 0 → IsOkAnd returned (λ text. HasPartsFirst text old_parts new_parts)
  pub kept : number ≢ 0 → new_parts ≡ old_parts

-- what a call for C whose result is a text of a kind leaves, if it takes memory for the texts that
-- it returns, and for nothing else
abbrev pub LeavesValue : Returned → List ℕ → List ℕ → List Parts → List Parts → Outcome → ℕ
    → Type 0
LeavesValue returned old new old_parts new_parts outcome number =
    LeavesValueOrDenied (is_ok returned) returned old new old_parts new_parts outcome number
