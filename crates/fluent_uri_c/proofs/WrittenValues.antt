-- What a call leaves that writes a value.
use Rattle.fluent_uri_c.proofs.Common.{common_steps, ◌≡◌, ◌+◌, ◌≤◌, ◌++◌, ◌∙◌, ℕ, Bool, List, Ok, ap, arith, drop, length, length-append, sym, take, cond-false, le-ltb, Parts, outcome_of_text, written, HasPartsFirst, LeavesValueOrDenied}
use Rattle.fluent_uri_c.specs.declared.outcome.Outcome.{Outcome}
use Rattle.fluent_uri_c.proofs.WrittenLines.{two-writes-are-one}

pub value-is-left : (takes_memory : Bool) (text result old new : List ℕ)
    (old_parts new_parts : List Parts) (outcome : Outcome) → text ≡ result
    → outcome ≡ outcome_of_text text → new ≡ written text old
    → HasPartsFirst text old_parts new_parts
    → LeavesValueOrDenied takes_memory (Ok result) old new old_parts new_parts outcome 0
value-is-left takes_memory text result old new old_parts new_parts outcome is reported written
    first =
    grind arith

-- exports for C: a prefix and a suffix, each written where it belongs in a buffer for both
module _ (old mid new prefix suffix : List ℕ) (fits : length prefix + length suffix ≤ length old)
    (first : mid ≡ take 0 old ++ (prefix ++ drop (0 + length prefix) old))
    (second : new ≡ take (length prefix) mid
    ++ (suffix ++ drop (length prefix + length suffix) mid)) where
  abbrev text : List ℕ
  text = prefix ++ suffix

  text-begins-buffer : new ≡ text ++ drop (length text) old
  text-begins-buffer = two-writes-are-one old mid new prefix suffix 0 (length prefix) (omega arith)
      (omega arith) first second ∙ ap (λ n. text ++ drop n old) (omega arith)

  -- they are written as the text that they make
  pub pieces-are-written : new ≡ written text old
  pieces-are-written = text-begins-buffer ∙ sym (cond-false _ _ _
      (le-ltb (length old) (length text) (omega (arith, fits, length-append prefix suffix))))

  -- which the buffer begins with
  pub pieces-are-prefix-of-buffer : take (length prefix + length suffix) new ≡ text
  pieces-are-prefix-of-buffer = grind (arith, common_steps, text-begins-buffer)
