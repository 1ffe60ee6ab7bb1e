-- The output of `links`.
use Rattle.std.specs.Prelude.{ℕ, List, [], ◌++◌, codes, decimal, flat_map, slice_get, unwrap_or}
use Rattle.fluent_uri.specs.Prelude.{rules_of_set}
use Rattle.fluent_uri.specs.declared.normalize.RuleSet.{RuleSet}
use Rattle.uri_links.specs.Outcomes.{outcomes_of}
use Rattle.uri_links.specs.declared.links.Outcome.{Outcome}
use Rattle.uri_links.specs.declared.links.Outcome.TheVariants.{New, Known, Refused}
use Rattle.uri_commands.specs.Messages.{resolve_error_text}

-- the line that `uritool links` prints for a target: a word, its id, its text and a newline
abbrev pub target_line : List ℕ → ℕ → List ℕ → List ℕ
target_line word id text = word ++ codes " " ++ decimal id ++ codes " " ++ text ++ codes "\n"

-- the text with this id in the register of `uritool links`
abbrev pub text_at : List (List ℕ) → ℕ → List ℕ
text_at registered id = unwrap_or (slice_get registered id) []

-- the line that `uritool links` prints for an outcome, whose id is an index into the registered
-- texts
abbrev pub outcome_line : List (List ℕ) → Outcome → List ℕ
outcome_line registered (New id) = target_line (codes "new") id (text_at registered id)
outcome_line registered (Known id) = target_line (codes "known") id (text_at registered id)
outcome_line registered (Refused error) = codes "refused " ++ resolve_error_text error ++ codes "\n"

-- the lines that `uritool links` prints for outcomes, whose ids are indices into the registered
-- texts
abbrev pub outcome_lines : List (List ℕ) → List Outcome → List ℕ
outcome_lines registered outcomes = flat_map (outcome_line registered) outcomes

-- The lines that `uritool links` prints for references to a base.
-- They are noted in an empty register, by a set of rules.
unfoldable pub link_lines : RuleSet → List ℕ → List (List ℕ) → List ℕ
link_lines set base references =
    let noted = outcomes_of (rules_of_set set) base [] references in
    outcome_lines noted.1 noted.0
