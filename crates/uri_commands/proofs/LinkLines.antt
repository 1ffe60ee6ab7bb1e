-- The lines of outcomes.
use Rattle.uri_commands.proofs.Common.{common_steps, arith, ◌≡◌, ◌+◌, ◌<◌, ℕ, List, [], Option, length, take, get_or, Appends, rules_of_set, RuleSet, link_lines, outcome_line, outcome_lines}
use Rattle.fluent_uri.specs.SchemeRules.{Rules}
use Rattle.uri_links.specs.Outcomes.{outcomes_of}
use Rattle.uri_links.specs.declared.links.Outcome.{Outcome}

-- commands: the lines that `links` prints of the outcomes are those that the references define
pub outcome_lines-are-link_lines : (set : RuleSet) (rules : Rules) (base word : List ℕ)
    (none references words : List (List ℕ)) (outcomes : List Outcome) (registered : List (List ℕ))
    → rules ≡ rules_of_set set → base ≡ word → none ≡ [] → references ≡ words
    → outcomes_of rules base none references ≡ (outcomes, registered)
    → outcome_lines registered outcomes ≡ link_lines set word words
unfolding link_lines
outcome_lines-are-link_lines set rules base word none references words outcomes registered p b
    n r noted =
    grind arith

-- commands: after one more line of `links` is written, the lines up to n + 1 are;
-- a, b, c: what the writer holds
pub outcome_lines-of-one-more : (registered : List (List ℕ)) (outcomes : List Outcome) (n : ℕ)
    (outcome : Outcome) (a b c : Option (List ℕ)) → n < length outcomes
    → outcome ≡ get_or outcomes n outcome → Appends a b (outcome_lines registered (take n outcomes))
    → Appends b c (outcome_line registered outcome)
    → Appends a c (outcome_lines registered (take (n + 1) outcomes))
outcome_lines-of-one-more registered outcomes n outcome a b c h e before now =
    grind (arith, common_steps)
