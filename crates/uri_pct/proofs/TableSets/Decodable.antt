-- The set of the characters whose octets normalising decodes.
use Rattle.uri_pct.proofs.Common.{◌≡◌, ℕ, ◌<◌, false, sym, ap, ◌∙◌, arith, ◌||◌, ⊎_elim, or-false, cond-true, cond-false, le-ltb, lt-ltb, false_from_ne_true, cases_lt, is_decodable, TableSet, allows, allows_past_ascii, is_unreserved, UNRESERVED}
use Rattle.uri_pct.proofs.ValidTexts.Allowed.{allowed_past_ascii_is_scalar}
use Rattle.uri_pct.proofs.TableSets.Constants.{set_of_characters, unreserved_masks_are_unreserved_set, past_ascii_is_not_unreserved}

ascii_is_not_allowed_past_ascii : (set : TableSet) (c : ℕ) → c < 128 → allows_past_ascii set c
    ≡ false
ascii_is_not_allowed_past_ascii set c below = false_from_ne_true _
    (λ e. let p = allowed_past_ascii_is_scalar set c e in absurd (omega arith))

-- tables: the table of decodable characters, unreserved ones
-- and those of the set past ASCII, allows exactly these
pub decodable_table_allows_decodable : (set : TableSet) (c : ℕ)
    → allows (set_of_characters UNRESERVED false set.ucschar set.iprivate) c ≡ is_decodable set c
unfolding is_decodable allows_past_ascii
decodable_table_allows_decodable set c = ⊎_elim (λ below. cond-true _ _ _ (lt-ltb c 128 below)
    ∙ ap (λ (s : TableSet). s.ascii c) unreserved_masks_are_unreserved_set
    ∙ sym (or-false (is_unreserved c))
    ∙ ap (λ b. is_unreserved c || b) (sym (ascii_is_not_allowed_past_ascii set c below)))
    (λ past. cond-false _ _ _ (le-ltb c 128 past) ∙ ap (λ b. b
    || allows_past_ascii set c) (sym (past_ascii_is_not_unreserved c past))) (cases_lt c 128)
