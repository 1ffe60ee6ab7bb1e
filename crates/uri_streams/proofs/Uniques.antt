-- What was met, and the first time that a normal form comes.
use Rattle.uri_streams.proofs.Common.{common_steps, arith, ◌≡◌, ℕ, true, false, cond, List, [], ◌∷◌, ◌++◌, string_bytes, bytes_eq, Decides-like, Text, HasMet, Known, text_if_new, has_met}
use Rattle.std.proofs.Common.{String}
use Rattle.std.specs.HashSet as bag
use Rattle.std.specs.String.{string_eq}
use Rattle.std.proofs.lemmas.Map.Text.{hash_set_updates_text}
use Rattle.std.proofs.lemmas.Slice.Eq.{bytes_eq-Decides}
use Rattle.uri_streams.specs.declared.met.MetTexts.{MetTexts}

-- lines: after an insertion, the set of `unique` has the new text and those that it had
pub contains_text-after-insertion : {Y S : Type 0} (key : String Y)
    (old new : bag.HashSet (String Y) S)
    → bag.Updates string_eq old new key true → (other : List ℕ) → bag.contains_text new other
    ≡ cond (bytes_eq (string_bytes key) other) true (bag.contains_text old other)
contains_text-after-insertion key old new u other = hash_set_updates_text (string_bytes key) old new
    true u other

has_met-more : (known : Known) (text other : List ℕ)
    → has_met (known ++ text ∷ []) other ≡ cond (bytes_eq text other) true (has_met known other)
has_met-more known text other = grind (arith, common_steps, bytes_eq-Decides, Decides-like)

-- lines: what `unique` writes of a text that it has not met is the text, and it has met it then
pub text_if_new-of-new : (met met_new : MetTexts) (known : Known) (normal : List ℕ)
    → HasMet met known → ((other : List ℕ) → bag.contains_text met_new.texts other
    ≡ cond (bytes_eq normal other) true (bag.contains_text met.texts other))
    → bag.contains_text met.texts normal ≡ false
    → (Text normal ≡ (text_if_new known (Text normal)).0)
    × HasMet met_new (text_if_new known (Text normal)).1
text_if_new-of-new met met_new known normal has noted unknown = grind (arith, has_met-more)
