-- The outcome of a reference, from the text of its normal target.
use Rattle.uri_links.proofs.Common.{◌≡◌, ℕ, true, List, [], ◌∷◌, refl, sym, ap, ◌∙◌, arith, rules, Decides, bytes_eq, AllByRecursion, list_all, position, same_from_decides, Decides-like, components, IsTextOf, Kind, is_of_kind, uri, normal_text, Rules, meaning_under, outcome_of, index_of_meaning, outcome_of_lookup, outcome_of_resolution, Outcome}
use Rattle.std.specs.Str.{is_utf8}
use Rattle.std.proofs.lemmas.Bool.{and_parts}
use Rattle.std.proofs.lemmas.Slice.Eq.{bytes_eq-Decides}
use Rattle.std.proofs.lemmas.Str.{IsUtf8-from_is_utf8}
use Rattle.fluent_uri.specs.Meaning.{Meaning}
use Rattle.fluent_uri.specs.Normalizers.{IsNormalForm}
use Rattle.fluent_uri.specs.NormalTargets.{IsNormalFormOfTarget}
use Rattle.fluent_uri.specs.Resolving.{IsErrorWithUnderflowAllowed}
use Rattle.fluent_uri.specs.SameMeanings.{same_meaning}
use Rattle.fluent_uri.specs.declared.resolve.ResolveError.{ResolveError}
use Rattle.fluent_uri.specs.declared.resolve.ResolveError.TheVariants as Of
use Rattle.uri_links.specs.Registered.{AreNormal, AreUris, is_uri_text}
use Rattle.uri_links.specs.declared.links.Outcome.TheVariants.{Refused}
use Rattle.uri_links.proofs.Places.{position-of-equal-tests}

-- register of links: `same_meaning` decides equality, by
-- `laws::meanings_are_equal_if_their_parts_are`
abbrev pub ComparesMeanings : Type 0
ComparesMeanings = (m n : Meaning) → Decides (same_meaning m n) (m ≡ n)

pub normal-target-is-its-own-normal-text : (kind : Kind) (rules : Rules)
    (base reference normal : List ℕ) → IsNormalFormOfTarget kind rules base reference normal
    → normal_text (meaning_under kind rules normal) ≡ normal
normal-target-is-its-own-normal-text kind rules base reference normal h =
    ap normal_text h.1.1.meaning ∙ sym h.1.1.text.text

-- register of links: a text that passes the test of a URI is one
is_text : (text : List ℕ) → is_uri_text text ≡ true → IsTextOf uri text
is_text text e = let p = and_parts (is_utf8 text) (is_of_kind uri text) e in
    record { utf8 = IsUtf8-from_is_utf8 text p.0; grammar = p.1 }

-- register of links: a normal form equals a text in normal form
-- exactly if the two have the same meaning
text-test-is-meaning-test : ComparesMeanings → (rules : Rules) (target normal text : List ℕ)
    → IsNormalForm uri rules target normal → IsTextOf uri text
    → normal_text (meaning_under uri rules text) ≡ text → bytes_eq normal text
    ≡ same_meaning (meaning_under uri rules text) (meaning_under uri rules target)
text-test-is-meaning-test same rules target normal text h of_kind own =
    let both = h.same text of_kind in
    same_from_decides {P = normal ≡ text} _ _ (bytes_eq-Decides normal text)
    (Decides-like _ (λ e. both.1 (sym e) ∙ own) (λ e. sym (both.0 (e ∙ sym own)))
    (same (meaning_under uri rules text) (meaning_under uri rules target)))

-- register of links: two normal texts are equal exactly if the meanings are
text-tests-are-meaning-tests : ComparesMeanings → (rules : Rules) (target normal : List ℕ)
    (texts : List (List ℕ)) → IsNormalForm uri rules target normal → AreUris texts
    → AreNormal rules texts
    → AllByRecursion (λ text. bytes_eq normal text
    ≡ same_meaning (meaning_under uri rules text) (meaning_under uri rules target)) texts
text-tests-are-meaning-tests same rules target normal [] h uris own = tt
text-tests-are-meaning-tests same rules target normal (text ∷ texts) h uris own =
    let p = and_parts (is_uri_text text) (list_all is_uri_text texts) uris in (
      text-test-is-meaning-test same rules target normal text h (is_text text p.0) (cc),
      text-tests-are-meaning-tests same rules target normal texts h p.1 (cc),
    )

-- register of links: looking up a normal text finds the same index as looking up its meaning
index-by-text-is-index-by-meaning : ComparesMeanings
    → (rules : Rules) (target normal : List ℕ) (texts : List (List ℕ))
    → IsNormalForm uri rules target normal → AreUris texts → AreNormal rules texts
    → position (bytes_eq normal) texts
    ≡ index_of_meaning rules texts (meaning_under uri rules target)
index-by-text-is-index-by-meaning same rules target normal texts h uris own =
    position-of-equal-tests _ _ texts
    (text-tests-are-meaning-tests same rules target normal texts h uris own)

-- register of links: the outcome of a reference can be found by the text of its normal target
pub noted : ComparesMeanings → (rules : Rules) (base reference normal : List ℕ)
    (texts : List (List ℕ)) (outcome : Outcome × List (List ℕ))
    → IsNormalFormOfTarget uri rules base reference normal → AreUris texts → AreNormal rules texts
    → outcome_of_lookup (position (bytes_eq normal) texts) texts normal ≡ outcome
    → outcome_of rules base texts reference ≡ outcome
unfolding outcome_of
noted same rules base reference normal texts outcome h uris own e =
    grind (arith, index-by-text-is-index-by-meaning)

pub outcome_of-without-target : (rules : Rules) (base reference : List ℕ) (texts : List (List ℕ))
    (error : ResolveError)
    → IsErrorWithUnderflowAllowed (components base) (components reference) error
    → (error ≡ Of.OutOfMemory → ⊥) → outcome_of rules base texts reference ≡ (Refused error, texts)
unfolding outcome_of
outcome_of-without-target rules base reference texts Of.BaseWithFragment h m = ap
    (outcome_of_resolution rules texts) h
outcome_of-without-target rules base reference texts Of.InvalidReferenceAgainstOpaqueBase h m =
    ap (outcome_of_resolution rules texts) h
outcome_of-without-target rules base reference texts Of.PathUnderflow h m = absurd h
outcome_of-without-target rules base reference texts Of.OutOfMemory h m = absurd (m refl)
