-- References that are parsed one after the other.
use Rattle.uri_commands.proofs.Common.{common_steps, arith, ◌≡◌, ◌+◌, ◌<◌, ◌++◌, ◌∷◌, ◌∙◌, ℕ, suc, true, List, [], Some, String, string_bytes, length, take, get_or, map, sym, ap, take-map, option_map, slice_get, Kind, IsOfKind, is_of_kind, are_of_kind, texts, IsErrorOf, IsErrorOfFirst}
use Rattle.std.proofs.lemmas.List.Folds.{list_all-append}
use Rattle.std.proofs.lemmas.Option.{slice_get-get_or, slice_get-map}
use Rattle.fluent_uri.specs.declared.ParseError.{ParseError}

module _ {Z : Type 0} (kind : Kind) (first : List ℕ) (others : List (String Z)) (n : ℕ)
    (word : String Z) (text : List ℕ) (below : n < length others) (is : word ≡ get_or others n word)
    (same : text ≡ string_bytes word) where
  -- the first word and n of the others, and the next
  next : first ∷ texts (take (n + 1) others) ≡ (first ∷ texts (take n others)) ++ text ∷ []
  next = grind (arith, common_steps)

  pub one-more-reference-is-of-kind : are_of_kind kind (first ∷ texts (take n others)) ≡ true
      → IsOfKind kind text → are_of_kind kind (first ∷ texts (take (n + 1) others)) ≡ true
  one-more-reference-is-of-kind before now = ap (are_of_kind kind) next
      ∙ list_all-append (is_of_kind kind) (first ∷ texts (take n others)) (text ∷ [])
      ∙ cc (before, now)

  pub first-error-is-of-this-word : (e : ParseError)
      → are_of_kind kind (first ∷ texts (take n others)) ≡ true
      → IsErrorOf kind text e → IsErrorOfFirst kind (first ∷ texts others) e
  first-error-is-of-this-word e before now =
      let at : slice_get (texts others) n ≡ Some text =
      slice_get-map string_bytes others n
      ∙ ap (option_map string_bytes) (slice_get-get_or others n word below ∙ ap Some (sym is))
      ∙ ap Some (sym same) in (
        suc n,
        text,
        at,
        ap (λ l. are_of_kind kind (first ∷ l)) (take-map string_bytes n others) ∙ before,
        now,
      )

  pub one-more-reference-is-kept : {A : Type 0} (text_of : A → List ℕ) (reference : A)
      (before after : List A)
      → map text_of before ≡ first ∷ texts (take n others) → text_of reference ≡ text
      → after ≡ before ++ reference ∷ [] → map text_of after ≡ first ∷ texts (take (n + 1) others)
  one-more-reference-is-kept text_of reference before after kept t e =
      grind (arith, common_steps, next)
