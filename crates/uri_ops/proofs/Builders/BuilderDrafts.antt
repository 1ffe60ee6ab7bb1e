-- What each step of a builder makes of its draft: the text of the parts so changed.
use Rattle.uri_ops.proofs.Common.{common_steps, ◌≡◌, ℕ, Bool, true, false, List, ◌++◌, length, sym, ap, ◌∙◌, append_assoc, refl, string_bytes, arith, codes, Some, is_none, IsUtf8, is_utf8-from_IsUtf8, and_parts, and_from, nat_tests, TableSet, is_valid_for, is_scheme, Draft, Lengths, AddsOrFails, AddsUnlessFailed, BuilderParts, is_scheme_text, is_text_for, with_authority, with_fragment, with_path, with_query, with_scheme, draft_parts, lacks_query_and_fragment, lacks_all, lacks_authority, lacks_path, after_part, parts_in}
use Rattle.uri_ops.proofs.Builders.BuilderSteps.{text-with-authority-is-draft, text-with-fragment-is-draft, text-with-path-is-draft, text-with-query-is-draft, text-with-scheme-is-draft}
use Rattle.uri_ops.proofs.Builders.Drafting.{IsDraftOfParts, absent-part-has-no-length}

pub step-adds-to-contents : {A : Type 0} (change : A → BuilderParts → BuilderParts) (given part : A)
    (contents taken made new : BuilderParts) → (change part contents).failed ≡ contents.failed
    → given ≡ part → taken ≡ contents → AddsUnlessFailed (change given) taken made → new ≡ made
    → AddsOrFails (change part) contents new
step-adds-to-contents change given part contents taken made new keeps same from adds is = record {
  adds = added;
  stays = located new.failed refl;
}
  where
    added : AddsUnlessFailed (change part) contents new
    added unmarked = is ∙ adds (sym (ap (λ p. p.failed) is) ∙ unmarked) ∙ ap (change given) from
        ∙ ap (λ x. change x contents) same

    located : (f : Bool) → new.failed ≡ f → contents.failed ≡ true → new.failed ≡ true
    located f e marked = grind (arith, common_steps, e)

-- building: a valid text in UTF-8 is one that a builder may write for the set
pub valid_utf8_is_text_for_set : (set : TableSet) (x : List ℕ)
    → IsUtf8 x → is_valid_for set x ≡ true → is_text_for set x ≡ true
unfolding is_text_for
valid_utf8_is_text_for_set set x u e = and_from _ _ (is_utf8-from_IsUtf8 x u) e

pub valid-utf8-is-text-for-encoder : (own set : TableSet) → own ≡ set → (x : List ℕ) → IsUtf8 x
    → is_valid_for own x ≡ true → is_text_for set x ≡ true
valid-utf8-is-text-for-encoder own set same x u e = valid_utf8_is_text_for_set set x u
    (sym (ap (λ t. is_valid_for t x) same) ∙ e)

-- building: a scheme in UTF-8 is one that a builder may write
pub scheme-rule-gives-scheme-text : (x : List ℕ) → IsUtf8 x → is_scheme x ≡ true
    → is_scheme_text x ≡ true
unfolding is_scheme_text
scheme-rule-gives-scheme-text x u e = and_from _ _ (is_utf8-from_IsUtf8 x u) e

pub change-of-parts-unless-failed : (change : BuilderParts → BuilderParts)
    (before after : Lengths) (text new : List ℕ) (f g : Bool) → (g ≡ false → f ≡ false)
    → (g ≡ false → parts_in after new false ≡ change (parts_in before text false))
    → g ≡ false → parts_in after new g ≡ change (parts_in before text f)
change-of-parts-unless-failed change before after text new f g kept step e =
    grind (arith, nat_tests)

-- building: two texts that are appended to a draft, one after the other, are appended,
-- unless it is marked failed (f, g)
pub appended-twice-is-appended : (text one two first second : List ℕ) (f g : Bool)
    → (g ≡ false → f ≡ false) → (f ≡ false → first ≡ text ++ one)
    → (g ≡ false → second ≡ first ++ two) → g ≡ false → second ≡ text ++ (one ++ two)
appended-twice-is-appended text one two first second f g kept a b e =
    grind (arith, nat_tests, append_assoc)

module _ (a : Draft) (x : List ℕ) where
  abbrev text : List ℕ
  text = string_bytes a.text

  abbrev parts : BuilderParts
  parts = parts_in a.lengths text false

  abbrev rest : List ℕ
  rest = after_part 1 a.lengths.scheme text

  abbrev from_path : List ℕ
  from_path = after_part 2 a.lengths.authority rest

  abbrev from_query : List ℕ
  from_query = after_part 0 a.lengths.path from_path

  abbrev from_fragment : List ℕ
  from_fragment = after_part 1 a.lengths.query from_query

  pub draft-with-scheme : (a.failed ≡ false → lacks_all (draft_parts a) ≡ true) → a.failed ≡ false
      → IsDraftOfParts (with_scheme x parts) (record a.lengths { scheme = Some (length x) })
      (text ++ (x ++ codes ":"))
  draft-with-scheme lacks whole =
      let t = and_parts _ _ (lacks whole) in
      let s = and_parts _ _ t.1 in
      let p = and_parts _ _ s.1 in
      let q = and_parts _ _ p.1 in
      text-with-scheme-is-draft _ _ (a.ok whole) x (absent-part-has-no-length 0 _ _ t.0)
      (absent-part-has-no-length 2 a.lengths.authority rest s.0)
      (absent-part-has-no-length 0 a.lengths.path from_path p.0)
      (absent-part-has-no-length 1 a.lengths.query from_query q.0)
      (absent-part-has-no-length 1 a.lengths.fragment from_fragment q.1)

  pub draft-with-authority : (a.failed ≡ false → lacks_authority (draft_parts a) ≡ true)
      → a.failed ≡ false → IsDraftOfParts (with_authority x parts) (record a.lengths
      { authority = Some (length x) }) (text ++ (codes "//" ++ x))
  draft-with-authority lacks whole =
      grind (arith, common_steps, is_none, text-with-authority-is-draft, absent-part-has-no-length)

  pub draft-with-path : (a.failed ≡ false → lacks_path (draft_parts a) ≡ true) → a.failed ≡ false
      → IsDraftOfParts (with_path x parts) (record a.lengths { path = Some (length x) }) (text ++ x)
  draft-with-path lacks whole =
      let p = and_parts _ _ (lacks whole) in
      let q = and_parts _ _ p.1 in
      text-with-path-is-draft _ _ (a.ok whole) x (absent-part-has-no-length 0 _ _ p.0)
      (absent-part-has-no-length 1 a.lengths.query from_query q.0)
      (absent-part-has-no-length 1 a.lengths.fragment from_fragment q.1)

  pub draft-with-query : (a.failed ≡ false → lacks_query_and_fragment (draft_parts a) ≡ true)
      → a.failed ≡ false → IsDraftOfParts (with_query x parts) (record a.lengths
      { query = Some (length x) }) (text ++ (codes "?" ++ x))
  draft-with-query lacks whole =
      let q = and_parts (is_none parts.query) (is_none parts.fragment) (lacks whole) in
      text-with-query-is-draft a.lengths text (a.ok whole) x
      (absent-part-has-no-length 1 a.lengths.query from_query q.0)
      (absent-part-has-no-length 1 a.lengths.fragment from_fragment q.1)

  pub draft-with-fragment : (a.failed ≡ false → is_none (draft_parts a).fragment ≡ true)
      → a.failed ≡ false → IsDraftOfParts (with_fragment x parts) (record a.lengths
      { fragment = Some (length x) }) (text ++ (codes "#" ++ x))
  draft-with-fragment lacks whole = text-with-fragment-is-draft a.lengths text (a.ok whole) x
      (absent-part-has-no-length 1 a.lengths.fragment from_fragment (lacks whole))

pub change-of-draft-by-appending : (change : BuilderParts → BuilderParts)
    (a b : Draft) (lengths : Lengths) (more : List ℕ) → (b.failed ≡ false → a.failed ≡ false)
    → b.lengths ≡ lengths → (b.failed ≡ false → string_bytes b.text ≡ string_bytes a.text ++ more)
    → (a.failed ≡ false → parts_in lengths (string_bytes a.text ++ more) false
    ≡ change (parts_in a.lengths (string_bytes a.text) false))
    → b.failed ≡ false → draft_parts b ≡ change (parts_in a.lengths (string_bytes a.text) a.failed)
change-of-draft-by-appending change a b lengths more kept same appended step e =
    grind (arith, nat_tests, string_bytes)
