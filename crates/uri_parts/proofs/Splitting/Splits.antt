-- The components of a text are its only split.
use Rattle.uri_parts.proofs.Common.{◌≡◌, ℕ, List, arith, Option, Components, IsSplitOf, components}
use Rattle.uri_parts.proofs.Splitting.Cuts.{cut-at-end-of-text-without-marks}
use Rattle.uri_parts.proofs.Splitting.Marks.{IsEmptyOrMarked-query_text, fragment-found, query-found, authority-found, scheme-found}

-- general fact on records, for splitting: components are equal if each is
pub equal-parts-make-equal-components : {s1 s2 a1 a2 q1 q2 f1 f2 : Option (List ℕ)} {p1 p2 : List ℕ}
    → s1 ≡ s2 → a1 ≡ a2 → p1 ≡ p2 → q1 ≡ q2 → f1 ≡ f2 → (let x : Components = record
    { scheme = s1; authority = a1; path = p1; query = q1; fragment = f1 } in x)
    ≡ record { scheme = s2; authority = a2; path = p2; query = q2; fragment = f2 }
equal-parts-make-equal-components s a p q f = λ i.
    record { scheme = s i; authority = a i; path = p i; query = q i; fragment = f i }

-- splitting: a text has no split but its components (RFC 3986, section 3)
pub only-split-is-components : (text : List ℕ) (p : Components) → IsSplitOf text p
    → components text ≡ p
only-split-is-components text p split =
    grind (
      arith,
      scheme-found,
      authority-found,
      IsEmptyOrMarked-query_text,
      cut-at-end-of-text-without-marks,
      query-found,
      fragment-found,
    )
