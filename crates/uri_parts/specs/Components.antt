-- The five components of any text: RFC 3986, appendix B; and their text: section 5.3.
use Rattle.std.specs.Prelude.{◌≡◌, ℕ, ◌<◌, Bool, true, false, not, ◌&&◌, ◌⊎◌, ◌==◌, List, [], ◌∷◌, ◌++◌, length, take, drop, slice_index, codes, All, IsTrue, Option, Some, None, IfSome, IfNone, if◌then◌else◌}
use Rattle.std.specs.List.{prefix_len}
use Rattle.uri_pct.specs.Prelude.{colon, is_one_of, number_sign, question_mark, slash}

-- the five components of a text, without their delimiters; all but the path may be absent
-- (RFC 3986, section 3)
pub record Components : Type 0 where
  pub scheme : Option (List ℕ)
  pub authority : Option (List ℕ)
  pub path : List ℕ
  pub query : Option (List ℕ)
  pub fragment : Option (List ℕ)

-- the component, where it is present, between the text before it and that after it; or nothing if
-- it is absent
abbrev pub marked : List ℕ → Option (List ℕ) → List ℕ → List ℕ
marked before None suffix = []
marked before (Some part) suffix = before ++ part ++ suffix

-- the text of five components, with their delimiters (RFC 3986, section 5.3)
abbrev pub recompose : Components → List ℕ
recompose p =
    marked [] p.scheme (codes ":") ++ (marked (codes "//") p.authority [] ++ (p.path
    ++ (marked (codes "?") p.query [] ++ marked (codes "#") p.fragment [])))

-- the text begins with the character mark, as what is left does with a component's delimiter
abbrev pub starts : ℕ → List ℕ → Bool
starts mark [] = false
starts mark (c ∷ rest) = c == mark

-- the text is empty
unfoldable pub is_end : List ℕ → Bool
is_end [] = true
is_end (c ∷ rest) = false

-- the text before the first of the characters marks,
-- where a component ends, or all of it if it has none of them
abbrev pub before_any : List ℕ → List ℕ → List ℕ
before_any marks text = take (prefix_len (λ c. not (is_one_of marks c)) text) text

-- what is left of the text from the first of the characters marks on,
-- where a component ends, or nothing if it has none of them
abbrev pub from_any : List ℕ → List ℕ → List ℕ
from_any marks text = drop (prefix_len (λ c. not (is_one_of marks c)) text) text

-- the text begins with one or more characters, none of them one of `:/?#`, and then `:`, so that it
-- has a scheme (RFC 3986, appendix B)
abbrev pub has_scheme : List ℕ → Bool
has_scheme text = starts colon (from_any (codes ":/?#") text) && not (starts colon text)

-- the text begins with `//`, which an authority follows (RFC 3986, section 3.2)
abbrev pub has_authority : List ℕ → Bool
has_authority rest = slice_index rest 0 == slash && slice_index rest 1 == slash

-- none of the characters marks, which would end a component, is in the text
abbrev pub Lacks : List ℕ → List ℕ → Type 0
Lacks marks text = All (λ c. is_one_of marks c ≡ false) text

-- the path may follow an authority: it is empty or begins with `/` (RFC 3986, section 3.3)
abbrev pub IsAbemptyPath : List ℕ → Type 0
IsAbemptyPath path = (path ≡ []) ⊎ IsTrue (starts slash path)

-- the components p are those of the text, in the words of RFC 3986, appendix B: they are together
-- the text, each holds nothing that ends it, and one is absent only where the text has none
pub record IsSplitOf (text : List ℕ) (p : Components) : Type 0 where
  pub whole : recompose p ≡ text
  pub scheme : IfSome p.scheme (λ s. (0 < length s) × Lacks (codes ":/?#") s)
  pub authority : IfSome p.authority (λ a. Lacks (codes "/?#") a × IsAbemptyPath p.path)
  pub path : Lacks (codes "?#") p.path
  pub query : IfSome p.query (λ q. Lacks (codes "#") q)
  pub no_scheme : IfNone p.scheme (has_scheme text ≡ false)
  pub no_authority : IfNone p.authority (has_authority p.path ≡ false)

-- the component x if the test is true, and an absent one, `None`, if it is false
abbrev pub when : {A : Type 0} → Bool → A → Option A
when test x = if test then Some x else None

-- the text after its scheme and the `:`, or all of it if it has no scheme (RFC 3986, appendix B)
abbrev pub after_scheme : List ℕ → List ℕ
after_scheme text = if has_scheme text then drop 1 (from_any (codes ":/?#") text) else text

-- of a text after its scheme, what follows `//` and an authority, or all of it if it has none
-- (RFC 3986, appendix B)
abbrev pub after_authority : List ℕ → List ℕ
after_authority rest = if has_authority rest then from_any (codes "/?#") (drop 2 rest) else rest

-- of a text after its path, what follows `?` and a query, or all of it if it has none (RFC 3986,
-- appendix B)
abbrev pub after_query : List ℕ → List ℕ
after_query rest = if starts question_mark rest then from_any (codes "#") (drop 1 rest) else rest

-- the five components of any text, as RFC 3986, appendix B, cuts them
abbrev pub components : List ℕ → Components
components text =
    let rest = after_scheme text in
    let tail = after_authority rest in
    let end = from_any (codes "?#") tail in
    record {
      scheme = when (has_scheme text) (before_any (codes ":/?#") text);
      authority = when (has_authority rest) (before_any (codes "/?#") (drop 2 rest));
      path = before_any (codes "?#") tail;
      query = when (starts question_mark end) (before_any (codes "#") (drop 1 end));
      fragment = when (starts number_sign (after_query end)) (drop 1 (after_query end));
    }
