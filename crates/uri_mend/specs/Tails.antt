-- Steps of mending: what follows an authority. No RFC has this.
use Rattle.std.specs.Prelude.{◌≡◌, ℕ, Bool, List, [], ◌∷◌, ◌++◌, codes, drop, option_map, Option, if◌then◌else◌}
use Rattle.uri_pct.specs.Prelude.{TableSet, number_sign, question_mark}
use Rattle.uri_parts.specs.Prelude.{Kind, after_query, before_any, from_any, marked, starts, when}
use Rattle.uri_ops.specs.Prelude.{HasComponentSets}
use Rattle.uri_mend.specs.MendedParts.{mended}
use Rattle.uri_mend.specs.Mending.{mended_text}

-- the path at the start of what follows an authority, mended
abbrev pub mended_path : Kind → List ℕ → List ℕ
mended_path kind tail = mended kind.path (before_any (codes "?#") tail)

-- the query of what follows an authority, if there is one
abbrev pub query_of_tail : List ℕ → Option (List ℕ)
query_of_tail tail =
    let end = from_any (codes "?#") tail in
    when (starts question_mark end) (before_any (codes "#") (drop 1 end))

-- the component at the start of a text that begins with this mark, and ends before the first of
-- these marks, mended for this set, with its mark; or nothing
abbrev pub mended_marked : ℕ → List ℕ → TableSet → List ℕ → List ℕ
mended_marked mark marks set text = marked (mark ∷ []) (option_map (mended set)
    (when (starts mark text) (before_any marks (drop 1 text)))) []

-- what follows this component in the text
abbrev pub after_marked : ℕ → List ℕ → List ℕ → List ℕ
after_marked mark marks text = if starts mark text then from_any marks (drop 1 text) else text

-- the query at the start of what follows a path, mended for this set, with its `?`; or nothing
abbrev pub mended_query : TableSet → List ℕ → List ℕ
mended_query = mended_marked question_mark (codes "#")

-- the fragment at the start of what follows a query, mended for this set, with its `#`; or nothing
abbrev pub mended_fragment : TableSet → List ℕ → List ℕ
mended_fragment set end = marked (codes "#") (option_map (mended set)
    (when (starts number_sign end) (drop 1 end))) []

-- what follows the authority of a text, mended: path, query and fragment, with their delimiters
unfoldable pub mended_tail : Kind → List ℕ → List ℕ
mended_tail kind tail =
    let end = from_any (codes "?#") tail in
    mended kind.path (before_any (codes "?#") tail)
    ++ (mended_query kind.query end ++ mended_fragment kind.fragment (after_query end))

-- the segment `./` if the test is true, or nothing
abbrev pub dot_segment_if : Bool → List ℕ
dot_segment_if test = if test then codes "./" else []

-- the text is mended, for each kind, as its scheme and authority (prefix), then `./` if the flag is
-- true, and then its tail, mended
abbrev pub IsMendedByPieces : List ℕ → List ℕ → Bool → List ℕ → Type 0
IsMendedByPieces text prefix dot tail = (kind : Kind) → HasComponentSets kind
    → mended_text kind text ≡ prefix ++ (dot_segment_if dot ++ mended_tail kind tail)

-- the path of a text is mended, for each kind, as `./` if the flag is true, and then that of its
-- tail, mended
abbrev pub IsPathMendedByPieces : List ℕ → Bool → List ℕ → Type 0
IsPathMendedByPieces path dot tail = (kind : Kind) → HasComponentSets kind
    → mended kind.path path ≡ dot_segment_if dot ++ mended_path kind tail
