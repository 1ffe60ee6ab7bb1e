-- What an `EStr` holds, and what a `Split` of one has still to yield: RFC 3986, section 2.1.
use Rattle.std.specs.Prelude.{ℕ, List, ◌==◌, [], Some, None}
use Rattle.std.specs.List.{slice_split}
use Rattle.uri_pct.specs.declared.pct_enc.EStr.{EStr}
use Rattle.uri_pct.specs.declared.split.Split.{Split}

-- the text of an `EStr`, as its bytes
abbrev pub text_of : {E : _} {g : _} → EStr E g → List ℕ
text_of e = e.text.now

-- the substrings that a `Split` has yet to yield, first to last: what is between its delimiters
abbrev pub substrings_left : {E : _} {g : _} → Split E g → List (List ℕ)
substrings_left s = elim s.rest [
  | None ↦ []
  | Some e ↦ slice_split (λ b. b == s.delimiter)
      (text_of e)
]
