-- The white space around and within the links of pages: the HTML standard's "valid URL potentially
-- surrounded by spaces", and the URL standard's parser, which drops tabs and newlines.
use Rattle.std.specs.Prelude.{ℕ, ◌-◌, not, List, [], ◌∷◌, drop, length, take}
use Rattle.std.specs.Char.{is_ascii_whitespace}
use Rattle.std.specs.List.{filter, prefix_len, suffix_len}
use Rattle.uri_pct.specs.Prelude.{is_one_of}

-- the characters that are dropped wherever they are: tab, LF and CR
abbrev pub tab_and_newlines : List ℕ
tab_and_newlines = 9 ∷ 10 ∷ 13 ∷ []

-- the text without the ASCII white space at both its ends: tab, LF, FF, CR and space
abbrev pub without_outer_space : List ℕ → List ℕ
without_outer_space text =
    let rest = drop (prefix_len is_ascii_whitespace text) text in
    take (length rest - suffix_len is_ascii_whitespace rest) rest

-- the text without these characters
abbrev pub without_any : List ℕ → List ℕ → List ℕ
without_any marks text = filter (λ c. not (is_one_of marks c)) text

-- the link that a page's text is: without the white space at both ends, and without tabs and
-- newlines
unfoldable pub trimmed_link : List ℕ → List ℕ
trimmed_link text = without_any tab_and_newlines (without_outer_space text)
