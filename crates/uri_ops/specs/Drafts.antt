-- How a builder's text holds its parts: RFC 3986, section 5.3.
use Rattle.std.specs.Prelude.{◌≡◌, ℕ, ◌+◌, Bool, false, List, length, take, drop, Option, Some, None, option_map}
use Rattle.uri_ops.specs.declared.build.lengths.Lengths.{Lengths}
use Rattle.uri_ops.specs.BuilderParts.{BuilderParts, parts_text}

-- the lengths of the parts that a builder holds, each absent if the part is
abbrev pub lengths_of : BuilderParts → Lengths
lengths_of p = record {
  scheme = option_map length p.scheme;
  authority = option_map length p.authority;
  path = option_map length p.path;
  query = option_map length p.query;
  fragment = option_map length p.fragment;
}

-- the part of a builder that begins `mark` bytes into the text, past its delimiters, and is `len`
-- bytes long, if the part is present
abbrev pub part_in : ℕ → Option ℕ → List ℕ → Option (List ℕ)
part_in mark len text = option_map (λ n. take n (drop mark text)) len

-- the text after a part of a builder, of the length in the Option, and its delimiters, of length
-- `marks`, if the part is present
abbrev pub after_part : ℕ → Option ℕ → List ℕ → List ℕ
after_part marks None text = text
after_part marks (Some n) text = drop (marks + n) text

-- the parts of a builder that have these lengths in its text, one after the other; the Bool is
-- whether it is marked failed
abbrev pub parts_in : Lengths → List ℕ → Bool → BuilderParts
parts_in lengths text failed =
    let rest = after_part 1 lengths.scheme text in
    let from_path = after_part 2 lengths.authority rest in
    let from_query = after_part 0 lengths.path from_path in
    let from_fragment = after_part 1 lengths.query from_query in
    record {
      scheme = part_in 0 lengths.scheme text;
      authority = part_in 2 lengths.authority rest;
      path = part_in 0 lengths.path from_path;
      query = part_in 1 lengths.query from_query;
      fragment = part_in 1 lengths.fragment from_fragment;
      failed = failed;
    }

-- the text is that of a builder's parts, which have these lengths
pub record IsDraft (lengths : Lengths) (text : List ℕ) : Type 0 where
  pub whole : parts_text (parts_in lengths text false) ≡ text
  pub counted : lengths_of (parts_in lengths text false) ≡ lengths
