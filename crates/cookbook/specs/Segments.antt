-- The path of segments: RFC 3986, section 3.3.
use Rattle.std.specs.Prelude.{ℕ, Bool, ◌||◌, bytes_eq, List, [], ◌∷◌, ◌++◌, codes, String, string_bytes}
use Rattle.fluent_uri.specs.Prelude.{data_set, encode_text, print}

-- whether a segment that a user typed, before it is percent-encoded, is `.` or `..`
abbrev pub is_dot_segment : {Z : Type 0} → String Z → Bool
is_dot_segment s = bytes_eq (string_bytes s) (codes ".") || bytes_eq (string_bytes s) (codes "..")

-- a path with more segments that a user typed at its end, each percent-encoded as data after a `/`
abbrev pub path_from : {Z : Type 0} → List ℕ → List (String Z) → List ℕ
path_from path [] = path
path_from path (segment ∷ segments) =
    path_from ((path ++ codes "/") ++ print (encode_text data_set (string_bytes segment))) segments
