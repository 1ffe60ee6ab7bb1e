-- Steps of mending: how far a text was mended, and how much of this was written. No RFC has this.
use Rattle.std.specs.Prelude.{◌≡◌, ◌-◌, ◌<◌, ◌≤◌, ◌&&◌, ◌||◌, ◌==◌, ℕ, Bool, true, false, not, List, ◌++◌, drop, length, map, nat_le, nat_lt, slice_index, take}
use Rattle.std.specs.Char.{is_ascii_hexdigit}
use Rattle.std.specs.List.{list_all}
use Rattle.std.specs.Str.{IsCharBoundary}
use Rattle.uri_pct.specs.Prelude.{Octet, TableSet, has_bit, is_one_of, percent_sign, print, valid_prefix}
use Rattle.uri_parts.specs.Prelude.{before_any, from_any}
use Rattle.uri_mend.specs.declared.component.Progress.{Progress}
use Rattle.uri_mend.specs.declared.component.TheConstants.{NEVER_HIGH, NEVER_LOW}
use Rattle.uri_mend.specs.MendedParts.{mended}

-- the positions are of the text, and of a buffer
pub record IsProgress (text out : List ℕ) (p : Progress) : Type 0 where
  pub boundary : IsCharBoundary text p.end
  pub ordered : p.run_start ≤ p.end
  pub inside : p.at ≤ length out

-- what the text up to there is mended to: what is written, and the run that is yet to be copied
abbrev pub mended_so_far : List ℕ → List ℕ → Progress → List ℕ
mended_so_far text out p = take p.at out ++ take (p.end - p.run_start) (drop p.run_start text)

-- the byte is past ASCII, a `%`, or one that no path, query or fragment may have
abbrev pub is_never : ℕ → Bool
is_never b = nat_le 128 b || has_bit NEVER_LOW NEVER_HIGH b

-- the set lacks the marks, which may end a component: ASCII characters that are in no
-- percent-encoded octet
abbrev pub lacks_marks : TableSet → List ℕ → Bool
lacks_marks set marks = list_all (λ mark. nat_lt mark 128 && (not (set.ascii mark)
    && (not (is_ascii_hexdigit mark) && not (mark == percent_sign)))) marks

-- the marks may end a component of the set
abbrev pub are_marks : TableSet → List ℕ → Bool
are_marks set marks = lacks_marks set marks && list_all (λ mark. not (is_never mark)) marks

-- no byte between the two positions may end a component, and a scan of the set stops at each
pub record IsLackedRun (set : TableSet) (text : List ℕ) (start end : ℕ) : Type 0 where
  pub from : start ≤ end
  pub boundary : IsCharBoundary text end
  pub never : (k : ℕ) → start ≤ k → k < end → is_never (slice_index text k) ≡ true
  pub stops : (k : ℕ) → start ≤ k → k < end → valid_prefix set (drop k text) ≡ 0

-- whatever ends the component, the text between the two positions is mended to its octets
abbrev pub IsEncodedBetween : TableSet → List ℕ → ℕ → ℕ → Type 0
IsEncodedBetween set text start end = (marks : List ℕ) → are_marks set marks ≡ true
    → is_one_of marks (slice_index text start) ≡ false
    → (mended set (before_any marks (drop start text))
    ≡ print (map Octet (take (end - start) (drop start text)))
    ++ mended set (before_any marks (drop end text)))
    × (from_any marks (drop start text) ≡ from_any marks (drop end text))
