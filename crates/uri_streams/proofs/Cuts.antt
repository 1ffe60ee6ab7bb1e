-- A line that is kept in part is an error as the whole is: it is too long either way.
use Rattle.uri_streams.proofs.Common.{◌≡◌, ◌<◌, ◌≤◌, ◌+◌, ◌-◌, ℕ, Bool, true, false, List, refl, ap, sym, ◌∙◌, length, take, arith, inl, inr, ◌⊎◌, ⊎_elim, length-take-le, take_all, lt-ltb, ltb-true, ltb-false, Err, nat_lt, strip_last, Cut, cut_without_other_fields, line_text, bytes_output, line_cut, Known, TooLong, Job}

-- lines: without its end, a line is one byte shorter at most
stripped : (byte : ℕ) (xs : List ℕ) → length xs ≤ length (strip_last byte xs) + 1
stripped byte xs = grind (arith, length-take-le)

-- lines: the text of a line is two bytes shorter at most; is_null: whether lines end with NUL
text_length : (is_null : Bool) (line : List ℕ) → length line ≤ length (line_text is_null line) + 2
text_length is_null line = grind (arith, stripped)

line-is-whole-or-too-long : (job : Job) (limit : ℕ) (line : List ℕ) → limit ≡ job.max_line + 3
    → (take limit line ≡ line) ⊎ ((job.max_line < length (line_text job.is_null (take limit line)))
    × (job.max_line < length (line_text job.is_null line)))
line-is-whole-or-too-long job limit line e = at (nat_lt limit (length line)) refl
  where
    at : (b : Bool) → nat_lt limit (length line) ≡ b
        → (take limit line ≡ line) ⊎ ((job.max_line < length (line_text job.is_null (take limit
        line)))
        × (job.max_line < length (line_text job.is_null line)))
    at true is =
        let longer : limit < length line = omega (arith, ltb-true limit (length line) is) in
        inr (
          omega (
            arith,
            text_length job.is_null (take limit line),
            length-take-le limit line (omega
                arith),
          ),
          omega (arith, text_length job.is_null line),
        )
    at false is = inl (take_all limit line (omega (arith, ltb-false limit (length line) is)))

abbrev too_long_cut : Job → Cut
too_long_cut job = cut_without_other_fields (Err (TooLong job.max_line))

-- lines: of one that is too long the command gets no text
line_cut-of-too-long : (job : Job) (line : List ℕ)
    → job.max_line < length (line_text job.is_null line) → line_cut job line ≡ too_long_cut job
line_cut-of-too-long job line long =
    rw (lt-ltb job.max_line (length (line_text job.is_null line)) long) refl

-- lines: bytes stand for a whole line if they are the line, or if both are too long
abbrev pub StandsFor : Job → List ℕ → List ℕ → Type 0
StandsFor job line whole = (line ≡ whole)
    ⊎ ((line_cut job line ≡ too_long_cut job) × (line_cut job whole ≡ too_long_cut job))

-- lines: one that is cut off past the limit stands for the whole, as both are too long
pub StandsFor-of-limited-line : (job : Job) (limit : ℕ) (line : List ℕ) → limit ≡ job.max_line + 3
    → StandsFor job (take limit line) line
StandsFor-of-limited-line job limit line e = ⊎_elim (λ whole. inl whole)
    (λ long. inr (
      line_cut-of-too-long job (take limit line) long.0,
      line_cut-of-too-long job line long.1,
    )) (line-is-whole-or-too-long job limit line e)

pub line_cut-if-StandsFor : (job : Job) (line whole : List ℕ) → StandsFor job line whole
    → line_cut job line ≡ line_cut job whole
line_cut-if-StandsFor job line whole stands =
    ⊎_elim (λ same. ap (line_cut job) same) (λ long. long.0 ∙ sym long.1) stands

pub bytes_output-if-StandsFor : (job : Job) (known : Known) (line whole end : List ℕ)
    → StandsFor job line whole → bytes_output job known line end ≡ bytes_output job known whole end
bytes_output-if-StandsFor job known line whole end stands = grind arith
