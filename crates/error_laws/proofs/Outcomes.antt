-- What an error says of the texts that begin with what is before it: each has an error too, where
-- the error is late, and otherwise some text has none.
use Rattle.error_laws.proofs.Common.{◌≡◌, ℕ, ◌<◌, ◌≤◌, Bool, true, false, List, [], ◌++◌, take, drop, Some, None, refl, sym, ap, subst, ◌∙◌, arith, ◌&&◌, ⊎_elim, length, drop_at, length-take-le, IsUtf8, rules, cases_Bool, cases_lt, cond-true, cond-false, same_Some, IsUtf8-append, IsUtf8-nil, IsUtf8-take, IsCharBoundary-from_drop, nat_tests, TableSet, LacksPercent, digit_set, is_one_of, excludes, ParseError, OptionalParseError, ◌>>=◌, is_next, scan_end, scan, scan-stops-at-stray-percent-or-goes-on, IsEmptyOrMarked, empty-or-marked-for-more-marks, begins-with-mark, begins-with-no-other}
use Rattle.error_laws.proofs.Marks.{At}
use Rattle.error_laws.proofs.SharedPrefixes.{IsPosition, scan-ends-at-position, Alike, prefix-is-alike, next-is-shared, scan-is-shared, scan-goes-on-alike, digits-end-is-shared}

-- error law: a text has some error
abbrev pub IsSomeError : OptionalParseError → Type 0
IsSomeError error = (e : ParseError) × (error ≡ Some e)

-- error law: whatever follows
abbrev pub Any : List ℕ → Type 0
Any other = Unit {0}

module _ (text : List ℕ) (n : ℕ) where
  -- each text that begins with the first n bytes has an error, if that of the text is late, or else
  -- one has none; and what follows is as P says
  abbrev pub Verdict : Bool → (List ℕ → Type 0) → (List ℕ → OptionalParseError) → Type 0
  Verdict true P error = (other : List ℕ) → Alike n text other → P other × IsSomeError (error other)
  Verdict false P error = (other : List ℕ) × (Alike n text other × (P other × (error other ≡ None)))

  -- from index i on
  pub record Outcome (late : Bool) (P : List ℕ → Type 0) (i : ℕ)
      (error : List ℕ → OptionalParseError) : Type 0 where
    pub from : i ≤ n
    pub within : n ≤ length text
    pub is : Verdict late P error

  -- what is parsed up to a component, and on as that is, has the outcome of that
  pub carry : (late : Bool) (P Q : List ℕ → Type 0) (i j : ℕ) (e f : List ℕ → OptionalParseError)
      → j ≤ i → Outcome late P i e
      → ((other : List ℕ) → Alike n text other → P other → Q other × (f other ≡ e other))
      → Outcome late Q j f
  carry late P Q i j e f le o h = grind (arith, nat_tests)

  -- the text ends there, or goes on in this way
  pub stop : (P : List ℕ → Type 0) (i : ℕ) (error : List ℕ → OptionalParseError) (more : List ℕ)
      → IsUtf8 text → i ≤ n → IsPosition text n → IsUtf8 more
      → ((other : List ℕ) → Alike n text other → drop n other ≡ more
      → P other × (error other ≡ None))
      → Outcome false P i error
  stop P i error more u le a v h =
      let other : List ℕ = take n text ++ more in
      let w = prefix-is-alike text more n a.le (IsUtf8-append (take n text) more
      (IsUtf8-take text n u (IsCharBoundary-from_drop text n a.le a.utf8)) v) in
      let p = h other w (drop_at (take n text) more n (length-take-le n text a.le)) in
      record { from = le; within = a.le; is = (other, (w, p)) }

-- error law: what follows at index i in a text with the same first n bytes: if the error is late,
-- what does in the other, and else nothing or one of the marks
abbrev pub Follows : Bool → List ℕ → ℕ → ℕ → List ℕ → Type 0
Follows true marks i n other = i < n
Follows false marks i n other = At marks i other

pub follows-with-more-marks : (late : Bool) (some all : List ℕ) (i n : ℕ) (other : List ℕ)
    → ((c : ℕ) → is_one_of some c ≡ true → is_one_of all c ≡ true)
    → Follows late some i n other → Follows late all i n other
follows-with-more-marks late some all i n other more h =
    grind (arith, empty-or-marked-for-more-marks)

module _ (n : ℕ) (text other : List ℕ) (w : Alike n text other) where
  -- a mark that is shared
  pub shared-mark-is-at : (mark : ℕ) (marks : List ℕ) (i : ℕ) → is_one_of marks mark ≡ true → i < n
      → is_next text mark i ≡ true → At marks i other
  shared-mark-is-at mark marks i m l e = begins-with-mark mark marks (drop i other) m
      (next-is-shared n text other w mark i l ∙ e)

  pub shared-mark-follows : (late : Bool) (mark : ℕ) (marks : List ℕ) (i : ℕ)
      → is_one_of marks mark ≡ true → i < n → is_next text mark i ≡ true
      → Follows late marks i n other
  shared-mark-follows late mark marks i m l e = grind (arith, shared-mark-is-at)

  -- a byte that is no mark is not next, up to the mark, if it is not in the text
  pub other-byte-is-not-next : (late : Bool) (mark : ℕ) (marks : List ℕ) (i k : ℕ)
      → is_one_of marks mark ≡ false → i ≤ k → k ≤ n → is_next text mark i ≡ false
      → Follows late marks k n other → is_next other mark i ≡ false
  other-byte-is-not-next late mark marks i k m le within e h =
      search (rules, next-is-shared, cases_lt, begins-with-no-other)

  -- digits end where they do in the text
  pub digits-end-alike : (late : Bool) (marks : List ℕ) (i : ℕ) → excludes digit_set marks ≡ true
      → IsUtf8 text → IsPosition text i → scan_end text digit_set i ≤ n
      → Follows late marks (scan_end text digit_set i) n other
      → scan_end other digit_set i ≡ scan_end text digit_set i
  digits-end-alike true marks i outside u a le h = digits-end-is-shared n text other w i
      (omega (arith, le)) h
  digits-end-alike false marks i outside u a le h = scan-is-shared n text other w u digit_set marks
      refl outside i a le h

module _ (text : List ℕ) (u : IsUtf8 text) (set : TableSet) (marks : List ℕ)
    (lacks : LacksPercent set) (outside : excludes set marks ≡ true)
    (plain : is_one_of marks 37 ≡ false) (i : ℕ) (a : IsPosition text i)
    (next : List ℕ → ℕ → OptionalParseError) where
  abbrev end : ℕ
  end = scan_end text set i

  abbrev error : List ℕ → OptionalParseError
  error t = scan t set i >>= next t

  pub scan-is-passed : (n : ℕ) (other : List ℕ) → Alike n text other → end ≤ n → At marks end other
      → error other ≡ next other end
  scan-is-passed n other w le at = ap (λ r. r >>= next other)
      (scan-goes-on-alike n text other w u set marks lacks outside plain i a le at)

  -- a scan, and what goes on where it ends
  pub scan-outcome : (r : ParseError)
      → ((other : List ℕ) → Alike end text other → drop end other ≡ [] → next other end ≡ None)
      → (next text end ≡ Some r
      → Outcome text r.index false (At marks end) end (λ t. next t end))
      → error text ≡ Some r → Outcome text r.index false (At marks end) end error
  scan-outcome r ended goes_on e =
      let t = sym (scan-stops-at-stray-percent-or-goes-on text set i (next text)) ∙ e in
      ⊎_elim
      (λ s. subst (λ x. Outcome text x.index false (At marks end) end error)
      (same_Some _ _ (sym (cond-true _ _ _ s) ∙ t))
      (stop text end (At marks end) end error [] u (omega arith)
      (scan-ends-at-position text set lacks i a) IsUtf8-nil (λ other w d.
      let at : At marks end other = subst (IsEmptyOrMarked marks) (sym d) tt in
      (at, scan-is-passed end other w (omega arith) at ∙ ended other w d))))
      (λ s.
      let o = goes_on (sym (cond-false _ _ _ s) ∙ t) in
      carry text r.index false _ _ end end _ _ (omega arith) o (λ other w at.
      (at, scan-is-passed r.index other w o.from at)))
      (cases_Bool (set.pct_encoded && is_next text 37 end))
