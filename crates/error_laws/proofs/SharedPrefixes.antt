-- Positions between the characters of a text, and two texts that begin alike: what is next and what
-- is scanned within what they share.
use Rattle.error_laws.proofs.Common.{◌≡◌, ℕ, ◌+◌, ◌-◌, ◌<◌, ◌≤◌, true, false, eqb, List, [], ◌∷◌, ◌++◌, ap, length, get_or, take, drop, refl, sym, subst, ◌∙◌, arith, ◌&&◌, ⊎_elim, length-append, length-drop, length-take-le, take-append-drop, take_at, drop_at, append_assoc, Ok, is_ok, codes, IsUtf8, rules, cases_Bool, cond-true, cond-false, and_parts, eqb-true, and_right, false≢true, drop-drop, drop-take, take-take, get_or-take, get_or-drop, drop_more, drop_all, same_Some, IsUtf8-take, IsUtf8-drop, IsCharBoundary-from_drop, IsCharBoundary-from_take, IsCharBoundary-before_ascii, nat_tests, allows_first, valid_prefix, TableSet, LacksPercent, allows_past_ascii, digit_set, is_one_of, IsValidFor, excludes, valid_prefix_is_at_most_length, Lacks, starts, before_any, from_any, has_authority, literal, is_next, scan_end, scan, valid_prefix-at-digit-is-one-more, valid_prefix-at-other-byte-is-zero, IsEmptyOrMarked, text-is-cut-at-first-mark, cut-at-end-of-text-without-marks, begins-with-no-other, utf8_around_ascii_byte}
use Rattle.std.specs.Result.{result_ok}
use Rattle.std.proofs.Math.Seq.{take-append-add}
use Rattle.uri_pct.proofs.Offered.{valid_prefix_ends_at_boundary, valid_prefix_is_valid}
use Rattle.uri_parts.specs.Models.Literals.{literal_length}
use Rattle.uri_parts.proofs.Offered.{is_literal, parses_literal, utf8_after_mark, literal-ends-as-parsed, text-with-mark-is-mark-and-rest}
use Rattle.error_laws.proofs.Marks.{At, valid-text-is-scanned-to-mark}

pub mark-is-within-text : (text : List ℕ) (mark i : ℕ) → is_next text mark i ≡ true
    → i < length text
mark-is-within-text text mark i e = grind (arith, nat_tests, drop_all)

pub taken-in-two-steps : (text : List ℕ) (i k : ℕ) → i ≤ length text
    → take (i + k) text ≡ take i text ++ take k (drop i text)
taken-in-two-steps text i k le = search (rules, length-take-le, take-append-drop, take-append-add)

pub is_next-by-byte : (text : List ℕ) (mark i : ℕ) → i < length text
    → is_next text mark i ≡ eqb (get_or text i 0) mark
is_next-by-byte text mark i l = ap (starts mark) (drop_more text i 0 l)

-- error law: a position between two characters of a text
pub record IsPosition (text : List ℕ) (i : ℕ) : Type 0 where
  pub utf8 : IsUtf8 (drop i text)
  pub le : i ≤ length text

pub position-after-mark : (text : List ℕ) (mark i : ℕ) → mark < 128 → is_next text mark i ≡ true
    → IsPosition text i → IsPosition text (i + 1)
position-after-mark text mark i small e a =
    let l = mark-is-within-text text mark i e in
    record {
      utf8 = subst IsUtf8 (drop-drop 1 i text) (utf8_after_mark mark small (drop i text) e a.utf8);
      le = omega arith;
    }

pub position-at-mark : (text : List ℕ) (mark i : ℕ) → IsUtf8 text → mark < 128
    → is_next text mark i ≡ true → IsPosition text i
position-at-mark text mark i u small e =
    let l = mark-is-within-text text mark i e in
    let b = eqb-true _ _ (sym (is_next-by-byte text mark i l) ∙ e) in
    record {
      utf8 = IsUtf8-drop text i u (IsCharBoundary-before_ascii text i l (omega (arith, b)));
      le = omega arith;
    }

pub scan-ends-at-position : (text : List ℕ) (set : TableSet) → LacksPercent set → (i : ℕ)
    → IsPosition text i → IsPosition text (scan_end text set i)
scan-ends-at-position text set lacks i a =
    let bs : List ℕ = drop i text in
    record {
      utf8 = subst IsUtf8 (drop-drop (valid_prefix set bs) i _)
          (IsUtf8-drop bs _ a.utf8 (valid_prefix_ends_at_boundary set lacks bs a.utf8));
      le = omega (arith, valid_prefix_is_at_most_length set bs, length-drop i text, a.le);
    }

pub scanned-part-is-valid : (text : List ℕ) (set : TableSet) → LacksPercent set → (i : ℕ)
    → IsPosition text i
    → IsUtf8 (take (valid_prefix set (drop i text)) (drop i text))
    × IsValidFor set (take (valid_prefix set (drop i text)) (drop i text))
scanned-part-is-valid text set lacks i a =
    search (rules, IsUtf8-take, valid_prefix_ends_at_boundary, valid_prefix_is_valid)

-- error law: a scan goes on at its end if no `%` (37) is next there
pub scan-goes-on : (text : List ℕ) (set : TableSet) (i end : ℕ) → scan_end text set i ≡ end
    → is_next text 37 end ≡ false → scan text set i ≡ Ok end
scan-goes-on text set i end e n = cond-false _ _ _ (and_right _ _ (ap (is_next text 37) e ∙ n))
    ∙ ap (λ k. Ok k) e

-- error law: two texts have the same first n bytes, and the other is UTF-8
pub record Alike (n : ℕ) (text other : List ℕ) : Type 0 where
  pub same : take n text ≡ take n other
  pub within : n ≤ length text
  pub in_other : n ≤ length other
  pub utf8 : IsUtf8 other

-- error law: a text is alike to each text that its first n bytes begin
pub prefix-is-alike : (text more : List ℕ) (n : ℕ) → n ≤ length text → IsUtf8 (take n text ++ more)
    → Alike n text (take n text ++ more)
prefix-is-alike text more n le v = grind (arith, nat_tests, length-take-le, take_at, length-append)

-- error law: whether a byte is a decimal digit says whether the set of digits allows what it begins
digit-is-allowed-by-byte : (b : ℕ) (bs more : List ℕ) → allows_first digit_set b bs
    ≡ allows_first digit_set b more
unfolding allows_first allows_past_ascii
digit-is-allowed-by-byte b bs more = refl

-- error law: a scan of digits goes as far in two texts that begin alike, if it ends within that
digits-are-shared : (bs rest more : List ℕ) → valid_prefix digit_set (bs ++ rest) < length bs
    → valid_prefix digit_set (bs ++ more) ≡ valid_prefix digit_set (bs ++ rest)
digits-are-shared [] rest more l = absurd (omega arith)
digits-are-shared (b ∷ bs) rest more l = ⊎_elim
    (λ a.
    let x = valid_prefix-at-digit-is-one-more b (bs ++ rest) a in
    let y = valid_prefix-at-digit-is-one-more b (bs ++ more)
    (digit-is-allowed-by-byte b (bs ++ more) (bs ++ rest) ∙ a) in
    let ih = digits-are-shared bs rest more (omega (arith, x, l)) in omega (arith, x, y, ih))
    (λ a. valid_prefix-at-other-byte-is-zero b (bs ++ more)
    (digit-is-allowed-by-byte b (bs ++ more) (bs ++ rest) ∙ a)
    ∙ sym (valid_prefix-at-other-byte-is-zero b (bs ++ rest) a))
    (cases_Bool (allows_first digit_set b (bs ++ rest)))

module _ (n : ℕ) (text other : List ℕ) (w : Alike n text other) where
  pub byte-is-shared : (i : ℕ) → i < n → get_or other i 0 ≡ get_or text i 0
  byte-is-shared i l = sym (get_or-take n other i 0 l) ∙ ap (λ t. get_or t i 0) (sym w.same)
      ∙ get_or-take n text i 0 l

  pub next-is-shared : (mark i : ℕ) → i < n → is_next other mark i ≡ is_next text mark i
  next-is-shared mark i l = grind (arith, nat_tests, is_next-by-byte, byte-is-shared)

  pub prefix-is-shared : (i : ℕ) → i ≤ n → take i other ≡ take i text
  prefix-is-shared i le = sym (take-take i n other le) ∙ ap (take i) (sym w.same)
      ∙ take-take i n text le

  pub bytes-are-shared : (i k : ℕ) → i + k ≤ n → take k (drop i other) ≡ take k (drop i text)
  bytes-are-shared i k le = sym (drop-take i k other) ∙ ap (drop i) (prefix-is-shared (i + k) le)
      ∙ drop-take i k text

  -- `//`
  pub slashes-are-shared : (i : ℕ) → i + 2 ≤ n
      → has_authority (drop i other) ≡ has_authority (drop i text)
  slashes-are-shared i le = grind (arith, nat_tests, get_or-drop, byte-is-shared)

  module _ (u : IsUtf8 text) where
    pub position-is-shared : (i : ℕ) → i ≤ n → IsPosition text i → IsPosition other i
    position-is-shared i le a =
        let within : i ≤ length other = omega (arith, w.in_other) in
        record {
          utf8 = IsUtf8-drop other i w.utf8 (IsCharBoundary-from_take other i w.utf8 within
              (subst IsUtf8 (sym (prefix-is-shared i le))
              (IsUtf8-take text i u (IsCharBoundary-from_drop text i a.le a.utf8))));
          le = within;
        }

    -- what is valid for a set, up to a mark that the set lacks
    pub valid-part-is-scanned : (set : TableSet) (marks : List ℕ) → LacksPercent set
        → excludes set marks ≡ true → (i k : ℕ) → i + k ≤ n → IsPosition text i
        → IsUtf8 (take k (drop i text)) → IsValidFor set (take k (drop i text))
        → At marks (i + k) other → scan_end other set i ≡ i + k
    valid-part-is-scanned set marks lacks outside i k le a v valid at =
        let bs : List ℕ = drop i other in
        let same = sym (bytes-are-shared i k le) in
        let whole = take-append-drop k bs in
        let p = position-is-shared i (omega (arith, le)) a in
        let m = valid-text-is-scanned-to-mark set marks lacks outside (take k bs) (drop k bs)
        (subst IsUtf8 same v) (subst IsUtf8 (sym whole) p.utf8) (subst (IsValidFor set) same valid)
        (subst (IsEmptyOrMarked marks) (sym (drop-drop k i other)) at) in
        let size = length-take-le k bs (omega (arith, length-drop i other, w.in_other, le)) in
        let d = ap (valid_prefix set) whole in
        omega (arith, m, size, d)

    pub scan-is-shared : (set : TableSet) (marks : List ℕ) → LacksPercent set
        → excludes set marks ≡ true → (i : ℕ) → IsPosition text i → scan_end text set i ≤ n
        → At marks (scan_end text set i) other → scan_end other set i ≡ scan_end text set i
    scan-is-shared set marks lacks outside i a le at =
        let p = scanned-part-is-valid text set lacks i a in
        valid-part-is-scanned set marks lacks outside i _ le a p.0 p.1 at

    -- the same, where the set may have octets
    pub scan-goes-on-alike : (set : TableSet) (marks : List ℕ) → LacksPercent set
        → excludes set marks ≡ true → is_one_of marks 37 ≡ false → (i : ℕ) → IsPosition text i
        → scan_end text set i ≤ n → At marks (scan_end text set i) other
        → scan other set i ≡ Ok (scan_end text set i)
    scan-goes-on-alike set marks lacks outside plain i a le at =
        grind (arith, nat_tests, scan-goes-on, scan-is-shared, begins-with-no-other)

  -- digits that end within what is shared
  pub digits-end-is-shared : (i : ℕ) → i ≤ n → scan_end text digit_set i < n
      → scan_end other digit_set i ≡ scan_end text digit_set i
  digits-end-is-shared i le l =
      let k : ℕ = n - i in
      let whole : i + k ≡ n = omega (arith, le) in
      let P : List ℕ = take k (drop i text) in
      let x = ap (valid_prefix digit_set) (take-append-drop k (drop i text)) in
      let y = ap (valid_prefix digit_set) (ap (λ t. t ++ drop k (drop i other))
      (sym (bytes-are-shared i k (omega (arith, whole)))) ∙ take-append-drop k (drop i other)) in
      let size = length-take-le k (drop i text) (omega (arith, length-drop i text, w.within)) in
      let s = digits-are-shared P (drop k (drop i text)) (drop k (drop i other))
      (omega (arith, size, x, l)) in
      omega (arith, s, x, y)

-- error law: an address and a `]` (93) are next
pub record HasLiteral (text : List ℕ) (i k : ℕ) : Type 0 where
  pub address : List ℕ
  pub rest : List ℕ
  pub split : drop i text ≡ address ++ (93 ∷ rest)
  pub lacks : Lacks (codes "]") address
  pub is : is_literal address ≡ true
  pub end : k ≡ i + (length address + 1)

-- error law: an address with a `]` (93) after it is parsed as one
pub literal-is-parsed : (text : List ℕ) (i k : ℕ) → IsUtf8 (drop i text) → HasLiteral text i k
    → literal text i ≡ Ok k
unfolding parses_literal literal_length
literal-is-parsed text i k u h =
    let d = cut-at-end-of-text-without-marks (codes "]") h.address (93 ∷ h.rest) h.lacks refl in
    let before : before_any (codes "]") (drop i text) ≡ h.address =
    ap (before_any (codes "]")) h.split ∙ d.0 in
    let parsed : parses_literal (drop i text) ≡ true = ap
    (λ t. starts 93 t && is_literal (before_any (codes "]") (drop i text)))
    (ap (from_any (codes "]")) h.split ∙ d.1) ∙ ap is_literal before ∙ h.is in
    let size = ap length before in
    let same : i + literal_length (drop i text) ≡ k = omega (arith, size, h.end) in
    (literal-ends-as-parsed text i u).1 ∙ cond-true _ _ _ parsed ∙ ap (λ j. Ok j) same

-- error law: what is parsed as an address in brackets is one
pub parsed-literal-is-there : (text : List ℕ) (i k : ℕ) → IsUtf8 (drop i text)
    → literal text i ≡ Ok k → HasLiteral text i k
unfolding parses_literal literal_length
parsed-literal-is-there text i k u e =
    let bs : List ℕ = drop i text in
    let (x, f) = literal-ends-as-parsed text i u in ⊎_elim
    (λ (h : parses_literal bs ≡ true).
    let p = and_parts _ _ h in
    let c = text-is-cut-at-first-mark (codes "]") bs in
    record {
      address = before_any (codes "]") bs;
      rest = drop 1 (from_any (codes "]") bs);
      split = sym c.whole ∙ ap (λ t. before_any (codes "]") bs ++ t)
          (text-with-mark-is-mark-and-rest 93 (from_any (codes "]") bs) p.0);
      lacks = c.lacks;
      is = p.1;
      end = same_Some _ _ (ap result_ok (sym e ∙ f ∙ cond-true _ _ _ h));
    })
    (λ (h : parses_literal bs ≡ false).
    absurd (false≢true (ap is_ok (sym (cond-false _ _ _ h) ∙ sym f ∙ e))))
    (cases_Bool (parses_literal bs))

-- error law: after an address in brackets is a position
pub literal-ends-at-position : (text : List ℕ) (i k : ℕ) → IsPosition text i
    → literal text i ≡ Ok k → IsPosition text k
literal-ends-at-position text i k a e =
    let h = parsed-literal-is-there text i k a.utf8 e in
    let size = length-append h.address (93 ∷ h.rest) in
    let d = ap length h.split in
    let whole : drop i text ≡ (h.address ++ codes "]") ++ h.rest =
    h.split ∙ sym (append_assoc h.address (codes "]") h.rest) in
    record {
      utf8 = subst IsUtf8 (sym (drop_at (h.address ++ codes "]") h.rest (length h.address + 1)
          (length-append h.address (codes "]")))
          ∙ ap (drop (length h.address + 1)) (sym whole)
          ∙ drop-drop (length h.address + 1) i text ∙ ap (λ j. drop j text) (sym h.end))
          (utf8_around_ascii_byte h.address 93 h.rest (omega arith)
          (subst IsUtf8 h.split a.utf8)).1;
      le = omega (arith, size, d, length-drop i text, a.le, h.end);
    }

-- error law: an address in brackets that ends within what is shared is one in the other text
pub literal-is-shared : (n : ℕ) (text other : List ℕ) → Alike n text other → IsUtf8 text → (i k : ℕ)
    → IsPosition text i → literal text i ≡ Ok k → k ≤ n → literal other i ≡ Ok k
literal-is-shared n text other w u i k a e le =
    let h = parsed-literal-is-there _ i k a.utf8 e in
    let m : ℕ = length h.address + 1 in
    let closed : List ℕ = h.address ++ codes "]" in
    let whole : drop i text ≡ closed ++ h.rest = h.split ∙ sym (append_assoc h.address _ _) in
    let same : take m (drop i other) ≡ closed =
    bytes-are-shared n text other w i m (omega (arith, h.end, le)) ∙ ap (take m) whole
    ∙ take_at closed h.rest m (length-append h.address (codes "]")) in
    let p = position-is-shared n text other w u i (omega (arith, h.end, le)) a in
    literal-is-parsed other i k p.utf8 record {
      address = h.address;
      rest = drop m (drop i other);
      split = sym (take-append-drop m (drop i other)) ∙ ap (λ t. t ++ drop m (drop i other)) same
          ∙ append_assoc h.address (codes "]") (drop m (drop i other));
      lacks = h.lacks;
      is = h.is;
      end = h.end;
    }
