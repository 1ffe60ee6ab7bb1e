-- The errors after an authority, and of a host.
use Rattle.uri_parts.proofs.Common.{◌≡◌, ℕ, ◌+◌, true, false, cond, eqb, List, [], ◌∷◌, drop, Some, refl, sym, ap, ◌∙◌, arith, ◌&&◌, ◌||◌, ⊎_elim, ◌⊎◌, inr, Ok, Err, codes, drop-drop, cond-true, cond-false, cases_Bool, eq-eqb, or_left, or_right, false≢true, and_from, nat_tests, TableSet, LacksPercent, digit_set, is_one_of, valid_prefix_from, valid_prefix, after, excludes, valid_prefix_at_mark_is_empty, empty_text_has_empty_valid_prefix, nothing_is_scanned_after_valid_prefix, starts, is_end, unexpected, stray_percent, OptionalParseError, ◌>>=◌, error_from_end, error_from_fragment, error_from_query, error_from_path, error_from_abempty_path, error_from_port, error_from_host, ScanResult, is_next, scan_end, scan, Kind, is_empty_or_begins_with_any, port_length, left_over_error, error_after_port, port_error, host_error}
use Rattle.uri_parts.proofs.Splitting.Cuts.{IsEmptyOrMarked}
use Rattle.uri_parts.proofs.TextKinds.Separations.{SeparatesComponents, HasAllBut}

-- parse errors: the sets of an authority and of a path have percent-encoded octets,
-- and only `:` distinguishes userinfo from a name
pub record Adjoins (kind : Kind) : Type 0 where
  pub userinfo_octets : kind.userinfo.pct_encoded ≡ true
  pub reg_name_octets : kind.reg_name.pct_encoded ≡ true
  pub path_octets : kind.path.pct_encoded ≡ true
  pub only_colon : HasAllBut (codes ":") kind.reg_name kind.userinfo

-- parse errors: a scan by the set stops at a `%` that begins no octet,
-- or else the next component (next) decides the error
pub scan-stops-at-stray-percent-or-goes-on : (text : List ℕ) (set : TableSet) (i : ℕ) (next : ℕ
    → OptionalParseError) → (scan text set i >>= next) ≡ cond (set.pct_encoded && is_next text 37
    (scan_end text set i)) (Some (stray_percent (scan_end text set i))) (next (scan_end text set i))
scan-stops-at-stray-percent-or-goes-on text set i next = grind (arith, nat_tests)

-- general fact on results, for parse errors:
-- what is next may be replaced by what is equal at each position
bind-respects-pointwise-equality : (r : ScanResult) (f g : ℕ → OptionalParseError)
    → ((n : ℕ) → f n ≡ g n) → (r >>= f) ≡ (r >>= g)
bind-respects-pointwise-equality (Ok n) f g h = h n
bind-respects-pointwise-equality (Err e) f g h = refl

-- parse errors: a `%` (37) that begins no octet stops the scan of each set that has octets
stray-percent-stops-greater-set : (small great : TableSet) (bs : List ℕ) → small.pct_encoded ≡ true
    → great.pct_encoded ≡ true → valid_prefix small (37 ∷ bs) ≡ 0 → valid_prefix great (37 ∷ bs) ≡ 0
unfolding valid_prefix_from
stray-percent-stops-greater-set small great bs s g e = grind (arith, nat_tests)

-- parse errors: a `%` that begins no octet stops a scan by either of two sets with octets
pub stray-percent-stops-every-set : (small great : TableSet) (bs : List ℕ)
    → small.pct_encoded ≡ true → great.pct_encoded ≡ true
    → valid_prefix small bs ≡ 0 → starts 37 bs ≡ true → valid_prefix great bs ≡ 0
stray-percent-stops-every-set small great [] s g e p = absurd (false≢true p)
stray-percent-stops-every-set small great (b ∷ bs) s g e p =
    grind (arith, nat_tests, stray-percent-stops-greater-set)

smaller-set-stops-greater-set : (marks : List ℕ) (small great : TableSet)
    → small.pct_encoded ≡ true → great.pct_encoded ≡ true → HasAllBut marks small great
    → (b : ℕ) (rest : List ℕ) → is_one_of marks b ≡ false → valid_prefix small (b ∷ rest) ≡ 0
    → valid_prefix great (b ∷ rest) ≡ 0
unfolding valid_prefix_from
smaller-set-stops-greater-set marks small great s g more b rest m z =
    grind (arith, nat_tests, stray-percent-stops-every-set)

-- parse errors: where a scan by the smaller set stops, one by the greater goes on with a mark
pub greater-set-goes-on-with-mark : (marks : List ℕ) (small great : TableSet) → small.pct_encoded
    ≡ true → great.pct_encoded ≡ true → HasAllBut marks small great → (bs : List ℕ)
    → valid_prefix small bs ≡ 0 → (valid_prefix great bs ≡ 0) ⊎ IsEmptyOrMarked marks bs
greater-set-goes-on-with-mark marks small great s g more [] z = inr tt
greater-set-goes-on-with-mark marks small great s g more (b ∷ rest) z =
    grind (arith, nat_tests, smaller-set-stops-greater-set)

-- parse errors: at a delimiter that a set excludes, or at the end, nothing is scanned
pub nothing-is-scanned-at-mark : (set : TableSet) (marks : List ℕ) → LacksPercent set
    → excludes set marks ≡ true → (bs : List ℕ) → IsEmptyOrMarked marks bs → valid_prefix set bs ≡ 0
nothing-is-scanned-at-mark set marks lacks outside [] m = empty_text_has_empty_valid_prefix set
nothing-is-scanned-at-mark set marks lacks outside (b ∷ bs) m = valid_prefix_at_mark_is_empty
    marks set lacks outside b bs m

-- parse errors: where a delimiter or the end is, a set that excludes the delimiters allows nothing
pub valid_prefix-zero-at-mark : (marks : List ℕ) (set : TableSet) → LacksPercent set
    → excludes set marks ≡ true
    → (bs : List ℕ) → is_empty_or_begins_with_any marks bs ≡ true → valid_prefix set bs ≡ 0
unfolding is_empty_or_begins_with_any
valid_prefix-zero-at-mark marks set lacks outside [] e = empty_text_has_empty_valid_prefix set
valid_prefix-zero-at-mark marks set lacks outside (b ∷ bs) e =
    grind (arith, nat_tests, valid_prefix_at_mark_is_empty)

-- parse errors: where an authority ends, and not by `/` (47), it ends by `?`, `#` or the end
mark-that-is-no-slash-is-question-or-hash : (bs : List ℕ)
    → is_empty_or_begins_with_any (codes "/?#") bs ≡ true
    → starts 47 bs ≡ false → is_empty_or_begins_with_any (codes "?#") bs ≡ true
unfolding is_empty_or_begins_with_any
mark-that-is-no-slash-is-question-or-hash [] e s = refl
mark-that-is-no-slash-is-question-or-hash (b ∷ bs) e s = grind (arith, nat_tests)

-- parse errors: a `%` (37) is neither `:` (58) nor what ends an authority
percent-is-no-colon-or-mark : (bs : List ℕ) → starts 37 bs ≡ true
    → (starts 58 bs ≡ false) × (is_empty_or_begins_with_any (codes "/?#") bs ≡ false)
unfolding is_empty_or_begins_with_any
percent-is-no-colon-or-mark [] e = absurd (false≢true e)
percent-is-no-colon-or-mark (b ∷ bs) e = (grind (arith, nat_tests), grind (arith, nat_tests))

-- parse errors: the text begins with another byte than `/`, `?` and `#`
record IsOther (bs : List ℕ) : Type 0 where
  slash : starts 47 bs ≡ false
  question : starts 63 bs ≡ false
  number : starts 35 bs ≡ false
  some : is_end bs ≡ false

-- parse errors: a text that does not end an authority begins with another byte
unmarked_text_begins_with_other_byte : (bs : List ℕ) → is_empty_or_begins_with_any (codes "/?#") bs
    ≡ false → IsOther bs
unfolding is_empty_or_begins_with_any is_end
unmarked_text_begins_with_other_byte [] e = absurd (false≢true (sym e))
unmarked_text_begins_with_other_byte (b ∷ bs) e = grind (arith, nat_tests)

module _ (segment : TableSet) (kind : Kind) (w : SeparatesComponents segment kind)
    (a : Adjoins kind)
    (text : List ℕ) where
  left_over_error-by-stray-percent : (p : ℕ) → left_over_error kind text p
      ≡ cond (kind.path.pct_encoded && is_next text 37 (scan_end text kind.path p))
      (Some (stray_percent (scan_end text kind.path p))) (Some (unexpected p))
  unfolding left_over_error
  left_over_error-by-stray-percent p = scan-stops-at-stray-percent-or-goes-on text kind.path p
      (λ _. Some (unexpected p))

  abempty-path-error-by-stray-percent : (p : ℕ) → error_from_abempty_path kind text p
      ≡ cond (kind.path.pct_encoded && is_next text 37 (scan_end text kind.path p))
      (Some (stray_percent (scan_end text kind.path p)))
      (cond (eqb (scan_end text kind.path p) p || is_next text 47 p)
      (error_from_query kind text (scan_end text kind.path p)) (Some (unexpected p)))
  unfolding error_from_abempty_path
  abempty-path-error-by-stray-percent p =
      grind (arith, nat_tests, scan-stops-at-stray-percent-or-goes-on)

  path-error-by-stray-percent : (p : ℕ) → error_from_path kind text p ≡ cond (kind.path.pct_encoded
      && is_next text 37 (scan_end text kind.path p)) (Some (stray_percent
      (scan_end text kind.path p))) (error_from_query kind text (scan_end text kind.path p))
  unfolding error_from_path
  path-error-by-stray-percent p = scan-stops-at-stray-percent-or-goes-on text kind.path p
      (error_from_query kind text)

  abempty-path-error-at-mark-is-path-error : (p : ℕ) → is_empty_or_begins_with_any (codes "/?#")
      (drop p text) ≡ true
      → error_from_abempty_path kind text p ≡ error_from_path kind text p
  abempty-path-error-at-mark-is-path-error p e =
      let end : ℕ = scan_end text kind.path p in
      let open_or_slash : (eqb end p || is_next text 47 p) ≡ true = ⊎_elim
      (λ s. or_right _ _ s) (λ s. or_left _ _ (eq-eqb end p (let z = valid_prefix-zero-at-mark
      (codes "?#") kind.path w.path_lacks w.path_marks (drop p text)
      (mark-that-is-no-slash-is-question-or-hash (drop p text) e s) in omega (arith, z))))
      (cases_Bool (is_next text 47 p)) in
      abempty-path-error-by-stray-percent p
      ∙ ap (cond (kind.path.pct_encoded && is_next text 37 end) (Some (stray_percent end)))
      (cond-true _ _ _ open_or_slash) ∙ sym (path-error-by-stray-percent p)

  query-error-at-other-byte-is-unexpected : (p : ℕ) → is_empty_or_begins_with_any (codes "/?#")
      (drop p text) ≡ false
      → error_from_query kind text p ≡ Some (unexpected p)
  unfolding error_from_query error_from_fragment error_from_end
  query-error-at-other-byte-is-unexpected p e =
      let o = unmarked_text_begins_with_other_byte (drop p text) e in
      cond-false _ _ _ o.question ∙ cond-false _ _ _ o.number ∙ cond-false _ _ _ o.some

  abempty-path-error-at-other-byte-is-left-over : (p : ℕ)
      → is_empty_or_begins_with_any (codes "/?#") (drop p text) ≡ false
      → error_from_abempty_path kind text p ≡ left_over_error kind text p
  abempty-path-error-at-other-byte-is-left-over p e =
      grind (
        arith,
        unmarked_text_begins_with_other_byte,
        abempty-path-error-by-stray-percent,
        query-error-at-other-byte-is-unexpected,
        left_over_error-by-stray-percent,
      )

  pub error_after_port-is-from-path : (p : ℕ) → error_after_port kind text p
      ≡ error_from_abempty_path kind text p
  unfolding error_after_port
  error_after_port-is-from-path p = ⊎_elim
      (λ e. cond-true _ _ _ e ∙ sym (abempty-path-error-at-mark-is-path-error p e))
      (λ e. cond-false _ _ _ e ∙ sym (abempty-path-error-at-other-byte-is-left-over p e))
      (cases_Bool (is_empty_or_begins_with_any (codes "/?#") (drop p text)))

  pub port-end-by-next-colon : (n : ℕ) → n + port_length (drop n text)
      ≡ cond (is_next text 58 n) (scan_end text digit_set (n + 1)) n
  unfolding port_length
  port-end-by-next-colon n = ⊎_elim (λ e. let l : port_length (drop n text)
      ≡ 1 + valid_prefix digit_set (drop 1 (drop n text)) = cond-true _ _ _ e in
      let d = ap (valid_prefix digit_set) (drop-drop 1 n text) in
      omega (arith, l, d) ∙ sym (cond-true _ _ _ e))
      (λ e. let l : port_length (drop n text) ≡ 0 = cond-false _ _ _ e in
      omega (arith, l) ∙ sym (cond-false _ _ _ e)) (cases_Bool (is_next text 58 n))

  port_error-is-error_from_port : (n : ℕ) → port_error kind text n ≡ error_from_port kind text n
  unfolding port_error error_from_port
  port_error-is-error_from_port n = error_after_port-is-from-path (n + port_length (drop n text))
      ∙ ap (error_from_abempty_path kind text) (port-end-by-next-colon n)

  port-error-without-colon-is-path-error : (n : ℕ) → is_next text 58 n ≡ false
      → error_from_port kind text n ≡ error_from_abempty_path kind text n
  unfolding error_from_port
  port-error-without-colon-is-path-error n e = ap (error_from_abempty_path kind text)
      (cond-false _ _ _ e)

  -- a stray `%` after a name is one in the path that is read there
  stray-percent-after-name-is-port-error : (i : ℕ) → is_next text 37 (scan_end text kind.reg_name i)
      ≡ true → port_error kind text (scan_end text kind.reg_name i)
      ≡ Some (stray_percent (scan_end text kind.reg_name i))
  stray-percent-after-name-is-port-error i e =
      let n : ℕ = scan_end text kind.reg_name i in
      let here : drop n text ≡ after kind.reg_name (drop i text) =
      sym (drop-drop (valid_prefix kind.reg_name (drop i text)) i text) in
      let stop : valid_prefix kind.reg_name (drop n text) ≡ 0 = ap (valid_prefix kind.reg_name) here
      ∙ nothing_is_scanned_after_valid_prefix kind.reg_name (drop i text) in
      let none : valid_prefix kind.path (drop n text) ≡ 0 = stray-percent-stops-every-set
      kind.reg_name kind.path (drop n text) a.reg_name_octets a.path_octets stop e in
      let last : scan_end text kind.path n ≡ n = omega arith in
      let s = percent-is-no-colon-or-mark (drop n text) e in
      port_error-is-error_from_port n ∙ port-error-without-colon-is-path-error n s.0
      ∙ abempty-path-error-at-other-byte-is-left-over n s.1 ∙ left_over_error-by-stray-percent n
      ∙ ap (λ k. cond (kind.path.pct_encoded && is_next text 37 k) (Some (stray_percent k))
      (Some (unexpected n))) last ∙ cond-true _ _ _ (and_from _ _ a.path_octets e)

  pub host_error-is-error_from_host : (i : ℕ) → host_error kind text i ≡ error_from_host kind text i
  unfolding host_error error_from_host
  host_error-is-error_from_host i = grind (
    arith,
    nat_tests,
    bind-respects-pointwise-equality,
    port_error-is-error_from_port,
    scan-stops-at-stray-percent-or-goes-on,
    stray-percent-after-name-is-port-error,
  )
