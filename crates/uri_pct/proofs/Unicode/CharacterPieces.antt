-- The bytes of a character are a well-formed piece in any context, and each well-formed piece is
-- the bytes of a character.
use Rattle.std.proofs.lemmas.Grind.{common_steps}
use Rattle.uri_pct.proofs.Common.{◌≡◌, ℕ, zero, suc, ◌+◌, ◌-◌, ◌*◌, ◌/◌, ◌%◌, ◌<◌, ◌≤◌, ◌⊎◌, true, false, leb, List, [], ◌∷◌, ◌++◌, length, take, refl, sym, ap, ◌∙◌, arith, ⊎_elim, Option, Some, None, option_map, lit≤, slice_index, chars, append-nil, find, All, AllByRecursion, encode_utf8, IsScalar, scalar_cases, low_scalar, All-from_recursion, encode_ascii, chars-encodes, cases_Bool, cond-true, cond-false, and_parts, and_left, and_right, leb-true, lt-leb, and_from, cases_lt, nat_tests, Piece, WellFormed, IllFormed, ByteRange, Row, is_in_byte_range, continuation, well_formed_rows, char_of, IsOfCharacter, following_ranges, len_in_ranges, first_piece_tail_len, first_piece, pieces_from, utf8_pieces}
use Rattle.uri_pct.proofs.Unicode.Pieces.{utf8_pieces_are_cut_at_non_continuation}
use Rattle.uri_pct.proofs.Unicode.FirstBytes.{fitting_bytes_are_well_formed_first_piece, no_range_follows_ascii_byte, following_ranges_of_c2_to_df, following_ranges_of_e0, following_ranges_of_e1_to_ec, following_ranges_of_ed, following_ranges_of_ee_to_ef, following_ranges_of_f0, following_ranges_of_f1_to_f3, following_ranges_of_f4}

-- UTF-8: the bytes of a character from U+0080 to U+07FF
utf8_of_char_of_two_bytes : (c : ℕ) → 0x80 ≤ c → c < 0x800 → encode_utf8 c
    ≡ (192 + c / 64) ∷ (128 + c % 64) ∷ []
unfolding encode_utf8
utf8_of_char_of_two_bytes c low high = grind (arith, nat_tests)

-- UTF-8: the bytes of a character from U+0800 to U+FFFF
utf8_of_char_of_three_bytes : (c : ℕ) → 0x800 ≤ c → c < 0x10000
    → encode_utf8 c ≡ (224 + c / 4096) ∷ (128 + c / 64 % 64) ∷ (128 + c % 64) ∷ []
unfolding encode_utf8
utf8_of_char_of_three_bytes c low high = grind (arith, nat_tests)

utf8_of_char_of_four_bytes : (c : ℕ) → 0x10000 ≤ c → encode_utf8 c
    ≡ (240 + c / 262144) ∷ (128 + c / 4096 % 64) ∷ (128 + c / 64 % 64) ∷ (128 + c % 64) ∷ []
unfolding encode_utf8
utf8_of_char_of_four_bytes c low = grind (arith, nat_tests)

-- UTF-8: the bytes of a character, before any others, are a piece
abbrev BeginsPiece : ℕ → List ℕ → Type 0
BeginsPiece c rest = utf8_pieces (encode_utf8 c ++ rest)
    ≡ WellFormed (encode_utf8 c) ∷ utf8_pieces rest

ascii_char_begins_piece : (c : ℕ) (rest : List ℕ) → c < 0x80 → BeginsPiece c rest
ascii_char_begins_piece c rest high = rw (encode_ascii c high)
    (fitting_bytes_are_well_formed_first_piece c [] [] rest (no_range_follows_ascii_byte c high) tt)

char_of_two_bytes_begins_piece : (c : ℕ) (rest : List ℕ) → 0x80 ≤ c → c < 0x800 → BeginsPiece c rest
char_of_two_bytes_begins_piece c rest low high = rw (utf8_of_char_of_two_bytes c low high)
    (fitting_bytes_are_well_formed_first_piece (192 + c / 64) (continuation ∷ [])
    ((128 + c % 64) ∷ []) rest
    (following_ranges_of_c2_to_df _ (omega arith) (omega arith)) ((omega arith, omega arith), tt))

char_of_three_bytes_begins_piece : (c : ℕ) (rest : List ℕ) (second : ByteRange) → 0x800 ≤ c
    → c < 0x10000 → following_ranges (224 + c / 4096) ≡ Some (second ∷ continuation ∷ [])
    → second.0 ≤ 128 + c / 64 % 64 → 128 + c / 64 % 64 ≤ second.1 → BeginsPiece c rest
char_of_three_bytes_begins_piece c rest second low high row from byte_within_bounds =
    rw (utf8_of_char_of_three_bytes c low high) (fitting_bytes_are_well_formed_first_piece
    (224 + c / 4096) (second ∷ continuation ∷ []) ((128 + c / 64 % 64) ∷ (128 + c % 64) ∷ [])
    rest row ((from, byte_within_bounds), ((omega arith, omega arith), tt)))

char_of_four_bytes_begins_piece : (c : ℕ) (rest : List ℕ) (second : ByteRange) → 0x10000 ≤ c
    → following_ranges (240 + c / 262144) ≡ Some (second ∷ continuation ∷ continuation ∷ [])
    → second.0 ≤ 128 + c / 4096 % 64 → 128 + c / 4096 % 64 ≤ second.1 → BeginsPiece c rest
char_of_four_bytes_begins_piece c rest second low row from byte_within_bounds = rw
    (utf8_of_char_of_four_bytes c low) (fitting_bytes_are_well_formed_first_piece (240 + c / 262144)
    (second ∷ continuation ∷ continuation ∷ [])
    ((128 + c / 4096 % 64) ∷ (128 + c / 64 % 64) ∷ (128 + c % 64) ∷ []) rest row
    ((from, byte_within_bounds), ((omega arith, omega arith), ((omega arith, omega arith), tt))))

char_below_surrogates_begins_piece : (c : ℕ) (rest : List ℕ) → c < 0xD800 → BeginsPiece c rest
char_below_surrogates_begins_piece c rest high = ⊎_elim (λ h. ascii_char_begins_piece c rest h)
    (λ l1. ⊎_elim (λ h. char_of_two_bytes_begins_piece c rest l1 h)
    (λ l2. ⊎_elim (λ h. char_of_three_bytes_begins_piece c rest (0xA0, 0xBF)
    l2 (omega arith) (following_ranges_of_e0 _ (omega arith)) (omega arith) (omega arith))
    (λ l3. ⊎_elim (λ h. char_of_three_bytes_begins_piece c rest continuation l2 (omega arith)
    (following_ranges_of_e1_to_ec _ (omega arith) (omega arith)) (omega arith) (omega arith))
    (λ l4. char_of_three_bytes_begins_piece c rest (0x80, 0x9F) l2 (omega arith)
    (following_ranges_of_ed _ (omega arith)) (omega arith) (omega arith)) (cases_lt c 0xD000))
    (cases_lt c 0x1000)) (cases_lt c 0x800)) (cases_lt c 0x80)

char_above_surrogates_begins_piece : (c : ℕ) (rest : List ℕ) → 0xE000 ≤ c → c < 0x110000
    → BeginsPiece c rest
char_above_surrogates_begins_piece c rest low high = ⊎_elim
    (λ h. char_of_three_bytes_begins_piece c rest continuation (omega arith) h
    (following_ranges_of_ee_to_ef _ (omega arith) (omega arith)) (omega arith) (omega arith)) (λ l1.
    ⊎_elim (λ h. char_of_four_bytes_begins_piece c rest (0x90, 0xBF) l1
    (following_ranges_of_f0 _ (omega arith)) (omega arith) (omega arith)) (λ l2.
    ⊎_elim (λ h. char_of_four_bytes_begins_piece c rest continuation l1
    (following_ranges_of_f1_to_f3 _ (omega arith) (omega arith)) (omega arith) (omega arith))
    (λ l3. char_of_four_bytes_begins_piece c rest (0x80, 0x8F) l1
    (following_ranges_of_f4 _ (omega arith)) (omega arith) (omega arith))
    (cases_lt c 0x100000)) (cases_lt c 0x40000)) (cases_lt c 0x10000)

-- UTF-8: the bytes of a character before any others are a well-formed piece
pub first_char_is_first_piece : (c : ℕ) (rest : List ℕ) → IsScalar c
    → utf8_pieces (encode_utf8 c ++ rest) ≡ WellFormed (encode_utf8 c) ∷ utf8_pieces rest
first_char_is_first_piece c rest scalar = ⊎_elim (λ h. char_below_surrogates_begins_piece c rest h)
    (λ h. char_above_surrogates_begins_piece c rest h.0 h.1) (scalar_cases c scalar)

-- UTF-8: a character begins with a byte that continues none
pub byte_below_80_or_from_c0_is_no_continuation : (b : ℕ) → (b < 0x80) ⊎ (0xC0 ≤ b)
    → is_in_byte_range continuation b ≡ false
byte_below_80_or_from_c0_is_no_continuation b h = ⊎_elim (λ low. and_left _ _ (lt-leb 0x80 b low))
    (λ high. and_right _ _ (lt-leb b 0xBF (omega arith))) h

pub char_separates_utf8_pieces : (xs : List ℕ) (c : ℕ) (ys : List ℕ) → IsScalar c → utf8_pieces (xs
    ++ (encode_utf8 c ++ ys)) ≡ utf8_pieces xs ++ WellFormed (encode_utf8 c) ∷ utf8_pieces ys
char_separates_utf8_pieces xs c ys scalar =
    grind (
      arith,
      common_steps,
      utf8_pieces_are_cut_at_non_continuation,
      utf8_of_char_of_two_bytes,
      utf8_of_char_of_three_bytes,
      utf8_of_char_of_four_bytes,
      first_char_is_first_piece,
    )

-- UTF-8: what holds of each row of the table of first bytes holds of the row of a first byte
found_row_has_property_of_all_rows : (b : ℕ) (P : Option (List ByteRange) → Type 0)
    (rows : List Row) → P None
    → AllByRecursion (λ (row : Row). is_in_byte_range row.0 b ≡ true → P (Some row.1)) rows
    → P (option_map (λ (row : Row). row.1) (find (λ (row : Row). is_in_byte_range row.0 b) rows))
found_row_has_property_of_all_rows b P [] none all = none
found_row_has_property_of_all_rows b P (row ∷ rows) none all =
    grind (arith, found_row_has_property_of_all_rows b P rows none all.1, cases_Bool)

-- UTF-8: the bytes are those of a character
abbrev AreUtf8OfCharacter : List ℕ → Type 0
AreUtf8OfCharacter bytes = (c : ℕ) × IsScalar c × (encode_utf8 c ≡ bytes)

first_byte_fits_first_range : (range : ByteRange) (ranges : List ByteRange) (text : List ℕ)
    → len_in_ranges (range ∷ ranges) text ≡ suc (length ranges) → (b : ℕ) × (rest : List ℕ) × (text
    ≡ b ∷ rest) × (range.0 ≤ b) × (b ≤ range.1) × (len_in_ranges ranges rest ≡ length ranges)
first_byte_fits_first_range range ranges [] e = absurd (omega arith)
first_byte_fits_first_range range ranges (b ∷ rest) e = ⊎_elim
    (λ t. let p = and_parts (leb range.0 b) (leb b range.1) t in
    let s : suc (len_in_ranges ranges rest) ≡ suc (length ranges) = sym (cond-true _ _ _ t) ∙ e in
    (b, rest, refl, leb-true range.0 b p.0, leb-true b range.1 p.1, omega arith))
    (λ f. let s : 0 ≡ suc (length ranges) = sym (cond-false _ _ _ f) ∙ e in absurd (omega arith))
    (cases_Bool (is_in_byte_range range b))

byte_within_bounds : (b low high : ℕ) → is_in_byte_range (low, high) b ≡ true → (low ≤ b)
    × (b ≤ high)
byte_within_bounds b low high e = let p = and_parts (leb low b) (leb b high) e in
    (leb-true low b p.0, leb-true b high p.1)

-- UTF-8: what is well-formed of a first byte and its row is the bytes of a character
abbrev FormsCharacters : ℕ → Option (List ByteRange) → Type 0
FormsCharacters b row = (rest bytes : List ℕ) → first_piece row b rest ≡ WellFormed bytes
    → AreUtf8OfCharacter bytes

well_formed_piece_fits_all_ranges : (b : ℕ) (ranges : List ByteRange) (rest bytes : List ℕ)
    → first_piece (Some ranges) b rest ≡ WellFormed bytes
    → (len_in_ranges ranges rest ≡ length ranges) × (bytes ≡ b ∷ take (length ranges) rest)
well_formed_piece_fits_all_ranges b ranges rest bytes e =
    grind (arith, nat_tests, cond-false, cases_Bool)

pieces_of_one_byte_are_characters : (b : ℕ) → b ≤ 0x7F → FormsCharacters b (Some [])
pieces_of_one_byte_are_characters b high rest bytes e =
    let ascii : b < 0x80 = omega arith in (
      b,
      low_scalar b (omega arith),
      encode_ascii b ascii ∙ sym (well_formed_piece_fits_all_ranges b [] rest bytes e).1,
    )

-- UTF-8: a number from U+E000 to U+10FFFF is a scalar value
char_above_surrogates_is_scalar : (c : ℕ) → 0xE000 ≤ c → c < 0x110000 → IsScalar c
char_above_surrogates_is_scalar c low high = grind (arith, nat_tests)

two_bytes_are_utf8_of_their_value : (b t c : ℕ) → c + 12416 ≡ b * 64 + t → 0xC2 ≤ b → b ≤ 0xDF
    → 0x80 ≤ t → t ≤ 0xBF → encode_utf8 c ≡ b ∷ t ∷ []
two_bytes_are_utf8_of_their_value b t c e l h l1 h1 =
    grind (arith, nat_tests, utf8_of_char_of_two_bytes)

three_bytes_are_utf8_of_their_value : (b t u c : ℕ) → c + 925824 ≡ (b * 64 + t) * 64 + u → 0x800 ≤ c
    → c < 0x10000 → 0x80 ≤ t → t ≤ 0xBF → 0x80 ≤ u → u ≤ 0xBF → encode_utf8 c ≡ b ∷ t ∷ u ∷ []
three_bytes_are_utf8_of_their_value b t u c e l h l1 h1 l2 h2 =
    grind (arith, nat_tests, utf8_of_char_of_three_bytes)

four_bytes_are_utf8_of_their_value : (b t u v c : ℕ)
    → c + 63447168 ≡ ((b * 64 + t) * 64 + u) * 64 + v → 0x10000 ≤ c → 0x80 ≤ t
    → t ≤ 0xBF → 0x80 ≤ u → u ≤ 0xBF → 0x80 ≤ v → v ≤ 0xBF → encode_utf8 c ≡ b ∷ t ∷ u ∷ v ∷ []
four_bytes_are_utf8_of_their_value b t u v c e l l1 h1 l2 h2 l3 h3 =
    grind (arith, nat_tests, utf8_of_char_of_four_bytes)

pieces_of_two_bytes_are_characters : (b : ℕ) → 0xC2 ≤ b → b ≤ 0xDF
    → FormsCharacters b (Some (continuation ∷ []))
pieces_of_two_bytes_are_characters b low high rest bytes e =
    let p = well_formed_piece_fits_all_ranges b (continuation ∷ []) rest bytes e in
    let f = first_byte_fits_first_range continuation [] rest p.0 in
    let c : ℕ = b * 64 + f.0 - 12416 in
    let whole : bytes ≡ b ∷ f.0 ∷ [] = p.1 ∙ ap (λ x. b ∷ take 1 x) f.2 in (
      c,
      low_scalar c (omega arith),
      two_bytes_are_utf8_of_their_value b f.0 c (omega arith) low high f.3 f.4 ∙ sym whole,
    )

pieces_of_three_bytes_are_characters : (b : ℕ) (second : ByteRange) → 0xE0 ≤ b → 0x80 ≤ second.0
    → second.1 ≤ 0xBF → ((c t : ℕ) → second.0 ≤ t → t ≤ second.1 → (b * 64 + t) * 64 ≤ c + 925696
    → c + 925696 < (b * 64 + t) * 64 + 64 → (0x800 ≤ c) × (c < 0x10000) × IsScalar c)
    → FormsCharacters b (Some (second ∷ continuation ∷ []))
pieces_of_three_bytes_are_characters b second low least most fair rest bytes e =
    let p = well_formed_piece_fits_all_ranges b (second ∷ continuation ∷ []) rest bytes e in
    let f = first_byte_fits_first_range second (continuation ∷ []) rest p.0 in
    let g = first_byte_fits_first_range continuation [] f.1 f.5 in
    let c : ℕ = (b * 64 + f.0) * 64 + g.0 - 925824 in
    let joined : c + 925824 ≡ (b * 64 + f.0) * 64 + g.0 = omega arith in
    let h = fair c f.0 f.3 f.4 (omega arith) (omega arith) in
    let whole : bytes ≡ b ∷ f.0 ∷ g.0 ∷ [] = p.1 ∙ ap (λ x. b ∷ take 2 x) f.2
    ∙ ap (λ x. b ∷ f.0 ∷ take 1 x) g.2 in (
      c,
      h.2,
      three_bytes_are_utf8_of_their_value
          b f.0 g.0 c joined h.0 h.1 (omega arith) (omega arith) g.3 g.4 ∙ sym whole,
    )

pieces_of_four_bytes_are_characters : (b : ℕ) (second : ByteRange) → 0xF0 ≤ b → 0x80 ≤ second.0
    → second.1 ≤ 0xBF → ((c t : ℕ) → second.0 ≤ t → t ≤ second.1 → (b * 64 + t) * 4096
    ≤ c + 63438848 → c + 63438848 < (b * 64 + t) * 4096 + 4096 → (0x10000 ≤ c) × (c < 0x110000))
    → FormsCharacters b (Some (second ∷ continuation ∷ continuation ∷ []))
pieces_of_four_bytes_are_characters b second low least most fair rest bytes e =
    let p = well_formed_piece_fits_all_ranges b (second ∷ continuation ∷ continuation ∷ [])
    rest bytes e in
    let f = first_byte_fits_first_range second (continuation ∷ continuation ∷ []) rest p.0 in
    let g = first_byte_fits_first_range continuation (continuation ∷ []) f.1 f.5 in
    let k = first_byte_fits_first_range continuation [] g.1 g.5 in
    let c : ℕ = ((b * 64 + f.0) * 64 + g.0) * 64 + k.0 - 63447168 in
    let joined : c + 63447168 ≡ ((b * 64 + f.0) * 64 + g.0) * 64 + k.0 = omega arith in
    let h = fair c f.0 f.3 f.4 (omega arith) (omega arith) in
    let whole : bytes ≡ b ∷ f.0 ∷ g.0 ∷ k.0 ∷ [] = p.1 ∙ ap (λ x. b ∷ take 3 x) f.2
    ∙ ap (λ x. b ∷ f.0 ∷ take 2 x) g.2 ∙ ap (λ x. b ∷ f.0 ∷ g.0 ∷ take 1 x) k.2 in (
      c,
      char_above_surrogates_is_scalar c (omega arith) h.1,
      four_bytes_are_utf8_of_their_value b f.0 g.0 k.0 c joined h.0 (omega arith)
          (omega arith) g.3 g.4 k.3 k.4 ∙ sym whole,
    )

well_formed_pieces_are_characters : (b : ℕ) → FormsCharacters b (following_ranges b)
unfolding following_ranges
well_formed_pieces_are_characters b = found_row_has_property_of_all_rows b
    (FormsCharacters b) well_formed_rows (λ rest bytes e. cc) (
      λ e. pieces_of_one_byte_are_characters b (byte_within_bounds b 0x00 0x7F e).1,
      (
        λ e. pieces_of_two_bytes_are_characters b (byte_within_bounds b 0xC2 0xDF e).0
            (byte_within_bounds b 0xC2 0xDF e).1,
        (
          λ e. let h = byte_within_bounds b 0xE0 0xE0 e in
              pieces_of_three_bytes_are_characters b (0xA0, 0xBF) h.0 (lit≤ tt) (lit≤ tt)
              (λ c t k1 k2 k3 k4. (omega arith, omega arith, low_scalar c (omega arith))),
          (
            λ e. let h = byte_within_bounds b 0xE1 0xEC e in
                pieces_of_three_bytes_are_characters b continuation (omega arith)
                (lit≤ tt) (lit≤ tt)
                (λ c t k1 k2 k3 k4. (omega arith, omega arith, low_scalar c (omega arith))),
            (
              λ e. let h = byte_within_bounds b 0xED 0xED e in
                  pieces_of_three_bytes_are_characters b (0x80, 0x9F) (omega arith) (lit≤ tt) (lit≤
                  tt) (λ c t k1 k2 k3 k4. (omega arith, omega arith, low_scalar c (omega arith))),
              (
                λ e. let h = byte_within_bounds b 0xEE 0xEF e in
                    pieces_of_three_bytes_are_characters b continuation
                    (omega arith) (lit≤ tt) (lit≤ tt) (λ c t k1 k2 k3 k4. (
                      omega arith,
                      omega arith,
                      char_above_surrogates_is_scalar c (omega arith) (omega arith),
                    )),
                (
                  λ e. let h = byte_within_bounds b 0xF0 0xF0 e in
                      pieces_of_four_bytes_are_characters b (0x90, 0xBF) h.0 (lit≤ tt) (lit≤ tt)
                      (λ c t k1 k2 k3 k4. (omega arith, omega arith)),
                  (
                    λ e. let h = byte_within_bounds b 0xF1 0xF3 e in
                        pieces_of_four_bytes_are_characters b continuation (omega arith)
                        (lit≤ tt) (lit≤ tt) (λ c t k1 k2 k3 k4. (omega arith, omega arith)),
                    (
                      λ e. let h = byte_within_bounds b 0xF4 0xF4 e in
                          pieces_of_four_bytes_are_characters b (0x80, 0x8F) (omega arith)
                          (lit≤ tt) (lit≤ tt) (λ c t k1 k2 k3 k4. (omega arith, omega arith)),
                      tt,
                    ),
                  ),
                ),
              ),
            ),
          ),
        ),
      ),
    )

-- UTF-8: decoding the bytes of a character gives the character
pub char_of_utf8_is_the_char : (c : ℕ) → IsScalar c → char_of (encode_utf8 c) ≡ c
char_of_utf8_is_the_char c scalar =
    let scalars = and_from _ true scalar refl in
    ap (λ cs. slice_index cs 0) (ap chars (sym (append-nil (encode_utf8 c)))
    ∙ chars-encodes (c ∷ []) scalars)

-- UTF-8: the first piece of bytes, which begins with b, is a character or ill-formed
pub first_piece_is_of_character : (b : ℕ) (rest : List ℕ) (p : Piece)
    → first_piece (following_ranges b) b rest ≡ p → IsOfCharacter p
first_piece_is_of_character b rest (WellFormed bytes) e =
    grind (arith, char_of_utf8_is_the_char, well_formed_pieces_are_characters)
first_piece_is_of_character b rest (IllFormed bytes) e = tt

pieces_after_skipped_bytes_are_of_characters : (k : ℕ) (bytes : List ℕ)
    → AllByRecursion IsOfCharacter (pieces_from k bytes)
unfolding pieces_from
pieces_after_skipped_bytes_are_of_characters zero [] = tt
pieces_after_skipped_bytes_are_of_characters (suc k) [] = tt
pieces_after_skipped_bytes_are_of_characters (suc k) (b ∷ rest) =
    pieces_after_skipped_bytes_are_of_characters k rest
pieces_after_skipped_bytes_are_of_characters zero (b ∷ rest) = (
  first_piece_is_of_character b rest _ refl,
  pieces_after_skipped_bytes_are_of_characters
      (first_piece_tail_len (following_ranges b) rest) rest,
)

-- UTF-8: each piece of bytes is a character or ill-formed
pub utf8_pieces-are-of-characters : (bytes : List ℕ) → All IsOfCharacter (utf8_pieces bytes)
utf8_pieces-are-of-characters bytes = All-from_recursion IsOfCharacter (utf8_pieces bytes)
    (pieces_after_skipped_bytes_are_of_characters 0 bytes)
