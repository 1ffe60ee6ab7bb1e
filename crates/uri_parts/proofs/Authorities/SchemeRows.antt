-- A scheme is among the rows that begin with its letter, or in no row.
use Rattle.uri_parts.proofs.Common.{◌≡◌, ℕ, ◌+◌, ◌-◌, ◌<◌, ◌≤◌, Bool, true, false, cond, List, [], ◌∷◌, eqb, get_or, map, filter, find, length, refl, sym, ap, ◌∙◌, arith, Some, None, option_map, to_ascii_lowercase, is_ascii_lowercase, list_all, str_to_ascii_lowercase, str_eq_ignore_ascii_case, and_parts, nat_tests, get_or-map, length-map, scheme_ports, default_port, port_ignoring_case, rows_by_letter, rows_of_letter}
use Rattle.std.proofs.lemmas.List.FromFn.{get_or-map-range_with_len}
use Rattle.uri_parts.proofs.Authorities.SchemePorts.{port_ignoring_case-is-default_port}

-- default ports: a row of the table, which is a scheme and its port
abbrev Row : Type 0
Row = List ℕ × ℕ

-- default ports: the row is of this scheme, whatever its case
abbrev is_named : List ℕ → Row → Bool
is_named name row = str_eq_ignore_ascii_case row.0 name

-- default ports: the row begins with the letter
abbrev begins_with : ℕ → Row → Bool
begins_with letter row = eqb (to_ascii_lowercase (get_or row.0 0 0)) letter

named-row-begins-with-letter : (b : ℕ) (bs : List ℕ) (row : List ℕ)
    → str_eq_ignore_ascii_case row (b ∷ bs) ≡ true
    → eqb (to_ascii_lowercase (get_or row 0 0)) (to_ascii_lowercase b) ≡ true
named-row-begins-with-letter b bs [] e = grind (arith, nat_tests)
named-row-begins-with-letter b bs (x ∷ xs) e = (and_parts _ _ e).0

-- default ports: a row is dropped only if it does not fit, so what is found stays
found-row-is-kept : (p : Row → Bool) (t : Bool) (row : Row) (kept rows : List Row)
    → (p row ≡ true → t ≡ true) → find p kept ≡ find p rows
    → find p (cond t (row ∷ kept) kept) ≡ find p (row ∷ rows)
found-row-is-kept p true row kept rows h e = ap (cond (p row) (Some row)) e
found-row-is-kept p false row kept rows h e = grind (arith, nat_tests)

-- default ports: what fits is found among the rows that pass a weaker test
found-among-filtered : (p test : Row → Bool) → ((row : Row) → p row ≡ true → test row ≡ true)
    → (rows : List Row) → find p (filter test rows) ≡ find p rows
found-among-filtered p test h [] = refl
found-among-filtered p test h (row ∷ rows) = found-row-is-kept p (test row) row (filter test rows)
    rows (h row) (found-among-filtered p test h rows)

-- default ports: a scheme (b and bs) is among the rows that begin with its letter, if it is in any
port-is-in-rows-of-letter : (b : ℕ) (bs : List ℕ) → port_ignoring_case (b
    ∷ bs) (rows_of_letter (to_ascii_lowercase b)) ≡ default_port (str_to_ascii_lowercase (b ∷ bs))
unfolding port_ignoring_case
port-is-in-rows-of-letter b bs = ap (option_map (λ row. row.1))
    (found-among-filtered (is_named (b ∷ bs)) (begins_with (to_ascii_lowercase b))
    (λ row. named-row-begins-with-letter b bs row.0) scheme_ports)
    ∙ port_ignoring_case-is-default_port (b ∷ bs)

pub default-port-by-rows-of-first-letter : (scheme : List ℕ) (nth : ℕ)
    → 0 < length scheme → is_ascii_lowercase (to_ascii_lowercase (get_or scheme 0 0)) ≡ true
    → nth ≡ to_ascii_lowercase (get_or scheme 0 0) - 97 → port_ignoring_case scheme
    (rows_of_letter (97 + nth)) ≡ default_port (str_to_ascii_lowercase scheme)
default-port-by-rows-of-first-letter [] nth long low e = absurd (omega (arith, long))
default-port-by-rows-of-first-letter (b ∷ bs) nth long low e =
    let from : 97 ≤ to_ascii_lowercase b = grind (arith, nat_tests) in
    let same : 97 + nth ≡ to_ascii_lowercase b = omega (arith, from, e) in
    ap (λ letter. port_ignoring_case (b ∷ bs) (rows_of_letter letter)) same
    ∙ port-is-in-rows-of-letter b bs

table-has-26-letters : {X : Type 0} (rows_of : X → List Row) (table : List X)
    → map rows_of table ≡ rows_by_letter → length table ≡ 26
table-has-26-letters rows_of table e = sym (length-map table rows_of) ∙ ap length e

pub rows-of-letter-are-at-its-place : {X : Type 0} (rows_of : X → List Row) (table : List X)
    (nth : ℕ) (none : X) → map rows_of table ≡ rows_by_letter → nth < 26
    → rows_of (get_or table nth none) ≡ rows_of_letter (97 + nth)
rows-of-letter-are-at-its-place rows_of table nth none e small =
    let within : nth < length table = rw (table-has-26-letters rows_of table e) small in
    sym (get_or-map rows_of table nth none [] within) ∙ ap (λ lists. get_or lists nth []) e
    ∙ get_or-map-range_with_len rows_of_letter 97 26 nth (97 + nth) [] small refl

-- default ports: the row begins with a lower-case letter
abbrev begins_low : Row → Bool
begins_low row = is_ascii_lowercase (to_ascii_lowercase (get_or row.0 0 0))

no-row-begins-with-non-letter : (letter : ℕ) (rows : List Row) → is_ascii_lowercase letter ≡ false
    → list_all begins_low rows ≡ true → filter (begins_with letter) rows ≡ []
no-row-begins-with-non-letter letter [] upper e = refl
no-row-begins-with-non-letter letter (row ∷ rows) upper e =
    let p = and_parts (begins_low row) (list_all begins_low rows) e in
    let first = to_ascii_lowercase (get_or row.0 0 0) in
    let low : is_ascii_lowercase first ≡ true = p.0 in
    let other : eqb first letter ≡ false = grind (arith, nat_tests) in
    ap (λ t. cond t (row ∷ filter (begins_with letter) rows) (filter (begins_with letter) rows)) other
    ∙ no-row-begins-with-non-letter letter rows upper p.1

-- default ports: a scheme that does not begin with a letter has none
pub no-default-port-without-first-letter : (scheme : List ℕ)
    → is_ascii_lowercase (to_ascii_lowercase (get_or scheme 0 0)) ≡ false
    → default_port (str_to_ascii_lowercase scheme) ≡ None
unfolding port_ignoring_case default_port
no-default-port-without-first-letter [] upper = refl
no-default-port-without-first-letter (b ∷ bs) upper = sym (port-is-in-rows-of-letter b bs)
    ∙ ap (port_ignoring_case (b ∷ bs)) (no-row-begins-with-non-letter (to_ascii_lowercase b)
    scheme_ports upper refl)

pub empty-scheme-has-no-default-port : (scheme : List ℕ) → length scheme ≡ 0
    → default_port (str_to_ascii_lowercase scheme) ≡ None
unfolding default_port
empty-scheme-has-no-default-port [] e = refl
empty-scheme-has-no-default-port (b ∷ bs) e = absurd (omega (arith, e))
