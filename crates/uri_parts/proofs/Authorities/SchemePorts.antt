-- The constant of default ports is the table, and its names are in lower case.
use Rattle.uri_parts.proofs.Common.{◌≡◌, ℕ, Bool, true, false, cond, List, [], ◌∷◌, map, find, refl, sym, ◌∙◌, Option, Some, None, option_map, Bor, arith, str_to_ascii_lowercase, str_eq_ignore_ascii_case, nat_tests, scheme_ports, default_port, port_ignoring_case}

-- default ports: a row of the constant, which is a scheme and its port
abbrev pub Row : Type 0
Row = Bor (List ℕ) × ℕ

-- default ports: a row of the constant as one of the table
abbrev pub row_of : Row → List ℕ × ℕ
row_of row = (row.0.now, row.1)

-- default ports: the row is of this scheme, whatever its case
abbrev pub is_named : List ℕ → Row → Bool
is_named name row = str_eq_ignore_ascii_case row.0.now name

port-of-chosen-row-or-later : (t : Bool) (row : Row) (found : Option Row) (port : Option ℕ)
    → option_map (λ r. r.1) found ≡ port
    → option_map (λ r. r.1) (cond t (Some row) found) ≡ cond t (Some row.1) port
port-of-chosen-row-or-later true row found port e = refl
port-of-chosen-row-or-later false row found port e = e

-- default ports: taking a row if a test passes, and then its port, is taking the port if it passes
port-commutes-with-row-choice : (t : Bool) (row : List ℕ × ℕ) (found : Option (List ℕ × ℕ))
    → option_map (λ r. r.1) (cond t (Some row) found)
    ≡ cond t (Some row.1) (option_map (λ r. r.1) found)
port-commutes-with-row-choice true row found = refl
port-commutes-with-row-choice false row found = refl

port-of-found-row-is-port_ignoring_case : (name : List ℕ) (rows : List Row)
    → option_map (λ r. r.1) (find (is_named name) rows) ≡ port_ignoring_case name (map row_of rows)
unfolding port_ignoring_case
port-of-found-row-is-port_ignoring_case name [] = refl
port-of-found-row-is-port_ignoring_case name (row ∷ rows) =
    port-of-chosen-row-or-later (is_named name row) row (find (is_named name) rows)
    (port_ignoring_case name (map row_of rows)) (port-of-found-row-is-port_ignoring_case name rows)
    ∙ sym (port-commutes-with-row-choice (is_named name row) (row_of row)
    (find (λ r. str_eq_ignore_ascii_case r.0 name) (map row_of rows)))

port-of-row-behind-reference : (r : Option (Bor Row))
    → option_map (λ x. x.now.1) r ≡ option_map (λ (row : Row). row.1) (option_map (λ x. x.now) r)
port-of-row-behind-reference None = refl
port-of-row-behind-reference (Some row) = refl

pub found-row-gives-port-of-name : (name : List ℕ) (rows : List Row) (r : Option (Bor Row))
    → option_map (λ x. x.now) r ≡ find (is_named name) rows
    → option_map (λ x. x.now.1) r ≡ port_ignoring_case name (map (λ row. (row.0.now, row.1)) rows)
found-row-gives-port-of-name name rows r e =
    grind (arith, nat_tests, port-of-row-behind-reference, port-of-found-row-is-port_ignoring_case)

pub port_ignoring_case-is-default_port : (scheme : List ℕ)
    → port_ignoring_case scheme scheme_ports ≡ default_port (str_to_ascii_lowercase scheme)
unfolding port_ignoring_case default_port
port_ignoring_case-is-default_port scheme = refl
