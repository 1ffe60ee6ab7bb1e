-- The text of rules, as RFC 5234 writes them: a line for each rule, with single spaces and no
-- comments.
use Rattle.std.specs.Prelude.{◌==◌, ℕ, zero, suc, Bool, List, [], ◌∷◌, ◌++◌, codes, ◌+◌, ◌/◌, ◌%◌, nat_lt, Option, Some, None, if◌then◌else◌}
use Rattle.uri_abnf.specs.Abnf.{Abnf, Rule, Literal, Range, Sequence, Either, Repeat, Optional}

-- the digit of a value below 16
abbrev digit : ℕ → ℕ
digit value = if nat_lt value 10 then 48 + value else 55 + value

-- the last digits of a number in a radix of at most 16, at most so many, without leading zeros
abbrev digits : ℕ → ℕ → ℕ → List ℕ
digits zero radix n = []
digits (suc most) radix n =
    if nat_lt n radix then digit n ∷ []
    else digits most radix (n / radix) ++ digit (n % radix) ∷ []

-- the number of repetitions, which has one digit
abbrev decimal : ℕ → List ℕ
decimal n = digits 1 10 n

-- the text in parentheses, if it is needed there as one element (section 3.5)
abbrev grouped : Bool → List ℕ → List ℕ
grouped needed text = if needed then codes "( " ++ text ++ codes " )" else text

-- `2`, `*3`, `1*` or `1*4`, before what is repeated (sections 3.6 and 3.7); a least number of 0 is
-- left out
abbrev count : ℕ → Option ℕ → List ℕ
count least None = (if least == 0 then [] else decimal least) ++ codes "*"
count least (Some most) =
    if least == most then decimal least
    else (if least == 0 then [] else decimal least) ++ codes "*" ++ decimal most

-- the text of an expression, which may have alternatives where the level is 0, and a sequence where
-- it is 0 or 1; a rule is its name
abbrev pub expression : ℕ → Abnf → List ℕ
expression level (Rule name a) = codes name
expression level (Literal text) = codes "\"" ++ text ++ codes "\""
expression level (Range first last) =
    codes "%x" ++ digits 6 16 first ++ codes "-" ++ digits 6 16 last
expression level (Sequence a b) =
    grouped (nat_lt 1 level) (expression 1 a ++ codes " " ++ expression 1 b)
expression level (Either a b) =
    grouped (nat_lt 0 level) (expression 0 a ++ codes " / " ++ expression 0 b)
expression level (Repeat zero (Some zero) a) = codes "0<" ++ expression 0 a ++ codes ">"
expression level (Repeat least most a) = count least most ++ expression 2 a
expression level (Optional a) = codes "[ " ++ expression 0 a ++ codes " ]"

-- the line of a rule: `name = ..` (section 2.2)
abbrev pub line : Abnf → List ℕ
line (Rule name a) = codes name ++ codes " = " ++ expression 0 a
line other = []
