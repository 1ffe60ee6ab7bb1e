-- JSON texts, and the values that they represent: RFC 8259. A rule of its grammar is a property of
-- texts, which are lists of characters, by their codes.
use Rattle.std.specs.Prelude.{◌≡◌, ℕ, ◌+◌, ◌*◌, ◌⊎◌, Bool, true, false, ◌||◌, ◌==◌, List, [], ◌∷◌, ◌++◌, codes, Option, Some, None, if◌then◌else◌}
use Rattle.std.specs.Char.{digit_value, is_ascii_digit, is_ascii_hexdigit}
use Rattle.std.specs.Char.Utf16.{is_high_surrogate, is_low_surrogate, surrogate_pair_char}
use Rattle.std.specs.Int.{is_in_range}
use Rattle.std.specs.List.{list_all}
use Rattle.std.specs.Str.{IsUtf8, chars}
use Rattle.fluent_uri.specs.Prelude.{is_one_of}

-- a JSON value (RFC 8259, section 3). A number is given by its text, a string by its characters; an
-- array and an object have their elements and members in order.
mutual
  pub data JsonValue : Type 0 where
    False : JsonValue
    Null : JsonValue
    True : JsonValue
    Object : Members → JsonValue
    Array : Elements → JsonValue
    Number : List ℕ → JsonValue
    String : List ℕ → JsonValue

  -- the values in an array (RFC 8259, section 5)
  pub data Elements : Type 0 where
    EndOfArray : Elements
    Element : JsonValue → Elements → Elements

  -- the members of an object, each a name and a value (RFC 8259, section 4)
  pub data Members : Type 0 where
    EndOfObject : Members
    Member : List ℕ → JsonValue → Members → Members

-- a rule of the grammar
abbrev pub Rule : Type 1
Rule = List ℕ → Type 0

infixr 30 ◌then◌
-- a text of the first rule, and then one of the second
abbrev pub ◌then◌ : Rule → Rule → Rule
◌then◌ P Q text = (first rest : List ℕ) × (text ≡ first ++ rest) × P first × Q rest

-- this text
abbrev pub Is : List ℕ → Rule
Is word text = text ≡ word

-- one of these characters
abbrev pub IsOneOf : List ℕ → Rule
IsOneOf marks text = (c : ℕ) × (text ≡ c ∷ []) × (is_one_of marks c ≡ true)

-- nothing, or a text of the rule
abbrev pub IsOptional : Rule → Rule
IsOptional P text = (text ≡ []) ⊎ P text

-- the character is whitespace: a space, a tab, a line feed or a carriage return (RFC 8259,
-- section 2)
abbrev pub is_whitespace : ℕ → Bool
is_whitespace c = is_one_of (codes " \t\n\r") c

-- `ws`: whitespace, or nothing (RFC 8259, section 2)
abbrev pub IsWhitespace : Rule
IsWhitespace text = list_all is_whitespace text ≡ true

-- a structural character, with whitespace before and after it (RFC 8259, section 2)
abbrev pub IsStructural : List ℕ → Rule
IsStructural mark = IsWhitespace then Is mark then IsWhitespace

-- `*DIGIT`: digits, or nothing (RFC 8259, section 6)
abbrev pub AreDigits : Rule
AreDigits text = list_all is_ascii_digit text ≡ true

-- `1*DIGIT`: one or more digits (RFC 8259, section 6)
abbrev pub AreSomeDigits : Rule
AreSomeDigits = IsOneOf (codes "0123456789") then AreDigits

-- `int`: a zero, or digits that do not begin with one (RFC 8259, section 6)
abbrev pub IsInteger : Rule
IsInteger text = Is (codes "0") text ⊎ (IsOneOf (codes "123456789") then AreDigits) text

-- `frac` (RFC 8259, section 6)
abbrev pub IsFraction : Rule
IsFraction = Is (codes ".") then AreSomeDigits

-- `exp` (RFC 8259, section 6)
abbrev pub IsExponent : Rule
IsExponent = IsOneOf (codes "eE") then IsOptional (IsOneOf (codes "-+")) then AreSomeDigits

-- `number` (RFC 8259, section 6)
abbrev pub IsNumber : Rule
IsNumber =
    IsOptional (Is (codes "-")) then IsInteger then IsOptional IsFraction then IsOptional IsExponent

-- `unescaped`: the character may be in a string as it is (RFC 8259, section 7)
abbrev pub is_unescaped : ℕ → Bool
is_unescaped c = is_in_range 0x20 0x21 c || is_in_range 0x23 0x5B c || is_in_range 0x5D 0x10FFFF c

-- the character that is escaped by `\` and the character mark, or none if that is no escape
-- (RFC 8259, section 7)
abbrev pub escaped_by : ℕ → Option ℕ
escaped_by mark =
    if mark == 0x22 then Some 0x22
    else (if mark == 0x5C then Some 0x5C
    else (if mark == 0x2F then Some 0x2F
    else (if mark == 0x62 then Some 0x08
    else (if mark == 0x66 then Some 0x0C
    else (if mark == 0x6E then Some 0x0A
    else (if mark == 0x72 then Some 0x0D
    else (if mark == 0x74 then Some 0x09
    else None)))))))

-- the number that four hexadecimal digits, in either case, are (RFC 8259, section 7)
unfoldable pub hex_number : ℕ → ℕ → ℕ → ℕ → ℕ
hex_number a b c d =
    digit_value a * 4096 + digit_value b * 256 + digit_value c * 16 + digit_value d

-- the text is `\u` and the four hexadecimal digits of the number (RFC 8259, section 7)
pub record IsUnicodeEscape (number : ℕ) (text : List ℕ) : Type 0 where
  pub a : ℕ
  pub b : ℕ
  pub c : ℕ
  pub d : ℕ
  pub whole : text ≡ codes "\\u" ++ (a ∷ b ∷ c ∷ d ∷ [])
  pub digits : list_all is_ascii_hexdigit (a ∷ b ∷ c ∷ d ∷ []) ≡ true
  pub value : number ≡ hex_number a b c d

-- `char`: the text represents the character c of a string (RFC 8259, section 7). It is c itself, an
-- escape of two characters, that of the number of c, or those of its two surrogates, if c is past
-- the Basic Multilingual Plane. A surrogate alone represents no character (section 8.2).
abbrev pub RepresentsCharacter : ℕ → Rule
RepresentsCharacter c text =
    ((is_unescaped c ≡ true) × (text ≡ c ∷ []))
    ⊎ ((mark : ℕ) × (text ≡ 0x5C ∷ mark ∷ []) × (escaped_by mark ≡ Some c))
    ⊎ ((is_in_range 0xD800 0xDFFF c ≡ false) × IsUnicodeEscape c text)
    ⊎ ((high low : ℕ) × (IsUnicodeEscape high then IsUnicodeEscape low) text
    × (is_high_surrogate high ≡ true) × (is_low_surrogate low ≡ true)
    × (c ≡ surrogate_pair_char high low))

-- `*char`: the text represents these characters of a string (RFC 8259, section 7)
abbrev pub RepresentsCharacters : List ℕ → Rule
RepresentsCharacters [] = Is []
RepresentsCharacters (c ∷ cs) = RepresentsCharacter c then RepresentsCharacters cs

-- `string`: the text represents the string of these characters (RFC 8259, section 7)
abbrev pub RepresentsString : List ℕ → Rule
RepresentsString cs = Is (codes "\"") then RepresentsCharacters cs then Is (codes "\"")

abbrev mutual
  -- `value`: the text represents the value (RFC 8259, sections 3 to 7)
  pub RepresentsValue : JsonValue → Rule
  RepresentsValue False = Is (codes "false")
  RepresentsValue Null = Is (codes "null")
  RepresentsValue True = Is (codes "true")
  RepresentsValue (Object members) =
      IsStructural (codes "{") then RepresentsMembers members then IsStructural (codes "}")
  RepresentsValue (Array values) =
      IsStructural (codes "[") then RepresentsElements values then IsStructural (codes "]")
  RepresentsValue (Number digits) = λ text. Is digits text × IsNumber text
  RepresentsValue (String cs) = RepresentsString cs

  -- `[ value *( value-separator value ) ]`: the text represents these elements of an array
  -- (RFC 8259, section 5)
  pub RepresentsElements : Elements → Rule
  RepresentsElements EndOfArray = Is []
  RepresentsElements (Element v values) = RepresentsValue v then RepresentsMoreElements values

  -- `*( value-separator value )`: the text represents these elements after another one
  -- (RFC 8259, section 5)
  pub RepresentsMoreElements : Elements → Rule
  RepresentsMoreElements EndOfArray = Is []
  RepresentsMoreElements (Element v values) =
      IsStructural (codes ",") then RepresentsValue v then RepresentsMoreElements values

  -- `[ member *( value-separator member ) ]`: the text represents these members of an object
  -- (RFC 8259, section 4)
  pub RepresentsMembers : Members → Rule
  RepresentsMembers EndOfObject = Is []
  RepresentsMembers (Member name v members) =
      RepresentsString name then IsStructural (codes ":") then RepresentsValue v then
      RepresentsMoreMembers members

  -- `*( value-separator member )`: the text represents these members after another one
  -- (RFC 8259, section 4)
  pub RepresentsMoreMembers : Members → Rule
  RepresentsMoreMembers EndOfObject = Is []
  RepresentsMoreMembers (Member name v members) =
      IsStructural (codes ",") then RepresentsString name then IsStructural (codes ":") then
      RepresentsValue v then RepresentsMoreMembers members

-- `JSON-text`: the bytes are a JSON text in UTF-8 that represents the value (RFC 8259, sections 2
-- and 8.1)
abbrev pub IsJsonTextOf : JsonValue → List ℕ → Type 0
IsJsonTextOf v bytes =
    IsUtf8 bytes × (IsWhitespace then RepresentsValue v then IsWhitespace) (chars bytes)
