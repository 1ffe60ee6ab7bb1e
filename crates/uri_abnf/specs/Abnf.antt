-- Grammars in ABNF, and the texts of their languages: RFC 5234, sections 2 and 3.
use Rattle.std.specs.Prelude.{◌≡◌, ℕ, zero, suc, ◌≤◌, ◌⊎◌, List, [], ◌∷◌, ◌++◌, codes, map, Option, Some, None, IfSome}
use Rattle.std.specs.Char.{to_ascii_lowercase}
use Rattle.std.specs.Str.{IsUtf8, chars}
use Prim.Native.String.{String}

-- an expression of ABNF
pub data Abnf : Type 0 where
  -- a rule, which is an expression with a name: `name = a` (section 2.2)
  Rule : String → Abnf → Abnf
  -- a literal text in ASCII letters of either case: `"text"` (section 2.3)
  Literal : List ℕ → Abnf
  -- one character of a range of codes: `%x30-39` (section 3.4)
  Range : ℕ → ℕ → Abnf
  -- one expression after another: `a b` (section 3.1)
  Sequence : Abnf → Abnf → Abnf
  -- one expression or the other: `a / b` (section 3.2)
  Either : Abnf → Abnf → Abnf
  -- at least so many of an expression, and at most so many if there is such a bound: `2*3a`
  -- (section 3.6)
  Repeat : ℕ → Option ℕ → Abnf → Abnf
  -- an expression or nothing: `[ a ]` (section 3.8)
  Optional : Abnf → Abnf

infix 40 ◌≔◌
infixr 60 ◌⋅◌
infixl 50 ◌∣◌
infix 70 ◌⋯◌
-- `name = a`
abbrev pub ◌≔◌ : String → Abnf → Abnf
name ≔ a = Rule name a

-- `"text"`
abbrev pub lit : String → Abnf
lit text = Literal (codes text)

-- `%xA0-D7FF`
abbrev pub ◌⋯◌ : ℕ → ℕ → Abnf
◌⋯◌ first last = Range first last

-- `a b`
abbrev pub ◌⋅◌ : Abnf → Abnf → Abnf
◌⋅◌ a b = Sequence a b

-- `a / b`
abbrev pub ◌∣◌ : Abnf → Abnf → Abnf
◌∣◌ a b = Either a b

-- `*a`
abbrev pub any : Abnf → Abnf
any a = Repeat 0 None a

-- `1*a`
abbrev pub some : Abnf → Abnf
some a = Repeat 1 None a

-- `3a`
abbrev pub times : ℕ → Abnf → Abnf
times n a = Repeat n (Some n) a

-- `*3a`
abbrev pub upto : ℕ → Abnf → Abnf
upto n a = Repeat 0 (Some n) a

-- `1*4a`
abbrev pub from_to : ℕ → ℕ → Abnf → Abnf
from_to least most a = Repeat least (Some most) a

-- `[ a ]`
abbrev pub opt : Abnf → Abnf
opt a = Optional a

-- the text is so many texts of a language, one after another
abbrev pub IsPower : (List ℕ → Type 0) → ℕ → List ℕ → Type 0
IsPower Has zero text = text ≡ []
IsPower Has (suc n) text =
    (first rest : List ℕ) × (text ≡ first ++ rest) × Has first × IsPower Has n rest

-- the text, a list of characters, is of the language of the expression
abbrev pub Has : Abnf → List ℕ → Type 0
Has (Rule name a) t = Has a t
Has (Literal text) t = map to_ascii_lowercase t ≡ map to_ascii_lowercase text
Has (Range first last) t = (c : ℕ) × (t ≡ c ∷ []) × (first ≤ c) × (c ≤ last)
Has (Sequence a b) t = (x y : List ℕ) × (t ≡ x ++ y) × Has a x × Has b y
Has (Either a b) t = Has a t ⊎ Has b t
Has (Repeat least most a) t =
    (n : ℕ) × (least ≤ n) × IfSome most (λ m. n ≤ m) × IsPower (Has a) n t
Has (Optional a) t = (t ≡ []) ⊎ Has a t

-- the text, a list of bytes, is of the rule: it is UTF-8, and the rule has its characters
pub record IsOf (rule : Abnf) (text : List ℕ) : Type 0 where
  pub utf8 : IsUtf8 text
  pub has : Has rule (chars text)
