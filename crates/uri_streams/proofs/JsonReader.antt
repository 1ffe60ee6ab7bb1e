-- A reader of JSON's values, for the proof that a JSON text represents one value.
use Rattle.uri_streams.proofs.Common.{◌≡◌, ℕ, zero, suc, ◌+◌, ◌<◌, ◌≤◌, ◌==◌, Bool, true, false, List, [], ◌++◌, length, get_or, drop, append_assoc, refl, ap, ◌∙◌, arith, codes, if◌then◌else◌, JsonValue, False, Null, True, Object, Array, Number, String, Elements, EndOfArray, Element, Members, EndOfObject, Member, ◌then◌, IsStructural, RepresentsString, RepresentsValue, RepresentsMoreElements, RepresentsMoreMembers}
use Rattle.uri_streams.proofs.JsonStrings.{read_characters, characters-are-read, string-begins-text}
use Rattle.uri_streams.proofs.JsonTokens.{skip, is_number_character, EndsNumber, BeginsStructural, structural-begins-text, read_number, after_number, number-is-not-empty}

-- reading JSON: a value by its first character, and the text after it and whitespace. The functions
-- read elements and members; the number bounds the characters of a string. What begins no value is
-- read as a number without characters.
abbrev pub read_by_first : (List ℕ → Elements × List ℕ) → (List ℕ → Members × List ℕ) → ℕ → List ℕ
    → JsonValue × List ℕ
read_by_first elements members n text =
    let c = get_or text 0 0 in
    if is_number_character c then (Number (read_number text), skip (after_number text)) else (if c
    == 34 then (let p = read_characters n (drop 1 text) in (String p.0, skip p.1)) else (if c == 91
    then (let p = elements (skip (drop 1 text)) in (Array p.0, p.1)) else (if c == 123 then
    (let p = members (skip (drop 1 text)) in (Object p.0, p.1)) else (if c == 102 then
    (False, skip (drop 5 text)) else (if c == 110 then (Null, skip (drop 4 text)) else
    (if c == 116 then (True, skip (drop 4 text)) else (Number [], text)))))))

-- reading JSON: what was read is no value
abbrev pub is_no_value : JsonValue → Bool
is_no_value (Number []) = true
is_no_value v = false

-- reading JSON: a value with its text after it, and then the elements that the function reads
abbrev pub then_elements : JsonValue × List ℕ → (List ℕ → Elements × List ℕ) → Elements × List ℕ
then_elements p more = let q = more p.1 in (Element p.0 q.0, q.1)

-- reading JSON: a name and a value with the text after it, and then the members that the function
-- reads
abbrev pub then_members : List ℕ → JsonValue × List ℕ → (List ℕ → Members × List ℕ)
    → Members × List ℕ
then_members name p more = let q = more p.1 in (Member name p.0 q.0, q.1)

-- reading JSON: a member whose name was read, with the text after that, and then more members
abbrev pub read_named : (List ℕ → JsonValue × List ℕ) → (List ℕ → Members × List ℕ)
    → List ℕ × List ℕ → Members × List ℕ
read_named value more p = then_members p.0 (value (skip (drop 1 (skip p.1)))) more

-- reading JSON: of a text that begins with no whitespace, a value, elements or members, and the
-- text after them and whitespace. The number bounds the steps.
abbrev mutual
  pub read : ℕ → List ℕ → JsonValue × List ℕ
  read zero text = (Number [], text)
  read (suc n) text = read_by_first (read_elements n) (read_members n) n text

  pub read_elements : ℕ → List ℕ → Elements × List ℕ
  read_elements zero text = (EndOfArray, [])
  read_elements (suc n) text =
      if is_no_value (read n text).0 then (EndOfArray, skip (drop 1 text))
      else then_elements (read n text) (read_more_elements n)

  pub read_more_elements : ℕ → List ℕ → Elements × List ℕ
  read_more_elements zero text = (EndOfArray, [])
  read_more_elements (suc n) text =
      if get_or text 0 0 == 44
      then then_elements (read n (skip (drop 1 text))) (read_more_elements n)
      else (EndOfArray, skip (drop 1 text))

  pub read_members : ℕ → List ℕ → Members × List ℕ
  read_members zero text = (EndOfObject, [])
  read_members (suc n) text =
      if get_or text 0 0 == 34
      then read_named (read n) (read_more_members n) (read_characters n (drop 1 text))
      else (EndOfObject, skip (drop 1 text))

  pub read_more_members : ℕ → List ℕ → Members × List ℕ
  read_more_members zero text = (EndOfObject, [])
  read_more_members (suc n) text =
      if get_or text 0 0 == 44
      then read_named (read n) (read_more_members n)
      (read_characters n (drop 1 (skip (drop 1 text))))
      else (EndOfObject, skip (drop 1 text))

-- reading JSON: so many steps are enough, after the first one of a value
abbrev mutual
  pub more_steps : JsonValue → ℕ
  more_steps (Object members) = steps_of_members members
  more_steps (Array elements) = steps_of_elements elements
  more_steps (String cs) = length cs + 1
  more_steps v = 0

  pub steps_of_elements : Elements → ℕ
  steps_of_elements EndOfArray = 1
  steps_of_elements (Element v elements) = suc (more_steps v + steps_of_elements elements + 1)

  pub steps_of_members : Members → ℕ
  steps_of_members EndOfObject = 1
  steps_of_members (Member name v members) =
      suc (length name + more_steps v + steps_of_members members + 2)

pub elements-take-steps : (elements : Elements) → steps_of_elements elements ≤ 0 → ⊥
elements-take-steps elements l = grind arith

pub members-take-steps : (members : Members) → steps_of_members members ≤ 0 → ⊥
members-take-steps members l = grind arith

-- reading JSON: the value of a text is read as one
pub represented-value-is-a-value : (v : JsonValue) (x : List ℕ) → RepresentsValue v x
    → is_no_value v ≡ false
represented-value-is-a-value v x h = grind (arith, number-is-not-empty)

pub comma-begins-text : (x rest : List ℕ) → IsStructural (codes ",") x
    → BeginsStructural 44 (x ++ rest) rest
comma-begins-text x rest h = structural-begins-text 44 x rest refl refl h

-- reading JSON: what follows an element ends a number; text: what is after the elements
pub more-elements-end-number : (elements : Elements) (x text rest : List ℕ)
    → RepresentsMoreElements elements x → BeginsStructural 93 text rest → EndsNumber (x ++ text)
more-elements-end-number EndOfArray x text rest h m =
    ap (λ x. is_number_character (get_or (x ++ text) 0 0)) h ∙ m.ends
more-elements-end-number (Element v elements) x text rest (a, b, e, h, k) m =
    ap (λ t. is_number_character (get_or t 0 0)) (ap (λ x. x ++ text) e ∙ append_assoc a b text)
    ∙ (comma-begins-text a (b ++ text) h).ends

-- reading JSON: what follows a member ends a number; text: what is after the members
pub more-members-end-number : (members : Members) (x text rest : List ℕ)
    → RepresentsMoreMembers members x → BeginsStructural 125 text rest → EndsNumber (x ++ text)
more-members-end-number EndOfObject x text rest h m =
    ap (λ x. is_number_character (get_or (x ++ text) 0 0)) h ∙ m.ends
more-members-end-number (Member name v members) x text rest (a, b, e, h, k) m =
    ap (λ t. is_number_character (get_or t 0 0)) (ap (λ x. x ++ text) e ∙ append_assoc a b text)
    ∙ (comma-begins-text a (b ++ text) h).ends

-- general fact on lists, for three parts of a text before the rest
pub three-parts-before-rest : (a b c x y rest : List ℕ) → x ≡ a ++ y → y ≡ b ++ c
    → x ++ rest ≡ a ++ (b ++ (c ++ rest))
three-parts-before-rest a b c x y rest e f = ap (λ x. x ++ rest) (e ∙ ap (λ y. a ++ y) f)
    ∙ append_assoc a (b ++ c) rest ∙ ap (λ t. a ++ t) (append_assoc b c rest)

-- general fact on lists, for four parts of a text before the rest
pub four-parts-before-rest : (a b c d x y z rest : List ℕ) → x ≡ a ++ y → y ≡ b ++ z → z ≡ c ++ d
    → x ++ rest ≡ a ++ (b ++ (c ++ (d ++ rest)))
four-parts-before-rest a b c d x y z rest e f g = ap (λ x. x ++ rest) e ∙ append_assoc a y rest
    ∙ ap (λ t. a ++ t) (three-parts-before-rest b c d y z rest f g)

-- reading JSON: what is read of a text that begins with a member
pub record ReadsMember (n : ℕ) (text : List ℕ) (members : Members) (rest : List ℕ) : Type 0 where
  pub quote : get_or (skip text) 0 0 ≡ 34
  pub member : read_named (read n) (read_more_members n) (read_characters n (drop 1 (skip text)))
      ≡ (members, rest)

pub member-is-read : (name : List ℕ) (v : JsonValue) (members : Members) (x c y tail rest : List ℕ)
    (n : ℕ) → RepresentsString name x → IsStructural (codes ":") c → length name < n
    → read n (skip (y ++ tail)) ≡ (v, skip tail) → read_more_members n (skip tail) ≡ (members, rest)
    → ReadsMember n (x ++ (c ++ (y ++ tail))) (Member name v members) rest
member-is-read name v members x c y tail rest n string colon l value more =
    let after : List ℕ = c ++ (y ++ tail) in
    let q = string-begins-text name x after string in
    let m = structural-begins-text 58 c (y ++ tail) refl refl colon in
    record {
      quote = ap (λ t. get_or (skip t) 0 0) q.whole;
      member = ap
          (λ t. read_named (read n) (read_more_members n) (read_characters n (drop 1 (skip t))))
          q.whole ∙ ap (read_named (read n) (read_more_members n))
          (characters-are-read name q.inside after n q.characters l)
          ∙ ap (λ t. then_members name (read n (skip (drop 1 t))) (read_more_members n)) m.first
          ∙ ap (λ t. then_members name (read n t) (read_more_members n)) m.same
          ∙ ap (λ p. then_members name p (read_more_members n)) value
          ∙ ap (λ q. (Member name v q.0, q.1)) more;
    }
