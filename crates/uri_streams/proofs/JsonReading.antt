-- What a JSON text represents is read of it. So a text represents one value.
use Rattle.uri_streams.proofs.Common.{◌≡◌, ℕ, zero, suc, ◌+◌, ◌<◌, ◌≤◌, ◌==◌, List, [], ◌++◌, drop, append-nil, append_assoc, refl, sym, ap, ◌∙◌, subst, arith, if◌then◌else◌, chars, cond-true, cond-false, JsonValue, False, Null, True, Object, Array, Number, String, Elements, EndOfArray, Element, Members, EndOfObject, Member, ◌then◌, IsWhitespace, RepresentsValue, RepresentsElements, RepresentsMoreElements, RepresentsMembers, RepresentsMoreMembers, IsJsonTextOf}
use Rattle.uri_streams.proofs.JsonReader.{read, read_elements, read_more_elements, read_members, read_more_members, more_steps, steps_of_elements, steps_of_members, is_no_value, then_elements, represented-value-is-a-value, comma-begins-text, more-elements-end-number, more-members-end-number, three-parts-before-rest, four-parts-before-rest, member-is-read, elements-take-steps, members-take-steps}
use Rattle.uri_streams.proofs.JsonStrings.{characters-are-read, string-begins-text}
use Rattle.uri_streams.proofs.JsonTokens.{skip, whitespace-is-skipped, EndsNumber, whitespace-ends-number, BeginsStructural, structural-begins-text, after_number, number-is-read}

-- reading JSON: what a text represents is read of it; text: what is after elements or members
mutual
  value-is-read : (v : JsonValue) (x rest : List ℕ) (n : ℕ) → RepresentsValue v x
      → EndsNumber rest → more_steps v < n → read n (skip (x ++ rest)) ≡ (v, skip rest)
  value-is-read v x rest zero h e l = absurd (omega arith)
  value-is-read False x rest (suc n) h e l = ap (λ x. read (suc n) (skip (x ++ rest))) h
  value-is-read Null x rest (suc n) h e l = ap (λ x. read (suc n) (skip (x ++ rest))) h
  value-is-read True x rest (suc n) h e l = ap (λ x. read (suc n) (skip (x ++ rest))) h
  value-is-read (Number digits) x rest (suc n) (same, h) e l =
      let r = number-is-read x rest h e in
      ap (read (suc n)) r.visible ∙ cond-true _ _ _ r.begins
      ∙ ap (λ d. (Number d, skip (after_number (x ++ rest)))) r.number
      ∙ ap (λ t. (Number x, skip t)) r.after ∙ ap (λ d. (Number d, skip rest)) same
  value-is-read (String cs) x rest (suc n) h e l =
      let q = string-begins-text cs x rest h in
      rw (q.whole, characters-are-read cs q.inside rest n q.characters (omega arith)) refl
  value-is-read (Array elements) x rest (suc n) (a, y, f, begin, (b, c, g, inside, end)) e l =
      let close = structural-begins-text 93 c rest refl refl end in
      let bracket = structural-begins-text 91 a (b ++ (c ++ rest)) refl refl begin in
      rw (
        three-parts-before-rest a b c x y rest f g,
        bracket.first,
        bracket.same,
        elements-are-read elements b (c ++ rest) rest n inside close (omega arith),
      ) refl
  value-is-read (Object members) x rest (suc n) (a, y, f, begin, (b, c, g, inside, end)) e l =
      let close = structural-begins-text 125 c rest refl refl end in
      let brace = structural-begins-text 123 a (b ++ (c ++ rest)) refl refl begin in
      rw (
        three-parts-before-rest a b c x y rest f g,
        brace.first,
        brace.same,
        members-are-read members b (c ++ rest) rest n inside close (omega arith),
      ) refl

  elements-are-read : (elements : Elements) (x text rest : List ℕ) (n : ℕ)
      → RepresentsElements elements x → BeginsStructural 93 text rest
      → steps_of_elements elements ≤ n → read_elements n (skip (x ++ text)) ≡ (elements, skip rest)
  elements-are-read elements x text rest zero h m l = absurd (elements-take-steps elements l)
  elements-are-read EndOfArray x text rest (suc zero) h m l = rw (h, m.first, m.same) refl
  elements-are-read EndOfArray x text rest (suc (suc n)) h m l = rw (h, m.first, m.same) refl
  elements-are-read (Element v elements) x text rest (suc n) (a, b, e, h, k) m l =
      let first = value-is-read v a (b ++ text) n h
      (more-elements-end-number elements b text rest k m) (omega arith) in
      ap (λ t. read_elements (suc n) (skip t)) (ap (λ x. x ++ text) e ∙ append_assoc a b text) ∙ ap
      (λ p. if is_no_value p.0 then (EndOfArray, skip (drop 1 (skip (a ++ (b ++ text))))) else
      then_elements p (read_more_elements n)) first
      ∙ cond-false (is_no_value v) _ _ (represented-value-is-a-value v a h) ∙ ap
      (λ q. (Element v q.0, q.1)) (more-elements-are-read elements b text rest n k m (omega arith))

  more-elements-are-read : (elements : Elements) (x text rest : List ℕ) (n : ℕ)
      → RepresentsMoreElements elements x → BeginsStructural 93 text rest
      → steps_of_elements elements ≤ n
      → read_more_elements n (skip (x ++ text)) ≡ (elements, skip rest)
  more-elements-are-read elements x text rest zero h m l = absurd (elements-take-steps elements l)
  more-elements-are-read EndOfArray x text rest (suc n) h m l = rw (h, m.first, m.same) refl
  more-elements-are-read (Element v elements) x text rest (suc n)
      (a, y, e, comma, (b, c, f, h, k)) m l =
      let mark = comma-begins-text a (b ++ (c ++ text)) comma in
      rw (
        three-parts-before-rest a b c x y text e f,
        mark.first,
        mark.same,
        value-is-read v b (c ++ text) n h
            (more-elements-end-number elements c text rest k m) (omega arith),
        more-elements-are-read elements c text rest n k m (omega arith),
      ) refl

  members-are-read : (members : Members) (x text rest : List ℕ) (n : ℕ)
      → RepresentsMembers members x → BeginsStructural 125 text rest → steps_of_members members ≤ n
      → read_members n (skip (x ++ text)) ≡ (members, skip rest)
  members-are-read members x text rest zero h m l = absurd (members-take-steps members l)
  members-are-read EndOfObject x text rest (suc n) h m l = rw (h, m.first, m.same) refl
  members-are-read (Member name v members) x text rest (suc n)
      (a, y, e, string, (b, z, f, colon, (c, d, g, h, k))) m l =
      let r = member-is-read name v members a b c (d ++ text) (skip rest) n string colon
      (omega arith) (value-is-read v c (d ++ text) n h
      (more-members-end-number members d text rest k m) (omega arith))
      (more-members-are-read members d text rest n k m (omega arith)) in
      ap (λ t. read_members (suc n) (skip t)) (four-parts-before-rest a b c d x y z text e f g)
      ∙ cond-true _ _ _ (ap (λ c. c == 34) r.quote) ∙ r.member

  more-members-are-read : (members : Members) (x text rest : List ℕ) (n : ℕ)
      → RepresentsMoreMembers members x → BeginsStructural 125 text rest
      → steps_of_members members ≤ n → read_more_members n (skip (x ++ text)) ≡ (members, skip rest)
  more-members-are-read members x text rest zero h m l = absurd (members-take-steps members l)
  more-members-are-read EndOfObject x text rest (suc n) h m l = rw (h, m.first, m.same) refl
  more-members-are-read (Member name v members) x text rest (suc n)
      (o, w, q, comma, (a, y, e, string, (b, z, f, colon, (c, d, g, h, k)))) m l =
      let mark = comma-begins-text o (a ++ (b ++ (c ++ (d ++ text)))) comma in
      let r = member-is-read name v members a b c (d ++ text) (skip rest) n string colon
      (omega arith) (value-is-read v c (d ++ text) n h
      (more-members-end-number members d text rest k m) (omega arith))
      (more-members-are-read members d text rest n k m (omega arith)) in
      rw (
        q,
        append_assoc o w text,
        four-parts-before-rest a b c d w y z text e f g,
        mark.first,
        mark.same,
      ) r.member

json-text-is-read : (v : JsonValue) (text : List ℕ) (n : ℕ)
    → (IsWhitespace then RepresentsValue v then IsWhitespace) text → more_steps v < n
    → read n (skip text) ≡ (v, [])
json-text-is-read v text n (a, y, e, before, (x, b, f, h, behind)) l =
    let end : b ++ [] ≡ b = append-nil b in
    ap (λ t. read n (skip t)) (e ∙ ap (λ y. a ++ y) f)
    ∙ ap (read n) (whitespace-is-skipped a (x ++ b) before)
    ∙ value-is-read v x b n h (subst EndsNumber end (whitespace-ends-number b [] behind refl)) l
    ∙ ap (λ t. (v, skip t)) (sym end) ∙ ap (λ t. (v, t)) (whitespace-is-skipped b [] behind)

pub json-text-represents-one-value : (text : List ℕ) (v w : JsonValue) → IsJsonTextOf v text
    → IsJsonTextOf w text → v ≡ w
json-text-represents-one-value text v w h k =
    let n = more_steps v + more_steps w + 1 in
    ap (λ p. p.0) (sym (json-text-is-read v (chars text) n h.1 (omega arith))
    ∙ json-text-is-read w (chars text) n k.1 (omega arith))
