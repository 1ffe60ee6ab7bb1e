-- Which command the words make.
use Rattle.uri_commands.proofs.Common.{◌≡◌, ◌≤◌, ◌<◌, ◌-◌, take, ℕ, eqb, List, [], ◌∷◌, drop, length, get_or, String, string_bytes, refl, sym, ap, ◌∙◌, arith, inl, inr, length-drop, take_all, if◌then◌else◌, Option, Some, None, MatchOption, codes, KindName, Command, Parse, Normalize, Mend, Resolve, Links, output_of, texts, words_of, AreWordsOfLinks, AreWordsOfResolve, AreWordsOfTextCommand, AreWordsOfRuledLinks, AreWordsOfRuledNormalize, IsCommand}
use Rattle.fluent_uri.specs.declared.normalize.RuleSet.TheVariants as Set
use Rattle.uri_commands.specs.declared.command.BaseName.{BaseName}
use Rattle.uri_commands.specs.declared.command.BaseName.TheVariants as bases
use Rattle.uri_commands.specs.declared.kinds.KindName.TheVariants.{Uri, UriRef, Iri, IriRef}

-- commands: the first three words are those that were taken, and the rest follows
bytes-of-three-and-rest : {Z : Type 0} (words : List (String Z)) (a b c : String Z)
    → 3 ≤ length words → a ≡ get_or words 0 a → b ≡ get_or words 1 b → c ≡ get_or words 2 c
    → texts words ≡ string_bytes a ∷ string_bytes b ∷ string_bytes c ∷ texts (drop 3 words)
bytes-of-three-and-rest [] a b c least x y z = absurd (omega arith)
bytes-of-three-and-rest (u ∷ []) a b c least x y z = absurd (omega arith)
bytes-of-three-and-rest (u ∷ v ∷ []) a b c least x y z = absurd (omega arith)
bytes-of-three-and-rest (u ∷ v ∷ w ∷ rest) a b c least x y z = cc

-- commands: the bytes of three words of a command line and of those after them
pub bytes-of-three-and-others : {Z : Type 0} (words : List (String Z)) (a b c : String Z)
    → 3 ≤ length words → a ≡ get_or words 0 a → b ≡ get_or words 1 b → c ≡ get_or words 2 c
    → texts words ≡ string_bytes a ∷ string_bytes b ∷ string_bytes c
    ∷ texts (take (length words - 3) (drop 3 words))
bytes-of-three-and-others words a b c least x y z =
    let rest : take (length words - 3) (drop 3 words) ≡ drop 3 words =
    take_all (length words - 3) (drop 3 words) (omega (arith, length-drop 3 words)) in
    bytes-of-three-and-rest words a b c least x y z
    ∙ ap (λ l. string_bytes a ∷ string_bytes b ∷ string_bytes c ∷ texts l) (sym rest)

-- commands: the bytes of four words of a command line and of those after them
pub bytes-of-four-and-others : {Z : Type 0} (words : List (String Z)) (a b c d : String Z)
    → 4 ≤ length words → a ≡ get_or words 0 a → b ≡ get_or words 1 b → c ≡ get_or words 2 c
    → d ≡ get_or words 3 d → texts words ≡ string_bytes a ∷ string_bytes b ∷ string_bytes c
    ∷ string_bytes d ∷ texts (take (length words - 4) (drop 4 words))
bytes-of-four-and-others words a b c d least x y z w =
    let rest : take (length words - 4) (drop 4 words) ≡ drop 4 words =
    take_all (length words - 4) (drop 4 words) (omega (arith, length-drop 4 words)) in
    bytes-of-four-and-rest words a b c d least x y z w
    ∙ ap (λ l. string_bytes a ∷ string_bytes b ∷ string_bytes c ∷ string_bytes d ∷ texts l)
    (sym rest)
  where
    bytes-of-four-and-rest : {Z : Type 0} (words : List (String Z)) (a b c d : String Z)
        → 4 ≤ length words
        → a ≡ get_or words 0 a → b ≡ get_or words 1 b → c ≡ get_or words 2 c → d ≡ get_or words 3 d
        → texts words ≡ string_bytes a ∷ string_bytes b ∷ string_bytes c ∷ string_bytes d
        ∷ texts (drop 4 words)
    bytes-of-four-and-rest [] a b c d least x y z w = absurd (omega arith)
    bytes-of-four-and-rest (u ∷ []) a b c d least x y z w = absurd (omega arith)
    bytes-of-four-and-rest (u ∷ v ∷ []) a b c d least x y z w = absurd (omega arith)
    bytes-of-four-and-rest (u ∷ v ∷ s ∷ []) a b c d least x y z w = absurd (omega arith)
    bytes-of-four-and-rest (u ∷ v ∷ s ∷ t ∷ rest) a b c d least x y z w = cc

pub bytes-of-four-words : {Z : Type 0} (words : List (String Z)) (a b c d : String Z)
    → 4 ≤ length words → length words < 5 → a ≡ get_or words 0 a → b ≡ get_or words 1 b
    → c ≡ get_or words 2 c → d ≡ get_or words 3 d
    → texts words ≡ string_bytes a ∷ string_bytes b ∷ string_bytes c ∷ string_bytes d ∷ []
bytes-of-four-words [] a b c d least below x y z w = absurd (omega arith)
bytes-of-four-words (u ∷ []) a b c d least below x y z w = absurd (omega arith)
bytes-of-four-words (u ∷ v ∷ []) a b c d least below x y z w = absurd (omega arith)
bytes-of-four-words (u ∷ v ∷ s ∷ []) a b c d least below x y z w = absurd (omega arith)
bytes-of-four-words (u ∷ v ∷ s ∷ t ∷ []) a b c d least below x y z w = cc
bytes-of-four-words (u ∷ v ∷ s ∷ t ∷ p ∷ rest) a b c d least below x y z w = absurd (omega arith)

kind_named : List ℕ → KindName
kind_named word =
    let short = eqb (length word) 3 in
    if eqb (get_or word 0 0) 117 then (if short then Uri else UriRef) else if short then Iri
    else IriRef

base_named : List ℕ → BaseName
base_named word = if eqb (get_or word 0 0) 117 then bases.Uri else bases.Iri

-- commands: the command that words make
command_named : List (List ℕ) → Command
command_named words =
    let first = get_or (get_or words 0 []) 0 0 in
    let word = get_or words 1 [] in
    let text = get_or words 2 [] in
    if eqb first 112 then Parse (kind_named word) text else if eqb first 110 then Normalize
    Set.DefaultPorts (kind_named word) text else if eqb first 109 then Mend (kind_named word) text
    else if eqb first 114 then Resolve (base_named word) text (get_or words 3 []) else if eqb first
    108 then Links Set.DefaultPorts word text (drop 3 words) else if eqb (get_or word 0 0) 110 then
    Normalize Set.StandardRules (kind_named text) (get_or words 3 []) else Links Set.StandardRules
    text (get_or words 3 []) (drop 4 words)

command_named-words_of : (a : Command) → command_named (words_of a) ≡ a
unfolding command_named kind_named base_named
command_named-words_of (Parse Uri s) = refl
command_named-words_of (Parse UriRef s) = refl
command_named-words_of (Parse Iri s) = refl
command_named-words_of (Parse IriRef s) = refl
command_named-words_of (Normalize Set.DefaultPorts Uri s) = refl
command_named-words_of (Normalize Set.StandardRules Uri s) = refl
command_named-words_of (Normalize Set.DefaultPorts UriRef s) = refl
command_named-words_of (Normalize Set.StandardRules UriRef s) = refl
command_named-words_of (Normalize Set.DefaultPorts Iri s) = refl
command_named-words_of (Normalize Set.StandardRules Iri s) = refl
command_named-words_of (Normalize Set.DefaultPorts IriRef s) = refl
command_named-words_of (Normalize Set.StandardRules IriRef s) = refl
command_named-words_of (Mend Uri s) = refl
command_named-words_of (Mend UriRef s) = refl
command_named-words_of (Mend Iri s) = refl
command_named-words_of (Mend IriRef s) = refl
command_named-words_of (Resolve bases.Uri s r) = refl
command_named-words_of (Resolve bases.Iri s r) = refl
command_named-words_of (Links Set.DefaultPorts s r rs) = refl
command_named-words_of (Links Set.StandardRules s r rs) = refl

-- commands: no two commands have the same words
words_of_injective : (a b : Command) → words_of a ≡ words_of b → a ≡ b
words_of_injective a b same = sym (command_named-words_of a) ∙ ap command_named same
    ∙ command_named-words_of b

pub same-words-same-output : (a b : Command) → words_of a ≡ words_of b → output_of a ≡ output_of b
same-words-same-output a b same = ap output_of (words_of_injective a b same)

words-of-no-form-are-no-command : (words : List (List ℕ)) → ¬ (AreWordsOfTextCommand words)
    → ¬ (AreWordsOfResolve words) → ¬ (AreWordsOfLinks words) → ¬ (AreWordsOfRuledNormalize words)
    → ¬ (AreWordsOfRuledLinks words) → (command : Command) → words ≡ words_of command → ⊥
words-of-no-form-are-no-command words t r l n k (Parse name text) is =
    t (codes "parse", name, text, is, inl refl)
words-of-no-form-are-no-command words t r l n k (Normalize Set.DefaultPorts name text) is =
    t (codes "normalize", name, text, is, inr (inl refl))
words-of-no-form-are-no-command words t r l n k (Normalize Set.StandardRules name text) is =
    n (name, text, is)
words-of-no-form-are-no-command words t r l n k (Mend name text) is =
    t (codes "mend", name, text, is, inr (inr refl))
words-of-no-form-are-no-command words t r l n k (Resolve name base reference) is =
    r (name, base, reference, is)
words-of-no-form-are-no-command words t r l n k (Links Set.DefaultPorts base reference others) is =
    l (base, reference, others, is)
words-of-no-form-are-no-command words t r l n k (Links Set.StandardRules base reference others) is =
    k (base, reference, others, is)

-- commands: if the words are of none of the first four forms, the last one decides whether they are
-- a command
pub last-form-decides : {C : Type 0} (words : List (List ℕ)) (result : Option C) (P : C → Type 0)
    → ¬ (AreWordsOfTextCommand words) → ¬ (AreWordsOfResolve words) → ¬ (AreWordsOfLinks words)
    → ¬ (AreWordsOfRuledNormalize words) → MatchOption result (¬ (AreWordsOfRuledLinks words)) P
    → MatchOption result (¬ (IsCommand words)) P
last-form-decides words (Some command) P t r l n h = h
last-form-decides words None P t r l n h =
    λ it. words-of-no-form-are-no-command words t r l n h it.0 it.1
