-- Texts that a writer gets one after the other.
use Rattle.std.proofs.Common.{◌≡◌, ◌+◌, ◌<◌, ◌≤◌, ◌++◌, ◌∷◌, ◌∙◌, ℕ, List, [], Option, length, take, drop, get_or, sym, ap, subst, append-nil, take_all, take-append-drop}
use Rattle.std.proofs.lemmas.List.{take_more}
use Rattle.std.proofs.lemmas.List.Concat.{flat_map-append}
use Rattle.std.specs.Io.KnownBytes.{Appends}
use Rattle.std.specs.List.{flat_map}
use Rattle.uri_commands.specs.Prefixes.{AppendsPrefix}
use Rattle.uri_commands.proofs.Appended.{AppendsPrefix-after-Appends, AppendsPrefix-of-longer}
use Rattle.uri_commands.proofs.Prefixes.{AppendsPrefix-of-appended}

-- general fact on lists, for texts that are written: all are those up to n, the next one and others
texts-up-to-next-and-others : {X : Type 0} (bytes : X → List ℕ) (texts : List X) (n : ℕ) (d : X)
    → n < length texts
    → (flat_map bytes (take n texts) ++ bytes (get_or texts n d))
    ++ flat_map bytes (drop (n + 1) texts)
    ≡ flat_map bytes texts
texts-up-to-next-and-others bytes texts n d h =
    let others = flat_map bytes (drop (n + 1) texts) in
    let next : flat_map bytes (take (n + 1) texts)
    ≡ flat_map bytes (take n texts) ++ bytes (get_or texts n d) =
    ap (flat_map bytes) (take_more texts n d h)
    ∙ flat_map-append bytes (take n texts) (get_or texts n d ∷ [])
    ∙ ap (λ l. flat_map bytes (take n texts) ++ l) (append-nil (bytes (get_or texts n d))) in
    ap (λ l. l ++ others) (sym next)
    ∙ sym (flat_map-append bytes (take (n + 1) texts) (drop (n + 1) texts))
    ∙ ap (flat_map bytes) (take-append-drop (n + 1) texts)

-- writers: a prefix of one more text leaves a prefix of all; a, b, c: what is held
pub AppendsPrefix-of-one-more-text : {X : Type 0} (bytes : X → List ℕ) (texts : List X) (n : ℕ)
    (d : X) (text : List ℕ) (a b c : Option (List ℕ))
    → n < length texts → text ≡ bytes (get_or texts n d)
    → Appends a b (flat_map bytes (take n texts)) → AppendsPrefix b c text
    → AppendsPrefix a c (flat_map bytes texts)
AppendsPrefix-of-one-more-text bytes texts n d text a b c h e before now =
    subst (AppendsPrefix a c) (texts-up-to-next-and-others bytes texts n d h)
    (AppendsPrefix-of-longer a c _ (flat_map bytes (drop (n + 1) texts))
    (AppendsPrefix-after-Appends a b c _ _ before (subst (AppendsPrefix b c) e now)))

-- writers: after the last text a prefix of all is written; a, b: what is held
pub AppendsPrefix-of-all-texts : {X : Type 0} (bytes : X → List ℕ) (texts : List X) (n : ℕ)
    (a b : Option (List ℕ))
    → length texts ≤ n → Appends a b (flat_map bytes (take n texts))
    → AppendsPrefix a b (flat_map bytes texts)
AppendsPrefix-of-all-texts bytes texts n a b h given =
    AppendsPrefix-of-appended a b _ [] _ given
    (ap (flat_map bytes) (sym (take_all n texts h)) ∙ sym (append-nil _))
