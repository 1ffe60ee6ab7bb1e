-- Of the prefixes that two paths share, the longest one makes the shortest relative path.
use Rattle.std.proofs.lemmas.Grind.{common_steps}
use Rattle.uri_relative.proofs.Common.{◌≡◌, ℕ, zero, suc, ◌+◌, ◌*◌, ◌<◌, ◌≤◌, Bool, true, false, cond, eqb, List, [], ◌∷◌, ◌++◌, length, take, drop, get_or, refl, sym, ap, ◌∙◌, arith, ⊎_elim, length-append, ◌⊎◌, is_empty, relative_from, relative_path, slashes}
use Rattle.std.proofs.lemmas.List.Recursion.{is_count_by}
use Rattle.std.proofs.lemmas.List.{drop-append-le, drop_more, length-take-le, take-append-drop}
use Rattle.uri_relative.proofs.Lengths.{length-of-path-up-to-some, length-of-path-up-to-nothing}

-- lengths of relativized paths: one with n `../` and a rest has two bytes more at most
length-of-relative-path-is-bounded : (n : ℕ) (rest : List ℕ)
    → length (relative_path n rest) ≤ 3 * n + length rest + 2
length-of-relative-path-is-bounded zero rest = grind arith
length-of-relative-path-is-bounded (suc n) rest =
    grind (arith, length-of-path-up-to-nothing, length-of-path-up-to-some)

-- relativized paths: how many `/` a text has, counted byte by byte
counted : List ℕ → ℕ
counted [] = 0
counted (c ∷ text) = cond (eqb c 47) (1 + counted text) (counted text)

counted-is-slashes : (text : List ℕ) → counted text ≡ slashes text
unfolding counted
counted-is-slashes = is_count_by counted (λ c. eqb c 47) refl (λ c text. refl)

slashes-of-joined-texts-add-up : (a b : List ℕ) → counted (a ++ b) ≡ counted a + counted b
unfolding counted
slashes-of-joined-texts-add-up [] b = omega arith
slashes-of-joined-texts-add-up (c ∷ a) b = more (eqb c 47) (slashes-of-joined-texts-add-up a b)
  where
    more : (e : Bool) → counted (a ++ b) ≡ counted a + counted b
        → cond e (1 + counted (a ++ b)) (counted (a ++ b))
        ≡ cond e (1 + counted a) (counted a) + counted b
    more true ih = omega (arith, ih)
    more false ih = ih

-- relativized paths: two texts joined by a `/` (47) have one slash more than both
slash-between-adds-one-to-slashes : (a b : List ℕ) → slashes (a ++ 47 ∷ b)
    ≡ suc (slashes a + slashes b)
slash-between-adds-one-to-slashes a b =
    grind (arith, common_steps, counted, slashes-of-joined-texts-add-up, counted-is-slashes)

-- relativized paths: what is from before a `/` (47) on is split at it
text-from-before-slash-is-split : (text : List ℕ) (last m : ℕ) → last < length text
    → get_or text last 0 ≡ 47
    → m ≤ last → drop m text ≡ drop m (take last text) ++ 47 ∷ drop (last + 1) text
text-from-before-slash-is-split text last m h e least =
    ap (drop m) (sym (take-append-drop last text)) ∙ drop-append-le m (take last text)
    (drop last text) (omega (arith, least, length-take-le last text (omega (arith, h)))) ∙ ap
    (λ t. drop m (take last text) ++ t)
    (drop_more text last 0 h ∙ ap (λ c. c ∷ drop (last + 1) text) e)

-- relativized paths: a text with a `/` (47) is not empty
pub text-with-slash-is-nonempty : (a b : List ℕ) → is_empty (a ++ 47 ∷ b) ≡ false
text-with-slash-is-nonempty [] b = refl
text-with-slash-is-nonempty (c ∷ a) b = refl

-- relativized paths: one that begins later is no longer: it goes up fewer times, and has less left
later-prefix-gives-shorter-path : (a b u v : List ℕ) → length (relative_path (slashes b) v)
    ≤ length (relative_path (slashes (a ++ 47 ∷ b)) (u ++ 47 ∷ v))
later-prefix-gives-shorter-path a b u v = omega (
  arith,
  length-of-relative-path-is-bounded (slashes b) v,
  ap (λ k. length (relative_path k (u ++ 47 ∷ v))) (slash-between-adds-one-to-slashes a b),
  length-of-path-up-to-some (slashes a + slashes b) (u ++ 47 ∷ v)
      (text-with-slash-is-nonempty u v),
  length-append u (47 ∷ v),
)

-- general fact on numbers, for positions in relativized paths: one up to last + 1 is that, or less
position-is-last-or-before : (m last : ℕ) → m ≤ last + 1 → (m ≡ last + 1) ⊎ (m ≤ last)
position-is-last-or-before m last h = grind arith

-- relativized paths: one from the last shared slash is no longer than one from an earlier place m
pub longer-shared-prefix-gives-shorter-path : (base path : List ℕ) (last m : ℕ) → last < length base
    → last < length path → get_or base last 0 ≡ 47 → get_or path last 0 ≡ 47 → m ≤ last + 1
    → length (relative_from (last + 1) base path) ≤ length (relative_from m base path)
longer-shared-prefix-gives-shorter-path base path last m in_base in_path base_at path_at h = ⊎_elim
    (λ e. omega (arith, ap (λ k. length (relative_from k base path)) e))
    (λ least. omega (
      arith,
      ap (λ t. length (relative_path (slashes t) (drop m path)))
          (text-from-before-slash-is-split base last m in_base base_at least),
      ap (λ t. length (relative_path (slashes (drop m (take last base) ++ 47
          ∷ drop (last + 1) base)) t))
          (text-from-before-slash-is-split path last m in_path path_at least),
      later-prefix-gives-shorter-path (drop m (take last base)) (drop (last + 1) base)
          (drop m (take last path)) (drop (last + 1) path),
    )) (position-is-last-or-before m last h)
