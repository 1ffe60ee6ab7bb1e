-- The rules on paths are what the kinds ask of a path: RFC 3986, section 3.3.
use Rattle.uri_abnf.proofs.Common.{◌≡◌, ℕ, zero, suc, true, false, List, [], ◌∷◌, ◌++◌, refl, sym, ap, subst, ◌∙◌, inl, inr, ⊎_elim, arith, ◌<◌, length, ◌⊎◌, ◌↔◌, ◌==◌, codes, IsTrue, list_any, IsUtf8, chars, encode_utf8_all, false≢true, eqb-true, nat_tests, encodes-chars, IsUtf8-nil, TableSet, is_one_of, IsValidFor, Lacks, IsAbemptyPath, has_authority, starts, has_colon_in_first_segment, valid_text_lacks_excluded_marks, Abnf, Has, IsOf, any, some, opt, times, lit, ◌⋅◌, ◌∣◌}
use Rattle.std.proofs.lemmas.List.Folds.{list_any-append}
use Rattle.uri_pct.proofs.Offered.{excludes}
use Rattle.uri_parts.proofs.Offered.{IsEmptyOrMarked, cut-at-end-of-text-without-marks}
use Rattle.uri_abnf.proofs.Elements.{has_char, has_octets}
use Rattle.uri_abnf.proofs.Paths.{segments, path-is-segments, segment-is-path, segments-are-path}
use Rattle.uri_abnf.proofs.Texts.{IsCut, cut-gives, cut-is-had, either-gives, left-is-had, right-is-had, opt-gives, opt-is-had, opt-has-nothing, mark-gives, mark-is-had, slash-mark, text-of-no-chars, letterless-has, times-0-gives, times-0-has-nothing}
use Rattle.uri_abnf.proofs.Tokens.{Tokens, none, char, octet, IsSetOf, tokens-append, tokens-widen, some-gives-tokens, tokens-are-valid, tokens-are-some, valid-are-tokens, any-is-valid, some-is-any, any-is-some}

-- the expressions for a character of a segment and of a first segment without `:`, and their sets
pub record PathSets (path : TableSet) : Type 0 where
  pub pc : Abnf
  pub nc : Abnf
  pub segment : TableSet
  pub first : TableSet
  pub of_pc : IsSetOf pc segment
  pub of_nc : IsSetOf nc first
  pub of_path : IsSetOf (pc ∣ lit "/") path
  pub segment_marks : excludes segment (codes "/?#") ≡ true
  pub first_marks : excludes first (codes ":/?#") ≡ true
  pub narrow : (c : ℕ) → has_char pc c ≡ true → (c ≡ 58 → ⊥) → has_char nc c ≡ true
  pub wide : (c : ℕ) → has_char nc c ≡ true → has_char pc c ≡ true
  pub octets : has_octets nc ≡ has_octets pc

empty-or-not : (s : List ℕ) → (s ≡ []) ⊎ (0 < length s)
empty-or-not [] = inl refl
empty-or-not (c ∷ s) = inr (omega arith)

begins-with-slash : (t r : List ℕ) → t ≡ 47 ∷ r → IsTrue (starts 47 t)
begins-with-slash t r e = subst (λ z. IsTrue (starts 47 z)) (sym e) refl

first-byte-is-no-slash : (b : ℕ) (x y : List ℕ) → Lacks (codes "/?#") (b ∷ x)
    → has_authority (b ∷ (x ++ y)) ≡ false
first-byte-is-no-slash b x y h =
    let e : is_one_of (codes "/?#") b ≡ false = h 0 0 (omega arith) in grind (arith, nat_tests)

second-byte-is-no-slash : (b : ℕ) (x y : List ℕ) → Lacks (codes "/?#") (b ∷ x)
    → has_authority (47 ∷ (b ∷ (x ++ y))) ≡ false
second-byte-is-no-slash b x y h =
    let e : is_one_of (codes "/?#") b ≡ false = h 0 0 (omega arith) in grind (arith, nat_tests)

no-authority : (t s m : List ℕ) → t ≡ s ++ m → 0 < length s → Lacks (codes "/?#") s
    → has_authority t ≡ false
no-authority t [] m e n h = absurd (omega arith)
no-authority t (b ∷ s) m e n h = ap has_authority e ∙ first-byte-is-no-slash b s m h

no-authority-after-slash : (t s m : List ℕ) → t ≡ 47 ∷ (s ++ m) → 0 < length s
    → Lacks (codes "/?#") s → has_authority t ≡ false
no-authority-after-slash t [] m e n h = absurd (omega arith)
no-authority-after-slash t (b ∷ s) m e n h = ap has_authority e ∙ second-byte-is-no-slash b s m h

lacking-has-no-colon : (s : List ℕ) → Lacks (codes ":/?#") s → list_any (λ c. c == 58) s ≡ false
lacking-has-no-colon [] h = refl
lacking-has-no-colon (b ∷ s) h =
    let e : is_one_of (codes ":/?#") b ≡ false = h 0 0 (omega arith) in
    let r = lacking-has-no-colon s (λ k d l. h (suc k) d (omega arith)) in
    grind (arith, nat_tests)

slash-has-no-colon : (t : List ℕ) → IsTrue (starts 47 t) → has_colon_in_first_segment t ≡ false
slash-has-no-colon [] e = refl
slash-has-no-colon (c ∷ t) e = ap (λ n. has_colon_in_first_segment (n ∷ t)) (eqb-true c 47 e)

rooted-has-no-segment : (t s m : List ℕ) → IsTrue (starts 47 t) → t ≡ s ++ m
    → Lacks (codes "/?#") s → s ≡ []
rooted-has-no-segment t [] m r e h = refl
rooted-has-no-segment t (b ∷ s) m r e h =
    let i : is_one_of (codes "/?#") b ≡ false = h 0 0 (omega arith) in
    let j : (b == 47) ≡ true = sym (ap (starts 47) e) ∙ r in
    absurd (grind (arith, nat_tests))

-- characters that are encoded without a `:` have none
no-char-is-colon : (c : ℕ) (t : List ℕ) → list_any (λ b. b == 58) (encode_utf8_all (c ∷ t)) ≡ false
    → (c ≡ 58 → ⊥) × (list_any (λ b. b == 58) (encode_utf8_all t) ≡ false)
unfolding lib.Utf8.encode
no-char-is-colon c t e = grind (arith, nat_tests, list_any-append)

module _ (path : TableSet) (w : PathSets path) where
  abbrev pub more : Abnf
  more = segments w.pc

  abbrev pub absolute : Abnf
  absolute = lit "/" ⋅ opt (some w.pc ⋅ more)

  abbrev pub rootless : Abnf
  rootless = some w.pc ⋅ more

  abbrev pub noscheme : Abnf
  noscheme = some w.nc ⋅ more

  abbrev pub empty : Abnf
  empty = times 0 w.pc

  -- the text is of characters and octets that may be in a path
  abbrev pub IsPath : List ℕ → Type 0
  IsPath t = IsUtf8 t × IsValidFor path t

  path-from-tokens : (t : List ℕ) → IsUtf8 t → Tokens (w.pc ∣ lit "/") (chars t) → IsPath t
  path-from-tokens t u k = (u, tokens-are-valid _ path w.of_path t k)

  -- the text of segments after slashes is empty, or a slash and more
  more-begins : (t : List ℕ) → IsUtf8 t → Has more (chars t)
      → (t ≡ []) ⊎ ((s m : List ℕ) × (t ≡ 47 ∷ (s ++ m)) × IsOf (any w.pc) s × IsOf more m)
  more-begins t u (zero, l1, m1, e) = inl (text-of-no-chars t u e)
  more-begins t u (suc n, l1, m1, (x, y, e, h, q)) =
      let k = cut-gives (lit "/" ⋅ any w.pc) more t (record {
        utf8 = u;
        has = (x, y, e, h, (n, omega arith, tt, q));
      }) in
      let j = cut-gives (lit "/") (any w.pc) k.x k.first in
      let s = mark-gives (codes "/") slash-mark j.x j.first in
      grind (arith, nat_tests)

  segment-lacks : (s : List ℕ) → IsOf (any w.pc) s → Lacks (codes "/?#") s
  segment-lacks s l = valid_text_lacks_excluded_marks w.segment (codes "/?#") w.of_pc.lacks
      w.segment_marks s l.utf8 (any-is-valid w.pc w.segment w.of_pc s l)

  -- a path is a segment, and segments after slashes
  path-is-cut : (t : List ℕ) → IsPath t → IsCut (any w.pc) more t
  path-is-cut t v = cut-gives (any w.pc) more t (record {
    utf8 = v.0;
    has = path-is-segments w.pc w.segment w.of_pc _ (valid-are-tokens _ path w.of_path t v.1);
  })

  abempty-gives : (t : List ℕ) → IsOf more t → IsPath t × IsAbemptyPath t
  abempty-gives t l = (
    path-from-tokens t l.utf8 (segments-are-path w.pc w.segment w.of_pc _ l.has),
    ⊎_elim (λ e. inl e) (λ k. inr (begins-with-slash t _ k.2)) (more-begins t l.utf8 l.has),
  )

  more-has-nothing : IsOf more []
  unfolding chars
  more-has-nothing = record { utf8 = IsUtf8-nil; has = (0, omega arith, tt, refl) }

  abempty-is-had : (t : List ℕ) → IsPath t → IsAbemptyPath t → IsOf more t
  abempty-is-had t v h = ⊎_elim (λ e. subst (IsOf more) (sym e) more-has-nothing)
      (λ r.
      let k = path-is-cut t v in
      let n = rooted-has-no-segment t k.x k.y r k.whole (segment-lacks k.x k.first) in
      subst (IsOf more) (sym (k.whole ∙ ap (λ z. z ++ k.y) n)) k.second) h

  rootless-tokens : (cs : List ℕ) → Has rootless cs → Tokens (w.pc ∣ lit "/") cs
  rootless-tokens cs (x, y, e, h, k) = subst (Tokens (w.pc ∣ lit "/")) (sym e) (tokens-append _ x y
      (segment-is-path w.pc w.segment w.of_pc x (some-gives-tokens w.pc w.segment w.of_pc x h).0)
      (segments-are-path w.pc w.segment w.of_pc y k))

  rootless-gives : (t : List ℕ) → IsOf rootless t → IsPath t × (has_authority t ≡ false)
  rootless-gives t l =
      let k = cut-gives (some w.pc) more t l in
      let s = some-is-any w.pc w.segment w.of_pc k.x k.first in
      grind (arith, nat_tests, path-from-tokens, rootless-tokens, no-authority, segment-lacks)

  absolute-tokens : (cs : List ℕ) → Has absolute cs → Tokens (w.pc ∣ lit "/") cs
  absolute-tokens cs (x, y, e, h, o) =
      let slash = letterless-has (codes "/") x (inl (omega arith), tt) h in
      grind (arith, nat_tests, char, none, rootless-tokens)

  absolute-has-no-authority : (t y : List ℕ) → t ≡ 47 ∷ y → IsOf (opt rootless) y
      → has_authority t ≡ false
  absolute-has-no-authority t y e l = ⊎_elim
      (λ n. ap has_authority (e ∙ ap (λ r. 47 ∷ r) n))
      (λ m.
      let k = cut-gives (some w.pc) more y m in
      let s = some-is-any w.pc w.segment w.of_pc k.x k.first in
      no-authority-after-slash t k.x k.y (e ∙ ap (λ r. 47 ∷ r) k.whole) s.1
      (segment-lacks k.x s.0))
      (opt-gives rootless y l)

  absolute-gives : (t : List ℕ) → IsOf absolute t
      → IsPath t × (has_authority t ≡ false) × IsTrue (starts 47 t)
  absolute-gives t l =
      let k = cut-gives (lit "/") (opt rootless) t l in
      let s = mark-gives (codes "/") slash-mark k.x k.first in
      let e : t ≡ 47 ∷ k.y = k.whole ∙ ap (λ r. r ++ k.y) s in (
        path-from-tokens t l.utf8 (absolute-tokens _ l.has),
        absolute-has-no-authority t k.y e k.second,
        begins-with-slash t k.y e,
      )

  empty-gives : (t : List ℕ) → IsOf empty t → IsPath t × (has_authority t ≡ false)
  unfolding chars
  empty-gives t l =
      let e = times-0-gives w.pc t l in (
        (l.utf8, subst (IsValidFor path) (sym e) (tokens-are-valid _ path w.of_path [] none)),
        ap has_authority e,
      )

  -- the rules without an authority give a path that does not begin with `//`
  path-gives : (t : List ℕ) → IsOf (absolute ∣ rootless ∣ empty) t
      → IsPath t × (has_authority t ≡ false)
  path-gives t l = ⊎_elim
      (λ ab. ⊎_elim (λ a. let p = absolute-gives t a in (p.0, p.1)) (λ b. rootless-gives t b)
      (either-gives absolute rootless t ab))
      (λ c. empty-gives t c) (either-gives (absolute ∣ rootless) empty t l)

  -- a path of segments after slashes that does not begin with `//`
  absolute-is-had : (t : List ℕ) → IsOf more t → 0 < length t → has_authority t ≡ false
      → IsOf absolute t
  absolute-is-had t l n h = ⊎_elim (λ e. let z = ap length e in absurd (omega arith))
      (λ k.
      subst (IsOf absolute) (sym k.2)
      (cut-is-had (lit "/") (opt rootless) (codes "/") (k.0 ++ k.1)
      (mark-is-had (codes "/") slash-mark)
      (⊎_elim
      (λ e. ⊎_elim
      (λ m. subst (IsOf (opt rootless)) (sym (ap (λ r. r ++ k.1) e ∙ m)) (opt-has-nothing rootless))
      (λ m. absurd (false≢true (sym h ∙ ap has_authority
      (k.2 ∙ ap (λ r. 47 ∷ (r ++ k.1)) e ∙ ap (λ r. 47 ∷ r) m.2))))
      (more-begins k.1 k.4.utf8 k.4.has))
      (λ e. opt-is-had _ _ (cut-is-had (some w.pc) more k.0 k.1
      (any-is-some w.pc w.segment w.of_pc k.0 k.3 e) k.4))
      (empty-or-not k.0))))
      (more-begins t l.utf8 l.has)

  empty-is-had : (t : List ℕ) → t ≡ [] → IsOf empty t
  empty-is-had t e = subst (IsOf empty) (sym e) (times-0-has-nothing w.pc)

  -- a path that does not begin with `//` is of one of the rules without an authority
  path-is-had : (t : List ℕ) → IsPath t → has_authority t ≡ false
      → IsOf (absolute ∣ rootless ∣ empty) t
  path-is-had t v h =
      let k = path-is-cut t v in
      ⊎_elim
      (λ e.
      let same : t ≡ k.y = k.whole ∙ ap (λ r. r ++ k.y) e in
      ⊎_elim (λ n. right-is-had (absolute ∣ rootless) empty t (empty-is-had t n))
      (λ n. left-is-had _ empty t (left-is-had absolute rootless t
      (absolute-is-had t (subst (IsOf more) (sym same) k.second) n h)))
      (empty-or-not t))
      (λ e. left-is-had _ empty t (right-is-had absolute rootless t (subst (IsOf rootless)
      (sym k.whole) (cut-is-had (some w.pc) more k.x k.y
      (any-is-some w.pc w.segment w.of_pc k.x k.first e) k.second)))) (empty-or-not k.x)

  first-is-segment : (s : List ℕ) → IsOf (some w.nc) s → IsOf (some w.pc) s
  first-is-segment s l =
      let k = some-gives-tokens w.nc w.first w.of_nc (chars s) l.has in
      let t = tokens-widen _ _ w.wide (λ e. sym w.octets ∙ e) _ k.0 in
      record { utf8 = l.utf8; has = tokens-are-some w.pc w.segment w.of_pc _ t k.1 }

  first-lacks : (s : List ℕ) → IsOf (some w.nc) s → Lacks (codes ":/?#") s
  first-lacks s l = valid_text_lacks_excluded_marks w.first (codes ":/?#") w.of_nc.lacks
      w.first_marks s l.utf8
      (any-is-valid w.nc w.first w.of_nc s (some-is-any w.nc w.first w.of_nc s l).0)

  more-is-marked : (m : List ℕ) → IsOf more m → IsEmptyOrMarked (codes "/") m
  more-is-marked m l = ⊎_elim
      (λ e. subst (IsEmptyOrMarked (codes "/")) (sym e) tt)
      (λ k. subst (IsEmptyOrMarked (codes "/")) (sym k.2) refl) (more-begins m l.utf8 l.has)

  -- the first segment of a path ends at its first slash
  colon-is-in-first : (t s m : List ℕ) → t ≡ s ++ m → Lacks (codes "/?#") s → IsOf more m
      → has_colon_in_first_segment t ≡ list_any (λ c. c == 58) s
  colon-is-in-first t s m e h l =
      grind (arith, nat_tests, cut-at-end-of-text-without-marks, more-is-marked)

  noscheme-is-rootless : (t : List ℕ) → IsOf noscheme t → IsOf rootless t
  noscheme-is-rootless t l =
      let k = cut-gives (some w.nc) more t l in
      subst (IsOf rootless) (sym k.whole)
      (cut-is-had (some w.pc) more k.x k.y (first-is-segment k.x k.first) k.second)

  noscheme-has-no-colon : (t : List ℕ) → IsOf noscheme t → has_colon_in_first_segment t ≡ false
  noscheme-has-no-colon t l =
      let k = cut-gives (some w.nc) more t l in
      let lacks = first-lacks k.x k.first in
      colon-is-in-first t k.x k.y k.whole (grind (arith, nat_tests)) k.second
      ∙ lacking-has-no-colon k.x lacks

  narrower : (cs : List ℕ) → list_any (λ c. c == 58) (encode_utf8_all cs) ≡ false → Tokens w.pc cs
      → Tokens w.nc cs
  narrower _ e none = none
  narrower _ e (char {c} {t} p q) =
      let k = no-char-is-colon c t e in char (w.narrow c p k.0) (narrower t k.1 q)
  narrower _ e (octet {p} {h} {l} {t} o a b d q) =
      let k = no-char-is-colon p (h ∷ l ∷ t) e in
      let i = no-char-is-colon h (l ∷ t) k.1 in
      octet (w.octets ∙ o) a b d (narrower t (no-char-is-colon l t i.1).1 q)

  first-from-segment : (s : List ℕ) → IsOf (some w.pc) s → list_any (λ c. c == 58) s ≡ false
      → IsOf (some w.nc) s
  first-from-segment s l e =
      let k = some-gives-tokens w.pc w.segment w.of_pc (chars s) l.has in
      let t = narrower (chars s) (ap (list_any (λ c. c == 58)) (encodes-chars s l.utf8) ∙ e) k.0 in
      record { utf8 = l.utf8; has = tokens-are-some w.nc w.first w.of_nc _ t k.1 }

  rootless-is-noscheme : (t : List ℕ) → IsOf rootless t → has_colon_in_first_segment t ≡ false
      → IsOf noscheme t
  rootless-is-noscheme t l e =
      let k = cut-gives (some w.pc) more t l in
      let lacks = segment-lacks k.x (some-is-any w.pc w.segment w.of_pc k.x k.first).0 in
      let none = sym (colon-is-in-first t k.x k.y k.whole lacks k.second) ∙ e in
      subst (IsOf noscheme) (sym k.whole) (cut-is-had (some w.nc) more k.x k.y
      (first-from-segment k.x k.first none) k.second)

  -- the rules without a scheme and an authority give a path without `:` in its first segment
  reference-path-gives : (t : List ℕ) → IsOf (absolute ∣ noscheme ∣ empty) t
      → IsPath t × (has_authority t ≡ false) × (has_colon_in_first_segment t ≡ false)
  reference-path-gives t l = ⊎_elim
      (λ ab. ⊎_elim
      (λ a. let p = absolute-gives t a in (p.0, p.1, slash-has-no-colon t p.2))
      (λ b.
      let p = rootless-gives t (noscheme-is-rootless t b) in
      (p.0, p.1, noscheme-has-no-colon t b)) (either-gives absolute noscheme t ab))
      (λ c.
      let p = empty-gives t c in
      (p.0, p.1, ap has_colon_in_first_segment (times-0-gives w.pc t c)))
      (either-gives (absolute ∣ noscheme) empty t l)

  reference-path-is-had : (t : List ℕ) → IsPath t → has_authority t ≡ false
      → has_colon_in_first_segment t ≡ false → IsOf (absolute ∣ noscheme ∣ empty) t
  reference-path-is-had t v h e = ⊎_elim
      (λ ab. left-is-had _ empty t (⊎_elim
      (λ a. left-is-had absolute noscheme t a)
      (λ b. right-is-had absolute noscheme t (rootless-is-noscheme t b e))
      (either-gives absolute rootless t ab)))
      (λ c. right-is-had (absolute ∣ noscheme) empty t c)
      (either-gives (absolute ∣ rootless) empty t (path-is-had t v h))

  -- the rule path has all paths
  any-path-gives : (t : List ℕ) → IsOf (more ∣ absolute ∣ noscheme ∣ rootless ∣ empty) t → IsPath t
  any-path-gives t l = ⊎_elim
      (λ abcd. ⊎_elim
      (λ abc. ⊎_elim
      (λ ab. ⊎_elim (λ a. (abempty-gives t a).0) (λ b. (absolute-gives t b).0)
      (either-gives more absolute t ab))
      (λ c. (rootless-gives t (noscheme-is-rootless t c)).0) (either-gives _ noscheme t abc))
      (λ d. (rootless-gives t d).0) (either-gives _ rootless t abcd))
      (λ e. (empty-gives t e).0) (either-gives _ empty t l)

  any-path-is-had : (t : List ℕ) → IsPath t → IsOf (more ∣ absolute ∣ noscheme ∣ rootless ∣ empty) t
  any-path-is-had t v =
      let k = path-is-cut t v in
      left-is-had _ empty t (⊎_elim
      (λ e. left-is-had _ rootless t (left-is-had _ noscheme t (left-is-had more absolute t
      (subst (IsOf more) (sym (k.whole ∙ ap (λ r. r ++ k.y) e)) k.second))))
      (λ e. right-is-had _ rootless t (subst (IsOf rootless) (sym k.whole)
      (cut-is-had (some w.pc) more k.x k.y
      (any-is-some w.pc w.segment w.of_pc k.x k.first e) k.second)))
      (empty-or-not k.x))

  -- the rules on paths, by what is before a path; and that on any path
  pub abempty-rule : (t : List ℕ) → (IsOf more t ↔ (IsPath t × IsAbemptyPath t))
  abempty-rule t = (abempty-gives t, λ v. abempty-is-had t v.0 v.1)

  pub rootless-rule : (t : List ℕ) → (IsOf (absolute ∣ rootless ∣ empty) t
      ↔ (IsPath t × (has_authority t ≡ false)))
  rootless-rule t = (path-gives t, λ v. path-is-had t v.0 v.1)

  pub noscheme-rule : (t : List ℕ) → (IsOf (absolute ∣ noscheme ∣ empty) t
      ↔ (IsPath t × (has_authority t ≡ false) × (has_colon_in_first_segment t ≡ false)))
  noscheme-rule t = (reference-path-gives t, λ v. reference-path-is-had t v.0 v.1 v.2)

  pub any-path-rule : (t : List ℕ)
      → (IsOf (more ∣ absolute ∣ noscheme ∣ rootless ∣ empty) t ↔ IsPath t)
  any-path-rule t = (any-path-gives t, any-path-is-had t)
