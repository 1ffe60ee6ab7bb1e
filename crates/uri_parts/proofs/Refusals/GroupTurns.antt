-- One turn of reading the groups of an IPv6 address.
use Rattle.uri_parts.proofs.Common.{◌≡◌, ◌≢◌, ℕ, zero, suc, ◌+◌, ◌-◌, Bool, true, false, not, cond, eqb, List, [], ◌∷◌, drop, refl, sym, ap, ◌∙◌, arith, ◌&&◌, ◌||◌, nat_lt, cond-true, cond-false, eq-eqb, ne_eqb, not_from_false, not_from_true, false≢true, starts, is_end, Groups, Groups_end, Elision, Malformed, digits_end, ipv4_end, after_ipv4, groups_from}

-- parse errors: a text that begins with a mark is not at its end
pub text-with-mark-is-not-ended : (mark : ℕ) (xs : List ℕ) → starts mark xs ≡ true
    → is_end xs ≡ false
unfolding is_end
text-with-mark-is-not-ended mark [] e = absurd (false≢true e)
text-with-mark-is-not-ended mark (x ∷ xs) e = refl

-- parse errors: the groups of an IPv6 address end where there is no room for more
pub groups_from-ends-without-room : (text : List ℕ) (n : ℕ) (is_first : Bool) (i : ℕ) → n ≡ 0
    → groups_from text n is_first i ≡ Groups_end 0 i
unfolding groups_from
groups_from-ends-without-room text zero is_first i e = refl
groups_from-ends-without-room text (suc n) is_first i e = absurd (omega arith)

module _ (text : List ℕ) (n r : ℕ) (is_first : Bool) (i group end : ℕ) (e : n ≡ r + 1)
    (g : group ≡ cond (starts 58 (drop i text)) (i + 1) i)
    (l : end ≡ digits_end text 16 4 group) where
  abbrev colon : Bool
  colon = starts 58 (drop i text)

  abbrev short : Bool
  short = nat_lt end (group + 4)

  abbrev body : ℕ → ℕ → ℕ → ℕ → Groups
  body m k start last = cond (eqb last start) (cond (not colon)
      (Groups_end m i) (cond (starts 58 (drop start text)) (Elision m (start + 1)) Malformed))
      (cond (nat_lt last (start + 4) && is_end (drop last text))
      (Groups_end m last) (cond (colon && is_first || not colon && not is_first) Malformed
      (cond (nat_lt last (start + 4) && starts 46 (drop last text)) (cond (eqb k 0) Malformed
      (after_ipv4 text (k - 1) (ipv4_end text start))) (groups_from text k false last))))

  groups_from-takes-one-turn : groups_from text n is_first i ≡ body n r group end
  unfolding groups_from
  groups_from-takes-one-turn =
      let s : n ≡ suc r = omega arith in
      ap (λ m. groups_from text m is_first i) s
      ∙ ap (λ k. body (suc r) r k (digits_end text 16 4 k)) (sym g)
      ∙ ap (body (suc r) r group) (sym l) ∙ ap (λ m. body m r group end) (sym s)

  module _ (none : end ≡ group) where
    pub groups_from-ends-without-group : colon ≡ false → groups_from text n is_first i
        ≡ Groups_end n i
    groups_from-ends-without-group c = groups_from-takes-one-turn
        ∙ cond-true _ _ _ (eq-eqb end group none) ∙ cond-true _ _ _ (not_from_false _ c)

    pub groups_from-elides-at-two-colons : colon ≡ true → starts 58 (drop group text) ≡ true
        → groups_from text n is_first i ≡ Elision n (group + 1)
    groups_from-elides-at-two-colons c d = groups_from-takes-one-turn ∙ cond-true _ _ _
        (eq-eqb end group none) ∙ cond-false _ _ _ (not_from_true _ c) ∙ cond-true _ _ _ d

    pub groups_from-rejects-lone-colon : colon ≡ true → starts 58 (drop group text) ≡ false
        → groups_from text n is_first i ≡ Malformed
    groups_from-rejects-lone-colon c d = groups_from-takes-one-turn ∙ cond-true _ _ _
        (eq-eqb end group none) ∙ cond-false _ _ _ (not_from_true _ c) ∙ cond-false _ _ _ d

  module _ (some : end ≢ group) where
    pub groups_from-ends-with-text : (short && is_end (drop end text)) ≡ true
        → groups_from text n is_first i ≡ Groups_end n end
    groups_from-ends-with-text o = groups_from-takes-one-turn
        ∙ cond-false _ _ _ (ne_eqb end group some) ∙ cond-true _ _ _ o

    module _ (within : (short && is_end (drop end text)) ≡ false) where
      pub groups_from-rejects-misplaced-colon : (colon && is_first || not colon && not is_first)
          ≡ true → groups_from text n is_first i ≡ Malformed
      groups_from-rejects-misplaced-colon a = groups_from-takes-one-turn
          ∙ cond-false _ _ _ (ne_eqb end group some) ∙ cond-false _ _ _ within ∙ cond-true _ _ _ a

      module _ (apart : (colon && is_first || not colon && not is_first) ≡ false) where
        pub groups_from-rejects-ipv4-without-room : (short && starts 46 (drop end text)) ≡ true
            → r ≡ 0 → groups_from text n is_first i ≡ Malformed
        groups_from-rejects-ipv4-without-room d z = groups_from-takes-one-turn
            ∙ cond-false _ _ _ (ne_eqb end group some) ∙ cond-false _ _ _ within
            ∙ cond-false _ _ _ apart ∙ cond-true _ _ _ d ∙ cond-true _ _ _ (eq-eqb r 0 z)

        pub dotted : (short && starts 46 (drop end text)) ≡ true → r ≢ 0
            → groups_from text n is_first i ≡ after_ipv4 text (r - 1) (ipv4_end text group)
        dotted d z = groups_from-takes-one-turn ∙ cond-false _ _ _ (ne_eqb end group some)
            ∙ cond-false _ _ _ within
            ∙ cond-false _ _ _ apart ∙ cond-true _ _ _ d ∙ cond-false _ _ _ (ne_eqb r 0 z)

        pub groups_from-goes-on-after-group : (short && starts 46 (drop end text)) ≡ false
            → groups_from text n is_first i ≡ groups_from text r false end
        groups_from-goes-on-after-group d = groups_from-takes-one-turn
            ∙ cond-false _ _ _ (ne_eqb end group some) ∙ cond-false _ _ _ within
            ∙ cond-false _ _ _ apart ∙ cond-false _ _ _ d
