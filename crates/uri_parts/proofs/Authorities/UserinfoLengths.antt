-- How long the userinfo is that is found, and where the host begins after it.
use Rattle.uri_parts.proofs.Common.{◌≡◌, ℕ, ◌+◌, false, eqb, List, [], ◌∷◌, drop, refl, sym, ap, ◌∙◌, arith, ⊎_elim, zero-add, codes, cases_Bool, cond-true, cond-false, eqb-true, nat_tests, TableSet, digit_set, valid_prefix, after, valid_prefix_at_mark_is_empty, empty_text_has_empty_valid_prefix, valid_prefix_of_superset_goes_on_from_subset, valid_prefix_passes_ascii_char_of_set, starts, port_length, name_and_port_length, further_userinfo_length, userinfo_length, host_offset, text_from_host, Kind}
use Rattle.uri_parts.proofs.Parsing.Acceptance.{passes_user}
use Rattle.uri_parts.proofs.Authorities.AuthorityCuts.{suffix, drop-after-drop-of-one}
use Rattle.uri_parts.proofs.TextKinds.Separations.{SeparatesComponents}
use Rattle.uri_parts.proofs.Splitting.Recompose.{text-with-mark-is-mark-and-rest}

module _ (segment : TableSet) (kind : Kind) (w : SeparatesComponents segment kind) where
  -- a name and a port are the prefix of userinfo
  port-is-prefix-of-userinfo : (bs : List ℕ) → valid_prefix kind.userinfo bs
      ≡ port_length bs + valid_prefix kind.userinfo (drop (port_length bs) bs)
  unfolding port_length
  port-is-prefix-of-userinfo [] = grind (arith, nat_tests, empty_text_has_empty_valid_prefix)
  port-is-prefix-of-userinfo (b ∷ bs) = ⊎_elim (λ e.
      let c = eqb-true b 58 e in
      let l : port_length (b ∷ bs) ≡ 1 + valid_prefix digit_set bs = cond-true _ _ _ e in
      let one : valid_prefix kind.userinfo (b ∷ bs) ≡ valid_prefix kind.userinfo bs + 1 =
      valid_prefix_passes_ascii_char_of_set kind.userinfo w.userinfo_lacks
      (b ∷ bs) 0 (omega arith) (omega arith) (ap kind.userinfo.ascii c ∙ w.colon_within) in
      let digits = valid_prefix_of_superset_goes_on_from_subset digit_set kind.userinfo
      w.digits_within refl bs in
      let d = ap (valid_prefix kind.userinfo)
      (drop-after-drop-of-one (valid_prefix digit_set bs) (b ∷ bs)) in
      let sum : valid_prefix kind.userinfo (b ∷ bs)
      ≡ 1 + valid_prefix digit_set bs + valid_prefix kind.userinfo
      (drop (1 + valid_prefix digit_set bs) (b ∷ bs)) = omega (arith, one, digits, d) in
      sum ∙ sym (ap (λ n. n + valid_prefix kind.userinfo (drop n (b ∷ bs))) l)) (λ e.
      let none : port_length (b ∷ bs) ≡ 0 = cond-false _ _ _ e in
      sym (ap (λ n. n + valid_prefix kind.userinfo (drop n (b ∷ bs))) none ∙ zero-add _))
      (cases_Bool (eqb b 58))

  pub further_userinfo_length-is-valid_prefix : (bs : List ℕ) → further_userinfo_length kind bs
      ≡ valid_prefix kind.userinfo bs
  unfolding further_userinfo_length
  further_userinfo_length-is-valid_prefix bs = ⊎_elim (λ e. cond-true _ _ _ e
      ∙ sym (ap (valid_prefix kind.userinfo) (text-with-mark-is-mark-and-rest 64 bs e)
      ∙ valid_prefix_at_mark_is_empty (codes "@/?#") kind.userinfo w.userinfo_lacks
      w.userinfo_marks 64 (drop 1 bs) refl)) (λ e. cond-false _ _ _ e) (cases_Bool (starts 64 bs))

  pub userinfo_length-is-valid_prefix : (rest : List ℕ) → userinfo_length kind rest
      ≡ valid_prefix kind.userinfo rest
  unfolding userinfo_length name_and_port_length
  userinfo_length-is-valid_prefix rest =
      let after_name : List ℕ = after kind.reg_name rest in
      let a = valid_prefix_of_superset_goes_on_from_subset kind.reg_name kind.userinfo w.name_within
      w.reg_name_lacks rest in
      let b = port-is-prefix-of-userinfo after_name in
      let c = further_userinfo_length-is-valid_prefix (drop (valid_prefix kind.reg_name rest
      + port_length after_name) rest) ∙ ap (valid_prefix kind.userinfo)
      (sym (suffix (valid_prefix kind.reg_name rest) (port_length after_name) rest)) in
      let sum : valid_prefix kind.reg_name rest + port_length after_name + further_userinfo_length
      kind (drop (valid_prefix kind.reg_name rest + port_length after_name) rest)
      ≡ valid_prefix kind.userinfo rest = omega (arith, a, b, c) in
      sum

  pub host_offset-is-after-userinfo-and-at-sign : (rest : List ℕ) → starts 91 rest ≡ false
      → host_offset kind rest ≡ valid_prefix kind.userinfo rest + 1
  unfolding host_offset
  host_offset-is-after-userinfo-and-at-sign rest e = cond-false _ _ _ e
      ∙ ap (λ n. n + 1) (userinfo_length-is-valid_prefix rest)

  pub text_from_host-is-after-at-sign : (rest : List ℕ) → starts 91 rest ≡ false
      → text_from_host kind rest ≡ drop 1 (after kind.userinfo rest)
  text_from_host-is-after-at-sign rest e = ap (λ n. drop n rest)
      (host_offset-is-after-userinfo-and-at-sign rest e)
      ∙ sym (suffix (valid_prefix kind.userinfo rest) 1 rest)

  pub passes_user-is-at-sign-after-userinfo : (rest : List ℕ) → passes_user kind rest
      ≡ starts 64 (after kind.userinfo rest)
  unfolding passes_user
  passes_user-is-at-sign-after-userinfo rest = ap (λ n. starts 64 (drop n rest))
      (userinfo_length-is-valid_prefix rest)
