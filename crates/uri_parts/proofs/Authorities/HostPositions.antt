-- The positions of an authority that is a host with what is after it, or userinfo and a host.
use Rattle.uri_parts.proofs.Common.{◌≡◌, ℕ, ◌+◌, true, cond, List, ◌∷◌, ◌++◌, length, drop, refl, ap, ◌∙◌, arith, length-append, codes, Some, None, cond-true, nat_tests, AuthorityPositions, before_any, from_any, starts, Lacks, authority_at, host_start_of, host_end_of, delimited_length, authority_parts, leading_host}
use Rattle.uri_parts.proofs.Authorities.Authority.{cut-of-text-without-marks}
use Rattle.uri_parts.proofs.Authorities.AuthorityCuts.{suffix}
use Rattle.uri_parts.proofs.Splitting.Cuts.{cut-at-end-of-text-without-marks}

-- authorities, positions: those of an authority that begins at start, and its host at host
abbrev pub places : ℕ → ℕ → List ℕ → List ℕ → AuthorityPositions
places start host name suffix = record {
  start = start;
  host_start = host;
  host_end = host + length name;
  end = host + length (name ++ suffix);
}

-- a host with what is after it, and userinfo before them
module _ (host suffix : List ℕ) (at : Lacks (codes "@") (host ++ suffix))
    (is_host : leading_host (host ++ suffix) ≡ host) where
  abbrev pub bare : List ℕ
  bare = host ++ suffix

  pub authority_at-without-userinfo : (place : ℕ) → authority_at place bare
      ≡ places place place host suffix
  authority_at-without-userinfo place =
      grind (arith, nat_tests, starts, cut-of-text-without-marks, codes, host, suffix, at)

  module _ (user : List ℕ) (outside : Lacks (codes "@") user) where
    abbrev text : List ℕ
    text = user ++ (64 ∷ (host ++ suffix))

    text-is-cut-at-first-at-sign : (before_any (codes "@") text ≡ user)
        × (from_any (codes "@") text ≡ 64 ∷ (host ++ suffix))
    text-is-cut-at-first-at-sign = cut-at-end-of-text-without-marks (codes "@") user
        (64 ∷ (host ++ suffix)) outside refl

    text-after-userinfo-begins-with-at-sign : starts 64 (from_any (codes "@") text) ≡ true
    text-after-userinfo-begins-with-at-sign = ap (starts 64) text-is-cut-at-first-at-sign.1

    pub authority_at-with-userinfo : (place : ℕ)
        → authority_at place text ≡ places place (place + (length user + 1)) host suffix
    authority_at-with-userinfo place =
        let first : host_start_of text ≡ 1 + length user = ap (λ t. delimited_length 1
        (cond t (Some (before_any (codes "@") text)) None)) text-after-userinfo-begins-with-at-sign
        ∙ ap (λ t. 1 + length t) text-is-cut-at-first-at-sign.0 in
        let host_is : (authority_parts text).host ≡ host =
        ap leading_host (cond-true _ _ _ text-after-userinfo-begins-with-at-sign
        ∙ ap (drop 1) text-is-cut-at-first-at-sign.1) ∙ is_host in
        let l = length-append user (64 ∷ (host ++ suffix)) in
        let s : place + host_start_of text ≡ place + (length user + 1) = omega (arith, first) in
        let e : place + host_end_of text ≡ place + (length user + 1) + length host =
        omega (arith, first, ap length host_is) in
        let t : place + length text ≡ place + (length user + 1) + length (host ++ suffix) =
        omega (arith, l) in
        λ i. record { start = place; host_start = s i; host_end = e i; end = t i }
