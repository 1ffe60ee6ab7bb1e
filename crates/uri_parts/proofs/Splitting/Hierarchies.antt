-- An authority and what follows it, as they are cut.
use Rattle.uri_parts.proofs.Common.{◌≡◌, ℕ, Bool, true, cond, List, drop, sym, ap, ◌∙◌, ◌&&◌, ⊎_elim, arith, codes, IsUtf8, cases_Bool, and_left, nat_tests, TableSet, before_any, from_any, has_authority, after_authority, when, Kind, absent_or_passes, is_authority, found_authority_length}
use Rattle.uri_parts.proofs.Parsing.Acceptance.{finds_authority, parses_path, parses_authority, parses_hier_part}
use Rattle.uri_parts.proofs.Authorities.AuthorityCuts.{length-of-text-before-marks}
use Rattle.uri_parts.proofs.Authorities.FoundAuthorities.{finds_authority-is-parses_whole_authority, found-authority-is-the-cut-one}
use Rattle.uri_parts.proofs.TextKinds.Separations.{SeparatesComponents}
use Rattle.uri_parts.proofs.Parsing.ScanStops.{utf8_after_slashes}
use Rattle.uri_parts.proofs.Authorities.WholeAuthorities.{is_authority_for-is-parsed-whole}

module _ (segment : TableSet) (kind : Kind) (w : SeparatesComponents segment kind) where
  pub text_after_found_authority : (bs : List ℕ) → IsUtf8 bs → finds_authority kind bs ≡ true
      → drop (found_authority_length kind bs) bs ≡ from_any (codes "/?#") bs
  text_after_found_authority bs u h =
      grind (arith, nat_tests, found-authority-is-the-cut-one, length-of-text-before-marks)

  authority-is-found-iff-cut-is-authority : (bs : List ℕ) → IsUtf8 bs
      → finds_authority kind bs ≡ is_authority kind (before_any (codes "/?#") bs)
  authority-is-found-iff-cut-is-authority bs u =
      finds_authority-is-parses_whole_authority segment kind w bs u ∙ sym
      (is_authority_for-is-parsed-whole kind.userinfo kind.reg_name (before_any (codes "/?#") bs))

  authority-and-path-are-parsed-as-cut : (bs : List ℕ)
      → IsUtf8 bs → parses_authority kind bs ≡ (is_authority kind (before_any (codes "/?#") bs)
      && parses_path kind (from_any (codes "/?#") bs))
  unfolding parses_authority
  authority-and-path-are-parsed-as-cut bs u = ⊎_elim (λ h. ap
      (λ r. finds_authority kind bs && parses_path kind r) (text_after_found_authority bs u h))
      (λ h. and_left _ _ h ∙ sym (and_left _ _ h)) (cases_Bool (finds_authority kind bs))
      ∙ ap (λ t. t && parses_path kind (from_any (codes "/?#") bs))
      (authority-is-found-iff-cut-is-authority bs u)

  unfoldable pub hierarchy_is_valid : List ℕ → Bool
  hierarchy_is_valid rest = absent_or_passes (when (has_authority rest) (before_any (codes "/?#")
      (drop 2 rest))) (is_authority kind) && parses_path kind (after_authority rest)

  pub parses_authority-is-valid : (rest : List ℕ) → has_authority rest ≡ true → IsUtf8 rest
      → parses_authority kind (drop 2 rest) ≡ hierarchy_is_valid rest
  unfolding hierarchy_is_valid
  parses_authority-is-valid rest e u =
      authority-and-path-are-parsed-as-cut (drop 2 rest) (utf8_after_slashes rest e u) ∙ sym (ap
      (λ t. absent_or_passes (when t (before_any (codes "/?#") (drop 2 rest))) (is_authority kind)
      && parses_path kind (cond t (from_any (codes "/?#") (drop 2 rest)) rest)) e)

  pub parses_hier_part-is-valid : (rest : List ℕ) → IsUtf8 rest → parses_hier_part kind rest
      ≡ hierarchy_is_valid rest
  unfolding parses_hier_part hierarchy_is_valid
  parses_hier_part-is-valid rest u = grind (arith, nat_tests, parses_authority-is-valid)
