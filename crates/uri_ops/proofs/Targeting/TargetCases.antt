-- Which case of the pseudocode a reference is, and the pieces of a target in each case.
use Rattle.uri_ops.proofs.Common.{◌≡◌, ℕ, ◌+◌, true, false, List, [], ◌++◌, length, sym, ap, ◌∙◌, option_map, arith, codes, Option, is_some, nat_tests, AuthorityPositions, Components, components, marked, recompose, authority_at, positions_of, WithScheme, before_path, IsCaseOf, target_in_case, with_final_path, dotted_target, target_of, None-from-is_none, not_some_is_none, common_steps}
use Rattle.uri_ops.specs.declared.resolve.target_case.TargetCase.{TargetCase}
use Rattle.uri_ops.specs.Models.TargetCases.{with_authority}
use Rattle.uri_ops.proofs.Normal.WrittenPlaces.{length-with-delimiter-after}
use Rattle.uri_ops.proofs.Targeting.Targets.{target-text-has-target-components}

pub case-gives-line : (case : TargetCase) (base r : Components) → IsCaseOf r case
    → dotted_target base r ≡ target_in_case case base r
case-gives-line case base r s = grind (arith, common_steps)

pub base-scheme-before-reference-authority : (b r : Components) (scheme before : List ℕ)
    → is_some r.scheme ≡ false → scheme ≡ marked [] b.scheme (codes ":") → before ≡ before_path r
    → scheme ++ before ≡ before_path (with_authority b r)
base-scheme-before-reference-authority b r scheme before s e f =
    cc (None-from-is_none r.scheme (not_some_is_none r.scheme s), not_some_is_none r.scheme s)

pub reference-authority-after-base-scheme : (b r : Components)
    (scheme : List ℕ) (places : Option AuthorityPositions) → scheme ≡ marked [] b.scheme (codes ":")
    → places ≡ option_map (authority_at (length scheme + 2)) r.authority
    → places ≡ (positions_of (with_authority b r)).authority
reference-authority-after-base-scheme b r scheme places e h =
    grind (arith, nat_tests, length-with-delimiter-after)

-- resolving: the text of a target with a scheme, without its dot segments, has the components that
-- it was made of
pub settled-text-has-settled-components : (text : List ℕ) → is_some (components text).scheme ≡ true
    → components (recompose (with_final_path (components text))) ≡ with_final_path (components text)
settled-text-has-settled-components text some =
    let c = components text in
    let t : target_of c c ≡ with_final_path c
    = ap with_final_path (case-gives-line WithScheme c c some) in
    sym (ap (λ x. components (recompose x)) t)
    ∙ target-text-has-target-components text text some ∙ t
