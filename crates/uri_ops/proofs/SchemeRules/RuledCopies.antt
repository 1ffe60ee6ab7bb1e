-- A text that is normal but for what the rules of its scheme change, copied with that changed.
use Rattle.uri_ops.proofs.Common.{common_steps, ◌≡◌, ℕ, ◌+◌, ◌-◌, Bool, true, false, cond, List, [], ◌++◌, length, take, refl, sym, ap, subst, ◌∙◌, ◌&&◌, arith, append_assoc, length-append, Option, Some, None, option_map, codes, is_some, IsCharBoundary, IsUtf8, take-append_seam, Token, print, Components, components, marked, recompose, Kind, IsTextOf, packed, positions_of, boundary_after_mark, HasComponentSets, is_empty, AuthorityMeaning, Meaning, meaning_of, before_path, changed_components, has_default_host, has_root_path, is_text, ruled_text, normal_authority, normal_components, normal_scheme, normal_text, Rules, authority_under, is_scheme_of, meaning_under, path_under, root, under_rules, guarded, and_parts, bytes_eq-Decides, recompose-components}
use Rattle.uri_ops.proofs.Normal.NormalTexts.{components-of-normal_text}
use Rattle.uri_ops.proofs.Paths.DotRuns.{empty-text-is-nil}
use Rattle.uri_ops.proofs.SchemeRules.RuledMeanings.{map-cond, print-is-empty-without-tokens}
use Rattle.uri_ops.proofs.SchemeRules.RuledTexts.{ruled-text-has-meaning-under, ruled-text-is-text-of-kind}

-- the text before the path without the host `localhost`
pub record IsBeforeHost (text before : List ℕ) (n : ℕ) : Type 0 where
  pub cut : IsCharBoundary text (length text - n)
  pub holds : take (length text - n) text ≡ before

pub text-before-localhost : (scheme : Option (List ℕ)) (text : List ℕ) → IsUtf8 text
    → text ≡ marked [] scheme (codes ":") ++ marked (codes "//") (Some (codes "localhost")) []
    → IsBeforeHost text (marked [] scheme (codes ":") ++ marked (codes "//") (Some []) []) 9
text-before-localhost scheme text utf8 e =
    grind (arith, common_steps, append_assoc, length-append, boundary_after_mark, take-append_seam)

-- the copy of a text with these components, and with what the rules change
module _ (drops_host adds_root : Bool) (p : Components)
    (empty : adds_root ≡ true → p.path ≡ []) (prefix added : List ℕ)
    (e : prefix ≡ before_path (changed_components drops_host false p))
    (f : added ≡ cond adds_root (codes "/") []) where
  abbrev changed : Components
  changed = changed_components drops_host adds_root p

  pub changed-copy-has-positions : (path_end query_end : ℕ)
      → (drops_host ≡ true → p.authority ≡ Some (codes "localhost")) → path_end ≡ length (prefix
      ++ added) + length p.path → query_end ≡ length (prefix ++ added) + (length p.path
      + length (marked (codes "?") p.query [])) → record (packed (positions_of p)) {
        host_end = cond drops_host (packed (positions_of p)).host_start
            (packed (positions_of p)).host_end;
        path_start = length prefix;
        path_end = path_end;
        query_end = query_end;
      } ≡ packed (positions_of changed)
  changed-copy-has-positions path_end query_end host g h = grind (arith, common_steps)

authority-under-rules : (local : Bool) (o : Option AuthorityMeaning)
    → option_map normal_authority (option_map (authority_under local) o) ≡ cond (local && is_text
    (codes "localhost") (option_map normal_authority o)) (Some []) (option_map normal_authority o)
authority-under-rules local o = grind (arith, common_steps, map-cond)

path-under-rules : (rooted local : Bool) (o : Option AuthorityMeaning) (ts : List Token)
    → guarded (option_map normal_authority (option_map (authority_under local) o))
    (print (path_under rooted (is_some o) ts))
    ≡ (let path = guarded (option_map normal_authority o) (print ts) in
    cond ((rooted && is_some (option_map normal_authority o)) && is_empty path) (codes "/") path)
unfolding lib.Utf8.encode
path-under-rules rooted local o ts =
    grind (arith, common_steps, map-cond, print-is-empty-without-tokens)

path-under-rules-of-scheme : (roots : List ℕ → Bool) (local : Bool) (scheme : Option (List ℕ))
    (o : Option AuthorityMeaning) (ts : List Token) → (let rooted = is_scheme_of roots scheme in
    let under = print (path_under rooted (is_some o) ts) in
    let path = cond (is_some scheme) (guarded (option_map normal_authority o) (print ts))
    (print ts) in
    cond (is_some scheme)
    (guarded (option_map normal_authority (option_map (authority_under local) o)) under) under
    ≡ cond ((rooted && is_some (option_map normal_authority o)) && is_empty path) (codes "/") path)
path-under-rules-of-scheme roots local None o ts = refl
path-under-rules-of-scheme roots local (Some s) o ts = path-under-rules (roots s) local o ts

changed-components-are-normal : (rules : Rules) (m : Meaning) → normal_scheme m.scheme ≡ m.scheme
    → (let p = normal_components m in normal_components (under_rules rules m)
    ≡ changed_components (has_default_host rules.locals p) (has_root_path rules.roots p) p)
changed-components-are-normal rules m e =
    grind (arith, authority-under-rules, is_text, path-under-rules-of-scheme)

-- a text that is normal by the ports of the rules
module _ (kind : Kind) (rules : Rules) (sets : HasComponentSets kind) (text : List ℕ)
    (w : IsTextOf kind text) (normal : text ≡ normal_text (meaning_of kind rules.ports text)) where
  changed-components-are-those-under-rules :
      normal_components (meaning_under kind rules text)
      ≡ (let p = components text in
      changed_components (has_default_host rules.locals p) (has_root_path rules.roots p) p)
  changed-components-are-those-under-rules =
      let m = meaning_of kind rules.ports text in
      let split : components text ≡ normal_components m = ap components normal
      ∙ components-of-normal_text kind rules.ports sets text w in
      subst (λ q. normal_components (under_rules rules m)
      ≡ changed_components (has_default_host rules.locals q) (has_root_path rules.roots q) q)
      (sym split)
      (changed-components-are-normal rules m
      (ap (λ q. normal_scheme q.scheme) (sym split)))

  -- with what the rules change it is the normal text under them,
  pub changed-text-is-normal-text : (made : List ℕ) → (let p = components text in made ≡ recompose
      (changed_components (has_default_host rules.locals p) (has_root_path rules.roots p) p))
      → made ≡ normal_text (meaning_under kind rules text)
  changed-text-is-normal-text made e =
      e ∙ ap recompose (sym changed-components-are-those-under-rules)

  -- and has these components
  pub components-of-changed-text : (made : List ℕ) → (let p = components text in made ≡ recompose
      (changed_components (has_default_host rules.locals p) (has_root_path rules.roots p) p))
      → (let p = components text in components made
      ≡ changed_components (has_default_host rules.locals p) (has_root_path rules.roots p) p)
  components-of-changed-text made e = ap components (changed-text-is-normal-text made e)
      ∙ subst (λ m. components (normal_text m) ≡ normal_components m) (ruled-text-has-meaning-under
      kind rules sets text w) (components-of-normal_text kind rules.ports sets
      (ruled_text kind rules text) (ruled-text-is-text-of-kind kind rules sets text w))
      ∙ changed-components-are-those-under-rules

  -- where they change nothing, it is that itself
  pub unruled-text-is-its-normal-text : has_default_host rules.locals (components text) ≡ false
      → has_root_path rules.roots (components text) ≡ false
      → text ≡ normal_text (meaning_under kind rules text)
  unruled-text-is-its-normal-text host root =
      changed-text-is-normal-text text (sym (recompose-components text)
      ∙ (λ i. recompose (changed_components (sym host i) (sym root i) (components text))))

-- copies: what is asked of a text in which the rules change the host or the path
pub default-host-is-localhost : (local : Bool) (o : Option (List ℕ))
    → (local && is_text (codes "localhost") o) ≡ true → o ≡ Some (codes "localhost")
default-host-is-localhost local o e = grind (arith, common_steps, bytes_eq-Decides)

pub path-for-root-is-empty : (rooted : Bool) (path : List ℕ)
    → (rooted && is_empty path) ≡ true → path ≡ []
path-for-root-is-empty rooted path e = empty-text-is-nil path (and_parts rooted _ e).1
