-- A text of a kind is of each kind with wider sets.
use Rattle.uri_ops.proofs.Common.{arith, ◌≡◌, ℕ, Bool, true, not, List, [], ◌∷◌, refl, ◌&&◌, ◌||◌, is_some, list_all, IsUtf8, and_parts, and_from, TableSet, IsSubset, allows, allows_past_ascii, Token, Char, Octet, tokens, allows_token, is_valid_for, IsValidFor, components, Kind, is_authority, has_colon_in_first_segment, IsTextOf, HostKind, IsHost, is_authority_for-sound, is_authority_for-complete, HasComponentSets, IsWithin, ascii_kind, IfSome-weaken, common_steps}
use Rattle.uri_ops.proofs.Meanings.AllowedParts.{is_set_text, set-text-from-utf8, set-text-is-utf8, set-text-is-valid}
use Rattle.uri_ops.proofs.Meanings.TextParts.{components-of-utf8-are-utf8, grammar-gives-components-of-kind, components-of-kind-meet-grammar}
use Rattle.uri_ops.proofs.Meanings.AuthorityMeanings.{kind-sets-lack-authority-delimiters}

module _ (s t : TableSet) (w : IsSubset s t) where
  wider-set-allows-past-ascii : (c : ℕ) → allows_past_ascii s c ≡ true
      → allows_past_ascii t c ≡ true
  unfolding allows_past_ascii
  wider-set-allows-past-ascii c e = grind arith

  wider-set-allows-character : (c : ℕ) → allows s c ≡ true → allows t c ≡ true
  wider-set-allows-character c e = grind (arith, wider-set-allows-past-ascii)

  wider-set-allows-tokens : (ts : List Token) → list_all (allows_token s) ts ≡ true
      → list_all (allows_token t) ts ≡ true
  wider-set-allows-tokens [] e = refl
  wider-set-allows-tokens (Char c ∷ ts) e = let p = and_parts _ _ e in
      and_from _ _ (wider-set-allows-character c p.0) (wider-set-allows-tokens ts p.1)
  wider-set-allows-tokens (Octet value ∷ ts) e = let p = and_parts _ _ e in
      and_from _ _ (w.pct_encoded p.0) (wider-set-allows-tokens ts p.1)

  valid-text-is-valid-for-wider-set : (text : List ℕ) → IsValidFor s text → IsValidFor t text
  unfolding is_valid_for
  valid-text-is-valid-for-wider-set text e = wider-set-allows-tokens (tokens text) e

  set-text-is-text-of-wider-set : (text : List ℕ) → is_set_text s text ≡ true
      → is_set_text t text ≡ true
  set-text-is-text-of-wider-set text e = set-text-from-utf8 t text (set-text-is-utf8 s text e)
      (valid-text-is-valid-for-wider-set text (set-text-is-valid s text e))

host-is-host-for-wider-set : (s t : TableSet) → IsSubset s t → (text : List ℕ) (host : HostKind)
    → IsHost s text host → IsHost t text host
host-is-host-for-wider-set s t w text o h =
    grind (arith, common_steps, h, valid-text-is-valid-for-wider-set)

module _ (kind wide : Kind) (sets : HasComponentSets wide) (w : IsWithin kind wide) where
  authority-is-authority-of-wider-kind : (a : List ℕ) → IsUtf8 a → is_authority kind a ≡ true
      → is_authority wide a ≡ true
  authority-is-authority-of-wider-kind a u e =
      let h = is_authority_for-sound _ _ a e in
      is_authority_for-complete _ _ (kind-sets-lack-authority-delimiters _ sets) a _ u (record {
        whole = h.whole;
        userinfo = IfSome-weaken _ _ _
            (λ x v. valid-text-is-valid-for-wider-set _ _ w.userinfo x v) h.userinfo;
        host = (h.host.0, host-is-host-for-wider-set _ _ w.reg_name _ _ h.host.1);
        port = h.port;
      })

  wider-kind-keeps-scheme-rule : (x y : Bool) → (x || (not kind.needs_scheme && y)) ≡ true
      → (x || (not wide.needs_scheme && y)) ≡ true
  wider-kind-keeps-scheme-rule x y e = grind (arith, common_steps)

  pub text-is-of-wider-kind : (text : List ℕ) → IsTextOf kind text → IsTextOf wide text
  text-is-of-wider-kind text x =
      let p = components text in
      let parts = grammar-gives-components-of-kind kind p (components-of-utf8-are-utf8 text x.utf8)
      x.grammar in
      record {
        utf8 = x.utf8;
        grammar = components-of-kind-meet-grammar wide p (record {
          scheme = parts.scheme;
          authority = IfSome-weaken p.authority (λ a. IsUtf8 a × (is_authority kind a ≡ true))
              (λ a. IsUtf8 a × (is_authority wide a ≡ true))
              (λ a h. (h.0, authority-is-authority-of-wider-kind a h.0 h.1)) parts.authority;
          path = set-text-is-text-of-wider-set kind.path wide.path w.path p.path parts.path;
          query = IfSome-weaken p.query (λ x. is_set_text kind.query x ≡ true)
              (λ x. is_set_text wide.query x ≡ true)
              (λ x h. set-text-is-text-of-wider-set kind.query wide.query w.query x h) parts.query;
          fragment = IfSome-weaken p.fragment (λ x. is_set_text kind.fragment x ≡ true)
              (λ x. is_set_text wide.fragment x ≡ true) (λ x h. set-text-is-text-of-wider-set
              kind.fragment wide.fragment w.fragment x h) parts.fragment;
          needs = wider-kind-keeps-scheme-rule (is_some p.scheme)
              (is_some p.authority || not (has_colon_in_first_segment p.path)) parts.needs;
        });
      }

-- conversions: the sets of the kind without characters past ASCII are within those of the kind
pub ascii_kind-is-within-kind : (kind : Kind) → IsWithin (ascii_kind kind) kind
ascii_kind-is-within-kind kind = grind arith

set-is-subset-of-itself : (set : TableSet) → IsSubset set set
set-is-subset-of-itself set =
    record { ascii = λ c e. e; pct_encoded = λ e. e; ucschar = λ e. e; iprivate = λ e. e }

pub kind-with-scheme-is-within-kind : (kind : Kind)
    → IsWithin (record kind { needs_scheme = true }) kind
kind-with-scheme-is-within-kind kind = grind (arith, set-is-subset-of-itself)
