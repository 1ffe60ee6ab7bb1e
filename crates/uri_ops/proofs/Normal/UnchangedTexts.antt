-- A text that is its own normal text, by what is asked of its bytes and its components.
use Rattle.uri_ops.proofs.Common.{◌≡◌, ℕ, Bool, true, false, cond, List, [], ◌++◌, sym, ap, subst, ◌∙◌, option_map, ⊎_elim, codes, Option, IfSome, IfNone, is_some, IsUtf8, and_parts, cases_Bool, decode_unreserved, TableSet, IsValidFor, print, IfSome-weaken, AuthorityParts, authority_parts, is_authority_for, recompose_authority, Components, IsSplitOf, components, has_authority, marked, recompose, starts, IsTextOf, Kind, is_authority, host_kind, is_host, PortFunction, is_authority_for-sound, components-are-split-of-text, HasComponentSets, authority_meaning, host_meaning, meaning_of, AreUnchanged, HasUnchangedOctets, IsUnchangedHost, IsUnchangedPort, KindLacksPastAscii, default_port_of, host_text, normal_authority, normal_path, normal_text, guarded, arith, common_steps}
use Rattle.uri_ops.proofs.Meanings.AllowedParts.{is_set_text, set-text-is-valid}
use Rattle.uri_ops.proofs.Meanings.AuthorityMeanings.{PartsUtf8, authority-parts-are-utf8}
use Rattle.uri_ops.proofs.Meanings.TextParts.{AreUtf8, ArePartsOfKind, components-of-utf8-are-utf8}
use Rattle.uri_ops.proofs.Normal.NormalTexts.{text-has-parts-of-kind}
use Rattle.uri_ops.proofs.Normal.UnchangedBytes.{delimited-component-of-unchanged-is-unchanged, unchanged-text-lacks-byte-E2, unchanged-text-splits}
use Rattle.uri_ops.proofs.Normal.UnchangedParts.{unchanged-text-decodes-to-itself, unchanged-option-decodes-to-itself, lower-name-is-its-normal-form}

host-of-authority-is-host : (users names : TableSet) (a : List ℕ)
    → is_authority_for users names a ≡ true → is_host names (authority_parts a).host ≡ true
unfolding is_authority_for
host-of-authority-is-host users names a e = (and_parts _ _ (and_parts _ _ (and_parts _ _ e).1).1).0

module _ (kind : Kind) (sets : HasComponentSets kind) (alone : Bool)
    (none : alone ≡ true → KindLacksPastAscii kind) where
  module _ (default : Option ℕ) where
    -- unchanged texts: an authority whose host and port are unchanged is its own normal form
    unchanged-authority-is-its-normal-form : (a : List ℕ) → IsUtf8 a → is_authority kind a ≡ true
        → HasUnchangedOctets alone a → IsUnchangedHost (authority_parts a).host
        → IsUnchangedPort default (authority_parts a).port
        → normal_authority (authority_meaning kind default a) ≡ a
    unchanged-authority-is-its-normal-form a u e octets host port =
        let parts : AuthorityParts = authority_parts a in
        let grammar = is_authority_for-sound kind.userinfo kind.reg_name a e in
        let utf8 : PartsUtf8 parts = authority-parts-are-utf8 parts.userinfo parts.port parts.host
        (subst IsUtf8 (sym grammar.whole) u) in
        let apart = unchanged-text-splits alone (marked [] parts.userinfo (codes "@"))
        (parts.host ++ marked (codes ":") parts.port [])
        (subst (HasUnchangedOctets alone) (sym grammar.whole) octets) in
        let user_same = unchanged-option-decodes-to-itself kind.userinfo alone
        (λ e. (none e).userinfo) sets.userinfo.percent parts.userinfo utf8.userinfo
        grammar.userinfo
        (delimited-component-of-unchanged-is-unchanged alone []
        (codes "@") parts.userinfo apart.0) in
        let host_bytes : HasUnchangedOctets alone parts.host =
        (unchanged-text-splits alone parts.host (marked (codes ":") parts.port []) apart.1).0 in
        let host_same : host_text (host_meaning kind.reg_name parts.host (host_kind parts.host))
        ≡ parts.host = ⊎_elim
        (λ begins. host.1 begins kind.reg_name
        (host-of-authority-is-host kind.userinfo kind.reg_name a e))
        (λ name. lower-name-is-its-normal-form kind sets parts.host utf8.host
        (host.0 name).1 (unchanged-text-lacks-byte-E2 alone parts.host host_bytes)
        (host.0 name).0 name)
        (cases_Bool (starts 91 parts.host)) in
        (λ i. recompose_authority (record {
          userinfo = user_same i;
          host = host_same i;
          port = port i;
        }))
        ∙ grammar.whole

    -- unchanged texts: the same of an authority that may be absent
    unchanged-authority-if-some-is-normal : (o : Option (List ℕ)) → IfSome o (λ a. IsUtf8 a
        × (is_authority kind a ≡ true)) → IfSome o (HasUnchangedOctets alone)
        → IfSome o (λ a. IsUnchangedHost (authority_parts a).host)
        → IfSome o (λ a. IsUnchangedPort default (authority_parts a).port)
        → option_map normal_authority (option_map (authority_meaning kind default) o) ≡ o
    unchanged-authority-if-some-is-normal o h octets host port =
        grind (arith, common_steps, unchanged-authority-is-its-normal-form)

-- unchanged texts: a path gets no guard `/.` if it doesn't begin with `//` or follows an authority
path-that-needs-no-guard-is-unchanged : (scheme authority : Option (List ℕ)) (path : List ℕ)
    → IfNone authority (has_authority path ≡ false)
    → cond (is_some scheme) (guarded authority path) path ≡ path
path-that-needs-no-guard-is-unchanged scheme authority path h = grind (arith, common_steps)

pub unchanged-text-is-its-normal-text : (kind : Kind)
    → HasComponentSets kind → (alone : Bool) → (alone ≡ true → KindLacksPastAscii kind)
    → (ports : PortFunction) (text : List ℕ) → IsTextOf kind text → HasUnchangedOctets alone text
    → (let p = components text in AreUnchanged p → IfSome p.authority (λ a. IsUnchangedPort
    (default_port_of ports p.scheme) (authority_parts a).port)
    → text ≡ normal_text (meaning_of kind ports text))
unchanged-text-is-its-normal-text kind sets alone none ports text w bytes unchanged port =
    let p : Components = components text in
    let split : IsSplitOf text p = components-are-split-of-text text in
    let utf8 : AreUtf8 p = components-of-utf8-are-utf8 text w.utf8 in
    let parts : ArePartsOfKind kind p = text-has-parts-of-kind kind text w in
    let from_authority = unchanged-text-splits alone (marked [] p.scheme (codes ":")) _
    (subst (HasUnchangedOctets alone) (sym split.whole) bytes) in
    let from_path = unchanged-text-splits alone (marked (codes "//") p.authority []) _
    from_authority.1 in
    let from_query = unchanged-text-splits alone p.path _ from_path.1 in
    let from_fragment =
    unchanged-text-splits alone (marked (codes "?") p.query []) _ from_query.1 in
    let authority = unchanged-authority-if-some-is-normal kind sets alone none
    (default_port_of ports p.scheme) p.authority parts.authority
    (delimited-component-of-unchanged-is-unchanged alone (codes "//") [] p.authority from_path.0)
    unchanged.host port in
    let query = unchanged-option-decodes-to-itself kind.query alone (λ e. (none e).query)
    sets.query.percent p.query utf8.query (IfSome-weaken p.query (λ q. is_set_text kind.query q
    ≡ true) (IsValidFor kind.query) (λ q h. set-text-is-valid kind.query q h) parts.query)
    (delimited-component-of-unchanged-is-unchanged alone (codes "?") [] p.query from_fragment.0) in
    let fragment = unchanged-option-decodes-to-itself kind.fragment alone (λ e. (none e).fragment)
    sets.fragment.percent p.fragment utf8.fragment (IfSome-weaken p.fragment
    (λ f. is_set_text kind.fragment f ≡ true) (IsValidFor kind.fragment)
    (λ f h. set-text-is-valid kind.fragment f h) parts.fragment)
    (delimited-component-of-unchanged-is-unchanged alone
    (codes "#") [] p.fragment from_fragment.1) in
    let decoded = ap (λ x. print (decode_unreserved kind.path x)) unchanged.path.dotless
    ∙ unchanged-text-decodes-to-itself kind.path alone (λ e. (none e).path) sets.path.percent p.path
    utf8.path (set-text-is-valid kind.path p.path parts.path) from_query.0 in
    let path : normal_path (meaning_of kind ports text) ≡ p.path =
    (λ i. cond (is_some (unchanged.scheme i)) (guarded (authority i) (decoded i)) (decoded i))
    ∙ path-that-needs-no-guard-is-unchanged p.scheme p.authority p.path split.no_authority in
    sym split.whole ∙ sym (λ i. recompose (record {
      scheme = unchanged.scheme i;
      authority = authority i;
      path = path i;
      query = query i;
      fragment = fragment i;
    }))
