-- The rules on authorities: RFC 3986, section 3.2.
use Rattle.uri_abnf.proofs.Common.{ℕ, List, [], ◌++◌, refl, sym, ap, subst, ◌∙◌, arith, codes, IsUtf8, digit_set, IfSome-weaken, AuthorityParts, IsAuthorityFor, Lacks, marked, Kind, valid_text_lacks_excluded_marks, Abnf, IsOf, any, opt, lit, ◌⋅◌, Rules, IsAuthorityDerived, port, DIGIT}
use Rattle.uri_ops.proofs.Offered.{authority-parts-are-utf8, authority-text-lacks-its-ends}
use Rattle.uri_abnf.proofs.Delimited.{after-gives, after-is-had, before-gives, before-is-had}
use Rattle.uri_abnf.proofs.Hosts.{host-gives, host-is-had, host-lacks}
use Rattle.uri_abnf.proofs.Rules.{Fit, IsRuleOf}
use Rattle.uri_abnf.proofs.Sets.{digit-set}
use Rattle.uri_abnf.proofs.Texts.{cut-gives, cut-is-had, same-text, at-mark, colon-mark}
use Rattle.uri_abnf.proofs.Tokens.{any-is-valid, valid-is-any}

pub port-rule : IsRuleOf digit_set port
unfolding port
port-rule t = (
  λ l.
      let d = same-text {h = any DIGIT} (λ cs h. h) l in
      (l.utf8, any-is-valid DIGIT digit_set digit-set t d),
  λ v. same-text (λ cs h. h) (valid-is-any DIGIT digit_set digit-set t v.0 v.1),
)

module _ (r : Rules) (kind : Kind) (w : Fit r kind) where
  -- `[ userinfo "@" ] host [ ":" port ]`
  abbrev shape : Abnf
  shape = opt (r.userinfo ⋅ lit "@") ⋅ r.host ⋅ opt (lit ":" ⋅ port)

  pub authority-derives : (t : List ℕ) → IsOf r.authority t
      → (p : AuthorityParts) × IsAuthorityDerived r t p
  authority-derives t l =
      let k = cut-gives (opt (r.userinfo ⋅ lit "@")) (r.host ⋅ opt (lit ":" ⋅ port)) t
      (same-text {h = shape} (λ cs. (w.made.authority cs).0) l) in
      let j = cut-gives r.host (opt (lit ":" ⋅ port)) k.y k.second in
      let u = before-gives (codes "@") at-mark r.userinfo k.x k.first in
      let p = after-gives (codes ":") colon-mark port j.y j.second in (
        record { userinfo = u.part; host = j.x; port = p.part },
        record {
          whole = ap (λ s. s ++ (j.x ++ marked (codes ":") p.part [])) u.whole
              ∙ ap (λ s. k.x ++ (j.x ++ s)) p.whole
              ∙ ap (λ s. k.x ++ s) (sym j.whole) ∙ sym k.whole;
          userinfo = u.is_of;
          host = j.first;
          port = p.is_of;
        },
      )

  pub derived-is-authority : (t : List ℕ) (p : AuthorityParts) → IsAuthorityDerived r t p
      → IsOf r.authority t
  derived-is-authority t p d = subst (IsOf r.authority) d.whole (same-text {g = shape}
      (λ cs. (w.made.authority cs).1) (cut-is-had (opt (r.userinfo ⋅ lit "@"))
      (r.host ⋅ opt (lit ":" ⋅ port)) _ _
      (before-is-had (codes "@") at-mark r.userinfo p.userinfo d.userinfo) (cut-is-had r.host
      (opt (lit ":" ⋅ port)) _ _ d.host (after-is-had (codes ":") colon-mark port p.port d.port))))

  pub derived-authority-follows : (t : List ℕ) (p : AuthorityParts) → IsAuthorityDerived r t p
      → IsAuthorityFor kind.userinfo kind.reg_name t p
  derived-authority-follows t p d = grind (arith, host-gives, port-rule)

  pub following-authority-derives : (t : List ℕ) (p : AuthorityParts) → IsUtf8 t
      → IsAuthorityFor kind.userinfo kind.reg_name t p → IsAuthorityDerived r t p
  following-authority-derives t p u a =
      let parts = authority-parts-are-utf8 p.userinfo p.port p.host
      (subst IsUtf8 (sym a.whole) u) in
      grind (arith, host-is-had, port-rule)

  userinfo-lacks : (x : List ℕ) → IsOf r.userinfo x → Lacks (codes "/?#") x
  userinfo-lacks x l = valid_text_lacks_excluded_marks kind.userinfo (codes "/?#")
      w.apart.users_percent w.userinfo_marks x l.utf8 ((w.userinfo x).0 l).1

  port-lacks : (x : List ℕ) → IsOf port x → Lacks (codes "/?#") x
  port-lacks x l = valid_text_lacks_excluded_marks digit_set (codes "/?#") refl refl x l.utf8
      ((port-rule x).0 l).1

  -- an authority lacks the delimiters that end it
  pub authority-lacks : (t : List ℕ) → IsOf r.authority t → Lacks (codes "/?#") t
  authority-lacks t l =
      let k = authority-derives t l in
      let p = k.0 in
      let d = k.1 in
      let h = host-gives r kind w p.host d.host in
      subst (Lacks (codes "/?#")) d.whole (authority-text-lacks-its-ends p
      (IfSome-weaken p.userinfo _ _ userinfo-lacks d.userinfo)
      (host-lacks r kind w p.host h.0 d.host.utf8 h.1) (IfSome-weaken p.port _ _ port-lacks d.port))
