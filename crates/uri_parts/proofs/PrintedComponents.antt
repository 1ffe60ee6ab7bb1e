-- What `Debug` prints of components is what it prints of their texts.
use Rattle.uri_parts.proofs.Common.{◌≡◌, ℕ, List, refl, ap, ◌∙◌, option_map, arith, Option, Some, None, codes, debug_option, debug_str, nat_tests, text_of, host_kind_of, HasRegisteredName, HostKind, debug_host, debug_host_of, debug_field, debug_authority_of, debug_reference_of}
use Rattle.uri_pct.specs.declared.pct_enc.EStr.{EStr}
use Rattle.uri_parts.specs.declared.component.HostOf.{HostOf}
use Rattle.uri_parts.specs.declared.component.HostOf.TheVariants as hosts

pub debug_option-of-map : {X Y : Type 0} (text : X → Y) (shown : Y → Option (List ℕ)) (o : Option X)
    → debug_option (λ x. shown (text x)) o ≡ debug_option shown (option_map text o)
debug_option-of-map text shown None = refl
debug_option-of-map text shown (Some x) = refl

pub debug_host-of-kind : {E : _} {g : _} (r : HostOf (EStr E g)) (kind : HostKind) (text : List ℕ)
    → host_kind_of r ≡ kind → HasRegisteredName r text
    → debug_host_of (λ e. debug_str (text_of e)) r ≡ debug_host kind text
debug_host-of-kind (hosts.Ipv4 a) kind text is named = ap (λ k. debug_host k text) is
debug_host-of-kind (hosts.Ipv6 a) kind text is named = ap (λ k. debug_host k text) is
debug_host-of-kind hosts.IpvFuture kind text is named = ap (λ k. debug_host k text) is
debug_host-of-kind (hosts.RegName name) kind text is named =
    ap (λ t. debug_field (codes "RegName") (debug_str t)) named ∙ ap (λ k. debug_host k text) is

-- what the components of an authority print, equal each, make up what it prints
pub debug_authority_of-equal : {u u' h h' k k' p p' : Option (List ℕ)} → u ≡ u'
    → h ≡ h' → k ≡ k' → p ≡ p' → debug_authority_of u h k p ≡ debug_authority_of u' h' k' p'
debug_authority_of-equal {u} {u'} {h} {h'} {k} {k'} {p} {p'} eu eh ek ep = grind (arith, nat_tests)

-- what the components of a reference print, equal each, make up what it prints
pub debug_reference_of-equal : (name : List ℕ) (s : Option (List ℕ))
    {a a' p p' q q' f f' : Option (List ℕ)} → a ≡ a' → p ≡ p' → q ≡ q' → f ≡ f'
    → debug_reference_of name s a p q f ≡ debug_reference_of name s a' p' q' f'
debug_reference_of-equal name s {a} {a'} {p} {p'} {q} {q'} {f} {f'} ea ep eq ef =
    grind (arith, nat_tests)
