-- The meaning under a port function is a function of the bare meaning.
use Rattle.std.proofs.lemmas.Grind.{common_steps}
use Rattle.uri_ops.proofs.Common.{◌≡◌, ℕ, List, sym, ap, ◌∙◌, Option, None, arith, nat_tests, Kind, PortFunction, AuthorityMeaning, Meaning, port_meaning, authority_meaning, meaning_of, bare_meaning_of, under, common_steps}

-- meanings of ports: the authority's meaning with its port under this default
abbrev pub with_default : Option ℕ → AuthorityMeaning → AuthorityMeaning
with_default default a = record a { port = port_meaning default a.port }

pub bare-authority-meaning-with_default : (kind : Kind) (default : Option ℕ) (authority : List ℕ)
    → with_default default (authority_meaning kind None authority)
    ≡ authority_meaning kind default authority
bare-authority-meaning-with_default kind default authority = grind (arith, nat_tests)

-- meanings of ports: leaving a default port out twice is leaving it out once
port_meaning-is-idempotent : (default : Option ℕ) (port : Option (List ℕ))
    → port_meaning default (port_meaning default port) ≡ port_meaning default port
port_meaning-is-idempotent default port = grind (arith, common_steps)

-- meanings of ports: twice without a default port, an authority's meaning is as once without it
with_default-is-idempotent : (default : Option ℕ) (a : AuthorityMeaning)
    → with_default default (with_default default a) ≡ with_default default a
with_default-is-idempotent default a =
    λ i. record a { port = port_meaning-is-idempotent default a.port i }

-- meanings of ports: an authority whose meaning without a default is another's under it has the
-- same under it
pub authority_meaning-from-bare-meaning : (kind : Kind) (default : Option ℕ) (text authority
    : List ℕ) → authority_meaning kind None text ≡ authority_meaning kind default authority
    → authority_meaning kind default text ≡ authority_meaning kind default authority
authority_meaning-from-bare-meaning kind default text authority e =
    sym (bare-authority-meaning-with_default kind default text) ∙ ap (with_default default) (e
    ∙ sym (bare-authority-meaning-with_default kind default authority))
    ∙ with_default-is-idempotent default (authority_meaning kind None authority)
    ∙ bare-authority-meaning-with_default kind default authority

-- meanings of ports: a meaning with another authority
with_authority : Meaning → Option AuthorityMeaning → Meaning
with_authority m authority = record m { authority = authority }

pub meaning_of-from-bare-meaning : (kind : Kind) (ports : PortFunction) (text : List ℕ)
    → meaning_of kind ports text ≡ under ports (bare_meaning_of kind text)
meaning_of-from-bare-meaning kind ports text = grind (arith, common_steps)
