use Rattle.uri_parts.proofs.Common.{◌≡◌, ◌∙◌, length, not, eqb, ap, arith, ⊎_elim, is_some, IsUtf8, eq-eqb, ne_eqb, host_end_of}
use Rattle.uri_parts.proofs.Authorities.AuthorityPlaces.{port_is_after_host}
use Rattle.uri_parts.proofs.component.Authority.has_port.Goals as goal

pub returns : goal.returns
returns g c =
    let text = c.args.self.text.now in
    let u : IsUtf8 text = rw (← c.as_str-text.ensures.text) c.as_str-text.utf8 in
    let l : length c.as_str-text.result.now ≡ length text = ap length c.as_str-text.ensures.text in
    ap (λ n. not (eqb c.args.self.host_end n)) l
    ∙ ap (λ n. not (eqb n (length text))) c.args.self.ends
    ∙ ⊎_elim (λ w. ap not (eq-eqb _ _ w.0) ∙ ap is_some w.1)
    (λ w. ap not (ne_eqb (host_end_of text) (length text) (λ e. omega (arith, w.inside, e)))
    ∙ ap is_some w.is) (port_is_after_host g.U.Encoder.set g.R.Encoder.set text c.args.self.valid u)
