use Rattle.uri_mend.proofs.Common.{◌≡◌, false, sym, ⊎_elim, arith, cases_Bool, false≢true, is_of_kind}
use Rattle.uri_parts.proofs.Offered.{empty_is_reference}
use Rattle.uri_mend.proofs.mending.positions_of_prefix.Goals as goal

pub empty-requires : goal.empty-requires
empty-requires g c = grind (arith, empty_is_reference)

pub returns-in-Err-clause-some : goal.returns-in-Err-clause-some
returns-in-Err-clause-some g c =
    let kind = g.K.Kind.kind in
    let none : is_of_kind kind c.args.prefix.now ≡ false = ⊎_elim
    (λ e. absurd (false≢true (c.in-Err.ensures.accepts.1 e)))
    (λ e. e) (cases_Bool (is_of_kind kind c.args.prefix.now)) in
    sym none
