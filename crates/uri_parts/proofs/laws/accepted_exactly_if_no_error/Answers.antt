use Rattle.uri_parts.proofs.Common.{◌≡◌, sym, refl, arith, Result, Ok, Err, None, IsOk, result_err, none-some, false≢true}
use Rattle.uri_parts.proofs.laws.accepted_exactly_if_no_error.Goals as goal

ok_is : {A E : Type 0} (r : Result A E) → result_err r ≡ None → IsOk r
ok_is (Ok x) e = refl
ok_is (Err x) e = absurd (none-some x (sym e))

none_is : {A E : Type 0} (r : Result A E) → IsOk r → result_err r ≡ None
none_is (Ok x) e = refl
none_is (Err x) e = absurd (false≢true e)

pub returns : goal.returns
returns g c = grind (arith, ok_is, none_is)
