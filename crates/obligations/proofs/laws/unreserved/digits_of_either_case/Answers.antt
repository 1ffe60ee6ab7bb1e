use Rattle.std.proofs.Common.{refl, sym, [], arith, lit<}
use Rattle.std.proofs.lemmas.Str.{encode_ascii}
use Rattle.std.specs.Prelude.{codes}
use Rattle.fluent_uri.specs.Representation.{Represents}
use Rattle.obligations.proofs.laws.unreserved.digits_of_either_case.Goals as goal

pub returns-clause-lower : goal.returns-clause-lower
unfolding Represents
returns-clause-lower c = (
  codes "a",
  (
    codes "%3a",
    (
      refl,
      (refl, λ e. omega arith, sym (encode_ascii 97 (lit< tt))),
      (codes "%3a", ([], (refl, (51, (97, (refl, refl, refl, refl))), refl))),
    ),
  ),
)

pub returns-clause-upper : goal.returns-clause-upper
unfolding Represents
returns-clause-upper c = (
  codes "a",
  (
    codes "%3A",
    (
      refl,
      (refl, λ e. omega arith, sym (encode_ascii 97 (lit< tt))),
      (codes "%3A", ([], (refl, (51, (65, (refl, refl, refl, refl))), refl))),
    ),
  ),
)
