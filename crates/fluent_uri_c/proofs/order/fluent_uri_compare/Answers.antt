-- Two texts are one key exactly if they are equal in the order of keys.
use Rattle.std.proofs.Common.{◌≡◌, Less, Equal, Greater, refl, sym, ◌∙◌, arith}
use Rattle.fluent_uri_c.proofs.Orders.{equal-keys-are-one}
use Rattle.fluent_uri_c.proofs.order.fluent_uri_compare.Goals as goal

pub returns-in-Less-clause-same : goal.returns-in-Less-clause-same
returns-in-Less-clause-same c =
    let same = equal-keys-are-one c.args.kind c.args.options c.args.one.now c.args.other.now
    c.order_by_numbers.result c.order_by_numbers.ensures in
    (λ e. absurd (omega arith), λ one. let no : Less ≡ Equal = sym c.in-Less.is ∙ same.1 one in cc)

pub returns-in-Equal-clause-same : goal.returns-in-Equal-clause-same
returns-in-Equal-clause-same c =
    let same = equal-keys-are-one c.args.kind c.args.options c.args.one.now c.args.other.now
    c.order_by_numbers.result c.order_by_numbers.ensures in
    (λ e. same.0 c.in-Equal.is, λ one. refl)

pub returns-in-Greater-clause-same : goal.returns-in-Greater-clause-same
returns-in-Greater-clause-same c =
    let same = equal-keys-are-one c.args.kind c.args.options c.args.one.now c.args.other.now
    c.order_by_numbers.result c.order_by_numbers.ensures in (
      λ e. absurd (omega arith),
      λ one.
          let no : Greater ≡ Equal = sym c.in-Greater.is ∙ same.1 one in cc,
    )
