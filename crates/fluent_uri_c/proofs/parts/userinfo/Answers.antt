use Rattle.fluent_uri_c.proofs.Common.{arith}
use Rattle.fluent_uri_c.proofs.Places.{IsSpan-of-equal-span, userinfo-span-if-absent, userinfo-span-if-present}
use Rattle.fluent_uri_c.proofs.parts.userinfo.Goals as goal

pub returns-then-inside : goal.returns-then-inside
returns-then-inside g c = userinfo-span-if-present g.K.Kind.kind c.args.text.now c.args.at
    c.in-Some.inside c.requires.at c.requires.of_kind c.utf8.text c.in-Some.is c.if-inside.true

pub returns-else-inside : goal.returns-else-inside
returns-else-inside g c = grind (arith, IsSpan-of-equal-span, userinfo-span-if-absent)
