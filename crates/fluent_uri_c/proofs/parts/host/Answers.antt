use Rattle.fluent_uri_c.proofs.Places.{host-span-if-present}
use Rattle.fluent_uri_c.proofs.parts.host.Goals as goal

pub returns-in-Some : goal.returns-in-Some
returns-in-Some g c = host-span-if-present g.K.Kind.kind c.args.text.now c.args.at c.in-Some.inside
    c.requires.at c.requires.of_kind c.utf8.text c.in-Some.is
