use Rattle.std.proofs.Common.{arith, ◌∙◌, ap}
use Rattle.std.specs.Prelude.{string_bytes}
use Rattle.fluent_uri.specs.Prelude.{authority_text, components, core_text, recompose, reference_text}
use Rattle.uri_ops.proofs.Offered.{one-of-four-kinds-has-sets}
use Rattle.uri_idna.specs.AsciiReferences.{with_authority, with_host}
use Rattle.uri_idna.proofs.Replaced.{replaced-text-has-ascii-host, replaced-text-is-of-kind}
use Rattle.uri_idna.proofs.references.replaced.Goals as goal

pub of_text-requires : goal.of_text-requires
of_text-requires g c =
    let kind = g.K.Kind.kind in
    let old = authority_text c.args.authority in
    let host = c.args.host.now in
    replaced-text-is-of-kind kind (one-of-four-kinds-has-sets kind g.met.K.Kind.known)
    (core_text c.args.core) old host
    (record { utf8 = c.borrow-own.ensures.utf8; grammar = c.borrow-own.ensures.of_kind })
    c.requires.authority c.requires.host (string_bytes c.in_ok-text.text)
    (c.in_ok-text.ensures
    ∙ ap (λ t. recompose (with_authority (components t) (with_host old host)))
    c.borrow-own.ensures.text)

pub returns-clause-others : goal.returns-clause-others
returns-clause-others g c =
    let kind = g.K.Kind.kind in
    let old = authority_text c.args.authority in
    let host = c.args.host.now in
    replaced-text-has-ascii-host kind (one-of-four-kinds-has-sets kind g.met.K.Kind.known)
    (core_text c.args.core) old host
    (record { utf8 = c.borrow-own.ensures.utf8; grammar = c.borrow-own.ensures.of_kind })
    c.requires.authority c.requires.host (reference_text c.of_core.result)
    (c.of_core.ensures.text ∙ c.of_text.ensures ∙ c.in_ok-text.ensures
    ∙ ap (λ t. recompose (with_authority (components t) (with_host old host)))
    c.borrow-own.ensures.text)

pub returns-clause-text : goal.returns-clause-text
returns-clause-text g c = grind arith
