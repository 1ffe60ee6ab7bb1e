use Rattle.uri_relative.proofs.Common.{arith, components_of}
use Rattle.uri_relative.proofs.EndPlaces.{authority-positions-of-components, authority-begins-after-scheme, authority-positions-without-scheme, no-authority-positions-no-authority}
use Rattle.uri_relative.proofs.places.authority_after_scheme.Goals as goal

pub shift_authority_back-requires : goal.shift_authority_back-requires
shift_authority_back-requires c =
    let t = components_of c.args.target.now in
    let w = authority-begins-after-scheme c.args.start t.authority c.in-Some.authority
    (grind (arith, authority-positions-of-components)) in
    record { start = w.start; host_start = w.host_start; host_end = w.host_end; end = w.end }

pub returns-in-Some : goal.returns-in-Some
returns-in-Some c =
    let t = components_of c.args.target.now in
    authority-positions-without-scheme c.args.start t.authority c.in-Some.authority
    c.shift_authority_back.result (grind (arith, authority-positions-of-components))
    c.shift_authority_back.ensures.start c.shift_authority_back.ensures.host_start
    c.shift_authority_back.ensures.host_end c.shift_authority_back.ensures.end

pub returns-in-None : goal.returns-in-None
returns-in-None c = grind (arith, no-authority-positions-no-authority)
