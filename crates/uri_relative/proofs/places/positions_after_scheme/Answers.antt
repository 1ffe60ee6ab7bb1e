use Rattle.uri_relative.proofs.Common.{◌+◌, refl, arith, components_of}
use Rattle.uri_relative.proofs.EndPlaces.{positions-without-scheme, scheme-end-is-scheme-length, positions-of-text-without-scheme-stay, query-ends-after-scheme}
use Rattle.uri_relative.proofs.places.positions_after_scheme.Goals as goal

pub returns-in-None : goal.returns-in-None
returns-in-None c = positions-of-text-without-scheme-stay (components_of c.args.target.now)
    c.positions-positions.result c.positions-positions.ensures c.in-None.is

pub authority_after_scheme-requires : goal.authority_after_scheme-requires
authority_after_scheme-requires c = scheme-end-is-scheme-length (components_of c.args.target.now)
    c.positions-positions.result c.in-Some.end c.positions-positions.ensures c.in-Some.is

pub shift_position_back-requires : goal.shift_position_back-requires
shift_position_back-requires c =
    let t = components_of c.args.target.now in
    query-ends-after-scheme t c.positions-positions.result (c.in-Some.end + 1)
    c.positions-positions.ensures (grind (arith, scheme-end-is-scheme-length))

pub returns-in-Some : goal.returns-in-Some
returns-in-Some c =
    let t = components_of c.args.target.now in
    positions-without-scheme t c.positions-positions.result (c.in-Some.end + 1)
    c.authority_after_scheme.result _ _ c.shift_position_back.result c.positions-positions.ensures
    (scheme-end-is-scheme-length t c.positions-positions.result c.in-Some.end
    c.positions-positions.ensures
    c.in-Some.is) c.authority_after_scheme.ensures refl refl c.shift_position_back.ensures
