use Rattle.std.proofs.Common.{◌∙◌, false, sym, true}
use Rattle.obligations.proofs.laws.octets.same_in_either_case.Goals as goal

pub returns : goal.returns
returns c =
    c.octets_decode_in_either_case.ensures false c.args.value c.args.rest.now c.ranges.value.fits
    ∙ sym (c.octets_decode_in_either_case.ensures true c.args.value c.args.rest.now
    c.ranges.value.fits)
