use Rattle.uri_pct.proofs.TableSets.Masks.{tested_bit-is-has_bit}
use Rattle.uri_pct.proofs.masks.holds.Goals as goal

pub returns : goal.returns
returns c = tested_bit-is-has_bit c.args.words.now c.args.byte c.requires.third c.requires.fourth
    c.ranges.byte.fits
