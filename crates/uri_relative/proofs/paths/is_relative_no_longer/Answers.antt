use Rattle.std.proofs.Common.{arith}
use Rattle.uri_relative.proofs.Lengths.{relative-path-fits-by-division, relative-path-is-longer-by-division}
use Rattle.uri_relative.proofs.paths.is_relative_no_longer.Goals as goal

pub returns-then-double_dots-gt0-clause-short : goal.returns-then-double_dots-gt0-clause-short
returns-then-double_dots-gt0-clause-short c = grind (arith, relative-path-fits-by-division)

pub returns-then-double_dots-gt0-clause-longer : goal.returns-then-double_dots-gt0-clause-longer
returns-then-double_dots-gt0-clause-longer c = grind (arith, relative-path-is-longer-by-division)
