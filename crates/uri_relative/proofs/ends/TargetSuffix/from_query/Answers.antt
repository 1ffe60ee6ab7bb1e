use Rattle.std.proofs.Common.{[], refl}
use Rattle.uri_relative.proofs.ends.TargetSuffix.from_query.Goals as goal

pub returns-clause-at : goal.returns-clause-at
returns-clause-at c = c.positions_with_path.ensures [] refl
