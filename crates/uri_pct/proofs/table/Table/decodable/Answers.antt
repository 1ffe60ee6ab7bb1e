use Rattle.uri_pct.proofs.Common.{set_of}
use Rattle.uri_pct.proofs.TableSets.Decodable.{decodable_table_allows_decodable}
use Rattle.uri_pct.proofs.table.Table.decodable.Goals as goal

pub returns : goal.returns
returns c = λ ch. decodable_table_allows_decodable (set_of c.args.self.now) ch
