use Rattle.uri_parts.proofs.Common.{map}
use Rattle.uri_parts.proofs.Authorities.SchemePorts.{row_of}
use Rattle.uri_parts.proofs.Authorities.SchemeRows.{rows-of-letter-are-at-its-place}
use Rattle.uri_parts.proofs.default_ports.rows_of_letter.Goals as goal

pub returns : goal.returns
returns c = rows-of-letter-are-at-its-place (λ rows. map row_of rows.now) c.args.table.now
    c.args.nth _ c.requires.table c.requires.letter
