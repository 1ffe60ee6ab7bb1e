use Rattle.uri_pct.proofs.Common.{arith}
use Rattle.uri_pct.proofs.Decodings.DigitValues.{hex_digit_entry_is_value}
use Rattle.uri_pct.proofs.octet.digit_value.Goals as goal

pub returns-clause-value : goal.returns-clause-value
returns-clause-value c = rw c.from.ensures
    (hex_digit_entry_is_value c.args.digit (omega arith) c.requires).0

pub returns-clause-small : goal.returns-clause-small
returns-clause-small c = rw c.from.ensures
    (hex_digit_entry_is_value c.args.digit (omega arith) c.requires).1
