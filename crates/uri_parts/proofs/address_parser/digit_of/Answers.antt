use Rattle.uri_parts.proofs.HostForms.HexDigits.{table-entry-is-digit-value}
use Rattle.uri_parts.proofs.address_parser.digit_of.Goals as goal

pub returns : goal.returns
returns c = rw (c.from-2.ensures, c.from.ensures) (table-entry-is-digit-value _ c.ranges.byte.fits)
