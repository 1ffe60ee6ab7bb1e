use Rattle.uri_pct.proofs.Common.{arith, IsCharBoundary-from_ascii, OCTETS}
use Rattle.uri_pct.proofs.Decodings.OctetTexts.{octet_entry_is_printed_octet, octet_table_is_ascii}
use Rattle.uri_pct.proofs.octet.pct_encoded.Goals as goal

pub range-requires-clause-start_boundary : goal.range-requires-clause-start_boundary
range-requires-clause-start_boundary c =
    λ _. IsCharBoundary-from_ascii OCTETS.now _ octet_table_is_ascii (omega arith)

pub range-requires-clause-end_boundary : goal.range-requires-clause-end_boundary
range-requires-clause-end_boundary c =
    IsCharBoundary-from_ascii OCTETS.now _ octet_table_is_ascii (omega arith)

pub returns : goal.returns
returns c = grind (arith, octet_entry_is_printed_octet)
