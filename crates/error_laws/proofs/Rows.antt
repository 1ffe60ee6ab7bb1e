-- Which texts are exceptions to the law of viable prefixes, by the definition alone.
use Rattle.error_laws.proofs.Common.{◌≡◌, map, refl, has_late_error, is_late_from_authority, is_late_from_host, is_late_from_port}
use Rattle.uri_parts.proofs.Offered.{errors_on_literals}
use Rattle.error_laws.specs.ViablePrefixRows.{late_error_rows}

pub example-texts-have-late-errors : map (λ row. has_late_error row.0 row.1) late_error_rows
    ≡ map (λ row. row.2) late_error_rows
unfolding errors_on_literals has_late_error is_late_from_authority is_late_from_host
    is_late_from_port
example-texts-have-late-errors = refl
