-- What a relativizer holds.
use Rattle.std.specs.Prelude.{Bool}
use Rattle.uri_relative.specs.declared.relativize.Relativizer.{Relativizer}

-- the base of a relativizer, from which its references lead
abbrev pub base_of : {R : Type 0} → Relativizer R → R
base_of r = r.base

-- the setting of a relativizer: references have a relative path even if one from the root is
-- shorter
abbrev pub prefers_relative_path : {R : Type 0} → Relativizer R → Bool
prefers_relative_path r = r.prefers_relative_path
