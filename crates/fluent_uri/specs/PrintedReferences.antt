-- What `Debug` of a `Reference` prints (RFC 3986, sections 3 and 4.1; RFC 3987, section 2.2).
use Rattle.std.specs.Prelude.{ℕ, List, Option, None}
use Rattle.std.specs.Fmt.{debug_option, debug_str}
use Rattle.std.specs.Option.{option_map_or}
use Rattle.uri_parts.specs.Prelude.{components, debug_reference}

-- `Debug` of a reference that has a scheme, under the name of its type
abbrev pub debug_with_scheme : List ℕ → List ℕ → Option (List ℕ)
debug_with_scheme name text =
    debug_reference name (option_map_or debug_str (components text).scheme None) text

-- `Debug` of a reference that may lack a scheme, under the name of its type
abbrev pub debug_with_optional_scheme : List ℕ → List ℕ → Option (List ℕ)
debug_with_optional_scheme name text =
    debug_reference name (debug_option debug_str (components text).scheme) text
