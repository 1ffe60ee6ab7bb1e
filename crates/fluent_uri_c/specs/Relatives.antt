-- The reference from a base to a target that a call for C writes: the inverse of RFC 3986, section
-- 5.2.
use Rattle.std.specs.Prelude.{ℕ, Bool, List, Ok}
use Rattle.fluent_uri.specs.Prelude.{Kind}
use Rattle.uri_relative.specs.Rule.{reference_to}
use Rattle.fluent_uri_c.specs.Options.{path_preference}
use Rattle.fluent_uri_c.specs.Results.{Returned, rejection_or_result, second_text_error, with_base, with_valid_number}

-- the result of a call for C that makes a reference from a text of the kind, the base, to a target,
-- in this order; the Bool is whether a relative path is preferred to a shorter one from the root
abbrev pub reference_from : Bool → Kind → List ℕ → List ℕ → Returned
reference_from prefers kind base target =
    rejection_or_result (second_text_error kind target) (Ok (reference_to prefers base target))

-- the result of `fluent_uri_relativize` for a base and a target, in this order; the numbers are
-- those of their kind and of the options in the C header
abbrev pub relativize_result : ℕ → ℕ → List ℕ → List ℕ → Returned
relativize_result n options base target =
    with_valid_number (path_preference options) λ prefers. with_base n base
    λ kind. reference_from prefers kind base target
