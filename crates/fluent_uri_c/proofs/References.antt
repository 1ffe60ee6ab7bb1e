-- A reference that leads from a base to a target, of the texts that were parsed.
use Rattle.fluent_uri_c.proofs.Common.{arith, ◌≡◌, ℕ, Bool, List, sym, None, Ok, Kind, reference_from, text_error}
use Rattle.uri_relative.specs.Relativized.{IsRelativized}
use Rattle.uri_relative.specs.Rule.{reference_to}

-- exports for C: a relative reference has its contract for the given texts and setting, if these
-- equal those that it was made of (given, wanted: base and target; wants: the setting)
pub IsRelativized-of-equal-texts : (kind : Kind) (prefers wants : Bool)
    (base target reference given wanted : List ℕ) → base ≡ given → target ≡ wanted
    → prefers ≡ wants → IsRelativized kind prefers base target reference
    → IsRelativized kind wants given wanted reference
IsRelativized-of-equal-texts kind prefers wants base target reference given wanted b t same is =
    rw (sym b, sym t, sym same) is

-- exports for C: the reference from a base to a target, which is a text of the kind, is the one
-- that the contract defines
pub reference_from-of-reference : (kind : Kind) (base target reference given wanted : List ℕ)
    (prefers wants : Bool) → None ≡ text_error kind wanted → base ≡ given → target ≡ wanted
    → prefers ≡ wants → reference ≡ reference_to prefers base target
    → reference_from wants kind given wanted ≡ Ok reference
reference_from-of-reference kind base target reference given wanted prefers wants valid b t same
    is =
    grind arith
