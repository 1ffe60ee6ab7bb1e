-- What a relativizer returns: the inverse of RFC 3986, section 5.2.
use Rattle.std.specs.Prelude.{◌≡◌, ℕ, Bool, false, List}
use Rattle.uri_parts.specs.Prelude.{Kind, components}
use Rattle.uri_relative.specs.Leading.{IsNoLonger, IsRelativeTo, LeadsBackToTarget, LeadsTo, settled}
use Rattle.uri_relative.specs.Rule.{reference_to}
use Rattle.uri_relative.specs.Shortest.{IsShortest}

-- The reference, the last text, is what relativizing returns for a base and a target of the kind;
-- the Bool is whether a relative path is preferred.
pub record IsRelativized (kind : Kind) (prefers : Bool) (base target reference : List ℕ)
    : Type 0 where
  -- it is the one that is defined
  pub text : reference ≡ reference_to prefers base target
  -- resolved against the base without its fragment, it is the settled target
  pub leads : LeadsTo base target reference
  -- if any reference resolves to the target, this one does too
  pub back : LeadsBackToTarget base target reference
  -- unless a relative path is preferred, it is no longer than the settled target
  pub short : prefers ≡ false → IsNoLonger target reference
  -- nor is any reference to the settled target shorter, if the base's path has no dot segment
  pub shortest : prefers ≡ false → IsShortest kind base target reference
  -- it has neither the scheme nor the authority that base and target share, unless it needs one
  pub relative : IsRelativeTo (components base) (settled target) (components reference)
