-- What resolving returns: RFC 3986, section 5.2; RFC 3987, section 3.1.
use Rattle.std.specs.Prelude.{ℕ, Bool, List, Result, IfErr, IfOk}
use Rattle.uri_parts.specs.Prelude.{Kind, components}
use Rattle.uri_ops.specs.NormalTargets.{IsErrorOfMeanings, IsTargetOfMeanings}
use Rattle.uri_ops.specs.Resolving.{IsErrorFor, IsErrorForEncoded, IsTarget, IsTargetOfEncoded}
use Rattle.uri_ops.specs.declared.resolve.error.ResolveError.{ResolveError}

-- The result is what resolving returns for a base of the first kind and a reference of the second;
-- the Bool is whether underflow is allowed, and the last argument gives the text of a target.
pub record IsResolved {T : Type 0} (kind of_reference : Kind) (allowed : Bool)
    (base reference : List ℕ) (result : Result T ResolveError) (text_of : T → List ℕ) : Type 0 where
  -- a target is that of the base and the reference (RFC 3986, section 5.2)
  pub target : IfOk result (λ target.
      IsTarget allowed (components base) (components reference) (text_of target))
  -- an error says why there is none, or that none could be held
  pub error : IfErr result (IsErrorFor allowed (components base) (components reference))
  -- resolving respects percent-encoding (RFC 3987, section 3.1): with the characters past ASCII of
  -- all three percent-encoded, the target is that of the base and the reference
  pub encoded : IfOk result (λ target. IsTargetOfEncoded allowed base reference (text_of target))
  -- and the error is that of the base and the reference so changed
  pub encoded_error : IfErr result (IsErrorForEncoded allowed base reference)
  -- resolving respects equivalence: an equivalent base and reference have an equivalent target
  pub alike : IfOk result (λ target.
      IsTargetOfMeanings kind of_reference base reference (text_of target))
  -- and the same error, unless underflow is not allowed
  pub alike_error : IfErr result (IsErrorOfMeanings allowed kind of_reference base reference)
