-- What a resolver holds and returns: RFC 3986, section 5.2.
use Rattle.std.specs.Prelude.{Bool, ◌≡◌, ℕ, true, false, List, Ok, Err, is_ok}
use Rattle.uri_parts.specs.Prelude.{Components, components}
use Rattle.uri_ops.specs.declared.resolve.Resolver.{Resolver}
use Rattle.uri_ops.specs.declared.resolve.text_view.TextView.{TextView}
use Rattle.uri_ops.specs.declared.resolve.error.ResolveError.{ResolveError}
use Rattle.uri_ops.specs.Target.{BaseWithFragment, InvalidReferenceAgainstOpaqueBase, dotless_if_absolute, guarded, target_underflows, resolution_of}
use Rattle.uri_ops.specs.Encoded.{encode_past_ascii}
use Rattle.uri_ops.specs.declared.resolve.error.ResolveError.TheVariants as Of

-- the base of a resolver, against which references are resolved (section 5.2)
abbrev pub base_of : {R : Type 0} → Resolver R → R
base_of r = r.base

-- the setting of a resolver: whether dot segments of a target may underflow
abbrev pub resolver_allows_underflow : {R : Type 0} → Resolver R → Bool
resolver_allows_underflow r = r.allow_path_underflow

-- the components of a text that a resolver holds with their positions
abbrev pub components_of : TextView → Components
components_of p = components p.text.now

-- the target's components with its final path: without dot segments if it begins with `/`, and
-- guarded (section 5.2.2)
abbrev pub with_final_path : Components → Components
with_final_path t = record t { path = guarded t.authority (dotless_if_absolute t.path) }

-- the text is the target of a base and a reference, in this order; if underflow is not allowed (the
-- Bool), its dot segments do not underflow
abbrev pub IsTarget : Bool → Components → Components → List ℕ → Type 0
IsTarget allowed base r text =
    (resolution_of base r ≡ Ok text) × (allowed ≡ false → target_underflows base r ≡ false)

-- The error is what resolving returns for a base and a reference; the Bool is whether underflow is
-- allowed.
-- The first two errors are returned whenever a reference has no target, and then before memory is
-- asked for.
abbrev pub IsErrorFor : Bool → Components → Components → ResolveError → Type 0
IsErrorFor allowed base r Of.BaseWithFragment = resolution_of base r ≡ Err BaseWithFragment
IsErrorFor allowed base r Of.InvalidReferenceAgainstOpaqueBase =
    resolution_of base r ≡ Err InvalidReferenceAgainstOpaqueBase
IsErrorFor allowed base r Of.PathUnderflow =
    (is_ok (resolution_of base r) ≡ true) × (allowed ≡ false) × (target_underflows base r ≡ true)
IsErrorFor allowed base r Of.OutOfMemory = is_ok (resolution_of base r) ≡ true

-- the error is what resolving returns for a base and a reference, in this order, if underflow is
-- allowed (section 5.2)
abbrev pub IsErrorWithUnderflowAllowed : Components → Components → ResolveError → Type 0
IsErrorWithUnderflowAllowed base r Of.BaseWithFragment = resolution_of base r ≡ Err BaseWithFragment
IsErrorWithUnderflowAllowed base r Of.InvalidReferenceAgainstOpaqueBase =
    resolution_of base r ≡ Err InvalidReferenceAgainstOpaqueBase
IsErrorWithUnderflowAllowed base r Of.PathUnderflow = ⊥
IsErrorWithUnderflowAllowed base r Of.OutOfMemory = is_ok (resolution_of base r) ≡ true

-- with characters past ASCII percent-encoded, the target (last) is that of the base and the
-- reference so changed (RFC 3987, section 3.1); the Bool is whether underflow is allowed
abbrev pub IsTargetOfEncoded : Bool → List ℕ → List ℕ → List ℕ → Type 0
IsTargetOfEncoded allowed base reference target =
    IsTarget allowed (components (encode_past_ascii base))
    (components (encode_past_ascii reference))
    (encode_past_ascii target)

-- the error is what resolving returns for the base and the reference with characters past ASCII
-- percent-encoded; the Bool is whether underflow is allowed
abbrev pub IsErrorForEncoded : Bool → List ℕ → List ℕ → ResolveError → Type 0
IsErrorForEncoded allowed base reference error =
    IsErrorFor allowed (components (encode_past_ascii base))
    (components (encode_past_ascii reference)) error
