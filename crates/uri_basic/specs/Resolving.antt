-- What a basic resolver holds and returns: RFC 3986, section 5.2.
use Rattle.std.specs.Prelude.{◌≡◌, Err}
use Rattle.uri_parts.specs.Prelude.{Components}
use Rattle.uri_basic.specs.Target.{PathStartsWithDoubleSlash, basic_resolution}
use Rattle.uri_basic.specs.declared.error.BasicResolveError.{BasicResolveError}
use Rattle.uri_basic.specs.declared.error.BasicResolveError.TheVariants as Of
use Rattle.uri_basic.specs.declared.resolver.BasicResolver.{BasicResolver}

-- the base of a basic resolver, against which references are resolved (section 5.2)
abbrev pub base_of : {R : Type 0} → BasicResolver R → R
base_of r = r.base

-- the error is what the basic algorithm returns for a base and a reference, in this order: memory
-- may be denied for any
abbrev pub IsBasicError : Components → Components → BasicResolveError → Type 0
IsBasicError base r Of.PathStartsWithDoubleSlash =
    basic_resolution base r ≡ Err PathStartsWithDoubleSlash
IsBasicError base r Of.OutOfMemory = Unit {0}
