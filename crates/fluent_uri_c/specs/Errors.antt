-- Why a call rejects its arguments, by the numbers of the header.
use Rattle.std.specs.Prelude.{ℕ}
use Rattle.uri_parts.specs.declared.error.ParseError.{ParseError}
use Rattle.uri_parts.specs.declared.error.ParseErrorKind.{ParseErrorKind}
use Rattle.uri_parts.specs.declared.error.ParseErrorKind.TheVariants.{InvalidPctEncodedOctet, UnexpectedChar, InvalidIpv6Addr}
use Rattle.uri_ops.specs.declared.resolve.error.ResolveError.{ResolveError}
use Rattle.uri_ops.specs.declared.resolve.error.ResolveError.TheVariants as Resolve
use Rattle.uri_basic.specs.declared.error.BasicResolveError.{BasicResolveError}
use Rattle.uri_basic.specs.declared.error.BasicResolveError.TheVariants as Basic
use Rattle.uri_mend.specs.declared.error.MendError.{MendError}
use Rattle.uri_mend.specs.declared.error.MendError.TheVariants as Mend
use Rattle.fluent_uri_c.specs.declared.errors.Error.{Error}
use Rattle.fluent_uri_c.specs.declared.errors.Error.TheVariants as Of
use Rattle.fluent_uri_c.specs.declared.errors.Rejection.{Rejection}

-- the number of an error in the C header
abbrev pub number_of : Error → ℕ
number_of Of.InvalidPctEncodedOctet = 1
number_of Of.UnexpectedChar = 2
number_of Of.InvalidIpv6Addr = 3
number_of Of.NotUtf8 = 4
number_of Of.BaseWithFragment = 5
number_of Of.InvalidReferenceAgainstOpaqueBase = 6
number_of Of.PathUnderflow = 7
number_of Of.OutOfMemory = 8
number_of Of.InvalidArgument = 9
number_of Of.Full = 10
number_of Of.NonemptyRootlessPath = 11
number_of Of.PathStartsWithDoubleSlash = 12
number_of Of.FirstPathSegmentContainsColon = 13
number_of Of.MissingComponent = 14
number_of Of.NameNotUtf8 = 15
number_of Of.InvalidName = 16

-- the rejection of a call for an error at an index of its first text
abbrev pub rejected_at : Error → ℕ → Rejection
rejected_at error index = record { error = error; which = 0; index = index }

-- the rejection of a call for an error that is at no index
abbrev pub rejected : Error → Rejection
rejected error = rejected_at error 0

-- the rejection of a call, moved to its second text, which is the reference
abbrev pub in_reference : Rejection → Rejection
in_reference why = record why { which = 1 }

-- the rejection of a call, said of the component with a number of the C header
abbrev pub in_component : ℕ → Rejection → Rejection
in_component n why = record why { which = n }

-- the error of the C header for a kind of parse error
abbrev pub error_of_kind : ParseErrorKind → Error
error_of_kind InvalidPctEncodedOctet = Of.InvalidPctEncodedOctet
error_of_kind UnexpectedChar = Of.UnexpectedChar
error_of_kind InvalidIpv6Addr = Of.InvalidIpv6Addr

-- the rejection of a call for a parse error of its first text
abbrev pub parse_rejection : ParseError → Rejection
parse_rejection e = rejected_at (error_of_kind e.kind) e.index

-- the error of the C header for an error of resolving
abbrev pub error_of_resolving : ResolveError → Error
error_of_resolving Resolve.BaseWithFragment = Of.BaseWithFragment
error_of_resolving Resolve.InvalidReferenceAgainstOpaqueBase =
    Of.InvalidReferenceAgainstOpaqueBase
error_of_resolving Resolve.PathUnderflow = Of.PathUnderflow
error_of_resolving Resolve.OutOfMemory = Of.OutOfMemory

-- the rejection of a call for an error of resolving
abbrev pub resolve_rejection : ResolveError → Rejection
resolve_rejection e = rejected (error_of_resolving e)

-- the rejection of a call for an error of resolving by the basic algorithm
abbrev pub basic_resolve_rejection : BasicResolveError → Rejection
basic_resolve_rejection Basic.PathStartsWithDoubleSlash = rejected Of.PathStartsWithDoubleSlash
basic_resolve_rejection Basic.OutOfMemory = rejected Of.OutOfMemory

-- the rejection of a call for an error of mending
abbrev pub mend_rejection : MendError → Rejection
mend_rejection (Mend.Unmendable e) = parse_rejection e
mend_rejection Mend.OutOfMemory = rejected Of.OutOfMemory
