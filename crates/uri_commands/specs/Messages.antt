-- The messages for a text that is not of its kind, and for a reference that has no target.
use Rattle.std.specs.Prelude.{ℕ, List, [], ◌++◌, Option, Some, None, codes, decimal}
use Rattle.fluent_uri.specs.Prelude.{error_index, error_kind_of}
use Rattle.fluent_uri.specs.declared.ParseError.{ParseError}
use Rattle.fluent_uri.specs.declared.ParseErrorKind.{ParseErrorKind}
use Rattle.fluent_uri.specs.declared.ParseErrorKind.TheVariants.{InvalidPctEncodedOctet, UnexpectedChar, InvalidIpv6Addr}
use Rattle.fluent_uri.specs.declared.resolve.ResolveError.{ResolveError}
use Rattle.fluent_uri.specs.declared.resolve.ResolveError.TheVariants as resolve_errors
use Rattle.uri_commands.specs.declared.refusal.Message.{Message}

-- what an error line of `uritool` says of a kind of parse error, without its index
abbrev pub error_kind_text : ParseErrorKind → List ℕ
error_kind_text InvalidPctEncodedOctet = codes "invalid percent-encoded octet"
error_kind_text UnexpectedChar = codes "unexpected character"
error_kind_text InvalidIpv6Addr = codes "invalid IPv6 address"

-- what an error line of `uritool` says of the index of a parse error, and nothing for another error
abbrev pub index_text : Option ℕ → List ℕ
index_text None = []
index_text (Some index) = codes " at index " ++ decimal index

-- the text of a message of `uritool`
abbrev pub message_text : Message → List ℕ
message_text message = message.subject.now ++ message.text.now ++ index_text message.index

-- what an error line of `uritool` says of a parse error: its kind and its index
abbrev pub error_text : ParseError → List ℕ
error_text e = error_kind_text (error_kind_of e) ++ codes " at index " ++ decimal (error_index e)

-- what an error line of `uritool` says of an error of resolving: why a reference has no target
abbrev pub resolve_error_text : ResolveError → List ℕ
resolve_error_text resolve_errors.BaseWithFragment = codes "base should not have fragment"
resolve_error_text resolve_errors.InvalidReferenceAgainstOpaqueBase =
    codes "when base has a rootless path and no authority, reference should either have scheme, "
    ++ codes "be empty or start with '#'"
resolve_error_text resolve_errors.PathUnderflow = codes "underflow occurred in path resolution"
resolve_error_text resolve_errors.OutOfMemory = codes "out of memory"
