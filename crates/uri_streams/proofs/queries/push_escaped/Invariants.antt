-- What was written is what the characters so far come to.
use Rattle.uri_streams.proofs.Common.{◌≡◌, ◌++◌, string_bytes, flat_map, escaped_char}
use Rattle.uri_streams.proofs.queries.push_escaped.Given as goal

abbrev pub invariant-loop-character : goal.invariant-loop-character
invariant-loop-character l =
    string_bytes l.out ≡ string_bytes l.initial.out ++ flat_map escaped_char l.yielded
