use Rattle.uri_mend.proofs.Common.{◌≡◌, ◌++◌, length, string_bytes, tab_and_newlines, without_any}
use denote.Text.{Utf8}
use denote.Shadow.{shadow}
use Rattle.uri_mend.proofs.trimming.push_without_newlines.Given as goal

abbrev pub invariant-loop-rest : goal.invariant-loop-rest
invariant-loop-rest l = shadow (Utf8 l.rest)
    × (string_bytes l.out ++ without_any tab_and_newlines l.rest
    ≡ string_bytes l.fn.out ++ without_any tab_and_newlines l.text)

abbrev pub decreases-loop-rest : goal.decreases-loop-rest
decreases-loop-rest l = length l.rest
