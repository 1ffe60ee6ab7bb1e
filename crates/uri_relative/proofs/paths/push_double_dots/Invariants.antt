use Rattle.uri_relative.proofs.Common.{◌≡◌, ◌++◌, string_bytes, double_dots}
use Rattle.uri_relative.proofs.paths.push_double_dots.Given as goal

abbrev pub invariant-loop-done : goal.invariant-loop-done
invariant-loop-done l = string_bytes l.out ≡ string_bytes l.initial.out ++ double_dots l.done
