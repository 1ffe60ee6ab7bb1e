use Rattle.std.proofs.Common.{◌≡◌, take}
use Rattle.std.specs.Io.KnownBytes.{Appends}
use Rattle.std.specs.List.{flat_map}
use Rattle.uri_commands.proofs.usage.put_all.Given as goal

-- the texts so far, and no failure
abbrev pub invariant-loop-text : goal.invariant-loop-text
invariant-loop-text g l =
    Appends (g.E.Write.contents l.initial.err.writer) (g.E.Write.contents l.err.writer)
    (flat_map (λ text. text.now) (take l.text-index l.texts))
    × (l.err.has_failed ≡ l.initial.err.has_failed)
