use Rattle.uri_commands.proofs.Common.{common_steps, arith, ◌≡◌, ◌++◌, ◌-◌, ◌∙◌, ap, ℕ, List, length, subst, take, drop, take-append-drop, take_rest, AppendsPrefix}
use Rattle.uri_commands.proofs.Appended.{AppendsPrefix-after-Appends, AppendsPrefix-of-kept, on-ok}
use Rattle.uri_commands.proofs.sink.write_rest.Goals as goal

abbrev rest : ℕ → List ℕ → List ℕ
rest taken bytes = take (length bytes - taken) (drop taken bytes)

all : (taken : ℕ) (bytes : List ℕ) → take taken bytes ++ rest taken bytes ≡ bytes
all taken bytes =
    ap (λ l. take taken bytes ++ l) (take_rest bytes taken) ∙ take-append-drop taken bytes

pub returns-in_err-taken-clause-prefix : goal.returns-in_err-taken-clause-prefix
returns-in_err-taken-clause-prefix g c = grind (arith, AppendsPrefix-of-kept)

pub returns-clause-whole : goal.returns-clause-whole
returns-clause-whole g c = grind (arith, common_steps, on-ok, all)

pub returns-clause-prefix : goal.returns-clause-prefix
returns-clause-prefix g c = λ held first.
    subst (AppendsPrefix held (g.W.Write.contents c.write_whole.new.writer))
    (all c.in_ok-taken.taken c.args.bytes.now) (AppendsPrefix-after-Appends held
    (g.W.Write.contents c.args.writer.now) (g.W.Write.contents c.write_whole.new.writer)
    (take c.in_ok-taken.taken c.args.bytes.now) (rest c.in_ok-taken.taken c.args.bytes.now)
    (c.in_ok-taken.ensures.bytes held (g.W.Write.contents c.args.writer.now) first)
    c.write_whole.ensures.prefix)
