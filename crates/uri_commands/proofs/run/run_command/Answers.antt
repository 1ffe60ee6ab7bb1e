use Rattle.uri_commands.proofs.Common.{arith, rules, ◌≡◌, None, OnOk, sym, subst, Keeps, Prints, output_of}
use Rattle.uri_commands.specs.Asked.{contract_command}
use Rattle.uri_commands.proofs.run.run_command.Goals as goal

pub returns-in-Links-clause-succeeded : goal.returns-in-Links-clause-succeeded
returns-in-Links-clause-succeeded g c = subst (λ k. OnOk c.links.result (Prints
    (g.O.Write.contents c.args.out.now.writer) (g.O.Write.contents c.links.new.out.writer)
    (contract_command k))) (sym c.in-Links.is) c.links.ensures.succeeded

pub returns-in-Links-clause-refused : goal.returns-in-Links-clause-refused
returns-in-Links-clause-refused g c = grind arith

pub returns-in-Links-clause-keeps : goal.returns-in-Links-clause-keeps
returns-in-Links-clause-keeps g c = subst (λ k. output_of (contract_command k) ≡ None
    → Keeps (g.O.Write.contents c.args.out.now.writer) (g.O.Write.contents c.links.new.out.writer))
    (sym c.in-Links.is) c.links.ensures.keeps

pub returns-in-Parse-clause-refused : goal.returns-in-Parse-clause-refused
returns-in-Parse-clause-refused g c = search rules

pub returns-in-Parse-clause-kept : goal.returns-in-Parse-clause-kept
returns-in-Parse-clause-kept g c = search rules
