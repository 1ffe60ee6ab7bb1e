use Rattle.uri_commands.proofs.Common.{common_steps, rules, arith, ◌≡◌, ◌∷◌, ◌++◌, [], false, sym, subst, uri_ref, uri_ref_text, Links, texts, IsErrorOfCommand}
use Rattle.uri_commands.proofs.LinkWords.{one-more-reference-is-kept, one-more-reference-is-of-kind, first-error-is-of-this-word}
use Rattle.uri_commands.proofs.links.parse_references.Goals as goal
use Rattle.uri_commands.proofs.links.parse_references.Goals.{then-is_refused, else-is_refused}
use Rattle.fluent_uri.proofs.Outcomes.{IfErr-of-only-error}

pub returns-in_err-reference-clause-refused : goal.returns-in_err-reference-clause-refused
returns-in_err-reference-clause-refused c =
    λ set base is.
    let why = c.in_err-reference.ensures.refused in
    let first = first-error-is-of-this-word uri_ref c.args.reference.now c.args.others.now
    c.loop-word.word-index c.word-item.result _ c.loop-word-test.true c.word-item.is
    c.as_str.ensures.value why.0 c.loop-word.invariant.of_kind why.2 in
    IfErr-of-only-error
    (IsErrorOfCommand (Links set base c.args.reference.now (texts c.args.others.now)))
    c.from_residual-in_err-reference.result c.in_err-reference.field-0.0
    c.from_residual-in_err-reference.ensures.1 (subst
    (IsErrorOfCommand (Links set base c.args.reference.now (texts c.args.others.now))) (sym why.1)
    (is, first))

pub loop-word-preserved : goal.loop-word-preserved
loop-word-preserved c = record {
  of_kind = one-more-reference-is-of-kind uri_ref c.args.reference.now c.args.others.now
      c.loop-word.word-index
      c.word-item.result _ c.loop-word-test.true c.word-item.is c.as_str.ensures.value
      c.loop-word.invariant.of_kind c.in_ok-reference.ensures.of_kind;
  kept = λ held. elim c.if-is_refused.branch [
    | then-is_refused w ↦ cc
    | else-is_refused w ↦
        let pushed : c.if-is_refused.references.items
        ≡ c.loop-word.references.items ++ c.in_ok-reference.reference ∷ [] = search rules in
        let before : c.loop-word.is_refused ≡ false = search rules in
        one-more-reference-is-kept uri_ref c.args.reference.now c.args.others.now
        c.loop-word.word-index
        c.word-item.result _ c.loop-word-test.true c.word-item.is c.as_str.ensures.value
        uri_ref_text c.in_ok-reference.reference c.loop-word.references.items _
        (c.loop-word.invariant.kept before) c.in_ok-reference.ensures.text pushed
  ];
}

pub returns-clause-references : goal.returns-clause-references
returns-clause-references c = grind (arith, common_steps)
