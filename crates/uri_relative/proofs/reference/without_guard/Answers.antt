use Rattle.uri_relative.proofs.Common.{sym, ap, drop, subst, ◌∙◌, arith, components_of, equal-to-true-is-IsTrue, IsUnguarded, is_guarded}
use Rattle.uri_relative.proofs.Settled.{guard-ends-at-character, path-without-guard-is-unguarded, path-after-authority-is-unguarded, path-that-needs-no-guard-is-unguarded}
use Rattle.uri_relative.proofs.reference.without_guard.Goals as goal

pub returns-then-has_authority : goal.returns-then-has_authority
returns-then-has_authority c =
    let t = components_of c.args.target.now in
    subst (IsUnguarded t) (sym c.path-path.ensures)
    (path-after-authority-is-unguarded t (sym c.has_authority.ensures ∙ c.if-has_authority.true)
    (equal-to-true-is-IsTrue _ c.requires.absolute) c.requires.settled)

pub range_from-requires : goal.range_from-requires
range_from-requires c = grind (arith, guard-ends-at-character)

pub returns-then-is_guarded : goal.returns-then-is_guarded
returns-then-is_guarded c =
    let t = components_of c.args.target.now in
    subst (IsUnguarded t) (sym (c.range_from.ensures.value ∙ ap (drop 2) c.path-path.ensures))
    (path-without-guard-is-unguarded t (sym c.has_authority.ensures ∙ c.if-has_authority.false)
    (equal-to-true-is-IsTrue _ c.requires.absolute) c.requires.settled
    (sym (c.is_guarded.ensures
    ∙ ap is_guarded (c.as_bytes.ensures.value ∙ c.path-path.ensures)) ∙ c.if-is_guarded.true))

pub returns : goal.returns
returns c =
    let t = components_of c.args.target.now in
    subst (IsUnguarded t) (sym c.path-path.ensures) (path-that-needs-no-guard-is-unguarded t
    (sym c.has_authority.ensures ∙ c.if-has_authority.false)
    (equal-to-true-is-IsTrue _ c.requires.absolute) c.requires.settled
    (sym (c.is_guarded.ensures ∙ ap is_guarded (c.as_bytes.ensures.value ∙ c.path-path.ensures))
    ∙ c.if-is_guarded.false))
