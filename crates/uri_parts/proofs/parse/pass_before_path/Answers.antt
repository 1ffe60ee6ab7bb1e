use Rattle.uri_parts.proofs.Common.{◌≡◌, ◌+◌, ap, sym, subst, ◌∙◌, arith, option_or, result_err, and_parts, valid_prefix, scheme_set, first_segment_set, authority_error, error_from_path}
use Rattle.uri_parts.specs.Models.Cursors.{cursor_position}
use Rattle.uri_parts.proofs.Refusals.Schemes.{error_of_scheme_and_slashes, error_without_scheme, error_of_scheme_without_slashes, last_of_three_fails}
use Rattle.uri_parts.proofs.parse.pass_before_path.Goals as goal

pub returns-then-scheme-clause-refused : goal.returns-then-scheme-clause-refused
returns-then-scheme-clause-refused g c =
    let kind = g.K.Kind.kind in
    let text = c.args.cursor.now.text.now in
    let scheme = c.pass_scheme-scheme in
    let facts = and_parts _ _ (sym scheme.ensures.authority ∙ c.if-scheme.true) in
    let others = and_parts _ _ facts.1 in
    let place : cursor_position scheme.new.cursor ≡ valid_prefix scheme_set text + 1 + 2 =
    grind arith in
    let returned = subst (λ t. authority_error kind t (cursor_position scheme.new.cursor)
    ≡ option_or (result_err c.pass_authority.result)
    (error_from_path kind t (cursor_position c.pass_authority.new.cursor)))
    scheme.ensures.text c.pass_authority.ensures.refused in
    error_of_scheme_and_slashes (first_segment_set kind) kind text (sym scheme.ensures.colon
    ∙ facts.0) others.0 others.1 ∙ (ap (authority_error kind text) (sym place) ∙ returned)

pub returns-then-scheme-2-clause-refused : goal.returns-then-scheme-2-clause-refused
returns-then-scheme-2-clause-refused g c =
    grind (arith, last_of_three_fails, error_of_scheme_without_slashes)

pub returns-clause-refused : goal.returns-clause-refused
returns-clause-refused g c = grind (arith, error_without_scheme)
