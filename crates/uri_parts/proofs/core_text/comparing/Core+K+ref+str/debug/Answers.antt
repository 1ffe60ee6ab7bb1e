use Rattle.uri_parts.proofs.Common.{ap, subst, ◌∙◌, List, ℕ, Option, DisplaysOnOk, debug_option, debug_str, text_of, authority_text, debug_authority, debug_reference}
use Rattle.uri_parts.proofs.PrintedComponents.{debug_option-of-map, debug_reference_of-equal}
use Rattle.uri_parts.proofs.core_text.comparing.Core+K+ref+str.debug.Goals as goal

pub returns-then-is_plain : goal.returns-then-is_plain
unfolding debug_reference
returns-then-is_plain g c = subst (λ (o : Option (List ℕ)).
    DisplaysOnOk g.W.Write.write_str_gives c.args.f.now c.write.result o c.write.new.self)
    (debug_reference_of-equal c.args.name.now (g.S.Debug.debug_output c.args.scheme)
    (debug_option-of-map authority_text debug_authority c.authority-authority.result
    ∙ ap (debug_option debug_authority) c.authority-authority.ensures)
    (ap debug_str c.path-path.ensures) (debug_option-of-map text_of debug_str c.query-query.result
    ∙ ap (debug_option debug_str) c.query-query.ensures)
    (debug_option-of-map text_of debug_str c.fragment-fragment.result
    ∙ ap (debug_option debug_str) c.fragment-fragment.ensures)) c.write.ensures.writes
