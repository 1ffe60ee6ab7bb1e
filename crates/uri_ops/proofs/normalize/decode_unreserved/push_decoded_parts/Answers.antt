use Rattle.uri_ops.proofs.Common.{◌≡◌, ◌++◌, ap, refl, rules, subst, sym, ◌∙◌, string_bytes, widest_set, decode_tokens, set_of, IsValidFor, print, tokens, lowered_if}
use Rattle.uri_ops.proofs.Meanings.TakenDecodings.{all-parts-give-decoded-tokens}
use Rattle.uri_ops.proofs.normalize.decode_unreserved.push_decoded_parts.Goals as goal

pub returns : goal.returns
returns c =
    let old = string_bytes c.args.out.now in
    let now = string_bytes c.take_parts.new.taker.text.now in
    let rest = c.of_text.result.rest.now in
    let took = c.in_ok-take_parts.ensures in
    let name = sym took.same in
    let bytes : now ≡ old ++ print (lowered_if c.args.lowers
    (decode_tokens (set_of c.args.table.now) (tokens c.args.text.now))) =
    all-parts-give-decoded-tokens rest old _ c.take_parts.new.taker (subst (IsValidFor widest_set)
    (sym c.of_text.ensures) c.requires) refl took ∙ ap (λ t. old ++ print (lowered_if c.args.lowers
    (decode_tokens (set_of c.args.table.now) (tokens t)))) c.of_text.ensures in
    search rules
