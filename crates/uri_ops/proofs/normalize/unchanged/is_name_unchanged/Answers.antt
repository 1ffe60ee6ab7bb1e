use Rattle.uri_ops.proofs.Common.{◌≡◌, true, rules, tests, sym, ap, ◌∙◌, list_all, is_unchanged_host_byte}
use Rattle.std.proofs.lemmas.Iterator.{YieldsList-from_slice}
use Rattle.std.proofs.lemmas.Iterator.Search.{all_from_yields_List}
use Rattle.uri_ops.proofs.Normal.UnchangedPrefixes.{host_of_unchanged_bytes_is_unchanged, unchanged_bytes_are_lower}
use Rattle.uri_ops.proofs.normalize.unchanged.is_name_unchanged.Goals as goal

pub returns-clause-lower : goal.returns-clause-lower
returns-clause-lower c = λ e.
    let same : list_all is_unchanged_host_byte c.args.text.now ≡ true =
    ap (list_all is_unchanged_host_byte) (sym c.as_bytes-bytes.ensures.value)
    ∙ sym (all_from_yields_List is_unchanged_host_byte _ _ _ c.all.ensures.ran
    (YieldsList-from_slice c.as_bytes-bytes.result.now cc)
    (λ x b q k. search (rules, tests))) ∙ e in
    unchanged_bytes_are_lower c.args.text.now same

pub returns-clause-host : goal.returns-clause-host
returns-clause-host c = λ e.
    let same : list_all is_unchanged_host_byte c.args.text.now ≡ true =
    ap (list_all is_unchanged_host_byte) (sym c.as_bytes-bytes.ensures.value)
    ∙ sym (all_from_yields_List is_unchanged_host_byte _ _ _ c.all.ensures.ran
    (YieldsList-from_slice c.as_bytes-bytes.result.now cc)
    (λ x b q k. search (rules, tests))) ∙ e in
    host_of_unchanged_bytes_is_unchanged c.args.text.now same
