use Rattle.uri_streams.proofs.Common.{◌≡◌, ◌∙◌, ap, cond, rules, false, string_bytes, true, bytes_eq}
use Rattle.std.specs.HashSet.{contains_text}
use Rattle.uri_streams.proofs.Uniques.{text_if_new-of-new}
use Rattle.uri_streams.proofs.task.borrowed_if_new.Goals as goal

pub returns : goal.returns
returns c = λ known has.
    let same : string_bytes c.in_ok-from_str.field-0 ≡ c.args.normal.now = search rules in
    let unknown : contains_text c.args.met.now.texts c.args.normal.now ≡ false = search rules in
    text_if_new-of-new c.args.met.now c.note.new.self known c.args.normal.now has
    (λ other. c.in_ok-note.ensures other
    ∙ ap (λ k. cond (bytes_eq k other) true (contains_text c.args.met.now.texts other)) same)
    unknown
