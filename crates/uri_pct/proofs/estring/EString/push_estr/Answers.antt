use Rattle.uri_pct.proofs.Common.{◌++◌, ap, ◌∙◌, string_bytes, tokens, IsUtf8-string_bytes}
use Rattle.uri_pct.proofs.ValidTexts.Growing.{grows_by_valid_text, valid_after_push}
use Rattle.uri_pct.proofs.estring.EString.push_estr.Goals as goal

pub invariant_of-self : goal.invariant_of-self
invariant_of-self g c =
    let set = g.E.Encoder.set in
    let before = c.args.self.now in
    let old = string_bytes before.text in
    let new = string_bytes c.push_str.new.self in
    let text = c.as_str.result.now in
    record {
      valid = valid_after_push set old new text c.push_str.result c.push_str.ensures.bytes
          before.valid (λ e. (grows_by_valid_text set old new text before.lacks_percent
          (IsUtf8-string_bytes before.text) before.valid c.as_str.ensures.valid e).valid);
      lacks_percent = before.lacks_percent;
    }

pub returns-clause-tokens : goal.returns-clause-tokens
returns-clause-tokens g c =
    let before = c.args.self.now in
    let old = string_bytes before.text in
    (grows_by_valid_text g.E.Encoder.set old (string_bytes c.push_str.new.self) c.as_str.result.now
    before.lacks_percent (IsUtf8-string_bytes before.text) before.valid c.as_str.ensures.valid
    c.in_ok-push_str.ensures.bytes).tokens ∙ ap (λ x. tokens old ++ tokens x) c.as_str.ensures.text
