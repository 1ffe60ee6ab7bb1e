use Rattle.uri_pct.proofs.Common.{◌++◌, ap, ◌∙◌, string_bytes, encode_text, set_of, print, IsUtf8-string_bytes}
use Rattle.uri_pct.proofs.ValidTexts.Growing.{grows_by_encoded_text, valid_after_ok_or_err}
use Rattle.uri_pct.proofs.estring.EString.encode_str.Goals as goal

pub invariant_of-self : goal.invariant_of-self
invariant_of-self g c =
    let set = g.E.Encoder.set in
    let sub = g.SubE.Encoder.set in
    let before = c.args.self.now in
    let old = string_bytes before.text in
    let new = string_bytes c.append_text.new.out in
    let more = print (encode_text (set_of c.table.result) c.args.text.now) in
    record {
      valid = valid_after_ok_or_err set old new more c.append_text.result c.append_text.ensures.ok
          c.append_text.ensures.err before.valid (λ e. (grows_by_encoded_text set
          sub old new c.args.text.now before.lacks_percent c.requires.subset c.requires.octets
          (IsUtf8-string_bytes before.text) c.utf8.text before.valid
          (e ∙ ap (λ s. old ++ print (encode_text s c.args.text.now)) c.table.ensures)).valid);
      lacks_percent = before.lacks_percent;
    }

pub returns-clause-tokens : goal.returns-clause-tokens
returns-clause-tokens g c =
    let set = g.E.Encoder.set in
    let sub = g.SubE.Encoder.set in
    let before = c.args.self.now in
    let old = string_bytes before.text in
    (grows_by_encoded_text set sub old (string_bytes c.append_text.new.out)
    c.args.text.now before.lacks_percent c.requires.subset c.requires.octets
    (IsUtf8-string_bytes before.text) c.utf8.text before.valid (c.in_ok-append_text.ensures.ok
    ∙ ap (λ s. old ++ print (encode_text s c.args.text.now)) c.table.ensures)).tokens
