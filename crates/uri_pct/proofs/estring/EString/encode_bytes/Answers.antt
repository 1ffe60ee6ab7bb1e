use Rattle.uri_pct.proofs.Common.{◌++◌, ap, ◌∙◌, string_bytes, encode_bytes, set_of, print, IsUtf8-string_bytes}
use Rattle.uri_pct.proofs.EncodedTexts.EncodedTokens.{bytes_below_256_are_eight_bit}
use Rattle.uri_pct.proofs.ValidTexts.Growing.{grows_by_encoded_bytes, valid_after_ok_or_err}
use Rattle.uri_pct.proofs.estring.EString.encode_bytes.Goals as goal

pub invariant_of-self : goal.invariant_of-self
invariant_of-self g c =
    let set = g.E.Encoder.set in
    let sub = g.SubE.Encoder.set in
    let before = c.args.self.now in
    let old = string_bytes before.text in
    let new = string_bytes c.append_bytes.new.out in
    let more = print (encode_bytes (set_of c.table.result) c.args.bytes.now) in
    record {
      valid = valid_after_ok_or_err set old new more c.append_bytes.result c.append_bytes.ensures.ok
          c.append_bytes.ensures.err before.valid (λ e. (grows_by_encoded_bytes set
          sub old new c.args.bytes.now before.lacks_percent c.requires.subset c.requires.octets
          (IsUtf8-string_bytes before.text) (bytes_below_256_are_eight_bit c.args.bytes.now
          (λ i. (c.type_inv.bytes i).fits)) before.valid
          (e ∙ ap (λ s. old ++ print (encode_bytes s c.args.bytes.now)) c.table.ensures)).valid);
      lacks_percent = before.lacks_percent;
    }

pub returns-clause-tokens : goal.returns-clause-tokens
returns-clause-tokens g c =
    let set = g.E.Encoder.set in
    let sub = g.SubE.Encoder.set in
    let before = c.args.self.now in
    let old = string_bytes before.text in
    (grows_by_encoded_bytes set sub old (string_bytes c.append_bytes.new.out) c.args.bytes.now
    before.lacks_percent c.requires.subset c.requires.octets (IsUtf8-string_bytes before.text)
    (bytes_below_256_are_eight_bit c.args.bytes.now (λ i. (c.type_inv.bytes i).fits)) before.valid
    (c.in_ok-append_bytes.ensures.ok
    ∙ ap (λ s. old ++ print (encode_bytes s c.args.bytes.now)) c.table.ensures)).tokens
