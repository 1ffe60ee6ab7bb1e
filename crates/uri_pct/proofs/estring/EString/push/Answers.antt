use Rattle.uri_pct.proofs.Common.{string_bytes, encode_utf8, IsUtf8-string_bytes}
use Rattle.uri_pct.proofs.ValidTexts.Growing.{grows_by_char, valid_after_push}
use Rattle.uri_pct.proofs.estring.EString.push.Goals as goal

pub invariant_of-self : goal.invariant_of-self
invariant_of-self g c =
    let set = g.E.Encoder.set in
    let before = c.args.self.now in
    let old = string_bytes before.text in
    let new = string_bytes c.push.new.self in
    record {
      valid = valid_after_push set old new (encode_utf8 c.args.ch)
          c.push.result c.push.ensures.bytes before.valid (λ e. (grows_by_char set old new c.args.ch
          before.lacks_percent (IsUtf8-string_bytes before.text) before.valid c.requires e).valid);
      lacks_percent = before.lacks_percent;
    }

pub returns-clause-tokens : goal.returns-clause-tokens
returns-clause-tokens g c =
    let before = c.args.self.now in
    (grows_by_char g.E.Encoder.set
    (string_bytes before.text) (string_bytes c.push.new.self) c.args.ch before.lacks_percent
    (IsUtf8-string_bytes before.text) before.valid c.requires c.in_ok-push.ensures.bytes).tokens
