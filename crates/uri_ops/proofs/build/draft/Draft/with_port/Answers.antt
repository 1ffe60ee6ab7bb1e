use Rattle.uri_ops.proofs.Common.{◌≡◌, ◌∙◌, ◌++◌, false, codes, string_bytes, with_port}
use Rattle.uri_ops.proofs.Builders.BuilderDrafts.{change-of-parts-unless-failed, appended-twice-is-appended}
use Rattle.uri_ops.proofs.Builders.BuilderGrowth.{draft-with-longer-authority, string_len-is-length-of-bytes}
use Rattle.uri_ops.proofs.build.draft.Draft.with_port.Goals as goal

pub invariant_of-result : goal.invariant_of-result
invariant_of-result g c =
    let f = c.append_port-failed.result in
    let kept = λ (e : c.append_port-failed.result
    ≡ false). c.append_unless_failed-begun.ensures.kept (c.append_port-failed.ensures.kept e) in
    let digits = g.P.AsPort.port_digits c.args.port in
    let new = string_bytes c.append_port-failed.new.text in
    record {
      ok = λ w. (draft-with-longer-authority c.args.self (codes ":" ++ digits) new
          f kept c.len-old.result c.len.result (c.len-old.ensures ∙ string_len-is-length-of-bytes
          c.args.self.text) (c.len.ensures ∙ string_len-is-length-of-bytes
          c.append_port-failed.new.text) c.requires c.lengths_with_longer_authority-lengths.result
          c.lengths_with_longer_authority-lengths.ensures (appended-twice-is-appended (string_bytes
          c.args.self.text) (codes ":") digits (string_bytes c.append_unless_failed-begun.new.text)
          new c.append_unless_failed-begun.result f c.append_port-failed.ensures.kept
          c.append_unless_failed-begun.ensures.text c.append_port-failed.ensures.text) w).draft;
    }

pub returns-clause-adds : goal.returns-clause-adds
returns-clause-adds g c =
    let f = c.append_port-failed.result in
    let kept = λ (e : c.append_port-failed.result
    ≡ false). c.append_unless_failed-begun.ensures.kept (c.append_port-failed.ensures.kept e) in
    let digits = g.P.AsPort.port_digits c.args.port in
    let old = string_bytes c.args.self.text in
    let new = string_bytes c.append_port-failed.new.text in
    change-of-parts-unless-failed (with_port digits) c.args.self.lengths
    c.lengths_with_longer_authority-lengths.result old new c.args.self.failed f kept
    (λ w. (draft-with-longer-authority c.args.self (codes ":" ++ digits) new f kept c.len-old.result
    c.len.result (c.len-old.ensures ∙ string_len-is-length-of-bytes c.args.self.text)
    (c.len.ensures ∙ string_len-is-length-of-bytes c.append_port-failed.new.text) c.requires
    c.lengths_with_longer_authority-lengths.result c.lengths_with_longer_authority-lengths.ensures
    (appended-twice-is-appended old
    (codes ":") digits (string_bytes c.append_unless_failed-begun.new.text)
    new c.append_unless_failed-begun.result f c.append_port-failed.ensures.kept
    c.append_unless_failed-begun.ensures.text c.append_port-failed.ensures.text) w).parts)
