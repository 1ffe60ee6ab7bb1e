use Rattle.uri_ops.proofs.Common.{◌≡◌, ◌∙◌, false, string_bytes, with_host}
use Rattle.uri_ops.proofs.Builders.BuilderDrafts.{change-of-parts-unless-failed}
use Rattle.uri_ops.proofs.Builders.BuilderGrowth.{draft-with-longer-authority, string_len-is-length-of-bytes}
use Rattle.uri_ops.proofs.build.draft.Draft.with_host.Goals as goal

pub invariant_of-result : goal.invariant_of-result
invariant_of-result g c =
    let f = c.append_host-failed.result in
    let kept = λ (e : c.append_host-failed.result ≡ false). c.append_host-failed.ensures.kept e in
    record {
      ok = λ w. (draft-with-longer-authority c.args.self (g.H.AsHost.host_text c.args.host)
          (string_bytes c.append_host-failed.new.text) f kept c.len-old.result
          c.len.result (c.len-old.ensures ∙ string_len-is-length-of-bytes c.args.self.text)
          (c.len.ensures ∙ string_len-is-length-of-bytes c.append_host-failed.new.text)
          c.requires c.lengths_with_longer_authority-lengths.result
          c.lengths_with_longer_authority-lengths.ensures
          c.append_host-failed.ensures.text w).draft;
    }

pub returns-clause-adds : goal.returns-clause-adds
returns-clause-adds g c =
    let f = c.append_host-failed.result in
    let kept = λ (e : c.append_host-failed.result ≡ false). c.append_host-failed.ensures.kept e in
    let x = g.H.AsHost.host_text c.args.host in
    let new = string_bytes c.append_host-failed.new.text in
    change-of-parts-unless-failed
    (with_host x) c.args.self.lengths c.lengths_with_longer_authority-lengths.result
    (string_bytes c.args.self.text) new c.args.self.failed f kept
    (λ w. (draft-with-longer-authority c.args.self x new f kept c.len-old.result c.len.result
    (c.len-old.ensures ∙ string_len-is-length-of-bytes c.args.self.text)
    (c.len.ensures ∙ string_len-is-length-of-bytes c.append_host-failed.new.text)
    c.requires c.lengths_with_longer_authority-lengths.result
    c.lengths_with_longer_authority-lengths.ensures c.append_host-failed.ensures.text w).parts)
