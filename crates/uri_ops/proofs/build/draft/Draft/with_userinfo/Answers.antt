use Rattle.uri_ops.proofs.Common.{◌≡◌, ◌∙◌, ◌++◌, false, codes, string_bytes, with_userinfo}
use Rattle.uri_ops.proofs.Builders.BuilderDrafts.{change-of-parts-unless-failed, appended-twice-is-appended}
use Rattle.uri_ops.proofs.Builders.BuilderGrowth.{draft-with-longer-authority, string_len-is-length-of-bytes}
use Rattle.uri_ops.proofs.build.draft.Draft.with_userinfo.Goals as goal

pub invariant_of-result : goal.invariant_of-result
invariant_of-result c =
    let g = c.append_unless_failed-failed-2.result in
    let kept = λ (e : c.append_unless_failed-failed-2.result ≡ false).
    c.append_unless_failed-failed.ensures.kept (c.append_unless_failed-failed-2.ensures.kept e) in
    let new = string_bytes c.append_unless_failed-failed-2.new.text in
    record {
      ok = λ w. (draft-with-longer-authority
          c.args.self (c.args.userinfo.now ++ codes "@") new g kept c.len-old.result
          c.len.result (c.len-old.ensures ∙ string_len-is-length-of-bytes c.args.self.text)
          (c.len.ensures ∙ string_len-is-length-of-bytes c.append_unless_failed-failed-2.new.text)
          c.requires c.lengths_with_longer_authority-lengths.result
          c.lengths_with_longer_authority-lengths.ensures (appended-twice-is-appended
          (string_bytes c.args.self.text) c.args.userinfo.now (codes "@") (string_bytes
          c.append_unless_failed-failed.new.text) new c.append_unless_failed-failed.result
          g c.append_unless_failed-failed-2.ensures.kept c.append_unless_failed-failed.ensures.text
          c.append_unless_failed-failed-2.ensures.text) w).draft;
    }

pub returns-clause-adds : goal.returns-clause-adds
returns-clause-adds c =
    let g = c.append_unless_failed-failed-2.result in
    let kept = λ (e : c.append_unless_failed-failed-2.result ≡ false).
    c.append_unless_failed-failed.ensures.kept (c.append_unless_failed-failed-2.ensures.kept e) in
    let old = string_bytes c.args.self.text in
    let new = string_bytes c.append_unless_failed-failed-2.new.text in
    change-of-parts-unless-failed (with_userinfo c.args.userinfo.now) c.args.self.lengths
    c.lengths_with_longer_authority-lengths.result old new c.args.self.failed g kept
    (λ w. (draft-with-longer-authority c.args.self
    (c.args.userinfo.now ++ codes "@") new g kept c.len-old.result c.len.result
    (c.len-old.ensures ∙ string_len-is-length-of-bytes c.args.self.text) (c.len.ensures
    ∙ string_len-is-length-of-bytes c.append_unless_failed-failed-2.new.text) c.requires
    c.lengths_with_longer_authority-lengths.result c.lengths_with_longer_authority-lengths.ensures
    (appended-twice-is-appended old c.args.userinfo.now (codes "@")
    (string_bytes c.append_unless_failed-failed.new.text) new c.append_unless_failed-failed.result
    g c.append_unless_failed-failed-2.ensures.kept c.append_unless_failed-failed.ensures.text
    c.append_unless_failed-failed-2.ensures.text) w).parts)
