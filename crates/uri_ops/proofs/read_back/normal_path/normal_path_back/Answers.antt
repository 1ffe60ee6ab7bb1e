use Rattle.uri_ops.proofs.Common.{◌≡◌, ◌++◌, ◌&&◌, false, subst, sym, ap, ◌∙◌, is_some, IsUtf8, and_right, decode_unreserved, text_of, print, starts, remove_dot_segments, guarded}
use Rattle.uri_ops.proofs.Meanings.Decodable.{valid-text-is-decodable}
use Rattle.uri_ops.proofs.Normal.NormalPieces.{absolute-is-leading-slash, path-with-dots-is-normal-when-decoded}
use Rattle.uri_ops.specs.FromEnd.PathBack.{path_unread}
use Rattle.uri_ops.proofs.FromEnd.NormalParts.{normal_path_under_scheme, second_piece_alone}
use Rattle.uri_ops.proofs.read_back.normal_path.normal_path_back.Goals as goal

pub new-text-requires-clause-valid : goal.new-text-requires-clause-valid
new-text-requires-clause-valid g c = valid-text-is-decodable
    c.table.result g.E.Encoder.set c.as_str.result.now c.table.ensures c.as_str.ensures.valid

pub new-text-requires-2-clause-valid : goal.new-text-requires-2-clause-valid
new-text-requires-2-clause-valid g c = valid-text-is-decodable c.table-2.result
    g.E.Encoder.set c.as_str-2.result.now c.table-2.ensures c.as_str-2.ensures.valid

pub returns-then-is_absolute : goal.returns-then-is_absolute
returns-then-is_absolute g c = λ scheme authority s a.
    let path = text_of c.args.path in
    let text = path_unread c.new-text.result in
    c.join.ensures ∙ ap (λ t. t ++ text) c.copied.ensures ∙ c.guard_before.ensures authority a
    ∙ ap (guarded authority) (c.new-text.ensures ∙ ap (λ set. print
    (decode_unreserved set (remove_dot_segments c.as_str.result.now))) c.table.ensures ∙ ap
    (λ t. print (decode_unreserved g.E.Encoder.set (remove_dot_segments t))) c.as_str.ensures.text)
    ∙ normal_path_under_scheme g.E.Encoder.set scheme authority path (s ∙ c.if-has_scheme.true)
    (absolute-is-leading-slash path ∙ sym c.is_absolute.ensures ∙ c.if-is_absolute.true)

pub returns : goal.returns
returns g c = λ scheme authority s a.
    let path = text_of c.args.path in
    let off : (is_some scheme && starts 47 path) ≡ false = elim c.else-has_scheme.branch [
      | goal.else-has_scheme-via-then-has_scheme+else-is_absolute w ↦ and_right
          (is_some scheme) (starts 47 path)
          (absolute-is-leading-slash path ∙ sym w.is_absolute.ensures ∙ w.if-is_absolute.false)
      | goal.else-has_scheme-via-else-has_scheme w ↦ ap (λ b. b && starts 47 path)
          (s ∙ w.if-has_scheme.false)
    ] in
    second_piece_alone _ _ _ _ c.join-2.ensures c.copied-2.ensures (c.new-text-2.ensures
    ∙ ap (λ set. print (decode_unreserved set c.as_str-2.result.now)) c.table-2.ensures
    ∙ ap (λ t. print (decode_unreserved g.E.Encoder.set t)) c.as_str-2.ensures.text
    ∙ sym (path-with-dots-is-normal-when-decoded g.E.Encoder.set c.requires scheme authority path
    (subst IsUtf8 c.as_str-2.ensures.text c.as_str-2.utf8) c.args.path.valid off))
