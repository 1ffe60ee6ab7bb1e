use Rattle.uri_ops.proofs.Common.{◌≡◌, ◌++◌, length, take, sym, subst, ap, ◌∙◌, take_all, arith, string_bytes, IsUtf8, str_to_ascii_lowercase, IsUtf8-append}
use Rattle.uri_ops.proofs.Meanings.Cased.{lowered-text-is-utf8}
use Rattle.uri_ops.proofs.normalize.literal_runs.push_lower.Goals as goal

pub put_bytes-requires : goal.put_bytes-requires
put_bytes-requires c =
    let text = c.args.text.now in
    let out = string_bytes c.args.out.now in
    let whole : take c.loop-byte.byte-index text ≡ text = take_all c.loop-byte.byte-index text
    (omega (arith, ap length c.as_bytes-byte-items.ensures.value)) in
    let taken : c.take_bytes-bytes.result.items ≡ out =
    ap (λ bytes. bytes.items) c.take_bytes-bytes.ensures.value ∙ c.in_ok-reserve.ensures.bytes in
    let utf8 : IsUtf8 out = subst IsUtf8 taken c.take_bytes-bytes.ensures.utf8 in
    subst IsUtf8
    (sym (c.loop-byte.invariant.total ∙ ap (λ x. out ++ str_to_ascii_lowercase x) whole))
    (IsUtf8-append out (str_to_ascii_lowercase text) utf8 (lowered-text-is-utf8 text c.utf8.text))
