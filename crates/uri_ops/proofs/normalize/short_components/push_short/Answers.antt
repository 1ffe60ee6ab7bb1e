use Rattle.uri_ops.proofs.Common.{◌≡◌, ◌++◌, ◌≤◌, [], drop, length, sym, ap, subst, ◌∙◌, arith, append-nil, string_bytes, IsAscii, decoded_text}
use Rattle.uri_ops.proofs.Meanings.AsciiSuffixes.{ascii-suffix-keeps-utf8, suffix-and-rest-are-text}
use Rattle.uri_ops.proofs.Meanings.DecodedPrefixes.{none_written}
use Rattle.uri_ops.proofs.normalize.short_components.push_short.Goals as goal

pub put_bytes-requires : goal.put_bytes-requires
put_bytes-requires c = grind arith

pub put_bytes-requires-2 : goal.put_bytes-requires-2
put_bytes-requires-2 c = grind (arith, ascii-suffix-keeps-utf8)

pub returns-clause-done : goal.returns-clause-done
returns-clause-done c = λ _ set none.
    let text = c.args.text.now in
    let decoded = decoded_text c.args.lowers set text in
    let old = c.take_bytes-bytes.result.items in
    let new = c.push_short_bytes-end.new.out.items in
    let taken : old ≡ string_bytes c.args.out.now =
    ap (λ v. v.items) c.take_bytes-bytes.ensures.value in
    let within : c.push_short_bytes-end.result ≤ length text =
    c.push_short_bytes-end.ensures.boundary.0 in
    let pushed : new ≡ old ++ decoded = none_written c.args.lowers set text new (old ++ decoded)
    c.push_short_bytes-end.result (omega (arith, within, c.if-end-text.false))
    (c.push_short_bytes-end.ensures.text set none) in
    let suffix : drop (length old) new ≡ decoded = sym (append-nil (drop (length old) new))
    ∙ suffix-and-rest-are-text old new [] decoded (record {
      unchanged = c.push_short_bytes-end.ensures.unchanged;
      ascii = c.push_short_bytes-end.ensures.ascii;
    }) (append-nil new ∙ pushed) in (
      c.put_bytes-2.ensures ∙ pushed ∙ ap (λ x. x ++ decoded) taken,
      subst IsAscii suffix c.push_short_bytes-end.ensures.ascii,
    )
