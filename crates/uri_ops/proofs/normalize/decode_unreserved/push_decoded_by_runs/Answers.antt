use Rattle.uri_ops.proofs.Common.{common_steps, arith, length, sym, ap, subst, string_bytes, IsCharBoundary, IsCharBoundary-at_seam, decode_tokens, set_of, tokens, print, lowered_if}
use Rattle.uri_ops.proofs.Meanings.WrittenFormatting.{printed-lowered-decoding-is-utf8, formatting-encoded-after-prefix, encoding-formatting-completes-decoding, decoding-without-formatting-is-complete}
use Rattle.uri_ops.proofs.normalize.decode_unreserved.push_decoded_by_runs.Goals as goal

pub encode_formatting-requires : goal.encode_formatting-requires
encode_formatting-requires c =
    let set = set_of c.args.table.now in
    let text = c.args.text.now in
    let old = string_bytes c.args.out.now in
    let new = string_bytes c.push_decoded_runs.new.out in
    let more = print (lowered_if c.args.lowers (decode_tokens set (tokens text))) in
    subst (IsCharBoundary new) (sym (ap length c.as_str-start.ensures.value))
    (IsCharBoundary-at_seam new old more c.in_ok-push_decoded_runs.ensures
    (printed-lowered-decoding-is-utf8 c.args.lowers set text c.requires))

pub returns-then-encodes_formatting : goal.returns-then-encodes_formatting
returns-then-encodes_formatting c =
    grind (
      arith,
      common_steps,
      tokens,
      formatting-encoded-after-prefix,
      encoding-formatting-completes-decoding,
    )

pub returns-else-encodes_formatting : goal.returns-else-encodes_formatting
returns-else-encodes_formatting c = grind (arith, decoding-without-formatting-is-complete)
