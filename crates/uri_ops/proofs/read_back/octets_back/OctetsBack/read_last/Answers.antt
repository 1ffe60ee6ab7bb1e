-- A suffix of ASCII that is in no octet is what is written last, and so is the last token.
use Rattle.uri_ops.proofs.Common.{◌≡◌, ◌-◌, take, ap, ◌∙◌, arith, rules, set_of}
use Rattle.uri_ops.proofs.FromEnd.Blocks.{end_is_read_if_nothing_is_held, some_is_read}
use Rattle.uri_ops.proofs.FromEnd.LastAscii.{ascii_end_is_written_last}
use Rattle.uri_ops.proofs.read_back.octets_back.OctetsBack.read_last.Goals as goal

pub returns-then-start-bytes-clause-fewer : goal.returns-then-start-bytes-clause-fewer
returns-then-start-bytes-clause-fewer c = some_is_read 1024 c.args.end c.read_back.result _ _
    c.args.block.now c.read_back.new.block (first_of (search rules, omega arith))
    (first_of (search rules, omega arith)) c.requires.end
    c.read_back.ensures.text c.read_back.ensures.end c.split_last_token.ensures.some c.requires.room

pub invariant_of-self-2 : goal.invariant_of-self-2
invariant_of-self-2 c =
    let text = c.args.self.now.rest.now in
    let start = c.ascii_suffix_start-start.result in
    let zero : start - 0 ≡ start = omega arith in
    record {
      valid = (ascii_end_is_written_last (set_of c.args.self.now.table)
          c.args.self.now.lowers c.as_bytes-bytes.result.now text c.range-self.result.now start
          c.as_bytes-bytes.ensures.value (c.range-self.ensures.value ∙ ap (λ n. take n text) zero)
          c.range-self.utf8 c.args.self.now.valid c.ascii_suffix_start-start.ensures.suffix).1;
    }

pub returns-clause-text : goal.returns-clause-text
returns-clause-text c = grind (arith, ascii_end_is_written_last, end_is_read_if_nothing_is_held)
