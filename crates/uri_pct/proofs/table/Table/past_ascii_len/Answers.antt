use Rattle.uri_pct.proofs.Common.{◌≡◌, ◌+◌, drop, sym, ◌∙◌, IsCharBoundary, cond-false, valid_prefix, set_of}
use Rattle.uri_pct.proofs.ValidTexts.PrefixSteps.{valid_prefix_by_char_past_ascii_at_index}
use Rattle.uri_pct.proofs.TableSets.LeadBytes.{scan_passes_char}
use Rattle.uri_pct.proofs.table.Table.past_ascii_len.Goals as goal

pub returns-then-not-allows_past_ascii-clause-refused
    : goal.returns-then-not-allows_past_ascii-clause-refused
returns-then-not-allows_past_ascii-clause-refused c = λ _.
    valid_prefix_by_char_past_ascii_at_index (set_of c.args.self.now) c.args.text.now c.args.index
    c.char_at-ch.result c.utf8.text c.requires.here c.char_at-ch.ensures c.requires.past
    ∙ cond-false _ _ _ (sym c.allows_past_ascii.ensures ∙ c.if-not-allows_past_ascii.true)

decoded_char : (c : goal.After-len_utf8)
    → (valid_prefix (set_of c.args.self.now) (drop c.args.index c.args.text.now) ≡ valid_prefix
    (set_of c.args.self.now) (drop (c.args.index + c.len_utf8.result) c.args.text.now)
    + c.len_utf8.result) × IsCharBoundary c.args.text.now (c.args.index + c.len_utf8.result)
decoded_char c = scan_passes_char (set_of c.args.self.now)
    c.args.text.now _ c.args.index c.char_at-ch.result c.len_utf8.result c.utf8.text c.requires.here
    c.requires.inside c.requires.past c.char_at-ch.ensures (sym c.allows_past_ascii.ensures
    ∙ c.if-not-allows_past_ascii.false) (sym c.len_utf8.ensures.value)

pub returns-clause-boundary : goal.returns-clause-boundary
returns-clause-boundary c = (decoded_char c).1

pub returns-clause-allowed : goal.returns-clause-allowed
returns-clause-allowed c = λ _. (decoded_char c).0
