use Rattle.uri_pct.proofs.Common.{◌≡◌, ◌+◌, ◌<◌, true, false, length, drop, get_or, arith, ◌&&◌, sym, ◌∙◌, ap, subst, ℕ, List, slice_index, IsUtf8, IsCharBoundary, and_left, IsCharBoundary-after_ascii, valid_prefix, has_hex_digits_after, set_of, Table, IsLongestRun, is_char_byte}
use Rattle.uri_pct.proofs.ValidTexts.PrefixSteps.{valid_prefix_passes_ascii_char_of_set, valid_prefix_stops_at_ascii_outside_set, valid_prefix_stops_at_stray_percent}
use Rattle.uri_pct.proofs.TableSets.Percent.{lacks_percent}
use Rattle.uri_pct.proofs.TableSets.Masks.{has_bit-only-ascii}
use Rattle.uri_pct.proofs.TableSets.LeadBytes.{byte_in_lead_range_is_c3_to_ed}
use Rattle.uri_pct.proofs.LaneScans.CharRuns.{char_run_is_scanned_from_start, char_run_ends_at_boundary, char_part_begins_nonempty_run}
use Rattle.uri_pct.proofs.table.Table.pass_next_run.Goals as goal

-- no octets are allowed
pub returns-then-not-allows_pct_encoded-clause-stop
    : goal.returns-then-not-allows_pct_encoded-clause-stop
returns-then-not-allows_pct_encoded-clause-stop c = λ _.
    let set = set_of c.args.self.now in
    let bs = c.as_bytes-bytes.result.now in
    let same = c.as_bytes-bytes.ensures.value in
    let stray : (set.pct_encoded && has_hex_digits_after bs c.args.start) ≡ false =
    and_left _ _ (sym c.allows_pct_encoded.ensures ∙ c.if-not-allows_pct_encoded.true) in
    subst (λ t. valid_prefix set (drop c.args.start t) ≡ 0) same
    (valid_prefix_stops_at_stray_percent set (lacks_percent c.args.self.now) bs c.args.start
    (subst (λ t. c.args.start < length t) (sym same) c.requires.inside) c.if-byte-eq37.true stray)

pub scan_octets-requires-clause-octets : goal.scan_octets-requires-clause-octets
scan_octets-requires-clause-octets c =
    sym c.allows_pct_encoded.ensures ∙ c.if-not-allows_pct_encoded.false

pub returns-then-byte-eq37-clause-stop : goal.returns-then-byte-eq37-clause-stop
returns-then-byte-eq37-clause-stop c = grind arith

-- a character of ASCII
pub returns-then-not-has-clause-stop : goal.returns-then-not-has-clause-stop
returns-then-not-has-clause-stop c = grind (arith, valid_prefix_stops_at_ascii_outside_set)

no_octet : (t : Table) (text bs : List ℕ) (i : ℕ) → bs ≡ text → IsUtf8 text → i < length text
    → get_or bs i 0 < 128 → (set_of t).ascii (get_or bs i 0) ≡ true
    → (valid_prefix (set_of t) (drop i text) ≡ valid_prefix (set_of t) (drop (i + 1) text) + 1)
    × IsCharBoundary text (i + 1)
no_octet t text bs i same u within low given =
    let below : get_or text i 0 < 128 = subst (λ l. slice_index l i < 128) same low in
    let inside : (set_of t).ascii (get_or text i 0) ≡ true =
    subst (λ l. (set_of t).ascii (slice_index l i) ≡ true) same given in (
      valid_prefix_passes_ascii_char_of_set (set_of t) (lacks_percent t) text i within below inside,
      IsCharBoundary-after_ascii text i u within below,
    )

pub pass_ascii_run-requires : goal.pass_ascii_run-requires
pass_ascii_run-requires c = (no_octet c.args.self.now c.args.text.now c.as_bytes-bytes.result.now
    c.args.start c.as_bytes-bytes.ensures.value c.utf8.text c.requires.inside c.if-byte-lt128.true
    (sym (ap (λ f. f (get_or c.as_bytes-bytes.result.now c.args.start 0)) c.masks-low.ensures)
    ∙ sym c.has.ensures ∙ c.if-not-has.false)).1

pub returns-then-byte-lt128-clause-total : goal.returns-then-byte-lt128-clause-total
returns-then-byte-lt128-clause-total c = grind (arith, no_octet)

-- characters past ASCII
run : (c : goal.After-chars_end) → IsLongestRun
    (is_char_byte (set_of c.args.self.now).ascii) c.args.text.now c.args.start c.chars_end.result
run c = grind arith

pub returns-then-allows_lead-clause-total : goal.returns-then-allows_lead-clause-total
returns-then-allows_lead-clause-total c =
    grind (arith, char_run_is_scanned_from_start, lacks_percent, has_bit-only-ascii)

pub returns-then-allows_lead-clause-from : goal.returns-then-allows_lead-clause-from
returns-then-allows_lead-clause-from c = (run c).from

pub returns-then-allows_lead-clause-boundary : goal.returns-then-allows_lead-clause-boundary
returns-then-allows_lead-clause-boundary c =
    grind (arith, char_run_ends_at_boundary, lacks_percent, has_bit-only-ascii)

pub returns-then-allows_lead-clause-stop : goal.returns-then-allows_lead-clause-stop
returns-then-allows_lead-clause-stop c =
    grind (arith, byte_in_lead_range_is_c3_to_ed, char_part_begins_nonempty_run)

pub past_ascii_len-requires-clause-past : goal.past_ascii_len-requires-clause-past
past_ascii_len-requires-clause-past c = grind arith

pub returns-clause-stop : goal.returns-clause-stop
returns-clause-stop c = λ e. c.past_ascii_len.ensures.refused (omega (arith, e))
