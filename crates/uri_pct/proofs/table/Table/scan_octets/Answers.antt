use Rattle.uri_pct.proofs.Common.{◌≡◌, ◌+◌, ◌<◌, true, false, length, drop, get_or, arith, rules, ◌&&◌, sym, ◌∙◌, subst, and_right, IsCharBoundary-after_ascii, valid_prefix, has_hex_digits_after, set_of}
use Rattle.uri_pct.proofs.ValidTexts.PrefixSteps.{valid_prefix_passes_ascii_char_of_set, valid_prefix_stops_at_ascii_outside_set, valid_prefix_stops_at_stray_percent}
use Rattle.uri_pct.proofs.TableSets.Percent.{lacks_percent}
use Rattle.uri_pct.proofs.ValidTexts.ScannedRuns.{octet_is_scanned}
use Rattle.uri_pct.proofs.table.Table.scan_octets.Goals as goal
use Rattle.uri_pct.proofs.table.Table.scan_octets.Goals.{then-byte-ge128-via-then-byte-ge128}

pub loop-i-preserved-then-byte-eq37 : goal.loop-i-preserved-then-byte-eq37
loop-i-preserved-then-byte-eq37 c =
    let bs = c.as_bytes-bytes.result.now in
    let i = c.loop-i.i in
    let digits = sym c.has_octet_digits.ensures.value ∙ c.if-not-has_octet_digits.false in
    let within : i + 2 < length bs = c.has_octet_digits.ensures.within (search rules) in
    let r = octet_is_scanned (set_of c.args.table.now) bs i c.as_bytes-bytes.ensures.utf8
    c.requires.octets within c.if-byte-eq37.true digits in
    grind arith

pub loop-i-preserved : goal.loop-i-preserved
loop-i-preserved c =
    let set = set_of c.args.table.now in
    let bs = c.as_bytes-bytes.result.now in
    let i = c.loop-i.i in
    let inside : set.ascii (get_or bs i 0) ≡ true = grind arith in
    let below : get_or bs i 0 < 128 = omega (arith, c.if-byte-ge128.false) in
    let e : valid_prefix set (drop i bs) ≡ valid_prefix set (drop (i + 1) bs) + 1 =
    grind (arith, valid_prefix_passes_ascii_char_of_set, lacks_percent) in
    record {
      from = omega (arith, c.loop-i.invariant.from);
      boundary = IsCharBoundary-after_ascii bs i c.as_bytes-bytes.ensures.utf8
          c.loop-i-test.true below;
      total = omega (arith, e, c.loop-i.invariant.total);
    }

pub returns-then-not-has_octet_digits-clause-stop
    : goal.returns-then-not-has_octet_digits-clause-stop
returns-then-not-has_octet_digits-clause-stop c = λ _ _.
    let set = set_of c.args.table.now in
    let bs = c.as_bytes-bytes.result.now in
    let i = c.loop-i.i in
    let stray : (set.pct_encoded && has_hex_digits_after bs i) ≡ false =
    and_right _ _ (sym c.has_octet_digits.ensures.value ∙ c.if-not-has_octet_digits.true) in
    subst (λ t. valid_prefix set (drop i t) ≡ 0) c.as_bytes-bytes.ensures.value
    (valid_prefix_stops_at_stray_percent set
    (lacks_percent c.args.table.now) bs i c.loop-i-test.true c.if-byte-eq37.true stray)

pub returns-then-byte-ge128-clause-stop : goal.returns-then-byte-ge128-clause-stop
returns-then-byte-ge128-clause-stop c =
    grind (arith, then-byte-ge128-via-then-byte-ge128, valid_prefix_stops_at_ascii_outside_set)
