use Rattle.uri_parts.proofs.Common.{◌≡◌, ℕ, ◌+◌, refl, ◌-◌, ◌≤◌, ◌==◌, true, false, length, take, replicate, drop, Some, sym, ap, ◌∙◌, arith, length-take-le, ne_eqb, read_ipv6, read_segments}
use Rattle.std.proofs.lemmas.Slice.{take-put_mid}
use borrow.Rule.Slice.PartMut.{put_mid}
use Rattle.uri_parts.proofs.HostForms.GroupReading.{colon-at-position-is-read, tail-groups-are-placed-last}
use Rattle.uri_parts.proofs.address_reader.read_ipv6.Goals as goal

pub returns-clause-read : goal.returns-clause-read
unfolding read_ipv6
returns-clause-read c =
    let head = c.read_groups.new.segments in
    let tail = c.read_groups-2.new.segments in
    let h = c.in_ok-head.head.count in
    let t = c.in_ok-last.last.count in
    let found_head = c.in_ok-head.ensures in
    let found_tail = c.in_ok-last.ensures in
    let eight : length c.args.segments.now ≡ 8 = ap length c.requires.zeros in
    let size : length head ≡ 8 = c.read_groups.auto.segments ∙ eight in
    let zeros = found_head.others ∙ ap (drop h) c.requires.zeros in
    let len_h : length (take h head) ≡ h = length-take-le h head (omega arith) in
    let within : t ≤ length tail =
    omega (arith, c.read_groups-2.auto.segments, found_tail.within) in
    let len_t : length (take t tail) ≡ t = length-take-le t tail within in
    let part : length (take (15 - h - 8) (replicate {A = ℕ} 8 0)) ≡ 7 - h =
    length-take-le _ _ (omega arith) ∙ omega arith in
    let window = put_mid 8 (15 - h - 8) (replicate 16 0) tail in
    let put = tail-groups-are-placed-last head tail c.merge_tail.new.segments window h t
    (8 - length (take h head) - length (take t tail)) size
    (omega arith) (omega (arith, found_tail.within, part, c.if-head-eq8.false)) within
    (omega (arith, len_h, len_t)) zeros
    (take-put_mid 8 (15 - h - 8) (replicate 16 0) tail _ refl (omega arith)) c.merge_tail.ensures in
    let text = c.args.text.now in
    let read_head = ap (λ n. read_segments n true (drop c.args.start text)) (sym eight)
    ∙ found_head.value in
    let end = c.in_ok-head.head.end in
    let one = colon-at-position-is-read text end
    (sym c.byte_at.ensures ∙ c.if-byte_at-ne58.false) in
    let two = colon-at-position-is-read text (end + 1)
    (sym c.byte_at-else-byte_at-ne58.ensures ∙ c.if-byte_at-ne58-2.false) in
    let read_tail : read_segments (7 - length (take h head)) true (drop (end + 2) text)
    ≡ (take t tail, c.in_ok-last.last.has_ipv4, drop c.in_ok-last.last.end text) =
    rw (len_h, ← part) found_tail.value in
    let short : (length (take h head) == 8) ≡ false = rw len_h (ne_eqb _ _ c.if-head-eq8.false) in
    let next : drop (end + 1 + 1) text ≡ drop (end + 2) text =
    ap (λ n. drop n text) (omega arith) in
    rw (
      read_head,
      short,
      c.if-head.false,
      one,
      two,
      next,
      read_tail,
    ) (ap (λ s. Some (s, drop c.in_ok-last.last.end text)) put)
