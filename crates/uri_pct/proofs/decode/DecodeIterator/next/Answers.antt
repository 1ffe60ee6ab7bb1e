use Rattle.uri_pct.proofs.Common.{◌≡◌, ◌∷◌, ◌+◌, ◌*◌, length, sym, ap, ◌∙◌, subst, arith, rules, digit_value, Byte, Text, chunks, widest_set, IsValidFor, nil_from_length}
use Rattle.uri_pct.proofs.Decodings.Decoding.{BeginsWithOctet, boundary_after_octet, bytes_from_percent_begin_with_octet, bytes_begin_with_text_up_to_percent, first_chunk_is_value_of_octet, empty_text_has_no_chunks}
use Rattle.uri_pct.proofs.decode.DecodeIterator.next.Goals as goal
use Rattle.uri_pct.proofs.decode.DecodeIterator.next.Goals.{Then-bytes-eq37}

pub returns-then-is_empty-clause-steps : goal.returns-then-is_empty-clause-steps
returns-then-is_empty-clause-steps c = grind (arith, nil_from_length, empty_text_has_no_chunks)

-- the text begins with the octet of its first `%`
octet : (c : Then-bytes-eq37) → BeginsWithOctet c.args.self.now.rest.now
octet c = bytes_from_percent_begin_with_octet c.as_bytes-bytes.result.now c.args.self.now.rest.now
    c.as_bytes-bytes.ensures.value c.as_bytes-bytes.ensures.utf8 c.args.self.now.whole
    (sym c.is_empty.ensures ∙ c.if-is_empty.false) c.if-bytes-eq37.true

pub bounds-bytes-1 : goal.bounds-bytes-1
bounds-bytes-1 c =
    let o = octet (goal.at.bounds-bytes-1 c).Then-bytes-eq37 in
    omega (arith, ap length (c.as_bytes-bytes.ensures.value ∙ o.joined))

pub bounds-bytes-2 : goal.bounds-bytes-2
bounds-bytes-2 c =
    let o = octet (goal.at.bounds-bytes-2 c).Then-bytes-eq37 in
    omega (arith, ap length (c.as_bytes-bytes.ensures.value ∙ o.joined))

pub octet_value-value-requires-clause-high : goal.octet_value-value-requires-clause-high
octet_value-value-requires-clause-high c =
    let o = octet (goal.at.octet_value-value-requires-clause-high c).Then-bytes-eq37 in
    grind arith

pub octet_value-value-requires-clause-low : goal.octet_value-value-requires-clause-low
octet_value-value-requires-clause-low c =
    let o = octet (goal.at.octet_value-value-requires-clause-low c).Then-bytes-eq37 in
    grind arith

pub range_from-self-requires : goal.range_from-self-requires
range_from-self-requires c =
    let o = octet (goal.at.range_from-self-requires c).Then-bytes-eq37 in
    grind (arith, boundary_after_octet)

pub invariant_of-self : goal.invariant_of-self
invariant_of-self c =
    let o = octet (goal.at.invariant_of-self c).Then-bytes-eq37 in
    let suffix : c.range_from-self.result.now ≡ o.suffix = grind arith in
    record { whole = subst (IsValidFor widest_set) (sym suffix) o.valid }

octet_steps : (c : goal.After-self-1) → chunks c.args.self.now.rest.now
    ≡ Byte c.octet_value-value.result ∷ chunks c.range_from-self.result.now
octet_steps c =
    let o = bytes_from_percent_begin_with_octet c.as_bytes-bytes.result.now c.args.self.now.rest.now
    c.as_bytes-bytes.ensures.value c.as_bytes-bytes.ensures.utf8 c.args.self.now.whole
    (sym c.is_empty.ensures ∙ c.if-is_empty.false) c.if-bytes-eq37.true in
    let joined = c.as_bytes-bytes.ensures.value ∙ o.joined in
    let suffix : c.range_from-self.result.now ≡ o.suffix = grind arith in
    let value : c.octet_value-value.result ≡ 16 * digit_value o.high + digit_value o.low =
    grind arith in
    grind (arith, first_chunk_is_value_of_octet)

pub returns-then-bytes-eq37-clause-steps : goal.returns-then-bytes-eq37-clause-steps
returns-then-bytes-eq37-clause-steps c = octet_steps c

pub returns-then-bytes-eq37-clause-goes : goal.returns-then-bytes-eq37-clause-goes
returns-then-bytes-eq37-clause-goes c = let shorter = ap length (octet_steps c) in search rules

pub split_at-requires : goal.split_at-requires
split_at-requires c =
    let t = bytes_begin_with_text_up_to_percent c.as_bytes-bytes.result.now c.args.self.now.rest.now
    c.unencoded_len.result c.as_bytes-bytes.ensures.value c.as_bytes-bytes.ensures.utf8
    c.args.self.now.whole (sym c.is_empty.ensures ∙ c.if-is_empty.false)
    c.if-bytes-eq37.false (grind arith) in
    t.1

pub invariant_of-self-2 : goal.invariant_of-self-2
invariant_of-self-2 c =
    let t = bytes_begin_with_text_up_to_percent c.as_bytes-bytes.result.now c.args.self.now.rest.now
    c.unencoded_len.result c.as_bytes-bytes.ensures.value c.as_bytes-bytes.ensures.utf8
    c.args.self.now.whole (sym c.is_empty.ensures ∙ c.if-is_empty.false)
    c.if-bytes-eq37.false (grind arith) in
    record { whole = subst (IsValidFor widest_set) (sym c.split_at.ensures.back) t.0.valid }

text_steps : (c : goal.After-text-2-1) → chunks c.args.self.now.rest.now
    ≡ Text c.split_at.result.0.now ∷ chunks c.split_at.result.1.now
text_steps c = grind (arith, bytes_begin_with_text_up_to_percent)

pub returns-clause-steps : goal.returns-clause-steps
returns-clause-steps c = text_steps c

pub returns-clause-goes : goal.returns-clause-goes
returns-clause-goes c = let shorter = ap length (text_steps c) in search rules
