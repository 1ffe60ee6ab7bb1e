use Rattle.uri_ops.proofs.Common.{◌≡◌, ℕ, ◌+◌, ◌-◌, List, ◌++◌, length, take, drop, arith, ap, sym, ◌∙◌, append_assoc, take-add, encode_past_ascii}
use Rattle.uri_ops.proofs.AsciiForms.EncodedPaths.{encoding-of-append-is-append}
use Rattle.uri_ops.proofs.AsciiForms.EncodedRuns.{pushed-ascii-run-is-encoding, nothing-pushed-is-encoding, end-of-run-is-within-bytes, slice_from-is-drop}
use Rattle.uri_ops.proofs.convert.encoded.push_past_ascii_encoded.Goals as goal

pub loop-done-init : goal.loop-done-init
loop-done-init c = record { inside = omega arith; total = nothing-pushed-is-encoding _ }

-- IRIs as URIs: appending the encoding of n bytes from i on continues the encoded text
pushed-encoding-is-encoding : (old mid new bytes : List ℕ) (i n : ℕ)
    → mid ≡ old ++ encode_past_ascii (take i bytes) → new ≡ mid ++ encode_past_ascii (take n
    (take (length bytes - i) (drop i bytes))) → new ≡ old ++ encode_past_ascii (take (i + n) bytes)
pushed-encoding-is-encoding old mid new bytes i n o e =
    let prefix = encode_past_ascii (take i bytes) in
    let more = encode_past_ascii (take n (drop i bytes)) in
    e ∙ ap (λ t. mid ++ encode_past_ascii (take n t)) (slice_from-is-drop bytes i)
    ∙ ap (λ t. t ++ more) o ∙ append_assoc old prefix more
    ∙ ap (λ t. old ++ t) (sym (encoding-of-append-is-append (take i bytes) (take n (drop i bytes))))
    ∙ ap (λ t. old ++ encode_past_ascii t) (sym (take-add i n bytes))

pub loop-done-preserved-then-bytes-done-ge128 : goal.loop-done-preserved-then-bytes-done-ge128
loop-done-preserved-then-bytes-done-ge128 c =
    grind (arith, end-of-run-is-within-bytes, pushed-encoding-is-encoding)

pub loop-done-preserved : goal.loop-done-preserved
loop-done-preserved c = grind (arith, end-of-run-is-within-bytes, pushed-ascii-run-is-encoding)
