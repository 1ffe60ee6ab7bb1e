-- The bytes of a text are encoded in runs.
use Rattle.uri_ops.proofs.Common.{common_steps, ◌≡◌, ℕ, zero, suc, ◌+◌, ◌-◌, ◌<◌, ◌≤◌, List, [], ◌++◌, length, get_or, take, drop, sym, ap, subst, ◌∙◌, arith, append_assoc, take-add, append-nil, length-append, length-drop, take_all, nat_tests, encode_past_ascii}
use Rattle.uri_ops.proofs.AsciiForms.EncodedTokens.{octet_text}
use Rattle.uri_ops.proofs.AsciiForms.EncodedPaths.{encoding-of-append-is-append, encoding-of-nil-is-nil, encoding-starts-with-ascii-byte, encoding-starts-with-octet}
use Rattle.uri_ops.proofs.Paths.DotStarts.{take-one-more-byte}

pub ascii-prefix-grows-by-byte : (bytes : List ℕ) (i : ℕ)
    → i < length bytes → get_or bytes i 0 < 128 → encode_past_ascii (take i bytes) ≡ take i bytes
    → encode_past_ascii (take (i + 1) bytes) ≡ take (i + 1) bytes
ascii-prefix-grows-by-byte bytes i h low e =
    grind (
      arith,
      take-one-more-byte,
      encoding-of-append-is-append,
      encoding-starts-with-ascii-byte,
      encoding-of-nil-is-nil,
    )

pub encoding-grows-by-ascii-run : (bytes : List ℕ) (i n : ℕ)
    → encode_past_ascii (take n (drop i bytes)) ≡ take n (drop i bytes) → encode_past_ascii
    (take (i + n) bytes) ≡ encode_past_ascii (take i bytes) ++ take n (drop i bytes)
encoding-grows-by-ascii-run bytes i n e =
    grind (arith, nat_tests, take-add, encoding-of-append-is-append)

-- IRIs as URIs: a byte past ASCII adds its `%XX` to the encoding of a prefix
pub encoding-grows-by-octet : (bytes : List ℕ) (i : ℕ) → i < length bytes → 128 ≤ get_or bytes i 0
    → encode_past_ascii (take (i + 1) bytes)
    ≡ encode_past_ascii (take i bytes) ++ octet_text (get_or bytes i 0)
encoding-grows-by-octet bytes i h high =
    grind (
      arith,
      take-one-more-byte,
      encoding-of-append-is-append,
      encoding-starts-with-octet,
      encoding-of-nil-is-nil,
    )

-- IRIs as URIs: a prefix of bytes below 128 is its own encoding
pub ascii-run-is-unchanged-when-encoded : (bytes : List ℕ) (n : ℕ) → n ≤ length bytes
    → ((k : ℕ) → k < n → get_or bytes k 0 < 128) → encode_past_ascii (take n bytes) ≡ take n bytes
ascii-run-is-unchanged-when-encoded bytes zero h low = encoding-of-nil-is-nil
ascii-run-is-unchanged-when-encoded bytes (suc n) h low =
    let e : n + 1 ≡ suc n = omega arith in
    subst (λ m. encode_past_ascii (take m bytes) ≡ take m bytes) e
    (ascii-prefix-grows-by-byte bytes n (omega arith) (low n (omega arith))
    (ascii-run-is-unchanged-when-encoded bytes n (omega arith) (λ k l. low k (omega arith))))

pub ascii-byte-adds-one : (bytes : List ℕ) (i : ℕ) → i < length bytes → get_or bytes i 0 < 128
    → length (encode_past_ascii (take (i + 1) bytes))
    ≡ length (encode_past_ascii (take i bytes)) + 1
ascii-byte-adds-one bytes i h low =
    grind (arith, common_steps, encoding-of-append-is-append, encoding-starts-with-ascii-byte)

pub byte-past-ascii-adds-three : (bytes : List ℕ) (i : ℕ)
    → i < length bytes → 128 ≤ get_or bytes i 0 → length (encode_past_ascii (take (i + 1) bytes))
    ≡ length (encode_past_ascii (take i bytes)) + 3
byte-past-ascii-adds-three bytes i h high = ap length (encoding-grows-by-octet bytes i h high)
    ∙ length-append (encode_past_ascii (take i bytes)) (octet_text (get_or bytes i 0))

-- IRIs as URIs: the bytes to encode from index i on, as they are sliced
abbrev slice_from : List ℕ → ℕ → List ℕ
slice_from bytes i = take (length bytes - i) (drop i bytes)

-- general fact on slices, for IRIs as URIs: what is from i on is what is left after i bytes
pub slice_from-is-drop : (bytes : List ℕ) (i : ℕ) → slice_from bytes i ≡ drop i bytes
slice_from-is-drop bytes i = grind (arith, nat_tests, length-drop, take_all)

-- IRIs as URIs: an ASCII run that is appended after an encoded
-- prefix makes the encoding of a longer prefix
pub pushed-ascii-run-is-encoding : (old out new bytes : List ℕ) (i n : ℕ)
    → encode_past_ascii (take n (slice_from bytes i)) ≡ take n (slice_from bytes i)
    → out ≡ old ++ encode_past_ascii (take i bytes) → new ≡ out ++ take (i + n - i) (drop i bytes)
    → new ≡ old ++ encode_past_ascii (take (i + n) bytes)
pushed-ascii-run-is-encoding old out new bytes i n all_are_ascii o e =
    grind (arith, nat_tests, append_assoc, encoding-grows-by-ascii-run, slice_from-is-drop)

-- IRIs as URIs: appending the `%XX` of byte i continues the encoded text:
-- old is what was there, bytes what is encoded
pub pushed-octet-is-encoding : (old mid new bytes : List ℕ) (i : ℕ) → i < length bytes
    → 128 ≤ get_or bytes i 0 → mid ≡ old ++ encode_past_ascii (take i bytes) → new
    ≡ mid ++ octet_text (get_or bytes i 0) → new ≡ old ++ encode_past_ascii (take (i + 1) bytes)
pushed-octet-is-encoding old mid new bytes i h high o e =
    grind (arith, nat_tests, octet_text, append_assoc, encoding-grows-by-octet)

-- IRIs as URIs: before the first byte, nothing is appended
pub nothing-pushed-is-encoding : (old : List ℕ) → old ≡ old ++ encode_past_ascii []
nothing-pushed-is-encoding old = sym (ap (λ t. old ++ t) encoding-of-nil-is-nil ∙ append-nil old)

pub end-of-run-is-within-bytes : (bytes : List ℕ) (i n : ℕ)
    → i ≤ length bytes → n ≤ length (slice_from bytes i) → i + n ≤ length bytes
end-of-run-is-within-bytes bytes i n h k = grind (arith, nat_tests, slice_from-is-drop, length-drop)

pub ruleset encoded_runs = (
  encoding-of-nil-is-nil,
  ascii-prefix-grows-by-byte,
  encoding-grows-by-ascii-run,
  encoding-grows-by-octet,
)
