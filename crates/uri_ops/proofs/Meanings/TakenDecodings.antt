-- What a `Decoding` takes.
use Rattle.uri_ops.proofs.Common.{◌≡◌, ℕ, Bool, true, false, List, [], ◌∷◌, ◌++◌, map, ap, ◌∙◌, string_bytes, arith, IsUtf8, append-nil, nat_tests, widest_set, encode_text, ArePastAscii, Part, Literal, Decoded, parts, IllFormed, utf8_pieces, decode_tokens, lower_token, TableSet, set_of, Octet, tokens, print, IsValidFor, AppendsDecodedParts, decoded_parts, lowered_if, lowered_text_if, valid_text_has_printable_tokens}
use Rattle.uri_ops.specs.declared.normalize.decode_unreserved.Decoding.{Decoding}
use Rattle.uri_ops.proofs.Meanings.Cased.{AllowsDecodable, print-lowers-characters, octets-are-unchanged-when-lowered, decoded-pieces-are-encoded-text, bytes-past-ascii-are-unchanged-when-lowered, lowered-pieces-are-encoded-lowered-text}
use Rattle.uri_ops.proofs.Meanings.DecodedParts.{decoded_parts-of-run, decoded_parts-of-token-chunks}

pub literal-part-is-lowered : (lowers : Bool) (set : TableSet) (text : List ℕ) → IsUtf8 text → print
    (lowered_if lowers (decoded_parts set (Literal text ∷ []))) ≡ lowered_text_if lowers text
literal-part-is-lowered lowers set text u =
    grind (arith, nat_tests, append-nil, print-lowers-characters)

pub decoded-octets-past-ascii-are-encoded-text :
    (lowers : Bool) (decodable set : TableSet) (text : List ℕ)
    → AllowsDecodable decodable set → IsUtf8 text → ArePastAscii text → print (lowered_if lowers
    (decoded_parts set (map Decoded (utf8_pieces text)))) ≡ print (encode_text decodable text)
decoded-octets-past-ascii-are-encoded-text false decodable set text same u past = ap print
    (decoded_parts-of-run set (utf8_pieces text) ∙ decoded-pieces-are-encoded-text _ set same _ u)
decoded-octets-past-ascii-are-encoded-text true decodable set text same u past =
    ap (λ ts. print (map lower_token ts)) (decoded_parts-of-run set (utf8_pieces text))
    ∙ ap print (lowered-pieces-are-encoded-lowered-text decodable set same text u) ∙ ap (λ bytes.
    print (encode_text decodable bytes)) (bytes-past-ascii-are-unchanged-when-lowered text past)

pub ill-formed-octets-are-unchanged : (lowers : Bool) (set : TableSet) (bytes : List ℕ)
    → print (lowered_if lowers (decoded_parts set (Decoded (IllFormed bytes) ∷ [])))
    ≡ print (map Octet bytes)
ill-formed-octets-are-unchanged lowers set bytes =
    grind (arith, nat_tests, append-nil, octets-are-unchanged-when-lowered)

-- meanings, decoded past ASCII: a `Decoding` to which the decoded parts are appended has appended
-- these parts; s, t: before and after
pub appended-text-is-decoded-parts : (s t : Decoding) (ps : List Part) (more : List ℕ)
    → set_of t.table ≡ set_of s.table → t.lowers ≡ s.lowers → t.text.ghost_name ≡ s.text.ghost_name
    → string_bytes t.text.now ≡ string_bytes s.text.now ++ more → print (lowered_if s.lowers
    (decoded_parts (set_of s.table) ps)) ≡ more → AppendsDecodedParts s ps t
appended-text-is-decoded-parts s t ps more set lowers same written meant =
    grind (arith, nat_tests, string_bytes)

-- meanings, decoded past ASCII: all parts of a text are written as its decoded tokens; s, t: the
-- `Decoding` before and after
pub all-parts-give-decoded-tokens : (text old : List ℕ) (s t : Decoding)
    → IsValidFor widest_set text
    → string_bytes s.text.now ≡ old → AppendsDecodedParts s (parts text) t → string_bytes t.text.now
    ≡ old ++ print (lowered_if s.lowers (decode_tokens (set_of s.table) (tokens text)))
all-parts-give-decoded-tokens text old s t valid begun took =
    grind (arith, nat_tests, decoded_parts-of-token-chunks, valid_text_has_printable_tokens)
