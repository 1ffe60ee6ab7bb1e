-- What decoding yields, in order: the longest parts of a text without an octet, and the octets (RFC
-- 3986, section 2.1).
use Rattle.std.specs.Prelude.{ℕ, true, not, ◌==◌, List, [], ◌∷◌, ◌++◌}
use Rattle.std.specs.Char.{encode_utf8}
use Rattle.uri_pct.specs.Sets.{TableSet}
use Rattle.uri_pct.specs.Tokens.{Token, Char, Octet, tokens}
use Rattle.uri_pct.specs.Delimiters.{percent_sign}

-- what decoding yields one by one: the bytes of literal text, or the value of a percent-encoded
-- octet (RFC 3986, section 2.1)
pub data Chunk : Type 0 where
  Text : List ℕ → Chunk
  Byte : ℕ → Chunk

-- the chunks with a literal text put before them; if a `Text` comes first, the two are one
unfoldable pub prepend_to_chunks : List ℕ → List Chunk → List Chunk
prepend_to_chunks text [] = Text text ∷ []
prepend_to_chunks text (Text more ∷ chunks) = Text (text ++ more) ∷ chunks
prepend_to_chunks text (Byte value ∷ chunks) = Text text ∷ Byte value ∷ chunks

-- the chunks of tokens: characters that follow one another are one `Text`, and each percent-encoded
-- octet is a `Byte`
unfoldable pub chunks_of_tokens : List Token → List Chunk
chunks_of_tokens [] = []
chunks_of_tokens (Char c ∷ ts) = prepend_to_chunks (encode_utf8 c) (chunks_of_tokens ts)
chunks_of_tokens (Octet value ∷ ts) = Byte value ∷ chunks_of_tokens ts

-- the chunks of a text, in order: its longest parts without a percent-encoded octet, and the octets
-- (RFC 3986, section 2.1)
abbrev pub chunks : List ℕ → List Chunk
chunks text = chunks_of_tokens (tokens text)

-- the bytes that a chunk decodes to: those of its literal text, or its one octet
abbrev pub chunk_bytes : Chunk → List ℕ
chunk_bytes (Text text) = text
chunk_bytes (Byte value) = value ∷ []

-- the largest set that a table may have: each ASCII character but `%`, percent-encoded octets,
-- `ucschar` and `iprivate`
abbrev pub widest_set : TableSet
widest_set = record {
  ascii = λ c. not (c == percent_sign);
  pct_encoded = true;
  ucschar = true;
  iprivate = true;
}
