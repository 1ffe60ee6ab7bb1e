-- What a `Decode` has still to yield, and what its items decode to: RFC 3986, section 2.1.
use Rattle.std.specs.Prelude.{ℕ, List}
use Rattle.std.specs.List.{flat_map}
use Rattle.uri_pct.specs.Chunks.{Chunk, Text, Byte, chunk_bytes, chunks}
use Rattle.uri_pct.specs.declared.decode.DecodedChunk.{DecodedChunk}
use Rattle.uri_pct.specs.declared.decode.DecodedChunk.TheVariants.{Unencoded, PctDecoded}
use Rattle.uri_pct.specs.Tokens.{tokens, bytes_decoded_from}
use Rattle.uri_pct.specs.declared.decode.Decode.{Decode}

-- the chunk that an item of a `Decode` is: literal text, or the value of a percent-encoded octet
abbrev pub chunk_of : DecodedChunk → Chunk
chunk_of (Unencoded text) = Text text.now
chunk_of (PctDecoded value) = Byte value

-- the text that a `Decode` has yet to decode
abbrev pub undecoded : Decode → List ℕ
undecoded d = d.rest.now

-- the chunks that a `Decode` has yet to yield: those of the text that it has yet to decode
abbrev pub chunks_left : Decode → List Chunk
chunks_left d = chunks (undecoded d)

-- the bytes that the text left in a `Decode` decodes to (RFC 3986, section 2.1)
abbrev pub decoded : Decode → List ℕ
decoded d = bytes_decoded_from (tokens (undecoded d))

-- the bytes of the chunks that a `Decode` has yet to yield, one after the other
abbrev pub bytes_left : Decode → List ℕ
bytes_left d = flat_map chunk_bytes (chunks_left d)
