-- What the crate is for, theorem by theorem. Each group is what laws state as their contracts.
use Rattle.uri_pct.proofs.UnreservedDecoding.Printing.{printed_tokens_parse_to_themselves, printed_tokens_are_valid_iff_allowed}
use Rattle.uri_pct.proofs.ValidTexts.Allowed.{valid_text_has_printable_tokens, lowered_tokens_are_printable, lowered_tokens_are_allowed, lowering_tokens_is_idempotent}
use Rattle.uri_pct.proofs.Unicode.Pieces.{bytes_of_utf8_pieces_are_the_bytes, utf8_pieces_are_cut_at_non_continuation}
use Rattle.uri_pct.proofs.Unicode.CharacterPieces.{utf8_pieces-are-of-characters, char_separates_utf8_pieces}
use Rattle.uri_pct.proofs.Unicode.Lossy.{IsUtf8-iff-well_formed, lossy_text-is-utf8_lossy}
use Rattle.uri_pct.proofs.UnreservedDecoding.DecodedTokens.{decode_unreserved_keeps_bytes, decode_unreserved_keeps_tokens_allowed, printed_decode_unreserved_stays_valid, decode_tokens_keeps_tokens_printable, char_separates_decoded_tokens, decodable_char_octets_decode_as_char}
use Rattle.uri_pct.proofs.UnreservedDecoding.DecodedTokens as DecodedTokens
use Rattle.uri_pct.proofs.UnreservedDecoding.Octets.{text_is_decoded_octet_by_octet_in_uri}
use Rattle.uri_pct.proofs.UnreservedDecoding.DecodedTwice.{decode_tokens_is_idempotent, decode_unreserved_is_idempotent, decoding_keeps_lowered_decoded_tokens, decoding_keeps_lowered_decoded_text}
use Rattle.uri_pct.proofs.UnreservedDecoding.Representations.{represented_tokens_are_tokens_of_text, text_represents_its_printable_tokens}
use Rattle.uri_pct.proofs.UnreservedDecoding.Representations as Representations
use Rattle.uri_pct.proofs.EncodedTexts.EncodingLaws.{joined_tokens_decode_to_joined_bytes, encoded_text_parses_to_its_tokens}
use Rattle.uri_pct.proofs.EncodedTexts.Encodings.{encoded_text_decodes_to_itself, pieces_of_text_are_encoded_as_text}

-- Printing and parsing: `tokens` inverts `print`. The pieces of bytes join to the bytes, and a
-- character is a piece in any context. Decoding unreserved octets keeps the bytes and is
-- idempotent. RFC 3986, sections 2.1 and 6.2.2; Unicode, section 3.9.
pub ruleset decoding_laws = (
  printed_tokens_parse_to_themselves,
  printed_tokens_are_valid_iff_allowed,
  valid_text_has_printable_tokens,
  lowered_tokens_are_printable,
  lowered_tokens_are_allowed,
  lowering_tokens_is_idempotent,
  bytes_of_utf8_pieces_are_the_bytes,
  utf8_pieces_are_cut_at_non_continuation,
  utf8_pieces-are-of-characters,
  char_separates_utf8_pieces,
  IsUtf8-iff-well_formed,
  lossy_text-is-utf8_lossy,
  decode_unreserved_keeps_bytes,
  decode_unreserved_keeps_tokens_allowed,
  printed_decode_unreserved_stays_valid,
  decode_tokens_keeps_tokens_printable,
  char_separates_decoded_tokens,
  decodable_char_octets_decode_as_char,
  DecodedTokens.printed_octets_of_decodable_char_decode_as_char,
  DecodedTokens.decode_unreserved_leaves_no_literal_formatting,
  text_is_decoded_octet_by_octet_in_uri,
  decode_tokens_is_idempotent,
  decode_unreserved_is_idempotent,
  decoding_keeps_lowered_decoded_tokens,
  decoding_keeps_lowered_decoded_text,
)

-- Encoded text parses to the tokens it was made from, and decodes to the original: RFC 3986,
-- section 2.1.
pub ruleset encoding_laws = (
  encoded_text_decodes_to_itself,
  joined_tokens_decode_to_joined_bytes,
  encoded_text_parses_to_its_tokens,
  pieces_of_text_are_encoded_as_text,
)

-- A text has one list of characters and octets. It is valid exactly if the set allows all of them:
-- RFC 3986, section 2.1.
pub ruleset representation_laws = (
  represented_tokens_are_tokens_of_text,
  text_represents_its_printable_tokens,
  Representations.text_is_valid_iff_it_represents_allowed_tokens,
)
