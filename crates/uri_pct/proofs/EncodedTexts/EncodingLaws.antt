-- The laws on encoding that the crate states.
use Rattle.uri_pct.proofs.Common.{◌≡◌, ℕ, List, ◌++◌, IsUtf8, flat_map-append, TableSet, LacksPercent, Token, tokens, bytes_decoded_from, bytes_of_one_token, print, encode_text}
use Rattle.uri_pct.proofs.EncodedTexts.EncodedTokens.{encoded_text_is_printable}
use Rattle.uri_pct.proofs.UnreservedDecoding.Printing.{printed_tokens_parse_to_themselves}

pub joined_tokens_decode_to_joined_bytes : (ts us : List Token)
    → bytes_decoded_from (ts ++ us) ≡ bytes_decoded_from ts ++ bytes_decoded_from us
joined_tokens_decode_to_joined_bytes ts us = flat_map-append bytes_of_one_token ts us

pub encoded_text_parses_to_its_tokens : (set : TableSet) (text : List ℕ) → LacksPercent set
    → IsUtf8 text → tokens (print (encode_text set text)) ≡ encode_text set text
encoded_text_parses_to_its_tokens set text lacks u = printed_tokens_parse_to_themselves
    (encode_text set text) (encoded_text_is_printable set text lacks u)
