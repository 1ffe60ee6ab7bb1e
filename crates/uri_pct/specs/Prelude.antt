-- What clauses and specifications of the crates above name, from one module.
pub use Rattle.uri_pct.specs.Chunks.{widest_set}
pub use Rattle.uri_pct.specs.Cows.{IsBorrowedText, cow_text}
pub use Rattle.uri_pct.specs.DecodeUnreserved.{LacksPastAscii, decode_octet, decode_piece, decode_tokens, decode_unreserved, encoded_formatting_char, encoded_formatting_text, formatting_as_octets, is_bidi_formatting, is_decodable, is_never_literal, lower_token}
pub use Rattle.uri_pct.specs.Delimiters.{at_sign, colon, full_stop, left_bracket, number_sign, percent_sign, question_mark, right_bracket, slash}
pub use Rattle.uri_pct.specs.EncodedTexts.{text_of}
pub use Rattle.uri_pct.specs.Encoding.{encode_char}
pub use Rattle.uri_pct.specs.Masks.{has_bit}
pub use Rattle.uri_pct.specs.Models.ByteRuns.{IsLongestRun}
pub use Rattle.uri_pct.specs.Parts.{Decoded, Literal, Part}
pub use Rattle.uri_pct.specs.Prefixes.{after, valid_prefix}
pub use Rattle.uri_pct.specs.Sets.{IsSubset, LacksPercent, TableSet, allows, digit_set, fragment_set, hexdig_set, ifragment_set, ipath_set, ipv_future_set, iquery_set, ireg_name_set, is_one_of, is_unreserved, isegment_nz_nc_set, iuserinfo_set, path_set, query_set, reg_name_set, reserved_set, scheme_set, segment_nz_nc_set, unreserved_set, userinfo_set}
pub use Rattle.uri_pct.specs.Tables.{set_of}
pub use Rattle.uri_pct.specs.Texts.{IsStrayPercent, Pushes, is_unencoded, lacks}
pub use Rattle.uri_pct.specs.Tokens.{Char, IsValidFor, Octet, Token, bytes_decoded_from, is_pct_encoded, is_valid_for, print, text_of_token, tokens}
