use Rattle.uri_pct.proofs.EncodedTexts.Encodings.{encoded_bytes_decode_to_themselves}
use Rattle.uri_pct.proofs.laws.decoding_inverts_encoding.Goals as goal

pub returns-clause-bytes : goal.returns-clause-bytes
returns-clause-bytes c = encoded_bytes_decode_to_themselves
