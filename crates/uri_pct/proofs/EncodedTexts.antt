-- What texts and bytes are encoded as.
pub mod Encodings
pub mod EncodedTokens
pub mod EncodingLaws
mod EncodingRows
