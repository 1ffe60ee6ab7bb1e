-- What a text decodes to: its octets, and the parts between them.
pub mod Splits
pub mod Decoding
pub mod DigitValues
pub mod Counts
pub mod OctetTexts
pub mod OctetDigits
pub mod Taking
