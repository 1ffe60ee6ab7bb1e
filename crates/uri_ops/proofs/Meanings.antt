-- What the components of a text mean, and what is printed of a meaning.
pub mod AllowedParts
pub mod Lacking
mod MeaningRows
pub mod PortMeanings
pub mod SameMeanings
pub mod AsciiCharacters
pub mod TextParts
pub mod ComponentEnds
pub mod AddressNumbers
pub mod HostMeanings
pub mod AuthorityMeanings
pub mod DecodedParts
pub mod Cased
pub mod DecodedPrefixes
pub mod UnreservedCodes
pub mod AsciiSuffixes
pub mod WrittenFormatting
pub mod TakenDecodings
pub mod Decodable
pub mod BracketedHosts
pub mod DecodedOctets
