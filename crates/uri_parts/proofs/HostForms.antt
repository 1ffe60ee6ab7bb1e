-- Hosts: names, addresses, and addresses in brackets.
pub mod LiteralFaults
pub mod Addresses
pub mod AddressParsing
pub mod Futures
pub mod Hosts
pub mod ParsedAddresses
pub mod LiteralTexts
pub mod FutureParsing
pub mod Ipv6Literals
pub mod HexDigits
pub mod AddressTexts
pub mod GroupReading
