-- Authorities: their components, the positions of these, and their ports.
pub mod SchemePorts
pub mod SchemeRows
mod PortRows
pub mod Ports
pub mod AuthorityCuts
pub mod AuthorityPlaces
pub mod WholeAuthorities
pub mod NamesAndPorts
pub mod ClosedLiterals
pub mod HostParsing
pub mod UserinfoLengths
pub mod FoundAuthorities
pub mod Authority
mod AuthorityRows
pub mod HostPositions
