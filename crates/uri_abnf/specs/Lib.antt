pub mod Abnf
pub mod Rfc5234
pub mod Rfc3986
pub mod Rfc3987
pub mod Derivations
pub mod Printing
pub mod Printed
