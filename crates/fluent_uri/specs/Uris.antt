-- The texts of a `Uri` and a `UriRef` (RFC 3986, sections 3 and 4.1).
pub use Rattle.fluent_uri.specs.References.{reference_text as uri_text}
pub use Rattle.fluent_uri.specs.References.{reference_text as uri_ref_text}
