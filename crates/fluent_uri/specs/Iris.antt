-- The texts of an `Iri` and an `IriRef` (RFC 3987, section 2.2).
pub use Rattle.fluent_uri.specs.References.{reference_text as iri_text}
pub use Rattle.fluent_uri.specs.References.{reference_text as iri_ref_text}
