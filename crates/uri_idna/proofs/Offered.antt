-- What proofs of the crates above may use of those of this crate, by `tools/reach`.
pub use Rattle.uri_idna.proofs.Names.{name_not_utf8_has_no_ascii_form, unencoded_ascii_name_stays}
