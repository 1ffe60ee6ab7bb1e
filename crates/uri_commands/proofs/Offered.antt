-- What proofs of the crates above may use of those of this crate, by `tools/reach`.
-- what a writer holds after texts of which the last may not be whole
pub use Rattle.uri_commands.proofs.Appended.{AppendsPrefix-after-Appends, AppendsPrefix-after-Keeps, AppendsPrefix-of-kept, AppendsPrefix-of-longer, AppendsPrefix-then-Keeps, on-ok}
pub use Rattle.uri_commands.proofs.Prefixes.{AppendsPrefix-of-appended}
-- the normal form that is asked for is the one that was returned
pub use Rattle.uri_commands.proofs.NormalForms.{normal_form_is}
