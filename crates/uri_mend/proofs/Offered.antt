-- What proofs of the crates above may use of those of this crate, by `tools/reach`.
pub use Rattle.uri_mend.proofs.ComponentProgress.{all-is-mended-at-end, nothing-is-scanned-after-scan}
pub use Rattle.uri_mend.proofs.EncodedRuns.{boundary-after-char}
pub use Rattle.uri_mend.proofs.MendedSteps.{scanned-prefix-is-unchanged, unscanned-char-is-encoded}
