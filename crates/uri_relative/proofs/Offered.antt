-- What proofs of the crates above may use of those of this crate, by `tools/reach`.
pub use Rattle.uri_relative.proofs.Climbs.{directory-of-dotless-segments, merged-relative-path-leads-to-path, remove_dot_segments-follows-dots}
pub use Rattle.uri_relative.proofs.Forms.{path-and-query-are-split}
pub use Rattle.uri_relative.proofs.LongestPrefixes.{text-with-slash-is-nonempty}
pub use Rattle.uri_relative.proofs.RootedTargets.{base-that-is-not-opaque-is-rooted}
pub use Rattle.uri_relative.proofs.Settled.{dotless-target-is-settled, final-path-is-idempotent, rootless-target-is-settled}
pub use Rattle.uri_relative.proofs.Ways.{guard-counts-as-no-segment, rootless-path-has-no-authority}
