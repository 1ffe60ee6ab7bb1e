-- The main theorems of the crate.
-- The outcome of noting a reference is `outcome_of`.
pub use Rattle.uri_links.proofs.Noted.{noted, outcome_of-without-target}
-- By meanings: a target is known if a registered text has the same meaning, and new if none has
-- (RFC 3986, sections 5.2 and 6.2.2).
pub use Rattle.uri_links.proofs.InWords.{outcome_of-is-outcome}
-- The outcomes of noting references one after the other are `outcomes_of`.
pub use Rattle.uri_links.proofs.Several.{first-outcomes-of-one-more, prefix}
-- An id is that of a registered text, also after more references were noted.
pub use Rattle.uri_links.proofs.Ids.{ids-are-in-range}
-- The search tree finds each text at its index in the list and no other text, also once one more
-- is registered.
pub use Rattle.uri_links.proofs.FoundTexts.{search-finds-position, search-tree-after-adding}
