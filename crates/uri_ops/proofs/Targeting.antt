-- Targets of references, and of normal forms.
pub mod TargetRows
pub mod Targets
pub mod JoinedMeanings
pub mod RefusalOrder
pub mod Swaps
pub mod TargetTexts
pub mod ResolvedTexts
pub mod NormalTargets
pub mod JoinedPieces
pub mod TextViews
pub mod TargetPieces
pub mod CopiedTargets
pub mod FoundTargets
pub mod TargetCases
