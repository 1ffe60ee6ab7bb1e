pub mod Cuts
pub mod PairPlaces
pub mod PairsAgain
