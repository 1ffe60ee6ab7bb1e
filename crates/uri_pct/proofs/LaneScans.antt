-- Sixteen bytes at a time: masks of lanes, and what the bytes under them are.
pub mod LaneMasks
pub mod LaneRuns
pub mod FirstPlaces
pub mod AsciiRuns
pub mod CharRuns
pub mod LaneBits
pub mod OctetLanes
pub mod BlockOctets
pub mod LinkedLanes
pub mod LinkedRuns
pub mod ShiftedLanes
pub mod DotLanes
