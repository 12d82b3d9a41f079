-- Laws of the mean: of one slot, of the walk, of the division, that it gives the nearest double; and what holds of the
-- whole.
mod Examples
pub mod LegLaws
pub mod WalkLaws
mod Division
pub mod NearestMean
pub mod Theorems
mod Instance
