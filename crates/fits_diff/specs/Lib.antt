pub mod Diff
pub mod DiffSteps
pub mod Differences
pub mod Laws
pub mod Matching
