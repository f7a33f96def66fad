pub mod Blocks
pub mod Pair
pub mod Plan
pub mod Protocol
pub mod Redo
