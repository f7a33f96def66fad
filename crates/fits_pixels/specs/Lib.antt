pub mod Block
pub mod Layout
pub mod Pixels
pub mod Scan
pub mod Statistics
pub mod Summary
pub mod SummaryLaws
