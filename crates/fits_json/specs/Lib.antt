pub mod Columns
pub mod JsonLines
pub mod Objects
pub mod Values
