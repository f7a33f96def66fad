pub mod Cut
pub mod Line
pub mod Misfit
pub mod Wording
pub mod Words
