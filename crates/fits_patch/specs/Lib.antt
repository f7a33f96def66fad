pub mod Ends
pub mod Making
pub mod Patch
pub mod Steps
