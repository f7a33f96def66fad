pub mod CardEdit
pub mod Columns
pub mod HduEdit
pub mod Keeping
pub mod Making
pub mod Refusal
pub mod Work
