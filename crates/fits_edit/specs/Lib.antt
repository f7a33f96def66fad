pub mod HduEdit
pub mod Paint
