pub mod Front
pub mod Place
