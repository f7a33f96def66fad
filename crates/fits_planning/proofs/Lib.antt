pub mod FrontLemmas
pub mod HduLemmas
