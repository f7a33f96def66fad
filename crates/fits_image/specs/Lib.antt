pub mod ImageCards
pub mod Kind
