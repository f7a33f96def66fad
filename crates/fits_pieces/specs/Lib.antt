pub mod Blocks
pub mod Painting
pub mod Passing
pub mod Piece
pub mod Pieces
