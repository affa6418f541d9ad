pub mod Piece
pub mod Inner
