pub mod Claims
pub mod Piece
pub mod Finished
