pub mod Claims
pub mod Kept
pub mod Lines
pub mod Newlines
pub mod Pieces
pub mod Work
