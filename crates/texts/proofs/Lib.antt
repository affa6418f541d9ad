pub mod Claims
pub mod Writing
pub mod Lines
