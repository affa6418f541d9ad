-- The definitions that the contracts cite.
pub mod Writing
pub mod Columns
pub mod Lines
