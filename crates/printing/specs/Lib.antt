-- The definitions that the contracts cite.
pub mod Good
pub mod Spaced
