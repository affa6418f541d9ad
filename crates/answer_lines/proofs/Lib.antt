pub mod Claims
pub mod Refusals
