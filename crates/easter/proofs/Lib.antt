pub mod Claims
pub mod Years
