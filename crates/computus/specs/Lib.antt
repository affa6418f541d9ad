pub mod Rule
pub mod Feast
