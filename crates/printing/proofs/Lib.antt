pub mod Batches
pub mod Claims
pub mod Pushed
