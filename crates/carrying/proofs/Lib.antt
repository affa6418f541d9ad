pub mod Claims
pub mod Ends
pub mod Kept
