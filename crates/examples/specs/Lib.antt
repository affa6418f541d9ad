pub mod Starred
pub mod Requests
