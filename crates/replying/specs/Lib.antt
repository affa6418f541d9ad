pub mod Sheet
pub mod First
