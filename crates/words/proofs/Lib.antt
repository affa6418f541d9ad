pub mod Claims
pub mod Packing
pub mod Tables
