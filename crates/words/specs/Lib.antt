pub mod Text
pub mod Names
pub mod Words
pub mod Packed
pub mod Inner
pub mod Tables
