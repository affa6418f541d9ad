pub mod Arms
pub mod Since
pub mod Answers
