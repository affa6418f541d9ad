pub mod Calendar
pub mod Years
pub mod Answers
pub mod Positions
pub mod Order
pub mod Given
pub mod InYear
