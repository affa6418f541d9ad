pub mod Claims
pub mod Offset
pub mod GoodDates
pub mod March22
pub mod Sunday
pub mod Period
pub mod Examples
