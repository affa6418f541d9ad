pub mod Cases
pub mod Every
pub mod Order
pub mod Table
pub mod Signed
