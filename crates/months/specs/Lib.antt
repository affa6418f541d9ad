pub mod Lines
pub mod NewYears
pub mod Leap
pub mod Parts
pub mod Turned
pub mod March
pub mod Hebrew
pub mod BahaiSaka
