pub mod Reader
pub mod Job
pub mod Digits
pub mod Line
pub mod Found
