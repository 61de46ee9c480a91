pub mod Representatives
pub mod Columns
