pub mod Reader
pub mod Job
pub mod Line
pub mod Writing
