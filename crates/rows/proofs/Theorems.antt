pub mod Through
pub mod Among
pub mod Maps
pub mod Inverse
pub mod Pairs
pub mod Check
pub mod Answers
