-- In the order of the document: normalised rows and what it is to keep a relation; rows as numbers; maps; pair lists; the files of a call; each call's answer.
pub mod Rows
pub mod Packed
pub mod Maps
pub mod Pairs
pub mod Answer
pub mod Files
pub mod Check
pub mod Identity
pub mod Apply
pub mod Compose
pub mod Inverse
