-- The nine promises, one room each, in their order; `Laws` holds what several rooms need, `Answers` what follows from the first three.
pub mod Laws
pub mod Found
pub mod None
pub mod Decides
pub mod Stays
pub mod UnderABase
pub mod Agrees
pub mod Rounds
pub mod Unique
pub mod ProvedSet
pub mod Answers
