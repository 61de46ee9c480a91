-- What the promises speak of and no lower crate defines: an isomorphism of two models, as find looks for it; the bound; what the calls say and write; what find is asked, and what it may answer; the
-- states of a search.
pub mod Isomorphism
pub mod Bound
pub mod Calls
pub mod Asked
pub mod Search
