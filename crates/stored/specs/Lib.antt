-- In the order of the document: limits, a field, Types, Roots, Relation, the model, End and what may follow, the numbers answered.
pub mod Limits
pub mod Field
pub mod Types
pub mod Roots
pub mod Relation
pub mod Model
pub mod Parse
pub mod Canonical
pub mod Signature
pub mod Refusal
pub mod Layout
pub mod Reading
pub mod File
