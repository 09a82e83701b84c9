pub mod Indexing
pub mod Valuing
