pub mod Nearest
pub mod Entries
