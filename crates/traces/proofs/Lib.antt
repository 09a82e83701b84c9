pub mod Meant
pub mod Follows
pub mod Lawful
mod Recording
