mod Lined
mod Telling
pub mod Counted
mod Lawful
