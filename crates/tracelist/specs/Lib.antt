pub mod Start
pub mod Letters
pub mod Told
