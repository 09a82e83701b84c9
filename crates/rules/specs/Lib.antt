pub mod Values
pub mod Targets
pub mod State
pub mod Moves
pub mod Steps
pub mod Model
