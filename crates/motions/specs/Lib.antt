pub mod Refusals
pub mod Axes
pub mod Ranges
pub mod Motions
pub mod Settings
pub mod Model
