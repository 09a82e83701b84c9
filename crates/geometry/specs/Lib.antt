pub mod Points
pub mod Paths
pub mod Areas
pub mod Deciding
pub mod Sizes
pub mod Settings
pub mod Model
