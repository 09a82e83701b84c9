pub mod Plane
pub mod Sizes
