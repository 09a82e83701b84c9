pub mod InRange
pub mod Straight
pub mod Lift
pub mod Decided
pub mod HalfPlane
