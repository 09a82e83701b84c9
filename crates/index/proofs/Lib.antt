pub mod Lines
pub mod Nearness
pub mod Reducing
