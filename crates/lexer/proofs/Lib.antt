pub mod Lengths
pub mod Cuts
pub mod Values
pub mod Alike
