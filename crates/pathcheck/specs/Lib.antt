pub mod Fields
pub mod Said
pub mod Judging
pub mod Written
