pub mod Digits
pub mod Bytes
pub mod Tokens
pub mod Numbers
pub mod Model
