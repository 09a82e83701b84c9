pub mod Groups
pub mod Words
pub mod Kinds
pub mod Forms
pub mod Model
pub mod Numbered
