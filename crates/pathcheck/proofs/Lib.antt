pub mod FieldLists
pub mod DigitRuns
