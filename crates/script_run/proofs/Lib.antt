pub mod Words
pub mod Digits
pub mod Joining
pub mod VariableTexts
pub mod SegmentTexts
pub mod AllowedLines
pub mod GoingOn
