pub mod ClassSteps
pub mod RowRanges
pub mod Pads
