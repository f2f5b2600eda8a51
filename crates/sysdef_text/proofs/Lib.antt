pub mod Ranges
pub mod LineCounts
pub mod FirstLine
