pub mod Quotes
pub mod Joining
pub mod GoodFormats
pub mod SegmentRoom
pub mod Kept
