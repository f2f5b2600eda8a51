pub mod Lookups
pub mod Segments
pub mod Calls
pub mod Counts
pub mod DiskSizes
pub mod CheckAnswer
pub mod Cross
pub mod Indexes
