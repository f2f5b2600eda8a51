pub mod Going
pub mod Counting
pub mod Found
pub mod Kept
pub mod Following
pub mod Results
