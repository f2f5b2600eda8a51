pub mod Cut
pub mod Sent
pub mod Finished
mod Fresh
pub mod Told
pub mod Commanded
pub mod Counting
pub mod Counted
pub mod RecordLimits
