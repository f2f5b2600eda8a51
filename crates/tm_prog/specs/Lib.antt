pub mod Words
pub mod Workload
pub mod Status
