pub mod Programs
pub mod Definition
pub mod Draws
pub mod Session
pub mod Workload
pub mod Counts
pub mod ShownReply
pub mod Summary
