pub mod Causes
pub mod Runs
