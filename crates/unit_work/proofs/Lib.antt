pub mod Keeping
pub mod Backing
pub mod Marking
pub mod Ordered
