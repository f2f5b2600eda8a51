pub mod Books
pub mod Counts
pub mod Keeping
pub mod Made
pub mod Numbers
pub mod Turning
pub mod Waiting
