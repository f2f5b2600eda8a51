pub mod Ways
pub mod Reaching
pub mod Fewer
pub mod Breaking
