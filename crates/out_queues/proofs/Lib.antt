pub mod Terminals
pub mod Counted
