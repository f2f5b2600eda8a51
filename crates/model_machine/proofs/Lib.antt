pub mod Histories
pub mod Picks
pub mod Flags
pub mod Rising
pub mod Served
