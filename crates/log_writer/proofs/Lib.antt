pub mod Laying
pub mod Starting
pub mod Calls
pub mod Adding
pub mod Gaining
