pub mod Dequeued
pub mod Abended
mod Counting
