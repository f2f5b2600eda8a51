mod Numbers
mod Sending
pub mod Counting
pub mod Printed
