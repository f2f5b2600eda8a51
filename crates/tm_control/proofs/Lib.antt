pub mod Numbers
pub mod Rings
pub mod Along
pub mod Going
pub mod Counting
pub mod Handing
pub mod Closing
pub mod Room
