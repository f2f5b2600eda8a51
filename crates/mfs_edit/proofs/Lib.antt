pub mod Placing
pub mod Names
pub mod Rules
pub mod Printable
pub mod Clashes
pub mod Setting
pub mod Pieces
pub mod Entered
