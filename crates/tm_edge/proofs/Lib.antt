pub mod Taken
pub mod Held
pub mod CutLines
pub mod FirstLine
pub mod Served
pub mod Risen
pub mod ServedSoFar
