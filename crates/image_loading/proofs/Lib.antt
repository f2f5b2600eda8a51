pub mod MostSectors
pub mod Following
pub mod Spelled
mod Slotted
mod SectorsRead
mod SlotsRead
mod Built
mod StoreLoaded
pub mod Held
mod Copying
pub mod Lowest
pub mod Adding
pub mod Naming
