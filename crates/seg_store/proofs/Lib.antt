pub mod Places
pub mod Entries
pub mod SlotRows
pub mod Numbers
pub mod Indexed
mod Nexts
mod Changes
mod Sealing
pub mod Putting
mod AllStores
mod Copied
pub mod WritingBack
pub mod Pieces
pub mod SlotsWritten
pub mod OneSlot
pub mod ReadStore
