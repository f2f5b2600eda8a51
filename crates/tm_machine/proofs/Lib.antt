pub mod Conversing
pub mod Joining
mod Full
mod Linked
mod Tabled
mod Others
mod Named
mod Raising
mod Free
mod Leaving
mod Stepped
mod Going
mod Tried
mod Scheduled
mod Resting
mod Started
mod Asked
pub mod ShownTo
mod Roomed
mod Commanded
mod Finished
mod Ended
mod Giving
mod Breaking
pub mod Telling
mod Slotting
mod Settled
mod Opened
pub mod Abends
pub mod Dequeued
pub mod ConversationEnd
pub mod Regions
pub mod Performed
