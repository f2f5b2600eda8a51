pub mod Changes
pub mod ShownTouch
pub mod TouchRefused
pub mod BackOut
pub mod ReadyTouch
pub mod Images
pub mod ToldChanges
pub mod Marks
