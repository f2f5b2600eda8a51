pub mod ForcedLog
pub mod Writer
pub use Rattle.tm_disk.specs.Disk
