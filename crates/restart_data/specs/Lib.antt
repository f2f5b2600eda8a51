pub mod Fields
pub mod Rules
pub mod Restart
pub mod Snapshot
pub mod GatheredBytes
pub mod WrittenSectors
pub use Rattle.tm_disk.specs.Disk
