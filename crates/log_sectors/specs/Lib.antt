pub mod Chain
pub mod SealedSector
pub use Rattle.tm_disk.specs.Disk
pub use Rattle.tm_disk.specs.Sector
