pub mod LoadedStore
pub mod ReadSlots
pub mod SharedRoots
pub mod Databases
pub mod LoadedStores
pub use Rattle.model_system.specs.Areas
pub use Rattle.seg_store.specs.DataSectors
pub use Rattle.tm_disk.specs.Disk
