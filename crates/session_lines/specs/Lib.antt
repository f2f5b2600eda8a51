pub mod BlockReading
pub mod LastValues
pub use Rattle.mfs_edit.specs.Texts
pub use Rattle.model_session.specs.Blocks
pub use Rattle.model_session.specs.BoundedBlocks
pub use Rattle.model_session.specs.Numbers
pub use Rattle.model_system.specs.SystemFormats
pub use Rattle.tm_types.specs.Words
