pub mod Unit
pub use Rattle.log_records.specs.RecordSpelling
pub use Rattle.log_writer.specs.ForcedLog
