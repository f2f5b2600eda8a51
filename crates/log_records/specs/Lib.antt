pub mod RecordSpelling
pub mod ToldRecords
pub mod RecordReader
pub mod DecodedRecord
pub use Rattle.model_data.specs.Record
pub use Rattle.tm_types.specs.Name
pub use Rattle.tm_types.specs.Segment
