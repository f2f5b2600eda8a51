pub mod Values
pub mod Pcbs
pub mod Kinds
pub mod Rows
pub use Rattle.text_rows.specs.LowestRule
pub use Rattle.text_rows.specs.Operands
