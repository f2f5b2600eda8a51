pub mod Systems
pub use Rattle.sysdef_rules.specs.CheckAnswer
