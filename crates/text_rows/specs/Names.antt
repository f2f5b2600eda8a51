-- Names.
use Rattle.std.specs.Prelude.{ℕ, List, Result, Ok, Err, if◌then◌else◌}
pub use Rattle.tm_types.specs.Name.{is_name}

-- the name that the text is: rule 7 where it is none
unfoldable pub name_of : List ℕ → Result (List ℕ) ℕ
name_of text = if is_name text then Ok text else Err 7
