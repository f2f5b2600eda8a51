-- What a line that was read keeps.
use Rattle.std.specs.Prelude.{Bool, true}
use Rattle.model_system.specs.ValidFormat.{is_on_page, is_message_field}
use Rattle.mfs_text.specs.declared.lines.FormatLine.{FormatLine}
use Rattle.mfs_text.specs.declared.lines.FormatLine.TheVariants.{Field, MessageField}

abbrev pub is_good : FormatLine → Bool
is_good (Field field) = is_on_page field
is_good (MessageField line) = is_message_field line.content
is_good _ = true
