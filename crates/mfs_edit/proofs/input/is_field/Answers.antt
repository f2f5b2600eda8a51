use Rattle.std.proofs.Common.{ap, ◌∙◌}
use Rattle.std.specs.Prelude.{is_some}
use Rattle.std.specs.Str.{bytes_eq}
use Rattle.model_system.specs.declared.device_field.DeviceField.{DeviceField}
use Rattle.mfs_edit.proofs.Names.{found_backwards}
use Rattle.mfs_edit.proofs.input.is_field.Goals as goal

pub returns-in-Some : goal.returns-in-Some
returns-in-Some c = ap is_some c.in-Some.ensures ∙ found_backwards (λ (field : DeviceField). bytes_eq field.name c.args.name.now) c.args.fields.now

pub returns-in-None : goal.returns-in-None
returns-in-None c = ap is_some c.in-None.ensures ∙ found_backwards (λ (field : DeviceField). bytes_eq field.name c.args.name.now) c.args.fields.now
