-- A message format, as the lists of its lines.
use Rattle.std.specs.Prelude.{List}
use Rattle.model_system.specs.declared.device_field.DeviceField.{DeviceField}
use Rattle.model_system.specs.declared.segment_line.SegmentLine.{SegmentLine}

-- the fields of the screen, and the segments that go in and come out, in the order of their lines
pub record FormatLines : Type 0 where
  pub fields : List DeviceField
  pub input : List SegmentLine
  pub output : List SegmentLine
