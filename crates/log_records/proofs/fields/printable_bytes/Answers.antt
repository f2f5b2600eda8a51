use Rattle.std.proofs.Common.{sym, ◌∙◌}
use Rattle.tm_types.specs.Segment.{is_printable}
use Rattle.log_records.proofs.FieldLaws.{kind_each}
use Rattle.log_records.proofs.fields.printable_bytes.Goals as goal

pub returns-clause-each : goal.returns-clause-each
returns-clause-each c = kind_each is_printable c.args.count c.args.bytes.now (λ x. (x.0.now, x.1.now)) c.bytes_of.result (rw (← c.front.ensures) (sym c.first_unprintable.ensures.value ∙ c.in_default.is)) c.bytes_of.ensures
