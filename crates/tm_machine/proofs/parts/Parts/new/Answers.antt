use Rattle.std.proofs.Common.{replicate, ap, ◌∙◌, length}
use Rattle.std.specs.Prelude.{None}
use Rattle.tm_machine.specs.Parts.{AreParts}
use Rattle.tm_machine.proofs.Started.{parts_start, moment_start}
use Rattle.tm_machine.proofs.parts.Parts.new.Goals as goal

pub invariant_of-result : goal.invariant_of-result
invariant_of-result c =
    parts_start c.args.system c.in-Ok-new.tables c.in-Ok-of.codes c.in-Ok.regions.items
    c.regions.ensures.valid c.in-Ok-new.ensures.queues c.in-Ok-new.ensures.lasting
    (c.in-Ok.ensures ∙ ap (λ rs. replicate (length rs) None) c.regions.ensures.value)
    c.in-Ok-of.ensures
    c.in-Ok-new.ensures.databases c.in-Ok-new.ensures.regions c.in-Ok-new.ensures.table c.in-Ok-new.ensures.rows

pub returns-clause-moment : goal.returns-clause-moment
returns-clause-moment c =
    let empty = c.in-Ok.ensures ∙ ap (λ rs. replicate (length rs) None) c.regions.ensures.value in
    let parts : AreParts c.args.system c.in-Ok-new.tables c.in-Ok-of.codes c.in-Ok.regions.items =
    parts_start c.args.system c.in-Ok-new.tables c.in-Ok-of.codes c.in-Ok.regions.items
    c.regions.ensures.valid c.in-Ok-new.ensures.queues c.in-Ok-new.ensures.lasting empty c.in-Ok-of.ensures
    c.in-Ok-new.ensures.databases c.in-Ok-new.ensures.regions c.in-Ok-new.ensures.table c.in-Ok-new.ensures.rows in
    moment_start c.args.system c.in-Ok-new.tables c.in-Ok-of.codes c.in-Ok.regions.items parts
    c.in-Ok-new.ensures.lasting empty c.in-Ok-of.ensures c.in-Ok-new.ensures.table
