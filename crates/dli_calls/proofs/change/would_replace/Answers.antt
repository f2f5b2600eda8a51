use Rattle.std.proofs.Common.{sym, ap, ◌∙◌}
use Rattle.model_data.specs.ChangeCalls.{replace_fault}
use Rattle.model_data.specs.Path.{root_of}
use Rattle.dli_calls.proofs.OwnChanges.{root_is, held_some, replace_not, replace_does}
use Rattle.dli_calls.proofs.change.would_replace.Goals as goal

pub returns-in-Some : goal.returns-in-Some
returns-in-Some c = λ rows h.
    replace_not c.args.dbd.now c.args.at.now rows c.args.call.now c.args.seen.now c.in_ok-held.held.now (sym c.in_ok-held.ensures.value) h c.in-Some.field-0
    (sym (c.in-Some.ensures ∙ ap (λ a. replace_fault c.args.dbd.now.types c.in_ok-held.held.now a c.args.seen.now) c.as_slice.ensures))

pub returns-in-None : goal.returns-in-None
returns-in-None c = λ rows h.
    root_is c.root.result (root_of c.in_ok-held.held.now) (c.root.ensures.some.1 (held_some c.args.dbd.now c.args.at.now c.in_ok-held.held.now c.requires (sym c.in_ok-held.ensures.value))) c.root.ensures.value
    ∙ replace_does c.args.dbd.now c.args.at.now rows c.args.call.now c.args.seen.now c.in_ok-held.held.now (sym c.in_ok-held.ensures.value) h
    (sym (c.in-None.ensures ∙ ap (λ a. replace_fault c.args.dbd.now.types c.in_ok-held.held.now a c.args.seen.now) c.as_slice.ensures))
