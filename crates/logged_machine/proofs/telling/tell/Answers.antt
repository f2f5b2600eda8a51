use Rattle.std.proofs.Common.{subst}
use Rattle.log_records.proofs.Takes.{IsBytes}
use Rattle.logged_machine.proofs.Appending.{appends, on_ok}
use Rattle.logged_machine.proofs.telling.tell.Goals as goal

pub returns-clause-told : goal.returns-clause-told
returns-clause-told g c =
    on_ok c.tell-answer.result
    (λ told.
    appends c.args.room c.args.journal.now c.exchange.new.self c.new-told.result.items c.exchange.new.bytes.items
    (record { room_is = c.requires.room; nothing = c.new-told.ensures.items; log = c.exchange.ensures.log; before_is = c.exchange.ensures.bytes; restart = c.exchange.ensures.restart })
    c.tell-answer.new.telling.told.items c.exchange-2.new.self _ c.exchange-2.ensures.log c.exchange-2.ensures.restart (subst IsBytes c.as_slice.ensures.value c.see_bytes.ensures) told.told told.valid told.fits)
    c.tell-answer.ensures.told

pub returns-clause-fits : goal.returns-clause-fits
returns-clause-fits g c = on_ok c.tell-answer.result (λ told. told.fits) c.tell-answer.ensures.told
