-- of a session that was down
use Rattle.std.proofs.Common.{◌≡◌, sym, subst, refl}
use Rattle.tm_disk.specs.Disk.{DiskState}
use Rattle.model_session.specs.Lines.{asked_of}
use Rattle.session_lives.specs.declared.place.Idle.{Idle}
use Rattle.session_lives.specs.declared.place.Kept.{Kept}
use Rattle.session_lives.specs.declared.place.Place.{Place}
use Rattle.session_lives.specs.declared.place.Place.TheVariants.{Down}
use Rattle.session_lives.specs.declared.place.Session.{Session}
use Rattle.session_lives.specs.RunningSession.{Course, IsSessionSound, Leads, LeadsBy, session_down}
use Rattle.session_lives.specs.Openings.{IsServedSo}
use Rattle.session_lives.proofs.serve.serve_down.Goals as goal

-- a session that is taken apart and put together again leads where its parts lead
moved_down : {D : Type 0} (state : D → DiskState) (by : Course) (old after : Session D) (idle : Idle D) (kept kept' : Kept) (place : Place D)
    → old.place ≡ Down idle → kept ≡ old.kept → place ≡ after.place → kept' ≡ after.kept → Leads state by (session_down idle kept) after
    → Leads state by old (record { place = place; kept = kept' })
moved_down {D} state by old after idle kept kept' place was same now then leads system source handed cut sound =
    let old_is : session_down idle kept ≡ old = λ i. record { place = sym was i; kept = same i } in
    let new_is : after ≡ record { place = place; kept = kept' } = λ i. record { place = sym now i; kept = sym then i } in
    subst (λ (s : Session D). LeadsBy state by system source handed cut old s) new_is
    (subst (λ (s : Session D). LeadsBy state by system source handed cut s after) old_is
    (leads system source handed cut (subst (λ (s : Session D). IsSessionSound state system source handed cut s) (sym old_is) sound)))

pub returns-clause-served : goal.returns-clause-served
returns-clause-served g c =
    moved_down g.D.Disk.state
    (λ setting old new. IsServedSo (asked_of setting.system c.args.block.now) c.serve_idle-after.new.printed.text c.serve_idle-after.result.1 setting old new)
    c.args.session.now c.serve_idle-after.result.0 c.take_down-idle.result c.replace-kept.result c.serve_idle-after.result.0.kept c.put.new.place
    c.take_down-idle.ensures.taken c.replace-kept.ensures.value c.put.ensures refl c.serve_idle-after.ensures.served
