use Rattle.std.proofs.Common.{Err, subst, sym}
use Rattle.tm_restart.specs.LookedImage.{TellsLook, LookCause}
use Rattle.tm_restart.proofs.Seen.{bad_seen, spent_seen}
use Rattle.tm_restart.proofs.finding.find_rest.Goals as goal

pub returns-in-Err-Bad-clause-value : goal.returns-in-Err-Bad-clause-value
returns-in-Err-Bad-clause-value g c tells =
    let system = c.args.system.now in
    let old = g.D.Disk.state c.args.disk.now in
    rw (c.in-Err-Bad.field-0-is)
    (bad_seen system c.args.text.now old.shown c.args.restart c.in-Err-Bad.rule c.in-Err-Bad.sector (c.requires.has tells) (c.requires.same tells)
    (subst (λ fault. TellsLook system c.args.restart old.shown (Err fault)) c.in-Err-Bad.field-0-is (c.in-Err-Bad.ensures.value tells)))

pub returns-in-Err-Bad-clause-cause : goal.returns-in-Err-Bad-clause-cause
returns-in-Err-Bad-clause-cause g c =
    let old = g.D.Disk.state c.args.disk.now in
    let new = g.D.Disk.state c.look.new.disk in
    record { keeps = c.in-Err-Bad.ensures.keeps; no_fault = subst (λ fault. LookCause (Err fault) old new) c.in-Err-Bad.field-0-is c.in-Err-Bad.ensures.cause }

pub returns-in-None-clause-value : goal.returns-in-None-clause-value
returns-in-None-clause-value g c tells = record { has_restart = c.requires.has tells; has_text = c.requires.same tells; looked = c.in-Ok.ensures.value tells }

pub returns-in-None-clause-always : goal.returns-in-None-clause-always
returns-in-None-clause-always g c = record {
  valid = c.requires.valid;
  text_size = c.requires.text_size;
  behind = c.in-Ok.ensures.behind;
  least = c.in-Ok.ensures.least;
  few = c.in-Ok.ensures.few;
  given = c.in-Ok.ensures.given;
  made = c.in-Ok.ensures.made;
  unspent = λ state id steps outputs. sym (c.in-None.ensures state id steps outputs);
}

pub returns-in-Some-clause-value : goal.returns-in-Some-clause-value
returns-in-Some-clause-value g c tells =
    spent_seen c.args.system.now c.args.text.now (g.D.Disk.state c.args.disk.now).shown (record { restart = c.args.restart; looked = c.in-Ok.looked }) c.in-Some.counter
    (record { has_restart = c.requires.has tells; has_text = c.requires.same tells; looked = c.in-Ok.ensures.value tells })
    c.in-Some.ensures
