use Rattle.std.proofs.Common.{◌≡◌, ℕ, ◌+◌, ◌-◌, List, ◌∷◌, ◌++◌, length, sym, ◌∙◌, ap, subst, arith, Some, None, IsTrue}
use Rattle.std.proofs.lemmas.List.{append-nil}
use Rattle.tm_disk.specs.Disk.{Image, sector_at}
use Rattle.tm_disk.proofs.Words.{keeps_on}
use Rattle.log_sectors.specs.SealedSector.{opened_payload}
use Rattle.log_sectors.specs.Chain.{chain, joined_payloads}
use Rattle.log_sectors.proofs.Links.{chain_none, chain_some, joined_next}
use Rattle.log_sectors.proofs.chain.read_chain_by.Goals as goal
use Rattle.tm_disk.proofs.States.{at_ok}

pub returns-in-None-clause-payload : goal.returns-in-None-clause-payload
returns-in-None-clause-payload g c tells =
    let old = g.D.Disk.state c.args.disk.now in
    let mid = g.D.Disk.state c.loop-place.disk in
    let keeps = c.loop-place.invariant.keeps in
    let value = at_ok c.read.result (IsTrue mid.tells → c.read.new.into ≡ sector_at mid.shown (c.args.first + c.loop-place.place)) (sym c.if-is_err.ensures.value) c.read.ensures.value in
    let sector : c.read.new.into ≡ sector_at old.shown (c.args.first + c.loop-place.place) = value (subst (λ b. IsTrue b) (sym keeps.stays.tells) tells) ∙ ap (λ (i : Image). sector_at i (c.args.first + c.loop-place.place)) keeps.shown in
    let none : opened_payload c.args.epoch (c.args.sequence + c.loop-place.place) (sector_at old.shown (c.args.first + c.loop-place.place)) ≡ None = ap (λ (s : List ℕ). opened_payload c.args.epoch (c.args.sequence + c.loop-place.place) s) (sym sector) ∙ c.in-None.ensures in
    let end = chain_none c.args.count c.loop-place.place old.shown c.args.first c.args.sequence c.args.epoch c.loop-place-test.true none in
    sym (c.loop-place.invariant.payload tells ∙ ap (λ (l : List (List ℕ)). c.loop-place.payload ++ joined_payloads l) end ∙ append-nil c.loop-place.payload)

pub returns-in-None-clause-sectors : goal.returns-in-None-clause-sectors
returns-in-None-clause-sectors g c tells =
    let old = g.D.Disk.state c.args.disk.now in
    let mid = g.D.Disk.state c.loop-place.disk in
    let keeps = c.loop-place.invariant.keeps in
    let value = at_ok c.read.result (IsTrue mid.tells → c.read.new.into ≡ sector_at mid.shown (c.args.first + c.loop-place.place)) (sym c.if-is_err.ensures.value) c.read.ensures.value in
    let sector : c.read.new.into ≡ sector_at old.shown (c.args.first + c.loop-place.place) = value (subst (λ b. IsTrue b) (sym keeps.stays.tells) tells) ∙ ap (λ (i : Image). sector_at i (c.args.first + c.loop-place.place)) keeps.shown in
    let none : opened_payload c.args.epoch (c.args.sequence + c.loop-place.place) (sector_at old.shown (c.args.first + c.loop-place.place)) ≡ None = ap (λ (s : List ℕ). opened_payload c.args.epoch (c.args.sequence + c.loop-place.place) s) (sym sector) ∙ c.in-None.ensures in
    let end = chain_none c.args.count c.loop-place.place old.shown c.args.first c.args.sequence c.args.epoch c.loop-place-test.true none in
    omega (arith, c.loop-place.invariant.sectors tells, ap (length {A = List ℕ}) end)

pub loop-place-preserved : goal.loop-place-preserved
loop-place-preserved g c =
    let old = g.D.Disk.state c.args.disk.now in
    let mid = g.D.Disk.state c.loop-place.disk in
    let new = g.D.Disk.state c.read.new.self in
    let keeps = c.loop-place.invariant.keeps in
    let link : IsTrue old.tells → chain (c.args.count - c.loop-place.place) old.shown (c.args.first + c.loop-place.place) (c.args.sequence + c.loop-place.place) c.args.epoch ≡ c.in-Some.bytes.now ∷ chain (c.args.count - (c.loop-place.place + 1)) old.shown (c.args.first + (c.loop-place.place + 1)) (c.args.sequence + (c.loop-place.place + 1)) c.args.epoch = λ tells.
    let value = at_ok c.read.result (IsTrue mid.tells → c.read.new.into ≡ sector_at mid.shown (c.args.first + c.loop-place.place)) (sym c.if-is_err.ensures.value) c.read.ensures.value in
    let sector : c.read.new.into ≡ sector_at old.shown (c.args.first + c.loop-place.place) = value (subst (λ b. IsTrue b) (sym keeps.stays.tells) tells) ∙ ap (λ (i : Image). sector_at i (c.args.first + c.loop-place.place)) keeps.shown in
    let some : opened_payload c.args.epoch (c.args.sequence + c.loop-place.place) (sector_at old.shown (c.args.first + c.loop-place.place)) ≡ Some c.in-Some.bytes.now = ap (λ (s : List ℕ). opened_payload c.args.epoch (c.args.sequence + c.loop-place.place) s) (sym sector) ∙ c.in-Some.ensures in
    chain_some c.args.count c.loop-place.place old.shown c.args.first c.args.sequence c.args.epoch c.in-Some.bytes.now c.loop-place-test.true some in
    let made = at_ok c.append.result (c.append.new.self ≡ c.loop-place.payload ++ c.in-Some.bytes.now) (sym c.if-is_err-2.ensures.value) c.append.ensures.ok in
    record {
      keeps = keeps_on old mid new (g.met.D.Disk.is_disk c.args.disk.now) keeps c.read.ensures.keeps;
      until_stop = c.read.ensures.until_stop ∙ c.loop-place.invariant.until_stop;
      faults = at_ok c.read.result (new.faults ≡ mid.faults) (sym c.if-is_err.ensures.value) c.read.ensures.no_fault ∙ c.loop-place.invariant.faults;
      payload = λ tells. joined_next (joined_payloads (chain c.args.count old.shown c.args.first c.args.sequence c.args.epoch)) c.loop-place.payload c.in-Some.bytes.now c.append.new.self _ _ (c.loop-place.invariant.payload tells) (link tells) made;
      sectors = λ tells. omega (arith, c.loop-place.invariant.sectors tells, ap (length {A = List ℕ}) (link tells));
    }

pub returns-in-None-clause-behind : goal.returns-in-None-clause-behind
returns-in-None-clause-behind g c tells lt =
    let mid = g.D.Disk.state c.loop-place.disk in
    let keeps = c.loop-place.invariant.keeps in
    let value = at_ok c.read.result (IsTrue mid.tells → c.read.new.into ≡ sector_at mid.shown (c.args.first + c.loop-place.place)) (sym c.if-is_err.ensures.value) c.read.ensures.value in
    value (subst (λ b. IsTrue b) (sym keeps.stays.tells) tells) ∙ ap (λ (i : Image). sector_at i (c.args.first + c.loop-place.place)) keeps.shown
