-- nothing but the disk is told
use Rattle.std.proofs.Common.{◌≡◌, ◌-◌, ◌∙◌, ap, sym, refl, true, false, Bool, ℕ}
use Rattle.std.specs.Prelude.{◌↔◌, IsFalse, IsTrue, Option, if◌then◌else◌}
use Rattle.tm_machine.specs.Parts.{PartsState}
use Rattle.tm_control.specs.ControlOnDisk.{ControlOnDisk}
use Rattle.tm_control.proofs.Going.{lasts_now, served_holds}
use Rattle.tm_control.proofs.control.Control.arm.Goals as goal

-- the writes left, whether the disk can be told or not
left_by : (told can : Bool) (before after armed : Option ℕ) → IsTrue told ↔ IsTrue can → (IsTrue told → after ≡ armed) → (IsFalse told → after ≡ before)
    → after ≡ (if can then armed else before)
left_by true true before after armed both done not_done = done refl
left_by true false before after armed both done not_done = absurd (apart (both.0 refl)) where
  apart : false ≡ true → ⊥
  apart e = cc
left_by false true before after armed both done not_done = absurd (apart (both.1 refl)) where
  apart : false ≡ true → ⊥
  apart e = cc
left_by false false before after armed both done not_done = not_done refl

pub returns-clause-log : goal.returns-clause-log
returns-clause-log g c = rw (sym c.self.view_is)
    (record { databases = ap (λ (p : PartsState). p.databases) c.arm.ensures.machine; journal = c.arm.ensures.journal; forced = ap (λ n. n - c.self.inside.opening.steps) c.arm.ensures.forced; units = c.arm.ensures.units; next_unit = c.arm.ensures.next_unit })

pub returns-clause-arms : goal.returns-clause-arms
returns-clause-arms g c = rw (sym c.self.view_is)
    (record {
      same = record {
        system = ap (λ (p : PartsState). p.system) c.arm.ensures.machine;
        opening = refl;
        checkpoint = refl;
        text = c.arm.ensures.text;
        began = refl;
        disk = c.arm.ensures.told.same;
        cuts = c.arm.ensures.told.cuts;
        later = c.arm.ensures.told.elapses.later;
      };
      told = c.arm.ensures.told;
      until_stop = left_by c.arm.result _ _ _ _ c.arm.ensures.can c.arm.ensures.armed c.arm.ensures.nothing;
    })

pub invariant_of-self : goal.invariant_of-self
invariant_of-self g c = record {
  holds =
      served_holds g.D.Disk.state c.self.inside.machine c.arm.new.self c.self.inside.opening c.self.inside.checkpoint c.self.inside.history.items c.self.inside.steps
      (ap (λ (v : ControlOnDisk _). v.up) c.self.view_is ∙ c.requires.up) (c.arm.ensures.served ∙ ap (λ (v : ControlOnDisk _). v.up) c.self.view_is ∙ c.requires.up)
      c.arm.ensures.machine c.arm.ensures.journal c.arm.ensures.pends c.self.invariant.holds;
  room = λ served. c.self.invariant.room (ap (λ (v : ControlOnDisk _). v.up) c.self.view_is ∙ c.requires.up);
}

pub returns-clause-lasts : goal.returns-clause-lasts
returns-clause-lasts g c =
    lasts_now g.D.Disk.state c.arm.new.self c.self.inside.opening c.self.inside.checkpoint c.self.inside.history.items _ c.self.inside.began c.self.inside.steps
    (served_holds g.D.Disk.state c.self.inside.machine c.arm.new.self c.self.inside.opening c.self.inside.checkpoint c.self.inside.history.items c.self.inside.steps
    (ap (λ (v : ControlOnDisk _). v.up) c.self.view_is ∙ c.requires.up) (c.arm.ensures.served ∙ ap (λ (v : ControlOnDisk _). v.up) c.self.view_is ∙ c.requires.up)
    c.arm.ensures.machine c.arm.ensures.journal c.arm.ensures.pends c.self.invariant.holds)
    c.arm.ensures.lasts
