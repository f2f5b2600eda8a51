-- What stays over what was asked.
use Rattle.std.proofs.Common.{◌≡◌, ℕ, refl}
use Rattle.tm_disk.specs.Disk.{DiskState}
use Rattle.tm_disk.proofs.Words.{stays_is_same}
use Rattle.model_session.specs.declared.asked.Asked.{Asked}
use Rattle.model_session.specs.declared.asked.Asked.TheVariants.{Bad, BadCommand, Stopped, Call, Quiet, Power as AskedPower, PowerIn, Restart, ColdStart}
use Rattle.tm_control.specs.ControlOnDisk.{ControlOnDisk}
use Rattle.tm_control.specs.ControlCalls.{IsSameControl, StaysSo}
use Rattle.session_lives.specs.declared.called.Called.{Called}
use Rattle.session_lives.specs.declared.called.Called.TheVariants.{Answered, Frozen, Power, Broke, Memory, Spent}
use Rattle.session_lives.specs.AskedControl.{StaysBy}

module _ {D : Type 0} (state : D → DiskState) where
  -- a control region that stays as it was is the same
  pub same_of : (a b : ControlOnDisk D) → StaysSo state a b → IsSameControl state a b
  same_of a b stays = record {
    system = stays.system;
    opening = stays.opening;
    checkpoint = stays.checkpoint;
    text = stays.text;
    began = stays.began;
    disk = stays_is_same (state a.disk) (state b.disk) stays.disk;
    cuts = stays.disk.cuts;
    later = stays.later;
  }

  pub same_by : (asked : Asked) (called : Called) (a b : ControlOnDisk D) → StaysBy state asked called a b → IsSameControl state a b
  same_by (PowerIn writes pick) Answered a b h = h.same
  same_by (PowerIn writes pick) Frozen a b h = same_of a b h
  same_by (PowerIn writes pick) (Power picked) a b h = same_of a b h
  same_by (PowerIn writes pick) Broke a b h = same_of a b h
  same_by (PowerIn writes pick) Memory a b h = same_of a b h
  same_by (PowerIn writes pick) Spent a b h = same_of a b h
  same_by (Bad rule) called a b h = same_of a b h
  same_by (BadCommand rule) called a b h = same_of a b h
  same_by (Stopped terminal number reason) called a b h = same_of a b h
  same_by (Call call) called a b h = same_of a b h
  same_by (Quiet most) called a b h = same_of a b h
  same_by (AskedPower pick) called a b h = same_of a b h
  same_by Restart called a b h = same_of a b h
  same_by ColdStart called a b h = same_of a b h

  -- only a POWER IN that was served tells the disk to stop
  pub stays_else : (asked : Asked) (called : Called) (a b : ControlOnDisk D) → (called ≡ Answered → ⊥) → StaysBy state asked called a b → StaysSo state a b
  stays_else (PowerIn writes pick) Answered a b other h = absurd (other refl)
  stays_else (PowerIn writes pick) Frozen a b other h = h
  stays_else (PowerIn writes pick) (Power picked) a b other h = h
  stays_else (PowerIn writes pick) Broke a b other h = h
  stays_else (PowerIn writes pick) Memory a b other h = h
  stays_else (PowerIn writes pick) Spent a b other h = h
  stays_else (Bad rule) called a b other h = h
  stays_else (BadCommand rule) called a b other h = h
  stays_else (Stopped terminal number reason) called a b other h = h
  stays_else (Call call) called a b other h = h
  stays_else (Quiet most) called a b other h = h
  stays_else (AskedPower pick) called a b other h = h
  stays_else Restart called a b other h = h
  stays_else ColdStart called a b other h = h

-- how a call went but by being answered
pub not_frozen : Frozen ≡ Answered → ⊥
not_frozen e = cc

pub not_power : (pick : ℕ) → Power pick ≡ Answered → ⊥
not_power pick e = cc

pub not_broke : Broke ≡ Answered → ⊥
not_broke e = cc

pub not_memory : Memory ≡ Answered → ⊥
not_memory e = cc

pub not_spent : Spent ≡ Answered → ⊥
not_spent e = cc
