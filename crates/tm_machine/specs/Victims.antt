-- Regions that give way, one after another.
use Rattle.std.specs.Prelude.{◌≡◌, ℕ, ◌-◌, None, IsSome, List, [], ◌∷◌, slice_set}
use Rattle.model_system.specs.System.{System}
use Rattle.model_data.specs.declared.victim.Victim.{Victim}
use Rattle.model_data.specs.EnqueueRequests.{released}
use Rattle.model_data.specs.Cycle.{Breaks, IsLeastCycle, victim_of}
use Rattle.model_machine.specs.Machine.{Moment, IsRegion, slot_at, moment_with, raised_now, waiting_now}
use Rattle.model_machine.specs.Requests.{changes_now}
use Rattle.tm_machine.specs.Parts.{PartsState}

-- each flag is as it would follow on itself now
abbrev pub AreFlagsSettled : PartsState → Type 0
AreFlagsSettled state = raised_now (waiting_now state.moment.lasting state.moment.slots) state.system.codes state.moment.raised ≡ state.moment.raised

-- A region gives way: it has no message any more, which keeps its place, and holds and waits for nothing.
abbrev pub gave_way : System → Moment → ℕ → Moment
gave_way system moment region =
    moment_with system moment.lasting (slice_set moment.slots (region - 1) None) (released region moment.enqueues) moment.raised

abbrev pub all_gave_way : System → Moment → List Victim → Moment
all_gave_way system moment [] = moment
all_gave_way system moment (v ∷ victims) = all_gave_way system (gave_way system moment v.region) victims

-- the one that gives way next, where a ring goes through a region: of the least one that with the fewest changes
pub record GivesWay (state : PartsState) (changes : List ℕ) (region : ℕ) (victim : Victim) : Type 0 where
  pub ring : IsLeastCycle state.moment.enqueues region victim.cycle
  pub chosen : victim.region ≡ victim_of changes victim.cycle
  pub there : IsRegion state.system victim.region
  pub busy : IsSome (slot_at state.moment victim.region)

-- all rings through a region were broken, one after another, by these
pub record BreaksRings (old new : PartsState) (region : ℕ) (victims : List Victim) : Type 0 where
  pub right : Breaks (changes_now old.system old.moment) region old.moment.enqueues victims
  pub moment : new.moment ≡ all_gave_way old.system old.moment victims
  pub system : new.system ≡ old.system
