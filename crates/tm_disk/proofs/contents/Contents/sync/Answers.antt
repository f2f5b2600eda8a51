use Rattle.std.proofs.Common.{ℕ, ◌<◌, List, [], ◌∷◌, ◌++◌, length, get_or, sym, ◌∙◌, ap, subst, inl}
use Rattle.std.specs.Prelude.{All}
use Rattle.tm_disk.specs.Moments.{zero_disk, moments_past, IsMomentSound}
use Rattle.tm_disk.specs.NumberedSectors.{image_by}
use Rattle.tm_disk.specs.declared.record.Before.{Before}
use Rattle.tm_disk.proofs.Keeping.{moment_of}
use Rattle.tm_disk.proofs.Numbers.{length_image_by, numbered-sync}
use Rattle.tm_disk.proofs.contents.Contents.sync.Goals as goal

pub take_over-requires-clause-in_range : goal.take_over-requires-clause-in_range
take_over-requires-clause-in_range c =
    let m = c.args.self.now in
    subst (λ k. All (λ w. w.at < k) m.writes.items) (length_image_by m.writes.items m.synced.items) m.sound.in_range

pub take_over-requires-clause-size : goal.take_over-requires-clause-size
take_over-requires-clause-size c = sym c.args.self.now.numbers.size ∙ sym (ap (length {A = ℕ}) c.deref.ensures.value)

pub take_over-requires-clause-others : goal.take_over-requires-clause-others
take_over-requires-clause-others c =
    let m = c.args.self.now in
    λ k none. sym (m.numbers.same k none) ∙ ap (λ (l : List ℕ). get_or l k 0) (sym c.deref.ensures.value)

pub invariant_of-self : goal.invariant_of-self
invariant_of-self c =
    let m = c.args.self.now in
    let sound = subst (λ (p : Before). IsMomentSound (image_by m.writes.items m.shown.items) (image_by m.writes.items m.synced.items) m.writes.items m.settled p) c.in-Nothing.is m.sound in
    let settling = numbered-sync m.shown.items m.synced.items c.take_over.new.numbers.items m.writes.items m.settled c.len-self.result m.numbers sound (c.take_over.ensures ∙ c.deref.ensures.value) c.len-self.ensures in
    record { counts_size = m.counts_size ∙ sym settling.size; numbers = settling.numbers; sound = settling.sound }

pub returns-in-Nothing-clause-settles : goal.returns-in-Nothing-clause-settles
returns-in-Nothing-clause-settles c =
    let m = c.args.self.now in
    let sound = subst (λ (p : Before). IsMomentSound (image_by m.writes.items m.shown.items) (image_by m.writes.items m.synced.items) m.writes.items m.settled p) c.in-Nothing.is m.sound in
    let settling = numbered-sync m.shown.items m.synced.items c.take_over.new.numbers.items m.writes.items m.settled c.len-self.result m.numbers sound (c.take_over.ensures ∙ c.deref.ensures.value) c.len-self.ensures in
    inl (record {
      now = settling.now;
      past = settling.past ∙ ap (λ (p : Before). moments_past (zero_disk (length m.synced.items)) m.writes.items p ++ moment_of (image_by m.writes.items m.synced.items) m.writes.items m.settled ∷ []) (sym c.in-Nothing.is);
    })
