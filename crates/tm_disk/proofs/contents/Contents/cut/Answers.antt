use Rattle.std.proofs.Common.{◌≡◌, ℕ, ◌<◌, ◌≤◌, List, [], ◌∷◌, ◌++◌, length, drop, get_or, sym, ◌∙◌, ap, subst, inl}
use Rattle.std.specs.Prelude.{All}
use Rattle.tm_disk.specs.Moments.{zero_disk, picked, moments_past, IsMomentSound}
use Rattle.tm_disk.specs.NumberedSectors.{image_by}
use Rattle.tm_disk.specs.declared.record.Before.{Before}
use Rattle.tm_disk.proofs.Keeping.{moment_of}
use Rattle.tm_disk.proofs.Numbers.{length_image_by, numbered-cut}
use Rattle.tm_disk.proofs.contents.Contents.cut.Goals as goal

pub choose-requires-clause-in_range : goal.choose-requires-clause-in_range
choose-requires-clause-in_range c =
    let m = c.args.self.now in
    subst (λ k. All (λ w. w.at < k) m.writes.items) (length_image_by m.writes.items m.synced.items) m.sound.in_range

pub take_over-requires-clause-in_range : goal.take_over-requires-clause-in_range
take_over-requires-clause-in_range c =
    let m = c.args.self.now in
    let n : length (image_by m.writes.items m.synced.items) ≡ length m.shown.items = length_image_by m.writes.items m.synced.items ∙ sym m.numbers.size in
    subst (λ k. All (λ w. w.at < k) m.writes.items) n m.sound.in_range

pub take_over-requires-clause-size : goal.take_over-requires-clause-size
take_over-requires-clause-size c = c.args.self.now.numbers.size ∙ sym c.choose.ensures.size ∙ sym (ap (length {A = ℕ}) c.deref.ensures.value)

pub take_over-requires-clause-others : goal.take_over-requires-clause-others
take_over-requires-clause-others c =
    let m = c.args.self.now in
    λ k unwritten.
    m.numbers.same k unwritten
    ∙ sym (c.choose.ensures.others k unwritten)
    ∙ ap (λ (l : List ℕ). get_or l k 0) (sym c.deref.ensures.value)

pub invariant_of-self : goal.invariant_of-self
invariant_of-self c =
    let m = c.args.self.now in
    let sound = subst (λ (p : Before). IsMomentSound (image_by m.writes.items m.shown.items) (image_by m.writes.items m.synced.items) m.writes.items m.settled p) c.in-Nothing.is m.sound in
    let picks : image_by m.writes.items c.choose.new.numbers.items ≡ picked c.args.pick 0 (drop m.settled m.writes.items) (image_by m.writes.items m.synced.items) = c.choose.ensures.picked in
    let within : All (λ n. n ≤ length m.writes.items) c.choose.new.numbers.items = c.choose.ensures.within m.numbers.synced_in in
    let settling = numbered-cut m.shown.items m.synced.items c.take_over.new.numbers.items c.choose.new.numbers.items m.writes.items m.settled c.len-self.result c.args.pick m.numbers sound picks within c.choose.ensures.size
    (c.take_over.ensures ∙ c.deref.ensures.value) c.len-self.ensures in
    record { counts_size = c.choose.ensures.counts ∙ m.counts_size ∙ sym c.choose.ensures.size; numbers = settling.numbers; sound = settling.sound }

pub returns-in-Nothing-clause-settles : goal.returns-in-Nothing-clause-settles
returns-in-Nothing-clause-settles c =
    let m = c.args.self.now in
    let sound = subst (λ (p : Before). IsMomentSound (image_by m.writes.items m.shown.items) (image_by m.writes.items m.synced.items) m.writes.items m.settled p) c.in-Nothing.is m.sound in
    let picks : image_by m.writes.items c.choose.new.numbers.items ≡ picked c.args.pick 0 (drop m.settled m.writes.items) (image_by m.writes.items m.synced.items) = c.choose.ensures.picked in
    let within : All (λ n. n ≤ length m.writes.items) c.choose.new.numbers.items = c.choose.ensures.within m.numbers.synced_in in
    let settling = numbered-cut m.shown.items m.synced.items c.take_over.new.numbers.items c.choose.new.numbers.items m.writes.items m.settled c.len-self.result c.args.pick m.numbers sound picks within c.choose.ensures.size
    (c.take_over.ensures ∙ c.deref.ensures.value) c.len-self.ensures in
    inl (record {
      now = settling.now;
      past = settling.past ∙ ap (λ (p : Before). moments_past (zero_disk (length m.synced.items)) m.writes.items p ++ moment_of (image_by m.writes.items m.synced.items) m.writes.items m.settled ∷ []) (sym c.in-Nothing.is);
    })
