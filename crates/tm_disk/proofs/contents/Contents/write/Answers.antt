use Rattle.std.proofs.Common.{◌≡◌, ◌+◌, List, [], ◌∷◌, ◌++◌, length, set, arith, refl, sym, ◌∙◌, ap, subst}
use Rattle.std.proofs.lemmas.List.{length_push}
use Rattle.tm_disk.specs.Moments.{zero_disk, moments_past, IsMomentSound}
use Rattle.tm_disk.specs.NumberedSectors.{image_by, AreNumbers}
use Rattle.tm_disk.specs.Written.{Written}
use Rattle.tm_disk.specs.declared.record.Before.TheVariants.{Nothing}
use Rattle.tm_disk.proofs.Keeping.{moment_of, write-past}
use Rattle.tm_disk.proofs.Numbers.{length_image_by, numbers-write, numbered-write, numbered-now, past_numbers}
use Rattle.tm_disk.proofs.contents.Contents.write.Goals as goal

pub index_mut-requires : goal.index_mut-requires
index_mut-requires c =
    let m = c.args.self.now in
    omega (arith, c.requires.in_range, length_image_by m.writes.items m.synced.items, m.numbers.size, m.shown.ok, m.synced.ok)

pub invariant_of-self-2 : goal.invariant_of-self-2
invariant_of-self-2 c =
    let m = c.args.self.now in
    let write : Written = record { at = c.args.at; content = c.args.content.now; before = m.pending } in
    let grown : List Written = m.writes.items ++ write ∷ [] in
    let items : c.push.new.self.items ≡ grown = c.in_ok-push.ensures.ok in
    let number : c.len.result ≡ length m.writes.items + 1 =
    c.len.ensures ∙ ap (length {A = Written}) items ∙ length_push m.writes.items write in
    record {
      counts_size = m.counts_size;
      numbers = subst (λ l. AreNumbers (set m.shown.items c.args.at c.len.result) m.synced.items l m.settled) (sym items) (numbers-write m.shown.items m.synced.items m.writes.items m.settled c.args.at c.len.result write m.numbers m.sound.settled_in refl number);
      sound = subst (λ l. IsMomentSound (image_by l (set m.shown.items c.args.at c.len.result)) (image_by l m.synced.items) l m.settled Nothing) (sym items)
          (numbered-write m.shown.items m.synced.items m.writes.items m.settled m.pending c.args.at c.len.result c.args.content.now m.numbers m.sound c.requires.in_range c.requires.room number);
    }

pub returns-clause-ok : goal.returns-clause-ok
returns-clause-ok c =
    let m = c.args.self.now in
    let write : Written = record { at = c.args.at; content = c.args.content.now; before = m.pending } in
    let grown : List Written = m.writes.items ++ write ∷ [] in
    let items : c.push.new.self.items ≡ grown = c.in_ok-push.ensures.ok in
    record {
      now = ap (λ (l : List Written). moment_of (image_by l m.synced.items) l m.settled) items ∙ numbered-now m.synced.items m.writes.items m.settled write m.numbers.synced_in m.sound.settled_in;
      past = ap (λ (l : List Written). moments_past (zero_disk (length m.synced.items)) l Nothing) items
          ∙ past_numbers m.writes.items grown m.synced.items m.synced.items Nothing m.pending (moment_of (image_by m.writes.items m.synced.items) m.writes.items m.settled)
          (write-past (image_by m.writes.items m.shown.items) (image_by m.writes.items m.synced.items) m.writes.items m.settled m.pending c.args.at c.args.content.now m.sound);
    }
