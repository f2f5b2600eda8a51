-- no sector was written yet
use Rattle.std.proofs.Common.{rules, ◌≡◌, [], sym, subst, arith}
use Rattle.std.specs.Prelude.{replicate}
use Rattle.tm_disk.specs.Moments.{IsMomentSound}
use Rattle.tm_disk.specs.NumberedSectors.{image_by, AreNumbers}
use Rattle.tm_disk.specs.declared.record.Before.TheVariants.{Nothing}
use Rattle.tm_disk.proofs.Numbers.{numbers-start, numbered-start}
use Rattle.tm_disk.proofs.contents.Contents.new.Goals as goal

pub invariant_of-result-clause-numbers : goal.invariant_of-result-clause-numbers
invariant_of-result-clause-numbers c =
    let shown : c.in_ok-vec.field-0.items ≡ replicate c.args.sectors 0 = search rules in
    let synced : c.in_ok-vec-2.field-0.items ≡ replicate c.args.sectors 0 = search rules in
    let writes : c.new.result.items ≡ [] = c.new.ensures in
    subst (λ l. AreNumbers c.in_ok-vec.field-0.items c.in_ok-vec-2.field-0.items l 0) (sym writes)
    (subst (λ l. AreNumbers l c.in_ok-vec-2.field-0.items [] 0) (sym shown) (subst (λ l. AreNumbers (replicate c.args.sectors 0) l [] 0) (sym synced) (numbers-start c.args.sectors)))

pub invariant_of-result-clause-sound : goal.invariant_of-result-clause-sound
invariant_of-result-clause-sound c =
    let shown : c.in_ok-vec.field-0.items ≡ replicate c.args.sectors 0 = search rules in
    let synced : c.in_ok-vec-2.field-0.items ≡ replicate c.args.sectors 0 = search rules in
    let writes : c.new.result.items ≡ [] = c.new.ensures in
    subst (λ l. IsMomentSound (image_by l c.in_ok-vec.field-0.items) (image_by l c.in_ok-vec-2.field-0.items) l 0 Nothing) (sym writes)
    (subst (λ l. IsMomentSound (image_by [] l) (image_by [] c.in_ok-vec-2.field-0.items) [] 0 Nothing) (sym shown)
    (subst (λ l. IsMomentSound (image_by [] (replicate c.args.sectors 0)) (image_by [] l) [] 0 Nothing) (sym synced) (numbered-start c.args.sectors (omega (arith, c.ranges.sectors.fits)))))
