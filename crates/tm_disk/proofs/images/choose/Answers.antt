use Rattle.std.proofs.Common.{◌≡◌, ℕ, ◌+◌, ◌<◌, List, [], ◌∷◌, length, drop, get_or, sym, ◌∙◌, ap, arith}
use Rattle.std.proofs.lemmas.List.{ext_get_or}
use Rattle.tm_disk.specs.Disk.{sector_at}
use Rattle.tm_disk.specs.Moments.{writes_to, picked, digits}
use Rattle.tm_disk.specs.MomentLaws.{length-picked}
use Rattle.tm_disk.specs.NumberedSectors.{image_by}
use Rattle.tm_disk.proofs.Numbers.{length_image_by, sector_at-image_by}
use Rattle.tm_disk.proofs.Picks.{picked-digits, length-digits}
use Rattle.tm_disk.proofs.images.choose.Goals as goal

pub make_chosen-requires-clause-same_size : goal.make_chosen-requires-clause-same_size
make_chosen-requires-clause-same_size c = ap (length {A = ℕ}) c.draw.ensures ∙ length-digits c.args.pick c.count.new.counts.items ∙ c.count.ensures.size ∙ c.requires.same_size

pub returns-clause-picked : goal.returns-clause-picked
returns-clause-picked c =
    let writes = c.args.writes.now.items in
    let since = drop c.args.settled writes in
    let old = c.args.numbers.now.items in
    let new = c.make_chosen.new.numbers.items in
    let image = image_by writes old in
    let counts = c.count.new.counts.items in
    let size : length counts ≡ length image = c.count.ensures.size ∙ c.requires.same_size ∙ sym (length_image_by writes old) in
    let sizes : length (image_by writes new) ≡ length image = length_image_by writes new ∙ c.make_chosen.ensures.size ∙ sym (length_image_by writes old) in
    ext_get_or [] (image_by writes new) (picked c.args.pick 0 since image) (sizes ∙ sym (length-picked c.args.pick 0 since image))
    (λ k lt.
    let within : k < length image = omega (arith, lt, sizes) in
    let inside : k < length old = omega (arith, within, length_image_by writes old) in
    let inside_new : k < length new = omega (arith, lt, length_image_by writes new) in
    let zero : (x : ℕ) → x ≡ 0 + x = λ x. omega arith in
    sector_at-image_by writes new k inside_new
    ∙ c.make_chosen.ensures.chosen k inside
    ∙ ap (λ (s : List ℕ). get_or (s ∷ writes_to k since) (get_or c.draw.new.counts.items k 0) s) (sym (sector_at-image_by writes old k inside))
    ∙ ap (λ (l : List ℕ). get_or (sector_at image k ∷ writes_to k since) (get_or l k 0) (sector_at image k)) c.draw.ensures
    ∙ ap (λ j. get_or (sector_at image k ∷ writes_to j since) (get_or (digits c.args.pick counts) k 0) (sector_at image k)) (zero k)
    ∙ sym (picked-digits c.args.pick 0 k since image counts size
    (λ x less. c.count.ensures.counts x (omega (arith, less, c.count.ensures.size)) ∙ ap (λ j. length (writes_to j since)) (zero x)) within))

pub returns-clause-counts : goal.returns-clause-counts
returns-clause-counts c = c.make_chosen.ensures.left ∙ ap (length {A = ℕ}) c.draw.ensures ∙ length-digits c.args.pick c.count.new.counts.items ∙ c.count.ensures.size
