-- The moment at which a disk in memory is, and those before it.
use Rattle.std.specs.Prelude.{◌≡◌, ◌⊎◌, List, [], ◌∷◌, ◌++◌, length, drop}
use Rattle.tm_disk.specs.Moments.{DiskMoment, zero_disk, settled_by, moments_past}
use Rattle.tm_disk.specs.NumberedSectors.{image_by}
use Rattle.tm_disk.specs.declared.record.Before.{Before}
use Rattle.tm_disk.specs.declared.contents.Contents.{Contents}

abbrev pub contents_now : Contents → DiskMoment
contents_now contents = record { synced = image_by contents.writes.items contents.synced.items; since = drop contents.settled contents.writes.items }

abbrev pub past_of : Contents → List DiskMoment
past_of contents = moments_past (zero_disk (length contents.synced.items)) contents.writes.items contents.pending

-- One moment more, what was now being past.
pub record ContentsGoOn (old new : Contents) (next : DiskMoment) : Type 0 where
  pub now : contents_now new ≡ next
  pub past : past_of new ≡ past_of old ++ contents_now old ∷ []

-- still the same moment
pub record StaysAt (old new : Contents) : Type 0 where
  pub now : contents_now new ≡ contents_now old
  pub past : past_of new ≡ past_of old

-- nothing was written since, so that nothing can be lost
pub record HasSettled (old new : Contents) : Type 0 where
  pub same : StaysAt old new
  pub none : (contents_now old).since ≡ []

-- It was synced or cut off, or there was nothing to be synced or lost.
abbrev pub Settles : Before → Contents → Contents → Type 0
Settles before old new = ContentsGoOn old new (settled_by before (contents_now old)) ⊎ HasSettled old new
