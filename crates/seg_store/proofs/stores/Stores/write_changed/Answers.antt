use Rattle.std.proofs.Common.{◌≡◌, ℕ, ◌≤◌, List, sym, ◌∙◌, ap, subst, IsTrue}
use Rattle.std.specs.Prelude.{IfOk, OnOk, OnErr}
use Rattle.std.specs.List.{AllByRecursion}
use Rattle.tm_disk.specs.Disk.{Within, Follows, WritesAtMost}
use Rattle.seg_store.specs.Slots.{Stored}
use Rattle.seg_store.specs.ChangedSlots.{Kept, AllStores}
use Rattle.seg_store.specs.DataSectors.{MayPut, HasPut, PutsFront}
use Rattle.seg_store.specs.WrittenSlots.{changed_bytes, changed_sectors, kept_bytes, kept_changed}
use Rattle.seg_store.proofs.WritingBack.{bytes_seen, count_seen, sectors_seen}
use Rattle.seg_store.proofs.stores.Stores.write_changed.Goals as goal

pub write_all-requires-clause-sectors : goal.write_all-requires-clause-sectors
write_all-requires-clause-sectors g c =
    sectors_seen c.self.inside.items.items (subst (λ (a : AllStores). AllByRecursion (λ (s : Stored). s.dbd.sectors ≤ 8) a.stores) (sym c.self.view_is) c.requires.sectors)

pub returns-clause-any_moment : goal.returns-clause-any_moment
returns-clause-any_moment g c =
    let kept : List Kept = c.self.inside.items.items in
    let bytes : kept_bytes 0 kept ≡ changed_bytes c.args.self.now = bytes_seen 0 kept ∙ ap changed_bytes c.self.view_is in
    subst (λ (l : List (ℕ × List ℕ)). Within (MayPut c.args.first l) (g.D.Disk.state c.args.disk.now) (g.D.Disk.state c.write_all.new.disk)) bytes c.write_all.ensures.any_moment

pub returns-clause-follows : goal.returns-clause-follows
returns-clause-follows g c =
    let kept : List Kept = c.self.inside.items.items in
    let bytes : kept_bytes 0 kept ≡ changed_bytes c.args.self.now = bytes_seen 0 kept ∙ ap changed_bytes c.self.view_is in
    subst (λ (l : List (ℕ × List ℕ)). Follows (MayPut c.args.first l) (g.D.Disk.state c.args.disk.now) (g.D.Disk.state c.write_all.new.disk)) bytes c.write_all.ensures.follows

pub returns-clause-shown : goal.returns-clause-shown
returns-clause-shown g c =
    let old = g.D.Disk.state c.args.disk.now in
    let new = g.D.Disk.state c.write_all.new.disk in
    let kept : List Kept = c.self.inside.items.items in
    let bytes : kept_bytes 0 kept ≡ changed_bytes c.args.self.now = bytes_seen 0 kept ∙ ap changed_bytes c.self.view_is in
    subst (λ (l : List (ℕ × List ℕ)). OnOk c.write_all.result (IsTrue old.tells → HasPut c.args.first l old.shown new.shown)) bytes c.write_all.ensures.shown

pub returns-clause-ascending : goal.returns-clause-ascending
returns-clause-ascending g c =
    let old = g.D.Disk.state c.args.disk.now in
    let new = g.D.Disk.state c.write_all.new.disk in
    let kept : List Kept = c.self.inside.items.items in
    let bytes : kept_bytes 0 kept ≡ changed_bytes c.args.self.now = bytes_seen 0 kept ∙ ap changed_bytes c.self.view_is in
    subst (λ (l : List (ℕ × List ℕ)). OnErr c.write_all.result (IsTrue old.tells → PutsFront c.args.first l old.shown new.shown)) bytes c.write_all.ensures.ascending

pub returns-clause-count : goal.returns-clause-count
returns-clause-count g c =
    let kept : List Kept = c.self.inside.items.items in
    let count : kept_changed kept ≡ changed_sectors c.args.self.now.stores c.args.self.now.changed = count_seen kept ∙ ap (λ (a : AllStores). changed_sectors a.stores a.changed) c.self.view_is in
    subst (λ m. IfOk c.write_all.result (λ n. n ≡ m)) count c.write_all.ensures.count

pub returns-clause-writes : goal.returns-clause-writes
returns-clause-writes g c =
    let kept : List Kept = c.self.inside.items.items in
    let count : kept_changed kept ≡ changed_sectors c.args.self.now.stores c.args.self.now.changed = count_seen kept ∙ ap (λ (a : AllStores). changed_sectors a.stores a.changed) c.self.view_is in
    subst (λ m. WritesAtMost m (g.D.Disk.state c.args.disk.now) (g.D.Disk.state c.write_all.new.disk)) count c.write_all.ensures.writes
