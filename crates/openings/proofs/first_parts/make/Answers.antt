use Rattle.std.proofs.Common.{ℕ, ◌∙◌, ap, arith}
use Rattle.restart_data.specs.Snapshot.{snapshot_sectors_of}
use Rattle.openings.proofs.first_parts.make.Goals as goal

pub returns : goal.returns
returns c =
    record {
      made = record {
        defined = c.terminals-terminals.ensures.valid;
        are = c.in_ok-parts.ensures.are;
        stores = c.in_ok-parts.ensures.stores;
        next_unit = c.in_ok-parts.ensures.next_unit;
        state_is = c.in_ok-lasting.ensures;
        records = c.in_ok-bytes.ensures.records;
        some = c.in_ok-bytes.ensures.some;
        few = c.in_ok-bytes.ensures.few;
        has_sector = c.in_ok-parts.ensures.now;
        first = c.first_restart-now.ensures.begins;
        valid = c.first_restart-now.ensures.valid;
        sectors = c.first_restart-now.ensures.sectors ∙ ap (λ (n : ℕ). snapshot_sectors_of n) (omega (arith, c.len.ensures));
        text_size = c.first_restart-now.ensures.text;
      };
    }
