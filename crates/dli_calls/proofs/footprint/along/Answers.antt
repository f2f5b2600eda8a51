use Rattle.std.proofs.Common.{◌<◌, ◌++◌, ◌∷◌, [], length, None, Some, sym, subst, ap, ◌∙◌}
use Rattle.std.specs.Option.{option_copied}
use Rattle.model_data.specs.Rows.{roots, AreRows}
use Rattle.model_data.specs.Footprint.{record_need, sequence_need}
use Rattle.row_search.proofs.Needing.{walk, next_fits}
use Rattle.dli_calls.specs.NamedRecords.{keys_behind, keys_from}
use Rattle.dli_calls.proofs.Along.{IsAlong, along_starts, along_read, none_named, none_found, none_goes, row_named, row_found, fewer_keys, after_sequence}
use Rattle.dli_calls.proofs.footprint.along.Goals as goal

pub loop-next-init : goal.loop-next-init
loop-next-init g c =
    let rows = g.R.Rows.rows c.args.rows.now in
    let asked = c.args.asked.now in
    let valid : AreRows asked.dbd rows = subst (λ d. AreRows d rows) c.requires c.next_root-next.ensures.valid in
    record {
      along = subst (λ next. IsAlong asked.dbd asked.ssas (option_copied c.args.place) c.args.mode (option_copied c.args.after) c.push.new.self rows rows next c.push.new.self)
          (sym c.next_root-next.ensures.value)
          (along_starts asked.dbd asked.ssas (option_copied c.args.place) c.args.mode (option_copied c.args.after) c.push.new.self rows valid);
      database = c.requires;
      read = g.R.Rows.read_none c.args.rows.now;
    }

pub returns-in-Some-2-clause-named : goal.returns-in-Some-2-clause-named
returns-in-Some-2-clause-named g c =
    let rows = g.R.Rows.rows c.args.rows.now in
    let old = g.R.Rows.rows c.loop-next.rows in
    let new = g.R.Rows.rows c.read_row.new.rows in
    let asked = c.args.asked.now in
    let same = g.R.Rows.read_same c.loop-next.rows c.read_row.new.rows c.read_row.ensures.read in
    let valid : AreRows asked.dbd new = subst (λ d. AreRows d new) (same.database ∙ c.loop-next.invariant.database) c.in_ok-row.ensures.valid in
    let before : IsAlong asked.dbd asked.ssas (option_copied c.args.place) c.args.mode (option_copied c.args.after) c.push.new.self rows old (Some c.in-Some.root) c.loop-next.needs =
    subst (λ next. IsAlong asked.dbd asked.ssas (option_copied c.args.place) c.args.mode (option_copied c.args.after) c.push.new.self rows old next c.loop-next.needs) c.in-Some.is c.loop-next.invariant.along in
    let here = along_read asked.dbd asked.ssas (option_copied c.args.place) c.args.mode (option_copied c.args.after) c.push.new.self rows old c.loop-next.needs c.in-Some.root before new valid same.rows.roots c.read_row.ensures.others in
    row_named asked.dbd asked.ssas (option_copied c.args.place) c.args.mode (option_copied c.args.after) c.push.new.self rows new c.loop-next.needs c.in-Some.root here c.in-Some-2.row c.push-in-Some.new.self
    (c.in_ok-push-2.ensures.ok ∙ ap (λ need. c.loop-next.needs ++ need ∷ []) c.record_need.ensures)
    (sym c.in_ok-row.ensures.found ∙ c.in-Some-2.is)
    ∙ after_sequence c.args.needs.now c.push.new.self (walk (next_fits asked.dbd asked.ssas (option_copied c.args.place)) c.args.mode new (keys_behind (option_copied c.args.after) (roots new)))
    (c.in_ok-push.ensures.ok ∙ ap (λ need. c.args.needs.now ++ need ∷ []) c.sequence_need.ensures)

pub returns-in-Some-2-clause-found : goal.returns-in-Some-2-clause-found
returns-in-Some-2-clause-found g c =
    let rows = g.R.Rows.rows c.args.rows.now in
    let old = g.R.Rows.rows c.loop-next.rows in
    let new = g.R.Rows.rows c.read_row.new.rows in
    let asked = c.args.asked.now in
    let same = g.R.Rows.read_same c.loop-next.rows c.read_row.new.rows c.read_row.ensures.read in
    let valid : AreRows asked.dbd new = subst (λ d. AreRows d new) (same.database ∙ c.loop-next.invariant.database) c.in_ok-row.ensures.valid in
    let before : IsAlong asked.dbd asked.ssas (option_copied c.args.place) c.args.mode (option_copied c.args.after) c.push.new.self rows old (Some c.in-Some.root) c.loop-next.needs =
    subst (λ next. IsAlong asked.dbd asked.ssas (option_copied c.args.place) c.args.mode (option_copied c.args.after) c.push.new.self rows old next c.loop-next.needs) c.in-Some.is c.loop-next.invariant.along in
    let here = along_read asked.dbd asked.ssas (option_copied c.args.place) c.args.mode (option_copied c.args.after) c.push.new.self rows old c.loop-next.needs c.in-Some.root before new valid same.rows.roots c.read_row.ensures.others in
    row_found asked.dbd asked.ssas (option_copied c.args.place) c.args.mode (option_copied c.args.after) c.push.new.self rows new c.loop-next.needs c.in-Some.root here c.in-Some-2.row
    (sym c.in_ok-row.ensures.found ∙ c.in-Some-2.is)

pub returns-in-Some-2-clause-stays : goal.returns-in-Some-2-clause-stays
returns-in-Some-2-clause-stays g c =
    let rows = g.R.Rows.rows c.args.rows.now in
    let old = g.R.Rows.rows c.loop-next.rows in
    let new = g.R.Rows.rows c.read_row.new.rows in
    let asked = c.args.asked.now in
    let same = g.R.Rows.read_same c.loop-next.rows c.read_row.new.rows c.read_row.ensures.read in
    let valid : AreRows asked.dbd new = subst (λ d. AreRows d new) (same.database ∙ c.loop-next.invariant.database) c.in_ok-row.ensures.valid in
    let before : IsAlong asked.dbd asked.ssas (option_copied c.args.place) c.args.mode (option_copied c.args.after) c.push.new.self rows old (Some c.in-Some.root) c.loop-next.needs =
    subst (λ next. IsAlong asked.dbd asked.ssas (option_copied c.args.place) c.args.mode (option_copied c.args.after) c.push.new.self rows old next c.loop-next.needs) c.in-Some.is c.loop-next.invariant.along in
    let here = along_read asked.dbd asked.ssas (option_copied c.args.place) c.args.mode (option_copied c.args.after) c.push.new.self rows old c.loop-next.needs c.in-Some.root before new valid same.rows.roots c.read_row.ensures.others in
    here.stays

pub returns-in-Some-2-clause-read : goal.returns-in-Some-2-clause-read
returns-in-Some-2-clause-read g c = g.R.Rows.read_on c.args.rows.now c.loop-next.rows c.read_row.new.rows c.loop-next.invariant.read c.read_row.ensures.read

pub loop-next-smaller : goal.loop-next-smaller
loop-next-smaller g c =
    let rows = g.R.Rows.rows c.args.rows.now in
    let old = g.R.Rows.rows c.loop-next.rows in
    let new = g.R.Rows.rows c.read_row.new.rows in
    let asked = c.args.asked.now in
    let same = g.R.Rows.read_same c.loop-next.rows c.read_row.new.rows c.read_row.ensures.read in
    let valid : AreRows asked.dbd new = subst (λ d. AreRows d new) (same.database ∙ c.loop-next.invariant.database) c.in_ok-row.ensures.valid in
    let less : length (keys_from c.next_root-next-in-Some.result (roots new)) < length (keys_from (Some c.in-Some.root) (roots new)) =
    subst (λ next. length (keys_from next (roots new)) < length (keys_from (Some c.in-Some.root) (roots new))) (sym c.next_root-next-in-Some.ensures.value)
    (fewer_keys asked.dbd new valid c.in-Some.root) in
    let back : length (keys_from c.next_root-next-in-Some.result (roots new)) < length (keys_from (Some c.in-Some.root) (roots old)) =
    subst (λ keys. length (keys_from c.next_root-next-in-Some.result (roots new)) < length (keys_from (Some c.in-Some.root) keys)) same.rows.roots less in
    subst (λ next. length (keys_from c.next_root-next-in-Some.result (roots new)) < length (keys_from next (roots old))) (sym c.in-Some.is) back

pub loop-next-preserved : goal.loop-next-preserved
loop-next-preserved g c =
    let rows = g.R.Rows.rows c.args.rows.now in
    let old = g.R.Rows.rows c.loop-next.rows in
    let new = g.R.Rows.rows c.read_row.new.rows in
    let asked = c.args.asked.now in
    let same = g.R.Rows.read_same c.loop-next.rows c.read_row.new.rows c.read_row.ensures.read in
    let valid : AreRows asked.dbd new = subst (λ d. AreRows d new) (same.database ∙ c.loop-next.invariant.database) c.in_ok-row.ensures.valid in
    let before : IsAlong asked.dbd asked.ssas (option_copied c.args.place) c.args.mode (option_copied c.args.after) c.push.new.self rows old (Some c.in-Some.root) c.loop-next.needs =
    subst (λ next. IsAlong asked.dbd asked.ssas (option_copied c.args.place) c.args.mode (option_copied c.args.after) c.push.new.self rows old next c.loop-next.needs) c.in-Some.is c.loop-next.invariant.along in
    let here = along_read asked.dbd asked.ssas (option_copied c.args.place) c.args.mode (option_copied c.args.after) c.push.new.self rows old c.loop-next.needs c.in-Some.root before new valid same.rows.roots c.read_row.ensures.others in
    record {
      along = subst (λ next. IsAlong asked.dbd asked.ssas (option_copied c.args.place) c.args.mode (option_copied c.args.after) c.push.new.self rows new next c.push-in-Some.new.self)
          (sym c.next_root-next-in-Some.ensures.value)
          (none_goes asked.dbd asked.ssas (option_copied c.args.place) c.args.mode (option_copied c.args.after) c.push.new.self rows new c.loop-next.needs c.in-Some.root here c.push-in-Some.new.self
          (c.in_ok-push-2.ensures.ok ∙ ap (λ need. c.loop-next.needs ++ need ∷ []) c.record_need.ensures)
          (sym c.in_ok-row.ensures.found ∙ c.in_default-2.is));
      database = same.database ∙ c.loop-next.invariant.database;
      read = g.R.Rows.read_on c.args.rows.now c.loop-next.rows c.read_row.new.rows c.loop-next.invariant.read c.read_row.ensures.read;
    }

pub returns-clause-named : goal.returns-clause-named
returns-clause-named g c =
    let rows = g.R.Rows.rows c.args.rows.now in
    let new = g.R.Rows.rows c.loop-next.rows in
    let asked = c.args.asked.now in
    let before : IsAlong asked.dbd asked.ssas (option_copied c.args.place) c.args.mode (option_copied c.args.after) c.push.new.self rows new None c.loop-next.needs =
    subst (λ next. IsAlong asked.dbd asked.ssas (option_copied c.args.place) c.args.mode (option_copied c.args.after) c.push.new.self rows new next c.loop-next.needs) c.in_default.is c.loop-next.invariant.along in
    none_named asked.dbd asked.ssas (option_copied c.args.place) c.args.mode (option_copied c.args.after) c.push.new.self rows new c.loop-next.needs before
    ∙ after_sequence c.args.needs.now c.push.new.self (walk (next_fits asked.dbd asked.ssas (option_copied c.args.place)) c.args.mode new (keys_behind (option_copied c.args.after) (roots new)))
    (c.in_ok-push.ensures.ok ∙ ap (λ need. c.args.needs.now ++ need ∷ []) c.sequence_need.ensures)

pub returns-clause-found : goal.returns-clause-found
returns-clause-found g c =
    let rows = g.R.Rows.rows c.args.rows.now in
    let new = g.R.Rows.rows c.loop-next.rows in
    let asked = c.args.asked.now in
    let before : IsAlong asked.dbd asked.ssas (option_copied c.args.place) c.args.mode (option_copied c.args.after) c.push.new.self rows new None c.loop-next.needs =
    subst (λ next. IsAlong asked.dbd asked.ssas (option_copied c.args.place) c.args.mode (option_copied c.args.after) c.push.new.self rows new next c.loop-next.needs) c.in_default.is c.loop-next.invariant.along in
    none_found asked.dbd asked.ssas (option_copied c.args.place) c.args.mode (option_copied c.args.after) c.push.new.self rows new c.loop-next.needs before
