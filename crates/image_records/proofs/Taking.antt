-- One record after another is taken over.
use Rattle.std.proofs.Common.{◌≡◌, Bool, true, false, cond, List, [], ◌∷◌, ◌++◌, sym, ◌∙◌, ap, append_assoc}
use Rattle.std.specs.Prelude.{filter}
use Rattle.std.proofs.lemmas.List.{append-nil}
use Rattle.model_machine.specs.Machine.{LastingState}
use Rattle.log_records.specs.declared.record.Record.{Record}
use Rattle.model_image.specs.Snapshot.{with_record_told, with_records_told}
use Rattle.image_records.specs.ChangeRecords.{tells_change}

filter_more : (r : Record) (done rest : List Record) → (done ++ filter tells_change (r ∷ [])) ++ filter tells_change rest ≡ done ++ filter tells_change (r ∷ rest)
filter_more r done rest = by (tells_change r) where
  by : (b : Bool) → (done ++ cond b (r ∷ []) []) ++ filter tells_change rest ≡ done ++ cond b (r ∷ filter tells_change rest) (filter tells_change rest)
  by true = append_assoc done (r ∷ []) (filter tells_change rest)
  by false = append_assoc done [] (filter tells_change rest)

pub changes_more : (r : Record) (rest old new all : List Record) → new ≡ old ++ filter tells_change (r ∷ []) → old ++ filter tells_change (r ∷ rest) ≡ all → new ++ filter tells_change rest ≡ all
changes_more r rest old new all is so = ap (λ (l : List Record). l ++ filter tells_change rest) is ∙ filter_more r old rest ∙ so

pub changes_all : (rest now all : List Record) → rest ≡ [] → now ++ filter tells_change rest ≡ all → now ≡ all
changes_all rest now all none so = sym (append-nil now) ∙ ap (λ (l : List Record). now ++ filter tells_change l) (sym none) ∙ so

pub told_more : (r : Record) (rest : List Record) (old new all : LastingState) → new ≡ with_record_told r old → with_records_told (r ∷ rest) old ≡ all → with_records_told rest new ≡ all
told_more r rest old new all is so = ap (with_records_told rest) is ∙ so

pub told_all : (rest : List Record) (now all : LastingState) → rest ≡ [] → with_records_told rest now ≡ all → now ≡ all
told_all rest now all none so = ap (λ (l : List Record). with_records_told l now) (sym none) ∙ so

pub ruleset taking_steps = (changes_more, changes_all, told_more, told_all)
