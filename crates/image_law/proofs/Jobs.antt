-- The job of a code of a system keeps the limits of all codes, and its PCBs send to receivers.
use Rattle.std.proofs.Common.{◌≡◌, ◌+◌, ◌⊎◌, inl, inr, ℕ, Bool, true, false, ◌||◌, List, [], ◌∷◌, find, position, Option, Some, None, IsSome, IfSome, All, refl, subst, arith}
use Rattle.std.specs.Prelude.{if◌then◌else◌, ◌==◌}
use Rattle.std.specs.List.{list_all, list_any, position_from}
use Rattle.std.specs.Option.{option_map, option_map_or, option_and_then}
use Rattle.std.specs.Str.{bytes_eq}
use Rattle.std.proofs.lemmas.Bool.Decides.{nat_tests}
use Rattle.std.proofs.lemmas.Iterator.Adapters.{position_from-zero}
use Rattle.std.proofs.lemmas.List.Elements.{All-head, All-tail}
use Rattle.model_system.specs.declared.code.Code.{Code}
use Rattle.model_system.specs.declared.pcb.Pcb.{Pcb}
use Rattle.model_system.specs.declared.pcb.Pcb.TheVariants.{Database, Destination, Modifiable}
use Rattle.model_system.specs.declared.system_program.SystemProgram.{SystemProgram}
use Rattle.model_system.specs.Codes.{code_at}
use Rattle.model_system.specs.Jobs.{Job, job_by, job_of, job_with, program_at}
use Rattle.model_system.specs.System.{System}
use Rattle.model_image.specs.States.{is_system_terminal, is_system_code}
use Rattle.system_types.specs.Definitions.{IsTransaction}
use Rattle.system_types.specs.ValidSystem.{IsKnownTo, IsSentTo, IsSystem}
use Rattle.image_law.specs.StepNeeds.{takes_switched}
use Rattle.image_law.specs.SentMessages.{sends_well}
use Rattle.image_law.proofs.Trials.{IsJob}
use Rattle.tm_types.proofs.Truths.{both}

-- what holds of all holds of what is found
pub found_holds : {X : Type 0} (P : X → Type 0) (test : X → Bool) (xs : List X) (x : X) → All P xs → find test xs ≡ Some x → P x
found_holds P test [] x all e = cc
found_holds {X} P test (y ∷ xs) x all e = by (test y) (λ f. found_holds P test xs x (All-tail P y xs all) f) e where
  by : (b : Bool) → (find test xs ≡ Some x → P x) → (if b then Some y else find test xs) ≡ Some x → P x
  by true later f = let same : y ≡ x = cc in subst P same (All-head P y xs all)
  by false later f = later f

-- a name that has a place is one of the names
placed_from : (names : List (List ℕ)) (name : List ℕ) (start : ℕ) → IsSome (position_from (λ other. bytes_eq other name) start names) → list_any (λ other. bytes_eq other name) names ≡ true
placed_from [] name start some = cc
placed_from (other ∷ names) name start some = by (bytes_eq other name) (λ s. placed_from names name (start + 1) s) some where
  by : (b : Bool) → (IsSome (position_from (λ (o : List ℕ). bytes_eq o name) (start + 1) names) → list_any (λ (o : List ℕ). bytes_eq o name) names ≡ true)
      → IsSome (if b then Some start else position_from (λ (o : List ℕ). bytes_eq o name) (start + 1) names) → (b || list_any (λ (o : List ℕ). bytes_eq o name) names) ≡ true
  by true later s = refl
  by false later s = later s

placed : (names : List (List ℕ)) (name : List ℕ) → IsSome (position (λ other. bytes_eq other name) names) → list_any (λ other. bytes_eq other name) names ≡ true
placed names name some = placed_from names name 0 (subst IsSome (position_from-zero (λ other. bytes_eq other name) names) some)

or_one : (a b : Bool) → (a ≡ true) ⊎ (b ≡ true) → (a || b) ≡ true
or_one true b h = refl
or_one false b (inl h) = cc
or_one false b (inr h) = h

switched_by : (found : Option Code) → IsSome found → IfSome found (λ code. code.transaction.scratch_pad ≡ 0) → option_map_or (λ code. code.transaction.scratch_pad == 0) found true ≡ true
switched_by None some none = refl
switched_by (Some code) some none = grind (arith, nat_tests, none)

pcb_sends : (system : System) (pcb : Pcb) → IsKnownTo system.terminals system.codes pcb → IsSentTo system.codes pcb → sends_well system pcb ≡ true
pcb_sends system (Destination name) known none = or_one (is_system_terminal system name) (takes_switched system name) (by known) where
  by : IsSome (position (λ other. bytes_eq other name) system.terminals) ⊎ IsSome (code_at system.codes name) → (is_system_terminal system name ≡ true) ⊎ (takes_switched system name ≡ true)
  by (inl some) = inl (placed system.terminals name some)
  by (inr some) =
      inr (both (is_system_code system name) (option_map_or (λ code. code.transaction.scratch_pad == 0) (code_at system.codes name) true) some (switched_by (code_at system.codes name) some none))
pcb_sends system (Database number options) known none = refl
pcb_sends system Modifiable known none = refl

pcbs_send : (system : System) (pcbs : List Pcb) → All (IsKnownTo system.terminals system.codes) pcbs → All (IsSentTo system.codes) pcbs → list_all (sends_well system) pcbs ≡ true
pcbs_send system [] known none = refl
pcbs_send system (pcb ∷ pcbs) known none =
    both (sends_well system pcb) (list_all (sends_well system) pcbs)
    (pcb_sends system pcb (All-head (IsKnownTo system.terminals system.codes) pcb pcbs known) (All-head (IsSentTo system.codes) pcb pcbs none))
    (pcbs_send system pcbs (All-tail (IsKnownTo system.terminals system.codes) pcb pcbs known) (All-tail (IsSentTo system.codes) pcb pcbs none))

-- a job that is found is one of the system
pub record IsJobOf (system : System) (job : Job) : Type 0 where
  pub same : job.system ≡ system
  pub is_job : IsJob job

pub job_found : (system : System) (name : List ℕ) (job : Job) → IsSystem system → job_of system name ≡ Some job → IsJobOf system job
job_found system name job valid e = by_code (code_at system.codes name) refl e where
  by_program : (code : Code) → IsTransaction code.transaction → (found : Option SystemProgram) → program_at system.programs code.psb ≡ found → option_map (job_with system code) found ≡ Some job → IsJobOf system job
  by_program code its None f g = cc
  by_program code its (Some program) f g =
      let same : job_with system code program ≡ job = cc in
      subst (IsJobOf system) same (record {
        same = refl;
        is_job = record {
          size = its.segment_size;
          count = its.segment_count;
          pcbs = pcbs_send system program.pcbs
              (found_holds (λ p. All (IsKnownTo system.terminals system.codes) p.pcbs) (λ p. bytes_eq p.psb code.psb) system.programs program valid.receivers f)
              (found_holds (λ p. All (IsSentTo system.codes) p.pcbs) (λ p. bytes_eq p.psb code.psb) system.programs program valid.destinations f);
        };
      })

  by_code : (found : Option Code) → code_at system.codes name ≡ found → option_and_then (job_by system) found ≡ Some job → IsJobOf system job
  by_code None f g = cc
  by_code (Some code) f g =
      by_program code (found_holds (λ c. IsTransaction c.transaction) (λ c. bytes_eq c.transaction.code name) system.codes code valid.transactions f) (program_at system.programs code.psb) refl g
