-- What serves a code, by the places that are kept.
use Rattle.std.proofs.Common.{◌≡◌, ℕ, List, [], ◌∷◌, map, find, slice_get, Bool, true, false, cond, Bor, Option, Some, None, IsSome, IfSome, All, refl, sym, ap, ◌∙◌}
use Rattle.std.specs.Option.{option_and_then, option_copied, option_map}
use Rattle.std.specs.Str.{bytes_eq}
use Rattle.std.proofs.lemmas.List.Elements.{All-head, All-tail}
use Rattle.std.proofs.lemmas.List.Folds.{find_at}
use Rattle.std.proofs.lemmas.Option.{slice_get-map}
use Rattle.model_system.specs.declared.code.Code.{Code}
use Rattle.model_system.specs.declared.system_program.SystemProgram.{SystemProgram}
use Rattle.model_system.specs.Codes.{code_at, code_place}
use Rattle.model_system.specs.Jobs.{job_by, job_of, job_with, program_at}
use Rattle.model_system.specs.System.{System}
use Rattle.system_types.specs.declared.job.Job.{Job}
use Rattle.system_types.specs.Indexes.{has_program_name, program_place}
use Rattle.system_types.specs.Jobs.{lent_job}
use Rattle.system_types.specs.ValidSystem.{IsPadLength, IsSentTo, IsServable, IsSystem}
use Rattle.system_types.proofs.Indexed.{found_at}

place_of : (programs : List SystemProgram) (places : List ℕ) (codes : List Code) (place : Option ℕ) → places ≡ map (program_place programs) codes
    → option_and_then (slice_get places) place ≡ option_map (program_place programs) (option_and_then (slice_get codes) place)
place_of programs places codes None e = refl
place_of programs places codes (Some place) e = rw e (slice_get-map (program_place programs) codes place)

program_of : (programs : List SystemProgram) (found : Option Code)
    → option_and_then (slice_get programs) (option_map (program_place programs) found) ≡ option_and_then (λ code. program_at programs code.psb) found
program_of programs None = refl
program_of programs (Some code) = sym (find_at (has_program_name code.psb) programs)

job_of_code : (system : System) (found : Option Code)
    → option_and_then (λ code. option_map (job_with system code) (option_and_then (λ c. program_at system.programs c.psb) found)) found ≡ option_and_then (job_by system) found
job_of_code system None = refl
job_of_code system (Some code) = refl

-- a code and the program at its place are the job of the code
pub job_is : (system : System) (name places : List ℕ) → places ≡ map (program_place system.programs) system.codes
    → option_and_then (λ code. option_map (job_with system code) (option_and_then (slice_get system.programs) (option_and_then (slice_get places) (code_place system.codes name))))
    (option_and_then (slice_get system.codes) (code_place system.codes name))
    ≡ job_of system name
job_is system name places e =
    let place = code_place system.codes name in
    let found = option_and_then (slice_get system.codes) place in
    let program = ap (λ o. option_and_then (slice_get system.programs) o) (place_of system.programs places system.codes place e) ∙ program_of system.programs found in
    ap (λ p. option_and_then (λ code. option_map (job_with system code) p) found) program ∙ job_of_code system found
    ∙ ap (λ o. option_and_then (job_by system) o) (found_at (λ code. bytes_eq code.transaction.code name) system.codes)

some_program : (system : System) (code : Code) (program : Option SystemProgram) → IsSome program → IsSome (option_map (job_with system code) program)
some_program system code (Some program) h = h
some_program system code None h = h

some_by : (b : Bool) (system : System) (p : Code → Bool) (code : Code) (codes : List Code) → IsSome (program_at system.programs code.psb)
    → (IsSome (find p codes) → IsSome (option_and_then (job_by system) (find p codes)))
    → IsSome (cond b (Some code) (find p codes)) → IsSome (option_and_then (job_by system) (cond b (Some code) (find p codes)))
some_by true system p code codes served rest h = some_program system code (program_at system.programs code.psb) served
some_by false system p code codes served rest h = rest h

served_at : (system : System) (p : Code → Bool) (codes : List Code) → All (λ code. IsSome (program_at system.programs code.psb)) codes
    → IsSome (find p codes) → IsSome (option_and_then (job_by system) (find p codes))
served_at system p [] served h = h
served_at system p (code ∷ codes) served h =
    some_by (p code) system p code codes (All-head (λ c. IsSome (program_at system.programs c.psb)) code codes served)
    (served_at system p codes (All-tail (λ c. IsSome (program_at system.programs c.psb)) code codes served)) h

lent_by : (system : System) (lent : Option Job) → IsSome (option_map (lent_job system) lent) → IsSome lent
lent_by system (Some job) h = h
lent_by system None h = h

-- where each code has a program, a code that is there has a job
pub is_lent : (system : System) (name : List ℕ) (lent : Option Job) → All (λ code. IsSome (program_at system.programs code.psb)) system.codes
    → option_map (lent_job system) lent ≡ job_of system name → IsSome (code_at system.codes name) → IsSome lent
is_lent system name lent served e there =
    lent_by system lent (rw e (served_at system (λ code. bytes_eq code.transaction.code name) system.codes served there))

-- the same step by step
pub job_by_places : (system : System) (name places : List ℕ) (lent : Option Job) (code : Option Code) (program : Option SystemProgram) (place : Option ℕ)
    → places ≡ map (program_place system.programs) system.codes
    → place ≡ code_place system.codes name
    → code ≡ option_and_then (slice_get system.codes) place
    → program ≡ option_and_then (slice_get system.programs) (option_and_then (slice_get places) place)
    → option_map (lent_job system) lent ≡ option_and_then (λ c. option_map (job_with system c) program) code
    → option_map (lent_job system) lent ≡ job_of system name
job_by_places system name places lent code program place e at here its made =
    made ∙ rw (here, its, at) (job_is system name places e)

found_by : {X : Type 0} (P : X → Type 0) (b : Bool) (x : X) (found : Option X) → P x → IfSome found P → IfSome (cond b (Some x) found) P
found_by P true x found h rest = h
found_by P false x found h rest = rest

-- what holds of each element holds of the one that is found
found_holds : {X : Type 0} (P : X → Type 0) (p : X → Bool) (xs : List X) → All P xs → IfSome (find p xs) P
found_holds P p [] h = tt
found_holds P p (x ∷ xs) h = found_by P (p x) x (find p xs) (All-head P x xs h) (found_holds P p xs (All-tail P x xs h))

serves_by : (system : System) (code : Code) (program : Option SystemProgram) → IfSome program (λ p. IsServable system.databases p.pcbs p.program)
    → IfSome (option_map (job_with system code) program) (λ job. IsServable system.databases job.pcbs job.lines)
serves_by system code (Some program) h = h
serves_by system code None h = h

serves_code : (system : System) (code : Option Code) → IsSystem system → IfSome (option_and_then (job_by system) code) (λ job. IsServable system.databases job.pcbs job.lines)
serves_code system None valid = tt
serves_code system (Some code) valid =
    serves_by system code (program_at system.programs code.psb)
    (found_holds (λ p. IsServable system.databases p.pcbs p.program) (has_program_name code.psb) system.programs valid.programs)

-- the calls of a job's script are those of its PCBs
pub job_serves : (system : System) (name : List ℕ) → IsSystem system → IfSome (job_of system name) (λ job. IsServable system.databases job.pcbs job.lines)
job_serves system name valid = serves_code system (code_at system.codes name) valid

lent_serves_by : (system : System) (lent : Option Job) → IfSome (option_map (lent_job system) lent) (λ job. IsServable system.databases job.pcbs job.lines)
    → IfSome lent (λ job. IsServable system.databases job.pcbs.now job.program.now)
lent_serves_by system (Some job) h = h
lent_serves_by system None h = h

pub lent_serves : (system : System) (name : List ℕ) (lent : Option Job) → IsSystem system → option_map (lent_job system) lent ≡ job_of system name
    → IfSome lent (λ job. IsServable system.databases job.pcbs.now job.program.now)
lent_serves system name lent valid e = lent_serves_by system lent (rw e (job_serves system name valid))

-- the PCBs of a job send to no code with conversations
sent_by : (system : System) (code : Code) (program : Option SystemProgram) → IfSome program (λ p. All (IsSentTo system.codes) p.pcbs)
    → IfSome (option_map (job_with system code) program) (λ job. All (IsSentTo system.codes) job.pcbs)
sent_by system code (Some program) h = h
sent_by system code None h = h

sent_code : (system : System) (code : Option Code) → IsSystem system → IfSome (option_and_then (job_by system) code) (λ job. All (IsSentTo system.codes) job.pcbs)
sent_code system None valid = tt
sent_code system (Some code) valid =
    sent_by system code (program_at system.programs code.psb)
    (found_holds (λ p. All (IsSentTo system.codes) p.pcbs) (has_program_name code.psb) system.programs valid.destinations)

lent_sent_by : (system : System) (lent : Option Job) → IfSome (option_map (lent_job system) lent) (λ job. All (IsSentTo system.codes) job.pcbs)
    → IfSome lent (λ job. All (IsSentTo system.codes) job.pcbs.now)
lent_sent_by system (Some job) h = h
lent_sent_by system None h = h

pub lent_sent : (system : System) (name : List ℕ) (lent : Option Job) → IsSystem system → option_map (lent_job system) lent ≡ job_of system name
    → IfSome lent (λ job. All (IsSentTo system.codes) job.pcbs.now)
lent_sent system name lent valid e = lent_sent_by system lent (rw e (sent_code system (code_at system.codes name) valid))

-- the scratch pad of a code that is found has a length that it may have
padded_at : (system : System) (name : List ℕ) → IsSystem system → IfSome (code_at system.codes name) (λ code. IsPadLength code.transaction.scratch_pad)
padded_at system name valid =
    found_holds (λ code. IsPadLength code.transaction.scratch_pad) (λ code. bytes_eq code.transaction.code name) system.codes valid.pads

copied_by : (lent : Option (Bor Code)) → IfSome (option_copied lent) (λ code. IsPadLength code.transaction.scratch_pad) → IfSome lent (λ code. IsPadLength code.now.transaction.scratch_pad)
copied_by (Some code) h = h
copied_by None h = h

pub code_padded : (system : System) (name : List ℕ) (lent : Option (Bor Code)) → IsSystem system → option_copied lent ≡ code_at system.codes name
    → IfSome lent (λ code. IsPadLength code.now.transaction.scratch_pad)
code_padded system name lent valid e = copied_by lent (rw e (padded_at system name valid))

padded_by : (system : System) (code : Code) (program : Option SystemProgram) → IsPadLength code.transaction.scratch_pad
    → IfSome (option_map (job_with system code) program) (λ job. IsPadLength job.transaction.scratch_pad)
padded_by system code (Some program) h = h
padded_by system code None h = tt

padded_code : (system : System) (code : Option Code) → IfSome code (λ c. IsPadLength c.transaction.scratch_pad)
    → IfSome (option_and_then (job_by system) code) (λ job. IsPadLength job.transaction.scratch_pad)
padded_code system None h = tt
padded_code system (Some code) h = padded_by system code (program_at system.programs code.psb) h

lent_padded_by : (system : System) (lent : Option Job) → IfSome (option_map (lent_job system) lent) (λ job. IsPadLength job.transaction.scratch_pad)
    → IfSome lent (λ job. IsPadLength job.transaction.now.scratch_pad)
lent_padded_by system (Some job) h = h
lent_padded_by system None h = h

pub lent_padded : (system : System) (name : List ℕ) (lent : Option Job) → IsSystem system → option_map (lent_job system) lent ≡ job_of system name
    → IfSome lent (λ job. IsPadLength job.transaction.now.scratch_pad)
lent_padded system name lent valid e = lent_padded_by system lent (rw e (padded_code system (code_at system.codes name) (padded_at system name valid)))
