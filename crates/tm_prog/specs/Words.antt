-- The words that the program is called with.
use Rattle.std.specs.Prelude.{◌≡◌, ℕ, suc, ⊤, if◌then◌else◌, Option, Some, None, List, [], ◌∷◌, codes}
use Rattle.std.specs.Option.{is_some, unwrap_or}
use Rattle.std.specs.Str.{bytes_eq}
use Rattle.model_session.specs.Numbers.{number_in}
use Rattle.tm_prog.specs.declared.words.DiskWords.{DiskWords}
use Rattle.tm_prog.specs.declared.words.DiskWords.TheVariants.{InMemory, InFile}
use Rattle.tm_prog.specs.declared.words.Workload.{Workload}

-- a word that breaks a rule: its number, counted from 1, and the rule
pub record WordFault : Type 0 where
  pub word : ℕ
  pub rule : ℕ

abbrev pub fault_at : ℕ → ℕ → Option WordFault
fault_at word rule = Some (record { word = word; rule = rule })

-- The words are `drill MEM n`, `drill FILE path n` or `workload seed n`. Rule 1: an unknown command, or a word that is neither
-- MEM nor FILE where one of them must stand; rule 2: a word is missing; rule 3: a word is too many; rule 4: no number in its
-- range. Of sectors there are 1 to 65,536, of transfers 1 to 10,000, and a seed is any number of 64 bits. The first word that
-- breaks a rule counts.
abbrev pub sectors_in : List ℕ → Option ℕ
sectors_in word = number_in 1 65536 word

abbrev pub more_fault : ℕ → List (List ℕ) → Option WordFault
more_fault number [] = None
more_fault number (word ∷ words) = fault_at number 3

abbrev pub size_fault : ℕ → List (List ℕ) → Option WordFault
size_fault number [] = fault_at number 2
size_fault number (word ∷ words) = if is_some (sectors_in word) then more_fault (suc number) words else fault_at number 4

abbrev pub path_fault : List (List ℕ) → Option WordFault
path_fault [] = fault_at 3 2
path_fault (path ∷ words) = size_fault 4 words

abbrev pub disk_fault : List (List ℕ) → Option WordFault
disk_fault [] = fault_at 2 2
disk_fault (kind ∷ words) =
    if bytes_eq kind (codes "MEM") then size_fault 3 words
    else if bytes_eq kind (codes "FILE") then path_fault words else fault_at 2 1

abbrev pub seed_in : List ℕ → Option ℕ
seed_in word = number_in 0 18446744073709551615 word

abbrev pub transfers_in : List ℕ → Option ℕ
transfers_in word = number_in 1 10000 word

abbrev pub transfers_fault : List (List ℕ) → Option WordFault
transfers_fault [] = fault_at 3 2
transfers_fault (transfers ∷ words) = if is_some (transfers_in transfers) then more_fault 4 words else fault_at 3 4

abbrev pub workload_fault : List (List ℕ) → Option WordFault
workload_fault [] = fault_at 2 2
workload_fault (seed ∷ words) = if is_some (seed_in seed) then transfers_fault words else fault_at 2 4

abbrev pub word_fault : List (List ℕ) → Option WordFault
word_fault [] = fault_at 1 2
word_fault (command ∷ words) =
    if bytes_eq command (codes "drill") then disk_fault words
    else if bytes_eq command (codes "workload") then workload_fault words else fault_at 1 1

-- the word fault as a pair
abbrev pub FaultIs : Option WordFault → Option (ℕ × ℕ) → Type 0
FaultIs (Some fault) (Some pair) = (pair.0 ≡ fault.word) × (pair.1 ≡ fault.rule)
FaultIs None None = ⊤
FaultIs (Some fault) None = ⊥
FaultIs None (Some pair) = ⊥

-- ---- a workload

-- the workload that the words ask for, if they ask for one
abbrev pub workload_by : Option ℕ → Option ℕ → Option Workload
workload_by (Some seed) (Some transfers) = Some (record { seed = seed; transfers = transfers })
workload_by _ _ = None

abbrev pub workload_of : List (List ℕ) → Option Workload
workload_of (command ∷ seed ∷ transfers ∷ []) =
    if bytes_eq command (codes "workload") then workload_by (seed_in seed) (transfers_in transfers) else None
workload_of _ = None

-- ---- the disk

abbrev pub sectors_word : List ℕ → ℕ
sectors_word word = unwrap_or (sectors_in word) 0

-- one in memory with so many sectors, or the file that the third word names
abbrev pub disk_in : List (List ℕ) → DiskWords
disk_in (command ∷ kind ∷ size ∷ []) = InMemory (sectors_word size)
disk_in (command ∷ kind ∷ path ∷ size ∷ words) = InFile (sectors_word size)
disk_in _ = InMemory 0

-- that of a workload has 16,384 sectors in memory
abbrev pub disk_for : Option Workload → List (List ℕ) → DiskWords
disk_for (Some workload) words = InMemory 16384
disk_for None words = disk_in words

-- the disk that the words ask for; words that break a rule get one without a sector
abbrev pub disk_by : Option WordFault → List (List ℕ) → DiskWords
disk_by None words = disk_for (workload_of words) words
disk_by (Some fault) words = InMemory 0
