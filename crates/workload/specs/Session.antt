-- The session of the workload: what is sent, and how its replies are taken.
use Rattle.std.specs.Prelude.{ℕ, zero, suc, ◌+◌, ◌-◌, ◌%◌, List, [], ◌∷◌, ◌++◌, Bool, ◌||◌, ◌==◌, if◌then◌else◌, map, codes, decimal}
use Rattle.std.specs.List.{flat_map}
use Rattle.rand_pcg.specs.Lcg.{Lcg}
use Rattle.workload.specs.Draws.{account, transfer_text, states}

-- so many numbers, one after another, from this one on
unfoldable pub numbers : ℕ → ℕ → List ℕ
numbers first zero = []
numbers first (suc count) = first ∷ numbers (first + 1) count

-- an input of a terminal under its number
unfoldable pub input_head : List ℕ → ℕ → List ℕ
input_head terminal number = codes "IN " ++ terminal ++ codes " " ++ decimal number ++ codes " "

unfoldable pub input_line : List ℕ → ℕ → List ℕ → List ℕ
input_line terminal number text = input_head terminal number ++ text ++ codes "\n"

-- a reply is shown, and acknowledged under its number
unfoldable pub reply_lines : List ℕ → ℕ → List ℕ
reply_lines terminal number =
    codes "RECV " ++ terminal ++ codes "\nACK " ++ terminal ++ codes " " ++ decimal number ++ codes "\n"

-- the replies of these numbers are taken: from `first` on, up to the one before `past`
unfoldable pub reply_requests : List ℕ → ℕ → ℕ → List ℕ
reply_requests terminal first past = flat_map (reply_lines terminal) (numbers first (past - first))

-- 50 inputs are a block; the last block may be shorter
unfoldable pub ends_block : ℕ → ℕ → Bool
ends_block count number = number % 50 == 0 || number == count

-- the first input of the block that this one is in
unfoldable pub first_of_block : ℕ → ℕ
first_of_block number = number - (number - 1) % 50

-- what stands behind an input, `count` being the last: where it ends its block, the regions take their turns
-- until nothing is left to do, and the replies to the block's inputs are taken
unfoldable pub behind_input : List ℕ → ℕ → ℕ → List ℕ
behind_input terminal count number =
    if ends_block count number
    then codes "QUIET 1000000\n" ++ reply_requests terminal (first_of_block number) (number + 1)
    else []

-- these texts are sent from a terminal under the numbers from this one on, `count` being the last
unfoldable pub input_requests : List ℕ → ℕ → ℕ → List (List ℕ) → List ℕ
input_requests terminal count number [] = []
input_requests terminal count number (text ∷ texts) =
    (input_line terminal number text ++ behind_input terminal count number)
    ++ input_requests terminal count (number + 1) texts

-- an account is opened with 1000
unfoldable pub opening_text : ℕ → List ℕ
opening_text number = codes "OPEN " ++ account number ++ codes "1000"

-- T9 opens the accounts up to `count`
unfoldable pub openings : ℕ → List ℕ
openings count = input_requests (codes "T9") count 1 (map opening_text (numbers 1 count))

-- T1 sends so many transfers, drawn from this generator on
unfoldable pub transfers : Lcg → ℕ → List ℕ
transfers generator count = input_requests (codes "T1") count 1 (map transfer_text (states count generator))
