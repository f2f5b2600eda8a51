-- The generator of the workload, and what a transfer is drawn as.
use Rattle.std.specs.Prelude.{ℕ, zero, suc, ◌+◌, ◌%◌, List, [], ◌∷◌, ◌++◌, codes, decimal}
use Rattle.rand_core.specs.Pcg32Seed.{pcg32_seed}
use Rattle.rand_pcg.specs.Lcg.{Lcg}
use Rattle.rand_pcg.specs.Pcg.{pcg32, pcg32_of_seed}
use Rattle.tm_types.specs.Digits.{four_digits}

-- the generator that this seed gives
unfoldable pub seeded : ℕ → Lcg
seeded seed = pcg32_of_seed (pcg32_seed 16 seed)

-- the word of 32 bits that is drawn next, and the generator behind it
unfoldable pub drawn_word : Lcg → ℕ
drawn_word generator = (pcg32 generator).0

unfoldable pub moved : Lcg → Lcg
moved generator = (pcg32 generator).1

-- an account, and a blank
unfoldable pub account : ℕ → List ℕ
account number = four_digits number ++ codes " "

-- this much is moved from one account to another
unfoldable pub transfer_of : ℕ → ℕ → ℕ → List ℕ
transfer_of from to amount =
    codes "XFER " ++ account from ++ account to ++ decimal amount

-- a transfer takes three words, one after another: the first says which of 100 accounts gives, the second
-- which takes, the third how much it is, from 1 to 9
unfoldable pub transfer_text : Lcg → List ℕ
transfer_text generator =
    transfer_of (1 + drawn_word generator % 100) (1 + drawn_word (moved generator) % 100) (1 + drawn_word (moved (moved generator)) % 9)

-- the generator behind a transfer
unfoldable pub behind_transfer : Lcg → Lcg
behind_transfer generator = moved (moved (moved generator))

-- the generator before each of so many transfers
unfoldable pub states : ℕ → Lcg → List Lcg
states zero generator = []
states (suc count) generator = generator ∷ states count (behind_transfer generator)
