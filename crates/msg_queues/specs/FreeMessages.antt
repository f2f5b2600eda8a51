-- Messages that no region has.
use Rattle.std.specs.Prelude.{ℕ, ◌+◌, Bool, List, [], ◌∷◌, Option, Some, None}
use Rattle.std.specs.List.{list_any}
use Rattle.std.specs.Option.{is_none}
use Rattle.model_messages.specs.declared.queued.Queued.{Queued}

-- there is one
abbrev pub any_free : List Queued → Bool
any_free queued = list_any (λ q. is_none q.holder) queued

-- how many a message with this holder counts
abbrev pub free_weight : Option ℕ → ℕ
free_weight None = 1
free_weight (Some region) = 0

-- how many there are
abbrev pub free_total : List Queued → ℕ
free_total [] = 0
free_total (q ∷ queued) = free_weight q.holder + free_total queued
