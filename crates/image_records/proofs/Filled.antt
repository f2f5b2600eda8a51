-- Queues are filled with messages whose ids ascend.
use Rattle.std.proofs.Common.{◌≡◌, ℕ, ◌+◌, ◌<◌, ◌≤◌, ◌++◌, ◌∷◌, [], List, refl, sym, ◌∙◌, ap, subst, arith, true, append_assoc}
use Rattle.std.specs.Prelude.{map, nat_lt}
use Rattle.std.proofs.lemmas.Bool.{ltb-true, and_parts}
use Rattle.std.proofs.lemmas.List.{append-nil}
use Rattle.std.proofs.lemmas.List.Sums.{sum_by-cons}
use Rattle.tm_types.specs.declared.message.Message.{Message}
use Rattle.model_messages.specs.Queue.{QueuesState, IsNewId, messages_of, with_message}
use Rattle.model_messages.specs.Room.{message_bytes, messages_bytes}
use Rattle.model_image.specs.States.{ascend_below}
use Rattle.image_records.specs.KeptState.{free_message}

-- these are those that were added, and those that are still to be
pub record IsFilled (limit : ℕ) (all rest : List Message) (queues : QueuesState) : Type 0 where
  pub done : List Message
  pub whole : done ++ rest ≡ all
  pub is : queues ≡ record { limit = limit; queued = map free_message done }

pub filled_none : (limit : ℕ) (all : List Message) (queues : QueuesState) → queues.limit ≡ limit → queues.queued ≡ [] → IsFilled limit all all queues
filled_none limit all queues limited none = record {
  done = [];
  whole = refl;
  is = (λ i. record { limit = limited i; queued = none i });
}

map_more : (done : List Message) (m : Message) → map free_message (done ++ m ∷ []) ≡ map free_message done ++ free_message m ∷ []
map_more [] m = refl
map_more (x ∷ done) m = ap (λ l. free_message x ∷ l) (map_more done m)

pub filled_more : (limit : ℕ) (all rest : List Message) (m : Message) (old new : QueuesState) → IsFilled limit all (m ∷ rest) old → new ≡ record old { queued = with_message m old.queued } → IsFilled limit all rest new
filled_more limit all rest m old new filled is = record {
  done = filled.done ++ m ∷ [];
  whole = append_assoc filled.done (m ∷ []) rest ∙ filled.whole;
  is =
      is
      ∙ ap {A = QueuesState} {B = QueuesState} (λ (q : QueuesState). record q { queued = with_message m q.queued }) filled.is
      ∙ ap (λ l. record { limit = limit; queued = l }) (sym (map_more filled.done m));
}

-- an id is below those behind it
below_later : (next : ℕ) (x : Message) (done : List Message) (m : Message) (rest : List Message) → ascend_below next (x ∷ done ++ m ∷ rest) ≡ true → x.id < m.id
below_later next x [] m rest e = ltb-true x.id m.id ((and_parts (nat_lt x.id m.id) (ascend_below next (m ∷ rest)) e).0)
below_later next x (y ∷ done) m rest e =
    omega (
      arith,
      ltb-true x.id y.id ((and_parts (nat_lt x.id y.id) (ascend_below next (y ∷ done ++ m ∷ rest)) e).0),
      below_later next y done m rest ((and_parts (nat_lt x.id y.id) (ascend_below next (y ∷ done ++ m ∷ rest)) e).1),
    )

later_ascend : (next : ℕ) (x : Message) (done : List Message) (m : Message) (rest : List Message) → ascend_below next (x ∷ done ++ m ∷ rest) ≡ true → ascend_below next (done ++ m ∷ rest) ≡ true
later_ascend next x [] m rest e = (and_parts (nat_lt x.id m.id) (ascend_below next (m ∷ rest)) e).1
later_ascend next x (y ∷ done) m rest e = (and_parts (nat_lt x.id y.id) (ascend_below next (y ∷ done ++ m ∷ rest)) e).1

new_id : (next : ℕ) (done : List Message) (m : Message) (rest : List Message) → ascend_below next (done ++ m ∷ rest) ≡ true → IsNewId m.id (map free_message done)
new_id next [] m rest e = tt
new_id next (x ∷ done) m rest e = (below_later next x done m rest e, new_id next done m rest (later_ascend next x done m rest e))

filled_new : (limit next : ℕ) (all rest : List Message) (m : Message) (queues : QueuesState) → IsFilled limit all (m ∷ rest) queues → ascend_below next all ≡ true → IsNewId m.id queues.queued
filled_new limit next all rest m queues filled e =
    subst (IsNewId m.id) (sym (ap (λ (q : QueuesState). q.queued) filled.is))
    (new_id next filled.done m rest (ap (ascend_below next) filled.whole ∙ e))

pub filled_next : (limit next : ℕ) (all left rest : List Message) (m : Message) (queues : QueuesState) → IsFilled limit all left queues → left ≡ m ∷ rest → ascend_below next all ≡ true → IsNewId m.id queues.queued
filled_next limit next all left rest m queues filled is e = filled_new limit next all rest m queues (subst (λ (l : List Message). IsFilled limit all l queues) is filled) e

bytes_of : (done : List Message) → messages_bytes (messages_of (map free_message done)) ≡ messages_bytes done
bytes_of [] = refl
bytes_of (x ∷ done) = omega (arith, sum_by-cons message_bytes x (messages_of (map free_message done)), sum_by-cons message_bytes x done, bytes_of done)

bytes_within : (done : List Message) (m : Message) (rest : List Message) → messages_bytes done + message_bytes m ≤ messages_bytes (done ++ m ∷ rest)
bytes_within [] m rest = omega (arith, sum_by-cons message_bytes m rest)
bytes_within (x ∷ done) m rest = omega (arith, sum_by-cons message_bytes x done, sum_by-cons message_bytes x (done ++ m ∷ rest), bytes_within done m rest)

pub filled_bytes : (limit : ℕ) (all rest : List Message) (m : Message) (queues : QueuesState) → IsFilled limit all (m ∷ rest) queues → messages_bytes (messages_of queues.queued) + message_bytes m ≤ messages_bytes all
filled_bytes limit all rest m queues filled =
    omega (arith, ap (λ (q : QueuesState). messages_bytes (messages_of q.queued)) filled.is, bytes_of filled.done, bytes_within filled.done m rest, ap messages_bytes filled.whole)

pub filled_all : (limit : ℕ) (all rest : List Message) (queues : QueuesState) → IsFilled limit all rest queues → rest ≡ [] → queues ≡ record { limit = limit; queued = map free_message all }
filled_all limit all rest queues filled none =
    filled.is
    ∙ ap (λ l. record { limit = limit; queued = map free_message l }) (sym (append-nil filled.done) ∙ ap (λ l. filled.done ++ l) (sym none) ∙ filled.whole)

pub ruleset filled_steps = (filled_none, filled_more, filled_bytes, filled_all)
