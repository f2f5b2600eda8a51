-- The flags of the codes that moved follow.
use Rattle.std.proofs.Common.{◌≡◌, ℕ, false, List, [], ◌∷◌, length, sym, ap, ◌∙◌, refl, Some, slice_get}
use Rattle.std.specs.List.{list_any}
use Rattle.std.specs.Option.{option_map_or}
use Rattle.std.specs.Str.{bytes_eq}
use Rattle.model_messages.specs.Queue.{QueuesState, free_count}
use Rattle.model_messages.specs.declared.ended_message.EndedMessage.{EndedMessage}
use Rattle.model_system.specs.declared.code.Code.{Code}
use Rattle.model_system.specs.declared.code_state.CodeState.{CodeState}
use Rattle.model_system.specs.Codes.{code_place}
use Rattle.model_system.specs.System.{System}
use Rattle.model_machine.specs.Machine.{raised_now}
use Rattle.model_machine.specs.Flags.{followed, followed_by, all_followed}
use Rattle.model_machine.proofs.Flags.{flags_follow, settings_stay, all_followed_length, now_twice, now_same}
use Rattle.system_types.specs.ValidSystem.{IsSystem}
use Rattle.region_work.specs.WorkEnds.{destinations}
use Rattle.tm_machine.specs.Parts.{settings_of, flags_of}

-- the flags followed on those of `states`; all else of the codes stayed
pub record IsFollowed (system : System) (count : List ℕ → ℕ) (states states' : List CodeState) : Type 0 where
  pub flags : flags_of states' ≡ raised_now count system.codes (flags_of states)
  pub settings : settings_of states' ≡ settings_of states
  pub size : length states' ≡ length states

-- Where the flags were settled, and as many messages as before wait of each code that isn't among these,
-- all flags follow.
pub followed_all : (system : System) (old count : List ℕ → ℕ) (names : List (List ℕ)) (states states' : List CodeState) → IsSystem system → length states ≡ length system.codes
    → raised_now old system.codes (flags_of states) ≡ flags_of states
    → ((name : List ℕ) → list_any (λ n. bytes_eq name n) names ≡ false → count name ≡ old name)
    → states' ≡ all_followed system.codes count names states → IsFollowed system count states states'
followed_all system old count names states states' valid size settled same is = record {
  flags = ap flags_of is ∙ flags_follow system.codes old count names states valid.apart size settled same;
  settings = ap settings_of is ∙ settings_stay system.codes count names states;
  size = ap length is ∙ all_followed_length system.codes count names states;
}

-- where as many messages wait of each code, nothing is to be done
pub followed_none : (system : System) (old count : List ℕ → ℕ) (states : List CodeState) → raised_now old system.codes (flags_of states) ≡ flags_of states
    → ((name : List ℕ) → count name ≡ old name) → IsFollowed system count states states
followed_none system old count states settled same =
    record { flags = sym (now_same count old system.codes (flags_of states) same ∙ settled); settings = refl; size = refl }

pub followed_settled : (system : System) (count : List ℕ → ℕ) (states states' : List CodeState) → IsFollowed system count states states'
    → raised_now count system.codes (flags_of states') ≡ flags_of states'
followed_settled system count states states' h =
    ap (raised_now count system.codes) h.flags ∙ now_twice count system.codes (flags_of states) ∙ sym h.flags

-- the flags that followed are those of the code and of the outputs' destinations
pub follow_is : (codes : List Code) (code : List ℕ) (states states' : List CodeState) (lent queues : QueuesState) (slice names : List (List ℕ)) (made outputs : List EndedMessage)
    → states' ≡ all_followed codes (λ name. free_count name lent.queued) slice states → lent ≡ queues → slice ≡ names → names ≡ code ∷ destinations made → made ≡ outputs
    → states' ≡ all_followed codes (λ name. free_count name queues.queued) (code ∷ destinations outputs) states
follow_is codes code states states' lent queues slice names made outputs is same whole named sent =
    is ∙ ap (λ q. all_followed codes (λ name. free_count name q.queued) slice states) same
    ∙ ap (λ ns. all_followed codes (λ name. free_count name queues.queued) ns states) (whole ∙ named ∙ ap (λ os. code ∷ destinations os) sent)

-- one code followed
pub follow_one : (codes : List Code) (name : List ℕ) (waiting : ℕ) (states states' : List CodeState) (lent queues : QueuesState)
    → states' ≡ followed codes name waiting states → waiting ≡ free_count name lent.queued → lent ≡ queues
    → states' ≡ all_followed codes (λ n. free_count n queues.queued) (name ∷ []) states
follow_one codes name waiting states states' lent queues is counted same =
    is ∙ ap (λ n. followed codes name n states) (counted ∙ ap (λ q. free_count name q.queued) same)

-- a code followed at its place
pub followed_at : (codes : List Code) (name : List ℕ) (place waiting : ℕ) (states states' : List CodeState) → Some place ≡ code_place codes name
    → states' ≡ followed_by waiting (slice_get codes place) states place → states' ≡ followed codes name waiting states
followed_at codes name place waiting states states' at is = is ∙ ap (λ p. option_map_or (λ q. followed_by waiting (slice_get codes q) states q) p states) at
