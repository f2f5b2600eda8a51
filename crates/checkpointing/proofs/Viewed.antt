-- What a life begins with, as a snapshot shows it.
use Rattle.std.proofs.Common.{◌≡◌, Bool, List, [], ◌∷◌, length, map, refl, ap, arith, None}
use Rattle.tm_types.specs.declared.message.Message.{Message}
use Rattle.model_messages.specs.Queue.{messages_of}
use Rattle.model_machine.specs.declared.lasting.CodeSetting.{CodeSetting}
use Rattle.model_machine.specs.Machine.{setting_of, states_by}

-- messages that no region has
pub free_messages : (ms : List Message) → messages_of (map (λ (m : Message). record { message = m; holder = None }) ms) ≡ ms
free_messages [] = refl
free_messages (m ∷ ms) = ap (λ (l : List Message). m ∷ l) (free_messages ms)

-- the settings of the codes, whether their limit priorities count or not
pub settings_shown : (settings : List CodeSetting) (flags : List Bool) → length settings ≡ length flags → map setting_of (states_by settings flags) ≡ settings
settings_shown [] flags same = refl
settings_shown (c ∷ settings) [] same = absurd (omega (arith, same))
settings_shown (c ∷ settings) (flag ∷ flags) same = ap (λ (l : List CodeSetting). c ∷ l) (settings_shown settings flags (omega (arith, same)))
