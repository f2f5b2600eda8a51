-- The conversations of the terminals, as messages come and go.
use Rattle.std.proofs.Common.{◌≡◌, ℕ, ◌+◌, ◌≤◌, Bool, true, false, not, List, [], ◌∷◌, ◌++◌, map, take, length, refl, sym, ap, ◌∙◌, subst, arith}
use Rattle.std.specs.Prelude.{Option, Some, None, IfSome, IsSomeAnd, All, find, if◌then◌else◌, ◌==◌, nat_lt}
use Rattle.std.specs.Option.{option_map, option_and_then}
use Rattle.std.specs.List.{AllByRecursion}
use Rattle.std.specs.Str.{bytes_eq}
use Rattle.std.proofs.lemmas.Bool.{eqb-true}
use Rattle.std.proofs.lemmas.List.Elements.{All-head, All-tail}
use Rattle.std.proofs.lemmas.Slice.Eq.{bytes_eq-Decides}
use Rattle.tm_types.specs.declared.message.Message.{Message}
use Rattle.model_messages.specs.declared.conversation.Conversation.{Conversation}
use Rattle.model_messages.specs.declared.conversation.PadChange.{PadChange}
use Rattle.model_messages.specs.declared.conversation.PadChange.TheVariants.{Stays, New, Ends}
use Rattle.model_messages.specs.declared.conversation.TerminalConversation.{TerminalConversation}
use Rattle.model_messages.specs.Pads.{code_field, pad_fault}
use Rattle.model_messages.specs.Terminals.{is_conversation_of, conversation_terminal, conversation_at, pad_at, with_terminal, with_conversation}
use Rattle.model_system.specs.declared.code.Code.{Code}
use Rattle.model_system.specs.Codes.{code_at}
use Rattle.model_system.specs.System.{System}
use Rattle.system_types.specs.ValidSystem.{IsSystem, IsPadLength}
use Rattle.model_machine.specs.Machine.{message_at as message_in}
use Rattle.model_machine.specs.LastingSteps.{discarded_pad, new_pad, with_pad_changed, with_conversation_text, without_message}
use Rattle.model_machine.specs.Trial.{Given}
use Rattle.io_pcb.specs.Pads.{IsNewPad, IsPadText, Suits}
use Rattle.message_run.specs.WorkAhead.{given_with}
use Rattle.region_work.specs.RegionWork.{HasPad, HavePads, given_in}
use Rattle.region_work.proofs.Kept.{all_found}
use Rattle.tm_machine.specs.Parts.{AreAlone, AreOfOtherConversations, AreConversations, IsConversationOf, IsOfConversation}

pub no_both : true ≡ false → ⊥
no_both e = cc

-- what holds of each code holds of the one that is found
pub found_holds : (P : Code → Type 0) (p : Code → Bool) (codes : List Code) → All P codes → IfSome (find p codes) P
found_holds P p [] h = tt
found_holds P p (code ∷ codes) h = by (p code) (All-head P code codes h) (found_holds P p codes (All-tail P code codes h))
  where
    by : (b : Bool) → P code → IfSome (find p codes) P → IfSome (if b then Some code else find p codes) P
    by true here rest = here
    by false here rest = rest

-- ---- one terminal changes
abbrev pub KeepsName : (TerminalConversation → TerminalConversation) → Type 0
KeepsName f = (t : TerminalConversation) → (f t).terminal ≡ t.terminal

-- the others stay
pub other_terminal : (name other : List ℕ) (f : TerminalConversation → TerminalConversation) (ts : List TerminalConversation) → KeepsName f → (other ≡ name → ⊥)
    → conversation_at other (with_terminal name f ts) ≡ conversation_at other ts
other_terminal name other f [] keeps apart = refl
other_terminal name other f (t ∷ ts) keeps apart = by (is_conversation_of name t) refl (is_conversation_of other t) refl (other_terminal name other f ts keeps apart)
  where
    of : Option TerminalConversation → Option Conversation
    of found = option_and_then (λ u. u.conversation) found

    by : (b : Bool) → is_conversation_of name t ≡ b → (c : Bool) → is_conversation_of other t ≡ c → conversation_at other (with_terminal name f ts) ≡ conversation_at other ts
        → of (find (is_conversation_of other) (if b then f t ∷ ts else t ∷ with_terminal name f ts)) ≡ of (if c then Some t else find (is_conversation_of other) ts)
    by true e true g rec = absurd (apart (sym ((bytes_eq-Decides t.terminal other).0 g) ∙ (bytes_eq-Decides t.terminal name).0 e))
    by true e false g rec = ap (λ b. of (if b then Some (f t) else find (is_conversation_of other) ts)) (ap (λ n. bytes_eq n other) (keeps t) ∙ g)
    by false e true g rec = ap (λ b. of (if b then Some t else find (is_conversation_of other) (with_terminal name f ts))) g
    by false e false g rec = ap (λ b. of (if b then Some t else find (is_conversation_of other) (with_terminal name f ts))) g ∙ rec

-- and it is found changed
pub own_terminal : (name : List ℕ) (f : TerminalConversation → TerminalConversation) (ts : List TerminalConversation) → KeepsName f
    → conversation_terminal name (with_terminal name f ts) ≡ option_map f (conversation_terminal name ts)
own_terminal name f [] keeps = refl
own_terminal name f (t ∷ ts) keeps = by (is_conversation_of name t) refl (own_terminal name f ts keeps)
  where
    by : (b : Bool) → is_conversation_of name t ≡ b → conversation_terminal name (with_terminal name f ts) ≡ option_map f (conversation_terminal name ts)
        → find (is_conversation_of name) (if b then f t ∷ ts else t ∷ with_terminal name f ts) ≡ option_map f (if b then Some t else conversation_terminal name ts)
    by true e rec = ap (λ b. if b then Some (f t) else find (is_conversation_of name) ts) (ap (λ n. bytes_eq n name) (keeps t) ∙ e)
    by false e rec = ap (λ b. if b then Some t else find (is_conversation_of name) (with_terminal name f ts)) e ∙ rec

pub names_stay : (name : List ℕ) (f : TerminalConversation → TerminalConversation) (ts : List TerminalConversation) → KeepsName f
    → map (λ t. t.terminal) (with_terminal name f ts) ≡ map (λ t. t.terminal) ts
names_stay name f [] keeps = refl
names_stay name f (t ∷ ts) keeps = by (is_conversation_of name t) (names_stay name f ts keeps)
  where
    by : (b : Bool) → map (λ u. u.terminal) (with_terminal name f ts) ≡ map (λ u. u.terminal) ts
        → map (λ u. u.terminal) (if b then f t ∷ ts else t ∷ with_terminal name f ts) ≡ t.terminal ∷ map (λ u. u.terminal) ts
    by true rec = ap (λ n. n ∷ map (λ (u : TerminalConversation). u.terminal) ts) (keeps t)
    by false rec = ap (λ ns. t.terminal ∷ ns) rec

-- what holds of each terminal holds where it does of the changed one
pub all_with : (P : TerminalConversation → Type 0) (name : List ℕ) (f : TerminalConversation → TerminalConversation) (ts : List TerminalConversation) → AllByRecursion P ts
    → ((t : TerminalConversation) → conversation_terminal name ts ≡ Some t → P t → P (f t)) → AllByRecursion P (with_terminal name f ts)
all_with P name f [] h change = tt
all_with P name f (t ∷ ts) h change = by (is_conversation_of name t) refl (λ g. all_with P name f ts h.1 g)
  where
    by : (b : Bool) → is_conversation_of name t ≡ b → (((u : TerminalConversation) → conversation_terminal name ts ≡ Some u → P u → P (f u)) → AllByRecursion P (with_terminal name f ts))
        → AllByRecursion P (if b then f t ∷ ts else t ∷ with_terminal name f ts)
    by true e rec = (change t (ap (λ b. if b then Some t else conversation_terminal name ts) e) h.0, h.1)
    by false e rec = (h.0, rec (λ u g. change u (ap (λ b. if b then Some t else conversation_terminal name ts) e ∙ g)))

pub conversation_holds : (P : Conversation → Type 0) (name : List ℕ) (ts : List TerminalConversation) → AllByRecursion (λ t. IfSome t.conversation P) ts → IfSome (conversation_at name ts) P
conversation_holds P name [] h = tt
conversation_holds P name (t ∷ ts) h = by (is_conversation_of name t) (conversation_holds P name ts h.1)
  where
    by : (b : Bool) → IfSome (conversation_at name ts) P → IfSome (option_and_then (λ u. u.conversation) (if b then Some t else conversation_terminal name ts)) P
    by true rec = h.0
    by false rec = rec

-- ---- what becomes of a pad
padded_other : (change : PadChange) (name other : List ℕ) (ts : List TerminalConversation) → (other ≡ name → ⊥) → conversation_at other (with_pad_changed change name ts) ≡ conversation_at other ts
padded_other Stays name other ts apart = refl
padded_other (New text) name other ts apart = other_terminal name other (new_pad text) ts (λ t. refl) apart
padded_other Ends name other ts apart = other_terminal name other (with_conversation None) ts (λ t. refl) apart

padded_names : (change : PadChange) (name : List ℕ) (ts : List TerminalConversation) → map (λ t. t.terminal) (with_pad_changed change name ts) ≡ map (λ t. t.terminal) ts
padded_names Stays name ts = refl
padded_names (New text) name ts = names_stay name (new_pad text) ts (λ t. refl)
padded_names Ends name ts = names_stay name (with_conversation None) ts (λ t. refl)

-- a message without a conversation leaves all pads as they are
suits_only : (conversations : List TerminalConversation) (m : Message) (pad : PadChange) → Suits (given_in conversations m).conversation pad → m.conversation ≡ false → pad ≡ Stays
suits_only conversations m pad fits e = by pad (subst (λ b. Suits (if b then conversation_at m.origin conversations else None) pad) e fits)
  where
    by : (p : PadChange) → Suits None p → p ≡ Stays
    by Stays h = refl
    by (New text) h = absurd h
    by Ends h = absurd h

pub given_stays : (m n : Message) (pad : PadChange) (conversations : List TerminalConversation) → Suits (given_in conversations m).conversation pad → AreOfOtherConversations m n
    → given_in (with_pad_changed pad m.origin conversations) n ≡ given_in conversations n
given_stays m n pad conversations fits apart = by n.conversation m.conversation refl refl
  where
    made : Option Conversation → Given
    made c = record { message = n; conversation = c }

    by : (a b : Bool) → n.conversation ≡ a → m.conversation ≡ b
        → made (if a then conversation_at n.origin (with_pad_changed pad m.origin conversations) else None) ≡ made (if a then conversation_at n.origin conversations else None)
    by false b e g = refl
    by true false e g = ap (λ p. made (conversation_at n.origin (with_pad_changed p m.origin conversations))) (suits_only conversations m pad fits g)
    by true true e g = ap made (padded_other pad m.origin n.origin conversations (apart g e))

-- a new pad is one of the conversation
field_there : (code text : List ℕ) → pad_fault code text ≡ None → take 8 text ≡ code_field code
field_there code text e = by (nat_lt (length text) 8) (bytes_eq (take 8 text) (code_field code)) refl e
  where
    by : (a b : Bool) → bytes_eq (take 8 text) (code_field code) ≡ b → ◌≡◌ {A = Option ℕ} (if a then Some 1 else if b then None else Some 2) None → take 8 text ≡ code_field code
    by true b g f = let clash : Some 1 ≡ None = f in absurd (cc)
    by false true g f = (bytes_eq-Decides (take 8 text) (code_field code)).0 g
    by false false g f = let clash : Some 2 ≡ None = f in absurd (cc)

new_right : (system : System) (c : Conversation) (text : List ℕ) → IsConversationOf system c → IsNewPad c text → IsConversationOf system (with_conversation_text text c)
new_right system c text h new = record {
  size = subst (λ n. IsSomeAnd (code_at system.codes c.code) (λ code. (1 ≤ code.transaction.scratch_pad) × (n + 6 ≡ code.transaction.scratch_pad))) (sym new.size) h.size;
  front = field_there c.code text new.good;
  prints = new.held.1;
}

pads_padded : (system : System) (conversations : List TerminalConversation) (m : Message) (pad : PadChange) → Suits (given_in conversations m).conversation pad
    → AllByRecursion (λ t. IfSome t.conversation (IsConversationOf system)) conversations
    → AllByRecursion (λ t. IfSome t.conversation (IsConversationOf system)) (with_pad_changed pad m.origin conversations)
pads_padded system conversations m Stays fits h = h
pads_padded system conversations m Ends fits h = all_with (λ t. IfSome t.conversation (IsConversationOf system)) m.origin (with_conversation None) conversations h (λ t e was. tt)
pads_padded system conversations m (New text) fits h =
    all_with (λ t. IfSome t.conversation (IsConversationOf system)) m.origin (new_pad text) conversations h one
  where
    here : (b : Bool) → Suits (if b then conversation_at m.origin conversations else None) (New text) → Suits (conversation_at m.origin conversations) (New text)
    here true f = f
    here false f = absurd f

    by : (c : Option Conversation) → Suits c (New text) → IfSome c (IsConversationOf system) → IfSome (option_map (with_conversation_text text) c) (IsConversationOf system)
    by (Some c) f was = new_right system c text was f
    by None f was = tt

    one : (t : TerminalConversation) → conversation_terminal m.origin conversations ≡ Some t → IfSome t.conversation (IsConversationOf system) → IfSome (option_map (with_conversation_text text) t.conversation) (IsConversationOf system)
    one t e was = by t.conversation (subst (λ o. Suits (option_and_then (λ (u : TerminalConversation). u.conversation) o) (New text)) e (here m.conversation fits)) was

-- ---- lists of messages
all_without : (P : Message → Type 0) (ms : List Message) (id : ℕ) → AllByRecursion P ms → AllByRecursion P (without_message ms id)
all_without P [] id h = tt
all_without P (m ∷ ms) id h = by (m.id == id) (all_without P ms id h.1)
  where
    by : (b : Bool) → AllByRecursion P (without_message ms id) → AllByRecursion P (if not b then m ∷ without_message ms id else without_message ms id)
    by true rec = rec
    by false rec = (h.0, rec)

pub all_append : (P : Message → Type 0) (ms ns : List Message) → AllByRecursion P ms → AllByRecursion P ns → AllByRecursion P (ms ++ ns)
all_append P [] ns h g = g
all_append P (m ∷ ms) ns h g = (h.0, all_append P ms ns h.1 g)

pub all_map : (P Q : Message → Type 0) (ms : List Message) → ((m : Message) → P m → Q m) → AllByRecursion P ms → AllByRecursion Q ms
all_map P Q [] f h = tt
all_map P Q (m ∷ ms) f h = (f m h.0, all_map P Q ms f h.1)

pub all_both : (P Q R : Message → Type 0) (ms : List Message) → ((m : Message) → P m → Q m → R m) → AllByRecursion P ms → AllByRecursion Q ms → AllByRecursion R ms
all_both P Q R [] f h g = tt
all_both P Q R (m ∷ ms) f h g = (f m h.0 g.0, all_both P Q R ms f h.1 g.1)

apart_back : (a b : Message) → AreOfOtherConversations a b → AreOfOtherConversations b a
apart_back a b h x y s = h y x (sym s)

-- of two messages in such a list
pub alone_pair : (ms : List Message) (id other : ℕ) (m n : Message) → AreAlone ms → message_in ms id ≡ Some m → message_in ms other ≡ Some n → (id ≡ other → ⊥) → AreOfOtherConversations m n
alone_pair [] id other m n alone e g apart = cc
alone_pair (h ∷ ms) id other m n alone e g apart = by (h.id == id) refl (h.id == other) refl e g (λ p q. alone_pair ms id other m n alone.1 p q apart)
  where
    by : (a : Bool) → (h.id == id) ≡ a → (b : Bool) → (h.id == other) ≡ b → (if a then Some h else message_in ms id) ≡ Some m → (if b then Some h else message_in ms other) ≡ Some n
        → (message_in ms id ≡ Some m → message_in ms other ≡ Some n → AreOfOtherConversations m n) → AreOfOtherConversations m n
    by true x true y p q rec = absurd (apart (sym (eqb-true h.id id x) ∙ eqb-true h.id other y))
    by true x false y p q rec = let same : h ≡ m = cc in subst (λ k. AreOfOtherConversations k n) same (all_found (AreOfOtherConversations h) ms other n alone.0 q)
    by false x true y p q rec = let same : h ≡ n = cc in subst (AreOfOtherConversations m) same (apart_back h m (all_found (AreOfOtherConversations h) ms id m alone.0 p))
    by false x false y p q rec = rec p q

without_apart : (ms : List Message) (id : ℕ) (m : Message) → AreAlone ms → message_in ms id ≡ Some m → AllByRecursion (AreOfOtherConversations m) (without_message ms id)
without_apart [] id m alone e = cc
without_apart (h ∷ ms) id m alone e = by (h.id == id) e (λ g. without_apart ms id m alone.1 g)
  where
    by : (b : Bool) → (if b then Some h else message_in ms id) ≡ Some m → (message_in ms id ≡ Some m → AllByRecursion (AreOfOtherConversations m) (without_message ms id))
        → AllByRecursion (AreOfOtherConversations m) (if not b then h ∷ without_message ms id else without_message ms id)
    by true g rec = let same : h ≡ m = cc in subst (λ k. AllByRecursion (AreOfOtherConversations k) (without_message ms id)) same (all_without (AreOfOtherConversations h) ms id alone.0)
    by false g rec = (apart_back h m (all_found (AreOfOtherConversations h) ms id m alone.0 g), rec g)

alone_without : (ms : List Message) (id : ℕ) → AreAlone ms → AreAlone (without_message ms id)
alone_without [] id h = tt
alone_without (m ∷ ms) id h = by (m.id == id) (alone_without ms id h.1)
  where
    by : (b : Bool) → AreAlone (without_message ms id) → AreAlone (if not b then m ∷ without_message ms id else without_message ms id)
    by true rec = rec
    by false rec = (all_without (AreOfOtherConversations m) ms id h.0, rec)

pub alone_append : (ms ns : List Message) → AreAlone ms → AreAlone ns → AllByRecursion (λ m. AllByRecursion (AreOfOtherConversations m) ns) ms → AreAlone (ms ++ ns)
alone_append [] ns h g apart = g
alone_append (m ∷ ms) ns h g apart = (all_append (AreOfOtherConversations m) ms ns h.0 apart.0, alone_append ms ns h.1 g apart.1)

-- messages that belong to no conversation
abbrev pub IsPlain : Message → Type 0
IsPlain m = m.conversation ≡ false

plain_apart : (a : Message) (ns : List Message) → AllByRecursion IsPlain ns → AllByRecursion (AreOfOtherConversations a) ns
plain_apart a ns h = all_map IsPlain (AreOfOtherConversations a) ns (λ n plain x y s. no_both (sym y ∙ plain)) h

plain_alone : (ns : List Message) → AllByRecursion IsPlain ns → AreAlone ns
plain_alone [] h = tt
plain_alone (n ∷ ns) h = (plain_apart n ns h.1, plain_alone ns h.1)

plain_belongs : (conversations : List TerminalConversation) (ns : List Message) → AllByRecursion IsPlain ns → AllByRecursion (IsOfConversation conversations) ns
plain_belongs conversations ns h = all_map IsPlain (IsOfConversation conversations) ns (λ n plain x. absurd (no_both (sym x ∙ plain))) h

all_any : (P : Message → Type 0) (ms : List Message) → ((m : Message) → P m) → AllByRecursion P ms
all_any P [] f = tt
all_any P (m ∷ ms) f = (f m, all_any P ms f)

-- a message belongs as it did where it is given the same
pub belongs_still : (before after : List TerminalConversation) (n : Message) → given_in after n ≡ given_in before n → IsOfConversation before n → IsOfConversation after n
belongs_still before after n same was x = subst (λ g. IsSomeAnd g.conversation (λ c. c.code ≡ n.code)) (sym same) (was x)

-- ---- a message is done, and others that belong to no conversation are sent
module _ (system : System) (conversations : List TerminalConversation) (ms : List Message) (are : AreConversations system conversations ms) (id : ℕ) (m : Message) (found : message_in ms id ≡ Some m)
    (pad : PadChange) (fits : Suits (given_in conversations m).conversation pad) where
  pub given_left : (other : ℕ) (n : Message) → message_in ms other ≡ Some n → (other ≡ id → ⊥) → given_in (with_pad_changed pad m.origin conversations) n ≡ given_in conversations n
  given_left other n here apart = given_stays m n pad conversations fits (alone_pair ms id other m n are.alone found here (λ s. apart (sym s)))

  pub conversations_closed : (sent : List Message) → AllByRecursion IsPlain sent → AreConversations system (with_pad_changed pad m.origin conversations) (without_message ms id ++ sent)
  conversations_closed sent plain = record {
    names = padded_names pad m.origin conversations ∙ are.names;
    pads = pads_padded system conversations m pad fits are.pads;
    belong = all_append (IsOfConversation (with_pad_changed pad m.origin conversations)) (without_message ms id) sent
        (all_both (AreOfOtherConversations m) (IsOfConversation conversations) (IsOfConversation (with_pad_changed pad m.origin conversations)) (without_message ms id)
        (λ n apart was. belongs_still conversations (with_pad_changed pad m.origin conversations) n (given_stays m n pad conversations fits apart) was)
        (without_apart ms id m are.alone found) (all_without (IsOfConversation conversations) ms id are.belong))
        (plain_belongs (with_pad_changed pad m.origin conversations) sent plain);
    alone = alone_append (without_message ms id) sent (alone_without ms id are.alone) (plain_alone sent plain)
        (all_any (λ n. AllByRecursion (AreOfOtherConversations n) sent) (without_message ms id) (λ n. plain_apart n sent plain));
  }

-- where a message is discarded its conversation ends
pub discarded_fits : (conversations : List TerminalConversation) (m : Message) → IsOfConversation conversations m → Suits (given_in conversations m).conversation (discarded_pad m)
discarded_fits conversations m was = by m.conversation refl
  where
    ends : (c : Option Conversation) → IsSomeAnd c (λ k. k.code ≡ m.code) → Suits c Ends
    ends (Some c) h = tt
    ends None h = absurd h

    stays : (c : Option Conversation) → Suits c Stays
    stays (Some c) = tt
    stays None = tt

    by : (b : Bool) → m.conversation ≡ b → Suits (given_in conversations m).conversation (if b then Ends else Stays)
    by true e = ends (given_in conversations m).conversation (was e)
    by false e = stays (given_in conversations m).conversation

-- ---- what a program is given
pub pad_text : (system : System) (c : Conversation) → IsSystem system → IsConversationOf system c → IsPadText c.pad
pad_text system c valid h = by (code_at system.codes c.code) h.size (found_holds (λ code. IsPadLength code.transaction.scratch_pad) (λ code. bytes_eq code.transaction.code c.code) system.codes valid.pads)
  where
    by : (found : Option Code) → IsSomeAnd found (λ code. (1 ≤ code.transaction.scratch_pad) × (length c.pad + 6 ≡ code.transaction.scratch_pad))
        → IfSome found (λ code. IsPadLength code.transaction.scratch_pad) → IsPadText c.pad
    by (Some code) size limits =
        let least = limits.least size.0 in
        let most = limits.most in
        record { code = omega (arith, size.1, least); held = (omega (arith, size.1, most), h.prints) }
    by None size limits = absurd size

has_pad : (system : System) (conversations : List TerminalConversation) (m : Message) → IsSystem system → AllByRecursion (λ t. IfSome t.conversation (IsConversationOf system)) conversations
    → IsOfConversation conversations m → HasPad conversations m
has_pad system conversations m valid pads belongs = by m.conversation refl (conversation_at m.origin conversations) refl
  where
    by : (b : Bool) → m.conversation ≡ b → (c : Option Conversation) → conversation_at m.origin conversations ≡ c → HasPad conversations m
    by false e c f = record { given = rw e refl; text = rw e tt }
    by true e None f =
        let none : IsSomeAnd {T = Conversation} None (λ c. c.code ≡ m.code)
        = subst (λ o. IsSomeAnd o (λ c. c.code ≡ m.code)) (ap (λ b. if b then conversation_at m.origin conversations else None) e ∙ f) (belongs e) in
        absurd none
    by true e (Some c) f =
        let here : c.code ≡ m.code = subst (λ o. IsSomeAnd o (λ k. k.code ≡ m.code)) (ap (λ b. if b then conversation_at m.origin conversations else None) e ∙ f) (belongs e) in
        let is : IsConversationOf system c = subst (λ o. IfSome o (IsConversationOf system)) f (conversation_holds (IsConversationOf system) m.origin conversations pads) in
        record {
          given =
              ap (λ b. given_with m (if b then pad_at m.origin conversations else None)) e
              ∙ ap (λ o. given_with m (option_map (λ (k : Conversation). k.pad) o)) f
              ∙ ap (λ code. record { message = m; conversation = Some (record { code = code; pad = c.pad }) }) (sym here)
              ∙ sym (ap (λ b. record { message = m; conversation = if b then conversation_at m.origin conversations else None }) e ∙ ap (λ o. record { message = m; conversation = o }) f);
          text = subst (λ o. IfSome o IsPadText) (sym (ap (λ b. if b then pad_at m.origin conversations else None) e ∙ ap (option_map (λ (k : Conversation). k.pad)) f)) (pad_text system c valid is);
        }

pub have_pads : (system : System) (conversations : List TerminalConversation) (ms : List Message) → IsSystem system → AreConversations system conversations ms → HavePads conversations ms
have_pads system conversations ms valid are =
    all_map (IsOfConversation conversations) (HasPad conversations) ms (λ m belongs. has_pad system conversations m valid are.pads belongs) are.belong
