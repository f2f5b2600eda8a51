-- A text spells a command exactly where its words are those of the command.
use Rattle.std.proofs.Common.{◌≡◌, ℕ, Bool, true, false, ◌&&◌, List, [], ◌∷◌, ◌++◌, length, refl, sym, ap, subst, ◌∙◌, suc, arith}
use Rattle.std.specs.Prelude.{◌<◌, ◌≤◌, ◌+◌, ◌↔◌, Option, Some, None, cond, not, if◌then◌else◌, IsTrue, codes, decimal, nat_le, ◌==◌, drop, take, get_or}
use Rattle.std.specs.List.{list_all, position_or_len}
use Rattle.std.specs.Str.{bytes_eq}
use Rattle.std.proofs.lemmas.Bool.Decides.{nat_tests}
use Rattle.std.proofs.lemmas.List.Sums.{split_at_first, passes_at_first}
use Rattle.std.proofs.lemmas.List.{length-drop}
use Rattle.std.proofs.lemmas.Slice.Eq.{bytes_eq-Decides}
use Rattle.std.proofs.Math.Seq.{take-append_seam, drop-append-add}
use Rattle.tm_types.specs.Name.{IsName, is_name, is_name_byte}
use Rattle.tm_types.specs.Words.{first_word, operands}
use Rattle.tm_types.specs.Digits.{spelled_number}
use Rattle.tm_types.specs.Commands.{command_spelling, name_in, IsAssigned, named, assigned, SpellsCommand, start_in, stop_in, purge_in, dequeue_in, assigned_in, assign_in, command_in}
use Rattle.tm_types.proofs.SpelledNumbers.{IsSpelled, spelled_is, number_spelled, some_digits}
use Rattle.tm_types.specs.declared.command.LastingCommand.{LastingCommand}
use Rattle.tm_types.specs.declared.command.LastingCommand.TheVariants.{StartTransaction, StopTransaction, StartTerminal, StopTerminal, DequeueFirst, DequeueAll, Exit, AssignClass, AssignPriority}

abbrev is_blank : ℕ → Bool
is_blank b = b == 32

-- ---- words

no_blank : (b : ℕ) → is_name_byte b ≡ true → is_blank b ≡ false
no_blank b is = grind (arith, nat_tests)

one_more : (c : Bool) (m n : ℕ) → c ≡ false → m ≡ n → cond (not c) (1 + m) 0 ≡ suc n
one_more c m n is same = grind arith

both_left : (a b : Bool) → (a && b) ≡ true → a ≡ true
both_left true b is = refl
both_left false b is = is

both_right : (a b : Bool) → (a && b) ≡ true → b ≡ true
both_right true b is = is
both_right false true is = refl
both_right false false is = is

place_behind : (name rest : List ℕ) → list_all is_name_byte name ≡ true → position_or_len is_blank (name ++ 32 ∷ rest) ≡ length name
place_behind [] rest is = refl
place_behind (b ∷ bs) rest is =
    one_more (is_blank b) (position_or_len is_blank (bs ++ 32 ∷ rest)) (length bs) (no_blank b (both_left (is_name_byte b) (list_all is_name_byte bs) is))
    (place_behind bs rest (both_right (is_name_byte b) (list_all is_name_byte bs) is))

name_first : (name rest : List ℕ) → list_all is_name_byte name ≡ true → first_word (name ++ 32 ∷ rest) ≡ name
name_first name rest is = ap (λ n. take n (name ++ 32 ∷ rest)) (place_behind name rest is) ∙ take-append_seam name (32 ∷ rest)

name_behind : (name rest : List ℕ) → list_all is_name_byte name ≡ true → operands (name ++ 32 ∷ rest) ≡ rest
name_behind name rest is = ap (λ n. drop (n + 1) (name ++ 32 ∷ rest)) (place_behind name rest is) ∙ drop-append-add name (32 ∷ rest) 1

blank_is : (b : ℕ) → is_blank b ≡ true → b ≡ 32
blank_is b is = grind (arith, nat_tests)

some_left : (n : ℕ) (text : List ℕ) → 0 < length (drop (n + 1) text) → n < length text
some_left n text some = omega (arith, some, length-drop (n + 1) text)

-- a text whose operands aren't empty is its first word, a blank and they
parted : (text : List ℕ) → 0 < length (operands text) → text ≡ first_word text ++ 32 ∷ operands text
parted text some =
    let below = some_left (position_or_len is_blank text) text some in
    split_at_first is_blank text 0 below
    ∙ ap (λ b. first_word text ++ b ∷ operands text) (blank_is (get_or text (position_or_len is_blank text) 0) (passes_at_first is_blank text 0 below))

bytes_same : (xs ys : List ℕ) → bytes_eq xs ys ≡ true → xs ≡ ys
bytes_same xs ys is = (bytes_eq-Decides xs ys).0 is

word_parted : (text word : List ℕ) → bytes_eq (first_word text) word ≡ true → 0 < length (operands text) → text ≡ word ++ 32 ∷ operands text
word_parted text word is some = parted text some ∙ ap (λ w. w ++ 32 ∷ operands text) (bytes_same (first_word text) word is)

-- ---- names

name_parts : (l : ℕ) (b : Bool) → (nat_le 1 l && nat_le l 8 && b) ≡ true → (1 ≤ l) × (l ≤ 8) × IsTrue b
name_parts l b is = grind (arith, nat_tests)

name_tests : (l : ℕ) (b : Bool) → 1 ≤ l → l ≤ 8 → IsTrue b → (nat_le 1 l && nat_le l 8 && b) ≡ true
name_tests l b one most is = grind (arith, nat_tests)

true_is : (b : Bool) → IsTrue b → b ≡ true
true_is b is = is

is_name_of : (name : List ℕ) → IsName name → is_name name ≡ true
is_name_of name is = name_tests (length name) (list_all is_name_byte name) is.0 is.1 is.2

name_of : (name : List ℕ) → is_name name ≡ true → IsName name
name_of name is = name_parts (length name) (list_all is_name_byte name) is

some_name : (name : List ℕ) → is_name name ≡ true → 0 < length name
some_name name is = let parts = name_of name is in omega (arith, parts.0)

long_behind : (word rest : List ℕ) → 0 < length (word ++ 32 ∷ rest)
long_behind [] rest = omega arith
long_behind (w ∷ word) rest = omega arith

-- ---- from the text

record IsNamed (command : List ℕ → LastingCommand) (word : List ℕ) (c : LastingCommand) : Type 0 where
  is : c ≡ command word
  name : is_name word ≡ true

named_by : (command : List ℕ → LastingCommand) (word : List ℕ) (c : LastingCommand) (b : Bool) → is_name word ≡ b
    → (if b then Some (command word) else None) ≡ Some c → IsNamed command word c
named_by command word c true name is = record { is = cc; name = name }
named_by command word c false name is = cc

named_is : (command : List ℕ → LastingCommand) (word : List ℕ) (c : LastingCommand) → named command word ≡ Some c → IsNamed command word c
named_is command word c is = named_by command word c (is_name word) refl is

-- a verb, a keyword and a name
two_words : (text verb keyword : List ℕ) → bytes_eq (first_word text) verb ≡ true → bytes_eq (first_word (operands text)) keyword ≡ true
    → is_name (operands (operands text)) ≡ true → text ≡ verb ++ 32 ∷ (keyword ++ 32 ∷ operands (operands text))
two_words text verb keyword first second name =
    let rest : operands text ≡ keyword ++ 32 ∷ operands (operands text) = word_parted (operands text) keyword second (some_name (operands (operands text)) name) in
    word_parted text verb first (subst (λ o. 0 < length o) (sym rest) (long_behind keyword (operands (operands text))))
    ∙ ap (λ o. verb ++ 32 ∷ o) rest

spells_named : (text word : List ℕ) (command : List ℕ → LastingCommand) (c : LastingCommand) → IsNamed command word c
    → text ≡ command_spelling (command word) → name_in (command word) ≡ word → IsAssigned (command word) → SpellsCommand text c
spells_named text word command c h spelled named right =
    subst (SpellsCommand text) (sym h.is) (record { spelled = spelled; named = subst IsName (sym named) (name_of word h.name); assigned = right })

start_spells : (text : List ℕ) (c : LastingCommand) → bytes_eq (first_word text) (codes "/START") ≡ true → start_in (operands text) ≡ Some c → SpellsCommand text c
unfolding start_in
start_spells text c verb is = by (bytes_eq (first_word (operands text)) (codes "TRANSACTION")) (bytes_eq (first_word (operands text)) (codes "LTERM")) refl refl is
  where
    word : List ℕ
    word = operands (operands text)

    by : (a b : Bool) → bytes_eq (first_word (operands text)) (codes "TRANSACTION") ≡ a → bytes_eq (first_word (operands text)) (codes "LTERM") ≡ b
        → (if a then named (λ code. StartTransaction code) (operands (operands text))
        else if b then named (λ terminal. StartTerminal terminal) (operands (operands text)) else None) ≡ Some c → SpellsCommand text c
    by true b first second e =
        let h = named_is (λ code. StartTransaction code) (operands (operands text)) c e in
        spells_named text (operands (operands text)) (λ code. StartTransaction code) c h (two_words text (codes "/START") (codes "TRANSACTION") verb first h.name) refl tt
    by false true first second e =
        let h = named_is (λ terminal. StartTerminal terminal) (operands (operands text)) c e in
        spells_named text (operands (operands text)) (λ terminal. StartTerminal terminal) c h (two_words text (codes "/START") (codes "LTERM") verb second h.name) refl tt
    by false false first second e = cc

stop_spells : (text : List ℕ) (c : LastingCommand) → bytes_eq (first_word text) (codes "/STOP") ≡ true → stop_in (operands text) ≡ Some c → SpellsCommand text c
unfolding stop_in
stop_spells text c verb is = by (bytes_eq (first_word (operands text)) (codes "TRANSACTION")) (bytes_eq (first_word (operands text)) (codes "LTERM")) refl refl is
  where
    by : (a b : Bool) → bytes_eq (first_word (operands text)) (codes "TRANSACTION") ≡ a → bytes_eq (first_word (operands text)) (codes "LTERM") ≡ b
        → (if a then named (λ code. StopTransaction code) (operands (operands text))
        else if b then named (λ terminal. StopTerminal terminal) (operands (operands text)) else None) ≡ Some c → SpellsCommand text c
    by true b first second e =
        let h = named_is (λ code. StopTransaction code) (operands (operands text)) c e in
        spells_named text (operands (operands text)) (λ code. StopTransaction code) c h (two_words text (codes "/STOP") (codes "TRANSACTION") verb first h.name) refl tt
    by false true first second e =
        let h = named_is (λ terminal. StopTerminal terminal) (operands (operands text)) c e in
        spells_named text (operands (operands text)) (λ terminal. StopTerminal terminal) c h (two_words text (codes "/STOP") (codes "LTERM") verb second h.name) refl tt
    by false false first second e = cc

-- a name with a keyword behind it
purged : (text keyword : List ℕ) → bytes_eq (operands text) keyword ≡ true → 0 < length keyword → text ≡ first_word text ++ 32 ∷ keyword
purged text keyword is some =
    let same = bytes_same (operands text) keyword is in
    parted text (subst (λ o. 0 < length o) (sym same) some) ∙ ap (λ o. first_word text ++ 32 ∷ o) same

lterm_parted : (text rest : List ℕ) → bytes_eq (first_word text) (codes "/DEQUEUE") ≡ true → bytes_eq (first_word (operands text)) (codes "LTERM") ≡ true
    → operands (operands text) ≡ rest → 0 < length rest → text ≡ codes "/DEQUEUE LTERM " ++ rest
lterm_parted text rest verb keyword is some =
    let long : 0 < length (operands (operands text)) = subst (λ o. 0 < length o) (sym is) some in
    let inner : operands text ≡ codes "LTERM" ++ 32 ∷ operands (operands text) = word_parted (operands text) (codes "LTERM") keyword long in
    word_parted text (codes "/DEQUEUE") verb (subst (λ o. 0 < length o) (sym inner) (long_behind (codes "LTERM") (operands (operands text))))
    ∙ ap (λ o. codes "/DEQUEUE " ++ o) (inner ∙ ap (λ o. codes "LTERM " ++ o) is)

long_name : (name rest : List ℕ) → 0 < length (name ++ 32 ∷ rest)
long_name name rest = long_behind name rest

purge_spells : (text : List ℕ) (c : LastingCommand) → bytes_eq (first_word text) (codes "/DEQUEUE") ≡ true → bytes_eq (first_word (operands text)) (codes "LTERM") ≡ true
    → purge_in (operands (operands text)) ≡ Some c → SpellsCommand text c
unfolding purge_in
purge_spells text c verb keyword is = by (operands (operands text)) refl (bytes_eq (operands (operands (operands text))) (codes "PURGE1")) (bytes_eq (operands (operands (operands text))) (codes "PURGE")) refl refl is
  where
    by : (rest : List ℕ) → operands (operands text) ≡ rest → (a b : Bool) → bytes_eq (operands rest) (codes "PURGE1") ≡ a → bytes_eq (operands rest) (codes "PURGE") ≡ b
        → (if a then named (λ terminal. DequeueFirst terminal) (first_word rest)
        else if b then named (λ terminal. DequeueAll terminal) (first_word rest) else None) ≡ Some c → SpellsCommand text c
    by rest at true b first second e =
        let h = named_is (λ terminal. DequeueFirst terminal) (first_word rest) c e in
        let all = purged rest (codes "PURGE1") first (omega arith) in
        spells_named text (first_word rest) (λ terminal. DequeueFirst terminal) c h
        (lterm_parted text (first_word rest ++ codes " PURGE1") verb keyword (at ∙ all) (long_name (first_word rest) (codes "PURGE1"))) refl tt
    by rest at false true first second e =
        let h = named_is (λ terminal. DequeueAll terminal) (first_word rest) c e in
        let all = purged rest (codes "PURGE") second (omega arith) in
        spells_named text (first_word rest) (λ terminal. DequeueAll terminal) c h
        (lterm_parted text (first_word rest ++ codes " PURGE") verb keyword (at ∙ all) (long_name (first_word rest) (codes "PURGE"))) refl tt
    by rest at false false first second e = cc

dequeue_spells : (text : List ℕ) (c : LastingCommand) → bytes_eq (first_word text) (codes "/DEQUEUE") ≡ true → dequeue_in (operands text) ≡ Some c → SpellsCommand text c
unfolding dequeue_in
dequeue_spells text c verb is = by (bytes_eq (first_word (operands text)) (codes "LTERM")) refl is
  where
    by : (a : Bool) → bytes_eq (first_word (operands text)) (codes "LTERM") ≡ a → (if a then purge_in (operands (operands text)) else None) ≡ Some c → SpellsCommand text c
    by true keyword e = purge_spells text c verb keyword e
    by false keyword e = cc

exit_spells : (text : List ℕ) (c : LastingCommand) → bytes_eq (first_word text) (codes "/EXIT") ≡ true → named (λ terminal. Exit terminal) (operands text) ≡ Some c → SpellsCommand text c
exit_spells text c verb is =
    let h = named_is (λ terminal. Exit terminal) (operands text) c is in
    spells_named text (operands text) (λ terminal. Exit terminal) c h (word_parted text (codes "/EXIT") verb (some_name (operands text) h.name)) refl tt

-- a name, a keyword and a number
record IsAssignment (command : List ℕ → ℕ → LastingCommand) (word digits : List ℕ) (low high : ℕ) (c : LastingCommand) : Type 0 where
  number : ℕ
  is : IsNamed (λ code. command code number) word c
  spelled : IsSpelled low high digits number

assignment_is : (command : List ℕ → ℕ → LastingCommand) (word digits : List ℕ) (low high : ℕ) (c : LastingCommand)
    → assigned command word (spelled_number low high digits) ≡ Some c → IsAssignment command word digits low high c
assignment_is command word digits low high c is = by (spelled_number low high digits) refl is
  where
    by : (o : Option ℕ) → spelled_number low high digits ≡ o → assigned command word o ≡ Some c → IsAssignment command word digits low high c
    by None e h = cc
    by (Some n) e h = record { number = n; is = named_is (λ code. command code n) word c h; spelled = spelled_is low high digits n e }

-- the words behind /ASSIGN TRANSACTION
assignment_parted : (rest keyword digits : List ℕ) → bytes_eq (first_word (operands rest)) keyword ≡ true → operands (operands rest) ≡ digits → 0 < length digits
    → rest ≡ first_word rest ++ 32 ∷ (keyword ++ 32 ∷ digits)
assignment_parted rest keyword digits is at some =
    let behind : operands rest ≡ keyword ++ 32 ∷ operands (operands rest) = word_parted (operands rest) keyword is (subst (λ o. 0 < length o) (sym at) some) in
    let all : operands rest ≡ keyword ++ 32 ∷ digits = behind ∙ ap (λ o. keyword ++ 32 ∷ o) at in
    parted rest (subst (λ o. 0 < length o) (sym all) (long_behind keyword digits)) ∙ ap (λ o. first_word rest ++ 32 ∷ o) all

transaction_parted : (text rest : List ℕ) → bytes_eq (first_word text) (codes "/ASSIGN") ≡ true → bytes_eq (first_word (operands text)) (codes "TRANSACTION") ≡ true
    → operands (operands text) ≡ rest → 0 < length rest → text ≡ codes "/ASSIGN TRANSACTION " ++ rest
transaction_parted text rest verb keyword is some =
    let long : 0 < length (operands (operands text)) = subst (λ o. 0 < length o) (sym is) some in
    let inner : operands text ≡ codes "TRANSACTION" ++ 32 ∷ operands (operands text) = word_parted (operands text) (codes "TRANSACTION") keyword long in
    word_parted text (codes "/ASSIGN") verb (subst (λ o. 0 < length o) (sym inner) (long_behind (codes "TRANSACTION") (operands (operands text))))
    ∙ ap (λ o. codes "/ASSIGN " ++ o) (inner ∙ ap (λ o. codes "TRANSACTION " ++ o) is)

assigned_spells : (text : List ℕ) (c : LastingCommand) → bytes_eq (first_word text) (codes "/ASSIGN") ≡ true → bytes_eq (first_word (operands text)) (codes "TRANSACTION") ≡ true
    → assigned_in (operands (operands text)) ≡ Some c → SpellsCommand text c
unfolding assigned_in
assigned_spells text c verb keyword is =
    by (operands (operands text)) refl (bytes_eq (first_word (operands (operands (operands text)))) (codes "CLASS")) (bytes_eq (first_word (operands (operands (operands text)))) (codes "PRIORITY")) refl refl is
  where
    by : (rest : List ℕ) → operands (operands text) ≡ rest → (a b : Bool) → bytes_eq (first_word (operands rest)) (codes "CLASS") ≡ a → bytes_eq (first_word (operands rest)) (codes "PRIORITY") ≡ b
        → (if a then assigned (λ code class. AssignClass code class) (first_word rest) (spelled_number 1 255 (operands (operands rest)))
        else if b then assigned (λ code priority. AssignPriority code priority) (first_word rest) (spelled_number 0 14 (operands (operands rest))) else None) ≡ Some c → SpellsCommand text c
    by rest at true b first second e =
        let h = assignment_is (λ code class. AssignClass code class) (first_word rest) (operands (operands rest)) 1 255 c e in
        let all = assignment_parted rest (codes "CLASS") (decimal h.number) first h.spelled.digits (some_digits h.number (omega (arith, h.spelled.most))) in
        spells_named text (first_word rest) (λ code. AssignClass code h.number) c h.is
        (transaction_parted text (first_word rest ++ (codes " CLASS " ++ decimal h.number)) verb keyword (at ∙ all) (long_name (first_word rest) (codes "CLASS " ++ decimal h.number))) refl
        (h.spelled.least, h.spelled.most)
    by rest at false true first second e =
        let h = assignment_is (λ code priority. AssignPriority code priority) (first_word rest) (operands (operands rest)) 0 14 c e in
        let all = assignment_parted rest (codes "PRIORITY") (decimal h.number) second h.spelled.digits (some_digits h.number (omega (arith, h.spelled.most))) in
        spells_named text (first_word rest) (λ code. AssignPriority code h.number) c h.is
        (transaction_parted text (first_word rest ++ (codes " PRIORITY " ++ decimal h.number)) verb keyword (at ∙ all) (long_name (first_word rest) (codes "PRIORITY " ++ decimal h.number))) refl
        h.spelled.most
    by rest at false false first second e = cc

assign_spells : (text : List ℕ) (c : LastingCommand) → bytes_eq (first_word text) (codes "/ASSIGN") ≡ true → assign_in (operands text) ≡ Some c → SpellsCommand text c
unfolding assign_in
assign_spells text c verb is = by (bytes_eq (first_word (operands text)) (codes "TRANSACTION")) refl is
  where
    by : (a : Bool) → bytes_eq (first_word (operands text)) (codes "TRANSACTION") ≡ a → (if a then assigned_in (operands (operands text)) else None) ≡ Some c → SpellsCommand text c
    by true keyword e = assigned_spells text c verb keyword e
    by false keyword e = cc

pub read_spells : (text : List ℕ) (c : LastingCommand) → command_in text ≡ Some c → SpellsCommand text c
unfolding command_in
read_spells text c is =
    by (bytes_eq (first_word text) (codes "/START")) (bytes_eq (first_word text) (codes "/STOP")) (bytes_eq (first_word text) (codes "/DEQUEUE")) (bytes_eq (first_word text) (codes "/EXIT"))
    (bytes_eq (first_word text) (codes "/ASSIGN")) refl refl refl refl refl is
  where
    by : (a b d e f : Bool) → bytes_eq (first_word text) (codes "/START") ≡ a → bytes_eq (first_word text) (codes "/STOP") ≡ b
        → bytes_eq (first_word text) (codes "/DEQUEUE") ≡ d → bytes_eq (first_word text) (codes "/EXIT") ≡ e → bytes_eq (first_word text) (codes "/ASSIGN") ≡ f
        → (if a then start_in (operands text) else if b then stop_in (operands text) else if d then dequeue_in (operands text)
        else if e then named (λ terminal. Exit terminal) (operands text) else if f then assign_in (operands text) else None) ≡ Some c → SpellsCommand text c
    by true b d e f ia ib id ie if' h = start_spells text c ia h
    by false true d e f ia ib id ie if' h = stop_spells text c ib h
    by false false true e f ia ib id ie if' h = dequeue_spells text c id h
    by false false false true f ia ib id ie if' h = exit_spells text c ie h
    by false false false false true ia ib id ie if' h = assign_spells text c if' h
    by false false false false false ia ib id ie if' h = cc

-- ---- from the command

taken : (command : List ℕ → LastingCommand) (name : List ℕ) → IsName name → named command name ≡ Some (command name)
taken command name is = ap (λ b. if b then Some (command name) else None) (is_name_of name is)

purge_first : (name : List ℕ) → IsName name → purge_in (name ++ codes " PURGE1") ≡ Some (DequeueFirst name)
unfolding purge_in
purge_first name is =
    let bytes = true_is (list_all is_name_byte name) is.2 in
    by (operands (name ++ codes " PURGE1")) (first_word (name ++ codes " PURGE1")) (name_behind name (codes "PURGE1") bytes) (name_first name (codes "PURGE1") bytes)
  where
    by : (behind front : List ℕ) → behind ≡ codes "PURGE1" → front ≡ name
        → (if bytes_eq behind (codes "PURGE1") then named (λ terminal. DequeueFirst terminal) front
        else if bytes_eq behind (codes "PURGE") then named (λ terminal. DequeueAll terminal) front else None) ≡ Some (DequeueFirst name)
    by behind front b f =
        ap (λ o. if bytes_eq o (codes "PURGE1") then named (λ terminal. DequeueFirst terminal) front
        else if bytes_eq o (codes "PURGE") then named (λ terminal. DequeueAll terminal) front else None) b
        ∙ ap (λ o. named (λ terminal. DequeueFirst terminal) o) f ∙ taken (λ terminal. DequeueFirst terminal) name is

purge_all : (name : List ℕ) → IsName name → purge_in (name ++ codes " PURGE") ≡ Some (DequeueAll name)
unfolding purge_in
purge_all name is =
    let bytes = true_is (list_all is_name_byte name) is.2 in
    by (operands (name ++ codes " PURGE")) (first_word (name ++ codes " PURGE")) (name_behind name (codes "PURGE") bytes) (name_first name (codes "PURGE") bytes)
  where
    by : (behind front : List ℕ) → behind ≡ codes "PURGE" → front ≡ name
        → (if bytes_eq behind (codes "PURGE1") then named (λ terminal. DequeueFirst terminal) front
        else if bytes_eq behind (codes "PURGE") then named (λ terminal. DequeueAll terminal) front else None) ≡ Some (DequeueAll name)
    by behind front b f =
        ap (λ o. if bytes_eq o (codes "PURGE1") then named (λ terminal. DequeueFirst terminal) front
        else if bytes_eq o (codes "PURGE") then named (λ terminal. DequeueAll terminal) front else None) b
        ∙ ap (λ o. named (λ terminal. DequeueAll terminal) o) f ∙ taken (λ terminal. DequeueAll terminal) name is

class_assigned : (name : List ℕ) (class : ℕ) → IsName name → 1 ≤ class → class ≤ 255 → assigned_in (name ++ (codes " CLASS " ++ decimal class)) ≡ Some (AssignClass name class)
unfolding assigned_in
class_assigned name class is least most =
    let bytes = true_is (list_all is_name_byte name) is.2 in
    by (operands (name ++ (codes " CLASS " ++ decimal class))) (first_word (name ++ (codes " CLASS " ++ decimal class)))
    (name_behind name (codes "CLASS " ++ decimal class) bytes) (name_first name (codes "CLASS " ++ decimal class) bytes)
  where
    by : (behind front : List ℕ) → behind ≡ codes "CLASS " ++ decimal class → front ≡ name
        → (if bytes_eq (first_word behind) (codes "CLASS") then assigned (λ code k. AssignClass code k) front (spelled_number 1 255 (operands behind))
        else if bytes_eq (first_word behind) (codes "PRIORITY") then assigned (λ code p. AssignPriority code p) front (spelled_number 0 14 (operands behind)) else None) ≡ Some (AssignClass name class)
    by behind front b f =
        ap (λ o. if bytes_eq (first_word o) (codes "CLASS") then assigned (λ code k. AssignClass code k) front (spelled_number 1 255 (operands o))
        else if bytes_eq (first_word o) (codes "PRIORITY") then assigned (λ code p. AssignPriority code p) front (spelled_number 0 14 (operands o)) else None) b
        ∙ ap (λ n. assigned (λ code k. AssignClass code k) front n) (number_spelled 1 255 class least most (omega arith))
        ∙ ap (λ o. named (λ code. AssignClass code class) o) f ∙ taken (λ code. AssignClass code class) name is

priority_assigned : (name : List ℕ) (priority : ℕ) → IsName name → priority ≤ 14 → assigned_in (name ++ (codes " PRIORITY " ++ decimal priority)) ≡ Some (AssignPriority name priority)
unfolding assigned_in
priority_assigned name priority is most =
    let bytes = true_is (list_all is_name_byte name) is.2 in
    by (operands (name ++ (codes " PRIORITY " ++ decimal priority))) (first_word (name ++ (codes " PRIORITY " ++ decimal priority)))
    (name_behind name (codes "PRIORITY " ++ decimal priority) bytes) (name_first name (codes "PRIORITY " ++ decimal priority) bytes)
  where
    by : (behind front : List ℕ) → behind ≡ codes "PRIORITY " ++ decimal priority → front ≡ name
        → (if bytes_eq (first_word behind) (codes "CLASS") then assigned (λ code k. AssignClass code k) front (spelled_number 1 255 (operands behind))
        else if bytes_eq (first_word behind) (codes "PRIORITY") then assigned (λ code p. AssignPriority code p) front (spelled_number 0 14 (operands behind)) else None) ≡ Some (AssignPriority name priority)
    by behind front b f =
        ap (λ o. if bytes_eq (first_word o) (codes "CLASS") then assigned (λ code k. AssignClass code k) front (spelled_number 1 255 (operands o))
        else if bytes_eq (first_word o) (codes "PRIORITY") then assigned (λ code p. AssignPriority code p) front (spelled_number 0 14 (operands o)) else None) b
        ∙ ap (λ n. assigned (λ code p. AssignPriority code p) front n) (number_spelled 0 14 priority (omega arith) most (omega arith))
        ∙ ap (λ o. named (λ code. AssignPriority code priority) o) f ∙ taken (λ code. AssignPriority code priority) name is

command_spelled : (c : LastingCommand) → IsName (name_in c) → IsAssigned c → command_in (command_spelling c) ≡ Some c
unfolding command_in start_in stop_in dequeue_in assign_in
command_spelled (StartTransaction code) is right = taken (λ c. StartTransaction c) code is
command_spelled (StopTransaction code) is right = taken (λ c. StopTransaction c) code is
command_spelled (StartTerminal terminal) is right = taken (λ t. StartTerminal t) terminal is
command_spelled (StopTerminal terminal) is right = taken (λ t. StopTerminal t) terminal is
command_spelled (DequeueFirst terminal) is right = purge_first terminal is
command_spelled (DequeueAll terminal) is right = purge_all terminal is
command_spelled (Exit terminal) is right = taken (λ t. Exit t) terminal is
command_spelled (AssignClass code class) is right = class_assigned code class is right.0 right.1
command_spelled (AssignPriority code priority) is right = priority_assigned code priority is right

pub spelled_read : (text : List ℕ) (c : LastingCommand) → SpellsCommand text c → command_in text ≡ Some c
spelled_read text c is = ap command_in is.spelled ∙ command_spelled c is.named is.assigned

-- what is read is what is spelled, and the other way round
pub reads_spelled : (text : List ℕ) (c : LastingCommand) → (command_in text ≡ Some c) ↔ SpellsCommand text c
reads_spelled text c = (read_spells text c, spelled_read text c)
