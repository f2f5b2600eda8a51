-- Numbers that are counted on are those that the machine gives.
use Rattle.std.proofs.Common.{◌≡◌, ℕ, ◌+◌, ◌<◌, Bool, true, false, cond, List, [], ◌∷◌, ◌++◌, length, take, drop, get_or, refl, sym, ap, ◌∙◌, subst, Some, arith}
use Rattle.std.specs.Prelude.{count_by, if◌then◌else◌, Option}
use Rattle.std.specs.List.{flat_map, AllByRecursion}
use Rattle.std.specs.Option.{is_some, option_map_or}
use Rattle.std.specs.Str.{bytes_eq}
use Rattle.std.proofs.lemmas.Slice.Eq.{bytes_eq-Decides}
use Rattle.std.proofs.lemmas.List.{append_assoc, drop_more, take_more}
use Rattle.std.proofs.lemmas.List.Sums.{sum_by_push}
use Rattle.model_messages.specs.declared.conversation.PadChange.{PadChange}
use Rattle.model_messages.specs.declared.replies.TerminalReplies.{TerminalReplies}
use Rattle.model_messages.specs.Outputs.{are_replies_of, next_of, replies_at, with_terminal, with_reply}
use Rattle.model_messages.specs.declared.ended_message.EndedMessage.{EndedMessage}
use Rattle.model_machine.specs.Machine.{LastingState}
use Rattle.model_machine.specs.LastingSteps.{replied, switched}
use Rattle.log_records.specs.declared.record.Record.{Record}
use Rattle.log_records.specs.declared.record.Record.TheVariants.{Input, Reply, Completed, SyncPoint}
use Rattle.log_records.specs.RecordSpelling.{record_spelling, IsLogRecord}
use Rattle.model_image.specs.StepRecords.{output_records, completion_records}
use Rattle.lasting_state.specs.RecordRanges.{HaveCounts}
use Rattle.lasting_state.specs.OutputRecords.{goes_to, counted_record, counted_records, counted_completion, id_after}

-- ---- a terminal with one reply more

-- the same ones are there
pub there_still : (other name : List ℕ) (segments : List (List ℕ)) (outputs : List TerminalReplies)
    → is_some (replies_at other (with_terminal name (with_reply segments) outputs)) ≡ is_some (replies_at other outputs)
there_still other name segments [] = refl
there_still other name segments (t ∷ ts) = by (are_replies_of name t) (are_replies_of other t) refl (there_still other name segments ts)
  where
    by : (b c : Bool) → are_replies_of other t ≡ c → is_some (replies_at other (with_terminal name (with_reply segments) ts)) ≡ is_some (replies_at other ts)
        → is_some (replies_at other (cond b (with_reply segments t ∷ ts) (t ∷ with_terminal name (with_reply segments) ts))) ≡ is_some (cond c (Some t) (replies_at other ts))
    by true true q rest = ap (λ c. is_some (cond c (Some (with_reply segments t)) (replies_at other ts))) q
    by true false q rest = ap (λ c. is_some (cond c (Some (with_reply segments t)) (replies_at other ts))) q
    by false true q rest = ap (λ c. is_some (cond c (Some t) (replies_at other (with_terminal name (with_reply segments) ts)))) q
    by false false q rest = ap (λ c. is_some (cond c (Some t) (replies_at other (with_terminal name (with_reply segments) ts)))) q ∙ rest

abbrev next_by : Option TerminalReplies → ℕ
next_by found = option_map_or (λ t. t.next) found 1

-- its next number is one more
own_next : (name : List ℕ) (segments : List (List ℕ)) (outputs : List TerminalReplies) → is_some (replies_at name outputs) ≡ true
    → next_of name (with_terminal name (with_reply segments) outputs) ≡ next_of name outputs + 1
own_next name segments [] there = let clash : false ≡ true = there in absurd (cc)
own_next name segments (t ∷ ts) there = by (are_replies_of name t) refl there (own_next name segments ts)
  where
    by : (b : Bool) → are_replies_of name t ≡ b → is_some (cond b (Some t) (replies_at name ts)) ≡ true
        → (is_some (replies_at name ts) ≡ true → next_of name (with_terminal name (with_reply segments) ts) ≡ next_of name ts + 1)
        → next_by (replies_at name (cond b (with_reply segments t ∷ ts) (t ∷ with_terminal name (with_reply segments) ts))) ≡ next_by (cond b (Some t) (replies_at name ts)) + 1
    by true q g rest = ap (λ b. next_by (cond b (Some (with_reply segments t)) (replies_at name ts))) q
    by false q g rest = ap (λ b. next_by (cond b (Some t) (replies_at name (with_terminal name (with_reply segments) ts)))) q ∙ rest g

-- and that of every other terminal is as before
other_next : (name to : List ℕ) (segments : List (List ℕ)) (outputs : List TerminalReplies) → bytes_eq to name ≡ false
    → next_of name (with_terminal to (with_reply segments) outputs) ≡ next_of name outputs
other_next name to segments [] apart = refl
other_next name to segments (t ∷ ts) apart = by (are_replies_of to t) (are_replies_of name t) refl refl (other_next name to segments ts apart)
  where
    by : (b c : Bool) → are_replies_of to t ≡ b → are_replies_of name t ≡ c → next_of name (with_terminal to (with_reply segments) ts) ≡ next_of name ts
        → next_by (replies_at name (cond b (with_reply segments t ∷ ts) (t ∷ with_terminal to (with_reply segments) ts))) ≡ next_by (cond c (Some t) (replies_at name ts))
    by true true p q rest =
        let first : t.terminal ≡ to = (bytes_eq-Decides t.terminal to).0 p in
        let second : t.terminal ≡ name = (bytes_eq-Decides t.terminal name).0 q in
        let same : bytes_eq to name ≡ true = (bytes_eq-Decides to name).1 (sym first ∙ second) in
        let clash : false ≡ true = sym apart ∙ same in
        absurd (cc)
    by true false p q rest = ap (λ c. next_by (cond c (Some (with_reply segments t)) (replies_at name ts))) q
    by false true p q rest = ap (λ c. next_by (cond c (Some t) (replies_at name (with_terminal to (with_reply segments) ts)))) q
    by false false p q rest = ap (λ c. next_by (cond c (Some t) (replies_at name (with_terminal to (with_reply segments) ts)))) q ∙ rest

next_behind : (name : List ℕ) (output : EndedMessage) (outputs : List TerminalReplies) → is_some (replies_at name outputs) ≡ true
    → next_of name (with_terminal output.to (with_reply output.segments) outputs) ≡ next_of name outputs + (if goes_to name output then 1 else 0)
next_behind name output outputs there = by (bytes_eq output.to name) refl
  where
    by : (b : Bool) → bytes_eq output.to name ≡ b
        → next_of name (with_terminal output.to (with_reply output.segments) outputs) ≡ next_of name outputs + (if b then 1 else 0)
    by true e =
        let same : output.to ≡ name = (bytes_eq-Decides output.to name).0 e in
        ap (λ n. next_of name (with_terminal n (with_reply output.segments) outputs)) same ∙ own_next name output.segments outputs there
    by false e = other_next name output.to output.segments outputs e ∙ omega arith

-- one output more is counted or not
counted_behind : (name : List ℕ) (done : List EndedMessage) (output : EndedMessage)
    → count_by (goes_to name) (done ++ output ∷ []) ≡ count_by (goes_to name) done + (if goes_to name output then 1 else 0)
counted_behind name done output = sum_by_push (λ o. cond (goes_to name o) 1 0) done output

-- ---- the state behind some outputs

-- its terminals are the same, each with as many numbers more as outputs went there, and its next id is this
pub record Agrees (terminals : List TerminalReplies) (done : List EndedMessage) (next : ℕ) (lasting : LastingState) : Type 0 where
  pub there : (name : List ℕ) → is_some (replies_at name lasting.outputs) ≡ is_some (replies_at name terminals)
  pub numbers : (name : List ℕ) → is_some (replies_at name terminals) ≡ true → next_of name lasting.outputs ≡ next_of name terminals + count_by (goes_to name) done
  pub next_id : lasting.next_id ≡ next

agrees_first : (lasting : LastingState) → Agrees lasting.outputs [] lasting.next_id lasting
agrees_first lasting = record { there = λ name. refl; numbers = λ name there. omega arith; next_id = refl }

module _ (terminals : List TerminalReplies) (done : List EndedMessage) (next : ℕ) (lasting : LastingState) (origin : List ℕ) (output : EndedMessage) (a : Agrees terminals done next lasting) where
  agrees_replied : is_some (replies_at output.to terminals) ≡ true → Agrees terminals (done ++ output ∷ []) next (replied output lasting)
  agrees_replied there = record {
    there = λ name. there_still name output.to output.segments lasting.outputs ∙ a.there name;
    numbers = λ name here.
        let moved = next_behind name output lasting.outputs (a.there name ∙ here) in
        let before = a.numbers name here in
        let more = counted_behind name done output in
        omega (arith, moved, before, more);
    next_id = a.next_id;
  }

  agrees_switched : is_some (replies_at output.to terminals) ≡ false → Agrees terminals (done ++ output ∷ []) (next + 1) (switched origin output lasting)
  agrees_switched none = record {
    there = a.there;
    numbers = λ name here.
        let before = a.numbers name here in
        let more = counted_behind name done output ∙ ap (λ b. count_by (goes_to name) done + (if b then 1 else 0)) (passes name here (bytes_eq output.to name) refl) in
        omega (arith, before, more);
    next_id = ap (λ n. n + 1) a.next_id;
  }
    where
      passes : (name : List ℕ) → is_some (replies_at name terminals) ≡ true → (b : Bool) → bytes_eq output.to name ≡ b → b ≡ false
      passes name here true e =
          let same : output.to ≡ name = (bytes_eq-Decides output.to name).0 e in
          let clash : false ≡ true = sym none ∙ (ap (λ n. is_some (replies_at n terminals)) same ∙ here) in
          absurd (cc)
      passes name here false e = refl

-- the records of outputs are those with the numbers counted on
pub counted_is : (unit : ℕ) (origin : List ℕ) (terminals : List TerminalReplies) (done rest : List EndedMessage) (next : ℕ) (lasting : LastingState) → Agrees terminals done next lasting
    → output_records unit origin rest lasting ≡ counted_records unit origin done rest terminals next
counted_is unit origin terminals done [] next lasting a = refl
counted_is unit origin terminals done (output ∷ rest) next lasting a =
    ap left (a.there output.to) ∙ by (is_some (replies_at output.to terminals)) refl
    (λ e. counted_is unit origin terminals (done ++ output ∷ []) rest next (replied output lasting) (agrees_replied terminals done next lasting origin output a e))
    (λ e. counted_is unit origin terminals (done ++ output ∷ []) rest (next + 1) (switched origin output lasting) (agrees_switched terminals done next lasting origin output a e))
  where
    left : Bool → List Record
    left b =
        (if b then Reply unit output.to (next_of output.to lasting.outputs) output.segments else Input unit lasting.next_id origin output.to 0 false output.segments)
        ∷ output_records unit origin rest (if b then replied output lasting else switched origin output lasting)

    right : Bool → List Record
    right b =
        (if b then Reply unit output.to (next_of output.to terminals + count_by (goes_to output.to) done) output.segments else Input unit next origin output.to 0 false output.segments)
        ∷ counted_records unit origin (done ++ output ∷ []) rest terminals (if b then next else next + 1)

    by : (b : Bool) → is_some (replies_at output.to terminals) ≡ b
        → (is_some (replies_at output.to terminals) ≡ true → output_records unit origin rest (replied output lasting) ≡ counted_records unit origin (done ++ output ∷ []) rest terminals next)
        → (is_some (replies_at output.to terminals) ≡ false → output_records unit origin rest (switched origin output lasting) ≡ counted_records unit origin (done ++ output ∷ []) rest terminals (next + 1))
        → left b ≡ right b
    by true e replies switches =
        ap (λ n. Reply unit output.to n output.segments ∷ output_records unit origin rest (replied output lasting)) (a.numbers output.to e)
        ∙ ap (λ records. Reply unit output.to (next_of output.to terminals + count_by (goes_to output.to) done) output.segments ∷ records) (replies e)
    by false e replies switches =
        ap (λ n. Input unit n origin output.to 0 false output.segments ∷ output_records unit origin rest (switched origin output lasting)) a.next_id
        ∙ ap (λ records. Input unit next origin output.to 0 false output.segments ∷ records) (switches e)

-- ---- the records of a completion
pub completion_counted : (unit : ℕ) (origin : List ℕ) (id : ℕ) (outputs : List EndedMessage) (pad : PadChange) (terminals : List TerminalReplies) (next : ℕ)
    → (lasting : LastingState) → lasting.outputs ≡ terminals → lasting.next_id ≡ next
    → counted_completion unit origin id outputs pad terminals next ≡ completion_records unit origin id outputs lasting ++ SyncPoint unit pad ∷ []
completion_counted unit origin id outputs pad terminals next lasting same_outputs same_next =
    let agrees : Agrees terminals [] next lasting = record {
      there = λ name. ap (λ ts. is_some (replies_at name ts)) same_outputs;
      numbers = λ name there. ap (next_of name) same_outputs ∙ omega arith;
      next_id = same_next;
    } in
    ap (λ records. records ++ Completed unit id ∷ SyncPoint unit pad ∷ []) (sym (counted_is unit origin terminals [] outputs next lasting agrees))
    ∙ sym (append_assoc (output_records unit origin outputs lasting) (Completed unit id ∷ []) (SyncPoint unit pad ∷ []))

-- ---- one output more is put
pub put_more : (unit : ℕ) (origin : List ℕ) (terminals : List TerminalReplies) (outputs : List EndedMessage) (place id next earlier : ℕ) (output : EndedMessage) (before after whole : List ℕ)
    → place < length outputs → output ≡ get_or outputs place output
    → before ++ flat_map record_spelling (counted_records unit origin (take place outputs) (drop place outputs) terminals id) ≡ whole
    → HaveCounts (drop place outputs)
    → earlier ≡ count_by (goes_to output.to) (take place outputs)
    → after ≡ before ++ record_spelling (counted_record unit origin earlier output terminals id) → next ≡ id_after output terminals id
    → (after ++ flat_map record_spelling (counted_records unit origin (take (place + 1) outputs) (drop (place + 1) outputs) terminals next) ≡ whole) × HaveCounts (drop (place + 1) outputs)
put_more unit origin terminals outputs place id next earlier output before after whole below here so counts counted is moved =
    let rest : drop place outputs ≡ output ∷ drop (place + 1) outputs = drop_more outputs place output below ∙ ap (λ o. o ∷ drop (place + 1) outputs) (sym here) in
    let done : take (place + 1) outputs ≡ take place outputs ++ output ∷ [] = take_more outputs place output below ∙ ap (λ o. take place outputs ++ o ∷ []) (sym here) in
    let record_is : counted_record unit origin earlier output terminals id ≡ counted_record unit origin (count_by (goes_to output.to) (take place outputs)) output terminals id =
    ap (λ n. counted_record unit origin n output terminals id) counted in (
      ap (λ bs. bs ++ flat_map record_spelling (counted_records unit origin (take (place + 1) outputs) (drop (place + 1) outputs) terminals next)) is
          ∙ ap (λ n. (before ++ record_spelling (counted_record unit origin earlier output terminals id)) ++ flat_map record_spelling (counted_records unit origin (take (place + 1) outputs) (drop (place + 1) outputs) terminals n)) moved
          ∙ ap (λ os. (before ++ record_spelling (counted_record unit origin earlier output terminals id)) ++ flat_map record_spelling (counted_records unit origin os (drop (place + 1) outputs) terminals (id_after output terminals id))) done
          ∙ ap (λ r. (before ++ record_spelling r) ++ flat_map record_spelling (counted_records unit origin (take place outputs ++ output ∷ []) (drop (place + 1) outputs) terminals (id_after output terminals id))) record_is
          ∙ append_assoc before (record_spelling (counted_record unit origin (count_by (goes_to output.to) (take place outputs)) output terminals id))
          (flat_map record_spelling (counted_records unit origin (take place outputs ++ output ∷ []) (drop (place + 1) outputs) terminals (id_after output terminals id)))
          ∙ ap (λ os. before ++ flat_map record_spelling (counted_records unit origin (take place outputs) os terminals id)) (sym rest)
          ∙ so,
      (subst HaveCounts rest counts).1,
    )

-- and it is a record, so that all are where those to come are
pub valid_more : (unit : ℕ) (origin : List ℕ) (terminals : List TerminalReplies) (outputs : List EndedMessage) (place id next earlier : ℕ) (output : EndedMessage) (whole : Type 0)
    → place < length outputs → output ≡ get_or outputs place output
    → (AllByRecursion IsLogRecord (counted_records unit origin (take place outputs) (drop place outputs) terminals id) → whole)
    → earlier ≡ count_by (goes_to output.to) (take place outputs)
    → IsLogRecord (counted_record unit origin earlier output terminals id) → next ≡ id_after output terminals id
    → AllByRecursion IsLogRecord (counted_records unit origin (take (place + 1) outputs) (drop (place + 1) outputs) terminals next) → whole
valid_more unit origin terminals outputs place id next earlier output whole below here so counted valid moved later =
    let rest : drop place outputs ≡ output ∷ drop (place + 1) outputs = drop_more outputs place output below ∙ ap (λ o. o ∷ drop (place + 1) outputs) (sym here) in
    let done : take (place + 1) outputs ≡ take place outputs ++ output ∷ [] = take_more outputs place output below ∙ ap (λ o. take place outputs ++ o ∷ []) (sym here) in
    so
    (subst (λ (os : List EndedMessage). AllByRecursion IsLogRecord (counted_records unit origin (take place outputs) os terminals id)) (sym rest) (
      subst (λ n. IsLogRecord (counted_record unit origin n output terminals id)) counted valid,
      subst (λ n. AllByRecursion IsLogRecord (counted_records unit origin (take place outputs ++ output ∷ []) (drop (place + 1) outputs) terminals n)) moved
          (subst (λ (os : List EndedMessage). AllByRecursion IsLogRecord (counted_records unit origin os (drop (place + 1) outputs) terminals next)) done later),
    ))
