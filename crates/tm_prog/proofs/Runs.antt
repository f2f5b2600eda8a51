-- The last line of a run.
use Rattle.std.proofs.Common.{◌≡◌, ℕ, List, [], ◌∷◌, ◌++◌, codes, sym, subst, refl, inl, inr}
use Rattle.std.specs.Prelude.{Option, Some, None, IsSome}
use Rattle.std.specs.Io.KnownBytes.{append_known}
use Rattle.tm_disk.specs.Disk.{DiskState}
use Rattle.model_session.specs.SessionState.{Stop}
use Rattle.openings.specs.declared.life.Life.{Life}
use Rattle.tm_edge.specs.Fault.{HasRisen, AppendsFront}
use Rattle.tm_session.specs.declared.outcome.Ended.{Ended}
use Rattle.tm_session.specs.declared.outcome.Ended.TheVariants.{Memory}
use Rattle.tm_prog.specs.declared.words.Workload.{Workload}
use Rattle.tm_session.specs.Headline.{IsSession}
use Rattle.tm_prog.specs.Words.{WordFault, FaultIs, word_fault, workload_of}
use Rattle.tm_prog.specs.Workload.{workload_bytes_of, IsDrilled, IsWorkload}
use Rattle.tm_prog.specs.Status.{IsLastLine, IsSessionServed, IsByWords, IsRun}

-- ---- the last line

pub last_none : (old : Option (List ℕ)) (line : List ℕ) (a : ℕ) → line ≡ [] → IsLastLine old old line a a
last_none old [] a none = (refl, refl)
last_none old (b ∷ line) a none = cc

pub last_written : (old new : Option (List ℕ)) (line : List ℕ) (a b : ℕ) → (line ≡ [] → ⊥) → new ≡ append_known old line → b ≡ a → IsLastLine old new line a b
last_written old new [] a b some written calm = absurd (some refl)
last_written old new (c ∷ line) a b some written calm = inl (written, calm)

pub last_failed : (old new : Option (List ℕ)) (line : List ℕ) (a b : ℕ) → (line ≡ [] → ⊥) → AppendsFront old new line → HasRisen a b → IsLastLine old new line a b
last_failed old new [] a b some front risen = absurd (some refl)
last_failed old new (c ∷ line) a b some front risen = inr (front, risen)

pub ruleset last_steps = (last_none, last_written, last_failed)

-- ---- a run without memory

pub unbegun_drill : {D : Type 0} (state : D → DiskState) (text : List ℕ) (handed disk : D) (lives : List Life) (stops : List Stop) → lives ≡ [] → stops ≡ [] → disk ≡ handed
    → IsDrilled state text handed disk Memory lives stops []
unbegun_drill state text handed disk lives stops no_life no_stop same = record {
  left = text;
  writes = 0;
  session = inr (inl (record { unbegun = tt; same = same }), record { no_life = no_life; no_stop = no_stop; nothing = refl });
  whole = tt;
  cause = (refl, refl);
}

pub unbegun_workload : {D : Type 0} (state : D → DiskState) (workload : Workload) (old : Option (List ℕ)) (summary : List ℕ) (handed disk : D) (status : Ended) (lives : List Life) (stops : List Stop)
    → summary ≡ [] → status ≡ Memory → lives ≡ [] → stops ≡ [] → disk ≡ handed → IsWorkload state workload old old summary handed disk status lives stops
unbegun_workload state workload old summary handed disk status lives stops none is no_life no_stop same = record {
  ended = Memory;
  printed = [];
  drilled = unbegun_drill state (workload_bytes_of workload) handed disk lives stops no_life no_stop same;
  told = inr (record { status_is = is; nothing = refl; none = none });
}

never_served : {D : Type 0} (state : D → DiskState) (workload : Option Workload) (told old : Option (List ℕ)) (handed disk : D) (lives : List Life) (stops : List Stop) → lives ≡ [] → stops ≡ [] → disk ≡ handed
    → IsSessionServed state workload told told old old [] handed disk Memory lives stops
never_served state (Some workload) told old handed disk lives stops no_life no_stop same =
    (refl, unbegun_workload state workload old [] handed disk Memory lives stops refl refl no_life no_stop same)
never_served state None told old handed disk lives stops no_life no_stop same =
    (refl, inr (inl (record { unbegun = tt; same = same }), record { no_life = no_life; no_stop = no_stop; nothing = refl }))

never_begun : {D : Type 0} (state : D → DiskState) (fault : Option WordFault) (workload : Option Workload) (told old : Option (List ℕ)) (handed disk : D) (lives : List Life) (stops : List Stop) → lives ≡ [] → stops ≡ [] → disk ≡ handed
    → IsByWords state fault workload told told old old [] handed disk Memory lives stops
never_begun state (Some fault) workload told old handed disk lives stops no_life no_stop same =
    (refl, record { status_is = inr refl; no_life = no_life; no_stop = no_stop; nothing = refl; same = same })
never_begun state None workload told old handed disk lives stops no_life no_stop same =
    never_served state workload told old handed disk lives stops no_life no_stop same

-- ---- a session of the source

no_fault : (fault : Option WordFault) → FaultIs fault None → fault ≡ None
no_fault None none = refl
no_fault (Some fault) none = absurd none

pub served_source : {D : Type 0} (state : D → DiskState) (fault : Option WordFault) (workload : Option Workload) (told left old new : Option (List ℕ)) (summary : List ℕ) (handed disk : D) (status : Ended) (lives : List Life) (stops : List Stop)
    → FaultIs fault None → None ≡ workload → summary ≡ [] → IsSession state told left old new handed disk status lives stops
    → IsByWords state fault workload told left old new summary handed disk status lives stops
served_source state fault workload told left old new summary handed disk status lives stops valid none empty session =
    subst (λ f. IsByWords state f workload told left old new summary handed disk status lives stops) (sym (no_fault fault valid))
    (subst (λ w. IsByWords state None w told left old new summary handed disk status lives stops) none (empty, session))

-- words that break no rule have no fault
pub none_broken : (fault : Option WordFault) → FaultIs fault None → IsSome fault → ⊥
none_broken None valid some = absurd cc
none_broken (Some fault) valid some = valid

abbrev memory_line : List ℕ
memory_line = codes "STATUS 7 MEMORY" ++ 10 ∷ []

pub no_room : {D : Type 0} (state : D → DiskState) (words : List (List ℕ)) (told old new : Option (List ℕ)) (handed disk : D) (status : Ended) (lives : List Life) (stops : List Stop) (r w w' : ℕ)
    → status ≡ Memory → lives ≡ [] → stops ≡ [] → disk ≡ handed → IsLastLine old new memory_line w w' → IsRun state words told told old new handed disk status lives stops r r w w'
no_room state words told old new handed disk status lives stops r w w' is no_life no_stop same last =
    subst (λ s. IsRun state words told told old new handed disk s lives stops r r w w') (sym is) (record {
      before = old;
      summary = [];
      writes = w;
      session = never_begun state (word_fault words) (workload_of words) told old handed disk lives stops no_life no_stop same;
      cause = (refl, refl);
      last = last;
    })
