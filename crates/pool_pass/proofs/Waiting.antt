-- Turns one after another until one answers true.
use Rattle.std.proofs.Common.{◌≡◌, List, [], ◌∷◌, ◌++◌, Bool, true, false, refl, sym, ap, ◌∙◌, subst, append_assoc, append-nil}
use Rattle.std.specs.List.{FoldsTo}
use Rattle.std.proofs.lemmas.Fn.{FoldsTo-push}
use Rattle.pool_pass.specs.Passes.{PassState, pass_of, with_list, number_in, list_in, IsTurn, TurnsOnce, IsTurnsUntil, Lengthens}
use Rattle.pool_pass.specs.declared.views.View.{View}

module _ {T I F : Type 0} (list : T → List I) (calls : F → T → Bool → F → T → Type 0) where
  -- what stands after some turns that answered false
  pub record IsWaiting (was : View I) (first : F) (now : View I) (state : F) : Type 0 where
    pub same : pass_of now ≡ with_list (pass_of was) (list_in now.kept)
    pub longer : Lengthens (list_in was.kept) (list_in now.kept)
    pub turns : List (Unit {0})
    pub waits : FoldsTo (TurnsOnce list (number_in was.kept) calls false) (first, list_in was.kept) turns (state, list_in now.kept)

  pub waiting_first : (was : View I) (first : F) → IsWaiting was first was first
  waiting_first was first = record { same = refl; longer = ([], sym (append-nil (list_in was.kept))); turns = []; waits = refl }

  pub number_stays : (was now : View I) (first state : F) → IsWaiting was first now state → number_in now.kept ≡ number_in was.kept
  number_stays was now first state w = ap (λ (p : PassState I). p.number) w.same

  turn_of : (was now : View I) (first state : F) → IsWaiting was first now state → (ran : T → T → Type 0) (after : List I) → IsTurn list (number_in now.kept) ran (list_in now.kept) after → IsTurn list (number_in was.kept) ran (list_in now.kept) after
  turn_of was now first state w ran after turn = subst (λ number. IsTurn list number ran (list_in now.kept) after) (number_stays was now first state w) turn

  pub waiting_more : (was now next : View I) (first state left : F) → IsWaiting was first now state → pass_of next ≡ with_list (pass_of now) (list_in next.kept)
      → IsTurn list (number_in now.kept) (λ x y. calls state x false left y) (list_in now.kept) (list_in next.kept) → IsWaiting was first next left
  waiting_more was now next first state left w same turn = record {
    same = same ∙ ap (λ (p : PassState I). with_list p (list_in next.kept)) w.same;
    longer = (w.longer.0 ++ turn.added, turn.noted ∙ ap (λ xs. xs ++ turn.added) w.longer.1 ∙ append_assoc (list_in was.kept) w.longer.0 turn.added);
    turns = w.turns ++ tt ∷ [];
    waits = FoldsTo-push (TurnsOnce list (number_in was.kept) calls false) (first, list_in was.kept) w.turns (state, list_in now.kept) tt (left, list_in next.kept) w.waits (turn_of was now first state w (λ x y. calls state x false left y) (list_in next.kept) turn);
  }

  pub waiting_ends : (was now : View I) (after : List I) (first state left : F) → IsWaiting was first now state
      → IsTurn list (number_in now.kept) (λ x y. calls state x true left y) (list_in now.kept) after → IsTurnsUntil list (number_in was.kept) calls first (list_in was.kept) after
  waiting_ends was now after first state left w turn = record {
    turns = w.turns;
    state = (state, list_in now.kept);
    last = left;
    waits = w.waits;
    ends = turn_of was now first state w (λ x y. calls state x true left y) after turn;
  }
