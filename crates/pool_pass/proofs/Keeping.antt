-- Each kind of step keeps the rule.
use Rattle.std.proofs.Common.{◌≡◌, ◌≢◌, ℕ, zero, suc, ◌+◌, ◌-◌, ◌<◌, ◌≤◌, true, false, cond, List, [], ◌∷◌, ◌++◌, set, length, Some, None, refl, sym, ap, ◌∙◌, subst, ⊎_elim, inl, inr, arith}
use Rattle.std.specs.Prelude.{Option, is_some, ◌==◌}
use Rattle.std.specs.List.{All}
use Rattle.std.proofs.lemmas.Bool.{cases_lt}
use Rattle.std.proofs.lemmas.Bool.Decides.{eqb_tells}
use Rattle.std.proofs.lemmas.List.Elements.{All-append}
use mathlib.Core.Option.{some, some-injective, some-ne-none}
use lib.ListN.{get_elem?}
use Rattle.atomic_table.proofs.Lists.{at_set, at_snoc, set_else}
use Rattle.pool_pass.specs.Book.{under, tagged, times}
use Rattle.pool_pass.specs.Passes.{book_in, holder_of, number_in, list_in, others_in}
use Rattle.pool_pass.specs.Rule.{spent, has_book, in_all, Fits, IsKept, maker, after_making, next_pass, taking_in, written, without_book, book_alone, Tells}
use Rattle.pool_pass.specs.declared.views.View.{View}
use Rattle.pool_pass.proofs.Books.{All-first, All-rest, All-both, All-none, under_own, under_added, times-append, times_here, times_else, lists_stay}
use Rattle.pool_pass.proofs.Counts.{in_all_set, in_all_new, in_all_at, in_all_two}
use Rattle.pool_pass.proofs.Numbers.{none_missing}

module _ {I : Type 0} where
  abbrev pub counted : ℕ → View I → ℕ
  counted number view = times number view.kept

  apart_none : (book : List (ℕ × I)) (view : View I) → view.book ≡ Some book → view.book ≡ None → ⊥
  apart_none book view has none =
      let two : has_book view ≡ 1 = ap (λ (o : Option (List (ℕ × I))). cond {A = ℕ} (is_some o) 1 0) has in
      let nought : has_book view ≡ 0 = ap (λ (o : Option (List (ℕ × I))). cond {A = ℕ} (is_some o) 1 0) none in absurd (omega (arith, two, nought))

  each_set : (P : View I → Type 0) (views : List (View I)) (seat : ℕ) (now : View I) → P now → ((other : ℕ) (its : View I) → other ≢ seat → get_elem? views other ≡ some its → P its) → (other : ℕ) (its : View I) → get_elem? (set views seat now) other ≡ some its → P its
  each_set P views seat now here there other its at = ⊎_elim
      (λ (t : (other ≡ seat) × (now ≡ its)). subst P t.1 here)
      (λ (t : (other ≢ seat) × (get_elem? views other ≡ some its)). there other its t.0 t.1)
      (at_set views seat other now its at)

  each_new : (P : View I → Type 0) (views : List (View I)) (new : View I) → P new → ((other : ℕ) (its : View I) → get_elem? views other ≡ some its → P its) → (other : ℕ) (its : View I) → get_elem? (views ++ new ∷ []) other ≡ some its → P its
  each_new P views new here there other its at = ⊎_elim (λ (was : get_elem? views other ≡ some its). there other its was) (λ (same : new ≡ its). subst P same here) (at_snoc views new its other at)

  -- of a view that isn't spent
  count_is : (passes made : ℕ) (whole : List (ℕ × I)) (view : View I) → Fits passes made whole view → (view ≡ spent → ⊥) → view.passes ≡ passes
  count_is passes made whole view f live = ⊎_elim (λ (e : view ≡ spent). absurd (live e)) (λ (e : view.passes ≡ passes). e) f.count

  -- the book of the view that has it
  whole_is : (passes made : ℕ) (whole book : List (ℕ × I)) (view : View I) → Fits passes made whole view → view.book ≡ Some book → whole ≡ book
  whole_is passes made whole book view f has = ⊎_elim (λ (e : view.book ≡ None). absurd (apart_none book view has e)) (λ (e : view.book ≡ Some whole). ap book_in (sym e ∙ has)) f.book

  -- where one has the book, the others have none, and none to make
  no_other : (passes : ℕ) (views : List (View I)) (h : IsKept passes views) (seat : ℕ) (view : View I) (book : List (ℕ × I)) → get_elem? views seat ≡ some view → view.book ≡ Some book → (other : ℕ) (its : View I) → other ≢ seat → get_elem? views other ≡ some its → its.book ≡ None
  no_other passes views h seat view book at has other its apart there = ⊎_elim
      (λ (e : its.book ≡ None). e)
      (λ (e : its.book ≡ Some h.whole).
      let mine : has_book view ≡ 1 = ap (λ (o : Option (List (ℕ × I))). cond {A = ℕ} (is_some o) 1 0) has in
      let theirs : has_book its ≡ 1 = ap (λ (o : Option (List (ℕ × I))). cond {A = ℕ} (is_some o) 1 0) e in
      let two = in_all_two has_book views seat other view its apart at there in
      let one = h.one_book in absurd (omega (arith, mine, theirs, two, one)))
      (h.each other its there).book

  none_to_make : (passes made : ℕ) (whole : List (ℕ × I)) (view : View I) → Fits passes made whole view → view.book ≡ None → view.to_make ≡ 0
  none_to_make passes made whole view f none = ⊎_elim (λ (e : view.to_make ≡ 0). e) (λ (t : (made + view.to_make ≡ passes) × (view.book ≡ Some whole)). absurd (apart_none whole view t.1 none)) f.to_make

  -- kind 1
  pub making : (passes seat : ℕ) (views : List (View I)) (view : View I) → 0 < view.to_make → IsKept passes views → get_elem? views seat ≡ some view → IsKept passes (set views seat (after_making view) ++ next_pass view ∷ [])
  making passes seat views view more h at =
      let f = h.each seat view at in
      let left : (h.made + view.to_make ≡ passes) × (view.book ≡ Some h.whole) = ⊎_elim (λ (z : view.to_make ≡ 0). absurd (omega arith)) (λ (t : (h.made + view.to_make ≡ passes) × (view.book ≡ Some h.whole)). t) f.to_make in
      let sum = left.0 in
      let same : view.passes ≡ passes = count_is passes h.made h.whole view f (λ e. let z : view.to_make ≡ 0 = ap (λ (v : View I). v.to_make) e in omega arith) in
      let next : view.passes - view.to_make ≡ h.made = omega (arith, sum, same) in
      let w = after_making view in
      let u = next_pass view in
      record {
        made = suc h.made;
        whole = h.whole;
        few = omega (arith, sum);
        one_book = let a = in_all_set has_book views seat view w at in let b = in_all_new has_book (set views seat w) u in let c = h.one_book in omega (arith, a, b, c);
        one_place = λ number below. let a = in_all_set (counted number) views seat view w at in let b = in_all_new (counted number) (set views seat w) u in ⊎_elim
            (λ (is : ((view.passes - view.to_make == number) ≡ true) × (view.passes - view.to_make ≡ number)).
            let one : cond {A = ℕ} (view.passes - view.to_make == number) 1 0 ≡ 1 = ap (λ t. cond {A = ℕ} t 1 0) is.0 in
            let n = is.1 in
            let old = (h.no_place number (omega (arith, n, next))).0 in omega (arith, a, b, one, old))
            (λ (not : ((view.passes - view.to_make == number) ≡ false) × (view.passes - view.to_make ≢ number)).
            let none : cond {A = ℕ} (view.passes - view.to_make == number) 1 0 ≡ 0 = ap (λ t. cond {A = ℕ} t 1 0) not.0 in
            let n = not.1 in
            let old = h.one_place number (omega (arith, n, next)) in omega (arith, a, b, none, old))
            (eqb_tells (view.passes - view.to_make) number);
        no_place = λ number past. let a = in_all_set (counted number) views seat view w at in let b = in_all_new (counted number) (set views seat w) u in
            let old = h.no_place number (omega arith) in
            let o = old.0 in
            let none = times_else {I = I} number (view.passes - view.to_make) [] [] (λ e. omega (arith, e, next)) in (omega (arith, a, b, none, o), old.1);
        each = each_new (Fits passes (suc h.made) h.whole) (set views seat w) u
            record {
              count = inr same;
              book = inl refl;
              to_make = inl refl;
              lists = All-both (λ entry. entry.1 ≡ under entry.0 h.whole) (view.passes - view.to_make, []) [] (sym (h.no_place (view.passes - view.to_make) (omega (arith, next))).1) (All-none (λ entry. entry.1 ≡ under entry.0 h.whole));
            }
            (each_set (Fits passes (suc h.made) h.whole) views seat w
            record { count = inr same; book = f.book; to_make = inr (omega (arith, sum), left.1); lists = f.lists }
            (λ other its apart there.
            let g = h.each other its there in
            record { count = g.count; book = g.book; to_make = inl (none_to_make passes h.made h.whole its g (no_other passes views h seat view h.whole at left.1 other its apart there)); lists = g.lists }));
      }

  -- kinds 2 and 5
  pub taking : (passes seat other : ℕ) (views : List (View I)) (view its : View I) → view.book ≡ None → view.to_make ≡ 0 → its.to_make ≡ 0 → 0 < length view.kept
      → IsKept passes views → get_elem? views seat ≡ some view → ¬ (other ≡ seat) → get_elem? (set views seat (taking_in view its)) other ≡ some its → IsKept passes (set (set views seat (taking_in view its)) other spent)
  taking passes seat other views view its none done ended live h at apart there =
      let f = h.each seat view at in
      let was : get_elem? views other ≡ some its = sym (set_else views seat other (taking_in view its) apart) ∙ there in
      let g = h.each other its was in
      let same : view.passes ≡ passes = count_is passes h.made h.whole view f (λ e. let z : length view.kept ≡ 0 = ap (λ (v : View I). length v.kept) e in omega (arith, z)) in
      let w = taking_in view its in
      let nought : has_book view ≡ 0 = ap (λ (o : Option (List (ℕ × I))). cond {A = ℕ} (is_some o) 1 0) none in
      record {
        made = h.made;
        whole = h.whole;
        few = h.few;
        one_book = let a = in_all_set has_book views seat view w at in let b = in_all_set has_book (set views seat w) other its spent there in let c = h.one_book in omega (arith, a, b, c, nought);
        one_place = λ number below. let c = h.one_place number below in omega (arith, c, moved number);
        no_place = λ number past. let c = h.no_place number past in let d = c.0 in (omega (arith, d, moved number), c.1);
        each = each_set (Fits passes h.made h.whole) (set views seat w) other spent
            record { count = inl refl; book = inl refl; to_make = inl refl; lists = All-none (λ entry. entry.1 ≡ under entry.0 h.whole) }
            (λ third v away here. each_set (Fits passes h.made h.whole) views seat w
            record { count = inr same; book = g.book; to_make = inl done; lists = All-append (λ entry. entry.1 ≡ under entry.0 h.whole) view.kept its.kept f.lists g.lists }
            (λ fourth u far found. h.each fourth u found)
            third v here);
      }
    where
      moved : (number : ℕ) → in_all (counted number) (set (set views seat (taking_in view its)) other spent) ≡ in_all (counted number) views
      moved number =
          let a = in_all_set (counted number) views seat view (taking_in view its) at in
          let b = in_all_set (counted number) (set views seat (taking_in view its)) other its spent there in
          let c = times-append number view.kept its.kept in omega (arith, a, b, c)

  -- kind 3
  abbrev pub holder : ℕ → ℕ → List (ℕ × I) → ℕ → List I → List (ℕ × List I) → View I
  holder passes to_make book number list kept = record { passes = passes; to_make = to_make; book = Some book; kept = (number, list) ∷ kept }

  pub writing : (all seat : ℕ) (views : List (View I)) (passes to_make : ℕ) (book : List (ℕ × I)) (number : ℕ) (list : List I) (kept : List (ℕ × List I)) (added : List I)
      → IsKept all views → get_elem? views seat ≡ some (holder passes to_make book number list kept)
      → IsKept all (set views seat (written added (holder passes to_make book number list kept))) × Tells (written added (holder passes to_make book number list kept))
  writing all seat views passes to_make book number list kept added h at =
      let v = holder passes to_make book number list kept in
      let w = written added v in
      let f = h.each seat v at in
      let is : h.whole ≡ book = whole_is all h.made h.whole book v f refl in
      let now = h.whole ++ tagged number added in
      let mine : counted number v ≡ suc (times number kept) = times_here number list kept in
      let most = in_all_at (counted number) views seat v at in
      let below : number < h.made = ⊎_elim (λ (b : number < h.made). b) (λ (past : h.made ≤ number). let z = (h.no_place number past).0 in absurd (omega (arith, z, mine, most))) (cases_lt number h.made) in
      let one = h.one_place number below in
      let alone : times number kept ≡ 0 = omega (arith, one, mine, most) in
      let same : passes ≡ all = count_is all h.made h.whole v f (λ e. let z : suc (length kept) ≡ 0 = ap (λ (x : View I). length x.kept) e in omega (arith, z)) in
      let noted : Some (book ++ tagged number added) ≡ Some now = ap (λ b. Some (b ++ tagged number added)) (sym is) in
      let lists : All (λ entry. entry.1 ≡ under entry.0 now) w.kept = All-both (λ entry. entry.1 ≡ under entry.0 now) (number, list ++ added) kept
      (ap (λ l. l ++ added) (All-first (λ entry. entry.1 ≡ under entry.0 h.whole) (number, list) kept f.lists) ∙ sym (under_own number h.whole added))
      (lists_stay number added h.whole kept alone (All-rest (λ entry. entry.1 ≡ under entry.0 h.whole) (number, list) kept f.lists)) in
      let nothing_past : (k : ℕ) → h.made ≤ k → under k now ≡ [] = λ k past. under_added k number h.whole added (λ e. omega (arith, e, below)) ∙ (h.no_place k past).1 in
      let moved : (k : ℕ) → in_all (counted k) (set views seat w) ≡ in_all (counted k) views = λ k. let a = in_all_set (counted k) views seat v w at in omega (arith, a) in (
        record {
          made = h.made;
          whole = now;
          few = h.few;
          one_book = let a = in_all_set has_book views seat v w at in let c = h.one_book in omega (arith, a, c);
          one_place = λ k low. moved k ∙ h.one_place k low;
          no_place = λ k past. (moved k ∙ (h.no_place k past).0, nothing_past k past);
          each = each_set (Fits all h.made now) views seat w
              record {
                count = inr same;
                book = inr noted;
                to_make = ⊎_elim (λ (z : to_make ≡ 0). inl z) (λ (t : (h.made + to_make ≡ all) × (Some book ≡ Some h.whole)). inr (t.0, noted)) f.to_make;
                lists = lists;
              }
              (λ other its apart there.
              let g = h.each other its there in
              let bare = no_other all views h seat v book at refl other its apart there in
              let two = in_all_two (counted number) views seat other v its apart at there in
              record {
                count = g.count;
                book = inl bare;
                to_make = inl (none_to_make all h.made h.whole its g bare);
                lists = lists_stay number added h.whole its.kept (omega (arith, two, one, mine)) g.lists;
              });
        },
        record {
          whole = now;
          book = noted;
          lists = lists;
          others = λ full k none. ⊎_elim
              (λ (low : k < h.made).
              let few = h.few in
              absurd (none_missing h.made w.kept
              (λ j less. let a = in_all_at (counted j) views seat v at in let b = h.one_place j less in omega (arith, a, b))
              (λ j past. let a = in_all_at (counted j) views seat v at in let b = (h.no_place j past).0 in omega (arith, a, b))
              (omega (arith, few, full, same)) k low none))
              (λ (past : h.made ≤ k). nothing_past k past)
              (cases_lt k h.made);
        },
      )

  -- kind 4
  pub laying : (passes seat : ℕ) (views : List (View I)) (view : View I) (book : List (ℕ × I)) → view.book ≡ Some book → view.to_make ≡ 0 → IsKept passes views → get_elem? views seat ≡ some view
      → IsKept passes (set views seat (without_book view) ++ book_alone view ∷ [])
  laying passes seat views view book has done h at =
      let f = h.each seat view at in
      let w = without_book view in
      let u = book_alone view in
      let same : view.passes ≡ passes = count_is passes h.made h.whole view f (λ e. apart_none book view has (ap (λ (v : View I). v.book) e)) in
      let moved : (k : ℕ) → in_all (counted k) (set views seat w ++ u ∷ []) ≡ in_all (counted k) views = λ k. let a = in_all_set (counted k) views seat view w at in let b = in_all_new (counted k) (set views seat w) u in omega (arith, a, b) in
      record {
        made = h.made;
        whole = h.whole;
        few = h.few;
        one_book = let a = in_all_set has_book views seat view w at in let b = in_all_new has_book (set views seat w) u in let c = h.one_book in omega (arith, a, b, c);
        one_place = λ k low. moved k ∙ h.one_place k low;
        no_place = λ k past. (moved k ∙ (h.no_place k past).0, (h.no_place k past).1);
        each = each_new (Fits passes h.made h.whole) (set views seat w) u
            record { count = inr same; book = f.book; to_make = inl done; lists = All-none (λ entry. entry.1 ≡ under entry.0 h.whole) }
            (each_set (Fits passes h.made h.whole) views seat w
            record { count = inr same; book = inl refl; to_make = inl done; lists = f.lists }
            (λ other its apart there. h.each other its there));
      }

-- the beginning
pub opening : (I : Type 0) (passes : ℕ) → 1 ≤ passes → IsKept {I = I} passes (maker passes ∷ [])
opening I passes many = record {
  made = 1;
  whole = [];
  few = many;
  one_book = refl;
  one_place = λ number below. let zero_it : 0 ≡ number = omega arith in let one = times_here {I = I} 0 [] [] in subst (λ k. in_all (counted {I = I} k) (maker passes ∷ []) ≡ 1) zero_it (omega (arith, one));
  no_place = λ number past. (let none = times_else {I = I} number 0 [] [] (λ e. omega (arith, e)) in omega (arith, none), refl);
  each = first;
}
  where
    fits : Fits {I = I} passes 1 [] (maker passes)
    fits = record {
      count = inr refl;
      book = inr refl;
      to_make = inr ((omega arith), refl);
      lists = All-both (λ (entry : ℕ × List I). entry.1 ≡ under entry.0 []) (0, []) [] refl (All-none (λ (entry : ℕ × List I). entry.1 ≡ under entry.0 []));
    }

    first : (seat : ℕ) (view : View I) → get_elem? (maker passes ∷ []) seat ≡ some view → Fits passes 1 [] view
    first zero view at = subst (Fits passes 1 []) (some-injective _ _ at) fits
    first (suc seat) view at = absurd (some-ne-none view (sym at))

module _ {I : Type 0} where
  -- kind 3, at a view that is known to have the book and a number
  pub writing_as : (all seat : ℕ) (views : List (View I)) (view : View I) (added : List I) → view ≡ holder_of view
      → IsKept all views → get_elem? views seat ≡ some view → IsKept all (set views seat (written added view)) × Tells (written added view)
  writing_as all seat views view added is = subst
      (λ u. IsKept all views → get_elem? views seat ≡ some u → IsKept all (set views seat (written added u)) × Tells (written added u))
      (sym is)
      (λ h at. writing all seat views view.passes view.to_make (book_in view.book) (number_in view.kept) (list_in view.kept) (others_in view.kept) added h at)
