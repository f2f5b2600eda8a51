-- An opening that was refused.
use Rattle.std.proofs.Common.{◌≡◌, ℕ, Bool, false, List, [], ◌∷◌, ◌++◌, sym, ◌∙◌, ap, subst}
use Rattle.std.specs.Prelude.{Option}
use Rattle.tm_disk.specs.Disk.{DiskState, Within, IsCut}
use Rattle.model_system.specs.System.{System}
use Rattle.openings.specs.declared.refusals.OpenError.{OpenError}
use Rattle.openings.specs.declared.refusals.OpenError.TheVariants.{BadImage, WrongDefinition, TooSmall, Spent, Disk, Memory}
use Rattle.openings.specs.OpenedImage.{WroteNothing}
use Rattle.checkpointing.specs.Counts.{RaisesCounts}
use Rattle.openings.specs.LifeBeginning.{HandsBack}
use Rattle.openings.specs.declared.life.Life.{Life}
use Rattle.session_lives.specs.declared.called.Opening.{Opening}
use Rattle.session_lives.specs.declared.place.Idle.{Idle}
use Rattle.session_lives.specs.declared.place.Kept.{Kept}
use Rattle.session_lives.specs.declared.place.Session.{Session}
use Rattle.session_lives.specs.Openings.{how_of, opening_by, is_disk, IsCutDown, IsHandedBack, IsRefusedSo, StaysIdle, HasFailed, HasGone}

-- all was handed back
pub refused_back : {D : Type 0} (state : D → DiskState) (disk : D) (system : System) (text : List ℕ) (last : Option Life) (emptied stopped cold : Bool) (began : ℕ) (old : Kept) (error : OpenError)
    (session : Session D) → is_disk error ≡ false → IsHandedBack disk system text last emptied stopped old session
    → IsRefusedSo state disk system text last emptied stopped cold began old (opening_by error) session
refused_back state disk system text last emptied stopped cold began old Disk session is back = cc
refused_back state disk system text last emptied stopped cold began old (BadImage rule sector) session is back = back
refused_back state disk system text last emptied stopped cold began old (WrongDefinition place) session is back = back
refused_back state disk system text last emptied stopped cold began old (TooSmall needed has) session is back = back
refused_back state disk system text last emptied stopped cold began old (Spent counter) session is back = back
refused_back state disk system text last emptied stopped cold began old Memory session is back = back

module _ {D : Type 0} (state : D → DiskState) (idle : Idle D) (old kept : Kept) (cold : Bool) (disk : D) (system : System) (text : List ℕ) (began : ℕ) (session : Session D)
    (began_is : began ≡ (state idle.disk).faults) (counts : Within (RaisesCounts 1 idle.system) (state idle.disk) (state disk)) (lives : kept.lives.items ≡ old.lives.items) (stops : kept.stops.items ≡ old.stops.items) (picks : kept.pick ≡ old.pick) where
  failed_gone : HandsBack state (how_of cold) idle.system idle.text idle.disk Disk disk system text
      → IsCutDown state disk system text idle.last idle.emptied cold began kept session → HasFailed state idle old cold session
  failed_gone handed cut = record {
    after = cut.after;
    place = cut.place;
    disk = disk;
    back = subst (λ t. HandsBack state (how_of cold) idle.system idle.text idle.disk Disk disk cut.after.system t) (sym cut.text_is)
        (subst (λ s. HandsBack state (how_of cold) idle.system idle.text idle.disk Disk disk s text) (sym cut.system_is) handed);
    counts = counts;
    cut = subst (λ (n : ℕ). IsCut n (state disk) (state cut.after.disk)) picks cut.cut;
    last = cut.last_is;
    emptied = cut.emptied_is;
    stopped = cut.stopped_is;
    lives = cut.lives ∙ lives;
    pick = cut.pick;
    stops = cut.stops ∙ ap (λ s. s ++ (began, (state disk).faults) ∷ []) stops ∙ ap (λ n. old.stops.items ++ (n, (state disk).faults) ∷ []) began_is;
  }

  idles : system ≡ idle.system → text ≡ idle.text → WroteNothing (state idle.disk) (state disk)
      → IsHandedBack disk system text idle.last idle.emptied idle.stopped kept session → StaysIdle state idle old session
  idles same_system same_text wrote back = record {
    after = back.after;
    place = back.place;
    system_is = back.system_is ∙ same_system;
    text_is = back.text_is ∙ same_text;
    last = back.last_is;
    emptied = back.emptied_is;
    stopped = back.stopped_is;
    wrote = subst (λ d. WroteNothing (state idle.disk) (state d)) (sym back.disk_is) wrote;
    lives = ap (λ k. k.lives.items) back.kept_is ∙ lives;
    stops = ap (λ k. k.stops.items) back.kept_is ∙ stops;
    pick = ap (λ k. k.pick) back.kept_is ∙ picks;
  }

  gone_by : (error : OpenError) → HandsBack state (how_of cold) idle.system idle.text idle.disk error disk system text
      → IsRefusedSo state disk system text idle.last idle.emptied idle.stopped cold began kept (opening_by error) session → HasGone state idle old cold session (opening_by error)
  gone_by Disk handed refused = failed_gone handed refused
  gone_by (BadImage rule sector) handed refused = (idles handed.system_is handed.text_is handed.cause refused, handed.refuses)
  gone_by (WrongDefinition place) handed refused = (idles handed.system_is handed.text_is handed.cause refused, handed.refuses)
  gone_by (TooSmall needed has) handed refused = (idles handed.system_is handed.text_is handed.cause refused, handed.refuses)
  gone_by (Spent counter) handed refused = (idles handed.system_is handed.text_is handed.cause refused, record { counter = counter; refuses = handed.refuses })
  gone_by Memory handed refused = idles handed.system_is handed.text_is handed.cause refused

  pub refused_gone : (error : OpenError) (opening : Opening) → HandsBack state (how_of cold) idle.system idle.text idle.disk error disk system text
      → IsRefusedSo state disk system text idle.last idle.emptied idle.stopped cold began kept (opening_by error) session → opening ≡ opening_by error → HasGone state idle old cold session opening
  refused_gone error opening handed refused is = subst (λ o. HasGone state idle old cold session o) (sym is) (gone_by error handed refused)
