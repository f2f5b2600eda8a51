-- What leads on, whatever disk was handed in.
use Rattle.tm_disk.specs.Disk.{DiskState}
use Rattle.model_session.specs.SessionState.{Setting, SessionState}
use Rattle.session_lives.specs.declared.place.Session.{Session}
use Rattle.session_lives.specs.RunningSession.{Course, Leads, LeadsBy}

module _ {D : Type 0} (state : D → DiskState) where
  pub leads_same : (P : Course) (a : Session D) → ((setting : Setting) (x : SessionState) → P setting x x) → Leads state P a a
  leads_same P a goes = λ system source handed events sound. record { events_now = events; goes = goes _ _; sound = sound }

  pub leads_map : (P Q : Course) (a b : Session D) → ((setting : Setting) (x y : SessionState) → P setting x y → Q setting x y) → Leads state P a b → Leads state Q a b
  leads_map P Q a b goes one = λ system source handed events sound.
      let led : LeadsBy state P system source handed events a b = one system source handed events sound in
      record { events_now = led.events_now; goes = goes _ _ _ led.goes; sound = led.sound }

  pub leads_then : (P Q R : Course) (a b c : Session D) → ((setting : Setting) (x y z : SessionState) → P setting x y → Q setting y z → R setting x z)
      → Leads state P a b → Leads state Q b c → Leads state R a c
  leads_then P Q R a b c goes one two = λ system source handed events sound.
      let first : LeadsBy state P system source handed events a b = one system source handed events sound in
      let second : LeadsBy state Q system source handed first.events_now b c = two system source handed first.events_now first.sound in
      record { events_now = second.events_now; goes = goes _ _ _ _ first.goes second.goes; sound = second.sound }
