-- What is known of a result, made weaker.
use Rattle.std.specs.Prelude.{Result, Ok, Err, IfOk, OnOk, IfErr}

pub ok_map : {X E : Type 0} (P Q : X → Type 0) (r : Result X E) → ((x : X) → P x → Q x) → IfOk r P → IfOk r Q
ok_map P Q (Ok x) f h = f x h
ok_map P Q (Err e) f h = tt

pub on_map : {X E : Type 0} {P Q : Type 0} (r : Result X E) → (P → Q) → OnOk r P → OnOk r Q
on_map (Ok x) f h = f h
on_map (Err e) f h = tt

pub if_err_map : {X E : Type 0} {P Q : E → Type 0} (r : Result X E) → ((e : E) → P e → Q e) → IfErr r P → IfErr r Q
if_err_map (Ok x) f h = tt
if_err_map (Err e) f h = f e h
