-- What the result of a last call tells.
use Rattle.std.specs.Prelude.{Result, Ok, Err, IfOk}

pub ok_both : {X E : Type 0} (r : Result X E) {P Q R : X → Type 0} → ((x : X) → P x → Q x → R x) → IfOk r P → IfOk r Q → IfOk r R
ok_both (Ok x) both p q = both x p q
ok_both (Err e) both p q = p
