-- Lemmas that several crates above use.
use Rattle.std.proofs.Common.{arith, refl, ℕ, ◌≡◌}
use Rattle.std.specs.Prelude.{Contains}
use Rattle.c_check_scopes.specs.Checked.{Checked, fault, faults}

pub faulted : {A : Type 0} (code at : ℕ) (found : Checked A) → found ≡ fault code at → Contains (faults found) (record { code = code; at = at })
faulted code at found p = rw p (0, omega arith, refl)
