-- Lemmas that several crates above use.
use Rattle.std.proofs.Common.{Bool, false, true}
use Rattle.c_rules.specs.Checked.{Checked, faulty, fine}

abbrev pub is_fine : {A : Type 0} → Checked A → Bool
is_fine (fine a) = true
is_fine (faulty f fs) = false
