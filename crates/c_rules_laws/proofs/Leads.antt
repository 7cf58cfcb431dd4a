-- What is fine on the left is fine on the right, and gives the same.
use Rattle.std.proofs.Common.{◌≡◌, ℕ, Bool, true, false}
use Rattle.c_rules.specs.Checked.{Checked, fine, faulty, fails_with, parts_first}
pub use Rattle.c_rules.proofs.Modes.{first_fine, LeadsTo, Leads, same_leads, fine_leads, fact, without, with_fact, on_leads, then_leads, both_leads, alone_leads, parts_first_leads, gives_leads, all_three_lead, demand_leads, and_also_leads, on_fine, demand_met, below_more}

pub alone_fine : {A : Type 0} (t : Bool) (code at : ℕ) (r : Checked A) (a : A) → fails_with t code at r ≡ fine a → r ≡ fine a
alone_fine t code at (fine b) a e = e
alone_fine true code at (faulty f fs) a e = cc
alone_fine false code at (faulty f fs) a e = e

pub parts_first_fine : {A B : Type 0} (q : Checked A) (r : Checked B) (b : B) → parts_first q r ≡ fine b → r ≡ fine b
parts_first_fine q (fine c) b e = e
parts_first_fine (fine a) (faulty f fs) b e = e
parts_first_fine (faulty g gs) (faulty f fs) b e = cc
