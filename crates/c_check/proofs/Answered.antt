-- What an answer that is right for what is found says of the unit.
use Rattle.std.proofs.Common.{◌≡◌, ℕ, IfErr, IfOk, Result, Ok, Err, subst}
use Rattle.dm_base.specs.declared.mode.Mode.{Mode}
use Rattle.dm_base.specs.declared.mode.Mode.TheVariants.{Plain}
use Rattle.c_check.specs.Refused.{IsRefused}
use Rattle.c_check_values.specs.declared.error.CheckError.{CheckError}
use Rattle.c_check_values.specs.declared.error.CheckError.TheVariants as errors
use Rattle.c_check_values.specs.Agreement.{Names, AgreesWith}
use Rattle.c_check_values.proofs.Parts.{names_on}
use Rattle.c_rules.specs.Checked.{Checked, fine, faulty, faults, on}
use Rattle.c_rules.specs.NullCalls.{CallsNoNullCall}
use Rattle.c_rules.specs.Units.{IsTyped, IsViolated, checked}
use Rattle.c_syntax.specs.Tree.{Items}
use Rattle.c_tree.specs.Tree.{Program}
use Rattle.c_tree.specs.View.{Parts, program_of}

-- a demand that fails among the items of a unit
pub names_within : {A B C : Type 0} (e : CheckError) (q : Checked A) (r : Checked B) (k : B → Checked C) → Names e (faults (on q (λ _. r))) → Names e (faults (on q (λ _. on r k)))
names_within e (fine a) r k h = names_on e r k h
names_within e (faulty f fs) r k h = h

pub typed_as : (u : Items) (m : Mode) (result : Result Parts CheckError) → AgreesWith program_of result (checked u m) → IfOk result (λ p. IsTyped u m (program_of p))
typed_as u m (Ok p) h = h
typed_as u m (Err e) h = tt

pub refused_with : (u : Items) (m : Mode) (result : Result Parts CheckError) → ((v : Items) (n : Mode) (p : Program) (code at : ℕ) → IsTyped v n p → IsViolated v n code at → ⊥) → AgreesWith program_of result (checked u m) → IfErr result (IsRefused u m)
refused_with u m (Ok p) none h = tt
refused_with u m (Err errors.OutOfMemory) none h = tt
refused_with u m (Err (errors.At code at)) none h = (h, λ p typed. none u m p code at typed h)

pub without_null_calls : (u : Items) (m : Mode) (result : Result Parts CheckError) → ((v : Items) (p : Program) → IsTyped v Plain p → CallsNoNullCall p) → AgreesWith program_of result (checked u m) → m ≡ Plain → IfOk result (λ p. CallsNoNullCall (program_of p))
without_null_calls u m (Ok p) law h plain = law u (program_of p) (subst (λ n. IsTyped u n (program_of p)) plain h)
without_null_calls u m (Err e) law h plain = tt
