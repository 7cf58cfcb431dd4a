-- What items give, where some of them give nothing.
use Rattle.std.proofs.Common.{◌≡◌, Result, Ok, Err, ap, ◌∙◌}
use Rattle.c_check_units.specs.CheckError.{CheckError}
use Rattle.c_check_units.specs.Agreement.{AgreesWith}
use Rattle.c_check_units.proofs.Parts.{names_on}
use Rattle.c_check_units.proofs.OutputLemmas.{with_nothing}
use Rattle.c_rules.specs.Checked.{Checked, fine, gives}
use Rattle.c_rules.specs.Items.{Output, no_output, with_output}

-- a part that gives nothing
nothing_given : (r : Checked Output) → r ≡ fine no_output → (p : Output) → gives r (with_output p) ≡ fine p
nothing_given r h p = ap (λ x. gives x (with_output p)) h ∙ ap fine (with_nothing p)

pub nothing_more : (p : Output) (result : Result (Unit {0}) CheckError) (r : Checked Output) → AgreesWith (λ _. no_output) result r → AgreesWith (λ _. p) result (gives r (with_output p))
nothing_more p (Ok u) r h = nothing_given r h p
nothing_more p (Err e) r h = names_on e r (λ q. fine (with_output p q)) h
