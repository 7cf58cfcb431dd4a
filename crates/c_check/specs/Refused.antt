-- Units that are refused.
use Rattle.dm_base.specs.declared.mode.Mode.{Mode}
use Rattle.c_check_values.specs.declared.error.CheckError.{CheckError}
use Rattle.c_check_values.specs.declared.error.CheckError.TheVariants as errors
use Rattle.c_rules.specs.Units.{IsTyped, IsViolated}
use Rattle.c_syntax.specs.Tree.{Items}
use Rattle.c_tree.specs.Tree.{Program}

-- a demand with this code fails at this place, and the unit is typed as no program; or memory was refused
abbrev pub IsRefused : Items → Mode → CheckError → Type 0
IsRefused u m errors.OutOfMemory = Unit {0}
IsRefused u m (errors.At code at) = IsViolated u m code at × ((p : Program) → IsTyped u m p → ⊥)
