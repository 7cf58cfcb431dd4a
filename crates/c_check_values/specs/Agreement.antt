-- What a checker answers, against what it is to find.
use Rattle.std.specs.Prelude.{◌≡◌, List, Result, Ok, Err, Contains}
use Rattle.c_check_values.specs.declared.error.CheckError.{CheckError}
use Rattle.c_check_values.specs.declared.error.CheckError.TheVariants as errors
use Rattle.c_check_scopes.specs.Checked.{Fault, Checked, fine, faults}

-- the error names one of these demands, unless memory was refused
abbrev pub Names : CheckError → List Fault → Type 0
Names errors.OutOfMemory fs = Unit {0}
Names (errors.At code at) fs = Contains fs (record { code = code; at = at })

-- What a checker answers is right for what is found: its Ok, seen by the view, is what is fine, and its Err names a demand
-- that fails, unless memory was refused.
abbrev pub AgreesWith : {X A : Type 0} → (X → A) → Result X CheckError → Checked A → Type 0
AgreesWith view (Ok x) found = found ≡ fine (view x)
AgreesWith view (Err e) found = Names e (faults found)
