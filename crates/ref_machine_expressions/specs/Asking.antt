-- For private contracts and proofs alone: system calls that asked for something, and steps that stop.
use Rattle.std.specs.Prelude.{◌≡◌, ℕ, nat_eq, if◌then◌else◌, List, [], ◌∷◌, Option, Some, None}
use Rattle.c_tree.specs.declared.value.Value.{Value}
use Rattle.c_tree.specs.declared.value.Value.TheVariants.{Uint}
use Rattle.c_tree.specs.Tree.{Program}
use Rattle.c_values.specs.Answers.{Answer}
use Rattle.c_meaning.specs.Meaning.{World, Frame as Place}
use Rattle.c_meaning.specs.Results.{State, Result, then_do, answered}
use Rattle.c_meaning.specs.SystemCalls.{Request, exit_call, exit_with, take_record}
use Rattle.ref_machine_frames.specs.declared.frames.Frame.{Frame}
use Rattle.ref_machine_frames.specs.declared.frames.Now.{Now}
use Rattle.ref_machine_frames.specs.Frames.{after_value, rest}

-- a system call once it has asked for this
abbrev pub asking : ℕ → Request → State → Result Value
asking x q st = if nat_eq x exit_call then exit_with q.arguments else take_record x q st.records st

-- the run stops where a step gives no request
abbrev pub IsStop : Answer Request → Now → Type 0
IsStop answer now =
    (p : Program) (w : World) (fr : Place) (todo : List Frame) (st : State) (f : Request → State → Result Value) → rest p w fr now todo st ≡ then_do (then_do (answered answer st) f) (after_value p w fr todo)

-- the site that the arguments of a null call name
abbrev pub site_of : List Value → Option ℕ
site_of (Uint site ∷ []) = Some site
site_of vs = None
