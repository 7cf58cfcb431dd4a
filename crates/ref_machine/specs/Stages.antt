-- How a machine was left.
use Rattle.std.specs.Prelude.{Bool, true, false}
use Rattle.ref_machine_frames.specs.declared.frames.Now.{Now}
use Rattle.ref_machine.specs.declared.machine.Stage.{Stage}
use Rattle.ref_machine.specs.declared.machine.Stage.TheVariants.{Going, Waiting, Failed}
use Rattle.ref_machine.specs.Standing.{IsAsk}

abbrev pub waits : Stage → Bool
waits Going = false
waits Waiting = true
waits (Failed error) = false

abbrev pub has_failed_at : Stage → Bool
has_failed_at Going = false
has_failed_at Waiting = false
has_failed_at (Failed error) = true

-- where the machine waits, a system call needs a record next
abbrev pub HasCall : Stage → Now → Type 0
HasCall Going now = Unit {0}
HasCall Waiting now = IsAsk now
HasCall (Failed error) now = Unit {0}
