-- For private contracts and proofs alone: what a machine keeps has one proof at most.
use Rattle.std.proofs.Props.{props}
use Rattle.std.specs.Int.{w32}
use mir.ValLaws.{SFits-prop}
use Rattle.dm_base.specs.declared.outcome.Outcome.{Outcome}
use Rattle.dm_base.specs.declared.outcome.Outcome.TheVariants.{Exit, Undefined, Turns, Results, BadResult}
use Rattle.c_meaning.specs.TypedResults.{IsEnding}
use Rattle.ref_machine_frames.specs.declared.frames.Now.{Now}
use Rattle.ref_machine_frames.specs.declared.frames.Now.TheVariants as nows
use Rattle.ref_machine.specs.declared.machine.Stage.{Stage}
use Rattle.ref_machine.specs.declared.machine.Stage.TheVariants.{Going, Waiting, Failed}
use Rattle.ref_machine.specs.Stages.{HasCall}
use Rattle.ref_machine.specs.Standing.{IsAsk}

pub IsEnding-prop : (o : Outcome) → IsProp (IsEnding o)
IsEnding-prop (Exit z) = SFits-prop w32 z
IsEnding-prop (Undefined kind) = hlevel props
IsEnding-prop Turns = hlevel props
IsEnding-prop Results = hlevel props
IsEnding-prop (BadResult k) = hlevel props

ask_prop : (now : Now) → IsProp (IsAsk now)
ask_prop (nows.Eval wanted e) = hlevel props
ask_prop (nows.Have v) = hlevel props
ask_prop (nows.Exec s) = hlevel props
ask_prop (nows.Left x) = hlevel props
ask_prop (nows.Enter wanted f vs) = hlevel props
ask_prop (nows.Test s) = hlevel props
ask_prop (nows.Ask x q) = hlevel props
ask_prop (nows.Told e next) = hlevel props
ask_prop (nows.Stopped o) = hlevel props
ask_prop nows.Mistyped = hlevel props

pub HasCall-prop : (stage : Stage) (now : Now) → IsProp (HasCall stage now)
HasCall-prop Going now = hlevel props
HasCall-prop Waiting now = ask_prop now
HasCall-prop (Failed error) now = hlevel props
