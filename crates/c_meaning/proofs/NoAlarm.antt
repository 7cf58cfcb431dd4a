-- The laws, from what is kept by runs.
use Rattle.std.proofs.Common.{subst}
use Rattle.dm_base.specs.Trace.{erase}
use Rattle.c_meaning.specs.Languages.{Words}
use Rattle.c_meaning.specs.ProgramLanguages.{Stack}
use Rattle.c_meaning.specs.ShapeOf.{shapes_of}
use Rattle.c_meaning.specs.Words.{brackets, no_brackets}
use Rattle.c_meaning.proofs.Walking.{walked}
use Rattle.c_meaning.specs.Runs.{no_marks, run}
use Rattle.c_meaning.specs.MarkedRuns.{null_calls_of, marked_run}
use Rattle.c_meaning.specs.NoFalseAlarm.{RunsRaiseNoAlarm, MarkedRunsRaiseNoAlarm}
use Rattle.c_meaning.proofs.Marking.{every, system_calls, told_every, told_system_calls, marked_tied, plain_tied}
use Rattle.c_meaning.proofs.Programs.{run_says}
use Rattle.c_meaning.proofs.TypedRuns.{IsGood, ArePassed, typed_guard, none_recorded, null_calls_recorded}

pub runs_raise_none : RunsRaiseNoAlarm
runs_raise_none p n right records turns =
    let h : Stack p (run p records turns).trace = subst (λ t. Words no_brackets (shapes_of p) t) (told_system_calls (run p records turns).trace) (run_says p n right no_marks no_brackets system_calls (plain_tied p) (IsGood p n right no_marks none_recorded) (ArePassed p n right no_marks none_recorded) (typed_guard p n right no_marks none_recorded) records turns) in
    (h, walked (shapes_of p) p.main (erase (run p records turns).trace) h)

pub marked_runs_raise_none : MarkedRunsRaiseNoAlarm
marked_runs_raise_none p n right free records turns =
    subst (λ t. Words brackets (shapes_of p) t) (told_every (marked_run p records turns).trace) (run_says p n right (null_calls_of p) brackets every (marked_tied p free) (IsGood p n right (null_calls_of p) (null_calls_recorded p)) (ArePassed p n right (null_calls_of p) (null_calls_recorded p)) (typed_guard p n right (null_calls_of p) (null_calls_recorded p)) records turns)
