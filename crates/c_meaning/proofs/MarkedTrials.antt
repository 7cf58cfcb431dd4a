-- Runs with null calls round the calls at marked sites, of small programs.
use Rattle.std.proofs.Common.{◌≡◌, pos, [], ◌∷◌, refl}
use Rattle.dm_base.specs.declared.event.Event.TheVariants.{Pre, Post}
use Rattle.dm_base.specs.declared.outcome.Outcome.TheVariants.{Turns, Results}
use Rattle.c_meaning.specs.Table.{table}
use Rattle.c_tree.specs.Functions.{sys_types}
use Rattle.c_meaning.proofs.ProgramTrials.{source_b, indirect}
use Rattle.c_meaning.proofs.RunTrials.{the_record, the_call, ended}
use Rattle.c_meaning.specs.MarkedRuns.{marked_run}

-- int f(void) { return getpid(); } int main(void) { f(); getuid(); f(); return 0; }: the calls of f are marked, those of system calls are not
two_callers : marked_run source_b (the_record 100 ∷ the_record 0 ∷ the_record 101 ∷ []) 3 ≡ ended (pos 0) (Pre 1 ∷ the_call 14 100 ∷ Post 1 ∷ the_call 16 0 ∷ Pre 3 ∷ the_call 14 101 ∷ Post 3 ∷ [])
unfolding table
two_callers = refl

-- the run wants a third record, and has shown what came before
cut_short : marked_run source_b (the_record 100 ∷ the_record 0 ∷ []) 3 ≡ record { outcome = Results; trace = Pre 1 ∷ the_call 14 100 ∷ Post 1 ∷ the_call 16 0 ∷ Pre 3 ∷ [] }
unfolding table
cut_short = refl

-- a call through a pointer to a function that comes to no system call, at a site that may call another one
through : marked_run indirect [] 2 ≡ ended (pos 5) (Pre 2 ∷ Post 2 ∷ [])
unfolding table sys_types
through = refl

-- no turn is left to enter the function
no_turn : marked_run indirect [] 1 ≡ record { outcome = Turns; trace = Pre 2 ∷ [] }
unfolding table sys_types
no_turn = refl
