-- Runs of a program: it enters main with its static objects as they begin (C99 5.1.2.2.3, 6.7.8 paragraph 10).
use Rattle.std.specs.Prelude.{ℕ, zero, suc, nat_eq, Bool, true, false, pos, List, [], ◌∷◌, Option, Some, None, slice_get}
use Rattle.dm_base.specs.declared.event.Event.{Event}
use Rattle.dm_base.specs.declared.outcome.Outcome.{Outcome}
use Rattle.dm_base.specs.declared.outcome.Outcome.TheVariants.{Exit as ended_by, Undefined, Turns}
use Rattle.sys_table.specs.declared.sys_result.SysResult.{SysResult}
use Rattle.c_tree.specs.declared.value.Value.{Value}
use Rattle.c_tree.specs.declared.value.Value.TheVariants.{Indeterminate, Int}
use Rattle.c_tree.specs.Tree.{Function, Static, Program}
use Rattle.c_values.specs.Answers.{U11, U13}
use Rattle.c_values.specs.Memory.{Objects, no_objects, changed}
use Rattle.c_meaning.specs.Meaning.{Marks, Frame, Loop, World, either, static_name, condition, perhaps, exec, without}
use Rattle.c_meaning.specs.Results.{State, with_memory, Result, Go, Stop, then_do, spend, Exit, on, broken, continued, returned, on_round}

-- the parameters of an activation, each an object of one cell (6.9.1 paragraph 9)
abbrev pub with_parameters : ℕ → ℕ → List Value → Objects → Objects
with_parameters activation x [] m = m
with_parameters activation x (v ∷ vs) m =
    with_parameters activation (suc x) vs (changed m (record { activation = activation; variable = x }) (Some (record { cells = v ∷ []; string = false })))

-- the numbers of so many parameters
abbrev pub parameters : ℕ → List Value → List ℕ
parameters x [] = []
parameters x (v ∷ vs) = x ∷ parameters (suc x) vs

abbrev pub entered : List Value → State → State
entered vs st =
    record { memory = with_parameters (suc st.entries) 0 vs st.memory; entries = suc st.entries; records = st.records; taken = st.taken; turns = st.turns }

-- a function that ends without a value: main gives 0 (5.1.2.2.3), and another whose value is wanted owes one (6.9.1 paragraph 12)
abbrev pub without_value : Bool → Bool → State → Result Value
without_value is_main wanted st = either is_main (Go (Int (pos 0)) st []) (either wanted (Stop (Undefined U11) []) (Go Indeterminate st []))

-- what a call gives, by how the function's body is left
abbrev pub result_of : Bool → Bool → Exit → State → Result Value
result_of is_main wanted (returned (Some v)) st = Go v st []
result_of is_main wanted (returned None) st = without_value is_main wanted st
result_of is_main wanted on st = without_value is_main wanted st
result_of is_main wanted broken st = Stop (Undefined U13) []
result_of is_main wanted continued st = Stop (Undefined U13) []

-- the body of a function in a new activation; its parameters end with it
abbrev pub run_body : Program → World → Marks → Bool → Bool → Option Function → List Value → State → Result Value
run_body p w marks is_main wanted None vs st = Stop (Undefined U13) []
run_body p w marks is_main wanted (Some g) vs st =
    then_do (exec p w marks (record { activation = suc st.entries; types = g.variables }) g.body (entered vs st))
    (λ x after. result_of is_main wanted x (with_memory after (without (suc st.entries) (parameters 0 vs) after.memory)))

-- to enter a function costs a turn
abbrev pub enter : Program → World → Marks → Bool → ℕ → List Value → State → Result Value
enter p w marks wanted f vs st = spend st (λ st. run_body p w marks (nat_eq f p.main) wanted (slice_get p.functions f) vs st)

-- a loop: to test it costs a turn; then a round, the step and the loop again (6.8.5)
abbrev pub loop : Program → World → Marks → Frame → Loop → State → Result Exit
loop p w marks fr l st =
    spend st (λ st. then_do (condition p w marks fr l.test st) (λ holds st.
    either holds
    (then_do (exec p w marks fr l.body st) (λ x st. on_round x st (λ st. then_do (perhaps p w marks fr l.step st) (λ y st. w.again fr l st))))
    (Go on st [])))

-- what so many turns are enough for
abbrev pub world : Program → Marks → ℕ → World
world p marks zero = record { enter = λ wanted f vs st. Stop Turns []; again = λ fr l st. Stop Turns [] }
world p marks (suc n) = record {
  enter = λ wanted f vs st. enter p (world p marks n) marks wanted f vs st;
  again = λ fr l st. loop p (world p marks n) marks fr l st;
}

-- the static objects and strings before the run
abbrev pub first_objects : ℕ → List Static → Objects
first_objects x [] = no_objects
first_objects x (s ∷ rest) = changed (first_objects (suc x) rest) (static_name x) (Some (record { cells = s.cells; string = s.string }))

-- the state in which a run begins
abbrev pub beginning : Program → List SysResult → ℕ → State
beginning p records turns = record { memory = first_objects 0 p.statics; entries = 0; records = records; taken = 0; turns = turns }

-- how a run ended, and its events
pub record Run : Type 0 where
  pub outcome : Outcome
  pub trace : List Event

abbrev pub exit_of : Value → Outcome
exit_of (Int z) = ended_by z
exit_of v = Undefined U13

abbrev pub ending : Result Value → Run
ending (Go v st t) = record { outcome = exit_of v; trace = t }
ending (Stop o t) = record { outcome = o; trace = t }

-- the run with these events before and after the calls at each site, these recorded results, and so many turns
abbrev pub run_with : Program → Marks → List SysResult → ℕ → Run
run_with p marks records turns = ending (enter p (world p marks turns) marks true p.main [] (beginning p records turns))

-- no events round any call
abbrev pub no_marks : Marks
no_marks site = ([], [])

-- the run of the program as it stands
abbrev pub run : Program → List SysResult → ℕ → Run
run p records turns = run_with p no_marks records turns
