-- What a part of a program gives, and how parts follow one another (C99 5.1.2.3).
use Rattle.std.specs.Prelude.{ℕ, zero, suc, List, [], ◌++◌, Option}
use Rattle.dm_base.specs.declared.event.Event.{Event}
use Rattle.dm_base.specs.declared.outcome.Outcome.{Outcome}
use Rattle.dm_base.specs.declared.outcome.Outcome.TheVariants.{Undefined, Turns}
use Rattle.sys_table.specs.declared.sys_result.SysResult.{SysResult}
use Rattle.c_tree.specs.declared.value.Value.{Value}
use Rattle.c_values.specs.Answers.{Answer, gives, undefined}
use Rattle.c_values.specs.Memory.{Objects}

-- what a run goes on from: memory, how many functions were entered, the recorded results that are left, how many were taken,
-- and how many turns are left
pub record State : Type 0 where
  pub memory : Objects
  pub entries : ℕ
  pub records : List SysResult
  pub taken : ℕ
  pub turns : ℕ

abbrev pub with_memory : State → Objects → State
with_memory st m = record { memory = m; entries = st.entries; records = st.records; taken = st.taken; turns = st.turns }

-- a part gives something after some events, in a new state; or the run stops after some events
pub data Result (A : Type 0) : Type 0 where
  Go : A → State → List Event → Result A
  Stop : Outcome → List Event → Result A

-- after these events
abbrev pub after : {A : Type 0} → List Event → Result A → Result A
after w (Go a st u) = Go a st (w ++ u)
after w (Stop o u) = Stop o (w ++ u)

-- one part and then the next
abbrev pub then_do : {A B : Type 0} → Result A → (A → State → Result B) → Result B
then_do (Go a st w) f = after w (f a st)
then_do (Stop o w) f = Stop o w

-- what a step on values and memory answers, or undefined behaviour
abbrev pub answered : {A : Type 0} → Answer A → State → Result A
answered (gives a) st = Go a st []
answered (undefined kind) st = Stop (Undefined kind) []

-- memory after a step, or undefined behaviour
abbrev pub remembered : {A : Type 0} → Answer Objects → A → State → Result A
remembered (gives m) a st = Go a (with_memory st m) []
remembered (undefined kind) a st = Stop (Undefined kind) []

-- costs one turn
abbrev pub spend_at : {A : Type 0} → ℕ → State → (State → Result A) → Result A
spend_at zero st f = Stop Turns []
spend_at (suc n) st f = f (record { memory = st.memory; entries = st.entries; records = st.records; taken = st.taken; turns = n })

abbrev pub spend : {A : Type 0} → State → (State → Result A) → Result A
spend st f = spend_at st.turns st f

-- how a statement is left (6.8.6): it goes on, or by break, continue or return, with a value where there is one
pub data Exit : Type 0 where
  on : Exit
  broken : Exit
  continued : Exit
  returned : Option Value → Exit

-- after the first of two statements
abbrev pub on_exit : Exit → State → (State → Result Exit) → Result Exit
on_exit on st f = f st
on_exit broken st f = Go broken st []
on_exit continued st f = Go continued st []
on_exit (returned v) st f = Go (returned v) st []

-- after the body of a loop (6.8.6.2, 6.8.6.3)
abbrev pub on_round : Exit → State → (State → Result Exit) → Result Exit
on_round on st f = f st
on_round broken st f = Go on st []
on_round continued st f = f st
on_round (returned v) st f = Go (returned v) st []

-- how a switch is left, by how its statements are
abbrev pub out_of_switch : Exit → Exit
out_of_switch on = on
out_of_switch broken = on
out_of_switch continued = continued
out_of_switch (returned v) = returned v
