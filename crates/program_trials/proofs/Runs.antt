-- Programs of C, from the unit to the run: each unit is typed by the rules, and the run is computed.
use Rattle.std.proofs.Common.{◌≡◌, pos, negsuc, List, [], ◌∷◌, refl}
use Rattle.std.specs.Int.{int_wrap}
use Rattle.dm_base.specs.declared.event.Arg.TheVariants as args
use Rattle.dm_base.specs.declared.event.Event.{Event}
use Rattle.dm_base.specs.declared.event.Event.TheVariants.{Sys, Pre, Post}
use Rattle.dm_base.specs.declared.mode.Mode.TheVariants.{Plain}
use Rattle.dm_base.specs.declared.outcome.Outcome.{Outcome}
use Rattle.dm_base.specs.declared.outcome.Outcome.TheVariants as outcomes
use Rattle.sys_table.specs.Table.{table}
use Rattle.c_tree.specs.Tree.{Program}
use Rattle.c_tree.specs.Functions.{sys_types}
use Rattle.c_syntax.specs.Tree.{Items}
use Rattle.c_rules.specs.Units.{checked}
use Rattle.c_meaning.specs.Runs.{Run, run}
use Rattle.c_meaning.specs.MarkedRuns.{marked_run}
use Rattle.program_trials.proofs.Units.{overflow_unit, by_zero_unit, far_shift_unit, past_member_unit, two_arrays_unit, null_member_unit, ended_parameter_unit, before_array_unit, shadowed_unit, string_cells_unit, array_parameter_unit, members_unit, falls_through_unit, commas_unit, chooses_unit, compound_char_unit, recursion_unit, recursion_short_unit, echo_unit}
use Rattle.c_rules.proofs.NoProgram.{program_or_none}

-- the program that a unit is typed as
abbrev pub program_of : Items → Program
program_of u = program_or_none (checked u Plain)

abbrev ending : Outcome → List Event → Run
ending o t = record { outcome = o; trace = t }

-- a signed sum out of range (6.5 paragraph 5)
overflow : run (program_of overflow_unit) (record { value = (pos 100); bytes = [] } ∷ []) 9 ≡ ending (outcomes.Undefined 1) (Sys 14 [] (pos 100) ∷ [])
unfolding table sys_types int_wrap
overflow = refl

-- a division by zero (6.5.5 paragraph 5)
by_zero : run (program_of by_zero_unit) [] 9 ≡ ending (outcomes.Undefined 2) []
unfolding table sys_types int_wrap
by_zero = refl

-- a shift by the width (6.5.7 paragraph 3)
far_shift : run (program_of far_shift_unit) [] 9 ≡ ending (outcomes.Undefined 3) []
unfolding table sys_types int_wrap
far_shift = refl

-- a pointer one past a member is not followed (6.5.6 paragraph 8)
past_member : run (program_of past_member_unit) [] 9 ≡ ending (outcomes.Undefined 8) []
unfolding table sys_types int_wrap
past_member = refl

-- pointers into two arrays are not subtracted (6.5.6 paragraph 9)
two_arrays : run (program_of two_arrays_unit) [] 9 ≡ ending (outcomes.Undefined 9) []
unfolding table sys_types int_wrap
two_arrays = refl

-- a null pointer to a struct is not followed (6.5.3.2 paragraph 4)
null_member : run (program_of null_member_unit) [] 9 ≡ ending (outcomes.Undefined 5) []
unfolding table sys_types int_wrap
null_member = refl

-- the parameter of a function that has returned is gone (6.2.4 paragraph 2)
ended_parameter : run (program_of ended_parameter_unit) [] 9 ≡ ending (outcomes.Undefined 6) []
unfolding table sys_types int_wrap
ended_parameter = refl

-- a pointer before its array (6.5.6 paragraph 8)
before_array : run (program_of before_array_unit) [] 9 ≡ ending (outcomes.Undefined 7) []
unfolding table sys_types int_wrap
before_array = refl

-- an inner name hides an outer one (6.2.1 paragraph 4)
shadowed : run (program_of shadowed_unit) [] 9 ≡ ending (outcomes.Exit (pos 132)) []
unfolding table sys_types int_wrap
shadowed = refl

-- the cells of a string (6.4.5)
string_cells : run (program_of string_cells_unit) [] 9 ≡ ending (outcomes.Exit (pos 198)) []
unfolding table sys_types int_wrap
string_cells = refl

-- an array parameter is a pointer (6.7.5.3 paragraph 7)
array_parameter : run (program_of array_parameter_unit) [] 9 ≡ ending (outcomes.Exit (pos 120)) []
unfolding table sys_types int_wrap
array_parameter = refl

-- members by . and -> (6.5.2.3)
members : run (program_of members_unit) [] 9 ≡ ending (outcomes.Exit (pos 471)) []
unfolding table sys_types int_wrap
members = refl

-- a switch goes on into the next group (6.8.4.2)
falls_through : run (program_of falls_through_unit) [] 9 ≡ ending (outcomes.Exit (pos 6)) []
unfolding table sys_types int_wrap
falls_through = refl

-- the value of a comma expression is its last (6.5.17)
commas : run (program_of commas_unit) (record { value = (pos 7); bytes = [] } ∷ []) 9 ≡ ending (outcomes.Exit (pos 5)) (Sys 14 [] (pos 7) ∷ [])
unfolding table sys_types int_wrap
commas = refl

-- one side of ?: is evaluated (6.5.15)
chooses : run (program_of chooses_unit) (record { value = (pos 5); bytes = [] } ∷ []) 9 ≡ ending (outcomes.Exit (pos 5)) (Sys 15 [] (pos 5) ∷ [])
unfolding table sys_types int_wrap
chooses = refl

-- a compound assignment computes in int and converts (6.5.16.2)
compound_char : run (program_of compound_char_unit) [] 9 ≡ ending (outcomes.Exit (negsuc 55955)) []
unfolding table sys_types int_wrap
compound_char = refl

-- each activation has objects of its own (6.5.2.2 paragraph 11)
recursion : run (program_of recursion_unit) [] 9 ≡ ending (outcomes.Exit (pos 123)) []
unfolding table sys_types int_wrap
recursion = refl

-- five turns are one too few for it
recursion_short : run (program_of recursion_short_unit) [] 4 ≡ ending (outcomes.Turns) []
unfolding table sys_types int_wrap
recursion_short = refl

-- the child of the server: sixteen events, with null calls round the three marked calls
echo : marked_run (program_of echo_unit) (record { value = (pos 3); bytes = [] } ∷ record { value = (pos 2); bytes = [] } ∷ record { value = (pos 0); bytes = [] } ∷ record { value = (pos 3); bytes = (104 ∷ 105 ∷ 10 ∷ []) } ∷ record { value = (pos 3); bytes = [] } ∷ record { value = (pos 2); bytes = (112 ∷ 10 ∷ []) } ∷ record { value = (pos 77); bytes = [] } ∷ record { value = (pos 1); bytes = [] } ∷ record { value = (pos 2); bytes = (113 ∷ 10 ∷ []) } ∷ []) 12 ≡ ending (outcomes.Exit (pos 3)) (Sys 2 (args.Bytes (47 ∷ 100 ∷ 101 ∷ 118 ∷ 47 ∷ 116 ∷ 116 ∷ 121 ∷ 83 ∷ 48 ∷ []) ∷ args.Int (pos 2) ∷ args.Int (pos 0) ∷ []) (pos 3) ∷ Sys 6 (args.Int (pos 3) ∷ args.Int (pos 2) ∷ []) (pos 2) ∷ Sys 22 [] (pos 0) ∷ Pre 10 ∷ Sys 0 (args.Int (pos 3) ∷ args.Int (pos 8) ∷ []) (pos 3) ∷ Pre 5 ∷ Sys 1 (args.Int (pos 3) ∷ args.Bytes (104 ∷ 105 ∷ 10 ∷ []) ∷ []) (pos 3) ∷ Post 5 ∷ Sys 0 (args.Int (pos 3) ∷ args.Int (pos 8) ∷ []) (pos 2) ∷ Pre 4 ∷ Sys 14 [] (pos 77) ∷ Sys 1 (args.Int (pos 3) ∷ args.Bytes (55 ∷ []) ∷ []) (pos 1) ∷ Post 4 ∷ Sys 0 (args.Int (pos 3) ∷ args.Int (pos 8) ∷ []) (pos 2) ∷ Post 10 ∷ Sys 23 (args.Int (pos 3) ∷ []) (pos 0) ∷ [])
unfolding table sys_types int_wrap
echo = refl

-- and the plain run of it
echo_plain : run (program_of echo_unit) (record { value = (pos 3); bytes = [] } ∷ record { value = (pos 2); bytes = [] } ∷ record { value = (pos 0); bytes = [] } ∷ record { value = (pos 3); bytes = (104 ∷ 105 ∷ 10 ∷ []) } ∷ record { value = (pos 3); bytes = [] } ∷ record { value = (pos 2); bytes = (112 ∷ 10 ∷ []) } ∷ record { value = (pos 77); bytes = [] } ∷ record { value = (pos 1); bytes = [] } ∷ record { value = (pos 2); bytes = (113 ∷ 10 ∷ []) } ∷ []) 12 ≡ ending (outcomes.Exit (pos 3)) (Sys 2 (args.Bytes (47 ∷ 100 ∷ 101 ∷ 118 ∷ 47 ∷ 116 ∷ 116 ∷ 121 ∷ 83 ∷ 48 ∷ []) ∷ args.Int (pos 2) ∷ args.Int (pos 0) ∷ []) (pos 3) ∷ Sys 6 (args.Int (pos 3) ∷ args.Int (pos 2) ∷ []) (pos 2) ∷ Sys 22 [] (pos 0) ∷ Sys 0 (args.Int (pos 3) ∷ args.Int (pos 8) ∷ []) (pos 3) ∷ Sys 1 (args.Int (pos 3) ∷ args.Bytes (104 ∷ 105 ∷ 10 ∷ []) ∷ []) (pos 3) ∷ Sys 0 (args.Int (pos 3) ∷ args.Int (pos 8) ∷ []) (pos 2) ∷ Sys 14 [] (pos 77) ∷ Sys 1 (args.Int (pos 3) ∷ args.Bytes (55 ∷ []) ∷ []) (pos 1) ∷ Sys 0 (args.Int (pos 3) ∷ args.Int (pos 8) ∷ []) (pos 2) ∷ Sys 23 (args.Int (pos 3) ∷ []) (pos 0) ∷ [])
unfolding table sys_types int_wrap
echo_plain = refl
