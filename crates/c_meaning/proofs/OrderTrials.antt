-- Small programs that show in which order their parts are evaluated.
use Rattle.std.specs.Int.{int_wrap}
use Rattle.std.proofs.Common.{pos, negsuc, true, false, [], ◌∷◌, refl}
use Rattle.dm_base.specs.declared.event.Arg.TheVariants as args
use Rattle.dm_base.specs.declared.event.Event.TheVariants.{Sys}
use Rattle.dm_base.specs.declared.outcome.Outcome.TheVariants as outcomes
use Rattle.sys_table.specs.Table.{table}
use Rattle.c_tree.specs.declared.value.IntType.TheVariants as types
use Rattle.c_tree.specs.declared.value.BinOp.TheVariants.{Add, Less}
use Rattle.c_tree.specs.declared.value.Value.TheVariants as v
use Rattle.c_tree.specs.declared.tree.TLabel.TheVariants.{Case, Default}
use Rattle.c_tree.specs.Tree.{pointer, array, no_inits, more_inits, absent, no_groups, more_groups}
use Rattle.c_tree.specs.Tree.{string_place, load, address_of, decay, dereference, conversion, comparison, arithmetic, update, call, call_through, no_exprs}
use Rattle.c_tree.specs.Tree.{empty, evaluate, declare, return_value, if_else, while_loop, do_loop, for_loop, switch_on, break_off, no_stmts}
use Rattle.c_tree.specs.Functions.{int, char_pointer}
use Rattle.c_meaning.proofs.TrialTerms.{AllAre, run_of, exits, undefined_after, result, getpid, stmts, body, exprs, char, int_pointer, function_type, number, size, own, static, value, static_value, of_cells, null_static, string_a, first_of, further, behind, set, return_0}

-- Operands, from left to right
operands_in_order : AllAre (
    -- int (*f)(int); int main(void) { return (*f)(getpid()); }: null is met before the arguments
    (run_of [] (null_static function_type ∷ []) (body (return_value (call_through int 1 (decay (pointer function_type) (dereference function_type (static_value (pointer function_type) 0))) (exprs (call int 0 15 no_exprs ∷ []))) ∷ [])) (result (pos 7) [] ∷ []) 1, undefined_after 5 [])
    -- int (*f)(int); int main(void) { return f(getpid()); }: null is met after them
    ∷ (run_of [] (null_static function_type ∷ []) (body (return_value (call_through int 1 (static_value (pointer function_type) 0) (exprs (call int 0 15 no_exprs ∷ []))) ∷ [])) (result (pos 7) [] ∷ []) 1, undefined_after 5 (getpid 7 ∷ []))
    -- int *p; int main(void) { *p = getpid(); return 0; }: the place comes before the right side
    ∷ (run_of [] (null_static int ∷ []) (body (set int (behind int (static_value int_pointer 0)) (call int 0 15 no_exprs) ∷ return_0 ∷ [])) (result (pos 7) [] ∷ []) 1, undefined_after 5 [])
    -- int main(void) { int x; x += getpid(); return 0; }: the place is loaded before it
    ∷ (run_of (int ∷ []) [] (body (declare 0 no_inits ∷ evaluate (update int Add false (own int 0) (call int 0 15 no_exprs)) ∷ return_0 ∷ [])) (result (pos 7) [] ∷ []) 1, undefined_after 4 [])
    -- int main(void) { return getpid() + getpid(); }
    ∷ (run_of [] [] (body (return_value (arithmetic int Add (call int 0 15 no_exprs) (call int 1 15 no_exprs)) ∷ [])) (result (pos 3) [] ∷ result (pos 4) [] ∷ []) 1, exits (pos 7) (getpid 3 ∷ getpid 4 ∷ []))
    ∷ [])
unfolding table
operands_in_order = refl

-- Loops, switches, and ends of main
statements_in_order : AllAre (
    -- int main(void) { for (;;) getpid(); }: each test of the loop costs a turn, though there is none
    (run_of [] [] (body (for_loop no_stmts absent absent (evaluate (call int 0 15 no_exprs)) ∷ [])) (result (pos 3) [] ∷ result (pos 4) [] ∷ result (pos 5) [] ∷ []) 3, record { outcome = outcomes.Turns; trace = getpid 3 ∷ getpid 4 ∷ [] })
    -- int main(void) { do break; while (1); return 0; }: the test isn't come to
    ∷ (run_of [] [] (body (do_loop break_off (number 1) ∷ return_0 ∷ [])) [] 1, exits (pos 0) [])
    -- int main(void) { switch (1) { case 0: getpid(); case 1: getpid(); default: getpid(); break; } return 0; }
    ∷ (run_of [] [] (body (switch_on (number 1) (more_groups (Case (v.Int (pos 0)) ∷ []) (stmts (evaluate (call int 0 15 no_exprs) ∷ [])) (more_groups (Case (v.Int (pos 1)) ∷ []) (stmts (evaluate (call int 1 15 no_exprs) ∷ [])) (more_groups (Default ∷ []) (stmts (evaluate (call int 2 15 no_exprs) ∷ break_off ∷ [])) no_groups))) ∷ return_0 ∷ [])) (result (pos 3) [] ∷ result (pos 4) [] ∷ []) 1, exits (pos 0) (getpid 3 ∷ getpid 4 ∷ []))
    -- int main(void) { switch (5) { default: return 2; case 1: return 3; } }
    ∷ (run_of [] [] (body (switch_on (number 5) (more_groups (Default ∷ []) (stmts (return_value (number 2) ∷ [])) (more_groups (Case (v.Int (pos 1)) ∷ []) (stmts (return_value (number 3) ∷ [])) no_groups)) ∷ [])) [] 1, exits (pos 2) [])
    -- int main(void) { switch (4294967295u) { case -1: return 3; } return 0; }: the case has the type of what is compared
    ∷ (run_of [] [] (body (switch_on (size 4294967295) (more_groups (Case (v.Uint 4294967295) ∷ []) (stmts (return_value (number 3) ∷ [])) no_groups) ∷ return_0 ∷ [])) [] 1, exits (pos 3) [])
    -- int main(void) { }
    ∷ (run_of [] [] (body []) [] 1, exits (pos 0) [])
    -- int g; int main(void) { if (g) ; else { g = 1; return main() + 7; } }: also a main that is called
    ∷ (run_of [] (of_cells int (v.Int (pos 0) ∷ []) false ∷ []) (body (if_else (static_value int 0) empty (body (set int (static int 0) (number 1) ∷ return_value (arithmetic int Add (call int 0 0 no_exprs) (number 7)) ∷ [])) ∷ [])) [] 2, exits (pos 7) [])
    ∷ [])
unfolding table
statements_in_order = refl

-- Objects of a block that is entered again
objects_in_order : AllAre (
    -- int *p; int main(void) { int i = 0; while (i < 2) { int x = 5; if (i) return *p; p = &x; i++; } }
    (run_of (int ∷ int ∷ []) (null_static int ∷ []) (body (declare 0 (more_inits 0 (number 0) no_inits) ∷ while_loop (comparison int Less (value int 0) (number 2)) (body (declare 1 (more_inits 0 (number 5) no_inits) ∷ if_else (value int 0) (return_value (load int (behind int (static_value int_pointer 0)))) empty ∷ set int_pointer (static int_pointer 0) (address_of int_pointer (own int 1)) ∷ evaluate (update int Add true (own int 0) (number 1)) ∷ [])) ∷ [])) [] 3, exits (pos 5) [])
    -- the same with the declaration after the if: there is no such object until it has run
    ∷ (run_of (int ∷ int ∷ []) (null_static int ∷ []) (body (declare 0 (more_inits 0 (number 0) no_inits) ∷ while_loop (comparison int Less (value int 0) (number 2)) (body (if_else (value int 0) (return_value (load int (behind int (static_value int_pointer 0)))) empty ∷ declare 1 (more_inits 0 (number 5) no_inits) ∷ set int_pointer (static int_pointer 0) (address_of int_pointer (own int 1)) ∷ evaluate (update int Add true (own int 0) (number 1)) ∷ [])) ∷ [])) [] 3, undefined_after 6 [])
    ∷ [])
unfolding int_wrap
objects_in_order = refl

-- System calls, and what they store
system_calls_in_order : AllAre (
    -- char *p; int main(void) { return read(0, p, 0u); }: a buffer of no bytes isn't looked at
    (run_of [] (null_static char ∷ []) (body (return_value (call int 0 1 (exprs (number 0 ∷ static_value char_pointer 0 ∷ size 0 ∷ []))) ∷ [])) (result (pos 0) [] ∷ []) 1, exits (pos 0) (Sys 0 (args.Int (pos 0) ∷ args.Int (pos 0) ∷ []) (pos 0) ∷ []))
    -- char a[2]; int main(void) { read(0, a, 2u); return a[1]; } with the bytes 65 and 200
    ∷ (run_of [] (of_cells (array char 2) (v.Char (pos 0) ∷ v.Char (pos 0) ∷ []) false ∷ []) (body (evaluate (call int 0 1 (exprs (number 0 ∷ first_of char (static (array char 2) 0) ∷ size 2 ∷ []))) ∷ return_value (conversion int types.Int (load char (behind char (further char (first_of char (static (array char 2) 0)) 1)))) ∷ [])) (result (pos 2) (65 ∷ 200 ∷ []) ∷ []) 1, exits (negsuc 55) (Sys 0 (args.Int (pos 0) ∷ args.Int (pos 2) ∷ []) (pos 2) ∷ []))
    -- int main(void) { return unlink("a"); }: the bytes before the zero are recorded
    ∷ (run_of [] (string_a ∷ []) (body (return_value (call int 0 8 (exprs (first_of char (string_place (array char 2) 0) ∷ []))) ∷ [])) (result (negsuc 0) [] ∷ []) 1, exits (negsuc 0) (Sys 7 (args.Bytes (97 ∷ []) ∷ []) (negsuc 0) ∷ []))
    -- int main(void) { return write(1, "a", 1u); } where the record says that 2 bytes were written
    ∷ (run_of [] (string_a ∷ []) (body (return_value (call int 0 2 (exprs (number 1 ∷ first_of char (string_place (array char 2) 0) ∷ size 1 ∷ []))) ∷ [])) (result (pos 2) [] ∷ []) 1, record { outcome = outcomes.BadResult 1; trace = [] })
    -- int main(void) { _exit(3); return 0; }: it takes no record
    ∷ (run_of [] [] (body (evaluate (call int 0 24 (exprs (number 3 ∷ []))) ∷ return_0 ∷ [])) [] 1, exits (pos 3) (Sys 23 (args.Int (pos 3) ∷ []) (pos 0) ∷ []))
    ∷ [])
unfolding table int_wrap
system_calls_in_order = refl
