-- Units with null calls round their marked calls, that they are typed, and that they do what the plain ones do.
use Rattle.std.proofs.Common.{◌≡◌, ℕ, pos, Bool, true, false, List, [], ◌∷◌, codes, refl}
use Rattle.std.specs.Int.{int_wrap}
use Rattle.dm_base.specs.declared.event.Event.TheVariants.{Pre, Post}
use Rattle.dm_base.specs.declared.mode.Mode.TheVariants.{Plain, Instrumented}
use Rattle.sys_table.specs.Table.{table}
use Rattle.c_meaning.specs.Tree.{Program}
use Rattle.c_meaning.specs.Functions.{sys_types}
use Rattle.c_rules.specs.Tree.{an_int, Expr, call, more_exprs, no_exprs, a_name, block_decl, no_init, unsigned_int, void, nothing, Items}
use Rattle.c_rules.specs.Tree as syntax
use Rattle.c_rules.specs.Checked.{Checked, fine, faulty}
use Rattle.c_rules.specs.Units.{checked}
use Rattle.c_meaning.specs.Runs.{Run, run}
use Rattle.c_meaning.proofs.RunTrials.{the_record, the_call, ended}
use Rattle.null_calls_laws.specs.Instrumented.{instrumented_unit}
use Rattle.null_calls_laws.specs.IsWithNullCalls.{IsWithNullCalls}
use Rattle.c_meaning.specs.MarkedRuns.{marked_run}
use Rattle.null_calls_laws.proofs.TrialUnits.{two_calls, every_place, items_of, prototype, of_params, declared, param, getpid_declared, define, of_int, of_void, block_of, returns, name, f_that_asks, a_decl, plus, commas, becomes, call_of, int}
use Rattle.c_rules.proofs.NoProgram.{program_or_none}

abbrev is_fine : Checked Program → Bool
is_fine (fine p) = true
is_fine (faulty f fs) = false

-- the program that a unit is typed as
abbrev plain_program : Items → Program
plain_program u = program_or_none (checked u Plain)

abbrev unit_with_null_calls : Items → Items
unit_with_null_calls u = instrumented_unit (plain_program u) u

-- the program that the instrumented unit is typed as
abbrev program_with_null_calls : Items → Program
program_with_null_calls u = program_or_none (checked (unit_with_null_calls u) Instrumented)

abbrev null_call : List ℕ → ℕ → Expr
null_call x site = call 0 (a_name 0 x) (more_exprs (an_int 0 site true) no_exprs)

-- ( ( ARGUMENT = e ) , __dyck_pre ( SITEu ) , ( RESULT = f ( ARGUMENT ) ) , __dyck_post ( SITEu ) , RESULT )
abbrev call_of_f : (argument result : List ℕ) → (site : ℕ) → Expr → Expr
call_of_f argument result site e =
    commas (becomes (name argument) e ∷ null_call (codes "__dyck_pre") site ∷ becomes (name result) (call_of (codes "f") (name argument ∷ [])) ∷ null_call (codes "__dyck_post") site ∷ name result ∷ [])

-- the two null calls are declared, main has four temporaries, and its two calls of f stand between null calls
two_calls_instrumented : unit_with_null_calls two_calls
    ≡ items_of (
    prototype void (of_params (declared (codes "__dyck_pre")) (param unsigned_int nothing))
    ∷ prototype void (of_params (declared (codes "__dyck_post")) (param unsigned_int nothing))
    ∷ getpid_declared
    ∷ define syntax.int (of_int (declared (codes "g")) (codes "x")) (block_of (returns (name (codes "x")) ∷ []))
    ∷ f_that_asks
    ∷ define syntax.int (of_void (declared (codes "main")))
    (block_decl (a_decl syntax.int (declared (codes "__dyck_a1_0")) no_init)
    (block_decl (a_decl syntax.int (declared (codes "__dyck_r1")) no_init)
    (block_decl (a_decl syntax.int (declared (codes "__dyck_a3_0")) no_init)
    (block_decl (a_decl syntax.int (declared (codes "__dyck_r3")) no_init)
    (block_of (returns (plus (call_of_f (codes "__dyck_a1_0") (codes "__dyck_r1") 1 (call_of (codes "g") (int 1 ∷ []))) (call_of_f (codes "__dyck_a3_0") (codes "__dyck_r3") 3 (int 2))) ∷ []))))))
    ∷ [])
unfolding table sys_types int_wrap
two_calls_instrumented = refl

two_calls_typed : is_fine (checked (unit_with_null_calls two_calls) Instrumented) ≡ true
unfolding table sys_types int_wrap
two_calls_typed = refl

-- the instrumented unit makes the null calls that stand round the marked calls of the plain one
abbrev two_calls_ended : Run
two_calls_ended = ended (pos 3) (Pre 1 ∷ the_call 14 100 ∷ Post 1 ∷ Pre 3 ∷ the_call 14 101 ∷ Post 3 ∷ [])

two_calls_marked : marked_run (plain_program two_calls) (the_record 100 ∷ the_record 101 ∷ []) 5 ≡ two_calls_ended
unfolding table sys_types int_wrap
two_calls_marked = refl

two_calls_run : run (program_with_null_calls two_calls) (the_record 100 ∷ the_record 101 ∷ []) 5 ≡ two_calls_ended
unfolding table sys_types int_wrap
two_calls_run = refl

-- ## Marked calls at every place of the language

every_place_plain : is_fine (checked every_place Plain) ≡ true
unfolding table sys_types int_wrap
every_place_plain = refl

every_place_typed : is_fine (checked (unit_with_null_calls every_place) Instrumented) ≡ true
unfolding table sys_types int_wrap
every_place_typed = refl

-- ## The programs that they are typed as

two_calls_null_calls : IsWithNullCalls (plain_program two_calls) (program_with_null_calls two_calls)
unfolding table sys_types int_wrap
two_calls_null_calls = refl

every_place_null_calls : IsWithNullCalls (plain_program every_place) (program_with_null_calls every_place)
unfolding table sys_types int_wrap
every_place_null_calls = refl
