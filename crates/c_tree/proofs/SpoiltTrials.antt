-- Small programs that are not well-typed.
use Rattle.std.proofs.Common.{◌≡◌, ℕ, zero, suc, false, List, [], ◌∷◌, get_or, ap, sym, subst, ◌∙◌, arith, ◌≤◌, Option, Some, None}
use Rattle.std.proofs.lemmas.Bool.{false≢true}
use Rattle.std.proofs.lemmas.Option.{none-some}
use Rattle.c_tree.specs.declared.value.Value.TheVariants as v
use Rattle.c_tree.specs.Tree.{CType, void, pointer, function, CTypes, no_types, more_types, Static, Program}
use Rattle.c_tree.specs.Tree.{function_name, variable, load, decay, call, no_exprs, more_exprs}
use Rattle.c_tree.specs.Tree.{Stmt, block, evaluate, break_off, return_value, no_stmts, more_stmts}
use Rattle.c_tree.specs.Functions.{int, unsigned_int, sys_types}
use Rattle.c_tree.specs.Typed.{IsStmt, AreArguments}
use Rattle.c_tree.specs.Program.{IsProgram, IsFunction}
use Rattle.c_tree.proofs.OperatorLemmas.{form}
use Rattle.c_tree.proofs.SameLemmas.{result_in, parameters_in}
use Rattle.c_tree.proofs.TypedTrials.{two, zero_of_int, f_with, of_f_and_main, f_of_b, main_of_b, main_of_d}

abbrev taken_where : Option CType → CTypes
taken_where None = no_types
taken_where (Some t) = parameters_in t

-- the block of one statement
abbrev only : Stmt → Stmt
only s = block (more_stmts s no_stmts)

-- the statement in the body of f in a well-typed program
body_of_f : (f m : Stmt) (statics : List Static) (n : ℕ) → IsProgram (of_f_and_main (only f) m statics) n → (r : CType) × (int ≡ r) × IsStmt (of_f_and_main (only f) m statics) [] r false false f
body_of_f f m statics n h =
    let it : IsFunction (of_f_and_main (only f) m statics) (f_with (only f)) = h.functions 0 (f_with (only f)) (omega arith) in
    (it.gives, ap result_in it.type, it.typed.0)

-- a body is a bare statement
bare_body : (n : ℕ) → IsProgram (of_f_and_main (return_value zero_of_int) main_of_d []) n → ⊥
bare_body n h =
    (h.functions 0 (f_with (return_value zero_of_int)) (omega arith)).body

-- two sites are exchanged
exchanged : (n : ℕ) → IsProgram (of_f_and_main (only (return_value (call int 1 16 no_exprs))) (two (evaluate (call int 0 0 no_exprs)) (return_value zero_of_int)) []) n → ⊥
exchanged zero h = let e : 1 ≡ 9 = ap (λ w. get_or w 0 9) h.sites in omega (arith, e)
exchanged (suc n) h = let e : 1 ≡ 0 = ap (λ w. get_or w 0 9) h.sites in omega (arith, e)

-- a break leaves nothing
stray_break : (n : ℕ) → IsProgram (of_f_and_main (only break_off) main_of_d []) n → ⊥
stray_break n h = false≢true (body_of_f break_off main_of_d [] n h).2

-- an unsigned int is returned of a function that gives an int
another_result : (n : ℕ) → IsProgram (of_f_and_main (only (return_value (call unsigned_int 0 18 no_exprs))) main_of_d []) n → ⊥
another_result n h =
    let b = body_of_f (return_value (call unsigned_int 0 18 no_exprs)) main_of_d [] n h in
    let e : 4 ≡ 3 = ap form (b.2.1 ∙ sym b.1) in omega (arith, e)

-- the function has no variables
no_variable : (n : ℕ) → IsProgram (of_f_and_main (only (return_value (load int (variable int false 0)))) main_of_d []) n → ⊥
no_variable n h =
    let b = body_of_f (return_value (load int (variable int false 0))) main_of_d [] n h in none-some int b.2.2.2

-- getpid takes no argument
abbrev too_many : Program
too_many = of_f_and_main (only (return_value (call int 0 16 (more_exprs zero_of_int no_exprs)))) main_of_d []

too_many_arguments : (n : ℕ) → IsProgram too_many n → ⊥
unfolding sys_types
too_many_arguments n h =
    let b = body_of_f (return_value (call int 0 16 (more_exprs zero_of_int no_exprs))) main_of_d [] n h in
    subst (λ ts. AreArguments too_many [] ts (more_exprs zero_of_int no_exprs)) (sym (ap taken_where b.2.2.1)) b.2.2.2

-- a null call, here number 26, is no value
abbrev null_value : Stmt
null_value =
    evaluate (decay (pointer (function void (more_types unsigned_int no_types))) (function_name (function void (more_types unsigned_int no_types)) 26))

null_call_as_value : (n : ℕ) → IsProgram (of_f_and_main (only null_value) main_of_d []) n → ⊥
unfolding sys_types
null_call_as_value n h =
    let b = body_of_f null_value main_of_d [] n h in none-some _ b.2.1

-- a static pointer stands two past its object
abbrev beyond : Static
beyond =
    record { ctype = pointer int; cells = v.At (record { name = record { activation = 0; variable = 0 }; first = 0; width = 1; elements = 1; index = 2 }) ∷ []; string = false }

pointer_beyond : (n : ℕ) → IsProgram (of_f_and_main f_of_b main_of_b (beyond ∷ [])) n → ⊥
pointer_beyond n h =
    let s = (h.statics 0 beyond (omega arith)).typed in
    let e : 2 ≤ 1 = s.0.2.within in omega (arith, e)
