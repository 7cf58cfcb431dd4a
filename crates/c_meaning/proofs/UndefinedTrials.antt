-- A small program for each kind of undefined behaviour that memory, pointers and calls meet.
use Rattle.std.proofs.Common.{pos, false, [], ◌∷◌, refl}
use Rattle.c_tree.specs.declared.value.BinOp.TheVariants.{Less}
use Rattle.c_tree.specs.declared.value.Value.TheVariants as v
use Rattle.c_tree.specs.Tree.{void, array, no_inits, more_inits, struct, field, pointer}
use Rattle.c_tree.specs.Tree.{constant, load, address_of, discard, comparison, conditional, call, no_exprs, and, string_place}
use Rattle.c_tree.specs.Tree.{evaluate, declare, return_value}
use Rattle.c_tree.specs.Functions.{int}
use Rattle.c_meaning.proofs.TrialTerms.{AllAre, run_of, run_of_two, exits, undefined_after, result, body, exprs, char, int_pointer, number, size, own, static, value, static_value, of_cells, null_static, string_a, first_of, further, behind, set, return_0}

-- Values that are indeterminate, and null pointers (U4, U5)
values_and_places : AllAre (
    -- int main(void) { int x; return x; }
    (run_of (int ∷ []) [] (body (declare 0 no_inits ∷ return_value (value int 0) ∷ [])) [] 1, undefined_after 4 [])
    -- int main(void) { int x = x; return 0; }
    ∷ (run_of (int ∷ []) [] (body (declare 0 (more_inits 0 (value int 0) no_inits) ∷ return_0 ∷ [])) [] 1, undefined_after 4 [])
    -- int main(void) { int x; x; return 0; }
    ∷ (run_of (int ∷ []) [] (body (declare 0 no_inits ∷ evaluate (value int 0) ∷ return_0 ∷ [])) [] 1, undefined_after 4 [])
    -- int main(void) { int x; (void) x; return 0; }
    ∷ (run_of (int ∷ []) [] (body (declare 0 no_inits ∷ evaluate (discard void (value int 0)) ∷ return_0 ∷ [])) [] 1, undefined_after 4 [])
    -- int *p; int main(void) { return *p; }
    ∷ (run_of [] (null_static int ∷ []) (body (return_value (load int (behind int (static_value int_pointer 0))) ∷ [])) [] 1, undefined_after 5 [])
    -- struct s { int l; int m; } *p; int main(void) { &p->m; return 0; }
    ∷ (run_of [] (null_static (struct 0) ∷ []) (body (evaluate (address_of int_pointer (field int 1 (behind (struct 0) (static_value (pointer (struct 0)) 0)))) ∷ return_0 ∷ [])) [] 1, undefined_after 5 [])
    -- int *p; int main(void) { p + 0; return 0; }
    ∷ (run_of [] (null_static int ∷ []) (body (evaluate (further int (static_value int_pointer 0) 0) ∷ return_0 ∷ [])) [] 1, undefined_after 5 [])
    -- int *p; int main(void) { return p < p; }
    ∷ (run_of [] (null_static int ∷ []) (body (return_value (comparison int Less (static_value int_pointer 0) (static_value int_pointer 0)) ∷ [])) [] 1, undefined_after 5 [])
    ∷ [])
values_and_places = refl

-- Objects that ended, and the bounds of arrays (U6 to U9)
objects_and_bounds : AllAre (
    -- int *p; int main(void) { { int x = 3; p = &x; } return *p; }
    (run_of (int ∷ []) (null_static int ∷ []) (body (body (declare 0 (more_inits 0 (number 3) no_inits) ∷ set int_pointer (static int_pointer 0) (address_of int_pointer (own int 0)) ∷ []) ∷ return_value (load int (behind int (static_value int_pointer 0))) ∷ [])) [] 1, undefined_after 6 [])
    -- int *p; int main(void) { { int x = 3; p = &x; } return p ? 1 : 0; }
    ∷ (run_of (int ∷ []) (null_static int ∷ []) (body (body (declare 0 (more_inits 0 (number 3) no_inits) ∷ set int_pointer (static int_pointer 0) (address_of int_pointer (own int 0)) ∷ []) ∷ return_value (conditional int (static_value int_pointer 0) (number 1) (number 0)) ∷ [])) [] 1, undefined_after 6 [])
    -- int a[2]; int main(void) { a + 2; return 0; }
    ∷ (run_of [] (of_cells (array int 2) (v.Int (pos 0) ∷ v.Int (pos 0) ∷ []) false ∷ []) (body (evaluate (further int (first_of int (static (array int 2) 0)) 2) ∷ return_0 ∷ [])) [] 1, exits (pos 0) [])
    -- int a[2]; int main(void) { a + 3; return 0; }
    ∷ (run_of [] (of_cells (array int 2) (v.Int (pos 0) ∷ v.Int (pos 0) ∷ []) false ∷ []) (body (evaluate (further int (first_of int (static (array int 2) 0)) 3) ∷ return_0 ∷ [])) [] 1, undefined_after 7 [])
    -- int a[2]; int main(void) { return *(a + 2); }
    ∷ (run_of [] (of_cells (array int 2) (v.Int (pos 0) ∷ v.Int (pos 0) ∷ []) false ∷ []) (body (return_value (load int (behind int (further int (first_of int (static (array int 2) 0)) 2))) ∷ [])) [] 1, undefined_after 8 [])
    -- int x, y; int main(void) { return &x < &y; }
    ∷ (run_of [] (of_cells int (v.Int (pos 0) ∷ []) false ∷ of_cells int (v.Int (pos 0) ∷ []) false ∷ []) (body (return_value (comparison int Less (address_of int_pointer (static int 0)) (address_of int_pointer (static int 1))) ∷ [])) [] 1, undefined_after 9 [])
    ∷ [])
objects_and_bounds = refl

-- Strings, calls without a value, and system calls (U10 to U12)
strings_and_calls : AllAre (
    -- int main(void) { *"a" = 'b'; return 0; }
    (run_of [] (string_a ∷ []) (body (set char (behind char (first_of char (string_place (array char 2) 0))) (constant char (v.Char (pos 98))) ∷ return_0 ∷ [])) [] 1, undefined_after 10 [])
    -- int f(void) { } int main(void) { return f(); }
    ∷ (run_of_two (body []) [] [] (body (return_value (call int 0 0 no_exprs) ∷ [])) [] 2, undefined_after 11 [])
    -- int f(void) { } int main(void) { 1 ? f() : 0; return 0; }
    ∷ (run_of_two (body []) [] [] (body (evaluate (conditional int (number 1) (call int 0 0 no_exprs) (number 0)) ∷ return_0 ∷ [])) [] 2, undefined_after 11 [])
    -- int f(void) { } int main(void) { 1 && f(); return 0; }
    ∷ (run_of_two (body []) [] [] (body (evaluate (and int (number 1) (call int 0 0 no_exprs)) ∷ return_0 ∷ [])) [] 2, undefined_after 11 [])
    -- int f(void) { } int main(void) { f(); (void) f(); return 0; }
    ∷ (run_of_two (body []) [] [] (body (evaluate (call int 0 0 no_exprs) ∷ evaluate (discard void (call int 1 0 no_exprs)) ∷ return_0 ∷ [])) [] 3, exits (pos 0) [])
    -- char a[1] = { 'a' }; int main(void) { return unlink(a); }
    ∷ (run_of [] (of_cells (array char 1) (v.Char (pos 97) ∷ []) false ∷ []) (body (return_value (call int 0 8 (exprs (first_of char (static (array char 1) 0) ∷ []))) ∷ [])) (result (pos 0) [] ∷ []) 1, undefined_after 12 [])
    -- char a[1] = { 'a' }; int main(void) { return write(1, a, 2u); }
    ∷ (run_of [] (of_cells (array char 1) (v.Char (pos 97) ∷ []) false ∷ []) (body (return_value (call int 0 2 (exprs (number 1 ∷ first_of char (static (array char 1) 0) ∷ size 2 ∷ []))) ∷ [])) (result (pos 2) [] ∷ []) 1, undefined_after 12 [])
    -- int main(void) { return read(0, "a", 9u); }: the literal is met before the size
    ∷ (run_of [] (string_a ∷ []) (body (return_value (call int 0 1 (exprs (number 0 ∷ first_of char (string_place (array char 2) 0) ∷ size 9 ∷ []))) ∷ [])) (result (pos 0) [] ∷ []) 1, undefined_after 10 [])
    ∷ [])
strings_and_calls = refl
