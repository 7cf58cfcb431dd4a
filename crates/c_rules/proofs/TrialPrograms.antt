-- Small units that are typed, with their typed programs.
use Rattle.std.proofs.Common.{ℕ, pos, true, false, List, [], ◌∷◌, codes, refl}
use Rattle.c_tree.specs.Mode.TheVariants.{Plain, Instrumented}
use Rattle.std.specs.Int.{int_wrap}
use Rattle.c_tree.specs.Table.{table}
use Rattle.c_tree.specs.declared.value.Value.TheVariants as values
use Rattle.c_tree.specs.Functions.{sys_types, of_none}
use Rattle.c_tree.specs.Functions as functions
use Rattle.c_tree.specs.Tree.{Program, Function}
use Rattle.c_tree.specs.Tree as typed
use Rattle.c_syntax.specs.Tree.{Items, no_items, more_items, only_if, block_stmt, evaluate}
use Rattle.c_syntax.specs.Tree as syntax
use Rattle.c_rules.specs.Units.{IsTyped}
use Rattle.c_rules.proofs.Terms.{as_declared, of_void, alone, file, define, name, int, call_none, returns, end, and_do, main_of}

-- int getpid(void); unsigned getuid(void); int f(void) { return getpid(); } int main(void) { f(); getuid(); f(); return 0; }
abbrev source_b : Items
source_b =
    more_items (file 0 syntax.int (alone (of_void 4 (codes "getpid"))))
    (more_items (file 18 syntax.unsigned_int (alone (of_void 27 (codes "getuid"))))
    (more_items (define 41 syntax.int (of_void 45 (codes "f")) (block_stmt (returns 55 (call_none 62 (codes "getpid"))) end))
    (more_items (main_of 75 (and_do (call_none 92 (codes "f")) 92 (and_do (call_none 97 (codes "getuid")) 97 (and_do (call_none 107 (codes "f")) 107 (block_stmt (returns 112 (int 119 0)) end)))))
    no_items)))

abbrev zero : typed.Expr
zero = typed.constant functions.int (values.Int (pos 0))

abbrev function_with : List ℕ → typed.Stmts → Function
function_with x ss = record { name = x; ctype = of_none functions.int; variables = []; body = typed.block ss }

abbrev program_b : Program
program_b = record {
  structs = [];
  functions =
      function_with (codes "f") (typed.more_stmts (typed.return_value (typed.call functions.int 0 16 typed.no_exprs)) typed.no_stmts)
      ∷ function_with (codes "main") (typed.more_stmts (typed.evaluate (typed.call functions.int 1 0 typed.no_exprs)) (typed.more_stmts (typed.evaluate (typed.call functions.unsigned_int 2 18 typed.no_exprs)) (typed.more_stmts (typed.evaluate (typed.call functions.int 3 0 typed.no_exprs)) (typed.more_stmts (typed.return_value zero) typed.no_stmts))))
      ∷ [];
  main = 1;
  statics = [];
}

source_b_typed : IsTyped source_b Plain program_b
unfolding table sys_types int_wrap
source_b_typed = refl

source_b_instrumented : IsTyped source_b Instrumented program_b
unfolding table sys_types int_wrap
source_b_instrumented = refl

-- int g; int getpid(void); int f(void) { if (g) f(); getpid(); return 0; } int main(void) { f(); return 0; }
abbrev source_d : Items
source_d =
    more_items (file 0 syntax.int (alone (as_declared 4 (codes "g"))))
    (more_items (file 7 syntax.int (alone (of_void 11 (codes "getpid"))))
    (more_items (define 25 syntax.int (of_void 29 (codes "f")) (block_stmt (only_if 39 (name 43 (codes "g")) (evaluate 46 (call_none 46 (codes "f")))) (and_do (call_none 51 (codes "getpid")) 51 (block_stmt (returns 61 (int 68 0)) end))))
    (more_items (main_of 73 (and_do (call_none 90 (codes "f")) 90 (block_stmt (returns 95 (int 102 0)) end)))
    no_items)))

abbrev program_d : Program
program_d = record {
  structs = [];
  functions =
      function_with (codes "f") (typed.more_stmts (typed.if_else (typed.load functions.int (typed.variable functions.int true 0)) (typed.evaluate (typed.call functions.int 0 0 typed.no_exprs)) typed.empty) (typed.more_stmts (typed.evaluate (typed.call functions.int 1 16 typed.no_exprs)) (typed.more_stmts (typed.return_value zero) typed.no_stmts)))
      ∷ function_with (codes "main") (typed.more_stmts (typed.evaluate (typed.call functions.int 2 0 typed.no_exprs)) (typed.more_stmts (typed.return_value zero) typed.no_stmts))
      ∷ [];
  main = 1;
  statics = record { ctype = functions.int; cells = values.Int (pos 0) ∷ []; string = false } ∷ [];
}

source_d_typed : IsTyped source_d Plain program_d
unfolding table sys_types int_wrap
source_d_typed = refl
