-- The variables that a statement declares, and the calls in it: what is counted from the syntax alone.
use Rattle.std.specs.Prelude.{ℕ, suc, ◌+◌, List, [], ◌∷◌, ◌++◌, if◌then◌else◌, Option, Some, None}
use Rattle.c_syntax.specs.Tree.{Ident, Parts, no_parts, more_parts, Decl, decl}
use Rattle.c_syntax.specs.Tree.{First, first_absent, first_expr, first_decl}
use Rattle.c_syntax.specs.Tree.{Stmt, block, empty, evaluate, only_if, if_else, while_loop, do_loop, for_loop, switch_on, break_off, continue_on, return_from}
use Rattle.c_syntax.specs.Tree.{BlockItems, no_block_items, block_decl, block_stmt, Stmts, no_stmts, more_stmts, Groups, no_groups, more_groups}
use Rattle.c_rules.specs.Names.{Name, is_added}
use Rattle.c_rules.specs.Counts.{calls, calls_of_maybe}
use Rattle.c_rules.specs.Declarators.{name_of}
use Rattle.c_rules.specs.Initialisers.{calls_of_maybe_init}

-- ## Names

abbrev pub name_or_empty : Option Ident → Name
name_or_empty None = []
name_or_empty (Some x) = x.name

abbrev pub names_of_parts : Parts → List Name
names_of_parts no_parts = []
names_of_parts (more_parts d m ps) = name_or_empty (name_of d) ∷ names_of_parts ps

abbrev pub names_of_decl : Decl → List Name
names_of_decl (decl at class s ps) = names_of_parts ps

abbrev pub names_of_first : First → List Name
names_of_first first_absent = []
names_of_first (first_expr e) = []
names_of_first (first_decl d) = names_of_decl d

-- the names of the variables that are declared in a statement, in order
abbrev mutual
  pub names_of_stmt : Stmt → List Name
  names_of_stmt (block at is) = names_of_block is
  names_of_stmt (empty at) = []
  names_of_stmt (evaluate at e) = []
  names_of_stmt (only_if at e s) = names_of_stmt s
  names_of_stmt (if_else at e s t) = names_of_stmt s ++ names_of_stmt t
  names_of_stmt (while_loop at e s) = names_of_stmt s
  names_of_stmt (do_loop at s e) = names_of_stmt s
  names_of_stmt (for_loop at first test step s) = names_of_first first ++ names_of_stmt s
  names_of_stmt (switch_on at e gs) = names_of_groups gs
  names_of_stmt (break_off at) = []
  names_of_stmt (continue_on at) = []
  names_of_stmt (return_from at m) = []

  pub names_of_block : BlockItems → List Name
  names_of_block no_block_items = []
  names_of_block (block_decl d is) = names_of_decl d ++ names_of_block is
  names_of_block (block_stmt s is) = names_of_stmt s ++ names_of_block is

  pub names_of_stmts : Stmts → List Name
  names_of_stmts no_stmts = []
  names_of_stmts (more_stmts s ss) = names_of_stmt s ++ names_of_stmts ss

  pub names_of_groups : Groups → List Name
  names_of_groups no_groups = []
  names_of_groups (more_groups ls ss gs) = names_of_stmts ss ++ names_of_groups gs

-- ## Numbers

-- The next numbers of variables. The instrumenter's variables are numbered after all others, so the others have the numbers that they have
-- without it.
pub record Next : Type 0 where
  pub plain : ℕ
  pub added : ℕ

-- the number of a variable with this name
abbrev pub number_in : Next → Name → ℕ
number_in next x = if is_added x then next.added else next.plain

abbrev pub past_name : Next → Name → Next
past_name next x = if is_added x then record next { added = suc next.added } else record next { plain = suc next.plain }

-- the next numbers behind variables with these names
abbrev pub past_names : Next → List Name → Next
past_names next [] = next
past_names next (x ∷ xs) = past_names (past_name next x) xs

-- where so many parameters stand before a body
abbrev pub first_numbers : ℕ → BlockItems → Next
first_numbers k body =
    record { plain = k; added = (past_names (record { plain = k; added = 0 }) (names_of_block body)).plain }

-- ## Calls

abbrev pub calls_of_parts : Parts → ℕ
calls_of_parts no_parts = 0
calls_of_parts (more_parts d m ps) = calls_of_maybe_init m + calls_of_parts ps

abbrev pub calls_of_decl : Decl → ℕ
calls_of_decl (decl at class s ps) = calls_of_parts ps

abbrev pub calls_of_first : First → ℕ
calls_of_first first_absent = 0
calls_of_first (first_expr e) = calls e
calls_of_first (first_decl d) = calls_of_decl d

abbrev mutual
  pub calls_of_stmt : Stmt → ℕ
  calls_of_stmt (block at is) = calls_of_block is
  calls_of_stmt (empty at) = 0
  calls_of_stmt (evaluate at e) = calls e
  calls_of_stmt (only_if at e s) = calls e + calls_of_stmt s
  calls_of_stmt (if_else at e s t) = calls e + (calls_of_stmt s + calls_of_stmt t)
  calls_of_stmt (while_loop at e s) = calls e + calls_of_stmt s
  calls_of_stmt (do_loop at s e) = calls_of_stmt s + calls e
  calls_of_stmt (for_loop at first test step s) =
      calls_of_first first + (calls_of_maybe test + (calls_of_maybe step + calls_of_stmt s))
  calls_of_stmt (switch_on at e gs) = calls e + calls_of_groups gs
  calls_of_stmt (break_off at) = 0
  calls_of_stmt (continue_on at) = 0
  calls_of_stmt (return_from at m) = calls_of_maybe m

  pub calls_of_block : BlockItems → ℕ
  calls_of_block no_block_items = 0
  calls_of_block (block_decl d is) = calls_of_decl d + calls_of_block is
  calls_of_block (block_stmt s is) = calls_of_stmt s + calls_of_block is

  pub calls_of_stmts : Stmts → ℕ
  calls_of_stmts no_stmts = 0
  calls_of_stmts (more_stmts s ss) = calls_of_stmt s + calls_of_stmts ss

  pub calls_of_groups : Groups → ℕ
  calls_of_groups no_groups = 0
  calls_of_groups (more_groups ls ss gs) = calls_of_stmts ss + calls_of_groups gs
