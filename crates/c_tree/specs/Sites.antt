-- The sites of call expressions in the order of their opening parentheses: those in the designator, then the call's own, then those in its arguments.
use Rattle.std.specs.Prelude.{ℕ, List, [], flat_map}
use Rattle.c_tree.specs.Tree.{Expr, Exprs, Maybe, Inits, Stmt, Stmts, Groups, Function, Program}
use Rattle.c_tree.specs.Gathered.{Gathering, gathered, gathered_all, gathered_maybe, gathered_inits, gathered_stmt, gathered_stmts, gathered_groups}

abbrev pub all_sites : Gathering ℕ
all_sites = record {
  named = λ f. [];
  direct = λ site f. site;
  through = λ site t. site;
}

abbrev pub sites_of : Expr → List ℕ
sites_of e = gathered all_sites e

abbrev pub sites_of_all : Exprs → List ℕ
sites_of_all es = gathered_all all_sites es

abbrev pub sites_of_maybe : Maybe → List ℕ
sites_of_maybe e = gathered_maybe all_sites e

abbrev pub sites_of_inits : Inits → List ℕ
sites_of_inits is = gathered_inits all_sites is

abbrev pub sites_of_stmt : Stmt → List ℕ
sites_of_stmt s = gathered_stmt all_sites s

abbrev pub sites_of_stmts : Stmts → List ℕ
sites_of_stmts ss = gathered_stmts all_sites ss

abbrev pub sites_of_groups : Groups → List ℕ
sites_of_groups gs = gathered_groups all_sites gs

abbrev pub sites_of_function : Function → List ℕ
sites_of_function f = sites_of_stmt f.body

-- the sites of a program, function by function
abbrev pub sites_of_program : Program → List ℕ
sites_of_program p = flat_map sites_of_function p.functions
