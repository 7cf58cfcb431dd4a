-- For proofs alone: the calls in typed trees, in the order of their opening parentheses, with what they call.
use Rattle.std.specs.Prelude.{List, []}
use Rattle.c_tree.specs.Tree.{Expr, Exprs, Maybe, Inits, Stmt, Stmts, Groups}
use Rattle.c_tree.specs.Gathered.{Gathering, gathered, gathered_all, gathered_maybe, gathered_inits, gathered_stmt, gathered_stmts, gathered_groups}
use Rattle.c_meaning.specs.Mentions.{Direct, Through, Mention, Calls}

abbrev pub all_calls : Gathering Mention
all_calls = record {
  named = λ f. [];
  direct = λ site f. Calls site (Direct f);
  through = λ site t. Calls site (Through t);
}

abbrev pub calls_in : Expr → List Mention
calls_in e = gathered all_calls e

abbrev pub calls_in_all : Exprs → List Mention
calls_in_all es = gathered_all all_calls es

abbrev pub calls_in_maybe : Maybe → List Mention
calls_in_maybe e = gathered_maybe all_calls e

abbrev pub calls_in_inits : Inits → List Mention
calls_in_inits is = gathered_inits all_calls is

abbrev pub calls_in_stmt : Stmt → List Mention
calls_in_stmt s = gathered_stmt all_calls s

abbrev pub calls_in_stmts : Stmts → List Mention
calls_in_stmts ss = gathered_stmts all_calls ss

abbrev pub calls_in_groups : Groups → List Mention
calls_in_groups gs = gathered_groups all_calls gs
