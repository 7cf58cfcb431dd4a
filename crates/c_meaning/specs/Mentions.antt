-- What a program says of functions: where their names stand, and where they are called.
use Rattle.std.specs.Prelude.{ℕ, List, [], ◌∷◌, ◌++◌, flat_map}
use Rattle.c_tree.specs.declared.value.Value.{Value}
use Rattle.c_tree.specs.declared.value.Value.TheVariants as v
use Rattle.c_tree.specs.Tree.{CType, Expr, Exprs, Maybe, Inits, Stmt, Stmts, Groups, Function, Static, Program}
use Rattle.c_tree.specs.Gathered.{Gathering, gathered, gathered_all, gathered_maybe, gathered_inits, gathered_stmt, gathered_stmts, gathered_groups}

-- what a call expression calls: the function with a number by its name, or a pointer of a type
pub data Callee : Type 0 where
  Direct : ℕ → Callee
  Through : CType → Callee

-- the name of the function stands there, other than to call it; or there is a call at the site
pub data Mention : Type 0 where
  Named : ℕ → Mention
  Calls : ℕ → Callee → Mention

abbrev pub all_mentions : Gathering Mention
all_mentions = record {
  named = λ f. Named f ∷ [];
  direct = λ site f. Calls site (Direct f);
  through = λ site t. Calls site (Through t);
}

abbrev pub mentions : Expr → List Mention
mentions e = gathered all_mentions e

abbrev pub mentions_of_all : Exprs → List Mention
mentions_of_all es = gathered_all all_mentions es

abbrev pub mentions_of_maybe : Maybe → List Mention
mentions_of_maybe e = gathered_maybe all_mentions e

abbrev pub mentions_of_inits : Inits → List Mention
mentions_of_inits is = gathered_inits all_mentions is

abbrev pub mentions_of_stmt : Stmt → List Mention
mentions_of_stmt s = gathered_stmt all_mentions s

abbrev pub mentions_of_stmts : Stmts → List Mention
mentions_of_stmts ss = gathered_stmts all_mentions ss

abbrev pub mentions_of_groups : Groups → List Mention
mentions_of_groups gs = gathered_groups all_mentions gs

abbrev pub mentions_of_function : Function → List Mention
mentions_of_function f = mentions_of_stmt f.body

-- a function value in a cell of a static object
abbrev pub mention_of_cell : Value → List Mention
mention_of_cell (v.Func f) = Named f ∷ []
mention_of_cell _ = []

abbrev pub mentions_of_static : Static → List Mention
mentions_of_static s = flat_map mention_of_cell s.cells

-- those of a program's functions, and of its static objects
abbrev pub mentions_of_program : Program → List Mention
mentions_of_program p = flat_map mentions_of_function p.functions ++ flat_map mentions_of_static p.statics
