-- What is counted in a statement with null calls round its marked calls: the same variables, and at most three times as many calls.
use Rattle.std.specs.Prelude.{◌≡◌, ℕ, ◌+◌, ◌*◌, ◌≤◌}
use Rattle.c_syntax.specs.Tree.{Init, one, list, Inits, no_inits, more_inits, MaybeInit, no_init, an_init, Parts, no_parts, more_parts, Decl, decl, Maybe, absent, there}
use Rattle.c_syntax.specs.Tree.{First, first_absent, first_expr, first_decl}
use Rattle.c_syntax.specs.Tree.{Stmt, block, empty, evaluate, only_if, if_else, while_loop, do_loop, for_loop, switch_on, break_off, continue_on, return_from}
use Rattle.c_syntax.specs.Tree.{BlockItems, no_block_items, block_decl, block_stmt, Stmts, no_stmts, more_stmts, Groups, no_groups, more_groups}
use Rattle.c_rules.specs.Counts.{calls, calls_of_maybe}
use Rattle.c_rules.specs.Initialisers.{calls_of_init, calls_of_maybe_init}
use Rattle.c_rules.specs.Variables.{names_of_stmt, names_of_block, calls_of_decl, calls_of_first, calls_of_stmt, calls_of_block, calls_of_stmts}
use Rattle.null_calls_laws.specs.MarkedCalls.{Sites}
use Rattle.null_calls_laws.specs.InstrumentedStatements.{stmt, items_of_block}
use Rattle.null_calls_laws.specs.Counts.{AreNamed}

-- each marked call whose designator isn't kept names what it calls
module _ (sites : Sites) where
  abbrev mutual
    pub InitNamed : (before : ℕ) → Init → Type 0
    InitNamed b (one at e) = AreNamed sites b e
    InitNamed b (list at is) = InitsNamed b is

    pub InitsNamed : (before : ℕ) → Inits → Type 0
    InitsNamed b no_inits = Unit {0}
    InitsNamed b (more_inits i is) = InitNamed b i × InitsNamed (b + calls_of_init i) is

  abbrev pub MaybeInitNamed : (before : ℕ) → MaybeInit → Type 0
  MaybeInitNamed b no_init = Unit {0}
  MaybeInitNamed b (an_init i) = InitNamed b i

  abbrev pub PartsNamed : (before : ℕ) → Parts → Type 0
  PartsNamed b no_parts = Unit {0}
  PartsNamed b (more_parts d m ps) = MaybeInitNamed b m × PartsNamed (b + calls_of_maybe_init m) ps

  abbrev pub DeclNamed : (before : ℕ) → Decl → Type 0
  DeclNamed b (decl at class s ps) = PartsNamed b ps

  abbrev pub FirstNamed : (before : ℕ) → First → Type 0
  FirstNamed b first_absent = Unit {0}
  FirstNamed b (first_expr e) = AreNamed sites b e
  FirstNamed b (first_decl d) = DeclNamed b d

  abbrev pub MaybeNamed : (before : ℕ) → Maybe → Type 0
  MaybeNamed b absent = Unit {0}
  MaybeNamed b (there e) = AreNamed sites b e

  abbrev mutual
    pub StmtNamed : (before : ℕ) → Stmt → Type 0
    StmtNamed b (block at is) = BlockNamed b is
    StmtNamed b (empty at) = Unit {0}
    StmtNamed b (evaluate at e) = AreNamed sites b e
    StmtNamed b (only_if at e s) = AreNamed sites b e × StmtNamed (b + calls e) s
    StmtNamed b (if_else at e s t) = AreNamed sites b e × StmtNamed (b + calls e) s × StmtNamed (b + calls e + calls_of_stmt s) t
    StmtNamed b (while_loop at e s) = AreNamed sites b e × StmtNamed (b + calls e) s
    StmtNamed b (do_loop at s e) = StmtNamed b s × AreNamed sites (b + calls_of_stmt s) e
    StmtNamed b (for_loop at f test step s) =
        FirstNamed b f × MaybeNamed (b + calls_of_first f) test × MaybeNamed (b + calls_of_first f + calls_of_maybe test) step × StmtNamed (b + calls_of_first f + calls_of_maybe test + calls_of_maybe step) s
    StmtNamed b (switch_on at e gs) = AreNamed sites b e × GroupsNamed (b + calls e) gs
    StmtNamed b (break_off at) = Unit {0}
    StmtNamed b (continue_on at) = Unit {0}
    StmtNamed b (return_from at m) = MaybeNamed b m

    pub BlockNamed : (before : ℕ) → BlockItems → Type 0
    BlockNamed b no_block_items = Unit {0}
    BlockNamed b (block_decl d is) = DeclNamed b d × BlockNamed (b + calls_of_decl d) is
    BlockNamed b (block_stmt s is) = StmtNamed b s × BlockNamed (b + calls_of_stmt s) is

    pub StmtsNamed : (before : ℕ) → Stmts → Type 0
    StmtsNamed b no_stmts = Unit {0}
    StmtsNamed b (more_stmts s ss) = StmtNamed b s × StmtsNamed (b + calls_of_stmt s) ss

    pub GroupsNamed : (before : ℕ) → Groups → Type 0
    GroupsNamed b no_groups = Unit {0}
    GroupsNamed b (more_groups ls ss gs) = StmtsNamed b ss × GroupsNamed (b + calls_of_stmts ss) gs

pub record StatementStays (sites : Sites) (b : ℕ) (s : Stmt) : Type 0 where
  pub names_same : names_of_stmt (stmt sites b s) ≡ names_of_stmt s
  pub calls_most : calls_of_stmt (stmt sites b s) ≤ 3 * calls_of_stmt s

-- of a function's body
pub record BlockStays (sites : Sites) (b : ℕ) (is : BlockItems) : Type 0 where
  pub names_same : names_of_block (items_of_block sites b is) ≡ names_of_block is
  pub calls_most : calls_of_block (items_of_block sites b is) ≤ 3 * calls_of_block is

abbrev pub StatementsCountAlike : Type 0
StatementsCountAlike = (sites : Sites) (b : ℕ) (s : Stmt) → StmtNamed sites b s → StatementStays sites b s

abbrev pub BlocksCountAlike : Type 0
BlocksCountAlike = (sites : Sites) (b : ℕ) (is : BlockItems) → BlockNamed sites b is → BlockStays sites b is
