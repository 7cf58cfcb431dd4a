-- Statements with null calls round their marked calls, and the temporaries of these.
use Rattle.std.specs.Prelude.{ℕ, ◌+◌, true, false, List, [], ◌++◌}
use Rattle.c_rules.specs.Tree.{Init, one, list, Inits, no_inits, more_inits, MaybeInit, no_init, an_init, Parts, no_parts, more_parts, Decl, decl}
use Rattle.c_rules.specs.Tree.{First, first_absent, first_expr, first_decl}
use Rattle.c_rules.specs.Tree.{Stmt, block, empty, evaluate, only_if, if_else, while_loop, do_loop, for_loop, switch_on, break_off, continue_on, return_from}
use Rattle.c_rules.specs.Tree.{BlockItems, no_block_items, block_decl, block_stmt, Stmts, no_stmts, more_stmts, Groups, no_groups, more_groups}
use Rattle.c_rules.specs.Counts.{calls, calls_of_maybe}
use Rattle.c_rules.specs.Initialisers.{calls_of_init, calls_of_maybe_init}
use Rattle.c_rules.specs.Variables.{calls_of_decl, calls_of_first, calls_of_stmt, calls_of_stmts}
use Rattle.null_calls_laws.specs.MarkedCalls.{Sites}
use Rattle.null_calls_laws.specs.Temporaries.{Temporary}
use Rattle.null_calls_laws.specs.InstrumentedExpressions.{expr, maybe, kept, kept_of_maybe}

-- Each part has so many calls before it in the unit. Sizes of arrays and case values aren't evaluated, and stay.
module _ (sites : Sites) where
  -- ## Declarations

  abbrev mutual
    pub init : (before : ℕ) → Init → Init
    init b (one at e) = one at (expr sites b true e)
    init b (list at is) = list at (inits b is)

    pub inits : (before : ℕ) → Inits → Inits
    inits b no_inits = no_inits
    inits b (more_inits i is) = more_inits (init b i) (inits (b + calls_of_init i) is)

    pub kept_of_init : (before : ℕ) → Init → List Temporary
    kept_of_init b (one at e) = kept sites b true e
    kept_of_init b (list at is) = kept_of_inits b is

    pub kept_of_inits : (before : ℕ) → Inits → List Temporary
    kept_of_inits b no_inits = []
    kept_of_inits b (more_inits i is) = kept_of_init b i ++ kept_of_inits (b + calls_of_init i) is

  abbrev pub maybe_init : (before : ℕ) → MaybeInit → MaybeInit
  maybe_init b no_init = no_init
  maybe_init b (an_init i) = an_init (init b i)

  abbrev pub kept_of_maybe_init : (before : ℕ) → MaybeInit → List Temporary
  kept_of_maybe_init b no_init = []
  kept_of_maybe_init b (an_init i) = kept_of_init b i

  abbrev pub parts : (before : ℕ) → Parts → Parts
  parts b no_parts = no_parts
  parts b (more_parts d m ps) = more_parts d (maybe_init b m) (parts (b + calls_of_maybe_init m) ps)

  abbrev pub kept_of_parts : (before : ℕ) → Parts → List Temporary
  kept_of_parts b no_parts = []
  kept_of_parts b (more_parts d m ps) = kept_of_maybe_init b m ++ kept_of_parts (b + calls_of_maybe_init m) ps

  abbrev pub declaration : (before : ℕ) → Decl → Decl
  declaration b (decl at class s ps) = decl at class s (parts b ps)

  abbrev pub kept_of_decl : (before : ℕ) → Decl → List Temporary
  kept_of_decl b (decl at class s ps) = kept_of_parts b ps

  -- ## Statements

  -- what stands first in the head of a for; the value of an expression there isn't wanted
  abbrev pub first : (before : ℕ) → First → First
  first b first_absent = first_absent
  first b (first_expr e) = first_expr (expr sites b false e)
  first b (first_decl d) = first_decl (declaration b d)

  abbrev pub kept_of_first : (before : ℕ) → First → List Temporary
  kept_of_first b first_absent = []
  kept_of_first b (first_expr e) = kept sites b false e
  kept_of_first b (first_decl d) = kept_of_decl b d

  abbrev mutual
    pub stmt : (before : ℕ) → Stmt → Stmt
    stmt b (block at is) = block at (items_of_block b is)
    stmt b (empty at) = empty at
    stmt b (evaluate at e) = evaluate at (expr sites b false e)
    stmt b (only_if at e s) = only_if at (expr sites b true e) (stmt (b + calls e) s)
    stmt b (if_else at e s t) =
        if_else at (expr sites b true e) (stmt (b + calls e) s) (stmt (b + calls e + calls_of_stmt s) t)
    stmt b (while_loop at e s) = while_loop at (expr sites b true e) (stmt (b + calls e) s)
    stmt b (do_loop at s e) = do_loop at (stmt b s) (expr sites (b + calls_of_stmt s) true e)
    stmt b (for_loop at f test step s) =
        for_loop at (first b f) (maybe sites (b + calls_of_first f) true test) (maybe sites (b + calls_of_first f + calls_of_maybe test) false step)
        (stmt (b + calls_of_first f + calls_of_maybe test + calls_of_maybe step) s)
    stmt b (switch_on at e gs) = switch_on at (expr sites b true e) (groups (b + calls e) gs)
    stmt b (break_off at) = break_off at
    stmt b (continue_on at) = continue_on at
    stmt b (return_from at m) = return_from at (maybe sites b true m)

    pub items_of_block : (before : ℕ) → BlockItems → BlockItems
    items_of_block b no_block_items = no_block_items
    items_of_block b (block_decl d is) = block_decl (declaration b d) (items_of_block (b + calls_of_decl d) is)
    items_of_block b (block_stmt s is) = block_stmt (stmt b s) (items_of_block (b + calls_of_stmt s) is)

    pub stmts : (before : ℕ) → Stmts → Stmts
    stmts b no_stmts = no_stmts
    stmts b (more_stmts s ss) = more_stmts (stmt b s) (stmts (b + calls_of_stmt s) ss)

    pub groups : (before : ℕ) → Groups → Groups
    groups b no_groups = no_groups
    groups b (more_groups ls ss gs) = more_groups ls (stmts b ss) (groups (b + calls_of_stmts ss) gs)

  -- the temporaries of a statement's marked calls, by their sites
  abbrev mutual
    pub kept_of_stmt : (before : ℕ) → Stmt → List Temporary
    kept_of_stmt b (block at is) = kept_of_block b is
    kept_of_stmt b (empty at) = []
    kept_of_stmt b (evaluate at e) = kept sites b false e
    kept_of_stmt b (only_if at e s) = kept sites b true e ++ kept_of_stmt (b + calls e) s
    kept_of_stmt b (if_else at e s t) =
        kept sites b true e ++ (kept_of_stmt (b + calls e) s ++ kept_of_stmt (b + calls e + calls_of_stmt s) t)
    kept_of_stmt b (while_loop at e s) = kept sites b true e ++ kept_of_stmt (b + calls e) s
    kept_of_stmt b (do_loop at s e) = kept_of_stmt b s ++ kept sites (b + calls_of_stmt s) true e
    kept_of_stmt b (for_loop at f test step s) =
        kept_of_first b f ++ (kept_of_maybe sites (b + calls_of_first f) true test ++ (kept_of_maybe sites (b + calls_of_first f + calls_of_maybe test) false step
        ++ kept_of_stmt (b + calls_of_first f + calls_of_maybe test + calls_of_maybe step) s))
    kept_of_stmt b (switch_on at e gs) = kept sites b true e ++ kept_of_groups (b + calls e) gs
    kept_of_stmt b (break_off at) = []
    kept_of_stmt b (continue_on at) = []
    kept_of_stmt b (return_from at m) = kept_of_maybe sites b true m

    pub kept_of_block : (before : ℕ) → BlockItems → List Temporary
    kept_of_block b no_block_items = []
    kept_of_block b (block_decl d is) = kept_of_decl b d ++ kept_of_block (b + calls_of_decl d) is
    kept_of_block b (block_stmt s is) = kept_of_stmt b s ++ kept_of_block (b + calls_of_stmt s) is

    pub kept_of_stmts : (before : ℕ) → Stmts → List Temporary
    kept_of_stmts b no_stmts = []
    kept_of_stmts b (more_stmts s ss) = kept_of_stmt b s ++ kept_of_stmts (b + calls_of_stmt s) ss

    pub kept_of_groups : (before : ℕ) → Groups → List Temporary
    kept_of_groups b no_groups = []
    kept_of_groups b (more_groups ls ss gs) = kept_of_stmts b ss ++ kept_of_groups (b + calls_of_stmts ss) gs
