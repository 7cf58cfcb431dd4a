-- Statements with null calls round their marked calls beside the plain ones (C99 6.8).
use Rattle.std.specs.Prelude.{◌≡◌, ℕ, List, []}
use Rattle.c_tree.specs.Tree.{CType, Program}
use Rattle.c_tree.specs.Tree as typed
use Rattle.c_syntax.specs.Tree.{Maybe, absent, there, Stmt, block, empty, evaluate, only_if, if_else, while_loop, do_loop, for_loop, switch_on, break_off, continue_on, return_from}
use Rattle.c_syntax.specs.Tree.{BlockItems, no_block_items, block_decl, block_stmt, Stmts, no_stmts, more_stmts, Groups, no_groups, more_groups}
use Rattle.c_rules.specs.Checked.{Checked, fine, faulty}
use Rattle.c_rules.specs.Scopes.{Env, Binding, inside, Before}
use Rattle.c_rules.specs.Counts.{past, after, after_maybe}
use Rattle.c_rules.specs.Variables.{Next, past_names, names_of_decl, names_of_first, names_of_stmt, names_of_stmts, calls_of_block, calls_of_groups}
use Rattle.c_rules.specs.Blocks.{behind_decl, behind_first, held_by_block, held_by_groups, after_decl, after_first, after_stmt, after_stmts, StatementTree, with_tree}
use Rattle.c_rules.specs.Statements.{Around, Labelled, stmt, items_of_block}
use Rattle.null_calls_laws.specs.MarkedCalls.{Sites}
use Rattle.null_calls_laws.specs.InstrumentedStatements as marked_statements
use Rattle.null_calls_laws.specs.InstrumentedPrograms as with_null_calls
use Rattle.null_calls_laws.specs.WithoutSites.{unsited_stmt, unsited_groups}
use Rattle.null_calls_laws.specs.Counts.{Near}
use Rattle.null_calls_laws.specs.CountedStatements.{StmtNamed, BlockNamed}
use Rattle.null_calls_laws.specs.Tabled.{AreTabled, AreFound}
use Rattle.null_calls_laws.specs.Follow.{types_of}
use Rattle.null_calls_laws.specs.Standing.{StandBeside}
use Rattle.null_calls_laws.specs.DeclarationsBeside.{DeclTabled, FirstTabled, StatementTreeFollow, SameNumber}

-- so much stands before what follows the items of a block, and the groups of a switch
abbrev pub after_block : Env → Before → Next → BlockItems → Before
after_block env b next is = past b (calls_of_block is) (held_by_block env next is)

abbrev pub after_groups : Env → Before → Next → Groups → Before
after_groups env b next gs = past b (calls_of_groups gs) (held_by_groups env next gs)

-- each call stands at its site
module _ (p : Program) (sites : Sites) where
  abbrev pub MaybeTabled : Env → Before → Maybe → Type 0
  MaybeTabled env b absent = Unit {0}
  MaybeTabled env b (there e) = AreTabled p sites env b e

  abbrev mutual
    pub StmtTabled : Env → Before → Next → Stmt → Type 0
    StmtTabled env b next (block at is) = BlockTabled (inside env) b next is
    StmtTabled env b next (empty at) = Unit {0}
    StmtTabled env b next (evaluate at e) = AreTabled p sites env b e
    StmtTabled env b next (only_if at e s) = AreTabled p sites env b e × StmtTabled env (after b e) next s
    StmtTabled env b next (if_else at e s t) =
        AreTabled p sites env b e × StmtTabled env (after b e) next s × StmtTabled env (after_stmt env (after b e) next s) (past_names next (names_of_stmt s)) t
    StmtTabled env b next (while_loop at e s) = AreTabled p sites env b e × StmtTabled env (after b e) next s
    StmtTabled env b next (do_loop at s e) = StmtTabled env b next s × AreTabled p sites env (after_stmt env b next s) e
    StmtTabled env b next (for_loop at first test step s) =
        FirstTabled p sites (inside env) b next first
        × MaybeTabled (behind_first (inside env) next first) (after_first (inside env) b next first) test
        × MaybeTabled (behind_first (inside env) next first) (after_maybe (after_first (inside env) b next first) test) step
        × StmtTabled (behind_first (inside env) next first) (after_maybe (after_maybe (after_first (inside env) b next first) test) step) (past_names next (names_of_first first)) s
    StmtTabled env b next (switch_on at e gs) = AreTabled p sites env b e × GroupsTabled env (after b e) next gs
    StmtTabled env b next (break_off at) = Unit {0}
    StmtTabled env b next (continue_on at) = Unit {0}
    StmtTabled env b next (return_from at m) = MaybeTabled env b m

    pub BlockTabled : Env → Before → Next → BlockItems → Type 0
    BlockTabled env b next no_block_items = Unit {0}
    BlockTabled env b next (block_decl d is) =
        DeclTabled p sites env b next d × BlockTabled (behind_decl env next d) (after_decl env b next d) (past_names next (names_of_decl d)) is
    BlockTabled env b next (block_stmt s is) =
        StmtTabled env b next s × BlockTabled env (after_stmt env b next s) (past_names next (names_of_stmt s)) is

    pub StmtsTabled : Env → Before → Next → Stmts → Type 0
    StmtsTabled env b next no_stmts = Unit {0}
    StmtsTabled env b next (more_stmts s ss) =
        StmtTabled env b next s × StmtsTabled env (after_stmt env b next s) (past_names next (names_of_stmt s)) ss

    pub GroupsTabled : Env → Before → Next → Groups → Type 0
    GroupsTabled env b next no_groups = Unit {0}
    GroupsTabled env b next (more_groups ls ss gs) =
        StmtsTabled env b next ss × GroupsTabled env (after_stmts env b next ss) (past_names next (names_of_stmts ss)) gs

-- A statement on the right where there is one on the left: the instrumented one, whose temporaries have the types ts and are numbered from k
-- on. It has the same variables, of which none is the instrumenter's.
abbrev pub StatementTreeFollows : Program → (k : ℕ) → List CType → Checked (StatementTree typed.Stmt) → Checked (StatementTree typed.Stmt) → Type 0
StatementTreeFollows p k ts (fine q) s =
    (x : typed.Stmt) × (s ≡ fine (with_tree q x)) × (q.added ≡ []) × (with_null_calls.kept_of_stmt p q.tree ≡ ts) × (unsited_stmt x ≡ with_null_calls.stmt p k q.tree)
StatementTreeFollows p k ts (faulty f fs) s = Unit {0}

-- groups of a switch, with the same labels
abbrev pub GroupsFollow : Program → (k : ℕ) → List CType → Checked Labelled → Checked Labelled → Type 0
GroupsFollow p k ts (fine l) s =
    (x : typed.Groups) × (s ≡ fine (record { groups = with_tree l.groups x; labels = l.labels })) × (l.groups.added ≡ []) × (with_null_calls.kept_of_groups p l.groups.tree ≡ ts) × (unsited_groups x ≡ with_null_calls.groups p k l.groups.tree)
GroupsFollow p k ts (faulty f fs) s = Unit {0}

module _ (p : Program) (sites : Sites) (e f : Env) (a : Around) (b b' : Before) (next next' : Next) (k : ℕ) where
  -- A statement: what it gives, and, where it is fine, so much that stands before what follows.
  pub record StmtGoes (s : Stmt) : Type 0 where
    pub laid : StatementTreeFollows p k (types_of (marked_statements.kept_of_stmt sites b.sites s)) (stmt e a b next s) (stmt f a b' next' (marked_statements.stmt sites b.sites s))
    pub near : (q : StatementTree typed.Stmt) → stmt e a b next s ≡ fine q → Near (after_stmt e b next s) (after_stmt f b' next' (marked_statements.stmt sites b.sites s))

  -- the declarations and statements of a block
  pub record BlockGoes (is : BlockItems) : Type 0 where
    pub laid : StatementTreeFollow p k (types_of (marked_statements.kept_of_block sites b.sites is)) (items_of_block e a b next is) (items_of_block f a b' next' (marked_statements.items_of_block sites b.sites is))
    pub near : (q : StatementTree typed.Stmts) → items_of_block e a b next is ≡ fine q → Near (after_block e b next is) (after_block f b' next' (marked_statements.items_of_block sites b.sites is))

-- every statement
abbrev pub StatementsGo : Type 0
StatementsGo =
    (p : Program) (sites : Sites) (names : List Binding) (e f : Env) → StandBeside p names e f → (a : Around) (b b' : Before) (next next' : Next) (k : ℕ) (s : Stmt)
    → StmtNamed sites b.sites s → StmtTabled p sites e b next s → AreFound names k (marked_statements.kept_of_stmt sites b.sites s) → Near b b' → SameNumber next next' → StmtGoes p sites e f a b b' next next' k s

-- every block
abbrev pub BlocksGo : Type 0
BlocksGo =
    (p : Program) (sites : Sites) (names : List Binding) (e f : Env) → StandBeside p names e f → (a : Around) (b b' : Before) (next next' : Next) (k : ℕ) (is : BlockItems)
    → BlockNamed sites b.sites is → BlockTabled p sites e b next is → AreFound names k (marked_statements.kept_of_block sites b.sites is) → Near b b' → SameNumber next next' → BlockGoes p sites e f a b b' next next' k is
