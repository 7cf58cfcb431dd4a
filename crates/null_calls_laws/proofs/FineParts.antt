-- Expressions and statements with null calls round their marked calls have the grammar's forms, what they are written with is tokens, and
-- they are as texts spell them.
use Rattle.std.proofs.Common.{ℕ, suc, ◌+◌, ◌<◌, Bool, true, false, Option, None, Some, lit<}
use Rattle.c_syntax.specs.Tree.{Expr, comma, cast, call, member, postfix, prefix, unary, index, binary, assign, conditional, Exprs, no_exprs, more_exprs, Maybe, absent, there}
use Rattle.c_syntax.specs.Tree.{pre_increment, pre_decrement}
use Rattle.c_syntax.specs.Tree.{Init, one, list, Inits, no_inits, more_inits, MaybeInit, no_init, an_init, Parts, no_parts, more_parts, Decl, decl, First, first_expr, first_decl}
use Rattle.c_syntax.specs.Tree.{Stmt, block, evaluate, only_if, if_else, while_loop, do_loop, for_loop, switch_on, return_from, BlockItems, block_decl, block_stmt, Stmts, no_stmts, more_stmts, Groups, no_groups, more_groups}
use Rattle.c_syntax.specs.Statements.{IsPlainDecl, IsClosed}
use Rattle.c_syntax.specs.Tokens.{assigns}
use Rattle.c_syntax_printing.specs.Fine.{AreSeveral, IsFine, AreFine, IsFineMaybe}
use Rattle.c_syntax_printing.specs.FineUnits.{IsFineInit, AreFineInits, IsFineMaybeInit, AreFineParts, IsFineDecl, IsFineFirst, IsFineStmt, AreFineBlockItems, AreFineStmts, AreFineGroups}
use Rattle.c_syntax_printing.specs.Writable.{IsWritable, AreWritable, IsWritableMaybe, IsWritableInit, AreWritableInits, IsWritableMaybeInit, AreWritableParts, IsWritableDecl, IsWritableFirst, IsWritableStmt, AreWritableBlockItems, AreWritableStmts, AreWritableGroups}
use Rattle.c_rules.specs.Counts.{calls, calls_of_maybe}
use Rattle.c_rules.specs.Initialisers.{calls_of_init, calls_of_maybe_init}
use Rattle.c_rules.specs.Variables.{calls_of_decl, calls_of_first, calls_of_stmt, calls_of_stmts}
use Rattle.null_calls_laws.specs.MarkedCalls.{Called, Sites}
use Rattle.null_calls_laws.specs.InstrumentedExpressions.{is_void_type, call_where, expr, arguments, members, maybe}
use Rattle.null_calls_laws.specs.InstrumentedStatements as new
use Rattle.null_calls_laws.specs.Lexical.{AreSomeExprs, IsLexical, AreLexical, IsMaybeLexical, IsInitLexical, AreInitsLexical, IsMaybeInitLexical, ArePartsLexical, IsDeclLexical, IsFirstLexical, IsStmtLexical, AreItemsLexical, AreStmtsLexical, AreGroupsLexical}
use Rattle.null_calls_laws.proofs.ExpressionHeights.{Operand, by_type, by_unary}
use Rattle.null_calls_laws.proofs.MembersOfMarkedCalls.{members_of_call, of_call, several_of_call}

-- the number of a marked site is an unsigned constant
abbrev pub FitsWhere : Option Called → ℕ → Type 0
FitsWhere None s = Unit {0}
FitsWhere (Some c) s = s < 4294967296

-- what is said of a part
pub data Sense : Type 0 where
  of_tokens : Sense
  of_texts : Sense
  of_grammar : Sense

abbrev Is : {A : Type 0} → Sense → (W L F : A → Type 0) → A → Type 0
Is of_tokens W L F x = W x
Is of_texts W L F x = L x
Is of_grammar W L F x = F x

abbrev pub Stays : {A : Type 0} → Sense → (W L F : A → Type 0) → A → A → Type 0
Stays k W L F x y = Is k W L F x → Is k W L F y

abbrev IsExpr : Sense → Expr → Type 0
IsExpr k e = Is k IsWritable IsLexical IsFine e

abbrev AreExprs : Sense → Exprs → Type 0
AreExprs k es = Is k AreWritable AreLexical AreFine es

-- ## A marked call

some_of : (es : Exprs) → AreSeveral es → AreSomeExprs es
some_of no_exprs h = h
some_of (more_exprs e es) h = tt

call_stays : (k : Sense) (at site : ℕ) (wanted : Bool) (o : Option Called) (d : Expr) (es : Exprs) → FitsWhere o site → IsExpr k d → AreExprs k es → IsExpr k (call_where at site wanted o d es)
call_stays of_tokens at site wanted (Some c) d es f h m = of_call IsWritable AreWritable tt (λ e es h k. (h, k)) (λ e es h. h) (λ at d es h k. (h, k)) (λ at x h. h) (λ at x e h k. (lit< tt, h, k)) at site (λ x h. (h, (f, tt))) wanted c d es h m
call_stays of_texts at site wanted (Some c) d es f h m =
    (some_of (members_of_call at site wanted c d es) (several_of_call at site wanted c d es), of_call IsLexical AreLexical tt (λ e es h k. (h, k)) (λ e es h. h) (λ at d es h k. (h, k)) (λ at x h. tt) (λ at x e h k. (tt, k)) at site (λ x h. (tt, (f, tt))) wanted c d es h m)
call_stays of_grammar at site wanted (Some c) d es f h m =
    (several_of_call at site wanted c d es, of_call IsFine AreFine tt (λ e es h k. (h, k)) (λ e es h. h) (λ at d es h k. (h, k)) (λ at x h. tt) (λ at x e h k. (assigns, tt, k)) at site (λ x h. (tt, (tt, tt))) wanted c d es h m)
call_stays k at site wanted o d es f h m = (h, m)

-- ## Expressions

module _ (sites : Sites) (fit : (s : ℕ) → FitsWhere (sites s) s) where
  some_members : (es : Exprs) (b : ℕ) (wanted : Bool) → AreSomeExprs es → AreSomeExprs (members sites b wanted es)
  some_members (more_exprs e no_exprs) b wanted h = tt
  some_members es b wanted h = h

  members_several : (es : Exprs) (b : ℕ) (wanted : Bool) → AreSeveral es → AreSeveral (members sites b wanted es)
  members_several (more_exprs e (more_exprs f no_exprs)) b wanted h = tt
  members_several es b wanted h = h

  mutual
    expr_stays : (k : Sense) (x : Expr) (b : ℕ) (wanted : Bool) → IsExpr k x → IsExpr k (expr sites b wanted x)
    expr_stays of_tokens (comma at es) b wanted h = members_stay of_tokens es b wanted h
    expr_stays of_texts (comma at es) b wanted h = (some_members es b wanted h.0, members_stay of_texts es b wanted h.1)
    expr_stays of_grammar (comma at es) b wanted h = (members_several es b wanted h.0, members_stay of_grammar es b wanted h.1)
    expr_stays of_texts (cast at t e) b wanted h = by_type IsLexical (is_void_type t) (expr sites b false e) (expr sites b true e) (expr_stays of_texts e b false h) (expr_stays of_texts e b true h)
    expr_stays k (cast at t e) b wanted h = (h.0, by_type (IsExpr k) (is_void_type t) (expr sites b false e) (expr sites b true e) (expr_stays k e b false h.1) (expr_stays k e b true h.1))
    expr_stays k (call at d es) b wanted h = call_stays k at (b + calls d) wanted (sites (b + calls d)) (expr sites b true d) (arguments sites (suc (b + calls d)) es) (fit (b + calls d)) (expr_stays k d b true h.0) (arguments_stay k es (suc (b + calls d)) h.1)
    expr_stays of_tokens (member at how e x) b wanted h = (expr_stays of_tokens e b true h.0, h.1)
    expr_stays k (member at how e x) b wanted h = expr_stays k e b true h
    expr_stays k (postfix at op e) b wanted h = expr_stays k e b true h
    expr_stays k (prefix at pre_increment e) b wanted h = expr_stays k e b true h
    expr_stays k (prefix at pre_decrement e) b wanted h = expr_stays k e b true h
    expr_stays of_texts (unary at op e) b wanted h = by_unary IsLexical sites at op e b wanted (expr_stays of_texts e b true h) (operand_stays of_texts e b h)
    expr_stays k (unary at op e) b wanted h = by_unary (IsExpr k) sites at op e b wanted (h.0, expr_stays k e b true h.1) (operand_stays k e b h.1)
    expr_stays k (index at e f) b wanted h = (expr_stays k e b true h.0, expr_stays k f (b + calls e) true h.1)
    expr_stays of_texts (binary at op e f) b wanted h = (expr_stays of_texts e b true h.0, expr_stays of_texts f (b + calls e) true h.1)
    expr_stays k (binary at op e f) b wanted h = (h.0, expr_stays k e b true h.1, expr_stays k f (b + calls e) true h.2)
    expr_stays of_texts (assign at op e f) b wanted h = (expr_stays of_texts e b true h.0, expr_stays of_texts f (b + calls e) true h.1)
    expr_stays k (assign at op e f) b wanted h = (h.0, expr_stays k e b true h.1, expr_stays k f (b + calls e) true h.2)
    expr_stays k (conditional at c e f) b wanted h = (expr_stays k c b true h.0, expr_stays k e (b + calls c) true h.1, expr_stays k f (b + calls c + calls e) true h.2)
    expr_stays k x b wanted h = h

    operand_stays : (k : Sense) (x : Expr) (b : ℕ) → IsExpr k x → Operand (IsExpr k) sites b x
    operand_stays of_texts (unary at op e) b h = expr_stays of_texts e b false h
    operand_stays k (unary at op e) b h = expr_stays k e b false h.1
    operand_stays k x b h = tt

    arguments_stay : (k : Sense) (es : Exprs) (b : ℕ) → AreExprs k es → AreExprs k (arguments sites b es)
    arguments_stay k no_exprs b h = h
    arguments_stay of_texts (more_exprs e es) b h = (expr_stays of_texts e b true h.0, arguments_stay of_texts es (b + calls e) h.1)
    arguments_stay k (more_exprs e es) b h = (expr_stays k e b true h.0, arguments_stay k es (b + calls e) h.1)

    members_stay : (k : Sense) (es : Exprs) (b : ℕ) (wanted : Bool) → AreExprs k es → AreExprs k (members sites b wanted es)
    members_stay of_texts (more_exprs e no_exprs) b wanted h = (expr_stays of_texts e b wanted h.0, tt)
    members_stay k (more_exprs e no_exprs) b wanted h = (expr_stays k e b wanted h.0, tt)
    members_stay k (more_exprs e (more_exprs f es)) b wanted h = (expr_stays k e b false h.0, members_stay k (more_exprs f es) (b + calls e) wanted h.1)
    members_stay k es b wanted h = h

  maybe_stays : (k : Sense) (m : Maybe) (b : ℕ) (wanted : Bool) → Stays k IsWritableMaybe IsMaybeLexical IsFineMaybe m (maybe sites b wanted m)
  maybe_stays k absent b wanted h = h
  maybe_stays of_texts (there e) b wanted h = expr_stays of_texts e b wanted h
  maybe_stays k (there e) b wanted h = expr_stays k e b wanted h

  -- ## Statements

  mutual
    init_stays : (k : Sense) (i : Init) (b : ℕ) → Stays k IsWritableInit IsInitLexical IsFineInit i (new.init sites b i)
    init_stays of_grammar (list at no_inits) b h = h
    init_stays of_texts (list at is) b h = inits_stay of_texts is b h
    init_stays k (list at is) b h = inits_stay k is b h
    init_stays of_texts (one at e) b h = expr_stays of_texts e b true h
    init_stays k (one at e) b h = expr_stays k e b true h

    inits_stay : (k : Sense) (is : Inits) (b : ℕ) → Stays k AreWritableInits AreInitsLexical AreFineInits is (new.inits sites b is)
    inits_stay k no_inits b h = h
    inits_stay of_texts (more_inits i is) b h = (init_stays of_texts i b h.0, inits_stay of_texts is (b + calls_of_init i) h.1)
    inits_stay k (more_inits i is) b h = (init_stays k i b h.0, inits_stay k is (b + calls_of_init i) h.1)

  maybe_init_stays : (k : Sense) (m : MaybeInit) (b : ℕ) → Stays k IsWritableMaybeInit IsMaybeInitLexical IsFineMaybeInit m (new.maybe_init sites b m)
  maybe_init_stays k no_init b h = h
  maybe_init_stays of_texts (an_init i) b h = init_stays of_texts i b h
  maybe_init_stays k (an_init i) b h = init_stays k i b h

  parts_stay : (k : Sense) (ps : Parts) (b : ℕ) → Stays k AreWritableParts ArePartsLexical AreFineParts ps (new.parts sites b ps)
  parts_stay of_tokens (more_parts d m ps) b h = (h.0, maybe_init_stays of_tokens m b h.1, parts_stay of_tokens ps (b + calls_of_maybe_init m) h.2)
  parts_stay of_texts (more_parts d m ps) b h = (maybe_init_stays of_texts m b h.0, parts_stay of_texts ps (b + calls_of_maybe_init m) h.1)
  parts_stay of_grammar (more_parts d m ps) b h = (h.0, h.1, maybe_init_stays of_grammar m b h.2, parts_stay of_grammar ps (b + calls_of_maybe_init m) h.3)
  parts_stay k no_parts b h = h

  decl_stays : (k : Sense) (d : Decl) (b : ℕ) → Stays k IsWritableDecl IsDeclLexical IsFineDecl d (new.declaration sites b d)
  decl_stays of_tokens (decl at class s ps) b h = (h.0, parts_stay of_tokens ps b h.1)
  decl_stays of_grammar (decl at class s no_parts) b h = h
  decl_stays k (decl at class s ps) b h = parts_stay k ps b h

  decl_plain : (d : Decl) (b : ℕ) → IsPlainDecl d → IsPlainDecl (new.declaration sites b d)
  decl_plain (decl at class s ps) b h = h

  first_stays : (k : Sense) (f : First) (b : ℕ) → Stays k IsWritableFirst IsFirstLexical IsFineFirst f (new.first sites b f)
  first_stays of_grammar (first_decl d) b h = (decl_stays of_grammar d b h.0, decl_plain d b h.1)
  first_stays k (first_decl d) b h = decl_stays k d b h
  first_stays k (first_expr e) b h = expr_stays k e b false h
  first_stays k f b h = h

  still_closed : (s : Stmt) (b : ℕ) → IsClosed s → IsClosed (new.stmt sites b s)
  still_closed (only_if at e s) b h = h
  still_closed (if_else at e s t) b h = still_closed t (b + calls e + calls_of_stmt s) h
  still_closed (while_loop at e s) b h = still_closed s (b + calls e) h
  still_closed (for_loop at f test step s) b h = still_closed s (b + calls_of_first f + calls_of_maybe test + calls_of_maybe step) h
  still_closed s b h = tt

  mutual
    stmt_stays : (k : Sense) (s : Stmt) (b : ℕ) → Stays k IsWritableStmt IsStmtLexical IsFineStmt s (new.stmt sites b s)
    stmt_stays of_grammar (if_else at e s t) b h = (expr_stays of_grammar e b true h.0, stmt_stays of_grammar s (b + calls e) h.1, still_closed s (b + calls e) h.2, stmt_stays of_grammar t (b + calls e + calls_of_stmt s) h.3)
    stmt_stays k (if_else at e s t) b h = (expr_stays k e b true h.0, stmt_stays k s (b + calls e) h.1, stmt_stays k t (b + calls e + calls_of_stmt s) h.2)
    stmt_stays k (block at is) b h = block_stays k is b h
    stmt_stays k (evaluate at e) b h = expr_stays k e b false h
    stmt_stays k (only_if at e s) b h = (expr_stays k e b true h.0, stmt_stays k s (b + calls e) h.1)
    stmt_stays k (while_loop at e s) b h = (expr_stays k e b true h.0, stmt_stays k s (b + calls e) h.1)
    stmt_stays k (do_loop at s e) b h = (stmt_stays k s b h.0, expr_stays k e (b + calls_of_stmt s) true h.1)
    stmt_stays k (for_loop at f test step s) b h = (
      first_stays k f b h.0,
      maybe_stays k test (b + calls_of_first f) true h.1,
      maybe_stays k step (b + calls_of_first f + calls_of_maybe test) false h.2,
      stmt_stays k s (b + calls_of_first f + calls_of_maybe test + calls_of_maybe step) h.3,
    )
    stmt_stays k (switch_on at e gs) b h = (expr_stays k e b true h.0, groups_stay k gs (b + calls e) h.1)
    stmt_stays k (return_from at m) b h = maybe_stays k m b true h
    stmt_stays k s b h = h

    pub block_stays : (k : Sense) (is : BlockItems) (b : ℕ) → Stays k AreWritableBlockItems AreItemsLexical AreFineBlockItems is (new.items_of_block sites b is)
    block_stays of_grammar (block_decl d is) b h = (decl_stays of_grammar d b h.0, decl_plain d b h.1, block_stays of_grammar is (b + calls_of_decl d) h.2)
    block_stays k (block_decl d is) b h = (decl_stays k d b h.0, block_stays k is (b + calls_of_decl d) h.1)
    block_stays k (block_stmt s is) b h = (stmt_stays k s b h.0, block_stays k is (b + calls_of_stmt s) h.1)
    block_stays k is b h = h

    stmts_stay : (k : Sense) (ss : Stmts) (b : ℕ) → Stays k AreWritableStmts AreStmtsLexical AreFineStmts ss (new.stmts sites b ss)
    stmts_stay k no_stmts b h = h
    stmts_stay of_texts (more_stmts s ss) b h = (stmt_stays of_texts s b h.0, stmts_stay of_texts ss (b + calls_of_stmt s) h.1)
    stmts_stay k (more_stmts s ss) b h = (stmt_stays k s b h.0, stmts_stay k ss (b + calls_of_stmt s) h.1)

    groups_stay : (k : Sense) (gs : Groups) (b : ℕ) → Stays k AreWritableGroups AreGroupsLexical AreFineGroups gs (new.groups sites b gs)
    groups_stay of_texts (more_groups ls ss gs) b h = (stmts_stay of_texts ss b h.0, groups_stay of_texts gs (b + calls_of_stmts ss) h.1)
    groups_stay of_grammar (more_groups ls no_stmts gs) b h = absurd h.1
    groups_stay k (more_groups ls ss gs) b h = (h.0, stmts_stay k ss b h.1, groups_stay k gs (b + calls_of_stmts ss) h.2)
    groups_stay k no_groups b h = h
