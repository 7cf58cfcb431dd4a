-- What is counted in a statement with null calls round its marked calls: variables, calls, tags of structs and how deep its nodes stand in each other.
use Rattle.std.proofs.Common.{◌≡◌, ℕ, ◌+◌, Bool, true, false, ◌&&◌, if◌then◌else◌, [], ◌∷◌, ◌++◌, refl, ap, ap₂}
use Rattle.c_syntax.specs.Tree.{Init, one, list, Inits, no_inits, more_inits, MaybeInit, no_init, an_init, Parts, no_parts, more_parts, Decl, decl, Maybe, absent, there, Expr}
use Rattle.c_syntax.specs.Tree.{First, first_absent, first_expr, first_decl}
use Rattle.c_syntax.specs.Tree.{Stmt, block, evaluate, only_if, if_else, while_loop, do_loop, for_loop, switch_on, return_from}
use Rattle.c_syntax.specs.Tree.{BlockItems, no_block_items, block_decl, block_stmt, Stmts, no_stmts, more_stmts, Groups, no_groups, more_groups}
use Rattle.c_syntax.specs.Limits.{height, height_of_declarator, height_of_init, height_of_inits, height_of_maybe_init, height_of_parts, height_of_decl, height_of_first, height_of_maybe, height_of_labels, height_of_stmt, height_of_block_items, height_of_stmts, height_of_groups}
use Rattle.c_rules.specs.Names.{Name}
use Rattle.c_rules.specs.Counts.{calls, calls_of_maybe}
use Rattle.c_rules.specs.Declarators.{name_of}
use Rattle.c_rules.specs.Initialisers.{calls_of_init, calls_of_inits, calls_of_maybe_init}
use Rattle.c_rules.specs.Tags.{tags_of_spec, tags_of_declarator, tags_of_expr, tags_of_maybe, tags_of_init, tags_of_inits, tags_of_maybe_init, tags_of_parts, declares_added, are_added, tags_of_decl, tags_of_first, tags_of_labels, tags_of_stmt, tags_of_block, tags_of_stmts, tags_of_groups}
use Rattle.c_rules.specs.Variables.{name_or_empty, names_of_parts, names_of_decl, names_of_first, names_of_stmt, names_of_block, names_of_stmts, names_of_groups, calls_of_parts, calls_of_decl, calls_of_first, calls_of_stmt, calls_of_block, calls_of_stmts, calls_of_groups}
use Rattle.null_calls_laws.specs.MarkedCalls.{Sites}
use Rattle.null_calls_laws.specs.InstrumentedExpressions.{expr, maybe}
use Rattle.null_calls_laws.specs.InstrumentedStatements.{init, inits, maybe_init, parts, declaration, first, stmt, items_of_block, stmts, groups}
use Rattle.null_calls_laws.specs.Counts.{AreNamed}
use Rattle.null_calls_laws.specs.Heights.{BlocksStayLow}
use Rattle.null_calls_laws.specs.Tags.{TagsStay}
use Rattle.null_calls_laws.specs.CountedStatements.{InitNamed, InitsNamed, MaybeInitNamed, PartsNamed, DeclNamed, FirstNamed, MaybeNamed, StmtNamed, BlockNamed, StmtsNamed, GroupsNamed, StatementsCountAlike, BlocksCountAlike}
use Rattle.null_calls_laws.proofs.Alike.{Alike, same, beside, behind, before, unlisted, deeper}
use Rattle.null_calls_laws.proofs.ExpressionCounts.{expr_alike}

module _ (aside : Bool) (sites : Sites) where
  -- ## Declarations

  value_alike : (e : Expr) (b : ℕ) (wanted : Bool) → AreNamed sites b e → Alike {A = Name} [] [] (tags_of_expr (expr sites b wanted e)) (tags_of_expr e) (calls (expr sites b wanted e)) (calls e) (height (expr sites b wanted e)) (height e)
  value_alike e b wanted h = unlisted (expr_alike sites e b wanted h)

  maybe_alike : (m : Maybe) (b : ℕ) (wanted : Bool) → MaybeNamed sites b m → Alike {A = Name} [] [] (tags_of_maybe (maybe sites b wanted m)) (tags_of_maybe m) (calls_of_maybe (maybe sites b wanted m)) (calls_of_maybe m) (height_of_maybe (maybe sites b wanted m)) (height_of_maybe m)
  maybe_alike absent b wanted h = same [] [] 0 0
  maybe_alike (there e) b wanted h = value_alike e b wanted h

  mutual
    init_alike : (i : Init) (b : ℕ) → InitNamed sites b i → Alike {A = Name} [] [] (tags_of_init (init sites b i)) (tags_of_init i) (calls_of_init (init sites b i)) (calls_of_init i) (height_of_init (init sites b i)) (height_of_init i)
    init_alike (one at e) b h = value_alike e b true h
    init_alike (list at is) b h = deeper (inits_alike is b h)

    inits_alike : (is : Inits) (b : ℕ) → InitsNamed sites b is → Alike {A = Name} [] [] (tags_of_inits (inits sites b is)) (tags_of_inits is) (calls_of_inits (inits sites b is)) (calls_of_inits is) (height_of_inits (inits sites b is)) (height_of_inits is)
    inits_alike no_inits b h = same [] [] 0 0
    inits_alike (more_inits i is) b h = beside (init_alike i b h.0) (inits_alike is (b + calls_of_init i) h.1)

  maybe_init_alike : (m : MaybeInit) (b : ℕ) → MaybeInitNamed sites b m
      → Alike {A = Name} [] [] (tags_of_maybe_init (maybe_init sites b m)) (tags_of_maybe_init m) (calls_of_maybe_init (maybe_init sites b m)) (calls_of_maybe_init m) (height_of_maybe_init (maybe_init sites b m)) (height_of_maybe_init m)
  maybe_init_alike no_init b h = same [] [] 0 0
  maybe_init_alike (an_init i) b h = init_alike i b h

  parts_alike : (ps : Parts) (b : ℕ) → PartsNamed sites b ps
      → Alike (names_of_parts (parts sites b ps)) (names_of_parts ps) (tags_of_parts (parts sites b ps)) (tags_of_parts ps) (calls_of_parts (parts sites b ps)) (calls_of_parts ps) (height_of_parts (parts sites b ps)) (height_of_parts ps)
  parts_alike no_parts b h = same [] [] 0 0
  parts_alike (more_parts d m ps) b h = behind (name_or_empty (name_of d) ∷ []) (tags_of_declarator d) (height_of_declarator d) (beside (maybe_init_alike m b h.0) (parts_alike ps (b + calls_of_maybe_init m) h.1))

  parts_added : (ps : Parts) (b : ℕ) → are_added (parts sites b ps) ≡ are_added ps
  parts_added no_parts b = refl
  parts_added (more_parts d m ps) b = ap (λ t. declares_added (name_of d) && t) (parts_added ps (b + calls_of_maybe_init m))

  decl_alike : (d : Decl) (b : ℕ) → DeclNamed sites b d
      → Alike (names_of_decl (declaration sites b d)) (names_of_decl d) (tags_of_decl aside (declaration sites b d)) (tags_of_decl aside d) (calls_of_decl (declaration sites b d)) (calls_of_decl d) (height_of_decl (declaration sites b d)) (height_of_decl d)
  decl_alike (decl at class s ps) b h =
      let r = parts_alike ps b h in
      record { listed = r.listed; tagged = ap₂ (λ t xs. if aside && t then [] else tags_of_spec s ++ xs) (parts_added ps b) r.tagged; calls_most = r.calls_most; low = r.low }

  first_alike : (f : First) (b : ℕ) → FirstNamed sites b f
      → Alike (names_of_first (first sites b f)) (names_of_first f) (tags_of_first aside (first sites b f)) (tags_of_first aside f) (calls_of_first (first sites b f)) (calls_of_first f) (height_of_first (first sites b f)) (height_of_first f)
  first_alike first_absent b h = same [] [] 0 0
  first_alike (first_expr e) b h = value_alike e b false h
  first_alike (first_decl d) b h = decl_alike d b h

  -- ## Statements

  mutual
    pub stmt_alike : (s : Stmt) (b : ℕ) → StmtNamed sites b s
        → Alike (names_of_stmt (stmt sites b s)) (names_of_stmt s) (tags_of_stmt aside (stmt sites b s)) (tags_of_stmt aside s) (calls_of_stmt (stmt sites b s)) (calls_of_stmt s) (height_of_stmt (stmt sites b s)) (height_of_stmt s)
    stmt_alike (block at is) b h = deeper (block_alike is b h)
    stmt_alike (evaluate at e) b h = deeper (value_alike e b false h)
    stmt_alike (only_if at e s) b h = deeper (beside (value_alike e b true h.0) (stmt_alike s (b + calls e) h.1))
    stmt_alike (if_else at e s t) b h = deeper (beside (value_alike e b true h.0) (beside (stmt_alike s (b + calls e) h.1) (stmt_alike t (b + calls e + calls_of_stmt s) h.2)))
    stmt_alike (while_loop at e s) b h = deeper (beside (value_alike e b true h.0) (stmt_alike s (b + calls e) h.1))
    stmt_alike (do_loop at s e) b h = deeper (before (stmt_alike s b h.0) (value_alike e (b + calls_of_stmt s) true h.1))
    stmt_alike (for_loop at f test step s) b h =
        deeper (beside (first_alike f b h.0) (beside (maybe_alike test (b + calls_of_first f) true h.1) (beside (maybe_alike step (b + calls_of_first f + calls_of_maybe test) false h.2) (stmt_alike s (b + calls_of_first f + calls_of_maybe test + calls_of_maybe step) h.3))))
    stmt_alike (switch_on at e gs) b h = deeper (beside (value_alike e b true h.0) (groups_alike gs (b + calls e) h.1))
    stmt_alike (return_from at m) b h = deeper (maybe_alike m b true h)
    stmt_alike s b h = same (names_of_stmt s) (tags_of_stmt aside s) (calls_of_stmt s) (height_of_stmt s)

    block_alike : (is : BlockItems) (b : ℕ) → BlockNamed sites b is
        → Alike (names_of_block (items_of_block sites b is)) (names_of_block is) (tags_of_block aside (items_of_block sites b is)) (tags_of_block aside is) (calls_of_block (items_of_block sites b is)) (calls_of_block is) (height_of_block_items (items_of_block sites b is)) (height_of_block_items is)
    block_alike no_block_items b h = same [] [] 0 0
    block_alike (block_decl d is) b h = beside (decl_alike d b h.0) (block_alike is (b + calls_of_decl d) h.1)
    block_alike (block_stmt s is) b h = beside (stmt_alike s b h.0) (block_alike is (b + calls_of_stmt s) h.1)

    stmts_alike : (ss : Stmts) (b : ℕ) → StmtsNamed sites b ss
        → Alike (names_of_stmts (stmts sites b ss)) (names_of_stmts ss) (tags_of_stmts aside (stmts sites b ss)) (tags_of_stmts aside ss) (calls_of_stmts (stmts sites b ss)) (calls_of_stmts ss) (height_of_stmts (stmts sites b ss)) (height_of_stmts ss)
    stmts_alike no_stmts b h = same [] [] 0 0
    stmts_alike (more_stmts s ss) b h = beside (stmt_alike s b h.0) (stmts_alike ss (b + calls_of_stmt s) h.1)

    groups_alike : (gs : Groups) (b : ℕ) → GroupsNamed sites b gs
        → Alike (names_of_groups (groups sites b gs)) (names_of_groups gs) (tags_of_groups aside (groups sites b gs)) (tags_of_groups aside gs) (calls_of_groups (groups sites b gs)) (calls_of_groups gs) (height_of_groups (groups sites b gs)) (height_of_groups gs)
    groups_alike no_groups b h = same [] [] 0 0
    groups_alike (more_groups ls ss gs) b h = behind [] (tags_of_labels ls) (height_of_labels ls) (beside (stmts_alike ss b h.0) (groups_alike gs (b + calls_of_stmts ss) h.1))

pub statements_stay : StatementsCountAlike
statements_stay sites b s h = (let a = stmt_alike false sites s b h in record { names_same = a.listed; calls_most = a.calls_most })

pub blocks_stay : BlocksCountAlike
blocks_stay sites b is h = (let a = block_alike false sites is b h in record { names_same = a.listed; calls_most = a.calls_most })

pub blocks_low : BlocksStayLow
blocks_low sites b is h = (block_alike false sites is b h).low

pub tags_stay : TagsStay
tags_stay sites aside b is h = (block_alike aside sites is b h).tagged
