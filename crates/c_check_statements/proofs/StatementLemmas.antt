-- Statements one after another, and what stands before what follows them.
use Rattle.std.proofs.Common.{◌≡◌, ℕ, ◌+◌, ◌<◌, List, [], ◌∷◌, ◌++◌, length, drop, get_or, refl, ap, sym, subst, ◌∙◌, append_assoc, append-nil}
use Rattle.std.proofs.lemmas.List.{drop_more}
use Rattle.c_check_bodies.specs.Named.{names_of_block_item}
use Rattle.c_check_declarations.specs.CheckError.{CheckError}
use Rattle.c_check_declarations.specs.Agreement.{Names}
use Rattle.c_check_expressions.proofs.NodeLemmas.{past_past}
use Rattle.c_check_expressions.proofs.Turns.{next_fine, next_fails}
use Rattle.c_rules.specs.Blocks.{StatementTree, after_decl, after_stmt, alone, appended, bare, behind_decl, held_by_block, held_by_decl, held_by_stmt, held_by_stmts, local_decl, one_more, some_more}
use Rattle.c_rules.specs.Checked.{Checked, fine, faulty, faults, both, gives, on}
use Rattle.c_rules.specs.Counts.{past}
use Rattle.c_rules.specs.Scopes.{Env, Before}
use Rattle.c_rules.specs.Statements.{Around, items_of_block, stmt, stmts}
use Rattle.c_rules.specs.Variables.{Next, calls_of_block, calls_of_decl, calls_of_stmt, calls_of_stmts, names_of_block, names_of_decl, names_of_stmt, past_name, past_names}
use Rattle.c_rules.specs.Names.{Name}
use Rattle.c_check_statements.specs.Listed.{after_item, behind_item, item_alone}
use Rattle.c_syntax.specs.declared.tree.BlockItem.{BlockItem, Declaration, Statement'}
use Rattle.c_syntax.specs.declared.tree.Stmt.{Stmt as StmtTree}
use Rattle.c_syntax.specs.Tree.{BlockItems, Stmts, more_stmts}
use Rattle.c_syntax.specs.UnitView.{block_item_before, decl_of, stmt_at, stmt_of}
use Rattle.c_syntax.specs.WritesUnit.{block_items_of, stmts_of}
use Rattle.c_tree.specs.Tree as typed

-- ## Trees behind others

tree_assoc : (d e q : typed.Stmts) → appended (appended d e) q ≡ appended d (appended e q)
tree_assoc typed.no_stmts e q = refl
tree_assoc (typed.more_stmts s d) e q = ap (typed.more_stmts s) (tree_assoc d e q)

tree_none : (d : typed.Stmts) → appended d typed.no_stmts ≡ d
tree_none typed.no_stmts = refl
tree_none (typed.more_stmts s d) = ap (typed.more_stmts s) (tree_none d)

pub more_assoc : (d p q : StatementTree typed.Stmts) → some_more (some_more d p) q ≡ some_more d (some_more p q)
more_assoc d p q = λ i. record { tree = tree_assoc d.tree p.tree q.tree i; plain = append_assoc d.plain p.plain q.plain i; added = append_assoc d.added p.added q.added i }

pub more_none : (d : StatementTree typed.Stmts) → some_more d (bare typed.no_stmts) ≡ d
more_none d = λ i. record { tree = tree_none d.tree i; plain = append-nil d.plain i; added = append-nil d.added i }

-- some statements, and those of a part behind them
abbrev pub onto_laid : StatementTree typed.Stmts → Checked (StatementTree typed.Stmts) → Checked (StatementTree typed.Stmts)
onto_laid d r = on r (λ q. fine (some_more d q))

abbrev laid_and : Checked (StatementTree typed.Stmts) → Checked (StatementTree typed.Stmts) → Checked (StatementTree typed.Stmts)
laid_and p r = both p r (λ a q. fine (some_more a q))

alone_and : (p : Checked (StatementTree typed.Stmt)) (r : Checked (StatementTree typed.Stmts)) → both p r (λ a q. fine (one_more a q)) ≡ laid_and (gives p alone) r
alone_and (fine p) (fine q) = refl
alone_and (fine p) (faulty f fs) = refl
alone_and (faulty g gs) r = refl

-- ## What stands before

pub names_append : (next : Next) (xs ys : List Name) → past_names next (xs ++ ys) ≡ past_names (past_names next xs) ys
names_append next [] ys = refl
names_append next (x ∷ xs) ys = names_append (past_name next x) xs ys

-- ## Declarations and statements of a block

-- the first of them, and the others
item_rule : (env : Env) (a : Around) (b : Before) (next : Next) (x : BlockItem) (xs : BlockItems)
    → items_of_block env a b next (block_item_before x xs) ≡ laid_and (item_alone env a b next x) (items_of_block (behind_item env next x) a (after_item env b next x) (past_names next (names_of_block_item x)) xs)
item_rule env a b next (Declaration d) xs =
    ap (λ ns. laid_and (local_decl env b next (decl_of d)) (items_of_block (behind_decl env next (decl_of d)) a (after_decl env b next (decl_of d)) (past_names next ns) xs)) (sym (append-nil (names_of_decl (decl_of d))))
item_rule env a b next (Statement' at kind) xs =
    alone_and (stmt env a b next (stmt_at at kind)) (items_of_block env a (after_stmt env b next (stmt_at at kind)) (past_names next (names_of_stmt (stmt_at at kind))) xs)
    ∙ ap (λ ns. laid_and (gives (stmt env a b next (stmt_at at kind)) alone) (items_of_block env a (after_stmt env b next (stmt_at at kind)) (past_names next ns) xs)) (sym (append-nil (names_of_stmt (stmt_at at kind))))

items_at : (is : List BlockItem) (i : ℕ) (x : BlockItem) → i < length is → x ≡ get_or is i x → block_items_of (drop i is) ≡ block_item_before x (block_items_of (drop (i + 1) is))
items_at is i x lt at = ap block_items_of (drop_more is i x lt) ∙ ap (λ y. block_item_before y (block_items_of (drop (i + 1) is))) (sym at)

-- one more of them
pub item_more : (env env' : Env) (a : Around) (b b' : Before) (next next' : Next) (is : List BlockItem) (i : ℕ) (x : BlockItem) (d p new : StatementTree typed.Stmts) (all : Checked (StatementTree typed.Stmts)) → i < length is → x ≡ get_or is i x
    → all ≡ onto_laid d (items_of_block env a b next (block_items_of (drop i is))) → item_alone env a b next x ≡ fine p → env' ≡ behind_item env next x → b' ≡ after_item env b next x → next' ≡ past_names next (names_of_block_item x) → new ≡ some_more d p
    → all ≡ onto_laid new (items_of_block env' a b' next' (block_items_of (drop (i + 1) is)))
item_more env env' a b b' next next' is i x d p new all lt at before given meant counted numbered grown =
    let rest : BlockItems = block_items_of (drop (i + 1) is) in
    let behind : Checked (StatementTree typed.Stmts) = items_of_block (behind_item env next x) a (after_item env b next x) (past_names next (names_of_block_item x)) rest in
    next_fine all (items_of_block env a b next (block_items_of (drop i is))) (item_alone env a b next x) behind (λ u q. fine (some_more u q)) (λ q. fine (some_more d q)) before
    (ap (λ r. items_of_block env a b next r) (items_at is i x lt at) ∙ item_rule env a b next x rest) p (λ q. fine (some_more (some_more d p) q)) given (λ q. ap fine (sym (more_assoc d p q)))
    ∙ (λ j. onto_laid (sym grown j) (items_of_block (sym meant j) a (sym counted j) (sym numbered j) rest))

-- a demand that fails in the next one
pub item_fails : (e : CheckError) (env : Env) (a : Around) (b : Before) (next : Next) (is : List BlockItem) (i : ℕ) (x : BlockItem) (d : StatementTree typed.Stmts) (all : Checked (StatementTree typed.Stmts)) → i < length is → x ≡ get_or is i x
    → all ≡ onto_laid d (items_of_block env a b next (block_items_of (drop i is))) → Names e (faults (item_alone env a b next x)) → Names e (faults all)
item_fails e env a b next is i x d all lt at before n =
    let rest : BlockItems = block_items_of (drop (i + 1) is) in
    let behind : Checked (StatementTree typed.Stmts) = items_of_block (behind_item env next x) a (after_item env b next x) (past_names next (names_of_block_item x)) rest in
    next_fails all (items_of_block env a b next (block_items_of (drop i is))) (item_alone env a b next x) behind (λ u q. fine (some_more u q)) (λ q. fine (some_more d q)) before
    (ap (λ r. items_of_block env a b next r) (items_at is i x lt at) ∙ item_rule env a b next x rest) e n

-- ## Statements alone

pub stmts_at : (ss : List StmtTree) (i : ℕ) (s : StmtTree) → i < length ss → s ≡ get_or ss i s → stmts_of (drop i ss) ≡ more_stmts (stmt_of s) (stmts_of (drop (i + 1) ss))
stmts_at ss i s lt at = ap stmts_of (drop_more ss i s lt) ∙ ap (λ y. more_stmts (stmt_of y) (stmts_of (drop (i + 1) ss))) (sym at)

pub stmt_more : (env here : Env) (a : Around) (b b' : Before) (next next' : Next) (ss : List StmtTree) (i : ℕ) (s : StmtTree) (d new : StatementTree typed.Stmts) (p : StatementTree typed.Stmt) (all : Checked (StatementTree typed.Stmts)) → i < length ss → s ≡ get_or ss i s → here ≡ env
    → all ≡ onto_laid d (stmts env a b next (stmts_of (drop i ss))) → stmt here a b next (stmt_of s) ≡ fine p → b' ≡ after_stmt here b next (stmt_of s) → next' ≡ past_names next (names_of_stmt (stmt_of s)) → new ≡ some_more d (alone p)
    → all ≡ onto_laid new (stmts env a b' next' (stmts_of (drop (i + 1) ss)))
stmt_more env here a b b' next next' ss i s d new p all lt at same before given counted numbered grown =
    let rest : Stmts = stmts_of (drop (i + 1) ss) in
    let behind : Checked (StatementTree typed.Stmts) = stmts env a (after_stmt env b next (stmt_of s)) (past_names next (names_of_stmt (stmt_of s))) rest in
    next_fine all (stmts env a b next (stmts_of (drop i ss))) (stmt env a b next (stmt_of s)) behind (λ u q. fine (one_more u q)) (λ q. fine (some_more d q)) before
    (ap (λ r. stmts env a b next r) (stmts_at ss i s lt at)) p (λ q. fine (some_more (some_more d (alone p)) q)) ((λ j. stmt (sym same j) a b next (stmt_of s)) ∙ given) (λ q. ap fine (sym (more_assoc d (alone p) q)))
    ∙ (λ j. onto_laid (sym grown j) (stmts env a (sym (counted ∙ (λ k. after_stmt (same k) b next (stmt_of s))) j) (sym numbered j) rest))

pub stmt_fails : (e : CheckError) (env here : Env) (a : Around) (b : Before) (next : Next) (ss : List StmtTree) (i : ℕ) (s : StmtTree) (d : StatementTree typed.Stmts) (all : Checked (StatementTree typed.Stmts)) → i < length ss → s ≡ get_or ss i s → here ≡ env
    → all ≡ onto_laid d (stmts env a b next (stmts_of (drop i ss))) → Names e (faults (stmt here a b next (stmt_of s))) → Names e (faults all)
stmt_fails e env here a b next ss i s d all lt at same before n =
    let behind : Checked (StatementTree typed.Stmts) = stmts env a (after_stmt env b next (stmt_of s)) (past_names next (names_of_stmt (stmt_of s))) (stmts_of (drop (i + 1) ss)) in
    next_fails all (stmts env a b next (stmts_of (drop i ss))) (stmt env a b next (stmt_of s)) behind (λ u q. fine (one_more u q)) (λ q. fine (some_more d q)) before
    (ap (λ r. stmts env a b next r) (stmts_at ss i s lt at)) e (subst (λ v. Names e (faults (stmt v a b next (stmt_of s)))) same n)

pub laid_start : (r : Checked (StatementTree typed.Stmts)) → r ≡ onto_laid (bare typed.no_stmts) r
laid_start (fine q) = refl
laid_start (faulty g gs) = refl

-- ## What stands before, and the numbers, behind one more

pub item_counted : (env env' : Env) (b b' whole : Before) (next next' : Next) (is : List BlockItem) (i : ℕ) (x : BlockItem) → i < length is → x ≡ get_or is i x
    → whole ≡ past b (calls_of_block (block_items_of (drop i is))) (held_by_block env next (block_items_of (drop i is))) → env' ≡ behind_item env next x → b' ≡ after_item env b next x → next' ≡ past_names next (names_of_block_item x)
    → whole ≡ past b' (calls_of_block (block_items_of (drop (i + 1) is))) (held_by_block env' next' (block_items_of (drop (i + 1) is)))
item_counted env env' b b' whole next next' is i x lt at before meant counted numbered =
    let rest : BlockItems = block_items_of (drop (i + 1) is) in
    before
    ∙ (ap (λ r. past b (calls_of_block r) (held_by_block env next r)) (items_at is i x lt at)
    ∙ (item_past env b next x rest ∙ (λ j. past (sym counted j) (calls_of_block rest) (held_by_block (sym meant j) (sym numbered j) rest))))
  where
    item_past : (env : Env) (b : Before) (next : Next) (x : BlockItem) (rest : BlockItems)
        → past b (calls_of_block (block_item_before x rest)) (held_by_block env next (block_item_before x rest)) ≡ past (after_item env b next x) (calls_of_block rest) (held_by_block (behind_item env next x) (past_names next (names_of_block_item x)) rest)
    item_past env b next (Declaration d) rest =
        sym (past_past b (calls_of_decl (decl_of d)) (calls_of_block rest) (held_by_decl env next (decl_of d)) (held_by_block (behind_decl env next (decl_of d)) (past_names next (names_of_decl (decl_of d))) rest))
        ∙ ap (λ ns. past (after_decl env b next (decl_of d)) (calls_of_block rest) (held_by_block (behind_decl env next (decl_of d)) (past_names next ns) rest)) (sym (append-nil (names_of_decl (decl_of d))))
    item_past env b next (Statement' at kind) rest =
        sym (past_past b (calls_of_stmt (stmt_at at kind)) (calls_of_block rest) (held_by_stmt env next (stmt_at at kind)) (held_by_block env (past_names next (names_of_stmt (stmt_at at kind))) rest))
        ∙ ap (λ ns. past (after_stmt env b next (stmt_at at kind)) (calls_of_block rest) (held_by_block env (past_names next ns) rest)) (sym (append-nil (names_of_stmt (stmt_at at kind))))

item_names : (x : BlockItem) (rest : BlockItems) → names_of_block (block_item_before x rest) ≡ names_of_block_item x ++ names_of_block rest
item_names (Declaration d) rest = ap (λ ns. ns ++ names_of_block rest) (sym (append-nil (names_of_decl (decl_of d))))
item_names (Statement' at kind) rest = ap (λ ns. ns ++ names_of_block rest) (sym (append-nil (names_of_stmt (stmt_at at kind))))

pub items_names : (is : List BlockItem) (i : ℕ) (x : BlockItem) → i < length is → x ≡ get_or is i x → names_of_block (block_items_of (drop i is)) ≡ names_of_block_item x ++ names_of_block (block_items_of (drop (i + 1) is))
items_names is i x lt at = ap names_of_block (items_at is i x lt at) ∙ item_names x (block_items_of (drop (i + 1) is))

-- the numbers behind one more part that declares some of the names
pub numbered_more : (next next' whole : Next) (all own rest : List Name) → whole ≡ past_names next all → all ≡ own ++ rest → next' ≡ past_names next own → whole ≡ past_names next' rest
numbered_more next next' whole all own rest before split numbered =
    before ∙ (ap (past_names next) split ∙ (names_append next own rest ∙ ap (λ n. past_names n rest) (sym numbered)))

pub stmt_counted : (env here : Env) (b b' whole : Before) (next next' : Next) (ss : List StmtTree) (i : ℕ) (s : StmtTree) → i < length ss → s ≡ get_or ss i s → here ≡ env
    → whole ≡ past b (calls_of_stmts (stmts_of (drop i ss))) (held_by_stmts env next (stmts_of (drop i ss))) → b' ≡ after_stmt here b next (stmt_of s) → next' ≡ past_names next (names_of_stmt (stmt_of s))
    → whole ≡ past b' (calls_of_stmts (stmts_of (drop (i + 1) ss))) (held_by_stmts env next' (stmts_of (drop (i + 1) ss)))
stmt_counted env here b b' whole next next' ss i s lt at same before counted numbered =
    let rest : Stmts = stmts_of (drop (i + 1) ss) in
    before
    ∙ (ap (λ r. past b (calls_of_stmts r) (held_by_stmts env next r)) (stmts_at ss i s lt at)
    ∙ (sym (past_past b (calls_of_stmt (stmt_of s)) (calls_of_stmts rest) (held_by_stmt env next (stmt_of s)) (held_by_stmts env (past_names next (names_of_stmt (stmt_of s))) rest))
    ∙ (λ j. past (sym (counted ∙ (λ k. after_stmt (same k) b next (stmt_of s))) j) (calls_of_stmts rest) (held_by_stmts env (sym numbered j) rest))))
