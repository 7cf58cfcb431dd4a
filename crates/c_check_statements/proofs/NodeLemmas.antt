-- Forms of statements: their terms, what stands before what follows them, and what they give.
use Rattle.std.proofs.Common.{◌≡◌, ℕ, suc, ◌+◌, List, [], ◌++◌, Vec, Option, Some, None, Result, Ok, Err, OnOk, refl, ap, sym, subst, ◌∙◌, append_assoc, append-nil, arith}
use Rattle.std.specs.Prelude.{Box}
use Rattle.std.specs.Global.{Global}
use Rattle.c_syntax.proofs.NodeRows.{block_is, if_is, switch_is}
use Rattle.c_check_declarations.specs.CheckError.{CheckError}
use Rattle.c_check_declarations.specs.Agreement.{AgreesWith, Names}
use Rattle.c_check_bodies.specs.Scoped.{Declares}
use Rattle.c_rules.specs.Blocks.{StatementTree, after_first, after_stmt, alone, bare, behind_first, held_by_block, held_by_first, held_by_groups, held_by_stmt, joined, one_more, with_tree}
use Rattle.c_rules.specs.Checked.{Checked, fine, faulty, faults, both, gives, on}
use Rattle.c_rules.specs.Counts.{after, after_maybe, calls, calls_of_maybe, past, strings, strings_of_maybe}
use Rattle.c_rules.specs.Scopes.{Env, Before, inside}
use Rattle.c_rules.specs.Statements.{Around, items_of_block, stmt}
use Rattle.c_rules.specs.Variables.{Next, calls_of_block, calls_of_first, calls_of_groups, calls_of_stmt, names_of_first, names_of_stmt, past_names}
use Rattle.c_rules.specs.Names.{Name}
use Rattle.c_check_scopes.specs.declared.environment.Environment.{Environment}
use Rattle.c_check_statements.specs.Ruled.{after_for, tested}
use Rattle.c_check_statements.proofs.PartLemmas.{names_of_three, names_of_two}
use Rattle.c_check_expressions.proofs.NodeLemmas.{past_past}
use Rattle.c_syntax.specs.declared.tree.BlockItem.{BlockItem}
use Rattle.c_syntax.specs.declared.tree.Expr.{Expr as ExprTree}
use Rattle.c_syntax.specs.declared.tree.Group.{Group}
use Rattle.c_syntax.specs.declared.tree.Stmt.{Stmt as StmtTree}
use Rattle.c_syntax.specs.declared.tree.StmtKind.TheVariants.{Block, If, Switch}
use Rattle.c_syntax.specs.Tree.{Expr, First, Groups, Maybe, Stmt, block, block_stmt, no_block_items, if_else, switch_on, while_loop, do_loop}
use Rattle.c_syntax.specs.UnitView.{if_with, stmt_at, stmt_of}
use Rattle.c_syntax.specs.View.{expr_of}
use Rattle.c_syntax.specs.WritesUnit.{block_items_of, else_behind, groups_of}
use Rattle.c_tree.specs.Tree as typed

-- ## Terms

pub block_seen : (s : StmtTree) (v : Vec BlockItem Global) (items : List BlockItem) → s.kind ≡ Block v → items ≡ v.items → block s.at (block_items_of items) ≡ stmt_of s
block_seen s v items is same = ap (λ l. block s.at (block_items_of l)) same ∙ (sym (block_is s.at v) ∙ ap (stmt_at s.at) (sym is))

pub switch_seen : (s : StmtTree) (e : Box ExprTree Global) (v : Vec Group Global) (x : ExprTree) (groups : List Group) → s.kind ≡ Switch e v → x ≡ e.value → groups ≡ v.items → switch_on s.at (expr_of x) (groups_of groups) ≡ stmt_of s
switch_seen s e v x groups is test same = (λ i. switch_on s.at (expr_of (test i)) (groups_of (same i))) ∙ (sym (switch_is s.at e v) ∙ ap (stmt_at s.at) (sym is))

pub if_seen : (s : StmtTree) (e : Box ExprTree Global) (held : Box StmtTree Global) (other : Option (Box StmtTree Global)) (x : ExprTree) (y : StmtTree) → s.kind ≡ If e held other → x ≡ e.value → y ≡ held.value → if_with s.at x (stmt_of y) (else_behind other) ≡ stmt_of s
if_seen s e held other x y is test same = (λ i. if_with s.at (test i) (stmt_of (same i)) (else_behind other)) ∙ (sym (if_is s.at e held other) ∙ ap (stmt_at s.at) (sym is))

-- ## What stands before what follows

pub after_while : (env : Env) (b : Before) (next : Next) (at : ℕ) (e : Expr) (s : Stmt) → after_stmt env (after b e) next s ≡ after_stmt env b next (while_loop at e s)
after_while env b next at e s = past_past b (calls e) (calls_of_stmt s) (strings e) (held_by_stmt env next s)

pub after_do : (env : Env) (b : Before) (next : Next) (at : ℕ) (s : Stmt) (e : Expr) → after (after_stmt env b next s) e ≡ after_stmt env b next (do_loop at s e)
after_do env b next at s e = past_past b (calls_of_stmt s) (calls e) (held_by_stmt env next s) (strings e)

pub after_else : (env : Env) (b : Before) (next : Next) (at : ℕ) (e : Expr) (s t : Stmt) → after_stmt env (after_stmt env (after b e) next s) (past_names next (names_of_stmt s)) t ≡ after_stmt env b next (if_else at e s t)
after_else env b next at e s t =
    let more : Next = past_names next (names_of_stmt s) in
    past_past (after b e) (calls_of_stmt s) (calls_of_stmt t) (held_by_stmt env next s) (held_by_stmt env more t)
    ∙ past_past b (calls e) (calls_of_stmt s + calls_of_stmt t) (strings e) (held_by_stmt env next s ++ held_by_stmt env more t)

pub after_switch : (env : Env) (b : Before) (next : Next) (at : ℕ) (e : Expr) (gs : Groups) → past (after b e) (calls_of_groups gs) (held_by_groups env next gs) ≡ after_stmt env b next (switch_on at e gs)
after_switch env b next at e gs = past_past b (calls e) (calls_of_groups gs) (strings e) (held_by_groups env next gs)

pub after_parts : (outer : Env) (b : Before) (next : Next) (first : First) (test step : Maybe) (s : Stmt)
    → after_for outer b next first test step s
    ≡ past b (calls_of_first first + (calls_of_maybe test + (calls_of_maybe step + calls_of_stmt s)))
    (held_by_first outer next first ++ (strings_of_maybe test ++ (strings_of_maybe step ++ held_by_stmt (behind_first outer next first) (past_names next (names_of_first first)) s)))
after_parts outer b next first test step s =
    let held : List (List ℕ) = held_by_stmt (behind_first outer next first) (past_names next (names_of_first first)) s in
    let b1 : Before = after_first outer b next first in
    past_past (after_maybe b1 test) (calls_of_maybe step) (calls_of_stmt s) (strings_of_maybe step) held
    ∙ (past_past b1 (calls_of_maybe test) (calls_of_maybe step + calls_of_stmt s) (strings_of_maybe test) (strings_of_maybe step ++ held)
    ∙ past_past b (calls_of_first first) (calls_of_maybe test + (calls_of_maybe step + calls_of_stmt s)) (held_by_first outer next first) (strings_of_maybe test ++ (strings_of_maybe step ++ held)))

-- ## What they give

-- what wants memory alone, by what it gives
pub found_as : {X A : Type 0} (view : X → A) (r : Result X CheckError) (want : Checked A) (p : A) → want ≡ fine p → AgreesWith view r (fine p) → AgreesWith view r want
found_as view r want p is h = subst (AgreesWith view r) (sym is) h

-- a part that gives something else
pub gives_as : {A B : Type 0} (p : Checked A) (f : A → B) (a : A) (b : B) → p ≡ fine a → b ≡ f a → gives p f ≡ fine b
gives_as p f a b h q = ap (λ r. gives r f) h ∙ ap fine (sym q)

-- what is made of what a part gives
pub then_given : {A B C : Type 0} (p : Checked A) (f : A → B) (g : B → C) (b : B) → gives p f ≡ fine b → gives p (λ a. g (f a)) ≡ fine (g b)
then_given (fine a) f g b h = ap (λ r. gives r g) h
then_given (faulty k ks) f g b h = ap (λ r. gives r g) h

pub then_fails : {A B C : Type 0} (e : CheckError) (p : Checked A) (f : A → B) (g : A → C) → Names e (faults (gives p f)) → Names e (faults (gives p g))
then_fails e (fine a) f g n = n
then_fails e (faulty k ks) f g n = n

pub given_twice : {A B C D : Type 0} (p : Checked A) (k : A → Checked B) (f : B → C) (g : C → D) → gives (gives (on p k) f) g ≡ on p (λ a. gives (gives (k a) f) g)
given_twice (fine a) k f g = refl
given_twice (faulty e es) k f g = refl

-- a demand that fails in a condition or in the statement behind it
pub if_fails : (e : CheckError) (env : Env) (a : Around) (b : Before) (next : Next) (at : ℕ) (x : ExprTree) (s : Stmt) (o : Option Stmt) → Names e (faults (tested env a b next at (expr_of x) s)) → Names e (faults (stmt env a b next (if_with at x s o)))
if_fails e env a b next at x s None n = names_of_two e _ _ _ (λ c p. with_tree p (typed.if_else c p.tree typed.empty)) n
if_fails e env a b next at x s (Some t) n = names_of_three e _ _ _ _ (λ c p q. joined p q (typed.if_else c p.tree q.tree)) n

-- ## Scopes

-- one block deeper
pub declared_deeper : (outer old inner : Environment) → inner ≡ record outer { depth = suc outer.depth } → Declares inner old → Declares (record outer { depth = suc outer.depth }) old
declared_deeper outer old inner h q = subst (λ e. Declares e old) h q

pub declared_as : (a b c : Environment) → Declares a b → c ≡ b → Declares a c
declared_as a b c d h = (d.0, h ∙ d.1)

pub declared_more : (a b c : Environment) → Declares a b → Declares b c → Declares a c
declared_more a b c d e = (e.0 ++ d.0, e.1 ∙ (λ i. record (d.1 i) { names = e.0 ++ (d.1 i).names }) ∙ (λ i. record a { names = sym (append_assoc e.0 d.0 a.names) i }))

-- ## Clauses on what goes on

pub ok_as : {X A : Type 0} (r : Result X CheckError) (new x y : A) → OnOk r (new ≡ x) → x ≡ y → OnOk r (new ≡ y)
ok_as (Ok a) new x y h q = h ∙ q
ok_as (Err e) new x y h q = tt

-- the names of one declaration alone
pub numbered_alone : {X : Type 0} (r : Result X CheckError) (new next : Next) (names : List Name) → OnOk r (new ≡ past_names next names) → OnOk r (new ≡ past_names next (names ++ []))
numbered_alone r new next names h = ok_as r new (past_names next names) (past_names next (names ++ [])) h (ap (past_names next) (sym (append-nil names)))

-- ## A statement in place of a block

pub alone_only : (env : Env) (a : Around) (b : Before) (next : Next) (s : Stmt) → items_of_block env a b next (block_stmt s no_block_items) ≡ gives (stmt env a b next s) alone
alone_only env a b next s = only (stmt env a b next s)
  where
    only : (p : Checked (StatementTree typed.Stmt)) → both p (fine (bare typed.no_stmts)) (λ q r. fine (one_more q r)) ≡ gives p alone
    only (fine q) = λ i. fine (record { tree = typed.more_stmts q.tree typed.no_stmts; plain = append-nil q.plain i; added = append-nil q.added i })
    only (faulty f fs) = ap (faulty f) (append-nil fs)

pub after_alone : (env : Env) (b : Before) (next : Next) (s : Stmt) → after_stmt env b next s ≡ past b (calls_of_block (block_stmt s no_block_items)) (held_by_block env next (block_stmt s no_block_items))
after_alone env b next s =
    let none : calls_of_stmt s ≡ calls_of_stmt s + 0 = omega arith in
    λ i. past b (none i) (sym (append-nil (held_by_stmt env next s)) i)
