-- Statements of an instrumented unit go: the recursion on the syntax.
use Rattle.std.proofs.Common.{◌≡◌, ℕ, ◌+◌, Bool, true, false, List, [], ◌++◌, length, append_assoc, refl, ap, sym, subst, ◌∙◌, arith}
use Rattle.c_tree.specs.declared.value.IntType.{IntType}
use Rattle.c_tree.specs.Tree.{CType, Program}
use Rattle.c_tree.specs.Tree as typed
use Rattle.c_syntax.specs.Tree.{Expr, Maybe, absent, there, First}
use Rattle.c_syntax.specs.Tree.{Stmt, block, empty, evaluate, only_if, if_else, while_loop, do_loop, for_loop, switch_on, break_off, continue_on, return_from}
use Rattle.c_syntax.specs.Tree.{BlockItems, no_block_items, block_decl, block_stmt, Stmts, no_stmts, more_stmts, Groups, no_groups, more_groups}
use Rattle.c_rules.specs.Checked.{Checked, fine, both, all_three, beside, gives}
use Rattle.c_rules.specs.Scopes.{Env, Binding, inside, Before}
use Rattle.c_rules.specs.Counts.{calls, calls_of_maybe, string_cells, past, after, after_maybe}
use Rattle.c_rules.specs.TypedExpression.{tree_of}
use Rattle.c_rules.specs.Expressions.{value}
use Rattle.c_rules.specs.Variables.{Next, past_names, names_of_first, names_of_stmt, names_of_stmts, calls_of_decl, calls_of_first, calls_of_stmt, calls_of_stmts}
use Rattle.c_rules.specs.Blocks.{behind_first, after_first, after_stmt, after_stmts, with_tree}
use Rattle.c_rules.specs.Statements.{Around, in_loop, in_switch, condition_at, test_of, step_of, switched, label_type, labels_of, returned, stmt, items_of_block, stmts, groups_of_switch}
use Rattle.null_calls_laws.specs.MarkedCalls.{Sites}
use Rattle.null_calls_laws.specs.Temporaries.{Temporary}
use Rattle.null_calls_laws.specs.InstrumentedExpressions.{expr, maybe, kept, kept_of_maybe}
use Rattle.null_calls_laws.specs.InstrumentedStatements as with_null_calls
use Rattle.null_calls_laws.specs.TypedAlike.{beside as scopes_beside}
use Rattle.null_calls_laws.proofs.Leads.{fine_leads, first_fine, on_fine}
use Rattle.null_calls_laws.proofs.Names.{alike_of}
use Rattle.c_rules.proofs.Modes.{Alike}
use Rattle.c_rules.proofs.ModeStatements.{labels_lead}
use Rattle.null_calls_laws.specs.Counts.{AreNamed, Near}
use Rattle.null_calls_laws.specs.CountedStatements.{MaybeNamed, StmtNamed, BlockNamed, StmtsNamed, GroupsNamed}
use Rattle.null_calls_laws.proofs.ExpressionCounts.{places_near}
use Rattle.null_calls_laws.proofs.StatementCounts.{statements_stay}
use Rattle.null_calls_laws.specs.Tabled.{AreTabled, AreFound}
use Rattle.null_calls_laws.specs.Follow.{types_of}
use Rattle.null_calls_laws.proofs.Forms.{types_both, found_first, found_rest}
use Rattle.null_calls_laws.specs.Heads.{TreeFollows, MaybeFollows, OperandFollows, StmtFollows, IfThere, Stands, HeadsGo}
use Rattle.null_calls_laws.proofs.Heads.{all_heads_go}
use Rattle.null_calls_laws.specs.Standing.{StandBeside, stand_beside}
use Rattle.null_calls_laws.proofs.Reserved.{temporaries_stay}
use Rattle.null_calls_laws.proofs.Scopes.{blocks_stand_beside}
use Rattle.null_calls_laws.specs.DeclarationsBeside.{StatementTreeFollow, SameNumber, DeclGoes, FirstGoes}
use Rattle.null_calls_laws.proofs.DeclarationsFollow.{declarations_go, firsts_go}
use Rattle.null_calls_laws.proofs.InitialisersFollow.{near_past}
use Rattle.c_rules_laws.proofs.RightDeclarations.{past_both}
use Rattle.c_rules_laws.proofs.SitesOfExpressions.{cells_both}
use Rattle.null_calls_laws.proofs.Numbers.{numbers_stay}
use Rattle.null_calls_laws.specs.StatementsBeside.{after_block, after_groups, MaybeTabled, StmtTabled, BlockTabled, StmtsTabled, GroupsTabled, StatementTreeFollows, GroupsFollow, StatementsGo, BlocksGo}
use Rattle.null_calls_laws.proofs.Nodes.{evaluate_follows, bare_follows, jump_follows, if_kept, head_follows, do_follows, switch_follows, one_follows, some_follow, group_follows, block_follows, else_follows, for_follows}

-- ## What stands before

past_past : (b : Before) (m n : ℕ) (ws vs : List (List ℕ)) → past (past b m ws) n vs ≡ past b (m + n) (ws ++ vs)
past_past b m n ws vs =
    let s : (b.sites + m) + n ≡ b.sites + (m + n) = omega arith in
    let c : (b.cells + string_cells ws) + string_cells vs ≡ b.cells + string_cells (ws ++ vs) = (let r = cells_both ws vs in omega (arith, r)) in
    let l : (b.strings ++ ws) ++ vs ≡ b.strings ++ (ws ++ vs) = append_assoc b.strings ws vs in
    λ i. record { sites = s i; strings = l i; cells = c i }

-- two parts are one
near_both : (b b' : Before) (m n m' n' : ℕ) (ws vs ws' vs' : List (List ℕ)) → Near (past (past b m ws) n vs) (past (past b' m' ws') n' vs') → Near (past b (m + n) (ws ++ vs)) (past b' (m' + n') (ws' ++ vs'))
near_both b b' m n m' n' ws vs ws' vs' h = subst (λ x. Near x (past b' (m' + n') (ws' ++ vs'))) (past_past b m n ws vs) (subst (λ x. Near (past (past b m ws) n vs) x) (past_past b' m' n' ws' vs') h)

near_none : (b b' : Before) → Near b b' → Near (past b 0 []) (past b' 0 [])
near_none b b' h = near_past b b' 0 0 [] [] h (omega arith) refl

stand_scopes : (p : Program) (names : List Binding) (e f : Env) → StandBeside p names e f → Alike e f
stand_scopes p names e f (stand_beside env w plain alike stand same) = alike_of _ _ (scopes_beside env w plain alike)

-- ## Expressions of statements

-- heads in scopes that stand beside each other
module _ (p : Program) (sites : Sites) (names : List Binding) where
  record HeadsStand (e f : Env) (b b' : Before) (k : ℕ) : Type 0 where
    pub conditions : (at : ℕ) (x : Expr) → AreNamed sites b.sites x → AreTabled p sites e b x → AreFound names k (kept sites b.sites true x) → TreeFollows p k (types_of (kept sites b.sites true x)) (condition_at at (value e b x)) (condition_at at (value f b' (expr sites b.sites true x)))
    pub tests : (at : ℕ) (m : Maybe) → MaybeNamed sites b.sites m → MaybeTabled p sites e b m → AreFound names k (kept_of_maybe sites b.sites true m) → MaybeFollows p k (types_of (kept_of_maybe sites b.sites true m)) true (test_of e b at m) (test_of f b' at (maybe sites b.sites true m))
    pub steps : (m : Maybe) → MaybeNamed sites b.sites m → MaybeTabled p sites e b m → AreFound names k (kept_of_maybe sites b.sites false m) → MaybeFollows p k (types_of (kept_of_maybe sites b.sites false m)) false (step_of e b m) (step_of f b' (maybe sites b.sites false m))
    pub switches : (at : ℕ) (x : Expr) → AreNamed sites b.sites x → AreTabled p sites e b x → AreFound names k (kept sites b.sites true x) → OperandFollows p k (types_of (kept sites b.sites true x)) (switched at (value e b x)) (switched at (value f b' (expr sites b.sites true x)))
    pub returns : (at : ℕ) (t : CType) (m : Maybe) → MaybeNamed sites b.sites m → MaybeTabled p sites e b m → AreFound names k (kept_of_maybe sites b.sites true m) → StmtFollows p k (types_of (kept_of_maybe sites b.sites true m)) (returned e b at t m) (returned f b' at t (maybe sites b.sites true m))
    pub evaluated : (x : Expr) → AreNamed sites b.sites x → AreTabled p sites e b x → AreFound names k (kept sites b.sites false x)
        → StmtFollows p k (types_of (kept sites b.sites false x)) (gives (value e b x) (λ g. typed.evaluate (tree_of g))) (gives (value f b' (expr sites b.sites false x)) (λ g. typed.evaluate (tree_of g)))

  heads_stand : (e f : Env) → StandBeside p names e f → (b b' : Before) (k : ℕ) → Near b b' → HeadsStand e f b b' k
  heads_stand e f (stand_beside env w plain alike stand same) b b' k near =
      let go : HeadsGo p sites env w b b' k = all_heads_go p sites env w plain alike stand b b' k near in
      record {
        conditions = λ at x n t h. go.conditions at x (stands true (there x) n t h);
        tests = λ at m n t h. go.tests at m (stands true m n t h);
        steps = λ m n t h. go.steps m (stands false m n t h);
        switches = λ at x n t h. go.switches at x (stands true (there x) n t h);
        returns = λ at t m n u h. go.returns at t m (stands true m n u h);
        evaluated = λ x n t h. go.evaluated x (stands false (there x) n t h);
      }
    where
      stands : (wanted : Bool) (m : Maybe) → MaybeNamed sites b.sites m → MaybeTabled p sites e b m → AreFound names k (kept_of_maybe sites b.sites wanted m) → IfThere (Stands p sites env w b k wanted) m
      stands wanted absent n t h = tt
      stands wanted (there x) n t h = record { named = n; tabled = t; found = temporaries_stay sites names w.names same b.sites k wanted x h }

maybe_near : (sites : Sites) (b b' : Before) (wanted : Bool) (m : Maybe) → MaybeNamed sites b.sites m → Near b b' → Near (after_maybe b m) (after_maybe b' (maybe sites b.sites wanted m))
maybe_near sites b b' wanted absent n h = near_none b b' h
maybe_near sites b b' wanted (there x) n h = places_near sites b b' wanted x n h

both_near : {A B C P : Type 0} {p : Checked A} {q : Checked B} (k : A → B → Checked C) → ((a : A) (b : B) → p ≡ fine a → q ≡ fine b → P) → (c : C) → both p q k ≡ fine c → P
both_near {p = p} {q = q} k h c e = let v = first_fine p q k c e in h v.0 v.1 v.2 v.3

three_near : {A B C D P : Type 0} {p : Checked A} {q : Checked B} {r : Checked C} (k : A → B → C → Checked D) → ((a : A) (b : B) (c : C) → p ≡ fine a → q ≡ fine b → r ≡ fine c → P) → (d : D) → all_three p q r k ≡ fine d → P
three_near {q = q} {r = r} k h d e = both_near {q = beside q r} (λ a t. k a t.first t.second) (λ a t g l. both_near (λ b c. fine (record { first = b; second = c })) (λ b c m n. h a b c g m n) t l) d e

-- what a part gives, and what holds behind it where it is fine
record Going {A : Type 0} (F : Type 0) (r : Checked A) (N : Type 0) : Type 0 where
  laid : F
  near : (a : A) → r ≡ fine a → N

in_turn : {A B C F F1 F2 N N2 : Type 0} {r : Checked A} {s : Checked B} (k : A → B → Checked C) → (F1 → ((a : A) → r ≡ fine a → F2) → F) → (N2 → N) → F1 → ((a : A) → r ≡ fine a → Going F2 s N2) → Going F (both r s k) N
in_turn k l m f g = record { laid = l f (λ a e. (g a e).laid); near = both_near k (λ a b e h. m ((g a e).near b h)) }

-- ## Statements

module _ (p : Program) (sites : Sites) (names : List Binding) where
  abbrev StmtGo : (e f : Env) (a : Around) (b b' : Before) (next next' : Next) (k : ℕ) → Stmt → Type 0
  StmtGo e f a b b' next next' k s =
      Going (StatementTreeFollows p k (types_of (with_null_calls.kept_of_stmt sites b.sites s)) (stmt e a b next s) (stmt f a b' next' (with_null_calls.stmt sites b.sites s))) (stmt e a b next s) (Near (after_stmt e b next s) (after_stmt f b' next' (with_null_calls.stmt sites b.sites s)))

  abbrev BlockGo : (e f : Env) (a : Around) (b b' : Before) (next next' : Next) (k : ℕ) → BlockItems → Type 0
  BlockGo e f a b b' next next' k is =
      Going (StatementTreeFollow p k (types_of (with_null_calls.kept_of_block sites b.sites is)) (items_of_block e a b next is) (items_of_block f a b' next' (with_null_calls.items_of_block sites b.sites is))) (items_of_block e a b next is) (Near (after_block e b next is) (after_block f b' next' (with_null_calls.items_of_block sites b.sites is)))

  abbrev StmtsGo : (e f : Env) (a : Around) (b b' : Before) (next next' : Next) (k : ℕ) → Stmts → Type 0
  StmtsGo e f a b b' next next' k ss =
      Going (StatementTreeFollow p k (types_of (with_null_calls.kept_of_stmts sites b.sites ss)) (stmts e a b next ss) (stmts f a b' next' (with_null_calls.stmts sites b.sites ss))) (stmts e a b next ss) (Near (after_stmts e b next ss) (after_stmts f b' next' (with_null_calls.stmts sites b.sites ss)))

  abbrev GroupsGo : (e f : Env) (a : Around) (b b' : Before) (next next' : Next) (k : ℕ) (i : IntType) → Groups → Type 0
  GroupsGo e f a b b' next next' k i gs =
      Going (GroupsFollow p k (types_of (with_null_calls.kept_of_groups sites b.sites gs)) (groups_of_switch e a b next i gs) (groups_of_switch f a b' next' i (with_null_calls.groups sites b.sites gs))) (groups_of_switch e a b next i gs) (Near (after_groups e b next gs) (after_groups f b' next' (with_null_calls.groups sites b.sites gs)))

  -- the next numbers of variables stay the same
  stmt_numbers : (b : ℕ) (s : Stmt) (next next' : Next) → StmtNamed sites b s → SameNumber next next' → SameNumber (past_names next (names_of_stmt s)) (past_names next' (names_of_stmt (with_null_calls.stmt sites b s)))
  stmt_numbers b s next next' n m = subst (λ xs. SameNumber (past_names next (names_of_stmt s)) (past_names next' xs)) (sym (statements_stay sites b s n).names_same) (numbers_stay next next' (names_of_stmt s) m)

  stmts_numbers : (ss : Stmts) (b : ℕ) (next next' : Next) → StmtsNamed sites b ss → SameNumber next next' → SameNumber (past_names next (names_of_stmts ss)) (past_names next' (names_of_stmts (with_null_calls.stmts sites b ss)))
  stmts_numbers no_stmts b next next' n m = m
  stmts_numbers (more_stmts s ss) b next next' n m =
      let i = stmts_numbers ss (b + calls_of_stmt s) (past_names next (names_of_stmt s)) (past_names next' (names_of_stmt (with_null_calls.stmt sites b s))) n.1 (stmt_numbers b s next next' n.0 m) in
      ap (λ (z : Next). z.plain) (past_both (names_of_stmt (with_null_calls.stmt sites b s)) _ next') ∙ (i ∙ sym (ap (λ (z : Next). z.plain) (past_both (names_of_stmt s) _ next)))

  abbrev X : Before → Expr → Expr
  X b x = expr sites b.sites true x

  abbrev M : Before → Bool → Maybe → Maybe
  M b wanted m = maybe sites b.sites wanted m

  abbrev S : Before → Stmt → Stmt
  S b s = with_null_calls.stmt sites b.sites s

  mutual
    stmt_goes : (s : Stmt) (e f : Env) → StandBeside p names e f → (a : Around) (b b' : Before) (next next' : Next) (k : ℕ) → StmtNamed sites b.sites s → StmtTabled p sites e b next s → AreFound names k (with_null_calls.kept_of_stmt sites b.sites s) → Near b b' → SameNumber next next' → StmtGo e f a b b' next next' k s
    stmt_goes (block at is) e f w a b b' next next' k n t h r m =
        let i : BlockGo (inside e) (inside f) a b b' next next' k is = block_goes is (inside e) (inside f) (blocks_stand_beside p names e f w) a b b' next next' k n t h r m in
        record {
          laid = block_follows p k (types_of (with_null_calls.kept_of_block sites b.sites is)) (items_of_block (inside e) a b next is) (items_of_block (inside f) a b' next' (with_null_calls.items_of_block sites b.sites is)) i.laid;
          near = λ q g. (let v = on_fine (items_of_block (inside e) a b next is) (λ q. fine (with_tree q (typed.block q.tree))) q g in i.near v.0 v.1);
        }
    stmt_goes (empty at) e f w a b b' next next' k n t h r m = record { laid = (typed.empty, refl, refl, refl, refl); near = λ q g. near_none b b' r }
    stmt_goes (evaluate at x) e f w a b b' next next' k n t h r m = record {
      laid = evaluate_follows p k (types_of (kept sites b.sites false x)) (value e b x) (value f b' (expr sites b.sites false x)) ((heads_stand p sites names e f w b b' k r).evaluated x n t h);
      near = λ q g. places_near sites b b' false x n r;
    }
    stmt_goes (only_if at x s) e f w a b b' next next' k n t h r m =
        let xs : List Temporary = kept sites b.sites true x in
        let ys : List Temporary = with_null_calls.kept_of_stmt sites (b.sites + calls x) s in
        in_turn _ (head_follows p k (types_of xs) (types_of ys) _ (sym (types_both xs ys)) (λ c q. typed.if_else c q typed.empty) (if_kept p) (λ _ _. refl) (λ _ _. refl) _ _ _ _) (near_both _ _ _ _ _ _ _ _ _ _)
        ((heads_stand p sites names e f w b b' k r).conditions at x n.0 t.0 (found_first names k xs ys h)) (λ _ _. stmt_goes s e f w a _ _ _ _ _ n.1 t.1 (found_rest names k xs ys h) (places_near sites b b' true x n.0 r) m)
    stmt_goes (if_else at x s u) e f w a b b' next next' k n t h r m =
        let xs : List Temporary = kept sites b.sites true x in
        let ys : List Temporary = with_null_calls.kept_of_stmt sites (b.sites + calls x) s in
        let zs : List Temporary = with_null_calls.kept_of_stmt sites (b.sites + calls x + calls_of_stmt s) u in
        let b1 : Before = after b x in
        let c1 : Before = after b' (X b x) in
        let rest : AreFound names (k + length (types_of xs)) (ys ++ zs) = found_rest names k xs (ys ++ zs) h in
        let i : StmtGo e f a b1 c1 next next' (k + length (types_of xs)) s = stmt_goes s e f w a b1 c1 next next' (k + length (types_of xs)) n.1 t.1 (found_first names (k + length (types_of xs)) ys zs rest) (places_near sites b b' true x n.0 r) m in
        let j : Near (after_stmt e b1 next s) (after_stmt f c1 next' (S b1 s)) → StmtGo e f a _ _ (past_names next (names_of_stmt s)) (past_names next' (names_of_stmt (S b1 s))) (k + length (types_of xs) + length (types_of ys)) u
        = (λ v. stmt_goes u e f w a _ _ _ _ _ n.2 t.2 (found_rest names (k + length (types_of xs)) ys zs rest) v (stmt_numbers b1.sites s next next' n.1 m)) in
        record {
          laid = else_follows p k (types_of xs) (types_of ys) (types_of zs) _ (sym (types_both xs (ys ++ zs) ∙ ap (λ ts. types_of xs ++ ts) (types_both ys zs))) _ _ _ _ _ _
              ((heads_stand p sites names e f w b b' k r).conditions at x n.0 t.0 (found_first names k xs (ys ++ zs) h)) (λ _ _. i.laid) (λ _ q _ g. (j (i.near q g)).laid);
          near = three_near _ (λ c q v _ g l. near_both _ _ _ _ _ _ _ _ _ _ (near_both _ _ _ _ _ _ _ _ _ _ ((j (i.near q g)).near v l)));
        }
    stmt_goes (while_loop at x s) e f w a b b' next next' k n t h r m =
        let xs : List Temporary = kept sites b.sites true x in
        let ys : List Temporary = with_null_calls.kept_of_stmt sites (b.sites + calls x) s in
        in_turn _ (head_follows p k (types_of xs) (types_of ys) _ (sym (types_both xs ys)) typed.while_loop (λ _ _. refl) (λ _ _. refl) (λ _ _. refl) _ _ _ _) (near_both _ _ _ _ _ _ _ _ _ _)
        ((heads_stand p sites names e f w b b' k r).conditions at x n.0 t.0 (found_first names k xs ys h)) (λ _ _. stmt_goes s e f w (in_loop a) _ _ _ _ _ n.1 t.1 (found_rest names k xs ys h) (places_near sites b b' true x n.0 r) m)
    stmt_goes (do_loop at s x) e f w a b b' next next' k n t h r m =
        let xs : List Temporary = with_null_calls.kept_of_stmt sites b.sites s in
        let ys : List Temporary = kept sites (b.sites + calls_of_stmt s) true x in
        let i : StmtGo e f (in_loop a) b b' next next' k s = stmt_goes s e f w (in_loop a) b b' next next' k n.0 t.0 (found_first names k xs ys h) r m in
        in_turn _ (do_follows p k (types_of xs) (types_of ys) _ (sym (types_both xs ys)) _ _ _ _) (near_both _ _ _ _ _ _ _ _ _ _) i.laid
        (λ q g. record { laid = (heads_stand p sites names e f w _ _ (k + length (types_of xs)) (i.near q g)).conditions at x n.1 t.1 (found_rest names k xs ys h); near = λ _ _. places_near sites _ _ true x n.1 (i.near q g) })
    stmt_goes (for_loop at first test step s) e f w a b b' next next' k n t h r m =
        let ws : List Temporary = with_null_calls.kept_of_first sites b.sites first in
        let xs : List Temporary = kept_of_maybe sites (b.sites + calls_of_first first) true test in
        let ys : List Temporary = kept_of_maybe sites (b.sites + calls_of_first first + calls_of_maybe test) false step in
        let zs : List Temporary = with_null_calls.kept_of_stmt sites (b.sites + calls_of_first first + calls_of_maybe test + calls_of_maybe step) s in
        let first' : First = with_null_calls.first sites b.sites first in
        let ei : Env = behind_first (inside e) next first in
        let fi : Env = behind_first (inside f) next' first' in
        let b1 : Before = after_first (inside e) b next first in
        let c1 : Before = after_first (inside f) b' next' first' in
        let b2 : Before = after_maybe b1 test in
        let c2 : Before = after_maybe c1 (M b1 true test) in
        let g1 : AreFound names (k + length (types_of ws)) (xs ++ (ys ++ zs)) = found_rest names k ws (xs ++ (ys ++ zs)) h in
        let g2 : AreFound names (k + length (types_of ws) + length (types_of xs)) (ys ++ zs) = found_rest names (k + length (types_of ws)) xs (ys ++ zs) g1 in
        let d : FirstGoes p sites names (inside e) (inside f) b b' next next' k first = firsts_go p sites names _ _ (blocks_stand_beside p names e f w) b b' next next' k first n.0 t.0 (found_first names k ws (xs ++ (ys ++ zs)) h) r m in
        let r2 : Near b1 c1 → Near b2 c2 = maybe_near sites b1 c1 true test n.1 in
        let i : StandBeside p names ei fi → Near b1 c1 → StmtGo ei fi (in_loop a) (after_maybe b2 step) (after_maybe c2 (M b2 false step)) (past_names next (names_of_first first)) (past_names next' (names_of_first first')) (k + length (types_of ws) + length (types_of xs) + length (types_of ys)) s
        = (λ u v. stmt_goes s ei fi u (in_loop a) _ _ _ _ _ n.3 t.3 (found_rest names (k + length (types_of ws) + length (types_of xs)) ys zs g2) (maybe_near sites b2 c2 false step n.2 (r2 v)) d.numbers) in
        record {
          laid = for_follows p k (types_of ws) (types_of xs) (types_of ys) (types_of zs) _ (sym (types_both ws (xs ++ (ys ++ zs)) ∙ ap (λ ts. types_of ws ++ ts) (types_both xs (ys ++ zs) ∙ ap (λ ts. types_of xs ++ ts) (types_both ys zs)))) _ _ _ _ _ _ _ _
              d.laid
              (λ q g. (heads_stand p sites names ei fi (d.scopes q g) b1 c1 (k + length (types_of ws)) (d.near q g)).tests at test n.1 t.1 (found_first names (k + length (types_of ws)) xs (ys ++ zs) g1))
              (λ q g. (heads_stand p sites names ei fi (d.scopes q g) b2 c2 (k + length (types_of ws) + length (types_of xs)) (r2 (d.near q g))).steps step n.2 t.2 (found_first names (k + length (types_of ws) + length (types_of xs)) ys zs g2))
              (λ q g. (i (d.scopes q g) (d.near q g)).laid);
          near = three_near _ (λ q _ v g _ l. near_both _ _ _ _ _ _ _ _ _ _ (near_both _ _ _ _ _ _ _ _ _ _ (near_both _ _ _ _ _ _ _ _ _ _ ((i (d.scopes q g) (d.near q g)).near v l))));
        }
    stmt_goes (switch_on at x gs) e f w a b b' next next' k n t h r m =
        let xs : List Temporary = kept sites b.sites true x in
        let ys : List Temporary = with_null_calls.kept_of_groups sites (b.sites + calls x) gs in
        in_turn _ (switch_follows p k (types_of xs) (types_of ys) _ (sym (types_both xs ys)) at _ _ (λ j. groups_of_switch e (in_switch a) (after b x) next j gs) (λ j. groups_of_switch f (in_switch a) (after b' (X b x)) next' j (with_null_calls.groups sites (b.sites + calls x) gs))) (near_both _ _ _ _ _ _ _ _ _ _)
        ((heads_stand p sites names e f w b b' k r).switches at x n.0 t.0 (found_first names k xs ys h)) (λ _ _. groups_go gs e f w (in_switch a) _ _ _ _ _ (label_type (switched at (value e b x))) n.1 t.1 (found_rest names k xs ys h) (places_near sites b b' true x n.0 r) m)
    stmt_goes (break_off at) e f w a b b' next next' k n t h r m = record { laid = jump_follows p k a.breaks 8 at typed.break_off refl refl; near = λ q g. near_none b b' r }
    stmt_goes (continue_on at) e f w a b b' next next' k n t h r m = record { laid = jump_follows p k a.continues 8 at typed.continue_on refl refl; near = λ q g. near_none b b' r }
    stmt_goes (return_from at o) e f w a b b' next next' k n t h r m = record {
      laid = bare_follows p k (types_of (kept_of_maybe sites b.sites true o)) (returned e b at a.returns o) (returned f b' at a.returns (M b true o)) ((heads_stand p sites names e f w b b' k r).returns at a.returns o n t h);
      near = λ q g. maybe_near sites b b' true o n r;
    }

    block_goes : (is : BlockItems) (e f : Env) → StandBeside p names e f → (a : Around) (b b' : Before) (next next' : Next) (k : ℕ) → BlockNamed sites b.sites is → BlockTabled p sites e b next is → AreFound names k (with_null_calls.kept_of_block sites b.sites is) → Near b b' → SameNumber next next' → BlockGo e f a b b' next next' k is
    block_goes no_block_items e f w a b b' next next' k n t h r m = record { laid = (typed.no_stmts, refl, refl, refl, refl); near = λ q g. near_none b b' r }
    block_goes (block_decl d is) e f w a b b' next next' k n t h r m =
        let xs : List Temporary = with_null_calls.kept_of_decl sites b.sites d in
        let ys : List Temporary = with_null_calls.kept_of_block sites (b.sites + calls_of_decl d) is in
        let j : DeclGoes p sites names e f b b' next next' k d = declarations_go p sites names e f w b b' next next' k d n.0 t.0 (found_first names k xs ys h) r m in
        in_turn _ (some_follow p k (types_of xs) (types_of ys) _ (sym (types_both xs ys)) _ _ _ _) (near_both _ _ _ _ _ _ _ _ _ _) j.laid (λ q g. block_goes is _ _ (j.scopes q g) a _ _ _ _ _ n.1 t.1 (found_rest names k xs ys h) (j.near q g) j.numbers)
    block_goes (block_stmt s is) e f w a b b' next next' k n t h r m =
        let xs : List Temporary = with_null_calls.kept_of_stmt sites b.sites s in
        let ys : List Temporary = with_null_calls.kept_of_block sites (b.sites + calls_of_stmt s) is in
        let j : StmtGo e f a b b' next next' k s = stmt_goes s e f w a b b' next next' k n.0 t.0 (found_first names k xs ys h) r m in
        in_turn _ (one_follows p k (types_of xs) (types_of ys) _ (sym (types_both xs ys)) _ _ _ _) (near_both _ _ _ _ _ _ _ _ _ _) j.laid (λ q g. block_goes is e f w a _ _ _ _ _ n.1 t.1 (found_rest names k xs ys h) (j.near q g) (stmt_numbers b.sites s next next' n.0 m))

    stmts_go : (ss : Stmts) (e f : Env) → StandBeside p names e f → (a : Around) (b b' : Before) (next next' : Next) (k : ℕ) → StmtsNamed sites b.sites ss → StmtsTabled p sites e b next ss → AreFound names k (with_null_calls.kept_of_stmts sites b.sites ss) → Near b b' → SameNumber next next' → StmtsGo e f a b b' next next' k ss
    stmts_go no_stmts e f w a b b' next next' k n t h r m = record { laid = (typed.no_stmts, refl, refl, refl, refl); near = λ q g. near_none b b' r }
    stmts_go (more_stmts s ss) e f w a b b' next next' k n t h r m =
        let xs : List Temporary = with_null_calls.kept_of_stmt sites b.sites s in
        let ys : List Temporary = with_null_calls.kept_of_stmts sites (b.sites + calls_of_stmt s) ss in
        let j : StmtGo e f a b b' next next' k s = stmt_goes s e f w a b b' next next' k n.0 t.0 (found_first names k xs ys h) r m in
        in_turn _ (one_follows p k (types_of xs) (types_of ys) _ (sym (types_both xs ys)) _ _ _ _) (near_both _ _ _ _ _ _ _ _ _ _) j.laid (λ q g. stmts_go ss e f w a _ _ _ _ _ n.1 t.1 (found_rest names k xs ys h) (j.near q g) (stmt_numbers b.sites s next next' n.0 m))

    groups_go : (gs : Groups) (e f : Env) → StandBeside p names e f → (a : Around) (b b' : Before) (next next' : Next) (k : ℕ) (i : IntType) → GroupsNamed sites b.sites gs → GroupsTabled p sites e b next gs → AreFound names k (with_null_calls.kept_of_groups sites b.sites gs) → Near b b' → SameNumber next next' → GroupsGo e f a b b' next next' k i gs
    groups_go no_groups e f w a b b' next next' k i n t h r m = record { laid = (typed.no_groups, refl, refl, refl, refl); near = λ q g. near_none b b' r }
    groups_go (more_groups ls ss gs) e f w a b b' next next' k i n t h r m =
        let xs : List Temporary = with_null_calls.kept_of_stmts sites b.sites ss in
        let ys : List Temporary = with_null_calls.kept_of_groups sites (b.sites + calls_of_stmts ss) gs in
        let ss' : Stmts = with_null_calls.stmts sites b.sites ss in
        let j : StmtsGo e f a b b' next next' k ss = stmts_go ss e f w a b b' next next' k n.0 t.0 (found_first names k xs ys h) r m in
        let l : Near (after_stmts e b next ss) (after_stmts f b' next' ss') → GroupsGo e f a _ _ (past_names next (names_of_stmts ss)) (past_names next' (names_of_stmts ss')) (k + length (types_of xs)) i gs
        = (λ v. groups_go gs e f w a _ _ _ _ _ i n.1 t.1 (found_rest names k xs ys h) v (stmts_numbers ss b.sites next next' n.0 m)) in
        record {
          laid = group_follows p k (types_of xs) (types_of ys) _ (sym (types_both xs ys)) _ _ _ _ _ _
              (λ vs q. fine_leads (labels_of e i ls) (labels_of f i ls) vs (labels_lead e f (stand_scopes p names e f w) i ls) q) j.laid (λ q g. (l (j.near q g)).laid);
          near = three_near _ (λ _ q v _ g o. near_both _ _ _ _ _ _ _ _ _ _ ((l (j.near q g)).near v o));
        }

pub statements_go : StatementsGo
statements_go p sites names e f w a b b' next next' k s n t h r m = (let g = stmt_goes p sites names s e f w a b b' next next' k n t h r m in record { laid = g.laid; near = g.near })

pub blocks_go : BlocksGo
blocks_go p sites names e f w a b b' next next' k is n t h r m = (let g = block_goes p sites names is e f w a b b' next next' k n t h r m in record { laid = g.laid; near = g.near })
