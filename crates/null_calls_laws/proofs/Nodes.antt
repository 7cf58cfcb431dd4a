-- The forms of statements over what their parts give.
use Rattle.std.proofs.Common.{◌≡◌, ℕ, ◌+◌, Bool, true, false, List, [], ◌++◌, length, append-nil, append_assoc, length-append, refl, ap, ap₂, sym, subst, ◌∙◌, arith}
use Rattle.c_tree.specs.declared.value.IntType.{IntType}
use Rattle.c_tree.specs.declared.tree.TLabel.{TLabel}
use Rattle.c_tree.specs.Tree.{CType, Program}
use Rattle.c_tree.specs.Tree as typed
use Rattle.c_rules.specs.Checked.{Checked, fine, faulty, demand, both, all_three, beside, Two, gives}
use Rattle.c_rules.specs.TypedExpression.{TypedExpression, tree_of}
use Rattle.c_rules.specs.Conversions.{kind_of}
use Rattle.c_rules.specs.Blocks.{StatementTree, bare, with_tree, joined, one_more, appended, some_more}
use Rattle.c_rules.specs.Statements.{for_of, Labelled, label_kind, label_type, labelled, are_distinct, switch_of}
use Rattle.null_calls_laws.specs.InstrumentedPrograms as with_null_calls
use Rattle.null_calls_laws.specs.WithoutSites.{unsited, unsited_stmt, unsited_stmts, unsited_groups}
use Rattle.null_calls_laws.specs.Heads.{TreeFollows, MaybeFollows, OperandFollows, StmtFollows}
use Rattle.null_calls_laws.specs.DeclarationsBeside.{StatementTreeFollow}
use Rattle.null_calls_laws.specs.StatementsBeside.{StatementTreeFollows, GroupsFollow}
pub use Rattle.c_rules.proofs.ModeBlocks.{both_gives}

-- ## What parts that are fine give

pub three_give : {A B C D : Type 0} (p : Checked A) (q : Checked B) (r : Checked C) (k : A → B → C → Checked D) (a : A) (b : B) (c : C) → p ≡ fine a → q ≡ fine b → r ≡ fine c → all_three p q r k ≡ k a b c
three_give p q r k a b c g h i = both_gives p (beside q r) (λ x t. k x t.first t.second) a (record { first = b; second = c }) g (both_gives q r (λ x y. fine (record { first = x; second = y })) b c h i)

-- ## Lists of statements

appended_kept : (p : Program) (xs ys : typed.Stmts) → with_null_calls.kept_of_stmts p (appended xs ys) ≡ with_null_calls.kept_of_stmts p xs ++ with_null_calls.kept_of_stmts p ys
appended_kept p typed.no_stmts ys = refl
appended_kept p (typed.more_stmts x xs) ys = ap (λ ts. with_null_calls.kept_of_stmt p x ++ ts) (appended_kept p xs ys) ∙ sym (append_assoc (with_null_calls.kept_of_stmt p x) (with_null_calls.kept_of_stmts p xs) (with_null_calls.kept_of_stmts p ys))

appended_unsited : (xs ys : typed.Stmts) → unsited_stmts (appended xs ys) ≡ appended (unsited_stmts xs) (unsited_stmts ys)
appended_unsited typed.no_stmts ys = refl
appended_unsited (typed.more_stmts x xs) ys = ap (typed.more_stmts (unsited_stmt x)) (appended_unsited xs ys)

appended_instrumented : (p : Program) (k : ℕ) (xs ys : typed.Stmts) → with_null_calls.stmts p k (appended xs ys) ≡ appended (with_null_calls.stmts p k xs) (with_null_calls.stmts p (k + length (with_null_calls.kept_of_stmts p xs)) ys)
appended_instrumented p k typed.no_stmts ys = (let e : k ≡ k + 0 = omega arith in ap (λ n. with_null_calls.stmts p n ys) e)
appended_instrumented p k (typed.more_stmts x xs) ys =
    let ts : List CType = with_null_calls.kept_of_stmt p x in
    let us : List CType = with_null_calls.kept_of_stmts p xs in
    let e : k + length ts + length us ≡ k + length (ts ++ us) = omega (arith, length-append ts us) in
    ap (typed.more_stmts (with_null_calls.stmt p k x)) (appended_instrumented p (k + length ts) xs ys ∙ ap (λ n. appended (with_null_calls.stmts p (k + length ts) xs) (with_null_calls.stmts p n ys)) e)

module _ (p : Program) where
  -- ## Statements without parts that are statements

  pub bare_follows : (k : ℕ) (ts : List CType) (r r' : Checked typed.Stmt) → StmtFollows p k ts r r' → StatementTreeFollows p k ts (gives r bare) (gives r' bare)
  bare_follows k ts (fine s) r' h = (h.0, ap (λ z. gives z bare) h.1, refl, h.2, h.3)
  bare_follows k ts (faulty f fs) r' h = tt

  pub evaluate_follows : (k : ℕ) (ts : List CType) (r r' : Checked TypedExpression) → StmtFollows p k ts (gives r (λ g. typed.evaluate (tree_of g))) (gives r' (λ g. typed.evaluate (tree_of g)))
      → StatementTreeFollows p k ts (gives r (λ g. bare (typed.evaluate (tree_of g)))) (gives r' (λ g. bare (typed.evaluate (tree_of g))))
  evaluate_follows k ts (fine g) (fine h) l = bare_follows k ts (fine (typed.evaluate (tree_of g))) (fine (typed.evaluate (tree_of h))) l
  evaluate_follows k ts (fine g) (faulty f fs) l = bare_follows k ts (fine (typed.evaluate (tree_of g))) (faulty f fs) l
  evaluate_follows k ts (faulty f fs) r' l = tt

  pub jump_follows : (k : ℕ) (t : Bool) (code at : ℕ) (s : typed.Stmt) → with_null_calls.kept_of_stmt p s ≡ [] → unsited_stmt s ≡ with_null_calls.stmt p k s → StatementTreeFollows p k [] (demand t code at (bare s)) (demand t code at (bare s))
  jump_follows k true code at s g h = (s, refl, refl, g, h)
  jump_follows k false code at s g h = tt

  -- ## A condition and statements

  pub if_kept : (e : typed.Expr) (s : typed.Stmt) → with_null_calls.kept_of_stmt p (typed.if_else e s typed.empty) ≡ with_null_calls.kept p true e ++ with_null_calls.kept_of_stmt p s
  if_kept e s = ap (λ zs. with_null_calls.kept p true e ++ zs) (append-nil (with_null_calls.kept_of_stmt p s))

  module _ (k : ℕ) (ts us all : List CType) (joint : ts ++ us ≡ all) where
    pub head_follows : (c : typed.Expr → typed.Stmt → typed.Stmt) → ((e : typed.Expr) (s : typed.Stmt) → with_null_calls.kept_of_stmt p (c e s) ≡ with_null_calls.kept p true e ++ with_null_calls.kept_of_stmt p s) → ((e : typed.Expr) (s : typed.Stmt) → unsited_stmt (c e s) ≡ c (unsited e) (unsited_stmt s))
        → ((e : typed.Expr) (s : typed.Stmt) → c (with_null_calls.expr p k true e) (with_null_calls.stmt p (k + length (with_null_calls.kept p true e)) s) ≡ with_null_calls.stmt p k (c e s)) → (r r' : Checked typed.Expr) (s s' : Checked (StatementTree typed.Stmt)) → TreeFollows p k ts r r'
        → ((e : typed.Expr) → r ≡ fine e → StatementTreeFollows p (k + length ts) us s s') → StatementTreeFollows p k all (both r s (λ e q. fine (with_tree q (c e q.tree)))) (both r' s' (λ e q. fine (with_tree q (c e q.tree))))
    head_follows c kept unsites made (fine e) r' (fine q) s' h g =
        let i = g e refl in (
          c h.0 i.0,
          both_gives r' s' (λ x y. fine (with_tree y (c x y.tree))) h.0 (with_tree q i.0) h.1 i.1,
          i.2,
          kept e q.tree ∙ (ap₂ (λ xs ys. xs ++ ys) h.2 i.3 ∙ joint),
          unsites h.0 i.0 ∙ (ap₂ c h.3 (i.4 ∙ ap (λ zs. with_null_calls.stmt p (k + length zs) q.tree) (sym h.2)) ∙ made e q.tree),
        )
    head_follows c kept unsites made r r' s s' h g = tt

    pub do_follows : (s s' : Checked (StatementTree typed.Stmt)) (r r' : Checked typed.Expr) → StatementTreeFollows p k ts s s' → ((q : StatementTree typed.Stmt) → s ≡ fine q → TreeFollows p (k + length ts) us r r')
        → StatementTreeFollows p k all (both s r (λ q c. fine (with_tree q (typed.do_loop q.tree c)))) (both s' r' (λ q c. fine (with_tree q (typed.do_loop q.tree c))))
    do_follows (fine q) s' (fine c) r' h g =
        let i = g q refl in (
          typed.do_loop h.0 i.0,
          both_gives s' r' (λ y x. fine (with_tree y (typed.do_loop y.tree x))) (with_tree q h.0) i.0 h.1 i.1,
          h.2,
          ap₂ (λ xs ys. xs ++ ys) h.3 i.2 ∙ joint,
          ap₂ (λ x y. typed.do_loop x y) h.4 (i.3 ∙ ap (λ zs. with_null_calls.expr p (k + length zs) true c) (sym h.3)),
        )
    do_follows s s' r r' h g = tt

    -- ## A switch

    switch_fits : (t : Bool) (at : ℕ) (g h : TypedExpression) (l : Labelled) (x : typed.Groups) → with_null_calls.kept p true (tree_of g) ≡ ts → unsited (tree_of h) ≡ with_null_calls.expr p k true (tree_of g) → l.groups.added ≡ [] → with_null_calls.kept_of_groups p l.groups.tree ≡ us → unsited_groups x ≡ with_null_calls.groups p (k + length ts) l.groups.tree
        → StatementTreeFollows p k all (demand t 7 at (with_tree l.groups (typed.switch_on (tree_of g) l.groups.tree))) (demand t 7 at (with_tree (with_tree l.groups x) (typed.switch_on (tree_of h) x)))
    switch_fits true at g h l x a b c d e = (typed.switch_on (tree_of h) x, refl, c, ap₂ (λ xs ys. xs ++ ys) a d ∙ joint, ap₂ (λ y z. typed.switch_on y z) b (e ∙ ap (λ zs. with_null_calls.groups p (k + length zs) l.groups.tree) (sym a)))
    switch_fits false at g h l x a b c d e = tt

    switch_groups : (at : ℕ) (g h : TypedExpression) (r' : Checked TypedExpression) (s s' : Checked Labelled) → r' ≡ fine h → with_null_calls.kept p true (tree_of g) ≡ ts → unsited (tree_of h) ≡ with_null_calls.expr p k true (tree_of g) → GroupsFollow p (k + length ts) us s s' → StatementTreeFollows p k all (both (fine g) s (switch_of at)) (both r' s' (switch_of at))
    switch_groups at g h r' (fine l) s' q a b i =
        subst (λ z. StatementTreeFollows p k all (switch_of at g l) z) (sym (both_gives r' s' (switch_of at) h (record { groups = with_tree l.groups i.0; labels = l.labels }) q i.1))
        (switch_fits (are_distinct l.labels) at g h l i.0 a b i.2 i.3 i.4)
    switch_groups at g h r' (faulty f fs) s' q a b i = tt

    pub switch_follows : (at : ℕ) (r r' : Checked TypedExpression) (G G' : IntType → Checked Labelled) → OperandFollows p k ts r r' → ((g : TypedExpression) → r ≡ fine g → GroupsFollow p (k + length ts) us (G (label_type r)) (G' (label_type r)))
        → StatementTreeFollows p k all (both r (G (label_type r)) (switch_of at)) (both r' (G' (label_type r')) (switch_of at))
    switch_follows at (fine g) r' G G' h i =
        let o = h.2 in
        let same : label_type r' ≡ label_kind (kind_of g.ctype) = ap label_type h.1 ∙ ap (λ t. label_kind (kind_of t)) o.ctype in
        subst (λ z. StatementTreeFollows p k all (both (fine g) (G (label_kind (kind_of g.ctype))) (switch_of at)) (both r' (G' z) (switch_of at))) (sym same)
        (switch_groups at g h.0 r' (G (label_kind (kind_of g.ctype))) (G' (label_kind (kind_of g.ctype))) h.1 o.types o.tree (i g refl))
    switch_follows at (faulty f fs) r' G G' h i = tt

    -- ## Statements one behind the other

    pub one_follows : (s s' : Checked (StatementTree typed.Stmt)) (r r' : Checked (StatementTree typed.Stmts)) → StatementTreeFollows p k ts s s' → ((q : StatementTree typed.Stmt) → s ≡ fine q → StatementTreeFollow p (k + length ts) us r r') → StatementTreeFollow p k all (both s r (λ x y. fine (one_more x y))) (both s' r' (λ x y. fine (one_more x y)))
    one_follows (fine q) s' (fine u) r' h g =
        let i = g q refl in (
          typed.more_stmts h.0 i.0,
          both_gives s' r' (λ x y. fine (one_more x y)) (with_tree q h.0) (with_tree u i.0) h.1 i.1,
          ap₂ (λ xs ys. xs ++ ys) h.2 i.2,
          ap₂ (λ xs ys. xs ++ ys) h.3 i.3 ∙ joint,
          ap₂ (λ x y. typed.more_stmts x y) h.4 (i.4 ∙ ap (λ zs. with_null_calls.stmts p (k + length zs) u.tree) (sym h.3)),
        )
    one_follows s s' r r' h g = tt

    pub some_follow : (s s' : Checked (StatementTree typed.Stmts)) (r r' : Checked (StatementTree typed.Stmts)) → StatementTreeFollow p k ts s s' → ((q : StatementTree typed.Stmts) → s ≡ fine q → StatementTreeFollow p (k + length ts) us r r') → StatementTreeFollow p k all (both s r (λ x y. fine (some_more x y))) (both s' r' (λ x y. fine (some_more x y)))
    some_follow (fine q) s' (fine u) r' h g =
        let i = g q refl in (
          appended h.0 i.0,
          both_gives s' r' (λ x y. fine (some_more x y)) (with_tree q h.0) (with_tree u i.0) h.1 i.1,
          ap₂ (λ xs ys. xs ++ ys) h.2 i.2,
          appended_kept p q.tree u.tree ∙ (ap₂ (λ xs ys. xs ++ ys) h.3 i.3 ∙ joint),
          appended_unsited h.0 i.0 ∙ (ap₂ (λ x y. appended x y) h.4 (i.4 ∙ ap (λ zs. with_null_calls.stmts p (k + length zs) u.tree) (sym h.3)) ∙ sym (appended_instrumented p k q.tree u.tree)),
        )
    some_follow s s' r r' h g = tt

    pub group_follows : (vs vs' : Checked (List TLabel)) (s s' : Checked (StatementTree typed.Stmts)) (r r' : Checked Labelled) → ((l : List TLabel) → vs ≡ fine l → vs' ≡ fine l) → StatementTreeFollow p k ts s s' → ((q : StatementTree typed.Stmts) → s ≡ fine q → GroupsFollow p (k + length ts) us r r')
        → GroupsFollow p k all (all_three vs s r (λ x y z. fine (labelled x y z))) (all_three vs' s' r' (λ x y z. fine (labelled x y z)))
    group_follows (fine l) vs' (fine q) s' (fine m) r' e h g =
        let i = g q refl in (
          typed.more_groups l h.0 i.0,
          three_give vs' s' r' (λ x y z. fine (labelled x y z)) l (with_tree q h.0) (record { groups = with_tree m.groups i.0; labels = m.labels }) (e l refl) h.1 i.1,
          ap₂ (λ xs ys. xs ++ ys) h.2 i.2,
          ap₂ (λ xs ys. xs ++ ys) h.3 i.3 ∙ joint,
          ap₂ (λ x y. typed.more_groups l x y) h.4 (i.4 ∙ ap (λ zs. with_null_calls.groups p (k + length zs) m.groups.tree) (sym h.3)),
        )
    group_follows vs vs' s s' r r' e h g = tt

  pub block_follows : (k : ℕ) (ts : List CType) (s s' : Checked (StatementTree typed.Stmts)) → StatementTreeFollow p k ts s s' → StatementTreeFollows p k ts (gives s (λ q. with_tree q (typed.block q.tree))) (gives s' (λ q. with_tree q (typed.block q.tree)))
  block_follows k ts (fine q) s' h = (typed.block h.0, ap (λ z. gives z (λ y. with_tree y (typed.block y.tree))) h.1, h.2, h.3, ap typed.block h.4)
  block_follows k ts (faulty f fs) s' h = tt

  -- ## Three parts

  module _ (k : ℕ) (ts us vs all : List CType) (joint : ts ++ (us ++ vs) ≡ all) where
    abbrev Else : typed.Expr → StatementTree typed.Stmt → StatementTree typed.Stmt → Checked (StatementTree typed.Stmt)
    Else c q u = fine (joined q u (typed.if_else c q.tree u.tree))

    pub else_follows : (r r' : Checked typed.Expr) (s s' t t' : Checked (StatementTree typed.Stmt)) → TreeFollows p k ts r r' → ((c : typed.Expr) → r ≡ fine c → StatementTreeFollows p (k + length ts) us s s') → ((c : typed.Expr) (q : StatementTree typed.Stmt) → r ≡ fine c → s ≡ fine q → StatementTreeFollows p (k + length ts + length us) vs t t')
        → StatementTreeFollows p k all (all_three r s t Else) (all_three r' s' t' Else)
    else_follows (fine c) r' (fine q) s' (fine u) t' h g l =
        let i = g c refl in
        let j = l c q refl refl in (
          typed.if_else h.0 i.0 j.0,
          three_give r' s' t' Else h.0 (with_tree q i.0) (with_tree u j.0) h.1 i.1 j.1,
          ap₂ (λ xs ys. xs ++ ys) i.2 j.2,
          ap₂ (λ xs ys. xs ++ ys) h.2 (ap₂ (λ xs ys. xs ++ ys) i.3 j.3) ∙ joint,
          λ z. typed.if_else (h.3 z) ((i.4 ∙ ap (λ zs. with_null_calls.stmt p (k + length zs) q.tree) (sym h.2)) z) ((j.4 ∙ ap₂ (λ xs ys. with_null_calls.stmt p (k + length xs + length ys) u.tree) (sym h.2) (sym i.3)) z),
        )
    else_follows r r' s s' t t' h g l = tt

  module _ (k : ℕ) (ts us vs ws all : List CType) (joint : ts ++ (us ++ (vs ++ ws)) ≡ all) where
    abbrev For : StatementTree typed.Stmts → Two typed.Maybe typed.Maybe → StatementTree typed.Stmt → Checked (StatementTree typed.Stmt)
    For q tests u = fine (for_of q tests u)

    -- the four parts of a for
    pub for_follows : (r r' : Checked (StatementTree typed.Stmts)) (s s' t t' : Checked typed.Maybe) (o o' : Checked (StatementTree typed.Stmt)) → StatementTreeFollow p k ts r r'
        → ((q : StatementTree typed.Stmts) → r ≡ fine q → MaybeFollows p (k + length ts) us true s s') → ((q : StatementTree typed.Stmts) → r ≡ fine q → MaybeFollows p (k + length ts + length us) vs false t t')
        → ((q : StatementTree typed.Stmts) → r ≡ fine q → StatementTreeFollows p (k + length ts + length us + length vs) ws o o')
        → StatementTreeFollows p k all (all_three r (beside s t) o For) (all_three r' (beside s' t') o' For)
    for_follows (fine q) r' (fine m) s' (fine n) t' (fine u) o' h a b c =
        let i = a q refl in
        let j = b q refl in
        let l = c q refl in (
          typed.for_loop h.0 i.0 j.0 l.0,
          three_give r' (beside s' t') o' For (with_tree q h.0) (record { first = i.0; second = j.0 }) (with_tree u l.0) h.1 (both_gives s' t' (λ x y. fine (record { first = x; second = y })) i.0 j.0 i.1 j.1) l.1,
          ap₂ (λ xs ys. xs ++ ys) h.2 l.2,
          ap₂ (λ xs ys. xs ++ ys) h.3 (ap₂ (λ xs ys. xs ++ ys) i.2 (ap₂ (λ xs ys. xs ++ ys) j.2 l.3)) ∙ joint,
          λ z. typed.for_loop (h.4 z) ((i.3 ∙ ap (λ zs. with_null_calls.maybe p (k + length zs) true m) (sym h.3)) z) ((j.3 ∙ ap₂ (λ xs ys. with_null_calls.maybe p (k + length xs + length ys) false n) (sym h.3) (sym i.2)) z)
              ((l.4 ∙ (ap₂ (λ xs ys. with_null_calls.stmt p (k + length xs + length ys + length vs) u.tree) (sym h.3) (sym i.2) ∙ ap (λ zs. with_null_calls.stmt p (k + length (with_null_calls.kept_of_stmts p q.tree) + length (with_null_calls.kept_of_maybe p true m) + length zs) u.tree) (sym j.2))) z),
        )
    for_follows r r' s s' t t' o o' h a b c = tt
