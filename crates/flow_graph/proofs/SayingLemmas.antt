-- What lists of trees say of functions, one after another.
use Rattle.std.proofs.Common.{◌≡◌, ◌⊎◌, inl, inr, ℕ, Bool, ◌+◌, ◌<◌, ◌≤◌, List, [], ◌∷◌, ◌++◌, length, take, get_or, refl, sym, ap, ap₂, ◌∙◌}
use Rattle.std.specs.Prelude.{flat_map}
use Rattle.std.proofs.lemmas.List.{take_more, take_all, append_assoc, append-nil}
use Rattle.std.proofs.lemmas.Grind.{flat_map-append}
use Rattle.std.proofs.Common.{Vec, Global, Option, Some, None, Result, Ok, Err, OnOk, map}
use Rattle.dm_base.specs.declared.memory.OutOfMemory.{OutOfMemory}
use Rattle.std.proofs.lemmas.List.Folds.{flat_map-map}
use Rattle.c_tree.specs.declared.tree.Function.{Function as FunctionTree}
use Rattle.c_tree.specs.declared.tree.Static.{Static as StaticTree}
use Rattle.c_meaning.specs.Mentions.{mentions_of_function, mentions_of_static}
use Rattle.std.specs.Prelude.{Box}
use Rattle.c_tree.specs.declared.tree.TExpr.{TExpr}
use Rattle.c_tree.specs.declared.value.Value.{Value}
use Rattle.c_tree.specs.declared.value.IntType.{IntType}
use Rattle.c_tree.specs.declared.value.UnOp.{UnOp}
use Rattle.c_tree.specs.declared.value.BinOp.{BinOp}
use Rattle.c_tree.specs.declared.tree.TExprKind.{TExprKind, Const, StringPlace, Variable}
use Rattle.c_tree.specs.declared.tree.TExprKind.TheVariants.{Deref, Load, AddressOf, Decay, Discard, Field, Unary, Convert, Arith, Compare, PointerAdd, PointerDiff, And, Or, Assign, Update, Comma, Call, CallThrough}
use Rattle.c_tree.specs.declared.tree.TStmt.TheVariants.{Block, If, For, Switch}
use Rattle.c_tree.specs.declared.tree.TInit.{TInit}
use Rattle.c_tree.specs.declared.tree.TStmt.{TStmt}
use Rattle.c_tree.specs.declared.tree.TGroup.{TGroup}
use Rattle.c_tree.specs.View.{ctype_of, expr_with, expr_of, exprs_of, maybe_of, inits_of, stmt_of, stmts_of, groups_of, function_of, static_of}
use Rattle.c_tree.proofs.Rows.{comma_is, call_is, call_through_is, block_is, for_is, switch_is}
use Rattle.c_meaning.specs.Mentions.{Mention, Calls, Direct, Through, mentions, mentions_of_all, mentions_of_maybe, mentions_of_inits, mentions_of_stmt, mentions_of_stmts, mentions_of_groups}
use Rattle.c_tree.proofs.CalledTypes.{type_is}
pub use Rattle.dm_base.proofs.ListLemmas.{two_parts}

pub all_flat : (es : List TExpr) → mentions_of_all (exprs_of es) ≡ flat_map (λ e. mentions (expr_of e)) es
all_flat [] = refl
all_flat (e ∷ es) = ap (λ ms. mentions (expr_of e) ++ ms) (all_flat es)

pub inits_flat : (is : List TInit) → mentions_of_inits (inits_of is) ≡ flat_map (λ i. mentions (expr_of i.value)) is
inits_flat [] = refl
inits_flat (i ∷ is) = ap (λ ms. mentions (expr_of i.value) ++ ms) (inits_flat is)

pub stmts_flat : (ss : List TStmt) → mentions_of_stmts (stmts_of ss) ≡ flat_map (λ s. mentions_of_stmt (stmt_of s)) ss
stmts_flat [] = refl
stmts_flat (s ∷ ss) = ap (λ ms. mentions_of_stmt (stmt_of s) ++ ms) (stmts_flat ss)

pub groups_flat : (gs : List TGroup) → mentions_of_groups (groups_of gs) ≡ flat_map (λ g. mentions_of_stmts (stmts_of g.body.items)) gs
groups_flat [] = refl
groups_flat (g ∷ gs) = ap (λ ms. mentions_of_stmts (stmts_of g.body.items) ++ ms) (groups_flat gs)

-- A loop that adds for each item what it has.
module _ {X Y : Type 0} (f : X → List Y) (xs : List X) where
  pub more_flat : (i : ℕ) (x : X) (start old new : List Y) → i < length xs → x ≡ get_or xs i x → old ≡ start ++ flat_map f (take i xs) → new ≡ old ++ f x → new ≡ start ++ flat_map f (take (i + 1) xs)
  more_flat i x start old new lt is before step =
      let more : take (i + 1) xs ≡ take i xs ++ x ∷ [] = take_more xs i x lt ∙ ap (λ y. take i xs ++ y ∷ []) (sym is) in
      step
      ∙ ap (λ ys. ys ++ f x) before
      ∙ append_assoc start (flat_map f (take i xs)) (f x)
      ∙ ap (λ ys. start ++ ys) (ap (λ ys. flat_map f (take i xs) ++ ys) (sym (append-nil (f x))) ∙ sym (flat_map-append f (take i xs) (x ∷ [])) ∙ ap (flat_map f) (sym more))

  pub all_of_flat : (i : ℕ) (start new : List Y) → length xs ≤ i → new ≡ start ++ flat_map f (take i xs) → new ≡ start ++ flat_map f xs
  all_of_flat i start new over is = is ∙ ap (λ ys. start ++ flat_map f ys) (take_all i xs over)

-- a call's clause by other words
pub on_same : (r : Result (Unit {0}) OutOfMemory) (old new m b : List Mention) → m ≡ b → OnOk r (new ≡ old ++ b) → OnOk r (new ≡ old ++ m)
on_same (Ok u) old new m b e is = is ∙ ap (λ ms. old ++ ms) (sym e)
on_same (Err x) old new m b e is = is

pub then_on : (r : Result (Unit {0}) OutOfMemory) (old mid new a b m : List Mention) → mid ≡ old ++ a → m ≡ a ++ b → OnOk r (new ≡ mid ++ b) → OnOk r (new ≡ old ++ m)
then_on (Ok u) old mid new a b m first e is = is ∙ ap (λ ms. ms ++ b) first ∙ append_assoc old a b ∙ ap (λ ms. old ++ ms) (sym e)
then_on (Err x) old mid new a b m first e is = is

-- what the form of an expression says: nothing, what its one part says, or what its two parts say
of_kind : (e : TExpr) (k : TExprKind) → e.kind ≡ k → mentions (expr_of e) ≡ mentions (expr_with (ctype_of e.ctype) k)
of_kind e k is = ap (λ k. mentions (expr_with (ctype_of e.ctype) k)) is

pub of_leaf : (e : TExpr) → ((v : Value) × (e.kind ≡ Const v)) ⊎ (((k : ℕ) × (e.kind ≡ StringPlace k)) ⊎ ((s : Bool) × (k : ℕ) × (e.kind ≡ Variable s k))) → mentions (expr_of e) ≡ []
of_leaf e (inl h) = of_kind e (Const h.0) h.1
of_leaf e (inr (inl h)) = of_kind e (StringPlace h.0) h.1
of_leaf e (inr (inr h)) = of_kind e (Variable h.0 h.1) h.2

pub of_one : (e : TExpr) (a : Box TExpr Global)
    → (e.kind ≡ Deref a) ⊎ ((e.kind ≡ Load a) ⊎ ((e.kind ≡ AddressOf a) ⊎ ((e.kind ≡ Decay a) ⊎ ((e.kind ≡ Discard a) ⊎ (((k : ℕ) × (e.kind ≡ Field a k)) ⊎ (((op : UnOp) × (e.kind ≡ Unary op a)) ⊎ ((t : IntType) × (e.kind ≡ Convert t a))))))))
    → mentions (expr_of e) ≡ mentions (expr_of a.value)
of_one e a (inl is) = of_kind e (Deref a) is
of_one e a (inr (inl is)) = of_kind e (Load a) is
of_one e a (inr (inr (inl is))) = of_kind e (AddressOf a) is
of_one e a (inr (inr (inr (inl is)))) = of_kind e (Decay a) is
of_one e a (inr (inr (inr (inr (inl is))))) = of_kind e (Discard a) is
of_one e a (inr (inr (inr (inr (inr (inl h)))))) = of_kind e (Field a h.0) h.1
of_one e a (inr (inr (inr (inr (inr (inr (inl h))))))) = of_kind e (Unary h.0 a) h.1
of_one e a (inr (inr (inr (inr (inr (inr (inr h))))))) = of_kind e (Convert h.0 a) h.1

pub of_two : (e : TExpr) (a b : Box TExpr Global)
    → ((op : BinOp) × (e.kind ≡ Arith op a b)) ⊎ (((op : BinOp) × (e.kind ≡ Compare op a b)) ⊎ (((f s : Bool) × (e.kind ≡ PointerAdd f s a b)) ⊎ ((e.kind ≡ PointerDiff a b) ⊎ ((e.kind ≡ And a b) ⊎ ((e.kind ≡ Or a b) ⊎ ((e.kind ≡ Assign a b) ⊎ ((op : BinOp) × (old : Bool) × (e.kind ≡ Update op old a b))))))))
    → mentions (expr_of e) ≡ mentions (expr_of a.value) ++ mentions (expr_of b.value)
of_two e a b (inl h) = of_kind e (Arith h.0 a b) h.1
of_two e a b (inr (inl h)) = of_kind e (Compare h.0 a b) h.1
of_two e a b (inr (inr (inl h))) = of_kind e (PointerAdd h.0 h.1 a b) h.2
of_two e a b (inr (inr (inr (inl is)))) = of_kind e (PointerDiff a b) is
of_two e a b (inr (inr (inr (inr (inl is))))) = of_kind e (And a b) is
of_two e a b (inr (inr (inr (inr (inr (inl is)))))) = of_kind e (Or a b) is
of_two e a b (inr (inr (inr (inr (inr (inr (inl is))))))) = of_kind e (Assign a b) is
of_two e a b (inr (inr (inr (inr (inr (inr (inr h))))))) = of_kind e (Update h.0 h.1 a b) h.2

-- expressions and statements that hold lists
pub of_comma : (e : TExpr) (v : Vec TExpr Global) → e.kind ≡ Comma v → mentions (expr_of e) ≡ mentions_of_all (exprs_of v.items)
of_comma e v is = ap (λ k. mentions (expr_with (ctype_of e.ctype) k)) is ∙ ap mentions (comma_is (ctype_of e.ctype) v)

pub of_call : (e : TExpr) (s f : ℕ) (v : Vec TExpr Global) → e.kind ≡ Call s f v → mentions (expr_of e) ≡ Calls s (Direct f) ∷ mentions_of_all (exprs_of v.items)
of_call e s f v is = ap (λ k. mentions (expr_with (ctype_of e.ctype) k)) is ∙ ap mentions (call_is (ctype_of e.ctype) s f v)

pub of_call_through : (e : TExpr) (s : ℕ) (d : Box TExpr Global) (v : Vec TExpr Global) → e.kind ≡ CallThrough s d v → mentions (expr_of e) ≡ mentions (expr_of d.value) ++ Calls s (Through (ctype_of d.value.ctype)) ∷ mentions_of_all (exprs_of v.items)
of_call_through e s d v is =
    ap (λ k. mentions (expr_with (ctype_of e.ctype) k)) is ∙ ap mentions (call_through_is (ctype_of e.ctype) s d v) ∙ ap (λ t. mentions (expr_of d.value) ++ Calls s (Through t) ∷ mentions_of_all (exprs_of v.items)) (type_is d.value)

pub of_empty : (old : List Mention) (s k : TStmt) → s ≡ k → mentions_of_stmt (stmt_of k) ≡ [] → old ≡ old ++ mentions_of_stmt (stmt_of s)
of_empty old s k is form = sym (append-nil old) ∙ ap (λ ms. old ++ ms) (sym (ap (λ s. mentions_of_stmt (stmt_of s)) is ∙ form))

pub of_block : (s : TStmt) (v : Vec TStmt Global) → s ≡ Block v → mentions_of_stmt (stmt_of s) ≡ mentions_of_stmts (stmts_of v.items)
of_block s v is = ap (λ s. mentions_of_stmt (stmt_of s)) is ∙ ap mentions_of_stmt (block_is v)

pub of_for : (s : TStmt) (v : Vec TStmt Global) (test step : Option (Box TExpr Global)) (b : Box TStmt Global) → s ≡ For v test step b → mentions_of_stmt (stmt_of s) ≡ mentions_of_stmts (stmts_of v.items) ++ (mentions_of_maybe (maybe_of test) ++ (mentions_of_maybe (maybe_of step) ++ mentions_of_stmt (stmt_of b.value)))
of_for s v test step b is = ap (λ s. mentions_of_stmt (stmt_of s)) is ∙ ap mentions_of_stmt (for_is v test step b)

pub of_switch : (s : TStmt) (e : Box TExpr Global) (v : Vec TGroup Global) → s ≡ Switch e v → mentions_of_stmt (stmt_of s) ≡ mentions (expr_of e.value) ++ mentions_of_groups (groups_of v.items)
of_switch s e v is = ap (λ s. mentions_of_stmt (stmt_of s)) is ∙ ap mentions_of_stmt (switch_is e v)

pub of_if_none : (s : TStmt) (e : Box TExpr Global) (y : Box TStmt Global) (o : Option (Box TStmt Global)) → s ≡ If e y o → o ≡ None → mentions_of_stmt (stmt_of s) ≡ mentions (expr_of e.value) ++ mentions_of_stmt (stmt_of y.value)
of_if_none s e y o is none = ap (λ s. mentions_of_stmt (stmt_of s)) (is ∙ ap (λ o. If e y o) none) ∙ ap (λ ms. mentions (expr_of e.value) ++ ms) (append-nil (mentions_of_stmt (stmt_of y.value)))

pub of_if_some : (s : TStmt) (e : Box TExpr Global) (y b : Box TStmt Global) (o : Option (Box TStmt Global)) → s ≡ If e y o → o ≡ Some b → mentions_of_stmt (stmt_of s) ≡ mentions (expr_of e.value) ++ (mentions_of_stmt (stmt_of y.value) ++ mentions_of_stmt (stmt_of b.value))
of_if_some s e y b o is some = ap (λ s. mentions_of_stmt (stmt_of s)) (is ∙ ap (λ o. If e y o) some)

-- a program's functions and statics
pub program_said : (fs : List FunctionTree) (ss : List StaticTree) → flat_map (λ f. mentions_of_function (function_of f)) fs ++ flat_map (λ s. mentions_of_static (static_of s)) ss ≡ flat_map mentions_of_function (map function_of fs) ++ flat_map mentions_of_static (map static_of ss)
program_said fs ss = ap (λ ms. ms ++ flat_map (λ s. mentions_of_static (static_of s)) ss) (sym (flat_map-map mentions_of_function function_of fs)) ∙ ap (λ ms. flat_map mentions_of_function (map function_of fs) ++ ms) (sym (flat_map-map mentions_of_static static_of ss))
