-- What stands in the nodes that hold lists of trees.
use Rattle.std.proofs.Common.{◌≡◌, ◌⊎◌, inl, inr, ℕ, ℤ, Bool, List, [], ◌∷◌, ◌++◌, Option, Some, None, Vec, Global, ap, ◌∙◌, append-nil}
use Rattle.std.specs.Prelude.{Box}
use Rattle.c_syntax.specs.declared.tree.Expr.{Expr as ExprTree}
use Rattle.c_syntax.specs.declared.tree.ExprKind.{ExprKind, Name, Int, Char, Str, SizeofType}
use Rattle.c_syntax.specs.declared.tree.ExprKind.TheVariants.{Comma, Cast, Call, Member, Arrow, PostInc, PostDec, PreInc, PreDec, SizeofExpr, Unary, Index, And, Or, Binary, Assign}
use Rattle.c_syntax.specs.declared.tree.Ident.{Ident as Named}
use Rattle.c_syntax.specs.declared.tree.TypeName.{TypeName as TypeTree}
use Rattle.c_syntax.specs.declared.tree.Init.{Init as InitTree}
use Rattle.c_syntax.specs.declared.tree.InitKind.TheVariants.{List as listed}
use Rattle.c_syntax.specs.declared.tree.BlockItem.{BlockItem}
use Rattle.c_syntax.specs.declared.tree.Stmt.{Stmt as StmtTree}
use Rattle.c_syntax.specs.declared.tree.StmtKind.{StmtKind}
use Rattle.c_syntax.specs.declared.tree.StmtKind.TheVariants.{Block, Empty, If, Switch, Break, Continue}
use Rattle.c_syntax.specs.declared.tree.Group.{Group, out-Group}
use Rattle.c_syntax.specs.Tree.{no_groups}
use Rattle.c_syntax.specs.View.{expr_at, expr_of}
use Rattle.c_syntax.specs.UnitView.{init_at, init_of, stmt_at, stmt_of}
use Rattle.c_syntax.specs.Writes.{exprs_of}
use Rattle.c_syntax.specs.WritesUnit.{inits_of, block_items_of, stmts_of, groups_of}
use Rattle.c_rules.specs.PlacesOfCalls.{places, places_of_all, places_of_init, places_of_inits, places_of_stmt, places_of_block, places_of_stmts, places_of_groups}
use Rattle.c_check_counts.specs.SeenCalls.{places_of_group}
use Rattle.c_check_counts.proofs.CallRows.{comma_is, call_is, list_is, block_is, switch_is, group_is}

pub in_comma : (e : ExprTree) (v : Vec ExprTree Global) → e.kind ≡ Comma v → places (expr_of e) ≡ places_of_all (exprs_of v.items)
in_comma e v is = ap (λ k. places (expr_at e.at k)) is ∙ ap places (comma_is e.at v)

pub in_call : (e : ExprTree) (d : Box ExprTree Global) (v : Vec ExprTree Global) → e.kind ≡ Call d v → places (expr_of e) ≡ places (expr_of d.value) ++ e.at ∷ places_of_all (exprs_of v.items)
in_call e d v is = ap (λ k. places (expr_at e.at k)) is ∙ ap places (call_is e.at d v)

pub in_kind : (e : ExprTree) (k : ExprKind) → e.kind ≡ k → places (expr_of e) ≡ places (expr_at e.at k)
in_kind e k is = ap (λ kind. places (expr_at e.at kind)) is

-- The forms without operands, and those whose operand isn't evaluated.
pub in_leaf : (e : ExprTree)
    → ((x : List ℕ) × (e.kind ≡ Name x)) ⊎ (((v : ℕ) × (u : Bool) × (e.kind ≡ Int v u)) ⊎ (((n : ℤ) × (e.kind ≡ Char n)) ⊎ (((w : List ℕ) × (e.kind ≡ Str w)) ⊎ (((t : TypeTree) × (e.kind ≡ SizeofType t)) ⊎ ((a : Box ExprTree Global) × (e.kind ≡ SizeofExpr a))))))
    → places (expr_of e) ≡ []
in_leaf e (inl h) = in_kind e (Name h.0) h.1
in_leaf e (inr (inl h)) = in_kind e (Int h.0 h.1) h.2
in_leaf e (inr (inr (inl h))) = in_kind e (Char h.0) h.1
in_leaf e (inr (inr (inr (inl h)))) = in_kind e (Str h.0) h.1
in_leaf e (inr (inr (inr (inr (inl h))))) = in_kind e (SizeofType h.0) h.1
in_leaf e (inr (inr (inr (inr (inr h))))) = in_kind e (SizeofExpr h.0) h.1

-- The forms with one operand.
pub in_one : (e : ExprTree) (a : Box ExprTree Global)
    → ((n : TypeTree) × (e.kind ≡ Cast n a)) ⊎ (((x : Named) × (e.kind ≡ Member a x)) ⊎ (((x : Named) × (e.kind ≡ Arrow a x)) ⊎ ((e.kind ≡ PostInc a) ⊎ ((e.kind ≡ PostDec a) ⊎ ((e.kind ≡ PreInc a) ⊎ ((e.kind ≡ PreDec a) ⊎ ((op : ℕ) × (e.kind ≡ Unary op a))))))))
    → places (expr_of e) ≡ places (expr_of a.value)
in_one e a (inl h) = in_kind e (Cast h.0 a) h.1
in_one e a (inr (inl h)) = in_kind e (Member a h.0) h.1
in_one e a (inr (inr (inl h))) = in_kind e (Arrow a h.0) h.1
in_one e a (inr (inr (inr (inl is)))) = in_kind e (PostInc a) is
in_one e a (inr (inr (inr (inr (inl is))))) = in_kind e (PostDec a) is
in_one e a (inr (inr (inr (inr (inr (inl is)))))) = in_kind e (PreInc a) is
in_one e a (inr (inr (inr (inr (inr (inr (inl is))))))) = in_kind e (PreDec a) is
in_one e a (inr (inr (inr (inr (inr (inr (inr h))))))) = in_kind e (Unary h.0 a) h.1

-- The forms with two operands.
pub in_two : (e : ExprTree) (a b : Box ExprTree Global)
    → (e.kind ≡ Index a b) ⊎ ((e.kind ≡ And a b) ⊎ ((e.kind ≡ Or a b) ⊎ (((op : ℕ) × (e.kind ≡ Binary op a b)) ⊎ ((op : ℕ) × (e.kind ≡ Assign op a b)))))
    → places (expr_of e) ≡ places (expr_of a.value) ++ places (expr_of b.value)
in_two e a b (inl is) = in_kind e (Index a b) is
in_two e a b (inr (inl is)) = in_kind e (And a b) is
in_two e a b (inr (inr (inl is))) = in_kind e (Or a b) is
in_two e a b (inr (inr (inr (inl h)))) = in_kind e (Binary h.0 a b) h.1
in_two e a b (inr (inr (inr (inr h)))) = in_kind e (Assign h.0 a b) h.1

pub in_list : (i : InitTree) (v : Vec InitTree Global) → i.kind ≡ listed v → places_of_init (init_of i) ≡ places_of_inits (inits_of v.items)
in_list i v is = ap (λ k. places_of_init (init_at i.at k)) is ∙ ap places_of_init (list_is i.at v)

pub in_stmt : (s : StmtTree) (k : StmtKind) → s.kind ≡ k → places_of_stmt (stmt_of s) ≡ places_of_stmt (stmt_at s.at k)
in_stmt s k is = ap (λ kind. places_of_stmt (stmt_at s.at kind)) is

pub in_none : (s : StmtTree) → (s.kind ≡ Empty) ⊎ ((s.kind ≡ Break) ⊎ (s.kind ≡ Continue)) → places_of_stmt (stmt_of s) ≡ []
in_none s (inl is) = in_stmt s Empty is
in_none s (inr (inl is)) = in_stmt s Break is
in_none s (inr (inr is)) = in_stmt s Continue is

pub in_block : (s : StmtTree) (v : Vec BlockItem Global) → s.kind ≡ Block v → places_of_stmt (stmt_of s) ≡ places_of_block (block_items_of v.items)
in_block s v is = ap (λ k. places_of_stmt (stmt_at s.at k)) is ∙ ap places_of_stmt (block_is s.at v)

pub in_if_none : (s : StmtTree) (e : Box ExprTree Global) (y : Box StmtTree Global) (o : Option (Box StmtTree Global)) → s.kind ≡ If e y o → o ≡ None → places_of_stmt (stmt_of s) ≡ places (expr_of e.value) ++ places_of_stmt (stmt_of y.value)
in_if_none s e y o is none = in_stmt s (If e y None) (is ∙ ap (If e y) none)

pub in_if_some : (s : StmtTree) (e : Box ExprTree Global) (y b : Box StmtTree Global) (o : Option (Box StmtTree Global)) → s.kind ≡ If e y o → o ≡ Some b → places_of_stmt (stmt_of s) ≡ places (expr_of e.value) ++ (places_of_stmt (stmt_of y.value) ++ places_of_stmt (stmt_of b.value))
in_if_some s e y b o is some = in_stmt s (If e y (Some b)) (is ∙ ap (If e y) some)

pub in_switch : (s : StmtTree) (e : Box ExprTree Global) (v : Vec Group Global) → s.kind ≡ Switch e v → places_of_stmt (stmt_of s) ≡ places (expr_of e.value) ++ places_of_groups (groups_of v.items)
in_switch s e v is = ap (λ k. places_of_stmt (stmt_at s.at k)) is ∙ ap places_of_stmt (switch_is s.at e v)

pub in_group : (g : Group) → places_of_group g ≡ places_of_stmts (stmts_of (out-Group g).body.items)
in_group g = ap places_of_groups (group_is g no_groups) ∙ append-nil (places_of_stmts (stmts_of (out-Group g).body.items))
