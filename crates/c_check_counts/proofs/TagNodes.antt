-- The tags in a node with lists, boxes or optional parts in it.
use Rattle.std.proofs.Common.{◌≡◌, ◌⊎◌, inl, inr, ℕ, ℤ, Bool, List, [], ◌++◌, Option, Some, None, Vec, Global, refl, ap, ◌∙◌, append-nil}
use Rattle.std.specs.Prelude.{Box}
use Rattle.c_syntax.specs.declared.tree.Expr.{Expr as ExprTree}
use Rattle.c_syntax.specs.declared.tree.ExprKind.{ExprKind, Name, Int, Char, Str}
use Rattle.c_syntax.specs.declared.tree.ExprKind.TheVariants.{Comma, Call, Member, Arrow, PostInc, PostDec, PreInc, PreDec, SizeofExpr, Unary, Index, And, Or, Binary, Assign}
use Rattle.c_syntax.specs.declared.tree.Ident.{Ident as Named}
use Rattle.c_syntax.specs.declared.tree.TypeName.{TypeName as TypeTree, out-TypeName, Param-declarator-None', Param-declarator-Some'}
use Rattle.c_syntax.specs.declared.tree.Param.{Param as ParamTree, Param', out-Param}
use Rattle.c_syntax.specs.declared.tree.Declarator.{Declarator as DeclaratorTree}
use Rattle.c_syntax.specs.declared.tree.DeclaratorKind.TheVariants.{Pointer, Array, Function}
use Rattle.c_syntax.specs.declared.tree.Init.{Init as InitTree}
use Rattle.c_syntax.specs.declared.tree.InitKind.TheVariants.{List as listed}
use Rattle.c_syntax.specs.declared.tree.BlockItem.{BlockItem}
use Rattle.c_syntax.specs.declared.tree.Stmt.{Stmt as StmtTree}
use Rattle.c_syntax.specs.declared.tree.StmtKind.{StmtKind}
use Rattle.c_syntax.specs.declared.tree.StmtKind.TheVariants.{Block, Empty, If, Switch, Break, Continue}
use Rattle.c_syntax.specs.declared.tree.Group.{Group, out-Group}
use Rattle.c_syntax.specs.Tree.{no_groups}
use Rattle.c_syntax.specs.View.{spec_of, expr_at, expr_of, type_name_of, declarator_at, declarator_of}
use Rattle.c_syntax.specs.UnitView.{init_at, init_of, stmt_at, stmt_of, labels_of}
use Rattle.c_syntax.specs.Writes.{exprs_of, params_of, declarator_in, declarator_behind, expr_behind}
use Rattle.c_syntax.specs.WritesUnit.{inits_of, block_items_of, stmts_of, groups_of}
use Rattle.c_rules.specs.Tags.{tags_of_spec, tags_of_expr, tags_of_exprs, tags_of_maybe, tags_of_type, tags_of_declarator, tags_of_params, tags_of_init, tags_of_inits, tags_of_labels, tags_of_stmt, tags_of_block, tags_of_stmts, tags_of_groups}
use Rattle.c_check_counts.specs.HeldTags.{tags_of_param, tags_of_group}
use Rattle.c_syntax.proofs.NodeRows.{comma_is, call_is, type_name_is, pointer_is, array_is, function_is, list_is, block_is, switch_is, group_is}

pub of_comma : (e : ExprTree) (v : Vec ExprTree Global) → e.kind ≡ Comma v → tags_of_expr (expr_of e) ≡ tags_of_exprs (exprs_of v.items)
of_comma e v is = ap (λ k. tags_of_expr (expr_at e.at k)) is ∙ ap tags_of_expr (comma_is e.at v)

pub of_call : (e : ExprTree) (d : Box ExprTree Global) (v : Vec ExprTree Global) → e.kind ≡ Call d v → tags_of_expr (expr_of e) ≡ tags_of_expr (expr_of d.value) ++ tags_of_exprs (exprs_of v.items)
of_call e d v is = ap (λ k. tags_of_expr (expr_at e.at k)) is ∙ ap tags_of_expr (call_is e.at d v)

pub of_kind : (e : ExprTree) (k : ExprKind) → e.kind ≡ k → tags_of_expr (expr_of e) ≡ tags_of_expr (expr_at e.at k)
of_kind e k is = ap (λ kind. tags_of_expr (expr_at e.at kind)) is

-- The forms without operands.
pub of_leaf : (e : ExprTree)
    → ((x : List ℕ) × (e.kind ≡ Name x)) ⊎ (((v : ℕ) × (u : Bool) × (e.kind ≡ Int v u)) ⊎ (((n : ℤ) × (e.kind ≡ Char n)) ⊎ ((w : List ℕ) × (e.kind ≡ Str w))))
    → tags_of_expr (expr_of e) ≡ []
of_leaf e (inl h) = of_kind e (Name h.0) h.1
of_leaf e (inr (inl h)) = of_kind e (Int h.0 h.1) h.2
of_leaf e (inr (inr (inl h))) = of_kind e (Char h.0) h.1
of_leaf e (inr (inr (inr h))) = of_kind e (Str h.0) h.1

-- The forms with one operand.
pub of_one : (e : ExprTree) (a : Box ExprTree Global)
    → ((x : Named) × (e.kind ≡ Member a x)) ⊎ (((x : Named) × (e.kind ≡ Arrow a x)) ⊎ ((e.kind ≡ PostInc a) ⊎ ((e.kind ≡ PostDec a) ⊎ ((e.kind ≡ PreInc a) ⊎ ((e.kind ≡ PreDec a) ⊎ ((e.kind ≡ SizeofExpr a) ⊎ ((op : ℕ) × (e.kind ≡ Unary op a))))))))
    → tags_of_expr (expr_of e) ≡ tags_of_expr (expr_of a.value)
of_one e a (inl h) = of_kind e (Member a h.0) h.1
of_one e a (inr (inl h)) = of_kind e (Arrow a h.0) h.1
of_one e a (inr (inr (inl is))) = of_kind e (PostInc a) is
of_one e a (inr (inr (inr (inl is)))) = of_kind e (PostDec a) is
of_one e a (inr (inr (inr (inr (inl is))))) = of_kind e (PreInc a) is
of_one e a (inr (inr (inr (inr (inr (inl is)))))) = of_kind e (PreDec a) is
of_one e a (inr (inr (inr (inr (inr (inr (inl is))))))) = of_kind e (SizeofExpr a) is
of_one e a (inr (inr (inr (inr (inr (inr (inr h))))))) = of_kind e (Unary h.0 a) h.1

-- The forms with two operands.
pub of_two : (e : ExprTree) (a b : Box ExprTree Global)
    → (e.kind ≡ Index a b) ⊎ ((e.kind ≡ And a b) ⊎ ((e.kind ≡ Or a b) ⊎ (((op : ℕ) × (e.kind ≡ Binary op a b)) ⊎ ((op : ℕ) × (e.kind ≡ Assign op a b)))))
    → tags_of_expr (expr_of e) ≡ tags_of_expr (expr_of a.value) ++ tags_of_expr (expr_of b.value)
of_two e a b (inl is) = of_kind e (Index a b) is
of_two e a b (inr (inl is)) = of_kind e (And a b) is
of_two e a b (inr (inr (inl is))) = of_kind e (Or a b) is
of_two e a b (inr (inr (inr (inl h)))) = of_kind e (Binary h.0 a b) h.1
of_two e a b (inr (inr (inr (inr h)))) = of_kind e (Assign h.0 a b) h.1

pub of_type : (n : TypeTree) → tags_of_type (type_name_of n) ≡ tags_of_spec (spec_of (out-TypeName n).spec) ++ tags_of_declarator (declarator_in (out-TypeName n).declarator)
of_type n = ap tags_of_type (type_name_is n)

pub of_param : (p : ParamTree) → tags_of_param p ≡ tags_of_spec (spec_of (out-Param p).spec) ++ tags_of_declarator (declarator_in (out-Param p).declarator)
unfolding out-Param denote.Hole.Carrier.out
of_param (Param' s Param-declarator-None' at) = refl
of_param (Param' s (Param-declarator-Some' p kind) at) = refl

pub of_pointer : (d : DeclaratorTree) (i : Option (Box DeclaratorTree Global)) → d.kind ≡ Pointer i → tags_of_declarator (declarator_of d) ≡ tags_of_declarator (declarator_behind i)
of_pointer d i is = ap (λ k. tags_of_declarator (declarator_at d.at k)) is ∙ ap tags_of_declarator (pointer_is d.at i)

pub of_array : (d : DeclaratorTree) (i : Option (Box DeclaratorTree Global)) (e : Option (Box ExprTree Global)) → d.kind ≡ Array i e → tags_of_declarator (declarator_of d) ≡ tags_of_declarator (declarator_behind i) ++ tags_of_maybe (expr_behind e)
of_array d i e is = ap (λ k. tags_of_declarator (declarator_at d.at k)) is ∙ ap tags_of_declarator (array_is d.at i e)

pub of_function : (d : DeclaratorTree) (i : Option (Box DeclaratorTree Global)) (v : Vec ParamTree Global) → d.kind ≡ Function i v → tags_of_declarator (declarator_of d) ≡ tags_of_declarator (declarator_behind i) ++ tags_of_params (params_of v.items)
of_function d i v is = ap (λ k. tags_of_declarator (declarator_at d.at k)) is ∙ ap tags_of_declarator (function_is d.at i v)

pub of_list : (i : InitTree) (v : Vec InitTree Global) → i.kind ≡ listed v → tags_of_init (init_of i) ≡ tags_of_inits (inits_of v.items)
of_list i v is = ap (λ k. tags_of_init (init_at i.at k)) is ∙ ap tags_of_init (list_is i.at v)

pub of_stmt : (aside : Bool) (s : StmtTree) (k : StmtKind) → s.kind ≡ k → tags_of_stmt aside (stmt_of s) ≡ tags_of_stmt aside (stmt_at s.at k)
of_stmt aside s k is = ap (λ kind. tags_of_stmt aside (stmt_at s.at kind)) is

pub of_none : (aside : Bool) (s : StmtTree) → (s.kind ≡ Empty) ⊎ ((s.kind ≡ Break) ⊎ (s.kind ≡ Continue)) → tags_of_stmt aside (stmt_of s) ≡ []
of_none aside s (inl is) = of_stmt aside s Empty is
of_none aside s (inr (inl is)) = of_stmt aside s Break is
of_none aside s (inr (inr is)) = of_stmt aside s Continue is

pub of_block : (aside : Bool) (s : StmtTree) (v : Vec BlockItem Global) → s.kind ≡ Block v → tags_of_stmt aside (stmt_of s) ≡ tags_of_block aside (block_items_of v.items)
of_block aside s v is = ap (λ k. tags_of_stmt aside (stmt_at s.at k)) is ∙ ap (tags_of_stmt aside) (block_is s.at v)

pub of_if_none : (aside : Bool) (s : StmtTree) (e : Box ExprTree Global) (y : Box StmtTree Global) (o : Option (Box StmtTree Global)) → s.kind ≡ If e y o → o ≡ None → tags_of_stmt aside (stmt_of s) ≡ tags_of_expr (expr_of e.value) ++ tags_of_stmt aside (stmt_of y.value)
of_if_none aside s e y o is none = ap (λ k. tags_of_stmt aside (stmt_at s.at k)) (is ∙ ap (If e y) none)

pub of_if_some : (aside : Bool) (s : StmtTree) (e : Box ExprTree Global) (y b : Box StmtTree Global) (o : Option (Box StmtTree Global)) → s.kind ≡ If e y o → o ≡ Some b → tags_of_stmt aside (stmt_of s) ≡ tags_of_expr (expr_of e.value) ++ (tags_of_stmt aside (stmt_of y.value) ++ tags_of_stmt aside (stmt_of b.value))
of_if_some aside s e y b o is some = ap (λ k. tags_of_stmt aside (stmt_at s.at k)) (is ∙ ap (If e y) some)

pub of_switch : (aside : Bool) (s : StmtTree) (e : Box ExprTree Global) (v : Vec Group Global) → s.kind ≡ Switch e v → tags_of_stmt aside (stmt_of s) ≡ tags_of_expr (expr_of e.value) ++ tags_of_groups aside (groups_of v.items)
of_switch aside s e v is = ap (λ k. tags_of_stmt aside (stmt_at s.at k)) is ∙ ap (tags_of_stmt aside) (switch_is s.at e v)

pub of_group : (aside : Bool) (g : Group) → tags_of_group aside g ≡ tags_of_labels (labels_of (out-Group g).labels.items) ++ tags_of_stmts aside (stmts_of (out-Group g).body.items)
of_group aside g =
    ap (tags_of_groups aside) (group_is g no_groups)
    ∙ ap (λ xs. tags_of_labels (labels_of (out-Group g).labels.items) ++ xs) (append-nil (tags_of_stmts aside (stmts_of (out-Group g).body.items)))
