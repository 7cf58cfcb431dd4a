-- Forms of expressions with the same operands.
use Rattle.std.proofs.Common.{◌≡◌, ◌⊎◌, inl, inr, ℕ, ℤ, Bool, true, List, [], Global, refl, ap, ◌∙◌}
use Rattle.std.specs.Prelude.{Box}
use Rattle.c_syntax.specs.declared.tree.Ident.{Ident as Named}
use Rattle.c_syntax.specs.declared.tree.Expr.{Expr as ExprTree}
use Rattle.c_syntax.specs.declared.tree.TypeName.{TypeName as TypeTree}
use Rattle.c_syntax.specs.declared.tree.ExprKind.{ExprKind}
use Rattle.c_syntax.specs.declared.tree.ExprKind.TheVariants.{Name, Int, Char, Str, SizeofType, SizeofExpr, Member, Arrow, PostInc, PostDec, PreInc, PreDec, Index, And, Or, Binary, Assign}
use Rattle.c_syntax.specs.Tree.{Expr}
use Rattle.c_syntax.specs.View.{expr_at, expr_of}
use Rattle.c_rules.specs.Counts.{calls}
use Rattle.null_calls_temporaries.specs.MarkedCalls.{Sites}
use Rattle.null_calls_temporaries.specs.InstrumentedExpressions.{expr, kept}
use Rattle.null_calls_expressions.specs.Operands.{with_operand, with_operands}
use Rattle.null_calls_expressions.specs.Marked.{Marking, IsMarked, Reached, of_expr}
use Rattle.null_calls_expressions.proofs.Turns.{in_turn, node, leaf}

abbrev operands : Expr → Expr × Expr → Expr
operands z xs = with_operands z xs.0 xs.1

module _ (sites : Sites) (w : Bool) (e : ExprTree) where
  bare : {s : Reached} {made : Expr} (k : ExprKind) → e.kind ≡ k → made ≡ expr_of e → expr sites s.0 w (expr_at e.at k) ≡ expr_at e.at k → kept sites s.0 w (expr_at e.at k) ≡ [] → calls (expr_at e.at k) ≡ 0
      → IsMarked (of_expr sites w) s s (expr_of e) made
  bare k is built tree keeps counts = leaf (ap (expr_at e.at) is) (built ∙ ap (expr_at e.at) is) tree keeps counts

  -- The forms in which no operand is evaluated.
  pub of_none : {s : Reached} {made : Expr}
      → ((x : List ℕ) × (e.kind ≡ Name x)) ⊎ (((n : ℕ) × (u : Bool) × (e.kind ≡ Int n u)) ⊎ (((x : ℤ) × (e.kind ≡ Char x)) ⊎ (((x : List ℕ) × (e.kind ≡ Str x)) ⊎ (((t : TypeTree) × (e.kind ≡ SizeofType t)) ⊎ ((a : Box ExprTree Global) × (e.kind ≡ SizeofExpr a))))))
      → made ≡ expr_of e → IsMarked (of_expr sites w) s s (expr_of e) made
  of_none (inl h) is = bare (Name h.0) h.1 is refl refl refl
  of_none (inr (inl h)) is = bare (Int h.0 h.1) h.2 is refl refl refl
  of_none (inr (inr (inl h))) is = bare (Char h.0) h.1 is refl refl refl
  of_none (inr (inr (inr (inl h)))) is = bare (Str h.0) h.1 is refl refl refl
  of_none (inr (inr (inr (inr (inl h))))) is = bare (SizeofType h.0) h.1 is refl refl refl
  of_none (inr (inr (inr (inr (inr h))))) is = bare (SizeofExpr h.0) h.1 is refl refl refl

  -- a form with these operands in place of its own
  with_parts : {D : Type 0} {u : Marking D} {s t : Reached} {d x : D} {made : Expr} → IsMarked u s t d x → (F : Expr → D → Expr) → made ≡ F (expr_of e) x → (k : ExprKind) → e.kind ≡ k → expr_at e.at k ≡ F (expr_at e.at k) d
      → expr sites s.0 w (F (expr_at e.at k) d) ≡ F (expr_at e.at k) (u.mark s.0 d) → kept sites s.0 w (F (expr_at e.at k) d) ≡ u.kept s.0 d → calls (F (expr_at e.at k) d) ≡ u.count d → IsMarked (of_expr sites w) s t (expr_of e) made
  with_parts {x = x} p F built k is same tree keeps counts = node p (F (expr_at e.at k)) (ap (expr_at e.at) is ∙ same) (built ∙ ap (λ z. F (expr_at e.at z) x) is) tree keeps counts

  -- The forms with one operand, whose value is wanted.
  pub of_one : {s t : Reached} {x made : Expr} (a : Box ExprTree Global)
      → ((x : Named) × (e.kind ≡ Member a x)) ⊎ (((x : Named) × (e.kind ≡ Arrow a x)) ⊎ ((e.kind ≡ PostInc a) ⊎ ((e.kind ≡ PostDec a) ⊎ ((e.kind ≡ PreInc a) ⊎ (e.kind ≡ PreDec a)))))
      → IsMarked (of_expr sites true) s t (expr_of a.value) x → made ≡ with_operand (expr_of e) x → IsMarked (of_expr sites w) s t (expr_of e) made
  of_one a (inl h) p is = with_parts p with_operand is (Member a h.0) h.1 refl refl refl refl
  of_one a (inr (inl h)) p is = with_parts p with_operand is (Arrow a h.0) h.1 refl refl refl refl
  of_one a (inr (inr (inl k))) p is = with_parts p with_operand is (PostInc a) k refl refl refl refl
  of_one a (inr (inr (inr (inl k)))) p is = with_parts p with_operand is (PostDec a) k refl refl refl refl
  of_one a (inr (inr (inr (inr (inl k))))) p is = with_parts p with_operand is (PreInc a) k refl refl refl refl
  of_one a (inr (inr (inr (inr (inr k))))) p is = with_parts p with_operand is (PreDec a) k refl refl refl refl

  -- The forms with two operands, whose values are wanted.
  pub of_two : {s t : Reached} {x y made : Expr} (a c : Box ExprTree Global)
      → (e.kind ≡ Index a c) ⊎ ((e.kind ≡ And a c) ⊎ ((e.kind ≡ Or a c) ⊎ (((op : ℕ) × (e.kind ≡ Binary op a c)) ⊎ ((op : ℕ) × (e.kind ≡ Assign op a c)))))
      → IsMarked (in_turn (of_expr sites true) (of_expr sites true)) s t (expr_of a.value, expr_of c.value) (x, y) → made ≡ with_operands (expr_of e) x y → IsMarked (of_expr sites w) s t (expr_of e) made
  of_two a c (inl k) p is = with_parts p operands is (Index a c) k refl refl refl refl
  of_two a c (inr (inl k)) p is = with_parts p operands is (And a c) k refl refl refl refl
  of_two a c (inr (inr (inl k))) p is = with_parts p operands is (Or a c) k refl refl refl refl
  of_two a c (inr (inr (inr (inl h)))) p is = with_parts p operands is (Binary h.0 a c) h.1 refl refl refl refl
  of_two a c (inr (inr (inr (inr h)))) p is = with_parts p operands is (Assign h.0 a c) h.1 refl refl refl refl
