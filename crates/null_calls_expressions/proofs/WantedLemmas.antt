-- Where the value of an operand isn't wanted.
use Rattle.std.proofs.Common.{◌≡◌, ℕ, Bool, true, false, ◌++◌, Option, Some, None, Global, refl, sym, ap, ◌∙◌}
use Rattle.std.specs.Prelude.{Box, not, if◌then◌else◌}
use Rattle.c_syntax.specs.declared.tree.Expr.{Expr as ExprTree}
use Rattle.c_syntax.specs.declared.tree.ExprKind.{ExprKind, Int, Char, Str, Comma', SizeofType, Cast', Call', Member', Arrow', PostInc', PostDec', PreInc', PreDec', SizeofExpr', Unary', Index', And', Or', Binary', Assign', Cond'}
use Rattle.c_syntax.specs.declared.tree.ExprKind.{Name as Named}
use Rattle.c_syntax.specs.declared.tree.ExprKind.TheVariants.{Unary}
use Rattle.c_syntax.specs.declared.tree.Spec.{Spec as Specified}
use Rattle.c_syntax.specs.declared.tree.Spec.TheVariants.{Void}
use Rattle.c_syntax.specs.declared.tree.TypeName.{TypeName as TypeTree, out-TypeName}
use Rattle.c_syntax.specs.declared.tree.Declarator.{Declarator as DeclaratorTree}
use Rattle.c_syntax.specs.declared.tree.DeclaratorKind.{DeclaratorKind, Name, Pointer', Array', Function'}
use Rattle.c_syntax.specs.View.{spec_of, expr_at, expr_of, type_name_of, declarator_at}
use Rattle.c_syntax.specs.Writes.{declarator_in}
use Rattle.c_syntax.proofs.NodeRows.{type_name_is}
use Rattle.c_syntax.specs.Tree.{Spec, void, char, unsigned_char, int, unsigned_int, struct, enum, type_name, nothing}
use Rattle.c_syntax.specs.Tree.{Expr, a_name, an_int, a_char, a_str, comma, sizeof_type, cast, call, member, postfix, prefix, unary, index, binary, assign, conditional, TypeName}
use Rattle.c_rules.specs.Counts.{calls}
use Rattle.null_calls_temporaries.specs.MarkedCalls.{Sites}
use Rattle.null_calls_temporaries.specs.InstrumentedExpressions.{is_void_type, expr, kept}
use Rattle.null_calls_expressions.specs.Wanted.{is_left_out}
use Rattle.null_calls_expressions.specs.Marked.{IsMarked, Reached, of_expr}
use Rattle.null_calls_expressions.proofs.Turns.{alike, node}

-- the operand of a cast
either : {A : Type 0} (v : Bool) (f : Bool → A) → (if v then f false else f true) ≡ f (not v)
either true f = refl
either false f = refl

pub cast_made : (sites : Sites) (w v : Bool) {s t : Reached} (at : ℕ) (n : TypeName) {d x whole made : Expr} → v ≡ is_void_type n → IsMarked (of_expr sites (not v)) s t d x → whole ≡ cast at n d → made ≡ cast at n x → IsMarked (of_expr sites w) s t whole made
cast_made sites w v {s = s} at n {d = d} told p is built =
    node p (cast at n) is built (ap (cast at n) (either (is_void_type n) (λ u. expr sites s.0 u d) ∙ ap (λ u. expr sites s.0 (not u) d) (sym told))) (either (is_void_type n) (λ u. kept sites s.0 u d) ∙ ap (λ u. kept sites s.0 (not u) d) (sym told)) refl

-- an operator that stays
stays_tree : (sites : Sites) (b : ℕ) (w : Bool) (at op : ℕ) (e : Expr) → is_left_out w op e ≡ false → unary at op (expr sites b true e) ≡ expr sites b w (unary at op e)
stays_tree sites b false at op (unary place inner e) h = sym (ap (λ t. if t then expr sites b false e else unary at op (unary place inner (expr sites b true e))) h)
stays_tree sites b w at op e h = refl

stays_kept : (sites : Sites) (b : ℕ) (w : Bool) (at op : ℕ) (e : Expr) → is_left_out w op e ≡ false → kept sites b true e ≡ kept sites b w (unary at op e)
stays_kept sites b false at op (unary place inner e) h = sym (ap (λ t. if t then kept sites b false e else kept sites b true e) h)
stays_kept sites b w at op e h = refl

pub unary_made : (sites : Sites) (w : Bool) {s t : Reached} (at op : ℕ) {d x whole made : Expr} → is_left_out w op d ≡ false → IsMarked (of_expr sites true) s t d x → whole ≡ unary at op d → made ≡ unary at op x → IsMarked (of_expr sites w) s t whole made
unary_made sites w {s = s} at op {d = d} stays p is built = node p (unary at op) is built (sym (stays_tree sites s.0 w at op d stays)) (sym (stays_kept sites s.0 w at op d stays)) refl

-- both operators are left out
without_tree : (sites : Sites) (b : ℕ) (w : Bool) (at op place inner : ℕ) (e : Expr) → is_left_out w op (unary place inner e) ≡ true → expr sites b false e ≡ expr sites b w (unary at op (unary place inner e))
without_tree sites b true at op place inner e h = absurd cc
without_tree sites b false at op place inner e h = sym (ap (λ t. if t then expr sites b false e else unary at op (unary place inner (expr sites b true e))) h)

without_kept : (sites : Sites) (b : ℕ) (w : Bool) (at op place inner : ℕ) (e : Expr) → is_left_out w op (unary place inner e) ≡ true → kept sites b false e ≡ kept sites b w (unary at op (unary place inner e))
without_kept sites b true at op place inner e h = absurd cc
without_kept sites b false at op place inner e h = sym (ap (λ t. if t then kept sites b false e else kept sites b true e) h)

-- ## Names of types

pub other_spec : (s : Specified) → (s ≡ Void → ⊥) → (at : ℕ) → false ≡ is_void_type (type_name at (spec_of s) nothing)
other_spec Void never at = absurd (never refl)
other_spec s never at = refl

named_void : (at here : ℕ) (k : DeclaratorKind) → is_void_type (type_name at void (declarator_at here k)) ≡ false
named_void at here (Name x) = refl
named_void at here k = refl

named_other : (at here : ℕ) (s : Spec) (k : DeclaratorKind) → is_void_type (type_name at s (declarator_at here k)) ≡ false
named_other at here void k = named_void at here k
named_other at here char k = refl
named_other at here unsigned_char k = refl
named_other at here int k = refl
named_other at here unsigned_int k = refl
named_other at here (struct x) k = refl
named_other at here (enum x) k = refl

told_by : (n : TypeTree) (o : Option DeclaratorTree) → (out-TypeName n).declarator ≡ o → is_void_type (type_name_of n) ≡ is_void_type (type_name (out-TypeName n).at (spec_of (out-TypeName n).spec) (declarator_in o))
told_by n o is = ap is_void_type (type_name_is n ∙ ap (λ x. type_name (out-TypeName n).at (spec_of (out-TypeName n).spec) (declarator_in x)) is)

pub with_declarator : (n : TypeTree) (d : DeclaratorTree) → (out-TypeName n).declarator ≡ Some d → false ≡ is_void_type (type_name_of n)
with_declarator n d is = sym (told_by n (Some d) is ∙ named_other (out-TypeName n).at d.at (spec_of (out-TypeName n).spec) d.kind)

pub without_declarator : (n : TypeTree) (b : Bool) → (out-TypeName n).declarator ≡ None → ((at : ℕ) → b ≡ is_void_type (type_name at (spec_of (out-TypeName n).spec) nothing)) → b ≡ is_void_type (type_name_of n)
without_declarator n b is h = h (out-TypeName n).at ∙ sym (told_by n None is)

-- ## Operators that are left out

-- an operator before another form stays
pub stays_before : (w : Bool) (op at : ℕ) (k : ExprKind) → ((inner : ℕ) (x : Box ExprTree Global) → k ≡ Unary inner x → ⊥) → false ≡ is_left_out w op (expr_at at k)
stays_before false op at (Unary' inner p a k) never = absurd (never inner (record { ptr = p.ptr; alloc = p.alloc; value = record { at = a; kind = k } }) refl)
stays_before w op at k never = refl

-- ## An expression where both operators are left out

module _ (sites : Sites) (w : Bool) (e : ExprTree) (op : ℕ) (a : Box ExprTree Global) (is : e.kind ≡ Unary op a) (left : true ≡ is_left_out w op (expr_of a.value)) where
  module _ (inner : ℕ) (x : Box ExprTree Global) (under : a.value.kind ≡ Unary inner x) where
    operand_is : expr_of a.value ≡ unary a.value.at inner (expr_of x.value)
    operand_is = ap (expr_at a.value.at) under

    whole_is : expr_of e ≡ unary e.at op (unary a.value.at inner (expr_of x.value))
    whole_is = ap (expr_at e.at) is ∙ ap (unary e.at op) operand_is

    left_is : is_left_out w op (unary a.value.at inner (expr_of x.value)) ≡ true
    left_is = ap (is_left_out w op) (sym operand_is) ∙ sym left

    pub alone_made : {s t : Reached} {made : Expr} → IsMarked (of_expr sites false) s t (expr_of x.value) made → IsMarked (of_expr sites w) s t (expr_of e) made
    alone_made {s = s} p = alike (sym whole_is) (record {
      tree = p.tree ∙ without_tree sites s.0 w e.at op a.value.at inner (expr_of x.value) left_is;
      keeps = p.keeps ∙ ap (λ ys. s.1 ++ ys) (without_kept sites s.0 w e.at op a.value.at inner (expr_of x.value) left_is);
      counts = p.counts;
    })

  pub never_other : ((inner : ℕ) (x : Box ExprTree Global) → a.value.kind ≡ Unary inner x → ⊥) → ⊥
  never_other never = let stays = stays_before w op a.value.at a.value.kind never in cc
