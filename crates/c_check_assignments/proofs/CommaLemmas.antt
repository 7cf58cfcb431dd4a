-- The operands of a comma.
use Rattle.std.proofs.Common.{◌≡◌, List, [], ◌∷◌, ◌++◌, map, Vec, Global, refl, ap, sym, ◌∙◌}
use Rattle.std.proofs.lemmas.List.{map-append}
use Rattle.c_tree.specs.declared.tree.CType.{CType as TypeTree}
use Rattle.c_tree.specs.declared.tree.TExpr.{TExpr}
use Rattle.c_tree.specs.declared.tree.TExprKind.TheVariants.{Comma}
use Rattle.c_tree.specs.Tree.{CType, void, more_exprs, comma}
use Rattle.c_tree.specs.View.{ctype_of, expr_of, expr_with, exprs_of}
use Rattle.c_tree.proofs.Rows.{comma_is}
use Rattle.c_check_values.specs.declared.typed_expression.TypedExpression.{TypedExpression as TypedExpressionTree}
use Rattle.c_check_values.specs.TypedExpressionView.{typed_expression_of}
use Rattle.c_rules.specs.TypedExpression.{TypedExpression, not_constant, typed_value, tree_of}
use Rattle.c_rules.specs.Assignments.{last_type, trees_of, comma_of}
pub use Rattle.c_check_values.proofs.PushLemmas.{push}

pub exprs_push : (ts : List TExpr) (t : TExpr) → exprs_of (ts ++ t ∷ []) ≡ push (exprs_of ts) (expr_of t)
exprs_push [] t = refl
exprs_push (x ∷ xs) t = ap (more_exprs (expr_of x)) (exprs_push xs t)

trees_push : (gs : List TypedExpression) (g : TypedExpression) → trees_of (gs ++ g ∷ []) ≡ push (trees_of gs) (tree_of g)
trees_push [] g = refl
trees_push (x ∷ xs) g = ap (more_exprs (tree_of x)) (trees_push xs g)

last_push : (t : CType) (gs : List TypedExpression) (g : TypedExpression) → last_type t (gs ++ g ∷ []) ≡ g.ctype
last_push t [] g = refl
last_push t (x ∷ xs) g = last_push x.ctype xs g

pub trees_more : (gs : List TypedExpressionTree) (g : TypedExpressionTree) (ts us : List TExpr) (t : TExpr) → exprs_of ts ≡ trees_of (map typed_expression_of gs) → expr_of t ≡ tree_of (typed_expression_of g) → us ≡ ts ++ t ∷ [] → exprs_of us ≡ trees_of (map typed_expression_of (gs ++ g ∷ []))
trees_more gs g ts us t before is all =
    ap exprs_of all
    ∙ exprs_push ts t
    ∙ ap (λ es. push es (expr_of t)) before
    ∙ ap (push (trees_of (map typed_expression_of gs))) is
    ∙ sym (trees_push (map typed_expression_of gs) (typed_expression_of g))
    ∙ ap trees_of (sym (map-append typed_expression_of gs (g ∷ [])))

pub last_more : (gs : List TypedExpressionTree) (g : TypedExpressionTree) (t : TypeTree) → ctype_of t ≡ ctype_of g.ctype → ctype_of t ≡ last_type void (map typed_expression_of (gs ++ g ∷ []))
last_more gs g t is = is ∙ sym (ap (last_type void) (map-append typed_expression_of gs (g ∷ [])) ∙ last_push void (map typed_expression_of gs) (typed_expression_of g))

-- a comma of operands with these trees, of which the last one has this type
pub comma_made : (last : TypeTree) (v : Vec TExpr Global) (gs : List TypedExpression) → ctype_of last ≡ last_type void gs → exprs_of v.items ≡ trees_of gs → typed_value (ctype_of last) (expr_with (ctype_of last) (Comma v)) not_constant ≡ comma_of gs
comma_made last v gs t e =
    ap (λ x. typed_value (ctype_of last) x not_constant) (comma_is (ctype_of last) v)
    ∙ ap (λ x. typed_value x (comma x (exprs_of v.items)) not_constant) t
    ∙ ap (λ x. typed_value (last_type void gs) (comma (last_type void gs) x) not_constant) e
