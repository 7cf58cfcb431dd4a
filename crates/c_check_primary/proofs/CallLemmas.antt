-- Arguments of calls, and types of what is called.
use Rattle.std.proofs.Common.{◌≡◌, ℕ, ◌+◌, ◌<◌, ◌≤◌, Bool, ◌&&◌, true, false, suc, List, [], ◌∷◌, ◌++◌, length, map, drop, get_or, Vec, Global, Result, Ok, Err, refl, ap, sym, ◌∙◌, arith}
use Rattle.std.specs.Prelude.{Box, nat_eq, IfOk}
use Rattle.std.proofs.lemmas.List.{length-append, length-map, drop_all}
use Rattle.c_tree.specs.declared.tree.CType.{CType as TypeTree}
use Rattle.c_tree.specs.declared.tree.CType.TheVariants.{Function}
use Rattle.c_tree.specs.declared.tree.TExpr.{TExpr}
use Rattle.c_tree.specs.Tree.{CType, call_through, pointer, CTypes, no_types, more_types, Expr, no_exprs, more_exprs}
use Rattle.c_tree.specs.declared.tree.TExprKind.TheVariants.{Call, CallThrough}
use Rattle.c_tree.specs.View.{ctype_of, types_of, expr_of, expr_with, exprs_of}
use Rattle.c_tree.proofs.Rows.{call_is, call_through_is, function_is}
use Rattle.c_check_values.specs.declared.typed_expression.TypedExpression.{TypedExpression as TypedExpressionTree}
use Rattle.c_check_values.specs.TypedExpressionView.{typed_expression_of}
use Rattle.c_check_values.proofs.PartsOfTypes.{at_place}
use Rattle.c_rules.specs.Checked.{fine}
use Rattle.dm_base.specs.declared.memory.OutOfMemory.{OutOfMemory}
use Rattle.c_check_primary.specs.CalleeView.{designator_of}
use Rattle.c_check_primary.specs.declared.callee.Designator.{Designator as DesignatorTree}
use Rattle.c_check_primary.specs.declared.callee.Designator.TheVariants as r
use Rattle.c_rules.specs.TypedExpression.{TypedExpression, not_constant, tree_of, typed_value}
use Rattle.c_rules.specs.Conversions.{fits, assigned}
use Rattle.c_rules.specs.Types.{count}
use Rattle.c_rules.specs.PostfixExpressions.{call_of, all_fit, as_many_as, passed, direct, through, callee_of_type, callee_through}
use Rattle.c_check_values.proofs.PushLemmas.{push}
pub use Rattle.c_tree.proofs.CopyLemmas.{same_types}

-- ## Arguments

exprs_push : (es : List TExpr) (e : TExpr) → exprs_of (es ++ e ∷ []) ≡ push (exprs_of es) (expr_of e)
exprs_push [] e = refl
exprs_push (x ∷ xs) e = ap (more_exprs (expr_of x)) (exprs_push xs e)

passed_none : (ts : List TypeTree) → passed (types_of ts) [] ≡ no_exprs
passed_none [] = refl
passed_none (t ∷ ts) = refl

passed_push : (ts : List TypeTree) (gs : List TypedExpressionTree) (g : TypedExpressionTree) (t : TypeTree) → length gs < length ts → t ≡ get_or ts (length gs) t → passed (types_of ts) (map typed_expression_of (gs ++ g ∷ [])) ≡ push (passed (types_of ts) (map typed_expression_of gs)) (tree_of (assigned (ctype_of t) (typed_expression_of g)))
passed_push [] gs g t h q = absurd (omega (arith, h))
passed_push (u ∷ ts) [] g t h q =
    ap (more_exprs (tree_of (assigned (ctype_of u) (typed_expression_of g)))) (passed_none ts) ∙ ap (λ x. more_exprs (tree_of (assigned (ctype_of x) (typed_expression_of g))) no_exprs) (sym q)
passed_push (u ∷ ts) (x ∷ gs) g t h q =
    ap (more_exprs (tree_of (assigned (ctype_of u) (typed_expression_of x)))) (passed_push ts gs g t (omega (arith, h)) q)

-- one more argument
pub passed_more : (ts : List TypeTree) (gs : List TypedExpressionTree) (g : TypedExpressionTree) (t : TypeTree) (es : List TExpr) (e : TExpr) → length gs < length ts → t ≡ get_or ts (length gs) t → exprs_of es ≡ passed (types_of ts) (map typed_expression_of gs) → expr_of e ≡ tree_of (assigned (ctype_of t) (typed_expression_of g)) → exprs_of (es ++ e ∷ []) ≡ passed (types_of ts) (map typed_expression_of (gs ++ g ∷ []))
passed_more ts gs g t es e h q before is =
    exprs_push es e
    ∙ ap (λ x. push x (expr_of e)) before
    ∙ ap (push (passed (types_of ts) (map typed_expression_of gs))) is
    ∙ sym (passed_push ts gs g t h q)

-- the argument at a place fits, and those behind it
pub fit_at : (ts : List TypeTree) (gs : List TypedExpressionTree) (i : ℕ) (t : TypeTree) (g : TypedExpressionTree) → i < length ts → i < length gs → t ≡ get_or ts i t → g ≡ get_or gs i g → all_fit (types_of (drop i ts)) (map typed_expression_of (drop i gs)) ≡ fits (ctype_of t) (typed_expression_of g) && all_fit (types_of (drop (i + 1) ts)) (map typed_expression_of (drop (i + 1) gs))
fit_at ts gs i t g h k p q = λ j. all_fit (types_of (at_place ts i t h p j)) (map typed_expression_of (at_place gs i g k q j))

-- ## What is called

pub named_function : (at f : ℕ) (t : TypeTree) (r : Box TypeTree Global) (v : Vec TypeTree Global) (x : TypeTree) (ys : List TypeTree) → t ≡ Function r v → x ≡ r.value → ys ≡ v.items → callee_of_type at (ctype_of t) f ≡ fine (record { designator = direct f; returns = ctype_of x; parameters = types_of ys })
named_function at f t r v x ys is p q =
    ap (λ u. callee_of_type at (ctype_of u) f) is
    ∙ (ap (λ u. callee_of_type at u f) (function_is r v) ∙ (λ i. fine (record { designator = direct f; returns = ctype_of (sym p i); parameters = types_of (sym q i) })))

pub function_behind : (at : ℕ) (e : Expr) (t : TypeTree) (r : Box TypeTree Global) (v : Vec TypeTree Global) (x : TypeTree) (ys : List TypeTree) → t ≡ Function r v → x ≡ r.value → ys ≡ v.items → callee_through at e (pointer (ctype_of t)) ≡ fine (record { designator = through e; returns = ctype_of x; parameters = types_of ys })
function_behind at e t r v x ys is p q =
    ap (λ u. callee_through at e (pointer (ctype_of u))) is
    ∙ (ap (λ u. callee_through at e (pointer u)) (function_is r v) ∙ (λ i. fine (record { designator = through e; returns = ctype_of (sym p i); parameters = types_of (sym q i) })))

-- as many arguments as parameters
count_types : (ts : List TypeTree) → count (types_of ts) ≡ length ts
count_types [] = refl
count_types (t ∷ ts) = ap suc (count_types ts)

pub as_many_is : (ts : List TypeTree) (gs : List TypedExpressionTree) → as_many_as (types_of ts) (map typed_expression_of gs) ≡ nat_eq (length gs) (length ts)
as_many_is ts gs = λ i. nat_eq (length-map gs typed_expression_of i) (count_types ts i)

-- no argument is left
no_more_fit : (ts : CTypes) → all_fit ts [] ≡ true
no_more_fit no_types = refl
no_more_fit (more_types t ts) = refl

pub fit_none : (ts : List TypeTree) (gs : List TypedExpressionTree) (i : ℕ) → length gs ≤ i → all_fit (types_of (drop i ts)) (map typed_expression_of (drop i gs)) ≡ true
fit_none ts gs i h = ap (λ l. all_fit (types_of (drop i ts)) (map typed_expression_of l)) (drop_all i gs h) ∙ no_more_fit (types_of (drop i ts))

-- no parameter is left
pub fit_end : (ts : List TypeTree) (gs : List TypedExpressionTree) (i : ℕ) → length ts ≤ i → all_fit (types_of (drop i ts)) (map typed_expression_of (drop i gs)) ≡ true
fit_end ts gs i h = ap (λ l. all_fit (types_of l) (map typed_expression_of (drop i gs))) (drop_all i ts h)

pub fit_true : (a b : Bool) → a ≡ true → a && b ≡ b
fit_true a b h = ap (λ x. x && b) h

pub fit_false : (a b : Bool) → a ≡ false → a && b ≡ false
fit_false a b h = ap (λ x. x && b) h

-- ## Calls

pub given_as : (r : Result TypedExpressionTree OutOfMemory) (a b : TypedExpression) → a ≡ b → IfOk r (λ g. typed_expression_of g ≡ a) → IfOk r (λ g. typed_expression_of g ≡ b)
given_as (Ok g) a b h q = q ∙ h
given_as (Err e) a b h q = q

pub direct_call : (d : DesignatorTree) (t : CType) (site f : ℕ) (v : Vec TExpr Global) → d ≡ r.Direct f → typed_value t (expr_with t (Call site f v)) not_constant ≡ typed_value t (call_of (designator_of d) t site (exprs_of v.items)) not_constant
direct_call d t site f v h = ap (λ e. typed_value t e not_constant) (call_is t site f v ∙ ap (λ x. call_of (designator_of x) t site (exprs_of v.items)) (sym h))

pub call_through_it : (d : DesignatorTree) (t : CType) (site : ℕ) (e : TExpr) (b : Box TExpr Global) (v : Vec TExpr Global) → d ≡ r.Through e → b.value ≡ e → typed_value t (expr_with t (CallThrough site b v)) not_constant ≡ typed_value t (call_of (designator_of d) t site (exprs_of v.items)) not_constant
call_through_it d t site e b v h q =
    ap (λ x. typed_value t x not_constant) (call_through_is t site b v ∙ (ap (λ x. call_through t site (expr_of x) (exprs_of v.items)) q ∙ ap (λ x. call_of (designator_of x) t site (exprs_of v.items)) (sym h)))

length_more : (es es' : List TExpr) (e : TExpr) (gs : List TypedExpressionTree) (g : TypedExpressionTree) → length es ≡ length gs → es' ≡ es ++ e ∷ [] → length es' ≡ length (gs ++ g ∷ [])
length_more es es' e gs g h q = ap length q ∙ (length-append es (e ∷ []) ∙ (ap (λ n. n + 1) h ∙ sym (length-append gs (g ∷ []))))

-- one more argument, by the steps of the code
pub passed_step : (ts : List TypeTree) (gs : List TypedExpressionTree) (g v : TypedExpressionTree) (t : TypeTree) (es es' : List TExpr) (e : TExpr) (i : ℕ) → i < length ts → i ≡ length gs → t ≡ get_or ts i t → length es ≡ length gs → exprs_of es ≡ passed (types_of ts) (map typed_expression_of gs) → typed_expression_of v ≡ assigned (ctype_of t) (typed_expression_of g) → expr_of e ≡ tree_of (typed_expression_of v) → es' ≡ es ++ e ∷ [] → (length es' ≡ length (gs ++ g ∷ [])) × (exprs_of es' ≡ passed (types_of ts) (map typed_expression_of (gs ++ g ∷ [])))
passed_step ts gs g v t es es' e i h at q same before value tree all = (
  length_more es es' e gs g same all,
  ap exprs_of all ∙ passed_more ts gs g t es e (omega (arith, at, h)) (q ∙ ap (λ n. get_or ts n t) at) before (tree ∙ ap tree_of value),
)

pub passed_begin : (ts : List TypeTree) (es : List TExpr) → es ≡ [] → (length es ≡ 0) × (exprs_of es ≡ passed (types_of ts) [])
passed_begin ts es h = (ap length h, ap exprs_of h ∙ sym (passed_none ts))
