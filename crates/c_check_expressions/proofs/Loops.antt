-- Lists of expressions and of parameters, one after the other.
use Rattle.std.proofs.Common.{◌≡◌, ℕ, ◌+◌, ◌<◌, List, [], ◌∷◌, ◌++◌, length, drop, get_or, map, Option, Some, None, refl, ap, sym, subst, ◌∙◌, append_assoc}
use Rattle.std.proofs.lemmas.List.{map-append}
use Rattle.c_syntax.specs.declared.tree.Expr.{Expr as ExprTree}
use Rattle.c_syntax.specs.declared.tree.Param.{Param as ParamTree}
use Rattle.c_syntax.specs.Tree.{Ident, Params}
use Rattle.c_syntax.specs.View.{expr_of}
use Rattle.c_syntax.specs.Writes.{exprs_of, params_of}
use Rattle.c_syntax.proofs.NodeRows.{param_is}
use Rattle.c_tree.specs.declared.tree.CType.{CType as TypeTree}
use Rattle.c_tree.specs.Tree.{CType, CTypes, no_types, more_types}
use Rattle.c_tree.specs.View.{ctype_of, types_of}
use Rattle.c_check_types.specs.CheckError.{CheckError}
use Rattle.c_check_types.specs.TypedExpression.{TypedExpression as TypedExpressionTree}
use Rattle.c_check_types.specs.TypedExpressionView.{typed_expression_of}
use Rattle.c_check_types.specs.Agreement.{Names}
use Rattle.c_check_types.proofs.Parts.{names_first}
use Rattle.c_check_types.proofs.PartsOfTypes.{at_place}
use Rattle.c_rules.specs.Checked.{Checked, fine, faulty, faults, both}
use Rattle.c_rules.specs.Counts.{calls, strings, calls_of_all, strings_of_all, past, after}
use Rattle.c_rules.specs.Scopes.{Env, Before}
use Rattle.c_rules.specs.TypedExpression.{TypedExpression}
use Rattle.c_rules.specs.Declarators.{new_name, with_name_demands, behind_parameter}
use Rattle.c_rules.specs.Expressions.{value, trees, parameters}
use Rattle.c_check_expressions.specs.Parts.{Declares, type_of_param, name_of_param, types_before, onto_types, onto_givens}
use Rattle.c_check_counts.specs.Bound.{Bound}
use Rattle.c_check_counts.specs.Environment.{Environment}
use Rattle.c_check_expressions.proofs.NodeLemmas.{past_past}
use Rattle.c_check_expressions.proofs.Turns.{next_fine, next_fails}

-- ## Expressions

-- one more value
pub value_more : (env env' : Env) (b b' : Before) (es : List ExprTree) (i : ℕ) (e : ExprTree) (done : List TypedExpressionTree) (g : TypedExpressionTree) (all : Checked (List TypedExpression)) → i < length es → e ≡ get_or es i e → all ≡ onto_givens (map typed_expression_of done) (trees env b (exprs_of (drop i es))) → value env b (expr_of e) ≡ fine (typed_expression_of g) → env' ≡ env → b' ≡ after b (expr_of e) → all ≡ onto_givens (map typed_expression_of (done ++ g ∷ [])) (trees env' b' (exprs_of (drop (i + 1) es)))
value_more env env' b b' es i e done g all h q before v same on =
    let ds : List TypedExpression = map typed_expression_of done in
    let rest : Checked (List TypedExpression) = trees env (after b (expr_of e)) (exprs_of (drop (i + 1) es)) in
    next_fine all (trees env b (exprs_of (drop i es))) (value env b (expr_of e)) rest (λ x xs. fine (x ∷ xs)) (λ gs. fine (ds ++ gs)) before (ap (λ l. trees env b (exprs_of l)) (at_place es i e h q)) (typed_expression_of g) (λ gs. fine (map typed_expression_of (done ++ g ∷ []) ++ gs)) v
    (λ gs. ap fine (sym (append_assoc ds (typed_expression_of g ∷ []) gs) ∙ ap (λ l. l ++ gs) (sym (map-append typed_expression_of done (g ∷ [])))))
    ∙ (λ j. onto_givens (map typed_expression_of (done ++ g ∷ [])) (trees (sym same j) (sym on j) (exprs_of (drop (i + 1) es))))

pub counted_more : (whole b b' : Before) (es : List ExprTree) (i : ℕ) (e : ExprTree) → i < length es → e ≡ get_or es i e → whole ≡ past b (calls_of_all (exprs_of (drop i es))) (strings_of_all (exprs_of (drop i es))) → b' ≡ after b (expr_of e) → whole ≡ past b' (calls_of_all (exprs_of (drop (i + 1) es))) (strings_of_all (exprs_of (drop (i + 1) es)))
counted_more whole b b' es i e h q before on =
    before
    ∙ ap (λ l. past b (calls_of_all (exprs_of l)) (strings_of_all (exprs_of l))) (at_place es i e h q)
    ∙ sym (past_past b (calls (expr_of e)) (calls_of_all (exprs_of (drop (i + 1) es))) (strings (expr_of e)) (strings_of_all (exprs_of (drop (i + 1) es))))
    ∙ ap (λ x. past x (calls_of_all (exprs_of (drop (i + 1) es))) (strings_of_all (exprs_of (drop (i + 1) es)))) (sym on)

-- a demand that fails in the next one
pub value_fails : (err : CheckError) (env : Env) (b : Before) (es : List ExprTree) (i : ℕ) (e : ExprTree) (done : List TypedExpression) (all : Checked (List TypedExpression)) → i < length es → e ≡ get_or es i e → all ≡ onto_givens done (trees env b (exprs_of (drop i es))) → Names err (faults (value env b (expr_of e))) → Names err (faults all)
value_fails err env b es i e done all h q before n =
    let rest : Checked (List TypedExpression) = trees env (after b (expr_of e)) (exprs_of (drop (i + 1) es)) in
    next_fails all (trees env b (exprs_of (drop i es))) (value env b (expr_of e)) rest (λ x xs. fine (x ∷ xs)) (λ gs. fine (done ++ gs)) before (ap (λ l. trees env b (exprs_of l)) (at_place es i e h q)) err n

-- ## Parameters

abbrev type_and : Checked CType → Checked CTypes → Checked CTypes
type_and p q = both p q (λ t ts. fine (more_types t ts))

before_one : (done : List TypeTree) (t : TypeTree) (ts : CTypes) → types_before done (more_types (ctype_of t) ts) ≡ types_before (done ++ t ∷ []) ts
before_one [] t ts = refl
before_one (d ∷ done) t ts = ap (more_types (ctype_of d)) (before_one done t ts)

pub before_none : (done : List TypeTree) → types_before done no_types ≡ types_of done
before_none [] = refl
before_none (d ∷ done) = ap (more_types (ctype_of d)) (before_none done)

abbrev typed_from : Env → ℕ → Option Ident → Checked CType → Params → Checked CTypes
typed_from env k n r ps = type_and (with_name_demands env n r) (parameters (behind_parameter env k n r) k ps)

params_at : (env : Env) (k : ℕ) (ps : List ParamTree) (i : ℕ) (p : ParamTree) → i < length ps → p ≡ get_or ps i p → parameters env k (params_of (drop i ps)) ≡ typed_from env k (name_of_param p) (type_of_param env p) (params_of (drop (i + 1) ps))
params_at env k ps i p h q =
    ap (λ l. parameters env k (params_of l)) (at_place ps i p h q) ∙ ap (parameters env k) (param_is p (params_of (drop (i + 1) ps)))

-- one more parameter
pub parameter_more : (env env' : Env) (ps : List ParamTree) (i k : ℕ) (p : ParamTree) (done : List TypeTree) (t : TypeTree) (all : Checked CTypes) → i < length ps → p ≡ get_or ps i p → all ≡ onto_types done (parameters env k (params_of (drop i ps))) → type_of_param env p ≡ fine (ctype_of t) → with_name_demands env (name_of_param p) (fine (ctype_of t)) ≡ fine (ctype_of t) → env' ≡ behind_parameter env k (name_of_param p) (fine (ctype_of t)) → all ≡ onto_types (done ++ t ∷ []) (parameters env' k (params_of (drop (i + 1) ps)))
parameter_more env env' ps i k p done t all h q before v named on =
    let r : Checked CType = fine (ctype_of t) in
    let rest : Params = params_of (drop (i + 1) ps) in
    next_fine all (parameters env k (params_of (drop i ps))) (with_name_demands env (name_of_param p) r) (parameters (behind_parameter env k (name_of_param p) r) k rest) (λ u us. fine (more_types u us)) (λ us. fine (types_before done us)) before
    (params_at env k ps i p h q ∙ ap (λ u. typed_from env k (name_of_param p) u rest) v) (ctype_of t) (λ us. fine (types_before (done ++ t ∷ []) us)) named (λ us. ap fine (before_one done t us))
    ∙ (λ j. onto_types (done ++ t ∷ []) (parameters (sym on j) k rest))

-- a demand that fails on the next one: on its type, or on its name
names_demanded : (err : CheckError) (env : Env) (n : Option Ident) (r : Checked CType) → Names err (faults r) → Names err (faults (with_name_demands env n r))
names_demanded err env None r h = h
names_demanded err env (Some x) r h = names_first err r (new_name env x) (λ t _. fine t) h

pub parameter_fails : (err : CheckError) (env : Env) (ps : List ParamTree) (i k : ℕ) (p : ParamTree) (done : List TypeTree) (all : Checked CTypes) → i < length ps → p ≡ get_or ps i p → all ≡ onto_types done (parameters env k (params_of (drop i ps))) → Names err (faults (with_name_demands env (name_of_param p) (type_of_param env p))) → Names err (faults all)
parameter_fails err env ps i k p done all h q before n =
    let rest : Checked CTypes = parameters (behind_parameter env k (name_of_param p) (type_of_param env p)) k (params_of (drop (i + 1) ps)) in
    next_fails all (parameters env k (params_of (drop i ps))) (with_name_demands env (name_of_param p) (type_of_param env p)) rest (λ t ts. fine (more_types t ts)) (λ ts. fine (types_before done ts)) before (params_at env k ps i p h q) err n

pub type_fails : (err : CheckError) (env : Env) (ps : List ParamTree) (i k : ℕ) (p : ParamTree) (done : List TypeTree) (all : Checked CTypes) → i < length ps → p ≡ get_or ps i p → all ≡ onto_types done (parameters env k (params_of (drop i ps))) → Names err (faults (type_of_param env p)) → Names err (faults all)
type_fails err env ps i k p done all h q before n =
    parameter_fails err env ps i k p done all h q before (names_demanded err env (name_of_param p) (type_of_param env p) n)

pub name_fails : (err : CheckError) (env : Env) (ps : List ParamTree) (i k : ℕ) (p : ParamTree) (done : List TypeTree) (t : TypeTree) (all : Checked CTypes) → i < length ps → p ≡ get_or ps i p → all ≡ onto_types done (parameters env k (params_of (drop i ps))) → type_of_param env p ≡ fine (ctype_of t) → Names err (faults (with_name_demands env (name_of_param p) (fine (ctype_of t)))) → Names err (faults all)
name_fails err env ps i k p done t all h q before v n =
    parameter_fails err env ps i k p done all h q before (subst (λ r. Names err (faults (with_name_demands env (name_of_param p) r))) (sym v) n)

-- ## The beginning, and scopes that only grew

pub values_begin : (r : Checked (List TypedExpression)) → r ≡ onto_givens [] r
values_begin (fine gs) = refl
values_begin (faulty f fs) = refl

pub parameters_begin : (r : Checked CTypes) → r ≡ onto_types [] r
parameters_begin (fine ts) = refl
parameters_begin (faulty f fs) = refl

pub declares_none : (a : Environment) → Declares a a
declares_none a = ([], refl)

pub declares_more : (a b b' d : Environment) → Declares a b → b' ≡ b → Declares b' d → Declares a d
declares_more a b b' d p same q = (
  q.0 ++ p.0,
  q.1
      ∙ ap (λ (w : Environment). record w { names = q.0 ++ w.names }) (same ∙ p.1)
      ∙ (λ i. record a { names = sym (append_assoc q.0 p.0 a.names) i }),
)

-- names that were declared are left again
pub left_again : (a : Environment) (b : Environment) (names : List Bound) (deep back : ℕ) → back ≡ a.depth → Declares ((λ (w : Environment). record w { depth = deep }) a) b → ((inner : List Bound) (outer : List Bound) → b.names ≡ inner ++ outer → length outer ≡ length a.names → names ≡ outer) → (λ (w : Environment). record w { names = names; depth = back }) b ≡ a
left_again a b names deep back was p leave =
    let same : names ≡ a.names = leave p.0 a.names (ap (λ (w : Environment). w.names) p.1) refl in
    ap (λ (w : Environment). record w { names = names; depth = back }) p.1 ∙ (λ i. record a { names = same i; depth = was i })
