-- A deepest node of what is made.
use Rattle.std.proofs.Common.{◌≡◌, ◌⊎◌, inl, inr, ℕ, suc, List, [], ◌∷◌, ◌++◌, sym, ap, ◌∙◌, subst, arith}
use Rattle.std.proofs.Math.Logic.{⊎_map}
use Rattle.c_syntax.specs.declared.tree.Expr.{Expr as ExprTree}
use Rattle.c_syntax.specs.declared.tree.Param.{Param as ParamTree, Param'}
use Rattle.c_syntax.specs.Tree.{Spec, Expr, TypeName, type_name, Declarator, Params, no_params, more_params}
use Rattle.c_syntax.specs.Grammar.{IsThere}
use Rattle.c_syntax.specs.Statements.{place_of}
use Rattle.c_syntax.specs.View.{expr_of, param_before}
use Rattle.c_syntax.specs.Writes.{exprs_of, params_of}
use Rattle.c_syntax_printing.specs.Nodes.{place_of_declarator, InExpr, expr_here, InExprs, in_first_expr, in_later_expr, InType, InDeclarator, declarator_here, InParams, in_first_param, in_later_param, in_type}
use Rattle.c_parser_phrases.specs.declared.depth.Depth.{Depth}
use Rattle.c_parser_phrases.specs.Deepest.{IsDeeper, IsAround}

moved : {m n h k : ℕ} {e x : Expr} → m ≡ h → n ≡ k → e ≡ x → InExpr h k x → InExpr m n e
moved p q r d = rw (p, q, r) d

moved_declarator : {m n h k : ℕ} {e x : Declarator} → m ≡ h → n ≡ k → e ≡ x → InDeclarator h k x → InDeclarator m n e
moved_declarator p q r d = rw (p, q, r) d

-- a node round what is inside it
pub node_deep : {at : ℕ} {e x : Expr} {a d : Depth} → d.height ≡ suc a.height → IsAround at a d → e ≡ x → at ≡ place_of x → (a.height ≡ 0) ⊎ InExpr a.deepest (suc a.height) x → InExpr d.deepest d.height e
node_deep h (inl w) q p u = moved w.1 (omega (arith, h, w.0)) q (expr_here p)
node_deep h (inr w) q p (inl z) = absurd (w.0 z)
node_deep h (inr w) q p (inr u) = moved w.1 h q u

pub node_deep_declarator : {at : ℕ} {e x : Declarator} {a d : Depth} → d.height ≡ suc a.height → IsAround at a d → e ≡ x → IsThere x → at ≡ place_of_declarator x → (a.height ≡ 0) ⊎ InDeclarator a.deepest (suc a.height) x → InDeclarator d.deepest d.height e
node_deep_declarator h (inl w) q t p u = moved_declarator w.1 (omega (arith, h, w.0)) q (declarator_here t p)
node_deep_declarator h (inr w) q t p (inl z) = absurd (w.0 z)
node_deep_declarator h (inr w) q t p (inr u) = moved_declarator w.1 h q u

-- two of them side by side

pub beside_expr : {x : Expr} {a b d : Depth} → IsDeeper a b d → (a.height ≡ 0) ⊎ InExpr a.deepest (suc a.height) x → (b.height ≡ 0) ⊎ InExpr b.deepest (suc b.height) x → (d.height ≡ 0) ⊎ InExpr d.deepest (suc d.height) x
beside_expr {x} (inl w) u v = subst (λ z. (z.height ≡ 0) ⊎ InExpr z.deepest (suc z.height) x) (sym w.0) u
beside_expr {x} (inr w) u v = subst (λ z. (z.height ≡ 0) ⊎ InExpr z.deepest (suc z.height) x) (sym w.0) v

pub beside_declarator : {x : Declarator} {a b d : Depth} → IsDeeper a b d → (a.height ≡ 0) ⊎ InDeclarator a.deepest (suc a.height) x → (b.height ≡ 0) ⊎ InDeclarator b.deepest (suc b.height) x → (d.height ≡ 0) ⊎ InDeclarator d.deepest (suc d.height) x
beside_declarator {x} (inl w) u v = subst (λ z. (z.height ≡ 0) ⊎ InDeclarator z.deepest (suc z.height) x) (sym w.0) u
beside_declarator {x} (inr w) u v = subst (λ z. (z.height ≡ 0) ⊎ InDeclarator z.deepest (suc z.height) x) (sym w.0) v

-- expressions one by one

pushed_later : {m n : ℕ} (es : List ExprTree) (e : ExprTree) → InExprs m n (exprs_of es) → InExprs m n (exprs_of (es ++ e ∷ []))
pushed_later [] e u = absurd (elim u [ ])
pushed_later (x ∷ es) e (in_first_expr u) = in_first_expr u
pushed_later (x ∷ es) e (in_later_expr u) = in_later_expr (pushed_later es e u)

pushed_last : {m n : ℕ} (es : List ExprTree) (e : ExprTree) → InExpr m n (expr_of e) → InExprs m n (exprs_of (es ++ e ∷ []))
pushed_last [] e u = in_first_expr u
pushed_last (x ∷ es) e u = in_later_expr (pushed_last es e u)

pub exprs_first_deep : {m n : ℕ} {xs ns : List ExprTree} {v e : ExprTree} → xs ≡ ns ++ v ∷ [] → ns ≡ [] → v ≡ e → InExpr m n (expr_of e) → (n ≡ 0) ⊎ InExprs m n (exprs_of xs)
exprs_first_deep {m} {n} {v = v} q p r u =
    let P : List ExprTree → Type 0 = λ z. InExprs m n (exprs_of z) in
    inr (subst P (sym (q ∙ ap (λ z. z ++ v ∷ []) p ∙ ap (λ z. z ∷ []) r)) (in_first_expr u))

pub exprs_grown_deep :
    {a b d : Depth} {xs : List ExprTree} (es : List ExprTree) (v e : ExprTree)
    → xs ≡ es ++ v ∷ [] → v ≡ e → IsDeeper a b d → (a.height ≡ 0) ⊎ InExprs a.deepest a.height (exprs_of es) → InExpr b.deepest b.height (expr_of e)
    → (d.height ≡ 0) ⊎ InExprs d.deepest d.height (exprs_of xs)
exprs_grown_deep {a} {b} {d} es v e q r w u y = subst (λ z. (d.height ≡ 0) ⊎ InExprs d.deepest d.height (exprs_of z)) (sym (q ∙ ap (λ z. es ++ z ∷ []) r)) (go w u)
  where
    go : IsDeeper a b d → (a.height ≡ 0) ⊎ InExprs a.deepest a.height (exprs_of es) → (d.height ≡ 0) ⊎ InExprs d.deepest d.height (exprs_of (es ++ e ∷ []))
    go (inl k) z = subst (λ y. (y.height ≡ 0) ⊎ InExprs y.deepest y.height (exprs_of (es ++ e ∷ []))) (sym k.0) (⊎_map (λ x. x) (pushed_later es e) z)
    go (inr k) z = subst (λ y. (y.height ≡ 0) ⊎ InExprs y.deepest y.height (exprs_of (es ++ e ∷ []))) (sym k.0) (inr (pushed_last es e y))

-- parameters one by one

param_later : {m n : ℕ} (p : ParamTree) (rest : Params) → InParams m n rest → InParams m n (param_before p rest)
param_later (Param' s held at) rest u = in_later_param u

param_changes : {m n : ℕ} (p : ParamTree) (rest more : Params) → (InParams m n rest → InParams m n more) → InParams m n (param_before p rest) → InParams m n (param_before p more)
param_changes (Param' s held at) rest more f (in_first_param u) = in_first_param u
param_changes (Param' s held at) rest more f (in_later_param u) = in_later_param (f u)

pub params_first_deep : {m n : ℕ} {xs ns : List ParamTree} (p : ParamTree) → xs ≡ ns ++ p ∷ [] → ns ≡ [] → ((rest : Params) → (n ≡ 0) ⊎ InParams m n (param_before p rest)) → (n ≡ 0) ⊎ InParams m n (params_of xs)
params_first_deep {m} {n} p q e f =
    let P : List ParamTree → Type 0 = λ z. (n ≡ 0) ⊎ InParams m n (params_of z) in
    subst P (sym (q ∙ ap (λ z. z ++ p ∷ []) e)) (f no_params)

params_later : {m n : ℕ} (ps : List ParamTree) (p : ParamTree) → InParams m n (params_of ps) → InParams m n (params_of (ps ++ p ∷ []))
params_later [] p u = absurd (elim u [ ])
params_later (x ∷ ps) p u = param_changes x (params_of ps) (params_of (ps ++ p ∷ [])) (λ v. params_later ps p v) u

params_last : {m n : ℕ} (ps : List ParamTree) (p : ParamTree) → InParams m n (param_before p no_params) → InParams m n (params_of (ps ++ p ∷ []))
params_last [] p u = u
params_last (x ∷ ps) p u = param_later x (params_of (ps ++ p ∷ [])) (params_last ps p u)

pub params_grown_deep :
    {a b d : Depth} {qs : List ParamTree} (ps : List ParamTree) (p : ParamTree)
    → qs ≡ ps ++ p ∷ [] → IsDeeper a b d → (a.height ≡ 0) ⊎ InParams a.deepest a.height (params_of ps)
    → ((rest : Params) → (b.height ≡ 0) ⊎ InParams b.deepest b.height (param_before p rest)) → (d.height ≡ 0) ⊎ InParams d.deepest d.height (params_of qs)
params_grown_deep {a} {b} {d} ps p q w u f = subst (λ z. (d.height ≡ 0) ⊎ InParams d.deepest d.height (params_of z)) (sym q) (go w)
  where
    go : IsDeeper a b d → (d.height ≡ 0) ⊎ InParams d.deepest d.height (params_of (ps ++ p ∷ []))
    go (inl k) = subst (λ y. (y.height ≡ 0) ⊎ InParams y.deepest y.height (params_of (ps ++ p ∷ []))) (sym k.0) (⊎_map (λ x. x) (params_later ps p) u)
    go (inr k) = subst (λ y. (y.height ≡ 0) ⊎ InParams y.deepest y.height (params_of (ps ++ p ∷ []))) (sym k.0) (⊎_map (λ x. x) (params_last ps p) (f no_params))

-- the name of a type, and a parameter

pub type_deep : {m n at : ℕ} {s : Spec} {e : Declarator} {t : TypeName} → t ≡ type_name at s e → (n ≡ 0) ⊎ InDeclarator m n e → (n ≡ 0) ⊎ InType m n t
type_deep {m} {n} q = ⊎_map (λ x. x) (λ u. subst (λ z. InType m n z) (sym q) (in_type u))

pub param_deep : {m n at : ℕ} {s : Spec} {e : Declarator} {ps rest : Params} → ps ≡ more_params at s e rest → (n ≡ 0) ⊎ InDeclarator m n e → (n ≡ 0) ⊎ InParams m n ps
param_deep {m} {n} q = ⊎_map (λ x. x) (λ u. subst (λ z. InParams m n z) (sym q) (in_first_param u))

pub type_deep_at : {a d : Depth} {at : ℕ} {s : Spec} {e : Declarator} {t : TypeName} → d ≡ a → t ≡ type_name at s e → (a.height ≡ 0) ⊎ InDeclarator a.deepest a.height e → (d.height ≡ 0) ⊎ InType d.deepest d.height t
type_deep_at {t = t} w q u = subst (λ z. (z.height ≡ 0) ⊎ InType z.deepest z.height t) (sym w) (type_deep q u)

pub param_deep_at : {a d : Depth} {at : ℕ} {s : Spec} {e : Declarator} {ps rest : Params} → d ≡ a → ps ≡ more_params at s e rest → (a.height ≡ 0) ⊎ InDeclarator a.deepest a.height e → (d.height ≡ 0) ⊎ InParams d.deepest d.height ps
param_deep_at {ps = ps} w q u = subst (λ z. (z.height ≡ 0) ⊎ InParams z.deepest z.height ps) (sym w) (param_deep q u)
