-- Lists of expressions and parameters with one more at the end: what is read of them, and their heights.
use Rattle.std.proofs.Common.{◌≡◌, ℕ, max, Bool, true, false, List, [], ◌∷◌, ◌++◌, refl, ap, ◌∙◌, subst, arith}
use Rattle.c_lexer.specs.declared.token.Token.{Token}
use Rattle.c_lexer.specs.declared.punctuator.TheConstants.{COMMA}
use Rattle.c_syntax.specs.declared.tree.Expr.{Expr as ExprTree}
use Rattle.c_syntax.specs.declared.tree.Param.{Param as ParamTree, Param'}
use Rattle.c_syntax.specs.Tree.{Ident, Maybe, Spec, void, Declarator, nothing, named, array, function, Params, no_params, more_params}
use Rattle.c_syntax.specs.Tokens.{Is}
use Rattle.c_syntax.specs.Limits.{height, height_of_exprs, height_of_params}
use Rattle.c_syntax.specs.Specifiers.{ReadsSpec}
use Rattle.c_syntax.specs.Grammar.{Declares, a_direct, ReadsCore, no_core, a_declared, declarator_in_parentheses, IsThere, Lengthens, no_more, an_array, a_function, ReadsEach, last_param, next_param, ReadsParams, are_none, AreSome}
use Rattle.c_syntax.specs.View.{expr_of, param_before, spec_of, held_declarator}
use Rattle.c_syntax.specs.Writes.{exprs_of, params_of}
use Rattle.c_parser_phrases.specs.Reading.{IsParam}
use Rattle.c_syntax_printing.proofs.PartOpens.{some_more as some_after}

pub exprs_height : (es : List ExprTree) (e : ExprTree) → height_of_exprs (exprs_of (es ++ e ∷ [])) ≡ max (height_of_exprs (exprs_of es)) (height (expr_of e))
exprs_height [] e = omega arith
exprs_height (x ∷ es) e = omega (arith, exprs_height es e)

params_on : Params → Params → Params
params_on no_params q = q
params_on (more_params at s e rest) q = more_params at s e (params_on rest q)

each_on : {d : ℕ} {ps q : Params} {t : Token} {i j k : List Token} → ReadsEach d ps i (t ∷ j) → Is COMMA t → ReadsEach d q j k → ReadsEach d (params_on ps q) i k
unfolding params_on
each_on (last_param p r e) h w = next_param p r e h w
each_on (next_param p r e o b) h w = next_param p r e o (each_on b h w)

params_joined : (ps : List ParamTree) (p : ParamTree) → params_of (ps ++ p ∷ []) ≡ params_on (params_of ps) (param_before p no_params)
unfolding params_on
params_joined [] p = refl
params_joined (Param' s held at ∷ ps) p = ap (more_params at (spec_of s) (held_declarator held)) (params_joined ps p)

-- one parameter alone
pub each_one : {d : ℕ} {v : Bool} {i j : List Token} (p : ParamTree) → IsParam d p v i j → ReadsEach d (param_before p no_params) i j
each_one p h = rw (h.same no_params) (last_param h.begins h.specified h.declared)

-- one parameter more, after a comma
pub each_more : {d : ℕ} {v : Bool} {t : Token} {i j k : List Token} (ps : List ParamTree) (p : ParamTree) → ReadsEach d (params_of ps) i (t ∷ j) → Is COMMA t → IsParam d p v j k → ReadsEach d (params_of (ps ++ p ∷ [])) i k
each_more ps p r h w = rw (params_joined ps p) (each_on r h (each_one p w))

-- two parameters or more are not `void` alone
pub some_more : {d : ℕ} {i j : List Token} (ps : List ParamTree) (p : ParamTree) → ReadsEach d (params_of ps) i j → AreSome (params_of (ps ++ p ∷ []))
some_more [] p r = absurd (elim r [ ])
some_more (Param' s held at ∷ []) (Param' z kept b) r = some_after at (spec_of s) (held_declarator held) b (spec_of z) (held_declarator kept) no_params
some_more (Param' s held at ∷ Param' z kept b ∷ ps) p r = some_after at (spec_of s) (held_declarator held) b (spec_of z) (held_declarator kept) (params_of (ps ++ p ∷ []))

-- one that is not `void` alone
pub some_one : {d : ℕ} {v : Bool} {i j : List Token} (p : ParamTree) → IsParam d p v i j → v ≡ false → AreSome (param_before p no_params)
some_one p h f = rw (h.same no_params) (h.other f)

nothing_left : {d at : ℕ} {a : Declarator} {i j : List Token} → Lengthens d at a nothing i j → (a ≡ nothing) × (i ≡ j)
nothing_left no_more = (refl, refl)
nothing_left (an_array o s c r) = absurd (no_array (nothing_left r).0)
  where
    no_array : {at : ℕ} {e : Declarator} {m : Maybe} → array at e m ≡ nothing → ⊥
    no_array q = cc
nothing_left (a_function o s c r) = absurd (no_function (nothing_left r).0)
  where
    no_function : {at : ℕ} {e : Declarator} {m : Params} → function at e m ≡ nothing → ⊥
    no_function q = cc

-- the parameter `void` alone is no parameter
pub none_read : {d : ℕ} {i j : List Token} (p : ParamTree) → IsParam d p true i j → ReadsParams d no_params i j
none_read {d} {i} {j} p h =
    let a = h.alone refl in
    let P : Declarator → Type 0 = λ e. Declares d e h.between j in
    let Q : Spec → Type 0 = λ s. ReadsSpec s i h.between in
    let R : List Token → Type 0 = λ k. ReadsSpec void i k in
    are_none (subst R (nothing_here (subst P a.1 h.declared)) (subst Q a.0 h.specified))
  where
    nothing_here : {d : ℕ} {i j : List Token} → Declares d nothing i j → i ≡ j
    nothing_here (a_direct p c l) = empty_core c (nothing_left l).0 ∙ (nothing_left l).1
      where
        empty_core : {d : ℕ} {a : Declarator} {i j : List Token} → ReadsCore d a i j → a ≡ nothing → i ≡ j
        empty_core no_core q = refl
        empty_core (a_declared n) q = absurd (no_name q)
          where
            no_name : {at : ℕ} {x : Ident} → named at x ≡ nothing → ⊥
            no_name q = cc
        empty_core (declarator_in_parentheses o r h c) q = absurd (let P : Declarator → Type 0 = λ e. IsThere e in subst P q h)

pub params_height : (ps : List ParamTree) (p : ParamTree) (h : ℕ) → ((rest : Params) → max h (height_of_params rest) ≡ height_of_params (param_before p rest)) → height_of_params (params_of (ps ++ p ∷ [])) ≡ max (height_of_params (params_of ps)) h
params_height [] p h f = omega (arith, f no_params)
params_height (Param' s held at ∷ ps) p h f = omega (arith, params_height ps p h f)
