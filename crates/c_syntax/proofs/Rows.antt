-- Lists of trees and names of types that a node of an expression or a declarator holds.
use Rattle.std.proofs.Common.{◌≡◌, ℕ, ◌≤◌, Bool, true, false, List, [], ◌∷◌, Option, Some, None, Vec, Global, length, drop, refl, ap, sym, subst, ◌∙◌, OnOk}
use Rattle.std.specs.Prelude.{Box, Result, ◌==◌}
use mathlib.Core.Former.{Count}
use Rattle.c_lexer.specs.declared.token.TokenKind.TheVariants.{Punct}
use Rattle.c_lexer.specs.declared.punctuator.TheConstants.{LEFT_PARENTHESIS, RIGHT_PARENTHESIS}
use Rattle.c_syntax.specs.declared.tree.Expr.{Expr as Tree}
use Rattle.c_syntax.specs.declared.tree.Param.{Param as ParamTree, Param'}
use Rattle.c_syntax.specs.declared.tree.TypeName.{TypeName as TypeTree, TypeName', out-TypeName, Param-declarator-None', Param-declarator-Some'}
use Rattle.c_syntax.specs.declared.tree.Declarator.{Declarator as DeclaratorTree}
use Rattle.c_syntax.specs.declared.tree.ExprKind.{ExprKind, Comma', Row_of-Expr, end_of-Expr, more_of-Expr, items-the_row-Expr, items_hidden-the_row-Expr-1}
use Rattle.c_syntax.specs.declared.tree.ExprKind.TheVariants.{Comma, Call}
use Rattle.c_syntax.specs.declared.tree.DeclaratorKind.{DeclaratorKind, Function', Row_of-Param, end_of-Param, more_of-Param, items-the_row-Param, items_hidden-the_row-Param-0}
use Rattle.c_syntax.specs.declared.tree.DeclaratorKind.TheBlock.{back-DeclaratorKind-Pointer-0}
use Rattle.c_syntax.specs.declared.tree.DeclaratorKind.TheVariants.{Function}
use Rattle.c_syntax.specs.Tree.{more_exprs}
use Rattle.c_syntax.specs.View.{exprs_of_row, params_of_row, expr_at, expr_of, param_before, spec_of, type_name_of, declarator_at, inner_declarator}
use Rattle.c_syntax.specs.Print.{Kinds, params_kinds, list_kinds, expr_kinds, operand_kinds, declarator_kinds, type_kinds}
use Rattle.c_syntax.specs.Writes.{Leaves, Writes, exprs_of, params_of, left_params, head_params, declarator_in, declarator_behind, direct_kinds, typed_kinds}
use Rattle.c_syntax.proofs.Writing.{all_written, on_ok_as, written_as}

pub exprs_row : (n : _) (row : Row_of-Expr n) → exprs_of_row row ≡ exprs_of (items-the_row-Expr n row)
exprs_row n end_of-Expr = refl
exprs_row n (more_of-Expr at kind rest) = ap (more_exprs (expr_at at kind)) (exprs_row _ rest)

abbrev pub row_in : ExprKind → (n : Count) × Row_of-Expr n
row_in (Comma' shape row) = (_, row)
row_in _ = (_, end_of-Expr)

pub exprs_in : (v : Vec Tree Global) → exprs_of_row (row_in (Comma v)).1 ≡ exprs_of v.items
exprs_in v = exprs_row (row_in (Comma v)).0 (row_in (Comma v)).1 ∙ ap exprs_of (items_hidden-the_row-Expr-1 v)

-- the same operand
pub operand_is : {a b : List ℕ} (x y : Tree) → x ≡ y → Writes a b (operand_kinds (expr_of x)) → Writes a b (operand_kinds (expr_of y))
operand_is {a = a} {b = b} x y e = subst (λ z. Writes a b (operand_kinds (expr_of z))) e

pub operand_last : {T E : Type 0} (r : Result T E) (a b : List ℕ) (x y : Tree) → x ≡ y → OnOk r (Writes a b (operand_kinds (expr_of x))) → OnOk r (Writes a b (operand_kinds (expr_of y)))
operand_last r a b x y e = subst (λ z. OnOk r (Writes a b (operand_kinds (expr_of z)))) e

-- a comma is its operands
pub comma_last :
    {T E : Type 0} (r : Result T E) (a b : List ℕ) (at : ℕ) (v : Vec Tree Global) (es : List Tree) → es ≡ v.items
    → OnOk r (Writes a b (list_kinds (exprs_of es))) → OnOk r (Writes a b (expr_kinds (expr_at at (Comma v))))
comma_last r a b at v es is =
    on_ok_as r a b (list_kinds (exprs_of es)) (expr_kinds (expr_at at (Comma v))) (λ k. ap (λ x. list_kinds x k) (ap exprs_of is ∙ sym (exprs_in v)))

-- a call is an operand, and the arguments in parentheses
pub call_last :
    {T E : Type 0} (r : Result T E) (a b : List ℕ) (at : ℕ) (f : Box Tree Global) (v : Vec Tree Global) (es : List Tree) → es ≡ v.items
    → OnOk r (Writes a b (λ k. operand_kinds (expr_of f.value) (Punct LEFT_PARENTHESIS ∷ list_kinds (exprs_of es) (Punct RIGHT_PARENTHESIS ∷ k))))
    → OnOk r (Writes a b (expr_kinds (expr_at at (Call f v))))
call_last r a b at f v es is =
    on_ok_as r a b
    (λ k. operand_kinds (expr_of f.value) (Punct LEFT_PARENTHESIS ∷ list_kinds (exprs_of es) (Punct RIGHT_PARENTHESIS ∷ k)))
    (expr_kinds (expr_at at (Call f v)))
    (λ k. ap (λ x. operand_kinds (expr_of f.value) (Punct LEFT_PARENTHESIS ∷ list_kinds x (Punct RIGHT_PARENTHESIS ∷ k))) (ap exprs_of is ∙ sym (exprs_in v)))

pub params_row : (n : _) (row : Row_of-Param n) → params_of_row row ≡ params_of (items-the_row-Param n row)
params_row n end_of-Param = refl
params_row n (more_of-Param p rest) = ap (param_before p) (params_row _ rest)

abbrev pub params_row_in : DeclaratorKind → (n : Count) × Row_of-Param n
params_row_in (Function' held shape row) = (_, row)
params_row_in _ = (_, end_of-Param)

pub params_in : (d : Option (Box DeclaratorTree Global)) (v : Vec ParamTree Global) → params_of_row (params_row_in (Function d v)).1 ≡ params_of v.items
params_in d v = params_row (params_row_in (Function d v)).0 (params_row_in (Function d v)).1 ∙ ap params_of (items_hidden-the_row-Param-0 v)

-- what stands inside a declarator
pub inner_is : (d : Option (Box DeclaratorTree Global)) → inner_declarator (back-DeclaratorKind-Pointer-0 d) ≡ declarator_behind d
inner_is None = refl
inner_is (Some b) = refl

-- a function is what stands inside, and the parameters in parentheses
pub function_last :
    {T E : Type 0} (r : Result T E) (a b : List ℕ) (at : ℕ) (d : Option (Box DeclaratorTree Global)) (v : Vec ParamTree Global) (ps : List ParamTree) → ps ≡ v.items
    → OnOk r (Writes a b (λ k. direct_kinds (declarator_behind d) (Punct LEFT_PARENTHESIS ∷ params_kinds (params_of ps) (Punct RIGHT_PARENTHESIS ∷ k))))
    → OnOk r (Writes a b (declarator_kinds (declarator_at at (Function d v))))
function_last r a b at d v ps is =
    on_ok_as r a b
    (λ k. direct_kinds (declarator_behind d) (Punct LEFT_PARENTHESIS ∷ params_kinds (params_of ps) (Punct RIGHT_PARENTHESIS ∷ k)))
    (declarator_kinds (declarator_at at (Function d v)))
    (λ k.
    ap (λ x. direct_kinds x (Punct LEFT_PARENTHESIS ∷ params_kinds (params_of ps) (Punct RIGHT_PARENTHESIS ∷ k))) (sym (inner_is d))
    ∙ ap (λ x. direct_kinds (inner_declarator (back-DeclaratorKind-Pointer-0 d)) (Punct LEFT_PARENTHESIS ∷ params_kinds x (Punct RIGHT_PARENTHESIS ∷ k))) (ap params_of is ∙ sym (params_in d v)))

-- the name of a type is its specifiers and its declarator
pub type_is : (n : TypeTree) (k : Kinds) → typed_kinds (spec_of (out-TypeName n).spec) (declarator_in (out-TypeName n).declarator) k ≡ type_kinds (type_name_of n) k
unfolding out-TypeName denote.Hole.Carrier.out
type_is (TypeName' s Param-declarator-None' at) k = refl
type_is (TypeName' s (Param-declarator-Some' p kind) at) k = refl

-- parameters after the last one
pub no_params_left : (first : Bool) (k : Kinds) → left_params first (params_of []) k ≡ k
no_params_left true k = refl
no_params_left false k = refl

pub head_is_all : (ps : List ParamTree) → false ≡ (length ps == 0) → (k : Kinds) → head_params (params_of ps) k ≡ params_kinds (params_of ps) k
head_is_all [] some k = absurd (cc some)
head_is_all (Param' s held at ∷ ps) some k = refl

pub params_written :
    (ps : List ParamTree) (i : ℕ) (first : Bool) (a b : List ℕ) → false ≡ (length ps == 0) → length ps ≤ i
    → Leaves a (head_params (params_of ps)) b (left_params first (params_of (drop i ps))) → Writes a b (params_kinds (params_of ps))
params_written ps i first a b some past x =
    written_as (params_kinds (params_of ps)) (head_is_all ps some) (all_written (λ xs. left_params first (params_of xs)) (no_params_left first) ps i past x)
