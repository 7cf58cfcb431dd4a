-- The tokens of lists of trees that a node holds.
use Rattle.std.proofs.Common.{◌≡◌, ℕ, Bool, false, List, ◌∷◌, Option, Some, None, Vec, Global, length, drop, ◌≤◌, refl, ap, sym, subst, ◌∙◌}
use Rattle.std.specs.Prelude.{Box, ◌==◌}
use Rattle.c_lexer.specs.declared.token.TokenKind.TheVariants.{Punct}
use Rattle.c_lexer.specs.declared.punctuator.TheConstants.{LEFT_PARENTHESIS, RIGHT_PARENTHESIS, LEFT_BRACE, RIGHT_BRACE}
use Rattle.c_lexer.specs.declared.keyword.TheConstants.{IF, SWITCH}
use Rattle.c_syntax.specs.declared.tree.Expr.{Expr as Tree}
use Rattle.c_syntax.specs.declared.tree.Param.{Param as ParamTree}
use Rattle.c_syntax.specs.declared.tree.Declarator.{Declarator as DeclaratorTree}
use Rattle.c_syntax.specs.declared.tree.ExprKind.TheVariants.{Comma, Call}
use Rattle.c_syntax.specs.declared.tree.DeclaratorKind.TheBlock.{back-DeclaratorKind-Pointer-0}
use Rattle.c_syntax.specs.declared.tree.DeclaratorKind.TheVariants.{Function}
use Rattle.c_syntax.specs.declared.tree.Init.{Init as InitTree}
use Rattle.c_syntax.specs.declared.tree.InitKind.TheVariants.{List as listed}
use Rattle.c_syntax.specs.declared.tree.BlockItem.{BlockItem}
use Rattle.c_syntax.specs.declared.tree.Stmt.{Stmt as StmtTree}
use Rattle.c_syntax.specs.declared.tree.StmtKind.TheVariants.{Block, If, Switch}
use Rattle.c_syntax.specs.declared.tree.Group.{Group}
use Rattle.c_syntax.specs.View.{expr_at, expr_of, declarator_at, inner_declarator}
use Rattle.c_syntax.specs.UnitView.{init_at, stmt_at, stmt_of}
use Rattle.c_syntax.specs.Print.{Kinds, params_kinds, list_kinds, expr_kinds, operand_kinds, declarator_kinds, init_kinds, inits_kinds, stmt_kinds, block_items_kinds, groups_kinds}
use Rattle.c_syntax.specs.Writes.{exprs_of, params_of, left_params, head_params, declarator_behind, direct_kinds}
use Rattle.c_syntax.specs.WritesUnit.{inits_of, block_items_of, groups_of, else_behind, else_kinds, worded_kinds}
use Rattle.c_syntax_printing.specs.Counted.{Leaves, Counts}
use Rattle.c_syntax_printing.proofs.Counting.{all_counted, counted_as}
use Rattle.c_syntax.proofs.Rows.{inner_is, params_in, exprs_in, no_params_left, head_is_all}
use Rattle.c_syntax.proofs.UnitRows.{inits_in, block_items_in, groups_in}

-- the same operand
pub operand_is : {a b : ℕ} (x y : Tree) → x ≡ y → Counts a (operand_kinds (expr_of x)) b → Counts a (operand_kinds (expr_of y)) b
operand_is {a = a} {b = b} x y e = subst (λ z. Counts a (operand_kinds (expr_of z)) b) e

-- a comma is its operands
pub comma_is : (at : ℕ) (v : Vec Tree Global) (es : List Tree) → es ≡ v.items → (k : Kinds) → list_kinds (exprs_of es) k ≡ expr_kinds (expr_at at (Comma v)) k
comma_is at v es is k = ap (λ x. list_kinds x k) (ap exprs_of is ∙ sym (exprs_in v))

-- a call is an operand, and the arguments in parentheses
pub call_is :
    (at : ℕ) (f : Box Tree Global) (v : Vec Tree Global) (es : List Tree) → es ≡ v.items → (k : Kinds)
    → operand_kinds (expr_of f.value) (Punct LEFT_PARENTHESIS ∷ list_kinds (exprs_of es) (Punct RIGHT_PARENTHESIS ∷ k)) ≡ expr_kinds (expr_at at (Call f v)) k
call_is at f v es is k =
    ap (λ x. operand_kinds (expr_of f.value) (Punct LEFT_PARENTHESIS ∷ list_kinds x (Punct RIGHT_PARENTHESIS ∷ k))) (ap exprs_of is ∙ sym (exprs_in v))

-- a function is what stands inside, and the parameters in parentheses
pub function_is :
    (at : ℕ) (d : Option (Box DeclaratorTree Global)) (v : Vec ParamTree Global) (ps : List ParamTree) → ps ≡ v.items → (k : Kinds)
    → direct_kinds (declarator_behind d) (Punct LEFT_PARENTHESIS ∷ params_kinds (params_of ps) (Punct RIGHT_PARENTHESIS ∷ k)) ≡ declarator_kinds (declarator_at at (Function d v)) k
function_is at d v ps is k =
    ap (λ x. direct_kinds x (Punct LEFT_PARENTHESIS ∷ params_kinds (params_of ps) (Punct RIGHT_PARENTHESIS ∷ k))) (sym (inner_is d))
    ∙ ap (λ x. direct_kinds (inner_declarator (back-DeclaratorKind-Pointer-0 d)) (Punct LEFT_PARENTHESIS ∷ params_kinds x (Punct RIGHT_PARENTHESIS ∷ k))) (ap params_of is ∙ sym (params_in d v))

pub params_counted :
    (ps : List ParamTree) (i : ℕ) (first : Bool) (a b : ℕ) → false ≡ (length ps == 0) → length ps ≤ i
    → Leaves a (head_params (params_of ps)) b (left_params first (params_of (drop i ps))) → Counts a (params_kinds (params_of ps)) b
params_counted ps i first a b some past x =
    counted_as (params_kinds (params_of ps)) (head_is_all ps some) (all_counted (λ xs. left_params first (params_of xs)) (no_params_left first) ps i past x)

-- a list of initialisers is what stands in it, in braces
pub list_is : (at : ℕ) (v : Vec InitTree Global) (xs : List InitTree) → xs ≡ v.items → (k : Kinds) → (Punct LEFT_BRACE ∷ inits_kinds (inits_of xs) (Punct RIGHT_BRACE ∷ k)) ≡ init_kinds (init_at at (listed v)) k
list_is at v xs is k = ap (λ x. Punct LEFT_BRACE ∷ inits_kinds x (Punct RIGHT_BRACE ∷ k)) (ap inits_of is ∙ sym (inits_in v))

-- a block is what stands in it, in braces
pub block_is : (at : ℕ) (v : Vec BlockItem Global) (xs : List BlockItem) → xs ≡ v.items → (k : Kinds) → (Punct LEFT_BRACE ∷ block_items_kinds (block_items_of xs) (Punct RIGHT_BRACE ∷ k)) ≡ stmt_kinds (stmt_at at (Block v)) k
block_is at v xs is k = ap (λ x. Punct LEFT_BRACE ∷ block_items_kinds x (Punct RIGHT_BRACE ∷ k)) (ap block_items_of is ∙ sym (block_items_in v))

-- a switch is its head, and the groups in braces
pub switch_is :
    (at : ℕ) (e : Box Tree Global) (v : Vec Group Global) (xs : List Group) → xs ≡ v.items → (k : Kinds)
    → worded_kinds SWITCH (expr_of e.value) (Punct LEFT_BRACE ∷ groups_kinds (groups_of xs) (Punct RIGHT_BRACE ∷ k)) ≡ stmt_kinds (stmt_at at (Switch e v)) k
switch_is at e v xs is k = ap (λ x. worded_kinds SWITCH (expr_of e.value) (Punct LEFT_BRACE ∷ groups_kinds x (Punct RIGHT_BRACE ∷ k))) (ap groups_of is ∙ sym (groups_in e v))

-- an if is its head, its statement, and the else where one stands
pub if_is :
    (at : ℕ) (e : Box Tree Global) (s : Box StmtTree Global) (no : Option (Box StmtTree Global)) (k : Kinds)
    → worded_kinds IF (expr_of e.value) (stmt_kinds (stmt_of s.value) (else_kinds (else_behind no) k)) ≡ stmt_kinds (stmt_at at (If e s no)) k
if_is at e s None k = refl
if_is at e s (Some b) k = refl
