-- Stores of cells one after another.
use Rattle.std.proofs.Common.{◌≡◌, suc, ◌+◌, List, [], ◌∷◌, ◌++◌, length, refl, ap, sym, ◌∙◌, arith}
use Rattle.std.proofs.lemmas.List.{length_push, nil_from_length}
use Rattle.c_check_initialisers.specs.CellView.{typed_expressions_of}
use Rattle.c_check_initialisers.specs.Left.{stores_before}
use Rattle.c_check_values.specs.declared.typed_expression.TypedExpression.{TypedExpression as TypedExpressionTree}
use Rattle.c_check_values.specs.TypedExpressionView.{typed_expression_of}
use Rattle.c_rules.specs.TypedExpression.{TypedExpression, tree_of}
use Rattle.c_rules.specs.Initialisers.{stores_from}
use Rattle.c_tree.specs.declared.tree.TInit.{TInit}
use Rattle.c_tree.specs.Tree.{Inits, no_inits, more_inits}
use Rattle.c_tree.specs.View.{expr_of, inits_of}

pub before_none : (xs : List TInit) → stores_before xs no_inits ≡ inits_of xs
before_none [] = refl
before_none (x ∷ xs) = ap (more_inits x.cell (expr_of x.value)) (before_none xs)

before_one : (xs : List TInit) (x : TInit) (is : Inits) → stores_before (xs ++ x ∷ []) is ≡ stores_before xs (more_inits x.cell (expr_of x.value) is)
before_one [] x is = refl
before_one (y ∷ xs) x is = ap (more_inits y.cell (expr_of y.value)) (before_one xs x is)

-- one more store
pub store_more : (all : Inits) (xs : List TInit) (x : TInit) (g : TypedExpression) (gs : List TypedExpression) → stores_before xs (stores_from (length xs) (g ∷ gs)) ≡ all → x.cell ≡ length xs → expr_of x.value ≡ tree_of g
    → stores_before (xs ++ x ∷ []) (stores_from (length xs + 1) gs) ≡ all
store_more all xs x g gs before at given =
    let one : length xs + 1 ≡ suc (length xs) = omega arith in
    before_one xs x (stores_from (length xs + 1) gs)
    ∙ ((λ i. stores_before xs (more_inits (at i) (given i) (stores_from (one i) gs))) ∙ before)

pub store_first : (xs : List TInit) (left all : List TypedExpressionTree) → xs ≡ [] → left ≡ all → stores_before xs (stores_from (length xs) (typed_expressions_of left)) ≡ stores_from 0 (typed_expressions_of all)
store_first xs left all none same = λ i. stores_before (none i) (stores_from (length (none i)) (typed_expressions_of (same i)))

pub store_on : (all : Inits) (xs ys : List TInit) (x : TInit) (old rest : List TypedExpressionTree) (g : TypedExpressionTree) → old ≡ g ∷ rest → ys ≡ xs ++ x ∷ [] → stores_before xs (stores_from (length xs) (typed_expressions_of old)) ≡ all → x.cell ≡ length xs → expr_of x.value ≡ tree_of (typed_expression_of g)
    → stores_before ys (stores_from (length ys) (typed_expressions_of rest)) ≡ all
store_on all xs ys x old rest g is grown before at given =
    (λ i. stores_before (grown i) (stores_from (length (grown i)) (typed_expressions_of rest)))
    ∙ (ap (λ n. stores_before (xs ++ x ∷ []) (stores_from n (typed_expressions_of rest))) (length_push xs x)
    ∙ store_more all xs x (typed_expression_of g) (typed_expressions_of rest) (ap (λ l. stores_before xs (stores_from (length xs) (typed_expressions_of l))) (sym is) ∙ before) at given)

pub store_pushed : (xs ys : List TInit) (x : TInit) → ys ≡ xs ++ x ∷ [] → length ys ≡ length xs + 1
store_pushed xs ys x grown = ap length grown ∙ length_push xs x

pub store_end : (all : Inits) (xs : List TInit) (old : List TypedExpressionTree) → length old ≡ 0 → stores_before xs (stores_from (length xs) (typed_expressions_of old)) ≡ all → inits_of xs ≡ all
store_end all xs old none before =
    sym (before_none xs) ∙ (ap (λ l. stores_before xs (stores_from (length xs) (typed_expressions_of l))) (sym (nil_from_length old none)) ∙ before)
