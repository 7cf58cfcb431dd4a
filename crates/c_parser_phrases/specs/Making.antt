-- For private contracts and proofs alone: the node that is made, or no memory.
use Rattle.std.specs.Prelude.{◌≡◌, ℕ, Bool, true, false, Result, Ok, Err, Box}
use Rattle.std.specs.Global.{Global}
use Rattle.c_syntax.specs.declared.tree.Expr.{Expr as ExprTree}
use Rattle.c_syntax.specs.declared.tree.ExprKind.{ExprKind}
use Rattle.c_syntax.specs.Tree.{Expr, Exprs, Maybe, Spec, void, Declarator, nothing, Params, no_params, more_params, prefix, binary}
use Rattle.c_syntax.specs.Grammar.{AreSome}
use Rattle.c_syntax.specs.View.{expr_at, expr_of}
use Rattle.c_syntax.specs.Writes.{exprs_of, params_of, declarator_behind, expr_behind}
use Rattle.c_parser_phrases.specs.declared.error.PhraseError.{PhraseError}
use Rattle.c_parser_phrases.specs.declared.error.PhraseError.TheVariants.{OutOfMemory}
use Rattle.c_parser_phrases.specs.declared.depth.MeasuredExpr.{MeasuredExpr}
use Rattle.c_parser_phrases.specs.declared.depth.MeasuredExprs.{MeasuredExprs}
use Rattle.c_parser_phrases.specs.declared.depth.MeasuredSize.{MeasuredSize}
use Rattle.c_parser_phrases.specs.declared.depth.MeasuredDeclarator.{MeasuredDeclarator}
use Rattle.c_parser_phrases.specs.declared.depth.MeasuredParams.{MeasuredParams}
use Rattle.c_parser_phrases.specs.declared.looking.Infix.{Infix as Between}
use Rattle.c_parser_phrases.specs.declared.looking.Step.{Step}
use Rattle.c_parser_phrases.specs.Looking.{infix_of, step_of}

abbrev pub tree_of : MeasuredExpr → Expr
tree_of m = expr_of m.tree.value

abbrev pub trees_of : MeasuredExprs → Exprs
trees_of m = exprs_of m.trees.items

abbrev pub size_of : MeasuredSize → Maybe
size_of m = expr_behind m.tree

abbrev pub inner_of : MeasuredDeclarator → Declarator
inner_of m = declarator_behind m.tree

abbrev pub list_of : MeasuredParams → Params
list_of m = params_of m.params.items

abbrev pub Makes : Result MeasuredExpr PhraseError → Expr → Type 0
Makes (Ok m) tree = tree_of m ≡ tree
Makes (Err e) tree = e ≡ OutOfMemory

abbrev pub MakesDeclarator : Result MeasuredDeclarator PhraseError → Declarator → Type 0
MakesDeclarator (Ok m) tree = inner_of m ≡ tree
MakesDeclarator (Err e) tree = e ≡ OutOfMemory

-- the node of ++ or --, at each place
abbrev pub IsStep : ExprKind → Step → Box ExprTree Global → Type 0
IsStep kind step a = (at : ℕ) → expr_at at kind ≡ prefix at (step_of step) (expr_of a.value)

-- the node of two operands, at each place
abbrev pub IsBetween : ExprKind → Between → Box ExprTree Global → Box ExprTree Global → Type 0
IsBetween kind between a b = (at : ℕ) → expr_at at kind ≡ binary at (infix_of between) (expr_of a.value) (expr_of b.value)

-- whether the parameter is `void` with no declarator
abbrev pub IsVoidAlone : Bool → Spec → Declarator → Type 0
IsVoidAlone true s e = (s ≡ void) × (e ≡ nothing)
IsVoidAlone false s e = (at : ℕ) → AreSome (more_params at s e no_params)
