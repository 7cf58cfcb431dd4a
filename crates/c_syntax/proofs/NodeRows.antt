-- What the trees of Rust that hold lists, boxes or optional parts are seen as.
use Rattle.std.proofs.Common.{◌≡◌, ℕ, Option, Some, None, Vec, Global, refl, ap, sym, ◌∙◌}
use Rattle.std.specs.Prelude.{Box}
use Rattle.c_syntax.specs.declared.tree.Expr.{Expr as ExprTree}
use Rattle.c_syntax.specs.declared.tree.TypeName.{TypeName as TypeTree, TypeName', out-TypeName, Param-declarator-None', Param-declarator-Some'}
use Rattle.c_syntax.specs.declared.tree.Param.{Param as ParamTree, Param', out-Param}
use Rattle.c_syntax.specs.declared.tree.Declarator.{Declarator as DeclaratorTree}
use Rattle.c_syntax.specs.declared.tree.DeclaratorKind.TheBlock.{back-DeclaratorKind-Array-1}
use Rattle.c_syntax.specs.declared.tree.DeclaratorKind.TheVariants.{Pointer, Array, Function}
use Rattle.c_syntax.specs.declared.tree.Stmt.{Stmt as StmtTree}
use Rattle.c_syntax.specs.declared.tree.StmtKind.TheVariants.{If}
use Rattle.c_syntax.specs.declared.tree.Group.{Group, Group', out-Group, items_shown-the_row-Stmt-2}
use Rattle.c_syntax.specs.Tree.{type_name, pointer, array, function, Params, more_params, Groups, more_groups}
use Rattle.c_syntax.specs.View.{spec_of, type_name_of, declarator_at, maybe_size, params_of_row, param_before}
use Rattle.c_syntax.specs.UnitView.{stmt_at, stmt_of, if_with, group_before, labels_of}
use Rattle.c_syntax.specs.Writes.{params_of, declarator_in, declarator_behind, expr_behind}
use Rattle.c_syntax.specs.WritesUnit.{stmts_of, else_behind}
use Rattle.c_syntax.proofs.Rows.{inner_is, params_row_in, params_in}
use Rattle.c_syntax.proofs.UnitRows.{stmts_row}
pub use Rattle.c_syntax.proofs.FormRows.{comma_is, call_is, list_is, block_is, switch_is}

-- ## Expressions

-- ## Names of types and declarators

pub type_name_is : (n : TypeTree) → type_name_of n ≡ type_name (out-TypeName n).at (spec_of (out-TypeName n).spec) (declarator_in (out-TypeName n).declarator)
unfolding out-TypeName denote.Hole.Carrier.out
type_name_is (TypeName' s Param-declarator-None' at) = refl
type_name_is (TypeName' s (Param-declarator-Some' p kind) at) = refl

pub param_is : (p : ParamTree) (rest : Params) → param_before p rest ≡ more_params (out-Param p).at (spec_of (out-Param p).spec) (declarator_in (out-Param p).declarator) rest
unfolding out-Param denote.Hole.Carrier.out
param_is (Param' s Param-declarator-None' at) rest = refl
param_is (Param' s (Param-declarator-Some' p kind) at) rest = refl

size_is : (e : Option (Box ExprTree Global)) → maybe_size (back-DeclaratorKind-Array-1 e) ≡ expr_behind e
size_is None = refl
size_is (Some b) = refl

pub pointer_is : (at : ℕ) (d : Option (Box DeclaratorTree Global)) → declarator_at at (Pointer d) ≡ pointer at (declarator_behind d)
pointer_is at d = ap (pointer at) (inner_is d)

pub array_is : (at : ℕ) (d : Option (Box DeclaratorTree Global)) (e : Option (Box ExprTree Global)) → declarator_at at (Array d e) ≡ array at (declarator_behind d) (expr_behind e)
array_is at d e = ap (λ x. array at x (maybe_size (back-DeclaratorKind-Array-1 e))) (inner_is d) ∙ ap (array at (declarator_behind d)) (size_is e)

pub function_is : (at : ℕ) (d : Option (Box DeclaratorTree Global)) (v : Vec ParamTree Global) → declarator_at at (Function d v) ≡ function at (declarator_behind d) (params_of v.items)
function_is at d v = ap (λ x. function at x (params_of_row (params_row_in (Function d v)).1)) (inner_is d) ∙ ap (function at (declarator_behind d)) (params_in d v)

-- ## Initialisers

-- ## Statements

pub if_is : (at : ℕ) (e : Box ExprTree Global) (s : Box StmtTree Global) (o : Option (Box StmtTree Global)) → stmt_at at (If e s o) ≡ if_with at e.value (stmt_of s.value) (else_behind o)
if_is at e s None = refl
if_is at e s (Some b) = refl

pub group_is : (g : Group) (rest : Groups) → group_before g rest ≡ more_groups (labels_of (out-Group g).labels.items) (stmts_of (out-Group g).body.items) rest
unfolding out-Group denote.Hole.Carrier.out
group_is (Group' labels shape row) rest = ap (λ ss. more_groups (labels_of labels.items) ss rest) (stmts_row _ row ∙ sym (ap stmts_of (items_shown-the_row-Stmt-2 shape row)))
