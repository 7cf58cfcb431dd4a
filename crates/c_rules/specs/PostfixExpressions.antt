-- Calls, members and indices (6.5.2).
use Rattle.std.specs.Prelude.{ℕ, Bool, true, ◌&&◌, List, [], ◌∷◌, map, length, Option, Some, None, nat_eq, nat_lt, slice_index_or}
use Rattle.c_tree.specs.Tree.{CType, void, pointer, struct, function, CTypes, no_types, more_types, Expr, Exprs, no_exprs, more_exprs, field, call, call_through}
use Rattle.c_tree.specs.Layout.{cells, first_cell}
use Rattle.c_rules.specs.Checked.{Checked, fine, faulty, fault, demand, on, met}
use Rattle.c_rules.specs.Codes.{C1, C3, C5, C6, C13}
use Rattle.c_rules.specs.Limits.{most_calls}
use Rattle.c_rules.specs.Types.{count}
use Rattle.c_rules.specs.Names.{Name, number_among}
use Rattle.c_rules.specs.Scopes.{Env, Context, evaluated, sized, folded, Struct, incomplete, unknown_struct, defined_struct, Member, struct_of, layout_of, type_of_member}
use Rattle.c_rules.specs.TypedExpression.{TypedExpression, a_place, not_constant, typed_value, tree_of}
use Rattle.c_rules.specs.Constants.{constant_member}
use Rattle.c_rules.specs.Conversions.{fits, assigned}
use Rattle.c_rules.specs.PrimaryExpressions.{used, function_number}

-- ## Calls (6.5.2.2)

-- the site of a call; no call stands in the operand of sizeof, and one that is folded has no site
abbrev pub site_in : Context → (most site at : ℕ) → Checked ℕ
site_in evaluated most site at = demand (nat_lt site most) C13 at site
site_in sized most site at = fault C6 at
site_in folded most site at = fine 0

abbrev pub site_of : Env → (site at : ℕ) → Checked ℕ
site_of env site at = site_in env.context (most_calls env.whole.mode) site at

-- what is called: a function by its name, or the function behind a pointer
pub data Designator : Type 0 where
  direct : ℕ → Designator
  through : Expr → Designator

pub record Callee : Type 0 where
  pub designator : Designator
  pub returns : CType
  pub parameters : CTypes

-- a function of a type, by its name
abbrev pub callee_of_type : (at : ℕ) → CType → ℕ → Checked Callee
callee_of_type at (function t ts) f = fine (record { designator = direct f; returns = t; parameters = ts })
callee_of_type at t f = fault C3 at

abbrev pub callee_by_name : Env → (at : ℕ) → Name → CType → Checked Callee
callee_by_name env at x t = on (used env.context at (function_number env x)) (callee_of_type at t)

-- a value; it is a pointer to a function (6.5.2.2 paragraph 1)
abbrev pub callee_through : (at : ℕ) → Expr → CType → Checked Callee
callee_through at e (pointer (function t ts)) = fine (record { designator = through e; returns = t; parameters = ts })
callee_through at e t = fault C3 at

abbrev pub callee_by_value : (at : ℕ) → TypedExpression → Checked Callee
callee_by_value at g = callee_through at (tree_of g) g.ctype

-- each argument may be assigned to its parameter (6.5.2.2 paragraph 2)
abbrev pub all_fit : CTypes → List TypedExpression → Bool
all_fit no_types gs = true
all_fit (more_types t ts) [] = true
all_fit (more_types t ts) (g ∷ gs) = fits t g && all_fit ts gs

-- the arguments in the types of the parameters (6.5.2.2 paragraph 7)
abbrev pub passed : CTypes → List TypedExpression → Exprs
passed no_types gs = no_exprs
passed (more_types t ts) [] = no_exprs
passed (more_types t ts) (g ∷ gs) = more_exprs (tree_of (assigned t g)) (passed ts gs)

abbrev pub call_of : Designator → CType → (site : ℕ) → Exprs → Expr
call_of (direct f) t site es = call t site f es
call_of (through e) t site es = call_through t site e es

abbrev pub as_many_as : CTypes → List TypedExpression → Bool
as_many_as ts gs = nat_eq (length gs) (count ts)

-- a call of what is called, with its site and its arguments
abbrev pub called : (at : ℕ) → Callee → ℕ → List TypedExpression → Checked TypedExpression
called at f site gs =
    on (demand (as_many_as f.parameters gs) C5 at met)
    (λ _. demand (all_fit f.parameters gs) C3 at (typed_value f.returns (call_of f.designator f.returns site (passed f.parameters gs)) not_constant))

-- ## Members (6.5.2.3)

abbrev pub name_of_member : Member → Name
name_of_member m = m.name

-- the member with this number
abbrev pub member_given : Env → List Member → TypedExpression → ℕ → TypedExpression
member_given env ms g k =
    let t : CType = slice_index_or (map type_of_member ms) k void in
    let first : ℕ = first_cell (layout_of env) (map type_of_member ms) k in
    record { ctype = t; form = a_place (field t first (tree_of g)); constant = constant_member first (cells (layout_of env) t) g.constant }

abbrev pub member_or_undeclared : Env → (at : ℕ) → List Member → TypedExpression → Option ℕ → Checked TypedExpression
member_or_undeclared env at ms g None = fault C1 at
member_or_undeclared env at ms g (Some k) = fine (member_given env ms g k)

-- a member of a struct that has its definition
abbrev pub member_of_struct : Env → (at : ℕ) → Name → TypedExpression → Struct → Checked TypedExpression
member_of_struct env at x g incomplete = fault C1 at
member_of_struct env at x g (unknown_struct f fs) = faulty f fs
member_of_struct env at x g (defined_struct ms) =
    member_or_undeclared env at ms g (number_among (map name_of_member ms) x)

abbrev pub member_of_type : Env → (at : ℕ) → Name → TypedExpression → CType → Checked TypedExpression
member_of_type env at x g (struct s) = member_of_struct env at x g (struct_of env s)
member_of_type env at x g t = fault C3 at

-- `g.x`
abbrev pub member_of : Env → (at : ℕ) → Name → TypedExpression → Checked TypedExpression
member_of env at x g = member_of_type env at x g g.ctype
