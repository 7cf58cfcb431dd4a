-- Functions (6.9.1): what their names mean, and what their definitions give.
use Rattle.std.specs.Prelude.{ℕ, suc, ◌+◌, Bool, true, false, not, ◌&&◌, ◌||◌, List, [], ◌++◌, length, Option, Some, None, slice_get, nat_le, nat_lt}
use Rattle.c_tree.specs.Tree.{CType, void, function, CTypes, no_types, more_types, list_of, Function}
use Rattle.c_tree.specs.Tree as typed
use Rattle.c_tree.specs.Layout.{cells_of_all}
use Rattle.c_syntax.specs.Tree.{Ident, Spec, Declarator, Params, no_params, more_params, Stmt, block, BlockItems, no_block_items, block_stmt}
use Rattle.c_syntax.specs.Tree as syntax
use Rattle.c_rules.specs.Checked.{Checked, fine, faulty, fault, demand, on, both, and_also, Met, met, parts_first}
use Rattle.c_rules.specs.Codes.{C2, C3, C11, C12, C13}
use Rattle.c_rules.specs.Limits.{most_functions, most_local_cells}
use Rattle.c_rules.specs.Names.{Name, number_among, is_among, with_new, may_be_declared, given_names, given_types, is_given_type}
use Rattle.c_rules.specs.Types.{same_type}
use Rattle.c_rules.specs.Scopes.{Env, Meaning, a_static, a_local, a_function, unknown, declared_here, with_name, meaning_or_unknown, inside, layout_of, Before}
use Rattle.c_rules.specs.Declarators.{name_of}
use Rattle.c_rules.specs.Expressions.{type_declared}
use Rattle.c_rules.specs.Variables.{Next, first_numbers, names_of_block}
use Rattle.c_rules.specs.Blocks.{StatementTree, held_by_block}
use Rattle.c_rules.specs.Statements.{items_of_block}

-- ## Declarators of functions

-- what is declared is a function: parameters stand directly behind its name (6.7.5.3, 6.9.1 paragraph 2)
abbrev pub declares_function : Declarator → Bool
declares_function syntax.nothing = false
declares_function (syntax.named at x) = false
declares_function (syntax.pointer at d) = declares_function d
declares_function (syntax.array at d size) = declares_function d
declares_function (syntax.function at (syntax.named here x) ps) = true
declares_function (syntax.function at d ps) = declares_function d

-- those parameters
abbrev pub parameters_of : Declarator → Params
parameters_of syntax.nothing = no_params
parameters_of (syntax.named at x) = no_params
parameters_of (syntax.pointer at d) = parameters_of d
parameters_of (syntax.array at d size) = parameters_of d
parameters_of (syntax.function at (syntax.named here x) ps) = ps
parameters_of (syntax.function at d ps) = parameters_of d

abbrev pub is_named : Option Ident → Bool
is_named None = false
is_named (Some x) = true

-- every parameter of a definition has a name (6.9.1 paragraph 5)
abbrev pub are_named : Params → Bool
are_named no_params = true
are_named (more_params at s d ps) = is_named (name_of d) && are_named ps

abbrev pub count_params : Params → ℕ
count_params no_params = 0
count_params (more_params at s d ps) = suc (count_params ps)

-- behind a parameter of this type, where it has a name
abbrev pub with_parameter : Env → (number : ℕ) → Option Ident → CType → Env
with_parameter env k None t = env
with_parameter env k (Some x) t = with_name env x.name (a_local k t t)

-- the scope of the body: parameters of these types are the first variables (6.2.1 paragraph 4)
abbrev pub with_parameters : Env → (number : ℕ) → Params → CTypes → Env
with_parameters env k no_params ts = env
with_parameters env k (more_params at s d ps) no_types = env
with_parameters env k (more_params at s d ps) (more_types t ts) = with_parameters (with_parameter env k (name_of d) t) (suc k) ps ts

-- ## Names of functions

-- a name of a system call or of a null call is declared with its type, and has no definition
abbrev pub given_as : Env → (defined : Bool) → CType → Option ℕ → Bool
given_as env defined t None = true
given_as env defined t (Some i) = not defined && is_given_type (slice_get (given_types env.whole.mode) i) t

abbrev pub is_as_given : Env → (defined : Bool) → Name → CType → Bool
is_as_given env defined x t = given_as env defined t (number_among (given_names env.whole.mode) x)

-- a function may be declared again with its type, and is defined once (6.7 paragraph 4, 6.9 paragraph 5); a declaration that fails
-- asks nothing of later ones
abbrev pub may_follow_function : (defined : Bool) → CType → Option Meaning → Bool
may_follow_function defined t None = true
may_follow_function defined t (Some (a_function u was)) = same_type t u && not (defined && was)
may_follow_function defined t (Some (unknown f fs)) = true
may_follow_function defined t (Some m) = false

-- a definition stands before, or is this one
abbrev pub is_defined_by : (defined : Bool) → Option Meaning → Bool
is_defined_by defined None = defined
is_defined_by defined (Some (a_function u was)) = defined || was
is_defined_by defined (Some (a_static seen whole was)) = defined || was
is_defined_by defined (Some m) = defined

-- the limit on the number of functions
abbrev pub is_few : Env → Name → Bool
is_few env x = is_among env.functions x || nat_lt (length env.functions) (most_functions env.whole.mode)

-- the meaning of the name of a function of this type, which is defined here or not
abbrev pub function_meaning : Env → (defined : Bool) → Ident → CType → Checked Meaning
function_meaning env defined x t =
    on (and_also (demand (may_be_declared env.whole.mode x.name) C12 x.at met)
    (and_also (demand (is_as_given env defined x.name t) C11 x.at met)
    (and_also (demand (may_follow_function defined t (declared_here env x.name)) C2 x.at met) (demand (is_few env x.name) C13 x.at met))))
    (λ _. fine (a_function t (is_defined_by defined (declared_here env x.name))))

-- behind the declaration of a function
abbrev pub behind_function : Env → Name → Checked Meaning → Env
behind_function env x r = with_name (record env { functions = with_new env.functions x }) x (meaning_or_unknown r)

abbrev pub function_declared : Env → (defined : Bool) → (at : ℕ) → Spec → Declarator → Ident → Checked Meaning
function_declared env defined at s d x = on (type_declared env at s d) (function_meaning env defined x)

-- ## Definitions (6.9.1)

abbrev pub items_of_body : Stmt → BlockItems
items_of_body (block at is) = is
items_of_body s = block_stmt s no_block_items

-- the variables of a function: its parameters, the others, and those of the instrumenter
abbrev pub variables_of : CTypes → StatementTree typed.Stmts → List CType
variables_of ts p = list_of ts ++ (p.plain ++ p.added)

-- the limit on the cells of all variables
abbrev pub function_laid : Env → Ident → CType → CTypes → StatementTree typed.Stmts → Checked Function
function_laid env x t ts p =
    demand (nat_le (cells_of_all (layout_of env) (variables_of ts p)) (most_local_cells env.whole.mode)) C13 x.at
    (record { name = x.name; ctype = function t ts; variables = variables_of ts p; body = typed.block p.tree })

-- the scope of the body of a function with these types of parameters; body and parameters stand in one scope
abbrev pub body_env : Env → Declarator → CTypes → Env
body_env env d ts = with_parameters (inside env) 0 (parameters_of d) ts

-- the next numbers of variables where the body begins
abbrev pub body_numbers : Declarator → BlockItems → Next
body_numbers d is = first_numbers (count_params (parameters_of d)) is

-- the body of a function that returns this
abbrev pub body_of : Env → Before → (returns : CType) → Declarator → CTypes → BlockItems → Checked (StatementTree typed.Stmts)
body_of env b t d ts is =
    items_of_block (body_env env d ts) (record { breaks = false; continues = false; returns = t }) b (body_numbers d is) is

-- the strings in the body of a function of this type
abbrev pub held_by_type : Env → Declarator → BlockItems → CType → List (List ℕ)
held_by_type env d is (function t ts) = held_by_block (body_env env d ts) (body_numbers d is) is
held_by_type env d is t = []

abbrev pub held_by_typed : Env → Declarator → BlockItems → Checked CType → List (List ℕ)
held_by_typed env d is (fine t) = held_by_type env d is t
held_by_typed env d is (faulty f fs) = []

-- the limit on the variables of a function, each of which has a cell; it is counted from the syntax, before its parts are looked at
abbrev pub few_variables : Env → Ident → Declarator → BlockItems → Checked Met
few_variables env x d is =
    demand (nat_le (count_params (parameters_of d) + length (names_of_block is)) (most_local_cells env.whole.mode)) C13 x.at met

-- a definition of a function of this type; its name is known in its body
abbrev pub defined_as : Env → Before → (place : ℕ) → Declarator → Ident → BlockItems → CType → Checked Function
defined_as env b place d x is (function t ts) =
    on (few_variables env x d is) (λ _. parts_first (body_of env b t d ts is) (both (demand (are_named (parameters_of d)) C3 place met) (body_of env b t d ts is) (λ _ p. function_laid env x t ts p)))
defined_as env b place d x is t = fault C3 place
