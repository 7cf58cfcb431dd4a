-- Specifiers and declarators (6.7.2, 6.7.5): the rules on what types are made of, and on declared names.
use Rattle.std.specs.Prelude.{ℕ, ℤ, pos, negsuc, Bool, true, false, not, ◌&&◌, Option, Some, None, is_none, nat_le, nat_lt}
use Rattle.c_tree.specs.declared.value.IntType.TheVariants.{Char, Uchar, Int, Uint}
use Rattle.c_tree.specs.declared.value.Value.{Value}
use Rattle.c_tree.specs.Tree.{CType, void, integer, pointer, array, struct, function, CTypes}
use Rattle.c_syntax.specs.Tree.{Ident, Spec, Declarator, Params, TypeName, type_name}
use Rattle.c_syntax.specs.Tree as syntax
use Rattle.c_rules.specs.Constants.{number_of}
use Rattle.c_rules.specs.Checked.{Checked, fine, fault, demand, on, both, and_also, Met, met}
use Rattle.c_rules.specs.Codes.{C1, C2, C3, C6, C11, C12, C13}
use Rattle.c_rules.specs.Limits.{most_parameters}
use Rattle.c_rules.specs.Names.{is_among, may_be_declared, given_names}
use Rattle.c_rules.specs.Types.{is_scalar, is_result, count, adjusted}
use Rattle.c_rules.specs.Scopes.{Env, Meaning, a_local, declared_here, with_name, meaning_or_unknown, tag_number}
use Rattle.c_rules.specs.TypedExpression.{TypedExpression, Constant, not_constant, undefined, known, integer_constant}
use Rattle.c_rules.specs.Conversions.{few_parts, complete}

-- ## Names of declarators

-- the name that is declared, none in the name of a type
abbrev pub name_of : Declarator → Option Ident
name_of syntax.nothing = None
name_of (syntax.named at x) = Some x
name_of (syntax.pointer at d) = name_of d
name_of (syntax.array at d size) = name_of d
name_of (syntax.function at d ps) = name_of d

-- the place of a declarator, or another one where there is none
abbrev pub place_or : (at : ℕ) → Declarator → ℕ
place_or at syntax.nothing = at
place_or at (syntax.named here x) = here
place_or at (syntax.pointer here d) = here
place_or at (syntax.array here d size) = here
place_or at (syntax.function here d ps) = here

abbrev pub place_of_type : TypeName → ℕ
place_of_type (type_name at s d) = at

-- `void *` with no name
abbrev pub is_void_spec : Spec → Bool
is_void_spec syntax.void = true
is_void_spec s = false

abbrev pub is_bare_pointer : Declarator → Bool
is_bare_pointer (syntax.pointer at syntax.nothing) = true
is_bare_pointer d = false

abbrev pub is_void_pointer : TypeName → Bool
is_void_pointer (type_name at s d) = is_void_spec s && is_bare_pointer d

-- ## Specifiers (6.7.2)

-- A tag that is mentioned names a struct or an enum throughout (6.7.2.3 paragraph 1). An enumerated type is int, and its tag is
-- declared before.
abbrev pub type_of_spec : Env → (at : ℕ) → Spec → Checked CType
type_of_spec env at syntax.void = fine void
type_of_spec env at syntax.char = fine (integer Char)
type_of_spec env at syntax.unsigned_char = fine (integer Uchar)
type_of_spec env at syntax.int = fine (integer Int)
type_of_spec env at syntax.unsigned_int = fine (integer Uint)
type_of_spec env at (syntax.struct x) = demand (not (is_among env.enums x.name)) C2 x.at (struct (tag_number env x.name))
type_of_spec env at (syntax.enum x) = demand (is_among env.enums x.name) C1 at (integer Int)

-- ## Derived types (6.7.5)

abbrev pub within_parts : (at : ℕ) → CType → Checked CType
within_parts at t = demand (few_parts t) C13 at t

-- a pointer to a type (6.7.5.1), which in this profile is neither void nor an array
abbrev pub pointer_to : (at : ℕ) → CType → Checked CType
pointer_to at void = fault C3 at
pointer_to at (array t n) = fault C3 at
pointer_to at t = within_parts at (pointer t)

-- an array of a type (6.7.5.2 paragraph 1), which in this profile is no array
abbrev pub array_of : Env → (at : ℕ) → CType → (size : ℕ) → Checked CType
array_of env at (array t n) size = fault C3 at
array_of env at t size = on (complete env at t) (λ _. within_parts at (array t size))

-- a function that returns a type (6.7.5.3 paragraph 1), which in this profile is no struct
abbrev pub function_of : (at : ℕ) → CType → CTypes → Checked CType
function_of at t ts =
    on (demand (is_result t) C3 at met) (λ _. on (demand (nat_le (count ts) most_parameters) C13 at met) (λ _. within_parts at (function t ts)))

-- a parameter (6.7.5.3 paragraphs 7 and 8), which in this profile is a scalar
abbrev pub parameter_of : (at : ℕ) → CType → Checked CType
parameter_of at t = on (demand (is_scalar (adjusted t)) C3 at met) (λ _. within_parts at (adjusted t))

-- ## Constants that a declarator wants (6.6)

abbrev pub defined_value : (place : ℕ) → Constant → Checked Value
defined_value place not_constant = fault C6 place
defined_value place undefined = fault C6 place
defined_value place (known v) = fine v

-- the value of a constant integer expression
abbrev pub constant_value : (place : ℕ) → TypedExpression → Checked Value
constant_value place g = defined_value place (integer_constant g)

abbrev pub positive : (place : ℕ) → ℤ → Checked ℕ
positive place (pos n) = demand (nat_lt 0 n) C6 place n
positive place (negsuc n) = fault C6 place

-- an array size is greater than zero (6.7.5.2 paragraph 1)
abbrev pub array_size : (place : ℕ) → TypedExpression → Checked ℕ
array_size place g = on (constant_value place g) (λ v. positive place (number_of v))

-- ## Declared names

-- a name that may be declared, and that isn't a system call's or a null call's
abbrev pub free_name : Env → Ident → Checked Met
free_name env x =
    and_also (demand (may_be_declared env.whole.mode x.name) C12 x.at met) (demand (not (is_among (given_names env.whole.mode) x.name)) C11 x.at met)

-- a name that is declared once in its scope (6.7 paragraph 3)
abbrev pub new_name : Env → Ident → Checked Met
new_name env x = and_also (free_name env x) (demand (is_none (declared_here env x.name)) C2 x.at met)

-- the meaning of a variable with this number, by its name and its type
abbrev pub variable_meaning : Env → (number : ℕ) → Ident → Checked CType → Checked Meaning
variable_meaning env k x r = both r (new_name env x) (λ t _. fine (a_local k t t))

-- a parameter's type with the demands on its name, where it has one
abbrev pub with_name_demands : Env → Option Ident → Checked CType → Checked CType
with_name_demands env None r = r
with_name_demands env (Some x) r = both r (new_name env x) (λ t _. fine t)

-- the scope behind a parameter (6.2.1 paragraphs 4 and 7)
abbrev pub behind_parameter : Env → (number : ℕ) → Option Ident → Checked CType → Env
behind_parameter env k None r = env
behind_parameter env k (Some x) r = with_name env x.name (meaning_or_unknown (variable_meaning env k x r))
