-- Names, constants and strings (6.5.1, 6.4.4, 6.4.5).
use Rattle.std.specs.Prelude.{ℕ, suc, ◌+◌, ◌^◌, ℤ, pos, Bool, true, false, List, length, if◌then◌else◌, Option, Some, None, nat_le, nat_lt}
use Rattle.c_tree.specs.declared.value.IntType.TheVariants.{Char}
use Rattle.c_tree.specs.declared.value.Value.TheVariants.{Int, Uint, Func}
use Rattle.c_tree.specs.Tree.{CType, integer, array, constant, function_name, string_place, variable}
use Rattle.c_tree.specs.Layout.{cells}
use Rattle.c_tree.specs.Functions.{int, unsigned_int}
use Rattle.c_rules.specs.Checked.{Checked, fine, faulty, fault, demand, gives, Met, met, and_also, on}
use Rattle.c_rules.specs.Codes.{C1, C10, C12, C13}
use Rattle.c_rules.specs.Limits.{most_cells, most_static_cells}
use Rattle.c_rules.specs.Names.{Name, number_among, is_among, null_calls, given_names}
use Rattle.c_rules.specs.Scopes.{Env, Binding, Meaning, a_static, a_local, a_function, an_enumerator, unknown, Context, evaluated, sized, folded, Before, layout_of, binding_of}
use Rattle.c_rules.specs.TypedExpression.{TypedExpression, a_place, not_constant, known, typed_value}
use Rattle.c_rules.specs.Constants.{address_of_static, static_address}

-- What is used is defined (6.9 paragraph 5). An operand that isn't evaluated is no use, and has a number that nobody reads.
abbrev pub used : Context → (at : ℕ) → Option ℕ → Checked ℕ
used c at (Some n) = fine n
used evaluated at None = fault C10 at
used sized at None = fine 0
used folded at None = fine 0

-- static objects are numbered in the order of their definitions
abbrev pub object_number : Env → Name → Option ℕ
object_number env x = number_among env.whole.objects x

abbrev pub given_number : Env → Option ℕ → Option ℕ
given_number env None = None
given_number env (Some i) = Some (length env.whole.functions + i)

abbrev pub number_or : Option ℕ → Option ℕ → Option ℕ
number_or (Some n) other = Some n
number_or None other = other

-- functions are numbered in the order of their definitions; after them stand the system calls and the two null calls
abbrev pub function_number : Env → Name → Option ℕ
function_number env x = number_or (number_among env.whole.functions x) (given_number env (number_among (given_names env.whole.mode) x))

-- a function whose name isn't the designator of a call: it is no null call
abbrev pub function_value_number : Env → (at : ℕ) → Name → Checked ℕ
function_value_number env at x =
    on (demand (if is_among null_calls x then false else true) C12 at met) (λ _. used env.context at (function_number env x))

abbrev pub static_given : Env → (seen whole : CType) → ℕ → TypedExpression
static_given env seen whole n =
    record { ctype = seen; form = a_place (variable whole true n); constant = static_address n (cells (layout_of env) whole) }

abbrev pub local_given : (seen whole : CType) → ℕ → TypedExpression
local_given seen whole n = record { ctype = seen; form = a_place (variable whole false n); constant = not_constant }

abbrev pub typed_function : CType → ℕ → TypedExpression
typed_function t f = record { ctype = t; form = a_place (function_name t f); constant = known (Func f) }

abbrev pub typed_int : ℤ → TypedExpression
typed_int z = typed_value int (constant int (Int z)) (known (Int z))

-- a number of the type of sizeof (6.5.3.4 paragraph 4)
abbrev pub typed_unsigned : ℕ → TypedExpression
typed_unsigned n = typed_value unsigned_int (constant unsigned_int (Uint n)) (known (Uint n))

-- a name by its meaning (6.5.1 paragraph 2); an enumerator is an int (6.4.4.3)
abbrev pub meant : Env → (at : ℕ) → Name → Meaning → Checked TypedExpression
meant env at x (a_static seen whole d) = gives (used env.context at (object_number env x)) (static_given env seen whole)
meant env at x (a_local n seen whole) = fine (local_given seen whole n)
meant env at x (a_function t d) = gives (function_value_number env at x) (typed_function t)
meant env at x (an_enumerator z) = fine (typed_int z)
meant env at x (unknown f fs) = faulty f fs

abbrev pub bound : Env → (at : ℕ) → Name → Option Binding → Checked TypedExpression
bound env at x None = fault C1 at
bound env at x (Some b) = meant env at x b.means

-- a name
abbrev pub named_expression : Env → (at : ℕ) → Name → Checked TypedExpression
named_expression env at x = bound env at x (binding_of env x)

-- an integer constant, which is unsigned where no int has its value (6.4.4.1 paragraph 5)
abbrev pub integer_expression : ℕ → Bool → TypedExpression
integer_expression n true = typed_unsigned n
integer_expression n false = if nat_lt n (2 ^ 31) then typed_int (pos n) else typed_unsigned n

-- the type of a string of so many bytes (6.4.5 paragraph 5)
abbrev pub string_type : ℕ → CType
string_type n = array (integer Char) (suc n)

-- the limit on a string, wherever it stands
abbrev pub few_cells : (at cells : ℕ) → Checked Met
few_cells at cells = demand (nat_le cells most_cells) C13 at met

-- The limit on the cells of all static objects and strings that the program holds. The strings in an operand that isn't evaluated are none of
-- these; they are numbered among themselves, and no text within the limit on its length has so many.
abbrev pub most_cells_in : Context → ℕ
most_cells_in evaluated = most_static_cells
most_cells_in sized = 2 ^ 31
most_cells_in folded = 2 ^ 31

-- the limits on a string
abbrev pub string_fits : Context → (at before cells : ℕ) → Checked Met
string_fits c at before cells = and_also (few_cells at cells) (demand (nat_le (before + cells) (most_cells_in c)) C13 at met)

-- strings are numbered after the static objects, in the order of the text
abbrev pub string_number : Env → Before → ℕ
string_number env before = length env.whole.objects + length before.strings

-- a string of so many bytes; it designates a static array (6.4.5 paragraph 5)
abbrev pub typed_string : (number bytes : ℕ) → TypedExpression
typed_string n bytes = record {
  ctype = string_type bytes;
  form = a_place (string_place (string_type bytes) n);
  constant = known (address_of_static n (suc bytes));
}

abbrev pub string_expression : Env → Before → (at : ℕ) → List ℕ → Checked TypedExpression
string_expression env before at w =
    gives (string_fits env.context at before.cells (suc (length w))) (λ _. typed_string (string_number env before) (length w))
