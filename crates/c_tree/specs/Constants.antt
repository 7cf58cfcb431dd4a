-- Constant arguments, and the pattern of a direct system call.
use Rattle.std.specs.Prelude.{ℕ, zero, suc, ℤ, pos, List, [], ◌∷◌, Option, Some, None}
use Rattle.sys_table.specs.declared.kinds.ArgKind.{ArgKind}
use Rattle.sys_table.specs.declared.kinds.ArgKind.TheVariants.{Signed, Unsigned, Bytes}
use Rattle.sys_table.specs.Table.{recorded_of}
use Rattle.c_tree.specs.declared.value.IntType.{IntType}
use Rattle.c_tree.specs.declared.value.IntType.TheVariants.{Int, Uint}
use Rattle.c_tree.specs.declared.value.Value.{Value}
use Rattle.c_tree.specs.declared.value.Value.TheVariants as v
use Rattle.c_tree.specs.Tree.{Expr, constant, conversion, unary_operation, arithmetic, Exprs, no_exprs, more_exprs}
use Rattle.c_tree.specs.Operators.{Answer, gives, undefined, convert, unary, binary}

-- what an answer gives
abbrev pub given : {A : Type 0} → Answer A → Option A
given (gives a) = Some a
given (undefined kind) = None

abbrev pub given_of : Option Value → (Value → Answer Value) → Option Value
given_of None f = None
given_of (Some x) f = given (f x)

abbrev pub given_of_two : Option Value → Option Value → (Value → Value → Answer Value) → Option Value
given_of_two None y f = None
given_of_two (Some x) None f = None
given_of_two (Some x) (Some y) f = given (f x y)

-- the value of a constant expression: a constant, or a conversion, a unary operator or arithmetic on such where its value is defined
abbrev pub constant_value : Expr → Option Value
constant_value (constant t x) = Some x
constant_value (conversion t to a) = given_of (constant_value a) (convert to)
constant_value (unary_operation t op a) = given_of (constant_value a) (unary op)
constant_value (arithmetic t op a b) = given_of_two (constant_value a) (constant_value b) (binary op)
constant_value _ = None

-- the number of an int or an unsigned int
abbrev pub number_in : Option Value → Option ℤ
number_in None = None
number_in (Some (v.Int z)) = Some z
number_in (Some (v.Uint n)) = Some (pos n)
number_in (Some _) = None

-- the number that a constant argument has in the parameter's type
abbrev pub number_as : IntType → Expr → Option ℤ
number_as t e = number_in (given_of (constant_value e) (convert t))

-- the entry of a recorded argument: the number of a constant integer
abbrev pub entry : ArgKind → Expr → Option ℤ
entry Signed e = number_as Int e
entry Unsigned e = number_as Uint e
entry Bytes e = None

-- the arguments of which a trace records something: the second of read, number 0, is not recorded
abbrev pub recorded_arguments : ℕ → Exprs → Exprs
recorded_arguments zero (more_exprs descriptor (more_exprs buffer es)) = more_exprs descriptor es
recorded_arguments zero (more_exprs descriptor no_exprs) = more_exprs descriptor no_exprs
recorded_arguments zero no_exprs = no_exprs
recorded_arguments (suc name) es = es

-- an entry for each kind
abbrev pub entries : List ArgKind → Exprs → List (Option ℤ)
entries [] es = []
entries (kind ∷ kinds) no_exprs = None ∷ entries kinds no_exprs
entries (kind ∷ kinds) (more_exprs e es) = entry kind e ∷ entries kinds es

-- the pattern of a direct call of the system call with this number with these arguments
abbrev pub pattern_of : ℕ → Exprs → List (Option ℤ)
pattern_of name es = entries (recorded_of name) (recorded_arguments name es)
