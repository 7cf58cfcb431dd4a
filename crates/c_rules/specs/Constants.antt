-- Constants (6.6): what operators give of constant operands. An operand that isn't evaluated needn't be defined.
use Rattle.std.specs.Prelude.{ℕ, ◌+◌, ◌-◌, ◌*◌, ◌/◌, ℤ, pos, negsuc, suc, Bool, true, false, not, ◌&&◌, if◌then◌else◌, nat_le, nat_lt}
use Rattle.c_tree.specs.declared.value.IntType.{IntType}
use Rattle.c_tree.specs.declared.value.UnOp.{UnOp}
use Rattle.c_tree.specs.declared.value.BinOp.{BinOp}
use Rattle.c_tree.specs.declared.value.Pointer.{Pointer}
use Rattle.c_tree.specs.declared.value.Value.{Value}
use Rattle.c_tree.specs.declared.value.Value.TheVariants.{Indeterminate, Int, Uint, Char, Uchar, Null, Func, At}
use Rattle.c_tree.specs.Operators.{Answer, convert, unary, binary, truth}
use Rattle.c_tree.specs.Operators as operators
use Rattle.c_rules.specs.Limits.{most_cells}
use Rattle.c_rules.specs.TypedExpression.{Constant, not_constant, undefined, known, is_zero}

-- the number that an integer is
abbrev pub number_of : Value → ℤ
number_of Indeterminate = pos 0
number_of (Int z) = z
number_of (Uint n) = pos n
number_of (Char z) = z
number_of (Uchar n) = pos n
number_of Null = pos 0
number_of (Func f) = pos 0
number_of (At q) = pos 0

-- an operator gives a value, or is undefined for these operands
abbrev pub answered : Answer Value → Constant
answered (operators.gives v) = known v
answered (operators.undefined kind) = undefined

abbrev pub constant_converted : IntType → Constant → Constant
constant_converted i not_constant = not_constant
constant_converted i undefined = undefined
constant_converted i (known v) = answered (convert i v)

abbrev pub constant_unary : UnOp → Constant → Constant
constant_unary op not_constant = not_constant
constant_unary op undefined = undefined
constant_unary op (known v) = answered (unary op v)

abbrev pub constant_binary : BinOp → Constant → Constant → Constant
constant_binary op not_constant b = not_constant
constant_binary op a not_constant = not_constant
constant_binary op undefined b = undefined
constant_binary op a undefined = undefined
constant_binary op (known v) (known w) = answered (binary op v w)

-- 1 where the value isn't zero, else 0
abbrev pub constant_truth : Constant → Constant
constant_truth not_constant = not_constant
constant_truth undefined = undefined
constant_truth (known v) = answered (truth (not (is_zero v)))

-- the second operand of && decides where the first is not zero (6.5.13)
abbrev pub constant_and : Constant → Constant → Constant
constant_and not_constant b = not_constant
constant_and a not_constant = not_constant
constant_and undefined b = undefined
constant_and (known v) b = if is_zero v then answered (truth false) else constant_truth b

-- the second operand of || decides where the first is zero (6.5.14)
abbrev pub constant_or : Constant → Constant → Constant
constant_or not_constant b = not_constant
constant_or a not_constant = not_constant
constant_or undefined b = undefined
constant_or (known v) b = if is_zero v then constant_truth b else answered (truth true)

-- one arm of ?: is evaluated (6.5.15)
abbrev pub constant_conditional : Constant → Constant → Constant → Constant
constant_conditional not_constant a b = not_constant
constant_conditional c not_constant b = not_constant
constant_conditional c a not_constant = not_constant
constant_conditional undefined a b = undefined
constant_conditional (known v) a b = if is_zero v then b else a

-- ## Addresses (6.6 paragraph 9)

-- the address of a static object, which is an array of one
abbrev pub address_of_static : (number cells : ℕ) → Value
address_of_static n cells = At (record {
  name = record { activation = 0; variable = n };
  first = 0;
  width = cells;
  elements = 1;
  index = 0;
})

-- the same, where an object may have so many cells
abbrev pub static_address : (number cells : ℕ) → Constant
static_address n cells = if nat_le cells most_cells then known (address_of_static n cells) else undefined

-- an object may have so many elements of so many cells from a cell on
abbrev pub is_within : (first width elements : ℕ) → Bool
is_within first width elements = nat_le width most_cells && nat_le (first + elements * width) most_cells

-- A part of what an address leads to: from this cell of it on, so many elements of so many cells. There is none one past the end, nor past
-- the cells that an object may have.
abbrev pub part_of : Pointer → (from width elements : ℕ) → Constant
part_of q from width elements =
    if nat_lt q.index q.elements && is_within ((q.first + q.index * q.width) + from) width elements
    then known (At (record {
      name = q.name;
      first = (q.first + q.index * q.width) + from;
      width = width;
      elements = elements;
      index = 0;
    }))
    else undefined

-- a member that begins at this cell of the struct
abbrev pub constant_member : (from cells : ℕ) → Constant → Constant
constant_member from cells (known (At q)) = part_of q from cells 1
constant_member from cells (known v) = undefined
constant_member from cells undefined = undefined
constant_member from cells not_constant = not_constant

-- an array as a pointer to the first of its elements, which have so many cells
abbrev pub constant_decayed : (cells : ℕ) → Constant → Constant
constant_decayed cells (known (At q)) = part_of q 0 cells (q.width / cells)
constant_decayed cells (known v) = undefined
constant_decayed cells undefined = undefined
constant_decayed cells not_constant = not_constant

-- a pointer within its array, or one past the end (6.5.6 paragraph 8)
abbrev pub moved_to : Pointer → ℕ → Constant
moved_to q k = if nat_le k q.elements then known (At (record q { index = k })) else undefined

abbrev pub moved_back : Pointer → ℕ → Constant
moved_back q k = if nat_le k q.index then known (At (record q { index = q.index - k })) else undefined

abbrev pub moved : Pointer → ℤ → Constant
moved q (pos k) = moved_to q (q.index + k)
moved q (negsuc k) = moved_back q (suc k)

abbrev pub constant_moved : Constant → (ℤ → ℤ) → Constant → Constant
constant_moved not_constant sign k = not_constant
constant_moved p sign not_constant = not_constant
constant_moved (known (At q)) sign (known v) = moved q (sign (number_of v))
constant_moved p sign k = undefined
