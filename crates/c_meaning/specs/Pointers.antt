-- Steps on values: places, pointers, tests (C99 6.3.2, 6.5.2, 6.5.3, 6.5.6, 6.5.8, 6.5.9).
use Rattle.std.specs.Prelude.{ℕ, zero, suc, ◌+◌, ◌*◌, nat_lt, nat_eq, nat_le, if◌then◌else◌, Bool, true, false, not, ℤ, pos, negsuc, ◌+ℤ◌, ◌-ℤ◌, neg_ℤ}
use Rattle.c_tree.specs.declared.value.ObjectName.{ObjectName}
use Rattle.c_tree.specs.declared.value.Pointer.{Pointer}
use Rattle.c_tree.specs.declared.value.Value.{Value}
use Rattle.c_tree.specs.declared.value.Value.TheVariants.{Indeterminate, Int, Uint, Char, Uchar, Null, Func, At}
use Rattle.c_tree.specs.declared.value.BinOp.{BinOp}
use Rattle.c_tree.specs.declared.value.BinOp.TheVariants.{Mul, Div, Rem, Add, Sub, ShiftLeft, ShiftRight, BitAnd, BitXor, BitOr, Less, Greater, LessEqual, GreaterEqual, Equal, NotEqual}
use Rattle.c_values.specs.Answers.{Answer, gives, undefined, and_then, U5, U7, U9, U13}
use Rattle.c_values.specs.Memory.{Objects, same_name, object, element, load, store}

-- a pointer to an object, which is not null
abbrev pub pointer : Value → Answer Pointer
pointer (At q) = gives q
pointer Null = undefined U5
pointer Indeterminate = undefined U13
pointer (Int n) = undefined U13
pointer (Uint n) = undefined U13
pointer (Char n) = undefined U13
pointer (Uchar n) = undefined U13
pointer (Func f) = undefined U13

-- a function, which is not null (6.5.2.2)
abbrev pub callee : Value → Answer ℕ
callee (Func f) = gives f
callee Null = undefined U5
callee Indeterminate = undefined U13
callee (Int n) = undefined U13
callee (Uint n) = undefined U13
callee (Char n) = undefined U13
callee (Uchar n) = undefined U13
callee (At q) = undefined U13

-- the number that an integer is
abbrev pub number : Value → Answer ℤ
number (Int n) = gives n
number (Uint n) = gives (pos n)
number (Char n) = gives n
number (Uchar n) = gives (pos n)
number Indeterminate = undefined U13
number Null = undefined U13
number (Func f) = undefined U13
number (At q) = undefined U13

-- 1 or 0 as an int (6.5.8 paragraph 6)
abbrev pub truth_value : Bool → Value
truth_value true = Int (pos 1)
truth_value false = Int (pos 0)

-- A place is a pointer to the one element of an array of one.

-- a place of so many cells from a cell of an object on
abbrev pub place : ObjectName → ℕ → ℕ → Value
place x first width = At (record { name = x; first = first; width = width; elements = 1; index = 0 })

-- what a pointer to an object points to (6.5.3.2 paragraph 4): null comes before ended, and that before one past the end
abbrev pub behind : Objects → Value → Answer Value
behind m v =
    and_then (pointer v) (λ q. and_then (object m q.name) (λ o. and_then (element q) (λ first. gives (place q.name first q.width))))

-- what a pointer to a function points to
abbrev pub function_behind : Value → Answer Value
function_behind v = and_then (callee v) (λ f. gives (Func f))

-- the value of a place of one cell (6.3.2.1 paragraph 2)
abbrev pub load_place : Objects → Value → Answer Value
load_place m v = and_then (pointer v) (λ q. load m q 0)

-- a place of one cell has the value from now on (6.5.16.1)
abbrev pub store_place : Objects → Value → Value → Answer Objects
store_place m p v = and_then (pointer p) (λ q. store m q 0 v)

-- the member that begins so many cells after a struct (6.5.2.3)
abbrev pub member : ℕ → ℕ → Value → Answer Value
member first width v = and_then (pointer v) (λ q. gives (place q.name (q.first + first) width))

-- the pointer to the first of so many elements of an array (6.3.2.1 paragraph 3)
abbrev pub to_first : ℕ → ℕ → Value → Answer Value
to_first width elements v =
    and_then (pointer v) (λ q. gives (At (record { name = q.name; first = q.first; width = width; elements = elements; index = 0 })))

-- the element with this index, or one past the last
abbrev pub at_index : Pointer → ℤ → Answer Value
at_index q (pos i) =
    if nat_le i q.elements
    then gives (At (record { name = q.name; first = q.first; width = q.width; elements = q.elements; index = i }))
    else undefined U7
at_index q (negsuc i) = undefined U7

-- so many elements on, or back (6.5.6 paragraph 8)
abbrev pub offset : Bool → ℤ → ℤ
offset true n = neg_ℤ n
offset false n = n

abbrev pub moved : Objects → Bool → Value → Value → Answer Value
moved m subtracted v n =
    and_then (pointer v) (λ q. and_then (object m q.name) (λ o. and_then (number n) (λ n. at_index q (pos q.index +ℤ offset subtracted n))))

-- whether both point into one array
abbrev pub same_array : Pointer → Pointer → Bool
same_array a b =
    if same_name a.name b.name
    then (if nat_eq a.first b.first then (if nat_eq a.width b.width then nat_eq a.elements b.elements else false) else false)
    else false

-- two pointers into one array whose object is there (6.5.6 paragraph 9, 6.5.8 paragraph 5)
abbrev pub in_one_array : {A : Type 0} → Objects → Value → Value → (Pointer → Pointer → Answer A) → Answer A
in_one_array m v w f =
    and_then (pointer v) (λ a. and_then (pointer w) (λ b.
    and_then (object m a.name) (λ o. and_then (object m b.name) (λ o. if same_array a b then f a b else undefined U9))))

-- how many elements the second is before the first (6.5.6 paragraph 9)
abbrev pub difference : Objects → Value → Value → Answer Value
difference m v w = in_one_array m v w (λ a b. gives (Int (pos a.index -ℤ pos b.index)))

-- the pointer is null, or to a function, or its object is there
abbrev pub alive : Objects → Value → Answer Value
alive m (At q) = and_then (object m q.name) (λ o. gives (At q))
alive m v = gives v

-- whether both stand at one cell of one object (6.5.9 paragraph 6)
abbrev pub same_cell : Pointer → Pointer → Bool
same_cell a b = if same_name a.name b.name then nat_eq (a.first + a.index * a.width) (b.first + b.index * b.width) else false

abbrev pub equal_to_at : Pointer → Value → Answer Bool
equal_to_at a (At b) = gives (same_cell a b)
equal_to_at a Null = gives false
equal_to_at a w = undefined U13

abbrev pub equal_to_function : ℕ → Value → Answer Bool
equal_to_function f (Func g) = gives (nat_eq f g)
equal_to_function f Null = gives false
equal_to_function f w = undefined U13

abbrev pub equal_to_null : Value → Answer Bool
equal_to_null Null = gives true
equal_to_null (At b) = gives false
equal_to_null (Func g) = gives false
equal_to_null w = undefined U13

-- whether two pointers are equal (6.5.9 paragraph 6)
abbrev pub equal_pointers : Value → Value → Answer Bool
equal_pointers (At a) w = equal_to_at a w
equal_pointers (Func f) w = equal_to_function f w
equal_pointers Null w = equal_to_null w
equal_pointers v w = undefined U13

abbrev pub equality : Objects → Value → Value → Answer Bool
equality m v w = and_then (alive m v) (λ v. and_then (alive m w) (λ w. equal_pointers v w))

-- a comparison of two pointers (6.5.8 paragraph 5, 6.5.9)
abbrev pub compared : Objects → BinOp → Value → Value → Answer Value
compared m Less v w = in_one_array m v w (λ a b. gives (truth_value (nat_lt a.index b.index)))
compared m Greater v w = in_one_array m v w (λ a b. gives (truth_value (nat_lt b.index a.index)))
compared m LessEqual v w = in_one_array m v w (λ a b. gives (truth_value (nat_le a.index b.index)))
compared m GreaterEqual v w = in_one_array m v w (λ a b. gives (truth_value (nat_le b.index a.index)))
compared m Equal v w = and_then (equality m v w) (λ same. gives (truth_value same))
compared m NotEqual v w = and_then (equality m v w) (λ same. gives (truth_value (not same)))
compared m Mul v w = undefined U13
compared m Div v w = undefined U13
compared m Rem v w = undefined U13
compared m Add v w = undefined U13
compared m Sub v w = undefined U13
compared m ShiftLeft v w = undefined U13
compared m ShiftRight v w = undefined U13
compared m BitAnd v w = undefined U13
compared m BitXor v w = undefined U13
compared m BitOr v w = undefined U13

-- whether a whole number is not 0
abbrev pub is_not_zero : ℤ → Bool
is_not_zero (pos zero) = false
is_not_zero (pos (suc n)) = true
is_not_zero (negsuc n) = true

-- whether a scalar compares unequal to 0 (6.5.3.3 paragraph 5, 6.8.4.1 paragraph 2)
abbrev pub test : Objects → Value → Answer Bool
test m (Int n) = gives (is_not_zero n)
test m (Uint n) = gives (is_not_zero (pos n))
test m (Char n) = gives (is_not_zero n)
test m (Uchar n) = gives (is_not_zero (pos n))
test m Null = gives false
test m (Func f) = gives true
test m (At q) = and_then (object m q.name) (λ o. gives true)
test m Indeterminate = undefined U13
