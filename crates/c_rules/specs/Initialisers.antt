-- Initialisers (6.7.8): what each cell of an object begins with.
use Rattle.std.specs.Prelude.{ℕ, zero, suc, ◌+◌, ◌-◌, Bool, true, false, ◌&&◌, List, [], ◌∷◌, ◌++◌, map, length, replicate, if◌then◌else◌, Option, Some, None, is_some, nat_le, pos}
use Rattle.c_tree.specs.declared.value.IntType.TheVariants.{Char}
use Rattle.c_tree.specs.declared.value.Value.{Value}
use Rattle.c_tree.specs.declared.value.Value.TheVariants.{Null}
use Rattle.c_tree.specs.Tree.{CType, void, integer, pointer, array, struct, function, Inits, constant}
use Rattle.c_tree.specs.Tree as typed
use Rattle.c_tree.specs.Layout.{Structs, flat, flat_all, repeat}
use Rattle.c_syntax.specs.Tree.{Expr, a_str, Init, one, list, MaybeInit, no_init, an_init}
use Rattle.c_syntax.specs.Tree as syntax
use Rattle.c_tree.specs.Operators.{value_of}
use Rattle.c_rules.specs.Checked.{Checked, fine, fault, demand, on, both, Met, met}
use Rattle.c_rules.specs.Codes.{C6, C14}
use Rattle.c_rules.specs.Scopes.{Env, Struct, incomplete, unknown_struct, defined_struct, struct_of, layout_of, type_of_member, Before}
use Rattle.c_rules.specs.Counts.{calls, strings, past}
use Rattle.c_rules.specs.TypedExpression.{TypedExpression, Constant, not_constant, undefined, known, typed_value, tree_of}
use Rattle.c_rules.specs.Conversions.{as_if_assigned, null_of}
use Rattle.c_rules.specs.PrimaryExpressions.{few_cells}
use Rattle.c_rules.specs.Expressions.{value}

-- ## What takes an initialiser

-- the elements of an array or the members of a struct that are left
pub data Slots : Type 0 where
  copies : ℕ → CType → Slots
  each : List CType → Slots

abbrev pub members_of_struct : Struct → Slots
members_of_struct incomplete = each []
members_of_struct (unknown_struct f fs) = each []
members_of_struct (defined_struct ms) = each (map type_of_member ms)

-- the elements or members of a type
abbrev pub slots : Env → CType → Slots
slots env (array t n) = copies n t
slots env (struct s) = members_of_struct (struct_of env s)
slots env t = each []

-- how many there are
abbrev pub capacity : Slots → ℕ
capacity (copies n t) = n
capacity (each ts) = length ts

-- arrays and structs take a list in braces, and no other type does (paragraphs 11 and 16)
abbrev pub takes_list : CType → Bool
takes_list (array t n) = true
takes_list (struct s) = true
takes_list t = false

abbrev pub count_inits : syntax.Inits → ℕ
count_inits syntax.no_inits = 0
count_inits (syntax.more_inits i is) = suc (count_inits is)

-- the bytes of a string
abbrev pub text_of : Expr → Option (List ℕ)
text_of (a_str at w) = Some w
text_of e = None

-- the limit on a string, which holds where it initialises an array too
abbrev pub text_fits : (at : ℕ) → Option (List ℕ) → Checked Met
text_fits at None = fine met
text_fits at (Some w) = few_cells at (suc (length w))

-- ## Cells

-- the constant of a type
abbrev pub constant_given : CType → Value → TypedExpression
constant_given t v = typed_value t (constant t v) (known v)

-- zero of an integer type, or the null pointer (paragraph 10)
abbrev pub typed_zero : CType → TypedExpression
typed_zero (integer i) = constant_given (integer i) (value_of i (pos 0))
typed_zero t = null_of t

-- a byte of a string as a char
abbrev pub typed_char : ℕ → TypedExpression
typed_char b = constant_given (integer Char) (value_of Char (pos b))

-- the cells of elements or members without an initialiser (paragraph 21)
abbrev pub zeros : Structs → Slots → List TypedExpression
zeros structs (copies n t) = map typed_zero (repeat n (flat structs t))
zeros structs (each ts) = map typed_zero (flat_all structs ts)

-- a string in an array of so many chars; its zero is left out where there is no room (paragraph 14)
abbrev pub chars : ℕ → List ℕ → List TypedExpression
chars n w = map typed_char w ++ replicate (n - length w) (typed_char 0)

-- ## The rules

-- an initialiser of a static object is constant and defined (paragraph 4, 6.6 paragraphs 7 to 9)
abbrev pub defined_cell : (at : ℕ) → TypedExpression → Constant → Checked (List TypedExpression)
defined_cell at g not_constant = fault C6 at
defined_cell at g undefined = fault C6 at
defined_cell at g (known v) = fine (g ∷ [])

abbrev pub cell_of : (is_static : Bool) → (at : ℕ) → TypedExpression → Checked (List TypedExpression)
cell_of true at g = defined_cell at g g.constant
cell_of false at g = fine (g ∷ [])

-- a scalar takes one expression, as if by assignment (paragraph 11)
abbrev pub scalar_cell : (is_static : Bool) → (at : ℕ) → CType → Checked TypedExpression → Checked (List TypedExpression)
scalar_cell k at t r = on (on r (as_if_assigned at t)) (cell_of k at)

-- an array of char takes a string (paragraph 14)
abbrev pub array_cells : (at : ℕ) → CType → ℕ → Option (List ℕ) → Checked (List TypedExpression)
array_cells at (integer Char) n (Some w) = demand (nat_le (length w) n) C14 at (chars n w)
array_cells at t n text = fault C14 at

-- one expression, with its bytes where it is a string
abbrev pub cells_of_one : (is_static : Bool) → (at : ℕ) → CType → Option (List ℕ) → Checked TypedExpression → Checked (List TypedExpression)
cells_of_one k at void text r = fault C14 at
cells_of_one k at (integer i) text r = scalar_cell k at (integer i) r
cells_of_one k at (pointer t) text r = scalar_cell k at (pointer t) r
cells_of_one k at (array t n) text r = on (text_fits at text) (λ _. array_cells at t n text)
cells_of_one k at (struct s) text r = fault C14 at
cells_of_one k at (function t ts) text r = fault C14 at

-- a list in braces: it has the form and at most the count that the type allows (paragraph 2)
abbrev pub cells_of_list : (takes : Bool) → (at capacity count : ℕ) → Checked (List TypedExpression) → Checked (List TypedExpression)
cells_of_list takes at most n r = on (demand takes C14 at met) (λ _. on r (λ gs. demand (nat_le n most) C14 at gs))

-- ## Strings that an initialiser holds: all but those that initialise arrays of char

abbrev pub is_char_array : CType → Bool
is_char_array (array (integer Char) n) = true
is_char_array t = false

abbrev pub held_by_one : CType → Expr → List (List ℕ)
held_by_one t e = if is_char_array t && is_some (text_of e) then [] else strings e

abbrev mutual
  pub held : Env → CType → Init → List (List ℕ)
  held env t (one at e) = held_by_one t e
  held env t (list at is) = held_in_turn env (slots env t) is

  pub held_in_turn : Env → Slots → syntax.Inits → List (List ℕ)
  held_in_turn env s syntax.no_inits = []
  held_in_turn env (copies zero t) (syntax.more_inits i is) = []
  held_in_turn env (copies (suc n) t) (syntax.more_inits i is) = held env t i ++ held_in_turn env (copies n t) is
  held_in_turn env (each []) (syntax.more_inits i is) = []
  held_in_turn env (each (t ∷ ts)) (syntax.more_inits i is) = held env t i ++ held_in_turn env (each ts) is

abbrev mutual
  pub calls_of_init : Init → ℕ
  calls_of_init (one at e) = calls e
  calls_of_init (list at is) = calls_of_inits is

  pub calls_of_inits : syntax.Inits → ℕ
  calls_of_inits syntax.no_inits = 0
  calls_of_inits (syntax.more_inits i is) = calls_of_init i + calls_of_inits is

-- so much stands before what follows an initialiser of a type
abbrev pub after_init : Env → Before → CType → Init → Before
after_init env b t i = past b (calls_of_init i) (held env t i)

-- ## Initialisers

abbrev mutual
  -- the values of the cells of an object of a type, in order
  pub initialised : Env → Before → (is_static : Bool) → CType → Init → Checked (List TypedExpression)
  initialised env b k t (one at e) = cells_of_one k at t (text_of e) (value env b e)
  initialised env b k t (list at is) =
      cells_of_list (takes_list t) at (capacity (slots env t)) (count_inits is) (in_turn env b k (slots env t) is)

  -- Elements or members in turn, and zeros for those without an initialiser (paragraphs 17 and 21). What stands behind the last
  -- one has no type, and isn't looked at.
  pub in_turn : Env → Before → (is_static : Bool) → Slots → syntax.Inits → Checked (List TypedExpression)
  in_turn env b k s syntax.no_inits = fine (zeros (layout_of env) s)
  in_turn env b k (copies zero t) (syntax.more_inits i is) = fine []
  in_turn env b k (copies (suc n) t) (syntax.more_inits i is) =
      both (initialised env b k t i) (in_turn env (after_init env b t i) k (copies n t) is) (λ gs hs. fine (gs ++ hs))
  in_turn env b k (each []) (syntax.more_inits i is) = fine []
  in_turn env b k (each (t ∷ ts)) (syntax.more_inits i is) =
      both (initialised env b k t i) (in_turn env (after_init env b t i) k (each ts) is) (λ gs hs. fine (gs ++ hs))

-- ## An initialiser that may be left out

abbrev pub held_by : Env → CType → MaybeInit → List (List ℕ)
held_by env t no_init = []
held_by env t (an_init i) = held env t i

abbrev pub calls_of_maybe_init : MaybeInit → ℕ
calls_of_maybe_init no_init = 0
calls_of_maybe_init (an_init i) = calls_of_init i

-- a variable of a function begins indeterminate where it has none
abbrev pub initialised_local : Env → Before → CType → MaybeInit → Checked (List TypedExpression)
initialised_local env b t no_init = fine []
initialised_local env b t (an_init i) = initialised env b false t i

-- a static object begins with zeros where it has none (paragraph 10)
abbrev pub initialised_static : Env → Before → CType → MaybeInit → Checked (List TypedExpression)
initialised_static env b t no_init = fine (map typed_zero (flat (layout_of env) t))
initialised_static env b t (an_init i) = initialised env b true t i

-- the cells from a number on, with their values
abbrev pub stores_from : ℕ → List TypedExpression → Inits
stores_from k [] = typed.no_inits
stores_from k (g ∷ gs) = typed.more_inits k (tree_of g) (stores_from (suc k) gs)

-- the value of a constant
abbrev pub value_of_constant : Constant → Value
value_of_constant not_constant = Null
value_of_constant undefined = Null
value_of_constant (known v) = v

abbrev pub value_of_cell : TypedExpression → Value
value_of_cell g = value_of_constant g.constant
