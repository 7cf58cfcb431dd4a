-- An initialiser gives no more cells than its object has.
use Rattle.std.proofs.Common.{◌≡◌, ℕ, zero, suc, ◌+◌, ◌-◌, ◌*◌, ◌≤◌, Bool, true, false, List, [], ◌∷◌, ◌++◌, map, length, length-append, Option, Some, None, refl, arith}
use Rattle.std.specs.Prelude.{nat_le, replicate}
use Rattle.std.proofs.lemmas.Bool.{leb-true}
use Rattle.std.proofs.lemmas.List.{length-map, length-replicate}
use Rattle.c_tree.specs.declared.value.IntType.TheVariants.{Char, Uchar, Int, Uint}
use Rattle.c_tree.specs.Tree.{CType, void, integer, pointer, array, struct, function}
use Rattle.c_tree.specs.Layout.{Structs, cells, cells_of_all, flat, flat_all, repeat}
use Rattle.c_syntax.specs.Tree.{Init, one, list, MaybeInit, no_init, an_init}
use Rattle.c_syntax.specs.Tree as syntax
use Rattle.c_rules.specs.Checked.{Checked, fine, on, demand}
use Rattle.c_rules.specs.Codes.{C14}
use Rattle.c_rules.specs.Scopes.{Env, Struct, incomplete, unknown_struct, defined_struct, Member, type_of_member, struct_of, layout_of, Before}
use Rattle.c_rules.specs.TypedExpression.{TypedExpression, Constant, not_constant, undefined, known}
use Rattle.c_rules.specs.Conversions.{as_if_assigned}
use Rattle.c_rules.specs.Expressions.{value}
use Rattle.c_rules.specs.Initialisers.{Slots, copies, each, members_of_struct, slots, capacity, takes_list, count_inits, text_of, text_fits, typed_zero, typed_char, zeros, chars, defined_cell, cell_of, scalar_cell, array_cells, cells_of_one, cells_of_list, after_init, initialised, in_turn, initialised_local}
use Rattle.c_rules.proofs.Below.{Holds, held, on_holds, both_hold, Any, anything}
use Rattle.c_check_values.proofs.MeasuredLemmas.{length_repeat}

-- each struct with a definition has the cells of its members
abbrev pub AreWhole : Env → Type 0
AreWhole env = (s : ℕ) (ms : List Member) → struct_of env s ≡ defined_struct ms → cells (layout_of env) (struct s) ≡ cells_of_all (layout_of env) (map type_of_member ms)

-- ## Numbers of cells

abbrev IsAtMost : ℕ → List TypedExpression → Type 0
IsAtMost n gs = length gs ≤ n

abbrev slot_cells : Structs → Slots → ℕ
slot_cells structs (copies n t) = n * cells structs t
slot_cells structs (each ts) = cells_of_all structs ts

zeros_few : (structs : Structs) (s : Slots) → IsAtMost (slot_cells structs s) (zeros structs s)
zeros_few structs (copies n t) = omega (arith, length-map (repeat n (flat structs t)) typed_zero, length_repeat n (flat structs t))
zeros_few structs (each ts) = omega (arith, length-map (flat_all structs ts) typed_zero)

more : (m n : ℕ) (r : Checked (List TypedExpression)) → m ≤ n → Holds (IsAtMost m) r → Holds (IsAtMost n) r
more m n (fine gs) le h = omega (arith, le, h)
more m n r le h = tt

joined : (m n o : ℕ) (gs hs : List TypedExpression) → o ≡ m + n → IsAtMost m gs → IsAtMost n hs → IsAtMost o (gs ++ hs)
joined m n o gs hs is few left = omega (arith, is, few, left, length-append gs hs)

one_more : (n k : ℕ) → suc n * k ≡ k + n * k
one_more n k = grind arith

slots_few : (env : Env) → AreWhole env → (t : CType) → slot_cells (layout_of env) (slots env t) ≤ cells (layout_of env) t
slots_few env whole void = omega arith
slots_few env whole (integer i) = omega arith
slots_few env whole (pointer t) = omega arith
slots_few env whole (array t n) = omega (arith, length_repeat n (flat (layout_of env) t))
slots_few env whole (struct s) = by_struct (struct_of env s) refl
  where
    by_struct : (o : Struct) → struct_of env s ≡ o → slot_cells (layout_of env) (members_of_struct o) ≤ cells (layout_of env) (struct s)
    by_struct incomplete is = omega arith
    by_struct (unknown_struct f fs) is = omega arith
    by_struct (defined_struct ms) is = omega (arith, whole s ms is)
slots_few env whole (function t ts) = omega arith

-- ## One expression

defined_one : (at : ℕ) (g : TypedExpression) (c : Constant) → Holds (IsAtMost 1) (defined_cell at g c)
defined_one at g not_constant = tt
defined_one at g undefined = tt
defined_one at g (known v) = omega arith

cell_one : (k : Bool) (at : ℕ) (g : TypedExpression) → Holds (IsAtMost 1) (cell_of k at g)
cell_one true at g = defined_one at g g.constant
cell_one false at g = omega arith

scalar_one : (k : Bool) (at : ℕ) (t : CType) (r : Checked TypedExpression) → Holds (IsAtMost 1) (scalar_cell k at t r)
scalar_one k at t r = on_holds Any (IsAtMost 1) (on r (as_if_assigned at t)) (cell_of k at) (anything (on r (as_if_assigned at t))) (λ g _. cell_one k at g)

chars_few : (at n : ℕ) (w : List ℕ) (fits : Bool) → nat_le (length w) n ≡ fits → Holds (IsAtMost (n * 1)) (demand fits C14 at (chars n w))
chars_few at n w true is =
    omega (arith, leb-true (length w) n is, length-append (map typed_char w) (replicate (n - length w) (typed_char 0)), length-map w typed_char, length-replicate (n - length w) (typed_char 0))
chars_few at n w false is = tt

array_few : (structs : Structs) (at : ℕ) (t : CType) (n : ℕ) (o : Option (List ℕ)) → Holds (IsAtMost (n * cells structs t)) (array_cells at t n o)
array_few structs at (integer Char) n (Some w) = chars_few at n w (nat_le (length w) n) refl
array_few structs at t n o = tt

one_few : (structs : Structs) (k : Bool) (at : ℕ) (t : CType) (o : Option (List ℕ)) (r : Checked TypedExpression) → Holds (IsAtMost (cells structs t)) (cells_of_one k at t o r)
one_few structs k at void o r = tt
one_few structs k at (integer i) o r = scalar_one k at (integer i) r
one_few structs k at (pointer t) o r = scalar_one k at (pointer t) r
one_few structs k at (array t n) o r =
    more (n * cells structs t) (cells structs (array t n)) (on (text_fits at o) (λ _. array_cells at t n o)) (omega (arith, length_repeat n (flat structs t)))
    (on_holds Any (IsAtMost (n * cells structs t)) (text_fits at o) (λ _. array_cells at t n o) (anything (text_fits at o)) (λ _ _. array_few structs at t n o))
one_few structs k at (struct s) o r = tt
one_few structs k at (function t ts) o r = tt

-- ## Lists

behind : (P : List TypedExpression → Type 0) (t : Bool) (at : ℕ) (gs : List TypedExpression) → P gs → Holds P (demand t C14 at gs)
behind P true at gs h = h
behind P false at gs h = tt

list_few : (n : ℕ) (takes : Bool) (at most count : ℕ) (r : Checked (List TypedExpression)) → Holds (IsAtMost n) r → Holds (IsAtMost n) (cells_of_list takes at most count r)
list_few n true at most count r h = on_holds (IsAtMost n) (IsAtMost n) r (λ gs. demand (nat_le count most) C14 at gs) h (λ gs few. behind (IsAtMost n) (nat_le count most) at gs few)
list_few n false at most count r h = tt

mutual
  init_few : (env : Env) → AreWhole env → (b : Before) (k : Bool) (t : CType) (i : Init) → Holds (IsAtMost (cells (layout_of env) t)) (initialised env b k t i)
  init_few env whole b k t (one at e) = one_few (layout_of env) k at t (text_of e) (value env b e)
  init_few env whole b k t (list at is) =
      list_few (cells (layout_of env) t) (takes_list t) at (capacity (slots env t)) (count_inits is) (in_turn env b k (slots env t) is)
      (more (slot_cells (layout_of env) (slots env t)) (cells (layout_of env) t) (in_turn env b k (slots env t) is) (slots_few env whole t) (turn_few env whole b k (slots env t) is))

  turn_few : (env : Env) → AreWhole env → (b : Before) (k : Bool) (s : Slots) (is : syntax.Inits) → Holds (IsAtMost (slot_cells (layout_of env) s)) (in_turn env b k s is)
  turn_few env whole b k (copies zero t) syntax.no_inits = zeros_few (layout_of env) (copies zero t)
  turn_few env whole b k (copies (suc n) t) syntax.no_inits = zeros_few (layout_of env) (copies (suc n) t)
  turn_few env whole b k (each []) syntax.no_inits = zeros_few (layout_of env) (each [])
  turn_few env whole b k (each (t ∷ ts)) syntax.no_inits = zeros_few (layout_of env) (each (t ∷ ts))
  turn_few env whole b k (copies zero t) (syntax.more_inits i is) = omega arith
  turn_few env whole b k (copies (suc n) t) (syntax.more_inits i is) =
      let c : ℕ = cells (layout_of env) t in
      both_hold (IsAtMost c) (IsAtMost (n * c)) (IsAtMost (suc n * c)) (initialised env b k t i) (in_turn env (after_init env b t i) k (copies n t) is) (λ gs hs. fine (gs ++ hs))
      (init_few env whole b k t i) (turn_few env whole (after_init env b t i) k (copies n t) is) (λ gs hs few left. joined c (n * c) (suc n * c) gs hs (one_more n c) few left)
  turn_few env whole b k (each []) (syntax.more_inits i is) = omega arith
  turn_few env whole b k (each (t ∷ ts)) (syntax.more_inits i is) =
      let c : ℕ = cells (layout_of env) t in
      let d : ℕ = cells_of_all (layout_of env) ts in
      both_hold (IsAtMost c) (IsAtMost d) (IsAtMost (cells_of_all (layout_of env) (t ∷ ts))) (initialised env b k t i) (in_turn env (after_init env b t i) k (each ts) is) (λ gs hs. fine (gs ++ hs))
      (init_few env whole b k t i) (turn_few env whole (after_init env b t i) k (each ts) is)
      (λ gs hs few left. joined c d (cells_of_all (layout_of env) (t ∷ ts)) gs hs (length-append (flat (layout_of env) t) (flat_all (layout_of env) ts)) few left)

-- the first cells of a variable
pub local_few : (env : Env) → AreWhole env → (b : Before) (t : CType) (m : MaybeInit) (gs : List TypedExpression) → initialised_local env b t m ≡ fine gs → length gs ≤ cells (layout_of env) t
local_few env whole b t no_init gs is = held (IsAtMost (cells (layout_of env) t)) (fine []) gs (omega arith) is
local_few env whole b t (an_init i) gs is = held (IsAtMost (cells (layout_of env) t)) (initialised env b false t i) gs (init_few env whole b false t i) is
