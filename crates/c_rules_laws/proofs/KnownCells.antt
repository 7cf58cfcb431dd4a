-- The cells of a static object that is fine are constants with values.
use Rattle.std.proofs.Common.{◌≡◌, ℕ, zero, suc, ◌-◌, Bool, true, false, List, [], ◌∷◌, ◌++◌, map, replicate, length, Option, Some, nat_le, refl, sym, subst}
use Rattle.c_tree.specs.declared.value.IntType.TheVariants.{Char}
use Rattle.c_tree.specs.Tree.{CType, void, integer, pointer, array}
use Rattle.c_tree.specs.Layout.{Structs, repeat, flat, flat_all}
use Rattle.c_syntax.specs.Tree.{Init, one, list, MaybeInit, no_init, an_init}
use Rattle.c_syntax.specs.Tree as syntax
use Rattle.c_rules.specs.Checked.{Checked, fine, on}
use Rattle.c_rules.specs.Scopes.{Env, layout_of, Before}
use Rattle.c_rules.specs.TypedExpression.{TypedExpression, Constant, known}
use Rattle.c_rules.specs.Conversions.{as_if_assigned}
use Rattle.c_rules.specs.Expressions.{value}
use Rattle.c_rules.specs.Initialisers.{Slots, copies, each, slots, capacity, takes_list, count_inits, text_of, typed_zero, typed_char, zeros, chars, defined_cell, cell_of, scalar_cell, array_cells, cells_of_list, after_init, initialised, in_turn, initialised_static, text_fits}
use Rattle.c_rules_laws.proofs.Holding.{Holds, on_holds, both_hold, demand_holds, behind_demand, after_part, Each, each_both}

-- a constant with a value
abbrev pub IsKnownConstant : Constant → Type 0
IsKnownConstant (known x) = Unit {0}
IsKnownConstant c = ⊥

abbrev pub AllKnown : List TypedExpression → Type 0
AllKnown = Each (λ g. IsKnownConstant g.constant)

-- what holds of each zero, and of each character
pub zeros_each : (P : TypedExpression → Type 0) → ((t : CType) → P (typed_zero t)) → (ts : List CType) → Each P (map typed_zero ts)
zeros_each P z [] = tt
zeros_each P z (t ∷ ts) = (z t, zeros_each P z ts)

pub slots_each : (P : TypedExpression → Type 0) → ((t : CType) → P (typed_zero t)) → (structs : Structs) (s : Slots) → Each P (zeros structs s)
slots_each P z structs (copies n t) = zeros_each P z (repeat n (flat structs t))
slots_each P z structs (each ts) = zeros_each P z (flat_all structs ts)

pub chars_each : (P : TypedExpression → Type 0) → ((c : ℕ) → P (typed_char c)) → (n : ℕ) (w : List ℕ) → Each P (chars n w)
chars_each P c n w = each_both P (map typed_char w) (replicate (n - length w) (typed_char 0)) (all w) (ends (n - length w))
  where
    all : (w : List ℕ) → Each P (map typed_char w)
    all [] = tt
    all (k ∷ w) = (c k, all w)

    ends : (k : ℕ) → Each P (replicate k (typed_char 0))
    ends zero = tt
    ends (suc k) = (c 0, ends k)

zero_known : (t : CType) → IsKnownConstant (typed_zero t).constant
zero_known void = tt
zero_known t = tt

-- the cell that an element gives
pub cell_holds : (Q : List TypedExpression → Type 0) (k : Bool) (at : ℕ) (g : TypedExpression) → Q (g ∷ []) → Holds Q (cell_of k at g)
cell_holds Q false at g h = h
cell_holds Q true at g h = by_constant g.constant
  where
    by_constant : (c : Constant) → Holds Q (defined_cell at g c)
    by_constant (known x) = h
    by_constant c = tt

cell_known : (at : ℕ) (g : TypedExpression) (c : Constant) → g.constant ≡ c → Holds AllKnown (defined_cell at g c)
cell_known at g (known x) e = (subst IsKnownConstant (sym e) tt, tt)
cell_known at g c e = tt

scalar_known : (at : ℕ) (t : CType) (r : Checked TypedExpression) → Holds AllKnown (scalar_cell true at t r)
scalar_known at t r = after_part AllKnown (on r (as_if_assigned at t)) (cell_of true at) (λ g. cell_known at g g.constant refl)

array_known : (at : ℕ) (t : CType) (n : ℕ) (o : Option (List ℕ)) → Holds AllKnown (array_cells at t n o)
array_known at (integer Char) n (Some w) = demand_holds AllKnown (nat_le (length w) n) 14 at (chars n w) (λ _. chars_each (λ g. IsKnownConstant g.constant) (λ _. tt) n w)
array_known at t n o = tt

list_known : (takes : Bool) (at most n : ℕ) (r : Checked (List TypedExpression)) → Holds AllKnown r → Holds AllKnown (cells_of_list takes at most n r)
list_known takes at most n r h = behind_demand AllKnown takes 14 at _ (λ _. on_holds AllKnown AllKnown r _ h (λ gs k. demand_holds AllKnown (nat_le n most) 14 at gs (λ _. k)))

mutual
  init_known : (i : Init) (env : Env) (b : Before) (t : CType) → Holds AllKnown (initialised env b true t i)
  init_known (one at e) env b (integer i) = scalar_known at (integer i) (value env b e)
  init_known (one at e) env b (pointer t) = scalar_known at (pointer t) (value env b e)
  init_known (one at e) env b (array t n) = after_part AllKnown (text_fits at (text_of e)) (λ _. array_cells at t n (text_of e)) (λ _. array_known at t n (text_of e))
  init_known (list at is) env b t = list_known (takes_list t) at (capacity (slots env t)) (count_inits is) (in_turn env b true (slots env t) is) (turn_known is env b (slots env t))
  init_known i env b t = tt

  turn_known : (is : syntax.Inits) (env : Env) (b : Before) (s : Slots) → Holds AllKnown (in_turn env b true s is)
  turn_known syntax.no_inits env b s = slots_each (λ g. IsKnownConstant g.constant) zero_known (layout_of env) s
  turn_known (syntax.more_inits i is) env b (copies (suc n) t) =
      both_hold AllKnown AllKnown AllKnown (initialised env b true t i) (in_turn env (after_init env b t i) true (copies n t) is) (λ gs hs. fine (gs ++ hs)) (init_known i env b t) (turn_known is env (after_init env b t i) (copies n t)) (λ gs hs h k. each_both (λ g. IsKnownConstant g.constant) gs hs h k)
  turn_known (syntax.more_inits i is) env b (each (t ∷ ts)) =
      both_hold AllKnown AllKnown AllKnown (initialised env b true t i) (in_turn env (after_init env b t i) true (each ts) is) (λ gs hs. fine (gs ++ hs)) (init_known i env b t) (turn_known is env (after_init env b t i) (each ts)) (λ gs hs h k. each_both (λ g. IsKnownConstant g.constant) gs hs h k)
  turn_known is env b s = tt

pub static_known : (m : MaybeInit) (env : Env) (b : Before) (t : CType) → Holds AllKnown (initialised_static env b t m)
static_known no_init env b t = zeros_each (λ g. IsKnownConstant g.constant) zero_known (flat (layout_of env) t)
static_known (an_init i) env b t = init_known i env b t
