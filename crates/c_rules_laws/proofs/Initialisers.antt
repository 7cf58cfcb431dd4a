-- What initialisers and declared objects give without their places, and the strings that they hold.
use Rattle.std.proofs.Common.{◌≡◌, ℕ, zero, suc, ◌+◌, Bool, true, false, ◌&&◌, if◌then◌else◌, List, [], ◌∷◌, ◌++◌, length, Option, Some, None, refl, sym, ap, ap₂, subst}
use Rattle.std.specs.Prelude.{is_some, nat_le}
use Rattle.c_tree.specs.declared.value.IntType.TheVariants.{Char}
use Rattle.c_tree.specs.Tree.{CType, integer, pointer, array}
use Rattle.c_tree.specs.Layout.{cells}
use Rattle.c_syntax.specs.Tree.{Ident, Spec, Declarator, Expr, a_name, Init, one, list, Inits, no_inits, more_inits, MaybeInit, no_init, an_init}
use Rattle.c_syntax.specs.Same.{unplaced_ident, unplaced_spec, unplaced, unplaced_declarator, unplaced_init, unplaced_inits, unplaced_maybe_init}
use Rattle.c_rules.specs.Checked.{Checked, fine, on, demand, met, Met}
use Rattle.c_rules.specs.Codes.{C6, C13, C14}
use Rattle.c_rules.specs.Limits.{most_cells}
use Rattle.c_rules.specs.Scopes.{Env, Before, layout_of}
use Rattle.c_rules.specs.PlacesOfCalls.{places_of_init, places_of_inits, places_of_maybe_init}
use Rattle.c_rules.specs.Tags.{tags_of_init, tags_of_inits, tags_of_maybe_init}
use Rattle.c_rules.specs.TypedExpression.{TypedExpression, Constant, known}
use Rattle.c_rules.specs.Conversions.{as_if_assigned}
use Rattle.c_rules.specs.Declarators.{place_or}
use Rattle.c_rules.specs.Expressions.{value}
use Rattle.c_rules.specs.Initialisers.{Slots, copies, each, slots, capacity, takes_list, count_inits, text_of, chars, zeros, defined_cell, cell_of, scalar_cell, array_cells, cells_of_one, cells_of_list, is_char_array, held_by_one, held, held_in_turn, calls_of_init, calls_of_inits, after_init, initialised, in_turn, held_by, calls_of_maybe_init, initialised_local, initialised_static, text_fits}
use Rattle.c_rules.specs.Objects.{Object, sized_by_one, sized_by_init, sized_by, with_size, of_known_size, object_of, object_declared}
use Rattle.c_rules_laws.proofs.Alike.{Alike, alike, on_alike, gives_alike, joined_alike, demand_alike, fault_alike}
use Rattle.c_rules_laws.proofs.Operators.{assigned_alike, complete_alike, few_cells_alike}
use Rattle.c_rules_laws.proofs.Expressions.{joins, long_both, value_alike, calls_same, strings_same, expr_tags, expr_counted, past_same, type_declared_alike}

-- ## Counts

pub text_same : (e : Expr) → text_of (unplaced e) ≡ text_of e
text_same (a_name i x) = refl
text_same e = refl

pub count_same : (is : Inits) → count_inits (unplaced_inits is) ≡ count_inits is
count_same no_inits = refl
count_same (more_inits i is) = ap suc (count_same is)

mutual
  init_counts : (i : Init) → (calls_of_init (unplaced_init i) ≡ calls_of_init i) × (tags_of_init (unplaced_init i) ≡ tags_of_init i) × (length (places_of_init i) ≡ calls_of_init i)
  init_counts (one at e) = (calls_same e, expr_tags e, expr_counted e)
  init_counts (list at is) = inits_counts is

  inits_counts : (is : Inits) → (calls_of_inits (unplaced_inits is) ≡ calls_of_inits is) × (tags_of_inits (unplaced_inits is) ≡ tags_of_inits is) × (length (places_of_inits is) ≡ calls_of_inits is)
  inits_counts no_inits = (refl, refl, refl)
  inits_counts (more_inits i is) = (let h = init_counts i in let g = inits_counts is in (ap₂ (λ m n. m + n) h.0 g.0, joins h.1 g.1, long_both (places_of_init i) (places_of_inits is) h.2 g.2))

pub maybe_init_counts : (m : MaybeInit) → (calls_of_maybe_init (unplaced_maybe_init m) ≡ calls_of_maybe_init m) × (tags_of_maybe_init (unplaced_maybe_init m) ≡ tags_of_maybe_init m) × (length (places_of_maybe_init m) ≡ calls_of_maybe_init m)
maybe_init_counts no_init = (refl, refl, refl)
maybe_init_counts (an_init i) = init_counts i

pub maybe_init_calls_same : (m : MaybeInit) → calls_of_maybe_init (unplaced_maybe_init m) ≡ calls_of_maybe_init m
maybe_init_calls_same m = (maybe_init_counts m).0

held_by_one_same : (t : CType) (e : Expr) → held_by_one t (unplaced e) ≡ held_by_one t e
held_by_one_same t e =
    ap₂ (λ (o : Option (List ℕ)) (ws : List (List ℕ)). if is_char_array t && is_some o then [] else ws) (text_same e) (strings_same e)

mutual
  pub held_same : (env : Env) (t : CType) (i : Init) → held env t (unplaced_init i) ≡ held env t i
  held_same env t (one at e) = held_by_one_same t e
  held_same env t (list at is) = held_in_turn_same env (slots env t) is

  pub held_in_turn_same : (env : Env) (s : Slots) (is : Inits) → held_in_turn env s (unplaced_inits is) ≡ held_in_turn env s is
  held_in_turn_same env (copies (suc n) t) (more_inits i is) = ap₂ (λ v w. v ++ w) (held_same env t i) (held_in_turn_same env (copies n t) is)
  held_in_turn_same env (each (t ∷ ts)) (more_inits i is) = ap₂ (λ v w. v ++ w) (held_same env t i) (held_in_turn_same env (each ts) is)
  held_in_turn_same env s no_inits = refl
  held_in_turn_same env s is = refl

pub held_by_same : (env : Env) (t : CType) (m : MaybeInit) → held_by env t (unplaced_maybe_init m) ≡ held_by env t m
held_by_same env t no_init = refl
held_by_same env t (an_init i) = held_same env t i

after_init_same : (env : Env) (b c : Before) (t : CType) (i : Init) → c ≡ b → after_init env c t (unplaced_init i) ≡ after_init env b t i
after_init_same env b c t i h = past_same b c (calls_of_init (unplaced_init i)) (calls_of_init i) (held env t (unplaced_init i)) (held env t i) h ((init_counts i).0) (held_same env t i)

-- ## Cells

defined_cell_alike : (at to : ℕ) (g : TypedExpression) (k : Constant) → Alike (List TypedExpression) (defined_cell at g k) (defined_cell to g k)
defined_cell_alike at to g (known v) = alike (fine (g ∷ []))
defined_cell_alike at to g k = fault_alike C6 at to

cell_alike : (k : Bool) (at to : ℕ) (g : TypedExpression) → Alike (List TypedExpression) (cell_of k at g) (cell_of k to g)
cell_alike true at to g = defined_cell_alike at to g g.constant
cell_alike false at to g = alike (fine (g ∷ []))

scalar_alike : (k : Bool) (at to : ℕ) (t : CType) (r s : Checked TypedExpression) → Alike TypedExpression r s → Alike (List TypedExpression) (scalar_cell k at t r) (scalar_cell k to t s)
scalar_alike k at to t r s h =
    on_alike (cell_of k at) (cell_of k to) (on_alike (as_if_assigned at t) (as_if_assigned to t) h (λ g _. assigned_alike at to t g)) (λ g _. cell_alike k at to g)

array_cells_alike : (at to : ℕ) (t : CType) (n : ℕ) (o : Option (List ℕ)) → Alike (List TypedExpression) (array_cells at t n o) (array_cells to t n o)
array_cells_alike at to (integer Char) n (Some w) = demand_alike (nat_le (length w) n) C14 at to (chars n w)
array_cells_alike at to t n o = fault_alike C14 at to

text_fits_alike : (at to : ℕ) (o : Option (List ℕ)) → Alike Met (text_fits at o) (text_fits to o)
text_fits_alike at to None = alike (fine met)
text_fits_alike at to (Some w) = few_cells_alike at to (suc (length w))

cells_of_one_alike : (k : Bool) (at to : ℕ) (t : CType) (o : Option (List ℕ)) (r s : Checked TypedExpression) → Alike TypedExpression r s → Alike (List TypedExpression) (cells_of_one k at t o r) (cells_of_one k to t o s)
cells_of_one_alike k at to (integer i) o r s h = scalar_alike k at to (integer i) r s h
cells_of_one_alike k at to (pointer t) o r s h = scalar_alike k at to (pointer t) r s h
cells_of_one_alike k at to (array t n) o r s h = on_alike (λ _. array_cells at t n o) (λ _. array_cells to t n o) (text_fits_alike at to o) (λ _ _. array_cells_alike at to t n o)
cells_of_one_alike k at to t o r s h = fault_alike C14 at to

list_alike : (takes : Bool) (at to most n : ℕ) (r s : Checked (List TypedExpression)) → Alike (List TypedExpression) r s → Alike (List TypedExpression) (cells_of_list takes at most n r) (cells_of_list takes to most n s)
list_alike takes at to most n r s h =
    on_alike (λ _. on r (λ gs. demand (nat_le n most) C14 at gs)) (λ _. on s (λ gs. demand (nat_le n most) C14 to gs)) (demand_alike takes C14 at to met)
    (λ _ _. on_alike (λ gs. demand (nat_le n most) C14 at gs) (λ gs. demand (nat_le n most) C14 to gs) h (λ gs _. demand_alike (nat_le n most) C14 at to gs))

mutual
  pub initialised_alike : (env : Env) (b c : Before) → c ≡ b → (k : Bool) (t : CType) (i : Init) → Alike (List TypedExpression) (initialised env b k t i) (initialised env c k t (unplaced_init i))
  initialised_alike env b c h k t (one at e) =
      subst (λ o. Alike (List TypedExpression) (initialised env b k t (one at e)) (cells_of_one k 0 t o (value env c (unplaced e)))) (sym (text_same e))
      (cells_of_one_alike k at 0 t (text_of e) (value env b e) (value env c (unplaced e)) (value_alike env b c h e))
  initialised_alike env b c h k t (list at is) =
      subst (λ n. Alike (List TypedExpression) (initialised env b k t (list at is)) (cells_of_list (takes_list t) 0 (capacity (slots env t)) n (in_turn env c k (slots env t) (unplaced_inits is)))) (sym (count_same is))
      (list_alike (takes_list t) at 0 (capacity (slots env t)) (count_inits is) (in_turn env b k (slots env t) is) (in_turn env c k (slots env t) (unplaced_inits is)) (in_turn_alike env b c h k (slots env t) is))

  pub in_turn_alike : (env : Env) (b c : Before) → c ≡ b → (k : Bool) (s : Slots) (is : Inits) → Alike (List TypedExpression) (in_turn env b k s is) (in_turn env c k s (unplaced_inits is))
  in_turn_alike env b c h k s no_inits = alike (fine (zeros (layout_of env) s))
  in_turn_alike env b c h k (copies (suc n) t) (more_inits i is) =
      joined_alike (in_turn env (after_init env b t i) k (copies n t) is) (in_turn env (after_init env c t (unplaced_init i)) k (copies n t) (unplaced_inits is)) (λ gs hs. gs ++ hs)
      (initialised_alike env b c h k t i) (λ _ _. in_turn_alike env (after_init env b t i) (after_init env c t (unplaced_init i)) (after_init_same env b c t i h) k (copies n t) is)
  in_turn_alike env b c h k (each (t ∷ ts)) (more_inits i is) =
      joined_alike (in_turn env (after_init env b t i) k (each ts) is) (in_turn env (after_init env c t (unplaced_init i)) k (each ts) (unplaced_inits is)) (λ gs hs. gs ++ hs)
      (initialised_alike env b c h k t i) (λ _ _. in_turn_alike env (after_init env b t i) (after_init env c t (unplaced_init i)) (after_init_same env b c t i h) k (each ts) is)
  in_turn_alike env b c h k s is = alike (fine [])

pub local_init_alike : (env : Env) (b c : Before) → c ≡ b → (t : CType) (m : MaybeInit) → Alike (List TypedExpression) (initialised_local env b t m) (initialised_local env c t (unplaced_maybe_init m))
local_init_alike env b c h t no_init = alike (fine [])
local_init_alike env b c h t (an_init i) = initialised_alike env b c h false t i

pub static_init_alike : (env : Env) (b c : Before) → c ≡ b → (t : CType) (m : MaybeInit) → Alike (List TypedExpression) (initialised_static env b t m) (initialised_static env c t (unplaced_maybe_init m))
static_init_alike env b c h t no_init = alike (initialised_static env b t no_init)
static_init_alike env b c h t (an_init i) = initialised_alike env b c h true t i

-- ## Objects

sized_by_one_alike : (at to : ℕ) (t : CType) (o : Option (List ℕ)) → Alike CType (sized_by_one at t o) (sized_by_one to t o)
sized_by_one_alike at to (integer Char) (Some w) = alike (sized_by_one at (integer Char) (Some w))
sized_by_one_alike at to t o = fault_alike C14 at to

sized_by_init_alike : (here yonder : ℕ) (t : CType) (i : Init) → Alike CType (sized_by_init here t i) (sized_by_init yonder t (unplaced_init i))
sized_by_init_alike here yonder t (one at e) =
    subst (λ o. Alike CType (on (text_fits at (text_of e)) (λ _. sized_by_one at t (text_of e))) (on (text_fits 0 o) (λ _. sized_by_one 0 t o))) (sym (text_same e))
    (on_alike (λ _. sized_by_one at t (text_of e)) (λ _. sized_by_one 0 t (text_of e)) (text_fits_alike at 0 (text_of e)) (λ _ _. sized_by_one_alike at 0 t (text_of e)))
sized_by_init_alike here yonder t (list at is) =
    subst (λ n. Alike CType (demand (nat_le (count_inits is) most_cells) C13 here (array t (count_inits is))) (demand (nat_le n most_cells) C13 yonder (array t n))) (sym (count_same is))
    (demand_alike (nat_le (count_inits is) most_cells) C13 here yonder (array t (count_inits is)))

sized_by_alike : (at to : ℕ) (t : CType) (m : MaybeInit) → Alike CType (sized_by at t m) (sized_by to t (unplaced_maybe_init m))
sized_by_alike at to t no_init = fault_alike C14 at to
sized_by_alike at to t (an_init i) = sized_by_init_alike at to t i

pub with_size_alike : (at to : ℕ) (m : MaybeInit) (t : CType) → Alike CType (with_size at m t) (with_size to (unplaced_maybe_init m) t)
with_size_alike at to m (array t zero) = sized_by_alike at to t m
with_size_alike at to m t = alike (fine t)

known_size_alike : (env : Env) (at to here yonder : ℕ) (t : CType) → Alike CType (of_known_size env at here t) (of_known_size env to yonder t)
known_size_alike env at to here yonder t =
    on_alike (λ _. demand (nat_le (cells (layout_of env) t) most_cells) C13 here t) (λ _. demand (nat_le (cells (layout_of env) t) most_cells) C13 yonder t)
    (complete_alike env at to t) (λ _ _. demand_alike (nat_le (cells (layout_of env) t) most_cells) C13 here yonder t)

object_alike : (env : Env) (at to here yonder : ℕ) (m : MaybeInit) (t : CType) → Alike Object (object_of env at here m t) (object_of env to yonder (unplaced_maybe_init m) t)
object_alike env at to here yonder m t =
    on_alike (λ u. on (of_known_size env at here u) (λ w. fine (record { seen = t; whole = w }))) (λ u. on (of_known_size env to yonder u) (λ w. fine (record { seen = t; whole = w })))
    (with_size_alike here yonder m t) (λ u _. gives_alike (λ w. record { seen = t; whole = w }) (known_size_alike env at to here yonder u))

pub declared_object_alike : (env : Env) (at to : ℕ) (s : Spec) (d : Declarator) (x : Ident) (m : MaybeInit) → Alike Object (object_declared env at s d x m) (object_declared env to (unplaced_spec s) (unplaced_declarator d) (unplaced_ident x) (unplaced_maybe_init m))
declared_object_alike env at to s d x m =
    on_alike (object_of env (place_or at d) x.at m) (object_of env (place_or to (unplaced_declarator d)) 0 (unplaced_maybe_init m)) (type_declared_alike env at to s d)
    (λ t _. object_alike env (place_or at d) (place_or to (unplaced_declarator d)) x.at 0 m t)
