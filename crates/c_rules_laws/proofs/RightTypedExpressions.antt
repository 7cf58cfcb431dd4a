-- What expressions give is right in a program: conversions and constants.
use Rattle.std.proofs.Common.{◌≡◌, ◌⊎◌, inl, inr, ℕ, suc, ◌+◌, ◌-◌, ◌*◌, ◌/◌, ◌≤◌, ◌<◌, ℤ, pos, negsuc, Bool, true, false, ◌||◌, if◌then◌else◌, List, [], ◌∷◌, All, length, Some, nat_le, nat_lt, refl, ap, ap₂, sym, subst, ◌∙◌, arith, ◌&&◌}
use Rattle.std.proofs.lemmas.Bool.{leb-true, ltb-true}
use Rattle.std.proofs.Math.Nat.{mul-div_cancel}
use Rattle.std.proofs.lemmas.List.Elements.{All-head, All-tail}
use Rattle.c_tree.specs.declared.value.IntType.{IntType}
use Rattle.c_tree.specs.declared.value.IntType.TheVariants.{Int, Uint}
use Rattle.c_tree.specs.declared.value.UnOp.{UnOp}
use Rattle.c_tree.specs.declared.value.UnOp.TheVariants.{Minus, Complement, Not}
use Rattle.c_tree.specs.declared.value.BinOp.{BinOp}
use Rattle.c_tree.specs.declared.value.Pointer.{Pointer}
use Rattle.c_tree.specs.declared.value.Value.{Value}
use Rattle.c_tree.specs.declared.value.Value.TheVariants as v
use Rattle.c_tree.specs.Tree.{CType, void, integer, pointer, array, struct, function, CTypes, Program, type_of, decay}
use Rattle.c_tree.specs.Layout.{Structs, repeat, flat, cells, first_cell}
use Rattle.c_tree.specs.Functions.{int}
use Rattle.c_tree.specs.Operands.{IsScalar, IsResult, IsComplete, IsObject, IsTarget, IsIntegerType, IsPromoted, Decays, FitsArithmetic}
use Rattle.c_tree.specs.Operators.{Answer, convert, unary, binary, truth, negated}
use Rattle.c_tree.specs.Operators as operators
use Rattle.c_tree.specs.OperatorTypes.{IsAnswer, IsGiven}
use Rattle.c_tree.specs.Kinds.{Lies, IsPointer, IsConstant, HasType, static_objects, cells_where}
use Rattle.c_tree.specs.Typed.{IsValue, IsPlace, IsStaticOf}
use Rattle.c_tree.proofs.OperatorLemmas.{converted, arithmetic_fits}
use Rattle.c_rules.specs.Types.{same_type, is_integer, is_scalar}
use Rattle.c_rules.specs.Scopes.{Env, layout_of}
use Rattle.c_rules.specs.TypedExpression.{Form, a_value, a_place, behind, Constant, not_constant, undefined, known, TypedExpression, typed_value, tree_of_form, tree_of, is_zero, is_null, integer_constant_if}
use Rattle.c_rules.specs.Constants.{answered, constant_converted, constant_unary, constant_binary, constant_truth, constant_and, constant_or, constant_conditional, address_of_static, static_address, is_within, part_of, constant_member, constant_decayed, moved, constant_moved, number_of}
use Rattle.c_rules.specs.Conversions.{Kind, an_integer, a_pointer, neither, kind_of, few_parts, loaded, valued_as, valued, cast_to, has_integer, converted_to, null_of, fits_kind, fits, assigned_as, assigned, as_if_assigned, condition}
use Rattle.c_rules.specs.Limits.{most_cells}
use Rattle.c_meaning.proofs.Places.{lies_in, lies_whole, repeat_lies, lies_once, length_repeat, element_object}
use Rattle.c_meaning.proofs.Steps.{settled}
use Rattle.c_rules_laws.specs.MadeTypes.{NotArray, Made}
use Rattle.c_rules_laws.specs.RightScopes.{Seen, IsThing}
use Rattle.c_rules_laws.specs.SoundStructs.{AreWithin}
use Rattle.c_rules_laws.proofs.Holding.{Each, Holds, demand_holds, and_left, either}
use Rattle.c_rules_laws.proofs.MadeTypes.{integer_is, scalar_is, type_is, complete_kept, result_not_array}
use Rattle.c_rules_laws.proofs.SoundStructs.{object_is, same_flat, are_structs}
use Rattle.c_meaning.proofs.Differences.{has_cell}
use Rattle.c_rules_laws.proofs.Operators.{kind_pointer, kind_integer}

-- no void and no array
abbrev pub IsLed : CType → Type 0
IsLed void = ⊥
IsLed (array t n) = ⊥
IsLed t = Unit {0}

pub scalar_of : (t : CType) → IsResult t → IsThing t → IsScalar t
scalar_of void r h = h
scalar_of t r h = r

pub led_thing : (t : CType) → IsLed t → IsThing t
led_thing void h = absurd h
led_thing t h = tt

pub thing_led : (t : CType) → IsThing t → NotArray t → IsLed t
thing_led void h n = absurd h
thing_led (array t k) h n = absurd n
thing_led t h n = tt

pub complete_thing : (structs : Structs) (t : CType) → IsComplete structs t → IsThing t
complete_thing structs void h = absurd h
complete_thing structs (function t ts) h = absurd h
complete_thing structs t h = tt

pub scalar_thing : (t : CType) → IsScalar t → IsThing t
scalar_thing void h = h
scalar_thing t h = tt

pub target_scalar : (structs : Structs) (t : CType) → IsScalar t → IsTarget structs t
target_scalar structs (integer i) h = tt
target_scalar structs (pointer t) h = tt
target_scalar structs t h = absurd h

-- what is seen as it is, unless it is an array
pub seen_same : (t u : CType) → NotArray t → Seen t u → u ≡ t
seen_same t u n (inl e) = sym e
seen_same t u n (inr h) = absurd (subst NotArray h.seen n)

pub has_integer_is : (i : IntType) (t : CType) → has_integer i t ≡ true → t ≡ integer i
has_integer_is i (integer j) h = ap integer (sym (integer_is i j h))
has_integer_is i t h = absurd (cc)

pub integer_type : (t : CType) → is_integer t ≡ true → IsIntegerType t
integer_type (integer i) h = (i, refl)
integer_type t h = absurd (cc)

-- what may be assigned to has a scalar type
pub fits_scalar : (t : CType) (g : TypedExpression) → fits t g ≡ true → IsScalar t
fits_scalar (integer i) g e = tt
fits_scalar (pointer t) g e = tt
fits_scalar t g e = absurd (let q : false ≡ true = e in cc)

module _ (old new : Structs) (w : AreWithin old new) where
  pub complete_in : (t : CType) → IsComplete old t → IsComplete new t
  complete_in t c = complete_kept old new w.grows.kept t c

  pub cells_in : (t : CType) → IsComplete old t → cells old t ≡ cells new t
  cells_in t c = ap length (sym (same_flat old new w.sound w.grows t c))

  pub object_in : (t : CType) → NotArray t → IsComplete old t → IsObject new t
  object_in t n c = object_is new w.whole t n (complete_in t c)

  pub first_in : (ts : List CType) (k : ℕ) → All (IsComplete old) ts → first_cell old ts k ≡ first_cell new ts k
  first_in (t ∷ ts) (suc k) c = ap₂ (λ x y. x + y) (cells_in t (All-head (IsComplete old) t ts c)) (first_in ts k (All-tail (IsComplete old) t ts c))
  first_in ts k c = refl

module _ (p : Program) where
  -- ## Constants

  -- a constant of the type
  abbrev pub ConstRight : CType → Constant → Type 0
  ConstRight t (known x) = HasType p (static_objects p) t x
  ConstRight t c = Unit {0}

  pub integer_value : (t : CType) (i : IntType) (x : Value) → t ≡ integer i → HasType p (static_objects p) t x → IsConstant t x
  integer_value t i v.Indeterminate e h = absurd h
  integer_value t i (v.Func f) e h = absurd (let q : integer i ≡ pointer h.0 = sym e ∙ h.1 in cc)
  integer_value t i (v.At q) e h = absurd (let q : integer i ≡ pointer h.0 = sym e ∙ h.1 in cc)
  integer_value t i x e h = h

  pub constant_value : (t : CType) (x : Value) → IsConstant t x → HasType p (static_objects p) t x
  constant_value t v.Indeterminate h = absurd h
  constant_value t (v.Func f) h = absurd h
  constant_value t (v.At q) h = absurd h
  constant_value t x h = h

  answer_right : (t : CType) (a : Answer Value) → IsAnswer t a → ConstRight t (answered a)
  answer_right t (operators.gives x) h = constant_value t x h
  answer_right t (operators.undefined k) h = tt

  given_right : (t : CType) (a : Answer Value) → IsGiven t a → ConstRight t (answered a)
  given_right t (operators.gives x) h = constant_value t x h
  given_right t (operators.undefined k) h = tt

  pub converted_constant : (i : IntType) (t : CType) (j : IntType) (c : Constant) → t ≡ integer j → ConstRight t c → ConstRight (integer i) (constant_converted i c)
  converted_constant i t j (known x) e h = given_right (integer i) (convert i x) (converted i t j x e (integer_value t j x e h))
  converted_constant i t j c e h = tt

  pub truth_right : (b : Bool) → ConstRight int (answered (truth b))
  truth_right true = (refl, grind arith)
  truth_right false = (refl, grind arith)

  not_right : (x : Value) → ConstRight int (answered (unary Not x))
  not_right (v.Int z) = truth_right _
  not_right (v.Uint n) = truth_right _
  not_right (v.Char z) = truth_right _
  not_right (v.Uchar n) = truth_right _
  not_right x = tt

  pub not_constant_right : (c : Constant) → ConstRight int (constant_unary Not c)
  not_constant_right (known x) = not_right x
  not_constant_right c = tt

  negated_right : (op : UnOp) (i j : IntType) (z : ℤ) → IsPromoted j → integer i ≡ integer j → (op ≡ Minus) ⊎ (op ≡ Complement) → ConstRight (integer i) (answered (negated op j z))
  negated_right Not i j z h e (inl o) = absurd (cc)
  negated_right Not i j z h e (inr o) = absurd (cc)
  negated_right op i j z h e o = subst (λ t. ConstRight t (answered (negated op j z))) (sym e) (answer_right (integer j) (negated op j z) (settled j _ h))

  unary_right : (op : UnOp) (i : IntType) (x : Value) → IsPromoted i → (op ≡ Minus) ⊎ (op ≡ Complement) → IsConstant (integer i) x → ConstRight (integer i) (answered (unary op x))
  unary_right Not i x h (inl e) c = absurd (cc)
  unary_right Not i x h (inr e) c = absurd (cc)
  unary_right op i (v.Int z) h o c = negated_right op i Int z tt c.0 o
  unary_right op i (v.Uint n) h o c = negated_right op i Uint (pos n) tt c.0 o
  unary_right op i x h o c = tt

  pub unary_constant : (op : UnOp) (i : IntType) (t : CType) (c : Constant) → t ≡ integer i → IsPromoted i → (op ≡ Minus) ⊎ (op ≡ Complement) → ConstRight t c → ConstRight (integer i) (constant_unary op c)
  unary_constant op i t (known x) e h o k = unary_right op i x h o (subst (λ t. IsConstant t x) e (integer_value t i x e k))
  unary_constant op i t c e h o k = tt

  pub binary_constant : (op : BinOp) (t u w : CType) (i j : IntType) (a b : Constant) → u ≡ integer i → w ≡ integer j → FitsArithmetic op t u w → ConstRight u a → ConstRight w b → ConstRight t (constant_binary op a b)
  binary_constant op t u w i j (known x) (known y) e f h k l = answer_right t (binary op x y) (arithmetic_fits op t u w x y h (integer_value u i x e k) (integer_value w j y f l))
  binary_constant op t u w i j a not_constant e f h k l = tt
  binary_constant op t u w i j a b e f h k l = tt

  truth_constant : (c : Constant) → ConstRight int (constant_truth c)
  truth_constant (known x) = truth_right _
  truth_constant c = tt

  pub and_constant : (a b : Constant) → ConstRight int (constant_and a b)
  and_constant not_constant b = tt
  and_constant a not_constant = tt
  and_constant (known x) b = either (ConstRight int) (is_zero x) (answered (truth false)) (constant_truth b) (λ _. truth_right false) (truth_constant b)
  and_constant a b = tt

  pub or_constant : (a b : Constant) → ConstRight int (constant_or a b)
  or_constant not_constant b = tt
  or_constant a not_constant = tt
  or_constant (known x) b = either (ConstRight int) (is_zero x) (constant_truth b) (answered (truth true)) (λ _. truth_constant b) (truth_right true)
  or_constant a b = tt

  pub conditional_constant : (t : CType) (c a b : Constant) → ConstRight t a → ConstRight t b → ConstRight t (constant_conditional c a b)
  conditional_constant t not_constant a b h k = tt
  conditional_constant t c not_constant b h k = tt
  conditional_constant t c a not_constant h k = tt
  conditional_constant t (known z) a b h k = either (ConstRight t) (is_zero z) b a (λ _. k) h
  conditional_constant t c a b h k = tt

  pub integer_part : (t : CType) (b : Bool) (c : Constant) → ConstRight t c → ConstRight t (integer_constant_if b c)
  integer_part t true c h = h
  integer_part t false c h = tt

  -- ## Addresses

  abbrev Leads : CType → Pointer → Type 0
  Leads t q = IsPointer p.structs (static_objects p) t q

  leads_to : (t : CType) (q : Pointer) → HasType p (static_objects p) (pointer t) (v.At q) → Leads t q
  leads_to t q h = (let e : h.0 ≡ t = (let f : pointer t ≡ pointer h.0 = h.1 in cc) in subst (λ u. Leads u q) e h.2)

  pub static_address_right : (string : Bool) (n k : ℕ) (t : CType) → IsStaticOf p string n t → IsObject p.structs t → k ≡ cells p.structs t → ConstRight (pointer t) (known (address_of_static n k))
  static_address_right string n k t h o e = (
    t,
    refl,
    record {
      object = o;
      all = flat p.structs t;
      known = ap (λ x. cells_where p.structs x) h.1 ∙ ap (λ u. Some (flat p.structs u)) h.3;
      within = omega arith;
      wide = e;
      lies = lies_once (flat p.structs t) (flat p.structs t) 0 (lies_whole (flat p.structs t));
    },
  )

  -- the element that a pointer leads to
  element_lies : (t : CType) (q : Pointer) (h : Leads t q) → q.index < q.elements → Lies (h.all) (q.first + q.index * q.width) (flat p.structs t)
  element_lies t q h l =
      subst (λ w. Lies (h.all) (q.first + q.index * w) (flat p.structs t)) (sym h.wide)
      (lies_in (h.all) (repeat q.elements (flat p.structs t)) (flat p.structs t) q.first (q.index * cells p.structs t) h.lies (repeat_lies q.elements q.index (flat p.structs t) l))

  if_part : (t : CType) (b : Bool) (x : Value) → (b ≡ true → HasType p (static_objects p) t x) → ConstRight t (if b then known x else undefined)
  if_part t b x h = either (ConstRight t) b (known x) undefined h tt

  -- a static object, where it may have so many cells
  pub static_right : (string : Bool) (n k : ℕ) (t : CType) → IsStaticOf p string n t → IsObject p.structs t → k ≡ cells p.structs t → ConstRight (pointer t) (static_address n k)
  static_right string n k t h o e = if_part (pointer t) (nat_le k most_cells) (address_of_static n k) (λ _. static_address_right string n k t h o e)

  -- a part of an object: so many elements of a type that lie from a cell on
  part_right : (t u : CType) (q : Pointer) (from width elements : ℕ) → Leads t q → IsObject p.structs u → width ≡ cells p.structs u
      → Lies (flat p.structs t) from (repeat elements (flat p.structs u)) → ConstRight (pointer u) (part_of q from width elements)
  part_right t u q from width elements h o e l =
      if_part (pointer u) (nat_lt q.index q.elements && is_within ((q.first + q.index * q.width) + from) width elements) _ (λ b. (
        u,
        refl,
        record {
          object = o;
          all = h.all;
          known = h.known;
          within = omega arith;
          wide = e;
          lies = lies_in (h.all) (flat p.structs t) (repeat elements (flat p.structs u)) (q.first + q.index * q.width) from (element_lies t q h (ltb-true q.index q.elements (and_left (nat_lt q.index q.elements) _ b))) l;
        },
      ))

  pub member_constant : (t u : CType) (from width : ℕ) (c : Constant) → ConstRight (pointer t) c → IsObject p.structs u → width ≡ cells p.structs u
      → Lies (flat p.structs t) from (flat p.structs u) → ConstRight (pointer u) (constant_member from width c)
  member_constant t u from width (known (v.At q)) h o e l = part_right t u q from width 1 (leads_to t q h) o e (lies_once (flat p.structs t) (flat p.structs u) from l)
  member_constant t u from width c h o e l = tt

  decayed_at : (u : CType) (n width : ℕ) (q : Pointer) → Leads (array u n) q → 1 ≤ cells p.structs u → width ≡ cells p.structs u → ConstRight (pointer u) (part_of q 0 width (q.width / width))
  decayed_at u n width q h c e =
      let long : q.width ≡ n * cells p.structs u = h.wide ∙ length_repeat n (flat p.structs u) in
      let many : q.width / width ≡ n = ap₂ (λ x y. x / y) long e ∙ mul-div_cancel n (omega (arith, c)) in
      subst (λ k. ConstRight (pointer u) (part_of q 0 width k)) (sym many)
      (part_right (array u n) u q 0 width n h (element_object p.structs u n h.object) e (lies_whole (repeat n (flat p.structs u))))

  pub decayed_constant : (u : CType) (n width : ℕ) (c : Constant) → ConstRight (pointer (array u n)) c → 1 ≤ cells p.structs u → width ≡ cells p.structs u → ConstRight (pointer u) (constant_decayed width c)
  decayed_constant u n width (known (v.At q)) h o e = decayed_at u n width q (leads_to (array u n) q h) o e
  decayed_constant u n width c h o e = tt

  at_index : (t : CType) (q : Pointer) (k : ℕ) → Leads t q → k ≤ q.elements → HasType p (static_objects p) (pointer t) (v.At (record q { index = k }))
  at_index t q k h l = (t, refl, record { object = h.object; all = h.all; known = h.known; within = l; wide = h.wide; lies = h.lies })

  moved_right : (t : CType) (q : Pointer) (z : ℤ) → Leads t q → ConstRight (pointer t) (moved q z)
  moved_right t q (pos k) h = if_part (pointer t) (nat_le (q.index + k) q.elements) _ (λ b. at_index t q (q.index + k) h (leb-true (q.index + k) q.elements b))
  moved_right t q (negsuc k) h = if_part (pointer t) (nat_le (suc k) q.index) _ (λ b. at_index t q (q.index - suc k) h (let w = h.within in omega (arith, w)))

  pub moved_constant : (t : CType) (c : Constant) (sign : ℤ → ℤ) (k : Constant) → ConstRight (pointer t) c → ConstRight (pointer t) (constant_moved c sign k)
  moved_constant t (known (v.At q)) sign (known y) h = moved_right t q (sign (number_of y)) (leads_to t q h)
  moved_constant t c sign not_constant h = tt
  moved_constant t c sign k h = tt

module _ (p : Program) (vars : List CType) where
  -- ## What is given

  abbrev pub FormRight : CType → Form → Constant → Type 0
  FormRight t (a_value e) c = (type_of e ≡ t) × IsValue p vars e × IsResult t × ConstRight p t c
  FormRight t (a_place e) c = Seen t (type_of e) × IsPlace p vars e × IsThing t × ConstRight p (pointer (type_of e)) c
  FormRight t (behind q) c = (type_of q ≡ pointer t) × IsValue p vars q × IsLed t × ConstRight p (pointer t) c

  abbrev pub TypedExpressionRight : TypedExpression → Type 0
  TypedExpressionRight g = FormRight g.ctype g.form g.constant

  -- a value of a scalar type, or of none
  abbrev pub ValueRight : TypedExpression → Type 0
  ValueRight g = (type_of (tree_of g) ≡ g.ctype) × IsValue p vars (tree_of g) × IsResult g.ctype × ConstRight p g.ctype g.constant

  abbrev pub ValuesRight : List TypedExpression → Type 0
  ValuesRight = Each ValueRight

  -- ## Conversions of places to values

  scalar_loaded : (t : CType) (f : Form) (c : Constant) → IsResult t → FormRight t f c → ValueRight (loaded (record { ctype = t; form = f; constant = c }) f)
  scalar_loaded t (a_value e) c r h = h
  scalar_loaded t (a_place e) c r h = (refl, (scalar_of t r h.2, seen_same t (type_of e) (result_not_array t r) h.0, h.1), r, tt)
  scalar_loaded t (behind q) c r h =
      let s = scalar_of t r (led_thing t h.2) in
      (refl, (s, refl, (target_scalar p.structs t s, h.0, h.1)), r, tt)

  array_seen : (u : CType) (t : CType) (n : ℕ) (w : CType) → u ≡ array t n → Seen u w → (m : ℕ) × (w ≡ array t m)
  array_seen u t n w e (inl f) = (n, sym f ∙ e)
  array_seen u t n w e (inr h) = (h.size, (let g : array t n ≡ array h.element 0 = sym e ∙ h.seen in let same : h.element ≡ t = cc in h.whole ∙ ap (λ x. array x h.size) same))

  array_decayed : (u : CType) (f : Form) (c : Constant) (t : CType) (n width : ℕ) → u ≡ array t n → 1 ≤ cells p.structs t → width ≡ cells p.structs t → FormRight u f c
      → ValueRight (typed_value (pointer t) (decay (pointer t) (tree_of_form u f)) (constant_decayed width c))
  array_decayed u (a_value e) c t n width q l s h = absurd (subst IsResult q h.2)
  array_decayed u (a_place e) c t n width q l s h =
      let w = array_seen u t n (type_of e) q h.0 in
      (refl, (subst (λ x. Decays p.structs x (pointer t)) (sym w.1) refl, h.1), tt, decayed_constant p t w.0 width c (subst (λ x. ConstRight p (pointer x) c) w.1 h.3) l s)
  array_decayed u (behind e) c t n width q l s h = absurd (subst IsLed q h.2)

  function_decayed : (u : CType) (f : Form) (c : Constant) (t : CType) (ts : CTypes) → u ≡ function t ts → FormRight u f c → ValueRight (typed_value (pointer u) (decay (pointer u) (tree_of_form u f)) c)
  function_decayed u (a_value e) c t ts q h = absurd (subst IsResult q h.2)
  function_decayed u (a_place e) c t ts q h =
      let w = seen_same u (type_of e) (subst NotArray (sym q) tt) h.0 in
      (refl, (subst (λ x. Decays p.structs x (pointer u)) (sym (w ∙ q)) (ap pointer q), h.1), tt, subst (λ x. ConstRight p (pointer x) c) w h.3)
  function_decayed u (behind e) c t ts q h =
      (refl, (subst (λ x. Decays p.structs x (pointer u)) (sym q) (ap pointer q), (subst (IsTarget p.structs) (sym q) tt, h.0, h.1)), tt, h.3)

  module _ (env : Env) (w : AreWithin (layout_of env) p.structs) where
    valued_as_right : (at : ℕ) (g : TypedExpression) (t : CType) → g.ctype ≡ t → Made (layout_of env) t → TypedExpressionRight g → Holds ValueRight (valued_as env at g t)
    valued_as_right at g (array t n) e m h =
        array_decayed g.ctype g.form g.constant t n (cells (layout_of env) t) e (has_cell p.structs (are_structs p.structs w.whole) t (complete_in (layout_of env) p.structs w t m.1)) (cells_in (layout_of env) p.structs w t m.1) h
    valued_as_right at g (struct s) e m h = tt
    valued_as_right at g (function t ts) e m h = demand_holds ValueRight (few_parts (pointer g.ctype)) 13 at _ (λ _. function_decayed g.ctype g.form g.constant t ts e h)
    valued_as_right at g t e m h = scalar_loaded g.ctype g.form g.constant (subst IsResult (sym e) tt) h

    pub valued_right : (at : ℕ) (g : TypedExpression) → Made (layout_of env) g.ctype → TypedExpressionRight g → Holds ValueRight (valued env at g)
    valued_right at g m h = valued_as_right at g g.ctype refl m h

  -- ## Conversions of values

  pub cast_right : (i : IntType) (g : TypedExpression) → IsIntegerType g.ctype → ValueRight g → ValueRight (cast_to i g)
  cast_right i g t h = (refl, (refl, subst IsIntegerType (sym h.0) t, h.1), tt, converted_constant p i g.ctype t.0 g.constant t.1 h.3)

  abbrev pub RightAs : CType → TypedExpression → Type 0
  RightAs t g = ValueRight g × (g.ctype ≡ t)

  pub converted_right : (i : IntType) (g : TypedExpression) → IsIntegerType g.ctype → ValueRight g → RightAs (integer i) (converted_to i g)
  converted_right i g t h = either (RightAs (integer i)) (has_integer i g.ctype) g (cast_to i g) (λ e. (h, has_integer_is i g.ctype e)) (cast_right i g t h, refl)

  pub null_right : (t u : CType) → t ≡ pointer u → ValueRight (null_of t)
  null_right t u e = (refl, (u, e), subst IsResult (sym e) tt, (u, e))

  assigned_kind : (k : Kind) (t : CType) (g : TypedExpression) → kind_of t ≡ k → fits_kind k t g ≡ true → ValueRight g → RightAs t (assigned_as k t g)
  assigned_kind (an_integer i) t g e f h =
      let r = converted_right i g (integer_type g.ctype f) h in
      (r.0, r.1 ∙ sym (kind_integer t i e))
  assigned_kind (a_pointer u) t g e f h = by_test (is_null g) f
    where
      by_test : (b : Bool) → (b || same_type t g.ctype) ≡ true → RightAs t (if b then null_of t else g)
      by_test true f = (null_right t u (kind_pointer t u e), refl)
      by_test false f = (h, sym (type_is t g.ctype f))
  assigned_kind neither t g e f h = absurd (cc)

  pub assigned_right : (t : CType) (g : TypedExpression) → fits t g ≡ true → ValueRight g → RightAs t (assigned t g)
  assigned_right t g f h = assigned_kind (kind_of t) t g refl f h

  pub as_if_right : (at : ℕ) (t : CType) (g : TypedExpression) → ValueRight g → Holds (RightAs t) (as_if_assigned at t g)
  as_if_right at t g h = demand_holds (RightAs t) (fits t g) 3 at (assigned t g) (λ f. assigned_right t g f h)

  pub condition_right : (at : ℕ) (g : TypedExpression) → ValueRight g → Holds (λ e. IsScalar (type_of e) × IsValue p vars e) (condition at g)
  condition_right at g h = demand_holds (λ e. IsScalar (type_of e) × IsValue p vars e) (is_scalar g.ctype) 3 at (tree_of g) (λ s. (subst IsScalar (sym h.0) (scalar_is g.ctype s), h.1))
