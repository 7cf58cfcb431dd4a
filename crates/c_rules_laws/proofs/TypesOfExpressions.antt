-- The types that declarators and expressions have.
use Rattle.std.proofs.Common.{◌≡◌, ℕ, zero, suc, ◌+◌, Bool, true, false, ◌&&◌, ◌||◌, List, [], ◌∷◌, All, length, map, get_or, Option, Some, None, nat_le, nat_eq, refl, sym, subst, ◌∙◌}
use Rattle.std.proofs.lemmas.Bool.{leb-true}
use Rattle.std.proofs.lemmas.List.Elements.{All-head, All-tail}
use Rattle.c_lexer.specs.declared.punctuator.TheConstants.{AMPERSAND}
use Rattle.c_tree.specs.declared.value.IntType.{IntType}
use Rattle.c_tree.specs.declared.value.BinOp.{BinOp}
use Rattle.c_tree.specs.declared.value.BinOp.TheVariants.{Add, Sub}
use Rattle.c_tree.specs.Tree.{CType, void, integer, pointer, array, struct, function, CTypes, more_types}
use Rattle.c_tree.specs.Layout.{Structs}
use Rattle.c_tree.specs.Operands.{IsScalar, IsResult, IsComplete}
use Rattle.c_syntax.specs.Tree.{Ident, Spec, Expr, a_name, an_int, a_char, a_str, comma, sizeof_type, cast, call, member, postfix, prefix, unary, index, binary, assign, conditional, Exprs, no_exprs, more_exprs}
use Rattle.c_syntax.specs.Tree.{Postfix, post_increment, post_decrement, Prefix, pre_increment, pre_decrement, sizeof, Access, dot, arrow, Infix}
use Rattle.c_syntax.specs.Tree.{TypeName, type_name, Declarator, Params, no_params, more_params}
use Rattle.c_syntax.specs.Tree as syntax
use Rattle.c_rules.specs.Checked.{Checked, fine, on, both}
use Rattle.c_rules.specs.Names.{Name}
use Rattle.c_rules.specs.Types.{is_scalar, is_result, is_integer, is_function, count, adjusted}
use Rattle.c_rules.specs.Scopes.{Env, Meaning, a_static, a_local, a_function, an_enumerator, unknown, sized, in_context, inside, Before, nothing_before, binding_of, type_of_member, layout_of}
use Rattle.c_rules.specs.Counts.{place_of, calls, after, after_designator}
use Rattle.c_rules.specs.TypedExpression.{TypedExpression, Form, a_value, a_place, behind, is_place, is_null}
use Rattle.c_rules.specs.Conversions.{loaded, valued_as, valued, kind_of, few_parts, complete, cast_to, null_of}
use Rattle.c_rules.specs.PrimaryExpressions.{used, object_number, function_number, function_value_number, meant, string_fits}
use Rattle.c_rules.specs.PostfixExpressions.{Designator, direct, through, Callee, site_of, callee_of_type, callee_through, callee_by_value, all_fit, as_many_as, called, member_of}
use Rattle.c_rules.specs.UnaryExpressions.{address_of_form, address_of_type, address, indirection, unary_of_value, size_of, size_of_expression, size_of_type, cast_of, null_cast}
use Rattle.c_rules.specs.BinaryExpressions.{sum, choice, operation}
use Rattle.c_rules.specs.Assignments.{assignable, operator_of_assignment, assignment_by, one_for, step, last_type, comma_of}
use Rattle.c_rules.specs.Declarators.{name_of, place_or, place_of_type, is_void_pointer, type_of_spec, within_parts, pointer_to, array_of, function_of, parameter_of, with_name_demands, behind_parameter, new_name}
use Rattle.c_rules.specs.Expressions.{value_at, place_at, callee, access, after_operand, before_operand, unary_rule, infix_rule, cast_rule, tree, trees, type_named, declared, size_in, parameters, value, type_declared}
use Rattle.c_rules.proofs.Integers.{integer_cases, size_holds}
use Rattle.c_rules_laws.specs.ClosedTypes.{AreClosed, AllHave, MeaningHas, ScopeHas, CalledTypeHas, CalleeHas}
use Rattle.c_rules_laws.specs.MadeTypes.{NotArray, Made, AllMade}
use Rattle.c_rules_laws.specs.RightScopes.{MeaningTyped, IsKnown}
use Rattle.c_rules_laws.proofs.Holding.{Each, Holds, holds_map, on_holds, both_hold, all_three_hold, Any, anything, demand_holds, behind_demand, after_part, if_holds}
use Rattle.c_rules_laws.proofs.MadeTypes.{scalar_is, result_is, complete_known, defined_at}
use Rattle.c_rules_laws.proofs.Operators.{bound_holds, callee_holds, IsMember, a_member, IsLedTo, led, OfOne, leads, ArePointers, left_null, OfTwo, adds_right, adds_left, takes, OfChoice, integers_chosen, pointers_chosen, voids_chosen, OfUpdate, assigns, member_agrees, indirection_agrees, unary_agrees, operation_agrees, infix_agrees, choice_agrees, assignment_agrees, step_agrees}

-- ## Declarators

spec_made : (structs : Structs) (env : Env) (at : ℕ) (s : Spec) → Holds (Made structs) (type_of_spec env at s)
spec_made structs env at (syntax.struct x) = demand_holds (Made structs) _ 2 x.at _ (λ _. tt)
spec_made structs env at (syntax.enum x) = demand_holds (Made structs) _ 1 at _ (λ _. tt)
spec_made structs env at s = tt

pub named_holds : (P : CType → Type 0) (env : Env) (o : Option Ident) (r : Checked CType) → Holds P r → Holds P (with_name_demands env o r)
named_holds P env None r h = h
named_holds P env (Some x) r h = both_hold P Any P r (new_name env x) _ h (anything (new_name env x)) (λ t _ k _. k)

module _ (structs : Structs) where
  within_made : (at : ℕ) (t : CType) → Made structs t → Holds (Made structs) (within_parts at t)
  within_made at t h = demand_holds (Made structs) (few_parts t) 13 at t (λ _. h)

  pointer_made : (at : ℕ) (t : CType) → Made structs t → Holds (Made structs) (pointer_to at t)
  pointer_made at void h = tt
  pointer_made at (array t n) h = tt
  pointer_made at t h = within_made at (pointer t) (tt, h)

  function_made : (at : ℕ) (t : CType) (ts : CTypes) → Made structs t → AllMade structs ts → Holds (Made structs) (function_of at t ts)
  function_made at t ts h k =
      behind_demand (Made structs) (is_result t) 3 at _ (λ r. behind_demand (Made structs) (nat_le (count ts) 16) 13 at _ (λ l. within_made at (function t ts) (result_is t r, leb-true (count ts) 16 l, h, k)))

  abbrev pub ParameterMade : CType → Type 0
  ParameterMade t = IsScalar t × Made structs t

  adjusted_made : (t : CType) → Made structs t → Made structs (adjusted t)
  adjusted_made (array t n) h = (h.0, h.2)
  adjusted_made (function t ts) h = (tt, h)
  adjusted_made t h = h

  parameter_made : (at : ℕ) (t : CType) → Made structs t → Holds ParameterMade (parameter_of at t)
  parameter_made at t h =
      behind_demand ParameterMade (is_scalar (adjusted t)) 3 at _ (λ s. demand_holds ParameterMade (few_parts (adjusted t)) 13 at (adjusted t) (λ _. (scalar_is (adjusted t) s, adjusted_made t h)))

layout_behind : (env : Env) (k : ℕ) (o : Option Ident) (r : Checked CType) → layout_of (behind_parameter env k o r) ≡ layout_of env
layout_behind env k None r = refl
layout_behind env k (Some x) r = refl

array_made : (env : Env) (at : ℕ) (t : CType) (n : ℕ) → Made (layout_of env) t → Holds (Made (layout_of env)) (array_of env at t n)
array_made env at (integer i) n h = within_made (layout_of env) at (array (integer i) n) (tt, tt, tt)
array_made env at (pointer t) n h = within_made (layout_of env) at (array (pointer t) n) (tt, tt, h)
array_made env at (struct s) n h =
    on_holds (λ _. IsComplete (layout_of env) (struct s)) (Made (layout_of env)) (complete env at (struct s)) _ (complete_known env at (struct s) tt) (λ _ c. within_made (layout_of env) at (array (struct s) n) (tt, c, tt))
array_made env at t n h = tt

mutual
  declared_made : (d : Declarator) (env : Env) (structs : Structs) → layout_of env ≡ structs → (t : CType) → Made structs t → Holds (Made structs) (declared env d t)
  declared_made (syntax.pointer at d) env structs e t h = on_holds (Made structs) (Made structs) (pointer_to at t) (λ u. declared env d u) (pointer_made structs at t h) (λ u k. declared_made d env structs e u k)
  declared_made (syntax.array at d size) env structs e t h =
      on_holds (Made structs) (Made structs) (on (size_in env size) (array_of env at t)) (λ u. declared env d u)
      (after_part (Made structs) (size_in env size) (array_of env at t) (λ n. subst (λ z. Holds (Made z) (array_of env at t n)) e (array_made env at t n (subst (λ z. Made z t) (sym e) h))))
      (λ u k. declared_made d env structs e u k)
  declared_made (syntax.function at d ps) env structs e t h =
      on_holds (Made structs) (Made structs) (on (parameters (inside env) 0 ps) (function_of at t)) (λ u. declared env d u)
      (on_holds (AllMade structs) (Made structs) (parameters (inside env) 0 ps) (function_of at t) (parameters_made ps (inside env) structs e 0) (λ ts k. function_made structs at t ts h k))
      (λ u k. declared_made d env structs e u k)
  declared_made d env structs e t h = h

  parameters_made : (ps : Params) (env : Env) (structs : Structs) → layout_of env ≡ structs → (k : ℕ) → Holds (AllMade structs) (parameters env k ps)
  parameters_made no_params env structs e k = tt
  parameters_made (more_params at s d ps) env structs e k =
      let r : Checked CType = on (on (type_of_spec env at s) (λ t. declared env d t)) (parameter_of (place_or at d)) in
      both_hold (ParameterMade structs) (AllMade structs) (AllMade structs) (with_name_demands env (name_of d) r) (parameters (behind_parameter env k (name_of d) r) k ps) (λ t ts. fine (more_types t ts))
      (named_holds (ParameterMade structs) env (name_of d) r (on_holds (Made structs) (ParameterMade structs) (on (type_of_spec env at s) (λ t. declared env d t)) (parameter_of (place_or at d))
      (on_holds (Made structs) (Made structs) (type_of_spec env at s) (λ t. declared env d t) (spec_made structs env at s) (λ t h. declared_made d env structs e t h)) (λ t h. parameter_made structs (place_or at d) t h)))
      (parameters_made ps (behind_parameter env k (name_of d) r) structs (layout_behind env k (name_of d) r ∙ e) k)
      (λ t ts h k. (h.0, h.1, k))

pub type_declared_made : (env : Env) (at : ℕ) (s : Spec) (d : Declarator) → Holds (Made (layout_of env)) (type_declared env at s d)
type_declared_made env at s d = on_holds (Made (layout_of env)) (Made (layout_of env)) (type_of_spec env at s) (declared env d) (spec_made (layout_of env) env at s) (λ t h. declared_made d env (layout_of env) refl t h)

pub type_named_made : (env : Env) (t : TypeName) → Holds (Made (layout_of env)) (type_named env t)
type_named_made env (type_name at s d) = type_declared_made env at s d

-- A place has a type that objects may have, and a value one that values may have. What is behind a pointer keeps the pointer, so that &
-- gives it again.
abbrev pub FormHas : (W V : CType → Type 0) → Form → CType → Type 0
FormHas W V (a_value e) t = V t
FormHas W V (a_place e) t = W t
FormHas W V (behind p) t = W t × V (pointer t)

abbrev pub TypedExpressionHas : (W V : CType → Type 0) → TypedExpression → Type 0
TypedExpressionHas W V g = FormHas W V g.form g.ctype

abbrev pub ValueHas : (CType → Type 0) → TypedExpression → Type 0
ValueHas V g = V g.ctype

abbrev pub ValuesHave : (CType → Type 0) → List TypedExpression → Type 0
ValuesHave V = Each (ValueHas V)

loaded_type : (g : TypedExpression) (f : Form) → (loaded g f).ctype ≡ g.ctype
loaded_type g (a_value e) = refl
loaded_type g f = refl

module _ (W V : CType → Type 0) (closed : AreClosed W V) where
  int_has : (i : IntType) → V (integer i)
  int_has i = closed.loaded (integer i) (closed.integers i)

  nothing_has : V void
  nothing_has = closed.loaded void closed.nothing

  -- ## Conversions

  form_value : (f : Form) (t : CType) → FormHas W V f t → V t
  form_value (a_value e) t h = h
  form_value (a_place e) t h = closed.loaded t h
  form_value (behind p) t h = closed.loaded t h.0

  given_value : (g : TypedExpression) → TypedExpressionHas W V g → V g.ctype
  given_value g h = form_value g.form g.ctype h

  valued_as_typed : (env : Env) (at : ℕ) (g : TypedExpression) (t : CType) → g.ctype ≡ t → V t → Holds (ValueHas V) (valued_as env at g t)
  valued_as_typed env at g (array t n) e h = closed.decayed t n h
  valued_as_typed env at g (struct s) e h = tt
  valued_as_typed env at g (function t ts) e h =
      demand_holds (ValueHas V) (few_parts (pointer g.ctype)) 13 at _ (λ f. subst (λ u. V (pointer u)) (sym e) (closed.functions t ts h (subst (λ u. few_parts (pointer u) ≡ true) e f)))
  valued_as_typed env at g t e h = subst V (sym (loaded_type g g.form ∙ e)) h

  valued_typed : (env : Env) (at : ℕ) (g : TypedExpression) → ValueHas V g → Holds (ValueHas V) (valued env at g)
  valued_typed env at g h = valued_as_typed env at g g.ctype refl h

  -- ## Calls

  callee_result : (d : Designator) (t : CType) (ts : CTypes) → CalledTypeHas V d (function t ts) → V t
  callee_result (direct n) t ts h = closed.results t ts h
  callee_result (through e) t ts h = closed.results t ts (closed.loaded (function t ts) (closed.led (function t ts) tt h))

  called_typed : (at : ℕ) (f : Callee) (site : ℕ) (gs : List TypedExpression) → CalleeHas V f → Holds (TypedExpressionHas W V) (called at f site gs)
  called_typed at f site gs h =
      behind_demand (TypedExpressionHas W V) (as_many_as f.parameters gs) 5 at _ (λ _. demand_holds (TypedExpressionHas W V) (all_fit f.parameters gs) 3 at _ (λ _. callee_result f.designator f.returns f.parameters h))

  callee_type : (at : ℕ) (t : CType) (f : ℕ) → V t → Holds (CalleeHas V) (callee_of_type at t f)
  callee_type at (function t ts) f h = h
  callee_type at t f h = tt

  callee_through_typed : (at : ℕ) (e : _) (t : CType) → V t → Holds (CalleeHas V) (callee_through at e t)
  callee_through_typed at e (pointer (function t ts)) h = h
  callee_through_typed at e t h = tt

  -- ## Unary operators

  address_form_typed : (at : ℕ) (g : TypedExpression) (f : Form) → NotArray g.ctype → FormHas W V f g.ctype → Holds (TypedExpressionHas W V) (address_of_form at g f)
  address_form_typed at g (a_value e) n h = tt
  address_form_typed at g (a_place e) n h = demand_holds (TypedExpressionHas W V) (few_parts (pointer g.ctype)) 13 at _ (λ f. closed.pointers g.ctype n h f)
  address_form_typed at g (behind p) n h = h.1

  address_type_typed : (at : ℕ) (g : TypedExpression) (t : CType) → g.ctype ≡ t → TypedExpressionHas W V g → Holds (TypedExpressionHas W V) (address_of_type at g t)
  address_type_typed at g (array t n) e h = tt
  address_type_typed at g t e h = address_form_typed at g g.form (subst NotArray (sym e) tt) h

  address_typed : (at place : ℕ) (g : TypedExpression) → TypedExpressionHas W V g → Holds (TypedExpressionHas W V) (address at place g)
  address_typed at place g h = behind_demand (TypedExpressionHas W V) (is_place g || is_function g.ctype) 4 place _ (λ _. address_type_typed at g g.ctype refl h)

  led_typed : (g h : TypedExpression) → IsLedTo g h → V g.ctype → TypedExpressionHas W V h
  led_typed g h (led t e n) v = (closed.led t n (subst V e v), subst V e v)

  indirection_typed : (at : ℕ) (g : TypedExpression) → V g.ctype → Holds (TypedExpressionHas W V) (indirection at g)
  indirection_typed at g v = holds_map (IsLedTo g) (TypedExpressionHas W V) (λ h k. led_typed g h k v) (indirection at g) (indirection_agrees at at g).has

  one_typed : (g h : TypedExpression) → OfOne g h → V g.ctype → TypedExpressionHas W V h
  one_typed g h (leads x k) v = led_typed g x k v
  one_typed g h k v = int_has _

  unary_typed : (at o : ℕ) (g : TypedExpression) → ValueHas V g → Holds (TypedExpressionHas W V) (unary_of_value at o g)
  unary_typed at o g v = holds_map (OfOne g) (TypedExpressionHas W V) (λ h k. one_typed g h k v) (unary_of_value at o g) (unary_agrees at at g o).has

  cast_typed : (at : ℕ) (t : CType) (g : TypedExpression) → Holds (TypedExpressionHas W V) (cast_of at t g)
  cast_typed at void g = nothing_has
  cast_typed at (integer i) g = demand_holds (TypedExpressionHas W V) (is_integer g.ctype) 3 at (cast_to i g) (λ _. int_has i)
  cast_typed at t g = tt

  -- ## Binary operators

  two_typed : (env : Env) (at : ℕ) (a b g : TypedExpression) → OfTwo env at a b g → ValueHas V a → ValueHas V b → TypedExpressionHas W V g
  two_typed env at a b g (adds_right t e i c) h k = subst V e h
  two_typed env at a b g (adds_left t e i c) h k = subst V e k
  two_typed env at a b g (takes t e i c) h k = subst V e h
  two_typed env at a b g x h k = int_has _

  operation_typed : (env : Env) (at : ℕ) (o : BinOp) (a b : TypedExpression) → ValueHas V a → ValueHas V b → Holds (TypedExpressionHas W V) (operation env at o a b)
  operation_typed env at o a b h k = holds_map (OfTwo env at a b) (TypedExpressionHas W V) (λ g x. two_typed env at a b g x h k) (operation env at o a b) (operation_agrees env at at a b o).has

  infix_typed : (env : Env) (at : ℕ) (o : Infix) (a b : TypedExpression) → ValueHas V a → ValueHas V b → Holds (TypedExpressionHas W V) (infix_rule env at o a b)
  infix_typed env at o a b h k = holds_map (OfTwo env at a b) (TypedExpressionHas W V) (λ g x. two_typed env at a b g x h k) (infix_rule env at o a b) (infix_agrees env at at a b o).has

  pointers_typed : (a b x y : TypedExpression) → ArePointers a b x y → ValueHas V a → ValueHas V b → ValueHas V x
  pointers_typed a b x y (left_null t e n) g h = h
  pointers_typed a b x y p g h = g

  choice_of_typed : (c a b g : TypedExpression) → OfChoice c a b g → ValueHas V a → ValueHas V b → TypedExpressionHas W V g
  choice_of_typed c a b g (integers_chosen i s j k) h l = int_has i
  choice_of_typed c a b g (pointers_chosen x y s p) h l = pointers_typed a b x y p h l
  choice_of_typed c a b g (voids_chosen s v) h l = nothing_has

  choice_typed : (at : ℕ) (c a b : TypedExpression) → ValueHas V a → ValueHas V b → Holds (TypedExpressionHas W V) (choice at c a b)
  choice_typed at c a b h k = holds_map (OfChoice c a b) (TypedExpressionHas W V) (λ g x. choice_of_typed c a b g x h k) (choice at c a b) (choice_agrees at at c a b).has

  -- ## Assignments

  update_typed : (env : Env) (at : ℕ) (o : BinOp) (a b g : TypedExpression) → OfUpdate env at o a b g → TypedExpressionHas W V a → TypedExpressionHas W V g
  update_typed env at o a b g (assigns f) h = given_value a h
  update_typed env at o a b g u h = given_value a h

  assignment_by_typed : (env : Env) (at o : ℕ) (p v : TypedExpression) → TypedExpressionHas W V p → Holds (TypedExpressionHas W V) (assignment_by env at o p v)
  assignment_by_typed env at o p v h = holds_map (OfUpdate env at (operator_of_assignment o) p v) (TypedExpressionHas W V) (λ g u. update_typed env at (operator_of_assignment o) p v g u h) (assignment_by env at o p v) (assignment_agrees env at at o p v).has

  step_typed : (env : Env) (at : ℕ) (o : BinOp) (old : Bool) (p : TypedExpression) → TypedExpressionHas W V p → Holds (TypedExpressionHas W V) (step env at o old p)
  step_typed env at o old p h = holds_map (OfUpdate env at o p (one_for (kind_of p.ctype))) (TypedExpressionHas W V) (λ g u. update_typed env at o p (one_for (kind_of p.ctype)) g u h) (step env at o old p) (step_agrees env at at o old p).has

  last_typed : (t : CType) (gs : List TypedExpression) → V t → ValuesHave V gs → V (last_type t gs)
  last_typed t [] h k = h
  last_typed t (g ∷ gs) h k = last_typed g.ctype gs k.0 k.1

  -- ## Members

  all_got : (ts : List CType) (k : ℕ) → AllHave W ts → W (get_or ts k void)
  all_got [] k h = closed.nothing
  all_got (t ∷ ts) zero h = h.0
  all_got (t ∷ ts) (suc k) h = all_got ts k h.1

  member_got : (env : Env) → ScopeHas W env → (x : Name) (g h : TypedExpression) → IsMember env x g h → TypedExpressionHas W V h
  member_got env w x g h (a_member s ms k e q n) = all_got (map type_of_member ms) k (w.members s ms q)

  member_typed : (env : Env) → ScopeHas W env → (at : ℕ) (x : Name) (g : TypedExpression) → Holds (TypedExpressionHas W V) (member_of env at x g)
  member_typed env w at x g = holds_map (IsMember env x g) (TypedExpressionHas W V) (λ h k. member_got env w x g h k) (member_of env at x g) (member_agrees env at at x g).has

  -- ## Expressions

  meant_typed : (env : Env) (at : ℕ) (x : Name) (m : Meaning) → MeaningHas W m → Holds (TypedExpressionHas W V) (meant env at x m)
  meant_typed env at x (a_static seen whole d) h = after_part (TypedExpressionHas W V) (used env.context at (object_number env x)) _ (λ _. h)
  meant_typed env at x (a_local n seen whole) h = h
  meant_typed env at x (a_function t d) h = after_part (TypedExpressionHas W V) (function_value_number env at x) _ (λ _. h)
  meant_typed env at x (an_enumerator z) h = int_has _
  meant_typed env at x (unknown f fs) h = tt

  value_at_typed : (env : Env) (place : ℕ) (r : Checked TypedExpression) → Holds (TypedExpressionHas W V) r → Holds (ValueHas V) (value_at env place r)
  value_at_typed env place r h = on_holds (TypedExpressionHas W V) (ValueHas V) r (valued env place) h (λ g k. valued_typed env place g (given_value g k))

  place_at_typed : (env : Env) (place : ℕ) (r : Checked TypedExpression) → Holds (TypedExpressionHas W V) r → Holds (TypedExpressionHas W V) (place_at place r)
  place_at_typed env place r h = on_holds (TypedExpressionHas W V) (TypedExpressionHas W V) r (assignable place) h (λ g k. demand_holds (TypedExpressionHas W V) (is_place g) 4 place g (λ _. k))

  pub callee_typed : (env : Env) → ScopeHas W env → (at : ℕ) (d : Expr) (r : Checked TypedExpression) → Holds (ValueHas V) r → Holds (CalleeHas V) (callee env at d r)
  callee_typed env w at d r h =
      callee_holds (λ _. CalleeHas V) env at d r (on_holds (ValueHas V) (CalleeHas V) r (callee_by_value at) h (λ g k. callee_through_typed at _ g.ctype k))
      (λ place x b t k e q. after_part (CalleeHas V) (used env.context place (function_number env x)) (callee_of_type place t) (λ f. callee_type place t f (closed.loaded t (subst (MeaningHas W) q (w.names x b e)))))

  access_typed : (env : Env) → ScopeHas W env → (at place : ℕ) (how : Access) (x : Name) (r : Checked TypedExpression) → Holds (TypedExpressionHas W V) (access env at place how x r)
  access_typed env w at place dot x r = after_part (TypedExpressionHas W V) r (member_of env at x) (λ g. member_typed env w at x g)
  access_typed env w at place arrow x r = after_part (TypedExpressionHas W V) (on (value_at env place r) (indirection at)) (member_of env at x) (λ g. member_typed env w at x g)

  after_operand_typed : (env : Env) (at place : ℕ) (o : Postfix) (r : Checked TypedExpression) → Holds (TypedExpressionHas W V) r → Holds (TypedExpressionHas W V) (after_operand env at place o r)
  after_operand_typed env at place post_increment r h = on_holds (TypedExpressionHas W V) (TypedExpressionHas W V) (place_at place r) (step env at Add true) (place_at_typed env place r h) (λ g k. step_typed env at Add true g k)
  after_operand_typed env at place post_decrement r h = on_holds (TypedExpressionHas W V) (TypedExpressionHas W V) (place_at place r) (step env at Sub true) (place_at_typed env place r h) (λ g k. step_typed env at Sub true g k)

  size_typed : (env : Env) (at place : ℕ) (t : CType) → Holds (TypedExpressionHas W V) (size_of env at place t)
  size_typed env at place t = size_holds (TypedExpressionHas W V) env at place t (λ _. int_has _)

  before_operand_typed : (env : Env) (at place : ℕ) (o : Prefix) (r s : Checked TypedExpression) → Holds (TypedExpressionHas W V) r → Holds (TypedExpressionHas W V) (before_operand env at place o r s)
  before_operand_typed env at place pre_increment r s h = on_holds (TypedExpressionHas W V) (TypedExpressionHas W V) (place_at place r) (step env at Add false) (place_at_typed env place r h) (λ g k. step_typed env at Add false g k)
  before_operand_typed env at place pre_decrement r s h = on_holds (TypedExpressionHas W V) (TypedExpressionHas W V) (place_at place r) (step env at Sub false) (place_at_typed env place r h) (λ g k. step_typed env at Sub false g k)
  before_operand_typed env at place sizeof r s h = after_part (TypedExpressionHas W V) s (size_of_expression env at) (λ g. size_typed env at at g.ctype)

  unary_rule_typed : (env : Env) (at place o : ℕ) (r : Checked TypedExpression) → Holds (TypedExpressionHas W V) r → Holds (TypedExpressionHas W V) (unary_rule env at place o r)
  unary_rule_typed env at place o r h =
      if_holds (TypedExpressionHas W V) (nat_eq o AMPERSAND) _ _ (on_holds (TypedExpressionHas W V) (TypedExpressionHas W V) r (address at place) h (λ g k. address_typed at place g k))
      (on_holds (ValueHas V) (TypedExpressionHas W V) (value_at env place r) (unary_of_value at o) (value_at_typed env place r h) (λ g k. unary_typed at o g k))

  cast_rule_typed : (env : Env) (v : Bool) (at : ℕ) (t : Checked CType) (r : Checked TypedExpression) → Holds (TypedExpressionHas W V) (cast_rule v at t r)
  cast_rule_typed env true at t r = after_part (TypedExpressionHas W V) r (null_cast at) (λ g. demand_holds (TypedExpressionHas W V) (is_integer g.ctype && is_null g) 3 at (null_of (pointer void)) (λ _. closed.null))
  cast_rule_typed env false at t r = both_hold Any Any (TypedExpressionHas W V) t r (cast_of at) (anything t) (anything r) (λ u g _ _. cast_typed at u g)

  mutual
    tree_typed : (x : Expr) (env : Env) → ScopeHas W env → (b : Before) → Holds (TypedExpressionHas W V) (tree env b x)
    tree_typed (a_name at x) env w b = bound_holds (TypedExpressionHas W V) env at x (binding_of env x) (λ c e. meant_typed env at x c.means (w.names x c e))
    tree_typed (an_int at n u) env w b = integer_cases (TypedExpressionHas W V) n u (λ _. int_has _) (int_has _)
    tree_typed (a_char at c) env w b = int_has _
    tree_typed (a_str at s) env w b = after_part (TypedExpressionHas W V) (string_fits env.context at b.cells (suc (length s))) _ (λ _. closed.strings (suc (length s)))
    tree_typed (comma at es) env w b = on_holds (ValuesHave V) (TypedExpressionHas W V) (trees env b es) (λ gs. fine (comma_of gs)) (trees_typed es env w b) (λ gs k. last_typed void gs nothing_has k)
    tree_typed (sizeof_type at t) env w b = after_part (TypedExpressionHas W V) (type_named env t) (size_of_type env at (place_of_type t)) (λ u. size_typed env at (place_of_type t) u)
    tree_typed (cast at t e) env w b = cast_rule_typed env (is_void_pointer t) at (type_named env t) (value_at env (place_of e) (tree env b e))
    tree_typed (call at d es) env w b =
        all_three_hold (CalleeHas V) Any (ValuesHave V) (TypedExpressionHas W V) (callee env at d (value_at env (place_of d) (tree env b d))) (site_of env (b.sites + calls d) at) (trees env (after_designator b d) es) (called at)
        (callee_typed env w at d (value_at env (place_of d) (tree env b d)) (value_at_typed env (place_of d) (tree env b d) (tree_typed d env w b))) (anything (site_of env (b.sites + calls d) at)) (trees_typed es env w (after_designator b d)) (λ f s gs h _ k. called_typed at f s gs h)
    tree_typed (member at how e y) env w b = access_typed env w at (place_of e) how y.name (tree env b e)
    tree_typed (postfix at o e) env w b = after_operand_typed env at (place_of e) o (tree env b e) (tree_typed e env w b)
    tree_typed (prefix at o e) env w b = before_operand_typed env at (place_of e) o (tree env b e) (tree (in_context env sized) nothing_before e) (tree_typed e env w b)
    tree_typed (unary at o e) env w b = unary_rule_typed env at (place_of e) o (tree env b e) (tree_typed e env w b)
    tree_typed (index at e f) env w b =
        on_holds (TypedExpressionHas W V) (TypedExpressionHas W V) (both (value_at env (place_of e) (tree env b e)) (value_at env (place_of f) (tree env (after b e) f)) (sum env at)) (indirection at)
        (both_hold (ValueHas V) (ValueHas V) (TypedExpressionHas W V) (value_at env (place_of e) (tree env b e)) (value_at env (place_of f) (tree env (after b e) f)) (sum env at) (value_at_typed env (place_of e) (tree env b e) (tree_typed e env w b)) (value_at_typed env (place_of f) (tree env (after b e) f) (tree_typed f env w (after b e))) (λ g h k m. operation_typed env at Add g h k m))
        (λ g k. indirection_typed at g (given_value g k))
    tree_typed (binary at o e f) env w b =
        both_hold (ValueHas V) (ValueHas V) (TypedExpressionHas W V) (value_at env (place_of e) (tree env b e)) (value_at env (place_of f) (tree env (after b e) f)) (infix_rule env at o) (value_at_typed env (place_of e) (tree env b e) (tree_typed e env w b)) (value_at_typed env (place_of f) (tree env (after b e) f) (tree_typed f env w (after b e))) (λ g h k m. infix_typed env at o g h k m)
    tree_typed (assign at o e f) env w b =
        both_hold (TypedExpressionHas W V) Any (TypedExpressionHas W V) (place_at (place_of e) (tree env b e)) (value_at env (place_of f) (tree env (after b e) f)) (assignment_by env at o) (place_at_typed env (place_of e) (tree env b e) (tree_typed e env w b)) (anything (value_at env (place_of f) (tree env (after b e) f))) (λ g h k _. assignment_by_typed env at o g h k)
    tree_typed (conditional at c e f) env w b =
        all_three_hold Any (ValueHas V) (ValueHas V) (TypedExpressionHas W V) (value_at env (place_of c) (tree env b c)) (value_at env (place_of e) (tree env (after b c) e)) (value_at env (place_of f) (tree env (after (after b c) e) f)) (choice at)
        (anything (value_at env (place_of c) (tree env b c))) (value_at_typed env (place_of e) (tree env (after b c) e) (tree_typed e env w (after b c))) (value_at_typed env (place_of f) (tree env (after (after b c) e) f) (tree_typed f env w (after (after b c) e))) (λ g h i _ k m. choice_typed at g h i k m)

    trees_typed : (xs : Exprs) (env : Env) → ScopeHas W env → (b : Before) → Holds (ValuesHave V) (trees env b xs)
    trees_typed no_exprs env w b = tt
    trees_typed (more_exprs x xs) env w b =
        both_hold (ValueHas V) (ValuesHave V) (ValuesHave V) (value_at env (place_of x) (tree env b x)) (trees env (after b x) xs) (λ g gs. fine (g ∷ gs)) (value_at_typed env (place_of x) (tree env b x) (tree_typed x env w b)) (trees_typed xs env w (after b x)) (λ g gs h k. (h, k))

  pub value_typed : (env : Env) → ScopeHas W env → (b : Before) (x : Expr) → Holds (ValueHas V) (value env b x)
  value_typed env w b x = value_at_typed env (place_of x) (tree env b x) (tree_typed x env w b)

-- ## Types that declarators make

made_closed : (structs : Structs) → AreClosed (Made structs) (Made structs)
made_closed structs = record {
  nothing = tt;
  integers = λ i. tt;
  strings = λ n. (tt, tt, tt);
  null = (tt, tt);
  loaded = λ t h. h;
  decayed = λ t n h. (h.0, h.2);
  functions = λ t ts h f. (tt, h);
  led = λ t k h. h.1;
  results = λ t ts h. h.2;
  pointers = λ t n h f. (n, h);
}

meaning_made : (structs : Structs) (m : Meaning) → MeaningTyped structs m → MeaningHas (Made structs) m
meaning_made structs (a_static seen whole d) h = h.0.made
meaning_made structs (a_local n seen whole) h = h.0.made
meaning_made structs (a_function t d) h = h.0
meaning_made structs m h = tt

all_have : (W : CType → Type 0) (ts : List CType) → All W ts → AllHave W ts
all_have W [] h = tt
all_have W (t ∷ ts) h = (All-head W t ts h, all_have W ts (All-tail W t ts h))

known_has : (env : Env) → IsKnown env → ScopeHas (Made (layout_of env)) env
known_has env w = record {
  names = λ x b e. meaning_made (layout_of env) b.means (w.meanings x b e);
  members = λ s ms e. all_have (Made (layout_of env)) (map type_of_member ms) (w.sound.made s (map type_of_member ms) (defined_at env s ms e));
}

-- what a callee gives
pub result_made : (structs : Structs) (d : Designator) (t : CType) (ts : CTypes) → CalledTypeHas (Made structs) d (function t ts) → IsResult t
result_made structs (direct n) t ts h = h.0
result_made structs (through e) t ts h = h.1.0

module _ (env : Env) where
  abbrev T : CType → Type 0
  T = Made (layout_of env)

  abbrev pub TypeMade : TypedExpression → Type 0
  TypeMade = ValueHas (Made (layout_of env))

  given_made : (r : Checked TypedExpression) → Holds (TypedExpressionHas T T) r → Holds TypeMade r
  given_made r h = holds_map (TypedExpressionHas T T) TypeMade (λ g k. given_value T T (made_closed (layout_of env)) g k) r h

  pub valued_made : (at : ℕ) (g : TypedExpression) → TypeMade g → Holds TypeMade (valued env at g)
  valued_made at g h = valued_typed T T (made_closed (layout_of env)) env at g h

  pub sum_made : (at : ℕ) (a b : TypedExpression) → TypeMade a → TypeMade b → Holds TypeMade (sum env at a b)
  sum_made at a b h k = given_made (sum env at a b) (operation_typed T T (made_closed (layout_of env)) env at Add a b h k)

  pub tree_made : (x : Expr) → IsKnown env → (b : Before) → Holds TypeMade (tree env b x)
  tree_made x w b = given_made (tree env b x) (tree_typed T T (made_closed (layout_of env)) x env (known_has env w) b)

  pub callee_made : (at : ℕ) (x : Expr) → IsKnown env → (b : Before) → Holds (CalleeHas T) (callee env at x (value env b x))
  callee_made at x w b = callee_typed T T (made_closed (layout_of env)) env (known_has env w) at x (value env b x) (value_typed T T (made_closed (layout_of env)) env (known_has env w) b x)
