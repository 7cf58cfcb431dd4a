-- What the rules on expressions give calls no other function than their parts do.
use Rattle.std.proofs.Common.{◌≡◌, ℕ, ◌<◌, Bool, true, false, if◌then◌else◌, ◌||◌, List, [], ◌∷◌, map, Option, Some, None, nat_eq, subst}
use Rattle.c_tree.specs.declared.value.IntType.{IntType}
use Rattle.c_tree.specs.declared.value.UnOp.{UnOp}
use Rattle.c_tree.specs.declared.value.BinOp.{BinOp}
use Rattle.c_tree.specs.declared.value.BinOp.TheVariants as op
use Rattle.c_syntax.specs.TheConstants.{ASTERISK, PLUS, MINUS, TILDE, ASSIGN}
use Rattle.c_tree.specs.Tree.{CType, void, integer, pointer, array, struct, function, CTypes, more_types, assign, and, or, unary_operation}
use Rattle.c_tree.specs.Operands.{promoted, common, OperatorKind, balanced, shift, ordering, equality}
use Rattle.c_tree.specs.Operands.{kind_of as kind_of_operator}
use Rattle.c_rules.specs.Checked.{Checked, fine, faulty, on, both, all_three, gives, demand, met, fails_with, parts_first}
use Rattle.c_rules.specs.Names.{Name, number_among}
use Rattle.c_rules.specs.Scopes.{Env, Struct, defined_struct, Member, struct_of}
use Rattle.c_rules.specs.Assignments.{moves, assignable, assignment, operator_of_assignment, updated, update_of, assignment_by, one_for, step, trees_of}
use Rattle.c_rules.specs.TypedExpression.{not_constant, Form, a_value, a_place, behind, TypedExpression, tree_of_form, tree_of, is_place, is_null, integer_constant, typed_value}
use Rattle.c_rules.specs.Conversions.{Kind, an_integer, a_pointer, neither, kind_of, complete, few_parts, loaded, valued_as, cast_to, has_integer, converted_to, null_of, fits, assigned_as, assigned, as_if_assigned, condition}
use Rattle.c_rules.specs.PostfixExpressions.{Designator, direct, through, Callee, call_of, passed, as_many_as, all_fit, called, name_of_member, member_or_undeclared, member_of_struct, member_of_type}
use Rattle.c_rules.specs.UnaryExpressions.{address_of_form, address_of_type, address, led_to, plus_of, operator_of, unary_of_value, cast_of, null_cast}
use Rattle.c_rules.specs.BinaryExpressions.{sum_of, minus_of, balanced_of, shift_of, ordered_of, Alike, alike_integers, alike_pointers, unlike, alike_of, alike, equality_of, arithmetic_of, operation_of, operation, conjunction, disjunction, chosen, arms_of, choice, both_scalars, compared_pointers, difference}
use Rattle.c_rules.specs.NullCalls.{CallsBelow, AllBelow}
use Rattle.c_tree.specs.declared.value.UnOp.TheVariants.{Not}
use Rattle.c_tree.specs.Functions.{int}
use Rattle.c_rules.specs.Constants.{constant_and, constant_or, constant_unary}
use Rattle.c_rules.specs.Types.{is_function, is_integer, is_scalar, same_type}

-- what is fine has the property
abbrev pub Holds : {A : Type 0} → (A → Type 0) → Checked A → Type 0
Holds P (fine a) = P a
Holds P (faulty f fs) = Unit {0}

pub held : {A : Type 0} (P : A → Type 0) (r : Checked A) (a : A) → Holds P r → r ≡ fine a → P a
held P r a h e = subst (Holds P) e h

pub on_holds : {A B : Type 0} (P : A → Type 0) (Q : B → Type 0) (r : Checked A) (k : A → Checked B) → Holds P r → ((a : A) → P a → Holds Q (k a)) → Holds Q (on r k)
on_holds P Q (fine a) k h t = t a h
on_holds P Q (faulty f fs) k h t = tt

pub both_hold : {A B C : Type 0} (P : A → Type 0) (Q : B → Type 0) (R : C → Type 0) (p : Checked A) (q : Checked B) (k : A → B → Checked C) → Holds P p → Holds Q q → ((a : A) (b : B) → P a → Q b → Holds R (k a b)) → Holds R (both p q k)
both_hold P Q R (fine a) (fine b) k g h t = t a b g h
both_hold P Q R p q k g h t = tt

abbrev pub Any : {A : Type 0} → A → Type 0
Any a = Unit {0}

pub anything : {A : Type 0} (r : Checked A) → Holds Any r
anything (fine a) = tt
anything (faulty f fs) = tt

pub all_three_hold : {A B C D : Type 0} (P : A → Type 0) (Q : B → Type 0) (R : C → Type 0) (S : D → Type 0) (p : Checked A) (q : Checked B) (r : Checked C) (k : A → B → C → Checked D) → Holds P p → Holds Q q → Holds R r → ((a : A) (b : B) (c : C) → P a → Q b → R c → Holds S (k a b c)) → Holds S (all_three p q r k)
all_three_hold P Q R S (fine a) (fine b) (fine c) k g h i t = t a b c g h i
all_three_hold P Q R S p q r k g h i t = tt

pub demand_holds : {A : Type 0} (P : A → Type 0) (t : Bool) (code at : ℕ) (a : A) → P a → Holds P (demand t code at a)
demand_holds P true code at a h = h
demand_holds P false code at a h = tt

-- with one demand in place of what fails
pub alone_holds : {A : Type 0} (P : A → Type 0) (t : Bool) (code at : ℕ) (r : Checked A) → Holds P r → Holds P (fails_with t code at r)
alone_holds P t code at (fine a) h = h
alone_holds P true code at (faulty f fs) h = tt
alone_holds P false code at (faulty f fs) h = tt

-- beside the parts of a node
pub parts_first_holds : {A B : Type 0} (P : B → Type 0) (q : Checked A) (r : Checked B) → Holds P r → Holds P (parts_first q r)
parts_first_holds P q (fine b) h = h
parts_first_holds P (fine a) (faulty f fs) h = tt
parts_first_holds P (faulty g gs) (faulty f fs) h = tt

-- behind demands alone
pub after_demands : {A B : Type 0} (Q : B → Type 0) (r : Checked A) (k : A → Checked B) → ((a : A) → Holds Q (k a)) → Holds Q (on r k)
after_demands Q r k h = on_holds Any Q r k (anything r) (λ a _. h a)

-- what both have, the chosen one has
pub either_has : {A : Type 0} (P : A → Type 0) (t : Bool) (a b : A) → P a → P b → P (if t then a else b)
either_has P true a b h k = h
either_has P false a b h k = k

module _ (n : ℕ) where
  abbrev pub FormBelow : Form → Type 0
  FormBelow (a_value e) = CallsBelow n e
  FormBelow (a_place e) = CallsBelow n e
  FormBelow (behind p) = CallsBelow n p

  abbrev pub TypedExpressionBelow : TypedExpression → Type 0
  TypedExpressionBelow g = FormBelow g.form

  abbrev pub TypedExpressionsBelow : List TypedExpression → Type 0
  TypedExpressionsBelow [] = Unit {0}
  TypedExpressionsBelow (g ∷ gs) = TypedExpressionBelow g × TypedExpressionsBelow gs

  form_below : (t : CType) (f : Form) → FormBelow f → CallsBelow n (tree_of_form t f)
  form_below t (a_value e) h = h
  form_below t f h = h

  pub tree_below : (g : TypedExpression) → TypedExpressionBelow g → CallsBelow n (tree_of g)
  tree_below g h = form_below g.ctype g.form h

  loaded_below : (g : TypedExpression) (f : Form) → TypedExpressionBelow g → TypedExpressionBelow (loaded g f)
  loaded_below g (a_value e) h = h
  loaded_below g f h = tree_below g h

  pub valued_as_below : (env : Env) (at : ℕ) (g : TypedExpression) (t : CType) → TypedExpressionBelow g → Holds TypedExpressionBelow (valued_as env at g t)
  valued_as_below env at g (array t k) h = tree_below g h
  valued_as_below env at g (struct s) h = tt
  valued_as_below env at g (function t ts) h = demand_holds TypedExpressionBelow (few_parts (pointer g.ctype)) 13 at _ (tree_below g h)
  valued_as_below env at g t h = loaded_below g g.form h

  pub converted_below : (i : IntType) (g : TypedExpression) → TypedExpressionBelow g → TypedExpressionBelow (converted_to i g)
  converted_below i g h = either_has TypedExpressionBelow (has_integer i g.ctype) g (cast_to i g) h (tree_below g h)

  converted_tree : (i : IntType) (g : TypedExpression) → TypedExpressionBelow g → CallsBelow n (tree_of (converted_to i g))
  converted_tree i g h = tree_below (converted_to i g) (converted_below i g h)

  assigned_as_below : (k : Kind) (t : CType) (g : TypedExpression) → TypedExpressionBelow g → TypedExpressionBelow (assigned_as k t g)
  assigned_as_below (an_integer i) t g h = converted_below i g h
  assigned_as_below (a_pointer u) t g h = either_has TypedExpressionBelow (is_null g) (null_of t) g tt h
  assigned_as_below neither t g h = h

  pub assigned_below : (t : CType) (g : TypedExpression) → TypedExpressionBelow g → TypedExpressionBelow (assigned t g)
  assigned_below t g h = assigned_as_below (kind_of t) t g h

  pub as_if_below : (at : ℕ) (t : CType) (g : TypedExpression) → TypedExpressionBelow g → Holds TypedExpressionBelow (as_if_assigned at t g)
  as_if_below at t g h = demand_holds TypedExpressionBelow (fits t g) 3 at (assigned t g) (assigned_below t g h)

  pub condition_below : (at : ℕ) (g : TypedExpression) → TypedExpressionBelow g → Holds (CallsBelow n) (condition at g)
  condition_below at g h = demand_holds (CallsBelow n) _ 3 at (tree_of g) (tree_below g h)

  -- calls and members

  abbrev pub DesignatorBelow : Designator → Type 0
  DesignatorBelow (direct k) = k < n
  DesignatorBelow (through e) = CallsBelow n e

  abbrev pub CalleeBelow : Callee → Type 0
  CalleeBelow f = DesignatorBelow f.designator

  passed_below : (ts : CTypes) (gs : List TypedExpression) → TypedExpressionsBelow gs → AllBelow n (passed ts gs)
  passed_below (more_types t ts) (g ∷ gs) h = (tree_below (assigned t g) (assigned_below t g h.0), passed_below ts gs h.1)
  passed_below ts gs h = tt

  call_below : (d : Designator) (t : CType) (site : ℕ) (es : _) → DesignatorBelow d → AllBelow n es → CallsBelow n (call_of d t site es)
  call_below (direct f) t site es h k = (h, k)
  call_below (through e) t site es h k = (h, k)

  pub called_below : (at : ℕ) (f : Callee) (site : ℕ) (gs : List TypedExpression) → CalleeBelow f → TypedExpressionsBelow gs → Holds TypedExpressionBelow (called at f site gs)
  called_below at f site gs h k =
      after_demands TypedExpressionBelow (demand (as_many_as f.parameters gs) 5 at met) _ (λ _. demand_holds TypedExpressionBelow (all_fit f.parameters gs) 3 at _ (call_below f.designator f.returns site (passed f.parameters gs) h (passed_below f.parameters gs k)))

  member_or_below : (env : Env) (at : ℕ) (ms : List Member) (g : TypedExpression) (o : Option ℕ) → TypedExpressionBelow g → Holds TypedExpressionBelow (member_or_undeclared env at ms g o)
  member_or_below env at ms g None h = tt
  member_or_below env at ms g (Some k) h = tree_below g h

  member_struct_below : (env : Env) (at : ℕ) (x : Name) (g : TypedExpression) (s : Struct) → TypedExpressionBelow g → Holds TypedExpressionBelow (member_of_struct env at x g s)
  member_struct_below env at x g (defined_struct ms) h = member_or_below env at ms g (number_among (map name_of_member ms) x) h
  member_struct_below env at x g s h = tt

  pub member_type_below : (env : Env) (at : ℕ) (x : Name) (g : TypedExpression) (t : CType) → TypedExpressionBelow g → Holds TypedExpressionBelow (member_of_type env at x g t)
  member_type_below env at x g (struct s) h = member_struct_below env at x g (struct_of env s) h
  member_type_below env at x g t h = tt

  -- unary operators

  address_form_below : (at : ℕ) (g : TypedExpression) (f : Form) → FormBelow f → Holds TypedExpressionBelow (address_of_form at g f)
  address_form_below at g (a_value e) h = tt
  address_form_below at g (a_place e) h = demand_holds TypedExpressionBelow (few_parts (pointer g.ctype)) 13 at _ h
  address_form_below at g (behind p) h = h

  address_type_below : (at : ℕ) (g : TypedExpression) (t : CType) → TypedExpressionBelow g → Holds TypedExpressionBelow (address_of_type at g t)
  address_type_below at g (array t k) h = tt
  address_type_below at g t h = address_form_below at g g.form h

  pub address_below : (at place : ℕ) (g : TypedExpression) → TypedExpressionBelow g → Holds TypedExpressionBelow (address at place g)
  address_below at place g h = after_demands TypedExpressionBelow (demand (is_place g || is_function g.ctype) 4 place met) (λ x. address_of_type at g g.ctype) (λ _. address_type_below at g g.ctype h)

  pub led_below : (at : ℕ) (g : TypedExpression) (t : CType) → TypedExpressionBelow g → Holds TypedExpressionBelow (led_to at g t)
  led_below at g (pointer (integer i)) h = tree_below g h
  led_below at g (pointer (pointer t)) h = tree_below g h
  led_below at g (pointer (array t k)) h = tree_below g h
  led_below at g (pointer (struct s)) h = tree_below g h
  led_below at g (pointer (function t ts)) h = tree_below g h
  led_below at g t h = tt

  plus_below : (at : ℕ) (g : TypedExpression) (k : Kind) → TypedExpressionBelow g → Holds TypedExpressionBelow (plus_of at g k)
  plus_below at g (an_integer i) h = tree_below g h
  plus_below at g k h = tt

  operator_below : (at : ℕ) (o : UnOp) (g : TypedExpression) (k : Kind) → TypedExpressionBelow g → Holds TypedExpressionBelow (operator_of at o g k)
  operator_below at o g (an_integer i) h = converted_tree (promoted i) g h
  operator_below at o g k h = tt

  pub unary_below : (at o : ℕ) (g : TypedExpression) → TypedExpressionBelow g → Holds TypedExpressionBelow (unary_of_value at o g)
  unary_below at o g h =
      either_has (Holds TypedExpressionBelow) (nat_eq o ASTERISK) _ _ (led_below at g g.ctype h)
      (either_has (Holds TypedExpressionBelow) (nat_eq o PLUS) _ _ (plus_below at g (kind_of g.ctype) h)
      (either_has (Holds TypedExpressionBelow) (nat_eq o MINUS) _ _ (operator_below at _ g (kind_of g.ctype) h)
      (either_has (Holds TypedExpressionBelow) (nat_eq o TILDE) _ _ (operator_below at _ g (kind_of g.ctype) h) (demand_holds TypedExpressionBelow (is_scalar g.ctype) 3 at (typed_value int (unary_operation int Not (tree_of g)) (constant_unary Not (integer_constant g))) (tree_below g h)))))

  pub cast_below : (at : ℕ) (t : CType) (g : TypedExpression) → TypedExpressionBelow g → Holds TypedExpressionBelow (cast_of at t g)
  cast_below at void g h = tree_below g h
  cast_below at (integer i) g h = demand_holds TypedExpressionBelow (is_integer g.ctype) 3 at (cast_to i g) (tree_below g h)
  cast_below at t g h = tt

  pub null_cast_below : (at : ℕ) (g : TypedExpression) → Holds TypedExpressionBelow (null_cast at g)
  null_cast_below at g = demand_holds TypedExpressionBelow _ 3 at (null_of (pointer void)) tt

  -- operators between two values

  two_trees : (i j : IntType) (a b : TypedExpression) → TypedExpressionBelow a → TypedExpressionBelow b → CallsBelow n (tree_of (converted_to i a)) × CallsBelow n (tree_of (converted_to j b))
  two_trees i j a b h k = (converted_tree i a h, converted_tree j b k)

  two : (a b : TypedExpression) → TypedExpressionBelow a → TypedExpressionBelow b → CallsBelow n (tree_of a) × CallsBelow n (tree_of b)
  two a b h k = (tree_below a h, tree_below b k)

  pub sum_of_below : (env : Env) (at : ℕ) (a b : TypedExpression) (k l : Kind) → TypedExpressionBelow a → TypedExpressionBelow b → Holds TypedExpressionBelow (sum_of env at a b k l)
  sum_of_below env at a b (an_integer i) (an_integer j) g h = two_trees (common i j) (common i j) a b g h
  sum_of_below env at a b (a_pointer t) (an_integer j) g h = after_demands TypedExpressionBelow (complete env at t) _ (λ _. two a b g h)
  sum_of_below env at a b (an_integer i) (a_pointer t) g h = after_demands TypedExpressionBelow (complete env at t) _ (λ _. two a b g h)
  sum_of_below env at a b k l g h = tt

  minus_below : (env : Env) (at : ℕ) (a b : TypedExpression) (k l : Kind) → TypedExpressionBelow a → TypedExpressionBelow b → Holds TypedExpressionBelow (minus_of env at a b k l)
  minus_below env at a b (an_integer i) (an_integer j) g h = two_trees (common i j) (common i j) a b g h
  minus_below env at a b (a_pointer t) (an_integer j) g h = after_demands TypedExpressionBelow (complete env at t) _ (λ _. two a b g h)
  minus_below env at a b (a_pointer t) (a_pointer u) g h = after_demands TypedExpressionBelow (demand (same_type t u) 3 at met) (λ x. on {B = TypedExpression} (complete env at t) (λ x'. fine (difference a b))) (λ _. after_demands TypedExpressionBelow (complete env at t) (λ x. fine (difference a b)) (λ _. two a b g h))
  minus_below env at a b k l g h = tt

  balanced_below : (at : ℕ) (o : BinOp) (a b : TypedExpression) (k l : Kind) → TypedExpressionBelow a → TypedExpressionBelow b → Holds TypedExpressionBelow (balanced_of at o a b k l)
  balanced_below at o a b (an_integer i) (an_integer j) g h = two_trees (common i j) (common i j) a b g h
  balanced_below at o a b k l g h = tt

  shift_below : (at : ℕ) (o : BinOp) (a b : TypedExpression) (k l : Kind) → TypedExpressionBelow a → TypedExpressionBelow b → Holds TypedExpressionBelow (shift_of at o a b k l)
  shift_below at o a b (an_integer i) (an_integer j) g h = two_trees (promoted i) (promoted j) a b g h
  shift_below at o a b k l g h = tt

  ordered_below : (env : Env) (at : ℕ) (o : BinOp) (a b : TypedExpression) (k l : Kind) → TypedExpressionBelow a → TypedExpressionBelow b → Holds TypedExpressionBelow (ordered_of env at o a b k l)
  ordered_below env at o a b (an_integer i) (an_integer j) g h = two_trees (common i j) (common i j) a b g h
  ordered_below env at o a b (a_pointer t) (a_pointer u) g h = after_demands TypedExpressionBelow (demand (same_type t u) 3 at met) (λ x. on {B = TypedExpression} (complete env at t) (λ x'. fine (compared_pointers o a b))) (λ _. after_demands TypedExpressionBelow (complete env at t) (λ x. fine (compared_pointers o a b)) (λ _. two a b g h))
  ordered_below env at o a b k l g h = tt

  abbrev AlikeBelow : Alike → Type 0
  AlikeBelow (alike_pointers x y) = TypedExpressionBelow x × TypedExpressionBelow y
  AlikeBelow a = Unit {0}

  alike_of_below : (a b : TypedExpression) (k l : Kind) → TypedExpressionBelow a → TypedExpressionBelow b → AlikeBelow (alike_of a b k l)
  alike_of_below a b (a_pointer t) (a_pointer u) g h = either_has AlikeBelow _ (alike_pointers a b) _ (g, h) (either_has AlikeBelow (is_null a) (alike_pointers (null_of b.ctype) b) _ (tt, h) (either_has AlikeBelow (is_null b) (alike_pointers a (null_of a.ctype)) unlike (g, tt) tt))
  alike_of_below a b (a_pointer t) (an_integer j) g h = either_has AlikeBelow (is_null b) (alike_pointers a (null_of a.ctype)) unlike (g, tt) tt
  alike_of_below a b (an_integer i) (a_pointer u) g h = either_has AlikeBelow (is_null a) (alike_pointers (null_of b.ctype) b) unlike (tt, h) tt
  alike_of_below a b k l g h = tt

  equality_below : (at : ℕ) (o : BinOp) (a b : TypedExpression) (x : Alike) → TypedExpressionBelow a → TypedExpressionBelow b → AlikeBelow x → Holds TypedExpressionBelow (equality_of at o a b x)
  equality_below at o a b (alike_integers i) g h k = two_trees i i a b g h
  equality_below at o a b (alike_pointers x y) g h k = two x y k.0 k.1
  equality_below at o a b unlike g h k = tt

  arithmetic_below : (env : Env) (at : ℕ) (o : BinOp) (a b : TypedExpression) → TypedExpressionBelow a → TypedExpressionBelow b → Holds TypedExpressionBelow (arithmetic_of env at o a b)
  arithmetic_below env at op.Add a b g h = sum_of_below env at a b (kind_of a.ctype) (kind_of b.ctype) g h
  arithmetic_below env at op.Sub a b g h = minus_below env at a b (kind_of a.ctype) (kind_of b.ctype) g h
  arithmetic_below env at o a b g h = balanced_below at o a b (kind_of a.ctype) (kind_of b.ctype) g h

  operation_of_below : (env : Env) (at : ℕ) (o : BinOp) (a b : TypedExpression) (k : OperatorKind) → TypedExpressionBelow a → TypedExpressionBelow b → Holds TypedExpressionBelow (operation_of env at o a b k)
  operation_of_below env at o a b balanced g h = arithmetic_below env at o a b g h
  operation_of_below env at o a b shift g h = shift_below at o a b (kind_of a.ctype) (kind_of b.ctype) g h
  operation_of_below env at o a b ordering g h = ordered_below env at o a b (kind_of a.ctype) (kind_of b.ctype) g h
  operation_of_below env at o a b equality g h = equality_below at o a b (alike a b) g h (alike_of_below a b (kind_of a.ctype) (kind_of b.ctype) g h)

  pub operation_below : (env : Env) (at : ℕ) (o : BinOp) (a b : TypedExpression) → TypedExpressionBelow a → TypedExpressionBelow b → Holds TypedExpressionBelow (operation env at o a b)
  operation_below env at o a b g h = operation_of_below env at o a b (kind_of_operator o) g h

  pub conjunction_below : (at : ℕ) (a b : TypedExpression) → TypedExpressionBelow a → TypedExpressionBelow b → Holds TypedExpressionBelow (conjunction at a b)
  conjunction_below at a b g h = demand_holds TypedExpressionBelow (both_scalars a b) 3 at (typed_value int (and int (tree_of a) (tree_of b)) (constant_and (integer_constant a) (integer_constant b))) (two a b g h)

  pub disjunction_below : (at : ℕ) (a b : TypedExpression) → TypedExpressionBelow a → TypedExpressionBelow b → Holds TypedExpressionBelow (disjunction at a b)
  disjunction_below at a b g h = demand_holds TypedExpressionBelow (both_scalars a b) 3 at (typed_value int (or int (tree_of a) (tree_of b)) (constant_or (integer_constant a) (integer_constant b))) (two a b g h)

  arms_below : (at : ℕ) (c a b : TypedExpression) (x : Alike) → TypedExpressionBelow c → TypedExpressionBelow a → TypedExpressionBelow b → AlikeBelow x → Holds TypedExpressionBelow (arms_of at c a b x)
  arms_below at c a b (alike_integers i) f g h k = (tree_below c f, converted_tree i a g, converted_tree i b h)
  arms_below at c a b (alike_pointers x y) f g h k = (tree_below c f, tree_below x k.0, tree_below y k.1)
  arms_below at c a b unlike f g h k = demand_holds TypedExpressionBelow _ 3 at (chosen void c a b) (tree_below c f, tree_below a g, tree_below b h)

  pub choice_below : (at : ℕ) (c a b : TypedExpression) → TypedExpressionBelow c → TypedExpressionBelow a → TypedExpressionBelow b → Holds TypedExpressionBelow (choice at c a b)
  choice_below at c a b f g h = after_demands TypedExpressionBelow (demand (is_scalar c.ctype) 3 at met) (λ x. arms_of at c a b (alike a b)) (λ _. arms_below at c a b (alike a b) f g h (alike_of_below a b (kind_of a.ctype) (kind_of b.ctype) g h))

  -- assignments

  assignment_below : (at : ℕ) (p v : TypedExpression) → TypedExpressionBelow p → TypedExpressionBelow v → Holds TypedExpressionBelow (assignment at p v)
  assignment_below at p v g h =
      let k : CallsBelow n (tree_of p) × CallsBelow n (tree_of (assigned p.ctype v)) = (tree_below p g, tree_below (assigned p.ctype v) (assigned_below p.ctype v h)) in
      demand_holds TypedExpressionBelow (fits p.ctype v) 3 at (typed_value p.ctype (assign p.ctype (tree_of p) (tree_of (assigned p.ctype v))) not_constant) k

  update_below : (env : Env) (at : ℕ) (o : BinOp) (old : Bool) (p v : TypedExpression) (k l : Kind) → TypedExpressionBelow p → TypedExpressionBelow v → Holds TypedExpressionBelow (update_of env at o old p v k l)
  update_below env at o old p v (an_integer i) (an_integer j) g h = (tree_below p g, converted_tree _ v h)
  update_below env at o old p v (a_pointer t) (an_integer j) g h =
      let k : CallsBelow n (tree_of p) × CallsBelow n (tree_of v) = two p v g h in
      after_demands TypedExpressionBelow (demand (moves o) 3 at met) (λ _. gives (complete env at t) (λ _. updated o old p (tree_of v))) (λ _. after_demands TypedExpressionBelow (complete env at t) (λ _. fine (updated o old p (tree_of v))) (λ _. k))
  update_below env at o old p v k l g h = tt

  pub assignment_by_below : (env : Env) (at o : ℕ) (p v : TypedExpression) → TypedExpressionBelow p → TypedExpressionBelow v → Holds TypedExpressionBelow (assignment_by env at o p v)
  assignment_by_below env at o p v g h = either_has (Holds TypedExpressionBelow) (nat_eq o ASSIGN) _ _ (assignment_below at p v g h) (update_below env at (operator_of_assignment o) false p v (kind_of p.ctype) (kind_of v.ctype) g h)

  one_below : (k : Kind) → TypedExpressionBelow (one_for k)
  one_below (an_integer i) = tt
  one_below k = tt

  pub step_below : (env : Env) (at : ℕ) (o : BinOp) (old : Bool) (p : TypedExpression) → TypedExpressionBelow p → Holds TypedExpressionBelow (step env at o old p)
  step_below env at o old p g = update_below env at o old p (one_for (kind_of p.ctype)) (kind_of p.ctype) (kind_of (one_for (kind_of p.ctype)).ctype) g (one_below (kind_of p.ctype))

  pub assignable_below : (at : ℕ) (g : TypedExpression) → TypedExpressionBelow g → Holds TypedExpressionBelow (assignable at g)
  assignable_below at g h = demand_holds TypedExpressionBelow (is_place g) 4 at g h

  pub trees_below : (gs : List TypedExpression) → TypedExpressionsBelow gs → AllBelow n (trees_of gs)
  trees_below [] h = tt
  trees_below (g ∷ gs) h = (tree_below g h.0, trees_below gs h.1)
