-- What is gathered at calls, in what the rules on expressions give, is what is gathered in their parts, in order; a constant has none.
use Rattle.std.proofs.Common.{◌≡◌, ℕ, suc, ℤ, Bool, true, ◌&&◌, List, [], ◌∷◌, ◌++◌, append_assoc, length, refl, ap, ap₂, sym, subst, ◌∙◌, arith}
use Rattle.c_tree.specs.declared.value.IntType.{IntType}
use Rattle.c_tree.specs.declared.value.UnOp.TheVariants.{Not}
use Rattle.c_tree.specs.declared.value.BinOp.{BinOp}
use Rattle.c_tree.specs.declared.value.BinOp.TheVariants as op
use Rattle.c_tree.specs.Tree.{CType, void, integer, pointer, array, struct, function, CTypes, no_types, more_types, Expr, Exprs, type_of}
use Rattle.c_tree.specs.Tree as typed
use Rattle.c_tree.specs.Gathered.{Gathering, gathered, gathered_all, gathered_inits, gathered_stmt, gathered_stmts}
use Rattle.c_tree.specs.Layout.{cells}
use Rattle.c_tree.specs.Operands.{promoted}
use Rattle.c_tree.specs.Operands.{kind_of as kind_of_operator}
use Rattle.c_rules.specs.Names.{Name}
use Rattle.c_rules.specs.Types.{is_integer, is_scalar, count}
use Rattle.c_rules.specs.Scopes.{Env, Meaning, a_static, a_function, unknown, layout_of}
use Rattle.c_rules.specs.TypedExpression.{Form, a_value, Constant, TypedExpression, tree_of_form, tree_of, is_null, integer_constant}
use Rattle.c_rules.specs.Constants.{constant_and, constant_or, constant_moved}
use Rattle.c_rules.specs.Initialisers.{typed_zero, stores_from}
use Rattle.c_rules.specs.Blocks.{appended}
use Rattle.c_rules.specs.Conversions.{Kind, an_integer, a_pointer, neither, kind_of, few_parts, loaded, valued_as, valued, cast_to, has_integer, converted_to, null_of, fits, assigned_as, assigned, as_if_assigned, condition}
use Rattle.c_rules.specs.PrimaryExpressions.{used, object_number, function_value_number, meant}
use Rattle.c_rules.specs.PostfixExpressions.{Designator, direct, through, Callee, callee_of_type, callee_through, all_fit, passed, call_of, as_many_as, called, member_of}
use Rattle.c_rules.specs.UnaryExpressions.{address, indirection, unary_of_value, size_of, cast_of, null_cast}
use Rattle.c_rules.specs.BinaryExpressions.{shifted, compared_integers, sum, operation, chosen, choice}
use Rattle.c_rules.specs.Assignments.{operator_of_assignment, right_type, assignment_by, one_for, step, trees_of, comma_of}
use Rattle.c_rules.proofs.NothingMore.{nothing_more}
use Rattle.c_rules.proofs.Integers.{size_holds}
use Rattle.c_rules_laws.proofs.Holding.{Holds, holds_map, demand_holds, behind_demand, after_part, and_right, either, Each}
use Rattle.c_rules_laws.proofs.MadeTypes.{number_is}
use Rattle.c_rules_laws.proofs.Operators.{IsMember, a_member, IsAddress, of_place, of_leader, IsLedTo, led, OfOne, leads, promotes, operates, negates, ArePointers, as_given, left_null, right_null, OfTwo, calculates, compares, orders, equals, adds_right, adds_left, takes, differs, OfChoice, integers_chosen, pointers_chosen, voids_chosen, OfUpdate, assigns, updates, moved, member_agrees, address_agrees, indirection_agrees, unary_agrees, operation_agrees, choice_agrees, assignment_agrees, step_agrees, infix_agrees, joins_and, joins_or}
use Rattle.c_rules_laws.specs.ConstantForm.{IsConst}
use Rattle.c_rules_laws.proofs.ConstantForms.{converted_const, unary_const, integer_const, two_const, decayed_const, member_const, binary_const, and_const, or_const, conditional_const, moved_const, zero_const}
use Rattle.c_syntax.specs.Tree.{Infix}
use Rattle.c_rules.specs.Expressions.{infix_rule}

pub none_both : {X : Type 0} (xs ys : List X) → xs ≡ [] → ys ≡ [] → xs ++ ys ≡ []
none_both xs ys e f = ap₂ (λ x y. x ++ y) e f

module _ {X : Type 0} (gathering : Gathering X) where
  -- what is gathered from the tree, of which a constant has none
  abbrev pub Gathers : List X → TypedExpression → Type 0
  Gathers xs g = (gathered gathering (tree_of g) ≡ xs) × (IsConst g.constant → xs ≡ [])

  abbrev pub AllGather : List X → List TypedExpression → Type 0
  AllGather xs [] = xs ≡ []
  AllGather xs (g ∷ gs) = (ys : List X) × (zs : List X) × Gathers ys g × AllGather zs gs × (xs ≡ ys ++ zs)

  abbrev pub DesignatorGathers : List X → Designator → Type 0
  DesignatorGathers xs (direct f) = xs ≡ []
  DesignatorGathers xs (through e) = gathered gathering e ≡ xs

  abbrev pub CalleeGathers : List X → Callee → Type 0
  CalleeGathers xs f = DesignatorGathers xs f.designator

  -- what a call gives, by what it calls
  abbrev pub called_at : ℕ → Designator → X
  called_at site (direct f) = gathering.direct site f
  called_at site (through e) = gathering.through site (type_of e)

module _ {X : Type 0} (gathering : Gathering X) where
  -- ## Lists

  pub lists_gathered : (gs hs : List TypedExpression) (xs ys : List X) → AllGather gathering xs gs → AllGather gathering ys hs → AllGather gathering (xs ++ ys) (gs ++ hs)
  lists_gathered [] hs xs ys h k = subst (λ zs. AllGather gathering (zs ++ ys) hs) (sym h) k
  lists_gathered (g ∷ gs) hs xs ys h k = (h.0, h.1 ++ ys, h.2, lists_gathered gs hs h.1 ys h.3 k, ap (λ zs. zs ++ ys) h.4 ∙ append_assoc h.0 h.1 ys)

  -- where each has none
  pub all_silent : (gs : List TypedExpression) → Each (Gathers gathering []) gs → AllGather gathering [] gs
  all_silent [] h = refl
  all_silent (g ∷ gs) h = ([], [], h.0, all_silent gs h.1, refl)

  pub zero_silent : (t : CType) → Gathers gathering [] (typed_zero t)
  zero_silent void = (refl, λ _. refl)
  zero_silent t = (refl, λ _. refl)

  -- names, where those of functions have none
  pub meant_gathered : ((f : ℕ) → gathering.named f ≡ []) → (env : Env) (at : ℕ) (x : Name) (m : Meaning) → Holds (Gathers gathering []) (meant env at x m)
  meant_gathered none env at x (a_static seen whole d) = after_part (Gathers gathering []) (used env.context at (object_number env x)) _ (λ _. (refl, λ _. refl))
  meant_gathered none env at x (a_function t d) = after_part (Gathers gathering []) (function_value_number env at x) _ (λ f. (none f, λ _. refl))
  meant_gathered none env at x (unknown f fs) = tt
  meant_gathered none env at x m = (refl, λ _. refl)

  pub stores_gathered : (k : ℕ) (gs : List TypedExpression) (xs : List X) → AllGather gathering xs gs → gathered_inits gathering (stores_from k gs) ≡ xs
  stores_gathered k [] xs h = sym h
  stores_gathered k (g ∷ gs) xs h = ap₂ (λ x y. x ++ y) h.2.0 (stores_gathered (suc k) gs h.1 h.3) ∙ sym h.4

  pub appended_gathered : (ss us : typed.Stmts) → gathered_stmts gathering (appended ss us) ≡ gathered_stmts gathering ss ++ gathered_stmts gathering us
  appended_gathered typed.no_stmts us = refl
  appended_gathered (typed.more_stmts s ss) us = ap (λ xs. gathered_stmt gathering s ++ xs) (appended_gathered ss us) ∙ sym (append_assoc (gathered_stmt gathering s) (gathered_stmts gathering ss) (gathered_stmts gathering us))

  -- ## Conversions

  loaded_gathered : (xs : List X) (g : TypedExpression) (f : Form) → Gathers gathering xs g → Gathers gathering xs (loaded g f)
  loaded_gathered xs g (a_value e) h = h
  loaded_gathered xs g f h = (h.0, λ c. absurd c)

  valued_as_gathered : (env : Env) (at : ℕ) (xs : List X) (g : TypedExpression) (t : CType) → Gathers gathering xs g → Holds (Gathers gathering xs) (valued_as env at g t)
  valued_as_gathered env at xs g (array t n) h = (h.0, λ c. h.1 (decayed_const (cells (layout_of env) t) g.constant c))
  valued_as_gathered env at xs g (struct s) h = tt
  valued_as_gathered env at xs g (function t ts) h = demand_holds (Gathers gathering xs) (few_parts (pointer g.ctype)) 13 at _ (λ _. h)
  valued_as_gathered env at xs g t h = loaded_gathered xs g g.form h

  pub valued_gathered : (env : Env) (at : ℕ) (xs : List X) (g : TypedExpression) → Gathers gathering xs g → Holds (Gathers gathering xs) (valued env at g)
  valued_gathered env at xs g h = valued_as_gathered env at xs g g.ctype h

  cast_gathered : (xs : List X) (i : IntType) (g : TypedExpression) → Gathers gathering xs g → Gathers gathering xs (cast_to i g)
  cast_gathered xs i g h = (h.0, λ c. h.1 (converted_const i g.constant c))

  pub converted_gathered : (xs : List X) (i : IntType) (g : TypedExpression) → Gathers gathering xs g → Gathers gathering xs (converted_to i g)
  converted_gathered xs i g h = either (Gathers gathering xs) (has_integer i g.ctype) g (cast_to i g) (λ _. h) (cast_gathered xs i g h)

  null_gathered : (xs : List X) (t : CType) (g : TypedExpression) → is_null g ≡ true → Gathers gathering xs g → Gathers gathering xs (null_of t)
  null_gathered xs t g e h = (let n = h.1 (zero_const g.constant e) in (sym n, λ _. n))

  assigned_kind_gathered : (xs : List X) (k : Kind) (t : CType) (g : TypedExpression) → Gathers gathering xs g → Gathers gathering xs (assigned_as k t g)
  assigned_kind_gathered xs (an_integer i) t g h = converted_gathered xs i g h
  assigned_kind_gathered xs (a_pointer u) t g h = either (Gathers gathering xs) (is_null g) (null_of t) g (λ e. null_gathered xs t g e h) h
  assigned_kind_gathered xs neither t g h = h

  pub assigned_gathered : (xs : List X) (t : CType) (g : TypedExpression) → Gathers gathering xs g → Gathers gathering xs (assigned t g)
  assigned_gathered xs t g h = assigned_kind_gathered xs (kind_of t) t g h

  pub as_if_gathered : (at : ℕ) (xs : List X) (t : CType) (g : TypedExpression) → Gathers gathering xs g → Holds (Gathers gathering xs) (as_if_assigned at t g)
  as_if_gathered at xs t g h = demand_holds (Gathers gathering xs) (fits t g) 3 at (assigned t g) (λ _. assigned_gathered xs t g h)

  pub condition_gathered : (at : ℕ) (xs : List X) (g : TypedExpression) → Gathers gathering xs g → Holds (λ e. gathered gathering e ≡ xs) (condition at g)
  condition_gathered at xs g h = demand_holds (λ e. gathered gathering e ≡ xs) (is_scalar g.ctype) 3 at (tree_of g) (λ _. h.0)

  -- ## Calls and members

  passed_gathered : (ts : CTypes) (gs : List TypedExpression) (xs : List X) → length gs ≡ count ts → AllGather gathering xs gs → gathered_all gathering (passed ts gs) ≡ xs
  passed_gathered no_types [] xs l h = sym h
  passed_gathered (more_types t ts) (g ∷ gs) xs l h =
      let m : length gs ≡ count ts = omega (arith, l) in
      ap₂ (λ x y. x ++ y) (assigned_gathered h.0 t g h.2).0 (passed_gathered ts gs h.1 m h.3) ∙ sym h.4
  passed_gathered ts gs xs l h = absurd (omega (arith, l))

  call_gathered : (xs ys : List X) (d : Designator) (t : CType) (site : ℕ) (es : Exprs) → DesignatorGathers gathering xs d → gathered_all gathering es ≡ ys → gathered gathering (call_of d t site es) ≡ xs ++ called_at gathering site d ∷ ys
  call_gathered xs ys (direct f) t site es h k = ap (λ z. gathering.direct site f ∷ z) k ∙ ap (λ z. z ++ gathering.direct site f ∷ ys) (sym h)
  call_gathered xs ys (through e) t site es h k = ap₂ (λ x y. x ++ gathering.through site (type_of e) ∷ y) h k

  pub called_gathered : (at : ℕ) (xs ys : List X) (f : Callee) (site : ℕ) (gs : List TypedExpression) → CalleeGathers gathering xs f → AllGather gathering ys gs → Holds (Gathers gathering (xs ++ called_at gathering site f.designator ∷ ys)) (called at f site gs)
  called_gathered at xs ys f site gs h k =
      behind_demand (Gathers gathering (xs ++ called_at gathering site f.designator ∷ ys)) (as_many_as f.parameters gs) 5 at _ (λ m. demand_holds (Gathers gathering (xs ++ called_at gathering site f.designator ∷ ys)) (all_fit f.parameters gs) 3 at _ (λ _. (call_gathered xs ys f.designator f.returns site (passed f.parameters gs) h (passed_gathered f.parameters gs ys (number_is (length gs) (count f.parameters) m) k), λ c. absurd c)))

  pub callee_type_gathered : (at : ℕ) (t : CType) (f : ℕ) → Holds (CalleeGathers gathering []) (callee_of_type at t f)
  callee_type_gathered at (function t ts) f = refl
  callee_type_gathered at t f = tt

  pub callee_through_gathered : (at : ℕ) (xs : List X) (e : Expr) (t : CType) → gathered gathering e ≡ xs → Holds (CalleeGathers gathering xs) (callee_through at e t)
  callee_through_gathered at xs e (pointer (function t ts)) h = h
  callee_through_gathered at xs e t h = tt

  member_given_gathered : (env : Env) (x : Name) (xs : List X) (g h : TypedExpression) → IsMember env x g h → Gathers gathering xs g → Gathers gathering xs h
  member_given_gathered env x xs g h (a_member s ms k e d n) w = (w.0, λ c. w.1 (member_const _ _ g.constant c))

  pub member_gathered : (env : Env) (at : ℕ) (xs : List X) (x : Name) (g : TypedExpression) → Gathers gathering xs g → Holds (Gathers gathering xs) (member_of env at x g)
  member_gathered env at xs x g h = holds_map (IsMember env x g) (Gathers gathering xs) (λ m k. member_given_gathered env x xs g m k h) (member_of env at x g) (member_agrees env at at x g).has

  -- ## Unary operators

  address_of_gathered : (xs : List X) (g h : TypedExpression) → IsAddress g h → Gathers gathering xs g → Gathers gathering xs h
  address_of_gathered xs g h (of_place e f n) w = (subst (λ f. gathered gathering (tree_of_form g.ctype f) ≡ xs) f w.0, w.1)
  address_of_gathered xs g h (of_leader q f n) w = (subst (λ f. gathered gathering (tree_of_form g.ctype f) ≡ xs) f w.0, w.1)

  pub address_gathered : (at place : ℕ) (xs : List X) (g : TypedExpression) → Gathers gathering xs g → Holds (Gathers gathering xs) (address at place g)
  address_gathered at place xs g h = holds_map (IsAddress g) (Gathers gathering xs) (λ x k. address_of_gathered xs g x k h) (address at place g) (address_agrees at at g place place).has

  led_gathered : (xs : List X) (g h : TypedExpression) → IsLedTo g h → Gathers gathering xs g → Gathers gathering xs h
  led_gathered xs g h (led t e n) w = w

  pub indirection_gathered : (at : ℕ) (xs : List X) (g : TypedExpression) → Gathers gathering xs g → Holds (Gathers gathering xs) (indirection at g)
  indirection_gathered at xs g h = holds_map (IsLedTo g) (Gathers gathering xs) (λ x k. led_gathered xs g x k h) (indirection at g) (indirection_agrees at at g).has

  one_gathered : (xs : List X) (g h : TypedExpression) → OfOne g h → Gathers gathering xs g → Gathers gathering xs h
  one_gathered xs g h (leads x k) w = led_gathered xs g x k w
  one_gathered xs g h (promotes i e) w = cast_gathered xs (promoted i) g w
  one_gathered xs g h (operates o i s e) w = (let c = converted_gathered xs (promoted i) g w in (c.0, λ k. c.1 (unary_const o (converted_to (promoted i) g).constant k)))
  one_gathered xs g h (negates s) w = (w.0, λ c. w.1 (integer_const (is_integer g.ctype) g.constant (unary_const Not (integer_constant g) c)))

  pub unary_gathered : (at o : ℕ) (xs : List X) (g : TypedExpression) → Gathers gathering xs g → Holds (Gathers gathering xs) (unary_of_value at o g)
  unary_gathered at o xs g h = holds_map (OfOne g) (Gathers gathering xs) (λ x k. one_gathered xs g x k h) (unary_of_value at o g) (unary_agrees at at g o).has

  pub size_gathered : (env : Env) (at place : ℕ) (t : CType) → Holds (Gathers gathering []) (size_of env at place t)
  size_gathered env at place t = size_holds (Gathers gathering []) env at place t (λ _. (refl, λ _. refl))

  pub cast_of_gathered : (at : ℕ) (xs : List X) (t : CType) (g : TypedExpression) → Gathers gathering xs g → Holds (Gathers gathering xs) (cast_of at t g)
  cast_of_gathered at xs void g h = (h.0, λ c. absurd c)
  cast_of_gathered at xs (integer i) g h = demand_holds (Gathers gathering xs) (is_integer g.ctype) 3 at (cast_to i g) (λ _. cast_gathered xs i g h)
  cast_of_gathered at xs t g h = tt

  pub null_cast_gathered : (at : ℕ) (xs : List X) (g : TypedExpression) → Gathers gathering xs g → Holds (Gathers gathering xs) (null_cast at g)
  null_cast_gathered at xs g h = demand_holds (Gathers gathering xs) (is_integer g.ctype && is_null g) 3 at (null_of (pointer void)) (λ e. null_gathered xs (pointer void) g (and_right (is_integer g.ctype) (is_null g) e) h)

  -- ## Operators between two values

  module _ (xs ys : List X) where
    both_gathered : (c a b : Constant) (e f : Expr) → (IsConst c → IsConst a × IsConst b) → (gathered gathering e ≡ xs) × (IsConst a → xs ≡ []) → (gathered gathering f ≡ ys) × (IsConst b → ys ≡ []) → (gathered gathering e ++ gathered gathering f ≡ xs ++ ys) × (IsConst c → xs ++ ys ≡ [])
    both_gathered c a b e f k g h = (ap₂ (λ x y. x ++ y) g.0 h.0, λ z. (let w = k z in none_both xs ys (g.1 w.0) (h.1 w.1)))

    calculated_gathered : (o : BinOp) (i j : IntType) (a b : TypedExpression) → Gathers gathering xs a → Gathers gathering ys b → Gathers gathering (xs ++ ys) (shifted o i j a b)
    calculated_gathered o i j a b g h = both_gathered _ (converted_to i a).constant (converted_to j b).constant (tree_of (converted_to i a)) (tree_of (converted_to j b)) (binary_const o (converted_to i a).constant (converted_to j b).constant) (converted_gathered xs i a g) (converted_gathered ys j b h)

    compared_gathered : (o : BinOp) (i : IntType) (a b : TypedExpression) → Gathers gathering xs a → Gathers gathering ys b → Gathers gathering (xs ++ ys) (compared_integers o i a b)
    compared_gathered o i a b g h = both_gathered _ (converted_to i a).constant (converted_to i b).constant (tree_of (converted_to i a)) (tree_of (converted_to i b)) (binary_const o (converted_to i a).constant (converted_to i b).constant) (converted_gathered xs i a g) (converted_gathered ys i b h)

    plain_gathered : (e f : Expr) → gathered gathering e ≡ xs → gathered gathering f ≡ ys → (gathered gathering e ++ gathered gathering f ≡ xs ++ ys) × (⊥ → xs ++ ys ≡ [])
    plain_gathered e f g h = (ap₂ (λ x y. x ++ y) g h, λ c. absurd c)

    turned : (c k : Constant) (s : ℤ → ℤ) → IsConst (constant_moved c s k) → IsConst k × IsConst c
    turned c k s h = (let w = moved_const c s k h in (w.1, w.0))

    pointers_gathered : (a b x y : TypedExpression) → ArePointers a b x y → Gathers gathering xs a → Gathers gathering ys b → Gathers gathering xs x × Gathers gathering ys y
    pointers_gathered a b x y (as_given t e f) g h = (g, h)
    pointers_gathered a b x y (left_null t e n) g h = (null_gathered xs b.ctype a n g, h)
    pointers_gathered a b x y (right_null t e n) g h = (g, null_gathered ys a.ctype b n h)

    two_gathered : (env : Env) (at : ℕ) (a b g : TypedExpression) → OfTwo env at a b g → Gathers gathering xs a → Gathers gathering ys b → Gathers gathering (xs ++ ys) g
    two_gathered env at a b g (calculates o i j f s t) h k = calculated_gathered o i j a b h k
    two_gathered env at a b g (compares o i f p s t) h k = compared_gathered o i a b h k
    two_gathered env at a b g (orders o t q e s c) h k = plain_gathered (tree_of a) (tree_of b) h.0 k.0
    two_gathered env at a b g (equals o x y q p) h k = (let s = pointers_gathered a b x y p h k in plain_gathered (tree_of x) (tree_of y) s.0.0 s.1.0)
    two_gathered env at a b g (adds_right t e i c) h k = both_gathered _ a.constant b.constant (tree_of a) (tree_of b) (moved_const a.constant _ b.constant) h k
    two_gathered env at a b g (adds_left t e i c) h k = both_gathered _ a.constant b.constant (tree_of a) (tree_of b) (turned b.constant a.constant _) h k
    two_gathered env at a b g (takes t e i c) h k = both_gathered _ a.constant b.constant (tree_of a) (tree_of b) (moved_const a.constant _ b.constant) h k
    two_gathered env at a b g (differs t e s c) h k = plain_gathered (tree_of a) (tree_of b) h.0 k.0
    two_gathered env at a b g (joins_and s) h k = both_gathered _ a.constant b.constant (tree_of a) (tree_of b) (two_const a b constant_and and_const) h k
    two_gathered env at a b g (joins_or s) h k = both_gathered _ a.constant b.constant (tree_of a) (tree_of b) (two_const a b constant_or or_const) h k

    pub operation_gathered : (env : Env) (at : ℕ) (o : BinOp) (a b : TypedExpression) → Gathers gathering xs a → Gathers gathering ys b → Holds (Gathers gathering (xs ++ ys)) (operation env at o a b)
    operation_gathered env at o a b h k = holds_map (OfTwo env at a b) (Gathers gathering (xs ++ ys)) (λ g x. two_gathered env at a b g x h k) (operation env at o a b) (operation_agrees env at at a b o).has

    pub infix_gathered : (env : Env) (at : ℕ) (o : Infix) (a b : TypedExpression) → Gathers gathering xs a → Gathers gathering ys b → Holds (Gathers gathering (xs ++ ys)) (infix_rule env at o a b)
    infix_gathered env at o a b h k = holds_map (OfTwo env at a b) (Gathers gathering (xs ++ ys)) (λ g x. two_gathered env at a b g x h k) (infix_rule env at o a b) (infix_agrees env at at a b o).has

    pub sum_gathered : (env : Env) (at : ℕ) (a b : TypedExpression) → Gathers gathering xs a → Gathers gathering ys b → Holds (Gathers gathering (xs ++ ys)) (sum env at a b)
    sum_gathered env at a b g h = operation_gathered env at op.Add a b g h

    update_gathered : (env : Env) (at : ℕ) (o : BinOp) (a b g : TypedExpression) → OfUpdate env at o a b g → Gathers gathering xs a → Gathers gathering ys b → Gathers gathering (xs ++ ys) g
    update_gathered env at o a b g (assigns f) h k = plain_gathered (tree_of a) (tree_of (assigned a.ctype b)) h.0 (assigned_gathered ys a.ctype b k).0
    update_gathered env at o a b g (updates old i j e f) h k = (let r : IntType = right_type (kind_of_operator o) i j in plain_gathered (tree_of a) (tree_of (converted_to r b)) h.0 (converted_gathered ys r b k).0)
    update_gathered env at o a b g (moved old t m e i c) h k = plain_gathered (tree_of a) (tree_of b) h.0 k.0

    pub assignment_by_gathered : (env : Env) (at code : ℕ) (a b : TypedExpression) → Gathers gathering xs a → Gathers gathering ys b → Holds (Gathers gathering (xs ++ ys)) (assignment_by env at code a b)
    assignment_by_gathered env at code a b h k =
        holds_map (OfUpdate env at (operator_of_assignment code) a b) (Gathers gathering (xs ++ ys)) (λ g u. update_gathered env at (operator_of_assignment code) a b g u h k) (assignment_by env at code a b) (assignment_agrees env at at code a b).has

  one_for_gathered : (k : Kind) → Gathers gathering [] (one_for k)
  one_for_gathered (an_integer i) = (refl, λ c. absurd c)
  one_for_gathered k = (refl, λ c. absurd c)

  pub step_gathered : (env : Env) (at : ℕ) (o : BinOp) (old : Bool) (xs : List X) (a : TypedExpression) → Gathers gathering xs a → Holds (Gathers gathering xs) (step env at o old a)
  step_gathered env at o old xs a h =
      let one : TypedExpression = one_for (kind_of a.ctype) in
      subst (λ ys. Holds (Gathers gathering ys) (step env at o old a)) (nothing_more xs)
      (holds_map (OfUpdate env at o a one) (Gathers gathering (xs ++ [])) (λ g u. update_gathered xs [] env at o a one g u h (one_for_gathered (kind_of a.ctype))) (step env at o old a) (step_agrees env at at o old a).has)

  -- ## ?: and the comma

  module _ (zs xs ys : List X) where
    chosen_gathered : (t : CType) (c a b : TypedExpression) → Gathers gathering zs c → Gathers gathering xs a → Gathers gathering ys b → Gathers gathering (zs ++ (xs ++ ys)) (chosen t c a b)
    chosen_gathered t c a b f g h = (
      ap₂ (λ x y. x ++ y) f.0 (ap₂ (λ x y. x ++ y) g.0 h.0),
      λ k. (let w = conditional_const (integer_constant c) (integer_constant a) (integer_constant b) k in
          none_both zs (xs ++ ys) (f.1 (integer_const (is_integer c.ctype) c.constant w.0)) (none_both xs ys (g.1 (integer_const (is_integer a.ctype) a.constant w.1)) (h.1 (integer_const (is_integer b.ctype) b.constant w.2)))),
    )

    choice_of_gathered : (c a b g : TypedExpression) → OfChoice c a b g → Gathers gathering zs c → Gathers gathering xs a → Gathers gathering ys b → Gathers gathering (zs ++ (xs ++ ys)) g
    choice_of_gathered c a b g (integers_chosen i s j k) f h l = chosen_gathered (integer i) c (converted_to i a) (converted_to i b) f (converted_gathered xs i a h) (converted_gathered ys i b l)
    choice_of_gathered c a b g (pointers_chosen x y s p) f h l = (let w = pointers_gathered xs ys a b x y p h l in chosen_gathered x.ctype c x y f w.0 w.1)
    choice_of_gathered c a b g (voids_chosen s v) f h l = chosen_gathered void c a b f h l

    pub choice_gathered : (at : ℕ) (c a b : TypedExpression) → Gathers gathering zs c → Gathers gathering xs a → Gathers gathering ys b → Holds (Gathers gathering (zs ++ (xs ++ ys))) (choice at c a b)
    choice_gathered at c a b f h k = holds_map (OfChoice c a b) (Gathers gathering (zs ++ (xs ++ ys))) (λ g x. choice_of_gathered c a b g x f h k) (choice at c a b) (choice_agrees at at c a b).has

  trees_gathered : (gs : List TypedExpression) (xs : List X) → AllGather gathering xs gs → gathered_all gathering (trees_of gs) ≡ xs
  trees_gathered [] xs h = sym h
  trees_gathered (g ∷ gs) xs h = ap₂ (λ x y. x ++ y) h.2.0 (trees_gathered gs h.1 h.3) ∙ sym h.4

  pub comma_gathered : (gs : List TypedExpression) (xs : List X) → AllGather gathering xs gs → Gathers gathering xs (comma_of gs)
  comma_gathered gs xs h = (trees_gathered gs xs h, λ c. absurd c)
