-- What the rules on expressions give is right in a program where their parts are.
use Rattle.std.proofs.Common.{◌≡◌, ◌⊎◌, inl, inr, ℕ, ◌≤◌, ◌<◌, ℤ, pos, Bool, true, false, not, ◌&&◌, List, [], ◌∷◌, map, length, get_or, Some, slice_get, nat_eq, refl, ap, sym, subst, ◌∙◌, arith, nat_le}
use Rattle.std.proofs.lemmas.Option.{slice_get-get_or}
use Rattle.std.proofs.lemmas.Bool.{leb-true}
use Rattle.c_lexer.specs.declared.punctuator.TheConstants as punctuators
use Rattle.c_tree.specs.declared.value.IntType.{IntType}
use Rattle.c_tree.specs.declared.value.IntType.TheVariants as widths
use Rattle.c_tree.specs.declared.value.IntType.TheVariants.{Char, Int, Uint}
use Rattle.c_tree.specs.declared.value.UnOp.{UnOp}
use Rattle.c_tree.specs.declared.value.UnOp.TheVariants.{Minus, Complement, Not}
use Rattle.c_tree.specs.declared.value.BinOp.{BinOp}
use Rattle.c_tree.specs.declared.value.BinOp.TheVariants as op
use Rattle.c_tree.specs.declared.value.Value.{Value}
use Rattle.c_tree.specs.declared.value.Value.TheVariants as v
use Rattle.c_tree.specs.Tree.{CType, void, integer, pointer, array, struct, function, CTypes, no_types, more_types, Program, type_of, Expr, Exprs, constant, pointer_add, and, or}
use Rattle.c_tree.specs.Layout.{Structs, flat, cells, first_cell, sizeof}
use Rattle.c_tree.specs.Functions.{int, unsigned_int, called_type}
use Rattle.c_tree.specs.Operands.{IsScalar, IsResult, IsComplete, IsObject, IsTarget, IsIntegerType, IsPromoted, promoted, common, OperatorKind, balanced, shift, AreOperands, FitsUnary, AreComparable, IsObjectPointer, FitsUpdate, FitsRightSide, MovesPointers}
use Rattle.c_tree.specs.Operands.{kind_of as kind_of_operator}
use Rattle.c_tree.specs.Operators.{Answer, binary, table_of, where_shift}
use Rattle.c_tree.specs.Kinds.{Lies}
use Rattle.c_tree.specs.Typed.{IsValue, IsPlace, AreArguments, AreMembersAfter}
use Rattle.c_tree.proofs.OperatorLemmas.{value_of_type, IsArithmetic}
use Rattle.c_rules.specs.Checked.{fine, met}
use Rattle.c_rules.specs.Names.{Name, number_among}
use Rattle.c_rules.specs.Types.{is_integer, is_function, is_scalar, is_void, count}
use Rattle.c_rules.specs.Scopes.{Env, Member, type_of_member, layout_of}
use Rattle.c_rules.specs.TypedExpression.{Form, a_value, a_place, behind, Constant, not_constant, known, TypedExpression, tree_of_form, tree_of, is_value, is_place, is_null, integer_constant, typed_value}
use Rattle.c_rules.specs.Constants.{answered, constant_binary, constant_moved, constant_and, constant_or}
use Rattle.c_rules.specs.Conversions.{Kind, an_integer, kind_of, complete, cast_to, converted_to, null_of, fits}
use Rattle.c_rules.specs.PostfixExpressions.{Designator, direct, through, Callee, callee_of_type, callee_through, all_fit, passed, call_of, as_many_as, called, name_of_member, member_given, member_of}
use Rattle.c_rules.specs.UnaryExpressions.{address, indirection, unary_of_value, size_of, cast_of, null_cast}
use Rattle.c_rules.specs.BinaryExpressions.{shifted, compared_integers, compared_pointers, plus_pointer, difference, operation, chosen, choice}
use Rattle.c_rules.specs.Assignments.{operator_of_assignment, right_type, updated, moves, assignment_by, one_for, step, trees_of, last_type, comma_of}
use Rattle.c_rules.specs.PrimaryExpressions.{typed_unsigned}
use Rattle.c_meaning.proofs.Places.{struct_is, member_lies, member_few}
use Rattle.c_rules_laws.specs.MadeTypes.{NotArray, Made, IsSized}
use Rattle.c_rules_laws.specs.SoundStructs.{AreSound, AreWithin}
use Rattle.c_rules_laws.proofs.Holding.{Holds, held, on_holds, demand_holds, behind_demand, holds_map, and_left, and_right, either}
use Rattle.c_rules_laws.proofs.Operators.{promoted_is, IsComparison, IsMember, a_member, IsAddress, of_place, of_leader, IsLedTo, led, OfOne, leads, promotes, operates, negates, ArePointers, as_given, left_null, right_null, OfTwo, calculates, compares, orders, equals, adds_right, adds_left, takes, differs, OfChoice, integers_chosen, pointers_chosen, voids_chosen, OfUpdate, assigns, updates, moved, member_agrees, address_agrees, indirection_agrees, unary_agrees, operation_agrees, choice_agrees, assignment_agrees, step_agrees, infix_agrees, joins_and, joins_or}
use Rattle.c_rules_laws.proofs.MadeTypes.{number_is, scalar_is, complete_known, scalar_not_array, scalar_result, void_is, sized_few, defined_at}
use Rattle.c_rules_laws.proofs.SoundStructs.{are_structs, struct_few}
use Rattle.c_rules_laws.proofs.SizeBounds.{size_bound}
use Rattle.c_rules_laws.proofs.RightTypedExpressions.{complete_thing, target_scalar, seen_same, integer_type, thing_led, complete_in, cells_in, object_in, first_in, ConstRight, not_constant_right, truth_right, unary_constant, binary_constant, and_constant, or_constant, conditional_constant, integer_part, member_constant, moved_constant, FormRight, TypedExpressionRight, ValueRight, ValuesRight, cast_right, converted_right, null_right, assigned_right, fits_scalar}
use Rattle.std.specs.Prelude.{neg_ℤ}
use Rattle.c_syntax.specs.Tree.{Infix}
use Rattle.c_rules.specs.Expressions.{infix_rule}

common_twice : (i j : IntType) → common i j ≡ common i (common i j)
common_twice Uint j = refl
common_twice i Char = refl
common_twice i j = refl

right_side : (k : OperatorKind) (i j : IntType) → IsArithmetic k → FitsRightSide k i (right_type k i j)
right_side balanced i j h = common_twice i j
right_side shift i j h = promoted_is j
right_side k i j h = absurd h

pub assignment_calculates : (code : ℕ) → IsArithmetic (kind_of_operator (operator_of_assignment code))
assignment_calculates code =
    let P : BinOp → Type 0 = λ o. IsArithmetic (kind_of_operator o) in
    either P (nat_eq code punctuators.ASSIGN_MULTIPLY) op.Mul _ (λ _. tt)
    (either P (nat_eq code punctuators.ASSIGN_DIVIDE) op.Div _ (λ _. tt)
    (either P (nat_eq code punctuators.ASSIGN_REMAINDER) op.Rem _ (λ _. tt)
    (either P (nat_eq code punctuators.ASSIGN_ADD) op.Add _ (λ _. tt)
    (either P (nat_eq code punctuators.ASSIGN_SUBTRACT) op.Sub _ (λ _. tt)
    (either P (nat_eq code punctuators.ASSIGN_LEFT_SHIFT) op.ShiftLeft _ (λ _. tt)
    (either P (nat_eq code punctuators.ASSIGN_RIGHT_SHIFT) op.ShiftRight _ (λ _. tt)
    (either P (nat_eq code punctuators.ASSIGN_AND) op.BitAnd _ (λ _. tt)
    (either P (nat_eq code punctuators.ASSIGN_XOR) op.BitXor op.BitOr (λ _. tt) tt))))))))

moves_pointers : (o : BinOp) → moves o ≡ true → MovesPointers o
moves_pointers op.Add h = inl refl
moves_pointers op.Sub h = inr refl
moves_pointers o h = absurd (cc)

-- the bytes of what is complete are an unsigned int
pub sized_bytes : (structs : Structs) → AreSound structs → (t : CType) → IsSized structs t → IsComplete structs t → sizeof structs t < 4294967296
sized_bytes structs s t h c = (let b = size_bound structs t in let m = few t h c in omega (arith, b, m))
  where
    few : (t : CType) → IsSized structs t → IsComplete structs t → cells structs t ≤ 33554432
    few (integer i) h c = omega arith
    few (pointer t) h c = omega arith
    few (array t n) h c = h.few
    few (struct u) h c = (let f = struct_few structs s u c.0 c.1 in omega (arith, f))
    few t h c = absurd c

module _ (p : Program) where
  table_compared : (o : BinOp) → IsComparison (kind_of_operator o) → (t : IntType) (x y : ℤ) → ConstRight p int (answered (table_of o t x y))
  table_compared op.Less h t x y = truth_right p _
  table_compared op.Greater h t x y = truth_right p _
  table_compared op.LessEqual h t x y = truth_right p _
  table_compared op.GreaterEqual h t x y = truth_right p _
  table_compared op.Equal h t x y = truth_right p _
  table_compared op.NotEqual h t x y = truth_right p _
  table_compared o h t x y = absurd h

  where_compared : (k : OperatorKind) → IsComparison k → (a : Answer Value) → ConstRight p int (answered (where_shift k a))
  where_compared balanced h a = absurd h
  where_compared shift h a = absurd h
  where_compared k h a = tt

  binary_compared : (o : BinOp) → IsComparison (kind_of_operator o) → (x y : Value) → ConstRight p int (answered (binary o x y))
  binary_compared o h (v.Int x) (v.Int y) = table_compared o h Int x y
  binary_compared o h (v.Int x) (v.Uint n) = where_compared (kind_of_operator o) h _
  binary_compared o h (v.Uint m) (v.Int y) = where_compared (kind_of_operator o) h _
  binary_compared o h (v.Uint m) (v.Uint n) = table_compared o h Uint (pos m) (pos n)
  binary_compared o h x y = tt

  compared_constant : (o : BinOp) → IsComparison (kind_of_operator o) → (a b : Constant) → ConstRight p int (constant_binary o a b)
  compared_constant o h (known x) (known y) = binary_compared o h x y
  compared_constant o h a not_constant = tt
  compared_constant o h a b = tt

module _ (p : Program) (vars : List CType) where
  -- ## Calls

  abbrev pub DesignatorRight : Designator → CType → CTypes → Type 0
  DesignatorRight (direct f) t ts = called_type p f ≡ Some (function t ts)
  DesignatorRight (through e) t ts = (type_of e ≡ pointer (function t ts)) × IsValue p vars e

  abbrev pub CalleeRight : Callee → Type 0
  CalleeRight f = DesignatorRight f.designator f.returns f.parameters

  passed_right : (ts : CTypes) (gs : List TypedExpression) → length gs ≡ count ts → all_fit ts gs ≡ true → ValuesRight p vars gs → AreArguments p vars ts (passed ts gs)
  passed_right no_types gs l f h = tt
  passed_right (more_types t ts) [] l f h = absurd (omega (arith, l))
  passed_right (more_types t ts) (g ∷ gs) l f h =
      let a = assigned_right p vars t g (and_left (fits t g) (all_fit ts gs) f) h.0 in
      let m : length gs ≡ count ts = omega (arith, l) in
      (a.0.0 ∙ a.1, a.0.1, passed_right ts gs m (and_right (fits t g) (all_fit ts gs) f) h.1)

  call_right : (d : Designator) (t : CType) (ts : CTypes) (site : ℕ) (es : Exprs) → DesignatorRight d t ts → AreArguments p vars ts es → (type_of (call_of d t site es) ≡ t) × IsValue p vars (call_of d t site es)
  call_right (direct f) t ts site es h k = (refl, (ts, h, k))
  call_right (through e) t ts site es h k = (refl, (ts, h.0, h.1, k))

  pub called_right : (at : ℕ) (f : Callee) (site : ℕ) (gs : List TypedExpression) → IsResult f.returns → CalleeRight f → ValuesRight p vars gs → Holds (TypedExpressionRight p vars) (called at f site gs)
  called_right at f site gs r h k =
      behind_demand (TypedExpressionRight p vars) (as_many_as f.parameters gs) 5 at _ (λ m. demand_holds (TypedExpressionRight p vars) (all_fit f.parameters gs) 3 at _ (λ a.
      (let c = call_right f.designator f.returns f.parameters site (passed f.parameters gs) h (passed_right f.parameters gs (number_is (length gs) (count f.parameters) m) a k) in (c.0, c.1, r, tt))))

  pub callee_type_right : (at : ℕ) (t : CType) (f : ℕ) → called_type p f ≡ Some t → Holds CalleeRight (callee_of_type at t f)
  callee_type_right at (function t ts) f h = h
  callee_type_right at t f h = tt

  pub callee_through_right : (at : ℕ) (e : Expr) (t : CType) → type_of e ≡ t → IsValue p vars e → Holds CalleeRight (callee_through at e t)
  callee_through_right at e (pointer (function t ts)) q h = (q, h)
  callee_through_right at e t q h = tt

  -- ## Members

  struct_place : (u : CType) (f : Form) (c : Constant) (s : ℕ) → u ≡ struct s → IsObject p.structs (struct s) → FormRight p vars u f c
      → IsPlace p vars (tree_of_form u f) × (type_of (tree_of_form u f) ≡ struct s) × ConstRight p (pointer (struct s)) c
  struct_place u (a_value e) c s q o h = absurd (subst IsResult q h.2)
  struct_place u (a_place e) c s q o h =
      let same : type_of e ≡ struct s = seen_same u (type_of e) (subst NotArray (sym q) tt) h.0 ∙ q in
      (h.1, same, subst (λ x. ConstRight p (pointer x) c) same h.3)
  struct_place u (behind e) c s q o h = ((subst (IsTarget p.structs) (sym q) o, h.0, h.1), q, subst (λ x. ConstRight p (pointer x) c) q h.3)

  module _ (env : Env) (w : AreWithin (layout_of env) p.structs) where
    member_place : (s : ℕ) (ms : List Member) (g : TypedExpression) (k : ℕ) → slice_get (layout_of env) s ≡ Some (Some (map type_of_member ms)) → g.ctype ≡ struct s → k < length (map type_of_member ms) → TypedExpressionRight p vars g → TypedExpressionRight p vars (member_given env ms g k)
    member_place s ms g k d q l h =
        let ts : List CType = map type_of_member ms in
        let t : CType = get_or ts k void in
        let kept : slice_get p.structs s ≡ Some (Some ts) = w.grows.kept s ts d in
        let got : slice_get ts k ≡ Some t = slice_get-get_or ts k void l in
        let c : IsComplete (layout_of env) t = w.sound.complete s ts d k void l in
        let few = member_few p.structs ts k t got in
        let all_few = w.whole.few s ts kept in
        let object : IsObject p.structs (struct s) = record { complete = (ts, kept); few = struct_few p.structs w.whole s ts kept } in
        let o : IsObject p.structs t = record { complete = complete_in (layout_of env) p.structs w t c; few = omega (arith, few, all_few) } in
        let place = struct_place g.ctype g.form g.constant s q object h in
        let first : first_cell (layout_of env) ts k ≡ first_cell p.structs ts k = first_in (layout_of env) p.structs w ts k (w.sound.complete s ts d) in
        let lies : Lies (flat p.structs (struct s)) (first_cell (layout_of env) ts k) (flat p.structs t) =
        subst (λ n. Lies (flat p.structs (struct s)) n (flat p.structs t)) (sym first) (subst (λ all. Lies all (first_cell p.structs ts k) (flat p.structs t)) (sym (struct_is p.structs (are_structs p.structs w.whole) s ts kept)) (member_lies p.structs ts k t got)) in
        (inl refl, ((s, ts, k, place.1, kept, got, first), place.0), complete_thing (layout_of env) t c, member_constant p (struct s) t (first_cell (layout_of env) ts k) (cells (layout_of env) t) g.constant place.2 o (cells_in (layout_of env) p.structs w t c) lies)

    module _ (below : (xs : List Name) (x : Name) (i : ℕ) → number_among xs x ≡ Some i → i < length xs) (long : (ms : List Member) → length (map name_of_member ms) ≡ length (map type_of_member ms)) where
      member_given_right : (x : Name) (g h : TypedExpression) → IsMember env x g h → TypedExpressionRight p vars g → TypedExpressionRight p vars h
      member_given_right x g h (a_member s ms k e d n) r =
          member_place s ms g k (defined_at env s ms d) e (let b = below (map name_of_member ms) x k n in let l = long ms in omega (arith, b, l)) r

      pub member_right : (at : ℕ) (x : Name) (g : TypedExpression) → TypedExpressionRight p vars g → Holds (TypedExpressionRight p vars) (member_of env at x g)
      member_right at x g h = holds_map (IsMember env x g) (TypedExpressionRight p vars) (λ m k. member_given_right x g m k h) (member_of env at x g) (member_agrees env at at x g).has

  -- ## Addresses

  address_of_right : (g h : TypedExpression) → IsAddress g h → TypedExpressionRight p vars g → TypedExpressionRight p vars h
  address_of_right g h (of_place e f n) w =
      let r = subst (λ f. FormRight p vars g.ctype f g.constant) f w in
      let same : type_of e ≡ g.ctype = seen_same g.ctype (type_of e) n r.0 in
      (refl, (ap pointer (sym same), r.1), tt, subst (λ x. ConstRight p (pointer x) g.constant) same r.3)
  address_of_right g h (of_leader q f n) w = (let r = subst (λ f. FormRight p vars g.ctype f g.constant) f w in (r.0, r.1, tt, r.3))

  pub address_right : (at place : ℕ) (g : TypedExpression) → TypedExpressionRight p vars g → Holds (TypedExpressionRight p vars) (address at place g)
  address_right at place g h = holds_map (IsAddress g) (TypedExpressionRight p vars) (λ x k. address_of_right g x k h) (address at place g) (address_agrees at at g place place).has

  led_right : (structs : Structs) (g h : TypedExpression) → IsLedTo g h → Made structs g.ctype → ValueRight p vars g → TypedExpressionRight p vars h
  led_right structs g h (led t e n) m w =
      let k : NotArray t × Made structs t = subst (Made structs) e m in
      (w.0 ∙ e, w.1, thing_led t n k.0, subst (λ u. ConstRight p u g.constant) e w.3)

  pub indirection_right : (structs : Structs) (at : ℕ) (g : TypedExpression) → Made structs g.ctype → ValueRight p vars g → Holds (TypedExpressionRight p vars) (indirection at g)
  indirection_right structs at g m h = holds_map (IsLedTo g) (TypedExpressionRight p vars) (λ x k. led_right structs g x k m h) (indirection at g) (indirection_agrees at at g).has

  -- ## Unary operators

  fits_unary : (o : UnOp) (i : IntType) (u : CType) → (o ≡ Minus) ⊎ (o ≡ Complement) → u ≡ integer i → IsPromoted i → FitsUnary o (integer i) u
  fits_unary Not i u (inl o) e h = absurd (cc)
  fits_unary Not i u (inr o) e h = absurd (cc)
  fits_unary o i u s e h = (i, refl, e, h)

  one_right : (structs : Structs) (g h : TypedExpression) → OfOne g h → Made structs g.ctype → ValueRight p vars g → TypedExpressionRight p vars h
  one_right structs g h (leads x k) m w = led_right structs g x k m w
  one_right structs g h (promotes i e) m w = cast_right p vars (promoted i) g (i, e) w
  one_right structs g h (operates o i s e) m w =
      let c = converted_right p vars (promoted i) g (i, e) w in
      (refl, (fits_unary o (promoted i) _ s (c.0.0 ∙ c.1) (promoted_is i), c.0.1), tt, unary_constant p o (promoted i) (converted_to (promoted i) g).ctype (converted_to (promoted i) g).constant c.1 (promoted_is i) s c.0.3)
  one_right structs g h (negates s) m w = (refl, ((refl, subst IsScalar (sym w.0) (scalar_is g.ctype s)), w.1), tt, not_constant_right p (integer_constant g))

  pub unary_right : (structs : Structs) (at o : ℕ) (g : TypedExpression) → Made structs g.ctype → ValueRight p vars g → Holds (TypedExpressionRight p vars) (unary_of_value at o g)
  unary_right structs at o g m h = holds_map (OfOne g) (TypedExpressionRight p vars) (λ x k. one_right structs g x k m h) (unary_of_value at o g) (unary_agrees at at g o).has

  -- ## sizeof and casts

  pub number_right : (n : ℕ) → n < 4294967296 → FormRight p vars unsigned_int (a_value (constant unsigned_int (v.Uint n))) (known (v.Uint n))
  number_right n l = (refl, (refl, l), tt, (refl, l))

  pub size_right : (env : Env) → AreSound (layout_of env) → (at place : ℕ) (t : CType) → Made (layout_of env) t → Holds (TypedExpressionRight p vars) (size_of env at place t)
  size_right env s at place t m =
      on_holds (λ _. IsComplete (layout_of env) t) (TypedExpressionRight p vars) (complete env at t) _ (complete_known env at t m)
      (λ _ c. demand_holds (TypedExpressionRight p vars) (nat_le (cells (layout_of env) t) 65536) 13 place (typed_unsigned (sizeof (layout_of env) t))
      (λ q. number_right (sizeof (layout_of env) t) (sized_bytes (layout_of env) s t (sized_few (layout_of env) t m (leb-true (cells (layout_of env) t) 65536 q)) c)))

  pub cast_of_right : (at : ℕ) (t : CType) (g : TypedExpression) → ValueRight p vars g → Holds (TypedExpressionRight p vars) (cast_of at t g)
  cast_of_right at void g h = (refl, (refl, h.1), tt, tt)
  cast_of_right at (integer i) g h = demand_holds (TypedExpressionRight p vars) (is_integer g.ctype) 3 at (cast_to i g) (λ b. cast_right p vars i g (integer_type g.ctype b) h)
  cast_of_right at t g h = tt

  pub null_cast_right : (at : ℕ) (g : TypedExpression) → Holds (TypedExpressionRight p vars) (null_cast at g)
  null_cast_right at g = demand_holds (TypedExpressionRight p vars) (is_integer g.ctype && is_null g) 3 at (null_of (pointer void)) (λ _. null_right p vars (pointer void) void refl)

  -- ## Operators between two values

  calculated_right : (o : BinOp) (i j : IntType) (a b : TypedExpression) → AreOperands (kind_of_operator o) i j → IsIntegerType a.ctype → IsIntegerType b.ctype → ValueRight p vars a → ValueRight p vars b → TypedExpressionRight p vars (shifted o i j a b)
  calculated_right o i j a b f s t h k =
      let c = converted_right p vars i a s h in
      let d = converted_right p vars j b t k in (
        refl,
        ((i, j, refl, c.0.0 ∙ c.1, d.0.0 ∙ d.1, f), c.0.1, d.0.1),
        tt,
        binary_constant p o (integer i) (converted_to i a).ctype (converted_to j b).ctype i j (converted_to i a).constant (converted_to j b).constant c.1 d.1 (i, j, refl, c.1, d.1, f) c.0.3 d.0.3,
      )

  comparable_integers : (k : OperatorKind) (u : CType) (i : IntType) → IsComparison k → u ≡ integer i → IsPromoted i → AreComparable p.structs k u
  comparable_integers balanced u i h e r = absurd h
  comparable_integers shift u i h e r = absurd h
  comparable_integers k u i h e r = inl (i, e, r)

  compared_right : (o : BinOp) (i : IntType) (a b : TypedExpression) → IsComparison (kind_of_operator o) → IsPromoted i → IsIntegerType a.ctype → IsIntegerType b.ctype → ValueRight p vars a → ValueRight p vars b → TypedExpressionRight p vars (compared_integers o i a b)
  compared_right o i a b m r s t h k =
      let c = converted_right p vars i a s h in
      let d = converted_right p vars i b t k in
      let e = c.0.0 ∙ c.1 in
      let f = d.0.0 ∙ d.1 in
      (refl, (record { gives = refl; alike = f ∙ sym e; comparable = comparable_integers (kind_of_operator o) _ i m e r }, c.0.1, d.0.1), tt, compared_constant p o m (converted_to i a).constant (converted_to i b).constant)

  pointers_compared : (o : BinOp) (a b : TypedExpression) → AreComparable p.structs (kind_of_operator o) a.ctype → b.ctype ≡ a.ctype → ValueRight p vars a → ValueRight p vars b → TypedExpressionRight p vars (compared_pointers o a b)
  pointers_compared o a b m e h k = (refl, (record { gives = refl; alike = k.0 ∙ (e ∙ sym h.0); comparable = subst (AreComparable p.structs (kind_of_operator o)) (sym h.0) m }, h.1, k.1), tt, tt)

  module _ (env : Env) (w : AreWithin (layout_of env) p.structs) where
    pointer_object : (at : ℕ) (u t : CType) → u ≡ pointer t → Made (layout_of env) u → complete env at t ≡ fine met → IsObjectPointer p.structs u
    pointer_object at u t e m c =
        let n : NotArray t × Made (layout_of env) t = subst (Made (layout_of env)) e m in
        (t, e, object_in (layout_of env) p.structs w t n.0 (held (λ _. IsComplete (layout_of env) t) (complete env at t) met (complete_known env at t n.1) c))

    -- a pointer plus or minus an integer
    pointer_moved_right : (t : CType) (minus : Bool) (sign : ℤ → ℤ) (a b : TypedExpression) → a.ctype ≡ pointer t → IsObjectPointer p.structs a.ctype → IsIntegerType b.ctype → ValueRight p vars a → ValueRight p vars b → TypedExpressionRight p vars (typed_value (pointer t) (pointer_add (pointer t) true minus (tree_of a) (tree_of b)) (constant_moved a.constant sign b.constant))
    pointer_moved_right t minus sign a b e o s h k =
        (refl, ((h.0 ∙ e, subst (IsObjectPointer p.structs) e o, subst IsIntegerType (sym k.0) s), h.1, k.1), tt, moved_constant p t a.constant sign b.constant (subst (λ u. ConstRight p u a.constant) e h.3))

    plus_pointer_right : (t : CType) (a b : TypedExpression) → b.ctype ≡ pointer t → IsObjectPointer p.structs b.ctype → IsIntegerType a.ctype → ValueRight p vars a → ValueRight p vars b → TypedExpressionRight p vars (plus_pointer t a b)
    plus_pointer_right t a b e o s h k =
        (refl, ((k.0 ∙ e, subst (IsObjectPointer p.structs) e o, subst IsIntegerType (sym h.0) s, refl), h.1, k.1), tt, moved_constant p t b.constant (λ z. z) a.constant (subst (λ u. ConstRight p u b.constant) e k.3))

    difference_right : (a b : TypedExpression) → b.ctype ≡ a.ctype → IsObjectPointer p.structs a.ctype → ValueRight p vars a → ValueRight p vars b → TypedExpressionRight p vars (difference a b)
    difference_right a b e o h k = (refl, (refl, subst (IsObjectPointer p.structs) (sym h.0) o, k.0 ∙ (e ∙ sym h.0), h.1, k.1), tt, tt)

    abbrev pub IsMadeRight : TypedExpression → Type 0
    IsMadeRight g = Made (layout_of env) g.ctype × ValueRight p vars g

    -- a sum is a value
    abbrev pub SumRight : TypedExpression → Type 0
    SumRight g = TypedExpressionRight p vars g × ValueRight p vars g

    abbrev PointersRight : TypedExpression → TypedExpression → Type 0
    PointersRight x y = ValueRight p vars x × ValueRight p vars y × (y.ctype ≡ x.ctype) × ((u : CType) × (x.ctype ≡ pointer u))

    pointers_right : (a b x y : TypedExpression) → ArePointers a b x y → ValueRight p vars a → ValueRight p vars b → PointersRight x y
    pointers_right a b x y (as_given t e f) g h = (g, h, f, (t, e))
    pointers_right a b x y (left_null t e n) g h = (null_right p vars b.ctype t e, h, refl, (t, e))
    pointers_right a b x y (right_null t e n) g h = (g, null_right p vars a.ctype t e, refl, (t, e))

    scalar_tree : (g : TypedExpression) → is_scalar g.ctype ≡ true → ValueRight p vars g → IsScalar (type_of (tree_of g)) × IsValue p vars (tree_of g)
    scalar_tree g s h = (subst IsScalar (sym h.0) (scalar_is g.ctype s), h.1)

    -- what holds of a value as an expression holds of it as a value
    two_right : (at : ℕ) (a b g : TypedExpression) → OfTwo env at a b g → IsMadeRight a → IsMadeRight b → SumRight g
    two_right at a b g (calculates o i j f s t) h k = (let r = calculated_right o i j a b f s t h.1 k.1 in (r, r))
    two_right at a b g (compares o i m f s t) h k = (let r = compared_right o i a b m f s t h.1 k.1 in (r, r))
    two_right at a b g (orders o t q e s c) h k = (let r = pointers_compared o a b (subst (λ y. AreComparable p.structs y a.ctype) (sym q) (inr (pointer_object at a.ctype t e h.0 c))) s h.1 k.1 in (r, r))
    two_right at a b g (equals o x y q l) h k =
        let s = pointers_right a b x y l h.1 k.1 in
        let r = pointers_compared o x y (subst (λ z. AreComparable p.structs z x.ctype) (sym q) (inr s.3)) s.2 s.0 s.1 in
        (r, r)
    two_right at a b g (adds_right t e i c) h k = (let r = pointer_moved_right t false (λ z. z) a b e (pointer_object at a.ctype t e h.0 c) i h.1 k.1 in (r, r))
    two_right at a b g (adds_left t e i c) h k = (let r = plus_pointer_right t a b e (pointer_object at b.ctype t e k.0 c) i h.1 k.1 in (r, r))
    two_right at a b g (takes t e i c) h k = (let r = pointer_moved_right t true (λ z. neg_ℤ z) a b e (pointer_object at a.ctype t e h.0 c) i h.1 k.1 in (r, r))
    two_right at a b g (differs t e s c) h k = (let r = difference_right a b s (pointer_object at a.ctype t e h.0 c) h.1 k.1 in (r, r))
    two_right at a b g (joins_and s) h k =
        let r : ValueRight p vars (typed_value int (and int (tree_of a) (tree_of b)) (constant_and (integer_constant a) (integer_constant b))) = (refl, (refl, scalar_tree a (and_left (is_scalar a.ctype) (is_scalar b.ctype) s) h.1, scalar_tree b (and_right (is_scalar a.ctype) (is_scalar b.ctype) s) k.1), tt, and_constant p (integer_constant a) (integer_constant b)) in (r, r)
    two_right at a b g (joins_or s) h k =
        let r : ValueRight p vars (typed_value int (or int (tree_of a) (tree_of b)) (constant_or (integer_constant a) (integer_constant b))) = (refl, (refl, scalar_tree a (and_left (is_scalar a.ctype) (is_scalar b.ctype) s) h.1, scalar_tree b (and_right (is_scalar a.ctype) (is_scalar b.ctype) s) k.1), tt, or_constant p (integer_constant a) (integer_constant b)) in (r, r)

    pub operation_right : (at : ℕ) (o : BinOp) (a b : TypedExpression) → IsMadeRight a → IsMadeRight b → Holds SumRight (operation env at o a b)
    operation_right at o a b h k = holds_map (OfTwo env at a b) SumRight (λ g x. two_right at a b g x h k) (operation env at o a b) (operation_agrees env at at a b o).has

    pub infix_right : (at : ℕ) (o : Infix) (a b : TypedExpression) → IsMadeRight a → IsMadeRight b → Holds SumRight (infix_rule env at o a b)
    infix_right at o a b h k = holds_map (OfTwo env at a b) SumRight (λ g x. two_right at a b g x h k) (infix_rule env at o a b) (infix_agrees env at at a b o).has

    chosen_right : (t : CType) (c a b : TypedExpression) → IsScalar (type_of (tree_of c)) × IsValue p vars (tree_of c) → IsResult t → a.ctype ≡ t → b.ctype ≡ t → ValueRight p vars a → ValueRight p vars b → TypedExpressionRight p vars (chosen t c a b)
    chosen_right t c a b s r e f g h = (
      refl,
      (s, g.0 ∙ e, h.0 ∙ f, g.1, h.1),
      r,
      conditional_constant p t (integer_constant c) (integer_constant a) (integer_constant b)
          (integer_part p t (is_integer a.ctype) a.constant (subst (λ u. ConstRight p u a.constant) e g.3)) (integer_part p t (is_integer b.ctype) b.constant (subst (λ u. ConstRight p u b.constant) f h.3)),
    )

    choice_of_right : (c a b g : TypedExpression) → OfChoice c a b g → ValueRight p vars c → ValueRight p vars a → ValueRight p vars b → TypedExpressionRight p vars g
    choice_of_right c a b g (integers_chosen i s j k) f h l =
        let m = converted_right p vars i a j h in
        let n = converted_right p vars i b k l in
        chosen_right (integer i) c (converted_to i a) (converted_to i b) (scalar_tree c s f) tt m.1 n.1 m.0 n.0
    choice_of_right c a b g (pointers_chosen x y s q) f h l = (let k = pointers_right a b x y q h l in chosen_right x.ctype c x y (scalar_tree c s f) k.0.2 refl k.2 k.0 k.1)
    choice_of_right c a b g (voids_chosen s e) f h l =
        chosen_right void c a b (scalar_tree c s f) tt (void_is a.ctype (and_left (is_void a.ctype) (is_void b.ctype) e)) (void_is b.ctype (and_right (is_void a.ctype) (is_void b.ctype) e)) h l

    pub choice_right : (at : ℕ) (c a b : TypedExpression) → ValueRight p vars c → ValueRight p vars a → ValueRight p vars b → Holds (TypedExpressionRight p vars) (choice at c a b)
    choice_right at c a b f h k = holds_map (OfChoice c a b) (TypedExpressionRight p vars) (λ g x. choice_of_right c a b g x f h k) (choice at c a b) (choice_agrees at at c a b).has

    -- ## Assignments

    abbrev pub PlaceRight : TypedExpression → Type 0
    PlaceRight g = TypedExpressionRight p vars g × (is_place g ≡ true)

    place_form : (u : CType) (f : Form) (c : Constant) → (not (is_value f) && not (is_function u)) ≡ true → IsScalar u → NotArray u → FormRight p vars u f c → IsPlace p vars (tree_of_form u f) × (type_of (tree_of_form u f) ≡ u)
    place_form u (a_value e) c q s n h = absurd (cc)
    place_form u (a_place e) c q s n h = (h.1, seen_same u (type_of e) n h.0)
    place_form u (behind e) c q s n h = ((target_scalar p.structs u s, h.0, h.1), refl)

    place_tree : (g : TypedExpression) → PlaceRight g → IsScalar g.ctype → IsPlace p vars (tree_of g) × (type_of (tree_of g) ≡ g.ctype)
    place_tree g h s = place_form g.ctype g.form g.constant h.1 s (scalar_not_array g.ctype s) h.0

    updated_right : (o : BinOp) (old : Bool) (a : TypedExpression) (e : Expr) → PlaceRight a → IsScalar a.ctype → FitsUpdate p.structs o a.ctype (type_of e) → IsValue p vars e → TypedExpressionRight p vars (updated o old a e)
    updated_right o old a e g s f h = (let t = place_tree a g s in (refl, (f, t.1, t.0, h), scalar_result a.ctype s, tt))

    update_right : (at : ℕ) (o : BinOp) (a b g : TypedExpression) → OfUpdate env at o a b g → IsArithmetic (kind_of_operator o) → Made (layout_of env) a.ctype → PlaceRight a → ValueRight p vars b → TypedExpressionRight p vars g
    update_right at o a b g (assigns f) q m h k =
        let s = fits_scalar a.ctype b f in let t = place_tree a h s in let r = assigned_right p vars a.ctype b f k in
        (refl, (s, t.1, r.0.0 ∙ r.1, t.0, r.0.1), scalar_result a.ctype s, tt)
    update_right at o a b g (updates old i j e f) q m h k =
        let r : IntType = right_type (kind_of_operator o) i j in
        let c = converted_right p vars r b (j, f) k in
        updated_right o old a (tree_of (converted_to r b)) h (subst IsScalar (sym e) tt) (inl (i, r, e, c.0.0 ∙ c.1, right_side (kind_of_operator o) i j q)) c.0.1
    update_right at o a b g (moved old t n e i c) q m h k = updated_right o old a (tree_of b) h (subst IsScalar (sym e) tt) (inr (moves_pointers o n, pointer_object at a.ctype t e m c, subst IsIntegerType (sym k.0) i)) k.1

    pub assignment_by_right : (at code : ℕ) (a b : TypedExpression) → Made (layout_of env) a.ctype → PlaceRight a → ValueRight p vars b → Holds (TypedExpressionRight p vars) (assignment_by env at code a b)
    assignment_by_right at code a b m h k =
        holds_map (OfUpdate env at (operator_of_assignment code) a b) (TypedExpressionRight p vars) (λ g u. update_right at (operator_of_assignment code) a b g u (assignment_calculates code) m h k) (assignment_by env at code a b) (assignment_agrees env at at code a b).has

    one_for_right : (k : Kind) → ValueRight p vars (one_for k)
    one_for_right (an_integer i) = (refl, value_of_type (common i widths.Int) (pos 1), tt, tt)
    one_for_right k = (refl, (refl, grind arith), tt, tt)

    pub step_right : (at : ℕ) (o : BinOp) (old : Bool) (a : TypedExpression) → IsArithmetic (kind_of_operator o) → Made (layout_of env) a.ctype → PlaceRight a → Holds (TypedExpressionRight p vars) (step env at o old a)
    step_right at o old a q m h =
        let one : TypedExpression = one_for (kind_of a.ctype) in
        holds_map (OfUpdate env at o a one) (TypedExpressionRight p vars) (λ g u. update_right at o a one g u q m h (one_for_right (kind_of a.ctype))) (step env at o old a) (step_agrees env at at o old a).has

  -- ## The comma

  members_after : (t u : CType) (gs : List TypedExpression) → u ≡ t → ValuesRight p vars gs → AreMembersAfter p vars (last_type t gs) u (trees_of gs)
  members_after t u [] e h = e
  members_after t u (g ∷ gs) e h = (h.0.1, members_after g.ctype (type_of (tree_of g)) gs h.0.0 h.1)

  last_result : (t : CType) (gs : List TypedExpression) → IsResult t → ValuesRight p vars gs → IsResult (last_type t gs)
  last_result t [] r h = r
  last_result t (g ∷ gs) r h = last_result g.ctype gs h.0.2 h.1

  pub comma_right : (gs : List TypedExpression) → 1 ≤ length gs → ValuesRight p vars gs → TypedExpressionRight p vars (comma_of gs)
  comma_right [] l h = absurd (omega (arith, l))
  comma_right (g ∷ gs) l h = (refl, (h.0.1, members_after g.ctype (type_of (tree_of g)) gs h.0.0 h.1), last_result g.ctype gs h.0.2 h.1, tt)
