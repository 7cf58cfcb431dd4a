-- Rules with one operand, where the operand has another tree.
use Rattle.std.proofs.Common.{◌≡◌, ℕ, map, Bool, true, false, ◌&&◌, ◌||◌, List, [], Option, Some, None, nat_eq, refl, ap, sym, subst}
use Rattle.std.specs.Prelude.{not, slice_index_or}
use Rattle.c_lexer.specs.declared.punctuator.TheConstants.{AMPERSAND, ASTERISK, PLUS, MINUS, TILDE}
use Rattle.c_tree.specs.declared.value.IntType.{IntType}
use Rattle.c_tree.specs.declared.value.UnOp.{UnOp}
use Rattle.c_tree.specs.declared.value.UnOp.TheVariants.{Minus, Complement, Not}
use Rattle.c_tree.specs.Tree.{CType, void, integer, pointer, array, struct, Expr, address_of, field, unary_operation, Program}
use Rattle.c_tree.specs.Layout.{cells, first_cell}
use Rattle.c_tree.specs.Functions.{int}
use Rattle.c_tree.specs.Operands.{promoted}
use Rattle.c_syntax.specs.Tree.{Access, dot, arrow}
use Rattle.c_rules.specs.Checked.{Checked, fine, demand, on, met}
use Rattle.c_rules.specs.Names.{Name, number_among}
use Rattle.c_rules.specs.Types.{is_integer, is_function, is_scalar}
use Rattle.c_rules.specs.Scopes.{Env, Struct, defined_struct, Member, type_of_member, struct_of, layout_of}
use Rattle.c_rules.specs.TypedExpression.{Form, a_value, a_place, behind, TypedExpression, typed_value, tree_of, is_value, is_place, is_null, integer_constant}
use Rattle.c_rules.specs.Constants.{constant_unary}
use Rattle.c_rules.specs.Conversions.{Kind, an_integer, kind_of, few_parts, valued, cast_to, converted_to, null_of}
use Rattle.c_rules.specs.PostfixExpressions.{name_of_member, member_or_undeclared, member_of_struct, member_of_type, member_of}
use Rattle.c_rules.specs.UnaryExpressions.{address_of_form, address_of_type, address, led_to, indirection, plus_of, operator_of, negation, unary_of_value, cast_of, null_cast}
use Rattle.c_rules.specs.Assignments.{assignable}
use Rattle.c_rules.specs.Expressions.{value_at, place_at, access, unary_rule}
use Rattle.null_calls_laws.specs.InstrumentedPrograms.{expr, kept}
use Rattle.null_calls_laws.specs.WithoutSites.{unsited}
use Rattle.c_rules_laws.specs.ConstantForm.{IsConst}
use Rattle.c_rules_laws.proofs.Holding.{and_right}
use Rattle.null_calls_laws.specs.Remade.{inner_of, with_inner, remade, IsRemade, Follows}
use Rattle.c_rules_laws.proofs.ConstantForms.{unary_const, integer_const, member_const}
use Rattle.null_calls_laws.proofs.Operands.{operand, value_remade, same_remade, demand_follows, on_follows, if_follows, valued_follows, cast_operand, converted_operand, null_operand}

module _ (p : Program) (k : ℕ) (ts : List CType) where
  abbrev Same : TypedExpression → Expr → Type 0
  Same g x = IsRemade p k ts g x

  abbrev Goes : Checked TypedExpression → Checked TypedExpression → Type 0
  Goes r s = Follows p k ts r s

  -- ## Members

  member_or_follows : (env : Env) (at : ℕ) (ms : List Member) (g : TypedExpression) (x : Expr) (o : Option ℕ) → Same g x → Goes (member_or_undeclared env at ms g o) (member_or_undeclared env at ms (remade g x) o)
  member_or_follows env at ms g x None h = tt
  member_or_follows env at ms g x (Some n) h =
      let t : CType = slice_index_or (map type_of_member ms) n void in
      let first : ℕ = first_cell (layout_of env) (map type_of_member ms) n in
      let o = operand p k ts g x h in
      (field t first (tree_of (remade g x)), refl, record { types = o.types; tree = ap (field t first) o.tree; none = λ c. h.none (member_const first (cells (layout_of env) t) g.constant c) })

  member_struct_follows : (env : Env) (at : ℕ) (y : Name) (g : TypedExpression) (x : Expr) (s : Struct) → Same g x → Goes (member_of_struct env at y g s) (member_of_struct env at y (remade g x) s)
  member_struct_follows env at y g x (defined_struct ms) h = member_or_follows env at ms g x (number_among (map name_of_member ms) y) h
  member_struct_follows env at y g x s h = tt

  member_type_follows : (env : Env) (at : ℕ) (y : Name) (g : TypedExpression) (x : Expr) (t : CType) → Same g x → Goes (member_of_type env at y g t) (member_of_type env at y (remade g x) t)
  member_type_follows env at y g x (struct s) h = member_struct_follows env at y g x (struct_of env s) h
  member_type_follows env at y g x t h = tt

  pub member_follows : (env : Env) (at : ℕ) (y : Name) (g : TypedExpression) (x : Expr) → Same g x → Goes (member_of env at y g) (member_of env at y (remade g x))
  member_follows env at y g x h = member_type_follows env at y g x g.ctype h

  -- ## Addresses

  address_form_follows : (at : ℕ) (g : TypedExpression) (x : Expr) (f : Form) → kept p true (inner_of f) ≡ ts → unsited x ≡ expr p k true (inner_of f) → (IsConst g.constant → ts ≡ []) → Goes (address_of_form at g f) (address_of_form at (remade g x) (with_inner f x))
  address_form_follows at g x (a_value e) h l n = tt
  address_form_follows at g x (a_place e) h l n =
      demand_follows p k ts (few_parts (pointer g.ctype)) 13 at (typed_value (pointer g.ctype) (address_of (pointer g.ctype) e) g.constant) (typed_value (pointer g.ctype) (address_of (pointer g.ctype) x) g.constant)
      (value_remade p k ts (pointer g.ctype) (address_of (pointer g.ctype) e) (address_of (pointer g.ctype) x) g.constant g.constant h (ap (address_of (pointer g.ctype)) l) n refl)
  address_form_follows at g x (behind e) h l n = value_remade p k ts (pointer g.ctype) e x g.constant g.constant h l n refl

  address_type_follows : (at : ℕ) (g : TypedExpression) (x : Expr) (t : CType) → Same g x → Goes (address_of_type at g t) (address_of_type at (remade g x) t)
  address_type_follows at g x (array t n) h = tt
  address_type_follows at g x t h = address_form_follows at g x g.form h.types h.tree h.none

  -- a test that looks at the form alone
  value_same : (f : Form) (x : Expr) → is_value (with_inner f x) ≡ is_value f
  value_same (a_value e) x = refl
  value_same f x = refl

  place_same : (g : TypedExpression) (x : Expr) → is_place (remade g x) ≡ is_place g
  place_same g x = ap (λ b. not b && not (is_function g.ctype)) (value_same g.form x)

  pub behind_test : (b c : Bool) → c ≡ b → (code at : ℕ) (r s : Checked TypedExpression) → (b ≡ true → Goes r s) → Goes (on (demand b code at met) (λ _. r)) (on (demand c code at met) (λ _. s))
  behind_test true c q code at r s h = subst (λ z. Goes r (on (demand z code at met) (λ _. s))) (sym q) (h refl)
  behind_test false c q code at r s h = tt

  pub address_follows : (at place : ℕ) (g : TypedExpression) (x : Expr) → Same g x → Goes (address at place g) (address at place (remade g x))
  address_follows at place g x h =
      behind_test (is_place g || is_function g.ctype) (is_place (remade g x) || is_function g.ctype) (ap (λ b. b || is_function g.ctype) (place_same g x)) 4 place (address_of_type at g g.ctype) (address_of_type at (remade g x) g.ctype) (λ _. address_type_follows at g x g.ctype h)

  -- an operand that designates an object
  pub assignable_follows : (at : ℕ) (g : TypedExpression) (x : Expr) → Same g x → Goes (assignable at g) (assignable at (remade g x))
  assignable_follows at g x h =
      subst (λ z. Goes (demand (is_place g) 4 at g) (demand z 4 at (remade g x))) (sym (place_same g x)) (demand_follows p k ts (is_place g) 4 at g (remade g x) (same_remade p k ts g x h))

  -- ## Where pointers lead

  led_remade : (g : TypedExpression) (x : Expr) (t : CType) → Same g x → Goes (fine (record { ctype = t; form = behind (tree_of g); constant = g.constant })) (fine (record { ctype = t; form = behind (tree_of (remade g x)); constant = g.constant }))
  led_remade g x t h = (let o = operand p k ts g x h in (tree_of (remade g x), refl, record { types = o.types; tree = o.tree; none = h.none }))

  led_follows : (at : ℕ) (g : TypedExpression) (x : Expr) (t : CType) → Same g x → Goes (led_to at g t) (led_to at (remade g x) t)
  led_follows at g x (pointer void) h = tt
  led_follows at g x (pointer t) h = led_remade g x t h
  led_follows at g x t h = tt

  pub indirection_follows : (at : ℕ) (g : TypedExpression) (x : Expr) → Same g x → Goes (indirection at g) (indirection at (remade g x))
  indirection_follows at g x h = led_follows at g x g.ctype h

  -- ## Arithmetic

  cast_follows : (i : IntType) (g : TypedExpression) (x : Expr) → Same g x → Goes (fine (cast_to i g)) (fine (cast_to i (remade g x)))
  cast_follows i g x h = (let o = cast_operand p k ts i g (remade g x) (operand p k ts g x h) in value_remade p k ts (integer i) (tree_of (cast_to i g)) (tree_of (cast_to i (remade g x))) (cast_to i g).constant (cast_to i g).constant o.types o.tree o.none refl)

  plus_follows : (at : ℕ) (g : TypedExpression) (x : Expr) (d : Kind) → Same g x → Goes (plus_of at g d) (plus_of at (remade g x) d)
  plus_follows at g x (an_integer i) h = cast_follows (promoted i) g x h
  plus_follows at g x d h = tt

  operator_follows : (at : ℕ) (o : UnOp) (g : TypedExpression) (x : Expr) (d : Kind) → Same g x → Goes (operator_of at o g d) (operator_of at o (remade g x) d)
  operator_follows at o g x (an_integer i) h =
      let c = converted_operand p k ts (promoted i) g x h in
      let a : TypedExpression = converted_to (promoted i) g in
      let b : TypedExpression = converted_to (promoted i) (remade g x) in
      value_remade p k ts (integer (promoted i)) (unary_operation (integer (promoted i)) o (tree_of a)) (unary_operation (integer (promoted i)) o (tree_of b)) (constant_unary o a.constant) (constant_unary o b.constant) c.types (ap (unary_operation (integer (promoted i)) o) c.tree) (λ z. c.none (unary_const o a.constant z)) (ap (constant_unary o) c.constant)
  operator_follows at o g x d h = tt

  negation_follows : (at : ℕ) (g : TypedExpression) (x : Expr) → Same g x → Goes (negation at g) (negation at (remade g x))
  negation_follows at g x h =
      let o = operand p k ts g x h in
      demand_follows p k ts (is_scalar g.ctype) 3 at (typed_value int (unary_operation int Not (tree_of g)) (constant_unary Not (integer_constant g))) (typed_value int (unary_operation int Not (tree_of (remade g x))) (constant_unary Not (integer_constant g)))
      (value_remade p k ts int (unary_operation int Not (tree_of g)) (unary_operation int Not (tree_of (remade g x))) (constant_unary Not (integer_constant g)) (constant_unary Not (integer_constant g)) o.types (ap (unary_operation int Not) o.tree) (λ c. h.none (integer_const (is_integer g.ctype) g.constant (unary_const Not (integer_constant g) c))) refl)

  pub unary_value_follows : (at op : ℕ) (g : TypedExpression) (x : Expr) → Same g x → Goes (unary_of_value at op g) (unary_of_value at op (remade g x))
  unary_value_follows at op g x h =
      if_follows p k ts (nat_eq op ASTERISK) _ _ _ _ (indirection_follows at g x h)
      (if_follows p k ts (nat_eq op PLUS) _ _ _ _ (plus_follows at g x (kind_of g.ctype) h)
      (if_follows p k ts (nat_eq op MINUS) _ _ _ _ (operator_follows at Minus g x (kind_of g.ctype) h)
      (if_follows p k ts (nat_eq op TILDE) _ _ _ _ (operator_follows at Complement g x (kind_of g.ctype) h) (negation_follows at g x h))))

  -- ## Casts

  pub null_cast_follows : (at : ℕ) (g : TypedExpression) (x : Expr) → Same g x → Goes (null_cast at g) (null_cast at (remade g x))
  null_cast_follows at g x h = by_test (is_integer g.ctype && is_null g) (λ e. and_right (is_integer g.ctype) (is_null g) e)
    where
      by_test : (b : Bool) → (b ≡ true → is_null g ≡ true) → Goes (demand b 3 at (null_of (pointer void))) (demand b 3 at (null_of (pointer void)))
      by_test true e = (let o = null_operand p k ts (pointer void) g x (e refl) h in value_remade p k ts (pointer void) (tree_of (null_of (pointer void))) (tree_of (null_of (pointer void))) (null_of (pointer void)).constant (null_of (pointer void)).constant o.types o.tree o.none refl)
      by_test false e = tt

  -- a cast to an integer; that to void has an operand whose value isn't wanted
  pub cast_of_follows : (at : ℕ) (t : CType) (g : TypedExpression) (x : Expr) → (t ≡ void → ⊥) → Same g x → Goes (cast_of at t g) (cast_of at t (remade g x))
  cast_of_follows at void g x n h = absurd (n refl)
  cast_of_follows at (integer i) g x n h = demand_follows p k ts (is_integer g.ctype) 3 at (cast_to i g) (cast_to i (remade g x)) (cast_follows i g x h)
  cast_of_follows at t g x n h = tt

-- ## Rules on what an operand gives

module _ (p : Program) (k : ℕ) (ts : List CType) where
  pub value_at_follows : (env : Env) (place : ℕ) (r s : Checked TypedExpression) → Follows p k ts r s → Follows p k ts (value_at env place r) (value_at env place s)
  value_at_follows env place r s h = on_follows p k ts ts r s (valued env place) (valued env place) h (λ g x l. valued_follows p env place k ts g x l)

  pub place_at_follows : (place : ℕ) (r s : Checked TypedExpression) → Follows p k ts r s → Follows p k ts (place_at place r) (place_at place s)
  place_at_follows place r s h = on_follows p k ts ts r s (assignable place) (assignable place) h (λ g x l. assignable_follows p k ts place g x l)

  pub access_follows : (env : Env) (at place : ℕ) (how : Access) (y : Name) (r s : Checked TypedExpression) → Follows p k ts r s → Follows p k ts (access env at place how y r) (access env at place how y s)
  access_follows env at place dot y r s h = on_follows p k ts ts r s (member_of env at y) (member_of env at y) h (λ g x l. member_follows p k ts env at y g x l)
  access_follows env at place arrow y r s h =
      on_follows p k ts ts (on (value_at env place r) (indirection at)) (on (value_at env place s) (indirection at)) (member_of env at y) (member_of env at y)
      (on_follows p k ts ts (value_at env place r) (value_at env place s) (indirection at) (indirection at) (value_at_follows env place r s h) (λ g x l. indirection_follows p k ts at g x l)) (λ g x l. member_follows p k ts env at y g x l)

  pub unary_follows : (env : Env) (at place op : ℕ) (r s : Checked TypedExpression) → Follows p k ts r s → Follows p k ts (unary_rule env at place op r) (unary_rule env at place op s)
  unary_follows env at place op r s h =
      if_follows p k ts (nat_eq op AMPERSAND) _ _ _ _ (on_follows p k ts ts r s (address at place) (address at place) h (λ g x l. address_follows p k ts at place g x l))
      (on_follows p k ts ts (value_at env place r) (value_at env place s) (unary_of_value at op) (unary_of_value at op) (value_at_follows env place r s h) (λ g x l. unary_value_follows p k ts at op g x l))
