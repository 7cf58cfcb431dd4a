-- Rules on operands at two places: names, calls, members, operators and conversions. What operators give is told case by case.
use Rattle.std.proofs.Common.{◌≡◌, ◌⊎◌, inl, inr, refl, ap, sym, subst, ◌∙◌, ℕ, suc, ◌+◌, Bool, true, false, ◌&&◌, ◌||◌, if◌then◌else◌, List, length, map, Option, Some, None, nat_eq, nat_lt}
use Rattle.std.specs.Prelude.{nat_le}
use Rattle.c_lexer.specs.declared.punctuator.TheConstants.{ASTERISK, PLUS, MINUS, TILDE, ASSIGN}
use Rattle.c_tree.specs.declared.value.IntType.{IntType}
use Rattle.c_tree.specs.declared.value.IntType.TheVariants.{Char, Uint}
use Rattle.c_tree.specs.declared.value.UnOp.{UnOp}
use Rattle.c_tree.specs.declared.value.UnOp.TheVariants.{Minus, Complement, Not}
use Rattle.c_tree.specs.declared.value.BinOp.{BinOp}
use Rattle.c_tree.specs.declared.value.BinOp.TheVariants.{Add, Sub}
use Rattle.c_tree.specs.Tree.{CType, void, integer, pointer, array, struct, function, decay, address_of, unary_operation, and, or, assign}
use Rattle.c_tree.specs.Layout.{cells, sizeof}
use Rattle.c_tree.specs.Functions.{int}
use Rattle.c_tree.specs.Operands.{IsPromoted, IsIntegerType, AreOperands, promoted, common, OperatorKind, balanced, shift, ordering, equality}
use Rattle.c_tree.specs.Operands.{kind_of as kind_of_operator}
use Rattle.c_rules.specs.Checked.{Checked, fine, faulty, on, gives, demand, Met, met}
use Rattle.c_rules.specs.Codes.{C1, C3, C4, C5, C6, C10, C12, C13}
use Rattle.c_rules.specs.Limits.{most_cells, most_calls}
use Rattle.c_rules.specs.Names.{Name, number_among, is_among, null_calls}
use Rattle.c_rules.specs.Types.{same_type, is_scalar, is_integer, is_function, is_void}
use Rattle.c_rules.specs.Scopes.{Env, Struct, incomplete, unknown_struct, defined_struct, Context, evaluated, sized, folded, Meaning, a_static, a_local, a_function, an_enumerator, unknown, Binding, binding_of, struct_of, Member, Before, layout_of}
use Rattle.c_rules.specs.TypedExpression.{TypedExpression, Form, a_value, a_place, behind, tree_of, typed_value, not_constant, is_place, is_null, integer_constant}
use Rattle.c_rules.specs.Constants.{constant_unary, constant_and, constant_or}
use Rattle.c_rules.specs.PrimaryExpressions.{most_cells_in, used, object_number, function_number, function_value_number, static_given, local_given, typed_function, typed_int, typed_unsigned, meant, bound, named_expression, string_fits, string_number, typed_string, string_expression, few_cells}
use Rattle.c_rules.specs.Conversions.{Kind, an_integer, a_pointer, kind_of, few_parts, is_defined, complete, loaded, valued_as, valued, cast_to, converted_to, null_of, fits, assigned, as_if_assigned, condition}
use Rattle.c_rules.specs.PostfixExpressions.{site_in, site_of, callee_of_type, callee_by_name, callee_through, callee_by_value, Callee, all_fit, passed, call_of, as_many_as, called, name_of_member, member_given, member_or_undeclared, member_of_struct, member_of_type, member_of}
use Rattle.c_rules.specs.UnaryExpressions.{address_of_form, address_of_type, address, led_to, indirection, plus_of, operator_of, operated, unary_of_value, size_of, cast_of, null_cast}
use Rattle.c_rules.specs.BinaryExpressions.{shifted, compared_integers, compared_pointers, pointer_plus, plus_pointer, pointer_minus, difference, sum_of, minus_of, balanced_of, shift_of, ordered_of, alike_integers, alike_pointers, unlike, alike_of, equality_of, arithmetic_of, operation_of, operation, both_scalars, chosen, arms_of, choice, operator_of_code}
use Rattle.c_rules.specs.BinaryExpressions.{Alike as Operands, alike as operands}
use Rattle.c_rules.specs.Assignments.{assignable, operator_of_assignment, right_type, updated, moves, update_of, assignment_by, step, one_for}
use Rattle.c_rules_laws.specs.MadeTypes.{NotArray}
use Rattle.c_rules_laws.specs.RightScopes.{IsThing}
use Rattle.c_rules_laws.proofs.Holding.{Holds, holds_map, either}
use Rattle.c_rules_laws.proofs.MadeTypes.{type_is}
use Rattle.c_rules_laws.proofs.Alike.{Alike, alike, on_alike, gives_alike, demand_alike, and_alike, fault_alike, Agree, fine_agree, fault_agree, demand_agree, behind_agree, if_agree}
use Rattle.c_tree.specs.Tree as typed
use Rattle.c_syntax.specs.Tree as syntax
use Rattle.c_syntax.specs.Tree.{Expr, a_name, Infix}
use Rattle.c_rules.specs.Expressions.{callee_meant, callee_bound, callee, infix_rule}

-- ## Types of operands

pub kind_pointer : (u t : CType) → kind_of u ≡ a_pointer t → u ≡ pointer t
kind_pointer (pointer u) t e = (let f : a_pointer u ≡ a_pointer t = e in cc)
kind_pointer u t e = absurd (cc)

pub kind_integer : (u : CType) (i : IntType) → kind_of u ≡ an_integer i → u ≡ integer i
kind_integer (integer j) i e = (let f : an_integer j ≡ an_integer i = e in cc)
kind_integer u i e = absurd (cc)

pub promoted_is : (i : IntType) → IsPromoted (promoted i)
promoted_is Char = tt
promoted_is i = tt

pub common_is : (i j : IntType) → IsPromoted (common i j)
common_is Uint j = tt
common_is i j = promoted_is j

-- ## Names and strings

used_alike : (c : Context) (at to : ℕ) (n : Option ℕ) → Alike ℕ (used c at n) (used c to n)
used_alike evaluated at to None = fault_alike C10 at to
used_alike c at to (Some n) = alike (fine n)
used_alike c at to n = alike (fine 0)

function_value_alike : (env : Env) (at to : ℕ) (x : Name) → Alike ℕ (function_value_number env at x) (function_value_number env to x)
function_value_alike env at to x =
    on_alike (λ _. used env.context at (function_number env x)) (λ _. used env.context to (function_number env x))
    (demand_alike (if is_among null_calls x then false else true) C12 at to met) (λ _ _. used_alike env.context at to (function_number env x))

meant_alike : (env : Env) (at to : ℕ) (x : Name) (m : Meaning) → Alike TypedExpression (meant env at x m) (meant env to x m)
meant_alike env at to x (a_static seen whole d) = gives_alike (static_given env seen whole) (used_alike env.context at to (object_number env x))
meant_alike env at to x (a_local n seen whole) = alike (fine (local_given seen whole n))
meant_alike env at to x (a_function t d) = gives_alike (typed_function t) (function_value_alike env at to x)
meant_alike env at to x (an_enumerator z) = alike (fine (typed_int z))
meant_alike env at to x (unknown f fs) = alike (faulty f fs)

bound_alike : (env : Env) (at to : ℕ) (x : Name) (b : Option Binding) → Alike TypedExpression (bound env at x b) (bound env to x b)
bound_alike env at to x None = fault_alike C1 at to
bound_alike env at to x (Some b) = meant_alike env at to x b.means

pub named_alike : (env : Env) (at to : ℕ) (x : Name) → Alike TypedExpression (named_expression env at x) (named_expression env to x)
named_alike env at to x = bound_alike env at to x (binding_of env x)

-- what holds of what a name means holds of the name
pub bound_holds : (P : TypedExpression → Type 0) (env : Env) (at : ℕ) (x : Name) (o : Option Binding) → ((b : Binding) → o ≡ Some b → Holds P (meant env at x b.means)) → Holds P (bound env at x o)
bound_holds P env at x None h = tt
bound_holds P env at x (Some b) h = h b refl

-- a callee is a value, or a name that means a function
pub callee_holds : (P : Expr → Callee → Type 0) (env : Env) (at : ℕ) (d : Expr) (r : Checked TypedExpression) → Holds (P d) (on r (callee_by_value at))
    → ((place : ℕ) (x : Name) (b : Binding) (t : CType) (defined : Bool) → binding_of env x ≡ Some b → b.means ≡ a_function t defined → Holds (P (a_name place x)) (callee_by_name env place x t)) → Holds (P d) (callee env at d r)
callee_holds P env at (a_name place x) r h k = by_binding (binding_of env x) refl
  where
    by_meaning : (b : Binding) → binding_of env x ≡ Some b → (m : Meaning) → b.means ≡ m → Holds (P (a_name place x)) (callee_meant env at place x r m)
    by_meaning b e (a_function t d) q = k place x b t d e q
    by_meaning b e m q = h

    by_binding : (o : Option Binding) → binding_of env x ≡ o → Holds (P (a_name place x)) (callee_bound env at place x r o)
    by_binding None e = h
    by_binding (Some b) e = by_meaning b e b.means refl
callee_holds P env at d r h k = h

pub few_cells_alike : (at to n : ℕ) → Alike Met (few_cells at n) (few_cells to n)
few_cells_alike at to n = demand_alike (nat_le n 65536) C13 at to met

string_fits_alike : (c : Context) (at to before n : ℕ) → Alike Met (string_fits c at before n) (string_fits c to before n)
string_fits_alike c at to before n =
    and_alike (demand_alike (nat_le n most_cells) C13 at to met) (demand_alike (nat_le (before + n) (most_cells_in c)) C13 at to met)

pub string_alike : (env : Env) (b : Before) (at to : ℕ) (w : List ℕ) → Alike TypedExpression (string_expression env b at w) (string_expression env b to w)
string_alike env b at to w = gives_alike (λ _. typed_string (string_number env b) (length w)) (string_fits_alike env.context at to b.cells (suc (length w)))

-- ## Conversions

defined_alike : (at to : ℕ) (s : Struct) → Alike Met (is_defined at s) (is_defined to s)
defined_alike at to incomplete = fault_alike C3 at to
defined_alike at to (unknown_struct f fs) = alike (faulty f fs)
defined_alike at to (defined_struct ms) = alike (fine met)

pub complete_alike : (env : Env) (at to : ℕ) (t : CType) → Alike Met (complete env at t) (complete env to t)
complete_alike env at to (integer i) = alike (fine met)
complete_alike env at to (pointer t) = alike (fine met)
complete_alike env at to (array t n) = demand_alike (nat_lt 0 n) C3 at to met
complete_alike env at to (struct s) = defined_alike at to (struct_of env s)
complete_alike env at to t = fault_alike C3 at to

-- what is given where a type is complete
complete_agree : {P : TypedExpression → Type 0} (env : Env) (at to : ℕ) (t : CType) (g : TypedExpression) → (complete env at t ≡ fine met → P g) → Agree P (gives (complete env at t) (λ _. g)) (gives (complete env to t) (λ _. g))
complete_agree {P} env at to t g h = record { same = gives_alike (λ _. g) (complete_alike env at to t); has = by_fine (complete env at t) h }
  where
    by_fine : (r : Checked Met) → (r ≡ fine met → P g) → Holds P (gives r (λ _. g))
    by_fine (fine met) k = k refl
    by_fine (faulty f fs) k = tt

valued_as_alike : (env : Env) (at to : ℕ) (g : TypedExpression) (t : CType) → Alike TypedExpression (valued_as env at g t) (valued_as env to g t)
valued_as_alike env at to g (array t n) = alike (valued_as env at g (array t n))
valued_as_alike env at to g (struct s) = fault_alike C3 at to
valued_as_alike env at to g (function t ts) = demand_alike (few_parts (pointer g.ctype)) C13 at to (typed_value (pointer g.ctype) (decay (pointer g.ctype) (tree_of g)) g.constant)
valued_as_alike env at to g t = alike (fine (loaded g g.form))

pub valued_alike : (env : Env) (at to : ℕ) (g : TypedExpression) → Alike TypedExpression (valued env at g) (valued env to g)
valued_alike env at to g = valued_as_alike env at to g g.ctype

pub assigned_alike : (at to : ℕ) (t : CType) (g : TypedExpression) → Alike TypedExpression (as_if_assigned at t g) (as_if_assigned to t g)
assigned_alike at to t g = demand_alike (fits t g) C3 at to (assigned t g)

pub condition_alike : (at to : ℕ) (g : TypedExpression) → Alike typed.Expr (condition at g) (condition to g)
condition_alike at to g = demand_alike (is_scalar g.ctype) C3 at to (tree_of g)

-- ## Calls and members

site_in_alike : (c : Context) (most site at to : ℕ) → Alike ℕ (site_in c most site at) (site_in c most site to)
site_in_alike evaluated most site at to = demand_alike (nat_lt site most) C13 at to site
site_in_alike sized most site at to = fault_alike C6 at to
site_in_alike folded most site at to = alike (fine 0)

pub site_alike : (env : Env) (site at to : ℕ) → Alike ℕ (site_of env site at) (site_of env site to)
site_alike env site at to = site_in_alike env.context (most_calls env.whole.mode) site at to

callee_of_type_alike : (at to : ℕ) (t : CType) (f : ℕ) → Alike Callee (callee_of_type at t f) (callee_of_type to t f)
callee_of_type_alike at to (function t ts) f = alike (callee_of_type at (function t ts) f)
callee_of_type_alike at to t f = fault_alike C3 at to

pub callee_by_name_alike : (env : Env) (at to : ℕ) (x : Name) (t : CType) → Alike Callee (callee_by_name env at x t) (callee_by_name env to x t)
callee_by_name_alike env at to x t =
    on_alike (callee_of_type at t) (callee_of_type to t) (used_alike env.context at to (function_number env x)) (λ f _. callee_of_type_alike at to t f)

callee_through_alike : (at to : ℕ) (e : typed.Expr) (t : CType) → Alike Callee (callee_through at e t) (callee_through to e t)
callee_through_alike at to e (pointer (function t ts)) = alike (callee_through at e (pointer (function t ts)))
callee_through_alike at to e t = fault_alike C3 at to

pub callee_by_value_alike : (at to : ℕ) (g : TypedExpression) → Alike Callee (callee_by_value at g) (callee_by_value to g)
callee_by_value_alike at to g = callee_through_alike at to (tree_of g) g.ctype

pub called_alike : (at to : ℕ) (f : Callee) (site : ℕ) (gs : List TypedExpression) → Alike TypedExpression (called at f site gs) (called to f site gs)
called_alike at to f site gs =
    let made : TypedExpression = typed_value f.returns (call_of f.designator f.returns site (passed f.parameters gs)) not_constant in
    on_alike (λ _. demand (all_fit f.parameters gs) C3 at made) (λ _. demand (all_fit f.parameters gs) C3 to made)
    (demand_alike (as_many_as f.parameters gs) C5 at to met) (λ _ _. demand_alike (all_fit f.parameters gs) C3 at to made)

-- a member of a struct
pub data IsMember (env : Env) (x : Name) (g : TypedExpression) : TypedExpression → Type 0 where
  a_member : (s : ℕ) (ms : List Member) (k : ℕ) → g.ctype ≡ struct s → struct_of env s ≡ defined_struct ms → number_among (map name_of_member ms) x ≡ Some k → IsMember env x g (member_given env ms g k)

module _ (env : Env) (at to : ℕ) (x : Name) (g : TypedExpression) where
  abbrev MemberAgrees : Checked TypedExpression → Checked TypedExpression → Type 0
  MemberAgrees r s = Agree (IsMember env x g) r s

  member_found : (s : ℕ) (ms : List Member) (o : Option ℕ) → g.ctype ≡ struct s → struct_of env s ≡ defined_struct ms → number_among (map name_of_member ms) x ≡ o → MemberAgrees (member_or_undeclared env at ms g o) (member_or_undeclared env to ms g o)
  member_found s ms None e d n = fault_agree C1 at to
  member_found s ms (Some k) e d n = fine_agree (member_given env ms g k) (a_member s ms k e d n)

  member_by_struct : (s : ℕ) (m : Struct) → g.ctype ≡ struct s → struct_of env s ≡ m → MemberAgrees (member_of_struct env at x g m) (member_of_struct env to x g m)
  member_by_struct s incomplete e d = fault_agree C1 at to
  member_by_struct s (unknown_struct f fs) e d = record { same = alike (faulty f fs); has = tt }
  member_by_struct s (defined_struct ms) e d = member_found s ms (number_among (map name_of_member ms) x) e d refl

  member_by_type : (t : CType) → g.ctype ≡ t → MemberAgrees (member_of_type env at x g t) (member_of_type env to x g t)
  member_by_type (struct s) e = member_by_struct s (struct_of env s) e refl
  member_by_type t e = fault_agree C3 at to

  pub member_agrees : MemberAgrees (member_of env at x g) (member_of env to x g)
  member_agrees = member_by_type g.ctype refl

-- ## Unary operators

-- the address of a place, or the pointer that leads to it
pub data IsAddress (g : TypedExpression) : TypedExpression → Type 0 where
  of_place : (e : typed.Expr) → g.form ≡ a_place e → NotArray g.ctype → IsAddress g (typed_value (pointer g.ctype) (address_of (pointer g.ctype) e) g.constant)
  of_leader : (q : typed.Expr) → g.form ≡ behind q → NotArray g.ctype → IsAddress g (typed_value (pointer g.ctype) q g.constant)

-- what a pointer leads to
pub data IsLedTo (g : TypedExpression) : TypedExpression → Type 0 where
  led : (t : CType) → g.ctype ≡ pointer t → IsThing t → IsLedTo g (record { ctype = t; form = behind (tree_of g); constant = g.constant })

-- what the operators with one value give
pub data OfOne (g : TypedExpression) : TypedExpression → Type 0 where
  leads : (h : TypedExpression) → IsLedTo g h → OfOne g h
  promotes : (i : IntType) → g.ctype ≡ integer i → OfOne g (cast_to (promoted i) g)
  operates : (o : UnOp) (i : IntType) → (o ≡ Minus) ⊎ (o ≡ Complement) → g.ctype ≡ integer i → OfOne g (operated o (converted_to (promoted i) g) (promoted i))
  negates : is_scalar g.ctype ≡ true → OfOne g (typed_value int (unary_operation int Not (tree_of g)) (constant_unary Not (integer_constant g)))

module _ (at to : ℕ) (g : TypedExpression) where
  address_by_form : (f : Form) → g.form ≡ f → NotArray g.ctype → Agree (IsAddress g) (address_of_form at g f) (address_of_form to g f)
  address_by_form (a_value e) h n = fault_agree C3 at to
  address_by_form (a_place e) h n = demand_agree (few_parts (pointer g.ctype)) C13 at to _ (λ _. of_place e h n)
  address_by_form (behind q) h n = fine_agree _ (of_leader q h n)

  address_by_type : (t : CType) → g.ctype ≡ t → Agree (IsAddress g) (address_of_type at g t) (address_of_type to g t)
  address_by_type (array t n) e = fault_agree C3 at to
  address_by_type t e = address_by_form g.form refl (subst NotArray (sym e) tt)

  pub address_agrees : (here there : ℕ) → Agree (IsAddress g) (address at here g) (address to there g)
  address_agrees here there = behind_agree (is_place g || is_function g.ctype) C4 here there _ _ (λ _. address_by_type g.ctype refl)

  led_by_type : (t : CType) → g.ctype ≡ t → Agree (IsLedTo g) (led_to at g t) (led_to to g t)
  led_by_type (pointer void) e = fault_agree C3 at to
  led_by_type (pointer t) e = fine_agree _ (led t e tt)
  led_by_type t e = fault_agree C3 at to

  pub indirection_agrees : Agree (IsLedTo g) (indirection at g) (indirection to g)
  indirection_agrees = led_by_type g.ctype refl

  plus_by_kind : (k : Kind) → kind_of g.ctype ≡ k → Agree (OfOne g) (plus_of at g k) (plus_of to g k)
  plus_by_kind (an_integer i) e = fine_agree _ (promotes i (kind_integer g.ctype i e))
  plus_by_kind k e = fault_agree C3 at to

  operator_by_kind : (o : UnOp) (k : Kind) → (o ≡ Minus) ⊎ (o ≡ Complement) → kind_of g.ctype ≡ k → Agree (OfOne g) (operator_of at o g k) (operator_of to o g k)
  operator_by_kind o (an_integer i) s e = fine_agree _ (operates o i s (kind_integer g.ctype i e))
  operator_by_kind o k s e = fault_agree C3 at to

  pub unary_agrees : (op : ℕ) → Agree (OfOne g) (unary_of_value at op g) (unary_of_value to op g)
  unary_agrees op =
      if_agree (nat_eq op ASTERISK) (record { same = indirection_agrees.same; has = holds_map (IsLedTo g) (OfOne g) (λ h k. leads h k) (indirection at g) indirection_agrees.has })
      (if_agree (nat_eq op PLUS) (plus_by_kind (kind_of g.ctype) refl)
      (if_agree (nat_eq op MINUS) (operator_by_kind Minus (kind_of g.ctype) (inl refl) refl)
      (if_agree (nat_eq op TILDE) (operator_by_kind Complement (kind_of g.ctype) (inr refl) refl) (demand_agree (is_scalar g.ctype) C3 at to _ (λ s. negates s)))))

pub size_alike : (env : Env) (at to here there : ℕ) (t : CType) → Alike TypedExpression (size_of env at here t) (size_of env to there t)
size_alike env at to here there t =
    on_alike (λ _. demand (nat_le (cells (layout_of env) t) most_cells) C13 here (typed_unsigned (sizeof (layout_of env) t))) (λ _. demand (nat_le (cells (layout_of env) t) most_cells) C13 there (typed_unsigned (sizeof (layout_of env) t)))
    (complete_alike env at to t) (λ _ _. demand_alike (nat_le (cells (layout_of env) t) most_cells) C13 here there (typed_unsigned (sizeof (layout_of env) t)))

pub cast_alike : (at to : ℕ) (t : CType) (g : TypedExpression) → Alike TypedExpression (cast_of at t g) (cast_of to t g)
cast_alike at to void g = alike (cast_of at void g)
cast_alike at to (integer i) g = demand_alike (is_integer g.ctype) C3 at to (cast_to i g)
cast_alike at to t g = fault_alike C3 at to

pub null_cast_alike : (at to : ℕ) (g : TypedExpression) → Alike TypedExpression (null_cast at g) (null_cast to g)
null_cast_alike at to g = demand_alike (is_integer g.ctype && is_null g) C3 at to (null_of (pointer void))

-- ## Operators between two operands

-- kinds of operators that compare
abbrev pub IsComparison : OperatorKind → Type 0
IsComparison ordering = Unit {0}
IsComparison equality = Unit {0}
IsComparison k = ⊥

-- two pointers that are made alike of two operands
pub data ArePointers (a b : TypedExpression) : TypedExpression → TypedExpression → Type 0 where
  as_given : (t : CType) → a.ctype ≡ pointer t → b.ctype ≡ a.ctype → ArePointers a b a b
  left_null : (t : CType) → b.ctype ≡ pointer t → is_null a ≡ true → ArePointers a b (null_of b.ctype) b
  right_null : (t : CType) → a.ctype ≡ pointer t → is_null b ≡ true → ArePointers a b a (null_of a.ctype)

-- what the operators between two values give
pub data OfTwo (env : Env) (at : ℕ) (a b : TypedExpression) : TypedExpression → Type 0 where
  calculates : (o : BinOp) (i j : IntType) → AreOperands (kind_of_operator o) i j → IsIntegerType a.ctype → IsIntegerType b.ctype → OfTwo env at a b (shifted o i j a b)
  compares : (o : BinOp) (i : IntType) → IsComparison (kind_of_operator o) → IsPromoted i → IsIntegerType a.ctype → IsIntegerType b.ctype → OfTwo env at a b (compared_integers o i a b)
  orders : (o : BinOp) (t : CType) → kind_of_operator o ≡ ordering → a.ctype ≡ pointer t → b.ctype ≡ a.ctype → complete env at t ≡ fine met → OfTwo env at a b (compared_pointers o a b)
  equals : (o : BinOp) (x y : TypedExpression) → kind_of_operator o ≡ equality → ArePointers a b x y → OfTwo env at a b (compared_pointers o x y)
  adds_right : (t : CType) → a.ctype ≡ pointer t → IsIntegerType b.ctype → complete env at t ≡ fine met → OfTwo env at a b (pointer_plus t a b)
  adds_left : (t : CType) → b.ctype ≡ pointer t → IsIntegerType a.ctype → complete env at t ≡ fine met → OfTwo env at a b (plus_pointer t a b)
  takes : (t : CType) → a.ctype ≡ pointer t → IsIntegerType b.ctype → complete env at t ≡ fine met → OfTwo env at a b (pointer_minus t a b)
  differs : (t : CType) → a.ctype ≡ pointer t → b.ctype ≡ a.ctype → complete env at t ≡ fine met → OfTwo env at a b (difference a b)
  joins_and : both_scalars a b ≡ true → OfTwo env at a b (typed_value int (and int (tree_of a) (tree_of b)) (constant_and (integer_constant a) (integer_constant b)))
  joins_or : both_scalars a b ≡ true → OfTwo env at a b (typed_value int (or int (tree_of a) (tree_of b)) (constant_or (integer_constant a) (integer_constant b)))

-- what ?: gives
pub data OfChoice (c a b : TypedExpression) : TypedExpression → Type 0 where
  integers_chosen : (i : IntType) → is_scalar c.ctype ≡ true → IsIntegerType a.ctype → IsIntegerType b.ctype → OfChoice c a b (chosen (integer i) c (converted_to i a) (converted_to i b))
  pointers_chosen : (x y : TypedExpression) → is_scalar c.ctype ≡ true → ArePointers a b x y → OfChoice c a b (chosen x.ctype c x y)
  voids_chosen : is_scalar c.ctype ≡ true → (is_void a.ctype && is_void b.ctype) ≡ true → OfChoice c a b (chosen void c a b)

module _ (a b : TypedExpression) where
  abbrev AreMadeAlike : Operands → Type 0
  AreMadeAlike (alike_integers i) = IsPromoted i × IsIntegerType a.ctype × IsIntegerType b.ctype
  AreMadeAlike (alike_pointers x y) = ArePointers a b x y
  AreMadeAlike unlike = Unit {0}

  alike_by_kind : (k l : Kind) → kind_of a.ctype ≡ k → kind_of b.ctype ≡ l → AreMadeAlike (alike_of a b k l)
  alike_by_kind (an_integer i) (an_integer j) e f = (common_is i j, (i, kind_integer a.ctype i e), (j, kind_integer b.ctype j f))
  alike_by_kind (a_pointer t) (a_pointer u) e f =
      either AreMadeAlike (same_type a.ctype b.ctype) (alike_pointers a b) _ (λ s. as_given t (kind_pointer a.ctype t e) (sym (type_is a.ctype b.ctype s)))
      (either AreMadeAlike (is_null a) (alike_pointers (null_of b.ctype) b) _ (λ n. left_null u (kind_pointer b.ctype u f) n)
      (either AreMadeAlike (is_null b) (alike_pointers a (null_of a.ctype)) unlike (λ n. right_null t (kind_pointer a.ctype t e) n) tt))
  alike_by_kind (a_pointer t) (an_integer j) e f = either AreMadeAlike (is_null b) (alike_pointers a (null_of a.ctype)) unlike (λ n. right_null t (kind_pointer a.ctype t e) n) tt
  alike_by_kind (an_integer i) (a_pointer u) e f = either AreMadeAlike (is_null a) (alike_pointers (null_of b.ctype) b) unlike (λ n. left_null u (kind_pointer b.ctype u f) n) tt
  alike_by_kind k l e f = tt

  two_pointers : (t u : CType) → kind_of a.ctype ≡ a_pointer t → kind_of b.ctype ≡ a_pointer u → same_type t u ≡ true → b.ctype ≡ a.ctype
  two_pointers t u e f s = kind_pointer b.ctype u f ∙ (ap pointer (sym (type_is t u s)) ∙ sym (kind_pointer a.ctype t e))

module _ (env : Env) (at to : ℕ) (a b : TypedExpression) where
  abbrev TwoAgree : Checked TypedExpression → Checked TypedExpression → Type 0
  TwoAgree r s = Agree (OfTwo env at a b) r s

  abbrev AreKinds : Kind → Kind → Type 0
  AreKinds k l = (kind_of a.ctype ≡ k) × (kind_of b.ctype ≡ l)

  calculation : (o : BinOp) (i j k l : IntType) → AreOperands (kind_of_operator o) k l → AreKinds (an_integer i) (an_integer j) → TwoAgree (fine (shifted o k l a b)) (fine (shifted o k l a b))
  calculation o i j k l f e = fine_agree _ (calculates o k l f (i, kind_integer a.ctype i e.0) (j, kind_integer b.ctype j e.1))

  sum_by_kind : (k l : Kind) → AreKinds k l → TwoAgree (sum_of env at a b k l) (sum_of env to a b k l)
  sum_by_kind (an_integer i) (an_integer j) e = calculation Add i j (common i j) (common i j) (common_is i j, refl) e
  sum_by_kind (an_integer i) (a_pointer t) e = complete_agree env at to t _ (λ c. adds_left t (kind_pointer b.ctype t e.1) (i, kind_integer a.ctype i e.0) c)
  sum_by_kind (a_pointer t) (an_integer j) e = complete_agree env at to t _ (λ c. adds_right t (kind_pointer a.ctype t e.0) (j, kind_integer b.ctype j e.1) c)
  sum_by_kind k l e = fault_agree C3 at to

  -- two pointers to objects of one type
  objects_agree : (t u : CType) (g : TypedExpression) → AreKinds (a_pointer t) (a_pointer u) → (a.ctype ≡ pointer t → b.ctype ≡ a.ctype → complete env at t ≡ fine met → OfTwo env at a b g)
      → TwoAgree (on (demand (same_type t u) C3 at met) (λ _. gives (complete env at t) (λ _. g))) (on (demand (same_type t u) C3 to met) (λ _. gives (complete env to t) (λ _. g)))
  objects_agree t u g e h = behind_agree (same_type t u) C3 at to _ _ (λ s. complete_agree env at to t g (λ c. h (kind_pointer a.ctype t e.0) (two_pointers a b t u e.0 e.1 s) c))

  minus_by_kind : (k l : Kind) → AreKinds k l → TwoAgree (minus_of env at a b k l) (minus_of env to a b k l)
  minus_by_kind (an_integer i) (an_integer j) e = calculation Sub i j (common i j) (common i j) (common_is i j, refl) e
  minus_by_kind (a_pointer t) (an_integer j) e = complete_agree env at to t _ (λ c. takes t (kind_pointer a.ctype t e.0) (j, kind_integer b.ctype j e.1) c)
  minus_by_kind (a_pointer t) (a_pointer u) e = objects_agree t u (difference a b) e (λ p s c. differs t p s c)
  minus_by_kind k l e = fault_agree C3 at to

  balanced_by_kind : (o : BinOp) (k l : Kind) → kind_of_operator o ≡ balanced → AreKinds k l → TwoAgree (balanced_of at o a b k l) (balanced_of to o a b k l)
  balanced_by_kind o (an_integer i) (an_integer j) q e = calculation o i j (common i j) (common i j) (subst (λ x. AreOperands x (common i j) (common i j)) (sym q) (common_is i j, refl)) e
  balanced_by_kind o k l q e = fault_agree C3 at to

  shift_by_kind : (o : BinOp) (k l : Kind) → kind_of_operator o ≡ shift → AreKinds k l → TwoAgree (shift_of at o a b k l) (shift_of to o a b k l)
  shift_by_kind o (an_integer i) (an_integer j) q e = calculation o i j (promoted i) (promoted j) (subst (λ x. AreOperands x (promoted i) (promoted j)) (sym q) (promoted_is i, promoted_is j)) e
  shift_by_kind o k l q e = fault_agree C3 at to

  ordered_by_kind : (o : BinOp) (k l : Kind) → kind_of_operator o ≡ ordering → AreKinds k l → TwoAgree (ordered_of env at o a b k l) (ordered_of env to o a b k l)
  ordered_by_kind o (an_integer i) (an_integer j) q e = fine_agree _ (compares o (common i j) (subst IsComparison (sym q) tt) (common_is i j) (i, kind_integer a.ctype i e.0) (j, kind_integer b.ctype j e.1))
  ordered_by_kind o (a_pointer t) (a_pointer u) q e = objects_agree t u (compared_pointers o a b) e (λ p s c. orders o t q p s c)
  ordered_by_kind o k l q e = fault_agree C3 at to

  equality_by_kind : (o : BinOp) (k : Operands) → kind_of_operator o ≡ equality → AreMadeAlike a b k → TwoAgree (equality_of at o a b k) (equality_of to o a b k)
  equality_by_kind o (alike_integers i) q h = fine_agree _ (compares o i (subst IsComparison (sym q) tt) h.0 h.1 h.2)
  equality_by_kind o (alike_pointers x y) q h = fine_agree _ (equals o x y q h)
  equality_by_kind o unlike q h = fault_agree C3 at to

  arithmetic_agrees : (o : BinOp) → kind_of_operator o ≡ balanced → TwoAgree (arithmetic_of env at o a b) (arithmetic_of env to o a b)
  arithmetic_agrees Add q = sum_by_kind (kind_of a.ctype) (kind_of b.ctype) (refl, refl)
  arithmetic_agrees Sub q = minus_by_kind (kind_of a.ctype) (kind_of b.ctype) (refl, refl)
  arithmetic_agrees o q = balanced_by_kind o (kind_of a.ctype) (kind_of b.ctype) q (refl, refl)

  operation_by_kind : (o : BinOp) (k : OperatorKind) → kind_of_operator o ≡ k → TwoAgree (operation_of env at o a b k) (operation_of env to o a b k)
  operation_by_kind o balanced q = arithmetic_agrees o q
  operation_by_kind o shift q = shift_by_kind o (kind_of a.ctype) (kind_of b.ctype) q (refl, refl)
  operation_by_kind o ordering q = ordered_by_kind o (kind_of a.ctype) (kind_of b.ctype) q (refl, refl)
  operation_by_kind o equality q = equality_by_kind o (operands a b) q (alike_by_kind a b (kind_of a.ctype) (kind_of b.ctype) refl refl)

  pub operation_agrees : (o : BinOp) → TwoAgree (operation env at o a b) (operation env to o a b)
  operation_agrees o = operation_by_kind o (kind_of_operator o) refl

  pub infix_agrees : (o : Infix) → TwoAgree (infix_rule env at o a b) (infix_rule env to o a b)
  infix_agrees syntax.and = demand_agree (both_scalars a b) C3 at to _ (λ s. joins_and s)
  infix_agrees syntax.or = demand_agree (both_scalars a b) C3 at to _ (λ s. joins_or s)
  infix_agrees (syntax.operator code) = operation_agrees (operator_of_code code)

module _ (at to : ℕ) (c a b : TypedExpression) where
  arms_agree : (k : Operands) → is_scalar c.ctype ≡ true → AreMadeAlike a b k → Agree (OfChoice c a b) (arms_of at c a b k) (arms_of to c a b k)
  arms_agree (alike_integers i) s h = fine_agree _ (integers_chosen i s h.1 h.2)
  arms_agree (alike_pointers x y) s h = fine_agree _ (pointers_chosen x y s h)
  arms_agree unlike s h = demand_agree (is_void a.ctype && is_void b.ctype) C3 at to (chosen void c a b) (λ v. voids_chosen s v)

  pub choice_agrees : Agree (OfChoice c a b) (choice at c a b) (choice to c a b)
  choice_agrees = behind_agree (is_scalar c.ctype) C3 at to _ _ (λ s. arms_agree (operands a b) s (alike_by_kind a b (kind_of a.ctype) (kind_of b.ctype) refl refl))

-- ## Assignments and steps

pub assignable_alike : (at to : ℕ) (g : TypedExpression) → Alike TypedExpression (assignable at g) (assignable to g)
assignable_alike at to g = demand_alike (is_place g) C4 at to g

-- what an assignment and a step give
pub data OfUpdate (env : Env) (at : ℕ) (o : BinOp) (a b : TypedExpression) : TypedExpression → Type 0 where
  assigns : fits a.ctype b ≡ true → OfUpdate env at o a b (typed_value a.ctype (assign a.ctype (tree_of a) (tree_of (assigned a.ctype b))) not_constant)
  updates : (old : Bool) (i j : IntType) → a.ctype ≡ integer i → b.ctype ≡ integer j → OfUpdate env at o a b (updated o old a (tree_of (converted_to (right_type (kind_of_operator o) i j) b)))
  moved : (old : Bool) (t : CType) → moves o ≡ true → a.ctype ≡ pointer t → IsIntegerType b.ctype → complete env at t ≡ fine met → OfUpdate env at o a b (updated o old a (tree_of b))

module _ (env : Env) (at to : ℕ) where
  update_agrees : (o : BinOp) (old : Bool) (a b : TypedExpression) (k l : Kind) → kind_of a.ctype ≡ k → kind_of b.ctype ≡ l → Agree (OfUpdate env at o a b) (update_of env at o old a b k l) (update_of env to o old a b k l)
  update_agrees o old a b (an_integer i) (an_integer j) e f = fine_agree _ (updates old i j (kind_integer a.ctype i e) (kind_integer b.ctype j f))
  update_agrees o old a b (a_pointer t) (an_integer j) e f =
      behind_agree (moves o) C3 at to _ _ (λ m. complete_agree env at to t _ (λ c. moved old t m (kind_pointer a.ctype t e) (j, kind_integer b.ctype j f) c))
  update_agrees o old a b k l e f = fault_agree C3 at to

  pub assignment_agrees : (code : ℕ) (a b : TypedExpression) → Agree (OfUpdate env at (operator_of_assignment code) a b) (assignment_by env at code a b) (assignment_by env to code a b)
  assignment_agrees code a b =
      if_agree (nat_eq code ASSIGN) (demand_agree (fits a.ctype b) C3 at to _ (λ f. assigns f)) (update_agrees (operator_of_assignment code) false a b (kind_of a.ctype) (kind_of b.ctype) refl refl)

  pub step_agrees : (o : BinOp) (old : Bool) (a : TypedExpression) → Agree (OfUpdate env at o a (one_for (kind_of a.ctype))) (step env at o old a) (step env to o old a)
  step_agrees o old a = update_agrees o old a (one_for (kind_of a.ctype)) (kind_of a.ctype) (kind_of (one_for (kind_of a.ctype)).ctype) refl refl
