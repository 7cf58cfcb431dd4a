-- What the rules give whatever their operands are: values whose trees have their types and the same temporaries whether they are
-- wanted or not, which are null pointer constants in integer types and void * alone; and places.
use Rattle.std.proofs.Common.{◌≡◌, ℕ, suc, ◌+◌, ◌*◌, ◌/◌, ℤ, pos, negsuc, neg_ℤ, Bool, true, false, ◌&&◌, if◌then◌else◌, length, nat_eq, nat_lt, nat_le, refl, sym, subst, ◌∙◌}
use Rattle.c_lexer.specs.declared.punctuator.TheConstants.{PLUS, MINUS, TILDE}
use Rattle.c_tree.specs.declared.value.UnOp.{UnOp}
use Rattle.c_tree.specs.declared.value.UnOp.TheVariants.{Minus, Complement}
use Rattle.c_tree.specs.declared.value.BinOp.{BinOp}
use Rattle.c_tree.specs.declared.value.BinOp.TheVariants.{Add, Sub}
use Rattle.c_tree.specs.declared.value.Pointer.{Pointer}
use Rattle.c_tree.specs.declared.value.Value.{Value}
use Rattle.c_tree.specs.declared.value.Value.TheVariants as v
use Rattle.c_tree.specs.Layout.{cells}
use Rattle.c_tree.specs.Tree.{CType, void, integer, pointer, type_of, Program}
use Rattle.c_tree.specs.Tree as typed
use Rattle.c_syntax.specs.Tree.{Expr, a_name, an_int, a_char, a_str, comma, sizeof_type, cast, call, member, postfix, prefix, unary, index, binary, assign, conditional}
use Rattle.c_syntax.specs.Tree.{Infix, Access, dot, arrow, post_increment, post_decrement, pre_increment, pre_decrement, sizeof}
use Rattle.c_rules.specs.Checked.{Checked, fine, on, both, all_three}
use Rattle.c_rules.specs.Limits.{most_cells}
use Rattle.c_rules.specs.Names.{Name}
use Rattle.c_rules.specs.Types.{is_scalar, is_integer, is_void}
use Rattle.c_rules.specs.Scopes.{Env, Meaning, a_static, a_local, a_function, an_enumerator, unknown, lookup, layout_of, sized, in_context, Before, nothing_before}
use Rattle.c_rules.specs.Counts.{place_of, after}
use Rattle.c_rules.specs.TypedExpression.{Form, a_value, a_place, behind, Constant, not_constant, undefined, known, is_zero, is_known_zero, integer_constant_if, integer_constant, TypedExpression, is_null}
use Rattle.c_rules.specs.Constants.{number_of, constant_member, constant_decayed, moved, constant_moved, constant_conditional, is_within, address_of_static}
use Rattle.c_rules.specs.Conversions.{Kind, an_integer, kind_of, cast_to, null_of}
use Rattle.c_rules.specs.PrimaryExpressions.{used, object_number, function_value_number, meant, integer_expression, string_fits}
use Rattle.c_rules.specs.PostfixExpressions.{member_of}
use Rattle.c_rules.specs.UnaryExpressions.{indirection, plus_of, operator_of, negation, size_of, size_of_expression, size_of_type, cast_of, null_cast}
use Rattle.c_rules.specs.BinaryExpressions.{sum, choice}
use Rattle.c_rules.specs.Assignments.{operator_of_assignment, assignment_by, one_for, step}
use Rattle.c_rules.specs.Declarators.{place_of_type, is_void_pointer}
use Rattle.c_rules.specs.Expressions.{value_at, place_at, access, infix_rule, cast_rule, tree, type_named}
use Rattle.c_rules.proofs.Integers.{integer_cases, size_holds}
use Rattle.null_calls_laws.specs.InstrumentedPrograms.{expr, kept}
use Rattle.c_rules_laws.proofs.Holding.{Any, anything, both_hold, all_three_hold, holds_map, if_holds}
use Rattle.c_rules_laws.proofs.Operators.{bound_holds, IsMember, a_member, member_agrees, OfTwo, adds_right, adds_left, takes, operation_agrees, infix_agrees, OfUpdate, assigns, assignment_agrees, step_agrees, OfChoice, integers_chosen, pointers_chosen, voids_chosen, choice_agrees}
use Rattle.null_calls_laws.specs.NullTypes.{IsNullType}
use Rattle.null_calls_laws.proofs.Leaves.{Holds, after_part, demand_holds}

-- the same temporaries whether the value is wanted or not
pub record IsSolid (p : Program) (e : typed.Expr) : Type 0 where
  pub types : kept p false e ≡ kept p true e
  pub tree : (k : ℕ) → expr p k false e ≡ expr p k true e

pub record IsValue (t : CType) (c : Constant) (e : typed.Expr) : Type 0 where
  pub ctype : type_of e ≡ t
  pub null : is_known_zero c ≡ true → IsNullType t
  pub solid : (p : Program) → IsSolid p e

-- a value
abbrev pub FormOwn : CType → Constant → Form → Type 0
FormOwn t c (a_value e) = IsValue t c e
FormOwn t c (a_place e) = ⊥
FormOwn t c (behind e) = ⊥

abbrev pub IsOwn : TypedExpression → Type 0
IsOwn g = FormOwn g.ctype g.constant g.form

-- a value, or a place that no pointer leads to
abbrev pub FormGiven : CType → Constant → Form → Type 0
FormGiven t c (a_value e) = IsValue t c e
FormGiven t c (a_place e) = is_known_zero c ≡ true → ⊥
FormGiven t c (behind e) = ⊥

abbrev pub IsGiven : TypedExpression → Type 0
IsGiven g = FormGiven g.ctype g.constant g.form

-- what holds where they are known so
pub by_own : (P : CType → Constant → Form → Type 0) → ((t : CType) (c : Constant) (e : typed.Expr) → IsValue t c e → P t c (a_value e)) → (t : CType) (c : Constant) (f : Form) → FormOwn t c f → P t c f
by_own P v t c (a_value e) h = v t c e h
by_own P v t c f h = absurd h

pub by_given : (P : CType → Constant → Form → Type 0) → ((t : CType) (c : Constant) (e : typed.Expr) → IsValue t c e → P t c (a_value e)) → ((t : CType) (c : Constant) (e : typed.Expr) → (is_known_zero c ≡ true → ⊥) → P t c (a_place e))
    → (r : Checked TypedExpression) → Holds IsGiven r → Holds (λ g. P g.ctype g.constant g.form) r
by_given P v w r h = holds_map IsGiven (λ g. P g.ctype g.constant g.form) (λ g l. by_form g.ctype g.constant g.form l) r h
  where
    by_form : (t : CType) (c : Constant) (f : Form) → FormGiven t c f → P t c f
    by_form t c (a_value e) l = v t c e l
    by_form t c (a_place e) l = w t c e l
    by_form t c (behind e) l = absurd l

pub own_given : (r : Checked TypedExpression) → Holds IsOwn r → Holds IsGiven r
own_given r h = holds_map IsOwn IsGiven (λ g l. by_own FormGiven (λ t c e m. m) g.ctype g.constant g.form l) r h

-- behind parts of which nothing is known
pub after_two : {A B C : Type 0} (P : C → Type 0) (r : Checked A) (s : Checked B) (f : A → B → Checked C) → ((a : A) (b : B) → Holds P (f a b)) → Holds P (both r s f)
after_two P r s f h = both_hold Any Any P r s f (anything r) (anything s) (λ a b _ _. h a b)

pub after_three : {A B C D : Type 0} (P : D → Type 0) (r : Checked A) (s : Checked B) (t : Checked C) (f : A → B → C → Checked D) → ((a : A) (b : B) (c : C) → Holds P (f a b c)) → Holds P (all_three r s t f)
after_three P r s t f h = all_three_hold Any Any Any P r s t f (anything r) (anything s) (anything t) (λ a b c _ _ _. h a b c)

pub if_known : (P : TypedExpression → Type 0) (t : Bool) (r s : Checked TypedExpression) → (t ≡ true → Holds P r) → Holds P s → Holds P (if t then r else s)
if_known P true r s h l = h refl
if_known P false r s h l = l

-- ## Addresses are no null pointers

pub no : {A : Type 0} → false ≡ true → A
no e = absurd (let q : false ≡ true = e in cc)

if_no : (b : Bool) (x : Value) → is_zero x ≡ false → is_known_zero (if b then known x else undefined) ≡ true → ⊥
if_no true x z e = no (sym z ∙ e)
if_no false x z e = no e

member_no : (from n : ℕ) (c : Constant) → is_known_zero (constant_member from n c) ≡ true → ⊥
member_no from n (known (v.At q)) e = if_no (nat_lt q.index q.elements && is_within ((q.first + q.index * q.width) + from) n 1) _ refl e
member_no from n c e = no e

pub decayed_no : (n : ℕ) (c : Constant) → is_known_zero (constant_decayed n c) ≡ true → ⊥
decayed_no n (known (v.At q)) e = if_no (nat_lt q.index q.elements && is_within ((q.first + q.index * q.width) + 0) n (q.width / n)) _ refl e
decayed_no n c e = no e

moved_by : (q : Pointer) (z : ℤ) → is_known_zero (moved q z) ≡ true → ⊥
moved_by q (pos k) e = if_no (nat_le (q.index + k) q.elements) _ refl e
moved_by q (negsuc k) e = if_no (nat_le (suc k) q.index) _ refl e

moved_no : (c : Constant) (sign : ℤ → ℤ) (k : Constant) → is_known_zero (constant_moved c sign k) ≡ true → ⊥
moved_no not_constant sign k e = no e
moved_no c sign not_constant e = no e
moved_no (known (v.At q)) sign (known y) e = moved_by q (sign (number_of y)) e
moved_no c sign k e = no e

-- ## Names and members

meant_given : (env : Env) (at : ℕ) (x : Name) (m : Meaning) → Holds IsGiven (meant env at x m)
meant_given env at x (a_static seen whole d) = after_part IsGiven (used env.context at (object_number env x)) _ (λ n z. if_no (nat_le (cells (layout_of env) whole) most_cells) (address_of_static n (cells (layout_of env) whole)) refl z)
meant_given env at x (a_local n seen whole) = λ z. no z
meant_given env at x (a_function t d) = after_part IsGiven (function_value_number env at x) _ (λ n z. no z)
meant_given env at x (an_enumerator z) = record { ctype = refl; null = λ _. tt; solid = λ p. record { types = refl; tree = λ k. refl } }
meant_given env at x (unknown f fs) = tt

member_given : (env : Env) (y : Name) (g h : TypedExpression) → IsMember env y g h → IsGiven h
member_given env y g h (a_member s ms k e d n) = λ z. member_no _ _ g.constant z

found_given : (env : Env) (at : ℕ) (y : Name) (g : TypedExpression) → Holds IsGiven (member_of env at y g)
found_given env at y g = holds_map (IsMember env y g) IsGiven (member_given env y g) (member_of env at y g) (member_agrees env at at y g).has

access_given : (env : Env) (at place : ℕ) (how : Access) (y : Name) (r : Checked TypedExpression) → Holds IsGiven (access env at place how y r)
access_given env at place dot y r = after_part IsGiven r (member_of env at y) (found_given env at y)
access_given env at place arrow y r = after_part IsGiven (on (value_at env place r) (indirection at)) (member_of env at y) (found_given env at y)

-- ## Unary operators and casts

plus_own : (at : ℕ) (g : TypedExpression) (d : Kind) → Holds IsOwn (plus_of at g d)
plus_own at g (an_integer i) = record { ctype = refl; null = λ _. tt; solid = λ p. record { types = refl; tree = λ k. refl } }
plus_own at g d = tt

operator_own : (at : ℕ) (o : UnOp) (g : TypedExpression) (d : Kind) → Holds IsOwn (operator_of at o g d)
operator_own at o g (an_integer i) = record { ctype = refl; null = λ _. tt; solid = λ p. record { types = refl; tree = λ k. refl } }
operator_own at o g d = tt

-- the operators but `*` and `&`
pub rest_own : (at code : ℕ) (g : TypedExpression)
    → Holds IsOwn (if nat_eq code PLUS then plus_of at g (kind_of g.ctype) else if nat_eq code MINUS then operator_of at Minus g (kind_of g.ctype) else if nat_eq code TILDE then operator_of at Complement g (kind_of g.ctype) else negation at g)
rest_own at code g =
    if_holds IsOwn (nat_eq code PLUS) _ _ (plus_own at g (kind_of g.ctype))
    (if_holds IsOwn (nat_eq code MINUS) _ _ (operator_own at Minus g (kind_of g.ctype))
    (if_holds IsOwn (nat_eq code TILDE) _ _ (operator_own at Complement g (kind_of g.ctype)) (demand_holds IsOwn (is_scalar g.ctype) 3 at _ (record { ctype = refl; null = λ _. tt; solid = λ p. record { types = refl; tree = λ k. refl } }))))

cast_own : (v : Bool) (at : ℕ) (t : Checked CType) (r : Checked TypedExpression) → Holds IsOwn (cast_rule v at t r)
cast_own true at t r = after_part IsOwn r (null_cast at) (λ g. demand_holds IsOwn (is_integer g.ctype && is_null g) 3 at (null_of (pointer void)) (record { ctype = refl; null = λ _. tt; solid = λ p. record { types = refl; tree = λ k. refl } }))
cast_own false at t r = after_two IsOwn t r (cast_of at) cast_one
  where
    cast_one : (u : CType) (g : TypedExpression) → Holds IsOwn (cast_of at u g)
    cast_one void g = record { ctype = refl; null = λ z. no z; solid = λ p. record { types = refl; tree = λ k. refl } }
    cast_one (integer i) g = demand_holds IsOwn (is_integer g.ctype) 3 at (cast_to i g) (record { ctype = refl; null = λ _. tt; solid = λ p. record { types = refl; tree = λ k. refl } })
    cast_one u g = tt

size_own : (env : Env) (at place : ℕ) (t : CType) → Holds IsOwn (size_of env at place t)
size_own env at place t = size_holds IsOwn env at place t (λ _. record { ctype = refl; null = λ _. tt; solid = λ p. record { types = refl; tree = λ k. refl } })

-- ## Operators between two values

moved_own : (t : CType) (f s : Bool) (a b : typed.Expr) (c : Constant) (sign : ℤ → ℤ) (k : Constant) → IsValue (pointer t) (constant_moved c sign k) (typed.pointer_add (pointer t) f s a b)
moved_own t f s a b c sign k = record { ctype = refl; null = λ z. absurd (moved_no c sign k z); solid = λ p. record { types = refl; tree = λ k. refl } }

two_own : (env : Env) (at : ℕ) (a b g : TypedExpression) → OfTwo env at a b g → IsOwn g
two_own env at a b g (adds_right t e i c) = moved_own _ _ _ _ _ a.constant (λ z. z) b.constant
two_own env at a b g (adds_left t e i c) = moved_own _ _ _ _ _ b.constant (λ z. z) a.constant
two_own env at a b g (takes t e i c) = moved_own _ _ _ _ _ a.constant (λ z. neg_ℤ z) b.constant
two_own env at a b g x = record { ctype = refl; null = λ _. tt; solid = λ p. record { types = refl; tree = λ k. refl } }

pub sum_own : (env : Env) (at : ℕ) (a b : TypedExpression) → Holds IsOwn (sum env at a b)
sum_own env at a b = holds_map (OfTwo env at a b) IsOwn (two_own env at a b) (sum env at a b) (operation_agrees env at at a b Add).has

infix_own : (env : Env) (at : ℕ) (o : Infix) (a b : TypedExpression) → Holds IsOwn (infix_rule env at o a b)
infix_own env at o a b = holds_map (OfTwo env at a b) IsOwn (two_own env at a b) (infix_rule env at o a b) (infix_agrees env at at a b o).has

-- ## Assignments and ?:

update_own : (env : Env) (at : ℕ) (o : BinOp) (a b g : TypedExpression) → OfUpdate env at o a b g → IsOwn g
update_own env at o a b g (assigns f) = record { ctype = refl; null = λ z. no z; solid = λ p. record { types = refl; tree = λ k. refl } }
update_own env at o a b g u = record { ctype = refl; null = λ z. no z; solid = λ p. record { types = refl; tree = λ k. refl } }

assignment_own : (env : Env) (at code : ℕ) (a b : TypedExpression) → Holds IsOwn (assignment_by env at code a b)
assignment_own env at code a b =
    holds_map (OfUpdate env at (operator_of_assignment code) a b) IsOwn (update_own env at (operator_of_assignment code) a b) (assignment_by env at code a b) (assignment_agrees env at at code a b).has

step_own : (env : Env) (at place : ℕ) (o : BinOp) (old : Bool) (r : Checked TypedExpression) → Holds IsOwn (on (place_at place r) (step env at o old))
step_own env at place o old r =
    after_part IsOwn (place_at place r) (step env at o old)
    (λ a. holds_map (OfUpdate env at o a (one_for (kind_of a.ctype))) IsOwn (update_own env at o a (one_for (kind_of a.ctype))) (step env at o old a) (step_agrees env at at o old a).has)

-- what is chosen is constant where its arms are integers
not_chosen : (d b : Constant) → is_known_zero (constant_conditional d not_constant b) ≡ true → ⊥
not_chosen not_constant b e = no e
not_chosen d b e = no e

chosen_null : (t : CType) (d a b : Constant) → is_known_zero (constant_conditional d (integer_constant_if (is_integer t) a) b) ≡ true → IsNullType t
chosen_null (integer i) d a b e = tt
chosen_null t d a b e = absurd (not_chosen d b e)

both_void : (t : CType) (b : Bool) → (is_void t && b) ≡ true → t ≡ void
both_void void b q = refl
both_void t b q = no q

choice_of_own : (c a b g : TypedExpression) → OfChoice c a b g → IsOwn g
choice_of_own c a b g (integers_chosen i s j k) = record { ctype = refl; null = λ _. tt; solid = λ p. record { types = refl; tree = λ k. refl } }
choice_of_own c a b g (pointers_chosen x y s q) = record { ctype = refl; null = λ z. chosen_null x.ctype (integer_constant c) x.constant (integer_constant y) z; solid = λ p. record { types = refl; tree = λ k. refl } }
choice_of_own c a b g (voids_chosen s v) = record {
  ctype = refl;
  null = λ z. chosen_null void (integer_constant c) a.constant (integer_constant b) (subst (λ u. is_known_zero (constant_conditional (integer_constant c) (integer_constant_if (is_integer u) a.constant) (integer_constant b)) ≡ true) (both_void a.ctype (is_void b.ctype) v) z);
  solid = λ p. record { types = refl; tree = λ k. refl };
}

choice_own : (at : ℕ) (c a b : TypedExpression) → Holds IsOwn (choice at c a b)
choice_own at c a b = holds_map (OfChoice c a b) IsOwn (choice_of_own c a b) (choice at c a b) (choice_agrees at at c a b).has

-- ## Expressions

-- what needs no more of its parts
abbrev pub IsSimple : Expr → Type 0
IsSimple (comma at es) = ⊥
IsSimple (call at d es) = ⊥
IsSimple (unary at o e) = ⊥
IsSimple (index at e f) = ⊥
IsSimple e = Unit {0}

pub tree_given : (x : Expr) → IsSimple x → (env : Env) (b : Before) → Holds IsGiven (tree env b x)
tree_given (a_name at y) s env b = bound_holds IsGiven env at y (lookup env.names y) (λ c _. meant_given env at y c.means)
tree_given (an_int at m u) s env b = own_given (fine (integer_expression m u)) (integer_cases IsOwn m u (λ _. record { ctype = refl; null = λ _. tt; solid = λ p. record { types = refl; tree = λ k. refl } }) (record { ctype = refl; null = λ _. tt; solid = λ p. record { types = refl; tree = λ k. refl } }))
tree_given (a_char at c) s env b = record { ctype = refl; null = λ _. tt; solid = λ p. record { types = refl; tree = λ k. refl } }
tree_given (a_str at text) s env b = after_part IsGiven (string_fits env.context at b.cells (suc (length text))) _ (λ _ z. no z)
tree_given (sizeof_type at u) s env b = own_given _ (after_part IsOwn (type_named env u) (size_of_type env at (place_of_type u)) (λ t. size_own env at (place_of_type u) t))
tree_given (cast at u e) s env b = own_given _ (cast_own (is_void_pointer u) at (type_named env u) (value_at env (place_of e) (tree env b e)))
tree_given (member at how e y) s env b = access_given env at (place_of e) how y.name (tree env b e)
tree_given (postfix at post_increment e) s env b = own_given _ (step_own env at (place_of e) Add true (tree env b e))
tree_given (postfix at post_decrement e) s env b = own_given _ (step_own env at (place_of e) Sub true (tree env b e))
tree_given (prefix at pre_increment e) s env b = own_given _ (step_own env at (place_of e) Add false (tree env b e))
tree_given (prefix at pre_decrement e) s env b = own_given _ (step_own env at (place_of e) Sub false (tree env b e))
tree_given (prefix at sizeof e) s env b = own_given _ (after_part IsOwn (tree (in_context env sized) nothing_before e) (size_of_expression env at) (λ g. size_own env at at g.ctype))
tree_given (binary at o e f) s env b = own_given _ (after_two IsOwn (value_at env (place_of e) (tree env b e)) (value_at env (place_of f) (tree env (after b e) f)) (infix_rule env at o) (infix_own env at o))
tree_given (assign at o e f) s env b = own_given _ (after_two IsOwn (place_at (place_of e) (tree env b e)) (value_at env (place_of f) (tree env (after b e) f)) (assignment_by env at o) (assignment_own env at o))
tree_given (conditional at c e f) s env b =
    own_given _ (after_three IsOwn (value_at env (place_of c) (tree env b c)) (value_at env (place_of e) (tree env (after b c) e)) (value_at env (place_of f) (tree env (after (after b c) e) f)) (choice at) (choice_own at))
tree_given x s env b = absurd s
