-- The tree of a value has the value's type, and a null pointer constant has an integer type, or is a void *.
use Rattle.std.proofs.Common.{◌≡◌, ℕ, ◌+◌, true, List, nat_eq, refl, sym, subst, ◌∙◌}
use Rattle.c_lexer.specs.declared.punctuator.TheConstants.{AMPERSAND, ASTERISK}
use Rattle.c_tree.specs.Tree.{CType, void, pointer, array, struct, function, type_of}
use Rattle.c_tree.specs.Tree as typed
use Rattle.c_tree.specs.Layout.{cells}
use Rattle.c_syntax.specs.Tree.{Expr, comma, call, unary, index}
use Rattle.c_rules.specs.Checked.{Checked, fine, demand, both, met}
use Rattle.c_rules.specs.Scopes.{Env, layout_of, Before}
use Rattle.c_rules.specs.Counts.{place_of, calls, after, after_designator}
use Rattle.c_rules.specs.TypedExpression.{Form, a_value, a_place, behind, Constant, is_known_zero, TypedExpression, typed_value, tree_of_form, tree_of, is_null}
use Rattle.c_rules.specs.Conversions.{few_parts, loaded, valued_as, valued}
use Rattle.c_rules.specs.PostfixExpressions.{Designator, direct, through, Callee, as_many_as, all_fit, call_of, called, site_of}
use Rattle.c_rules.specs.UnaryExpressions.{address, led_to, indirection, unary_of_value}
use Rattle.c_rules.specs.BinaryExpressions.{sum}
use Rattle.c_rules.specs.Assignments.{comma_of}
use Rattle.c_rules.specs.Expressions.{value_at, unary_rule, callee, tree, trees, value}
use Rattle.c_rules_laws.proofs.Holding.{held, on_holds, holds_map, if_holds}
use Rattle.c_rules_laws.proofs.Operators.{IsAddress, of_place, of_leader, address_agrees}
use Rattle.null_calls_laws.specs.NullTypes.{IsNullType, NullsHaveTheirTypes}
use Rattle.null_calls_laws.proofs.Leaves.{Holds, after_part, demand_holds}
use Rattle.null_calls_laws.proofs.Given.{IsOwn, IsGiven, by_own, by_given, own_given, after_two, after_three, no, decayed_no, rest_own, sum_own, tree_given}

-- a value's tree has its type, and so has what leads to a place; no place is a null pointer constant
abbrev FormSound : CType → Constant → Form → Type 0
FormSound t c (a_value e) = (type_of e ≡ t) × (is_known_zero c ≡ true → IsNullType t)
FormSound t c (a_place e) = is_known_zero c ≡ true → ⊥
FormSound t c (behind e) = (type_of e ≡ pointer t) × (is_known_zero c ≡ true → ⊥)

abbrev IsSound : TypedExpression → Type 0
IsSound g = FormSound g.ctype g.constant g.form

abbrev pub ValueTyped : TypedExpression → Type 0
ValueTyped g = type_of (tree_of g) ≡ g.ctype

abbrev ValueSound : TypedExpression → Type 0
ValueSound g = ValueTyped g × (is_null g ≡ true → IsNullType g.ctype)

given_sound : (r : Checked TypedExpression) → Holds IsGiven r → Holds IsSound r
given_sound r h = by_given FormSound (λ t c e l. (l.ctype, l.null)) (λ t c e l. l) r h

own_sound : (g : TypedExpression) → IsOwn g → ValueSound g
own_sound g h = by_own (λ t c f. (type_of (tree_of_form t f) ≡ t) × (is_known_zero c ≡ true → IsNullType t)) (λ t c e l. (l.ctype, l.null)) g.ctype g.constant g.form h

-- ## Values

loaded_sound : (g : TypedExpression) (f : Form) → g.form ≡ f → FormSound g.ctype g.constant f → ValueSound (loaded g f)
loaded_sound g (a_value e) q h = (subst (λ z. type_of (tree_of_form g.ctype z) ≡ g.ctype) (sym q) h.0, h.1)
loaded_sound g f q h = (refl, λ z. no z)

null_type : (t : CType) (c : Constant) (f : Form) → FormSound t c f → is_known_zero c ≡ true → IsNullType t
null_type t c (a_value e) h z = h.1 z
null_type t c (a_place e) h z = absurd (h z)
null_type t c (behind e) h z = absurd (h.1 z)

valued_sound : (env : Env) (at : ℕ) (g : TypedExpression) (t : CType) → g.ctype ≡ t → IsSound g → Holds ValueSound (valued_as env at g t)
valued_sound env at g (array t n) q h = (refl, λ z. absurd (decayed_no (cells (layout_of env) t) g.constant z))
valued_sound env at g (struct s) q h = tt
valued_sound env at g (function t ts) q h =
    demand_holds ValueSound (few_parts (pointer g.ctype)) 13 at (typed_value (pointer g.ctype) (typed.decay (pointer g.ctype) (tree_of g)) g.constant) (refl, λ z. absurd (let n : IsNullType (function t ts) = subst IsNullType q (null_type g.ctype g.constant g.form h z) in n))
valued_sound env at g t q h = loaded_sound g g.form refl h

value_at_sound : (env : Env) (at : ℕ) (r : Checked TypedExpression) → Holds IsSound r → Holds ValueSound (value_at env at r)
value_at_sound env at r h = on_holds IsSound ValueSound r (valued env at) h (λ g l. valued_sound env at g g.ctype refl l)

-- ## Unary operators

led_sound : (at : ℕ) (g : TypedExpression) (t : CType) → g.ctype ≡ t → ValueSound g → Holds IsSound (led_to at g t)
led_sound at g (pointer void) q h = tt
led_sound at g (pointer t) q h = (h.0 ∙ q, λ z. subst IsNullType q (h.1 z))
led_sound at g t q h = tt

address_sound : (g h : TypedExpression) → IsAddress g h → IsSound g → IsSound h
address_sound g h (of_place e q n) l = (refl, λ z. absurd (subst (FormSound g.ctype g.constant) q l z))
address_sound g h (of_leader e q n) l = (let k = subst (FormSound g.ctype g.constant) q l in (k.0, λ z. absurd (k.1 z)))

unary_sound : (env : Env) (at place code : ℕ) (r : Checked TypedExpression) → Holds IsSound r → Holds IsSound (unary_rule env at place code r)
unary_sound env at place code r h =
    if_holds IsSound (nat_eq code AMPERSAND) _ _ (on_holds IsSound IsSound r (address at place) h (λ g l. holds_map (IsAddress g) IsSound (λ x a. address_sound g x a l) (address at place g) (address_agrees at at g place place).has))
    (on_holds ValueSound IsSound (value_at env place r) (unary_of_value at code) (value_at_sound env place r h) (λ g l. if_holds IsSound (nat_eq code ASTERISK) _ _ (led_sound at g g.ctype refl l) (given_sound _ (own_given _ (rest_own at code g)))))

-- ## Calls

designator_typed : (d : Designator) (t : CType) (site : ℕ) (es : typed.Exprs) → type_of (call_of d t site es) ≡ t
designator_typed (direct f) t site es = refl
designator_typed (through e) t site es = refl

called_sound : (at : ℕ) (f : Callee) (site : ℕ) (gs : List TypedExpression) → Holds IsSound (called at f site gs)
called_sound at f site gs = after_part IsSound (demand (as_many_as f.parameters gs) 5 at met) _ (λ _. demand_holds IsSound (all_fit f.parameters gs) 3 at _ (designator_typed f.designator f.returns site _, λ z. no z))

-- ## Expressions

tree_sound : (x : Expr) (env : Env) (b : Before) → Holds IsSound (tree env b x)
tree_sound (comma at es) env b = after_part IsSound (trees env b es) (λ gs. fine (comma_of gs)) (λ gs. (refl, λ z. no z))
tree_sound (call at d es) env b = after_three IsSound (callee env at d (value_at env (place_of d) (tree env b d))) (site_of env (b.sites + calls d) at) (trees env (after_designator b d) es) (called at) (called_sound at)
tree_sound (unary at o e) env b = unary_sound env at (place_of e) o (tree env b e) (tree_sound e env b)
tree_sound (index at e f) env b =
    on_holds IsOwn IsSound (both (value_at env (place_of e) (tree env b e)) (value_at env (place_of f) (tree env (after b e) f)) (sum env at)) (indirection at)
    (after_two IsOwn (value_at env (place_of e) (tree env b e)) (value_at env (place_of f) (tree env (after b e) f)) (sum env at) (sum_own env at)) (λ g h. led_sound at g g.ctype refl (own_sound g h))
tree_sound x env b = given_sound (tree env b x) (tree_given x tt env b)

value_sound : (x : Expr) (env : Env) (b : Before) → Holds ValueSound (value env b x)
value_sound x env b = value_at_sound env (place_of x) (tree env b x) (tree_sound x env b)

pub value_typed : (x : Expr) (env : Env) (b : Before) → Holds ValueTyped (value env b x)
value_typed x env b = holds_map ValueSound ValueTyped (λ g h. h.0) (value env b x) (value_sound x env b)

pub nulls_have_their_types : NullsHaveTheirTypes
nulls_have_their_types env b x g e z = (let h = held ValueSound (value env b x) g (value_sound x env b) e in h.1 z)
