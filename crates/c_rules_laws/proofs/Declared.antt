-- Rules on specifiers, declarators and declared names at two places.
use Rattle.std.proofs.Common.{◌≡◌, ℕ, not, Option, Some, None, refl, sym, ap, subst, nat_lt}
use Rattle.std.specs.Prelude.{ℤ, pos, negsuc, is_none, nat_le}
use Rattle.c_tree.specs.declared.value.Value.{Value}
use Rattle.c_tree.specs.declared.value.IntType.TheVariants.{Int}
use Rattle.c_tree.specs.Tree.{CType, CTypes, void, integer, pointer, array, struct, function}
use Rattle.c_syntax.specs.Tree as syntax
use Rattle.c_syntax.specs.Tree.{Ident, Spec, Declarator}
use Rattle.c_syntax.specs.Same.{unplaced_ident, unplaced_spec, unplaced_declarator}
use Rattle.c_rules.specs.Checked.{Checked, fine, on, both, demand, Met, met}
use Rattle.c_rules.specs.Codes.{C1, C2, C3, C6, C11, C12, C13}
use Rattle.c_rules.specs.Limits.{most_parameters}
use Rattle.c_rules.specs.Names.{is_among, given_names, may_be_declared}
use Rattle.c_rules.specs.Types.{is_scalar, is_result, count, adjusted}
use Rattle.c_rules.specs.Constants.{number_of}
use Rattle.c_rules.specs.Scopes.{Env, Meaning, a_local, with_name, meaning_or_unknown, tag_number, declared_here}
use Rattle.c_rules.specs.TypedExpression.{TypedExpression, Constant, known, integer_constant}
use Rattle.c_rules.specs.Conversions.{few_parts, complete}
use Rattle.c_rules.specs.Declarators.{name_of, type_of_spec, within_parts, pointer_to, array_of, function_of, parameter_of, defined_value, constant_value, positive, array_size, free_name, new_name, variable_meaning, with_name_demands, behind_parameter}
use Rattle.c_rules_laws.proofs.Leads.{first_fine}
use Rattle.c_rules_laws.proofs.Alike.{Alike, alike, fine_there, on_alike, joined_alike, demand_alike, and_alike, fault_alike}
use Rattle.c_rules_laws.proofs.Operators.{complete_alike}

-- ## Types

pub spec_alike : (env : Env) (at to : ℕ) (s : Spec) → Alike CType (type_of_spec env at s) (type_of_spec env to (unplaced_spec s))
spec_alike env at to (syntax.struct x) = demand_alike (not (is_among env.enums x.name)) C2 x.at 0 (struct (tag_number env x.name))
spec_alike env at to (syntax.enum x) = demand_alike (is_among env.enums x.name) C1 at to (integer Int)
spec_alike env at to s = alike (type_of_spec env at s)

within_alike : (at to : ℕ) (t : CType) → Alike CType (within_parts at t) (within_parts to t)
within_alike at to t = demand_alike (few_parts t) C13 at to t

pub pointer_alike : (at to : ℕ) (t : CType) → Alike CType (pointer_to at t) (pointer_to to t)
pointer_alike at to void = fault_alike C3 at to
pointer_alike at to (array t n) = fault_alike C3 at to
pointer_alike at to t = within_alike at to (pointer t)

sized_alike : (env : Env) (at to : ℕ) (t : CType) (n : ℕ) → Alike CType (on (complete env at t) (λ _. within_parts at (array t n))) (on (complete env to t) (λ _. within_parts to (array t n)))
sized_alike env at to t n = on_alike (λ _. within_parts at (array t n)) (λ _. within_parts to (array t n)) (complete_alike env at to t) (λ _ _. within_alike at to (array t n))

pub array_alike : (env : Env) (at to : ℕ) (t : CType) (n : ℕ) → Alike CType (array_of env at t n) (array_of env to t n)
array_alike env at to (array t m) n = fault_alike C3 at to
array_alike env at to t n = sized_alike env at to t n

pub function_alike : (at to : ℕ) (t : CType) (ts : CTypes) → Alike CType (function_of at t ts) (function_of to t ts)
function_alike at to t ts =
    on_alike (λ _. on (demand (nat_le (count ts) most_parameters) C13 at met) (λ _. within_parts at (function t ts)))
    (λ _. on (demand (nat_le (count ts) most_parameters) C13 to met) (λ _. within_parts to (function t ts)))
    (demand_alike (is_result t) C3 at to met)
    (λ _ _. on_alike (λ _. within_parts at (function t ts)) (λ _. within_parts to (function t ts)) (demand_alike (nat_le (count ts) most_parameters) C13 at to met) (λ _ _. within_alike at to (function t ts)))

pub parameter_alike : (at to : ℕ) (t : CType) → Alike CType (parameter_of at t) (parameter_of to t)
parameter_alike at to t =
    on_alike (λ _. within_parts at (adjusted t)) (λ _. within_parts to (adjusted t)) (demand_alike (is_scalar (adjusted t)) C3 at to met) (λ _ _. within_alike at to (adjusted t))

-- ## Constants

defined_alike : (at to : ℕ) (c : Constant) → Alike Value (defined_value at c) (defined_value to c)
defined_alike at to (known v) = alike (fine v)
defined_alike at to c = fault_alike C6 at to

pub constant_alike : (at to : ℕ) (g : TypedExpression) → Alike Value (constant_value at g) (constant_value to g)
constant_alike at to g = defined_alike at to (integer_constant g)

positive_alike : (at to : ℕ) (z : ℤ) → Alike ℕ (positive at z) (positive to z)
positive_alike at to (pos n) = demand_alike (nat_lt 0 n) C6 at to n
positive_alike at to (negsuc n) = fault_alike C6 at to

pub array_size_alike : (at to : ℕ) (g : TypedExpression) → Alike ℕ (array_size at g) (array_size to g)
array_size_alike at to g = on_alike (λ v. positive at (number_of v)) (λ v. positive to (number_of v)) (constant_alike at to g) (λ v _. positive_alike at to (number_of v))

-- ## Names

pub free_alike : (env : Env) (x : Ident) → Alike Met (free_name env x) (free_name env (unplaced_ident x))
free_alike env x =
    and_alike (demand_alike (may_be_declared env.whole.mode x.name) C12 x.at 0 met) (demand_alike (not (is_among (given_names env.whole.mode) x.name)) C11 x.at 0 met)

pub new_alike : (env : Env) (x : Ident) → Alike Met (new_name env x) (new_name env (unplaced_ident x))
new_alike env x = and_alike (free_alike env x) (demand_alike (is_none (declared_here env x.name)) C2 x.at 0 met)

-- what is declared has the same name
abbrev pub unplaced_name : Option Ident → Option Ident
unplaced_name None = None
unplaced_name (Some x) = Some (unplaced_ident x)

pub name_same : (d : Declarator) → name_of (unplaced_declarator d) ≡ unplaced_name (name_of d)
name_same (syntax.pointer at d) = name_same d
name_same (syntax.array at d size) = name_same d
name_same (syntax.function at d ps) = name_same d
name_same d = refl

variable_alike : (env : Env) (k : ℕ) (x : Ident) (r s : Checked CType) → Alike CType r s → Alike Meaning (variable_meaning env k x r) (variable_meaning env k (unplaced_ident x) s)
variable_alike env k x r s h =
    joined_alike (new_name env x) (new_name env (unplaced_ident x)) (λ t _. a_local k t t) h (λ _ _. new_alike env x)

named_alike : (env : Env) (n : Option Ident) (r s : Checked CType) → Alike CType r s → Alike CType (with_name_demands env n r) (with_name_demands env (unplaced_name n) s)
named_alike env None r s h = h
named_alike env (Some x) r s h =
    joined_alike (new_name env x) (new_name env (unplaced_ident x)) (λ t _. t) h (λ _ _. new_alike env x)

pub with_name_alike : (env : Env) (d : Declarator) (r s : Checked CType) → Alike CType r s → Alike CType (with_name_demands env (name_of d) r) (with_name_demands env (name_of (unplaced_declarator d)) s)
with_name_alike env d r s h = subst (λ n. Alike CType (with_name_demands env (name_of d) r) (with_name_demands env n s)) (sym (name_same d)) (named_alike env (name_of d) r s h)

-- a meaning that is fine is the same
pub meaning_same : (r s : Checked Meaning) (m : Meaning) → Alike Meaning r s → r ≡ fine m → meaning_or_unknown r ≡ meaning_or_unknown s
meaning_same r s m h e =
    subst (λ x. meaning_or_unknown x ≡ meaning_or_unknown s) (sym e) (subst (λ y. m ≡ meaning_or_unknown y) (sym (fine_there m h e)) refl)

behind_same : (env : Env) (k : ℕ) (n : Option Ident) (r s : Checked CType) (t : CType) → Alike CType r s → with_name_demands env n r ≡ fine t → behind_parameter env k n r ≡ behind_parameter env k (unplaced_name n) s
behind_same env k None r s t h e = refl
behind_same env k (Some x) r s t h e =
    let f = first_fine r (new_name env x) (λ u _. fine u) t e in
    let m : variable_meaning env k x r ≡ fine (a_local k f.0 f.0) = subst (λ y. both y (new_name env x) (λ u _. fine (a_local k u u)) ≡ fine (a_local k f.0 f.0)) (sym f.2) (subst (λ z. both (fine f.0) z (λ u _. fine (a_local k u u)) ≡ fine (a_local k f.0 f.0)) (sym f.3) refl) in
    ap (with_name env x.name) (meaning_same (variable_meaning env k x r) (variable_meaning env k (unplaced_ident x) s) (a_local k f.0 f.0) (variable_alike env k x r s h) m)

-- the scope behind a parameter that is fine
pub behind_parameter_same : (env : Env) (k : ℕ) (d : Declarator) (r s : Checked CType) (t : CType) → Alike CType r s → with_name_demands env (name_of d) r ≡ fine t → behind_parameter env k (name_of d) r ≡ behind_parameter env k (name_of (unplaced_declarator d)) s
behind_parameter_same env k d r s t h e = subst (λ n. behind_parameter env k (name_of d) r ≡ behind_parameter env k n s) (sym (name_same d)) (behind_same env k (name_of d) r s t h e)
