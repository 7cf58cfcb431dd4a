-- Names of types that name void.
use Rattle.std.proofs.Common.{◌≡◌, ℕ, Bool, true, false, not, Some, None, refl}
use Rattle.c_tree.specs.declared.value.IntType.TheVariants.{Int}
use Rattle.c_tree.specs.Tree.{CType, void, integer, CTypes}
use Rattle.c_tree.specs.Tree as typed
use Rattle.c_syntax.specs.Tree.{Spec, Declarator, nothing, named, pointer, array, function, TypeName, type_name}
use Rattle.c_syntax.specs.Tree as syntax
use Rattle.c_rules.specs.Checked.{fine, demand, on, met}
use Rattle.c_rules.specs.Scopes.{Env, inside, tag_number}
use Rattle.c_rules.specs.Names.{is_among}
use Rattle.c_rules.specs.Conversions.{few_parts, complete}
use Rattle.c_rules.specs.Types.{is_result}
use Rattle.c_rules.specs.Declarators.{is_void_pointer, type_of_spec, within_parts, pointer_to, array_of, function_of}
use Rattle.c_rules.specs.Expressions.{declared, size_in, parameters, type_named}
use Rattle.null_calls_laws.specs.InstrumentedExpressions.{is_void_type}
use Rattle.null_calls_laws.specs.Tabled.{IsAbstract}
use Rattle.null_calls_laws.proofs.Leaves.{Holds, after_part}
use Rattle.c_rules.proofs.Below.{on_holds}

-- no void
abbrev pub IsThing : CType → Type 0
IsThing void = ⊥
IsThing t = Unit {0}

demand_thing : (t : Bool) (code at : ℕ) (u : CType) → IsThing u → Holds IsThing (demand t code at u)
demand_thing true code at u h = h
demand_thing false code at u h = tt

pointer_thing : (at : ℕ) (t : CType) → Holds IsThing (pointer_to at t)
pointer_thing at void = tt
pointer_thing at (typed.array t n) = tt
pointer_thing at t = demand_thing (few_parts (typed.pointer t)) 13 at (typed.pointer t) tt

array_thing : (env : Env) (at : ℕ) (t : CType) (n : ℕ) → Holds IsThing (array_of env at t n)
array_thing env at (typed.integer i) n = demand_thing (few_parts (typed.array (typed.integer i) n)) 13 at (typed.array (typed.integer i) n) tt
array_thing env at (typed.pointer t) n = demand_thing (few_parts (typed.array (typed.pointer t) n)) 13 at (typed.array (typed.pointer t) n) tt
array_thing env at (typed.struct s) n = after_part IsThing (complete env at (typed.struct s)) (λ _. within_parts at (typed.array (typed.struct s) n)) (λ _. demand_thing (few_parts (typed.array (typed.struct s) n)) 13 at (typed.array (typed.struct s) n) tt)
array_thing env at t n = tt

function_thing : (at : ℕ) (t : CType) (ts : CTypes) → Holds IsThing (function_of at t ts)
function_thing at t ts = after_part IsThing (demand (is_result t) 3 at met) _ (λ _. after_part IsThing (demand _ 13 at met) _ (λ _. demand_thing (few_parts (typed.function t ts)) 13 at (typed.function t ts) tt))

-- what a declarator makes of a type that isn't void, or of any where it makes another one, isn't void
abbrev IsMade : Declarator → CType → Type 0
IsMade nothing t = IsThing t
IsMade (named at x) t = IsThing t
IsMade d t = Unit {0}

thing_made : (d : Declarator) (t : CType) → IsThing t → IsMade d t
thing_made nothing t h = h
thing_made (named at x) t h = h
thing_made d t h = tt

declared_thing : (d : Declarator) (env : Env) (t : CType) → IsMade d t → Holds IsThing (declared env d t)
declared_thing (pointer at d) env t h = on_holds IsThing IsThing (pointer_to at t) (λ u. declared env d u) (pointer_thing at t) (λ u k. declared_thing d env u (thing_made d u k))
declared_thing (array at d size) env t h =
    on_holds IsThing IsThing (on (size_in env size) (array_of env at t)) (λ u. declared env d u) (after_part IsThing (size_in env size) (array_of env at t) (λ n. array_thing env at t n)) (λ u k. declared_thing d env u (thing_made d u k))
declared_thing (function at d ps) env t h =
    on_holds IsThing IsThing (on (parameters (inside env) 0 ps) (function_of at t)) (λ u. declared env d u) (after_part IsThing (parameters (inside env) 0 ps) (function_of at t) (λ ts. function_thing at t ts)) (λ u k. declared_thing d env u (thing_made d u k))
declared_thing d env t h = h

-- ## Casts to void

-- a cast to void is told by its syntax
pub void_named : (u : TypeName) → is_void_type u ≡ true → ((env : Env) → type_named env u ≡ fine void) × (is_void_pointer u ≡ false)
void_named (type_name at syntax.void nothing) e = (λ env. refl, refl)
void_named u e = absurd (let q : false ≡ true = e in cc)

spec_thing : (env : Env) (at : ℕ) (s : Spec) (d : Declarator) → Holds IsThing (type_of_spec env at s) → Holds IsThing (on (type_of_spec env at s) (λ t. declared env d t))
spec_thing env at s d h = on_holds IsThing IsThing (type_of_spec env at s) (λ t. declared env d t) h (λ t k. declared_thing d env t (thing_made d t k))

pub thing_named : (u : TypeName) (env : Env) → IsAbstract u → is_void_type u ≡ false → Holds IsThing (type_named env u)
thing_named (type_name at syntax.void nothing) env a e = absurd (let q : true ≡ false = e in cc)
thing_named (type_name at syntax.void (named here x)) env a e = absurd (let q : Some x ≡ None = a in cc)
thing_named (type_name at syntax.void d) env a e = declared_thing d env void tt
thing_named (type_name at (syntax.struct x) d) env a e = spec_thing env at (syntax.struct x) d (demand_thing (not (is_among env.enums x.name)) 2 x.at (typed.struct (tag_number env x.name)) tt)
thing_named (type_name at (syntax.enum x) d) env a e = spec_thing env at (syntax.enum x) d (demand_thing (is_among env.enums x.name) 1 at (typed.integer Int) tt)
thing_named (type_name at s d) env a e = spec_thing env at s d tt
