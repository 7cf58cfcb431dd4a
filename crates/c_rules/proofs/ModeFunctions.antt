-- Functions in the two modes.
use Rattle.std.proofs.Common.{◌≡◌, ℕ, suc, ◌+◌, ◌≤◌, Bool, true, false, not, ◌&&◌, ◌||◌, List, ◌++◌, length, Option, Some, None, nat_lt, nat_le, ◌<◌, length-append, refl, ap, sym, subst, ◌∙◌, arith}
use Rattle.std.proofs.lemmas.Bool.{le-leb, leb-true}
use Rattle.std.proofs.lemmas.Option.{slice_get_within, slice_get-get_or, get_or_from_slice_get}
use Rattle.std.proofs.lemmas.List.{get_or_append_left}
use Rattle.std.specs.Prelude.{slice_get}
use Rattle.c_tree.specs.Mode.TheVariants.{Plain, Instrumented}
use Rattle.c_tree.specs.Functions.{sys_types, null_types}
use Rattle.c_tree.specs.Layout.{cells_of_all}
use Rattle.c_tree.specs.Tree.{CType, void, integer, pointer, array, struct, function, CTypes}
use Rattle.c_tree.specs.Tree as typed
use Rattle.c_syntax.specs.Tree.{Ident, Spec, Declarator, Params, no_params, more_params, BlockItems}
use Rattle.c_syntax.specs.Tree as syntax
use Rattle.c_rules.specs.Checked.{Checked, fine, faulty, on, demand, and_also, Met, met}
use Rattle.c_rules.specs.Codes.{C2, C3, C11, C12, C13}
use Rattle.c_rules.specs.Names.{Name, number_among, is_among, is_reserved, given_names, may_be_declared, with_new, is_given_type}
use Rattle.c_rules.specs.Scopes.{Env, Meaning, a_function, inside, Before, layout_of, declared_here}
use Rattle.c_rules.specs.Declarators.{name_of, place_or, type_of_spec, pointer_to, array_of, function_of, new_name, with_name_demands, behind_parameter}
use Rattle.c_rules.specs.Expressions.{declared, size_in, parameters, type_declared, type_of_parameter}
use Rattle.c_rules.specs.Variables.{names_of_block}
use Rattle.c_rules.specs.Blocks.{StatementTree}
use Rattle.c_rules.specs.Functions.{declares_function, parameters_of, are_named, count_params, with_parameter, with_parameters, body_env, body_numbers, held_by_type, held_by_typed, given_as, is_as_given, may_follow_function, is_defined_by, is_few, function_meaning, behind_function, function_declared, variables_of, function_laid, body_of, few_variables, defined_as}
use Rattle.c_rules.proofs.Modes.{Leads, LeadsTo, same_leads, fine_leads, on_leads, demand_leads, and_also_leads, first_fine, on_fine, demand_met, below_more, ArePlain, in_mode, More, Alike, alike, Twin, twin, named_twin, twin_alike, parts_first_leads}
use Rattle.c_rules.proofs.ModeNames.{left, right, given_same, here_same, unreserved, name_leads, new_name_plain}
use Rattle.c_rules.proofs.ModeExpressions.{type_declared_leads, parameter_leads, behind_alike}
use Rattle.c_rules.proofs.ModeBlocks.{both_to, after_to, weaken}
use Rattle.c_rules.proofs.ModeStatements.{inside_alike, block_leads}

-- ## The scope of a body

-- where a declarator of a function is fine, its parameters are
pub parameters_fine : (e : Env) (d : Declarator) (t u : CType) → declares_function d ≡ true → declared e d t ≡ fine u → (ts : CTypes) × (parameters (inside e) 0 (parameters_of d) ≡ fine ts)
parameters_fine e (syntax.pointer at d) t u h g = let k = on_fine (pointer_to at t) (λ v. declared e d v) u g in parameters_fine e d k.0 u h k.2
parameters_fine e (syntax.array at d size) t u h g = let k = on_fine (on (size_in e size) (array_of e at t)) (λ v. declared e d v) u g in parameters_fine e d k.0 u h k.2
parameters_fine e (syntax.function at (syntax.named here x) ps) t u h g =
    let k = on_fine (on (parameters (inside e) 0 ps) (function_of at t)) (λ v. fine v) u g in let l = on_fine (parameters (inside e) 0 ps) (function_of at t) k.0 k.1 in (l.0, l.1)
parameters_fine e (syntax.function at d ps) t u h g =
    let k = on_fine (on (parameters (inside e) 0 ps) (function_of at t)) (λ v. declared e d v) u g in parameters_fine e d k.0 u h k.2
parameters_fine e d t u h g = cc

abbrev pub PlainName : Option Ident → Type 0
PlainName None = Unit {0}
PlainName (Some x) = is_reserved x.name ≡ false

-- every name of a parameter is unreserved
abbrev pub PlainNames : Params → Type 0
PlainNames no_params = Unit {0}
PlainNames (more_params at s d ps) = PlainName (name_of d) × PlainNames ps

pub name_plain : (env : Env) (n : Option Ident) (r : Checked CType) (t : CType) → with_name_demands (left env) n r ≡ fine t → PlainName n
name_plain env None r t g = tt
name_plain env (Some x) r t g = let k = first_fine r (new_name (left env) x) (λ u _. fine u) t g in new_name_plain env x k.1 k.3

names_plain : (e f : Env) → Alike e f → (k : ℕ) (ps : Params) (ts : CTypes) → parameters e k ps ≡ fine ts → PlainNames ps
names_plain e f (alike env v p l) k no_params ts g = tt
names_plain e f (alike env v p l) k (more_params at s d ps) ts g =
    let r : Checked CType = type_of_parameter (left env) at s d in
    let q : Checked CType = type_of_parameter (right env v) at s d in
    let h = first_fine (with_name_demands (left env) (name_of d) r) (parameters (behind_parameter (left env) k (name_of d) r) k ps) (λ t us. fine (typed.more_types t us)) ts g in
    (name_plain env (name_of d) r h.0 h.2, names_plain (behind_parameter (left env) k (name_of d) r) (behind_parameter (right env v) k (name_of d) q) (behind_alike env v p l k (name_of d) r q h.0 (parameter_leads _ _ (alike env v p l) at s d) h.2) k ps h.1 h.3)

pub declared_names : (e f : Env) → Alike e f → (at : ℕ) (s : Spec) (d : Declarator) (u : CType) → declares_function d ≡ true → type_declared e at s d ≡ fine u → PlainNames (parameters_of d)
declared_names e f w at s d u h g =
    let k = on_fine (type_of_spec e at s) (λ t. declared e d t) u g in
    let l = parameters_fine e d k.0 u h k.2 in
    names_plain (inside e) (inside f) (inside_alike e f w) 0 (parameters_of d) l.0 l.1

parameter_twin : (env : Env) → ArePlain env.names → (k : ℕ) (n : Option Ident) (t : CType) → PlainName n → Twin (with_parameter (left env) k n t) (with_parameter (in_mode Instrumented env) k n t)
parameter_twin env p k None t u = twin env p
parameter_twin env p k (Some x) t u = twin (with_parameter env k (Some x) t) (u, p)

inside_twin : (e f : Env) → Twin e f → Twin (inside e) (inside f)
inside_twin e f (twin env p) = twin (inside env) p

parameters_twin : (e f : Env) → Twin e f → (k : ℕ) (ps : Params) (ts : CTypes) → PlainNames ps → Twin (with_parameters e k ps ts) (with_parameters f k ps ts)
parameters_twin e f (twin env p) k (more_params at s d ps) (typed.more_types t ts) u = parameters_twin (with_parameter (left env) k (name_of d) t) (with_parameter (in_mode Instrumented env) k (name_of d) t) (parameter_twin env p k (name_of d) t u.0) (suc k) ps ts u.1
parameters_twin e f w k ps ts u = w

-- ## Names of functions

front_get : (ts us : List CType) (i : ℕ) (u : CType) → slice_get ts i ≡ Some u → slice_get (ts ++ us) i ≡ Some u
front_get ts us i u h =
    let w : i < length ts = slice_get_within ts i u h in
    let l : i < length (ts ++ us) = rw (length-append ts us) (omega (arith, w)) in
    slice_get-get_or (ts ++ us) i u l ∙ ap Some (get_or_append_left ts us u i w ∙ get_or_from_slice_get ts i u u h)

and_false : (t : Bool) → (t && false) ≡ true → ⊥
and_false true e = cc
and_false false e = cc

type_more : (ts us : List CType) (i : ℕ) (t : CType) (o : Option CType) (d : Bool) → slice_get ts i ≡ o → (not d && is_given_type o t) ≡ true → (not d && is_given_type (slice_get (ts ++ us) i) t) ≡ true
type_more ts us i t None d h e = absurd (and_false (not d) e)
type_more ts us i t (Some u) d h e = rw (front_get ts us i u h) e

as_given_more : (env : Env) (v : More) (d : Bool) (t : CType) (o : Option ℕ) → given_as (left env) d t o ≡ true → given_as (right env v) d t o ≡ true
as_given_more env v d t None e = refl
as_given_more env v d t (Some i) e = type_more sys_types null_types i t (slice_get sys_types i) d refl e

given_more : (env : Env) (v : More) (d : Bool) (x : Name) (t : CType) → is_reserved x ≡ false → is_as_given (left env) d x t ≡ true → is_as_given (right env v) d x t ≡ true
given_more env v d x t u e = subst (λ o. given_as (right env v) d t o ≡ true) (sym (given_same x u)) (as_given_more env v d t (number_among (given_names Plain) x) e)

-- what is asked of a function's name that isn't reserved
abbrev Rest : Env → Bool → Ident → CType → Checked Met
Rest e d x t = and_also (demand (is_as_given e d x.name t) C11 x.at met) (and_also (demand (may_follow_function d t (declared_here e x.name)) C2 x.at met) (demand (is_few e x.name) C13 x.at met))

function_plain : (env : Env) (d : Bool) (x : Ident) (t : CType) (a : Met) → and_also (demand (may_be_declared Plain x.name) C12 x.at met) (Rest (left env) d x t) ≡ fine a → is_reserved x.name ≡ false
function_plain env d x t a e = let k = first_fine (demand (may_be_declared Plain x.name) C12 x.at met) (Rest (left env) d x t) (λ _ _. fine met) a e in unreserved x.name (demand_met _ 12 x.at met k.0 k.2)

-- on the right a function may be declared where it may on the left
abbrev pub Few : Env → Env → Type 0
Few e f = (x : Name) → is_reserved x ≡ false → is_few e x ≡ true → is_few f x ≡ true

function_leads : (e f : Env) → Alike e f → Few e f → (d : Bool) (x : Ident) (t : CType) → Leads (function_meaning e d x t) (function_meaning f d x t)
function_leads e f (alike env v p l) few d x t =
    on_leads (and_also (demand (may_be_declared Plain x.name) C12 x.at met) (Rest (left env) d x t)) (and_also (demand (may_be_declared Instrumented x.name) C12 x.at met) (Rest (right env v) d x t))
    (λ _. fine (a_function t (is_defined_by d (declared_here (left env) x.name)))) (λ _. fine (a_function t (is_defined_by d (declared_here (right env v) x.name))))
    (name_leads x.name x.at (Rest (left env) d x t) (Rest (right env v) d x t)
    (λ u. and_also_leads _ _ _ _ (demand_leads _ _ 11 x.at met (given_more env v d x.name t u)) (and_also_leads _ _ _ _
    (subst (λ h. Leads (demand (may_follow_function d t (declared_here (left env) x.name)) C2 x.at met) (demand (may_follow_function d t h) C2 x.at met)) (sym (here_same env v l x.name u)) (same_leads _)) (demand_leads _ _ 13 x.at met (few x.name u)))))
    (λ a g. (ap (λ h. fine (a_function t (is_defined_by d h))) (here_same env v l x.name (function_plain env d x t a g)), tt))

pub function_declared_leads : (e f : Env) → Alike e f → Few e f → (d : Bool) (at : ℕ) (s : Spec) (p : Declarator) (x : Ident) → Leads (function_declared e d at s p x) (function_declared f d at s p x)
function_declared_leads e f w few d at s p x = on_leads (type_declared e at s p) (type_declared f at s p) (function_meaning e d x) (function_meaning f d x) (type_declared_leads e f w at s p) (λ t _. function_leads e f w few d x t)

pub function_named_plain : (e f : Env) → Alike e f → (d : Bool) (at : ℕ) (s : Spec) (p : Declarator) (x : Ident) (m : Meaning) → function_declared e d at s p x ≡ fine m → is_reserved x.name ≡ false
function_named_plain e f (alike env v p l) d at s c x m g =
    let k = on_fine (type_declared (left env) at s c) (function_meaning (left env) d x) m g in
    let i = on_fine (and_also (demand (may_be_declared Plain x.name) C12 x.at met) (Rest (left env) d x k.0)) (λ _. fine (a_function k.0 (is_defined_by d (declared_here (left env) x.name)))) m k.2 in
    function_plain env d x k.0 i.0 i.1

few_or : (a b c : Bool) → (b ≡ true → c ≡ true) → (a || b) ≡ true → (a || c) ≡ true
few_or true b c h e = refl
few_or false b c h e = h e

few_more : (e f : Env) → Twin e f → Few e f
few_more e f (twin env p) x u h = few_or (is_among env.functions x) (nat_lt (length env.functions) 4096) (nat_lt (length env.functions) 4098) (below_more (length env.functions) 4096 4098 (omega arith)) h

pub declared_twin : (e f : Env) → Twin e f → (d : Bool) (at : ℕ) (s : Spec) (p : Declarator) (x : Ident) → Leads (function_declared e d at s p x) (function_declared f d at s p x)
declared_twin e f w d at s p x = function_declared_leads e f (twin_alike e f w) (few_more e f w) d at s p x

-- behind the declaration of a function that is fine
pub function_twin : (e f : Env) → Twin e f → (d : Bool) (at : ℕ) (s : Spec) (p : Declarator) (x : Ident) (m : Meaning) → function_declared e d at s p x ≡ fine m → Twin (behind_function e x.name (function_declared e d at s p x)) (behind_function f x.name (function_declared f d at s p x))
function_twin e f (twin env w) d at s p x m g =
    named_twin (record env { functions = with_new env.functions x.name }) x.name (function_declared (left env) d at s p x) (function_declared (in_mode Instrumented env) d at s p x) m w (function_named_plain _ _ (twin_alike _ _ (twin env w)) d at s p x m g) g (fine_leads _ _ m (declared_twin _ _ (twin env w) d at s p x) g)

-- ## Definitions

cells_more : (n : ℕ) → nat_le n 65536 ≡ true → nat_le n 262144 ≡ true
cells_more n e = le-leb n 262144 (let k : n ≤ 65536 = leb-true n 65536 e in omega (arith, k))

variables_lead : (e f : Env) → Twin e f → (x : Ident) (d : Declarator) (is : BlockItems) → Leads (few_variables e x d is) (few_variables f x d is)
variables_lead e f (twin env w) x d is = demand_leads _ _ 13 x.at met (cells_more (count_params (parameters_of d) + length (names_of_block is)))

laid_leads : (e f : Env) → Twin e f → (x : Ident) (t : CType) (ts : CTypes) (p : StatementTree typed.Stmts) → Leads (function_laid e x t ts p) (function_laid f x t ts p)
laid_leads e f (twin env w) x t ts p = demand_leads _ _ 13 x.at _ (cells_more (cells_of_all (layout_of env) (variables_of ts p)))

-- a body, where the names of its parameters are unreserved
body_leads : (e f : Env) → Twin e f → (b : Before) (t : CType) (d : Declarator) (ts : CTypes) (is : BlockItems) → PlainNames (parameters_of d) → LeadsTo (held_by_type e d is (function t ts) ≡ held_by_type f d is (function t ts)) (body_of e b t d ts is) (body_of f b t d ts is)
body_leads e f w b t d ts is u =
    block_leads (body_env e d ts) (body_env f d ts) (twin_alike _ _ (parameters_twin (inside e) (inside f) (inside_twin e f w) 0 (parameters_of d) ts u)) (record { breaks = false; continues = false; returns = t }) b (body_numbers d is) is

defined_leads : (e f : Env) → Twin e f → (b : Before) (place : ℕ) (d : Declarator) (x : Ident) (is : BlockItems) (u : CType) → PlainNames (parameters_of d) → LeadsTo (held_by_type e d is u ≡ held_by_type f d is u) (defined_as e b place d x is u) (defined_as f b place d x is u)
defined_leads e f w b place d x is (function t us) h =
    after_to _ (few_variables e x d is) (few_variables f x d is) _ _ (variables_lead e f w x d is) (λ _ _.
    parts_first_leads _ (body_of e b t d us is) (body_of f b t d us is) _ _ (weaken (Unit {0} × (held_by_type e d is (function t us) ≡ held_by_type f d is (function t us))) _ _ _ (λ y. y.1)
    (both_to (Unit {0}) (held_by_type e d is (function t us) ≡ held_by_type f d is (function t us)) (demand (are_named (parameters_of d)) C3 place met) (demand (are_named (parameters_of d)) C3 place met) (body_of e b t d us is) (body_of f b t d us is) (λ _ p. function_laid e x t us p) (λ _ p. function_laid f x t us p)
    (same_leads _) (λ _ _ _. body_leads e f w b t d us is h) (λ _ p. laid_leads e f w x t us p))))
defined_leads e f w b place d x is u h = tt

-- a definition, behind the name of its function
pub definition_leads : (e f : Env) → Twin e f → (at : ℕ) (s : Spec) (d : Declarator) → declares_function d ≡ true → (g h : Env) → Twin g h → (b : Before) (x : Ident) (is : BlockItems) →
    LeadsTo (held_by_typed g d is (type_declared e at s d) ≡ held_by_typed h d is (type_declared f at s d)) (on (type_declared e at s d) (defined_as g b (place_or at d) d x is)) (on (type_declared f at s d) (defined_as h b (place_or at d) d x is))
definition_leads e f w at s d n g h v b x is = by_result (type_declared e at s d) (type_declared f at s d) (type_declared_leads e f (twin_alike e f w) at s d) (λ u k. declared_names e f (twin_alike e f w) at s d u n k)
  where
    by_result : (r q : Checked CType) → Leads r q → ((u : CType) → r ≡ fine u → PlainNames (parameters_of d)) → LeadsTo (held_by_typed g d is r ≡ held_by_typed h d is q) (on r (defined_as g b (place_or at d) d x is)) (on q (defined_as h b (place_or at d) d x is))
    by_result (faulty y ys) q l k = tt
    by_result (fine u) q l k =
        subst (λ z. LeadsTo (held_by_typed g d is (fine u) ≡ held_by_typed h d is z) (defined_as g b (place_or at d) d x is u) (on z (defined_as h b (place_or at d) d x is))) (sym l.0) (defined_leads g h v b (place_or at d) d x is u (k u refl))
