-- Names in the two modes.
use Rattle.std.proofs.Common.{◌≡◌, ℕ, suc, Bool, true, false, not, ◌||◌, cond, if◌then◌else◌, List, [], ◌∷◌, ◌++◌, Option, Some, None, refl, ap, sym, subst, ◌∙◌, arith, codes}
use Rattle.std.specs.Prelude.{is_some, is_none, option_map, bytes_eq}
use Rattle.std.proofs.lemmas.Slice.Eq.{bytes_eq-Decides}
use Rattle.c_tree.specs.Mode.TheVariants.{Plain, Instrumented}
use Rattle.c_syntax.specs.Tree.{Ident}
use Rattle.c_rules.specs.Checked.{Checked, fine, demand, and_also, Met, met}
use Rattle.c_rules.specs.Codes.{C2, C11, C12}
use Rattle.c_rules.specs.Names.{Name, number_among, is_among, is_reserved, null_calls, system_calls, given_names, may_be_declared}
use Rattle.c_rules.specs.Scopes.{Env, Binding, Meaning, a_static, a_function, unknown, Context, evaluated, sized, folded, lookup, at_depth, declared_here}
use Rattle.c_rules.specs.TypedExpression.{TypedExpression}
use Rattle.c_rules.specs.Conversions.{valued}
use Rattle.c_rules.specs.PrimaryExpressions.{used, given_number, number_or, function_number, function_value_number, typed_function, meant, bound, named_expression}
use Rattle.c_rules.specs.PostfixExpressions.{site_in, site_of, callee_of_type, callee_by_value}
use Rattle.c_rules.specs.Declarators.{free_name, new_name}
use Rattle.c_rules.specs.Expressions.{value_at, callee_meant, callee_bound}
use Rattle.c_rules.proofs.Modes.{Leads, same_leads, on_leads, then_leads, both_leads, gives_leads, demand_leads, first_fine, demand_met, below_more, ArePlain, MeanAlike, More}
pub use Rattle.c_rules.proofs.Modes.{left, right}

pub found_in : (t : Bool) (c : Binding) (x : Name) (rest : Option Binding) (b : Binding) → bytes_eq c.name x ≡ t → is_reserved c.name ≡ false → (rest ≡ Some b → is_reserved x ≡ false) → cond t (Some c) rest ≡ Some b → is_reserved x ≡ false
found_in true c x rest b e u h k = subst (λ y. is_reserved y ≡ false) ((bytes_eq-Decides c.name x).0 e) u
found_in false c x rest b e u h k = h k

-- a name that is bound is not reserved
pub found_plain : (bs : List Binding) (x : Name) → ArePlain bs → (b : Binding) → lookup bs x ≡ Some b → is_reserved x ≡ false
found_plain [] x p b e = cc
found_plain (c ∷ bs) x p b e = found_in (bytes_eq c.name x) c x (lookup bs x) b refl p.0 (found_plain bs x p.1 b) e

-- ## Given names

pub not_first : (t : Bool) (o : Option ℕ) → (t ≡ true → ⊥) → o ≡ None → (if t then Some 0 else option_map suc o) ≡ None
not_first true o h k = absurd (h refl)
not_first false o h k = ap (option_map suc) k

pub no_twin : (y x : Name) → is_reserved y ≡ true → is_reserved x ≡ false → bytes_eq y x ≡ true → ⊥
no_twin y x r u e = let same : y ≡ x = (bytes_eq-Decides y x).0 e in let k : is_reserved x ≡ true = subst (λ z. is_reserved z ≡ true) same r in let no : true ≡ false = sym k ∙ u in cc

pub no_null : (x : Name) → is_reserved x ≡ false → number_among null_calls x ≡ None
no_null x u =
    not_first (bytes_eq (codes "__dyck_pre") x) (number_among (codes "__dyck_post" ∷ []) x) (no_twin (codes "__dyck_pre") x refl u)
    (not_first (bytes_eq (codes "__dyck_post") x) None (no_twin (codes "__dyck_post") x refl u) refl)

pub among_front : (xs ys : List Name) (x : Name) → number_among ys x ≡ None → number_among (xs ++ ys) x ≡ number_among xs x
among_front [] ys x h = h
among_front (z ∷ xs) ys x h = ap (λ o. if bytes_eq z x then Some 0 else option_map suc o) (among_front xs ys x h)

-- a name that isn't reserved is given in both modes or in none
pub given_same : (x : Name) → is_reserved x ≡ false → number_among (given_names Instrumented) x ≡ number_among (given_names Plain) x
given_same x u = among_front system_calls null_calls x (no_null x u)

pub function_number_same : (env : Env) (w : More) (x : Name) → is_reserved x ≡ false → function_number (right env w) x ≡ function_number (left env) x
function_number_same env w x u = ap (λ o. number_or (number_among env.whole.functions x) (given_number (left env) o)) (given_same x u)

used_leads : (env : Env) (w : More) (at : ℕ) (x : Name) → is_reserved x ≡ false → Leads (used env.context at (function_number (left env) x)) (used env.context at (function_number (right env w) x))
used_leads env w at x u = subst (λ o. Leads (used env.context at (function_number (left env) x)) (used env.context at o)) (sym (function_number_same env w x u)) (same_leads _)

-- ## Names as expressions

meant_leads : (env : Env) (w : More) (at : ℕ) (x : Name) (m : Meaning) → is_reserved x ≡ false → Leads (meant (left env) at x m) (meant (right env w) at x m)
meant_leads env w at x (a_static seen whole d) u = same_leads (meant (left env) at x (a_static seen whole d))
meant_leads env w at x (a_function t d) u =
    gives_leads (function_value_number (left env) at x) (function_value_number (right env w) at x) (typed_function t)
    (on_leads (demand (if is_among null_calls x then false else true) C12 at met) (demand (if is_among null_calls x then false else true) C12 at met) (λ _. used env.context at (function_number (left env) x)) (λ _. used env.context at (function_number (right env w) x)) (same_leads _) (λ _ _. used_leads env w at x u))
meant_leads env w at x (unknown f fs) u = tt
meant_leads env w at x m u = (refl, tt)

-- a rule on what a name means, that fails for one that isn't bound, leads where it leads for each meaning of an unreserved name
bound_alike : {A : Type 0} (F G : Option Binding → Checked A) (env : Env) (w : More) → ArePlain env.names → MeanAlike env.names w.names → (x : Name) → ((q : Option Binding) → Leads (F None) (G q)) → ((b : Binding) → is_reserved x ≡ false → Leads (F (Some b)) (G (Some b))) → Leads (F (lookup env.names x)) (G (lookup w.names x))
bound_alike F G env w p m x n k = by_binding (lookup env.names x) (lookup w.names x) (found_plain env.names x p) (m x)
  where
    by_binding : (o q : Option Binding) → ((b : Binding) → o ≡ Some b → is_reserved x ≡ false) → (is_reserved x ≡ false → q ≡ o) → Leads (F o) (G q)
    by_binding None q u e = n q
    by_binding (Some b) q u e = subst (λ z. Leads (F (Some b)) (G z)) (sym (e (u b refl))) (k b (u b refl))

pub named_leads : (env : Env) (w : More) → ArePlain env.names → MeanAlike env.names w.names → (at : ℕ) (x : Name) → Leads (named_expression (left env) at x) (named_expression (right env w) at x)
named_leads env w p m at x = bound_alike (bound (left env) at x) (bound (right env w) at x) env w p m x (λ _. tt) (λ b u. meant_leads env w at x b.means u)

-- ## Calls

pub site_leads : (env : Env) (w : More) (n at : ℕ) → Leads (site_of (left env) n at) (site_of (right env w) n at)
site_leads env w n at = by_context env.context n at
  where
    by_context : (c : Context) (n at : ℕ) → Leads (site_in c 10000 n at) (site_in c 30000 n at)
    by_context evaluated n at = demand_leads _ _ 13 at n (below_more n 10000 30000 (omega arith))
    by_context sized n at = tt
    by_context folded n at = (refl, tt)

pub value_at_leads : (env : Env) (w : More) (place : ℕ) (r s : Checked TypedExpression) → Leads r s → Leads (value_at (left env) place r) (value_at (right env w) place s)
value_at_leads env w place r s h = then_leads r s (valued (left env) place) h

callee_meant_leads : (env : Env) (w : More) (at place : ℕ) (x : Name) (r s : Checked TypedExpression) (m : Meaning) → is_reserved x ≡ false → Leads r s → Leads (callee_meant (left env) at place x r m) (callee_meant (right env w) at place x s m)
callee_meant_leads env w at place x r s (a_function t d) u h =
    then_leads (used env.context place (function_number (left env) x)) (used env.context place (function_number (right env w) x)) (callee_of_type place t) (used_leads env w place x u)
callee_meant_leads env w at place x r s m u h = then_leads r s (callee_by_value at) h

-- a name as the designator of a call
pub named_callee_leads : (env : Env) (w : More) → ArePlain env.names → MeanAlike env.names w.names → (at place : ℕ) (x : Name)
    → Leads (callee_bound (left env) at place x (value_at (left env) place (named_expression (left env) place x)) (lookup env.names x)) (callee_bound (right env w) at place x (value_at (right env w) place (named_expression (right env w) place x)) (lookup w.names x))
named_callee_leads env w p m at place x =
    bound_alike (λ o. callee_bound (left env) at place x (value_at (left env) place (bound (left env) place x o)) o) (λ o. callee_bound (right env w) at place x (value_at (right env w) place (bound (right env w) place x o)) o) env w p m x (λ _. tt)
    (λ b u. callee_meant_leads env w at place x (value_at (left env) place (meant (left env) place x b.means)) (value_at (right env w) place (meant (right env w) place x b.means)) b.means u (value_at_leads env w place (meant (left env) place x b.means) (meant (right env w) place x b.means) (meant_leads env w place x b.means u)))

-- ## Declared names

-- what may be declared in a plain unit is not reserved
pub unreserved : (x : Name) → may_be_declared Plain x ≡ true → is_reserved x ≡ false
unreserved x h = by_reserved (is_reserved x) h
  where
    by_reserved : (t : Bool) → (not t || false) ≡ true → t ≡ false
    by_reserved true e = cc
    by_reserved false e = refl

pub may_more : (x : Name) → may_be_declared Plain x ≡ true → may_be_declared Instrumented x ≡ true
may_more x h = rw (unreserved x h) refl

-- the demand on reserved names, and then others that agree where it is met
pub name_leads : (x : Name) (at : ℕ) (q r : Checked Met) → (is_reserved x ≡ false → Leads q r) → Leads (and_also (demand (may_be_declared Plain x) C12 at met) q) (and_also (demand (may_be_declared Instrumented x) C12 at met) r)
name_leads x at q r h =
    both_leads (demand (may_be_declared Plain x) C12 at met) (demand (may_be_declared Instrumented x) C12 at met) q r (λ _ _. fine met) (λ _ _. fine met)
    (demand_leads _ _ 12 at met (may_more x)) (λ a e. h (unreserved x (demand_met (may_be_declared Plain x) 12 at met a e))) (λ _ _. (refl, tt))

pub given_leads : (x : Ident) → is_reserved x.name ≡ false → Leads (demand (not (is_among (given_names Plain) x.name)) C11 x.at met) (demand (not (is_among (given_names Instrumented) x.name)) C11 x.at met)
given_leads x u = subst (λ o. Leads (demand (not (is_among (given_names Plain) x.name)) C11 x.at met) (demand (not (is_some o)) C11 x.at met)) (sym (given_same x.name u)) (same_leads _)

free_name_leads : (env : Env) (w : More) (x : Ident) → Leads (free_name (left env) x) (free_name (right env w) x)
free_name_leads env w x = name_leads x.name x.at _ _ (given_leads x)

pub free_name_plain : (env : Env) (x : Ident) (a : Met) → free_name (left env) x ≡ fine a → is_reserved x.name ≡ false
free_name_plain env x a e = let k = first_fine (demand (may_be_declared Plain x.name) C12 x.at met) (demand (not (is_among (given_names Plain) x.name)) C11 x.at met) (λ _ _. fine met) a e in unreserved x.name (demand_met _ 12 x.at met k.0 k.2)

-- a name that isn't reserved is declared here in both or in none
pub here_same : (env : Env) (w : More) → MeanAlike env.names w.names → (x : Name) → is_reserved x ≡ false → declared_here (right env w) x ≡ declared_here (left env) x
here_same env w m x u = ap (at_depth env.depth) (m x u)

pub new_name_leads : (env : Env) (w : More) → MeanAlike env.names w.names → (x : Ident) → Leads (new_name (left env) x) (new_name (right env w) x)
new_name_leads env w m x =
    both_leads (free_name (left env) x) (free_name (right env w) x) (demand (is_none (declared_here (left env) x.name)) C2 x.at met) (demand (is_none (declared_here (right env w) x.name)) C2 x.at met) (λ _ _. fine met) (λ _ _. fine met) (free_name_leads env w x)
    (λ a e. subst (λ o. Leads (demand (is_none (declared_here (left env) x.name)) C2 x.at met) (demand (is_none o) C2 x.at met)) (sym (here_same env w m x.name (free_name_plain env x a e))) (same_leads _)) (λ _ _. (refl, tt))

pub new_name_plain : (env : Env) (x : Ident) (a : Met) → new_name (left env) x ≡ fine a → is_reserved x.name ≡ false
new_name_plain env x a e = let k = first_fine (free_name (left env) x) (demand (is_none (declared_here env x.name)) C2 x.at met) (λ _ _. fine met) a e in free_name_plain env x k.0 k.2
