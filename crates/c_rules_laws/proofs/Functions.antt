-- What definitions of functions give without their places.
use Rattle.std.proofs.Common.{◌≡◌, ℕ, suc, ◌+◌, Bool, false, ◌&&◌, length, Option, Some, None, refl, sym, ap, ap₂, subst, ◌∙◌, nat_le}
use Rattle.c_tree.specs.Tree.{CType, pointer, array, function, CTypes, more_types, Function}
use Rattle.c_tree.specs.Tree as typed
use Rattle.c_tree.specs.Layout.{cells_of_all}
use Rattle.c_syntax.specs.Tree.{Ident, Spec, Declarator, Params, no_params, more_params, Stmt, block, BlockItems}
use Rattle.c_syntax.specs.Tree as syntax
use Rattle.c_syntax.specs.Same.{unplaced_ident, unplaced_spec, unplaced_declarator, unplaced_params, unplaced_stmt, unplaced_block_items}
use Rattle.c_rules.specs.Checked.{Checked, fine, demand, Met, met, parts_first}
use Rattle.c_rules.specs.Codes.{C2, C3, C11, C12, C13}
use Rattle.c_rules.specs.Limits.{most_local_cells}
use Rattle.c_rules.specs.Names.{Name, with_new, may_be_declared}
use Rattle.c_rules.specs.Scopes.{Env, Meaning, a_function, declared_here, with_name, inside, layout_of, Before}
use Rattle.c_rules.specs.Declarators.{name_of}
use Rattle.c_rules.specs.Variables.{first_numbers, past_names, names_of_block}
use Rattle.c_rules.specs.Blocks.{StatementTree, held_by_block}
use Rattle.c_rules.specs.Statements.{Around, items_of_block}
use Rattle.c_rules.specs.Functions.{declares_function, parameters_of, is_named, are_named, count_params, with_parameter, with_parameters, is_as_given, may_follow_function, is_defined_by, is_few, function_meaning, behind_function, function_declared, items_of_body, variables_of, function_laid, body_env, body_numbers, body_of, held_by_type, few_variables, defined_as}
use Rattle.c_rules_laws.proofs.Leads.{first_fine}
use Rattle.c_rules_laws.proofs.Alike.{Alike, on_alike, gives_alike, both_alike, demand_alike, and_alike, fault_alike, parts_first_alike}
use Rattle.c_rules_laws.proofs.Definitions.{laid_body, definition_fine}
use Rattle.c_rules_laws.proofs.Declared.{unplaced_name, name_same, meaning_same}
use Rattle.c_rules_laws.proofs.Expressions.{type_declared_alike}
use Rattle.c_rules_laws.proofs.Counted.{block_same}
use Rattle.c_rules_laws.proofs.Statements.{items_alike, held_by_block_same}

-- ## Declarators of functions

declarator_same : (d : Declarator) → (declares_function (unplaced_declarator d) ≡ declares_function d) × (parameters_of (unplaced_declarator d) ≡ unplaced_params (parameters_of d))
declarator_same (syntax.pointer at d) = declarator_same d
declarator_same (syntax.array at d size) = declarator_same d
declarator_same (syntax.function at (syntax.named here x) ps) = (refl, refl)
declarator_same (syntax.function at d ps) = declarator_same d
declarator_same d = (refl, refl)

pub declares_same : (d : Declarator) → declares_function (unplaced_declarator d) ≡ declares_function d
declares_same d = (declarator_same d).0

named_same : (n : Option Ident) → is_named (unplaced_name n) ≡ is_named n
named_same None = refl
named_same (Some x) = refl

params_same : (ps : Params) → (are_named (unplaced_params ps) ≡ are_named ps) × (count_params (unplaced_params ps) ≡ count_params ps)
params_same no_params = (refl, refl)
params_same (more_params at s d ps) = (let h = params_same ps in (ap₂ (λ a b. a && b) (ap is_named (name_same d) ∙ named_same (name_of d)) h.0, ap suc h.1))

parameter_same : (env : Env) (k : ℕ) (n : Option Ident) (t : CType) → with_parameter env k (unplaced_name n) t ≡ with_parameter env k n t
parameter_same env k None t = refl
parameter_same env k (Some x) t = refl

with_parameters_same : (env : Env) (k : ℕ) (ps : Params) (ts : CTypes) → with_parameters env k (unplaced_params ps) ts ≡ with_parameters env k ps ts
with_parameters_same env k (more_params at s d ps) (more_types t ts) =
    ap (λ y. with_parameters y (suc k) (unplaced_params ps) ts) (ap (λ n. with_parameter env k n t) (name_same d) ∙ parameter_same env k (name_of d) t)
    ∙ with_parameters_same (with_parameter env k (name_of d) t) (suc k) ps ts
with_parameters_same env k ps ts = refl

-- ## Bodies

pub body_items_same : (s : Stmt) → items_of_body (unplaced_stmt s) ≡ unplaced_block_items (items_of_body s)
body_items_same (block at is) = refl
body_items_same s = refl

body_env_same : (env : Env) (d : Declarator) (ts : CTypes) → body_env env (unplaced_declarator d) ts ≡ body_env env d ts
body_env_same env d ts = ap (λ ps. with_parameters (inside env) 0 ps ts) ((declarator_same d).1) ∙ with_parameters_same (inside env) 0 (parameters_of d) ts

numbers_from : (k : ℕ) (is : BlockItems) → first_numbers k (unplaced_block_items is) ≡ first_numbers k is
numbers_from k is = ap (λ xs. record { plain = k; added = (past_names (record { plain = k; added = 0 }) xs).plain }) ((block_same is).1)

body_numbers_same : (d : Declarator) (is : BlockItems) → body_numbers (unplaced_declarator d) (unplaced_block_items is) ≡ body_numbers d is
body_numbers_same d is =
    ap (λ k. first_numbers k (unplaced_block_items is)) (ap count_params ((declarator_same d).1) ∙ (params_same (parameters_of d)).1) ∙ numbers_from (count_params (parameters_of d)) is

abbrev in_body : CType → Around
in_body t = record { breaks = false; continues = false; returns = t }

body_alike : (env : Env) (b c : Before) → c ≡ b → (t : CType) (d : Declarator) (ts : CTypes) (is : BlockItems) → Alike (StatementTree typed.Stmts) (body_of env b t d ts is) (body_of env c t (unplaced_declarator d) ts (unplaced_block_items is))
body_alike env b c h t d ts is =
    subst (λ y. Alike (StatementTree typed.Stmts) (body_of env b t d ts is) (items_of_block y (in_body t) c (body_numbers (unplaced_declarator d) (unplaced_block_items is)) (unplaced_block_items is))) (sym (body_env_same env d ts))
    (items_alike (body_env env d ts) (in_body t) b c h (body_numbers d is) (body_numbers (unplaced_declarator d) (unplaced_block_items is)) (body_numbers_same d is) is)

laid_alike : (env : Env) (x : Ident) (t : CType) (ts : CTypes) (p : StatementTree typed.Stmts) → Alike Function (function_laid env x t ts p) (function_laid env (unplaced_ident x) t ts p)
laid_alike env x t ts p =
    demand_alike (nat_le (cells_of_all (layout_of env) (variables_of ts p)) (most_local_cells env.whole.mode)) C13 x.at 0
    (record { name = x.name; ctype = function t ts; variables = variables_of ts p; body = typed.block p.tree })

few_variables_alike : (env : Env) (d : Declarator) (x : Ident) (is : BlockItems) → Alike Met (few_variables env x d is) (few_variables env (unplaced_ident x) (unplaced_declarator d) (unplaced_block_items is))
few_variables_alike env d x is =
    subst (λ n. Alike Met (few_variables env x d is) (demand (nat_le n (most_local_cells env.whole.mode)) C13 0 met)) (sym (ap₂ (λ k xs. k + length xs) (ap count_params ((declarator_same d).1) ∙ (params_same (parameters_of d)).1) ((block_same is).1)))
    (demand_alike (nat_le (count_params (parameters_of d) + length (names_of_block is)) (most_local_cells env.whole.mode)) C13 x.at 0 met)

pub defined_alike : (env : Env) (b c : Before) → c ≡ b → (here yonder : ℕ) (d : Declarator) (x : Ident) (is : BlockItems) (t : CType) → Alike Function (defined_as env b here d x is t) (defined_as env c yonder (unplaced_declarator d) (unplaced_ident x) (unplaced_block_items is) t)
defined_alike env b c h here yonder d x is (function t ts) =
    on_alike (λ _. parts_first (body_of env b t d ts is) (laid_body env b here d x is t ts)) (λ _. parts_first (body_of env c t (unplaced_declarator d) ts (unplaced_block_items is)) (laid_body env c yonder (unplaced_declarator d) (unplaced_ident x) (unplaced_block_items is) t ts))
    (few_variables_alike env d x is)
    (λ _ _. parts_first_alike (body_of env b t d ts is) (body_of env c t (unplaced_declarator d) ts (unplaced_block_items is)) {r = laid_body env b here d x is t ts} {s = laid_body env c yonder (unplaced_declarator d) (unplaced_ident x) (unplaced_block_items is) t ts} (both_alike (body_of env b t d ts is) (body_of env c t (unplaced_declarator d) ts (unplaced_block_items is)) (λ _ p. function_laid env x t ts p) (λ _ p. function_laid env (unplaced_ident x) t ts p)
    (subst (λ w. Alike Met (demand (are_named (parameters_of d)) C3 here met) (demand w C3 yonder met)) (sym (ap are_named ((declarator_same d).1) ∙ (params_same (parameters_of d)).0)) (demand_alike (are_named (parameters_of d)) C3 here yonder met))
    (λ _ _. body_alike env b c h t d ts is) (λ _ p. laid_alike env x t ts p)))
defined_alike env b c h here yonder d x is t = fault_alike C3 here yonder

-- the strings in the body of a definition that is fine
pub held_same : (env : Env) (b : Before) (place : ℕ) (d : Declarator) (x : Ident) (is : BlockItems) (t : CType) (f : Function) → defined_as env b place d x is t ≡ fine f → held_by_type env (unplaced_declarator d) (unplaced_block_items is) t ≡ held_by_type env d is t
held_same env b place d x is (function t ts) f e =
    let g = first_fine (demand (are_named (parameters_of d)) C3 place met) (body_of env b t d ts is) (λ _ p. function_laid env x t ts p) f (definition_fine env b place d x is t ts f e) in
    ap (λ y. held_by_block y (body_numbers (unplaced_declarator d) (unplaced_block_items is)) (unplaced_block_items is)) (body_env_same env d ts)
    ∙ held_by_block_same (body_env env d ts) (in_body t) b (body_numbers d is) (body_numbers (unplaced_declarator d) (unplaced_block_items is)) (body_numbers_same d is) is g.1 g.3
held_same env b place d x is t f e = refl

-- ## Names of functions

function_meaning_alike : (env : Env) (defined : Bool) (x : Ident) (t : CType) → Alike Meaning (function_meaning env defined x t) (function_meaning env defined (unplaced_ident x) t)
function_meaning_alike env defined x t =
    gives_alike (λ _. a_function t (is_defined_by defined (declared_here env x.name)))
    (and_alike (demand_alike (may_be_declared env.whole.mode x.name) C12 x.at 0 met)
    (and_alike (demand_alike (is_as_given env defined x.name t) C11 x.at 0 met)
    (and_alike (demand_alike (may_follow_function defined t (declared_here env x.name)) C2 x.at 0 met) (demand_alike (is_few env x.name) C13 x.at 0 met))))

pub function_declared_alike : (env : Env) (defined : Bool) (at to : ℕ) (s : Spec) (d : Declarator) (x : Ident) → Alike Meaning (function_declared env defined at s d x) (function_declared env defined to (unplaced_spec s) (unplaced_declarator d) (unplaced_ident x))
function_declared_alike env defined at to s d x =
    on_alike (function_meaning env defined x) (function_meaning env defined (unplaced_ident x)) (type_declared_alike env at to s d) (λ t _. function_meaning_alike env defined x t)

pub behind_function_same : (env : Env) (x : Name) (r s : Checked Meaning) (m : Meaning) → Alike Meaning r s → r ≡ fine m → behind_function env x r ≡ behind_function env x s
behind_function_same env x r s m h e = ap (with_name (record env { functions = with_new env.functions x }) x) (meaning_same r s m h e)
