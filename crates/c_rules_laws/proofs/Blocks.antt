-- What declarations in blocks give without their places, the scopes behind them, and the strings that they hold.
use Rattle.std.proofs.Common.{◌≡◌, ℕ, ◌++◌, Option, Some, None, refl, sym, ap, ap₂, subst, ◌∙◌}
use Rattle.c_tree.specs.Tree as typed
use Rattle.c_syntax.specs.Tree.{Ident, Spec, Declarator, MaybeInit, Parts, no_parts, more_parts, Decl, decl, First, first_absent, first_expr, first_decl}
use Rattle.c_syntax.specs.Same.{unplaced_ident, unplaced_spec, unplaced_declarator, unplaced_maybe_init, unplaced_parts, unplaced_decl, unplaced_first}
use Rattle.c_rules.specs.Checked.{Checked, fine, faulty, on, Met, gives}
use Rattle.c_rules.specs.Codes.{C3}
use Rattle.c_rules.specs.Scopes.{Env, Meaning, a_local, with_name, meaning_or_unknown, Before}
use Rattle.c_rules.specs.TypedExpression.{tree_of}
use Rattle.c_rules.specs.Declarators.{name_of, place_or, new_name}
use Rattle.c_rules.specs.Expressions.{type_declared}
use Rattle.c_rules.specs.Initialisers.{held_by, calls_of_maybe_init}
use Rattle.c_rules.specs.Objects.{Object, object_declared}
use Rattle.c_rules.specs.Variables.{Next, number_in, calls_of_decl, calls_of_first}
use Rattle.c_rules.specs.Blocks.{within_local, behind_local, behind_named, behind_part, past_part, behind_parts, behind_decl, behind_first, held_by_object, held_by_named, held_by_part, held_by_parts, held_by_decl, held_by_first, after_part, after_decl, after_first, StatementTree, bare, one_more, alone, laid_variable, local_of, local, local_named, local_part, local_parts, local_decl, is_given}
use Rattle.c_rules.specs.Statements.{first_of}
use Rattle.c_rules_laws.proofs.Leads.{first_fine, on_fine, alone_fine}
use Rattle.c_rules_laws.proofs.Alike.{Alike, alike, on_alike, gives_alike, joined_alike, fault_alike, alone_alike}
use Rattle.c_rules_laws.proofs.Declared.{unplaced_name, name_same, new_alike, meaning_same}
use Rattle.c_rules_laws.proofs.Expressions.{value_alike, strings_same, past_same}
use Rattle.c_rules_laws.proofs.Initialisers.{maybe_init_calls_same, held_by_same, local_init_alike, declared_object_alike}
use Rattle.c_rules_laws.proofs.Counted.{past_name_same, decl_calls_same, first_calls_same}

-- ## Meanings

-- a name that is new has the same meaning within its initialiser and behind it
met_meaning : (env : Env) (x : Ident) (r s : Checked Object) (f : Object → Meaning) (o : Object) (m : Met) → Alike Object r s → r ≡ fine o → new_name env x ≡ fine m
    → meaning_or_unknown (on r (λ o. gives (new_name env x) (λ _. f o))) ≡ meaning_or_unknown (on s (λ o. gives (new_name env (unplaced_ident x)) (λ _. f o)))
met_meaning env x r s f o m h e d =
    meaning_same (on r (λ o. gives (new_name env x) (λ _. f o))) (on s (λ o. gives (new_name env (unplaced_ident x)) (λ _. f o))) (f o)
    (on_alike (λ o. gives (new_name env x) (λ _. f o)) (λ o. gives (new_name env (unplaced_ident x)) (λ _. f o)) h (λ o _. gives_alike (λ _. f o) (new_alike env x)))
    (λ i. on (e i) (λ o. gives (d i) (λ _. f o)))

within_same : (env : Env) (next : Next) (x : Ident) (r s : Checked Object) (o : Object) (m : Met) → Alike Object r s → r ≡ fine o → new_name env x ≡ fine m
    → within_local env next x r ≡ within_local env next (unplaced_ident x) s
within_same env next x r s o m h e d = ap (with_name env x.name) (met_meaning env x r s (λ o. a_local (number_in next x.name) o.seen o.whole) o m h e d)

behind_same : (env : Env) (next : Next) (x : Ident) (r s : Checked Object) (o : Object) (m : Met) → Alike Object r s → r ≡ fine o → new_name env x ≡ fine m
    → behind_local env next x r ≡ behind_local env next (unplaced_ident x) s
behind_same env next x r s o m h e d = ap (with_name env x.name) (met_meaning env x r s (λ o. a_local (number_in next x.name) o.whole o.whole) o m h e d)

-- ## One declarator

local_of_alike : (env : Env) (b c : Before) → c ≡ b → (next : Next) (x : Ident) (m : MaybeInit) (o : Object) → Alike (StatementTree typed.Stmt) (local_of env b next x m o) (local_of env c next (unplaced_ident x) (unplaced_maybe_init m) o)
local_of_alike env b c h next x m o = gives_alike (laid_variable x.name (number_in next x.name) o.whole) (local_init_alike env b c h o.whole m)

local_alike : (env : Env) (b c : Before) → c ≡ b → (next : Next) (x : Ident) (m : MaybeInit) (r s : Checked Object) → Alike Object r s → Alike (StatementTree typed.Stmt) (local env b next x m r) (local env c next (unplaced_ident x) (unplaced_maybe_init m) s)
local_alike env b c h next x m r s g =
    joined_alike (on r (local_of (within_local env next x r) b next x m)) (on s (local_of (within_local env next (unplaced_ident x) s) c next (unplaced_ident x) (unplaced_maybe_init m)))
    (λ _ p. p) (new_alike env x)
    (λ a e. on_alike (local_of (within_local env next x r) b next x m) (local_of (within_local env next (unplaced_ident x) s) c next (unplaced_ident x) (unplaced_maybe_init m)) g
    (λ o f. subst (λ i. Alike (StatementTree typed.Stmt) (local_of (within_local env next x r) b next x m o) (local_of i c next (unplaced_ident x) (unplaced_maybe_init m) o)) (within_same env next x r s o a g f e)
    (local_of_alike (within_local env next x r) b c h next x m o)))

named_alike : (env : Env) (b c : Before) → c ≡ b → (next : Next) (at to : ℕ) (s : Spec) (d : Declarator) (m : MaybeInit) (n : Option Ident) → Alike (StatementTree typed.Stmt) (local_named env b next at s d m n) (local_named env c next to (unplaced_spec s) (unplaced_declarator d) (unplaced_maybe_init m) (unplaced_name n))
named_alike env b c h next at to s d m None = fault_alike C3 (place_or at d) (place_or to (unplaced_declarator d))
named_alike env b c h next at to s d m (Some x) =
    alone_alike (is_given env x.name (type_declared env at s d)) (is_given env x.name (type_declared env to (unplaced_spec s) (unplaced_declarator d))) C3 (place_or at d) (place_or to (unplaced_declarator d))
    (local_alike env b c h next x m (object_declared env at s d x m) (object_declared env to (unplaced_spec s) (unplaced_declarator d) (unplaced_ident x) (unplaced_maybe_init m)) (declared_object_alike env at to s d x m))

part_alike : (env : Env) (b c : Before) → c ≡ b → (n k : Next) → k ≡ n → (at to : ℕ) (s : Spec) (d : Declarator) (m : MaybeInit) → Alike (StatementTree typed.Stmt) (local_part env b n at s d m) (local_part env c k to (unplaced_spec s) (unplaced_declarator d) (unplaced_maybe_init m))
part_alike env b c h n k g at to s d m =
    subst (λ y. Alike (StatementTree typed.Stmt) (local_part env b n at s d m) (local_part env c y to (unplaced_spec s) (unplaced_declarator d) (unplaced_maybe_init m))) (sym g)
    (subst (λ x. Alike (StatementTree typed.Stmt) (local_part env b n at s d m) (local_named env c n to (unplaced_spec s) (unplaced_declarator d) (unplaced_maybe_init m) x)) (sym (name_same d)) (named_alike env b c h n at to s d m (name_of d)))

behind_named_same : (env : Env) (b : Before) (n : Next) (at to : ℕ) (s : Spec) (d : Declarator) (m : MaybeInit) (x : Option Ident) (p : StatementTree typed.Stmt) → local_named env b n at s d m x ≡ fine p
    → behind_named env n at s d m x ≡ behind_named env n to (unplaced_spec s) (unplaced_declarator d) (unplaced_maybe_init m) (unplaced_name x)
behind_named_same env b n at to s d m None p e = refl
behind_named_same env b n at to s d m (Some x) p e =
    let r : Checked Object = object_declared env at s d x m in
    let f = first_fine (new_name env x) (on r (local_of (within_local env n x r) b n x m)) (λ _ p. fine p) p (alone_fine (is_given env x.name (type_declared env at s d)) C3 (place_or at d) (local env b n x m r) p e) in
    let g = on_fine r (local_of (within_local env n x r) b n x m) f.1 f.3 in
    behind_same env n x r (object_declared env to (unplaced_spec s) (unplaced_declarator d) (unplaced_ident x) (unplaced_maybe_init m)) g.0 f.0 (declared_object_alike env at to s d x m) g.1 f.2

behind_part_same : (env : Env) (b : Before) (n k : Next) → k ≡ n → (at to : ℕ) (s : Spec) (d : Declarator) (m : MaybeInit) (p : StatementTree typed.Stmt) → local_part env b n at s d m ≡ fine p
    → behind_part env n at s d m ≡ behind_part env k to (unplaced_spec s) (unplaced_declarator d) (unplaced_maybe_init m)
behind_part_same env b n k g at to s d m p e =
    subst (λ y. behind_part env n at s d m ≡ behind_part env y to (unplaced_spec s) (unplaced_declarator d) (unplaced_maybe_init m)) (sym g)
    (subst (λ x. behind_part env n at s d m ≡ behind_named env n to (unplaced_spec s) (unplaced_declarator d) (unplaced_maybe_init m) x) (sym (name_same d)) (behind_named_same env b n at to s d m (name_of d) p e))

-- ## Strings

pub held_by_object_same : (env : Env) (m : MaybeInit) (r s : Checked Object) → Alike Object r s → held_by_object env (unplaced_maybe_init m) s ≡ held_by_object env m r
held_by_object_same env m (fine o) s h = subst (λ y. held_by_object env (unplaced_maybe_init m) y ≡ held_by env o.whole m) (sym h.forth.0) (held_by_same env o.whole m)
held_by_object_same env m (faulty f fs) (faulty g gs) h = refl
held_by_object_same env m (faulty f fs) (fine o) h = let no : faulty f fs ≡ fine o = h.back.0 in cc

held_by_named_same : (env : Env) (at to : ℕ) (s : Spec) (d : Declarator) (m : MaybeInit) (x : Option Ident) → held_by_named env to (unplaced_spec s) (unplaced_declarator d) (unplaced_maybe_init m) (unplaced_name x) ≡ held_by_named env at s d m x
held_by_named_same env at to s d m None = refl
held_by_named_same env at to s d m (Some x) =
    held_by_object_same env m (object_declared env at s d x m) (object_declared env to (unplaced_spec s) (unplaced_declarator d) (unplaced_ident x) (unplaced_maybe_init m)) (declared_object_alike env at to s d x m)

held_by_part_same : (env : Env) (at to : ℕ) (s : Spec) (d : Declarator) (m : MaybeInit) → held_by_part env to (unplaced_spec s) (unplaced_declarator d) (unplaced_maybe_init m) ≡ held_by_part env at s d m
held_by_part_same env at to s d m =
    subst (λ x. held_by_named env to (unplaced_spec s) (unplaced_declarator d) (unplaced_maybe_init m) x ≡ held_by_part env at s d m) (sym (name_same d)) (held_by_named_same env at to s d m (name_of d))

after_part_same : (env : Env) (b c : Before) → c ≡ b → (at to : ℕ) (s : Spec) (d : Declarator) (m : MaybeInit) → after_part env c to (unplaced_spec s) (unplaced_declarator d) (unplaced_maybe_init m) ≡ after_part env b at s d m
after_part_same env b c h at to s d m =
    past_same b c (calls_of_maybe_init (unplaced_maybe_init m)) (calls_of_maybe_init m) (held_by_part env to (unplaced_spec s) (unplaced_declarator d) (unplaced_maybe_init m)) (held_by_part env at s d m) h (maybe_init_calls_same m) (held_by_part_same env at to s d m)

-- ## Declarators

parts_alike : (env : Env) (b c : Before) → c ≡ b → (n k : Next) → k ≡ n → (at to : ℕ) (s : Spec) (ps : Parts) → Alike (StatementTree typed.Stmts) (local_parts env b n at s ps) (local_parts env c k to (unplaced_spec s) (unplaced_parts ps))
parts_alike env b c h n k g at to s no_parts = alike (fine (bare typed.no_stmts))
parts_alike env b c h n k g at to s (more_parts d m ps) =
    let t : Spec = unplaced_spec s in let e : Declarator = unplaced_declarator d in let i : MaybeInit = unplaced_maybe_init m in
    let rest : Checked (StatementTree typed.Stmts) = local_parts (behind_part env n at s d m) (after_part env b at s d m) (past_part n d) at s ps in
    joined_alike rest (local_parts (behind_part env k to t e i) (after_part env c to t e i) (past_part k e) to t (unplaced_parts ps)) (λ p q. one_more p q)
    (part_alike env b c h n k g at to s d m)
    (λ p f. subst (λ y. Alike (StatementTree typed.Stmts) rest (local_parts y (after_part env c to t e i) (past_part k e) to t (unplaced_parts ps))) (behind_part_same env b n k g at to s d m p f)
    (parts_alike (behind_part env n at s d m) (after_part env b at s d m) (after_part env c to t e i) (after_part_same env b c h at to s d m) (past_part n d) (past_part k e) (past_name_same n k d g) at to s ps))

-- what stands behind declarators that are fine, and what they hold
behind_parts_same : (env : Env) (b : Before) (n k : Next) → k ≡ n → (at to : ℕ) (s : Spec) (ps : Parts) (p : StatementTree typed.Stmts) → local_parts env b n at s ps ≡ fine p
    → (behind_parts env n at s ps ≡ behind_parts env k to (unplaced_spec s) (unplaced_parts ps)) × (held_by_parts env k to (unplaced_spec s) (unplaced_parts ps) ≡ held_by_parts env n at s ps)
behind_parts_same env b n k g at to s no_parts p e = (refl, refl)
behind_parts_same env b n k g at to s (more_parts d m ps) p e =
    let rest : Checked (StatementTree typed.Stmts) = local_parts (behind_part env n at s d m) (after_part env b at s d m) (past_part n d) at s ps in
    let f = first_fine (local_part env b n at s d m) rest (λ p q. fine (one_more p q)) p e in
    let j : Next = past_part k (unplaced_declarator d) in
    let q = behind_part_same env b n k g at to s d m f.0 f.2 in
    let h = behind_parts_same (behind_part env n at s d m) (after_part env b at s d m) (past_part n d) j (past_name_same n k d g) at to s ps f.1 f.3 in (
      h.0 ∙ ap (λ y. behind_parts y j to (unplaced_spec s) (unplaced_parts ps)) q,
      ap₂ (λ v w. v ++ w) (held_by_part_same env at to s d m) (ap (λ y. held_by_parts y j to (unplaced_spec s) (unplaced_parts ps)) (sym q) ∙ h.1),
    )

-- ## Declarations

pub decl_alike : (env : Env) (b c : Before) → c ≡ b → (n k : Next) → k ≡ n → (d : Decl) → Alike (StatementTree typed.Stmts) (local_decl env b n d) (local_decl env c k (unplaced_decl d))
decl_alike env b c h n k g (decl at class s ps) = parts_alike env b c h n k g at 0 s ps

pub behind_decl_same : (env : Env) (b : Before) (n k : Next) → k ≡ n → (d : Decl) (p : StatementTree typed.Stmts) → local_decl env b n d ≡ fine p → behind_decl env n d ≡ behind_decl env k (unplaced_decl d)
behind_decl_same env b n k g (decl at class s ps) p e = (behind_parts_same env b n k g at 0 s ps p e).0

pub held_by_decl_same : (env : Env) (b : Before) (n k : Next) → k ≡ n → (d : Decl) (p : StatementTree typed.Stmts) → local_decl env b n d ≡ fine p → held_by_decl env k (unplaced_decl d) ≡ held_by_decl env n d
held_by_decl_same env b n k g (decl at class s ps) p e = (behind_parts_same env b n k g at 0 s ps p e).1

pub after_decl_same : (env : Env) (b c : Before) → c ≡ b → (n k : Next) → k ≡ n → (d : Decl) (p : StatementTree typed.Stmts) → local_decl env b n d ≡ fine p → after_decl env c k (unplaced_decl d) ≡ after_decl env b n d
after_decl_same env b c h n k g d p e =
    past_same b c (calls_of_decl (unplaced_decl d)) (calls_of_decl d) (held_by_decl env k (unplaced_decl d)) (held_by_decl env n d) h (decl_calls_same d) (held_by_decl_same env b n k g d p e)

-- ## What stands first in the head of a for

pub first_alike : (env : Env) (b c : Before) → c ≡ b → (n k : Next) → k ≡ n → (f : First) → Alike (StatementTree typed.Stmts) (first_of env b n f) (first_of env c k (unplaced_first f))
first_alike env b c h n k g first_absent = alike (fine (bare typed.no_stmts))
first_alike env b c h n k g (first_expr e) = gives_alike (λ g. alone (bare (typed.evaluate (tree_of g)))) (value_alike env b c h e)
first_alike env b c h n k g (first_decl d) = decl_alike env b c h n k g d

pub behind_first_same : (env : Env) (b : Before) (n k : Next) → k ≡ n → (f : First) (p : StatementTree typed.Stmts) → first_of env b n f ≡ fine p → behind_first env n f ≡ behind_first env k (unplaced_first f)
behind_first_same env b n k g (first_decl d) p e = behind_decl_same env b n k g d p e
behind_first_same env b n k g f p e = refl

pub held_by_first_same : (env : Env) (b : Before) (n k : Next) → k ≡ n → (f : First) (p : StatementTree typed.Stmts) → first_of env b n f ≡ fine p → held_by_first env k (unplaced_first f) ≡ held_by_first env n f
held_by_first_same env b n k g first_absent p e = refl
held_by_first_same env b n k g (first_expr x) p e = strings_same x
held_by_first_same env b n k g (first_decl d) p e = held_by_decl_same env b n k g d p e

pub after_first_same : (env : Env) (b c : Before) → c ≡ b → (n k : Next) → k ≡ n → (f : First) (p : StatementTree typed.Stmts) → first_of env b n f ≡ fine p → after_first env c k (unplaced_first f) ≡ after_first env b n f
after_first_same env b c h n k g f p e =
    past_same b c (calls_of_first (unplaced_first f)) (calls_of_first f) (held_by_first env k (unplaced_first f)) (held_by_first env n f) h (first_calls_same f) (held_by_first_same env b n k g f p e)
