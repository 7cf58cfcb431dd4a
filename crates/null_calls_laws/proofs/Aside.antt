-- In a plain unit that is fine no declaration is left aside: its tags are counted where they stand.
use Rattle.std.proofs.Common.{◌≡◌, ℕ, Bool, true, false, ◌&&◌, if◌then◌else◌, [], ◌++◌, Option, Some, None, refl, ap, ap₂, sym, subst, ◌∙◌}
use Rattle.dm_base.specs.declared.mode.Mode.TheVariants.{Plain}
use Rattle.c_tree.specs.declared.value.IntType.{IntType}
use Rattle.c_tree.specs.Tree.{CType, function}
use Rattle.c_syntax.specs.Tree.{Ident, Storage, Spec, Declarator, MaybeInit, no_parts, more_parts, Decl, decl, First, first_absent, first_expr, first_decl, Item, decl_item, function_item, Items, no_items, more_items}
use Rattle.c_syntax.specs.Tree.{Stmt, block, only_if, if_else, while_loop, do_loop, for_loop, switch_on}
use Rattle.c_syntax.specs.Tree.{BlockItems, no_block_items, block_decl, block_stmt, Stmts, no_stmts, more_stmts, Groups, no_groups, more_groups}
use Rattle.c_rules.specs.Checked.{Checked, fine, faulty, on, both, demand, and_also, Met, met, beside}
use Rattle.c_rules.specs.Names.{is_reserved, may_be_declared}
use Rattle.c_rules.specs.Scopes.{Env, inside, Before}
use Rattle.c_rules.specs.Counts.{after, after_maybe}
use Rattle.c_rules.specs.Declarators.{name_of, place_or, free_name, new_name}
use Rattle.c_rules.specs.Expressions.{type_declared, value}
use Rattle.c_rules.specs.Objects.{Object, object_declared}
use Rattle.c_rules.specs.Tags.{tags_of_spec, tags_of_expr, tags_of_maybe, tags_of_declarator, tags_of_parts, declares_added, are_added, tags_of_decl, tags_of_first, tags_of_labels, tags_of_stmt, tags_of_block, tags_of_stmts, tags_of_groups, tags_of_item, tags_of_items}
use Rattle.c_rules.specs.Variables.{Next, past_names, names_of_decl, names_of_first, names_of_stmt, names_of_stmts}
use Rattle.c_rules.specs.Blocks.{behind_decl, behind_first, after_decl, after_first, after_stmt, after_stmts, local_named, local_part, local_decl, is_given, local}
use Rattle.c_rules.specs.Statements.{Around, in_loop, in_switch, condition_at, test_of, step_of, first_of, switched, label_type, labels_of, switch_of, stmt, items_of_block, stmts, groups_of_switch}
use Rattle.c_rules.specs.Functions.{declares_function, parameters_of, are_named, body_env, body_of, body_numbers, function_laid, defined_as, function_meaning, function_declared, items_of_body, few_variables}
use Rattle.c_rules.specs.Items.{Output, defines, object_name, global_object, global_declared, global, without_init, declared_part, named_part, file_decl, behind_defined, function_named, item, behind_item, after_item, items}
use Rattle.c_rules_laws.proofs.Holding.{Holds, on_holds, both_hold, all_three_hold, Any, anything, demand_holds, alone_holds, parts_first_holds, after_part as behind_any}
use Rattle.c_rules_laws.proofs.SitesOfStatements.{decl_keeps, first_keeps, params_keep}
use Rattle.c_rules_laws.proofs.Names.{unreserved}
use Rattle.null_calls_laws.proofs.Scopes.{unadded}
use Rattle.null_calls_laws.specs.AbstractCasts.{DeclNamesNoType, FirstNamesNoType, StmtNamesNoType, BlockNamesNoType, StmtsNameNoType, GroupsNameNoType, ItemNamesNoType, UnitNamesNoType}
use Rattle.null_calls_laws.proofs.FunctionTags.{body_tags}
use Rattle.c_rules_laws.proofs.Callers.{form_whole}

abbrev pub IsPlain : Env → Type 0
IsPlain env = env.whole.mode ≡ Plain

pub always : {A : Type 0} (P : Type 0) (r : Checked A) → P → Holds (λ _. P) r
always P (fine a) h = h
always P (faulty f fs) h = tt

-- ## Names

may_plain : (env : Env) → IsPlain env → (x : Ident) → Holds (λ _. is_reserved x.name ≡ false) (demand (may_be_declared env.whole.mode x.name) 12 x.at met)
may_plain env e x = demand_holds (λ _. is_reserved x.name ≡ false) (may_be_declared env.whole.mode x.name) 12 x.at met (λ q. unreserved x.name (subst (λ m. may_be_declared m x.name ≡ true) e q))

first_met : (P : Type 0) (r s : Checked Met) → Holds (λ _. P) r → Holds (λ _. P) (and_also r s)
first_met P r s h = both_hold (λ _. P) Any (λ _. P) r s (λ _ _. fine met) h (anything s) (λ _ _ k _. k)

new_plain : (env : Env) → IsPlain env → (x : Ident) → Holds (λ _. is_reserved x.name ≡ false) (new_name env x)
new_plain env e x = first_met (is_reserved x.name ≡ false) (free_name env x) _ (first_met (is_reserved x.name ≡ false) (demand (may_be_declared env.whole.mode x.name) 12 x.at met) _ (may_plain env e x))

-- ## Declarations in blocks

named_aside : (env : Env) → IsPlain env → (b : Before) (next : Next) (at : ℕ) (s : Spec) (d : Declarator) (m : MaybeInit) (o : Option Ident) → Holds (λ _. declares_added o ≡ false) (local_named env b next at s d m o)
named_aside env e b next at s d m None = tt
named_aside env e b next at s d m (Some x) =
    alone_holds (λ _. declares_added (Some x) ≡ false) (is_given env x.name (type_declared env at s d)) 3 (place_or at d) (local env b next x m (object_declared env at s d x m))
    (both_hold (λ _. is_reserved x.name ≡ false) Any (λ _. declares_added (Some x) ≡ false) (new_name env x) _ (λ _ p. fine p) (new_plain env e x) (anything _) (λ _ _ h _. unadded x.name h))

decl_aside : (d : Decl) (env : Env) → IsPlain env → DeclNamesNoType d → (b : Before) (next : Next) → Holds (λ _. tags_of_decl true d ≡ tags_of_decl false d) (local_decl env b next d)
decl_aside (decl at class s no_parts) env e l b next = absurd l.0
decl_aside (decl at class s (more_parts d m ps)) env e l b next =
    both_hold (λ _. declares_added (name_of d) ≡ false) Any (λ _. tags_of_decl true (decl at class s (more_parts d m ps)) ≡ tags_of_decl false (decl at class s (more_parts d m ps))) (local_part env b next at s d m) _ _ (named_aside env e b next at s d m (name_of d)) (anything _)
    (λ _ _ h _. ap (λ t. if true && (t && are_added ps) then [] else tags_of_spec s ++ tags_of_parts (more_parts d m ps)) h)

first_aside : (f : First) (env : Env) → IsPlain env → FirstNamesNoType f → (b : Before) (next : Next) → Holds (λ _. tags_of_first true f ≡ tags_of_first false f) (first_of env b next f)
first_aside first_absent env e l b next = refl
first_aside (first_expr x) env e l b next = always (tags_of_expr x ≡ tags_of_expr x) (first_of env b next (first_expr x)) refl
first_aside (first_decl d) env e l b next = decl_aside d env e l b next

behind_plain : (d : Decl) (env : Env) (next : Next) → IsPlain env → IsPlain (behind_decl env next d)
behind_plain d env next e = decl_keeps (λ v. v.whole.mode) (λ _ _ _. refl) d env next ∙ e

first_plain : (f : First) (env : Env) (next : Next) → IsPlain env → IsPlain (behind_first env next f)
first_plain f env next e = first_keeps (λ v. v.whole.mode) (λ _ _ _. refl) f env next ∙ e

-- ## Statements

mutual
  stmt_aside : (s : Stmt) (env : Env) → IsPlain env → StmtNamesNoType s → (a : Around) (b : Before) (next : Next) → Holds (λ _. tags_of_stmt true s ≡ tags_of_stmt false s) (stmt env a b next s)
  stmt_aside (block at is) env e l a b next = on_holds (λ _. tags_of_block true is ≡ tags_of_block false is) (λ _. tags_of_block true is ≡ tags_of_block false is) (items_of_block (inside env) a b next is) _ (block_aside is (inside env) e l a b next) (λ _ h. h)
  stmt_aside (only_if at x s) env e l a b next =
      both_hold Any (λ _. tags_of_stmt true s ≡ tags_of_stmt false s) (λ _. tags_of_stmt true (only_if at x s) ≡ tags_of_stmt false (only_if at x s)) (condition_at at (value env b x)) (stmt env a (after b x) next s) _ (anything _) (stmt_aside s env e l.1 a (after b x) next) (λ _ _ _ h. ap (λ ts. tags_of_expr x ++ ts) h)
  stmt_aside (if_else at x s t) env e l a b next =
      all_three_hold Any (λ _. tags_of_stmt true s ≡ tags_of_stmt false s) (λ _. tags_of_stmt true t ≡ tags_of_stmt false t) (λ _. tags_of_stmt true (if_else at x s t) ≡ tags_of_stmt false (if_else at x s t))
      (condition_at at (value env b x)) (stmt env a (after b x) next s) (stmt env a (after_stmt env (after b x) next s) (past_names next (names_of_stmt s)) t) _
      (anything _) (stmt_aside s env e l.1 a (after b x) next) (stmt_aside t env e l.2 a (after_stmt env (after b x) next s) (past_names next (names_of_stmt s))) (λ _ _ _ _ h k. ap₂ (λ ts us. tags_of_expr x ++ (ts ++ us)) h k)
  stmt_aside (while_loop at x s) env e l a b next =
      both_hold Any (λ _. tags_of_stmt true s ≡ tags_of_stmt false s) (λ _. tags_of_stmt true (while_loop at x s) ≡ tags_of_stmt false (while_loop at x s)) (condition_at at (value env b x)) (stmt env (in_loop a) (after b x) next s) _ (anything _) (stmt_aside s env e l.1 (in_loop a) (after b x) next) (λ _ _ _ h. ap (λ ts. tags_of_expr x ++ ts) h)
  stmt_aside (do_loop at s x) env e l a b next =
      both_hold (λ _. tags_of_stmt true s ≡ tags_of_stmt false s) Any (λ _. tags_of_stmt true (do_loop at s x) ≡ tags_of_stmt false (do_loop at s x)) (stmt env (in_loop a) b next s) (condition_at at (value env (after_stmt env b next s) x)) _ (stmt_aside s env e l.0 (in_loop a) b next) (anything _) (λ _ _ h _. ap (λ ts. ts ++ tags_of_expr x) h)
  stmt_aside (for_loop at first test step s) env e l a b next =
      let outer : Env = inside env in
      let inner : Env = behind_first outer next first in
      let b1 : Before = after_first outer b next first in
      let b3 : Before = after_maybe (after_maybe b1 test) step in
      all_three_hold (λ _. tags_of_first true first ≡ tags_of_first false first) Any (λ _. tags_of_stmt true s ≡ tags_of_stmt false s) (λ _. tags_of_stmt true (for_loop at first test step s) ≡ tags_of_stmt false (for_loop at first test step s))
      (first_of outer b next first) (beside (test_of inner b1 at test) (step_of inner (after_maybe b1 test) step)) (stmt inner (in_loop a) b3 (past_names next (names_of_first first)) s) _
      (first_aside first outer e l.0 b next) (anything _) (stmt_aside s inner (first_plain first outer next e) l.3 (in_loop a) b3 (past_names next (names_of_first first))) (λ _ _ _ h _ k. ap₂ (λ ts us. ts ++ (tags_of_maybe test ++ (tags_of_maybe step ++ us))) h k)
  stmt_aside (switch_on at x gs) env e l a b next =
      both_hold Any (λ _. tags_of_groups true gs ≡ tags_of_groups false gs) (λ _. tags_of_stmt true (switch_on at x gs) ≡ tags_of_stmt false (switch_on at x gs)) (switched at (value env b x)) (groups_of_switch env (in_switch a) (after b x) next (label_type (switched at (value env b x))) gs) (switch_of at)
      (anything _) (groups_aside gs env e l.1 (in_switch a) (after b x) next (label_type (switched at (value env b x)))) (λ g m _ h. always (tags_of_stmt true (switch_on at x gs) ≡ tags_of_stmt false (switch_on at x gs)) (switch_of at g m) (ap (λ ts. tags_of_expr x ++ ts) h))
  stmt_aside s env e l a b next = always (tags_of_stmt true s ≡ tags_of_stmt false s) (stmt env a b next s) refl

  block_aside : (is : BlockItems) (env : Env) → IsPlain env → BlockNamesNoType is → (a : Around) (b : Before) (next : Next) → Holds (λ _. tags_of_block true is ≡ tags_of_block false is) (items_of_block env a b next is)
  block_aside no_block_items env e l a b next = refl
  block_aside (block_decl d is) env e l a b next =
      both_hold (λ _. tags_of_decl true d ≡ tags_of_decl false d) (λ _. tags_of_block true is ≡ tags_of_block false is) (λ _. tags_of_block true (block_decl d is) ≡ tags_of_block false (block_decl d is)) (local_decl env b next d) (items_of_block (behind_decl env next d) a (after_decl env b next d) (past_names next (names_of_decl d)) is) _
      (decl_aside d env e l.0 b next) (block_aside is (behind_decl env next d) (behind_plain d env next e) l.1 a (after_decl env b next d) (past_names next (names_of_decl d))) (λ _ _ h k. ap₂ (λ ts us. ts ++ us) h k)
  block_aside (block_stmt s is) env e l a b next =
      both_hold (λ _. tags_of_stmt true s ≡ tags_of_stmt false s) (λ _. tags_of_block true is ≡ tags_of_block false is) (λ _. tags_of_block true (block_stmt s is) ≡ tags_of_block false (block_stmt s is)) (stmt env a b next s) (items_of_block env a (after_stmt env b next s) (past_names next (names_of_stmt s)) is) _
      (stmt_aside s env e l.0 a b next) (block_aside is env e l.1 a (after_stmt env b next s) (past_names next (names_of_stmt s))) (λ _ _ h k. ap₂ (λ ts us. ts ++ us) h k)

  stmts_aside : (ss : Stmts) (env : Env) → IsPlain env → StmtsNameNoType ss → (a : Around) (b : Before) (next : Next) → Holds (λ _. tags_of_stmts true ss ≡ tags_of_stmts false ss) (stmts env a b next ss)
  stmts_aside no_stmts env e l a b next = refl
  stmts_aside (more_stmts s ss) env e l a b next =
      both_hold (λ _. tags_of_stmt true s ≡ tags_of_stmt false s) (λ _. tags_of_stmts true ss ≡ tags_of_stmts false ss) (λ _. tags_of_stmts true (more_stmts s ss) ≡ tags_of_stmts false (more_stmts s ss)) (stmt env a b next s) (stmts env a (after_stmt env b next s) (past_names next (names_of_stmt s)) ss) _
      (stmt_aside s env e l.0 a b next) (stmts_aside ss env e l.1 a (after_stmt env b next s) (past_names next (names_of_stmt s))) (λ _ _ h k. ap₂ (λ ts us. ts ++ us) h k)

  groups_aside : (gs : Groups) (env : Env) → IsPlain env → GroupsNameNoType gs → (a : Around) (b : Before) (next : Next) (i : IntType) → Holds (λ _. tags_of_groups true gs ≡ tags_of_groups false gs) (groups_of_switch env a b next i gs)
  groups_aside no_groups env e l a b next i = refl
  groups_aside (more_groups ls ss gs) env e l a b next i =
      all_three_hold Any (λ _. tags_of_stmts true ss ≡ tags_of_stmts false ss) (λ _. tags_of_groups true gs ≡ tags_of_groups false gs) (λ _. tags_of_groups true (more_groups ls ss gs) ≡ tags_of_groups false (more_groups ls ss gs))
      (labels_of env i ls) (stmts env a b next ss) (groups_of_switch env a (after_stmts env b next ss) (past_names next (names_of_stmts ss)) i gs) _
      (anything _) (stmts_aside ss env e l.0 a b next) (groups_aside gs env e l.1 a (after_stmts env b next ss) (past_names next (names_of_stmts ss)) i) (λ _ _ _ _ h k. ap₂ (λ ts us. tags_of_labels ls ++ (ts ++ us)) h k)

-- ## Items

pub function_plain : (env : Env) → IsPlain env → (k : Bool) (at : ℕ) (s : Spec) (d : Declarator) (x : Ident) → Holds (λ _. is_reserved x.name ≡ false) (function_declared env k at s d x)
function_plain env e k at s d x =
    behind_any (λ _. is_reserved x.name ≡ false) (type_declared env at s d) (function_meaning env k x)
    (λ t. on_holds (λ _. is_reserved x.name ≡ false) (λ _. is_reserved x.name ≡ false) (and_also (demand (may_be_declared env.whole.mode x.name) 12 x.at met) _) _ (first_met (is_reserved x.name ≡ false) (demand (may_be_declared env.whole.mode x.name) 12 x.at met) _ (may_plain env e x)) (λ _ h. h))

global_plain : (env : Env) → IsPlain env → (k : Bool) (b : Before) (at : ℕ) (s : Spec) (d : Declarator) (x : Ident) (m : MaybeInit) → Holds (λ _. is_reserved x.name ≡ false) (global_declared env k b at s d x m)
global_plain env e k b at s d x m =
    behind_any (λ _. is_reserved x.name ≡ false) (object_declared env at s d x m) (global_object env k b x)
    (λ o. on_holds (λ _. is_reserved x.name ≡ false) (λ _. is_reserved x.name ≡ false) (and_also (object_name env k x o.whole) _) (λ _. fine o)
    (first_met (is_reserved x.name ≡ false) (object_name env k x o.whole) _ (first_met (is_reserved x.name ≡ false) (demand (may_be_declared env.whole.mode x.name) 12 x.at met) _ (may_plain env e x))) (λ _ h. h))

part_aside : (env : Env) → IsPlain env → (b : Before) (at : ℕ) (class : Storage) (s : Spec) (d : Declarator) (m : MaybeInit) (o : Option Ident) → Holds (λ _. declares_added o ≡ false) (named_part env b at class s d m o)
part_aside env e b at class s d m None = tt
part_aside env e b at class s d m (Some x) = by_kind (declares_function d)
  where
    by_global : (k : Bool) (r : Checked Object) → Holds (λ _. is_reserved x.name ≡ false) r → Holds (λ _. declares_added (Some x) ≡ false) (global env k b x m r)
    by_global false r h = on_holds (λ _. is_reserved x.name ≡ false) (λ _. declares_added (Some x) ≡ false) r _ h (λ _ l. unadded x.name l)
    by_global true r h = on_holds (λ _. is_reserved x.name ≡ false) (λ _. declares_added (Some x) ≡ false) r _ h (λ o l. always (declares_added (Some x) ≡ false) _ (unadded x.name l))

    by_kind : (t : Bool) → Holds (λ _. declares_added (Some x) ≡ false) (declared_part env b at class s d m t x)
    by_kind true = both_hold (λ _. is_reserved x.name ≡ false) Any (λ _. declares_added (Some x) ≡ false) (function_declared env false at s d x) (without_init m) _ (function_plain env e false at s d x) (anything _) (λ _ _ h _. unadded x.name h)
    by_kind false = by_global (defines class m) (global_declared env (defines class m) b at s d x m) (global_plain env e (defines class m) b at s d x m)

file_decl_aside : (d : Decl) (env : Env) → IsPlain env → DeclNamesNoType d → (b : Before) → Holds (λ _. tags_of_decl true d ≡ tags_of_decl false d) (file_decl env b d)
file_decl_aside (decl at class s no_parts) env e l b = absurd l.0
file_decl_aside (decl at class s (more_parts d m ps)) env e l b =
    both_hold (λ _. declares_added (name_of d) ≡ false) Any (λ _. tags_of_decl true (decl at class s (more_parts d m ps)) ≡ tags_of_decl false (decl at class s (more_parts d m ps))) (named_part env b at class s d m (name_of d)) _ _ (part_aside env e b at class s d m (name_of d)) (anything _)
    (λ _ _ h _. ap (λ t. if true && (t && are_added ps) then [] else tags_of_spec s ++ tags_of_parts (more_parts d m ps)) h)

pub names_in_body : (body : Stmt) → StmtNamesNoType body → BlockNamesNoType (items_of_body body)
names_in_body (block at is) h = h
names_in_body body h = (h, tt)

defined_aside : (env : Env) → IsPlain env → (b : Before) (place : ℕ) (d : Declarator) (x : Ident) (is : BlockItems) → BlockNamesNoType is → (u : CType) → Holds (λ _. tags_of_block true is ≡ tags_of_block false is) (defined_as env b place d x is u)
defined_aside env e b place d x is l (function t ts) =
    behind_any (λ _. tags_of_block true is ≡ tags_of_block false is) (few_variables env x d is) _ (λ _.
    parts_first_holds (λ _. tags_of_block true is ≡ tags_of_block false is) (body_of env b t d ts is) (both (demand (are_named (parameters_of d)) 3 place met) (body_of env b t d ts is) (λ _ q. function_laid env x t ts q)) (both_hold Any (λ _. tags_of_block true is ≡ tags_of_block false is) (λ _. tags_of_block true is ≡ tags_of_block false is) (demand (are_named (parameters_of d)) 3 place met) (body_of env b t d ts is) (λ _ q. function_laid env x t ts q) (anything (demand (are_named (parameters_of d)) 3 place met))
    (block_aside is (body_env env d ts) (params_keep (λ v. v.whole.mode) (λ _ _ _. refl) (parameters_of d) ts (inside env) 0 ∙ e) l (record { breaks = false; continues = false; returns = t }) b (body_numbers d is))
    (λ _ q _ h. always (tags_of_block true is ≡ tags_of_block false is) (function_laid env x t ts q) h)))
defined_aside env e b place d x is l u = tt

function_aside : (env : Env) → IsPlain env → (b : Before) (at : ℕ) (s : Spec) (d : Declarator) (body : Stmt) → StmtNamesNoType body → (k : Bool) (o : Option Ident) → Holds (λ _. tags_of_stmt true body ≡ tags_of_stmt false body) (function_named env b at s d body k o)
function_aside env e b at s d body l true (Some x) =
    let is : BlockItems = items_of_body body in
    both_hold Any (λ _. tags_of_block true is ≡ tags_of_block false is) (λ _. tags_of_stmt true body ≡ tags_of_stmt false body) (function_declared env true at s d x) (on (type_declared env at s d) (defined_as (behind_defined env at s d x) b (place_or at d) d x is)) _ (anything _)
    (behind_any (λ _. tags_of_block true is ≡ tags_of_block false is) (type_declared env at s d) (defined_as (behind_defined env at s d x) b (place_or at d) d x is) (λ u. defined_aside (behind_defined env at s d x) e b (place_or at d) d x is (names_in_body body l) u))
    (λ _ _ _ h. sym (body_tags true body) ∙ (h ∙ body_tags false body))
function_aside env e b at s d body l k o = tt

item_aside : (i : Item) (env : Env) → IsPlain env → ItemNamesNoType i → (b : Before) → Holds (λ _. tags_of_item true i ≡ tags_of_item false i) (item env b i)
item_aside (decl_item at d) env e l b = file_decl_aside d env e l b
item_aside (function_item at class s d body) env e l b = holds_ap (item env b (function_item at class s d body)) (function_aside env e b at s d body l (declares_function d) (name_of d))
  where
    holds_ap : (r : Checked Output) → Holds (λ _. tags_of_stmt true body ≡ tags_of_stmt false body) r → Holds (λ _. tags_of_item true (function_item at class s d body) ≡ tags_of_item false (function_item at class s d body)) r
    holds_ap (fine a) h = ap (λ ts. tags_of_spec s ++ (tags_of_declarator d ++ ts)) h
    holds_ap (faulty f fs) h = tt
item_aside i env e l b = always (tags_of_item true i ≡ tags_of_item false i) (item env b i) refl

pub items_aside : (is : Items) (env : Env) → IsPlain env → UnitNamesNoType is → (b : Before) → Holds (λ _. tags_of_items true is ≡ tags_of_items false is) (items env b is)
items_aside no_items env e l b = refl
items_aside (more_items i is) env e l b =
    both_hold (λ _. tags_of_item true i ≡ tags_of_item false i) (λ _. tags_of_items true is ≡ tags_of_items false is) (λ _. tags_of_items true (more_items i is) ≡ tags_of_items false (more_items i is)) (item env b i) (items (behind_item env b i) (after_item env b i) is) _
    (item_aside i env e l.0 b) (items_aside is (behind_item env b i) (ap (λ w. w.mode) (form_whole i env b) ∙ e) l.1 (after_item env b i)) (λ _ _ h k. ap₂ (λ ts us. ts ++ us) h k)
