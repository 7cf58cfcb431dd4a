-- A program that is typed in a plain unit calls no null call.
use Rattle.std.proofs.Common.{◌≡◌, ℕ, suc, ◌+◌, ◌<◌, Bool, true, false, if◌then◌else◌, List, [], ◌∷◌, ◌++◌, length, Option, Some, None, nat_le, length-append, refl, ap, sym, subst, ◌∙◌, arith}
use Rattle.std.specs.Prelude.{option_map, bytes_eq}
use Rattle.c_tree.specs.Mode.TheVariants.{Plain}
use Rattle.c_tree.specs.Table.{table}
use Rattle.c_tree.specs.declared.value.IntType.{IntType}
use Rattle.c_tree.specs.Tree.{CType, void, integer, pointer, array, struct, function, CTypes, Function, Program}
use Rattle.c_tree.specs.Tree as typed
use Rattle.c_syntax.specs.Tree.{Ident, Storage, Spec, Declarator, Params, more_params, MaybeInit, Parts, no_parts, more_parts, Decl, decl, Expr, Maybe, absent, there, First, first_absent, first_expr, first_decl}
use Rattle.c_syntax.specs.Tree.{Stmt, block, empty, evaluate, only_if, if_else, while_loop, do_loop, for_loop, switch_on, break_off, continue_on, return_from}
use Rattle.c_syntax.specs.Tree.{BlockItems, no_block_items, block_decl, block_stmt, Stmts, no_stmts, more_stmts, Groups, no_groups, more_groups}
use Rattle.c_syntax.specs.Tree.{no_tag, tag, Enumerators, no_enumerators, more_enumerators, Item, struct_item, enum_item, tag_item, decl_item, function_item, Items, no_items, more_items}
use Rattle.c_rules.specs.Checked.{Checked, fine, on, both, beside, Two, demand, met}
use Rattle.c_rules.specs.Codes.{C3, C9}
use Rattle.c_rules.specs.Names.{Name, number_among, is_added, system_calls}
use Rattle.c_rules.specs.Scopes.{Env, inside, Before, nothing_before, layout_of}
use Rattle.c_rules.specs.Counts.{after, after_maybe}
use Rattle.c_rules.specs.TypedExpression.{TypedExpression, tree_of}
use Rattle.c_rules.specs.Conversions.{Kind, an_integer, kind_of, as_if_assigned, condition}
use Rattle.c_tree.specs.Operands.{promoted}
use Rattle.c_rules.specs.Declarators.{name_of, place_or, new_name}
use Rattle.c_rules.specs.Expressions.{value, type_declared}
use Rattle.c_rules.specs.Initialisers.{initialised_local, stores_from}
use Rattle.c_rules.specs.Objects.{Object, object_declared}
use Rattle.c_rules.specs.PrimaryExpressions.{given_number, number_or}
use Rattle.c_rules.specs.Variables.{Next, number_in, past_names, names_of_decl, names_of_first, names_of_stmt, names_of_stmts}
use Rattle.c_rules.specs.Blocks.{within_local, behind_named, behind_part, past_part, behind_parts, behind_decl, behind_first, after_part, after_decl, after_first, after_stmt, after_stmts, StatementTree, bare, with_tree, joined, one_more, alone, appended, some_more, laid_variable, local_of, local, local_named, local_part, local_parts, local_decl, is_given}
use Rattle.c_rules.specs.Statements.{Around, in_loop, in_switch, condition_at, test_of, step_of, first_of, for_of, switched_kind, switched, label_type, labels_of, Labelled, labelled, switch_of, returned, stmt, items_of_block, stmts, groups_of_switch}
use Rattle.c_rules.specs.Functions.{with_parameter, with_parameters, body_env, body_numbers, body_of, parameters_of, are_named, function_laid, function_declared, items_of_body, declares_function, few_variables, defined_as, variables_of}
use Rattle.c_rules.specs.Items.{Output, no_output, with_output, struct_definition, one_more_than, enumerator_value, behind_enumerator, behind_enumerators, new_enum, enumerators, tag_declaration, defines, global_declared, global, definition_of, within_global, static_of, declared_part, named_part, behind_declared, behind_named_part, behind_file_part, after_file_part, file_parts, behind_file_parts, output_of_function, behind_defined, function_named, behind_function_named, item, behind_by_form, behind_item, after_item, items}
use Rattle.c_rules.specs.Units.{functions_of, functions_of_item, env_before, has_main, program_of, IsTyped}
use Rattle.c_rules.specs.NullCalls.{CallsBelow, MaybeBelow, InitsBelow, StmtBelow, StmtsBelow, GroupsBelow, FunctionsBelow, CallsNoNullCall}
use Rattle.c_rules.proofs.Modes.{on_fine, demand_met}
use Rattle.c_rules.proofs.CheckedLemmas.{items_fine}
use Rattle.c_rules.proofs.Below.{Holds, either_has, held, on_holds, both_hold, all_three_hold, Any, anything, demand_holds, after_demands, TypedExpressionBelow, TypedExpressionsBelow, tree_below, as_if_below, condition_below, converted_below, alone_holds, parts_first_holds}
use Rattle.c_rules.proofs.BelowExpressions.{Within, value_holds, local_init_holds}
use Rattle.c_tree.specs.Layout.{cells_of_all}
use Rattle.c_rules.specs.Limits.{most_local_cells}

module _ (n : ℕ) where
  -- ## Functions that may be named behind declarations

  named_within : (e : Env) → Within n e → (next : Next) (at : ℕ) (s : Spec) (d : Declarator) (m : MaybeInit) (x : Option Ident) → Within n (behind_named e next at s d m x)
  named_within e w next at s d m None = w
  named_within e w next at s d m (Some x) = w

  parts_within : (e : Env) → Within n e → (next : Next) (at : ℕ) (s : Spec) (ps : Parts) → Within n (behind_parts e next at s ps)
  parts_within e w next at s no_parts = w
  parts_within e w next at s (more_parts d m ps) = parts_within (behind_part e next at s d m) (named_within e w next at s d m (name_of d)) (past_part next d) at s ps

  decl_within : (e : Env) → Within n e → (next : Next) (d : Decl) → Within n (behind_decl e next d)
  decl_within e w next (decl at class s ps) = parts_within e w next at s ps

  first_within : (e : Env) → Within n e → (next : Next) (x : First) → Within n (behind_first e next x)
  first_within e w next (first_decl d) = decl_within e w next d
  first_within e w next x = w

  -- ## Declarations

  abbrev OneBelow : StatementTree typed.Stmt → Type 0
  OneBelow p = StmtBelow n p.tree

  abbrev ManyBelow : StatementTree typed.Stmts → Type 0
  ManyBelow p = StmtsBelow n p.tree

  stores_below : (k : ℕ) (gs : List TypedExpression) → TypedExpressionsBelow n gs → InitsBelow n (stores_from k gs)
  stores_below k [] h = tt
  stores_below k (g ∷ gs) h = (tree_below n g h.0, stores_below (suc k) gs h.1)

  variable_below : (x : Name) (k : ℕ) (t : CType) (gs : List TypedExpression) → TypedExpressionsBelow n gs → OneBelow (laid_variable x k t gs)
  variable_below x k t gs h =
      either_has OneBelow (is_added x) (record { tree = typed.declare k (stores_from 0 gs); plain = []; added = t ∷ [] }) (record { tree = typed.declare k (stores_from 0 gs); plain = t ∷ []; added = [] }) (stores_below 0 gs h) (stores_below 0 gs h)

  local_holds : (e : Env) → Within n e → (b : Before) (next : Next) (x : Ident) (m : MaybeInit) (r : Checked Object) → Holds OneBelow (local e b next x m r)
  local_holds e w b next x m r =
      both_hold Any OneBelow OneBelow (new_name e x) (on r (local_of (within_local e next x r) b next x m)) (λ _ p. fine p) (anything (new_name e x))
      (after_demands OneBelow r (local_of (within_local e next x r) b next x m) (λ o. on_holds (TypedExpressionsBelow n) OneBelow (initialised_local (within_local e next x r) b o.whole m) (λ gs. fine (laid_variable x.name (number_in next x.name) o.whole gs)) (local_init_holds n (within_local e next x r) w b o.whole m) (λ gs h. variable_below x.name (number_in next x.name) o.whole gs h))) (λ _ p _ h. h)

  part_holds : (e : Env) → Within n e → (b : Before) (next : Next) (at : ℕ) (s : Spec) (d : Declarator) (m : MaybeInit) (x : Option Ident) → Holds OneBelow (local_named e b next at s d m x)
  part_holds e w b next at s d m None = tt
  part_holds e w b next at s d m (Some x) = alone_holds OneBelow (is_given e x.name (type_declared e at s d)) C3 (place_or at d) (local e b next x m (object_declared e at s d x m)) (local_holds e w b next x m (object_declared e at s d x m))

  parts_hold : (e : Env) → Within n e → (b : Before) (next : Next) (at : ℕ) (s : Spec) (ps : Parts) → Holds ManyBelow (local_parts e b next at s ps)
  parts_hold e w b next at s no_parts = tt
  parts_hold e w b next at s (more_parts d m ps) =
      both_hold OneBelow ManyBelow ManyBelow (local_part e b next at s d m) (local_parts (behind_part e next at s d m) (after_part e b at s d m) (past_part next d) at s ps) (λ p q. fine (one_more p q)) (part_holds e w b next at s d m (name_of d))
      (parts_hold (behind_part e next at s d m) (named_within e w next at s d m (name_of d)) (after_part e b at s d m) (past_part next d) at s ps) (λ p q h k. (h, k))

  decl_holds : (e : Env) → Within n e → (b : Before) (next : Next) (d : Decl) → Holds ManyBelow (local_decl e b next d)
  decl_holds e w b next (decl at class s ps) = parts_hold e w b next at s ps

  -- ## Statements

  condition_holds : (e : Env) → Within n e → (b : Before) (at : ℕ) (x : Expr) → Holds (CallsBelow n) (condition_at at (value e b x))
  condition_holds e w b at x = on_holds (TypedExpressionBelow n) (CallsBelow n) (value e b x) (condition at) (value_holds n e w b x) (λ g h. condition_below n at g h)

  test_holds : (e : Env) → Within n e → (b : Before) (at : ℕ) (m : Maybe) → Holds (MaybeBelow n) (test_of e b at m)
  test_holds e w b at absent = tt
  test_holds e w b at (there x) = on_holds (CallsBelow n) (MaybeBelow n) (condition_at at (value e b x)) (λ y. fine (typed.there y)) (condition_holds e w b at x) (λ y h. h)

  step_holds : (e : Env) → Within n e → (b : Before) (m : Maybe) → Holds (MaybeBelow n) (step_of e b m)
  step_holds e w b absent = tt
  step_holds e w b (there x) = on_holds (TypedExpressionBelow n) (MaybeBelow n) (value e b x) (λ g. fine (typed.there (tree_of g))) (value_holds n e w b x) (λ g h. tree_below n g h)

  first_holds : (e : Env) → Within n e → (b : Before) (next : Next) (x : First) → Holds ManyBelow (first_of e b next x)
  first_holds e w b next first_absent = tt
  first_holds e w b next (first_expr x) = on_holds (TypedExpressionBelow n) ManyBelow (value e b x) (λ g. fine (alone (bare (typed.evaluate (tree_of g))))) (value_holds n e w b x) (λ g h. (tree_below n g h, tt))
  first_holds e w b next (first_decl d) = decl_holds e w b next d

  returned_holds : (e : Env) → Within n e → (b : Before) (at : ℕ) (t : CType) (m : Maybe) → Holds (StmtBelow n) (returned e b at t m)
  returned_holds e w b at t absent = demand_holds (StmtBelow n) _ 3 at typed.return_void tt
  returned_holds e w b at t (there x) =
      on_holds (TypedExpressionBelow n) (StmtBelow n) (on (value e b x) (as_if_assigned at t)) (λ g. fine (typed.return_value (tree_of g))) (on_holds (TypedExpressionBelow n) (TypedExpressionBelow n) (value e b x) (as_if_assigned at t) (value_holds n e w b x) (λ g h. as_if_below n at t g h)) (λ g h. tree_below n g h)

  switched_below : (at : ℕ) (g : TypedExpression) (k : Kind) → TypedExpressionBelow n g → Holds (TypedExpressionBelow n) (switched_kind at g k)
  switched_below at g (an_integer i) h = converted_below n (promoted i) g h
  switched_below at g k h = tt

  appended_below : (ss us : typed.Stmts) → StmtsBelow n ss → StmtsBelow n us → StmtsBelow n (appended ss us)
  appended_below typed.no_stmts us h k = k
  appended_below (typed.more_stmts s ss) us h k = (h.0, appended_below ss us h.1 k)

  abbrev LabelledBelow : Labelled → Type 0
  LabelledBelow l = GroupsBelow n l.groups.tree

  abbrev TestsBelow : Two typed.Maybe typed.Maybe → Type 0
  TestsBelow t = MaybeBelow n t.first × MaybeBelow n t.second

  mutual
    stmt_holds : (e : Env) → Within n e → (a : Around) (b : Before) (next : Next) (s : Stmt) → Holds OneBelow (stmt e a b next s)
    stmt_holds e w a b next (block at is) = on_holds ManyBelow OneBelow (items_of_block (inside e) a b next is) (λ p. fine (with_tree p (typed.block p.tree))) (block_holds (inside e) w a b next is) (λ p h. h)
    stmt_holds e w a b next (empty at) = tt
    stmt_holds e w a b next (evaluate at x) = on_holds (TypedExpressionBelow n) OneBelow (value e b x) (λ g. fine (bare (typed.evaluate (tree_of g)))) (value_holds n e w b x) (λ g h. tree_below n g h)
    stmt_holds e w a b next (only_if at x s) =
        both_hold (CallsBelow n) OneBelow OneBelow (condition_at at (value e b x)) (stmt e a (after b x) next s) (λ c p. fine (with_tree p (typed.if_else c p.tree typed.empty))) (condition_holds e w b at x) (stmt_holds e w a (after b x) next s) (λ c p h k. (h, k, tt))
    stmt_holds e w a b next (if_else at x s t) =
        all_three_hold (CallsBelow n) OneBelow OneBelow OneBelow (condition_at at (value e b x)) (stmt e a (after b x) next s) (stmt e a (after_stmt e (after b x) next s) (past_names next (names_of_stmt s)) t) (λ c p q. fine (joined p q (typed.if_else c p.tree q.tree))) (condition_holds e w b at x) (stmt_holds e w a (after b x) next s) (stmt_holds e w a (after_stmt e (after b x) next s) (past_names next (names_of_stmt s)) t) (λ c p q h k l. (h, k, l))
    stmt_holds e w a b next (while_loop at x s) =
        both_hold (CallsBelow n) OneBelow OneBelow (condition_at at (value e b x)) (stmt e (in_loop a) (after b x) next s) (λ c p. fine (with_tree p (typed.while_loop c p.tree))) (condition_holds e w b at x) (stmt_holds e w (in_loop a) (after b x) next s) (λ c p h k. (h, k))
    stmt_holds e w a b next (do_loop at s x) =
        both_hold OneBelow (CallsBelow n) OneBelow (stmt e (in_loop a) b next s) (condition_at at (value e (after_stmt e b next s) x)) (λ p c. fine (with_tree p (typed.do_loop p.tree c))) (stmt_holds e w (in_loop a) b next s) (condition_holds e w (after_stmt e b next s) at x) (λ p c h k. (h, k))
    stmt_holds e w a b next (for_loop at first test step s) =
        let inner : Env = behind_first (inside e) next first in
        let b1 : Before = after_first (inside e) b next first in
        let b2 : Before = after_maybe b1 test in
        let b3 : Before = after_maybe b2 step in
        let v : Within n inner = first_within (inside e) w next first in
        all_three_hold ManyBelow TestsBelow OneBelow OneBelow (first_of (inside e) b next first) (beside (test_of inner b1 at test) (step_of inner b2 step)) (stmt inner (in_loop a) b3 (past_names next (names_of_first first)) s) (λ p tests q. fine (for_of p tests q))
        (first_holds (inside e) w b next first) (both_hold (MaybeBelow n) (MaybeBelow n) TestsBelow (test_of inner b1 at test) (step_of inner b2 step) (λ t u. fine (record { first = t; second = u })) (test_holds inner v b1 at test) (step_holds inner v b2 step) (λ t u h k. (h, k))) (stmt_holds inner v (in_loop a) b3 (past_names next (names_of_first first)) s) (λ p t q h k l. (h, k.0, k.1, l))
    stmt_holds e w a b next (switch_on at x gs) =
        let r : Checked TypedExpression = switched at (value e b x) in
        both_hold (TypedExpressionBelow n) LabelledBelow OneBelow r (groups_of_switch e (in_switch a) (after b x) next (label_type r) gs) (switch_of at)
        (on_holds (TypedExpressionBelow n) (TypedExpressionBelow n) (value e b x) (λ g. switched_kind at g (kind_of g.ctype)) (value_holds n e w b x) (λ g h. switched_below at g (kind_of g.ctype) h)) (groups_hold e w (in_switch a) (after b x) next (label_type r) gs) (λ g l h k. demand_holds OneBelow _ 7 at (with_tree l.groups (typed.switch_on (tree_of g) l.groups.tree)) (tree_below n g h, k))
    stmt_holds e w a b next (break_off at) = demand_holds OneBelow a.breaks 8 at (bare typed.break_off) tt
    stmt_holds e w a b next (continue_on at) = demand_holds OneBelow a.continues 8 at (bare typed.continue_on) tt
    stmt_holds e w a b next (return_from at m) = on_holds (StmtBelow n) OneBelow (returned e b at a.returns m) (λ s. fine (bare s)) (returned_holds e w b at a.returns m) (λ s h. h)

    block_holds : (e : Env) → Within n e → (a : Around) (b : Before) (next : Next) (is : BlockItems) → Holds ManyBelow (items_of_block e a b next is)
    block_holds e w a b next no_block_items = tt
    block_holds e w a b next (block_decl d is) =
        both_hold ManyBelow ManyBelow ManyBelow (local_decl e b next d) (items_of_block (behind_decl e next d) a (after_decl e b next d) (past_names next (names_of_decl d)) is) (λ p q. fine (some_more p q)) (decl_holds e w b next d) (block_holds (behind_decl e next d) (decl_within e w next d) a (after_decl e b next d) (past_names next (names_of_decl d)) is) (λ p q h k. appended_below p.tree q.tree h k)
    block_holds e w a b next (block_stmt s is) =
        both_hold OneBelow ManyBelow ManyBelow (stmt e a b next s) (items_of_block e a (after_stmt e b next s) (past_names next (names_of_stmt s)) is) (λ p q. fine (one_more p q)) (stmt_holds e w a b next s) (block_holds e w a (after_stmt e b next s) (past_names next (names_of_stmt s)) is) (λ p q h k. (h, k))

    stmts_hold : (e : Env) → Within n e → (a : Around) (b : Before) (next : Next) (ss : Stmts) → Holds ManyBelow (stmts e a b next ss)
    stmts_hold e w a b next no_stmts = tt
    stmts_hold e w a b next (more_stmts s ss) =
        both_hold OneBelow ManyBelow ManyBelow (stmt e a b next s) (stmts e a (after_stmt e b next s) (past_names next (names_of_stmt s)) ss) (λ p q. fine (one_more p q)) (stmt_holds e w a b next s) (stmts_hold e w a (after_stmt e b next s) (past_names next (names_of_stmt s)) ss) (λ p q h k. (h, k))

    groups_hold : (e : Env) → Within n e → (a : Around) (b : Before) (next : Next) (i : IntType) (gs : Groups) → Holds LabelledBelow (groups_of_switch e a b next i gs)
    groups_hold e w a b next i no_groups = tt
    groups_hold e w a b next i (more_groups ls ss gs) =
        all_three_hold Any ManyBelow LabelledBelow LabelledBelow (labels_of e i ls) (stmts e a b next ss) (groups_of_switch e a (after_stmts e b next ss) (past_names next (names_of_stmts ss)) i gs) (λ vs p rest. fine (labelled vs p rest)) (anything (labels_of e i ls)) (stmts_hold e w a b next ss) (groups_hold e w a (after_stmts e b next ss) (past_names next (names_of_stmts ss)) i gs) (λ vs p rest _ h k. (h, k))

  -- ## Functions and items

  parameter_within : (e : Env) → Within n e → (k : ℕ) (x : Option Ident) (t : CType) → Within n (with_parameter e k x t)
  parameter_within e w k None t = w
  parameter_within e w k (Some x) t = w

  parameters_within : (e : Env) → Within n e → (k : ℕ) (ps : Params) (ts : CTypes) → Within n (with_parameters e k ps ts)
  parameters_within e w k (more_params at s d ps) (typed.more_types t ts) = parameters_within (with_parameter e k (name_of d) t) (parameter_within e w k (name_of d) t) (suc k) ps ts
  parameters_within e w k ps ts = w

  abbrev FunctionBelow : Function → Type 0
  FunctionBelow f = StmtBelow n f.body

  body_holds : (e : Env) → Within n e → (b : Before) (t : CType) (d : Declarator) (ts : CTypes) (is : BlockItems) → Holds ManyBelow (body_of e b t d ts is)
  body_holds e w b t d ts is = block_holds (body_env e d ts) (parameters_within (inside e) w 0 (parameters_of d) ts) (record { breaks = false; continues = false; returns = t }) b (body_numbers d is) is

  defined_holds : (e : Env) → Within n e → (b : Before) (place : ℕ) (d : Declarator) (x : Ident) (is : BlockItems) (u : CType) → Holds FunctionBelow (defined_as e b place d x is u)
  defined_holds e w b place d x is (function t ts) =
      after_demands FunctionBelow (few_variables e x d is) _ (λ _.
      parts_first_holds FunctionBelow (body_of e b t d ts is) (both (demand (are_named (parameters_of d)) C3 place met) (body_of e b t d ts is) (λ _ p. function_laid e x t ts p)) (both_hold Any ManyBelow FunctionBelow (demand (are_named (parameters_of d)) C3 place met) (body_of e b t d ts is) (λ _ p. function_laid e x t ts p) (anything (demand (are_named (parameters_of d)) C3 place met)) (body_holds e w b t d ts is) (λ _ p _ h. demand_holds FunctionBelow (nat_le (cells_of_all (layout_of e) (variables_of ts p)) (most_local_cells e.whole.mode)) 13 x.at (record { name = x.name; ctype = function t ts; variables = variables_of ts p; body = typed.block p.tree }) h)))
  defined_holds e w b place d x is u = tt

  -- so many functions, which call functions below n
  abbrev Gives : ℕ → Output → Type 0
  Gives k p = FunctionsBelow n p.functions × (length p.functions ≡ k)

  both_functions : (fs gs : List Function) → FunctionsBelow n fs → FunctionsBelow n gs → FunctionsBelow n (fs ++ gs)
  both_functions [] gs h k = k
  both_functions (f ∷ fs) gs h k = (h.0, both_functions fs gs h.1 k)

  both_give : (p q : Output) (k l m : ℕ) → k + l ≡ m → Gives k p → Gives l q → Gives m (with_output p q)
  both_give p q k l m e h i = (both_functions p.functions q.functions h.0 i.0, length-append p.functions q.functions ∙ (ap (λ j. j + length q.functions) h.1 ∙ (ap (λ j. k + j) i.1 ∙ e)))

  global_gives : (e : Env) (d : Bool) (b : Before) (x : Ident) (m : MaybeInit) (r : Checked Object) → Holds (Gives 0) (global e d b x m r)
  global_gives e false b x m r = after_demands (Gives 0) r (λ _. fine no_output) (λ _. (tt, refl))
  global_gives e true b x m r = after_demands (Gives 0) r (definition_of (within_global e true x r) b m) (λ o. after_demands (Gives 0) _ (λ gs. fine (static_of o gs)) (λ _. (tt, refl)))

  declared_gives : (e : Env) (b : Before) (at : ℕ) (class : Storage) (s : Spec) (d : Declarator) (m : MaybeInit) (t : Bool) (x : Ident) → Holds (Gives 0) (declared_part e b at class s d m t x)
  declared_gives e b at class s d m true x = both_hold Any Any (Gives 0) _ _ (λ _ _. fine no_output) (anything _) (anything _) (λ _ _ _ _. (tt, refl))
  declared_gives e b at class s d m false x = global_gives e (defines class m) b x m (global_declared e (defines class m) b at s d x m)

  part_gives : (e : Env) (b : Before) (at : ℕ) (class : Storage) (s : Spec) (d : Declarator) (m : MaybeInit) (x : Option Ident) → Holds (Gives 0) (named_part e b at class s d m x)
  part_gives e b at class s d m None = tt
  part_gives e b at class s d m (Some x) = declared_gives e b at class s d m (declares_function d) x

  parts_give : (e : Env) (b : Before) (at : ℕ) (class : Storage) (s : Spec) (ps : Parts) → Holds (Gives 0) (file_parts e b at class s ps)
  parts_give e b at class s no_parts = (tt, refl)
  parts_give e b at class s (more_parts d m ps) =
      both_hold (Gives 0) (Gives 0) (Gives 0) (named_part e b at class s d m (name_of d)) (file_parts (behind_file_part e b at class s d m) (after_file_part e b at class s d m) at class s ps) (λ p q. fine (with_output p q)) (part_gives e b at class s d m (name_of d)) (parts_give (behind_file_part e b at class s d m) (after_file_part e b at class s d m) at class s ps) (λ p q h k. both_give p q 0 0 0 refl h k)

  function_gives : (e : Env) → Within n e → (b : Before) (at : ℕ) (s : Spec) (d : Declarator) (body : Stmt) (t : Bool) (x : Option Ident) → Holds (Gives 1) (function_named e b at s d body t x)
  function_gives e w b at s d body true (Some x) =
      both_hold Any FunctionBelow (Gives 1) (function_declared e true at s d x) (on (type_declared e at s d) (defined_as (behind_defined e at s d x) b (place_or at d) d x (items_of_body body))) (λ _ f. fine (output_of_function f)) (anything (function_declared e true at s d x))
      (after_demands FunctionBelow (type_declared e at s d) (defined_as (behind_defined e at s d x) b (place_or at d) d x (items_of_body body)) (λ u. defined_holds (behind_defined e at s d x) w b (place_or at d) d x (items_of_body body) u)) (λ _ f _ h. ((h, tt), refl))
  function_gives e w b at s d body t x = tt

  item_gives : (e : Env) → Within n e → (b : Before) (i : Item) → Holds (Gives (length (functions_of_item i))) (item e b i)
  item_gives e w b (struct_item at x ms) = after_demands (Gives 0) (struct_definition e x ms) (λ _. fine no_output) (λ _. (tt, refl))
  item_gives e w b (enum_item at x es) = both_hold Any Any (Gives 0) (new_enum e x _) (enumerators _ _ es) (λ _ _. fine no_output) (anything _) (anything _) (λ _ _ _ _. (tt, refl))
  item_gives e w b (tag_item at x) = after_demands (Gives 0) (tag_declaration e x) (λ _. fine no_output) (λ _. (tt, refl))
  item_gives e w b (decl_item at (decl here class s ps)) = parts_give e b here class s ps
  item_gives e w b (function_item at class s d body) = function_gives e w b at s d body (declares_function d) (name_of d)

  enumerators_within : (e : Env) → Within n e → (r : _) (es : Enumerators) → Within n (behind_enumerators e r es)
  enumerators_within e w r no_enumerators = w
  enumerators_within e w r (more_enumerators x m es) = enumerators_within (behind_enumerator e x (enumerator_value e r x m)) w (one_more_than (enumerator_value e r x m)) es

  declared_within : (e : Env) → Within n e → (b : Before) (at : ℕ) (class : Storage) (s : Spec) (d : Declarator) (m : MaybeInit) (t : Bool) (x : Ident) → Within n (behind_declared e b at class s d m t x)
  declared_within e w b at class s d m true x = w
  declared_within e w b at class s d m false x = w

  file_part_within : (e : Env) → Within n e → (b : Before) (at : ℕ) (class : Storage) (s : Spec) (d : Declarator) (m : MaybeInit) (x : Option Ident) → Within n (behind_named_part e b at class s d m x)
  file_part_within e w b at class s d m None = w
  file_part_within e w b at class s d m (Some x) = declared_within e w b at class s d m (declares_function d) x

  file_parts_within : (e : Env) → Within n e → (b : Before) (at : ℕ) (class : Storage) (s : Spec) (ps : Parts) → Within n (behind_file_parts e b at class s ps)
  file_parts_within e w b at class s no_parts = w
  file_parts_within e w b at class s (more_parts d m ps) = file_parts_within (behind_file_part e b at class s d m) (file_part_within e w b at class s d m (name_of d)) (after_file_part e b at class s d m) at class s ps

  function_within : (e : Env) → Within n e → (at : ℕ) (s : Spec) (d : Declarator) (x : Option Ident) → Within n (behind_function_named e at s d x)
  function_within e w at s d None = w
  function_within e w at s d (Some x) = w

  form_within : (e : Env) → Within n e → (b : Before) (i : Item) → Within n (behind_by_form e b i)
  form_within e w b (enum_item at no_tag es) = enumerators_within e w _ es
  form_within e w b (enum_item at (tag x) es) = enumerators_within e w _ es
  form_within e w b (decl_item at (decl here class s ps)) = file_parts_within e w b here class s ps
  form_within e w b (function_item at class s d body) = function_within e w at s d (name_of d)
  form_within e w b i = w

  items_give : (e : Env) → Within n e → (b : Before) (is : Items) → Holds (Gives (length (functions_of is))) (items e b is)
  items_give e w b no_items = (tt, refl)
  items_give e w b (more_items i is) =
      both_hold (Gives (length (functions_of_item i))) (Gives (length (functions_of is))) (Gives (length (functions_of_item i ++ functions_of is))) (item e b i) (items (behind_item e b i) (after_item e b i) is) (λ p q. fine (with_output p q)) (item_gives e w b i) (items_give (behind_item e b i) (form_within e w b i) (after_item e b i) is)
      (λ p q h k. both_give p q (length (functions_of_item i)) (length (functions_of is)) _ (sym (length-append (functions_of_item i) (functions_of is))) h k)

-- ## Numbers of functions

first_or : (t : Bool) (o : Option ℕ) (k i : ℕ) → ((j : ℕ) → o ≡ Some j → j < k) → (if t then Some 0 else option_map suc o) ≡ Some i → i < suc k
first_or true o k i h e = let z : i ≡ 0 = cc in omega (arith, z)
first_or false None k i h e = cc
first_or false (Some j) k i h e = let below : j < k = h j refl in let same : suc j ≡ i = cc in omega (arith, below, same)

pub number_below : (xs : List Name) (x : Name) (i : ℕ) → number_among xs x ≡ Some i → i < length xs
number_below [] x i e = cc
number_below (y ∷ ys) x i e = first_or (bytes_eq y x) (number_among ys x) (length ys) i (number_below ys x) e

pub twenty_four : length system_calls ≡ 24
unfolding table
twenty_four = refl

one_of_both : (o q : Option ℕ) (k i : ℕ) → ((j : ℕ) → o ≡ Some j → j < k) → ((j : ℕ) → q ≡ Some j → j < k + 24) → number_or o q ≡ Some i → i < k + 24
one_of_both None q k i h g e = g i e
one_of_both (Some j) q k i h g e = let below : j < k = h j refl in let same : j ≡ i = cc in omega (arith, below, same)

given_below : (e : Env) (o : Option ℕ) (k j : ℕ) → length e.whole.functions ≡ k → ((i : ℕ) → o ≡ Some i → i < 24) → given_number e o ≡ Some j → j < k + 24
given_below e None k j l h g = cc
given_below e (Some i) k j l h g = let below : i < 24 = h i refl in let same : length e.whole.functions + i ≡ j = cc in omega (arith, below, same, l)

system_below : (x : Name) (i : ℕ) → number_among system_calls x ≡ Some i → i < 24
system_below x i e = subst (λ k. i < k) twenty_four (number_below system_calls x i e)

before_within : (u : Items) → Within (length (functions_of u) + 24) (env_before Plain u)
before_within u =
    ((λ x f e. one_of_both (number_among (functions_of u) x) (given_number (env_before Plain u) (number_among system_calls x)) (length (functions_of u)) f (number_below (functions_of u) x) (λ j g. given_below (env_before Plain u) (number_among system_calls x) (length (functions_of u)) j refl (system_below x) g) e), omega arith)

program_below : (u : Items) (p : Output) → Gives (length (functions_of u) + 24) (length (functions_of u)) p → CallsNoNullCall (program_of Plain u p)
program_below u p h = subst (λ m. FunctionsBelow (m + 24) p.functions) (sym h.1) h.0

-- a program that is typed in a plain unit calls no null call
pub no_null_call : (u : Items) (p : Program) → IsTyped u Plain p → CallsNoNullCall p
no_null_call u p g =
    let k = on_fine (items (env_before Plain u) nothing_before u) (λ q. demand (has_main Plain u) C9 0 (program_of Plain u q)) p (items_fine u Plain p g) in
    let t : has_main Plain u ≡ true = demand_met (has_main Plain u) 9 0 (program_of Plain u k.0) p k.2 in
    let same : program_of Plain u k.0 ≡ p = (let e : fine (program_of Plain u k.0) ≡ fine p = sym (ap (λ s. demand s C9 0 (program_of Plain u k.0)) t) ∙ k.2 in cc) in
    subst CallsNoNullCall same
    (program_below u k.0 (held _ _ k.0 (items_give (length (functions_of u) + 24) (env_before Plain u) (before_within u) nothing_before u) k.1))
