-- What statements give (6.8): the recursion on the syntax, one rule for each form.
use Rattle.std.specs.Prelude.{ℕ, Bool, true, false, not, ◌&&◌, ◌||◌, List, [], ◌∷◌, ◌++◌, nat_eq, ℤ, pos, negsuc}
use Rattle.c_tree.specs.declared.value.IntType.{IntType}
use Rattle.c_tree.specs.declared.value.IntType.TheVariants.{Int}
use Rattle.c_tree.specs.declared.value.Value.{Value}
use Rattle.c_tree.specs.declared.tree.TLabel.{TLabel}
use Rattle.c_tree.specs.declared.tree.TLabel.TheVariants.{Case, Default}
use Rattle.c_tree.specs.Tree.{CType}
use Rattle.c_tree.specs.Tree as typed
use Rattle.c_tree.specs.Operands.{promoted}
use Rattle.c_syntax.specs.Tree.{Maybe, absent, there, First, first_absent, first_expr, first_decl, Labels, no_labels, case_label, default_label}
use Rattle.c_syntax.specs.Tree.{Stmt, block, empty, evaluate, only_if, if_else, while_loop, do_loop, for_loop, switch_on, break_off, continue_on, return_from}
use Rattle.c_syntax.specs.Tree.{BlockItems, no_block_items, block_decl, block_stmt, Stmts, no_stmts, more_stmts, Groups, no_groups, more_groups}
use Rattle.c_tree.specs.Operators.{value_of}
use Rattle.c_rules.specs.Constants.{number_of}
use Rattle.c_rules.specs.Checked.{Checked, fine, faulty, fault, demand, on, both, all_three, beside, Two, gives}
use Rattle.c_rules.specs.Codes.{C3, C7, C8}
use Rattle.c_rules.specs.Types.{is_void}
use Rattle.c_rules.specs.Scopes.{Env, inside, Before}
use Rattle.c_rules.specs.Counts.{place_of, after, after_maybe}
use Rattle.c_rules.specs.TypedExpression.{TypedExpression, tree_of}
use Rattle.c_rules.specs.Conversions.{Kind, an_integer, kind_of, converted_to, as_if_assigned, condition}
use Rattle.c_rules.specs.Declarators.{constant_value}
use Rattle.c_rules.specs.Expressions.{value, folded_value}
use Rattle.c_rules.specs.Variables.{Next, past_names, names_of_decl, names_of_first, names_of_stmt, names_of_stmts}
use Rattle.c_rules.specs.Blocks.{behind_decl, behind_first, after_decl, after_first, after_stmt, after_stmts, StatementTree, bare, with_tree, joined, one_more, alone, some_more, local_decl}

-- what stands round a statement: whether a break and a continue have a statement to leave or to go on with, and what the function
-- returns
pub record Around : Type 0 where
  pub breaks : Bool
  pub continues : Bool
  pub returns : CType

-- in the body of a loop, and of a switch
abbrev pub in_loop : Around → Around
in_loop a = record a { breaks = true; continues = true }

abbrev pub in_switch : Around → Around
in_switch a = record a { breaks = true }

-- ## Selection and iteration (6.8.4, 6.8.5)

-- a condition and what it gives
abbrev pub condition_at : (at : ℕ) → Checked TypedExpression → Checked typed.Expr
condition_at at r = on r (condition at)

-- a condition that may be left out
abbrev pub test_of : Env → Before → (at : ℕ) → Maybe → Checked typed.Maybe
test_of env b at absent = fine typed.absent
test_of env b at (there e) = gives (condition_at at (value env b e)) typed.there

-- an expression that may be left out
abbrev pub step_of : Env → Before → Maybe → Checked typed.Maybe
step_of env b absent = fine typed.absent
step_of env b (there e) = gives (value env b e) (λ g. typed.there (tree_of g))

-- what stands first in the head of a for (6.8.5.3)
abbrev pub first_of : Env → Before → Next → First → Checked (StatementTree typed.Stmts)
first_of env b next first_absent = fine (bare typed.no_stmts)
first_of env b next (first_expr e) = gives (value env b e) (λ g. alone (bare (typed.evaluate (tree_of g))))
first_of env b next (first_decl d) = local_decl env b next d

abbrev pub for_of : StatementTree typed.Stmts → Two typed.Maybe typed.Maybe → StatementTree typed.Stmt → StatementTree typed.Stmt
for_of p tests q = joined p q (typed.for_loop p.tree tests.first tests.second q.tree)

-- ## switch (6.8.4.2)

-- a switch takes an integer, which is promoted (paragraphs 1 and 5)
abbrev pub switched_kind : (at : ℕ) → TypedExpression → Kind → Checked TypedExpression
switched_kind at g (an_integer i) = fine (converted_to (promoted i) g)
switched_kind at g k = fault C3 at

abbrev pub switched : (at : ℕ) → Checked TypedExpression → Checked TypedExpression
switched at r = on r (λ g. switched_kind at g (kind_of g.ctype))

-- the type to which case values are converted; where the switch takes no integer, it is never seen
abbrev pub label_kind : Kind → IntType
label_kind (an_integer i) = i
label_kind k = Int

abbrev pub label_type : Checked TypedExpression → IntType
label_type (fine g) = label_kind (kind_of g.ctype)
label_type (faulty f fs) = Int

-- labels; a case value is a constant integer expression (paragraph 3)
abbrev pub labels_of : Env → IntType → Labels → Checked (List TLabel)
labels_of env i no_labels = fine []
labels_of env i (case_label at e ls) =
    both (on (folded_value env e) (constant_value (place_of e))) (labels_of env i ls) (λ v vs. fine (Case (value_of i (number_of v)) ∷ vs))
labels_of env i (default_label at ls) = gives (labels_of env i ls) (λ vs. Default ∷ vs)

-- groups of a switch and all labels in them
pub record Labelled : Type 0 where
  pub groups : StatementTree typed.Groups
  pub labels : List TLabel

abbrev pub no_labelled : Labelled
no_labelled = record { groups = bare typed.no_groups; labels = [] }

abbrev pub labelled : List TLabel → StatementTree typed.Stmts → Labelled → Labelled
labelled ls p rest = record { groups = joined p rest.groups (typed.more_groups ls p.tree rest.groups.tree); labels = ls ++ rest.labels }

abbrev pub same_number : ℤ → ℤ → Bool
same_number (pos m) (pos n) = nat_eq m n
same_number (negsuc m) (negsuc n) = nat_eq m n
same_number z w = false

-- the value stands among the labels
abbrev pub is_case_of : Value → List TLabel → Bool
is_case_of v [] = false
is_case_of v (Case w ∷ ls) = same_number (number_of v) (number_of w) || is_case_of v ls
is_case_of v (Default ∷ ls) = is_case_of v ls

abbrev pub has_default : List TLabel → Bool
has_default [] = false
has_default (Case w ∷ ls) = has_default ls
has_default (Default ∷ ls) = true

-- the case values are distinct, and at most one label is a default (paragraph 3)
abbrev pub are_distinct : List TLabel → Bool
are_distinct [] = true
are_distinct (Case v ∷ ls) = not (is_case_of v ls) && are_distinct ls
are_distinct (Default ∷ ls) = not (has_default ls) && are_distinct ls

abbrev pub switch_of : (at : ℕ) → TypedExpression → Labelled → Checked (StatementTree typed.Stmt)
switch_of at g gs = demand (are_distinct gs.labels) C7 at (with_tree gs.groups (typed.switch_on (tree_of g) gs.groups.tree))

-- ## return (6.8.6.4)

-- a return has a value exactly where the function has a result, and it is converted as if by assignment
abbrev pub returned : Env → Before → (at : ℕ) → (returns : CType) → Maybe → Checked typed.Stmt
returned env b at t absent = demand (is_void t) C3 at typed.return_void
returned env b at t (there e) = gives (on (value env b e) (as_if_assigned at t)) (λ g. typed.return_value (tree_of g))

-- ## Statements

abbrev mutual
  -- a statement, where so much of the unit stands before it, and its variables have the next numbers
  pub stmt : Env → Around → Before → Next → Stmt → Checked (StatementTree typed.Stmt)
  -- 6.8.2
  stmt env a b next (block at is) = gives (items_of_block (inside env) a b next is) (λ p. with_tree p (typed.block p.tree))
  -- 6.8.3
  stmt env a b next (empty at) = fine (bare typed.empty)
  stmt env a b next (evaluate at e) = gives (value env b e) (λ g. bare (typed.evaluate (tree_of g)))
  -- 6.8.4.1
  stmt env a b next (only_if at e s) =
      both (condition_at at (value env b e)) (stmt env a (after b e) next s) (λ c p. fine (with_tree p (typed.if_else c p.tree typed.empty)))
  stmt env a b next (if_else at e s t) =
      all_three (condition_at at (value env b e)) (stmt env a (after b e) next s) (stmt env a (after_stmt env (after b e) next s) (past_names next (names_of_stmt s)) t)
      (λ c p q. fine (joined p q (typed.if_else c p.tree q.tree)))
  -- 6.8.5.1
  stmt env a b next (while_loop at e s) =
      both (condition_at at (value env b e)) (stmt env (in_loop a) (after b e) next s) (λ c p. fine (with_tree p (typed.while_loop c p.tree)))
  -- 6.8.5.2
  stmt env a b next (do_loop at s e) =
      both (stmt env (in_loop a) b next s) (condition_at at (value env (after_stmt env b next s) e)) (λ p c. fine (with_tree p (typed.do_loop p.tree c)))
  -- 6.8.5.3: what is declared in its head has a scope of its own, round the body
  stmt env a b next (for_loop at first test step s) =
      let outer : Env = inside env in
      let inner : Env = behind_first outer next first in
      let b1 : Before = after_first outer b next first in
      let b2 : Before = after_maybe b1 test in
      let b3 : Before = after_maybe b2 step in
      all_three (first_of outer b next first) (beside (test_of inner b1 at test) (step_of inner b2 step)) (stmt inner (in_loop a) b3 (past_names next (names_of_first first)) s)
      (λ p tests q. fine (for_of p tests q))
  -- 6.8.4.2
  stmt env a b next (switch_on at e gs) =
      let r : Checked TypedExpression = switched at (value env b e) in
      both r (groups_of_switch env (in_switch a) (after b e) next (label_type r) gs) (switch_of at)
  -- 6.8.6.3
  stmt env a b next (break_off at) = demand a.breaks C8 at (bare typed.break_off)
  -- 6.8.6.2
  stmt env a b next (continue_on at) = demand a.continues C8 at (bare typed.continue_on)
  -- 6.8.6.4
  stmt env a b next (return_from at m) = gives (returned env b at a.returns m) bare

  -- declarations and statements of a block
  pub items_of_block : Env → Around → Before → Next → BlockItems → Checked (StatementTree typed.Stmts)
  items_of_block env a b next no_block_items = fine (bare typed.no_stmts)
  items_of_block env a b next (block_decl d is) =
      both (local_decl env b next d) (items_of_block (behind_decl env next d) a (after_decl env b next d) (past_names next (names_of_decl d)) is)
      (λ p q. fine (some_more p q))
  items_of_block env a b next (block_stmt s is) =
      both (stmt env a b next s) (items_of_block env a (after_stmt env b next s) (past_names next (names_of_stmt s)) is)
      (λ p q. fine (one_more p q))

  -- statements alone
  pub stmts : Env → Around → Before → Next → Stmts → Checked (StatementTree typed.Stmts)
  stmts env a b next no_stmts = fine (bare typed.no_stmts)
  stmts env a b next (more_stmts s ss) =
      both (stmt env a b next s) (stmts env a (after_stmt env b next s) (past_names next (names_of_stmt s)) ss)
      (λ p q. fine (one_more p q))

  -- labels and statements of a switch on a value of this type
  pub groups_of_switch : Env → Around → Before → Next → IntType → Groups → Checked Labelled
  groups_of_switch env a b next i no_groups = fine no_labelled
  groups_of_switch env a b next i (more_groups ls ss gs) =
      all_three (labels_of env i ls) (stmts env a b next ss) (groups_of_switch env a (after_stmts env b next ss) (past_names next (names_of_stmts ss)) i gs)
      (λ vs p rest. fine (labelled vs p rest))
