-- For private contracts and proofs alone: parts of the rules of statements.
use Rattle.std.specs.Prelude.{ℕ, Bool, false, Option, Some, None, slice_get}
use Rattle.c_check_bodies.specs.LabelledView.{labelled_before}
use Rattle.c_rules.specs.Blocks.{StatementTree, after_first, after_stmt, behind_first, laid_variable}
use Rattle.c_rules.specs.Checked as rules
use Rattle.c_rules.specs.Checked.{Checked, fine, all_three, beside, both, gives}
use Rattle.c_rules.specs.Counts.{after, after_maybe}
use Rattle.c_rules.specs.Expressions.{value}
use Rattle.c_rules.specs.Initialisers.{initialised_local}
use Rattle.c_rules.specs.Names.{given_types, is_given_type}
use Rattle.c_rules.specs.Objects.{Object}
use Rattle.c_rules.specs.Scopes.{Env, Before, a_local, with_name}
use Rattle.c_rules.specs.Statements.{Around, Labelled, condition_at, first_of, for_of, in_loop, labelled, labels_of, no_labelled, step_of, stmt, stmts, test_of}
use Rattle.c_rules.specs.Variables.{Next, names_of_first, past_names}
use Rattle.c_syntax.specs.declared.tree.Group.{Group}
use Rattle.c_syntax.specs.Tree.{Expr, First, Ident, Maybe, MaybeInit, Stmt}
use Rattle.c_check_statements.specs.Listed.{labels_in, stmts_in}
use Rattle.c_tree.specs.declared.value.IntType.{IntType}
use Rattle.c_tree.specs.Tree as typed
use Rattle.c_tree.specs.Tree.{CType}

-- the declaration of a variable with this number that is this object
abbrev pub local_as : Env → Before → (number : ℕ) → Ident → MaybeInit → Object → Checked (StatementTree typed.Stmt)
local_as env b number x m o = gives (initialised_local (with_name env x.name (a_local number o.seen o.whole)) b o.whole m) (laid_variable x.name number o.whole)

-- whether a function of the type that is found is given with this number, where a number is given
abbrev pub given_seen : Env → Checked CType → Option ℕ → Checked Bool
given_seen env r None = fine false
given_seen env r (Some i) = gives r (is_given_type (slice_get (given_types env.whole.mode) i))

-- a condition and the statement behind it
abbrev pub tested : Env → Around → Before → Next → (at : ℕ) → Expr → Stmt → Checked (rules.Two typed.Expr (StatementTree typed.Stmt))
tested env a b next at e s = beside (condition_at at (value env b e)) (stmt env a (after b e) next s)

-- a for in the scope of its head
abbrev pub for_inside : Env → Around → Before → Next → (at : ℕ) → First → Maybe → Maybe → Stmt → Checked (StatementTree typed.Stmt)
for_inside outer a b next at first test step s =
    let inner : Env = behind_first outer next first in
    let b1 : Before = after_first outer b next first in
    let b2 : Before = after_maybe b1 test in
    let b3 : Before = after_maybe b2 step in
    all_three (first_of outer b next first) (beside (test_of inner b1 at test) (step_of inner b2 step)) (stmt inner (in_loop a) b3 (past_names next (names_of_first first)) s)
    (λ p tests q. fine (for_of p tests q))

-- a group of a switch behind others
abbrev pub group_behind : Env → Around → Before → Next → IntType → Labelled → Group → Checked Labelled
group_behind env a b next i done g = both (labels_of env i (labels_in g)) (stmts env a b next (stmts_in g)) (λ vs p. fine (labelled_before done (labelled vs p no_labelled)))

-- so much stands before what follows a for
abbrev pub after_for : Env → Before → Next → First → Maybe → Maybe → Stmt → Before
after_for outer b next first test step s =
    after_stmt (behind_first outer next first) (after_maybe (after_maybe (after_first outer b next first) test) step) (past_names next (names_of_first first)) s
