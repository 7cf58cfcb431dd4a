-- Declarations in blocks (6.7): the scopes behind them, the strings in them, and what they give.
use Rattle.std.specs.Prelude.{ℕ, Bool, false, List, [], ◌∷◌, ◌++◌, if◌then◌else◌, Option, Some, None, slice_get}
use Rattle.c_tree.specs.Mode.{Mode}
use Rattle.c_tree.specs.Tree.{CType}
use Rattle.c_tree.specs.Tree as typed
use Rattle.c_syntax.specs.Tree.{Ident, Spec, Declarator, MaybeInit, Parts, no_parts, more_parts, Decl, decl}
use Rattle.c_syntax.specs.Tree.{First, first_absent, first_expr, first_decl}
use Rattle.c_syntax.specs.Tree.{Stmt, block, empty, evaluate, only_if, if_else, while_loop, do_loop, for_loop, switch_on, break_off, continue_on, return_from}
use Rattle.c_syntax.specs.Tree.{BlockItems, no_block_items, block_decl, block_stmt, Stmts, no_stmts, more_stmts, Groups, no_groups, more_groups}
use Rattle.c_rules.specs.Checked.{Checked, fine, faulty, fault, on, both, gives, fails_with}
use Rattle.c_rules.specs.Codes.{C3}
use Rattle.c_rules.specs.Names.{Name, is_added, number_among, given_names, given_types, is_given_type}
use Rattle.c_rules.specs.Scopes.{Env, Meaning, a_local, with_name, meaning_or_unknown, inside, Before}
use Rattle.c_rules.specs.Counts.{strings, strings_of_maybe, past}
use Rattle.c_rules.specs.TypedExpression.{TypedExpression}
use Rattle.c_rules.specs.Declarators.{name_of, place_or, new_name}
use Rattle.c_rules.specs.Expressions.{type_declared}
use Rattle.c_rules.specs.Initialisers.{held_by, calls_of_maybe_init, initialised_local, stores_from}
use Rattle.c_rules.specs.Objects.{Object, object_declared}
use Rattle.c_rules.specs.Variables.{name_or_empty, Next, number_in, past_name, calls_of_decl, calls_of_first, calls_of_stmt, calls_of_stmts, names_of_decl, names_of_first, names_of_stmt, names_of_stmts, past_names}

-- ## Scopes

-- what the name of a variable means within its own initialiser, and behind it; where it is no object's, each use fails with its demands
abbrev pub seen_meaning : Env → (number : ℕ) → Ident → Checked Object → Checked Meaning
seen_meaning env k x r = on r (λ o. gives (new_name env x) (λ _. a_local k o.seen o.whole))

abbrev pub whole_meaning : Env → (number : ℕ) → Ident → Checked Object → Checked Meaning
whole_meaning env k x r = on r (λ o. gives (new_name env x) (λ _. a_local k o.whole o.whole))

-- within the initialiser of a variable (6.2.1 paragraph 7)
abbrev pub within_local : Env → Next → Ident → Checked Object → Env
within_local env next x r = with_name env x.name (meaning_or_unknown (seen_meaning env (number_in next x.name) x r))

abbrev pub behind_local : Env → Next → Ident → Checked Object → Env
behind_local env next x r = with_name env x.name (meaning_or_unknown (whole_meaning env (number_in next x.name) x r))

abbrev pub behind_named : Env → Next → (at : ℕ) → Spec → Declarator → MaybeInit → Option Ident → Env
behind_named env next at s d m None = env
behind_named env next at s d m (Some x) = behind_local env next x (object_declared env at s d x m)

-- behind one declarator
abbrev pub behind_part : Env → Next → (at : ℕ) → Spec → Declarator → MaybeInit → Env
behind_part env next at s d m = behind_named env next at s d m (name_of d)

-- the next numbers behind one declarator
abbrev pub past_part : Next → Declarator → Next
past_part next d = past_name next (name_or_empty (name_of d))

-- behind declarators
abbrev pub behind_parts : Env → Next → (at : ℕ) → Spec → Parts → Env
behind_parts env next at s no_parts = env
behind_parts env next at s (more_parts d m ps) = behind_parts (behind_part env next at s d m) (past_part next d) at s ps

abbrev pub behind_decl : Env → Next → Decl → Env
behind_decl env next (decl at class s ps) = behind_parts env next at s ps

abbrev pub behind_first : Env → Next → First → Env
behind_first env next first_absent = env
behind_first env next (first_expr e) = env
behind_first env next (first_decl d) = behind_decl env next d

-- ## Strings that the typed tree holds, in the order of the text; which initialisers hold one depends on types

abbrev pub held_by_object : Env → MaybeInit → Checked Object → List (List ℕ)
held_by_object env m (fine o) = held_by env o.whole m
held_by_object env m (faulty f fs) = []

abbrev pub held_by_named : Env → (at : ℕ) → Spec → Declarator → MaybeInit → Option Ident → List (List ℕ)
held_by_named env at s d m None = []
held_by_named env at s d m (Some x) = held_by_object env m (object_declared env at s d x m)

abbrev pub held_by_part : Env → (at : ℕ) → Spec → Declarator → MaybeInit → List (List ℕ)
held_by_part env at s d m = held_by_named env at s d m (name_of d)

abbrev pub held_by_parts : Env → Next → (at : ℕ) → Spec → Parts → List (List ℕ)
held_by_parts env next at s no_parts = []
held_by_parts env next at s (more_parts d m ps) =
    held_by_part env at s d m ++ held_by_parts (behind_part env next at s d m) (past_part next d) at s ps

abbrev pub held_by_decl : Env → Next → Decl → List (List ℕ)
held_by_decl env next (decl at class s ps) = held_by_parts env next at s ps

abbrev pub held_by_first : Env → Next → First → List (List ℕ)
held_by_first env next first_absent = []
held_by_first env next (first_expr e) = strings e
held_by_first env next (first_decl d) = held_by_decl env next d

abbrev mutual
  pub held_by_stmt : Env → Next → Stmt → List (List ℕ)
  held_by_stmt env next (block at is) = held_by_block (inside env) next is
  held_by_stmt env next (empty at) = []
  held_by_stmt env next (evaluate at e) = strings e
  held_by_stmt env next (only_if at e s) = strings e ++ held_by_stmt env next s
  held_by_stmt env next (if_else at e s t) =
      strings e ++ (held_by_stmt env next s ++ held_by_stmt env (past_names next (names_of_stmt s)) t)
  held_by_stmt env next (while_loop at e s) = strings e ++ held_by_stmt env next s
  held_by_stmt env next (do_loop at s e) = held_by_stmt env next s ++ strings e
  held_by_stmt env next (for_loop at first test step s) =
      held_by_first (inside env) next first ++ (strings_of_maybe test ++ (strings_of_maybe step ++ held_by_stmt (behind_first (inside env) next first) (past_names next (names_of_first first)) s))
  held_by_stmt env next (switch_on at e gs) = strings e ++ held_by_groups env next gs
  held_by_stmt env next (break_off at) = []
  held_by_stmt env next (continue_on at) = []
  held_by_stmt env next (return_from at m) = strings_of_maybe m

  pub held_by_block : Env → Next → BlockItems → List (List ℕ)
  held_by_block env next no_block_items = []
  held_by_block env next (block_decl d is) =
      held_by_decl env next d ++ held_by_block (behind_decl env next d) (past_names next (names_of_decl d)) is
  held_by_block env next (block_stmt s is) = held_by_stmt env next s ++ held_by_block env (past_names next (names_of_stmt s)) is

  pub held_by_stmts : Env → Next → Stmts → List (List ℕ)
  held_by_stmts env next no_stmts = []
  held_by_stmts env next (more_stmts s ss) = held_by_stmt env next s ++ held_by_stmts env (past_names next (names_of_stmt s)) ss

  pub held_by_groups : Env → Next → Groups → List (List ℕ)
  held_by_groups env next no_groups = []
  held_by_groups env next (more_groups ls ss gs) =
      held_by_stmts env next ss ++ held_by_groups env (past_names next (names_of_stmts ss)) gs

-- so much stands before what follows a part
abbrev pub after_part : Env → Before → (at : ℕ) → Spec → Declarator → MaybeInit → Before
after_part env b at s d m = past b (calls_of_maybe_init m) (held_by_part env at s d m)

abbrev pub after_decl : Env → Before → Next → Decl → Before
after_decl env b next d = past b (calls_of_decl d) (held_by_decl env next d)

abbrev pub after_first : Env → Before → Next → First → Before
after_first env b next first = past b (calls_of_first first) (held_by_first env next first)

abbrev pub after_stmt : Env → Before → Next → Stmt → Before
after_stmt env b next s = past b (calls_of_stmt s) (held_by_stmt env next s)

abbrev pub after_stmts : Env → Before → Next → Stmts → Before
after_stmts env b next ss = past b (calls_of_stmts ss) (held_by_stmts env next ss)

-- ## What a part of a body gives: its tree, and the types of the variables that it declares, the instrumenter's apart

pub record StatementTree (A : Type 0) : Type 0 where
  pub tree : A
  pub plain : List CType
  pub added : List CType

-- a tree without variables
abbrev pub bare : {A : Type 0} → A → StatementTree A
bare a = record { tree = a; plain = []; added = [] }

-- the same variables with another tree
abbrev pub with_tree : {A B : Type 0} → StatementTree A → B → StatementTree B
with_tree p b = record { tree = b; plain = p.plain; added = p.added }

-- the variables of two parts with a tree of both
abbrev pub joined : {A B C : Type 0} → StatementTree A → StatementTree B → C → StatementTree C
joined p q c = record { tree = c; plain = p.plain ++ q.plain; added = p.added ++ q.added }

-- one statement, and others behind it
abbrev pub one_more : StatementTree typed.Stmt → StatementTree typed.Stmts → StatementTree typed.Stmts
one_more p q = joined p q (typed.more_stmts p.tree q.tree)

-- one statement alone
abbrev pub alone : StatementTree typed.Stmt → StatementTree typed.Stmts
alone p = with_tree p (typed.more_stmts p.tree typed.no_stmts)

abbrev pub appended : typed.Stmts → typed.Stmts → typed.Stmts
appended typed.no_stmts us = us
appended (typed.more_stmts s ss) us = typed.more_stmts s (appended ss us)

-- some statements, and others behind them
abbrev pub some_more : StatementTree typed.Stmts → StatementTree typed.Stmts → StatementTree typed.Stmts
some_more p q = joined p q (appended p.tree q.tree)

-- ## Declarations

-- the declaration of a variable with this name, number and type, and its cells
abbrev pub laid_variable : Name → (number : ℕ) → CType → List TypedExpression → StatementTree typed.Stmt
laid_variable x k t gs =
    if is_added x
    then record { tree = typed.declare k (stores_from 0 gs); plain = []; added = t ∷ [] }
    else record { tree = typed.declare k (stores_from 0 gs); plain = t ∷ []; added = [] }

abbrev pub local_of : Env → Before → Next → Ident → MaybeInit → Object → Checked (StatementTree typed.Stmt)
local_of env b next x m o = gives (initialised_local env b o.whole m) (laid_variable x.name (number_in next x.name) o.whole)

-- a variable: its name is new, its type is that of an object, and its initialiser fits
abbrev pub local : Env → Before → Next → Ident → MaybeInit → Checked Object → Checked (StatementTree typed.Stmt)
local env b next x m r = both (new_name env x) (on r (local_of (within_local env next x r) b next x m)) (λ _ p. fine p)

-- a function is declared by its name and its type as it is given (7.1.4 paragraph 2)
abbrev pub given_at : Mode → Option ℕ → CType → Bool
given_at m None t = false
given_at m (Some i) t = is_given_type (slice_get (given_types m) i) t

abbrev pub is_given : Env → Name → Checked CType → Bool
is_given env x (fine t) = given_at env.whole.mode (number_among (given_names env.whole.mode) x) t
is_given env x (faulty f fs) = false

-- A function isn't declared in a block in this profile. Where it is declared as it is given, nothing else is wrong with its name.
abbrev pub local_named : Env → Before → Next → (at : ℕ) → Spec → Declarator → MaybeInit → Option Ident → Checked (StatementTree typed.Stmt)
local_named env b next at s d m None = fault C3 (place_or at d)
local_named env b next at s d m (Some x) =
    fails_with (is_given env x.name (type_declared env at s d)) C3 (place_or at d) (local env b next x m (object_declared env at s d x m))

-- one declarator with its initialiser
abbrev pub local_part : Env → Before → Next → (at : ℕ) → Spec → Declarator → MaybeInit → Checked (StatementTree typed.Stmt)
local_part env b next at s d m = local_named env b next at s d m (name_of d)

-- declarators, one variable for each
abbrev pub local_parts : Env → Before → Next → (at : ℕ) → Spec → Parts → Checked (StatementTree typed.Stmts)
local_parts env b next at s no_parts = fine (bare typed.no_stmts)
local_parts env b next at s (more_parts d m ps) =
    both (local_part env b next at s d m)
    (local_parts (behind_part env next at s d m) (after_part env b at s d m) (past_part next d) at s ps)
    (λ p q. fine (one_more p q))

-- a declaration in a block
abbrev pub local_decl : Env → Before → Next → Decl → Checked (StatementTree typed.Stmts)
local_decl env b next (decl at class s ps) = local_parts env b next at s ps
