-- What the things that are left to do mean, as parts of what a program does (C99 5.1.2.3).
use Rattle.std.specs.Prelude.{ℕ, zero, suc, Bool, true, false, List, [], ◌∷◌, ◌++◌, reverse, Some}
use Rattle.dm_base.specs.declared.outcome.Outcome.TheVariants.{Undefined, Exit as ended_by}
use Rattle.c_tree.specs.declared.value.Value.{Value}
use Rattle.c_tree.specs.declared.value.Value.TheVariants.{Indeterminate}
use Rattle.c_tree.specs.Operators.{convert, binary}
use Rattle.c_tree.specs.Layout.{Structs}
use Rattle.c_tree.specs.Tree.{Program, Stmt, block, empty, if_else, while_loop, do_loop, for_loop, switch_on, there, absent}
use Rattle.c_tree.specs.View.{ctype_of, ctypes_of, expr_of, exprs_of, inits_of, stmt_of, stmts_of, groups_of}
use Rattle.c_values.specs.Answers.{Answer, gives, U13}
use Rattle.c_values.specs.Memory.{Objects}
use Rattle.c_meaning.specs.Pointers.{callee, truth_value, load_place, store_place, difference, place, test}
use Rattle.c_meaning.specs.Meaning.{Frame as Place, Loop as Rounds, World, either, operated, comparing, moving, updated, name_in, without, declared_in, selected}
use Rattle.c_meaning.specs.Results.{State, with_memory, Result, Go, Stop, after, then_do, answered, remembered, Exit, on, broken, continued, returned, on_exit, on_round, out_of_switch}
use Rattle.c_meaning.specs.Runs.{result_of, exit_of}
use Rattle.c_meaning.specs.SystemCalls.{take_record}
use Rattle.ref_machine_steps.specs.Requests.{asked_by}
use Rattle.ref_machine_steps.specs.Words.{held}
use Rattle.ref_machine_frames.specs.Held.{behind_of, called, called_through, decayed, eval, eval_all, eval_each, exec, exec_all, exec_from, initialise, member_of, perhaps}
use Rattle.ref_machine_frames.specs.declared.frames.Here.{Here}
use Rattle.ref_machine_frames.specs.declared.frames.Valued.{Valued}
use Rattle.ref_machine_frames.specs.declared.frames.Valued.TheVariants as valued
use Rattle.ref_machine_frames.specs.declared.frames.Parted.{Parted}
use Rattle.ref_machine_frames.specs.declared.frames.Parted.TheVariants as parted
use Rattle.ref_machine_frames.specs.declared.frames.Step.{Step}
use Rattle.ref_machine_frames.specs.declared.frames.Step.TheVariants as steps
use Rattle.ref_machine_frames.specs.declared.frames.Pair.{Pair}
use Rattle.ref_machine_frames.specs.declared.frames.Pair.TheVariants as pairs
use Rattle.ref_machine_frames.specs.declared.frames.Storing.{Storing}
use Rattle.ref_machine_frames.specs.declared.frames.Storing.TheVariants as storings
use Rattle.ref_machine_frames.specs.declared.frames.Choice.{Choice}
use Rattle.ref_machine_frames.specs.declared.frames.Choice.TheVariants as choices
use Rattle.ref_machine_frames.specs.declared.frames.Callee.{Callee}
use Rattle.ref_machine_frames.specs.declared.frames.Callee.TheVariants as callees
use Rattle.ref_machine_frames.specs.declared.frames.ValueFrame.{ValueFrame}
use Rattle.ref_machine_frames.specs.declared.frames.ValueFrame.TheVariants as values
use Rattle.ref_machine_frames.specs.declared.frames.StatementFrame.{StatementFrame}
use Rattle.ref_machine_frames.specs.declared.frames.StatementFrame.TheVariants as statements
use Rattle.ref_machine_frames.specs.declared.frames.ExitFrame.{ExitFrame}
use Rattle.ref_machine_frames.specs.declared.frames.ExitFrame.TheVariants as exits
use Rattle.ref_machine_frames.specs.declared.frames.Call.{Call}
use Rattle.ref_machine_frames.specs.declared.frames.Frame.{Frame}
use Rattle.ref_machine_frames.specs.declared.frames.Frame.TheVariants as frames
use Rattle.ref_machine_frames.specs.declared.frames.Left.{Left}
use Rattle.ref_machine_frames.specs.declared.frames.Left.TheVariants as lefts
use Rattle.ref_machine_frames.specs.declared.frames.After.{After}
use Rattle.ref_machine_frames.specs.declared.frames.After.TheVariants as afters
use Rattle.ref_machine_frames.specs.declared.frames.Now.{Now}
use Rattle.ref_machine_frames.specs.declared.frames.Now.TheVariants as nows

-- the activation that runs
abbrev pub place_of : Here → Place
place_of h = record { activation = h.activation; types = ctypes_of h.types.now }

-- what goes round in a loop
abbrev pub rounds_of : Stmt → Rounds
rounds_of (while_loop e s) = record { test = there e; body = s; step = absent }
rounds_of (do_loop s e) = record { test = there e; body = s; step = absent }
rounds_of (for_loop first t e s) = record { test = t; body = s; step = e }
rounds_of s = record { test = absent; body = empty; step = absent }

-- the variables that are declared directly in a block or in the head of a for
abbrev pub locals_of : Stmt → List ℕ
locals_of (block ss) = declared_in ss
locals_of (for_loop first t e s) = declared_in first
locals_of s = []

-- how a statement is left
abbrev pub exit_in : Left → Exit
exit_in lefts.On = on
exit_in lefts.Broken = broken
exit_in lefts.Continued = continued
exit_in (lefts.Returned v) = returned v

-- what was pushed last comes first
abbrev pub stack : List Frame → List Frame
stack todo = reverse todo

-- a step with one value
abbrev pub one_step : Structs → Step → Objects → Value → Answer Value
one_step structs (steps.Deref t) m v = behind_of (ctype_of t.now) m v
one_step structs steps.Load m v = load_place m v
one_step structs (steps.Decay t) m v = decayed structs (ctype_of t.now) v
one_step structs steps.Discard m v = gives Indeterminate
one_step structs (steps.Field first t) m v = member_of structs first (ctype_of t.now) v
one_step structs (steps.Unary op) m v = operated op m v
one_step structs (steps.Convert to) m v = convert to v

-- a step with two values
abbrev pub two_step : Pair → Objects → Value → Value → Answer Value
two_step (pairs.Arith op) m v u = binary op v u
two_step (pairs.Compare op) m v u = comparing op m v u
two_step (pairs.PointerAdd first subtracted) m v u = moving first subtracted m v u
two_step pairs.PointerDiff m v u = held (difference m v u)

-- the later parts of an assignment
abbrev pub storing : Program → World → Place → Storing → Value → State → Result Value
storing p w fr (storings.Place e) q st =
    then_do (eval p w fr true (expr_of e.now) st) (λ v st. remembered (store_place st.memory q v) v st)
storing p w fr (storings.Value q) v st = remembered (store_place st.memory q v) v st
storing p w fr (storings.Old op old t e) q st =
    then_do (answered (load_place st.memory q) st) (λ before st.
    then_do (eval p w fr true (expr_of e.now) st) (λ v st. then_do (answered (updated op (ctype_of t.now) (ctype_of e.now.ctype) st.memory before v) st) (λ new st.
    remembered (store_place st.memory q new) (either old before new) st)))
storing p w fr (storings.New op old t u q before) v st =
    then_do (answered (updated op (ctype_of t.now) (ctype_of u.now) st.memory before v) st) (λ new st.
    remembered (store_place st.memory q new) (either old before new) st)

-- whether a value is not 0
abbrev pub asked : Value → State → Result Bool
asked v st = answered (test st.memory v) st

-- the later parts of what is tested, by whether the value is not 0
abbrev pub chosen : Program → World → Place → Choice → Bool → State → Result Value
chosen p w fr (choices.And e) holds st =
    either holds (then_do (then_do (eval p w fr true (expr_of e.now) st) asked) (λ holds st. Go (truth_value holds) st [])) (Go (truth_value false) st [])
chosen p w fr (choices.Or e) holds st =
    either holds (Go (truth_value true) st []) (then_do (then_do (eval p w fr true (expr_of e.now) st) asked) (λ holds st. Go (truth_value holds) st []))
chosen p w fr choices.Truth holds st = Go (truth_value holds) st []
chosen p w fr (choices.Cond wanted a b) holds st =
    either holds (eval p w fr wanted (expr_of a.now) st) (eval p w fr wanted (expr_of b.now) st)

-- a call with its arguments
abbrev pub made : Program → World → Bool → Callee → List Value → State → Result Value
made p w wanted (callees.Named f) vs st = called p w wanted f vs st
made p w wanted (callees.Through v) vs st = then_do (answered (callee v) st) (λ f st. called_through p w wanted f vs st)

-- what comes of a value in an expression
abbrev pub with_value : Program → World → Place → ValueFrame → Value → State → Result Value
with_value p w fr (values.One step) v st = answered (one_step p.structs step st.memory v) st
with_value p w fr (values.First pair e) v st =
    then_do (eval p w fr true (expr_of e.now) st) (λ u st. answered (two_step pair st.memory v u) st)
with_value p w fr (values.Second pair v) u st = answered (two_step pair st.memory v u) st
with_value p w fr (values.Store s) v st = storing p w fr s v st
with_value p w fr (values.Test c) v st = then_do (asked v st) (chosen p w fr c)
with_value p w fr (values.Members wanted rest) v st = eval_each p w fr wanted (exprs_of rest.now) st
with_value p w fr (values.Designator wanted es) v st =
    then_do (eval_all p w fr (exprs_of es.now) st) (λ vs st. made p w wanted (callees.Through v) vs st)
with_value p w fr (values.Argument wanted f before rest) v st =
    then_do (eval_all p w fr (exprs_of rest.now) st) (λ vs st. made p w wanted f (before.items ++ (v ∷ vs)) st)

-- a round of a loop, and the loop again
abbrev pub round : Program → World → Place → Rounds → Exit → State → Result Exit
round p w fr l x st = on_round x st (λ st. then_do (perhaps p w fr l.step st) (λ y st. w.again fr l st))

-- the body of a loop where its condition holds
abbrev pub going_round : Program → World → Place → Rounds → Bool → State → Result Exit
going_round p w fr l holds st =
    either holds (then_do (exec p w fr l.body st) (round p w fr l)) (Go on st [])

-- nothing takes a value here, or an exit
abbrev pub stuck : {A : Type 0} → Result A
stuck = Stop (Undefined U13) []

-- one of the two statements of an if
abbrev pub one_of : Program → World → Place → Stmt → Bool → State → Result Exit
one_of p w fr (if_else e s r) holds st = either holds (exec p w fr s st) (exec p w fr r st)
one_of p w fr s holds st = stuck

-- the groups of a switch from the one on that has the value
abbrev pub switched : Program → World → Place → Stmt → Value → State → Result Exit
switched p w fr (switch_on e gs) v st =
    then_do (exec_from p w fr (selected v gs) gs st) (λ x st. Go (out_of_switch x) st [])
switched p w fr s v st = stuck

-- what comes of the value of a part of a statement
abbrev pub with_part : Program → World → Place → Valued → Stmt → Value → State → Result Exit
with_part p w fr valued.If s v st = then_do (asked v st) (one_of p w fr s)
with_part p w fr valued.Switch s v st = switched p w fr s v st
with_part p w fr valued.Test s v st = then_do (asked v st) (going_round p w fr (rounds_of s))
with_part p w fr valued.Step s v st = w.again fr (rounds_of s) st

-- what comes of a value in a statement
abbrev pub in_statement : Program → World → Place → StatementFrame → Value → State → Result Exit
in_statement p w fr statements.Forget v st = Go on st []
in_statement p w fr statements.Give v st = Go (returned (Some v)) st []
in_statement p w fr (statements.Initialise x cell rest) v st =
    then_do (remembered (store_place st.memory (place (name_in fr false x) cell 1) v) v st) (λ v st. initialise p w fr x (inits_of rest.now) st)
in_statement p w fr (statements.Part part s) v st = with_part p w fr part (stmt_of s.now) v st

-- what comes of the exit of a part of a statement
abbrev pub after_part : Program → World → Place → Parted → Stmt → Exit → State → Result Exit
after_part p w fr parted.Whole s x st =
    Go x (with_memory st (without fr.activation (locals_of s) st.memory)) []
after_part p w fr parted.Round s x st = round p w fr (rounds_of s) x st
after_part p w fr parted.Head s x st = on_exit x st (w.again fr (rounds_of s))

-- what comes of an exit in a statement
abbrev pub with_exit : Program → World → Place → ExitFrame → Exit → State → Result Exit
with_exit p w fr (exits.Statements ss) x st = on_exit x st (exec_all p w fr (stmts_of ss.now))
with_exit p w fr (exits.Groups gs) x st = on_exit x st (exec_from p w fr zero (groups_of gs.now))
with_exit p w fr exits.Switch x st = Go (out_of_switch x) st []
with_exit p w fr (exits.Part part s) x st = after_part p w fr part (stmt_of s.now) x st

-- so many numbers from this one on
abbrev pub numbers : ℕ → ℕ → List ℕ
numbers x zero = []
numbers x (suc n) = x ∷ numbers (suc x) n

-- what a call gives once its function is left, and its parameters have ended
abbrev pub out_of_call : Place → Call → Exit → State → Result Value
out_of_call fr c x st =
    result_of c.is_main c.wanted x (with_memory st (without fr.activation (numbers 0 c.parameters) st.memory))

abbrev mutual
  -- what is left of the run after a value, where these are left to do
  pub after_value : Program → World → Place → List Frame → Value → State → Result Value
  after_value p w fr [] v st = Stop (exit_of v) []
  after_value p w fr (frames.Value f ∷ k) v st = then_do (with_value p w fr f v st) (after_value p w fr k)
  after_value p w fr (frames.Statement f ∷ k) v st = then_do (in_statement p w fr f v st) (after_exit p w fr k)
  after_value p w fr (frames.Exit f ∷ k) v st = stuck
  after_value p w fr (frames.Call c ∷ k) v st = stuck

  -- the same after an exit
  pub after_exit : Program → World → Place → List Frame → Exit → State → Result Value
  after_exit p w fr [] x st = stuck
  after_exit p w fr (frames.Value f ∷ k) x st = stuck
  after_exit p w fr (frames.Statement f ∷ k) x st = stuck
  after_exit p w fr (frames.Exit f ∷ k) x st = then_do (with_exit p w fr f x st) (after_exit p w fr k)
  after_exit p w fr (frames.Call c ∷ k) x st = then_do (out_of_call fr c x st) (after_value p w (place_of c.caller) k)

-- what comes after an event
abbrev pub then_comes : Program → World → Place → After → List Frame → State → Result Value
then_comes p w fr (afters.Have v) k st = after_value p w fr k v st
then_comes p w fr (afters.Exited status) k st = Stop (ended_by status) []

-- what is left of the run: what comes next, and then these
abbrev pub rest : Program → World → Place → Now → List Frame → State → Result Value
rest p w fr (nows.Eval wanted e) k st = then_do (eval p w fr wanted (expr_of e.now) st) (after_value p w fr k)
rest p w fr (nows.Have v) k st = after_value p w fr k v st
rest p w fr (nows.Exec s) k st = then_do (exec p w fr (stmt_of s.now) st) (after_exit p w fr k)
rest p w fr (nows.Left x) k st = after_exit p w fr k (exit_in x) st
rest p w fr (nows.Enter wanted f vs) k st = then_do (w.enter wanted f vs.items st) (after_value p w fr k)
rest p w fr (nows.Test s) k st = then_do (w.again fr (rounds_of (stmt_of s.now)) st) (after_exit p w fr k)
rest p w fr (nows.Ask x q) k st = then_do (take_record x (asked_by q) st.records st) (after_value p w fr k)
rest p w fr (nows.Told e next) k st = after (e ∷ []) (then_comes p w fr next k st)
rest p w fr (nows.Stopped o) k st = Stop o []
rest p w fr nows.Mistyped k st = stuck
