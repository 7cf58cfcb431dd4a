-- What statements do is said by their shapes: one line for each form.
use Rattle.std.proofs.Common.{◌≡◌, ℕ, zero, suc, ◌<◌, ◌≤◌, Bool, true, false, nat_lt, List, [], ◌++◌, Option, Some, None, slice_get, refl, sym, ◌∙◌, subst, arith}
use Rattle.dm_base.specs.declared.event.Event.{Event}
use Rattle.c_tree.specs.declared.value.IntType.{IntType}
use Rattle.c_tree.specs.declared.value.Value.{Value}
use Rattle.c_tree.specs.Tree.{CType, CTypes, Program}
use Rattle.c_tree.specs.Tree.{Expr, Maybe, absent, there, Inits, no_inits, more_inits}
use Rattle.c_tree.specs.Tree.{Stmt, block, empty, evaluate, declare, if_else, while_loop, do_loop, for_loop, switch_on, break_off, continue_on, return_void, return_value, Stmts, no_stmts, more_stmts, Groups, no_groups, more_groups}
use Rattle.c_tree.specs.Layout.{flat}
use Rattle.c_tree.specs.Program.{IsProgram}
use Rattle.c_tree.specs.Typed.{IsValue, IsTest, IsStep, AreInits, IsFirst, AreFirst, IsStmt, AreStmts, AreGroups}
use Rattle.c_meaning.specs.Shape.{Shape, Loop, Cases, Return, End, Part, Shapes}
use Rattle.c_meaning.specs.Words.{Whole, Falls, Picks, Front, FrontPicks}
use Rattle.c_meaning.specs.Words as F
use Rattle.c_meaning.specs.Mentions.{mentions, mentions_of_maybe, mentions_of_inits, mentions_of_stmt, mentions_of_stmts, mentions_of_groups}
use Rattle.c_meaning.specs.ShapeOf.{seq, seq_two, alt, shape, shape_of_maybe, shapes_of_inits, shape_of_stmt, shapes_of_stmts, shapes_of_groups, has_default, shapes_of}
use Rattle.c_meaning.specs.Meaning.{Marks, Frame, eval, condition, perhaps, initialise, fresh, declared_in, without, leaving, selected, count_groups, exec, exec_all, exec_from, name_in}
use Rattle.c_meaning.specs.Pointers.{place, store_place}
use Rattle.c_meaning.specs.Results.{State, with_memory, Result, Go, then_do, remembered, Exit, on, returned, on_exit, out_of_switch}
use Rattle.c_meaning.specs.Runs.{world}
use Rattle.c_meaning.specs.TypedResults.{StandsIn}
use Rattle.c_meaning.proofs.Standing.{left_part, right_part}
use Rattle.c_meaning.proofs.Lists.{none_in, below, not_below, if_has}
use Rattle.c_meaning.proofs.Words.{Stands, here, stands_falls, out_of, cases_whole}
use Rattle.c_meaning.proofs.Says.{Gives, then_gives, tested_gives, Tells, left_by, Straight, change_tells, after_none, remembered_then, then_left, Says, SaysAll, seq_says, left_says, right_says, part_alone, part_then, then_quiet, tested_says, choice_says, exit_then}
use Rattle.c_meaning.proofs.Loops.{do_says, selected_within}
use Rattle.c_meaning.proofs.Guards.{IsGuarded, IsTied}
use Rattle.c_meaning.proofs.ExpressionsSay.{IsFine, value_says}

module _ (p : Program) (n : ℕ) (right : IsProgram p n) (marks : Marks) (m : F.Marks) (keep : Event → List Event) (ties : IsTied p marks m keep) (Good : Frame → State → Type 0) (Passed : CTypes → List Value → State → Type 0) (guard : IsGuarded p marks Good Passed) (k : ℕ) (goes : IsFine p n right marks m keep ties Good Passed guard k) (fr : Frame) where
  abbrev env : Shapes
  env = shapes_of p

  abbrev E : Bool → Expr → State → Result Value
  E wanted e st = eval p (world p marks k) marks fr wanted e st

  abbrev Keeping : Result Exit → Type 0
  Keeping r = Gives {A = Exit} (λ x st. Good fr st) r

  abbrev Leaving : Shape → Result Exit → Type 0
  Leaving S r = Says env m keep {A = Exit} left_by S r

  value_of : (wanted : Bool) (e : Expr) → IsValue p fr.types e → StandsIn p (mentions e) → (st : State) → Good fr st → Says env m keep {A = Value} Straight (shape p e) (E wanted e st)
  value_of = value_says p n right marks m keep ties Good Passed guard k goes fr

  -- the parts of a loop
  pub condition_says : (e : Maybe) → IsTest p fr.types e → StandsIn p (mentions_of_maybe e) → (st : State) → Good fr st → Says env m keep {A = Bool} Straight (shape_of_maybe p e) (condition p (world p marks k) marks fr e st)
  condition_says absent h l st g = λ u. F.skip
  condition_says (there e) h l st g = tested_says env m keep (shape p e) (E true e st) (value_of true e h.1 l st g)

  pub condition_kept : (e : Maybe) → IsTest p fr.types e → StandsIn p (mentions_of_maybe e) → (st : State) → Good fr st → Gives {A = Bool} (λ b st. Good fr st) (condition p (world p marks k) marks fr e st)
  condition_kept absent h l st g = g
  condition_kept (there e) h l st g = tested_gives (Good fr) (E true e st) (guard.value k fr true e st h.1 l g)

  pub step_says : (e : Maybe) → IsStep p fr.types e → StandsIn p (mentions_of_maybe e) → (st : State) → Good fr st → Says env m keep {A = Exit} Straight (shape_of_maybe p e) (perhaps p (world p marks k) marks fr e st)
  step_says absent h l st g = λ u. F.skip
  step_says (there e) h l st g =
      then_quiet env m keep {A = Value} {B = Exit} Straight (shape p e) (E false e st) _ (value_of false e h l st g) (λ v st u. F.ended)

  pub step_kept : (e : Maybe) → IsStep p fr.types e → StandsIn p (mentions_of_maybe e) → (st : State) → Good fr st → Keeping (perhaps p (world p marks k) marks fr e st)
  step_kept absent h l st g = g
  step_kept (there e) h l st g =
      then_gives {A = Value} {B = Exit} (λ v st. Good fr st) (λ x st. Good fr st) (E false e st) _ (guard.value k fr false e st h l g) (λ v st i. i)

  -- the initialisers of a variable
  inits_say : (x : ℕ) (t : CType) (is : Inits) → slice_get fr.types x ≡ Some t → AreInits p fr.types (flat p.structs t) is → StandsIn p (mentions_of_inits is) → (st : State) → Good fr st → SaysAll env m keep {A = Exit} left_by (shapes_of_inits p is) (initialise p (world p marks k) marks fr x is st)
  inits_say x t no_inits e h l st g = λ u. F.ended
  inits_say x t (more_inits cell a is) e h l st g =
      let i = left_part p (mentions a) (mentions_of_inits is) l in
      part_then env m keep {A = Value} {B = Exit} left_by (shape p a) (shapes_of_inits p is) (λ v u. Gives {A = Value} (λ y z. Good fr z) (remembered (store_place u.memory (place (name_in fr false x) cell 1) v) v u)) (E true a st) _ (value_of true a h.1 i st g) (guard.stored k fr x cell t a st e h.0 h.1 i g) (λ v u j.
      remembered_then keep {A = Value} {B = Exit} left_by (Falls env m (shapes_of_inits p is)) (Stands env m (shapes_of_inits p is)) (λ y z. Good fr z) (store_place u.memory (place (name_in fr false x) cell 1) v) v u _ (λ u. here) j (λ z o. inits_say x t is e h.2 (right_part p (mentions a) (mentions_of_inits is) l) z o))

  declare_says : (x : ℕ) (t : CType) (is : Inits) (o : Option CType) → slice_get fr.types x ≡ o → o ≡ Some t → AreInits p fr.types (flat p.structs t) is → StandsIn p (mentions_of_inits is) → (st : State) → Good fr st → SaysAll env m keep {A = Exit} left_by (shapes_of_inits p is) (then_do (fresh p.structs fr x o st) (λ y st. initialise p (world p marks k) marks fr x is st))
  declare_says x t is None e q h l st g = λ u. here
  declare_says x t is (Some c) e q h l st g =
      after_none keep {A = Exit} left_by (Falls env m (shapes_of_inits p is)) (Stands env m (shapes_of_inits p is)) (initialise p (world p marks k) marks fr x is _) (inits_say x t is (e ∙ q) h l _ (guard.fresh_kept fr x c st e g))

  -- the ends of variables
  leaving_says : (S : Shape) (xs : List ℕ) (r : Result Exit) → Leaving S r → Leaving S (leaving fr xs r)
  leaving_says S xs r h =
      then_left keep {A = Exit} {B = Exit} left_by left_by (Whole env m S) (Whole env m S) (Front env m S) r (λ x st. x) (λ x st. with_memory st (without fr.activation xs st.memory)) (λ x st t u z. z) h

  -- what may stand first in the head of a for is a statement
  first_is : (r : CType) (s : Stmt) → IsFirst p fr.types s → IsStmt p fr.types r false false s
  first_is r (evaluate e) h = h
  first_is r (declare x is) h = h
  first_is r _ h = absurd h

  first_are : (r : CType) (ss : Stmts) → AreFirst p fr.types ss → AreStmts p fr.types r false false ss
  first_are r no_stmts h = tt
  first_are r (more_stmts s ss) h = (first_is r s h.0, first_are r ss h.1)

  -- statements in order keep what is good
  stmts_kept : (r : CType) (b c : Bool) (ss : Stmts) → AreStmts p fr.types r b c ss → StandsIn p (mentions_of_stmts ss) → (st : State) → Good fr st → Keeping (exec_all p (world p marks k) marks fr ss st)
  stmts_kept r b c no_stmts h l st g = g
  stmts_kept r b c (more_stmts s ss) h l st g =
      then_gives {A = Exit} {B = Exit} (λ x st. Good fr st) (λ x st. Good fr st) (exec p (world p marks k) marks fr s st) _ (guard.statement k fr r b c s st h.0 (left_part p (mentions_of_stmt s) (mentions_of_stmts ss) l) g) (λ x st i. by x st i (stmts_kept r b c ss h.1 (right_part p (mentions_of_stmt s) (mentions_of_stmts ss) l)))
    where
      by : (x : Exit) (st : State) → Good fr st → ((st : State) → Good fr st → Keeping (exec_all p (world p marks k) marks fr ss st)) → Keeping (on_exit x st (exec_all p (world p marks k) marks fr ss))
      by on st i rest = rest st i
      by x st i rest = i

  -- past all groups of a switch
  past_all : (gs : Groups) (j : ℕ) (st : State) → count_groups gs ≤ j → exec_from p (world p marks k) marks fr j gs st ≡ Go on st []
  past_all no_groups j st le = refl
  past_all (more_groups ls ss gs) zero st le = absurd (omega (arith, le))
  past_all (more_groups ls ss gs) (suc j) st le = past_all gs j st (omega (arith, le))

  -- from a group of a switch on
  abbrev Picking : Groups → Result Exit → Type 0
  Picking gs r = Tells keep {A = Exit} left_by (Picks env m (shapes_of_groups p gs)) (FrontPicks env m (shapes_of_groups p gs)) r

  switch_left : (gs : Groups) (d : Bool) (r : Result Exit) → Picking gs r → Leaving (Cases (shapes_of_groups p gs) d) (then_do r (λ x st. Go (out_of_switch x) st []))
  switch_left gs d r h =
      then_left keep {A = Exit} {B = Exit} left_by left_by (λ x t u. Whole env m (Cases (shapes_of_groups p gs) d) (out_of x) t u) (Whole env m (Cases (shapes_of_groups p gs) d)) (Front env m (Cases (shapes_of_groups p gs) d)) r (λ x st. out_of_switch x) (λ x st. st) (λ x st t u z. subst (λ y. Whole env m (Cases (shapes_of_groups p gs) d) y t u) (same x) z) (change_tells keep {A = Exit} left_by (Picks env m (shapes_of_groups p gs)) (λ x t u. Whole env m (Cases (shapes_of_groups p gs) d) (out_of x) t u) (FrontPicks env m (shapes_of_groups p gs)) (Front env m (Cases (shapes_of_groups p gs) d)) r (λ x t u z. cases_whole env m x z) (λ t u z. F.in_cases z) h)
    where
      same : (x : Exit) → out_of (left_by x) ≡ left_by (out_of_switch x)
      same (returned v) = refl
      same x = refl

  none_left : (gs : Groups) (j : ℕ) (st : State) (d : Bool) → d ≡ false → count_groups gs ≤ j → Leaving (Cases (shapes_of_groups p gs) d) (then_do (exec_from p (world p marks k) marks fr j gs st) (λ x st. Go (out_of_switch x) st []))
  none_left gs j st d e le =
      subst (λ r. Leaving (Cases (shapes_of_groups p gs) d) (then_do r (λ x st. Go (out_of_switch x) st []))) (sym (past_all gs j st le)) (subst (λ d. Leaving (Cases (shapes_of_groups p gs) d) (Go on st [])) (sym e) (λ u. F.cases_none))

  -- a switch goes on at a group, or past all of them where none has the label default
  switch_says : (v : Value) (gs : Groups) (st : State) → (selected v gs < count_groups gs → Picking gs (exec_from p (world p marks k) marks fr (selected v gs) gs st)) → Leaving (Cases (shapes_of_groups p gs) (has_default gs)) (then_do (exec_from p (world p marks k) marks fr (selected v gs) gs st) (λ x st. Go (out_of_switch x) st []))
  switch_says v gs st h =
      if_has {A = Bool} (λ x. Leaving (Cases (shapes_of_groups p gs) (has_default gs)) (then_do (exec_from p (world p marks k) marks fr (selected v gs) gs st) (λ x st. Go (out_of_switch x) st []))) (nat_lt (selected v gs) (count_groups gs)) true false (λ e. switch_left gs (has_default gs) _ (h (below (selected v gs) (count_groups gs) e))) (λ e. none_left gs (selected v gs) st (has_default gs) (none (has_default gs) refl (not_below (selected v gs) (count_groups gs) e)) (not_below (selected v gs) (count_groups gs) e))
    where
      none : (b : Bool) → has_default gs ≡ b → count_groups gs ≤ selected v gs → has_default gs ≡ false
      none true e le = let lt = selected_within v gs e in absurd (omega (arith, lt, le))
      none false e le = e

  mutual
    pub stmt_says : (r : CType) (b c : Bool) (s : Stmt) → IsStmt p fr.types r b c s → StandsIn p (mentions_of_stmt s) → (st : State) → Good fr st → Leaving (shape_of_stmt p s) (exec p (world p marks k) marks fr s st)
    stmt_says r b c (block ss) h l st g =
        leaving_says (seq (shapes_of_stmts p ss)) (declared_in ss) _ (seq_says env m keep {A = Exit} left_by (shapes_of_stmts p ss) _ (stmts_say r b c ss h l st g))
    stmt_says r b c empty h l st g = λ u. F.skip
    stmt_says r b c (evaluate e) h l st g =
        then_quiet env m keep {A = Value} {B = Exit} left_by (shape p e) (E false e st) _ (value_of false e h l st g) (λ v st u. F.ended)
    stmt_says r b c (declare x is) h l st g =
        seq_says env m keep {A = Exit} left_by (shapes_of_inits p is) _ (declare_says x h.0 is (slice_get fr.types x) refl h.1 h.2 l st g)
    stmt_says r b c (if_else e s u) h l st g =
        let i = left_part p (mentions e) (mentions_of_stmt s ++ mentions_of_stmt u) l in
        let j = right_part p (mentions e) (mentions_of_stmt s ++ mentions_of_stmt u) l in
        let S = shape_of_stmt p s in
        let U = shape_of_stmt p u in
        choice_says env m keep {A = Exit} left_by (shape p e) (alt S U) (Good fr) (E true e st) (exec p (world p marks k) marks fr s) (exec p (world p marks k) marks fr u) (value_of true e h.0.1 i st g) (guard.value k fr true e st h.0.1 i g) (λ st q. (left_says env m keep {A = Exit} left_by S U _ (stmt_says r b c s h.1 (left_part p (mentions_of_stmt s) (mentions_of_stmt u) j) st q), right_says env m keep {A = Exit} left_by S U _ (stmt_says r b c u h.2 (right_part p (mentions_of_stmt s) (mentions_of_stmt u) j) st q)))
    stmt_says r b c (while_loop e s) h l st g =
        goes.again fr r _ st h.0 h.1 tt (left_part p (mentions e) (mentions_of_stmt s) l) (right_part p (mentions e) (mentions_of_stmt s) l) (λ x q. absurd (none_in x q)) g
    stmt_says r b c (do_loop s e) h l st g =
        let i = left_part p (mentions_of_stmt s) (mentions e) l in
        let j = right_part p (mentions_of_stmt s) (mentions e) l in
        do_says env m keep (shape_of_stmt p s) (shape p e) (Good fr) (exec p (world p marks k) marks fr s st) _ (stmt_says r true true s h.0 i st g) (guard.statement k fr r true true s st h.0 i g) (λ st o. goes.again fr r _ st h.1 h.0 tt j i (λ x q. absurd (none_in x q)) o)
    stmt_says r b c (for_loop first test step s) h l st g =
        let others = mentions_of_maybe test ++ (mentions_of_maybe step ++ mentions_of_stmt s) in
        let i = left_part p (mentions_of_stmts first) others l in
        let j = right_part p (mentions_of_stmts first) others l in
        let o = right_part p (mentions_of_maybe test) (mentions_of_maybe step ++ mentions_of_stmt s) j in
        let S = seq (shapes_of_stmts p first) in
        let L = Loop (shape_of_maybe p test) (shape_of_stmt p s) (shape_of_maybe p step) in
        leaving_says (seq_two S L) (declared_in first) _ (seq_says env m keep {A = Exit} left_by (Part S (Part L End)) _ (exit_then env m keep S (Part L End) (λ x st. Good fr st) (exec_all p (world p marks k) marks fr first st) _ (seq_says env m keep {A = Exit} left_by (shapes_of_stmts p first) _ (stmts_say r false false first (first_are r first h.0) i st g)) (stmts_kept r false false first (first_are r first h.0) i st g) (λ x st q.
        part_alone env m keep {A = Exit} left_by L _ (goes.again fr r _ st h.1 h.3 h.2 (left_part p (mentions_of_maybe test) (mentions_of_maybe step ++ mentions_of_stmt s) j) (right_part p (mentions_of_maybe step) (mentions_of_stmt s) o) (left_part p (mentions_of_maybe step) (mentions_of_stmt s) o) q))))
    stmt_says r b c (switch_on e gs) h l st g =
        let i = left_part p (mentions e) (mentions_of_groups gs) l in
        let C = Cases (shapes_of_groups p gs) (has_default gs) in
        seq_says env m keep {A = Exit} left_by (Part (shape p e) (Part C End)) _ (part_then env m keep {A = Value} {B = Exit} left_by (shape p e) (Part C End) (λ v st. Good fr st) (E true e st) _ (value_of true e h.3 i st g) (guard.value k fr true e st h.3 i g) (λ v st q.
        part_alone env m keep {A = Exit} left_by C _ (switch_says v gs st (groups_say r c h.0 gs h.5 (right_part p (mentions e) (mentions_of_groups gs) l) (selected v gs) st q))))
    stmt_says r b c break_off h l st g = λ u. F.break_out
    stmt_says r b c continue_on h l st g = λ u. F.continue_on
    stmt_says r b c return_void h l st g = λ u. F.return_now
    stmt_says r b c (return_value e) h l st g =
        seq_says env m keep {A = Exit} left_by (Part (shape p e) (Part Return End)) _ (part_then env m keep {A = Value} {B = Exit} left_by (shape p e) (Part Return End) (λ v st. Good fr st) (E true e st) _ (value_of true e h.2 l st g) (guard.value k fr true e st h.2 l g) (λ v st q. part_alone env m keep {A = Exit} left_by Return (Go (returned (Some v)) st []) (λ u. F.return_now)))

    stmts_say : (r : CType) (b c : Bool) (ss : Stmts) → AreStmts p fr.types r b c ss → StandsIn p (mentions_of_stmts ss) → (st : State) → Good fr st → SaysAll env m keep {A = Exit} left_by (shapes_of_stmts p ss) (exec_all p (world p marks k) marks fr ss st)
    stmts_say r b c no_stmts h l st g = λ u. F.ended
    stmts_say r b c (more_stmts s ss) h l st g =
        let i = left_part p (mentions_of_stmt s) (mentions_of_stmts ss) l in
        exit_then env m keep (shape_of_stmt p s) (shapes_of_stmts p ss) (λ x st. Good fr st) (exec p (world p marks k) marks fr s st) (exec_all p (world p marks k) marks fr ss) (stmt_says r b c s h.0 i st g) (guard.statement k fr r b c s st h.0 i g) (λ x st q. stmts_say r b c ss h.1 (right_part p (mentions_of_stmt s) (mentions_of_stmts ss) l) st q)

    groups_say : (r : CType) (c : Bool) (t : IntType) (gs : Groups) → AreGroups p fr.types r c t gs → StandsIn p (mentions_of_groups gs) → (j : ℕ) (st : State) → Good fr st → j < count_groups gs → Picking gs (exec_from p (world p marks k) marks fr j gs st)
    groups_say r c t no_groups h l j st g lt = absurd (omega (arith, lt))
    groups_say r c t (more_groups ls ss gs) h l zero st g lt =
        let i = left_part p (mentions_of_stmts ss) (mentions_of_groups gs) l in
        change_tells keep {A = Exit} left_by (Falls env m (shapes_of_groups p (more_groups ls ss gs))) (Picks env m (shapes_of_groups p (more_groups ls ss gs))) (Stands env m (shapes_of_groups p (more_groups ls ss gs))) (FrontPicks env m (shapes_of_groups p (more_groups ls ss gs))) _ (λ x t u z. F.this z) (λ t u z. F.from_this (stands_falls env m z)) (exit_then env m keep (seq (shapes_of_stmts p ss)) (shapes_of_groups p gs) (λ x st. Good fr st) (exec_all p (world p marks k) marks fr ss st) _ (seq_says env m keep {A = Exit} left_by (shapes_of_stmts p ss) _ (stmts_say r true c ss h.1 i st g)) (stmts_kept r true c ss h.1 i st g) (λ x st q. all_groups_say r c t gs h.2 (right_part p (mentions_of_stmts ss) (mentions_of_groups gs) l) st q))
    groups_say r c t (more_groups ls ss gs) h l (suc j) st g lt =
        change_tells keep {A = Exit} left_by (Picks env m (shapes_of_groups p gs)) (Picks env m (shapes_of_groups p (more_groups ls ss gs))) (FrontPicks env m (shapes_of_groups p gs)) (FrontPicks env m (shapes_of_groups p (more_groups ls ss gs))) _ (λ x t u z. F.later z) (λ t u z. F.from_later z) (groups_say r c t gs h.2 (right_part p (mentions_of_stmts ss) (mentions_of_groups gs) l) j st g (omega (arith, lt)))

    all_groups_say : (r : CType) (c : Bool) (t : IntType) (gs : Groups) → AreGroups p fr.types r c t gs → StandsIn p (mentions_of_groups gs) → (st : State) → Good fr st → SaysAll env m keep {A = Exit} left_by (shapes_of_groups p gs) (exec_from p (world p marks k) marks fr zero gs st)
    all_groups_say r c t no_groups h l st g = λ u. F.ended
    all_groups_say r c t (more_groups ls ss gs) h l st g =
        let i = left_part p (mentions_of_stmts ss) (mentions_of_groups gs) l in
        exit_then env m keep (seq (shapes_of_stmts p ss)) (shapes_of_groups p gs) (λ x st. Good fr st) (exec_all p (world p marks k) marks fr ss st) _ (seq_says env m keep {A = Exit} left_by (shapes_of_stmts p ss) _ (stmts_say r true c ss h.1 i st g)) (stmts_kept r true c ss h.1 i st g) (λ x st q. all_groups_say r c t gs h.2 (right_part p (mentions_of_stmts ss) (mentions_of_groups gs) l) st q)
