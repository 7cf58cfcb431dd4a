-- In a machine the statements of a well-typed program do what they mean.
use Rattle.std.proofs.Common.{◌≡◌, ℕ, zero, suc, Bool, true, false, [], ◌++◌, Some, slice_get, sym, ap, ◌∙◌, refl}
use Rattle.c_tree.specs.declared.value.IntType.{IntType}
use Rattle.c_tree.specs.declared.value.Value.{Value}
use Rattle.c_tree.specs.Tree.{CType, Program, type_of, Maybe, absent, there, Inits, no_inits, more_inits}
use Rattle.c_tree.specs.Tree.{Stmt, block, evaluate, declare, if_else, while_loop, do_loop, for_loop, switch_on, return_value, Stmts, no_stmts, more_stmts, Groups, no_groups, more_groups}
use Rattle.c_tree.specs.Layout.{flat, cells}
use Rattle.c_tree.specs.Kinds.{Objects}
use Rattle.c_tree.specs.Program.{IsProgram}
use Rattle.c_tree.specs.Typed.{IsTest, IsStep, AreInits, IsDeclare, IsFirst, AreFirst, IsStmt, AreStmts, AreGroups}
use Rattle.c_values.specs.Answers.{gives}
use Rattle.c_values.specs.Memory.{declared}
use Rattle.c_meaning.specs.Mentions.{mentions, mentions_of_maybe, mentions_of_inits, mentions_of_stmt, mentions_of_stmts, mentions_of_groups}
use Rattle.c_meaning.specs.Meaning as meaning
use Rattle.c_meaning.specs.Meaning.{Frame, Loop, World, name_in, leaving, declared_in, selected, tested}
use Rattle.c_meaning.specs.Results.{State, with_memory, Result, Go, then_do, answered, Exit, on, broken, continued, returned, on_exit, on_round}
use Rattle.c_meaning.specs.Runs.{no_marks}
use Rattle.c_meaning.specs.StoreTyping.{IsTypedState, Grows, IsTypedFrame}
use Rattle.c_meaning.specs.TypedResults.{EndsTyped, IsExit, StandsIn, StandsRound, IsTypedWorld}
use Rattle.c_meaning.proofs.Places.{flat_scalar, grows_on}
use Rattle.c_meaning.proofs.Keeps.{scalar_kind, cell_ends, fresh_ends, first_ends, exec_ends, stmts_end, groups_end}
use Rattle.c_meaning.proofs.Standing.{left_part, right_part, stands_empty}
use Rattle.ref_machine_frames.specs.Cells.{few_cells}
use Rattle.ref_machine_frames.specs.Held.{condition, perhaps, initialise, fresh, exec, exec_all, exec_from}
use Rattle.ref_machine_frames.proofs.HeldSteps.{few_same}
use Rattle.ref_machine_frames.proofs.HeldExpressions.{none_recorded, then_same, either_same, EnterAlike, on_frame, on_value, on_test, value_same}

exit_same : (x : Exit) (st : State) (f g : State → Result Exit) → f st ≡ g st → on_exit x st f ≡ on_exit x st g
exit_same on st f g h = h
exit_same broken st f g h = refl
exit_same continued st f g h = refl
exit_same (returned v) st f g h = refl

pub round_same : (x : Exit) (st : State) (f g : State → Result Exit) → f st ≡ g st → on_round x st f ≡ on_round x st g
round_same on st f g h = h
round_same broken st f g h = refl
round_same continued st f g h = h
round_same (returned v) st f g h = refl

module _ (p : Program) (n : ℕ) (typed : IsProgram p n) where
  -- two worlds go round loops alike where their parts are typed
  abbrev pub AgainAlike : World → World → Type 0
  AgainAlike v w =
      (fr : Frame) (r : CType) (l : Loop) (o : Objects) (st : State) → IsTypedFrame p o fr → IsTest p fr.types l.test → IsStmt p fr.types r true true l.body → IsStep p fr.types l.step → StandsRound p l → IsTypedState p o st → v.again fr l st ≡ w.again fr l st

  module _ (v w : World) (goes : IsTypedWorld p w) (enters : EnterAlike p n typed v w) (agains : AgainAlike v w) (fr : Frame) where
    framed : (o u : Objects) → Grows o u → IsTypedFrame p o fr → IsTypedFrame p u fr
    framed o u g s = on_frame p n typed v w goes enters fr o u g s

    inits_same : (r t : CType) (x : ℕ) (is : Inits) (o : Objects) (st : State) → IsTypedFrame p o fr → slice_get fr.types x ≡ Some t → AreInits p fr.types (flat p.structs t) is → StandsIn p (mentions_of_inits is) → IsTypedState p o st → initialise p v fr x is st ≡ meaning.initialise p w no_marks fr x is st
    inits_same r t x no_inits o st s e h m k = refl
    inits_same r t x (more_inits cell a is) o st s e h m k =
        let b = flat_scalar p.structs t cell (type_of a) h.0 in
        on_value p n typed v w goes enters fr {B = Exit} true a (value_same p n typed v w goes enters fr true a) o st _ _ s h.1 (left_part p (mentions a) (mentions_of_inits is) m) k (λ u y st g i k. then_same p {A = Value} {B = Exit} _ u _ _ _ _ _ (cell_ends p n typed no_marks none_recorded w goes fr u x cell t (type_of a) y st (framed o u g s) e h.0 (scalar_kind p n typed no_marks none_recorded (type_of a) u y b i) k) refl (λ u' y st g' i k. inits_same r t x is u' st (framed o u' (grows_on o u u' g g') s) e h.2 (right_part p (mentions a) (mentions_of_inits is) m) k))

    fresh_same : (x : ℕ) (t : CType) (o : Objects) (st : State) → IsTypedFrame p o fr → slice_get fr.types x ≡ Some t → fresh p.structs fr x (slice_get fr.types x) st ≡ meaning.fresh p.structs fr x (slice_get fr.types x) st
    fresh_same x t o st s e =
        let few : few_cells (cells p.structs t) ≡ gives (cells p.structs t) = few_same (cells p.structs t) (s.objects x t e).few in
        ap (λ c. fresh p.structs fr x c st) e ∙ (ap (λ a. then_do (answered a st) (λ k st. Go on (with_memory st (declared st.memory (name_in fr false x) k)) [])) few ∙ ap (λ c. meaning.fresh p.structs fr x c st) (sym e))

    declare_same : (r : CType) (x : ℕ) (is : Inits) (o : Objects) (st : State) → IsTypedFrame p o fr → IsDeclare p fr.types x is → StandsIn p (mentions_of_inits is) → IsTypedState p o st → exec p v fr (declare x is) st ≡ meaning.exec p w no_marks fr (declare x is) st
    declare_same r x is o st s h m k =
        then_same p {A = Exit} {B = Exit} (IsExit p r false false) o _ _ _ _ _ (fresh_ends p n typed no_marks none_recorded w goes fr r h.0 x o st s h.1 k) (fresh_same x h.0 o st s h.1) (λ u y st g i k. inits_same r h.0 x is u st (framed o u g s) h.1 h.2 m k)

    -- what stands first in the head of a for
    first_same : (r : CType) (ss : Stmts) (o : Objects) (st : State) → IsTypedFrame p o fr → AreFirst p fr.types ss → StandsIn p (mentions_of_stmts ss) → IsTypedState p o st → exec_all p v fr ss st ≡ meaning.exec_all p w no_marks fr ss st
    first_same r no_stmts o st s h m k = refl
    first_same r (more_stmts a ss) o st s h m k =
        let mine = left_part p (mentions_of_stmt a) (mentions_of_stmts ss) m in
        then_same p {A = Exit} {B = Exit} (IsExit p r false false) o _ _ _ _ _ (one_ends a h.0 mine) (one_same a h.0 mine) (λ u x st g i k. exit_same x st _ _ (first_same r ss u st (framed o u g s) h.1 (right_part p (mentions_of_stmt a) (mentions_of_stmts ss) m) k))
      where
        one_ends : (a : Stmt) → IsFirst p fr.types a → StandsIn p (mentions_of_stmt a) → EndsTyped p {A = Exit} (IsExit p r false false) o st.entries (meaning.exec p w no_marks fr a st)
        one_ends (evaluate e) h m = exec_ends p n typed no_marks none_recorded w goes fr r false false (evaluate e) o st s h m k
        one_ends (declare x is) h m = exec_ends p n typed no_marks none_recorded w goes fr r false false (declare x is) o st s h m k
        one_ends _ h m = absurd h

        one_same : (a : Stmt) → IsFirst p fr.types a → StandsIn p (mentions_of_stmt a) → exec p v fr a st ≡ meaning.exec p w no_marks fr a st
        one_same (evaluate e) h m =
            on_value p n typed v w goes enters fr {B = Exit} false e (value_same p n typed v w goes enters fr false e) o st _ _ s h m k (λ u x st g i k. refl)
        one_same (declare x is) h m = declare_same r x is o st s h m k
        one_same _ h m = absurd h

    mutual
      pub exec_same : (r : CType) (breaks continues : Bool) (a : Stmt) (o : Objects) (st : State) → IsTypedFrame p o fr → IsStmt p fr.types r breaks continues a → StandsIn p (mentions_of_stmt a) → IsTypedState p o st → exec p v fr a st ≡ meaning.exec p w no_marks fr a st
      exec_same r breaks continues (block ss) o st s h m k = ap (leaving fr (declared_in ss)) (stmts_same r breaks continues ss o st s h m k)
      exec_same r breaks continues (evaluate e) o st s h m k =
          on_value p n typed v w goes enters fr {B = Exit} false e (value_same p n typed v w goes enters fr false e) o st _ _ s h m k (λ u x st g i k. refl)
      exec_same r breaks continues (declare x is) o st s h m k = declare_same r x is o st s h m k
      exec_same r breaks continues (if_else e a b) o st s h m k =
          let rest = right_part p (mentions e) (mentions_of_stmt a ++ mentions_of_stmt b) m in
          on_test p n typed v w goes enters fr {B = Exit} e (value_same p n typed v w goes enters fr true e) o st _ _ s h.0 (left_part p (mentions e) (mentions_of_stmt a ++ mentions_of_stmt b) m) k (λ u holds st g k. either_same {A = Result Exit} holds _ _ _ _ (exec_same r breaks continues a u st (framed o u g s) h.1 (left_part p (mentions_of_stmt a) (mentions_of_stmt b) rest) k) (exec_same r breaks continues b u st (framed o u g s) h.2 (right_part p (mentions_of_stmt a) (mentions_of_stmt b) rest) k))
      exec_same r breaks continues (while_loop e a) o st s h m k =
          agains fr r (record { test = there e; body = a; step = absent }) o st s h.0 h.1 tt (record { test = left_part p (mentions e) (mentions_of_stmt a) m; body = right_part p (mentions e) (mentions_of_stmt a) m; step = stands_empty p }) k
      exec_same r breaks continues (do_loop a e) o st s h m k =
          let body = left_part p (mentions_of_stmt a) (mentions e) m in
          then_same p {A = Exit} {B = Exit} (IsExit p r true true) o _ _ _ _ _ (exec_ends p n typed no_marks none_recorded w goes fr r true true a o st s h.0 body k) (exec_same r true true a o st s h.0 body k) (λ u x st g i k. round_same x st _ _ (agains fr r (record { test = there e; body = a; step = absent }) u st (framed o u g s) h.1 h.0 tt (record { test = right_part p (mentions_of_stmt a) (mentions e) m; body = body; step = stands_empty p }) k))
      exec_same r breaks continues (for_loop first test step a) o st s h m k =
          let early = left_part p (mentions_of_stmts first) (mentions_of_maybe test ++ (mentions_of_maybe step ++ mentions_of_stmt a)) m in
          let later = right_part p (mentions_of_stmts first) (mentions_of_maybe test ++ (mentions_of_maybe step ++ mentions_of_stmt a)) m in
          let rest = right_part p (mentions_of_maybe test) (mentions_of_maybe step ++ mentions_of_stmt a) later in
          ap (leaving fr (declared_in first)) (then_same p {A = Exit} {B = Exit} (IsExit p r false false) o _ _ _ _ _ (first_ends p n typed no_marks none_recorded w goes fr r first o st s h.0 early k) (first_same r first o st s h.0 early k) (λ u x st g i k. exit_same x st _ _ (agains fr r (record { test = test; body = a; step = step }) u st (framed o u g s) h.1 h.3 h.2 (record { test = left_part p (mentions_of_maybe test) (mentions_of_maybe step ++ mentions_of_stmt a) later; body = right_part p (mentions_of_maybe step) (mentions_of_stmt a) rest; step = left_part p (mentions_of_maybe step) (mentions_of_stmt a) rest }) k)))
      exec_same r breaks continues (switch_on e gs) o st s h m k =
          let rest = right_part p (mentions e) (mentions_of_groups gs) m in
          on_value p n typed v w goes enters fr {B = Exit} true e (value_same p n typed v w goes enters fr true e) o st _ _ s h.3 (left_part p (mentions e) (mentions_of_groups gs) m) k (λ u x st g i k. then_same p {A = Exit} {B = Exit} (IsExit p r true continues) u _ _ _ _ _ (groups_end p n typed no_marks none_recorded w goes fr r continues h.0 (selected x gs) gs u st (framed o u g s) h.5 rest k) (groups_same r continues h.0 (selected x gs) gs u st (framed o u g s) h.5 rest k) (λ u y st g i k. refl))
      exec_same r breaks continues (return_value e) o st s h m k =
          on_value p n typed v w goes enters fr {B = Exit} true e (value_same p n typed v w goes enters fr true e) o st _ _ s h.2 m k (λ u x st g i k. refl)
      exec_same r breaks continues a o st s h m k = refl

      stmts_same : (r : CType) (breaks continues : Bool) (ss : Stmts) (o : Objects) (st : State) → IsTypedFrame p o fr → AreStmts p fr.types r breaks continues ss → StandsIn p (mentions_of_stmts ss) → IsTypedState p o st → exec_all p v fr ss st ≡ meaning.exec_all p w no_marks fr ss st
      stmts_same r breaks continues no_stmts o st s h m k = refl
      stmts_same r breaks continues (more_stmts a ss) o st s h m k =
          let mine = left_part p (mentions_of_stmt a) (mentions_of_stmts ss) m in
          then_same p {A = Exit} {B = Exit} (IsExit p r breaks continues) o _ _ _ _ _ (exec_ends p n typed no_marks none_recorded w goes fr r breaks continues a o st s h.0 mine k) (exec_same r breaks continues a o st s h.0 mine k) (λ u x st g i k. exit_same x st _ _ (stmts_same r breaks continues ss u st (framed o u g s) h.1 (right_part p (mentions_of_stmt a) (mentions_of_stmts ss) m) k))

      groups_same : (r : CType) (continues : Bool) (i : IntType) (j : ℕ) (gs : Groups) (o : Objects) (st : State) → IsTypedFrame p o fr → AreGroups p fr.types r continues i gs → StandsIn p (mentions_of_groups gs) → IsTypedState p o st → exec_from p v fr j gs st ≡ meaning.exec_from p w no_marks fr j gs st
      groups_same r continues i j no_groups o st s h m k = refl
      groups_same r continues i zero (more_groups ls ss gs) o st s h m k =
          let mine = left_part p (mentions_of_stmts ss) (mentions_of_groups gs) m in
          then_same p {A = Exit} {B = Exit} (IsExit p r true continues) o _ _ _ _ _ (stmts_end p n typed no_marks none_recorded w goes fr r true continues ss o st s h.1 mine k) (stmts_same r true continues ss o st s h.1 mine k) (λ u x st g e k. exit_same x st _ _ (groups_same r continues i zero gs u st (framed o u g s) h.2 (right_part p (mentions_of_stmts ss) (mentions_of_groups gs) m) k))
      groups_same r continues i (suc j) (more_groups ls ss gs) o st s h m k = groups_same r continues i j gs o st s h.2 (right_part p (mentions_of_stmts ss) (mentions_of_groups gs) m) k

    pub condition_same : (e : Maybe) (o : Objects) (st : State) → IsTypedFrame p o fr → IsTest p fr.types e → StandsIn p (mentions_of_maybe e) → IsTypedState p o st → condition p v fr e st ≡ meaning.condition p w no_marks fr e st
    condition_same absent o st s h m k = refl
    condition_same (there e) o st s h m k = ap tested (value_same p n typed v w goes enters fr true e o st s h.1 m k)

    pub perhaps_same : (e : Maybe) (o : Objects) (st : State) → IsTypedFrame p o fr → IsStep p fr.types e → StandsIn p (mentions_of_maybe e) → IsTypedState p o st → perhaps p v fr e st ≡ meaning.perhaps p w no_marks fr e st
    perhaps_same absent o st s h m k = refl
    perhaps_same (there e) o st s h m k =
        on_value p n typed v w goes enters fr {B = Exit} false e (value_same p n typed v w goes enters fr false e) o st _ _ s h m k (λ u x st g i k. refl)
