-- Statements with null calls round their marked calls do what the statements do.
use Rattle.std.proofs.Common.{◌≡◌, ℕ, zero, suc, ◌+◌, ◌≤◌, Bool, true, false, List, [], ◌++◌, length, Some, None, slice_get, sym, ap, ◌∙◌, subst, refl, arith}
use Rattle.c_tree.specs.declared.value.IntType.{IntType}
use Rattle.c_tree.specs.declared.value.Value.{Value}
use Rattle.c_tree.specs.Tree.{CType, Expr, Program, type_of, absent, there, Inits, no_inits, more_inits}
use Rattle.c_tree.specs.Tree.{Stmt, block, evaluate, declare, if_else, while_loop, do_loop, for_loop, switch_on, return_value, Stmts, no_stmts, more_stmts, Groups, no_groups, more_groups}
use Rattle.c_tree.specs.Layout.{flat, cells}
use Rattle.c_tree.specs.Kinds.{Objects}
use Rattle.c_tree.specs.Program.{IsProgram}
use Rattle.c_tree.specs.Typed.{IsValue, IsTest, IsStep, AreInits, IsDeclare, IsStmt, AreStmts, AreGroups}
use Rattle.c_values.specs.Memory.{declared}
use Rattle.c_values.specs.Memory.{Objects as Memory}
use Rattle.c_meaning.specs.Mentions.{mentions, mentions_of_maybe, mentions_of_inits, mentions_of_stmt, mentions_of_stmts, mentions_of_groups}
use Rattle.c_meaning.specs.Meaning.{Frame, Loop, World, name_in, initialise, fresh, declared_by, declared_in, without, leaving, selected, eval, exec, exec_all, exec_from}
use Rattle.c_meaning.specs.Pointers.{place}
use Rattle.c_meaning.specs.Results.{State, with_memory, Result, Go, Stop, then_do, Exit, on, returned, out_of_switch}
use Rattle.c_meaning.specs.Runs.{no_marks}
use Rattle.c_meaning.specs.StoreTyping.{Grows, TellsAlike, IsTypedFrame}
use Rattle.c_meaning.specs.TypedResults.{IsExit, StandsIn, StandsRound, IsTypedWorld}
use Rattle.c_meaning.proofs.Places.{flat_scalar, grows_on}
use Rattle.c_meaning.proofs.Keeps.{scalar_kind, cell_ends, fresh_ends, first_ends, exec_ends, stmts_end, groups_end}
use Rattle.c_meaning.proofs.Standing.{left_part, right_part, stands_empty}
use Rattle.c_meaning.proofs.Together.{Hidden, beside_changed, stay_changed, told_shown}
use Rattle.c_meaning.proofs.Statements.{AreShown, shown_both, without_beside, without_stays}
use Rattle.null_calls_laws.specs.MarkedRuns.{null_calls_of}
use Rattle.null_calls_laws.proofs.TypedRuns.{null_calls_recorded}
use Rattle.null_calls_laws.specs.InstrumentedPrograms.{kept, kept_of_maybe, kept_of_inits, kept_of_stmt, kept_of_stmts, kept_of_groups, expr, maybe, inits, stmt, stmts, groups, instrumented_program}
use Rattle.null_calls_laws.proofs.PieceLemmas.{shapes_stay}
use Rattle.null_calls_laws.proofs.Beside.{Does, here, wider, lift, either_does, exit_does, round_does, Here, then_same}
use Rattle.null_calls_laws.proofs.Scalars.{first_stmts}
use Rattle.null_calls_laws.proofs.CallRuns.{Enters}
use Rattle.null_calls_laws.proofs.ExpressionRuns.{Fits, fits_left, fits_right, on_frame, on_value, on_effect, on_test, stored, value_does}

-- loops do alike
abbrev pub Agains : Program → World → World → Type 0
Agains p w w' =
    (known : Objects) (fr : Frame) (limit : ℕ) (wide : List CType) → ((j : ℕ) → length fr.types ≤ j → known (name_in fr false j) ≡ None) → ((x : ℕ) (t : CType) → slice_get fr.types x ≡ Some t → slice_get wide x ≡ Some t) → (r : CType) (l : Loop) (i j k : ℕ) (o : Objects) (st : State) (more : Memory) → IsTypedFrame p o fr → IsTest p fr.types l.test → IsStmt p fr.types r true true l.body → IsStep p fr.types l.step → StandsRound p l → Fits (length fr.types) limit i (kept_of_maybe p true l.test) → Fits (length fr.types) limit j (kept_of_stmt p l.body) → Fits (length fr.types) limit k (kept_of_maybe p false l.step) → Here known fr limit p o st more → Does known fr limit {A = Exit} true (length fr.types) more (w.again fr l st) (w'.again (record { activation = fr.activation; types = wide }) (record { test = maybe p i true l.test; body = stmt p j l.body; step = maybe p k false l.step }) (with_memory st more))

module _ (p : Program) (n : ℕ) (typed : IsProgram p n) (w w' : World) (goes : IsTypedWorld p w) (enters : Enters p w w') (agains : Agains p w w') (known : Objects) (fr : Frame) (limit : ℕ) (wide : List CType) (untold : (j : ℕ) → length fr.types ≤ j → known (name_in fr false j) ≡ None) (agree : (x : ℕ) (t : CType) → slice_get fr.types x ≡ Some t → slice_get wide x ≡ Some t) where
  abbrev pub wider_frame : Frame
  wider_frame = record { activation = fr.activation; types = wide }

  abbrev pub Do : {A : Type 0} → Memory → Result A → Result A → Type 0
  Do {A} more r q = Does known fr limit {A = A} true (length fr.types) more r q

  abbrev pub At : Objects → State → Memory → Type 0
  At o st more = Here known fr limit p o st more

  abbrev pub Room : ℕ → List CType → Type 0
  Room k xs = Fits (length fr.types) limit k xs

  abbrev PlainDo : Stmt → State → Result Exit
  PlainDo s st = exec p w (null_calls_of p) fr s st

  abbrev OtherDo : Stmt → State → Result Exit
  OtherDo s st = exec (instrumented_program p) w' no_marks wider_frame s st

  abbrev pub PlainDoAll : Stmts → State → Result Exit
  PlainDoAll ss st = exec_all p w (null_calls_of p) fr ss st

  abbrev pub OtherDoAll : Stmts → State → Result Exit
  OtherDoAll ss st = exec_all (instrumented_program p) w' no_marks wider_frame ss st

  framed : (o u : Objects) → Grows o u → IsTypedFrame p o fr → IsTypedFrame p u fr
  framed o u g s = on_frame p n typed w w' goes enters known fr limit wide untold o u g s

  done : (x : Exit) (o : Objects) (st : State) (more : Memory) → At o st more → Do {A = Exit} more (Go x st []) (Go x (with_memory st more) [])
  done x o st more a = here known fr limit {A = Exit} true (length fr.types) x x st more [] refl a.now.beside a.ready

  -- an expression's value
  value : (k : ℕ) (wanted : Bool) (e : Expr) (o : Objects) (st : State) (more : Memory) → IsTypedFrame p o fr → IsValue p fr.types e → StandsIn p (mentions e) → Room k (kept p wanted e) → At o st more → Does known fr limit {A = Value} wanted (length fr.types) more (eval p w (null_calls_of p) fr wanted e st) (eval (instrumented_program p) w' no_marks wider_frame wanted (expr p k wanted e) (with_memory st more))
  value k wanted e o st more s h m r a = wider known fr limit {A = Value} wanted (length fr.types) k more _ _ r.0 (value_does p n typed w w' goes enters known fr limit wide untold k wanted e o st more s h m r a)

  -- an expression for its effects, after which it goes on
  effect : (k : ℕ) (e : Expr) (o : Objects) (st : State) (more : Memory) → IsTypedFrame p o fr → IsValue p fr.types e → StandsIn p (mentions e) → Room k (kept p false e) → At o st more → Do {A = Exit} more (then_do (eval p w (null_calls_of p) fr false e st) (λ x st. Go on st [])) (then_do (eval (instrumented_program p) w' no_marks wider_frame false (expr p k false e) (with_memory st more)) (λ x st. Go on st []))
  effect k e o st more s h m r a =
      on_effect p n typed w w' goes enters known fr limit wide untold {C = Exit} true (length fr.types) e (expr p k false e) o st more (λ st. Go on st []) (λ st. Go on st []) s h m a (value k false e o st more s h m r a) (λ u st l g a. done on u st l a)

  -- ## Blocks

  leaving_does : (xs ys : List ℕ) (more : Memory) (r q : Result Exit) → ys ≡ xs → AreShown known fr.activation fr.activation xs → Do {A = Exit} more r q → Do {A = Exit} more (leaving fr xs r) (leaving wider_frame ys q)
  leaving_does xs ys more r q e shown h = subst (λ ys. Do {A = Exit} more (leaving fr xs r) (leaving wider_frame ys q)) (sym e) (at r h)
    where
      at : (r : Result Exit) → Do {A = Exit} more r q → Do {A = Exit} more (leaving fr xs r) (leaving wider_frame xs q)
      at (Go x st u) h =
          let stays = without_stays known fr.activation fr.activation xs h.left h.left shown (λ x hid. refl) in
          record {
            other = h.other;
            left = without fr.activation xs h.left;
            is = ap (leaving wider_frame xs) h.is;
            same = h.same;
            beside = without_beside known fr.activation fr.activation xs st.memory h.left h.beside;
            ready = λ j a b. let old = h.ready j a b in (old.0, stays (name_in fr false j) (omega arith, untold j a) ∙ old.1);
            stay = λ x hid out. stays x hid ∙ h.stay x hid out;
          }
      at (Stop c u) h = ap (leaving wider_frame xs) h

  variable_shown : (o : Objects) (x : ℕ) (t : CType) → IsTypedFrame p o fr → TellsAlike fr.activation known o → slice_get fr.types x ≡ Some t → Hidden known fr.activation (name_in fr false x) → ⊥
  variable_shown o x t s a e = told_shown known fr.activation p o (name_in fr false x) (flat p.structs t) a (s.variables x t e)

  one_shown : (o : Objects) (r : CType) (breaks continues : Bool) (a : Stmt) → IsTypedFrame p o fr → TellsAlike fr.activation known o → IsStmt p fr.types r breaks continues a → AreShown known fr.activation fr.activation (declared_by a)
  one_shown o r breaks continues (declare x is) s a h = (variable_shown o x h.0 s a h.1, tt)
  one_shown o r breaks continues b s a h = tt

  block_shown : (o : Objects) (r : CType) (breaks continues : Bool) (ss : Stmts) → IsTypedFrame p o fr → TellsAlike fr.activation known o → AreStmts p fr.types r breaks continues ss → AreShown known fr.activation fr.activation (declared_in ss)
  block_shown o r breaks continues no_stmts s a h = tt
  block_shown o r breaks continues (more_stmts b ss) s a h =
      shown_both known fr.activation fr.activation (declared_by b) (declared_in ss) (one_shown o r breaks continues b s a h.0) (block_shown o r breaks continues ss s a h.1)

  -- ## Declarations

  inits_do : (k : ℕ) (r t : CType) (x : ℕ) (is : Inits) (o : Objects) (st : State) (more : Memory) → IsTypedFrame p o fr → slice_get fr.types x ≡ Some t → AreInits p fr.types (flat p.structs t) is → StandsIn p (mentions_of_inits is) → Room k (kept_of_inits p is) → At o st more → Do {A = Exit} more (initialise p w (null_calls_of p) fr x is st) (initialise (instrumented_program p) w' no_marks wider_frame x (inits p k is) (with_memory st more))
  inits_do k r t x no_inits o st more s e h m room a = done on o st more a
  inits_do k r t x (more_inits cell c is) o st more s e h m room a =
      let b = flat_scalar p.structs t cell (type_of c) h.0 in
      let mine = left_part p (mentions c) (mentions_of_inits is) m in
      on_value p n typed w w' goes enters known fr limit wide untold {C = Exit} true (length fr.types) c (expr p k true c) o st more _ _ s h.1 mine a (value k true c o st more s h.1 mine (fits_left _ _ k (kept p true c) (kept_of_inits p is) room) a) (λ u v st l g i a.
      let is_kind = scalar_kind p n typed (null_calls_of p) (null_calls_recorded p) (type_of c) u v b i in
      then_same known fr limit p {A = Value} {B = Exit} true (length fr.types) _ u st l _ _ _ _ a (cell_ends p n typed (null_calls_of p) (null_calls_recorded p) w goes fr u x cell t (type_of c) v st (framed o u g s) e h.0 is_kind a.now.state) (stored p n typed w w' goes enters known fr limit wide untold true (length fr.types) (place (name_in fr false x) cell 1) v v u st l (variable_shown u x t (framed o u g s) a.now.tells e) a) (λ u' v st l g' i a. inits_do (k + length (kept p true c)) r t x is u' st l (framed o u' (grows_on o u u' g g') s) e h.2 (right_part p (mentions c) (mentions_of_inits is) m) (fits_right _ _ k (kept p true c) (kept_of_inits p is) room) a))

  fresh_does : (x : ℕ) (t : CType) (o : Objects) (st : State) (more : Memory) → IsTypedFrame p o fr → slice_get fr.types x ≡ Some t → At o st more → Do {A = Exit} more (fresh p.structs fr x (slice_get fr.types x) st) (fresh p.structs wider_frame x (slice_get wide x) (with_memory st more))
  fresh_does x t o st more s e a =
      subst (λ c. Do {A = Exit} more (fresh p.structs fr x c st) (fresh p.structs wider_frame x (slice_get wide x) (with_memory st more))) (sym e) (subst (λ c. Do {A = Exit} more (fresh p.structs fr x (Some t) st) (fresh p.structs wider_frame x c (with_memory st more))) (sym (agree x t e)) (lift known fr limit {A = Exit} (length fr.types) more (fresh p.structs fr x (Some t) st) (fresh p.structs wider_frame x (Some t) (with_memory st more)) untold (declared more (name_in fr false x) (cells p.structs t), refl, beside_changed known fr.activation st.memory more (name_in fr false x) _ a.now.beside, stay_changed known fr.activation more (name_in fr false x) _ (variable_shown o x t s a.now.tells e)) a.ready))

  declare_does : (k : ℕ) (r : CType) (x : ℕ) (is : Inits) (o : Objects) (st : State) (more : Memory) → IsTypedFrame p o fr → IsDeclare p fr.types x is → StandsIn p (mentions_of_inits is) → Room k (kept_of_inits p is) → At o st more → Do {A = Exit} more (PlainDo (declare x is) st) (OtherDo (declare x (inits p k is)) (with_memory st more))
  declare_does k r x is o st more s h m room a =
      then_same known fr limit p {A = Exit} {B = Exit} true (length fr.types) (IsExit p r false false) o st more _ _ _ _ a (fresh_ends p n typed (null_calls_of p) (null_calls_recorded p) w goes fr r h.0 x o st s h.1 a.now.state) (fresh_does x h.0 o st more s h.1 a) (λ u y st l g i a. inits_do k r h.0 x is u st l (framed o u g s) h.1 h.2 m room a)

  -- ## Statements

  no_room : (k : ℕ) (xs : List CType) → Room k xs → Room k []
  no_room k xs r = let a = r.1 in (r.0, omega (arith, a))

  mutual
    pub exec_does : (k : ℕ) (r : CType) (breaks continues : Bool) (b : Stmt) (o : Objects) (st : State) (more : Memory) → IsTypedFrame p o fr → IsStmt p fr.types r breaks continues b → StandsIn p (mentions_of_stmt b) → Room k (kept_of_stmt p b) → At o st more → Do {A = Exit} more (PlainDo b st) (OtherDo (stmt p k b) (with_memory st more))
    exec_does k r breaks continues (block ss) o st more s h m room a =
        leaving_does (declared_in ss) (declared_in (stmts p k ss)) more _ _ ((shapes_stay p).variables k ss) (block_shown o r breaks continues ss s a.now.tells h) (stmts_do k r breaks continues ss o st more s h m room a)
    exec_does k r breaks continues (evaluate e) o st more s h m room a = effect k e o st more s h m room a
    exec_does k r breaks continues (declare x is) o st more s h m room a = declare_does k r x is o st more s h m room a
    exec_does k r breaks continues (if_else e b c) o st more s h m room a =
        let after_test = right_part p (mentions e) (mentions_of_stmt b ++ mentions_of_stmt c) m in
        let mine = left_part p (mentions e) (mentions_of_stmt b ++ mentions_of_stmt c) m in
        let rest = fits_right _ _ k (kept p true e) (kept_of_stmt p b ++ kept_of_stmt p c) room in
        on_test p n typed w w' goes enters known fr limit wide untold {C = Exit} true (length fr.types) e (expr p k true e) o st more _ _ s h.0 mine a (value k true e o st more s h.0.1 mine (fits_left _ _ k (kept p true e) (kept_of_stmt p b ++ kept_of_stmt p c) room) a) (λ u holds st l g a. either_does known fr limit {A = Exit} true (length fr.types) holds l _ _ _ _ (exec_does (k + length (kept p true e)) r breaks continues b u st l (framed o u g s) h.1 (left_part p (mentions_of_stmt b) (mentions_of_stmt c) after_test) (fits_left _ _ (k + length (kept p true e)) (kept_of_stmt p b) (kept_of_stmt p c) rest) a) (exec_does (k + length (kept p true e) + length (kept_of_stmt p b)) r breaks continues c u st l (framed o u g s) h.2 (right_part p (mentions_of_stmt b) (mentions_of_stmt c) after_test) (fits_right _ _ (k + length (kept p true e)) (kept_of_stmt p b) (kept_of_stmt p c) rest) a))
    exec_does k r breaks continues (while_loop e b) o st more s h m room a =
        agains known fr limit wide untold agree r (record { test = there e; body = b; step = absent }) k (k + length (kept p true e)) k o st more s h.0 h.1 tt (record { test = left_part p (mentions e) (mentions_of_stmt b) m; body = right_part p (mentions e) (mentions_of_stmt b) m; step = stands_empty p }) (fits_left _ _ k (kept p true e) (kept_of_stmt p b) room) (fits_right _ _ k (kept p true e) (kept_of_stmt p b) room) (no_room k _ room) a
    exec_does k r breaks continues (do_loop b e) o st more s h m room a =
        let body_room = fits_left _ _ k (kept_of_stmt p b) (kept p true e) room in
        let test_room = fits_right _ _ k (kept_of_stmt p b) (kept p true e) room in
        let round : Loop = record { test = there e; body = b; step = absent } in
        let round' : Loop = record { test = there (expr p (k + length (kept_of_stmt p b)) true e); body = stmt p k b; step = absent } in
        then_same known fr limit p {A = Exit} {B = Exit} true (length fr.types) (IsExit p r true true) o st more _ _ _ _ a (exec_ends p n typed (null_calls_of p) (null_calls_recorded p) w goes fr r true true b o st s h.0 (left_part p (mentions_of_stmt b) (mentions e) m) a.now.state) (exec_does k r true true b o st more s h.0 (left_part p (mentions_of_stmt b) (mentions e) m) body_room a) (λ u x st l g i a. round_does known fr limit (length fr.types) x st l (w.again fr round) (w'.again wider_frame round') a.now.beside a.ready (agains known fr limit wide untold agree r round (k + length (kept_of_stmt p b)) k k u st l (framed o u g s) h.1 h.0 tt (record { test = right_part p (mentions_of_stmt b) (mentions e) m; body = left_part p (mentions_of_stmt b) (mentions e) m; step = stands_empty p }) test_room body_room (no_room k _ body_room) a))
    exec_does k r breaks continues (for_loop ss test step b) o st more s h m room a =
        let plain = first_stmts p n typed fr.types r ss h.0 in
        let early = left_part p (mentions_of_stmts ss) (mentions_of_maybe test ++ (mentions_of_maybe step ++ mentions_of_stmt b)) m in
        let later = right_part p (mentions_of_stmts ss) (mentions_of_maybe test ++ (mentions_of_maybe step ++ mentions_of_stmt b)) m in
        let rest = right_part p (mentions_of_maybe test) (mentions_of_maybe step ++ mentions_of_stmt b) later in
        let i = k + length (kept_of_stmts p ss) in
        let j = k + length (kept_of_stmts p ss) + length (kept_of_maybe p true test) in
        let first_room = fits_left _ _ k (kept_of_stmts p ss) (kept_of_maybe p true test ++ (kept_of_maybe p false step ++ kept_of_stmt p b)) room in
        let after_first = fits_right _ _ k (kept_of_stmts p ss) (kept_of_maybe p true test ++ (kept_of_maybe p false step ++ kept_of_stmt p b)) room in
        let after_test = fits_right _ _ i (kept_of_maybe p true test) (kept_of_maybe p false step ++ kept_of_stmt p b) after_first in
        let round : Loop = record { test = test; body = b; step = step } in
        let round' : Loop = record { test = maybe p i true test; body = stmt p (j + length (kept_of_maybe p false step)) b; step = maybe p j false step } in
        leaving_does (declared_in ss) (declared_in (stmts p k ss)) more _ _ ((shapes_stay p).variables k ss) (block_shown o r false false ss s a.now.tells plain) (then_same known fr limit p {A = Exit} {B = Exit} true (length fr.types) (IsExit p r false false) o st more _ _ _ _ a (first_ends p n typed (null_calls_of p) (null_calls_recorded p) w goes fr r ss o st s h.0 early a.now.state) (stmts_do k r false false ss o st more s plain early first_room a) (λ u x st l g y a. exit_does known fr limit (length fr.types) x st l (w.again fr round) (w'.again wider_frame round') a.now.beside a.ready (agains known fr limit wide untold agree r round i (j + length (kept_of_maybe p false step)) j u st l (framed o u g s) h.1 h.3 h.2 (record { test = left_part p (mentions_of_maybe test) (mentions_of_maybe step ++ mentions_of_stmt b) later; body = right_part p (mentions_of_maybe step) (mentions_of_stmt b) rest; step = left_part p (mentions_of_maybe step) (mentions_of_stmt b) rest }) (fits_left _ _ i (kept_of_maybe p true test) (kept_of_maybe p false step ++ kept_of_stmt p b) after_first) (fits_right _ _ j (kept_of_maybe p false step) (kept_of_stmt p b) after_test) (fits_left _ _ j (kept_of_maybe p false step) (kept_of_stmt p b) after_test) a)))
    exec_does k r breaks continues (switch_on e gs) o st more s h m room a =
        let mine = left_part p (mentions e) (mentions_of_groups gs) m in
        let rest = right_part p (mentions e) (mentions_of_groups gs) m in
        let i = k + length (kept p true e) in
        on_value p n typed w w' goes enters known fr limit wide untold {C = Exit} true (length fr.types) e (expr p k true e) o st more _ _ s h.3 mine a (value k true e o st more s h.3 mine (fits_left _ _ k (kept p true e) (kept_of_groups p gs) room) a) (λ u v st l g y a. subst (λ c. Do {A = Exit} l (then_do (exec_from p w (null_calls_of p) fr (selected v gs) gs st) (λ x st. Go (out_of_switch x) st [])) (then_do (exec_from (instrumented_program p) w' no_marks wider_frame c (groups p i gs) (with_memory st l)) (λ x st. Go (out_of_switch x) st []))) (sym ((shapes_stay p).selection i v gs)) (then_same known fr limit p {A = Exit} {B = Exit} true (length fr.types) (IsExit p r true continues) u st l _ _ _ _ a (groups_end p n typed (null_calls_of p) (null_calls_recorded p) w goes fr r continues h.0 (selected v gs) gs u st (framed o u g s) h.5 rest a.now.state) (groups_do i r continues h.0 (selected v gs) gs u st l (framed o u g s) h.5 rest (fits_right _ _ k (kept p true e) (kept_of_groups p gs) room) a) (λ u x st l g y a. done (out_of_switch x) u st l a)))
    exec_does k r breaks continues (return_value e) o st more s h m room a =
        on_value p n typed w w' goes enters known fr limit wide untold {C = Exit} true (length fr.types) e (expr p k true e) o st more _ _ s h.2 m a (value k true e o st more s h.2 m room a) (λ u v st l g i a. done (returned (Some v)) u st l a)
    exec_does k r breaks continues b o st more s h m room a = done _ o st more a

    pub stmts_do : (k : ℕ) (r : CType) (breaks continues : Bool) (ss : Stmts) (o : Objects) (st : State) (more : Memory) → IsTypedFrame p o fr → AreStmts p fr.types r breaks continues ss → StandsIn p (mentions_of_stmts ss) → Room k (kept_of_stmts p ss) → At o st more → Do {A = Exit} more (PlainDoAll ss st) (OtherDoAll (stmts p k ss) (with_memory st more))
    stmts_do k r breaks continues no_stmts o st more s h m room a = done on o st more a
    stmts_do k r breaks continues (more_stmts b ss) o st more s h m room a =
        let mine = left_part p (mentions_of_stmt b) (mentions_of_stmts ss) m in
        then_same known fr limit p {A = Exit} {B = Exit} true (length fr.types) (IsExit p r breaks continues) o st more _ _ _ _ a (exec_ends p n typed (null_calls_of p) (null_calls_recorded p) w goes fr r breaks continues b o st s h.0 mine a.now.state) (exec_does k r breaks continues b o st more s h.0 mine (fits_left _ _ k (kept_of_stmt p b) (kept_of_stmts p ss) room) a) (λ u x st l g i a. exit_does known fr limit (length fr.types) x st l (PlainDoAll ss) (OtherDoAll (stmts p (k + length (kept_of_stmt p b)) ss)) a.now.beside a.ready (stmts_do (k + length (kept_of_stmt p b)) r breaks continues ss u st l (framed o u g s) h.1 (right_part p (mentions_of_stmt b) (mentions_of_stmts ss) m) (fits_right _ _ k (kept_of_stmt p b) (kept_of_stmts p ss) room) a))

    pub groups_do : (k : ℕ) (r : CType) (continues : Bool) (i : IntType) (j : ℕ) (gs : Groups) (o : Objects) (st : State) (more : Memory) → IsTypedFrame p o fr → AreGroups p fr.types r continues i gs → StandsIn p (mentions_of_groups gs) → Room k (kept_of_groups p gs) → At o st more → Do {A = Exit} more (exec_from p w (null_calls_of p) fr j gs st) (exec_from (instrumented_program p) w' no_marks wider_frame j (groups p k gs) (with_memory st more))
    groups_do k r continues i j no_groups o st more s h m room a = done on o st more a
    groups_do k r continues i zero (more_groups ls ss gs) o st more s h m room a =
        let mine = left_part p (mentions_of_stmts ss) (mentions_of_groups gs) m in
        then_same known fr limit p {A = Exit} {B = Exit} true (length fr.types) (IsExit p r true continues) o st more _ _ _ _ a (stmts_end p n typed (null_calls_of p) (null_calls_recorded p) w goes fr r true continues ss o st s h.1 mine a.now.state) (stmts_do k r true continues ss o st more s h.1 mine (fits_left _ _ k (kept_of_stmts p ss) (kept_of_groups p gs) room) a) (λ u x st l g y a. exit_does known fr limit (length fr.types) x st l (exec_from p w (null_calls_of p) fr zero gs) (exec_from (instrumented_program p) w' no_marks wider_frame zero (groups p (k + length (kept_of_stmts p ss)) gs)) a.now.beside a.ready (groups_do (k + length (kept_of_stmts p ss)) r continues i zero gs u st l (framed o u g s) h.2 (right_part p (mentions_of_stmts ss) (mentions_of_groups gs) m) (fits_right _ _ k (kept_of_stmts p ss) (kept_of_groups p gs) room) a))
    groups_do k r continues i (suc j) (more_groups ls ss gs) o st more s h m room a =
        groups_do (k + length (kept_of_stmts p ss)) r continues i j gs o st more s h.2 (right_part p (mentions_of_stmts ss) (mentions_of_groups gs) m) (fits_right _ _ k (kept_of_stmts p ss) (kept_of_groups p gs) room) a
