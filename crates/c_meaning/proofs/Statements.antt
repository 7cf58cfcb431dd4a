-- Statements do alike where memory has further objects.
use Rattle.std.proofs.Common.{◌≡◌, ℕ, zero, suc, Bool, true, false, List, [], ◌∷◌, ◌++◌, Some, None, slice_get, sym, ap, ◌∙◌, subst, refl}
use Rattle.c_tree.specs.declared.value.IntType.{IntType}
use Rattle.c_tree.specs.declared.value.Value.{Value}
use Rattle.c_tree.specs.Tree.{CType, Program, type_of, absent, there, Inits, no_inits, more_inits}
use Rattle.c_tree.specs.Tree.{Stmt, block, empty, evaluate, declare, if_else, while_loop, do_loop, for_loop, switch_on, break_off, continue_on, return_void, return_value, Stmts, no_stmts, more_stmts, Groups, no_groups, more_groups}
use Rattle.c_tree.specs.Layout.{flat, cells}
use Rattle.c_tree.specs.Kinds.{Objects}
use Rattle.c_tree.specs.Program.{IsProgram}
use Rattle.c_tree.specs.Typed.{IsTest, IsStep, AreInits, IsDeclare, IsStmt, AreStmts, AreGroups}
use Rattle.c_meaning.specs.Memory.{declared}
use Rattle.c_meaning.specs.Memory.{Objects as Memory}
use Rattle.c_meaning.specs.Mentions.{mentions, mentions_of_maybe, mentions_of_inits, mentions_of_stmt, mentions_of_stmts, mentions_of_groups}
use Rattle.c_meaning.specs.Meaning.{Marks, Frame, Loop, World, name_in, initialise, fresh, declared_by, declared_in, without, leaving, selected, exec, exec_all, exec_from}
use Rattle.c_meaning.specs.Pointers.{place, store_place}
use Rattle.c_meaning.specs.Results.{State, with_memory, Result, Go, Stop, Exit, on, broken, continued, returned, out_of_switch}
use Rattle.c_meaning.specs.StoreTyping.{Grows, TellsAlike, IsTypedFrame}
use Rattle.c_meaning.specs.TypedResults.{IsExit, StandsIn, StandsRound, IsTypedWorld, AreRecorded}
use Rattle.c_meaning.proofs.Places.{flat_scalar, grows_on}
use Rattle.c_meaning.proofs.Keeps.{scalar_kind, cell_ends, fresh_ends, first_are, exec_ends, stmts_end, groups_end}
use Rattle.c_meaning.proofs.Standing.{left_part, right_part, stands_empty}
use Rattle.c_meaning.specs.FurtherObjects.{Stay}
use Rattle.c_meaning.proofs.Together.{Hidden, TypedAlike, Does, beside_changed, stay_changed, store_place_remembers, here, remembered_does, either_does, exit_does, round_does, Now, told_shown, then_does}
use Rattle.c_meaning.proofs.Expressions.{Enters, on_value, on_test, on_frame, value_does}

module _ (known : Objects) (last : ℕ) where
  -- none of these variables of the activation is hidden
  abbrev pub AreShown : ℕ → List ℕ → Type 0
  AreShown activation [] = Unit {0}
  AreShown activation (x ∷ xs) = (Hidden known last (record { activation = activation; variable = x }) → ⊥) × AreShown activation xs

  pub shown_both : (activation : ℕ) (xs ys : List ℕ) → AreShown activation xs → AreShown activation ys → AreShown activation (xs ++ ys)
  shown_both activation [] ys h k = k
  shown_both activation (x ∷ xs) ys h k = (h.0, shown_both activation xs ys h.1 k)

  pub without_beside : (activation : ℕ) (xs : List ℕ) (m l : Memory) → TypedAlike known last m l → TypedAlike known last (without activation xs m) (without activation xs l)
  without_beside activation [] m l b = b
  without_beside activation (x ∷ xs) m l b =
      without_beside activation xs _ _ (beside_changed known last m l (record { activation = activation; variable = x }) None b)

  pub without_stays : (activation : ℕ) (xs : List ℕ) (more l : Memory) → AreShown activation xs → Stay known last more l → Stay known last more (without activation xs l)
  without_stays activation [] more l h s = s
  without_stays activation (x ∷ xs) more l h s =
      without_stays activation xs more _ h.1 (λ y hid. stay_changed known last l (record { activation = activation; variable = x }) None h.0 y hid ∙ s y hid)

  pub leaving_does : (fr : Frame) (xs : List ℕ) (more : Memory) (r q : Result Exit) → AreShown fr.activation xs → Does known last {A = Exit} more r q → Does known last {A = Exit} more (leaving fr xs r) (leaving fr xs q)
  leaving_does fr xs more (Go x st w) q a h =
      (without fr.activation xs h.0, ap (leaving fr xs) h.1, without_beside fr.activation xs st.memory h.0 h.2, without_stays fr.activation xs more h.0 a h.3)
  leaving_does fr xs more (Stop e w) q a h = ap (leaving fr xs) h

module _ (known : Objects) (last : ℕ) (p : Program) (n : ℕ) (typed : IsProgram p n) (marks : Marks) (recorded : AreRecorded marks) where
  -- loops do alike
  abbrev pub Agains : World → Type 0
  Agains w =
      (fr : Frame) (r : CType) (l : Loop) (o : Objects) (st : State) (more : Memory) → IsTypedFrame p o fr → IsTest p fr.types l.test → IsStmt p fr.types r true true l.body → IsStep p fr.types l.step → StandsRound p l → Now known last p o st more → Does known last {A = Exit} more (w.again fr l st) (w.again fr l (with_memory st more))

  module _ (w : World) (goes : IsTypedWorld p w) (enters : Enters known last p n typed marks recorded w) (agains : Agains w) (fr : Frame) where
    pub framed : (o u : Objects) → Grows o u → IsTypedFrame p o fr → IsTypedFrame p u fr
    framed o u g s = on_frame known last p n typed marks recorded w goes enters fr o u g s

    variable_shown : (o : Objects) (x : ℕ) (t : CType) → IsTypedFrame p o fr → TellsAlike last known o → slice_get fr.types x ≡ Some t → Hidden known last (name_in fr false x) → ⊥
    variable_shown o x t s a e = told_shown known last p o (name_in fr false x) (flat p.structs t) a (s.variables x t e)

    one_shown : (o : Objects) (r : CType) (breaks continues : Bool) (a : Stmt) → IsTypedFrame p o fr → TellsAlike last known o → IsStmt p fr.types r breaks continues a → AreShown known last fr.activation (declared_by a)
    one_shown o r breaks continues (declare x is) s a h = (variable_shown o x h.0 s a h.1, tt)
    one_shown o r breaks continues b s a h = tt

    block_shown : (o : Objects) (r : CType) (breaks continues : Bool) (ss : Stmts) → IsTypedFrame p o fr → TellsAlike last known o → AreStmts p fr.types r breaks continues ss → AreShown known last fr.activation (declared_in ss)
    block_shown o r breaks continues no_stmts s a h = tt
    block_shown o r breaks continues (more_stmts b ss) s a h =
        shown_both known last fr.activation (declared_by b) (declared_in ss) (one_shown o r breaks continues b s a h.0) (block_shown o r breaks continues ss s a h.1)

    inits_do : (r t : CType) (x : ℕ) (is : Inits) (o : Objects) (st : State) (more : Memory) → IsTypedFrame p o fr → slice_get fr.types x ≡ Some t → AreInits p fr.types (flat p.structs t) is → StandsIn p (mentions_of_inits is) → Now known last p o st more → Does known last {A = Exit} more (initialise p w marks fr x is st) (initialise p w marks fr x is (with_memory st more))
    inits_do r t x no_inits o st more s e h m k = here known last {A = Exit} on st more [] k.beside
    inits_do r t x (more_inits cell a is) o st more s e h m k =
        let b = flat_scalar p.structs t cell (type_of a) h.0 in
        on_value known last p n typed marks recorded w goes enters fr {B = Exit} true a o st more _ _ s h.1 (left_part p (mentions a) (mentions_of_inits is) m) k (value_does known last p n typed marks recorded w goes enters fr true a o st more s h.1 (left_part p (mentions a) (mentions_of_inits is) m) k) (λ u v st l g i k.
        let is_kind = scalar_kind p n typed marks recorded (type_of a) u v b i in
        then_does known last p {A = Value} {B = Exit} _ u st l _ _ _ _ k (cell_ends p n typed marks recorded w goes fr u x cell t (type_of a) v st (framed o u g s) e h.0 is_kind k.state) (remembered_does known last {A = Value} (store_place st.memory (place (name_in fr false x) cell 1) v) (store_place l (place (name_in fr false x) cell 1) v) v st l (store_place_remembers known last st.memory l (place (name_in fr false x) cell 1) v (variable_shown u x t (framed o u g s) k.tells e) k.beside)) (λ u' v st l g' i k. inits_do r t x is u' st l (framed o u' (grows_on o u u' g g') s) e h.2 (right_part p (mentions a) (mentions_of_inits is) m) k))

    fresh_does : (x : ℕ) (t : CType) (o : Objects) (st : State) (more : Memory) → IsTypedFrame p o fr → slice_get fr.types x ≡ Some t → Now known last p o st more → Does known last {A = Exit} more (fresh p.structs fr x (slice_get fr.types x) st) (fresh p.structs fr x (slice_get fr.types x) (with_memory st more))
    fresh_does x t o st more s e k =
        subst (λ c. Does known last {A = Exit} more (fresh p.structs fr x c st) (fresh p.structs fr x c (with_memory st more))) (sym e) (declared more (name_in fr false x) (cells p.structs t), refl, beside_changed known last st.memory more (name_in fr false x) _ k.beside, stay_changed known last more (name_in fr false x) _ (variable_shown o x t s k.tells e))

    declare_does : (r : CType) (x : ℕ) (is : Inits) (o : Objects) (st : State) (more : Memory) → IsTypedFrame p o fr → IsDeclare p fr.types x is → StandsIn p (mentions_of_inits is) → Now known last p o st more → Does known last {A = Exit} more (exec p w marks fr (declare x is) st) (exec p w marks fr (declare x is) (with_memory st more))
    declare_does r x is o st more s h m k =
        then_does known last p {A = Exit} {B = Exit} (IsExit p r false false) o st more _ _ _ _ k (fresh_ends p n typed marks recorded w goes fr r h.0 x o st s h.1 k.state) (fresh_does x h.0 o st more s h.1 k) (λ u y st l g i k. inits_do r h.0 x is u st l (framed o u g s) h.1 h.2 m k)

    mutual
      pub exec_does : (r : CType) (breaks continues : Bool) (a : Stmt) (o : Objects) (st : State) (more : Memory) → IsTypedFrame p o fr → IsStmt p fr.types r breaks continues a → StandsIn p (mentions_of_stmt a) → Now known last p o st more → Does known last {A = Exit} more (exec p w marks fr a st) (exec p w marks fr a (with_memory st more))
      exec_does r breaks continues (block ss) o st more s h m k =
          leaving_does known last fr (declared_in ss) more _ _ (block_shown o r breaks continues ss s k.tells h) (stmts_do r breaks continues ss o st more s h m k)
      exec_does r breaks continues empty o st more s h m k = here known last {A = Exit} on st more [] k.beside
      exec_does r breaks continues (evaluate e) o st more s h m k =
          on_value known last p n typed marks recorded w goes enters fr {B = Exit} false e o st more _ _ s h m k (value_does known last p n typed marks recorded w goes enters fr false e o st more s h m k) (λ u v st l g i k. here known last {A = Exit} on st l [] k.beside)
      exec_does r breaks continues (declare x is) o st more s h m k = declare_does r x is o st more s h m k
      exec_does r breaks continues (if_else e a b) o st more s h m k =
          let after_test = right_part p (mentions e) (mentions_of_stmt a ++ mentions_of_stmt b) m in
          let first = left_part p (mentions e) (mentions_of_stmt a ++ mentions_of_stmt b) m in
          on_test known last p n typed marks recorded w goes enters fr {B = Exit} e o st more _ _ s h.0 first k (value_does known last p n typed marks recorded w goes enters fr true e o st more s h.0.1 first k) (λ u holds st l g k. either_does known last {A = Exit} holds l _ _ _ _ (exec_does r breaks continues a u st l (framed o u g s) h.1 (left_part p (mentions_of_stmt a) (mentions_of_stmt b) after_test) k) (exec_does r breaks continues b u st l (framed o u g s) h.2 (right_part p (mentions_of_stmt a) (mentions_of_stmt b) after_test) k))
      exec_does r breaks continues (while_loop e a) o st more s h m k =
          agains fr r (record { test = there e; body = a; step = absent }) o st more s h.0 h.1 tt (record { test = left_part p (mentions e) (mentions_of_stmt a) m; body = right_part p (mentions e) (mentions_of_stmt a) m; step = stands_empty p }) k
      exec_does r breaks continues (do_loop a e) o st more s h m k =
          then_does known last p {A = Exit} {B = Exit} (IsExit p r true true) o st more _ _ _ _ k (exec_ends p n typed marks recorded w goes fr r true true a o st s h.0 (left_part p (mentions_of_stmt a) (mentions e) m) k.state) (exec_does r true true a o st more s h.0 (left_part p (mentions_of_stmt a) (mentions e) m) k) (λ u x st l g i k. round_does known last x st l (w.again fr (record { test = there e; body = a; step = absent })) (w.again fr (record { test = there e; body = a; step = absent })) k.beside (agains fr r (record { test = there e; body = a; step = absent }) u st l (framed o u g s) h.1 h.0 tt (record { test = right_part p (mentions_of_stmt a) (mentions e) m; body = left_part p (mentions_of_stmt a) (mentions e) m; step = stands_empty p }) k))
      exec_does r breaks continues (for_loop first test step a) o st more s h m k =
          let are = first_are p fr.types r first h.0 in
          let early = left_part p (mentions_of_stmts first) (mentions_of_maybe test ++ (mentions_of_maybe step ++ mentions_of_stmt a)) m in
          let later = right_part p (mentions_of_stmts first) (mentions_of_maybe test ++ (mentions_of_maybe step ++ mentions_of_stmt a)) m in
          let rest = right_part p (mentions_of_maybe test) (mentions_of_maybe step ++ mentions_of_stmt a) later in
          leaving_does known last fr (declared_in first) more _ _ (block_shown o r false false first s k.tells are) (then_does known last p {A = Exit} {B = Exit} (IsExit p r false false) o st more _ _ _ _ k (stmts_end p n typed marks recorded w goes fr r false false first o st s are early k.state) (stmts_do r false false first o st more s are early k) (λ u x st l g i k. exit_does known last x st l (w.again fr (record { test = test; body = a; step = step })) (w.again fr (record { test = test; body = a; step = step })) k.beside (agains fr r (record { test = test; body = a; step = step }) u st l (framed o u g s) h.1 h.3 h.2 (record { test = left_part p (mentions_of_maybe test) (mentions_of_maybe step ++ mentions_of_stmt a) later; body = right_part p (mentions_of_maybe step) (mentions_of_stmt a) rest; step = left_part p (mentions_of_maybe step) (mentions_of_stmt a) rest }) k)))
      exec_does r breaks continues (switch_on e gs) o st more s h m k =
          let first = left_part p (mentions e) (mentions_of_groups gs) m in
          let rest = right_part p (mentions e) (mentions_of_groups gs) m in
          on_value known last p n typed marks recorded w goes enters fr {B = Exit} true e o st more _ _ s h.3 first k (value_does known last p n typed marks recorded w goes enters fr true e o st more s h.3 first k) (λ u v st l g i k. then_does known last p {A = Exit} {B = Exit} (IsExit p r true continues) u st l _ _ _ _ k (groups_end p n typed marks recorded w goes fr r continues h.0 (selected v gs) gs u st (framed o u g s) h.5 rest k.state) (groups_do r continues h.0 (selected v gs) gs u st l (framed o u g s) h.5 rest k) (λ u x st l g i k. here known last {A = Exit} (out_of_switch x) st l [] k.beside))
      exec_does r breaks continues break_off o st more s h m k = here known last {A = Exit} broken st more [] k.beside
      exec_does r breaks continues continue_on o st more s h m k = here known last {A = Exit} continued st more [] k.beside
      exec_does r breaks continues return_void o st more s h m k = here known last {A = Exit} (returned None) st more [] k.beside
      exec_does r breaks continues (return_value e) o st more s h m k =
          on_value known last p n typed marks recorded w goes enters fr {B = Exit} true e o st more _ _ s h.2 m k (value_does known last p n typed marks recorded w goes enters fr true e o st more s h.2 m k) (λ u v st l g i k. here known last {A = Exit} (returned (Some v)) st l [] k.beside)

      pub stmts_do : (r : CType) (breaks continues : Bool) (ss : Stmts) (o : Objects) (st : State) (more : Memory) → IsTypedFrame p o fr → AreStmts p fr.types r breaks continues ss → StandsIn p (mentions_of_stmts ss) → Now known last p o st more → Does known last {A = Exit} more (exec_all p w marks fr ss st) (exec_all p w marks fr ss (with_memory st more))
      stmts_do r breaks continues no_stmts o st more s h m k = here known last {A = Exit} on st more [] k.beside
      stmts_do r breaks continues (more_stmts a ss) o st more s h m k =
          then_does known last p {A = Exit} {B = Exit} (IsExit p r breaks continues) o st more _ _ _ _ k (exec_ends p n typed marks recorded w goes fr r breaks continues a o st s h.0 (left_part p (mentions_of_stmt a) (mentions_of_stmts ss) m) k.state) (exec_does r breaks continues a o st more s h.0 (left_part p (mentions_of_stmt a) (mentions_of_stmts ss) m) k) (λ u x st l g i k. exit_does known last x st l (exec_all p w marks fr ss) (exec_all p w marks fr ss) k.beside (stmts_do r breaks continues ss u st l (framed o u g s) h.1 (right_part p (mentions_of_stmt a) (mentions_of_stmts ss) m) k))

      pub groups_do : (r : CType) (continues : Bool) (i : IntType) (j : ℕ) (gs : Groups) (o : Objects) (st : State) (more : Memory) → IsTypedFrame p o fr → AreGroups p fr.types r continues i gs → StandsIn p (mentions_of_groups gs) → Now known last p o st more → Does known last {A = Exit} more (exec_from p w marks fr j gs st) (exec_from p w marks fr j gs (with_memory st more))
      groups_do r continues i j no_groups o st more s h m k = here known last {A = Exit} on st more [] k.beside
      groups_do r continues i zero (more_groups ls ss gs) o st more s h m k =
          then_does known last p {A = Exit} {B = Exit} (IsExit p r true continues) o st more _ _ _ _ k (stmts_end p n typed marks recorded w goes fr r true continues ss o st s h.1 (left_part p (mentions_of_stmts ss) (mentions_of_groups gs) m) k.state) (stmts_do r true continues ss o st more s h.1 (left_part p (mentions_of_stmts ss) (mentions_of_groups gs) m) k) (λ u x st l g e k. exit_does known last x st l (exec_from p w marks fr zero gs) (exec_from p w marks fr zero gs) k.beside (groups_do r continues i zero gs u st l (framed o u g s) h.2 (right_part p (mentions_of_stmts ss) (mentions_of_groups gs) m) k))
      groups_do r continues i (suc j) (more_groups ls ss gs) o st more s h m k =
          groups_do r continues i j gs o st more s h.2 (right_part p (mentions_of_stmts ss) (mentions_of_groups gs) m) k
