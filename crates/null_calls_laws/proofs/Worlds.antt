-- Runs of a program with null calls round its marked calls are runs of the program with the null calls at its marked sites.
use Rattle.std.proofs.Common.{◌≡◌, ℕ, zero, suc, ◌≤◌, ◌<◌, nat_eq, Bool, true, false, List, [], Some, None, slice_get, option_map, length, sym, ap, ◌∙◌, subst, refl, arith}
use Rattle.std.specs.List.{AllZip}
use Rattle.dm_base.specs.Trace.{erase}
use Rattle.c_tree.specs.declared.value.Value.{Value}
use Rattle.c_tree.specs.Tree.{CType, function, CTypes, no_types, list_of, Function, Program, Maybe, absent, there}
use Rattle.c_tree.specs.Kinds.{Objects, static_objects}
use Rattle.c_tree.specs.Functions.{int}
use Rattle.c_tree.specs.Program.{IsFunction, IsProgram}
use Rattle.c_tree.specs.Typed.{IsTest, IsStep, IsStmt}
use Rattle.c_values.specs.Memory.{Objects as Memory}
use Rattle.c_meaning.specs.Mentions.{mentions_of_maybe}
use Rattle.c_meaning.specs.Meaning.{Frame, Loop, World, name_in, condition, perhaps, without, exec, either}
use Rattle.c_meaning.specs.NullCalls.{DifferInNullCalls}
use Rattle.c_meaning.specs.Results.{State, with_memory, Result, Go, Stop, then_do, Exit, on, on_round}
use Rattle.c_meaning.specs.Runs.{no_marks, with_parameters, parameters, entered, run_body, enter, loop, world, beginning, ending, run}
use Rattle.c_meaning.specs.StoreTyping.{HasKind, IsTypedAfter, Grows, TellsOfStatics, IsTypedFrame}
use Rattle.c_meaning.specs.TypedResults.{IsExit, StandsIn, StandsRound, IsTypedWorld}
use Rattle.c_meaning.proofs.Places.{grows_on}
use Rattle.c_meaning.proofs.Keeps.{Holds, condition_ends, perhaps_ends, exec_ends}
use Rattle.c_meaning.proofs.Standing.{body_stands}
use Rattle.c_meaning.proofs.Worlds.{all_get, opens, body_typed, parts_typed, runs_begin_typed}
use Rattle.c_meaning.specs.FurtherObjects.{IsBeside, DoesAlike}
use Rattle.c_meaning.proofs.Together.{Does as Alike, Now, then_does as then_alike, later_does as later_alike, spend_does as spend_alike}
use Rattle.c_meaning.proofs.Statements.{without_beside, without_stays}
use Rattle.c_meaning.proofs.FurtherWorlds.{parameters_shown, parameters_beside, parameters_stay, result_does}
use Rattle.null_calls_laws.specs.MarkedRuns.{null_calls_of}
use Rattle.null_calls_laws.proofs.Marking.{marked_runs_differ, erased_marked_runs}
use Rattle.null_calls_laws.proofs.TypedRuns.{null_calls_recorded}
use Rattle.null_calls_laws.specs.InstrumentedPrograms.{kept_of_maybe, kept_of_stmt, expr, maybe, stmt, instrumented_function, instrumented_program}
use Rattle.null_calls_laws.proofs.Unsited.{instrumented_runs_are_one}
use Rattle.null_calls_laws.proofs.PieceLemmas.{shapes_stay}
use Rattle.null_calls_laws.specs.RunLaws.{InstrumentedRunsAreMarkedRuns, InstrumentedRunMarked, InstrumentedAddNullCalls, ErasedInstrumentedRunAlike}
use Rattle.null_calls_laws.proofs.Beside.{Does, here, wider, spend_does, either_does, round_does, Here, then_same}
use Rattle.null_calls_laws.proofs.CallRuns.{Enters}
use Rattle.null_calls_laws.proofs.ExpressionRuns.{Fits, on_frame, on_effect, value_does, tested_does}
use Rattle.null_calls_laws.proofs.StatementRuns.{Agains, exec_does}
use Rattle.null_calls_laws.proofs.Bodies.{body_alike}

spent : (known : Objects) (last : ℕ) (p : Program) (o : Objects) (st st' : State) (more : Memory) → st'.memory ≡ st.memory → st'.entries ≡ st.entries → Now known last p o st more → Now known last p o st' more
spent known last p o st st' more m e k = record {
  state = subst (λ m. IsTypedAfter p o m st'.entries) (sym m) (subst (λ n. IsTypedAfter p o st.memory n) (sym e) k.state);
  tells = k.tells;
  started = subst (λ n. last ≤ n) (sym e) k.started;
  beside = subst (λ m. IsBeside known last m more) (sym m) k.beside;
}

module _ (p : Program) (n : ℕ) (typed : IsProgram p n) where
  module _ (w w' : World) (goes : IsTypedWorld p w) (enters : Enters p w w') (agains : Agains p w w') where
    body_does : (known : Objects) (last : ℕ) (is_main wanted : Bool) (f : ℕ) (g : Function) (r : CType) (ts : CTypes) (vs : List Value) (o : Objects) (st : State) (more : Memory) → slice_get p.functions f ≡ Some g → g.ctype ≡ function r ts → TellsOfStatics p o → AllZip (HasKind p o) (list_of ts) vs → Now known last p o st more → Alike known last {A = Value} more (run_body p w (null_calls_of p) is_main wanted (Some g) vs st) (run_body (instrumented_program p) w' no_marks is_main wanted (Some (instrumented_function p g)) vs (with_memory st more))
    body_does known last is_main wanted f g r ts vs o st more e d s z k =
        let a = suc st.entries in
        let started = k.started in
        let above : last < suc st.entries = omega (arith, started) in
        let b = opens p n typed f g r ts vs o st e d s z k.state in
        let inside = with_parameters a 0 vs more in
        let fr : Frame = record { activation = a; types = g.variables } in
        let now : Now known last p b.told (entered vs st) inside = record {
          state = b.state;
          tells = λ x l. b.alike x (omega (arith, l, started)) ∙ k.tells x l;
          started = omega (arith, started);
          beside = parameters_beside known last a 0 vs st.memory more k.beside;
        } in
        later_alike known last {A = Value} more inside _ _ (parameters_stay known last a 0 vs more more above (λ y hid. refl)) (then_alike known last p {A = Exit} {B = Value} (IsExit p r false false) b.told (entered vs st) inside _ _ _ _ now (exec_ends p n typed (null_calls_of p) (null_calls_recorded p) w goes fr r false false g.body b.told (entered vs st) b.frame (body_typed p n typed f g r ts e d) (body_stands p f g e) b.state) (body_alike p n typed w w' goes enters agains known last fr g.body r b.told (entered vs st) inside ((all_get (IsFunction p) p.functions f g typed.functions e).body) b.frame (body_typed p n typed f g r ts e d) (body_stands p f g e) now above (omega arith) b.only) (λ u x after l g' i k. later_alike known last {A = Value} l (without a (parameters 0 vs) l) _ _ (without_stays known last a (parameters 0 vs) l l (parameters_shown known last a 0 vs above) (λ y hid. refl)) (result_does known last is_main wanted x (with_memory after (without a (parameters 0 vs) after.memory)) (without a (parameters 0 vs) l) (without_beside known last a (parameters 0 vs) after.memory l k.beside))))

    enter_does : (known : Objects) (last : ℕ) (wanted : Bool) (f : ℕ) (g : Function) (r : CType) (ts : CTypes) (vs : List Value) (o : Objects) (st : State) (more : Memory) → slice_get p.functions f ≡ Some g → g.ctype ≡ function r ts → TellsOfStatics p o → AllZip (HasKind p o) (list_of ts) vs → Now known last p o st more → Alike known last {A = Value} more (enter p w (null_calls_of p) wanted f vs st) (enter (instrumented_program p) w' no_marks wanted f vs (with_memory st more))
    enter_does known last wanted f g r ts vs o st more e d s z k =
        spend_alike known last {A = Value} st.turns st more _ _ (λ st' m q. subst (λ c. Alike known last {A = Value} more (run_body p w (null_calls_of p) (nat_eq f p.main) wanted c vs st') (run_body (instrumented_program p) w' no_marks (nat_eq f p.main) wanted (slice_get (instrumented_program p).functions f) vs (with_memory st' more))) (sym e) (subst (λ c. Alike known last {A = Value} more (run_body p w (null_calls_of p) (nat_eq f p.main) wanted (Some g) vs st') (run_body (instrumented_program p) w' no_marks (nat_eq f p.main) wanted c vs (with_memory st' more))) (sym ((shapes_stay p).functions f ∙ ap (option_map (instrumented_function p)) e)) (body_does known last (nat_eq f p.main) wanted f g r ts vs o st' more e d s z (spent known last p o st st' more m q k))))

    loop_does : (known : Objects) (fr : Frame) (limit : ℕ) (wide : List CType) → ((j : ℕ) → length fr.types ≤ j → known (name_in fr false j) ≡ None) → ((x : ℕ) (t : CType) → slice_get fr.types x ≡ Some t → slice_get wide x ≡ Some t) → (r : CType) (l : Loop) (i j k : ℕ) (o : Objects) (st : State) (more : Memory) → IsTypedFrame p o fr → IsTest p fr.types l.test → IsStmt p fr.types r true true l.body → IsStep p fr.types l.step → StandsRound p l → Fits (length fr.types) limit i (kept_of_maybe p true l.test) → Fits (length fr.types) limit j (kept_of_stmt p l.body) → Fits (length fr.types) limit k (kept_of_maybe p false l.step) → Here known fr limit p o st more → Does known fr limit {A = Exit} true (length fr.types) more (loop p w (null_calls_of p) fr l st) (loop (instrumented_program p) w' no_marks (record { activation = fr.activation; types = wide }) (record { test = maybe p i true l.test; body = stmt p j l.body; step = maybe p k false l.step }) (with_memory st more))
    loop_does known fr limit wide untold agree r l i j k o st more s test body step m ri rj rk a =
        spend_does known fr limit {A = Exit} true (length fr.types) st.turns st more _ _ (λ st' q e. rounds st' (record { now = spent known fr.activation p o st st' more q e a.now; ready = a.ready }))
      where
        framed : (o u : Objects) → Grows o u → IsTypedFrame p o fr → IsTypedFrame p u fr
        framed o u g s = on_frame p n typed w w' goes enters known fr limit wide untold o u g s

        condition_does : (e : Maybe) (o : Objects) (st : State) (more : Memory) → IsTypedFrame p o fr → IsTest p fr.types e → StandsIn p (mentions_of_maybe e) → Fits (length fr.types) limit i (kept_of_maybe p true e) → Here known fr limit p o st more → Does known fr limit {A = Bool} true (length fr.types) more (condition p w (null_calls_of p) fr e st) (condition (instrumented_program p) w' no_marks (record { activation = fr.activation; types = wide }) (maybe p i true e) (with_memory st more))
        condition_does absent o st more s h m room a = here known fr limit {A = Bool} true (length fr.types) true true st more [] refl a.now.beside a.ready
        condition_does (there e) o st more s h m room a =
            wider known fr limit {A = Bool} true (length fr.types) i more _ _ room.0 (tested_does p n typed w w' goes enters known fr limit wide untold i e o st more s h m room a)

        perhaps_does : (e : Maybe) (o : Objects) (st : State) (more : Memory) → IsTypedFrame p o fr → IsStep p fr.types e → StandsIn p (mentions_of_maybe e) → Fits (length fr.types) limit k (kept_of_maybe p false e) → Here known fr limit p o st more → Does known fr limit {A = Exit} true (length fr.types) more (perhaps p w (null_calls_of p) fr e st) (perhaps (instrumented_program p) w' no_marks (record { activation = fr.activation; types = wide }) (maybe p k false e) (with_memory st more))
        perhaps_does absent o st more s h m room a = here known fr limit {A = Exit} true (length fr.types) on on st more [] refl a.now.beside a.ready
        perhaps_does (there e) o st more s h m room a =
            on_effect p n typed w w' goes enters known fr limit wide untold {C = Exit} true (length fr.types) e (expr p k false e) o st more (λ st. Go on st []) (λ st. Go on st []) s h m a (wider known fr limit {A = Value} false (length fr.types) k more _ _ room.0 (value_does p n typed w w' goes enters known fr limit wide untold k false e o st more s h m room a)) (λ u st l g a. here known fr limit {A = Exit} true (length fr.types) on on st l [] refl a.now.beside a.ready)

        after_step : (u : Objects) (st : State) (more : Memory) → IsTypedFrame p u fr → Here known fr limit p u st more → Does known fr limit {A = Exit} true (length fr.types) more (then_do (perhaps p w (null_calls_of p) fr l.step st) (λ y st. w.again fr l st)) (then_do (perhaps (instrumented_program p) w' no_marks (record { activation = fr.activation; types = wide }) (maybe p k false l.step) (with_memory st more)) (λ y st. w'.again (record { activation = fr.activation; types = wide }) (record { test = maybe p i true l.test; body = stmt p j l.body; step = maybe p k false l.step }) st))
        after_step u st more s a =
            then_same known fr limit p {A = Exit} {B = Exit} true (length fr.types) (IsExit p r false false) u st more _ _ _ _ a (perhaps_ends p n typed (null_calls_of p) (null_calls_recorded p) w goes fr r l.step u st s step m.step a.now.state) (perhaps_does l.step u st more s step m.step rk a) (λ v y st more g c a. agains known fr limit wide untold agree r l i j k v st more (framed u v g s) test body step m ri rj rk a)

        rounds : (st : State) → Here known fr limit p o st more → Does known fr limit {A = Exit} true (length fr.types) more (then_do (condition p w (null_calls_of p) fr l.test st) (λ holds st. either holds (then_do (exec p w (null_calls_of p) fr l.body st) (λ x st. on_round x st (λ st. then_do (perhaps p w (null_calls_of p) fr l.step st) (λ y st. w.again fr l st)))) (Go on st []))) (then_do (condition (instrumented_program p) w' no_marks (record { activation = fr.activation; types = wide }) (maybe p i true l.test) (with_memory st more)) (λ holds st. either holds (then_do (exec (instrumented_program p) w' no_marks (record { activation = fr.activation; types = wide }) (stmt p j l.body) st) (λ x st. on_round x st (λ st. then_do (perhaps (instrumented_program p) w' no_marks (record { activation = fr.activation; types = wide }) (maybe p k false l.step) st) (λ y st. w'.again (record { activation = fr.activation; types = wide }) (record { test = maybe p i true l.test; body = stmt p j l.body; step = maybe p k false l.step }) st)))) (Go on st [])))
        rounds st a =
            then_same known fr limit p {A = Bool} {B = Exit} true (length fr.types) (Holds p n typed (null_calls_of p) (null_calls_recorded p)) o st more _ _ _ _ a (condition_ends p n typed (null_calls_of p) (null_calls_recorded p) w goes fr l.test o st s test m.test a.now.state) (condition_does l.test o st more s test m.test ri a) (λ u holds st more g c a. either_does known fr limit {A = Exit} true (length fr.types) holds more _ _ _ _ (then_same known fr limit p {A = Exit} {B = Exit} true (length fr.types) (IsExit p r true true) u st more _ _ _ _ a (exec_ends p n typed (null_calls_of p) (null_calls_recorded p) w goes fr r true true l.body u st (framed o u g s) body m.body a.now.state) (exec_does p n typed w w' goes enters agains known fr limit wide untold agree j r true true l.body u st more (framed o u g s) body m.body rj a) (λ v x st more g' c a. round_does known fr limit (length fr.types) x st more (λ st. then_do (perhaps p w (null_calls_of p) fr l.step st) (λ y st. w.again fr l st)) (λ st. then_do (perhaps (instrumented_program p) w' no_marks (record { activation = fr.activation; types = wide }) (maybe p k false l.step) st) (λ y st. w'.again (record { activation = fr.activation; types = wide }) (record { test = maybe p i true l.test; body = stmt p j l.body; step = maybe p k false l.step }) st)) a.now.beside a.ready (after_step v st more (framed o v (grows_on o u v g g') s) a))) (here known fr limit {A = Exit} true (length fr.types) on on st more [] refl a.now.beside a.ready))

  -- what so many turns are enough for
  record Turns (k : ℕ) : Type 0 where
    enters : Enters p (world p (null_calls_of p) k) (world (instrumented_program p) no_marks k)
    agains : Agains p (world p (null_calls_of p) k) (world (instrumented_program p) no_marks k)

  turns_do : (k : ℕ) → Turns k
  turns_do zero = record {
    enters = λ known last wanted f g r ts vs o st more e d s z k. refl;
    agains = λ known fr limit wide untold agree r l i j k o st more s test body step m ri rj rk a. refl;
  }
  turns_do (suc k) =
      let before = turns_do k in
      let goes = (parts_typed p n typed (null_calls_of p) (null_calls_recorded p) k).turning in
      record {
        enters = enter_does (world p (null_calls_of p) k) (world (instrumented_program p) no_marks k) goes before.enters before.agains;
        agains = loop_does (world p (null_calls_of p) k) (world (instrumented_program p) no_marks k) goes before.enters before.agains;
      }

ending_same : (known : Objects) (last : ℕ) (more : Memory) (r q : Result Value) → DoesAlike {A = Value} known last more r q → ending q ≡ ending r
ending_same known last more (Go v st u) q h = ap ending h.1
ending_same known last more (Stop e u) q h = ap ending h

pub instrumented_runs : InstrumentedRunsAreMarkedRuns
instrumented_runs p n typed records turns =
    let m = typed.main in
    let b = runs_begin_typed p n typed records turns in
    ending_same (static_objects p) 0 (beginning p records turns).memory _ _ ((turns_do p n typed (suc turns)).enters (static_objects p) 0 true p.main m.0 int no_types [] (static_objects p) (beginning p records turns) (beginning p records turns).memory m.1 m.2 b.statics tt (record { state = b.state; tells = λ x l. refl; started = omega arith; beside = λ x h. refl }))

pub instrumented_run_marked : InstrumentedRunMarked
instrumented_run_marked p q n typed is records turns = instrumented_runs_are_one p q records turns is ∙ instrumented_runs p n typed records turns

pub instrumented_add_null_calls : InstrumentedAddNullCalls
instrumented_add_null_calls p q n typed is records turns =
    subst (λ r. DifferInNullCalls r (run p records turns)) (sym (instrumented_run_marked p q n typed is records turns)) (marked_runs_differ p records turns)

pub erased_brackets_run_alike : ErasedInstrumentedRunAlike
erased_brackets_run_alike p q n typed free is records turns =
    ap (λ r. erase r.trace) (instrumented_run_marked p q n typed is records turns) ∙ erased_marked_runs p free records turns
