-- Entries of functions and loops do alike where memory has further objects.
use Rattle.std.proofs.Common.{◌≡◌, ℕ, zero, suc, ◌≤◌, ◌<◌, nat_eq, Bool, true, false, List, [], ◌∷◌, Some, None, slice_get, sym, ap, ◌∙◌, subst, refl, arith}
use Rattle.std.specs.List.{AllZip}
use Rattle.c_tree.specs.declared.value.Value.{Value}
use Rattle.c_tree.specs.declared.value.Value.TheVariants.{Indeterminate}
use Rattle.c_tree.specs.declared.value.ObjectName.{ObjectName}
use Rattle.c_tree.specs.Tree.{CType, function, CTypes, no_types, list_of, Function, Program, Maybe, absent, there}
use Rattle.c_tree.specs.Kinds.{Objects, static_objects}
use Rattle.c_tree.specs.Functions.{int}
use Rattle.c_tree.specs.Program.{IsProgram}
use Rattle.c_tree.specs.Typed.{IsTest, IsStep, IsStmt}
use Rattle.c_meaning.specs.Memory.{Objects as Memory}
use Rattle.c_meaning.specs.Mentions.{mentions_of_maybe}
use Rattle.c_meaning.specs.Meaning.{Marks, Frame, Loop, World, condition, perhaps, without, exec, either}
use Rattle.c_meaning.specs.Results.{State, with_memory, Result, Go, Stop, then_do, Exit, on, broken, continued, returned, on_round}
use Rattle.c_meaning.specs.Runs.{with_parameters, parameters, entered, without_value, result_of, run_body, enter, loop, world, beginning, ending}
use Rattle.c_meaning.specs.StoreTyping.{HasKind, IsTypedMemory, Grows, TellsOfStatics, IsTypedFrame}
use Rattle.c_meaning.specs.TypedResults.{IsExit, StandsIn, StandsRound, IsTypedWorld, AreRecorded}
use Rattle.c_meaning.proofs.Places.{grows_on}
use Rattle.c_meaning.proofs.Keeps.{Holds, condition_ends, perhaps_ends, exec_ends}
use Rattle.c_meaning.proofs.Standing.{body_stands}
use Rattle.c_meaning.proofs.Worlds.{opens, body_typed, parts_typed, runs_begin_typed}
use Rattle.c_meaning.specs.FurtherObjects.{Stay, DoesAlike}
use Rattle.c_meaning.specs.FurtherLaws.{StandsBeside, FurtherObjectsChangeNothing, RunsDoAlike}
use Rattle.c_meaning.proofs.Together.{Hidden, TypedAlike, Does, beside_changed, stay_changed, here, spend_does, either_does, round_does, later_does, Now, then_does}
use Rattle.c_meaning.proofs.Expressions.{Enters, on_value, value_does, tested_does, place_does, all_do}
use Rattle.c_meaning.proofs.Statements.{AreShown, Agains, without_beside, without_stays, framed, exec_does}

module _ (known : Objects) (last : ℕ) where
  -- names of later activations aren't hidden
  pub later_shown : (activation x : ℕ) → last < activation → Hidden known last (record { activation = activation; variable = x }) → ⊥
  later_shown activation x l h = let a = h.0 in omega (arith, l, a)

  pub parameters_shown : (activation x : ℕ) (vs : List Value) → last < activation → AreShown known last activation (parameters x vs)
  parameters_shown activation x [] l = tt
  parameters_shown activation x (v ∷ vs) l = (later_shown activation x l, parameters_shown activation (suc x) vs l)

  pub parameters_beside : (activation x : ℕ) (vs : List Value) (m l : Memory) → TypedAlike known last m l → TypedAlike known last (with_parameters activation x vs m) (with_parameters activation x vs l)
  parameters_beside activation x [] m l b = b
  parameters_beside activation x (v ∷ vs) m l b =
      parameters_beside activation (suc x) vs _ _ (beside_changed known last m l (record { activation = activation; variable = x }) (Some (record { cells = v ∷ []; string = false })) b)

  pub parameters_stay : (activation x : ℕ) (vs : List Value) (more l : Memory) → last < activation → Stay known last more l → Stay known last more (with_parameters activation x vs l)
  parameters_stay activation x [] more l a s = s
  parameters_stay activation x (v ∷ vs) more l a s =
      parameters_stay activation (suc x) vs more _ a (λ y hid. stay_changed known last l (record { activation = activation; variable = x }) (Some (record { cells = v ∷ []; string = false })) (later_shown activation x a) y hid ∙ s y hid)

  -- what a call gives, by how the body is left
  without_value_does : (is_main wanted : Bool) (st : State) (more : Memory) → TypedAlike known last st.memory more → Does known last {A = Value} more (without_value is_main wanted st) (without_value is_main wanted (with_memory st more))
  without_value_does true wanted st more b = here known last {A = Value} _ st more [] b
  without_value_does false true st more b = refl
  without_value_does false false st more b = here known last {A = Value} Indeterminate st more [] b

  pub result_does : (is_main wanted : Bool) (x : Exit) (st : State) (more : Memory) → TypedAlike known last st.memory more → Does known last {A = Value} more (result_of is_main wanted x st) (result_of is_main wanted x (with_memory st more))
  result_does is_main wanted (returned (Some v)) st more b = here known last {A = Value} v st more [] b
  result_does is_main wanted broken st more b = refl
  result_does is_main wanted continued st more b = refl
  result_does is_main wanted x st more b = without_value_does is_main wanted st more b

module _ (known : Objects) (last : ℕ) (p : Program) (n : ℕ) (typed : IsProgram p n) (marks : Marks) (recorded : AreRecorded marks) where
  module _ (w : World) (goes : IsTypedWorld p w) (enters : Enters known last p n typed marks recorded w) (agains : Agains known last p n typed marks recorded w) where
    body_does : (is_main wanted : Bool) (f : ℕ) (g : Function) (r : CType) (ts : CTypes) (vs : List Value) (o : Objects) (st : State) (more : Memory) → slice_get p.functions f ≡ Some g → g.ctype ≡ function r ts → TellsOfStatics p o → AllZip (HasKind p o) (list_of ts) vs → Now known last p o st more → Does known last {A = Value} more (run_body p w marks is_main wanted (Some g) vs st) (run_body p w marks is_main wanted (Some g) vs (with_memory st more))
    body_does is_main wanted f g r ts vs o st more e d s z k =
        let a = suc st.entries in
        let started = k.started in
        let above : last < suc st.entries = omega (arith, started) in
        let b = opens p n typed f g r ts vs o st e d s z k.state in
        let inside = with_parameters a 0 vs more in
        let fr : Frame = record { activation = a; types = g.variables } in
        let now : Now known last p b.told (entered vs st) inside = record {
          state = b.state;
          tells = λ x l. b.alike x (omega (arith, l, started)) ∙ k.tells x l;
          started = omega (arith, started);
          beside = parameters_beside known last a 0 vs st.memory more k.beside;
        } in
        later_does known last {A = Value} more inside _ _ (parameters_stay known last a 0 vs more more above (λ y hid. refl)) (then_does known last p {A = Exit} {B = Value} (IsExit p r false false) b.told (entered vs st) inside _ _ _ _ now (exec_ends p n typed marks recorded w goes fr r false false g.body b.told (entered vs st) b.frame (body_typed p n typed f g r ts e d) (body_stands p f g e) b.state) (exec_does known last p n typed marks recorded w goes enters agains fr r false false g.body b.told (entered vs st) inside b.frame (body_typed p n typed f g r ts e d) (body_stands p f g e) now) (λ u x after l g' i k. later_does known last {A = Value} l (without a (parameters 0 vs) l) _ _ (without_stays known last a (parameters 0 vs) l l (parameters_shown known last a 0 vs above) (λ y hid. refl)) (result_does known last is_main wanted x (with_memory after (without a (parameters 0 vs) after.memory)) (without a (parameters 0 vs) l) (without_beside known last a (parameters 0 vs) after.memory l k.beside))))

    spent : (o : Objects) (st st' : State) (more : Memory) → st'.memory ≡ st.memory → st'.entries ≡ st.entries → Now known last p o st more → Now known last p o st' more
    spent o st st' more m e k = record {
      state = record {
        memory = subst (λ m. IsTypedMemory p o m) (sym m) k.state.memory;
        few = k.state.few;
        later = subst (λ n. (x : ObjectName) → n < x.activation → o x ≡ None) (sym e) k.state.later;
      };
      tells = k.tells;
      started = subst (λ n. last ≤ n) (sym e) k.started;
      beside = subst (λ m. TypedAlike known last m more) (sym m) k.beside;
    }

    enter_does : (wanted : Bool) (f : ℕ) (g : Function) (r : CType) (ts : CTypes) (vs : List Value) (o : Objects) (st : State) (more : Memory) → slice_get p.functions f ≡ Some g → g.ctype ≡ function r ts → TellsOfStatics p o → AllZip (HasKind p o) (list_of ts) vs → Now known last p o st more → Does known last {A = Value} more (enter p w marks wanted f vs st) (enter p w marks wanted f vs (with_memory st more))
    enter_does wanted f g r ts vs o st more e d s z k =
        spend_does known last {A = Value} st.turns st more _ _ (λ st' m q. subst (λ c. Does known last {A = Value} more (run_body p w marks (nat_eq f p.main) wanted c vs st') (run_body p w marks (nat_eq f p.main) wanted c vs (with_memory st' more))) (sym e) (body_does (nat_eq f p.main) wanted f g r ts vs o st' more e d s z (spent o st st' more m q k)))

    condition_does : (fr : Frame) (e : Maybe) (o : Objects) (st : State) (more : Memory) → IsTypedFrame p o fr → IsTest p fr.types e → StandsIn p (mentions_of_maybe e) → Now known last p o st more → Does known last {A = Bool} more (condition p w marks fr e st) (condition p w marks fr e (with_memory st more))
    condition_does fr absent o st more s h m k = here known last {A = Bool} true st more [] k.beside
    condition_does fr (there e) o st more s h m k = tested_does known last p n typed marks recorded w goes enters fr e o st more s h m k

    perhaps_does : (fr : Frame) (e : Maybe) (o : Objects) (st : State) (more : Memory) → IsTypedFrame p o fr → IsStep p fr.types e → StandsIn p (mentions_of_maybe e) → Now known last p o st more → Does known last {A = Exit} more (perhaps p w marks fr e st) (perhaps p w marks fr e (with_memory st more))
    perhaps_does fr absent o st more s h m k = here known last {A = Exit} on st more [] k.beside
    perhaps_does fr (there e) o st more s h m k =
        on_value known last p n typed marks recorded w goes enters fr {B = Exit} false e o st more _ _ s h m k (value_does known last p n typed marks recorded w goes enters fr false e o st more s h m k) (λ u v st l g i k. here known last {A = Exit} on st l [] k.beside)

    loop_does : (fr : Frame) (r : CType) (l : Loop) (o : Objects) (st : State) (more : Memory) → IsTypedFrame p o fr → IsTest p fr.types l.test → IsStmt p fr.types r true true l.body → IsStep p fr.types l.step → StandsRound p l → Now known last p o st more → Does known last {A = Exit} more (loop p w marks fr l st) (loop p w marks fr l (with_memory st more))
    loop_does fr r l o st more s test body step m k =
        spend_does known last {A = Exit} st.turns st more _ _ (λ st' q e. rounds st' (spent o st st' more q e k))
      where
        on_frame : (o u : Objects) → Grows o u → IsTypedFrame p o fr → IsTypedFrame p u fr
        on_frame o u g s = framed known last p n typed marks recorded w goes enters agains fr o u g s

        after_step : (u : Objects) (st : State) (more : Memory) → IsTypedFrame p u fr → Now known last p u st more → Does known last {A = Exit} more (then_do (perhaps p w marks fr l.step st) (λ y st. w.again fr l st)) (then_do (perhaps p w marks fr l.step (with_memory st more)) (λ y st. w.again fr l st))
        after_step u st more s k =
            then_does known last p {A = Exit} {B = Exit} (IsExit p r false false) u st more _ _ _ _ k (perhaps_ends p n typed marks recorded w goes fr r l.step u st s step m.step k.state) (perhaps_does fr l.step u st more s step m.step k) (λ v y st more g i k. agains fr r l v st more (on_frame u v g s) test body step m k)

        rounds : (st : State) → Now known last p o st more → Does known last {A = Exit} more (then_do (condition p w marks fr l.test st) (λ holds st. either holds (then_do (exec p w marks fr l.body st) (λ x st. on_round x st (λ st. then_do (perhaps p w marks fr l.step st) (λ y st. w.again fr l st)))) (Go on st []))) (then_do (condition p w marks fr l.test (with_memory st more)) (λ holds st. either holds (then_do (exec p w marks fr l.body st) (λ x st. on_round x st (λ st. then_do (perhaps p w marks fr l.step st) (λ y st. w.again fr l st)))) (Go on st [])))
        rounds st k =
            then_does known last p {A = Bool} {B = Exit} (Holds p n typed marks recorded) o st more _ _ _ _ k (condition_ends p n typed marks recorded w goes fr l.test o st s test m.test k.state) (condition_does fr l.test o st more s test m.test k) (λ u holds st more g i k. either_does known last {A = Exit} holds more _ _ _ _ (then_does known last p {A = Exit} {B = Exit} (IsExit p r true true) u st more _ _ _ _ k (exec_ends p n typed marks recorded w goes fr r true true l.body u st (on_frame o u g s) body m.body k.state) (exec_does known last p n typed marks recorded w goes enters agains fr r true true l.body u st more (on_frame o u g s) body m.body k) (λ v x st more g' i k. round_does known last x st more (λ st. then_do (perhaps p w marks fr l.step st) (λ y st. w.again fr l st)) (λ st. then_do (perhaps p w marks fr l.step st) (λ y st. w.again fr l st)) k.beside (after_step v st more (on_frame o v (grows_on o u v g g') s) k))) (here known last {A = Exit} on st more [] k.beside))

  -- what so many turns are enough for
  record Turns (k : ℕ) : Type 0 where
    enters : Enters known last p n typed marks recorded (world p marks k)
    agains : Agains known last p n typed marks recorded (world p marks k)

  turns_do : (k : ℕ) → Turns k
  turns_do zero = record {
    enters = λ wanted f g r ts vs o st more e d s z k. refl;
    agains = λ fr r l o st more s test body step m k. refl;
  }
  turns_do (suc k) =
      let before = turns_do k in
      let goes = (parts_typed p n typed marks recorded k).turning in
      record {
        enters = enter_does (world p marks k) goes before.enters before.agains;
        agains = loop_does (world p marks k) goes before.enters before.agains;
      }

begins_now : (p : Program) (o : Objects) (last : ℕ) (st : State) (more : Memory) → StandsBeside p o last st more → Now o last p o st more
begins_now p o last st more k = record { state = k.state; tells = λ x l. refl; started = k.started; beside = k.beside }

pub further_objects_change_nothing : FurtherObjectsChangeNothing
further_objects_change_nothing p n typed marks recorded turns =
    let w = world p marks turns in
    let goes = (parts_typed p n typed marks recorded turns).turning in
    record {
      calls = λ wanted f g r ts vs o last st more e d s z k. (turns_do o last p n typed marks recorded turns).enters wanted f g r ts vs o st more e d s z (begins_now p o last st more k);
      loops = λ fr r l o last st more s test body step m k. (turns_do o last p n typed marks recorded turns).agains fr r l o st more s test body step m (begins_now p o last st more k);
      values = λ fr wanted e o last st more s h m k. value_does o last p n typed marks recorded w goes (turns_do o last p n typed marks recorded turns).enters fr wanted e o st more s h m (begins_now p o last st more k);
      places = λ fr wanted e o last st more s h m k. place_does o last p n typed marks recorded w goes (turns_do o last p n typed marks recorded turns).enters fr wanted e o st more s h m (begins_now p o last st more k);
      arguments = λ fr ts es o last st more s h m k. all_do o last p n typed marks recorded w goes (turns_do o last p n typed marks recorded turns).enters fr ts es o st more s h m (begins_now p o last st more k);
      statements = λ fr r breaks continues a o last st more s h m k. exec_does o last p n typed marks recorded w goes (turns_do o last p n typed marks recorded turns).enters (turns_do o last p n typed marks recorded turns).agains fr r breaks continues a o st more s h m (begins_now p o last st more k);
    }

pub ending_same : (o : Objects) (last : ℕ) (more : Memory) (r q : Result Value) → DoesAlike {A = Value} o last more r q → ending q ≡ ending r
ending_same o last more (Go v st w) q h = ap ending h.1
ending_same o last more (Stop e w) q h = ap ending h

pub runs_do_alike : RunsDoAlike
runs_do_alike p n typed marks recorded records turns more beside =
    let m = typed.main in
    let b = runs_begin_typed p n typed records turns in
    ending_same (static_objects p) 0 more _ _ ((further_objects_change_nothing p n typed marks recorded (suc turns)).calls true p.main m.0 int no_types [] (static_objects p) 0 (beginning p records turns) more m.1 m.2 b.statics tt (record { state = b.state; started = omega arith; beside = beside }))
