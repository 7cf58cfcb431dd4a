-- The run of a well-typed program in a machine is its run.
use Rattle.std.proofs.Common.{◌≡◌, ℕ, zero, suc, ◌≤◌, nat_eq, if◌then◌else◌, Bool, true, false, List, [], length, Some, slice_get, sym, ap, ◌∙◌, subst, refl, arith}
use Rattle.std.specs.List.{AllZip}
use Rattle.std.proofs.lemmas.Bool.{le-leb}
use Rattle.std.proofs.lemmas.Slice.Zip.{AllZip-long}
use Rattle.dm_base.specs.declared.outcome.Outcome.TheVariants.{Undefined}
use Rattle.sys_table.specs.declared.sys_result.SysResult.{SysResult}
use Rattle.c_tree.specs.declared.value.Value.{Value}
use Rattle.c_tree.specs.Tree.{CType, function, CTypes, no_types, list_of, Function, Program}
use Rattle.c_tree.specs.Functions.{int}
use Rattle.c_tree.specs.Kinds.{Objects, static_objects}
use Rattle.c_tree.specs.Program.{IsFunction, IsProgram}
use Rattle.c_tree.specs.Typed.{IsTest, IsStep, IsStmt}
use Rattle.c_meaning.specs.Meaning as executing
use Rattle.c_meaning.specs.Meaning.{Frame, Loop, World}
use Rattle.c_meaning.specs.Results.{State, Result, Stop, then_do, spend_at, Exit, on_round}
use Rattle.c_meaning.specs.Runs as meaning
use Rattle.c_meaning.specs.Runs.{no_marks, beginning, ending, entered}
use Rattle.c_meaning.specs.StoreTyping.{HasKind, IsTypedState, Grows, TellsOfStatics, IsTypedFrame}
use Rattle.c_meaning.specs.TypedResults.{IsExit, StandsRound, IsTypedWorld}
use Rattle.c_meaning.proofs.Places.{all_get, grows_on}
use Rattle.c_meaning.proofs.Keeps.{Holds, stands_on, condition_ends, perhaps_ends, exec_ends}
use Rattle.c_meaning.proofs.Standing.{body_stands}
use Rattle.c_meaning.proofs.Worlds.{opens, body_typed, parts_typed, runs_begin_typed}
use Rattle.ref_machine_frames.specs.Held.{perhaps, exec, run_body, run_few, enter, loop, world}
use Rattle.ref_machine_frames.proofs.HeldExpressions.{none_recorded, then_same, either_same, EnterAlike}
use Rattle.ref_machine_frames.proofs.HeldStatements.{AgainAlike, round_same, exec_same, condition_same, perhaps_same}

spend_same : (p : Program) {A : Type 0} (o : Objects) (k : ℕ) (st : State) (f g : State → Result A) → IsTypedState p o st → ((st : State) → IsTypedState p o st → f st ≡ g st) → spend_at k st f ≡ spend_at k st g
spend_same p o zero st f g h k = refl
spend_same p o (suc n) st f g h k = k (record { memory = st.memory; entries = st.entries; records = st.records; taken = st.taken; turns = n }) (record { memory = h.memory; few = h.few; later = h.later })

module _ (p : Program) (n : ℕ) (typed : IsProgram p n) where
  few_parameters : (f : ℕ) (g : Function) (r : CType) (ts : CTypes) → slice_get p.functions f ≡ Some g → g.ctype ≡ function r ts → length (list_of ts) ≤ 16
  few_parameters f g r ts e d =
      let is = all_get (IsFunction p) p.functions f g typed.functions e in
      let types : function (is.gives) (is.takes) ≡ function r ts = sym is.type ∙ d in
      let takes : is.takes ≡ ts = cc (types) in
      subst (λ ts. length (list_of ts) ≤ 16) takes is.few_parameters

  module _ (v w : World) (goes : IsTypedWorld p w) (enters : EnterAlike p n typed v w) (agains : AgainAlike p n typed v w) where
    body_same : (is_main wanted : Bool) (f : ℕ) (g : Function) (r : CType) (ts : CTypes) (vs : List Value) (o : Objects) (st : State) → slice_get p.functions f ≡ Some g → g.ctype ≡ function r ts → TellsOfStatics p o → AllZip (HasKind p o) (list_of ts) vs → IsTypedState p o st → run_few p v is_main wanted (Some g) vs st ≡ meaning.run_body p w no_marks is_main wanted (Some g) vs st
    body_same is_main wanted f g r ts vs o st e d s z k =
        let a = suc st.entries in
        let b = opens p n typed f g r ts vs o st e d s z k in
        let fr : Frame = record { activation = a; types = g.variables } in
        let many : length vs ≡ length (list_of ts) = AllZip-long (HasKind p o) (list_of ts) vs z in
        let few : length vs ≤ 16 = omega (arith, many, few_parameters f g r ts e d) in
        ap (λ b. if b then run_body p v is_main wanted (Some g) vs st else Stop (Undefined 13) []) (le-leb (length vs) 16 few)
        ∙ then_same p {A = Exit} {B = Value} (IsExit p r false false) b.told _ _ _ _ _ (exec_ends p n typed no_marks none_recorded w goes fr r false false g.body b.told (entered vs st) b.frame (body_typed p n typed f g r ts e d) (body_stands p f g e) b.state) (exec_same p n typed v w goes enters agains fr r false false g.body b.told (entered vs st) b.frame (body_typed p n typed f g r ts e d) (body_stands p f g e) b.state) (λ u x st g i k. refl)

    enter_same : (wanted : Bool) (f : ℕ) (g : Function) (r : CType) (ts : CTypes) (vs : List Value) (o : Objects) (st : State) → slice_get p.functions f ≡ Some g → g.ctype ≡ function r ts → TellsOfStatics p o → AllZip (HasKind p o) (list_of ts) vs → IsTypedState p o st → enter p v wanted f vs st ≡ meaning.enter p w no_marks wanted f vs st
    enter_same wanted f g r ts vs o st e d s z k =
        spend_same p {A = Value} o st.turns st _ _ k (λ st k. ap (λ c. run_few p v (nat_eq f p.main) wanted c vs st) e ∙ (body_same (nat_eq f p.main) wanted f g r ts vs o st e d s z k ∙ ap (λ c. meaning.run_body p w no_marks (nat_eq f p.main) wanted c vs st) (sym e)))

    loop_same : (fr : Frame) (r : CType) (l : Loop) (o : Objects) (st : State) → IsTypedFrame p o fr → IsTest p fr.types l.test → IsStmt p fr.types r true true l.body → IsStep p fr.types l.step → StandsRound p l → IsTypedState p o st → loop p v fr l st ≡ meaning.loop p w no_marks fr l st
    loop_same fr r l o st s test body step m k =
        spend_same p {A = Exit} o st.turns st _ _ k (λ st k. then_same p {A = Bool} {B = Exit} (Holds p n typed no_marks none_recorded) o _ _ _ _ _ (condition_ends p n typed no_marks none_recorded w goes fr l.test o st s test m.test k) (condition_same p n typed v w goes enters agains fr l.test o st s test m.test k) (λ u holds st g i k. either_same {A = Result Exit} holds _ _ _ _ (a_round u st (on_frame o u g s) k) refl))
      where
        on_frame : (o u : Objects) → Grows o u → IsTypedFrame p o fr → IsTypedFrame p u fr
        on_frame o u g s = stands_on p n typed no_marks none_recorded o u fr g s

        a_round : (u : Objects) (st : State) → IsTypedFrame p u fr → IsTypedState p u st → then_do (exec p v fr l.body st) (λ x st. on_round x st (λ st. then_do (perhaps p v fr l.step st) (λ y st. v.again fr l st))) ≡ then_do (executing.exec p w no_marks fr l.body st) (λ x st. on_round x st (λ st. then_do (executing.perhaps p w no_marks fr l.step st) (λ y st. w.again fr l st)))
        a_round u st s k =
            then_same p {A = Exit} {B = Exit} (IsExit p r true true) u _ _ _ _ _ (exec_ends p n typed no_marks none_recorded w goes fr r true true l.body u st s body m.body k) (exec_same p n typed v w goes enters agains fr r true true l.body u st s body m.body k) (λ u' x st g i k. round_same x st _ _ (then_same p {A = Exit} {B = Exit} (IsExit p r false false) u' _ _ _ _ _ (perhaps_ends p n typed no_marks none_recorded w goes fr r l.step u' st (on_frame u u' g s) step m.step k) (perhaps_same p n typed v w goes enters agains fr l.step u' st (on_frame u u' g s) step m.step k) (λ u2 y st g2 i k. agains fr r l u2 st (on_frame u u2 (grows_on u u' u2 g g2) s) test body step m k)))

  -- what so many turns are enough for
  record Turns (k : ℕ) : Type 0 where
    enters : EnterAlike p n typed (world p k) (meaning.world p no_marks k)
    agains : AgainAlike p n typed (world p k) (meaning.world p no_marks k)

  turns_same : (k : ℕ) → Turns k
  turns_same zero = record {
    enters = λ wanted f g r ts vs o st e d s z k. refl;
    agains = λ fr r l o st s test body step m k. refl;
  }
  turns_same (suc k) =
      let before = turns_same k in
      let goes = (parts_typed p n typed no_marks none_recorded k).turning in
      record {
        enters = enter_same (world p k) (meaning.world p no_marks k) goes before.enters before.agains;
        agains = loop_same (world p k) (meaning.world p no_marks k) goes before.enters before.agains;
      }

  -- the run
  pub run_same : (records : List SysResult) (turns : ℕ) → ending (enter p (world p turns) true p.main [] (beginning p records turns)) ≡ meaning.run p records turns
  run_same records turns =
      let main = typed.main in
      let b = runs_begin_typed p n typed records turns in
      let now = turns_same turns in
      let goes = (parts_typed p n typed no_marks none_recorded turns).turning in
      ap ending (enter_same (world p turns) (meaning.world p no_marks turns) goes now.enters now.agains true p.main main.0 int no_types [] (static_objects p) (beginning p records turns) main.1 main.2 b.statics tt b.state)
