-- Entries of functions, loops and whole runs keep types.
use Rattle.std.proofs.Common.{◌≡◌, ℕ, zero, suc, ◌+◌, ◌*◌, ◌<◌, ◌≤◌, nat_eq, if◌then◌else◌, Bool, true, false, pos, List, [], ◌∷◌, ◌++◌, All, Option, Some, None, option_map, slice_get, length, sym, ap, ◌∙◌, subst, refl, arith}
use Rattle.std.specs.List.{AllZip}
use Rattle.std.proofs.lemmas.Bool.{false≢true, eqb-true}
use Rattle.std.proofs.lemmas.Int.{ints}
use Rattle.std.proofs.lemmas.List.Elements.{All-nil, All-head, All-tail}
use Rattle.std.proofs.lemmas.Option.{slice_get_past}
use Rattle.std.specs.Cmp.{nat_eq_equiv}
use Rattle.c_meaning.specs.SysResult.{SysResult}
use Rattle.c_meaning.specs.Table.{IsRecorded}
use Rattle.c_tree.specs.declared.value.ObjectName.{ObjectName}
use Rattle.c_tree.specs.declared.value.Value.{Value}
use Rattle.c_tree.specs.declared.value.Value.TheVariants.{Indeterminate, Int, Func}
use Rattle.c_tree.specs.Tree.{CType, function, CTypes, no_types, list_of, Function, Static, Program}
use Rattle.c_tree.specs.Layout.{flat}
use Rattle.c_tree.specs.Functions.{int}
use Rattle.c_tree.specs.Operands.{IsScalar, IsObject}
use Rattle.c_tree.specs.Kinds.{Objects, HasType, cells_where, if_static, static_objects}
use Rattle.c_tree.specs.Program.{IsFunction, IsStatic, IsProgram}
use Rattle.c_tree.specs.Typed.{IsTest, IsStep, IsStmt}
use Rattle.c_meaning.specs.CallGraph.{is_taken}
use Rattle.c_meaning.proofs.Members.{other_number}
use Rattle.c_meaning.specs.Memory.{Objects as Memory}
use Rattle.c_meaning.specs.Meaning.{Marks, Frame, Loop, World, static_name, perhaps, without}
use Rattle.c_meaning.specs.Results.{State, with_memory, Result, Go, Stop, then_do, Exit, on, broken, continued, returned}
use Rattle.c_meaning.specs.Runs.{with_parameters, parameters, entered, without_value, result_of, run_body, enter, loop, world, first_objects, beginning, exit_of, ending}
use Rattle.c_meaning.specs.StoreTyping.{HasKind, IsCell, IsGiven, IsTypedMemory, IsTypedAfter, IsTypedState, Grows, TellsAlike, TellsOfStatics, IsTypedFrame}
use Rattle.c_meaning.specs.TypedResults.{IsEnding, EndsTyped, IsExit, StandsRound, IsTypedWorld, AreRecorded}
use Rattle.c_meaning.specs.Laws.{IsTypedRun, BeginsTyped, RunsBeginTyped, PartsAreTyped, TypesAreKept, RunsAreTyped, PointersAreInside, PlacesAreInside}
pub use Rattle.c_meaning.proofs.Places.{all_get}
use Rattle.c_meaning.proofs.Places.{at_place, int_value, flat_one, get_left, grows_on, carry_all, kind_cell, kind_given, memory_changed, memory_grows}
use Rattle.c_meaning.proofs.Steps.{place_pointer}
use Rattle.c_meaning.proofs.Differences.{inside}
use Rattle.c_meaning.proofs.Ends.{now, then_ends, grown, either_ends, spend_ends, round_ends}
use Rattle.c_meaning.proofs.Keeps.{Holds, stands_on, without_typed, condition_ends, perhaps_ends, value_ends, where_ends, all_end, exec_ends}
use Rattle.c_meaning.proofs.Standing.{body_stands, static_taken}

static_none : (a : ℕ) (c : Option (List CType)) → 0 < a → if_static a c ≡ None
static_none zero c h = absurd (omega (arith, h))
static_none (suc a) c h = refl

module _ (p : Program) (n : ℕ) (typed : IsProgram p n) where
  -- before the run: the static objects
  static_cells : (k : ℕ) (s : Static) → slice_get p.statics k ≡ Some s → AllZip (IsCell p (static_objects p)) (flat p.structs s.ctype) s.cells
  static_cells k s e = by (flat p.structs s.ctype) s.cells ((all_get (IsStatic p) p.statics k s typed.statics e).typed) (λ j f d. static_taken p k s j f e d)
    where
      one : (t : CType) (v : Value) → HasType p (static_objects p) t v → ((f : ℕ) → v ≡ Func f → is_taken p f ≡ true) → IsCell p (static_objects p) t v
      one t Indeterminate h g = tt
      one t (Func f) h g = (h.0, h.1, h.2, g f refl)
      one t v h g = h

      by : (ts : List CType) (vs : List Value) → AllZip (HasType p (static_objects p)) ts vs → ((j f : ℕ) → slice_get vs j ≡ Some (Func f) → is_taken p f ≡ true) → AllZip (IsCell p (static_objects p)) ts vs
      by [] [] z g = tt
      by (t ∷ ts) (v ∷ vs) z g = (one t v z.0 (λ f e. g 0 f (ap (λ v. Some v) e)), by ts vs z.1 (λ j f d. g (suc j) f d))
      by ts vs z g = absurd z

  tells : TellsOfStatics p (static_objects p)
  tells k s e = ap (cells_where p.structs) e

  first_typed : (x : ℕ) (ss : List Static) → ((j : ℕ) (s : Static) → slice_get ss j ≡ Some s → slice_get p.statics (x + j) ≡ Some s) → IsTypedMemory p (static_objects p) (first_objects x ss)
  first_typed x [] h = λ y ob e. absurd (cc)
  first_typed x (s ∷ ss) h =
      let is = at_place p.statics s (x + 0) x (omega arith) (h 0 s refl) in
      memory_changed p (static_objects p) (first_objects (suc x) ss) (static_name x) (flat p.structs s.ctype) (record { cells = s.cells; string = s.string }) (first_typed (suc x) ss (λ j u e. at_place p.statics u (x + suc j) (suc x + j) (omega arith) (h (suc j) u e))) (tells x s is) (static_cells x s is)

  pub begins : (records : List SysResult) (turns : ℕ) → BeginsTyped p records turns
  begins records turns = record {
    statics = tells;
    state = record {
      memory = first_typed 0 p.statics (λ j s e. at_place p.statics s j (0 + j) (omega arith) e);
      few = λ x all e. few x all x.activation (slice_get p.statics x.variable) refl e;
      later = λ x h. static_none x.activation _ h;
    };
  }
    where
      few : (x : ObjectName) (all : List CType) (a : ℕ) (c : Option Static) → slice_get p.statics x.variable ≡ c → if_static a (cells_where p.structs c) ≡ Some all → length all ≤ 65536
      few x all zero (Some s) d e =
          let same : flat p.structs s.ctype ≡ all = cc in
          subst (λ (all : List CType). length all ≤ 65536) same ((all_get (IsStatic p) p.statics x.variable s typed.statics d).object).few
      few x all a c d e = absurd (cc)

  -- what is told of once a function is entered
  abbrev opened : Function → ℕ → Objects → Objects
  opened g a o x = if nat_eq x.activation a then option_map (flat p.structs) (slice_get g.variables x.variable) else o x

  opened_other : (g : Function) (o : Objects) (a : ℕ) (x : ObjectName) → (x.activation ≡ a → ⊥) → opened g a o x ≡ o x
  opened_other g o a x ne =
      ap (λ b. if b then option_map (flat p.structs) (slice_get g.variables x.variable) else o x) (other_number x.activation a ne)

  pub opened_grows : (g : Function) (o : Objects) (m : Memory) (a : ℕ) → IsTypedAfter p o m a → Grows o (opened g (suc a) o)
  opened_grows g o m a k x all e = opened_other g o (suc a) x (λ d. let none = k.later x (omega (arith, d)) in cc) ∙ e

  opened_later : (g : Function) (o : Objects) (m : Memory) (a : ℕ) → IsTypedAfter p o m a → (x : ObjectName) → suc a < x.activation → opened g (suc a) o x ≡ None
  opened_later g o m a k x l = opened_other g o (suc a) x (λ d. omega (arith, d, l)) ∙ k.later x (omega (arith, l))

  opened_few : (g : Function) (o : Objects) (m : Memory) (a : ℕ) → All (IsObject p.structs) g.variables → IsTypedAfter p o m a → (x : ObjectName) (all : List CType) → opened g (suc a) o x ≡ Some all → length all ≤ 65536
  opened_few g o m a objects k x all e = at (nat_eq x.activation (suc a)) (slice_get g.variables x.variable) refl e
    where
      at : (b : Bool) (c : Option CType) → slice_get g.variables x.variable ≡ c → (if b then option_map (flat p.structs) c else o x) ≡ Some all → length all ≤ 65536
      at false c d e = k.few x all e
      at true None d e = absurd (cc)
      at true (Some t) d e =
          let same : flat p.structs t ≡ all = cc in
          subst (λ (all : List CType). length all ≤ 65536) same (all_get (IsObject p.structs) g.variables x.variable t objects d).few

  opened_alike : (g : Function) (o : Objects) (a : ℕ) → TellsAlike a o (opened g (suc a) o)
  opened_alike g o a x l = opened_other g o (suc a) x (λ d. omega (arith, d, l))

  opened_none : (g : Function) (o : Objects) (a x : ℕ) → length g.variables ≤ x → opened g a o (record { activation = a; variable = x }) ≡ None
  opened_none g o a x l = rw (nat_eq_equiv.refl a, slice_get_past g.variables x l) refl

  pub opened_own : (g : Function) (o : Objects) (a x : ℕ) (t : CType) → slice_get g.variables x ≡ Some t → opened g a o (record { activation = a; variable = x }) ≡ Some (flat p.structs t)
  opened_own g o a x t e = rw (nat_eq_equiv.refl a, e) refl

  -- parameters have the values of arguments
  pub parameters_typed : (o : Objects) (a x : ℕ) (ts : List CType) (vs : List Value) (m : Memory) → IsTypedMemory p o m → AllZip (HasKind p o) ts vs → All IsScalar ts → ((j : ℕ) (t : CType) → slice_get ts j ≡ Some t → o (record { activation = a; variable = x + j }) ≡ Some (flat p.structs t)) → IsTypedMemory p o (with_parameters a x vs m)
  parameters_typed o a x [] [] m h z b k = h
  parameters_typed o a x (t ∷ ts) (v ∷ vs) m h z b k =
      let here : x + 0 ≡ x = omega arith in
      parameters_typed o a (suc x) ts vs _ (memory_changed p o m (record { activation = a; variable = x }) (flat p.structs t) (record { cells = v ∷ []; string = false }) h (subst (λ x. o (record { activation = a; variable = x }) ≡ Some (flat p.structs t)) here (k 0 t refl)) (subst (λ ts. AllZip (IsCell p o) ts (v ∷ [])) (sym (flat_one p.structs t (All-head IsScalar t ts b))) (kind_cell p o t v z.0, tt))) z.1 (All-tail IsScalar t ts b) (λ j u e.
      let next : x + suc j ≡ suc x + j = omega arith in
      subst (λ x. o (record { activation = a; variable = x }) ≡ Some (flat p.structs u)) next (k (suc j) u e))
  parameters_typed o a x ts vs m h z b k = absurd z

  -- what a call gives, by how the body is left
  pub without_ends : (is_main wanted : Bool) (r : CType) (o : Objects) (st : State) → (is_main ≡ true → r ≡ int) → IsTypedState p o st → EndsTyped p {A = Value} (λ o v. IsGiven p o wanted r v) o st.entries (without_value is_main wanted st)
  without_ends true wanted r o st h k =
      now p {A = Value} (λ o v. IsGiven p o wanted r v) o (Int (pos 0)) st (kind_given p o wanted r (Int (pos 0)) (h refl, grind (arith, ints))) k
  without_ends false true r o st h k = ((omega arith, omega arith), All-nil IsRecorded)
  without_ends false false r o st h k = now p {A = Value} (λ o v. IsGiven p o false r v) o Indeterminate st tt k

  pub result_ends : (is_main wanted : Bool) (r : CType) (x : Exit) (o : Objects) (st : State) → (is_main ≡ true → r ≡ int) → IsExit p r false false o x → IsTypedState p o st → EndsTyped p {A = Value} (λ o v. IsGiven p o wanted r v) o st.entries (result_of is_main wanted x st)
  result_ends is_main wanted r (returned (Some v)) o st h i k = now p {A = Value} (λ o v. IsGiven p o wanted r v) o v st (kind_given p o wanted r v i) k
  result_ends is_main wanted r broken o st h i k = absurd (false≢true i)
  result_ends is_main wanted r continued o st h i k = absurd (false≢true i)
  result_ends is_main wanted r x o st h i k = without_ends is_main wanted r o st h k

  pub main_gives : (f : ℕ) (g : Function) (r : CType) (ts : CTypes) → slice_get p.functions f ≡ Some g → g.ctype ≡ function r ts → nat_eq f p.main ≡ true → r ≡ int
  main_gives f g r ts e d h =
      let same : f ≡ p.main = eqb-true f p.main h in
      let m = typed.main in
      cc (e, d, same, m.1, m.2)

  -- the store typing in which a function's body begins: of the new activation it tells of the function's variables alone
  pub record Opens (o : Objects) (g : Function) (vs : List Value) (st : State) : Type 0 where
    pub told : Objects
    pub grows : Grows o told
    pub alike : TellsAlike st.entries o told
    pub only : (x : ℕ) → length g.variables ≤ x → told (record { activation = suc st.entries; variable = x }) ≡ None
    pub frame : IsTypedFrame p told (record { activation = suc st.entries; types = g.variables })
    pub state : IsTypedState p told (entered vs st)

  pub opens : (f : ℕ) (g : Function) (r : CType) (ts : CTypes) (vs : List Value) (o : Objects) (st : State) → slice_get p.functions f ≡ Some g → g.ctype ≡ function r ts → TellsOfStatics p o → AllZip (HasKind p o) (list_of ts) vs → IsTypedState p o st → Opens o g vs st
  opens f g r ts vs o st e d s z k =
      let a = suc st.entries in
      let is = all_get (IsFunction p) p.functions f g typed.functions e in
      let takes : is.takes ≡ ts = cc (is.type, d) in
      let u = opened g a o in
      let grows = opened_grows g o st.memory st.entries k in
      let scalars : All IsScalar (list_of ts) = subst (λ ts. All IsScalar (list_of ts)) takes is.scalars in
      record {
        told = u;
        grows = grows;
        alike = opened_alike g o st.entries;
        only = λ x l. opened_none g o a x l;
        frame = record {
          statics = λ x t q. grows (static_name x) _ (s x t q);
          objects = λ x t q. all_get (IsObject p.structs) g.variables x t is.objects q;
          variables = λ x t q. opened_own g o a x t q;
        };
        state = record {
          memory = parameters_typed u a 0 (list_of ts) vs st.memory (memory_grows p o u st.memory grows k.memory) (carry_all p o u (list_of ts) vs grows z) scalars (λ j t q. opened_own g o a (0 + j) t (own (is.others) (is.parameters ∙ ap (λ ts. list_of ts ++ is.others) takes) j t q));
          few = opened_few g o st.memory st.entries is.objects k;
          later = opened_later g o st.memory st.entries k;
        };
      }
    where
      own : (others : List CType) → g.variables ≡ list_of ts ++ others → (j : ℕ) (t : CType) → slice_get (list_of ts) j ≡ Some t → slice_get g.variables (0 + j) ≡ Some t
      own others q j t c = at_place g.variables t j (0 + j) (omega arith) (ap (λ xs. slice_get xs j) q ∙ get_left (list_of ts) others j t c)

  -- its body, with the result of its type
  pub body_typed : (f : ℕ) (g : Function) (r : CType) (ts : CTypes) → slice_get p.functions f ≡ Some g → g.ctype ≡ function r ts → IsStmt p g.variables r false false g.body
  body_typed f g r ts e d =
      let is = all_get (IsFunction p) p.functions f g typed.functions e in
      let gives : is.gives ≡ r = cc (is.type, d) in
      subst (λ r. IsStmt p g.variables r false false g.body) gives is.typed

  module _ (marks : Marks) (recorded : AreRecorded marks) where
    body_ends : (w : World) → IsTypedWorld p w → (is_main wanted : Bool) (f : ℕ) (g : Function) (r : CType) (ts : CTypes) (vs : List Value) (o : Objects) (st : State) → slice_get p.functions f ≡ Some g → g.ctype ≡ function r ts → (is_main ≡ true → r ≡ int) → TellsOfStatics p o → AllZip (HasKind p o) (list_of ts) vs → IsTypedState p o st → EndsTyped p {A = Value} (λ o v. IsGiven p o wanted r v) o st.entries (run_body p w marks is_main wanted (Some g) vs st)
    body_ends w goes is_main wanted f g r ts vs o st e d h s z k =
        let a = suc st.entries in
        let b = opens f g r ts vs o st e d s z k in
        grown p {A = Value} (λ o v. IsGiven p o wanted r v) o b.told st.entries (suc st.entries) _ b.grows (omega arith) b.alike (then_ends p {A = Exit} {B = Value} (IsExit p r false false) (λ o v. IsGiven p o wanted r v) b.told _ _ _ (exec_ends p n typed marks recorded w goes (record { activation = a; types = g.variables }) r false false g.body b.told (entered vs st) b.frame (body_typed f g r ts e d) (body_stands p f g e) b.state) (λ o' x after grows' i k. result_ends is_main wanted r x o' (with_memory after (without a (parameters 0 vs) after.memory)) h i (record { memory = without_typed p n typed marks recorded w goes (record { activation = a; types = g.variables }) o' a (parameters 0 vs) after.memory k.memory; few = k.few; later = k.later })))

    enter_ends : (w : World) → IsTypedWorld p w → (wanted : Bool) (f : ℕ) (g : Function) (r : CType) (ts : CTypes) (vs : List Value) (o : Objects) (st : State) → slice_get p.functions f ≡ Some g → g.ctype ≡ function r ts → TellsOfStatics p o → AllZip (HasKind p o) (list_of ts) vs → IsTypedState p o st → EndsTyped p {A = Value} (λ o v. IsGiven p o wanted r v) o st.entries (enter p w marks wanted f vs st)
    enter_ends w goes wanted f g r ts vs o st e d s z k =
        spend_ends p {A = Value} (λ o v. IsGiven p o wanted r v) o st.turns st _ k (λ st k. subst (λ c. EndsTyped p {A = Value} (λ o v. IsGiven p o wanted r v) o st.entries (run_body p w marks (nat_eq f p.main) wanted c vs st)) (sym e) (body_ends w goes (nat_eq f p.main) wanted f g r ts vs o st e d (main_gives f g r ts e d) s z k))

    loop_ends : (w : World) → IsTypedWorld p w → (fr : Frame) (r : CType) (l : Loop) (o : Objects) (st : State) → IsTypedFrame p o fr → IsTest p fr.types l.test → IsStmt p fr.types r true true l.body → IsStep p fr.types l.step → StandsRound p l → IsTypedState p o st → EndsTyped p {A = Exit} (IsExit p r false false) o st.entries (loop p w marks fr l st)
    loop_ends w goes fr r l o st s test body step m k =
        spend_ends p {A = Exit} (IsExit p r false false) o st.turns st _ k (λ st k. then_ends p {A = Bool} {B = Exit} (Holds p n typed marks recorded) (IsExit p r false false) o _ _ _ (condition_ends p n typed marks recorded w goes fr l.test o st s test m.test k) (λ o1 holds st g1 i k. either_ends p {A = Exit} (IsExit p r false false) o1 _ holds _ _ (then_ends p {A = Exit} {B = Exit} (IsExit p r true true) (IsExit p r false false) o1 _ _ _ (exec_ends p n typed marks recorded w goes fr r true true l.body o1 st (on_frame o o1 g1 s) body m.body k) (λ o2 x st g2 i k. round_ends p r o2 x st (λ st. then_do (perhaps p w marks fr l.step st) (λ y st. w.again fr l st)) i k (then_ends p {A = Exit} {B = Exit} (IsExit p r false false) (IsExit p r false false) o2 _ _ _ (perhaps_ends p n typed marks recorded w goes fr r l.step o2 st (on_frame o o2 (grows_on o o1 o2 g1 g2) s) step m.step k) (λ o3 y st g3 i k. goes.again fr r l o3 st (on_frame o o3 (grows_on o o1 o3 g1 (grows_on o1 o2 o3 g2 g3)) s) test body step m k)))) (now p {A = Exit} (IsExit p r false false) o1 on st tt k)))
      where
        on_frame : (o u : Objects) → Grows o u → IsTypedFrame p o fr → IsTypedFrame p u fr
        on_frame o u g s = stands_on p n typed marks recorded o u fr g s

    world_typed : (k : ℕ) → IsTypedWorld p (world p marks k)
    world_typed zero = record {
      enter = λ wanted f g r ts vs o st e d s z k. (tt, All-nil IsRecorded);
      again = λ fr r l o st s test body step m k. (tt, All-nil IsRecorded);
    }
    world_typed (suc k) = record {
      enter = enter_ends (world p marks k) (world_typed k);
      again = loop_ends (world p marks k) (world_typed k);
    }

    pub parts_typed : (turns : ℕ) → PartsAreTyped p marks turns
    parts_typed turns =
        let w = world p marks turns in
        let goes = world_typed turns in
        record {
          turning = goes;
          values = λ fr wanted e o st s h m k. value_ends p n typed marks recorded w goes fr wanted e o st s h m k;
          places = λ fr wanted e o st s h m k. where_ends p n typed marks recorded w goes fr wanted e o st s h m k;
          arguments = λ fr ts es o st s h m k. all_end p n typed marks recorded w goes fr ts es o st s h m k;
          statements = λ fr r breaks continues a o st s h m k. exec_ends p n typed marks recorded w goes fr r breaks continues a o st s h m k;
        }

    ended_run : (o : Objects) (start : ℕ) (q : Result Value) → EndsTyped p {A = Value} (λ o v. HasKind p o int v) o start q → IsTypedRun (ending q)
    ended_run o start (Go v st w) h = record { outcome = int_value p h.0 (λ v. IsEnding (exit_of v)) v h.2 (λ z f. f); trace = h.4 }
    ended_run o start (Stop e w) h = record { outcome = h.0; trace = h.1 }

pub runs_are_typed : RunsAreTyped
runs_are_typed p n typed marks recorded records turns =
    let m = typed.main in
    let b = begins p n typed records turns in
    ended_run p n typed marks recorded (static_objects p) 0 _ (enter_ends p n typed marks recorded (world p marks turns) (world_typed p n typed marks recorded turns) true p.main m.0 int no_types [] (static_objects p) (beginning p records turns) m.1 m.2 b.statics tt b.state)

pub runs_begin_typed : RunsBeginTyped
runs_begin_typed p n typed records turns = begins p n typed records turns

pub types_are_kept : TypesAreKept
types_are_kept p n typed marks recorded turns = parts_typed p n typed marks recorded turns

pub pointers_are_inside : PointersAreInside
pointers_are_inside p n typed o m t q k h l = inside p n typed o m h.0 q k h.2 l

pub places_are_inside : PlacesAreInside
places_are_inside p n typed o m t q k h l =
    inside p n typed o m t q k (place_pointer p n typed o t q h) (omega (arith, (ap (λ e. e * q.width) h.alone), l))
