-- In a machine the expressions of a well-typed program do what they mean.
use Rattle.std.proofs.Common.{◌≡◌, ℕ, ◌-◌, ◌<◌, ◌≤◌, nat_lt, nat_eq, if◌then◌else◌, Bool, true, false, List, [], ◌∷◌, ◌++◌, map, Some, slice_get, length, append_assoc, sym, ap, ◌∙◌, subst, refl, arith}
use Rattle.std.specs.List.{AllZip}
use Rattle.std.proofs.lemmas.Bool.Decides.{nat_tests}
use Rattle.dm_base.specs.declared.event.Event.TheVariants.{Pre, Post}
use Rattle.dm_base.specs.declared.outcome.Outcome.TheVariants.{Undefined}
use Rattle.c_tree.specs.declared.value.Value.{Value}
use Rattle.c_tree.specs.Tree.{CType, pointer, function, CTypes, no_types, more_types, list_of, Function, Program, type_of}
use Rattle.c_tree.specs.Tree.{Expr, constant, function_name, string_place, variable, dereference, load, address_of, decay, discard, field, unary_operation, conversion, arithmetic, comparison, pointer_add, pointer_diff, and, or, assign, update, conditional, comma, call, call_through}
use Rattle.c_tree.specs.Tree.{Exprs, no_exprs, more_exprs}
use Rattle.c_tree.specs.Functions.{sys_types, null_types, defined, type_of_defined, value_types, value_type, called_type}
use Rattle.c_tree.specs.Operands.{IsObject}
use Rattle.c_tree.specs.Kinds.{Objects}
use Rattle.c_tree.specs.Program.{IsStatic, IsProgram}
use Rattle.c_tree.specs.Typed.{IsStaticOf, IsVariableOf, IsValue, IsPlace, AreMembers, AreArguments, IsCondition}
use Rattle.c_values.specs.Answers.{Answer, gives, undefined}
use Rattle.c_meaning.specs.Mentions.{Calls, Direct, Through, mentions, mentions_of_all}
use Rattle.c_meaning.specs.Meaning as meaning
use Rattle.c_meaning.specs.Meaning.{Frame, World, either, name_in, static_name, with_marks, wants, null_call, tested}
use Rattle.c_meaning.specs.Pointers.{callee, load_place}
use Rattle.c_meaning.specs.Results.{State, Result, Go, Stop, after, then_do, answered}
use Rattle.c_meaning.specs.Runs.{no_marks}
use Rattle.c_meaning.specs.SystemCalls as calls
use Rattle.c_meaning.specs.StoreTyping.{HasKind, IsPlaced, IsTypedState, Grows, TellsOfStatics, IsTypedFrame}
use Rattle.c_meaning.specs.TypedResults.{EndsTyped, Gives, GiveAll, StandsIn, IsTypedWorld}
use Rattle.c_meaning.proofs.Places.{all_get, get_left, get_before, grows_on, carry}
use Rattle.c_meaning.proofs.Steps.{Right, IsCallee, callee_right}
use Rattle.c_meaning.proofs.Keeps.{Holds, scalar_kind, stands_on, arguments_kind, value_ends, where_ends, all_end, condition_tested}
use Rattle.c_meaning.proofs.Standing.{left_part, right_part}
use Rattle.c_meaning.proofs.Expressions.{defined_at}
use Rattle.ref_machine_frames.specs.Held.{call_undefined, called, called_through, eval, eval_each, eval_all, system_call, system_call_alone}
use Rattle.ref_machine_frames.proofs.Joining.{after_none, then_nothing}
use Rattle.ref_machine_frames.proofs.HeldSteps.{whole_same, behind_of_same, decayed_same, member_of_same, difference_same, system_call_same}
pub use Rattle.c_meaning.proofs.TypedRuns.{none_recorded}
use Rattle.c_meaning.proofs.Keeps.{undefined_at, sys_many}

-- no events stand round a call
bracket_none : (site : ℕ) (r : Result Value) → with_marks no_marks site r ≡ r
bracket_none site r = after_none (then_do r (λ v st. Go v st [])) ∙ then_nothing r

-- one part and then the next, in two ways
pub then_same : (p : Program) {A B : Type 0} (ok : Objects → A → Type 0) (o : Objects) (start : ℕ) (r q : Result A) (f g : A → State → Result B) → EndsTyped p {A = A} ok o start q → r ≡ q → ((u : Objects) (a : A) (st : State) → Grows o u → ok u a → IsTypedState p u st → f a st ≡ g a st) → then_do r f ≡ then_do q g
then_same p ok o start r (Go a st w) f g h e k = ap (λ r. then_do r f) e ∙ ap (after w) (k h.0 a st h.1 h.2 h.3)
then_same p ok o start r (Stop x w) f g h e k = ap (λ r. then_do r f) e

answer_same : {A B : Type 0} (ok : A → Type 0) (a : Answer A) (st : State) (f g : A → State → Result B) → Right {A = A} ok a → ((x : A) → ok x → f x st ≡ g x st) → then_do (answered a st) f ≡ then_do (answered a st) g
answer_same ok (gives x) st f g h k = ap (after []) (k x h)
answer_same ok (undefined kind) st f g h k = refl

any_answer : {A B : Type 0} (a : Answer A) (st : State) (f g : A → State → Result B) → ((x : A) → f x st ≡ g x st) → then_do (answered a st) f ≡ then_do (answered a st) g
any_answer (gives x) st f g k = ap (after []) (k x)
any_answer (undefined kind) st f g k = refl

pub either_same : {A : Type 0} (holds : Bool) (a b c d : A) → a ≡ c → b ≡ d → either holds a b ≡ either holds c d
either_same true a b c d h k = h
either_same false a b c d h k = k

module _ (p : Program) (n : ℕ) (typed : IsProgram p n) where
  -- a function that has no definition
  undefined_same : (o : Objects) (x : ℕ) (r : CType) (ts : CTypes) (vs : List Value) (st : State) → slice_get (sys_types ++ null_types) x ≡ Some (function r ts) → AllZip (HasKind p o) (list_of ts) vs → call_undefined x vs st ≡ meaning.call_undefined x vs st
  undefined_same o x r ts vs st e z = at (nat_lt x 24) refl
    where
      other : Result Value
      other = if nat_eq x 24 then null_call Pre vs st else (if nat_eq x 25 then null_call Post vs st else Stop (Undefined 13) [])

      at : (b : Bool) → nat_lt x 24 ≡ b → (if b then system_call x vs st else other) ≡ (if b then calls.system_call x vs st else other)
      at true d =
          let less : x < 24 = grind (arith, nat_tests) in
          system_call_same p o x r ts vs st (sym (get_before sys_types null_types x (subst (λ m. x < m) (sym sys_many) less)) ∙ e) z
      at false d = refl

  alone_same : (o : Objects) (x : ℕ) (r : CType) (ts : CTypes) (vs : List Value) (st : State) → slice_get sys_types x ≡ Some (function r ts) → AllZip (HasKind p o) (list_of ts) vs → system_call_alone x vs st ≡ meaning.system_call_alone x vs st
  alone_same o x r ts vs st e z = ap (λ r. if nat_lt x 24 then r else Stop (Undefined 13) []) (system_call_same p o x r ts vs st e z)

  -- two worlds enter functions alike where the arguments are typed
  abbrev pub EnterAlike : World → World → Type 0
  EnterAlike v w =
      (wanted : Bool) (f : ℕ) (g : Function) (r : CType) (ts : CTypes) (vs : List Value) (o : Objects) (st : State) → slice_get p.functions f ≡ Some g → g.ctype ≡ function r ts → TellsOfStatics p o → AllZip (HasKind p o) (list_of ts) vs → IsTypedState p o st → v.enter wanted f vs st ≡ w.enter wanted f vs st

  module _ (v w : World) (goes : IsTypedWorld p w) (enters : EnterAlike v w) where
    called_same : (wanted : Bool) (f : ℕ) (r : CType) (ts : CTypes) (vs : List Value) (o : Objects) (st : State) → called_type p f ≡ Some (function r ts) → TellsOfStatics p o → AllZip (HasKind p o) (list_of ts) vs → IsTypedState p o st → called p v (wants wanted r) f vs st ≡ meaning.called p w (wants wanted r) f vs st
    called_same wanted f r ts vs o st e s z k = at (nat_lt f (defined p)) refl
      where
        all : slice_get (map type_of_defined p.functions ++ (sys_types ++ null_types)) f ≡ Some (function r ts)
        all = ap (λ xs. slice_get xs f) (sym (append_assoc (map type_of_defined p.functions) sys_types null_types)) ∙ e

        at : (b : Bool) → nat_lt f (defined p) ≡ b → (if b then v.enter (wants wanted r) f vs st else call_undefined (f - defined p) vs st) ≡ (if b then w.enter (wants wanted r) f vs st else meaning.call_undefined (f - defined p) vs st)
        at true d =
            let less : f < length p.functions = grind (arith, nat_tests) in
            let g = defined_at p.functions (sys_types ++ null_types) f (function r ts) less all in
            enters (wants wanted r) f g.0 r ts vs o st g.1 g.2 s z k
        at false d =
            let more : length p.functions ≤ f = grind (arith, nat_tests) in
            undefined_same o (f - defined p) r ts vs st (undefined_at p.functions (sys_types ++ null_types) f (function r ts) more all) z

    through_same : (wanted : Bool) (f : ℕ) (r : CType) (ts : CTypes) (vs : List Value) (o : Objects) (st : State) → value_type p f ≡ Some (function r ts) → TellsOfStatics p o → AllZip (HasKind p o) (list_of ts) vs → IsTypedState p o st → called_through p v (wants wanted r) f vs st ≡ meaning.called_through p w (wants wanted r) f vs st
    through_same wanted f r ts vs o st e s z k = at (nat_lt f (defined p)) refl
      where
        at : (b : Bool) → nat_lt f (defined p) ≡ b → (if b then v.enter (wants wanted r) f vs st else system_call_alone (f - defined p) vs st) ≡ (if b then w.enter (wants wanted r) f vs st else meaning.system_call_alone (f - defined p) vs st)
        at true d =
            let less : f < length p.functions = grind (arith, nat_tests) in
            let g = defined_at p.functions sys_types f (function r ts) less e in
            enters (wants wanted r) f g.0 r ts vs o st g.1 g.2 s z k
        at false d =
            let more : length p.functions ≤ f = grind (arith, nat_tests) in
            alone_same o (f - defined p) r ts vs st (undefined_at p.functions sys_types f (function r ts) more e) z

    -- a call through a value
    callee_same : (wanted : Bool) (r : CType) (ts : CTypes) (u : Value) (vs : List Value) (o : Objects) (st : State) → HasKind p o (pointer (function r ts)) u → TellsOfStatics p o → GiveAll p (list_of ts) o vs → IsTypedState p o st → then_do (answered (callee u) st) (λ f st. called_through p v (wants wanted r) f vs st) ≡ then_do (answered (callee u) st) (λ f st. meaning.called_through p w (wants wanted r) f vs st)
    callee_same wanted r ts u vs o st h s z k =
        answer_same {A = ℕ} {B = Value} (IsCallee p n typed (function r ts)) (callee u) st _ _ (callee_right p n typed o r ts u h) (λ f i. through_same wanted f r ts vs o st i.0 s (arguments_kind p n typed no_marks none_recorded r r ts f o vs (get_left (value_types p) null_types f (function r ts) i.0) z) k)

    module _ (fr : Frame) where
      abbrev H : Bool → Expr → State → Result Value
      H wanted e st = eval p v fr wanted e st

      abbrev M : Bool → Expr → State → Result Value
      M wanted e st = meaning.eval p w no_marks fr wanted e st

      pub on_frame : (o u : Objects) → Grows o u → IsTypedFrame p o fr → IsTypedFrame p u fr
      on_frame o u g s = stands_on p n typed no_marks none_recorded o u fr g s

      -- a part does what it means, wherever it is typed
      abbrev pub SameWhere : Bool → Expr → Type 0 → Type 0
      SameWhere wanted e is_typed =
          (o : Objects) (st : State) → IsTypedFrame p o fr → is_typed → StandsIn p (mentions e) → IsTypedState p o st → H wanted e st ≡ M wanted e st

      -- a value, and then the next part
      pub on_value : {B : Type 0} (wanted : Bool) (e : Expr) → SameWhere wanted e (IsValue p fr.types e) → (o : Objects) (st : State) (f g : Value → State → Result B) → IsTypedFrame p o fr → IsValue p fr.types e → StandsIn p (mentions e) → IsTypedState p o st → ((u : Objects) (x : Value) (st : State) → Grows o u → Gives p wanted (type_of e) u x → IsTypedState p u st → f x st ≡ g x st) → then_do (H wanted e st) f ≡ then_do (M wanted e st) g
      on_value {B} wanted e same o st f g s h m k next =
          then_same p {A = Value} {B = B} (Gives p wanted (type_of e)) o _ (H wanted e st) (M wanted e st) f g (value_ends p n typed no_marks none_recorded w goes fr wanted e o st s h m k) (same o st s h m k) next

      on_place : {B : Type 0} (wanted : Bool) (e : Expr) → SameWhere wanted e (IsPlace p fr.types e) → (o : Objects) (st : State) (f g : Value → State → Result B) → IsTypedFrame p o fr → IsPlace p fr.types e → StandsIn p (mentions e) → IsTypedState p o st → ((u : Objects) (x : Value) (st : State) → Grows o u → IsPlaced p u (type_of e) x → IsTypedState p u st → f x st ≡ g x st) → then_do (H wanted e st) f ≡ then_do (M wanted e st) g
      on_place {B} wanted e same o st f g s h m k next =
          then_same p {A = Value} {B = B} (λ o x. IsPlaced p o (type_of e) x) o _ (H wanted e st) (M wanted e st) f g (where_ends p n typed no_marks none_recorded w goes fr wanted e o st s h m k) (same o st s h m k) next

      pub on_test : {B : Type 0} (e : Expr) → SameWhere true e (IsValue p fr.types e) → (o : Objects) (st : State) (f g : Bool → State → Result B) → IsTypedFrame p o fr → IsCondition p fr.types e → StandsIn p (mentions e) → IsTypedState p o st → ((u : Objects) (b : Bool) (st : State) → Grows o u → IsTypedState p u st → f b st ≡ g b st) → then_do (tested (H true e st)) f ≡ then_do (tested (M true e st)) g
      on_test {B} e same o st f g s h m k next =
          then_same p {A = Bool} {B = B} (Holds p n typed no_marks none_recorded) o _ (tested (H true e st)) (tested (M true e st)) f g (condition_tested p n typed no_marks none_recorded w goes fr e o st s h m k) (ap tested (same o st s h.1 m k)) (λ u b st g i k. next u b st g k)

      on_all : {B : Type 0} (ts : CTypes) (es : Exprs) → ((o : Objects) (st : State) → IsTypedFrame p o fr → AreArguments p fr.types ts es → StandsIn p (mentions_of_all es) → IsTypedState p o st → eval_all p v fr es st ≡ meaning.eval_all p w no_marks fr es st) → (o : Objects) (st : State) (f g : List Value → State → Result B) → IsTypedFrame p o fr → AreArguments p fr.types ts es → StandsIn p (mentions_of_all es) → IsTypedState p o st → ((u : Objects) (vs : List Value) (st : State) → Grows o u → GiveAll p (list_of ts) u vs → IsTypedState p u st → f vs st ≡ g vs st) → then_do (eval_all p v fr es st) f ≡ then_do (meaning.eval_all p w no_marks fr es st) g
      on_all {B} ts es same o st f g s h m k next =
          then_same p {A = List Value} {B = B} (GiveAll p (list_of ts)) o _ _ _ f g (all_end p n typed no_marks none_recorded w goes fr ts es o st s h m k) (same o st s h m k) next

      -- two operands
      both : (a b : Expr) → SameWhere true a (IsValue p fr.types a) → SameWhere true b (IsValue p fr.types b) → (o : Objects) (st : State) (f : State → Value → Value → Result Value) → IsTypedFrame p o fr → IsValue p fr.types a → IsValue p fr.types b → StandsIn p (mentions a ++ mentions b) → IsTypedState p o st → then_do (H true a st) (λ x st. then_do (H true b st) (λ y st. f st x y)) ≡ then_do (M true a st) (λ x st. then_do (M true b st) (λ y st. f st x y))
      both a b one other o st f s h i m k =
          on_value {B = Value} true a one o st _ _ s h (left_part p (mentions a) (mentions b) m) k (λ u x st g j k. on_value {B = Value} true b other u st _ _ (on_frame o u g s) i (right_part p (mentions a) (mentions b) m) k (λ u y st g j k. refl))

      static_object : (string : Bool) (k : ℕ) (t : CType) → IsStaticOf p string k t → IsObject p.structs t
      static_object string k t (a, e, f, d) = subst (IsObject p.structs) d (all_get (IsStatic p) p.statics k a typed.statics e).object

      variable_object : (o : Objects) (b : Bool) (k : ℕ) (t : CType) → IsTypedFrame p o fr → IsVariableOf p fr.types b k t → IsObject p.structs t
      variable_object o true k t s h = static_object false k t h
      variable_object o false k t s h = s.objects k t h

      placed_at : (a : Answer Value) (x : Value) (st : State) → a ≡ gives x → answered a st ≡ Go x st []
      placed_at a x st e = ap (λ a. answered a st) e

      mutual
        pub value_same : (wanted : Bool) (e : Expr) (o : Objects) (st : State) → IsTypedFrame p o fr → IsValue p fr.types e → StandsIn p (mentions e) → IsTypedState p o st → H wanted e st ≡ M wanted e st
        value_same wanted (constant t x) o st s h m k = refl
        value_same wanted (load t a) o st s h m k =
            on_place {B = Value} true a (place_same true a) o st _ _ s h.2 m k (λ u x st g i k. refl)
        value_same wanted (address_of t a) o st s h m k = place_same true a o st s h.1 m k
        value_same wanted (decay t a) o st s h m k =
            on_place {B = Value} true a (place_same true a) o st _ _ s h.1 m k (λ u x st g i k. ap (λ a. answered a st) (decayed_same p n typed u (type_of a) t x h.0 i))
        value_same wanted (discard t a) o st s h m k =
            on_value {B = Value} false a (value_same false a) o st _ _ s h.1 m k (λ u x st g i k. refl)
        value_same wanted (unary_operation t op a) o st s h m k =
            on_value {B = Value} true a (value_same true a) o st _ _ s h.1 m k (λ u x st g i k. refl)
        value_same wanted (conversion t to a) o st s h m k =
            on_value {B = Value} true a (value_same true a) o st _ _ s h.2 m k (λ u x st g i k. refl)
        value_same wanted (arithmetic t op a b) o st s h m k =
            both a b (value_same true a) (value_same true b) o st _ s h.1 h.2 m k
        value_same wanted (comparison t op a b) o st s h m k =
            both a b (value_same true a) (value_same true b) o st _ s h.1 h.2 m k
        value_same wanted (pointer_add t first subtracted a b) o st s h m k =
            both a b (value_same true a) (value_same true b) o st _ s h.1 h.2 m k
        value_same wanted (pointer_diff t a b) o st s h m k =
            let to = pointer h.1.0 in
            on_value {B = Value} true a (value_same true a) o st _ _ s h.3 (left_part p (mentions a) (mentions b) m) k (λ u x st g i k. on_value {B = Value} true b (value_same true b) u st _ _ (on_frame o u g s) h.4 (right_part p (mentions a) (mentions b) m) k (λ u' y st g' j k.
            let left = carry p u u' to x g' (scalar_kind p n typed no_marks none_recorded to u x tt (subst (λ t. Gives p true t u x) h.1.1 i)) in
            let right = scalar_kind p n typed no_marks none_recorded to u' y tt (subst (λ t. Gives p true t u' y) (h.2 ∙ h.1.1) j) in
            ap (λ a. answered a st) (difference_same p n typed u' h.1.0 x y st.memory k.few h.1.2 left right)))
        value_same wanted (and t a b) o st s h m k =
            on_test {B = Value} a (value_same true a) o st _ _ s h.1 (left_part p (mentions a) (mentions b) m) k (λ u holds st g k. either_same {A = Result Value} holds _ _ _ _ (on_test {B = Value} b (value_same true b) u st _ _ (on_frame o u g s) h.2 (right_part p (mentions a) (mentions b) m) k (λ u holds st g k. refl)) refl)
        value_same wanted (or t a b) o st s h m k =
            on_test {B = Value} a (value_same true a) o st _ _ s h.1 (left_part p (mentions a) (mentions b) m) k (λ u holds st g k. either_same {A = Result Value} holds _ _ _ _ refl (on_test {B = Value} b (value_same true b) u st _ _ (on_frame o u g s) h.2 (right_part p (mentions a) (mentions b) m) k (λ u holds st g k. refl)))
        value_same wanted (assign t a b) o st s h m k =
            on_place {B = Value} true a (place_same true a) o st _ _ s h.3 (left_part p (mentions a) (mentions b) m) k (λ u q st g i k. on_value {B = Value} true b (value_same true b) u st _ _ (on_frame o u g s) h.4 (right_part p (mentions a) (mentions b) m) k (λ u x st g i k. refl))
        value_same wanted (update t op old a b) o st s h m k =
            on_place {B = Value} true a (place_same true a) o st _ _ s h.2 (left_part p (mentions a) (mentions b) m) k (λ u q st g i k. any_answer {A = Value} {B = Value} (load_place st.memory q) st _ _ (λ before. on_value {B = Value} true b (value_same true b) u st _ _ (on_frame o u g s) h.3 (right_part p (mentions a) (mentions b) m) k (λ u x st g i k. refl)))
        value_same wanted (conditional t c a b) o st s h m k =
            let after_test = right_part p (mentions c) (mentions a ++ mentions b) m in
            on_test {B = Value} c (value_same true c) o st _ _ s h.0 (left_part p (mentions c) (mentions a ++ mentions b) m) k (λ u holds st g k. either_same {A = Result Value} holds _ _ _ _ (value_same true a u st (on_frame o u g s) h.3 (left_part p (mentions a) (mentions b) after_test) k) (value_same true b u st (on_frame o u g s) h.4 (right_part p (mentions a) (mentions b) after_test) k))
        value_same wanted (comma t es) o st s h m k = each_same wanted t es o st s h m k
        value_same wanted (call t site f es) o st s h m k =
            on_all {B = Value} h.0 es (all_same h.0 es) o st _ _ s h.2 (right_part p (Calls site (Direct f) ∷ []) (mentions_of_all es) m) k (λ u vs st g z k. called_same wanted f t h.0 vs u st h.1 (on_frame o u g s).statics (arguments_kind p n typed no_marks none_recorded t t h.0 f u vs h.1 z) k ∙ sym (bracket_none site (meaning.called p w (wants wanted t) f vs st)))
        value_same wanted (call_through t site a es) o st s h m k =
            let mine = right_part p (Calls site (Through (type_of a)) ∷ []) (mentions_of_all es) (right_part p (mentions a) (Calls site (Through (type_of a)) ∷ mentions_of_all es) m) in
            on_value {B = Value} true a (value_same true a) o st _ _ s h.2 (left_part p (mentions a) (Calls site (Through (type_of a)) ∷ mentions_of_all es) m) k (λ u x st g i k. on_all {B = Value} h.0 es (all_same h.0 es) u st _ _ (on_frame o u g s) h.3 mine k (λ u' vs st g' z k.
            let to = pointer (function t h.0) in
            let whom = carry p u u' to x g' (scalar_kind p n typed no_marks none_recorded to u x tt (subst (λ t. Gives p true t u x) h.1 i)) in
            callee_same wanted t h.0 x vs u' st whom (on_frame o u' (grows_on o u u' g g') s).statics z k ∙ sym (bracket_none site (then_do (answered (callee x) st) (λ f st. meaning.called_through p w (wants wanted t) f vs st)))))
        value_same wanted _ o st s h m k = absurd h

        pub place_same : (wanted : Bool) (e : Expr) (o : Objects) (st : State) → IsTypedFrame p o fr → IsPlace p fr.types e → StandsIn p (mentions e) → IsTypedState p o st → H wanted e st ≡ M wanted e st
        place_same wanted (function_name t f) o st s h m k = refl
        place_same wanted (string_place t x) o st s h m k =
            placed_at _ _ st (whole_same p n typed (static_name x) t (static_object true x t h))
        place_same wanted (variable t b x) o st s h m k =
            placed_at _ _ st (whole_same p n typed (name_in fr b x) t (variable_object o b x t s h))
        place_same wanted (dereference t a) o st s h m k =
            on_value {B = Value} true a (value_same true a) o st _ _ s h.2 m k (λ u x st g i k. ap (λ a. answered a st) (behind_of_same p n typed u t x st.memory k.few h.0 (scalar_kind p n typed no_marks none_recorded (pointer t) u x tt (subst (λ t. Gives p true t u x) h.1 i))))
        place_same wanted (field t first a) o st s h m k =
            on_place {B = Value} true a (place_same true a) o st _ _ s h.1 m k (λ u x st g i k. ap (λ a. answered a st) (member_of_same p n typed u (type_of a) t first x k.few h.0 i))
        place_same wanted _ o st s h m k = absurd h

        pub each_same : (wanted : Bool) (t : CType) (es : Exprs) (o : Objects) (st : State) → IsTypedFrame p o fr → AreMembers p fr.types t es → StandsIn p (mentions_of_all es) → IsTypedState p o st → eval_each p v fr wanted es st ≡ meaning.eval_each p w no_marks fr wanted es st
        each_same wanted t no_exprs o st s h m k = absurd h
        each_same wanted t (more_exprs e no_exprs) o st s h m k = value_same wanted e o st s h.0 (left_part p (mentions e) [] m) k
        each_same wanted t (more_exprs e (more_exprs f es)) o st s h m k =
            on_value {B = Value} false e (value_same false e) o st _ _ s h.0 (left_part p (mentions e) (mentions_of_all (more_exprs f es)) m) k (λ u x st g i k. each_same wanted t (more_exprs f es) u st (on_frame o u g s) h.1 (right_part p (mentions e) (mentions_of_all (more_exprs f es)) m) k)

        pub all_same : (ts : CTypes) (es : Exprs) (o : Objects) (st : State) → IsTypedFrame p o fr → AreArguments p fr.types ts es → StandsIn p (mentions_of_all es) → IsTypedState p o st → eval_all p v fr es st ≡ meaning.eval_all p w no_marks fr es st
        all_same no_types no_exprs o st s h m k = refl
        all_same no_types (more_exprs e es) o st s h m k = absurd h
        all_same (more_types t ts) no_exprs o st s h m k = absurd h
        all_same (more_types t ts) (more_exprs e es) o st s h m k =
            on_value {B = List Value} true e (value_same true e) o st _ _ s h.1 (left_part p (mentions e) (mentions_of_all es) m) k (λ u x st g i k. on_all {B = List Value} ts es (all_same ts es) u st _ _ (on_frame o u g s) h.2 (right_part p (mentions e) (mentions_of_all es) m) k (λ u vs st g z k. refl))
