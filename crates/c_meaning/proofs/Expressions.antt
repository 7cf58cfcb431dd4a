-- Expressions do alike where memory has further objects.
use Rattle.std.proofs.Common.{◌≡◌, ℕ, ◌-◌, if◌then◌else◌, Bool, true, false, List, [], ◌∷◌, ◌++◌, Some, slice_get, subst, refl}
use Rattle.std.specs.List.{AllZip}
use Rattle.c_tree.specs.declared.value.Value.{Value}
use Rattle.c_tree.specs.declared.value.Value.TheVariants.{Indeterminate, Func}
use Rattle.c_tree.specs.Tree.{CType, pointer, function, CTypes, no_types, more_types, list_of, Function, Program, type_of}
use Rattle.c_tree.specs.Tree.{Expr, constant, function_name, string_place, variable, dereference, load, address_of, decay, discard, field, unary_operation, conversion, arithmetic, comparison, pointer_add, pointer_diff, and, or, assign, update, conditional, comma, call, call_through}
use Rattle.c_tree.specs.Layout.{cells}
use Rattle.c_tree.specs.Tree.{Exprs, no_exprs, more_exprs}
use Rattle.c_tree.specs.Functions.{sys_types, null_types, defined, value_types, value_type, called_type}
use Rattle.c_tree.specs.Kinds.{Objects}
use Rattle.c_tree.specs.Operators.{Answer, gives, undefined, convert, binary}
use Rattle.c_tree.specs.Program.{IsProgram}
use Rattle.c_tree.specs.Typed.{IsValue, IsPlace, AreMembers, AreArguments, IsCondition}
use Rattle.c_meaning.specs.Memory.{Objects as Memory}
use Rattle.c_meaning.specs.Mentions.{Calls, Direct, Through, mentions, mentions_of_all}
use Rattle.c_meaning.specs.Meaning.{Marks, Frame, World, either, behind_of, decayed, operated, comparing, moving, updated, wants, call_undefined, called, system_call_alone, called_through, tested, eval, eval_each, eval_all}
use Rattle.c_meaning.specs.Pointers.{callee, truth_value, load_place, store_place, member, difference, test}
use Rattle.c_meaning.specs.Results.{State, with_memory, Result, then_do, answered}
use Rattle.c_meaning.specs.StoreTyping.{HasKind, IsPlaced, Grows, TellsOfStatics, IsTypedFrame}
use Rattle.c_meaning.specs.TypedResults.{Gives, GiveAll, StandsIn, IsTypedWorld, AreRecorded}
use Rattle.c_meaning.proofs.Places.{get_left, grows_on, carry}
use Rattle.c_meaning.proofs.Steps.{Right, IsCallee, callee_right, load_place_right, update_scalar}
use Rattle.c_meaning.proofs.Keeps.{by_definition, whole_types, Holds, stands_on, arguments_kind, value_ends, where_ends, all_end, condition_tested}
use Rattle.c_meaning.proofs.Standing.{left_part, right_part}
use Rattle.c_meaning.proofs.FurtherSteps.{Sees, test_same, behind_of_same, load_place_same, moving_same, difference_same, comparing_same, operated_same, updated_same}
use Rattle.c_meaning.proofs.Together.{Does, Shown, AllShown, sees, store_place_remembers, here, answered_does, remembered_does, Whenever, answered_then, either_does, instrumented_does, undefined_does, alone_does, Now, kind_shown, given_shown, place_shown, then_does}
pub use Rattle.c_meaning.proofs.Keeps.{defined_at}
pub use Rattle.c_meaning.proofs.Together.{any_whenever}

pub right_whenever : (ok : Value → Type 0) (r : Answer Value) → Right {A = Value} ok r → Whenever {A = Value} ok r
right_whenever ok (gives v) h = h
right_whenever ok (undefined kind) h = tt

module _ (known : Objects) (last : ℕ) (p : Program) (n : ℕ) (typed : IsProgram p n) (marks : Marks) (recorded : AreRecorded marks) where
  -- entries of functions do alike
  abbrev pub Enters : World → Type 0
  Enters w =
      (wanted : Bool) (f : ℕ) (g : Function) (r : CType) (ts : CTypes) (vs : List Value) (o : Objects) (st : State) (more : Memory) → slice_get p.functions f ≡ Some g → g.ctype ≡ function r ts → TellsOfStatics p o → AllZip (HasKind p o) (list_of ts) vs → Now known last p o st more → Does known last {A = Value} more (w.enter wanted f vs st) (w.enter wanted f vs (with_memory st more))

  pub zip_shown : (o : Objects) (ts : List CType) (vs : List Value) (st : State) (more : Memory) → Now known last p o st more → AllZip (HasKind p o) ts vs → AllShown known last vs
  zip_shown o [] [] st more k z = tt
  zip_shown o (t ∷ ts) (v ∷ vs) st more k z = (kind_shown known last p o t v k.tells z.0, zip_shown o ts vs st more k z.1)
  zip_shown o ts vs st more k z = absurd z

  module _ (w : World) (goes : IsTypedWorld p w) (enters : Enters w) where
    called_does : (wanted : Bool) (f : ℕ) (r : CType) (ts : CTypes) (vs : List Value) (o : Objects) (st : State) (more : Memory) → called_type p f ≡ Some (function r ts) → TellsOfStatics p o → AllZip (HasKind p o) (list_of ts) vs → Now known last p o st more → Does known last {A = Value} more (called p w (wants wanted r) f vs st) (called p w (wants wanted r) f vs (with_memory st more))
    called_does wanted f r ts vs o st more e s z k =
        by_definition p (λ b. Does known last {A = Value} more (if b then w.enter (wants wanted r) f vs st else call_undefined (f - defined p) vs st) (if b then w.enter (wants wanted r) f vs (with_memory st more) else call_undefined (f - defined p) vs (with_memory st more))) (sys_types ++ null_types) f (function r ts) (whole_types p f (function r ts) e) (λ g d q. enters (wants wanted r) f g r ts vs o st more d q s z k) (λ d. undefined_does known last (f - defined p) vs st more (zip_shown o (list_of ts) vs st more k z) k.beside)

    through_does : (wanted : Bool) (f : ℕ) (r : CType) (ts : CTypes) (vs : List Value) (o : Objects) (st : State) (more : Memory) → value_type p f ≡ Some (function r ts) → TellsOfStatics p o → AllZip (HasKind p o) (list_of ts) vs → Now known last p o st more → Does known last {A = Value} more (called_through p w (wants wanted r) f vs st) (called_through p w (wants wanted r) f vs (with_memory st more))
    through_does wanted f r ts vs o st more e s z k =
        by_definition p (λ b. Does known last {A = Value} more (if b then w.enter (wants wanted r) f vs st else system_call_alone (f - defined p) vs st) (if b then w.enter (wants wanted r) f vs (with_memory st more) else system_call_alone (f - defined p) vs (with_memory st more))) sys_types f (function r ts) e (λ g d q. enters (wants wanted r) f g r ts vs o st more d q s z k) (λ d. alone_does known last (f - defined p) vs st more (zip_shown o (list_of ts) vs st more k z) k.beside)

    -- a call through a value
    callee_does : (wanted : Bool) (r : CType) (ts : CTypes) (v : Value) (vs : List Value) (o : Objects) (st : State) (more : Memory) → HasKind p o (pointer (function r ts)) v → TellsOfStatics p o → GiveAll p (list_of ts) o vs → Now known last p o st more → Does known last {A = Value} more (then_do (answered (callee v) st) (λ f st. called_through p w (wants wanted r) f vs st)) (then_do (answered (callee v) (with_memory st more)) (λ f st. called_through p w (wants wanted r) f vs st))
    callee_does wanted r ts v vs o st more h s z k =
        answered_then known last {A = ℕ} {B = Value} (λ f. value_type p f ≡ Some (function r ts)) (callee v) (callee v) st more _ _ refl (at (callee v) (callee_right p n typed o r ts v h)) (λ f e. through_does wanted f r ts vs o st more e s (arguments_kind p n typed marks recorded r r ts f o vs (get_left (value_types p) null_types f (function r ts) e) z) k)
      where
        at : (c : Answer ℕ) → Right {A = ℕ} (IsCallee p n typed (function r ts)) c → Whenever {A = ℕ} (λ f. value_type p f ≡ Some (function r ts)) c
        at (gives f) h = h.0
        at (undefined kind) h = tt

    module _ (fr : Frame) where
      abbrev pub Runs : Bool → Expr → State → Result Value
      Runs wanted e st = eval p w marks fr wanted e st

      -- a value, and then the next part
      pub on_value : {B : Type 0} (wanted : Bool) (e : Expr) (o : Objects) (st : State) (more : Memory) (f g : Value → State → Result B) → IsTypedFrame p o fr → IsValue p fr.types e → StandsIn p (mentions e) → Now known last p o st more → Does known last {A = Value} more (Runs wanted e st) (Runs wanted e (with_memory st more)) → ((u : Objects) (v : Value) (st : State) (l : Memory) → Grows o u → Gives p wanted (type_of e) u v → Now known last p u st l → Does known last {A = B} l (f v st) (g v (with_memory st l))) → Does known last {A = B} more (then_do (Runs wanted e st) f) (then_do (Runs wanted e (with_memory st more)) g)
      on_value {B} wanted e o st more f g s h m k d next =
          then_does known last p {A = Value} {B = B} (Gives p wanted (type_of e)) o st more _ _ f g k (value_ends p n typed marks recorded w goes fr wanted e o st s h m k.state) d next

      pub on_place : {B : Type 0} (wanted : Bool) (e : Expr) (o : Objects) (st : State) (more : Memory) (f g : Value → State → Result B) → IsTypedFrame p o fr → IsPlace p fr.types e → StandsIn p (mentions e) → Now known last p o st more → Does known last {A = Value} more (Runs wanted e st) (Runs wanted e (with_memory st more)) → ((u : Objects) (v : Value) (st : State) (l : Memory) → Grows o u → IsPlaced p u (type_of e) v → Now known last p u st l → Does known last {A = B} l (f v st) (g v (with_memory st l))) → Does known last {A = B} more (then_do (Runs wanted e st) f) (then_do (Runs wanted e (with_memory st more)) g)
      on_place {B} wanted e o st more f g s h m k d next =
          then_does known last p {A = Value} {B = B} (λ o v. IsPlaced p o (type_of e) v) o st more _ _ f g k (where_ends p n typed marks recorded w goes fr wanted e o st s h m k.state) d next

      pub on_frame : (o u : Objects) → Grows o u → IsTypedFrame p o fr → IsTypedFrame p u fr
      on_frame o u g s = stands_on p n typed marks recorded o u fr g s

      sees_given : (owed : Bool) (o : Objects) (t : CType) (v : Value) (st : State) (l : Memory) → Gives p owed t o v → Now known last p o st l → Shown known last v
      sees_given owed o t v st l i k = given_shown known last p o (wants owed t) t v k.tells i

      statics_on : (o u : Objects) → Grows o u → IsTypedFrame p o fr → TellsOfStatics p u
      statics_on o u g s = (on_frame o u g s).statics

      -- a value that is tested, and then the next part
      pub on_test : {B : Type 0} (e : Expr) (o : Objects) (st : State) (more : Memory) (f g : Bool → State → Result B) → IsTypedFrame p o fr → IsCondition p fr.types e → StandsIn p (mentions e) → Now known last p o st more → Does known last {A = Value} more (Runs true e st) (Runs true e (with_memory st more)) → ((u : Objects) (b : Bool) (st : State) (l : Memory) → Grows o u → Now known last p u st l → Does known last {A = B} l (f b st) (g b (with_memory st l))) → Does known last {A = B} more (then_do (tested (Runs true e st)) f) (then_do (tested (Runs true e (with_memory st more))) g)
      on_test {B} e o st more f g s h m k d next =
          then_does known last p {A = Bool} {B = B} (Holds p n typed marks recorded) o st more _ _ f g k (condition_tested p n typed marks recorded w goes fr e o st s h m k.state) (on_value {B = Bool} true e o st more _ _ s h.1 m k d (λ u v st l g i k. answered_does known last {A = Bool} (test st.memory v) (test l v) st l (test_same st.memory l v (sees known last st.memory l v k.beside (sees_given true u (type_of e) v st l i k))) k.beside)) (λ u b st l g i k. next u b st l g k)

      -- two operands
      both : (a b : Expr) (o : Objects) (st : State) (more : Memory) (f : Memory → Value → Value → Answer Value) → IsTypedFrame p o fr → IsValue p fr.types a → IsValue p fr.types b → StandsIn p (mentions a ++ mentions b) → Now known last p o st more → ((m l : Memory) (x y : Value) → Sees m l x → Sees m l y → f l x y ≡ f m x y) → Does known last {A = Value} more (Runs true a st) (Runs true a (with_memory st more)) → ((u : Objects) (st : State) (l : Memory) → IsTypedFrame p u fr → Now known last p u st l → Does known last {A = Value} l (Runs true b st) (Runs true b (with_memory st l))) → Does known last {A = Value} more (then_do (Runs true a st) (λ v st. then_do (Runs true b st) (λ u st. answered (f st.memory v u) st))) (then_do (Runs true a (with_memory st more)) (λ v st. then_do (Runs true b st) (λ u st. answered (f st.memory v u) st)))
      both a b o st more f s h i m k same x y =
          on_value {B = Value} true a o st more _ _ s h (left_part p (mentions a) (mentions b) m) k x (λ u v st l g c k. on_value {B = Value} true b u st l _ _ (on_frame o u g s) i (right_part p (mentions a) (mentions b) m) k (y u st l (on_frame o u g s) k) (λ u' v' st' l' g' d k'. answered_does known last {A = Value} (f st'.memory v v') (f l' v v') st' l' (same st'.memory l' v v' (sees known last st'.memory l' v k'.beside (sees_given true u (type_of a) v st l c k)) (sees known last st'.memory l' v' k'.beside (sees_given true u' (type_of b) v' st' l' d k'))) k'.beside))

      mutual
        pub value_does : (wanted : Bool) (e : Expr) (o : Objects) (st : State) (more : Memory) → IsTypedFrame p o fr → IsValue p fr.types e → StandsIn p (mentions e) → Now known last p o st more → Does known last {A = Value} more (Runs wanted e st) (Runs wanted e (with_memory st more))
        value_does wanted (constant t v) o st more s h m k = here known last {A = Value} v st more [] k.beside
        value_does wanted (load t a) o st more s h m k =
            on_place {B = Value} true a o st more _ _ s h.2 m k (place_does true a o st more s h.2 m k) (λ u v st l g i k. answered_does known last {A = Value} (load_place st.memory v) (load_place l v) st l (load_place_same st.memory l v (sees known last st.memory l v k.beside (place_shown known last p u (type_of a) v k.tells i))) k.beside)
        value_does wanted (address_of t a) o st more s h m k = place_does true a o st more s h.1 m k
        value_does wanted (decay t a) o st more s h m k =
            on_place {B = Value} true a o st more _ _ s h.1 m k (place_does true a o st more s h.1 m k) (λ u v st l g i k. answered_does known last {A = Value} (decayed p.structs (type_of a) v) (decayed p.structs (type_of a) v) st l refl k.beside)
        value_does wanted (discard t a) o st more s h m k =
            on_value {B = Value} false a o st more _ _ s h.1 m k (value_does false a o st more s h.1 m k) (λ u v st l g i k. here known last {A = Value} Indeterminate st l [] k.beside)
        value_does wanted (unary_operation t op a) o st more s h m k =
            on_value {B = Value} true a o st more _ _ s h.1 m k (value_does true a o st more s h.1 m k) (λ u v st l g i k. answered_does known last {A = Value} (operated op st.memory v) (operated op l v) st l (operated_same st.memory l op v (sees known last st.memory l v k.beside (sees_given true u (type_of a) v st l i k))) k.beside)
        value_does wanted (conversion t to a) o st more s h m k =
            on_value {B = Value} true a o st more _ _ s h.2 m k (value_does true a o st more s h.2 m k) (λ u v st l g i k. answered_does known last {A = Value} (convert to v) (convert to v) st l refl k.beside)
        value_does wanted (arithmetic t op a b) o st more s h m k =
            both a b o st more (λ m x y. binary op x y) s h.1 h.2 m k (λ m l x y i j. refl) (value_does true a o st more s h.1 (left_part p (mentions a) (mentions b) m) k) (λ u st l s k. value_does true b u st l s h.2 (right_part p (mentions a) (mentions b) m) k)
        value_does wanted (comparison t op a b) o st more s h m k =
            both a b o st more (λ m x y. comparing op m x y) s h.1 h.2 m k (λ m l x y i j. comparing_same m l op x y i j) (value_does true a o st more s h.1 (left_part p (mentions a) (mentions b) m) k) (λ u st l s k. value_does true b u st l s h.2 (right_part p (mentions a) (mentions b) m) k)
        value_does wanted (pointer_add t first subtracted a b) o st more s h m k =
            both a b o st more (λ m x y. moving first subtracted m x y) s h.1 h.2 m k (λ m l x y i j. moving_same m l first subtracted x y i j) (value_does true a o st more s h.1 (left_part p (mentions a) (mentions b) m) k) (λ u st l s k. value_does true b u st l s h.2 (right_part p (mentions a) (mentions b) m) k)
        value_does wanted (pointer_diff t a b) o st more s h m k =
            both a b o st more (λ m x y. difference m x y) s h.3 h.4 m k (λ m l x y i j. difference_same m l x y i j) (value_does true a o st more s h.3 (left_part p (mentions a) (mentions b) m) k) (λ u st l s k. value_does true b u st l s h.4 (right_part p (mentions a) (mentions b) m) k)
        value_does wanted (and t a b) o st more s h m k =
            on_test {B = Value} a o st more _ _ s h.1 (left_part p (mentions a) (mentions b) m) k (value_does true a o st more s h.1.1 (left_part p (mentions a) (mentions b) m) k) (λ u holds st l g k. either_does known last {A = Value} holds l _ _ _ _ (on_test {B = Value} b u st l _ _ (on_frame o u g s) h.2 (right_part p (mentions a) (mentions b) m) k (value_does true b u st l (on_frame o u g s) h.2.1 (right_part p (mentions a) (mentions b) m) k) (λ u holds st l g k. here known last {A = Value} (truth_value holds) st l [] k.beside)) (here known last {A = Value} (truth_value false) st l [] k.beside))
        value_does wanted (or t a b) o st more s h m k =
            on_test {B = Value} a o st more _ _ s h.1 (left_part p (mentions a) (mentions b) m) k (value_does true a o st more s h.1.1 (left_part p (mentions a) (mentions b) m) k) (λ u holds st l g k. either_does known last {A = Value} holds l _ _ _ _ (here known last {A = Value} (truth_value true) st l [] k.beside) (on_test {B = Value} b u st l _ _ (on_frame o u g s) h.2 (right_part p (mentions a) (mentions b) m) k (value_does true b u st l (on_frame o u g s) h.2.1 (right_part p (mentions a) (mentions b) m) k) (λ u holds st l g k. here known last {A = Value} (truth_value holds) st l [] k.beside)))
        value_does wanted (assign t a b) o st more s h m k =
            on_place {B = Value} true a o st more _ _ s h.3 (left_part p (mentions a) (mentions b) m) k (place_does true a o st more s h.3 (left_part p (mentions a) (mentions b) m) k) (λ u q st l g i k. let shown = place_shown known last p u (type_of a) q k.tells i in on_value {B = Value} true b u st l _ _ (on_frame o u g s) h.4 (right_part p (mentions a) (mentions b) m) k (value_does true b u st l (on_frame o u g s) h.4 (right_part p (mentions a) (mentions b) m) k) (λ u v st l g j k. remembered_does known last {A = Value} (store_place st.memory q v) (store_place l q v) v st l (store_place_remembers known last st.memory l q v shown k.beside)))
        value_does wanted (update t op old a b) o st more s h m k =
            on_place {B = Value} true a o st more _ _ s h.2 (left_part p (mentions a) (mentions b) m) k (place_does true a o st more s h.2 (left_part p (mentions a) (mentions b) m) k) (λ u q st l g i k.
            let scalar = update_scalar p n typed op t (type_of b) h.0 in
            let shown = place_shown known last p u (type_of a) q k.tells i in
            let tells = k.tells in
            answered_then known last {A = Value} {B = Value} (HasKind p u t) (load_place st.memory q) (load_place l q) st l _ _ (load_place_same st.memory l q (sees known last st.memory l q k.beside shown)) (right_whenever (HasKind p u t) (load_place st.memory q) (load_place_right p n typed u t q st.memory scalar (subst (λ t. IsPlaced p u t q) h.1 i) k.state.memory)) (λ before c. on_value {B = Value} true b u st l _ _ (on_frame o u g s) h.3 (right_part p (mentions a) (mentions b) m) k (value_does true b u st l (on_frame o u g s) h.3 (right_part p (mentions a) (mentions b) m) k) (λ u' v st l g j k. answered_then known last {A = Value} {B = Value} (λ x. Unit {0}) (updated op t (type_of b) st.memory before v) (updated op t (type_of b) l before v) st l _ _ (updated_same st.memory l op t (type_of b) before v (sees known last st.memory l before k.beside (kind_shown known last p u t before tells c))) (any_whenever {A = Value} (updated op t (type_of b) st.memory before v)) (λ new c. remembered_does known last {A = Value} (store_place st.memory q new) (store_place l q new) (either old before new) st l (store_place_remembers known last st.memory l q new shown k.beside)))))
        value_does wanted (conditional t c a b) o st more s h m k =
            let after_test = right_part p (mentions c) (mentions a ++ mentions b) m in
            on_test {B = Value} c o st more _ _ s h.0 (left_part p (mentions c) (mentions a ++ mentions b) m) k (value_does true c o st more s h.0.1 (left_part p (mentions c) (mentions a ++ mentions b) m) k) (λ u holds st l g k. either_does known last {A = Value} holds l _ _ _ _ (value_does true a u st l (on_frame o u g s) h.3 (left_part p (mentions a) (mentions b) after_test) k) (value_does true b u st l (on_frame o u g s) h.4 (right_part p (mentions a) (mentions b) after_test) k))
        value_does wanted (comma t es) o st more s h m k = each_does wanted t es o st more s h m k
        value_does wanted (call t site f es) o st more s h m k =
            let mine = right_part p (Calls site (Direct f) ∷ []) (mentions_of_all es) m in
            then_does known last p {A = List Value} {B = Value} (GiveAll p (list_of h.0)) o st more _ _ _ _ k (all_end p n typed marks recorded w goes fr h.0 es o st s h.2 mine k.state) (all_do h.0 es o st more s h.2 mine k) (λ u vs st l g z k. instrumented_does known last marks site l _ _ (called_does wanted f t h.0 vs u st l h.1 (statics_on o u g s) (arguments_kind p n typed marks recorded t t h.0 f u vs h.1 z) k))
        value_does wanted (call_through t site a es) o st more s h m k =
            let rest = right_part p (mentions a) (Calls site (Through (type_of a)) ∷ mentions_of_all es) m in
            let mine = right_part p (Calls site (Through (type_of a)) ∷ []) (mentions_of_all es) rest in
            on_value {B = Value} true a o st more _ _ s h.2 (left_part p (mentions a) (Calls site (Through (type_of a)) ∷ mentions_of_all es) m) k (value_does true a o st more s h.2 (left_part p (mentions a) (Calls site (Through (type_of a)) ∷ mentions_of_all es) m) k) (λ u v st l g i k. then_does known last p {A = List Value} {B = Value} (GiveAll p (list_of h.0)) u st l _ _ _ _ k (all_end p n typed marks recorded w goes fr h.0 es u st (on_frame o u g s) h.3 mine k.state) (all_do h.0 es u st l (on_frame o u g s) h.3 mine k) (λ u' vs st l g' z k. instrumented_does known last marks site l _ _ (callee_does wanted t h.0 v vs u' st l (carry p u u' (pointer (function t h.0)) v g' (subst (λ t. Gives p true t u v) h.1 i)) (statics_on o u' (grows_on o u u' g g') s) z k)))
        value_does wanted _ o st more s h m k = absurd h

        pub place_does : (wanted : Bool) (e : Expr) (o : Objects) (st : State) (more : Memory) → IsTypedFrame p o fr → IsPlace p fr.types e → StandsIn p (mentions e) → Now known last p o st more → Does known last {A = Value} more (Runs wanted e st) (Runs wanted e (with_memory st more))
        place_does wanted (function_name t f) o st more s h m k = here known last {A = Value} (Func f) st more [] k.beside
        place_does wanted (string_place t x) o st more s h m k = here known last {A = Value} _ st more [] k.beside
        place_does wanted (variable t b x) o st more s h m k = here known last {A = Value} _ st more [] k.beside
        place_does wanted (dereference t a) o st more s h m k =
            on_value {B = Value} true a o st more _ _ s h.2 m k (value_does true a o st more s h.2 m k) (λ u v st l g i k. answered_does known last {A = Value} (behind_of t st.memory v) (behind_of t l v) st l (behind_of_same st.memory l t v (sees known last st.memory l v k.beside (sees_given true u (type_of a) v st l i k))) k.beside)
        place_does wanted (field t first a) o st more s h m k =
            on_place {B = Value} true a o st more _ _ s h.1 m k (place_does true a o st more s h.1 m k) (λ u v st l g i k. answered_does known last {A = Value} (member first (cells p.structs t) v) (member first (cells p.structs t) v) st l refl k.beside)
        place_does wanted _ o st more s h m k = absurd h

        pub each_does : (wanted : Bool) (t : CType) (es : Exprs) (o : Objects) (st : State) (more : Memory) → IsTypedFrame p o fr → AreMembers p fr.types t es → StandsIn p (mentions_of_all es) → Now known last p o st more → Does known last {A = Value} more (eval_each p w marks fr wanted es st) (eval_each p w marks fr wanted es (with_memory st more))
        each_does wanted t no_exprs o st more s h m k = absurd h
        each_does wanted t (more_exprs e no_exprs) o st more s h m k = value_does wanted e o st more s h.0 (left_part p (mentions e) [] m) k
        each_does wanted t (more_exprs e (more_exprs f es)) o st more s h m k =
            on_value {B = Value} false e o st more _ _ s h.0 (left_part p (mentions e) (mentions_of_all (more_exprs f es)) m) k (value_does false e o st more s h.0 (left_part p (mentions e) (mentions_of_all (more_exprs f es)) m) k) (λ u v st l g i k. each_does wanted t (more_exprs f es) u st l (on_frame o u g s) h.1 (right_part p (mentions e) (mentions_of_all (more_exprs f es)) m) k)

        pub all_do : (ts : CTypes) (es : Exprs) (o : Objects) (st : State) (more : Memory) → IsTypedFrame p o fr → AreArguments p fr.types ts es → StandsIn p (mentions_of_all es) → Now known last p o st more → Does known last {A = List Value} more (eval_all p w marks fr es st) (eval_all p w marks fr es (with_memory st more))
        all_do no_types no_exprs o st more s h m k = here known last {A = List Value} [] st more [] k.beside
        all_do (more_types t ts) (more_exprs e es) o st more s h m k =
            on_value {B = List Value} true e o st more _ _ s h.1 (left_part p (mentions e) (mentions_of_all es) m) k (value_does true e o st more s h.1 (left_part p (mentions e) (mentions_of_all es) m) k) (λ u v st l g i k. then_does known last p {A = List Value} {B = List Value} (GiveAll p (list_of ts)) u st l _ _ _ _ k (all_end p n typed marks recorded w goes fr ts es u st (on_frame o u g s) h.2 (right_part p (mentions e) (mentions_of_all es) m) k.state) (all_do ts es u st l (on_frame o u g s) h.2 (right_part p (mentions e) (mentions_of_all es) m) k) (λ u vs st l g z k. here known last {A = List Value} (v ∷ vs) st l [] k.beside))
        all_do ts es o st more s h m k = absurd h

      -- a value that is tested
      pub tested_does : (e : Expr) (o : Objects) (st : State) (more : Memory) → IsTypedFrame p o fr → IsCondition p fr.types e → StandsIn p (mentions e) → Now known last p o st more → Does known last {A = Bool} more (tested (Runs true e st)) (tested (Runs true e (with_memory st more)))
      tested_does e o st more s h m k =
          on_value {B = Bool} true e o st more _ _ s h.1 m k (value_does true e o st more s h.1 m k) (λ u v st l g i k. answered_does known last {A = Bool} (test st.memory v) (test l v) st l (test_same st.memory l v (sees known last st.memory l v k.beside (sees_given true u (type_of e) v st l i k))) k.beside)
