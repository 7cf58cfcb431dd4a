-- Expressions with null calls round their marked calls do what the expressions do.
use Rattle.std.proofs.Common.{◌≡◌, ℕ, suc, ◌+◌, ◌≤◌, ◌<◌, if◌then◌else◌, Bool, true, false, List, [], ◌∷◌, ◌++◌, All, length, Some, None, sym, ap, ◌∙◌, subst, refl, arith}
use Rattle.std.proofs.lemmas.List.{length-append}
use Rattle.std.proofs.lemmas.List.Elements.{All-head, All-tail}
use Rattle.c_tree.specs.declared.value.Value.{Value}
use Rattle.c_tree.specs.declared.value.Value.TheVariants.{Indeterminate, Func}
use Rattle.c_tree.specs.Tree.{CType, pointer, function, CTypes, no_types, more_types, list_of, Program, type_of}
use Rattle.c_tree.specs.Tree.{Expr, constant, function_name, string_place, variable, dereference, load, address_of, decay, discard, field, unary_operation, conversion, arithmetic, comparison, pointer_add, pointer_diff, and, or, assign, update, conditional, comma, call, call_through}
use Rattle.c_tree.specs.Tree.{Exprs, no_exprs, more_exprs}
use Rattle.c_tree.specs.Layout.{cells}
use Rattle.c_tree.specs.Functions.{called_type}
use Rattle.c_tree.specs.Kinds.{Objects}
use Rattle.c_tree.specs.Operands.{IsScalar}
use Rattle.c_tree.specs.Operators.{Answer, convert, binary}
use Rattle.c_tree.specs.Program.{IsProgram}
use Rattle.c_tree.specs.Typed.{IsValue, IsPlace, AreMembers, AreArguments, IsCondition}
use Rattle.c_values.specs.Memory.{Objects as Memory}
use Rattle.c_meaning.specs.Mentions.{Calls, Direct, Through, mentions, mentions_of_all}
use Rattle.c_meaning.specs.CallGraph.{is_marked}
use Rattle.c_meaning.specs.Meaning.{Frame, World, name_in, either, behind_of, decayed, operated, comparing, moving, updated, with_marks, wants, called, called_through, tested, eval, eval_each, eval_all}
use Rattle.c_meaning.specs.Pointers.{callee, truth_value, load_place, store_place, member, difference, test}
use Rattle.c_meaning.specs.Results.{State, with_memory, Result, Go, after, then_do, answered, remembered}
use Rattle.c_meaning.specs.Runs.{no_marks}
use Rattle.c_meaning.specs.StoreTyping.{HasKind, IsPlaced, Grows, IsTypedFrame}
use Rattle.c_meaning.specs.TypedResults.{EndsTyped, Gives, GiveAll, StandsIn, IsTypedWorld}
use Rattle.c_meaning.proofs.Places.{grows_on, grows_none, carry, carry_given}
use Rattle.c_meaning.proofs.Steps.{scalars_of, load_place_right, update_scalar}
use Rattle.c_meaning.proofs.Keeps.{Holds, scalar_kind, stands_on, arguments_kind, called_ends, callee_ends, value_ends, where_ends, all_end, condition_tested}
use Rattle.c_meaning.proofs.Standing.{left_part, right_part}
use Rattle.c_meaning.specs.FurtherObjects.{DoesAlike}
use Rattle.c_meaning.proofs.FurtherSteps.{Sees, test_same, behind_of_same, load_place_same, moving_same, difference_same, comparing_same, operated_same, updated_same}
use Rattle.c_meaning.proofs.Together.{Shown, sees, store_place_remembers, answered_does, remembered_does, kind_shown, given_shown, place_shown}
use Rattle.c_meaning.proofs.Expressions.{right_whenever, any_whenever}
use Rattle.null_calls_laws.specs.MarkedRuns.{null_calls_of}
use Rattle.null_calls_laws.proofs.TypedRuns.{null_calls_recorded}
use Rattle.null_calls_laws.specs.Temporaries.{is_kept}
use Rattle.null_calls_laws.specs.InstrumentedPrograms.{parameters_where, parameters_behind, of_result, of_through, keep, kept_value, kept_values, keep_all, null_call, call_and_post, pre_number, post_number, marked_type, marked_members, marked_through, kept, kept_of_all, kept_of_members, expr, arguments, members, instrumented_program}
use Rattle.null_calls_laws.specs.Pieces.{IsKept, IsSet, AreKept}
use Rattle.null_calls_laws.proofs.PieceLemmas.{kept_is_given, kept_are_given, types_stay}
use Rattle.null_calls_laws.proofs.Beside.{after_none, then_then, then_go, same_for, StayBut, Does, here, after_does, wider, loose, lift, either_does, answered_then, Here, then_does, then_same}
use Rattle.null_calls_laws.proofs.Scalars.{some_callee}
use Rattle.null_calls_laws.proofs.CallRuns.{set_of, wants_kept, IsMore, keep_all_more, each_more, marks_at, Enters, called_alike, callee_alike, Instrumented, Each, keep_then, call_does}

-- ## Numbers of temporaries

-- temporaries of these types from k on are some of the activation's
abbrev pub Fits : (first limit k : ℕ) → List CType → Type 0
Fits first limit k xs = (first ≤ k) × (k + length xs ≤ limit)

pub fits_left : (first limit k : ℕ) (xs ys : List CType) → Fits first limit k (xs ++ ys) → Fits first limit k xs
fits_left first limit k xs ys h = let e = length-append xs ys in let b = h.1 in (h.0, omega (arith, b, e))

pub fits_right : (first limit k : ℕ) (xs ys : List CType) → Fits first limit k (xs ++ ys) → Fits first limit (k + length xs) ys
fits_right first limit k xs ys h =
    let e = length-append xs ys in let a = h.0 in let b = h.1 in (omega (arith, a), omega (arith, b, e))

pub from_here : (k n : ℕ) → k ≤ k + n
from_here k n = omega arith

result_one : (wanted : Bool) (t : CType) → is_kept wanted t ≡ true → length (of_result wanted t) ≡ 1
result_one wanted t e = ap (λ b. length (if b then t ∷ [] else [])) e

-- no events round a call
plain_calls : (site : ℕ) (k : ℕ) (r q : Result Value) (known : Objects) (fr : Frame) (limit : ℕ) (more : Memory) → Does known fr limit {A = Value} true k more r q → Does known fr limit {A = Value} true k more (with_marks no_marks site r) (with_marks no_marks 0 q)
plain_calls site k r q known fr limit more h =
    after_does known fr limit {A = Value} true k more [] (then_do r (λ v st. Go v st [])) (then_do q (λ v st. Go v st [])) (subst (λ c. Does known fr limit {A = Value} true k more c (then_do q (λ v st. Go v st []))) (sym (then_go {A = Value} r)) (subst (λ c. Does known fr limit {A = Value} true k more r c) (sym (then_go {A = Value} q)) h))

module _ (p : Program) (n : ℕ) (typed : IsProgram p n) (w w' : World) (goes : IsTypedWorld p w) (enters : Enters p w w') (known : Objects) (fr : Frame) (limit : ℕ) (wide : List CType) (untold : (j : ℕ) → length fr.types ≤ j → known (name_in fr false j) ≡ None) where
  abbrev pub Plain : Bool → Expr → State → Result Value
  Plain wanted e st = eval p w (null_calls_of p) fr wanted e st

  abbrev pub PlainAll : Exprs → State → Result (List Value)
  PlainAll es st = eval_all p w (null_calls_of p) fr es st

  abbrev pub Other : Bool → Expr → State → Result Value
  Other wanted e st = Instrumented p w' known fr limit wide untold wanted e st

  abbrev pub OtherEach : Bool → Exprs → State → Result Value
  OtherEach wanted es st = Each p w' known fr limit wide untold wanted es st

  abbrev pub OtherAll : Exprs → State → Result (List Value)
  OtherAll es st = eval_all (instrumented_program p) w' no_marks (record { activation = fr.activation; types = wide }) es st

  abbrev pub Do : {A : Type 0} → Bool → ℕ → Memory → Result A → Result A → Type 0
  Do {A} owed k more r q = Does known fr limit {A = A} owed k more r q

  abbrev pub At : Objects → State → Memory → Type 0
  At o st more = Here known fr limit p o st more

  abbrev pub Room : ℕ → List CType → Type 0
  Room k xs = Fits (length fr.types) limit k xs

  pub on_frame : (o u : Objects) → Grows o u → IsTypedFrame p o fr → IsTypedFrame p u fr
  on_frame o u g s = stands_on p n typed (null_calls_of p) (null_calls_recorded p) o u fr g s

  -- a value that is wanted, and then the next part
  pub on_value : {C : Type 0} (owed : Bool) (k : ℕ) (e e' : Expr) (o : Objects) (st : State) (more : Memory) (f g : Value → State → Result C) → IsTypedFrame p o fr → IsValue p fr.types e → StandsIn p (mentions e) → At o st more → Do {A = Value} true k more (Plain true e st) (Other true e' (with_memory st more)) → ((u : Objects) (x : Value) (st : State) (l : Memory) → Grows o u → Gives p true (type_of e) u x → At u st l → Do {A = C} owed k l (f x st) (g x (with_memory st l))) → Do {A = C} owed k more (then_do (Plain true e st) f) (then_do (Other true e' (with_memory st more)) g)
  on_value {C} owed k e e' o st more f g s h m a d next =
      then_same known fr limit p {A = Value} {B = C} owed k (Gives p true (type_of e)) o st more _ _ f g a (value_ends p n typed (null_calls_of p) (null_calls_recorded p) w goes fr true e o st s h m a.now.state) d next

  -- one that isn't wanted
  pub on_effect : {C : Type 0} (owed : Bool) (k : ℕ) (e e' : Expr) (o : Objects) (st : State) (more : Memory) (f g : State → Result C) → IsTypedFrame p o fr → IsValue p fr.types e → StandsIn p (mentions e) → At o st more → Do {A = Value} false k more (Plain false e st) (Other false e' (with_memory st more)) → ((u : Objects) (st : State) (l : Memory) → Grows o u → At u st l → Do {A = C} owed k l (f st) (g (with_memory st l))) → Do {A = C} owed k more (then_do (Plain false e st) (λ x st. f st)) (then_do (Other false e' (with_memory st more)) (λ x st. g st))
  on_effect {C} owed k e e' o st more f g s h m a d next =
      then_does known fr limit p {A = Value} {B = C} false owed k (Gives p false (type_of e)) o st more _ _ (λ x st. f st) (λ x st. g st) a (value_ends p n typed (null_calls_of p) (null_calls_recorded p) w goes fr false e o st s h m a.now.state) d (λ u x y st l g c t a. next u st l g a)

  pub on_place : {C : Type 0} (owed : Bool) (k : ℕ) (e e' : Expr) (o : Objects) (st : State) (more : Memory) (f g : Value → State → Result C) → IsTypedFrame p o fr → IsPlace p fr.types e → StandsIn p (mentions e) → At o st more → Do {A = Value} true k more (Plain true e st) (Other true e' (with_memory st more)) → ((u : Objects) (x : Value) (st : State) (l : Memory) → Grows o u → IsPlaced p u (type_of e) x → At u st l → Do {A = C} owed k l (f x st) (g x (with_memory st l))) → Do {A = C} owed k more (then_do (Plain true e st) f) (then_do (Other true e' (with_memory st more)) g)
  on_place {C} owed k e e' o st more f g s h m a d next =
      then_same known fr limit p {A = Value} {B = C} owed k (λ o x. IsPlaced p o (type_of e) x) o st more _ _ f g a (where_ends p n typed (null_calls_of p) (null_calls_recorded p) w goes fr true e o st s h m a.now.state) d next

  -- what a step answers
  step : (owed : Bool) (k : ℕ) (r q : Answer Value) (o : Objects) (st : State) (more : Memory) → q ≡ r → At o st more → Do {A = Value} owed k more (answered r st) (answered q (with_memory st more))
  step owed k r q o st more e a =
      loose known fr limit {A = Value} owed k more _ _ (lift known fr limit {A = Value} k more (answered r st) (answered q (with_memory st more)) untold (answered_does known fr.activation {A = Value} r q st more e a.now.beside) a.ready)

  pub stored : (owed : Bool) (k : ℕ) (q x y : Value) (o : Objects) (st : State) (more : Memory) → Shown known fr.activation q → At o st more → Do {A = Value} owed k more (remembered (store_place st.memory q x) y st) (remembered (store_place more q x) y (with_memory st more))
  stored owed k q x y o st more shown a =
      loose known fr limit {A = Value} owed k more _ _ (lift known fr limit {A = Value} k more _ _ untold (remembered_does known fr.activation {A = Value} (store_place st.memory q x) (store_place more q x) y st more (store_place_remembers known fr.activation st.memory more q x shown a.now.beside)) a.ready)

  done : (owed : Bool) (k : ℕ) (x : Value) (o : Objects) (st : State) (more : Memory) → At o st more → Do {A = Value} owed k more (Go x st []) (Go x (with_memory st more) [])
  done owed k x o st more a = here known fr limit {A = Value} owed k x x st more [] (same_for {A = Value} owed x x refl) a.now.beside a.ready

  value_seen : (o : Objects) (t : CType) (x : Value) (st : State) (l : Memory) → Gives p true t o x → At o st l → Sees st.memory l x
  value_seen o t x st l i a = sees known fr.activation st.memory l x a.now.beside (given_shown known fr.activation p o (wants true t) t x a.now.tells i)

  place_seen : (o : Objects) (t : CType) (x : Value) (st : State) (l : Memory) → IsPlaced p o t x → At o st l → Sees st.memory l x
  place_seen o t x st l i a = sees known fr.activation st.memory l x a.now.beside (place_shown known fr.activation p o t x a.now.tells i)

  test_does : (k : ℕ) (e e' : Expr) (o : Objects) (st : State) (more : Memory) → IsTypedFrame p o fr → IsCondition p fr.types e → StandsIn p (mentions e) → At o st more → Do {A = Value} true k more (Plain true e st) (Other true e' (with_memory st more)) → Do {A = Bool} true k more (tested (Plain true e st)) (tested (Other true e' (with_memory st more)))
  test_does k e e' o st more s h m a d =
      on_value {C = Bool} true k e e' o st more _ _ s h.1 m a d (λ u x st l g i a. lift known fr limit {A = Bool} k l _ _ untold (answered_does known fr.activation {A = Bool} (test st.memory x) (test l x) st l (test_same st.memory l x (value_seen u (type_of e) x st l i a)) a.now.beside) a.ready)

  -- a value that is tested, and then the next part
  pub on_test : {C : Type 0} (owed : Bool) (k : ℕ) (e e' : Expr) (o : Objects) (st : State) (more : Memory) (f g : Bool → State → Result C) → IsTypedFrame p o fr → IsCondition p fr.types e → StandsIn p (mentions e) → At o st more → Do {A = Value} true k more (Plain true e st) (Other true e' (with_memory st more)) → ((u : Objects) (b : Bool) (st : State) (l : Memory) → Grows o u → At u st l → Do {A = C} owed k l (f b st) (g b (with_memory st l))) → Do {A = C} owed k more (then_do (tested (Plain true e st)) f) (then_do (tested (Other true e' (with_memory st more))) g)
  on_test {C} owed k e e' o st more f g s h m a d next =
      then_same known fr limit p {A = Bool} {B = C} owed k (Holds p n typed (null_calls_of p) (null_calls_recorded p)) o st more _ _ f g a (condition_tested p n typed (null_calls_of p) (null_calls_recorded p) w goes fr e o st s h m a.now.state) (test_does k e e' o st more s h m a d) (λ u b st l g i a. next u b st l g a)

  -- two operands
  both : (owed : Bool) (k : ℕ) (a b b' : Expr) (a' : Expr) (j : ℕ) (o : Objects) (st : State) (more : Memory) (f : Memory → Value → Value → Answer Value) → k ≤ j → IsTypedFrame p o fr → IsValue p fr.types a → IsValue p fr.types b → StandsIn p (mentions a ++ mentions b) → At o st more → ((m l : Memory) (x y : Value) → Sees m l x → Sees m l y → f l x y ≡ f m x y) → Do {A = Value} true k more (Plain true a st) (Other true a' (with_memory st more)) → ((u : Objects) (st : State) (l : Memory) → IsTypedFrame p u fr → At u st l → Do {A = Value} true j l (Plain true b st) (Other true b' (with_memory st l))) → Do {A = Value} owed k more (then_do (Plain true a st) (λ v st. then_do (Plain true b st) (λ u st. answered (f st.memory v u) st))) (then_do (Other true a' (with_memory st more)) (λ v st. then_do (Other true b' st) (λ u st. answered (f st.memory v u) st)))
  both owed k a b b' a' j o st more f kj s h i m c same x y =
      on_value {C = Value} owed k a a' o st more _ _ s h (left_part p (mentions a) (mentions b) m) c x (λ u v st l g d c. on_value {C = Value} owed k b b' u st l _ _ (on_frame o u g s) i (right_part p (mentions a) (mentions b) m) c (wider known fr limit {A = Value} true k j l _ _ kj (y u st l (on_frame o u g s) c)) (λ u' v' st' l' g' e c'. step owed k (f st'.memory v v') (f l' v v') u' st' l' (same st'.memory l' v v' (value_seen u' (type_of a) v st' l' (carry_given p u u' (wants true (type_of a)) (type_of a) v g' d) c') (value_seen u' (type_of b) v' st' l' e c')) c'))

  -- ## Calls

  -- arguments that are kept, and then the members of the comma expression behind them
  abbrev KeepsAll : (k i j : ℕ) (ts : CTypes) (es : Exprs) (o : Objects) (st : State) (more : Memory) → Type 0
  KeepsAll k i j ts es o st more =
      (owed wanted : Bool) (rest : Exprs) (f : List Value → State → Result Value) → IsMore rest → ((u : Objects) (vs : List Value) (st : State) (l : Memory) → Grows o u → GiveAll p (list_of ts) u vs → AreKept l fr i (list_of ts) vs → StayBut known fr limit i more l → At u st l → Do {A = Value} owed k l (f vs st) (OtherEach wanted rest (with_memory st l))) → Do {A = Value} owed k more (then_do (PlainAll es st) f) (OtherEach wanted (keep_all i (list_of ts) (arguments p j es) rest) (with_memory st more))

  -- the call between its null calls, behind arguments that are kept
  abbrev Behind : (wanted : Bool) → (site i : ℕ) → CType → Expr → Exprs
  Behind wanted site i t e = more_exprs (null_call (pre_number p) site) (call_and_post (post_number p) site (is_kept wanted t) t i e)

  direct_call : (wanted : Bool) (t : CType) (f : ℕ) (ts : CTypes) (o : Objects) (vs : List Value) (st : State) (l : Memory) → called_type p f ≡ Some (function t ts) → IsTypedFrame p o fr → GiveAll p (list_of ts) o vs → At o st l → (EndsTyped p {A = Value} (Gives p wanted t) o st.entries (called p w (wants wanted t) f vs st)) × (DoesAlike {A = Value} known fr.activation l (called p w (wants wanted t) f vs st) (called (instrumented_program p) w' (wants wanted t) f vs (with_memory st l)))
  direct_call wanted t f ts o vs st l e s z a =
      (called_ends p n typed (null_calls_of p) (null_calls_recorded p) w goes wanted f t ts vs o st e s.statics (arguments_kind p n typed (null_calls_of p) (null_calls_recorded p) t t ts f o vs e z) a.now.state, called_alike p n typed w w' enters known fr.activation (wants wanted t) f t ts vs o st l e s.statics (arguments_kind p n typed (null_calls_of p) (null_calls_recorded p) t t ts f o vs e z) a.now)

  -- a call that isn't marked
  direct_plain : (k : ℕ) (wanted : Bool) (t : CType) (site f : ℕ) (es : Exprs) (o : Objects) (st : State) (more : Memory) → IsTypedFrame p o fr → (ts : CTypes) → called_type p f ≡ Some (function t ts) → AreArguments p fr.types ts es → StandsIn p (mentions (call t site f es)) → is_marked p (Direct f) ≡ false → At o st more → Do {A = List Value} true k more (PlainAll es st) (OtherAll (arguments p k es) (with_memory st more)) → Do {A = Value} wanted k more (Plain wanted (call t site f es) st) (Other wanted (call t 0 f (arguments p k es)) (with_memory st more))
  direct_plain k wanted t site f es o st more s ts e h m b a d =
      loose known fr limit {A = Value} wanted k more _ _ (then_same known fr limit p {A = List Value} {B = Value} true k (GiveAll p (list_of ts)) o st more _ _ _ _ a (all_end p n typed (null_calls_of p) (null_calls_recorded p) w goes fr ts es o st s h (right_part p (Calls site (Direct f) ∷ []) (mentions_of_all es) m) a.now.state) d (λ u vs st l g z a. subst (λ c. Do {A = Value} true k l (after (c.0) (then_do (called p w (wants wanted t) f vs st) (λ v st. Go v st (c.1)))) (with_marks no_marks 0 (called (instrumented_program p) w' (wants wanted t) f vs (with_memory st l)))) (sym (marks_at p n typed site (Direct f) false (left_part p (Calls site (Direct f) ∷ []) (mentions_of_all es) m) b)) (plain_calls site k _ _ known fr limit l (lift known fr limit {A = Value} k l _ _ untold ((direct_call wanted t f ts u vs st l e (on_frame o u g s) z a).1) a.ready))))

  -- the call of the kept arguments
  direct_there : (k : ℕ) (wanted : Bool) (t : CType) (f : ℕ) (ts : List CType) (vs : List Value) (st : State) (l : Memory) → AreKept l fr k ts vs → Other (is_kept wanted t) (call t 0 f (kept_values k ts)) (with_memory st l) ≡ called (instrumented_program p) w' (wants wanted t) f vs (with_memory st l)
  direct_there k wanted t f ts vs st l kept =
      ap (λ c. then_do c (λ vs st. with_marks no_marks 0 (called (instrumented_program p) w' (wants (is_kept wanted t) t) f vs st))) (kept_are_given (instrumented_program p) w' no_marks (record { activation = fr.activation; types = wide }) k ts vs (with_memory st l) kept) ∙ (after_none {A = Value} _ ∙ (after_none {A = Value} _ ∙ (then_go {A = Value} _ ∙ ap (λ b. called (instrumented_program p) w' b f vs (with_memory st l)) (wants_kept wanted t))))

  -- a marked call
  direct_marked : (k : ℕ) (wanted : Bool) (t : CType) (site f : ℕ) (es : Exprs) (o : Objects) (st : State) (more : Memory) → IsTypedFrame p o fr → (ts : CTypes) → called_type p f ≡ Some (function t ts) → StandsIn p (mentions (call t site f es)) → is_marked p (Direct f) ≡ true → length fr.types ≤ k → (is_kept wanted t ≡ true → k + length (list_of ts) < limit) → (j : ℕ) → KeepsAll k k j ts es o st more → Do {A = Value} wanted k more (Plain wanted (call t site f es) st) (OtherEach wanted (keep_all k (list_of ts) (arguments p j es) (Behind wanted site (k + length (list_of ts)) t (call t 0 f (kept_values k (list_of ts))))) (with_memory st more))
  direct_marked k wanted t site f es o st more s ts e m b first less j keeps =
      keeps wanted wanted (Behind wanted site (k + length (list_of ts)) t (call t 0 f (kept_values k (list_of ts)))) (λ vs st. with_marks (null_calls_of p) site (called p w (wants wanted t) f vs st)) tt (λ u vs st l g z kept stay a. subst (λ c. Do {A = Value} wanted k l (after (c.0) (then_do (called p w (wants wanted t) f vs st) (λ v st. Go v st (c.1)))) (OtherEach wanted (Behind wanted site (k + length (list_of ts)) t (call t 0 f (kept_values k (list_of ts)))) (with_memory st l))) (sym (marks_at p n typed site (Direct f) true (left_part p (Calls site (Direct f) ∷ []) (mentions_of_all es) m) b)) (call_does p w' known fr limit wide untold k (k + length (list_of ts)) wanted site t u st l _ _ (call t 0 f (kept_values k (list_of ts))) (from_here k (length (list_of ts))) less (omega (arith, first)) a ((direct_call wanted t f ts u vs st l e (on_frame o u g s) z a).0) ((direct_call wanted t f ts u vs st l e (on_frame o u g s) z a).1) (direct_there k wanted t f (list_of ts) vs st l kept)))

  direct_does : (k : ℕ) (wanted : Bool) (t : CType) (site f : ℕ) (es : Exprs) (o : Objects) (st : State) (more : Memory) → IsTypedFrame p o fr → (ts : CTypes) → called_type p f ≡ Some (function t ts) → AreArguments p fr.types ts es → StandsIn p (mentions (call t site f es)) → Room k (kept p wanted (call t site f es)) → At o st more → (Room k (kept_of_all p es) → Do {A = List Value} true k more (PlainAll es st) (OtherAll (arguments p k es) (with_memory st more))) → ((j : ℕ) → k + length (list_of ts) ≤ j → Room j (kept_of_all p es) → KeepsAll k k j ts es o st more) → Do {A = Value} wanted k more (Plain wanted (call t site f es) st) (Other wanted (expr p k wanted (call t site f es)) (with_memory st more))
  direct_does k wanted t site f es o st more s ts e h m room a plain keeps = at (is_marked p (Direct f)) refl room
    where
      marked : is_marked p (Direct f) ≡ true → (xs : List CType) → list_of ts ≡ xs → Room k ((xs ++ of_result wanted t) ++ kept_of_all p es) → Do {A = Value} wanted k more (Plain wanted (call t site f es) st) (OtherEach wanted (keep_all k xs (arguments p (k + length (xs ++ of_result wanted t)) es) (Behind wanted site (k + length xs) t (call t 0 f (kept_values k xs)))) (with_memory st more))
      marked b xs e' room =
          subst (λ xs. Room k ((xs ++ of_result wanted t) ++ kept_of_all p es) → Do {A = Value} wanted k more (Plain wanted (call t site f es) st) (OtherEach wanted (keep_all k xs (arguments p (k + length (xs ++ of_result wanted t)) es) (Behind wanted site (k + length xs) t (call t 0 f (kept_values k xs)))) (with_memory st more))) e' (λ room.
          let later = fits_right (length fr.types) limit k (list_of ts ++ of_result wanted t) (kept_of_all p es) room in
          let sum = length-append (list_of ts) (of_result wanted t) in
          let end = later.1 in
          direct_marked k wanted t site f es o st more s ts e m b room.0 (λ c. let one = result_one wanted t c in omega (arith, sum, one, end)) (k + length (list_of ts ++ of_result wanted t)) (keeps (k + length (list_of ts ++ of_result wanted t)) (omega (arith, sum)) later)) room

      at : (b : Bool) → is_marked p (Direct f) ≡ b → Room k ((if b then parameters_where (called_type p f) ++ of_result wanted t else []) ++ kept_of_all p es) → Do {A = Value} wanted k more (Plain wanted (call t site f es) st) (Other wanted (if b then comma (marked_type (is_kept wanted t) t) (marked_members p site wanted t k (parameters_where (called_type p f)) (arguments p (k + length (if b then parameters_where (called_type p f) ++ of_result wanted t else [])) es) (λ vs. call t 0 f vs)) else call t 0 f (arguments p k es)) (with_memory st more))
      at false b room = direct_plain k wanted t site f es o st more s ts e h m b a (plain room)
      at true b room = marked b (parameters_where (called_type p f)) (sym (ap parameters_where e)) room

  -- a temporary stays where later ones are set
  stays_kept : (i : ℕ) (x : Value) (m l : Memory) → length fr.types ≤ i → StayBut known fr limit (suc i) m l → IsKept m fr i x → IsKept l fr i x
  stays_kept i x m l first stay kept = stay (name_in fr false i) (omega arith, untold i first) (λ e a b. let c : suc i ≤ i = a in omega (arith, c)) ∙ kept

  -- the first argument is kept, and then the others
  keeps_first : (k i j : ℕ) (t : CType) (ts : CTypes) (e : Expr) (es : Exprs) (o : Objects) (st : State) (more : Memory) → IsTypedFrame p o fr → IsValue p fr.types e → StandsIn p (mentions e) → type_of e ≡ t → IsScalar t → k ≤ i → i < limit → length fr.types ≤ i → i ≤ j → At o st more → Do {A = Value} true j more (Plain true e st) (Other true (expr p j true e) (with_memory st more)) → ((u : Objects) (st : State) (l : Memory) → IsTypedFrame p u fr → At u st l → KeepsAll k (suc i) (j + length (kept p true e)) ts es u st l) → KeepsAll k i j (more_types t ts) (more_exprs e es) o st more
  keeps_first k i j t ts e es o st more s h m same scalar ki less first ij a d others owed wanted rest f is_more next =
      subst (λ c. Do {A = Value} owed k more c (OtherEach wanted (more_exprs (keep t i (expr p j true e)) (keep_all (suc i) (list_of ts) (arguments p (j + length (kept p true e)) es) rest)) (with_memory st more))) (sym plain) (subst (λ c. Do {A = Value} owed k more (then_do (Plain true e st) (λ x st. then_do (PlainAll es st) (λ xs st. f (x ∷ xs) st))) c) (sym (each_more (instrumented_program p) w' no_marks (record { activation = fr.activation; types = wide }) wanted (keep t i (expr p j true e)) (keep_all (suc i) (list_of ts) (arguments p (j + length (kept p true e)) es) rest) (with_memory st more) (keep_all_more (suc i) (list_of ts) (arguments p (j + length (kept p true e)) es) rest is_more))) (keep_then p w' known fr limit wide untold {B = Value} owed k i i j (Gives p true (type_of e)) t o st more (Plain true e st) (expr p j true e) (λ x st. then_do (PlainAll es st) (λ xs st. f (x ∷ xs) st)) (λ st. OtherEach wanted (keep_all (suc i) (list_of ts) (arguments p (j + length (kept p true e)) es) rest) st) ki (omega arith) ij first less a (value_ends p n typed (null_calls_of p) (null_calls_recorded p) w goes fr true e o st s h m a.now.state) d (λ u x st l g given there stay a. others u st l (on_frame o u g s) a owed wanted rest (λ xs st. f (x ∷ xs) st) is_more (λ u' xs st' l' g' z kept stay' a'.
      let given' = subst (λ t. Gives p true t u x) same given in
      next u' (x ∷ xs) st' l' (grows_on o u u' g g') (carry_given p u u' (wants true t) t x g' given', z) (stays_kept i x l l' first stay' there, set_of p u t x (scalar_kind p n typed (null_calls_of p) (null_calls_recorded p) t u x scalar given'), kept) (λ y hid out. stay' y hid (λ e b c. out e (omega (arith, b)) c) ∙ stay y hid out) a'))))
    where
      inner : (x : Value) (st : State) → then_do (then_do (PlainAll es st) (λ xs st. Go (x ∷ xs) st [])) f ≡ then_do (PlainAll es st) (λ xs st. f (x ∷ xs) st)
      inner x st =
          then_then {A = List Value} {B = List Value} {C = Value} (PlainAll es st) (λ xs st. Go (x ∷ xs) st []) f ∙ ap (λ h. then_do (PlainAll es st) h) (λ i xs st. after_none {A = Value} (f (x ∷ xs) st) i)

      plain : then_do (PlainAll (more_exprs e es) st) f ≡ then_do (Plain true e st) (λ x st. then_do (PlainAll es st) (λ xs st. f (x ∷ xs) st))
      plain =
          then_then {A = Value} {B = List Value} {C = Value} (Plain true e st) (λ x st. then_do (PlainAll es st) (λ xs st. Go (x ∷ xs) st [])) f ∙ ap (λ h. then_do (Plain true e st) h) (λ i x st. inner x st i)

  -- ## Calls through pointers

  designator_kind : (t : CType) (ts : CTypes) (d : Expr) (o u : Objects) (x : Value) → type_of d ≡ pointer (function t ts) → Grows o u → Gives p true (type_of d) o x → HasKind p u (pointer (function t ts)) x
  designator_kind t ts d o u x e g given = carry p o u (pointer (function t ts)) x g (subst (λ t. Gives p true t o x) e given)

  abbrev Through' : Program → World → Bool → Value → List Value → State → Result Value
  Through' q w wanted x vs st = then_do (answered (callee x) st) (λ f st. called_through q w wanted f vs st)

  through_call : (wanted : Bool) (t : CType) (ts : CTypes) (x : Value) (o : Objects) (vs : List Value) (st : State) (l : Memory) → HasKind p o (pointer (function t ts)) x → IsTypedFrame p o fr → GiveAll p (list_of ts) o vs → At o st l → (EndsTyped p {A = Value} (Gives p wanted t) o st.entries (Through' p w (wants wanted t) x vs st)) × (DoesAlike {A = Value} known fr.activation l (Through' p w (wants wanted t) x vs st) (Through' (instrumented_program p) w' (wants wanted t) x vs (with_memory st l)))
  through_call wanted t ts x o vs st l kind s z a =
      (callee_ends p n typed (null_calls_of p) (null_calls_recorded p) w goes wanted t ts x vs o st kind s.statics z a.now.state, callee_alike p n typed w w' enters known fr.activation (wants wanted t) t ts x vs o st l kind s.statics z a.now)

  through_stands : (site : ℕ) (d : Expr) (es : Exprs) → StandsIn p (mentions d ++ Calls site (Through (type_of d)) ∷ mentions_of_all es) → StandsIn p (Calls site (Through (type_of d)) ∷ []) × StandsIn p (mentions_of_all es)
  through_stands site d es m =
      let rest = right_part p (mentions d) (Calls site (Through (type_of d)) ∷ mentions_of_all es) m in
      (left_part p (Calls site (Through (type_of d)) ∷ []) (mentions_of_all es) rest, right_part p (Calls site (Through (type_of d)) ∷ []) (mentions_of_all es) rest)

  through_plain : (k j : ℕ) (wanted : Bool) (t : CType) (site : ℕ) (d d' : Expr) (es : Exprs) (o : Objects) (st : State) (more : Memory) → k ≤ j → IsTypedFrame p o fr → (ts : CTypes) → type_of d ≡ pointer (function t ts) → IsValue p fr.types d → AreArguments p fr.types ts es → StandsIn p (mentions (call_through t site d es)) → is_marked p (Through (type_of d)) ≡ false → At o st more → Do {A = Value} true k more (Plain true d st) (Other true d' (with_memory st more)) → ((u : Objects) (st : State) (l : Memory) → IsTypedFrame p u fr → At u st l → Do {A = List Value} true j l (PlainAll es st) (OtherAll (arguments p j es) (with_memory st l))) → Do {A = Value} wanted k more (Plain wanted (call_through t site d es) st) (Other wanted (call_through t 0 d' (arguments p j es)) (with_memory st more))
  through_plain k j wanted t site d d' es o st more kj s ts e h h' m b a first others =
      let parts = through_stands site d es m in
      loose known fr limit {A = Value} wanted k more _ _ (on_value {C = Value} true k d d' o st more _ _ s h (left_part p (mentions d) (Calls site (Through (type_of d)) ∷ mentions_of_all es) m) a first (λ u x st l g given a. then_same known fr limit p {A = List Value} {B = Value} true k (GiveAll p (list_of ts)) u st l _ _ _ _ a (all_end p n typed (null_calls_of p) (null_calls_recorded p) w goes fr ts es u st (on_frame o u g s) h' parts.1 a.now.state) (wider known fr limit {A = List Value} true k j l _ _ kj (others u st l (on_frame o u g s) a)) (λ u' vs st' l' g' z a'. subst (λ c. Do {A = Value} true k l' (after (c.0) (then_do (Through' p w (wants wanted t) x vs st') (λ v st. Go v st (c.1)))) (with_marks no_marks 0 (Through' (instrumented_program p) w' (wants wanted t) x vs (with_memory st' l')))) (sym (marks_at p n typed site (Through (type_of d)) false parts.0 b)) (plain_calls site k _ _ known fr limit l' (lift known fr limit {A = Value} k l' _ _ untold ((through_call wanted t ts x u' vs st' l' (designator_kind t ts d u u' x e g' given) (on_frame o u' (grows_on o u u' g g') s) z a').1) a'.ready)))))

  -- the call of the kept designator and arguments
  through_there : (i : ℕ) (wanted : Bool) (t v : CType) (ts : List CType) (x : Value) (vs : List Value) (st : State) (l : Memory) → IsKept l fr i x → IsSet x → AreKept l fr (suc i) ts vs → Other (is_kept wanted t) (call_through t 0 (kept_value v i) (kept_values (suc i) ts)) (with_memory st l) ≡ Through' (instrumented_program p) w' (wants wanted t) x vs (with_memory st l)
  through_there i wanted t v ts x vs st l there set kept =
      ap (λ c. then_do c (λ x st. then_do (OtherAll (kept_values (suc i) ts) st) (λ vs st. with_marks no_marks 0 (Through' (instrumented_program p) w' (wants (is_kept wanted t) t) x vs st)))) (kept_is_given (instrumented_program p) w' no_marks (record { activation = fr.activation; types = wide }) true v i x (with_memory st l) there set) ∙ (after_none {A = Value} _ ∙ (ap (λ c. then_do c (λ vs st. with_marks no_marks 0 (Through' (instrumented_program p) w' (wants (is_kept wanted t) t) x vs st))) (kept_are_given (instrumented_program p) w' no_marks (record { activation = fr.activation; types = wide }) (suc i) ts vs (with_memory st l) kept) ∙ (after_none {A = Value} _ ∙ (after_none {A = Value} _ ∙ (then_go {A = Value} _ ∙ ap (λ b. Through' (instrumented_program p) w' b x vs (with_memory st l)) (wants_kept wanted t))))))

  through_marked : (k i j : ℕ) (wanted : Bool) (t v : CType) (site : ℕ) (d d' : Expr) (es : Exprs) (o : Objects) (st : State) (more : Memory) → IsTypedFrame p o fr → (ts : CTypes) → type_of d ≡ pointer (function t ts) → IsValue p fr.types d → StandsIn p (mentions (call_through t site d es)) → is_marked p (Through (type_of d)) ≡ true → length fr.types ≤ k → k ≤ i → i < limit → (is_kept wanted t ≡ true → suc i + length (list_of ts) < limit) → At o st more → Do {A = Value} true k more (Plain true d st) (Other true d' (with_memory st more)) → ((u : Objects) (st : State) (l : Memory) → IsTypedFrame p u fr → At u st l → KeepsAll k (suc i) j ts es u st l) → Do {A = Value} wanted k more (Plain wanted (call_through t site d es) st) (OtherEach wanted (more_exprs (keep v i d') (keep_all (suc i) (list_of ts) (arguments p j es) (Behind wanted site (suc i + length (list_of ts)) t (call_through t 0 (kept_value v i) (kept_values (suc i) (list_of ts)))))) (with_memory st more))
  through_marked k i j wanted t v site d d' es o st more s ts e h m b first ki less room a does keeps =
      let parts = through_stands site d es m in
      let the_call = call_through t 0 (kept_value v i) (kept_values (suc i) (list_of ts)) in
      let rest = Behind wanted site (suc i + length (list_of ts)) t the_call in
      let others = keep_all (suc i) (list_of ts) (arguments p j es) rest in
      subst (λ c. Do {A = Value} wanted k more (Plain wanted (call_through t site d es) st) c) (sym (each_more (instrumented_program p) w' no_marks (record { activation = fr.activation; types = wide }) wanted (keep v i d') others (with_memory st more) (keep_all_more (suc i) (list_of ts) (arguments p j es) rest tt))) (keep_then p w' known fr limit wide untold {B = Value} wanted k k i k (Gives p true (type_of d)) v o st more (Plain true d st) d' _ (λ st. OtherEach wanted others st) (omega arith) ki (omega arith) (omega (arith, first, ki)) less a (value_ends p n typed (null_calls_of p) (null_calls_recorded p) w goes fr true d o st s h (left_part p (mentions d) (Calls site (Through (type_of d)) ∷ mentions_of_all es) m) a.now.state) does (λ u x st l g given there stay a. keeps u st l (on_frame o u g s) a wanted wanted rest (λ vs st. with_marks (null_calls_of p) site (Through' p w (wants wanted t) x vs st)) tt (λ u' vs st' l' g' z kept stay' a'.
      let kind = designator_kind t ts d u u' x e g' given in
      let frame = on_frame o u' (grows_on o u u' g g') s in
      let still = stays_kept i x l l' (omega (arith, first, ki)) stay' there in
      subst (λ c. Do {A = Value} wanted k l' (after (c.0) (then_do (Through' p w (wants wanted t) x vs st') (λ v st. Go v st (c.1)))) (OtherEach wanted rest (with_memory st' l'))) (sym (marks_at p n typed site (Through (type_of d)) true parts.0 b)) (call_does p w' known fr limit wide untold k (suc i + length (list_of ts)) wanted site t u' st' l' _ _ the_call (omega (arith, ki)) room (omega (arith, first, ki)) a' ((through_call wanted t ts x u' vs st' l' kind frame z a').0) ((through_call wanted t ts x u' vs st' l' kind frame z a').1) (through_there i wanted t v (list_of ts) x vs st' l' still (set_of p u' (pointer (function t ts)) x kind) kept)))))

  through_does : (k : ℕ) (wanted : Bool) (t : CType) (site : ℕ) (d : Expr) (es : Exprs) (o : Objects) (st : State) (more : Memory) → IsTypedFrame p o fr → (ts : CTypes) → type_of d ≡ pointer (function t ts) → IsValue p fr.types d → AreArguments p fr.types ts es → StandsIn p (mentions (call_through t site d es)) → Room k (kept p wanted (call_through t site d es)) → At o st more → (Room k (kept p true d) → Do {A = Value} true k more (Plain true d st) (Other true (expr p k true d) (with_memory st more))) → ((u : Objects) (st : State) (l : Memory) → IsTypedFrame p u fr → At u st l → Room (k + length (kept p true d)) (kept_of_all p es) → Do {A = List Value} true (k + length (kept p true d)) l (PlainAll es st) (OtherAll (arguments p (k + length (kept p true d)) es) (with_memory st l))) → ((i j : ℕ) → is_marked p (Through (type_of d)) ≡ true → (u : Objects) (st : State) (l : Memory) → k ≤ i → i + length (list_of ts) ≤ j → length fr.types ≤ i → Room j (kept_of_all p es) → IsTypedFrame p u fr → At u st l → KeepsAll k i j ts es u st l) → Do {A = Value} wanted k more (Plain wanted (call_through t site d es) st) (Other wanted (expr p k wanted (call_through t site d es)) (with_memory st more))
  through_does k wanted t site d es o st more s ts e h h' m whole a does plain keeps =
      at (is_marked p (Through (type_of d))) refl (fits_right (length fr.types) limit k (kept p true d) (of_through p wanted t (type_of d) ++ kept_of_all p es) whole)
    where
      does_here : Do {A = Value} true k more (Plain true d st) (Other true (expr p k true d) (with_memory st more))
      does_here = does (fits_left (length fr.types) limit k (kept p true d) (of_through p wanted t (type_of d) ++ kept_of_all p es) whole)

      marked : is_marked p (Through (type_of d)) ≡ true → (v : CType) (xs : List CType) → list_of ts ≡ xs → (size : ℕ) → size ≡ suc (length (xs ++ of_result wanted t)) → Room (k + length (kept p true d)) ((type_of d ∷ (xs ++ of_result wanted t)) ++ kept_of_all p es) → Do {A = Value} wanted k more (Plain wanted (call_through t site d es) st) (OtherEach wanted (more_exprs (keep v (k + length (kept p true d)) (expr p k true d)) (keep_all (suc (k + length (kept p true d))) xs (arguments p ((k + length (kept p true d)) + size) es) (Behind wanted site (suc (k + length (kept p true d)) + length xs) t (call_through t 0 (kept_value v (k + length (kept p true d))) (kept_values (suc (k + length (kept p true d))) xs))))) (with_memory st more))
      marked b v xs same size many room =
          subst (λ xs. size ≡ suc (length (xs ++ of_result wanted t)) → Room (k + length (kept p true d)) ((type_of d ∷ (xs ++ of_result wanted t)) ++ kept_of_all p es) → Do {A = Value} wanted k more (Plain wanted (call_through t site d es) st) (OtherEach wanted (more_exprs (keep v (k + length (kept p true d)) (expr p k true d)) (keep_all (suc (k + length (kept p true d))) xs (arguments p ((k + length (kept p true d)) + size) es) (Behind wanted site (suc (k + length (kept p true d)) + length xs) t (call_through t 0 (kept_value v (k + length (kept p true d))) (kept_values (suc (k + length (kept p true d))) xs))))) (with_memory st more))) same (λ many room.
          let later = fits_right (length fr.types) limit (k + length (kept p true d)) (type_of d ∷ (list_of ts ++ of_result wanted t)) (kept_of_all p es) room in
          let sum = length-append (list_of ts) (of_result wanted t) in
          let end : k + length (kept p true d) + suc (length (list_of ts ++ of_result wanted t)) + length (kept_of_all p es) ≤ limit = later.1 in
          let first_k = whole.0 in
          through_marked k (k + length (kept p true d)) ((k + length (kept p true d)) + size) wanted t v site d (expr p k true d) es o st more s ts e h m b first_k (from_here k (length (kept p true d))) (omega (arith, end)) (λ c. let one = result_one wanted t c in omega (arith, sum, one, end)) a does_here (λ u st l s a. keeps (suc (k + length (kept p true d))) ((k + length (kept p true d)) + size) b u st l (omega arith) (omega (arith, many, sum)) (omega (arith, first_k)) (omega (arith, first_k), omega (arith, many, end)) s a)) many room

      at : (b : Bool) → is_marked p (Through (type_of d)) ≡ b → Room (k + length (kept p true d)) ((if b then type_of d ∷ (parameters_behind (type_of d) ++ of_result wanted t) else []) ++ kept_of_all p es) → Do {A = Value} wanted k more (Plain wanted (call_through t site d es) st) (Other wanted (if b then marked_through p site wanted t (k + length (kept p true d)) (expr p k true d) (arguments p ((k + length (kept p true d)) + length (if b then type_of d ∷ (parameters_behind (type_of d) ++ of_result wanted t) else [])) es) else call_through t 0 (expr p k true d) (arguments p (k + length (kept p true d)) es)) (with_memory st more))
      at false b room =
          through_plain k (k + length (kept p true d)) wanted t site d (expr p k true d) es o st more (from_here k (length (kept p true d))) s ts e h h' m b a does_here (λ u st l s a. plain u st l s a room)
      at true b room =
          let same : type_of (expr p k true d) ≡ type_of d = (types_stay p fr.types k d).0 h in
          marked b (type_of (expr p k true d)) (parameters_behind (type_of (expr p k true d))) (sym (ap parameters_behind (same ∙ e))) _ (ap (λ v. suc (length (parameters_behind v ++ of_result wanted t))) (sym same)) (subst (λ v. Room (k + length (kept p true d)) ((type_of d ∷ (parameters_behind v ++ of_result wanted t)) ++ kept_of_all p es)) (sym same) room)

  -- ## Forms

  -- the number of the temporaries of the second of two operands
  abbrev next : ℕ → Expr → ℕ
  next k a = k + length (kept p true a)

  members_more : (k : ℕ) (wanted : Bool) (e : Expr) (es : Exprs) → IsMore (members p k wanted (more_exprs e es))
  members_more k wanted e no_exprs = tt
  members_more k wanted e (more_exprs f es) = tt

  mutual
    pub value_does : (k : ℕ) (wanted : Bool) (e : Expr) (o : Objects) (st : State) (more : Memory) → IsTypedFrame p o fr → IsValue p fr.types e → StandsIn p (mentions e) → Room k (kept p wanted e) → At o st more → Do {A = Value} wanted k more (Plain wanted e st) (Other wanted (expr p k wanted e) (with_memory st more))
    value_does k wanted (constant t x) o st more s h m r a = done wanted k x o st more a
    value_does k wanted (load t e) o st more s h m r a =
        on_place {C = Value} wanted k e (expr p k true e) o st more _ _ s h.2 m a (place_does k true e o st more s h.2 m r a) (λ u x st l g i a. step wanted k (load_place st.memory x) (load_place l x) u st l (load_place_same st.memory l x (place_seen u (type_of e) x st l i a)) a)
    value_does k wanted (address_of t e) o st more s h m r a = loose known fr limit {A = Value} wanted k more _ _ (place_does k true e o st more s h.1 m r a)
    value_does k wanted (decay t e) o st more s h m r a =
        on_place {C = Value} wanted k e (expr p k true e) o st more _ _ s h.1 m a (place_does k true e o st more s h.1 m r a) (λ u x st l g i a. step wanted k (decayed p.structs (type_of e) x) (decayed p.structs (type_of (expr p k true e)) x) u st l (ap (λ t. decayed p.structs t x) ((types_stay p fr.types k e).1 h.1 true)) a)
    value_does k wanted (discard t e) o st more s h m r a =
        on_effect {C = Value} wanted k e (expr p k false e) o st more (λ st. Go Indeterminate st []) (λ st. Go Indeterminate st []) s h.1 m a (value_does k false e o st more s h.1 m r a) (λ u st l g a. done wanted k Indeterminate u st l a)
    value_does k wanted (unary_operation t op e) o st more s h m r a =
        on_value {C = Value} wanted k e (expr p k true e) o st more _ _ s h.1 m a (value_does k true e o st more s h.1 m r a) (λ u x st l g i a. step wanted k (operated op st.memory x) (operated op l x) u st l (operated_same st.memory l op x (value_seen u (type_of e) x st l i a)) a)
    value_does k wanted (conversion t to e) o st more s h m r a =
        on_value {C = Value} wanted k e (expr p k true e) o st more _ _ s h.2 m a (value_does k true e o st more s h.2 m r a) (λ u x st l g i a. step wanted k (convert to x) (convert to x) u st l refl a)
    value_does k wanted (arithmetic t op e f) o st more s h m r a =
        both wanted k e f (expr p (next k e) true f) (expr p k true e) (next k e) o st more (λ m x y. binary op x y) (from_here k _) s h.1 h.2 m a (λ m l x y i j. refl) (value_does k true e o st more s h.1 (left_part p (mentions e) (mentions f) m) (fits_left _ _ k (kept p true e) (kept p true f) r) a) (λ u st l s a. value_does (next k e) true f u st l s h.2 (right_part p (mentions e) (mentions f) m) (fits_right _ _ k (kept p true e) (kept p true f) r) a)
    value_does k wanted (comparison t op e f) o st more s h m r a =
        both wanted k e f (expr p (next k e) true f) (expr p k true e) (next k e) o st more (λ m x y. comparing op m x y) (from_here k _) s h.1 h.2 m a (λ m l x y i j. comparing_same m l op x y i j) (value_does k true e o st more s h.1 (left_part p (mentions e) (mentions f) m) (fits_left _ _ k (kept p true e) (kept p true f) r) a) (λ u st l s a. value_does (next k e) true f u st l s h.2 (right_part p (mentions e) (mentions f) m) (fits_right _ _ k (kept p true e) (kept p true f) r) a)
    value_does k wanted (pointer_add t first subtracted e f) o st more s h m r a =
        both wanted k e f (expr p (next k e) true f) (expr p k true e) (next k e) o st more (λ m x y. moving first subtracted m x y) (from_here k _) s h.1 h.2 m a (λ m l x y i j. moving_same m l first subtracted x y i j) (value_does k true e o st more s h.1 (left_part p (mentions e) (mentions f) m) (fits_left _ _ k (kept p true e) (kept p true f) r) a) (λ u st l s a. value_does (next k e) true f u st l s h.2 (right_part p (mentions e) (mentions f) m) (fits_right _ _ k (kept p true e) (kept p true f) r) a)
    value_does k wanted (pointer_diff t e f) o st more s h m r a =
        both wanted k e f (expr p (next k e) true f) (expr p k true e) (next k e) o st more (λ m x y. difference m x y) (from_here k _) s h.3 h.4 m a (λ m l x y i j. difference_same m l x y i j) (value_does k true e o st more s h.3 (left_part p (mentions e) (mentions f) m) (fits_left _ _ k (kept p true e) (kept p true f) r) a) (λ u st l s a. value_does (next k e) true f u st l s h.4 (right_part p (mentions e) (mentions f) m) (fits_right _ _ k (kept p true e) (kept p true f) r) a)
    value_does k wanted (and t e f) o st more s h m r a =
        on_test {C = Value} wanted k e (expr p k true e) o st more _ _ s h.1 (left_part p (mentions e) (mentions f) m) a (value_does k true e o st more s h.1.1 (left_part p (mentions e) (mentions f) m) (fits_left _ _ k (kept p true e) (kept p true f) r) a) (λ u holds st l g a. either_does known fr limit {A = Value} wanted k holds l _ _ _ _ (on_test {C = Value} wanted k f (expr p (next k e) true f) u st l _ _ (on_frame o u g s) h.2 (right_part p (mentions e) (mentions f) m) a (wider known fr limit {A = Value} true k (next k e) l _ _ (from_here k _) (value_does (next k e) true f u st l (on_frame o u g s) h.2.1 (right_part p (mentions e) (mentions f) m) (fits_right _ _ k (kept p true e) (kept p true f) r) a)) (λ u holds st l g a. done wanted k (truth_value holds) u st l a)) (done wanted k (truth_value false) u st l a))
    value_does k wanted (or t e f) o st more s h m r a =
        on_test {C = Value} wanted k e (expr p k true e) o st more _ _ s h.1 (left_part p (mentions e) (mentions f) m) a (value_does k true e o st more s h.1.1 (left_part p (mentions e) (mentions f) m) (fits_left _ _ k (kept p true e) (kept p true f) r) a) (λ u holds st l g a. either_does known fr limit {A = Value} wanted k holds l _ _ _ _ (done wanted k (truth_value true) u st l a) (on_test {C = Value} wanted k f (expr p (next k e) true f) u st l _ _ (on_frame o u g s) h.2 (right_part p (mentions e) (mentions f) m) a (wider known fr limit {A = Value} true k (next k e) l _ _ (from_here k _) (value_does (next k e) true f u st l (on_frame o u g s) h.2.1 (right_part p (mentions e) (mentions f) m) (fits_right _ _ k (kept p true e) (kept p true f) r) a)) (λ u holds st l g a. done wanted k (truth_value holds) u st l a)))
    value_does k wanted (assign t e f) o st more s h m r a =
        on_place {C = Value} wanted k e (expr p k true e) o st more _ _ s h.3 (left_part p (mentions e) (mentions f) m) a (place_does k true e o st more s h.3 (left_part p (mentions e) (mentions f) m) (fits_left _ _ k (kept p true e) (kept p true f) r) a) (λ u q st l g i a. let shown = place_shown known fr.activation p u (type_of e) q a.now.tells i in on_value {C = Value} wanted k f (expr p (next k e) true f) u st l _ _ (on_frame o u g s) h.4 (right_part p (mentions e) (mentions f) m) a (wider known fr limit {A = Value} true k (next k e) l _ _ (from_here k _) (value_does (next k e) true f u st l (on_frame o u g s) h.4 (right_part p (mentions e) (mentions f) m) (fits_right _ _ k (kept p true e) (kept p true f) r) a)) (λ u x st l g j a. stored wanted k q x x u st l shown a))
    value_does k wanted (update t op old e f) o st more s h m r a =
        on_place {C = Value} wanted k e (expr p k true e) o st more _ _ s h.2 (left_part p (mentions e) (mentions f) m) a (place_does k true e o st more s h.2 (left_part p (mentions e) (mentions f) m) (fits_left _ _ k (kept p true e) (kept p true f) r) a) (λ u q st l g i a.
        let scalar = update_scalar p n typed op t (type_of f) h.0 in
        let shown = place_shown known fr.activation p u (type_of e) q a.now.tells i in
        let tells = a.now.tells in
        answered_then known fr limit {A = Value} {B = Value} wanted k (HasKind p u t) (load_place st.memory q) (load_place l q) st l _ _ (load_place_same st.memory l q (place_seen u (type_of e) q st l i a)) (right_whenever (HasKind p u t) (load_place st.memory q) (load_place_right p n typed u t q st.memory scalar (subst (λ t. IsPlaced p u t q) h.1 i) a.now.state.memory)) (λ before c. on_value {C = Value} wanted k f (expr p (next k e) true f) u st l _ _ (on_frame o u g s) h.3 (right_part p (mentions e) (mentions f) m) a (wider known fr limit {A = Value} true k (next k e) l _ _ (from_here k _) (value_does (next k e) true f u st l (on_frame o u g s) h.3 (right_part p (mentions e) (mentions f) m) (fits_right _ _ k (kept p true e) (kept p true f) r) a)) (λ u' x st' l' g' j a'. answered_then known fr limit {A = Value} {B = Value} wanted k (λ x. Unit {0}) (updated op t (type_of f) st'.memory before x) (updated op t (type_of (expr p (next k e) true f)) l' before x) st' l' _ _ (ap (λ t'. updated op t t' l' before x) ((types_stay p fr.types (next k e) f).0 h.3) ∙ updated_same st'.memory l' op t (type_of f) before x (sees known fr.activation st'.memory l' before a'.now.beside (kind_shown known fr.activation p u t before tells c))) (any_whenever (updated op t (type_of f) st'.memory before x)) (λ new c. stored wanted k q new (either old before new) u' st' l' shown a'))))
    value_does k wanted (conditional t c e f) o st more s h m r a =
        let after_test = right_part p (mentions c) (mentions e ++ mentions f) m in
        let room = fits_right _ _ k (kept p true c) (kept p true e ++ kept p true f) r in
        on_test {C = Value} wanted k c (expr p k true c) o st more _ _ s h.0 (left_part p (mentions c) (mentions e ++ mentions f) m) a (value_does k true c o st more s h.0.1 (left_part p (mentions c) (mentions e ++ mentions f) m) (fits_left _ _ k (kept p true c) (kept p true e ++ kept p true f) r) a) (λ u holds st l g a. loose known fr limit {A = Value} wanted k l _ _ (either_does known fr limit {A = Value} true k holds l _ _ _ _ (wider known fr limit {A = Value} true k (next k c) l _ _ (from_here k _) (value_does (next k c) true e u st l (on_frame o u g s) h.3 (left_part p (mentions e) (mentions f) after_test) (fits_left _ _ (next k c) (kept p true e) (kept p true f) room) a)) (wider known fr limit {A = Value} true k (next (next k c) e) l _ _ (let low : k ≤ k + length (kept p true c) + length (kept p true e) = omega arith in low) (value_does (next (next k c) e) true f u st l (on_frame o u g s) h.4 (right_part p (mentions e) (mentions f) after_test) (fits_right _ _ (next k c) (kept p true e) (kept p true f) room) a))))
    value_does k wanted (comma t es) o st more s h m r a = each_does k wanted t es o st more s h m r a
    value_does k wanted (call t site f es) o st more s h m r a =
        let mine = right_part p (Calls site (Direct f) ∷ []) (mentions_of_all es) m in
        direct_does k wanted t site f es o st more s h.0 h.1 h.2 m r a (λ room. all_do k h.0 es o st more s h.2 mine room a) (λ j kj room. kept_do k k j h.0 es o st more s h.2 (scalars_of p n typed f t h.0 h.1) mine (omega arith) kj r.0 room a)
    value_does k wanted (call_through t site d es) o st more s h m r a =
        through_does k wanted t site d es o st more s h.0 h.1 h.2 h.3 m r a (λ room. value_does k true d o st more s h.2 (left_part p (mentions d) (Calls site (Through (type_of d)) ∷ mentions_of_all es) m) room a) (λ u st l s a room. all_do (next k d) h.0 es u st l s h.3 (through_stands site d es m).1 room a) (λ i j marked u st l ki ij first room s a. kept_do k i j h.0 es u st l s h.3 (let c = some_callee p n typed (function t h.0) (subst (λ v. is_marked p (Through v) ≡ true) h.1 marked) in scalars_of p n typed c.0 t h.0 c.1) (through_stands site d es m).1 ki ij first room a)
    value_does k wanted _ o st more s h m r a = absurd h

    pub place_does : (k : ℕ) (wanted : Bool) (e : Expr) (o : Objects) (st : State) (more : Memory) → IsTypedFrame p o fr → IsPlace p fr.types e → StandsIn p (mentions e) → Room k (kept p wanted e) → At o st more → Do {A = Value} true k more (Plain wanted e st) (Other wanted (expr p k wanted e) (with_memory st more))
    place_does k wanted (function_name t f) o st more s h m r a = done true k (Func f) o st more a
    place_does k wanted (dereference t e) o st more s h m r a =
        on_value {C = Value} true k e (expr p k true e) o st more _ _ s h.2 m a (value_does k true e o st more s h.2 m r a) (λ u x st l g i a. step true k (behind_of t st.memory x) (behind_of t l x) u st l (behind_of_same st.memory l t x (value_seen u (type_of e) x st l i a)) a)
    place_does k wanted (field t first e) o st more s h m r a =
        on_place {C = Value} true k e (expr p k true e) o st more _ _ s h.1 m a (place_does k true e o st more s h.1 m r a) (λ u x st l g i a. step true k (member first (cells p.structs t) x) (member first (cells p.structs t) x) u st l refl a)
    place_does k wanted (string_place t x) o st more s h m r a = done true k _ o st more a
    place_does k wanted (variable t b x) o st more s h m r a = done true k _ o st more a
    place_does k wanted _ o st more s h m r a = absurd h

    pub each_does : (k : ℕ) (wanted : Bool) (t : CType) (es : Exprs) (o : Objects) (st : State) (more : Memory) → IsTypedFrame p o fr → AreMembers p fr.types t es → StandsIn p (mentions_of_all es) → Room k (kept_of_members p wanted es) → At o st more → Do {A = Value} wanted k more (eval_each p w (null_calls_of p) fr wanted es st) (OtherEach wanted (members p k wanted es) (with_memory st more))
    each_does k wanted t no_exprs o st more s h m r a = absurd h
    each_does k wanted t (more_exprs e no_exprs) o st more s h m r a = value_does k wanted e o st more s h.0 (left_part p (mentions e) [] m) r a
    each_does k wanted t (more_exprs e (more_exprs f es)) o st more s h m r a =
        let j = k + length (kept p false e) in
        subst (λ c. Do {A = Value} wanted k more (eval_each p w (null_calls_of p) fr wanted (more_exprs e (more_exprs f es)) st) c) (sym (each_more (instrumented_program p) w' no_marks (record { activation = fr.activation; types = wide }) wanted (expr p k false e) (members p j wanted (more_exprs f es)) (with_memory st more) (members_more j wanted f es))) (on_effect {C = Value} wanted k e (expr p k false e) o st more (λ st. eval_each p w (null_calls_of p) fr wanted (more_exprs f es) st) (λ st. OtherEach wanted (members p j wanted (more_exprs f es)) st) s h.0 (left_part p (mentions e) (mentions_of_all (more_exprs f es)) m) a (value_does k false e o st more s h.0 (left_part p (mentions e) (mentions_of_all (more_exprs f es)) m) (fits_left _ _ k (kept p false e) (kept_of_members p wanted (more_exprs f es)) r) a) (λ u st l g a. wider known fr limit {A = Value} wanted k j l _ _ (from_here k _) (each_does j wanted t (more_exprs f es) u st l (on_frame o u g s) h.1 (right_part p (mentions e) (mentions_of_all (more_exprs f es)) m) (fits_right _ _ k (kept p false e) (kept_of_members p wanted (more_exprs f es)) r) a)))

    pub all_do : (k : ℕ) (ts : CTypes) (es : Exprs) (o : Objects) (st : State) (more : Memory) → IsTypedFrame p o fr → AreArguments p fr.types ts es → StandsIn p (mentions_of_all es) → Room k (kept_of_all p es) → At o st more → Do {A = List Value} true k more (PlainAll es st) (OtherAll (arguments p k es) (with_memory st more))
    all_do k no_types no_exprs o st more s h m r a = here known fr limit {A = List Value} true k [] [] st more [] refl a.now.beside a.ready
    all_do k (more_types t ts) (more_exprs e es) o st more s h m r a =
        let mine = right_part p (mentions e) (mentions_of_all es) m in
        on_value {C = List Value} true k e (expr p k true e) o st more _ _ s h.1 (left_part p (mentions e) (mentions_of_all es) m) a (value_does k true e o st more s h.1 (left_part p (mentions e) (mentions_of_all es) m) (fits_left _ _ k (kept p true e) (kept_of_all p es) r) a) (λ u x st l g i a. then_same known fr limit p {A = List Value} {B = List Value} true k (GiveAll p (list_of ts)) u st l _ _ _ _ a (all_end p n typed (null_calls_of p) (null_calls_recorded p) w goes fr ts es u st (on_frame o u g s) h.2 mine a.now.state) (wider known fr limit {A = List Value} true k (next k e) l _ _ (from_here k _) (all_do (next k e) ts es u st l (on_frame o u g s) h.2 mine (fits_right _ _ k (kept p true e) (kept_of_all p es) r) a)) (λ u vs st l g z a. here known fr limit {A = List Value} true k (x ∷ vs) (x ∷ vs) st l [] refl a.now.beside a.ready))
    all_do k ts es o st more s h m r a = absurd h

    kept_do : (k i j : ℕ) (ts : CTypes) (es : Exprs) (o : Objects) (st : State) (more : Memory) → IsTypedFrame p o fr → AreArguments p fr.types ts es → All IsScalar (list_of ts) → StandsIn p (mentions_of_all es) → k ≤ i → i + length (list_of ts) ≤ j → length fr.types ≤ i → Room j (kept_of_all p es) → At o st more → KeepsAll k i j ts es o st more
    kept_do k i j no_types no_exprs o st more s h c m ki ij first r a owed wanted rest f is_more next =
        subst (λ d. Do {A = Value} owed k more d (OtherEach wanted rest (with_memory st more))) (sym (after_none {A = Value} (f [] st))) (next o [] st more (grows_none o) tt tt (λ x hid out. refl) a)
    kept_do k i j (more_types t ts) (more_exprs e es) o st more s h c m ki ij first r a owed wanted rest f is_more next =
        let mine = right_part p (mentions e) (mentions_of_all es) m in
        let high = r.1 in
        let ij : i + suc (length (list_of ts)) ≤ j = ij in
        keeps_first k i j t ts e es o st more s h.1 (left_part p (mentions e) (mentions_of_all es) m) h.0 (All-head IsScalar t (list_of ts) c) ki (omega (arith, ij, high)) first (omega (arith, ij)) a (value_does j true e o st more s h.1 (left_part p (mentions e) (mentions_of_all es) m) (fits_left _ _ j (kept p true e) (kept_of_all p es) r) a) (λ u st l s a. kept_do k (suc i) (j + length (kept p true e)) ts es u st l s h.2 (All-tail IsScalar t (list_of ts) c) mine (omega (arith, ki)) (omega (arith, ij)) (omega (arith, first)) (fits_right _ _ j (kept p true e) (kept_of_all p es) r) a) owed wanted rest f is_more next
    kept_do k i j ts es o st more s h c m ki ij first r a owed wanted rest f is_more next = absurd h

  -- a value that is tested
  pub tested_does : (k : ℕ) (e : Expr) (o : Objects) (st : State) (more : Memory) → IsTypedFrame p o fr → IsCondition p fr.types e → StandsIn p (mentions e) → Room k (kept p true e) → At o st more → Do {A = Bool} true k more (tested (Plain true e st)) (tested (Other true (expr p k true e) (with_memory st more)))
  tested_does k e o st more s h m r a = test_does k e (expr p k true e) o st more s h m a (value_does k true e o st more s h.1 m r a)
