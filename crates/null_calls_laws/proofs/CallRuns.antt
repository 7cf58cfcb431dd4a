-- A marked call does what the call does, and its null calls and temporaries besides.
use Rattle.std.proofs.Common.{◌≡◌, ℕ, ◌-◌, ◌≤◌, ◌<◌, nat_lt, if◌then◌else◌, Bool, true, false, List, [], ◌∷◌, ◌++◌, map, length, append_assoc, Option, Some, None, slice_get, sym, ap, ◌∙◌, subst, refl, arith, true≢false}
use Rattle.std.specs.List.{AllZip}
use Rattle.std.proofs.lemmas.Bool.{false≢true, false_from_ne_true}
use Rattle.std.proofs.lemmas.Bool.Decides.{nat_tests}
use Rattle.dm_base.specs.declared.event.Event.TheVariants.{Pre, Post}
use Rattle.c_tree.specs.declared.value.ObjectName.{ObjectName}
use Rattle.c_tree.specs.declared.value.Value.{Value}
use Rattle.c_tree.specs.declared.value.Value.TheVariants.{Indeterminate}
use Rattle.c_tree.specs.Tree.{CType, void, pointer, function, CTypes, list_of, Function, Program}
use Rattle.c_tree.specs.Tree.{Expr, Exprs, no_exprs, more_exprs}
use Rattle.c_tree.specs.Functions.{sys_types, null_types, defined, type_of_defined, value_types, value_type, called_type}
use Rattle.c_tree.specs.Layout.{cells}
use Rattle.c_tree.specs.Kinds.{Objects}
use Rattle.c_tree.specs.Operators.{Answer, gives, undefined}
use Rattle.c_tree.specs.Program.{IsProgram}
use Rattle.c_values.specs.Memory.{Object, same_name, changed}
use Rattle.c_values.specs.Memory.{Objects as Memory}
use Rattle.c_values.proofs.StoreLemmas.{same_is, changed_there}
use Rattle.c_meaning.specs.Mentions.{Callee, Calls}
use Rattle.c_meaning.specs.CallGraph.{is_marked, marked_where}
use Rattle.c_meaning.specs.Meaning.{Marks, Frame, World, name_in, wants, call_undefined, called, system_call_alone, called_through, eval, eval_each}
use Rattle.c_meaning.specs.Pointers.{callee, place, store_place}
use Rattle.c_meaning.specs.Results.{State, with_memory, Result, Go, Stop, after, then_do, answered, remembered}
use Rattle.c_meaning.specs.Runs.{no_marks}
use Rattle.c_meaning.specs.StoreTyping.{HasKind, Grows, TellsOfStatics}
use Rattle.c_meaning.specs.TypedResults.{EndsTyped, Gives, GiveAll, StandsIn}
use Rattle.c_meaning.proofs.Places.{get_left}
use Rattle.c_meaning.proofs.Steps.{Right, IsCallee, callee_right}
use Rattle.c_meaning.proofs.Keeps.{arguments_kind}
use Rattle.c_meaning.specs.FurtherObjects.{IsHidden, DoesAlike}
use Rattle.c_meaning.proofs.Together.{Whenever, Now, Does as Alike, undefined_does, alone_does, answered_then as then_alike}
use Rattle.c_meaning.proofs.Expressions.{defined_at, zip_shown}
use Rattle.null_calls_laws.specs.MarkedRuns.{null_calls_of}
use Rattle.null_calls_laws.proofs.Lists.{is_first}
use Rattle.null_calls_laws.proofs.Marking.{marks_if}
use Rattle.c_meaning.proofs.SitesSaid.{callee_found}
use Rattle.null_calls_laws.proofs.TypedRuns.{null_calls_recorded}
use Rattle.null_calls_laws.specs.Temporaries.{is_kept}
use Rattle.null_calls_laws.specs.InstrumentedPrograms.{keep, kept_value, keep_all, null_call, call_and_post, pre_number, post_number, instrumented_program}
use Rattle.null_calls_laws.specs.Pieces.{IsKept, IsSet}
use Rattle.null_calls_laws.proofs.PieceLemmas.{null_calls_are_events, keeping_sets, kept_is_given, shapes_stay}
use Rattle.null_calls_laws.proofs.Beside.{Same, same_for, StayBut, Does, here, after_does, later_does, stays_wider, wider, lift, Here, later_here, then_same}

-- ## Memory with one object changed

pub changed_elsewhere : (m : Memory) (x y : ObjectName) (ob : Option Object) → (x ≡ y → ⊥) → changed m x ob y ≡ m y
changed_elsewhere m x y ob apart =
    ap (λ (b : Bool). if b then ob else m y) (false_from_ne_true (same_name x y) (λ e. apart (same_is x y e)))

-- ## Values

-- a value of a type is set
pub set_of : (p : Program) (o : Objects) (t : CType) (x : Value) → HasKind p o t x → IsSet x
set_of p o t Indeterminate h = absurd h
set_of p o t x h = tt

-- where no result is kept, either none is wanted or there is none
unkept_same : (p : Program) (o : Objects) (wanted : Bool) (t : CType) (x : Value) → is_kept wanted t ≡ false → Gives p wanted t o x → Same {A = Value} wanted x Indeterminate
unkept_same p o false t x e h = tt
unkept_same p o true void Indeterminate e h = refl
unkept_same p o true void x e h = cc
unkept_same p o wanted t x e h = absurd (true≢false e)

-- a call whose result is kept is called as the plain one
pub wants_kept : (wanted : Bool) (t : CType) → wants (is_kept wanted t) t ≡ wants wanted t
wants_kept wanted void = refl
wants_kept wanted t = refl

kind_of_kept : (p : Program) (o : Objects) (wanted : Bool) (t : CType) (x : Value) → is_kept wanted t ≡ true → Gives p wanted t o x → HasKind p o t x
kind_of_kept p o wanted void x e h = absurd (false≢true e)
kind_of_kept p o true t x e h = h
kind_of_kept p o false t x e h = absurd (false≢true e)

-- ## Comma expressions

abbrev pub IsMore : Exprs → Type 0
IsMore no_exprs = ⊥
IsMore (more_exprs e es) = Unit {0}

pub keep_all_more : (i : ℕ) (ts : List CType) (es rest : Exprs) → IsMore rest → IsMore (keep_all i ts es rest)
keep_all_more i (t ∷ ts) (more_exprs e es) rest h = tt
keep_all_more i ts es rest h = h

pub each_more : (q : Program) (w : World) (marks : Marks) (fr : Frame) (wanted : Bool) (e : Expr) (es : Exprs) (st : State) → IsMore es → eval_each q w marks fr wanted (more_exprs e es) st ≡ then_do (eval q w marks fr false e st) (λ x st. eval_each q w marks fr wanted es st)
each_more q w marks fr wanted e no_exprs st h = absurd h
each_more q w marks fr wanted e (more_exprs f es) st h = refl

pub call_more : (number site : ℕ) (kept : Bool) (t : CType) (k : ℕ) (e : Expr) → IsMore (call_and_post number site kept t k e)
call_more number site true t k e = tt
call_more number site false t k e = tt

-- ## Null calls

-- the events round a call, where it is marked or not
pub marks_at : (p : Program) (n : ℕ) → IsProgram p n → (site : ℕ) (c : Callee) (b : Bool) → StandsIn p (Calls site c ∷ []) → is_marked p c ≡ b → null_calls_of p site ≡ marks_if site b
marks_at p n typed site c b stands e =
    ap (marks_if site) (ap (marked_where p) (callee_found p n typed site c (stands (Calls site c) (is_first (Calls site c) []))) ∙ e)

-- ## Calls

-- entries of functions do alike
abbrev pub Enters : Program → World → World → Type 0
Enters p w w' =
    (known : Objects) (last : ℕ) (wanted : Bool) (f : ℕ) (g : Function) (r : CType) (ts : CTypes) (vs : List Value) (o : Objects) (st : State) (more : Memory) → slice_get p.functions f ≡ Some g → g.ctype ≡ function r ts → TellsOfStatics p o → AllZip (HasKind p o) (list_of ts) vs → Now known last p o st more → Alike known last {A = Value} more (w.enter wanted f vs st) (w'.enter wanted f vs (with_memory st more))

module _ (p : Program) (n : ℕ) (typed : IsProgram p n) (w w' : World) (enters : Enters p w w') (known : Objects) (last : ℕ) where
  -- a function of the program is entered, and what else is called does alike
  entered_alike : (rest : ℕ → List Value → State → Result Value) (types : List CType) (wanted : Bool) (f : ℕ) (r : CType) (ts : CTypes) (vs : List Value) (o : Objects) (st : State) (more : Memory) → slice_get (map type_of_defined p.functions ++ types) f ≡ Some (function r ts) → TellsOfStatics p o → AllZip (HasKind p o) (list_of ts) vs → Now known last p o st more → Alike known last {A = Value} more (rest (f - defined p) vs st) (rest (f - defined p) vs (with_memory st more)) → Alike known last {A = Value} more (if nat_lt f (defined p) then w.enter wanted f vs st else rest (f - defined p) vs st) (if nat_lt f (defined (instrumented_program p)) then w'.enter wanted f vs (with_memory st more) else rest (f - defined (instrumented_program p)) vs (with_memory st more))
  entered_alike rest types wanted f r ts vs o st more e s z k other =
      subst (λ d. Alike known last {A = Value} more (if nat_lt f (defined p) then w.enter wanted f vs st else rest (f - defined p) vs st) (if nat_lt f d then w'.enter wanted f vs (with_memory st more) else rest (f - d) vs (with_memory st more))) (sym (shapes_stay p).many) (at (nat_lt f (defined p)) refl)
    where
      at : (b : Bool) → nat_lt f (defined p) ≡ b → Alike known last {A = Value} more (if b then w.enter wanted f vs st else rest (f - defined p) vs st) (if b then w'.enter wanted f vs (with_memory st more) else rest (f - defined p) vs (with_memory st more))
      at true d =
          let less : f < length p.functions = grind (arith, nat_tests) in
          let g = defined_at p.functions types f (function r ts) less e in
          enters known last wanted f g.0 r ts vs o st more g.1 g.2 s z k
      at false d = other

  pub called_alike : (wanted : Bool) (f : ℕ) (r : CType) (ts : CTypes) (vs : List Value) (o : Objects) (st : State) (more : Memory) → called_type p f ≡ Some (function r ts) → TellsOfStatics p o → AllZip (HasKind p o) (list_of ts) vs → Now known last p o st more → Alike known last {A = Value} more (called p w wanted f vs st) (called (instrumented_program p) w' wanted f vs (with_memory st more))
  called_alike wanted f r ts vs o st more e s z k =
      entered_alike call_undefined (sys_types ++ null_types) wanted f r ts vs o st more (ap (λ xs. slice_get xs f) (sym (append_assoc (map type_of_defined p.functions) sys_types null_types)) ∙ e) s z k (undefined_does known last (f - defined p) vs st more (zip_shown known last p n typed (null_calls_of p) (null_calls_recorded p) o (list_of ts) vs st more k z) k.beside)

  through_alike : (wanted : Bool) (f : ℕ) (r : CType) (ts : CTypes) (vs : List Value) (o : Objects) (st : State) (more : Memory) → value_type p f ≡ Some (function r ts) → TellsOfStatics p o → AllZip (HasKind p o) (list_of ts) vs → Now known last p o st more → Alike known last {A = Value} more (called_through p w wanted f vs st) (called_through (instrumented_program p) w' wanted f vs (with_memory st more))
  through_alike wanted f r ts vs o st more e s z k =
      entered_alike system_call_alone sys_types wanted f r ts vs o st more e s z k (alone_does known last (f - defined p) vs st more (zip_shown known last p n typed (null_calls_of p) (null_calls_recorded p) o (list_of ts) vs st more k z) k.beside)

  -- a call through a value
  pub callee_alike : (wanted : Bool) (r : CType) (ts : CTypes) (v : Value) (vs : List Value) (o : Objects) (st : State) (more : Memory) → HasKind p o (pointer (function r ts)) v → TellsOfStatics p o → GiveAll p (list_of ts) o vs → Now known last p o st more → Alike known last {A = Value} more (then_do (answered (callee v) st) (λ f st. called_through p w wanted f vs st)) (then_do (answered (callee v) (with_memory st more)) (λ f st. called_through (instrumented_program p) w' wanted f vs st))
  callee_alike wanted r ts v vs o st more h s z k =
      then_alike known last {A = ℕ} {B = Value} (λ f. value_type p f ≡ Some (function r ts)) (callee v) (callee v) st more _ _ refl (at (callee v) (callee_right p n typed o r ts v h)) (λ f e. through_alike wanted f r ts vs o st more e s (arguments_kind p n typed (null_calls_of p) (null_calls_recorded p) r r ts f o vs (get_left (value_types p) null_types f (function r ts) e) z) k)
    where
      at : (c : Answer ℕ) → Right {A = ℕ} (IsCallee p n typed (function r ts)) c → Whenever {A = ℕ} (λ f. value_type p f ≡ Some (function r ts)) c
      at (gives f) h = h.0
      at (undefined kind) h = tt

-- ## Marked calls

-- memory in which a temporary keeps this value
abbrev pub kept_in : Frame → ℕ → Value → Memory → Memory
kept_in fr i x m = changed m (name_in fr false i) (Some (record { cells = x ∷ []; string = false }))

module _ (p : Program) (w' : World) (known : Objects) (fr : Frame) (limit : ℕ) (wide : List CType) (untold : (j : ℕ) → length fr.types ≤ j → known (name_in fr false j) ≡ None) where
  -- the activation, with the temporaries among its variables
  abbrev pub wider_frame : Frame
  wider_frame = record { activation = fr.activation; types = wide }

  abbrev pub Instrumented : Bool → Expr → State → Result Value
  Instrumented wanted e st = eval (instrumented_program p) w' no_marks wider_frame wanted e st

  abbrev pub Each : Bool → Exprs → State → Result Value
  Each wanted es st = eval_each (instrumented_program p) w' no_marks wider_frame wanted es st

  -- a value is kept, and then the next part
  pub keep_then : {B : Type 0} (owed : Bool) (k m i j : ℕ) (ok : Objects → Value → Type 0) (t : CType) (o : Objects) (st : State) (more : Memory) (r : Result Value) (e : Expr) (f : Value → State → Result B) (g : State → Result B) → k ≤ m → m ≤ i → m ≤ j → length fr.types ≤ i → i < limit → Here known fr limit p o st more → EndsTyped p {A = Value} ok o st.entries r → Does known fr limit {A = Value} true j more r (Instrumented true e (with_memory st more)) → ((u : Objects) (x : Value) (st : State) (l : Memory) → Grows o u → ok u x → IsKept l fr i x → StayBut known fr limit m more l → Here known fr limit p u st l → Does known fr limit {A = B} owed k l (f x st) (g (with_memory st l))) → Does known fr limit {A = B} owed k more (then_do r f) (then_do (Instrumented false (keep t i e) (with_memory st more)) (λ y st. g st))
  keep_then {B} owed k m i j ok t o st more (Stop c u) e f g km mi mj first less n ends h next =
      ap (λ r. then_do (after [] (then_do r (λ v st. remembered (store_place st.memory (place (name_in fr false i) 0 (cells p.structs t)) v) v st))) (λ y st. g st)) h
  keep_then {B} owed k m i j ok t o st more (Go x z u) e f g km mi mj first less n ends h next =
      subst (λ q. Does known fr limit {A = B} owed k more (after u (f x z)) (then_do q (λ y st. g st))) (sym keeps) (after_does known fr limit {A = B} owed k more u (f x z) (g (with_memory z (kept_in fr i x h.left))) (later_does known fr limit {A = B} owed k more (kept_in fr i x h.left) (f x z) (g (with_memory z (kept_in fr i x h.left))) (stays_wider known fr limit k m more (kept_in fr i x h.left) km stay) (next ends.0 x z (kept_in fr i x h.left) ends.1 ends.2 (changed_there h.left (name_in fr false i) _) stay (later_here known fr limit p {A = Value} ok o st more (kept_in fr i x h.left) x z u n ends (λ y shown. changed_elsewhere h.left (name_in fr false i) y _ (λ s. shown (subst (IsHidden known fr.activation) s (omega arith, untold i first))) ∙ h.beside y shown) (λ a b c. ready a b c (same_name (name_in fr false i) (name_in fr false a)))))))
    where
      keeps : Instrumented false (keep t i e) (with_memory st more) ≡ Go x (with_memory z (kept_in fr i x h.left)) u
      keeps =
          let old = h.ready i first less in
          keeping_sets (instrumented_program p) w' no_marks wider_frame false t i e x old.0 (with_memory st more) (with_memory z h.left) u (h.is ∙ ap (λ b. Go b (with_memory z h.left) u) h.same) old.1

      stay : StayBut known fr limit m more (kept_in fr i x h.left)
      stay y hid out =
          changed_elsewhere h.left (name_in fr false i) y _ (λ s. out (sym (ap (λ y. y.activation) s)) (let e : i ≡ y.variable = ap (λ y. y.variable) s in omega (arith, mi, e)) (let e : i ≡ y.variable = ap (λ y. y.variable) s in omega (arith, less, e))) ∙ stays_wider known fr limit m j more h.left mj h.stay y hid out

      ready : (a : ℕ) → length fr.types ≤ a → a < limit → (b : Bool) → (y : Value) × ((if b then Some (record { cells = x ∷ []; string = false }) else h.left (name_in fr false a)) ≡ Some (record { cells = y ∷ []; string = false }))
      ready a b c true = (x, refl)
      ready a b c false = h.ready a b c

  -- a call between its null calls, whose result is kept or not
  pub call_does : (k i : ℕ) (wanted : Bool) (site : ℕ) (t : CType) (o : Objects) (st : State) (more : Memory) (r q : Result Value) (e : Expr) → k ≤ i → (is_kept wanted t ≡ true → i < limit) → length fr.types ≤ i → Here known fr limit p o st more → EndsTyped p {A = Value} (Gives p wanted t) o st.entries r → DoesAlike {A = Value} known fr.activation more r q → Instrumented (is_kept wanted t) e (with_memory st more) ≡ q → Does known fr limit {A = Value} wanted k more (after (Pre site ∷ []) (then_do r (λ v st. Go v st (Post site ∷ [])))) (Each wanted (more_exprs (null_call (pre_number p) site) (call_and_post (post_number p) site (is_kept wanted t) t i e)) (with_memory st more))
  call_does k i wanted site t o st more r q e ki less first n ends alike is =
      subst (λ c. Does known fr limit {A = Value} wanted k more (after (Pre site ∷ []) (then_do r (λ v st. Go v st (Post site ∷ [])))) c) (sym begins) (after_does known fr limit {A = Value} wanted k more (Pre site ∷ []) _ _ (by (is_kept wanted t) refl is))
    where
      begins : Each wanted (more_exprs (null_call (pre_number p) site) (call_and_post (post_number p) site (is_kept wanted t) t i e)) (with_memory st more) ≡ after (Pre site ∷ []) (Each wanted (call_and_post (post_number p) site (is_kept wanted t) t i e) (with_memory st more))
      begins =
          each_more (instrumented_program p) w' no_marks wider_frame wanted (null_call (pre_number p) site) _ (with_memory st more) (call_more (post_number p) site (is_kept wanted t) t i e) ∙ ap (λ c. then_do c (λ x st. Each wanted (call_and_post (post_number p) site (is_kept wanted t) t i e) st)) (null_calls_are_events p w' wider_frame false site (with_memory st more)).0

      does : Does known fr limit {A = Value} true i more r q
      does = lift known fr limit {A = Value} i more r q untold alike n.ready

      by : (b : Bool) → is_kept wanted t ≡ b → Instrumented b e (with_memory st more) ≡ q → Does known fr limit {A = Value} wanted k more (then_do r (λ v st. Go v st (Post site ∷ []))) (Each wanted (call_and_post (post_number p) site b t i e) (with_memory st more))
      by true kept is =
          keep_then {B = Value} wanted k k i i (Gives p wanted t) t o st more r e (λ v st. Go v st (Post site ∷ [])) (λ st. Each wanted (more_exprs (null_call (post_number p) site) (more_exprs (kept_value t i) no_exprs)) st) (omega arith) ki ki first (less kept) n ends (subst (λ c. Does known fr limit {A = Value} true i more r c) (sym is) does) (λ u x st l g given there stay n.
          let set = set_of p u t x (kind_of_kept p u wanted t x kept given) in
          subst (λ c. Does known fr limit {A = Value} wanted k l (Go x st (Post site ∷ [])) c) (sym (ap (λ c. then_do c (λ y st. Instrumented wanted (kept_value t i) st)) (null_calls_are_events p w' wider_frame false site (with_memory st l)).1 ∙ ap (λ c. after (Post site ∷ []) c) (kept_is_given (instrumented_program p) w' no_marks wider_frame wanted t i x (with_memory st l) there set))) (here known fr limit {A = Value} wanted k x x st l (Post site ∷ []) (same_for {A = Value} wanted x x refl) n.now.beside n.ready))
      by false kept is =
          subst (λ c. Does known fr limit {A = Value} wanted k more (then_do r (λ v st. Go v st (Post site ∷ []))) (then_do c (λ y st. Instrumented wanted (null_call (post_number p) site) st))) (sym is) (then_same known fr limit p {A = Value} {B = Value} wanted k (Gives p wanted t) o st more r q _ _ n ends (wider known fr limit {A = Value} true k i more r q ki does) (λ u x st l g given n. subst (λ c. Does known fr limit {A = Value} wanted k l (Go x st (Post site ∷ [])) c) (sym (null_calls_are_events p w' wider_frame wanted site (with_memory st l)).1) (here known fr limit {A = Value} wanted k x Indeterminate st l (Post site ∷ []) (unkept_same p u wanted t x kept given) n.now.beside n.ready)))
