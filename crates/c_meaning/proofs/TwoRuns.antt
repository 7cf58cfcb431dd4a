-- Two runs of a program, part by part: what relates their least parts relates all that they do. By recursion on the parts.
use Rattle.std.proofs.Common.{◌≡◌, ◌≢◌, ℕ, zero, suc, ℤ, ◌+◌, Bool, true, false, ◌-◌, nat_lt, nat_eq, if◌then◌else◌, List, [], ◌∷◌, Option, Some, None, slice_get, sym, subst, refl, arith}
use Rattle.std.proofs.lemmas.Bool.{eqb-true}
use Rattle.std.proofs.lemmas.Bool.Decides.{nat_tests}
use Rattle.dm_base.specs.declared.event.Arg.{Arg}
use Rattle.dm_base.specs.declared.event.Arg.TheVariants.{Int}
use Rattle.dm_base.specs.declared.event.Event.{Event}
use Rattle.dm_base.specs.declared.event.Event.TheVariants.{Pre, Post}
use Rattle.dm_base.specs.declared.outcome.Outcome.TheVariants.{Undefined}
use Rattle.sys_table.specs.declared.sys_result.SysResult.{SysResult}
use Rattle.c_tree.specs.declared.value.Value.{Value}
use Rattle.c_tree.specs.Tree.{CType, Function, Program, type_of}
use Rattle.c_tree.specs.Tree.{Expr, dereference, load, address_of, decay, discard, field, unary_operation, conversion, arithmetic, comparison, pointer_add, pointer_diff, and, or, assign, update, conditional, comma, call, call_through}
use Rattle.c_tree.specs.Tree.{Exprs, no_exprs, more_exprs, Maybe, absent, there, Inits, no_inits, more_inits}
use Rattle.c_tree.specs.Tree.{Stmt, block, evaluate, declare, if_else, while_loop, do_loop, for_loop, switch_on, return_value, Stmts, no_stmts, more_stmts, Groups, no_groups, more_groups}
use Rattle.c_tree.specs.Functions.{defined}
use Rattle.c_values.specs.Answers.{Answer, gives, undefined, U11, U13}
use Rattle.c_values.specs.Memory.{Objects, declared}
use Rattle.c_tree.specs.Operators.{convert, binary}
use Rattle.c_tree.specs.Layout.{cells}
use Rattle.c_meaning.specs.Meaning.{Marks, Frame, Loop, World, either, with_marks, tested, called, call_undefined, called_through, null_call, wants, eval, eval_each, eval_all, condition, perhaps, initialise, fresh, leaving, without, declared_in, exec, exec_all, exec_from, selected, behind_of, decayed, operated, comparing, moving, updated, name_in}
use Rattle.c_meaning.specs.Pointers.{test, callee, place, load_place, store_place, member, difference}
use Rattle.c_meaning.specs.Results.{State, with_memory, Result, Go, Stop, then_do, spend_at, answered, remembered, Exit, on, broken, continued, returned, on_exit, on_round}
use Rattle.c_meaning.specs.Runs.{entered, parameters, without_value, result_of, enter, loop, world, run_body, beginning}
use Rattle.c_meaning.specs.SystemCalls.{Request, system_call, take_record, request, exit_with, exit_call}
use Rattle.c_meaning.specs.WithoutNullCalls.{IsFree, AreFree, IsFreeMaybe, AreFreeInits, IsFreeStmt, AreFreeStmts, AreFreeGroups, MakesNoNullCall}

-- the state of the second run, whose recorded results and turns may be others
abbrev pub second : (List SysResult → List SysResult) → (ℕ → ℕ) → State → State
second records turns st =
    record { memory = st.memory; entries = st.entries; records = records st.records; taken = st.taken; turns = turns st.turns }

-- What relates parts of two runs with these marks, where I holds of the states of the first one, and Outer of those from which a turn is taken. If X, no null call is made.
pub record Relates (m n : Marks) (records : List SysResult → List SysResult) (turns : ℕ → ℕ) (I Outer : State → Type 0) (X : Type 0) (R : (A : Type 0) → Result A → Result A → Type 0) : Type 1 where
  pub joined : (A B : Type 0) (r q : Result A) (f g : A → State → Result B) → R A r q → ((a : A) (st : State) → I st → R B (f a st) (g a (second records turns st))) → R B (then_do r f) (then_do q g)
  pub go : (A : Type 0) (a : A) (st : State) → I st → R A (Go a st []) (Go a (second records turns st) [])
  pub undefined : (A : Type 0) (kind : ℕ) → R A (Stop (Undefined kind) []) (Stop (Undefined kind) [])
  pub marked : (site : ℕ) (r q : Result Value) → R Value r q → R Value (with_marks m site r) (with_marks n site q)
  pub memory : (st : State) (o : Objects) → I st → I (with_memory st o)
  pub entry : (st : State) (vs : List Value) → I st → I (entered vs st)
  pub spend : (A : Type 0) (st : State) (f g : State → Result A) → Outer st → ((st : State) → I st → R A (f st) (g (second records turns st))) → R A (spend_at st.turns st f) (spend_at (turns st.turns) (second records turns st) g)
  pub ends : (status : ℤ) → R Value (exit_with (Int status ∷ [])) (exit_with (Int status ∷ []))
  pub takes : (x : ℕ) (q : Request) (st : State) → I st → R Value (take_record x q st.records st) (take_record x q (records st.records) (second records turns st))
  pub null : (event : ℕ → Event) → (X → ⊥) → (vs : List Value) (st : State) → I st → R Value (null_call event vs st) (null_call event vs (second records turns st))

module _ {m n : Marks} {records : List SysResult → List SysResult} {turns : ℕ → ℕ} {I Outer : State → Type 0} {X : Type 0} {R : (A : Type 0) → Result A → Result A → Type 0} (related : Relates m n records turns I Outer X R) where
  -- a part of both runs
  pub record Both (A : Type 0) (f g : State → Result A) : Type 0 where
    pub at : (st : State) → I st → R A (f st) (g (second records turns st))

-- how parts of both runs are put together
module _ {m n : Marks} {records : List SysResult → List SysResult} {turns : ℕ → ℕ} {I Outer : State → Type 0} {X : Type 0} {R : (A : Type 0) → Result A → Result A → Type 0} {related : Relates m n records turns I Outer X R} where
  pub joins : {A B : Type 0} {f g : State → Result A} {h k : A → State → Result B} → Both related A f g → ((a : A) → Both related B (h a) (k a)) → Both related B (λ st. then_do (f st) h) (λ st. then_do (g st) k)
  joins {A} {B} {f} {g} {h} {k} r q =
      record { at = λ st i. related.joined A B (f st) (g (second records turns st)) h k (r.at st i) (λ a st i. (q a).at st i) }

  pub goes : {A : Type 0} (a : A) → Both related A (λ st. Go a st []) (λ st. Go a st [])
  goes {A} a = record { at = λ st i. related.go A a st i }

  pub stops : {A : Type 0} (kind : ℕ) → Both related A (λ st. Stop (Undefined kind) []) (λ st. Stop (Undefined kind) [])
  stops {A} kind = record { at = λ st i. related.undefined A kind }

  -- what goes on with other memory
  pub changes : {A : Type 0} (a : A) (o : Objects → Objects) → Both related A (λ st. Go a (with_memory st (o st.memory)) []) (λ st. Go a (with_memory st (o st.memory)) [])
  changes {A} a o = record { at = λ st i. related.go A a (with_memory st (o st.memory)) (related.memory st (o st.memory) i) }

  answer : {A : Type 0} (x : Answer A) → Both related A (λ st. answered x st) (λ st. answered x st)
  answer (gives a) = goes a
  answer (undefined kind) = stops kind

  pub answers : {A : Type 0} (x : Objects → Answer A) → Both related A (λ st. answered (x st.memory) st) (λ st. answered (x st.memory) st)
  answers x = record { at = λ st i. (answer (x st.memory)).at st i }

  memory : {A : Type 0} (x : Answer Objects) (a : A) → Both related A (λ st. remembered x a st) (λ st. remembered x a st)
  memory (gives o) a = changes a (λ m. o)
  memory (undefined kind) a = stops kind

  pub remembers : {A : Type 0} (x : Objects → Answer Objects) (a : A) → Both related A (λ st. remembered (x st.memory) a st) (λ st. remembered (x st.memory) a st)
  remembers x a = record { at = λ st i. (memory (x st.memory) a).at st i }

  pub chooses : {A : Type 0} {f g h k : State → Result A} (holds : Bool) → Both related A f g → Both related A h k → Both related A (λ st. either holds (f st) (h st)) (λ st. either holds (g st) (k st))
  chooses true r q = r
  chooses false r q = q

  pub decides : {A : Type 0} {f g h k : State → Result A} (holds : Bool) → Both related A f g → Both related A h k → Both related A (λ st. if holds then f st else h st) (λ st. if holds then g st else k st)
  decides true r q = r
  decides false r q = q

  pub tests : {f g : State → Result Value} → Both related Value f g → Both related Bool (λ st. tested (f st)) (λ st. tested (g st))
  tests r = joins r (λ x. answers (λ o. test o x))

  pub exits : {f g : State → Result Exit} (x : Exit) → Both related Exit f g → Both related Exit (λ st. on_exit x st f) (λ st. on_exit x st g)
  exits on r = r
  exits x r = goes x

  pub rounds : {f g : State → Result Exit} (x : Exit) → Both related Exit f g → Both related Exit (λ st. on_round x st f) (λ st. on_round x st g)
  rounds broken r = goes on
  rounds (returned v) r = goes (returned v)
  rounds x r = r

  pub leaves : {f g : State → Result Exit} (fr : Frame) (xs : List ℕ) → Both related Exit f g → Both related Exit (λ st. leaving fr xs (f st)) (λ st. leaving fr xs (g st))
  leaves fr xs r = joins r (λ x. changes x (λ o. without fr.activation xs o))

  ends : (xs : List Arg) → Both related Value (λ st. exit_with xs) (λ st. exit_with xs)
  ends (Int status ∷ []) = record { at = λ st i. related.ends status }
  ends xs = stops U13

  pub requests : (x : ℕ) (vs : List Value) → Both related Value (λ st. system_call x vs st) (λ st. system_call x vs st)
  requests x vs =
      joins (answers (λ o. request x o vs)) (λ q. decides (nat_eq x exit_call) (ends q.arguments) (record { at = λ st i. related.takes x q st i }))

  pub nulls : (event : ℕ → Event) → (X → ⊥) → (vs : List Value) → Both related Value (λ st. null_call event vs st) (λ st. null_call event vs st)
  nulls event never vs = record { at = λ st i. related.null event never vs st i }

  between : {f g : State → Result Value} (site : ℕ) → Both related Value f g → Both related Value (λ st. with_marks m site (f st)) (λ st. with_marks n site (g st))
  between {f} {g} site r = record { at = λ st i. related.marked site (f st) (g (second records turns st)) (r.at st i) }

  without_result : (is_main wanted : Bool) → Both related Value (λ st. without_value is_main wanted st) (λ st. without_value is_main wanted st)
  without_result false true = stops U11
  without_result is_main wanted = goes _

  results : (is_main wanted : Bool) (x : Exit) → Both related Value (λ st. result_of is_main wanted x st) (λ st. result_of is_main wanted x st)
  results is_main wanted (returned (Some v)) = goes v
  results is_main wanted broken = stops U13
  results is_main wanted continued = stops U13
  results is_main wanted x = without_result is_main wanted

  -- the body of a function in a new activation
  pub bodies : {h k : ℕ → State → Result Exit} (is_main wanted : Bool) (vs : List Value) → ((a : ℕ) → Both related Exit (h a) (k a)) → Both related Value (λ st. then_do (h (suc st.entries) (entered vs st)) (λ x after. result_of is_main wanted x (with_memory after (without (suc st.entries) (parameters 0 vs) after.memory)))) (λ st. then_do (k (suc st.entries) (entered vs st)) (λ x after. result_of is_main wanted x (with_memory after (without (suc st.entries) (parameters 0 vs) after.memory))))
  bodies is_main wanted vs r =
      record { at = λ st i. related.joined Exit Value _ _ _ _ ((r (suc st.entries)).at (entered vs st) (related.entry st vs i)) (λ x st i. (results is_main wanted x).at _ (related.memory st _ i)) }

  pub spends : {A : Type 0} {f g : State → Result A} → Both related A f g → (st : State) → Outer st → R A (spend_at st.turns st f) (spend_at (turns st.turns) (second records turns st) g)
  spends {A} {f} {g} r st i = related.spend A st f g i (λ st i. r.at st i)

-- the number of a function that is none of the null calls
not_null : (n f k : ℕ) → nat_lt f n ≡ false → f ≢ n + k → nat_eq (f - n) k ≡ true → ⊥
not_null n f k l h e = let d : f - n ≡ k = eqb-true (f - n) k e in h (at d)
  where
    at : f - n ≡ k → f ≡ n + k
    at d = grind (arith, nat_tests, l, d)

abbrev pub IsFreeLoop : ℕ → Loop → Type 0
IsFreeLoop n l = IsFreeMaybe n l.test × IsFreeStmt n l.body × IsFreeMaybe n l.step

module _ (p : Program) {m n : Marks} {records : List SysResult → List SysResult} {turns : ℕ → ℕ} {I Outer : State → Type 0} {X : Type 0} {R : (A : Type 0) → Result A → Result A → Type 0} (related : Relates m n records turns I Outer X R) where
  -- what costs a turn is related
  pub record AreRelated (w v : World) : Type 0 where
    pub enter : (wanted : Bool) (f : ℕ) (vs : List Value) → Both related Value (w.enter wanted f vs) (v.enter wanted f vs)
    pub again : (fr : Frame) (l : Loop) → (X → IsFreeLoop (defined p) l) → Both related Exit (w.again fr l) (v.again fr l)

  module _ (w v : World) (worlds : AreRelated w v) where
    called_related : (wanted : Bool) (f : ℕ) → (X → (f ≢ defined p + 24) × (f ≢ defined p + 25)) → (vs : List Value) → Both related Value (called p w wanted f vs) (called p v wanted f vs)
    called_related wanted f h vs = at (nat_lt f (defined p)) refl
      where
        null : {a c : State → Result Value} (event : ℕ → Event) (j : ℕ) (b : Bool) → nat_lt f (defined p) ≡ false → (X → f ≢ defined p + j) → nat_eq (f - defined p) j ≡ b → Both related Value a c → Both related Value (λ st. if b then null_call event vs st else a st) (λ st. if b then null_call event vs st else c st)
        null event j true l q e r = nulls event (λ x. not_null (defined p) f j l (q x) e) vs
        null event j false l q e r = r

        at : (b : Bool) → nat_lt f (defined p) ≡ b → Both related Value (λ st. if b then w.enter wanted f vs st else call_undefined (f - defined p) vs st) (λ st. if b then v.enter wanted f vs st else call_undefined (f - defined p) vs st)
        at true e = worlds.enter wanted f vs
        at false e =
            decides (nat_lt (f - defined p) 24) (requests (f - defined p) vs) (null Pre 24 (nat_eq (f - defined p) 24) e (λ x. (h x).0) refl (null Post 25 (nat_eq (f - defined p) 25) e (λ x. (h x).1) refl (stops U13)))

    through_related : (wanted : Bool) (f : ℕ) (vs : List Value) → Both related Value (called_through p w wanted f vs) (called_through p v wanted f vs)
    through_related wanted f vs =
        decides (nat_lt f (defined p)) (worlds.enter wanted f vs) (decides (nat_lt (f - defined p) 24) (requests (f - defined p) vs) (stops U13))

    module _ (fr : Frame) where
      mutual
        eval_related : (wanted : Bool) (e : Expr) → (X → IsFree (defined p) e) → Both related Value (eval p w m fr wanted e) (eval p v n fr wanted e)
        eval_related wanted (dereference t a) h = joins (eval_related true a h) (λ x. answers (λ o. behind_of t o x))
        eval_related wanted (load t a) h = joins (eval_related true a h) (λ x. answers (λ o. load_place o x))
        eval_related wanted (address_of t a) h = eval_related true a h
        eval_related wanted (decay t a) h = joins (eval_related true a h) (λ x. answers (λ o. decayed p.structs (type_of a) x))
        eval_related wanted (discard t a) h = joins (eval_related false a h) (λ x. goes _)
        eval_related wanted (field t first a) h = joins (eval_related true a h) (λ x. answers (λ o. member first (cells p.structs t) x))
        eval_related wanted (unary_operation t op a) h = joins (eval_related true a h) (λ x. answers (λ o. operated op o x))
        eval_related wanted (conversion t to a) h = joins (eval_related true a h) (λ x. answers (λ o. convert to x))
        eval_related wanted (arithmetic t op a b) h = joins (eval_related true a (λ x. (h x).0)) (λ x. joins (eval_related true b (λ x. (h x).1)) (λ y. answers (λ o. binary op x y)))
        eval_related wanted (comparison t op a b) h = joins (eval_related true a (λ x. (h x).0)) (λ x. joins (eval_related true b (λ x. (h x).1)) (λ y. answers (λ o. comparing op o x y)))
        eval_related wanted (pointer_add t first subtracted a b) h = joins (eval_related true a (λ x. (h x).0)) (λ x. joins (eval_related true b (λ x. (h x).1)) (λ y. answers (λ o. moving first subtracted o x y)))
        eval_related wanted (pointer_diff t a b) h = joins (eval_related true a (λ x. (h x).0)) (λ x. joins (eval_related true b (λ x. (h x).1)) (λ y. answers (λ o. difference o x y)))
        eval_related wanted (and t a b) h = joins (tests (eval_related true a (λ x. (h x).0))) (λ holds. chooses holds (joins (tests (eval_related true b (λ x. (h x).1))) (λ holds. goes _)) (goes _))
        eval_related wanted (or t a b) h = joins (tests (eval_related true a (λ x. (h x).0))) (λ holds. chooses holds (goes _) (joins (tests (eval_related true b (λ x. (h x).1))) (λ holds. goes _)))
        eval_related wanted (assign t a b) h = joins (eval_related true a (λ x. (h x).0)) (λ q. joins (eval_related true b (λ x. (h x).1)) (λ x. remembers (λ o. store_place o q x) x))
        eval_related wanted (update t op old a b) h =
            joins (eval_related true a (λ x. (h x).0)) (λ q. joins (answers (λ o. load_place o q)) (λ before. joins (eval_related true b (λ x. (h x).1)) (λ y. joins (answers (λ o. updated op t (type_of b) o before y)) (λ new. remembers (λ o. store_place o q new) (either old before new)))))
        eval_related wanted (conditional t c a b) h = joins (tests (eval_related true c (λ x. (h x).0))) (λ holds. chooses holds (eval_related true a (λ x. (h x).1)) (eval_related true b (λ x. (h x).2)))
        eval_related wanted (comma t es) h = each_related wanted es h
        eval_related wanted (call t site f es) h =
            joins (all_related es (λ x. (h x).2)) (λ vs. between site (called_related (wants wanted t) f (λ x. ((h x).0, (h x).1)) vs))
        eval_related wanted (call_through t site a es) h =
            joins (eval_related true a (λ x. (h x).0)) (λ x. joins (all_related es (λ x. (h x).1)) (λ vs. between site (joins (answers (λ o. callee x)) (λ f. through_related (wants wanted t) f vs))))
        eval_related wanted e h = goes _

        each_related : (wanted : Bool) (es : Exprs) → (X → AreFree (defined p) es) → Both related Value (eval_each p w m fr wanted es) (eval_each p v n fr wanted es)
        each_related wanted no_exprs h = stops U13
        each_related wanted (more_exprs e no_exprs) h = eval_related wanted e (λ x. (h x).0)
        each_related wanted (more_exprs e (more_exprs f es)) h = joins (eval_related false e (λ x. (h x).0)) (λ x. each_related wanted (more_exprs f es) (λ x. (h x).1))

        all_related : (es : Exprs) → (X → AreFree (defined p) es) → Both related (List Value) (eval_all p w m fr es) (eval_all p v n fr es)
        all_related no_exprs h = goes []
        all_related (more_exprs e es) h = joins (eval_related true e (λ x. (h x).0)) (λ x. joins (all_related es (λ x. (h x).1)) (λ vs. goes _))

      condition_related : (e : Maybe) → (X → IsFreeMaybe (defined p) e) → Both related Bool (condition p w m fr e) (condition p v n fr e)
      condition_related absent h = goes true
      condition_related (there e) h = tests (eval_related true e h)

      perhaps_related : (e : Maybe) → (X → IsFreeMaybe (defined p) e) → Both related Exit (perhaps p w m fr e) (perhaps p v n fr e)
      perhaps_related absent h = goes on
      perhaps_related (there e) h = joins (eval_related false e h) (λ x. goes on)

      inits_related : (x : ℕ) (is : Inits) → (X → AreFreeInits (defined p) is) → Both related Exit (initialise p w m fr x is) (initialise p v n fr x is)
      inits_related x no_inits h = goes on
      inits_related x (more_inits cell e is) h =
          joins (eval_related true e (λ x. (h x).0)) (λ y. joins (remembers (λ o. store_place o (place (name_in fr false x) cell 1) y) y) (λ y. inits_related x is (λ x. (h x).1)))

      fresh_related : (x : ℕ) (t : Option CType) → Both related Exit (fresh p.structs fr x t) (fresh p.structs fr x t)
      fresh_related x None = stops U13
      fresh_related x (Some t) = changes on (λ o. declared o (name_in fr false x) (cells p.structs t))

      mutual
        exec_related : (s : Stmt) → (X → IsFreeStmt (defined p) s) → Both related Exit (exec p w m fr s) (exec p v n fr s)
        exec_related (block ss) h = leaves fr (declared_in ss) (stmts_related ss h)
        exec_related (evaluate e) h = joins (eval_related false e h) (λ x. goes on)
        exec_related (declare x is) h = joins (fresh_related x (slice_get fr.types x)) (λ y. inits_related x is h)
        exec_related (if_else e s r) h = joins (tests (eval_related true e (λ x. (h x).0))) (λ holds. chooses holds (exec_related s (λ x. (h x).1)) (exec_related r (λ x. (h x).2)))
        exec_related (while_loop e s) h = worlds.again fr _ (λ x. ((h x).0, (h x).1, tt))
        exec_related (do_loop s e) h = joins (exec_related s (λ x. (h x).0)) (λ x. rounds x (worlds.again fr _ (λ x. ((h x).1, (h x).0, tt))))
        exec_related (for_loop first test step s) h = leaves fr (declared_in first) (joins (stmts_related first (λ x. (h x).0)) (λ x. exits x (worlds.again fr _ (λ x. ((h x).1, (h x).3, (h x).2)))))
        exec_related (switch_on e gs) h = joins (eval_related true e (λ x. (h x).0)) (λ x. joins (groups_related (selected x gs) gs (λ x. (h x).1)) (λ x. goes _))
        exec_related (return_value e) h = joins (eval_related true e h) (λ x. goes _)
        exec_related s h = goes _

        stmts_related : (ss : Stmts) → (X → AreFreeStmts (defined p) ss) → Both related Exit (exec_all p w m fr ss) (exec_all p v n fr ss)
        stmts_related no_stmts h = goes on
        stmts_related (more_stmts s ss) h = joins (exec_related s (λ x. (h x).0)) (λ x. exits x (stmts_related ss (λ x. (h x).1)))

        groups_related : (k : ℕ) (gs : Groups) → (X → AreFreeGroups (defined p) gs) → Both related Exit (exec_from p w m fr k gs) (exec_from p v n fr k gs)
        groups_related k no_groups h = goes on
        groups_related zero (more_groups labels ss gs) h = joins (stmts_related ss (λ x. (h x).0)) (λ x. exits x (groups_related zero gs (λ x. (h x).1)))
        groups_related (suc k) (more_groups labels ss gs) h = groups_related k gs (λ x. (h x).1)

      pub loop_related : (l : Loop) → (X → IsFreeLoop (defined p) l) → (st : State) → Outer st → R Exit (loop p w m fr l st) (loop p v n fr l (second records turns st))
      loop_related l h st i =
          spends {related = related} (joins (condition_related l.test (λ x. (h x).0)) (λ holds. chooses holds (joins (exec_related l.body (λ x. (h x).1)) (λ x. rounds x (joins (perhaps_related l.step (λ x. (h x).2)) (λ y. worlds.again fr l h)))) (goes on))) st i

    body_related : (is_main wanted : Bool) (g : Option Function) → (X → (b : Function) → g ≡ Some b → IsFreeStmt (defined p) b.body) → (vs : List Value) → Both related Value (run_body p w m is_main wanted g vs) (run_body p v n is_main wanted g vs)
    body_related is_main wanted None h vs = stops U13
    body_related is_main wanted (Some g) h vs =
        bodies is_main wanted vs (λ a. exec_related (record { activation = a; types = g.variables }) g.body (λ x. h x g refl))

    pub enter_related : (X → MakesNoNullCall p) → (wanted : Bool) (f : ℕ) (vs : List Value) (st : State) → Outer st → R Value (enter p w m wanted f vs st) (enter p v n wanted f vs (second records turns st))
    enter_related free wanted f vs st i =
        spends {related = related} (body_related (nat_eq f p.main) wanted (slice_get p.functions f) (λ x. free x f) vs) st i

  -- and so is a run, where that is related for which no turn is left
  module _ (free : X → MakesNoNullCall p) (outer : (st : State) → I st → Outer st) (more : (k : ℕ) → turns (suc k) ≡ suc (turns k)) (none : AreRelated (world p m 0) (world p n (turns 0))) where
    worlds_related : (k : ℕ) → AreRelated (world p m k) (world p n (turns k))
    worlds_related zero = none
    worlds_related (suc k) =
        subst (λ j. AreRelated (world p m (suc k)) (world p n j)) (sym (more k)) (record {
          enter = λ wanted f vs. record { at = λ st i. enter_related (world p m k) (world p n (turns k)) (worlds_related k) free wanted f vs st (outer st i) };
          again = λ fr l h. record { at = λ st i. loop_related (world p m k) (world p n (turns k)) (worlds_related k) fr l h st (outer st i) };
        })

    pub runs_related : (rs : List SysResult) (k : ℕ) → I (beginning p rs k) → R Value (enter p (world p m k) m true p.main [] (beginning p rs k)) (enter p (world p n (turns k)) n true p.main [] (beginning p (records rs) (turns k)))
    runs_related rs k i =
        enter_related (world p m k) (world p n (turns k)) (worlds_related k) free true p.main [] (beginning p rs k) (outer (beginning p rs k) i)
