-- Evaluation keeps types.
use Rattle.std.proofs.Common.{◌≡◌, inl, inr, ℕ, zero, suc, ◌+◌, ◌-◌, ◌<◌, ◌≤◌, nat_lt, nat_eq, if◌then◌else◌, Bool, true, false, List, [], ◌∷◌, ◌++◌, map, All, Some, None, slice_get, replicate, length, append_assoc, sym, ap, ◌∙◌, subst, refl, arith}
use Rattle.std.specs.List.{AllZip}
use Rattle.std.proofs.lemmas.Bool.Decides.{nat_tests}
use Rattle.std.proofs.lemmas.Option.{slice_get_within}
use Rattle.std.proofs.lemmas.List.Elements.{All-nil, All-cons, All-head, All-tail}
use Rattle.dm_base.specs.declared.event.Event.{Event}
use Rattle.dm_base.specs.declared.event.Event.TheVariants.{Pre, Post}
use Rattle.dm_base.specs.declared.outcome.Outcome.TheVariants.{Undefined}
use Rattle.c_meaning.specs.Table.{IsRecorded}
use Rattle.c_tree.specs.declared.value.IntType.{IntType}
use Rattle.c_tree.specs.declared.value.UnOp.{UnOp}
use Rattle.c_tree.specs.declared.value.UnOp.TheVariants.{Not}
use Rattle.c_tree.specs.declared.value.Value.{Value}
use Rattle.c_tree.specs.declared.value.Value.TheVariants.{Indeterminate, Func}
use Rattle.c_tree.specs.Tree.{CType, void, integer, pointer, function, CTypes, no_types, more_types, list_of, Function, Program, type_of}
use Rattle.c_tree.specs.Tree.{Expr, constant, function_name, string_place, variable, dereference, load, address_of, decay, discard, field, unary_operation, conversion, arithmetic, comparison, pointer_add, pointer_diff, and, or, assign, update, conditional, comma, call, call_through}
use Rattle.c_tree.specs.Tree.{Exprs, no_exprs, more_exprs, Maybe, absent, there, Inits, no_inits, more_inits}
use Rattle.c_tree.specs.Tree.{Stmt, block, empty, evaluate, declare, if_else, while_loop, do_loop, for_loop, switch_on, break_off, continue_on, return_void, return_value, Stmts, no_stmts, more_stmts, Groups, no_groups, more_groups}
use Rattle.c_tree.specs.Layout.{flat, cells}
use Rattle.c_tree.specs.Functions.{int, unsigned_int, sys_types, null_types, defined, type_of_defined, value_types, value_type, called_type}
use Rattle.c_tree.specs.Operands.{IsScalar, IsObject, OperatorKind, ordering, equality, kind_of, FitsUnary, AreComparable, FitsPointerAdd}
use Rattle.c_tree.specs.Kinds.{Objects, Lies, IsPointer}
use Rattle.c_tree.specs.Operators.{Answer, gives, undefined, convert, binary}
use Rattle.c_tree.specs.Program.{IsStatic, IsProgram}
use Rattle.c_tree.specs.Typed.{IsStaticOf, IsVariableOf, IsValue, IsPlace, AreMembers, AreArguments, IsCondition, IsTest, IsStep, AreInits, IsDeclare, AreFirst, IsStmt, AreStmts, AreGroups}
use Rattle.c_meaning.specs.Memory.{declared}
use Rattle.c_meaning.specs.Memory.{Objects as Memory}
use Rattle.c_meaning.proofs.Members.{below, is_below, not_below, length_map}
use Rattle.c_meaning.specs.Mentions.{Calls, Direct, Through, mentions, mentions_of_all, mentions_of_maybe, mentions_of_inits, mentions_of_stmt, mentions_of_stmts, mentions_of_groups}
use Rattle.c_meaning.specs.Meaning.{Marks, Frame, World, either, static_name, name_in, behind_of, decayed, operated, comparing, moving, updated, with_marks, wants, null_call, call_undefined, called, system_call_alone, called_through, tested, eval, eval_each, eval_all, condition, perhaps, initialise, fresh, declared_in, without, leaving, selected, exec, exec_all, exec_from}
use Rattle.c_meaning.specs.Pointers.{callee, truth_value, place, load_place, store_place, member, difference, test}
use Rattle.c_meaning.specs.Results.{remembered, State, with_memory, Result, Go, Stop, then_do, answered, Exit, on, broken, continued, returned, out_of_switch}
use Rattle.c_meaning.specs.SystemCalls.{system_call}
use Rattle.c_meaning.specs.StoreTyping.{HasKind, IsPlaced, IsTypedMemory, IsTypedState, Grows, TellsOfStatics, IsTypedFrame}
use Rattle.c_meaning.specs.TypedResults.{EndsTyped, Gives, GiveAll, IsExit, StandsIn, IsTypedWorld, AreRecorded}
use Rattle.c_meaning.proofs.Places.{placed_at, all_get, at_place, uint_value, flat_one, lies_once, flat_scalar, get_left, get_right, get_before, lies_whole, scalar_object, grows_on, carry, carry_place, kind_given, carry_given, blank, memory_changed, memory_ended}
use Rattle.c_meaning.proofs.Steps.{Right, truth_kind, update_right_scalar, function_parts, value_takes, scalars_of, convert_right, binary_right, behind_of_right, IsCallee, callee_right, load_place_right, store_right, store_place_right, field_right, address_is, decayed_right, moving_right, operated_right, comparing_right, test_right, updated_right, update_scalar, of_constant}
use Rattle.c_meaning.proofs.Differences.{difference_right}
use Rattle.c_meaning.proofs.Ends.{if_ends, now, now_after, after_ends, then_ends, weaker, answered_ends, remembered_ends, either_ends, exit_ends, round_ends, looser}
use Rattle.c_meaning.proofs.Calls.{system_call_ends}
use Rattle.c_meaning.proofs.Standing.{taken_there, left_part, right_part, stands_empty}

pub defined_at : (fs : List Function) (xs : List CType) (f : ℕ) (t : CType) → f < length fs → slice_get (map type_of_defined fs ++ xs) f ≡ Some t → (g : Function) × (slice_get fs f ≡ Some g) × (g.ctype ≡ t)
defined_at [] xs f t h e = absurd (omega (arith, h))
defined_at (g ∷ fs) xs zero t h e = let same : g.ctype ≡ t = cc in (g, refl, same)
defined_at (g ∷ fs) xs (suc f) t h e = defined_at fs xs f t (omega (arith, h)) e

pub undefined_at : (fs : List Function) (xs : List CType) (f : ℕ) (t : CType) → length fs ≤ f → slice_get (map type_of_defined fs ++ xs) f ≡ Some t → slice_get xs (f - length fs) ≡ Some t
undefined_at fs xs f t h e = grind (arith, get_right (map type_of_defined fs) xs (f - length fs), length_map type_of_defined fs)

-- a call of a function that is defined, or of another
pub by_definition : (p : Program) (P : Bool → Type 0) (xs : List CType) (f : ℕ) (t : CType) → slice_get (map type_of_defined p.functions ++ xs) f ≡ Some t → ((g : Function) → slice_get p.functions f ≡ Some g → g.ctype ≡ t → P true) → (slice_get xs (f - defined p) ≡ Some t → P false) → P (nat_lt f (defined p))
by_definition p P xs f t e here past = at (nat_lt f (defined p)) refl
  where
    at : (b : Bool) → nat_lt f (defined p) ≡ b → P b
    at true d = let g = defined_at p.functions xs f t (below f (defined p) d) e in here g.0 g.1 g.2
    at false d = past (undefined_at p.functions xs f t (not_below f (defined p) d) e)

pub whole_types : (p : Program) (f : ℕ) (t : CType) → called_type p f ≡ Some t → slice_get (map type_of_defined p.functions ++ (sys_types ++ null_types)) f ≡ Some t
whole_types p f t e = ap (λ xs. slice_get xs f) (sym (append_assoc (map type_of_defined p.functions) sys_types null_types)) ∙ e

pub sys_many : length sys_types ≡ 24
unfolding sys_types
sys_many = refl

sys_before : (x : ℕ) → x < 24 → slice_get (sys_types ++ null_types) x ≡ slice_get sys_types x
sys_before x h = get_before sys_types null_types x (subst (λ m. x < m) (sym sys_many) h)

null_at : (x : ℕ) → 24 ≤ x → slice_get (sys_types ++ null_types) x ≡ slice_get null_types (x - 24)
null_at x h = grind (arith, get_right sys_types null_types (x - 24), sys_many)

-- what stands first in the head of a for are statements
pub first_are : (p : Program) (vars : List CType) (r : CType) (ss : Stmts) → AreFirst p vars ss → AreStmts p vars r false false ss
first_are p vars r no_stmts h = tt
first_are p vars r (more_stmts (evaluate e) ss) h = (h.0, first_are p vars r ss h.1)
first_are p vars r (more_stmts (declare x is) ss) h = (h.0, first_are p vars r ss h.1)
first_are p vars r (more_stmts _ ss) h = absurd h.0

null_type : (x : ℕ) (r : CType) (ts : CTypes) → slice_get null_types x ≡ Some (function r ts) → (unsigned_int ∷ [] ≡ list_of ts) × (void ≡ r)
null_type (suc (suc x)) r ts e = absurd (cc)
null_type x r ts e = let same : more_types unsigned_int no_types ≡ ts = cc in (ap list_of same, cc)

module _ (p : Program) (n : ℕ) (typed : IsProgram p n) (marks : Marks) (recorded : AreRecorded marks) where
  abbrev Kind : CType → Objects → Value → Type 0
  Kind t o v = HasKind p o t v

  abbrev Place : CType → Objects → Value → Type 0
  Place t o v = IsPlaced p o t v

  abbrev pub Holds : Objects → Bool → Type 0
  Holds o b = Unit {0}

  -- an operand of scalar type gives a value
  pub scalar_kind : (t : CType) (o : Objects) (v : Value) → IsScalar t → Gives p true t o v → HasKind p o t v
  scalar_kind (integer k) o v b h = h
  scalar_kind (pointer t) o v b h = h
  scalar_kind t o v b h = absurd b

  pub operand : (t u : CType) (o : Objects) (start : ℕ) (r : Result Value) → t ≡ u → IsScalar u → EndsTyped p {A = Value} (Gives p true t) o start r → EndsTyped p {A = Value} (Kind u) o start r
  operand t u o start r e b h = weaker p {A = Value} (Gives p true t) (Kind u) o _ r (λ o v g. scalar_kind u o v b (subst (λ t. Gives p true t o v) e g)) h

  pub given : (wanted : Bool) (t : CType) (o : Objects) (start : ℕ) (r : Result Value) → EndsTyped p {A = Value} (Kind t) o start r → EndsTyped p {A = Value} (Gives p wanted t) o start r
  given wanted t o start r h = weaker p {A = Value} (Kind t) (Gives p wanted t) o _ r (λ o v k. kind_given p o (wants wanted t) t v k) h

  -- what is given where a value is wanted may be given anywhere
  any_given : (wanted : Bool) (t : CType) (o : Objects) (v : Value) → Gives p true t o v → Gives p wanted t o v
  any_given wanted void o v h = h
  any_given wanted t o v h = kind_given p o wanted t v h

  -- one operand, which is of this kind
  pub one_ends : (ok : Objects → Value → Type 0) (t : CType) (wanted : Bool) (o : Objects) (start : ℕ) (r : Result Value) (f : State → Value → Answer Value) → EndsTyped p {A = Value} ok o start r → ((o : Objects) (v : Value) (st : State) → ok o v → IsTypedState p o st → Right {A = Value} (Kind t o) (f st v)) → EndsTyped p {A = Value} (Gives p wanted t) o start (then_do r (λ v st. answered (f st v) st))
  one_ends ok t wanted o start r f h k =
      given wanted t o _ (then_do r (λ v st. answered (f st v) st)) (then_ends p {A = Value} {B = Value} ok (Kind t) o _ r _ h (λ o v st g i s. answered_ends p {A = Value} (Kind t) o (f st v) st (k o v st i s) s))

  -- and one that gives a place
  pub place_ends : (ok : Objects → Value → Type 0) (t : CType) (o : Objects) (start : ℕ) (r : Result Value) (f : State → Value → Answer Value) → EndsTyped p {A = Value} ok o start r → ((o : Objects) (v : Value) (st : State) → ok o v → IsTypedState p o st → Right {A = Value} (Place t o) (f st v)) → EndsTyped p {A = Value} (Place t) o start (then_do r (λ v st. answered (f st v) st))
  place_ends ok t o start r f h k =
      then_ends p {A = Value} {B = Value} ok (Place t) o _ r _ h (λ o v st g i s. answered_ends p {A = Value} (Place t) o (f st v) st (k o v st i s) s)

  -- two operands of these types
  pub two_ends : (u w t : CType) (wanted : Bool) (o : Objects) (start : ℕ) (r : Result Value) (second : State → Result Value) (f : State → Value → Value → Answer Value) → EndsTyped p {A = Value} (Kind u) o start r → ((o' : Objects) (st : State) → Grows o o' → IsTypedState p o' st → EndsTyped p {A = Value} (Kind w) o' st.entries (second st)) → ((o : Objects) (x y : Value) (st : State) → HasKind p o u x → HasKind p o w y → IsTypedState p o st → Right {A = Value} (Kind t o) (f st x y)) → EndsTyped p {A = Value} (Gives p wanted t) o start (then_do r (λ x st. then_do (second st) (λ y st. answered (f st x y) st)))
  two_ends u w t wanted o start r second f h l k =
      given wanted t o _ _ (then_ends p {A = Value} {B = Value} (Kind u) (Kind t) o _ r _ h (λ o1 x st g i s. then_ends p {A = Value} {B = Value} (Kind w) (Kind t) o1 _ (second st) _ (l o1 st g s) (λ o2 y st g' j s. answered_ends p {A = Value} (Kind t) o2 (f st x y) st (k o2 x y st (carry p o1 o2 u x g' i) j s) s)))

  pub tested_ends : (u : CType) (o : Objects) (start : ℕ) (r : Result Value) → EndsTyped p {A = Value} (Kind u) o start r → EndsTyped p {A = Bool} Holds o start (tested r)
  tested_ends u o start r h =
      then_ends p {A = Value} {B = Bool} (Kind u) Holds o _ r _ h (λ o v st g i s. answered_ends p {A = Bool} Holds o (test st.memory v) st (test_right p n typed o u v st.memory i) s)

  pub instrumented_ends : (ok : Objects → Value → Type 0) (site : ℕ) (o : Objects) (start : ℕ) (r : Result Value) → EndsTyped p {A = Value} ok o start r → EndsTyped p {A = Value} ok o start (with_marks marks site r)
  instrumented_ends ok site o start r h =
      after_ends p {A = Value} ok o start ((marks site).0) (then_do r (λ v st. Go v st ((marks site).1))) (recorded site).0 (then_ends p {A = Value} {B = Value} ok ok o _ r (λ v st. Go v st ((marks site).1)) h (λ o v st g i s. now_after p {A = Value} ok o v st ((marks site).1) i s (recorded site).1))

  pub stands_on : (o u : Objects) (fr : Frame) → Grows o u → IsTypedFrame p o fr → IsTypedFrame p u fr
  stands_on o u fr g h = record {
    statics = λ x s e. g (static_name x) (flat p.structs s.ctype) (h.statics x s e);
    objects = h.objects;
    variables = λ x t e. g (name_in fr false x) (flat p.structs t) (h.variables x t e);
  }

  statics_on : (o u : Objects) → Grows o u → TellsOfStatics p o → TellsOfStatics p u
  statics_on o u g h x s e = g (static_name x) (flat p.structs s.ctype) (h x s e)

  -- arguments of the types of a function's parameters
  pub arguments_kind : (t : CType) (r : CType) (ts : CTypes) (f : ℕ) (o : Objects) (vs : List Value) → called_type p f ≡ Some (function r ts) → GiveAll p (list_of ts) o vs → AllZip (HasKind p o) (list_of ts) vs
  arguments_kind t r ts f o vs e z = all (list_of ts) vs (scalars_of p n typed f r ts e) z
    where
      all : (us : List CType) (vs : List Value) → All IsScalar us → GiveAll p us o vs → AllZip (HasKind p o) us vs
      all [] [] b z = tt
      all (u ∷ us) (v ∷ vs) b z = (scalar_kind u o v (All-head IsScalar u us b) z.0, all us vs (All-tail IsScalar u us b) z.1)
      all us vs b z = absurd z

  -- a null call
  null_ends : (event : ℕ → Event) (r : CType) (ts : CTypes) (wanted : Bool) (vs : List Value) (o : Objects) (st : State) → ((s : ℕ) → IsRecorded (event s)) → unsigned_int ∷ [] ≡ list_of ts → void ≡ r → AllZip (HasKind p o) (list_of ts) vs → IsTypedState p o st → EndsTyped p {A = Value} (Gives p wanted r) o st.entries (null_call event vs st)
  null_ends event r ts wanted vs o st rec e d z k = at vs (subst (λ us. AllZip (HasKind p o) us vs) (sym e) z)
    where
      at : (vs : List Value) → AllZip (HasKind p o) (unsigned_int ∷ []) vs → EndsTyped p {A = Value} (Gives p wanted r) o st.entries (null_call event vs st)
      at (v ∷ []) z =
          uint_value p o (λ v. EndsTyped p {A = Value} (Gives p wanted r) o st.entries (null_call event (v ∷ []) st)) v z.0 (λ s f. subst (λ r. EndsTyped p {A = Value} (Gives p wanted r) o st.entries (Go Indeterminate st (event s ∷ []))) d (now_after p {A = Value} (Gives p wanted void) o Indeterminate st (event s ∷ []) tt k (All-cons IsRecorded (event s) [] (rec s) (All-nil IsRecorded))))
      at vs z = absurd (grind (arith, z))

  -- a function that has no definition
  undefined_ends : (x : ℕ) (r : CType) (ts : CTypes) (wanted : Bool) (vs : List Value) (o : Objects) (st : State) → slice_get (sys_types ++ null_types) x ≡ Some (function r ts) → AllZip (HasKind p o) (list_of ts) vs → IsTypedState p o st → EndsTyped p {A = Value} (Gives p wanted r) o st.entries (call_undefined x vs st)
  undefined_ends x r ts wanted vs o st e z k =
      if_ends p {A = Value} (Gives p wanted r) o st.entries (nat_lt x 24) _ _ (λ d. system_call_ends p n typed x r ts o wanted vs st (sym (sys_before x (below x 24 d)) ∙ e) z k) (λ d.
      let more : 24 ≤ x = not_below x 24 d in
      let found = sym (null_at x more) ∙ e in
      let t = null_type (x - 24) r ts found in
      if_ends p {A = Value} (Gives p wanted r) o st.entries (nat_eq x 24) _ _ (λ b. null_ends Pre r ts wanted vs o st (λ s. tt) t.0 t.1 z k) (λ b. if_ends p {A = Value} (Gives p wanted r) o st.entries (nat_eq x 25) _ _ (λ c. null_ends Post r ts wanted vs o st (λ s. tt) t.0 t.1 z k) (λ c.
      let short : x - 24 < 2 = slice_get_within null_types (x - 24) (function r ts) found in
      absurd (grind (arith, nat_tests, short)))))

  -- a system call through a pointer
  alone_ends : (x : ℕ) (r : CType) (ts : CTypes) (wanted : Bool) (vs : List Value) (o : Objects) (st : State) → slice_get sys_types x ≡ Some (function r ts) → AllZip (HasKind p o) (list_of ts) vs → IsTypedState p o st → EndsTyped p {A = Value} (Gives p wanted r) o st.entries (system_call_alone x vs st)
  alone_ends x r ts wanted vs o st e z k =
      subst (λ b. EndsTyped p {A = Value} (Gives p wanted r) o st.entries (if b then system_call x vs st else Stop (Undefined 13) [])) (sym (is_below x 24 (subst (λ m. x < m) sys_many (slice_get_within sys_types x (function r ts) e)))) (system_call_ends p n typed x r ts o wanted vs st e z k)

  module _ (w : World) (goes : IsTypedWorld p w) where
    pub called_ends : (wanted : Bool) (f : ℕ) (r : CType) (ts : CTypes) (vs : List Value) (o : Objects) (st : State) → called_type p f ≡ Some (function r ts) → TellsOfStatics p o → AllZip (HasKind p o) (list_of ts) vs → IsTypedState p o st → EndsTyped p {A = Value} (Gives p wanted r) o st.entries (called p w (wants wanted r) f vs st)
    called_ends wanted f r ts vs o st e s z k =
        by_definition p (λ b. EndsTyped p {A = Value} (Gives p wanted r) o st.entries (if b then w.enter (wants wanted r) f vs st else call_undefined (f - defined p) vs st)) (sys_types ++ null_types) f (function r ts) (whole_types p f (function r ts) e) (λ g d q. goes.enter (wants wanted r) f g r ts vs o st d q s z k) (λ d. undefined_ends (f - defined p) r ts wanted vs o st d z k)

    pub through_ends : (wanted : Bool) (f : ℕ) (r : CType) (ts : CTypes) (vs : List Value) (o : Objects) (st : State) → value_type p f ≡ Some (function r ts) → TellsOfStatics p o → AllZip (HasKind p o) (list_of ts) vs → IsTypedState p o st → EndsTyped p {A = Value} (Gives p wanted r) o st.entries (called_through p w (wants wanted r) f vs st)
    through_ends wanted f r ts vs o st e s z k =
        by_definition p (λ b. EndsTyped p {A = Value} (Gives p wanted r) o st.entries (if b then w.enter (wants wanted r) f vs st else system_call_alone (f - defined p) vs st)) sys_types f (function r ts) e (λ g d q. goes.enter (wants wanted r) f g r ts vs o st d q s z k) (λ d. alone_ends (f - defined p) r ts wanted vs o st d z k)

    -- a call through a value
    pub callee_ends : (wanted : Bool) (r : CType) (ts : CTypes) (v : Value) (vs : List Value) (o : Objects) (st : State) → HasKind p o (pointer (function r ts)) v → TellsOfStatics p o → GiveAll p (list_of ts) o vs → IsTypedState p o st → EndsTyped p {A = Value} (Gives p wanted r) o st.entries (then_do (answered (callee v) st) (λ f st. called_through p w (wants wanted r) f vs st))
    callee_ends wanted r ts v vs o st h s z k = at (callee v) (callee_right p n typed o r ts v h)
      where
        at : (c : Answer ℕ) → Right {A = ℕ} (IsCallee p n typed (function r ts)) c → EndsTyped p {A = Value} (Gives p wanted r) o st.entries (then_do (answered c st) (λ f st. called_through p w (wants wanted r) f vs st))
        at (gives f) h =
            after_ends p {A = Value} (Gives p wanted r) o _ [] (called_through p w (wants wanted r) f vs st) (All-nil IsRecorded) (through_ends wanted f r ts vs o st h.0 s (arguments_kind r r ts f o vs (get_left (value_types p) null_types f (function r ts) h.0) z) k)
        at (undefined kind) h = (h, All-nil IsRecorded)

    unary_scalar : (op : UnOp) (t u : CType) → FitsUnary op t u → IsScalar u
    unary_scalar Not t u f = f.1
    unary_scalar op t u f = subst IsScalar (sym f.2) tt

    comparable_scalar : (c : OperatorKind) (u : CType) → AreComparable p.structs c u → IsScalar u
    comparable_scalar ordering u (inl f) = subst IsScalar (sym f.1) tt
    comparable_scalar ordering u (inr f) = subst IsScalar (sym f.1) tt
    comparable_scalar equality u (inl f) = subst IsScalar (sym f.1) tt
    comparable_scalar equality u (inr f) = subst IsScalar (sym f.1) tt
    comparable_scalar c u f = absurd f

    added_scalar : (first subtracted : Bool) (t u v : CType) → FitsPointerAdd p.structs first subtracted t u v → IsScalar u × IsScalar v
    added_scalar true subtracted t u v f = (subst IsScalar (sym (f.0 ∙ f.1.1)) tt, subst IsScalar (sym f.2.1) tt)
    added_scalar false subtracted t u v f = (subst IsScalar (sym f.2.1) tt, subst IsScalar (sym (f.0 ∙ f.1.1)) tt)

    either_kind : (t : CType) (old : Bool) (before new : Value) (o : Objects) → HasKind p o t before → HasKind p o t new → HasKind p o t (either old before new)
    either_kind t true before new o h k = h
    either_kind t false before new o h k = k

    module _ (fr : Frame) where
      -- an object that is told of, as a place
      place_told : (o : Objects) (t : CType) (x : Bool) (k : ℕ) (st : State) → IsObject p.structs t → o (name_in fr x k) ≡ Some (flat p.structs t) → IsTypedState p o st → EndsTyped p {A = Value} (Place t) o st.entries (Go (place (name_in fr x k) 0 (cells p.structs t)) st [])
      place_told o t x k st b e s =
          now p {A = Value} (Place t) o (place (name_in fr x k) 0 (cells p.structs t)) st (placed_at p o t (name_in fr x k) 0 (cells p.structs t) (flat p.structs t) b e refl (lies_whole (flat p.structs t))) s

      static_told : (o : Objects) (string : Bool) (k : ℕ) (t : CType) → IsTypedFrame p o fr → IsStaticOf p string k t → IsObject p.structs t × (o (static_name k) ≡ Some (flat p.structs t))
      static_told o string k t s (a, e, f, d) =
          (subst (IsObject p.structs) d (all_get (IsStatic p) p.statics k a typed.statics e).object, s.statics k a e ∙ ap (λ t. Some (flat p.structs t)) d)

      variable_told : (o : Objects) (x : Bool) (k : ℕ) (t : CType) → IsTypedFrame p o fr → IsVariableOf p fr.types x k t → IsObject p.structs t × (o (name_in fr x k) ≡ Some (flat p.structs t))
      variable_told o true k t s h = static_told o false k t s h
      variable_told o false k t s h = (s.objects k t h, s.variables k t h)

      mutual
        pub value_ends : (wanted : Bool) (e : Expr) (o : Objects) (st : State) → IsTypedFrame p o fr → IsValue p fr.types e → StandsIn p (mentions e) → IsTypedState p o st → EndsTyped p {A = Value} (Gives p wanted (type_of e)) o st.entries (eval p w marks fr wanted e st)
        value_ends wanted (constant t v) o st s h m k = now p {A = Value} (Gives p wanted t) o v st (kind_given p o (wants wanted t) t v (of_constant p n typed o t v h)) k
        value_ends wanted (load t a) o st s h m k =
            one_ends (Place (type_of a)) t wanted o _ _ (λ st v. load_place st.memory v) (where_ends true a o st s h.2 m k) (λ o v st i k. load_place_right p n typed o t v st.memory h.0 (subst (λ t. IsPlaced p o t v) h.1 i) k.memory)
        value_ends wanted (address_of t a) o st s h m k =
            weaker p {A = Value} (Place (type_of a)) (Gives p wanted t) o _ _ (λ o v i. kind_given p o (wants wanted t) t v (subst (λ t. HasKind p o t v) (sym h.0) (address_is p n typed o (type_of a) v i))) (where_ends true a o st s h.1 m k)
        value_ends wanted (decay t a) o st s h m k =
            one_ends (Place (type_of a)) t wanted o _ _ (λ st v. decayed p.structs (type_of a) v) (where_ends true a o st s h.1 m k) (λ o v st i k. decayed_right p n typed o (type_of a) t v h.0 i)
        value_ends wanted (discard t a) o st s h m k =
            subst (λ t. EndsTyped p {A = Value} (Gives p wanted t) o st.entries (eval p w marks fr wanted (discard t a) st)) (sym h.0) (then_ends p {A = Value} {B = Value} (Gives p false (type_of a)) (Gives p wanted void) o _ _ _ (value_ends false a o st s h.1 m k) (λ o v st g i k. now p {A = Value} (Gives p wanted void) o Indeterminate st tt k))
        value_ends wanted (unary_operation t op a) o st s h m k =
            one_ends (Kind (type_of a)) t wanted o _ _ (λ st v. operated op st.memory v) (operand (type_of a) (type_of a) o _ _ refl (unary_scalar op t (type_of a) h.0) (value_ends true a o st s h.1 m k)) (λ o v st i k. operated_right p n typed o op t (type_of a) v st.memory h.0 i)
        value_ends wanted (conversion t to a) o st s h m k =
            one_ends (Kind (integer h.1.0)) t wanted o _ _ (λ st v. convert to v) (operand (type_of a) (integer h.1.0) o _ _ h.1.1 tt (value_ends true a o st s h.2 m k)) (λ o v st i k. subst (λ t. Right {A = Value} (Kind t o) (convert to v)) (sym h.0) (convert_right p n typed o h.1.0 to v i))
        value_ends wanted (arithmetic t op a b) o st s h m k =
            two_ends (type_of a) (type_of b) t wanted o _ _ (eval p w marks fr true b) (λ st x y. binary op x y) (operand (type_of a) (type_of a) o _ _ refl (subst IsScalar (sym h.0.3) tt) (value_ends true a o st s h.1 (left_part p (mentions a) (mentions b) m) k)) (λ o' st g k. operand (type_of b) (type_of b) o' _ _ refl (subst IsScalar (sym h.0.4) tt) (value_ends true b o' st (stands_on o o' fr g s) h.2 (right_part p (mentions a) (mentions b) m) k)) (λ o x y st i j k. binary_right p n typed o op t (type_of a) (type_of b) x y h.0 i j)
        value_ends wanted (comparison t op a b) o st s h m k =
            let c = comparable_scalar (kind_of op) (type_of a) h.0.comparable in
            two_ends (type_of a) (type_of b) t wanted o _ _ (eval p w marks fr true b) (λ st x y. comparing op st.memory x y) (operand (type_of a) (type_of a) o _ _ refl c (value_ends true a o st s h.1 (left_part p (mentions a) (mentions b) m) k)) (λ o' st g k. operand (type_of b) (type_of b) o' _ _ refl (subst IsScalar (sym h.0.alike) c) (value_ends true b o' st (stands_on o o' fr g s) h.2 (right_part p (mentions a) (mentions b) m) k)) (λ o x y st i j k. comparing_right p n typed o op t (type_of a) (type_of b) x y st.memory h.0 i j)
        value_ends wanted (pointer_add t first subtracted a b) o st s h m k =
            let c = added_scalar first subtracted t (type_of a) (type_of b) h.0 in
            two_ends (type_of a) (type_of b) t wanted o _ _ (eval p w marks fr true b) (λ st x y. moving first subtracted st.memory x y) (operand (type_of a) (type_of a) o _ _ refl c.0 (value_ends true a o st s h.1 (left_part p (mentions a) (mentions b) m) k)) (λ o' st g k. operand (type_of b) (type_of b) o' _ _ refl c.1 (value_ends true b o' st (stands_on o o' fr g s) h.2 (right_part p (mentions a) (mentions b) m) k)) (λ o x y st i j k. moving_right p n typed o first subtracted t (type_of a) (type_of b) x y st.memory h.0 i j)
        value_ends wanted (pointer_diff t a b) o st s h m k =
            let e = h.1.1 in
            two_ends (pointer h.1.0) (pointer h.1.0) t wanted o _ _ (eval p w marks fr true b) (λ st x y. difference st.memory x y) (operand (type_of a) (pointer h.1.0) o _ _ e tt (value_ends true a o st s h.3 (left_part p (mentions a) (mentions b) m) k)) (λ o' st g k. operand (type_of b) (pointer h.1.0) o' _ _ (h.2 ∙ e) tt (value_ends true b o' st (stands_on o o' fr g s) h.4 (right_part p (mentions a) (mentions b) m) k)) (λ o x y st i j k. subst (λ t. Right {A = Value} (Kind t o) (difference st.memory x y)) (sym h.0) (difference_right p n typed o h.1.0 x y st.memory h.1.2 k.few i j))
        value_ends wanted (and t a b) o st s h m k =
            subst (λ t. EndsTyped p {A = Value} (Gives p wanted t) o st.entries (eval p w marks fr wanted (and t a b) st)) (sym h.0) (given wanted int o _ _ (then_ends p {A = Bool} {B = Value} Holds (Kind int) o _ _ _ (tested_ends (type_of a) o _ _ (operand (type_of a) (type_of a) o _ _ refl h.1.0 (value_ends true a o st s h.1.1 (left_part p (mentions a) (mentions b) m) k))) (λ o' holds st g i k. either_ends p {A = Value} (Kind int) o' _ holds _ _ (then_ends p {A = Bool} {B = Value} Holds (Kind int) o' _ _ _ (tested_ends (type_of b) o' _ _ (operand (type_of b) (type_of b) o' _ _ refl h.2.0 (value_ends true b o' st (stands_on o o' fr g s) h.2.1 (right_part p (mentions a) (mentions b) m) k))) (λ o holds st g i k. now p {A = Value} (Kind int) o (truth_value holds) st (truth_kind p n typed o holds) k)) (now p {A = Value} (Kind int) o' (truth_value false) st (truth_kind p n typed o' false) k))))
        value_ends wanted (or t a b) o st s h m k =
            subst (λ t. EndsTyped p {A = Value} (Gives p wanted t) o st.entries (eval p w marks fr wanted (or t a b) st)) (sym h.0) (given wanted int o _ _ (then_ends p {A = Bool} {B = Value} Holds (Kind int) o _ _ _ (tested_ends (type_of a) o _ _ (operand (type_of a) (type_of a) o _ _ refl h.1.0 (value_ends true a o st s h.1.1 (left_part p (mentions a) (mentions b) m) k))) (λ o' holds st g i k. either_ends p {A = Value} (Kind int) o' _ holds _ _ (now p {A = Value} (Kind int) o' (truth_value true) st (truth_kind p n typed o' true) k) (then_ends p {A = Bool} {B = Value} Holds (Kind int) o' _ _ _ (tested_ends (type_of b) o' _ _ (operand (type_of b) (type_of b) o' _ _ refl h.2.0 (value_ends true b o' st (stands_on o o' fr g s) h.2.1 (right_part p (mentions a) (mentions b) m) k))) (λ o holds st g i k. now p {A = Value} (Kind int) o (truth_value holds) st (truth_kind p n typed o holds) k)))))
        value_ends wanted (assign t a b) o st s h m k =
            given wanted t o _ _ (then_ends p {A = Value} {B = Value} (Place (type_of a)) (Kind t) o _ _ _ (where_ends true a o st s h.3 (left_part p (mentions a) (mentions b) m) k) (λ o1 q st g i k. then_ends p {A = Value} {B = Value} (Kind t) (Kind t) o1 _ _ _ (operand (type_of b) t o1 _ _ h.2 h.0 (value_ends true b o1 st (stands_on o o1 fr g s) h.4 (right_part p (mentions a) (mentions b) m) k)) (λ o2 v st g' j k. remembered_ends p {A = Value} (Kind t) o2 (store_place st.memory q v) v st (store_place_right p n typed o2 t q v st.memory h.0 (carry_place p o1 o2 t q g' (subst (λ t. IsPlaced p o1 t q) h.1 i)) j k.memory) j k)))
        value_ends wanted (update t op old a b) o st s h m k =
            let scalar = update_scalar p n typed op t (type_of b) h.0 in
            given wanted t o _ _ (then_ends p {A = Value} {B = Value} (Place (type_of a)) (Kind t) o _ _ _ (where_ends true a o st s h.2 (left_part p (mentions a) (mentions b) m) k) (λ o1 q st g1 i k. let place = subst (λ t. IsPlaced p o1 t q) h.1 i in then_ends p {A = Value} {B = Value} (Kind t) (Kind t) o1 _ _ _ (answered_ends p {A = Value} (Kind t) o1 (load_place st.memory q) st (load_place_right p n typed o1 t q st.memory scalar place k.memory) k) (λ o2 before st g2 j k. then_ends p {A = Value} {B = Value} (Kind (type_of b)) (Kind t) o2 _ _ _ (operand (type_of b) (type_of b) o2 _ _ refl (update_right_scalar p n typed op t (type_of b) h.0) (value_ends true b o2 st (stands_on o o2 fr (grows_on o o1 o2 g1 g2) s) h.3 (right_part p (mentions a) (mentions b) m) k)) (λ o3 v st g3 l k. then_ends p {A = Value} {B = Value} (Kind t) (Kind t) o3 _ _ _ (answered_ends p {A = Value} (Kind t) o3 (updated op t (type_of b) st.memory before v) st (updated_right p n typed o3 op t (type_of b) before v st.memory h.0 (carry p o2 o3 t before g3 j) l) k) (λ o4 new st g4 x k. remembered_ends p {A = Value} (Kind t) o4 (store_place st.memory q new) (either old before new) st (store_place_right p n typed o4 t q new st.memory scalar (carry_place p o1 o4 t q (grows_on o1 o2 o4 g2 (grows_on o2 o3 o4 g3 g4)) place) x k.memory) (either_kind t old before new o4 (carry p o2 o4 t before (grows_on o2 o3 o4 g3 g4) j) x) k)))))
        value_ends wanted (conditional t c a b) o st s h m k =
            let after_test = right_part p (mentions c) (mentions a ++ mentions b) m in
            weaker p {A = Value} (Gives p true t) (Gives p wanted t) o _ _ (λ o v g. any_given wanted t o v g) (then_ends p {A = Bool} {B = Value} Holds (Gives p true t) o _ _ _ (tested_ends (type_of c) o _ _ (operand (type_of c) (type_of c) o _ _ refl h.0.0 (value_ends true c o st s h.0.1 (left_part p (mentions c) (mentions a ++ mentions b) m) k))) (λ o' holds st g i k. either_ends p {A = Value} (Gives p true t) o' _ holds _ _ (subst (λ t. EndsTyped p {A = Value} (Gives p true t) o' st.entries (eval p w marks fr true a st)) h.1 (value_ends true a o' st (stands_on o o' fr g s) h.3 (left_part p (mentions a) (mentions b) after_test) k)) (subst (λ t. EndsTyped p {A = Value} (Gives p true t) o' st.entries (eval p w marks fr true b st)) h.2 (value_ends true b o' st (stands_on o o' fr g s) h.4 (right_part p (mentions a) (mentions b) after_test) k))))
        value_ends wanted (comma t es) o st s h m k = each_ends wanted t es o st s h m k
        value_ends wanted (call t site f es) o st s h m k =
            then_ends p {A = List Value} {B = Value} (GiveAll p (list_of h.0)) (Gives p wanted t) o _ _ _ (all_end h.0 es o st s h.2 (right_part p (Calls site (Direct f) ∷ []) (mentions_of_all es) m) k) (λ o' vs st g z k. instrumented_ends (Gives p wanted t) site o' _ (called p w (wants wanted t) f vs st) (called_ends wanted f t h.0 vs o' st h.1 (statics_on o o' g s.statics) (arguments_kind t t h.0 f o' vs h.1 z) k))
        value_ends wanted (call_through t site a es) o st s h m k =
            let rest = right_part p (mentions a) (Calls site (Through (type_of a)) ∷ mentions_of_all es) m in
            then_ends p {A = Value} {B = Value} (Kind (pointer (function t h.0))) (Gives p wanted t) o _ _ _ (operand (type_of a) (pointer (function t h.0)) o _ _ h.1 tt (value_ends true a o st s h.2 (left_part p (mentions a) (Calls site (Through (type_of a)) ∷ mentions_of_all es) m) k)) (λ o1 v st g1 i k. then_ends p {A = List Value} {B = Value} (GiveAll p (list_of h.0)) (Gives p wanted t) o1 _ _ _ (all_end h.0 es o1 st (stands_on o o1 fr g1 s) h.3 (right_part p (Calls site (Through (type_of a)) ∷ []) (mentions_of_all es) rest) k) (λ o2 vs st g2 z k. instrumented_ends (Gives p wanted t) site o2 _ _ (callee_ends wanted t h.0 v vs o2 st (carry p o1 o2 (pointer (function t h.0)) v g2 i) (statics_on o o2 (grows_on o o1 o2 g1 g2) s.statics) z k)))
        value_ends wanted _ o st s h m k = absurd h

        pub where_ends : (wanted : Bool) (e : Expr) (o : Objects) (st : State) → IsTypedFrame p o fr → IsPlace p fr.types e → StandsIn p (mentions e) → IsTypedState p o st → EndsTyped p {A = Value} (Place (type_of e)) o st.entries (eval p w marks fr wanted e st)
        where_ends wanted (function_name t f) o st s h m k =
            let parts = function_parts t (value_takes p n typed f t h) in
            now p {A = Value} (Place t) o (Func f) st (parts.0, parts.1, parts.2, h, taken_there p f m) k
        where_ends wanted (string_place t x) o st s h m k =
            let told = static_told o true x t s h in place_told o t true x st told.0 told.1 k
        where_ends wanted (variable t b x) o st s h m k =
            let told = variable_told o b x t s h in place_told o t b x st told.0 told.1 k
        where_ends wanted (dereference t a) o st s h m k =
            place_ends (Kind (pointer t)) t o _ _ (λ st v. behind_of t st.memory v) (operand (type_of a) (pointer t) o _ _ h.1 tt (value_ends true a o st s h.2 m k)) (λ o v st i k. behind_of_right p n typed o t v st.memory h.0 i)
        where_ends wanted (field t first a) o st s h m k =
            place_ends (Place (type_of a)) t o _ _ (λ st v. member first (cells p.structs t) v) (where_ends true a o st s h.1 m k) (λ o v st i k. field_right p n typed o (type_of a) t first v h.0 i)
        where_ends wanted _ o st s h m k = absurd h

        pub each_ends : (wanted : Bool) (t : CType) (es : Exprs) (o : Objects) (st : State) → IsTypedFrame p o fr → AreMembers p fr.types t es → StandsIn p (mentions_of_all es) → IsTypedState p o st → EndsTyped p {A = Value} (Gives p wanted t) o st.entries (eval_each p w marks fr wanted es st)
        each_ends wanted t no_exprs o st s h m k = absurd h
        each_ends wanted t (more_exprs e no_exprs) o st s h m k =
            subst (λ t. EndsTyped p {A = Value} (Gives p wanted t) o st.entries (eval p w marks fr wanted e st)) h.1 (value_ends wanted e o st s h.0 (left_part p (mentions e) [] m) k)
        each_ends wanted t (more_exprs e (more_exprs f es)) o st s h m k =
            then_ends p {A = Value} {B = Value} (Gives p false (type_of e)) (Gives p wanted t) o _ _ _ (value_ends false e o st s h.0 (left_part p (mentions e) (mentions_of_all (more_exprs f es)) m) k) (λ o' v st g i k. each_ends wanted t (more_exprs f es) o' st (stands_on o o' fr g s) h.1 (right_part p (mentions e) (mentions_of_all (more_exprs f es)) m) k)

        pub all_end : (ts : CTypes) (es : Exprs) (o : Objects) (st : State) → IsTypedFrame p o fr → AreArguments p fr.types ts es → StandsIn p (mentions_of_all es) → IsTypedState p o st → EndsTyped p {A = List Value} (GiveAll p (list_of ts)) o st.entries (eval_all p w marks fr es st)
        all_end no_types no_exprs o st s h m k = now p {A = List Value} (GiveAll p []) o [] st tt k
        all_end (more_types t ts) (more_exprs e es) o st s h m k =
            then_ends p {A = Value} {B = List Value} (Gives p true (type_of e)) (GiveAll p (t ∷ list_of ts)) o _ _ _ (value_ends true e o st s h.1 (left_part p (mentions e) (mentions_of_all es) m) k) (λ o1 v st g i k. then_ends p {A = List Value} {B = List Value} (GiveAll p (list_of ts)) (GiveAll p (t ∷ list_of ts)) o1 _ _ _ (all_end ts es o1 st (stands_on o o1 fr g s) h.2 (right_part p (mentions e) (mentions_of_all es) m) k) (λ o2 vs st g' z k. now p {A = List Value} (GiveAll p (t ∷ list_of ts)) o2 (v ∷ vs) st (carry_given p o1 o2 (wants true t) t v g' (subst (λ t. Gives p true t o1 v) h.0 i), z) k))
        all_end ts es o st s h m k = absurd h

      -- where a scalar is tested
      pub condition_tested : (e : Expr) (o : Objects) (st : State) → IsTypedFrame p o fr → IsCondition p fr.types e → StandsIn p (mentions e) → IsTypedState p o st → EndsTyped p {A = Bool} Holds o st.entries (tested (eval p w marks fr true e st))
      condition_tested e o st s h m k = tested_ends (type_of e) o _ _ (operand (type_of e) (type_of e) o _ _ refl h.0 (value_ends true e o st s h.1 m k))

      pub condition_ends : (e : Maybe) (o : Objects) (st : State) → IsTypedFrame p o fr → IsTest p fr.types e → StandsIn p (mentions_of_maybe e) → IsTypedState p o st → EndsTyped p {A = Bool} Holds o st.entries (condition p w marks fr e st)
      condition_ends absent o st s h m k = now p {A = Bool} Holds o true st tt k
      condition_ends (there e) o st s h m k = condition_tested e o st s h m k

      pub perhaps_ends : (r : CType) (e : Maybe) (o : Objects) (st : State) → IsTypedFrame p o fr → IsStep p fr.types e → StandsIn p (mentions_of_maybe e) → IsTypedState p o st → EndsTyped p {A = Exit} (IsExit p r false false) o st.entries (perhaps p w marks fr e st)
      perhaps_ends r absent o st s h m k = now p {A = Exit} (IsExit p r false false) o on st tt k
      perhaps_ends r (there e) o st s h m k =
          then_ends p {A = Value} {B = Exit} (Gives p false (type_of e)) (IsExit p r false false) o _ _ _ (value_ends false e o st s h m k) (λ o' v st g i k. now p {A = Exit} (IsExit p r false false) o' on st tt k)

      -- the cell of a variable, as a place
      cell_pointer : (o : Objects) (x cell : ℕ) (t u : CType) → IsTypedFrame p o fr → slice_get fr.types x ≡ Some t → slice_get (flat p.structs t) cell ≡ Some u → IsScalar u → IsPointer p.structs o u (record { name = name_in fr false x; first = cell; width = 1; elements = 1; index = 0 })
      cell_pointer o x cell t u s e c b = record {
        object = scalar_object p.structs u b;
        all = flat p.structs t;
        known = s.variables x t e;
        within = omega arith;
        wide = sym (ap length (flat_one p.structs u b));
        lies = lies_once (flat p.structs t) (flat p.structs u) cell (subst (λ us. Lies (flat p.structs t) cell us) (sym (flat_one p.structs u b)) first_is);
      }
        where
          first_is : Lies (flat p.structs t) cell (u ∷ [])
          first_is zero z g =
              let same : u ≡ z = cc in
              at_place (flat p.structs t) z cell (cell + 0) (omega arith) (c ∙ ap (λ t. Some t) same)
          first_is (suc k) z g = absurd (cc)

      -- a cell of a variable gets a value of its type
      pub cell_ends : (o : Objects) (x cell : ℕ) (t u : CType) (v : Value) (st : State) → IsTypedFrame p o fr → slice_get fr.types x ≡ Some t → slice_get (flat p.structs t) cell ≡ Some u → HasKind p o u v → IsTypedState p o st → EndsTyped p {A = Value} (Kind u) o st.entries (remembered (store_place st.memory (place (name_in fr false x) cell 1) v) v st)
      cell_ends o x cell t u v st s e c h k =
          let b = flat_scalar p.structs t cell u c in
          remembered_ends p {A = Value} (Kind u) o (store_place st.memory (place (name_in fr false x) cell 1) v) v st (store_right p n typed o u (record { name = name_in fr false x; first = cell; width = 1; elements = 1; index = 0 }) v st.memory b (cell_pointer o x cell t u s e c b) h k.memory) h k

      pub inits_end : (r t : CType) (x : ℕ) (is : Inits) (o : Objects) (st : State) → IsTypedFrame p o fr → slice_get fr.types x ≡ Some t → AreInits p fr.types (flat p.structs t) is → StandsIn p (mentions_of_inits is) → IsTypedState p o st → EndsTyped p {A = Exit} (IsExit p r false false) o st.entries (initialise p w marks fr x is st)
      inits_end r t x no_inits o st s e h m k = now p {A = Exit} (IsExit p r false false) o on st tt k
      inits_end r t x (more_inits cell a is) o st s e h m k =
          let b = flat_scalar p.structs t cell (type_of a) h.0 in
          then_ends p {A = Value} {B = Exit} (Kind (type_of a)) (IsExit p r false false) o _ _ _ (operand (type_of a) (type_of a) o _ _ refl b (value_ends true a o st s h.1 (left_part p (mentions a) (mentions_of_inits is) m) k)) (λ o1 v st g1 i k. then_ends p {A = Value} {B = Exit} (Kind (type_of a)) (IsExit p r false false) o1 _ _ _ (cell_ends o1 x cell t (type_of a) v st (stands_on o o1 fr g1 s) e h.0 i k) (λ o2 v st g2 i k. inits_end r t x is o2 st (stands_on o o2 fr (grows_on o o1 o2 g1 g2) s) e h.2 (right_part p (mentions a) (mentions_of_inits is) m) k))

      pub fresh_ends : (r t : CType) (x : ℕ) (o : Objects) (st : State) → IsTypedFrame p o fr → slice_get fr.types x ≡ Some t → IsTypedState p o st → EndsTyped p {A = Exit} (IsExit p r false false) o st.entries (fresh p.structs fr x (slice_get fr.types x) st)
      fresh_ends r t x o st s e k =
          subst (λ c. EndsTyped p {A = Exit} (IsExit p r false false) o st.entries (fresh p.structs fr x c st)) (sym e) (now p {A = Exit} (IsExit p r false false) o on (with_memory st (declared st.memory (name_in fr false x) (cells p.structs t))) tt (record { memory = memory_changed p o st.memory (name_in fr false x) (flat p.structs t) (record { cells = replicate (cells p.structs t) Indeterminate; string = false }) k.memory (s.variables x t e) (blank p o (flat p.structs t)); few = k.few; later = k.later }))

      -- the declaration of a variable
      pub declare_ends : (r : CType) (x : ℕ) (is : Inits) (o : Objects) (st : State) → IsTypedFrame p o fr → IsDeclare p fr.types x is → StandsIn p (mentions_of_inits is) → IsTypedState p o st → EndsTyped p {A = Exit} (IsExit p r false false) o st.entries (exec p w marks fr (declare x is) st)
      declare_ends r x is o st s h m k =
          then_ends p {A = Exit} {B = Exit} (IsExit p r false false) (IsExit p r false false) o _ _ _ (fresh_ends r h.0 x o st s h.1 k) (λ o' y st g i k. inits_end r h.0 x is o' st (stands_on o o' fr g s) h.1 h.2 m k)

      pub without_typed : (o : Objects) (activation : ℕ) (xs : List ℕ) (m : Memory) → IsTypedMemory p o m → IsTypedMemory p o (without activation xs m)
      without_typed o activation [] m k = k
      without_typed o activation (x ∷ xs) m k = without_typed o activation xs _ (memory_ended p o m (record { activation = activation; variable = x }) k)

      pub leaving_ends : (r : CType) (breaks continues : Bool) (xs : List ℕ) (o : Objects) (start : ℕ) (q : Result Exit) → EndsTyped p {A = Exit} (IsExit p r breaks continues) o start q → EndsTyped p {A = Exit} (IsExit p r breaks continues) o start (leaving fr xs q)
      leaving_ends r breaks continues xs o start q h =
          then_ends p {A = Exit} {B = Exit} (IsExit p r breaks continues) (IsExit p r breaks continues) o _ q _ h (λ o x st g i k. now p {A = Exit} (IsExit p r breaks continues) o x (with_memory st (without fr.activation xs st.memory)) i (record { memory = without_typed o fr.activation xs st.memory k.memory; few = k.few; later = k.later }))

      pub loosened : (r : CType) (breaks continues : Bool) (o : Objects) (start : ℕ) (q : Result Exit) → EndsTyped p {A = Exit} (IsExit p r false false) o start q → EndsTyped p {A = Exit} (IsExit p r breaks continues) o start q
      loosened r breaks continues o start q h = weaker p {A = Exit} (IsExit p r false false) (IsExit p r breaks continues) o _ q (λ o x i. looser p r breaks continues o x i) h

      pub out_is : (r : CType) (breaks continues : Bool) (o : Objects) (x : Exit) → IsExit p r true continues o x → IsExit p r breaks continues o (out_of_switch x)
      out_is r breaks continues o continued h = h
      out_is r breaks continues o (returned (Some v)) h = h
      out_is r breaks continues o x h = tt

      mutual
        pub exec_ends : (r : CType) (breaks continues : Bool) (a : Stmt) (o : Objects) (st : State) → IsTypedFrame p o fr → IsStmt p fr.types r breaks continues a → StandsIn p (mentions_of_stmt a) → IsTypedState p o st → EndsTyped p {A = Exit} (IsExit p r breaks continues) o st.entries (exec p w marks fr a st)
        exec_ends r breaks continues (block ss) o st s h m k =
            leaving_ends r breaks continues (declared_in ss) o _ _ (stmts_end r breaks continues ss o st s h m k)
        exec_ends r breaks continues empty o st s h m k = now p {A = Exit} (IsExit p r breaks continues) o on st tt k
        exec_ends r breaks continues (evaluate e) o st s h m k =
            then_ends p {A = Value} {B = Exit} (Gives p false (type_of e)) (IsExit p r breaks continues) o _ _ _ (value_ends false e o st s h m k) (λ o' v st g i k. now p {A = Exit} (IsExit p r breaks continues) o' on st tt k)
        exec_ends r breaks continues (declare x is) o st s h m k = loosened r breaks continues o _ _ (declare_ends r x is o st s h m k)
        exec_ends r breaks continues (if_else e a b) o st s h m k =
            let after_test = right_part p (mentions e) (mentions_of_stmt a ++ mentions_of_stmt b) m in
            then_ends p {A = Bool} {B = Exit} Holds (IsExit p r breaks continues) o _ _ _ (condition_tested e o st s h.0 (left_part p (mentions e) (mentions_of_stmt a ++ mentions_of_stmt b) m) k) (λ o' holds st g i k. either_ends p {A = Exit} (IsExit p r breaks continues) o' _ holds _ _ (exec_ends r breaks continues a o' st (stands_on o o' fr g s) h.1 (left_part p (mentions_of_stmt a) (mentions_of_stmt b) after_test) k) (exec_ends r breaks continues b o' st (stands_on o o' fr g s) h.2 (right_part p (mentions_of_stmt a) (mentions_of_stmt b) after_test) k))
        exec_ends r breaks continues (while_loop e a) o st s h m k =
            loosened r breaks continues o _ _ (goes.again fr r (record { test = there e; body = a; step = absent }) o st s h.0 h.1 tt (record { test = left_part p (mentions e) (mentions_of_stmt a) m; body = right_part p (mentions e) (mentions_of_stmt a) m; step = stands_empty p }) k)
        exec_ends r breaks continues (do_loop a e) o st s h m k =
            loosened r breaks continues o _ _ (then_ends p {A = Exit} {B = Exit} (IsExit p r true true) (IsExit p r false false) o _ _ _ (exec_ends r true true a o st s h.0 (left_part p (mentions_of_stmt a) (mentions e) m) k) (λ o' x st g i k. round_ends p r o' x st (w.again fr (record { test = there e; body = a; step = absent })) i k (goes.again fr r (record { test = there e; body = a; step = absent }) o' st (stands_on o o' fr g s) h.1 h.0 tt (record { test = right_part p (mentions_of_stmt a) (mentions e) m; body = left_part p (mentions_of_stmt a) (mentions e) m; step = stands_empty p }) k)))
        exec_ends r breaks continues (for_loop first test step a) o st s h m k =
            let later = right_part p (mentions_of_stmts first) (mentions_of_maybe test ++ (mentions_of_maybe step ++ mentions_of_stmt a)) m in
            let last = right_part p (mentions_of_maybe test) (mentions_of_maybe step ++ mentions_of_stmt a) later in
            loosened r breaks continues o _ _ (leaving_ends r false false (declared_in first) o _ _ (then_ends p {A = Exit} {B = Exit} (IsExit p r false false) (IsExit p r false false) o _ _ _ (stmts_end r false false first o st s (first_are p fr.types r first h.0) (left_part p (mentions_of_stmts first) (mentions_of_maybe test ++ (mentions_of_maybe step ++ mentions_of_stmt a)) m) k) (λ o' x st g i k. exit_ends p r false false o' x st (w.again fr (record { test = test; body = a; step = step })) i k (goes.again fr r (record { test = test; body = a; step = step }) o' st (stands_on o o' fr g s) h.1 h.3 h.2 (record { test = left_part p (mentions_of_maybe test) (mentions_of_maybe step ++ mentions_of_stmt a) later; body = right_part p (mentions_of_maybe step) (mentions_of_stmt a) last; step = left_part p (mentions_of_maybe step) (mentions_of_stmt a) last }) k))))
        exec_ends r breaks continues (switch_on e gs) o st s h m k =
            then_ends p {A = Value} {B = Exit} (Gives p true (type_of e)) (IsExit p r breaks continues) o _ _ _ (value_ends true e o st s h.3 (left_part p (mentions e) (mentions_of_groups gs) m) k) (λ o1 v st g1 i k. then_ends p {A = Exit} {B = Exit} (IsExit p r true continues) (IsExit p r breaks continues) o1 _ _ _ (groups_end r continues h.0 (selected v gs) gs o1 st (stands_on o o1 fr g1 s) h.5 (right_part p (mentions e) (mentions_of_groups gs) m) k) (λ o2 x st g2 i k. now p {A = Exit} (IsExit p r breaks continues) o2 (out_of_switch x) st (out_is r breaks continues o2 x i) k))
        exec_ends r breaks continues break_off o st s h m k = now p {A = Exit} (IsExit p r breaks continues) o broken st h k
        exec_ends r breaks continues continue_on o st s h m k = now p {A = Exit} (IsExit p r breaks continues) o continued st h k
        exec_ends r breaks continues return_void o st s h m k = now p {A = Exit} (IsExit p r breaks continues) o (returned None) st tt k
        exec_ends r breaks continues (return_value e) o st s h m k =
            then_ends p {A = Value} {B = Exit} (Kind r) (IsExit p r breaks continues) o _ _ _ (operand (type_of e) r o _ _ h.1 h.0 (value_ends true e o st s h.2 m k)) (λ o' v st g i k. now p {A = Exit} (IsExit p r breaks continues) o' (returned (Some v)) st i k)

        pub stmts_end : (r : CType) (breaks continues : Bool) (ss : Stmts) (o : Objects) (st : State) → IsTypedFrame p o fr → AreStmts p fr.types r breaks continues ss → StandsIn p (mentions_of_stmts ss) → IsTypedState p o st → EndsTyped p {A = Exit} (IsExit p r breaks continues) o st.entries (exec_all p w marks fr ss st)
        stmts_end r breaks continues no_stmts o st s h m k = now p {A = Exit} (IsExit p r breaks continues) o on st tt k
        stmts_end r breaks continues (more_stmts a ss) o st s h m k =
            then_ends p {A = Exit} {B = Exit} (IsExit p r breaks continues) (IsExit p r breaks continues) o _ _ _ (exec_ends r breaks continues a o st s h.0 (left_part p (mentions_of_stmt a) (mentions_of_stmts ss) m) k) (λ o' x st g i k. exit_ends p r breaks continues o' x st (exec_all p w marks fr ss) i k (stmts_end r breaks continues ss o' st (stands_on o o' fr g s) h.1 (right_part p (mentions_of_stmt a) (mentions_of_stmts ss) m) k))

        pub groups_end : (r : CType) (continues : Bool) (i : IntType) (j : ℕ) (gs : Groups) (o : Objects) (st : State) → IsTypedFrame p o fr → AreGroups p fr.types r continues i gs → StandsIn p (mentions_of_groups gs) → IsTypedState p o st → EndsTyped p {A = Exit} (IsExit p r true continues) o st.entries (exec_from p w marks fr j gs st)
        groups_end r continues i j no_groups o st s h m k = now p {A = Exit} (IsExit p r true continues) o on st tt k
        groups_end r continues i zero (more_groups ls ss gs) o st s h m k =
            then_ends p {A = Exit} {B = Exit} (IsExit p r true continues) (IsExit p r true continues) o _ _ _ (stmts_end r true continues ss o st s h.1 (left_part p (mentions_of_stmts ss) (mentions_of_groups gs) m) k) (λ o' x st g e k. exit_ends p r true continues o' x st (exec_from p w marks fr zero gs) e k (groups_end r continues i zero gs o' st (stands_on o o' fr g s) h.2 (right_part p (mentions_of_stmts ss) (mentions_of_groups gs) m) k))
        groups_end r continues i (suc j) (more_groups ls ss gs) o st s h m k = groups_end r continues i j gs o st s h.2 (right_part p (mentions_of_stmts ss) (mentions_of_groups gs) m) k

      -- what stands first in the head of a for
      pub first_ends : (r : CType) (ss : Stmts) (o : Objects) (st : State) → IsTypedFrame p o fr → AreFirst p fr.types ss → StandsIn p (mentions_of_stmts ss) → IsTypedState p o st → EndsTyped p {A = Exit} (IsExit p r false false) o st.entries (exec_all p w marks fr ss st)
      first_ends r ss o st s h m k = stmts_end r false false ss o st s (first_are p fr.types r ss h) m k
