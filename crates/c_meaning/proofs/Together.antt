-- What does alike after each way of putting parts of a program together.
use Rattle.std.proofs.Common.{◌≡◌, ℕ, zero, suc, ◌+◌, ◌≤◌, nat_lt, nat_le, nat_eq, if◌then◌else◌, Bool, true, false, ℤ, List, [], ◌∷◌, Option, Some, None, slice_get, sym, ap, ◌∙◌, subst, refl, arith}
use Rattle.dm_base.specs.declared.event.Event.{Event}
use Rattle.dm_base.specs.declared.event.Event.TheVariants.{Pre, Post, Sys}
use Rattle.c_meaning.specs.SysResult.{SysResult}
use Rattle.c_meaning.specs.Table.{result_of}
use Rattle.dm_base.specs.declared.event.Arg.{Arg}
use Rattle.dm_base.specs.declared.event.Arg.TheVariants as args
use Rattle.c_tree.specs.declared.value.ObjectName.{ObjectName}
use Rattle.c_tree.specs.declared.value.Pointer.{Pointer}
use Rattle.c_tree.specs.declared.value.Value.{Value}
use Rattle.c_tree.specs.declared.value.Value.TheVariants.{Indeterminate, Uint, Char, At}
use Rattle.c_tree.specs.Tree.{CType, Program}
use Rattle.c_tree.specs.Kinds.{Objects}
use Rattle.c_tree.specs.Operators.{Answer, gives, undefined, and_then}
use Rattle.c_meaning.specs.Memory.{Object, same_name, changed, there, element, writable, set_cell, store}
use Rattle.c_meaning.specs.Memory.{Objects as Memory}
use Rattle.c_meaning.proofs.StoreLemmas.{same_is}
use Rattle.c_meaning.specs.Meaning.{Marks, either, with_marks, null_call, call_undefined, system_call_alone}
use Rattle.c_meaning.specs.Pointers.{number, store_place}
use Rattle.c_meaning.specs.Results.{State, with_memory, Result, Go, Stop, after, then_do, spend_at, answered, remembered, Exit, on, broken, returned, on_exit, on_round}
use Rattle.c_meaning.specs.SystemCalls.{char_of, room_for, bytes_of_buffer, size, Request, arguments, request, does_answer, result_value, next, filled, filled_where, with_records, take_record, exit_call, exit_with, system_call}
use Rattle.c_meaning.specs.StoreTyping.{HasKind, IsGiven, IsPlaced, IsTypedState, Grows, TellsAlike}
use Rattle.c_meaning.specs.TypedResults.{EndsTyped}
use Rattle.c_meaning.specs.FurtherObjects.{IsHidden, IsBeside, Stay, DoesAlike}
use Rattle.c_meaning.proofs.FurtherSteps.{Sees, AllSee, request_same}
pub use Rattle.c_meaning.proofs.Ends.{alike_on}

-- what holds of what an answer gives
abbrev pub Whenever : {A : Type 0} → (A → Type 0) → Answer A → Type 0
Whenever ok (gives a) = ok a
Whenever ok (undefined kind) = Unit {0}

pub whenever_then : {A B : Type 0} (okA : A → Type 0) (okB : B → Type 0) (r : Answer A) (f : A → Answer B) → Whenever okA r → ((a : A) → okA a → Whenever {A = B} okB (f a)) → Whenever {A = B} okB (and_then r f)
whenever_then okA okB (gives a) f h k = k a h
whenever_then okA okB (undefined kind) f h k = tt

pub any_whenever : {A : Type 0} (r : Answer A) → Whenever {A = A} (λ a. Unit {0}) r
any_whenever (gives a) = tt
any_whenever (undefined kind) = tt

module _ (known : Objects) (last : ℕ) where
  abbrev pub Hidden : ObjectName → Type 0
  Hidden x = IsHidden known last x

  abbrev pub TypedAlike : Memory → Memory → Type 0
  TypedAlike m l = IsBeside known last m l

  abbrev pub Does : {A : Type 0} → Memory → Result A → Result A → Type 0
  Does {A} more r q = DoesAlike {A = A} known last more r q

  -- a pointer leads to no hidden name
  abbrev pub Shown : Value → Type 0
  Shown (At q) = Hidden q.name → ⊥
  Shown v = Unit {0}

  abbrev pub AllShown : List Value → Type 0
  AllShown [] = Unit {0}
  AllShown (v ∷ vs) = Shown v × AllShown vs

  pub sees : (m l : Memory) (v : Value) → TypedAlike m l → Shown v → Sees m l v
  sees m l (At q) b h = b q.name h
  sees m l v b h = tt

  pub all_see : (m l : Memory) (vs : List Value) → TypedAlike m l → AllShown vs → AllSee m l vs
  all_see m l [] b h = tt
  all_see m l (v ∷ vs) b h = (sees m l v b h.0, all_see m l vs b h.1)

  -- ## Memory

  -- a step leaves memories that are beside each other
  abbrev pub Remembers : Memory → Answer Memory → Answer Memory → Type 0
  Remembers more (gives m) q = (l : Memory) × (q ≡ gives l) × TypedAlike m l × Stay known last more l
  Remembers more (undefined kind) q = q ≡ undefined kind

  pub beside_changed : (m l : Memory) (x : ObjectName) (ob : Option Object) → TypedAlike m l → TypedAlike (changed m x ob) (changed l x ob)
  beside_changed m l x ob b y h = ap (λ c. if same_name x y then ob else c) (b y h)

  pub stay_changed : (l : Memory) (x : ObjectName) (ob : Option Object) → (Hidden x → ⊥) → Stay known last l (changed l x ob)
  stay_changed l x ob h y k = at (same_name x y) refl
    where
      at : (b : Bool) → same_name x y ≡ b → (if b then ob else l y) ≡ l y
      at true s = absurd (h (subst Hidden (sym (same_is x y s)) k))
      at false s = refl

  remembers_each : {A : Type 0} (l : Memory) (r : Answer A) (f g : A → Answer Memory) → ((a : A) → Remembers l (f a) (g a)) → Remembers l (and_then r f) (and_then r g)
  remembers_each l (gives a) f g h = h a
  remembers_each l (undefined kind) f g h = refl

  store_remembers : (m l : Memory) (q : Pointer) (v : Value) → (Hidden q.name → ⊥) → TypedAlike m l → Remembers l (store m q 0 v) (store l q 0 v)
  store_remembers m l q v h b =
      subst (λ c. Remembers l (store m q 0 v) (and_then (there c) (λ o. and_then (element q) (λ first. and_then (writable o) (λ cells. and_then (set_cell cells (first + 0) v (slice_get cells (first + 0))) (λ new. gives (changed l q.name (Some new)))))))) (sym (b q.name h)) (remembers_each {A = Object} l (there (m q.name)) _ _ (λ o. remembers_each {A = ℕ} l (element q) _ _ (λ first. remembers_each {A = List Value} l (writable o) _ _ (λ cells. remembers_each {A = Object} l (set_cell cells (first + 0) v (slice_get cells (first + 0))) _ _ (λ new. (changed l q.name (Some new), refl, beside_changed m l q.name (Some new) b, stay_changed l q.name (Some new) h))))))

  pub store_place_remembers : (m l : Memory) (a v : Value) → Shown a → TypedAlike m l → Remembers l (store_place m a v) (store_place l a v)
  store_place_remembers m l (At q) v h b = store_remembers m l q v h b
  store_place_remembers m l a v h b = refl

  remembers_then : (more : Memory) (r q : Answer Memory) (f g : Memory → Answer Memory) → Remembers more r q → ((m l : Memory) → TypedAlike m l → Remembers l (f m) (g l)) → Remembers more (and_then r f) (and_then q g)
  remembers_then more (gives m) q f g h k =
      subst (λ q. Remembers more (f m) (and_then q g)) (sym h.1) (at (f m) (g h.0) (k m h.0 h.2))
    where
      at : (r q : Answer Memory) → Remembers h.0 r q → Remembers more r q
      at (gives m) q i = (i.0, i.1, i.2, λ x hid. i.3 x hid ∙ h.3 x hid)
      at (undefined kind) q i = i
  remembers_then more (undefined kind) q f g h k = ap (λ q. and_then q g) h

  filled_remembers : (m l : Memory) (q : Pointer) (bytes : List ℕ) → (Hidden q.name → ⊥) → TypedAlike m l → Remembers l (filled q bytes m) (filled q bytes l)
  filled_remembers m l q [] h b = (l, refl, b, λ x hid. refl)
  filled_remembers m l q (c ∷ bytes) h b =
      remembers_then l _ _ _ _ (store_remembers m l q (Char (char_of c)) h b) (λ m l b. filled_remembers m l (next q) bytes h b)

  -- ## Results

  pub here : {A : Type 0} (a : A) (st : State) (more : Memory) (w : List Event) → TypedAlike st.memory more → Does {A = A} more (Go a st w) (Go a (with_memory st more) w)
  here a st more w b = (more, refl, b, λ x hid. refl)

  pub after_does : {A : Type 0} (more : Memory) (w : List Event) (r q : Result A) → Does {A = A} more r q → Does {A = A} more (after w r) (after w q)
  after_does more w (Go a st u) q h = (h.0, ap (after w) h.1, h.2, h.3)
  after_does more w (Stop e u) q h = ap (after w) h

  pub later_does : {A : Type 0} (more l : Memory) (r q : Result A) → Stay known last more l → Does {A = A} l r q → Does {A = A} more r q
  later_does more l (Go a st u) q s h = (h.0, h.1, h.2, λ x hid. h.3 x hid ∙ s x hid)
  later_does more l (Stop e u) q s h = h

  pub answered_does : {A : Type 0} (r q : Answer A) (st : State) (more : Memory) → q ≡ r → TypedAlike st.memory more → Does {A = A} more (answered r st) (answered q (with_memory st more))
  answered_does {A} r q st more e b = subst (λ q. Does {A = A} more (answered r st) (answered q (with_memory st more))) (sym e) (at r)
    where
      at : (r : Answer A) → Does {A = A} more (answered r st) (answered r (with_memory st more))
      at (gives a) = here {A = A} a st more [] b
      at (undefined kind) = refl

  pub remembered_does : {A : Type 0} (r q : Answer Memory) (a : A) (st : State) (more : Memory) → Remembers more r q → Does {A = A} more (remembered r a st) (remembered q a (with_memory st more))
  remembered_does (gives m) q a st more h = (h.0, ap (λ q. remembered q a (with_memory st more)) h.1, h.2, h.3)
  remembered_does (undefined kind) q a st more h = ap (λ q. remembered q a (with_memory st more)) h

  pub answered_then : {A B : Type 0} (ok : A → Type 0) (r q : Answer A) (st : State) (more : Memory) (f g : A → State → Result B) → q ≡ r → Whenever ok r → ((a : A) → ok a → Does {A = B} more (f a st) (g a (with_memory st more))) → Does {A = B} more (then_do (answered r st) f) (then_do (answered q (with_memory st more)) g)
  answered_then {A} {B} ok r q st more f g e h k = subst (λ q. Does {A = B} more (then_do (answered r st) f) (then_do (answered q (with_memory st more)) g)) (sym e) (at r h)
    where
      at : (r : Answer A) → Whenever {A = A} ok r → Does {A = B} more (then_do (answered r st) f) (then_do (answered r (with_memory st more)) g)
      at (gives a) h = after_does {A = B} more [] (f a st) (g a (with_memory st more)) (k a h)
      at (undefined kind) h = refl

  pub spend_does : {A : Type 0} (n : ℕ) (st : State) (more : Memory) (f g : State → Result A) → ((st' : State) → st'.memory ≡ st.memory → st'.entries ≡ st.entries → Does {A = A} more (f st') (g (with_memory st' more))) → Does {A = A} more (spend_at n st f) (spend_at n (with_memory st more) g)
  spend_does zero st more f g k = refl
  spend_does (suc n) st more f g k = k (record { memory = st.memory; entries = st.entries; records = st.records; taken = st.taken; turns = n }) refl refl

  pub either_does : {A : Type 0} (holds : Bool) (more : Memory) (a b c d : Result A) → Does {A = A} more a c → Does {A = A} more b d → Does {A = A} more (either holds a b) (either holds c d)
  either_does true more a b c d h k = h
  either_does false more a b c d h k = k

  if_does : {A : Type 0} (holds : Bool) (more : Memory) (a b c d : Result A) → Does {A = A} more a c → Does {A = A} more b d → Does {A = A} more (if holds then a else b) (if holds then c else d)
  if_does true more a b c d h k = h
  if_does false more a b c d h k = k

  pub exit_does : (x : Exit) (st : State) (more : Memory) (f g : State → Result Exit) → TypedAlike st.memory more → Does {A = Exit} more (f st) (g (with_memory st more)) → Does {A = Exit} more (on_exit x st f) (on_exit x (with_memory st more) g)
  exit_does on st more f g b h = h
  exit_does x st more f g b h = here {A = Exit} x st more [] b

  pub round_does : (x : Exit) (st : State) (more : Memory) (f g : State → Result Exit) → TypedAlike st.memory more → Does {A = Exit} more (f st) (g (with_memory st more)) → Does {A = Exit} more (on_round x st f) (on_round x (with_memory st more) g)
  round_does broken st more f g b h = here {A = Exit} on st more [] b
  round_does (returned v) st more f g b h = here {A = Exit} (returned v) st more [] b
  round_does x st more f g b h = h

  pub instrumented_does : (marks : Marks) (site : ℕ) (more : Memory) (r q : Result Value) → Does {A = Value} more r q → Does {A = Value} more (with_marks marks site r) (with_marks marks site q)
  instrumented_does marks site more (Go v st w) q h = (h.0, ap (with_marks marks site) h.1, h.2, h.3)
  instrumented_does marks site more (Stop e w) q h = ap (with_marks marks site) h

  -- ## System calls

  abbrev ShownBuffer : Option Pointer → Type 0
  ShownBuffer None = Unit {0}
  ShownBuffer (Some q) = Hidden q.name → ⊥

  abbrev ShownRequest : Request → Type 0
  ShownRequest q = ShownBuffer q.buffer

  room_shown : (m : Memory) (v : Value) (k : ℕ) → Shown v → Whenever {A = Option Pointer} ShownBuffer (room_for m v k)
  room_shown m v zero h = tt
  room_shown m (At q) (suc k) h =
      whenever_then {A = Object} {B = Option Pointer} (λ o. Unit {0}) ShownBuffer (there (m q.name)) _ (any_whenever {A = Object} (there (m q.name))) (λ o u. whenever_then {A = List Value} {B = Option Pointer} (λ o. Unit {0}) ShownBuffer (writable o) _ (any_whenever {A = List Value} (writable o)) (λ cells u. room (nat_le (q.index + suc k) q.elements)))
    where
      room : (b : Bool) → Whenever {A = Option Pointer} ShownBuffer (if b then gives (Some q) else undefined 12)
      room true = h
      room false = tt
  room_shown m v k h = tt

  request_shown : (x : ℕ) (m : Memory) (vs : List Value) → AllShown vs → Whenever {A = Request} ShownRequest (request x m vs)
  request_shown zero m (a ∷ b ∷ c ∷ []) h =
      whenever_then {A = ℤ} {B = Request} (λ z. Unit {0}) ShownRequest (number a) _ (any_whenever {A = ℤ} (number a)) (λ z u. whenever_then {A = ℕ} {B = Request} (λ z. Unit {0}) ShownRequest (size c) _ (any_whenever {A = ℕ} (size c)) (λ n u. whenever_then {A = Option Pointer} {B = Request} ShownBuffer ShownRequest (room_for m b n) _ (room_shown m b n h.1.0) (λ room k. k)))
  request_shown (suc zero) m (a ∷ b ∷ c ∷ []) h =
      whenever_then {A = ℤ} {B = Request} (λ z. Unit {0}) ShownRequest (number a) _ (any_whenever {A = ℤ} (number a)) (λ z u. whenever_then {A = ℕ} {B = Request} (λ z. Unit {0}) ShownRequest (size c) _ (any_whenever {A = ℕ} (size c)) (λ n u. whenever_then {A = List ℕ} {B = Request} (λ z. Unit {0}) ShownRequest (bytes_of_buffer m b n) _ (any_whenever {A = List ℕ} (bytes_of_buffer m b n)) (λ room k. tt)))
  request_shown (suc (suc x)) m vs h =
      whenever_then {A = List Arg} {B = Request} (λ z. Unit {0}) ShownRequest (arguments m vs) _ (any_whenever {A = List Arg} (arguments m vs)) (λ xs u. tt)
  request_shown x m vs h = tt

  filled_where_remembers : (m l : Memory) (buffer : Option Pointer) (bytes : List ℕ) → ShownBuffer buffer → TypedAlike m l → Remembers l (filled_where buffer bytes m) (filled_where buffer bytes l)
  filled_where_remembers m l None bytes h b = (l, refl, b, λ x hid. refl)
  filled_where_remembers m l (Some q) bytes h b = filled_remembers m l q bytes h b

  record_does : (x : ℕ) (q : Request) (rs : List SysResult) (st : State) (more : Memory) → ShownRequest q → TypedAlike st.memory more → Does {A = Value} more (take_record x q rs st) (take_record x q rs (with_memory st more))
  record_does x q [] st more h b = refl
  record_does x q (r ∷ rs) st more h b =
      if_does {A = Value} (does_answer x q.asked r) more _ _ _ _ (after_does {A = Value} more (Sys x q.arguments r.value ∷ []) _ _ (remembered_does {A = Value} _ _ (result_value (result_of x) r.value) (with_records st rs) more (filled_where_remembers st.memory more q.buffer r.bytes h b))) refl

  exit_alike : (more : Memory) (xs : List Arg) → Does {A = Value} more (exit_with xs) (exit_with xs)
  exit_alike more (args.Int s ∷ []) = refl
  exit_alike more xs = refl

  pub system_call_does : (x : ℕ) (vs : List Value) (st : State) (more : Memory) → AllShown vs → TypedAlike st.memory more → Does {A = Value} more (system_call x vs st) (system_call x vs (with_memory st more))
  system_call_does x vs st more h b =
      answered_then {A = Request} {B = Value} ShownRequest (request x st.memory vs) (request x more vs) st more _ _ (request_same st.memory more x vs (all_see st.memory more vs b h)) (request_shown x st.memory vs h) (λ q k. if_does {A = Value} (nat_eq x exit_call) more _ _ _ _ (exit_alike more q.arguments) (record_does x q st.records st more k b))

  null_does : (event : ℕ → Event) (vs : List Value) (st : State) (more : Memory) → TypedAlike st.memory more → Does {A = Value} more (null_call event vs st) (null_call event vs (with_memory st more))
  null_does event (Uint s ∷ []) st more b = here {A = Value} Indeterminate st more (event s ∷ []) b
  null_does event vs st more b = refl

  pub undefined_does : (x : ℕ) (vs : List Value) (st : State) (more : Memory) → AllShown vs → TypedAlike st.memory more → Does {A = Value} more (call_undefined x vs st) (call_undefined x vs (with_memory st more))
  undefined_does x vs st more h b =
      if_does {A = Value} (nat_lt x 24) more _ _ _ _ (system_call_does x vs st more h b) (if_does {A = Value} (nat_eq x 24) more _ _ _ _ (null_does Pre vs st more b) (if_does {A = Value} (nat_eq x 25) more _ _ _ _ (null_does Post vs st more b) refl))

  pub alone_does : (x : ℕ) (vs : List Value) (st : State) (more : Memory) → AllShown vs → TypedAlike st.memory more → Does {A = Value} more (system_call_alone x vs st) (system_call_alone x vs (with_memory st more))
  alone_does x vs st more h b = if_does {A = Value} (nat_lt x 24) more _ _ _ _ (system_call_does x vs st more h b) refl

  -- ## Typed parts

  module _ (p : Program) where
    -- a typed state that tells of the activations before as it was, and a memory beside
    pub record Now (o : Objects) (st : State) (more : Memory) : Type 0 where
      pub state : IsTypedState p o st
      pub tells : TellsAlike last known o
      pub started : last ≤ st.entries
      pub beside : TypedAlike st.memory more

    pub told_shown : (o : Objects) (x : ObjectName) (all : List CType) → TellsAlike last known o → o x ≡ Some all → Hidden x → ⊥
    told_shown o x all t e h = let same : o x ≡ known x = t x h.0 in let none : known x ≡ None = h.1 in absurd (cc)

    pub kind_shown : (o : Objects) (t : CType) (v : Value) → TellsAlike last known o → HasKind p o t v → Shown v
    kind_shown o t (At q) n h = told_shown o q.name h.2.all n h.2.known
    kind_shown o t v n h = tt

    pub given_shown : (o : Objects) (owed : Bool) (t : CType) (v : Value) → TellsAlike last known o → IsGiven p o owed t v → Shown v
    given_shown o true t v n h = kind_shown o t v n h
    given_shown o false t (At q) n h = kind_shown o t (At q) n h
    given_shown o false t v n h = tt

    pub place_shown : (o : Objects) (t : CType) (v : Value) → TellsAlike last known o → IsPlaced p o t v → Shown v
    place_shown o t (At q) n h = told_shown o q.name h.all n h.known
    place_shown o t v n h = tt

    -- one part and then the next
    pub then_does : {A B : Type 0} (ok : Objects → A → Type 0) (o : Objects) (st : State) (more : Memory) (r q : Result A) (f g : A → State → Result B) → Now o st more → EndsTyped p {A = A} ok o st.entries r → Does {A = A} more r q → ((u : Objects) (a : A) (st : State) (l : Memory) → Grows o u → ok u a → Now u st l → Does {A = B} l (f a st) (g a (with_memory st l))) → Does {A = B} more (then_do r f) (then_do q g)
    then_does {A} {B} ok o st more (Go a z w) q f g n t h k =
        subst (λ q. Does {A = B} more (after w (f a z)) (then_do q g)) (sym h.1) (after_does {A = B} more w (f a z) (g a (with_memory z h.0)) (later_does {A = B} more h.0 (f a z) (g a (with_memory z h.0)) h.3 (k t.0 a z h.0 t.1 t.2 (record {
          state = t.3;
          tells = alike_on last st.entries known o t.0 n.started n.tells t.5;
          started = let a = n.started in let b = t.6 in omega (arith, a, b);
          beside = h.2;
        }))))
    then_does ok o st more (Stop e w) q f g n t h k = ap (λ q. then_do q g) h
