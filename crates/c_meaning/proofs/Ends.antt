-- What is typed after each way of putting parts of a program together.
use Rattle.std.proofs.Common.{◌≡◌, if◌then◌else◌, refl, ℕ, zero, suc, Bool, true, false, List, [], ◌∙◌, All, Some, None, ◌≤◌, arith}
use Rattle.std.proofs.lemmas.Bool.{false≢true}
use Rattle.std.proofs.lemmas.List.Elements.{All-nil, All-append}
use Rattle.dm_base.specs.declared.event.Event.{Event}
use Rattle.c_meaning.specs.Table.{IsRecorded}
use Rattle.c_tree.specs.Tree.{CType, Program}
use Rattle.c_tree.specs.Kinds.{Objects}
use Rattle.c_meaning.specs.Answers.{Answer, gives, undefined}
use Rattle.c_meaning.specs.Memory.{Objects as Memory}
use Rattle.c_meaning.specs.Meaning.{either}
use Rattle.c_meaning.specs.Results.{State, with_memory, Result, Go, Stop, after, then_do, spend_at, answered, remembered, Exit, on, broken, continued, returned, on_exit, on_round}
use Rattle.c_meaning.specs.StoreTyping.{IsTypedMemory, IsTypedState, Grows, TellsAlike}
use Rattle.c_meaning.specs.TypedResults.{EndsTyped, IsExit}
use Rattle.c_meaning.proofs.Places.{grows_on, grows_none}
use Rattle.c_meaning.proofs.Steps.{Right}

-- of the activations before, as much is told after two parts as after none
pub alike_on : (start later : ℕ) (o u v : Objects) → start ≤ later → TellsAlike start o u → TellsAlike later u v → TellsAlike start o v
alike_on start later o u v less h k x l = k x (omega (arith, l, less)) ∙ h x l

module _ (p : Program) where
  pub now : {A : Type 0} (ok : Objects → A → Type 0) (o : Objects) (a : A) (st : State) → ok o a → IsTypedState p o st → EndsTyped p {A = A} ok o st.entries (Go a st [])
  now ok o a st h k = (o, grows_none o, h, k, All-nil IsRecorded, (λ x l. refl), omega arith)

  pub now_after : {A : Type 0} (ok : Objects → A → Type 0) (o : Objects) (a : A) (st : State) (w : List Event) → ok o a → IsTypedState p o st → All IsRecorded w → EndsTyped p {A = A} ok o st.entries (Go a st w)
  now_after ok o a st w h k e = (o, grows_none o, h, k, e, (λ x l. refl), omega arith)

  pub after_ends : {A : Type 0} (ok : Objects → A → Type 0) (o : Objects) (start : ℕ) (w : List Event) (r : Result A) → All IsRecorded w → EndsTyped p {A = A} ok o start r → EndsTyped p {A = A} ok o start (after w r)
  after_ends ok o start w (Go a st z) e h = (h.0, h.1, h.2, h.3, All-append IsRecorded w z e h.4, h.5, h.6)
  after_ends ok o start w (Stop out z) e h = (h.0, All-append IsRecorded w z e h.1)

  -- from a store typing that tells of later activations too
  pub grown : {A : Type 0} (ok : Objects → A → Type 0) (o u : Objects) (start later : ℕ) (r : Result A) → Grows o u → start ≤ later → TellsAlike start o u → EndsTyped p {A = A} ok u later r → EndsTyped p {A = A} ok o start r
  grown ok o u start later (Go a st w) g less k h = (h.0, grows_on o u h.0 g h.1, h.2, h.3, h.4, alike_on start later o u h.0 less k h.5, omega (arith, less, h.6))
  grown ok o u start later (Stop e w) g less k h = h

  pub then_ends : {A B : Type 0} (okA : Objects → A → Type 0) (okB : Objects → B → Type 0) (o : Objects) (start : ℕ) (r : Result A) (f : A → State → Result B) → EndsTyped p {A = A} okA o start r → ((u : Objects) (a : A) (st : State) → Grows o u → okA u a → IsTypedState p u st → EndsTyped p {A = B} okB u st.entries (f a st)) → EndsTyped p {A = B} okB o start (then_do r f)
  then_ends {B = B} okA okB o start (Go a st w) f h k =
      after_ends {A = B} okB o start w (f a st) h.4 (grown {A = B} okB o h.0 start st.entries (f a st) h.1 h.6 h.5 (k h.0 a st h.1 h.2 h.3))
  then_ends okA okB o start (Stop e w) f h k = h

  pub weaker : {A : Type 0} (ok ok' : Objects → A → Type 0) (o : Objects) (start : ℕ) (r : Result A) → ((u : Objects) (a : A) → ok u a → ok' u a) → EndsTyped p {A = A} ok o start r → EndsTyped p {A = A} ok' o start r
  weaker ok ok' o start (Go a st w) k h = (h.0, h.1, k h.0 a h.2, h.3, h.4, h.5, h.6)
  weaker ok ok' o start (Stop e w) k h = h

  pub spend_ends : {A : Type 0} (ok : Objects → A → Type 0) (o : Objects) (n : ℕ) (st : State) (f : State → Result A) → IsTypedState p o st → ((st : State) → IsTypedState p o st → EndsTyped p {A = A} ok o st.entries (f st)) → EndsTyped p {A = A} ok o st.entries (spend_at n st f)
  spend_ends ok o zero st f h k = (tt, All-nil IsRecorded)
  spend_ends ok o (suc n) st f h k = k (record { memory = st.memory; entries = st.entries; records = st.records; taken = st.taken; turns = n }) h

  pub answered_ends : {A : Type 0} (ok : Objects → A → Type 0) (o : Objects) (r : Answer A) (st : State) → Right {A = A} (ok o) r → IsTypedState p o st → EndsTyped p {A = A} ok o st.entries (answered r st)
  answered_ends {A} ok o (gives a) st h k = now {A = A} ok o a st h k
  answered_ends ok o (undefined kind) st h k = (h, All-nil IsRecorded)

  pub remembered_ends : {A : Type 0} (ok : Objects → A → Type 0) (o : Objects) (r : Answer Memory) (a : A) (st : State) → Right (IsTypedMemory p o) r → ok o a → IsTypedState p o st → EndsTyped p {A = A} ok o st.entries (remembered r a st)
  remembered_ends {A} ok o (gives m) a st h l k = now {A = A} ok o a (with_memory st m) l (record { memory = h; few = k.few; later = k.later })
  remembered_ends ok o (undefined kind) a st h l k = (h, All-nil IsRecorded)

  pub either_ends : {A : Type 0} (ok : Objects → A → Type 0) (o : Objects) (start : ℕ) (holds : Bool) (a b : Result A) → EndsTyped p {A = A} ok o start a → EndsTyped p {A = A} ok o start b → EndsTyped p {A = A} ok o start (either holds a b)
  either_ends ok o start true a b h k = h
  either_ends ok o start false a b h k = k

  pub if_ends : {A : Type 0} (ok : Objects → A → Type 0) (o : Objects) (start : ℕ) (b : Bool) (x y : Result A) → (b ≡ true → EndsTyped p {A = A} ok o start x) → (b ≡ false → EndsTyped p {A = A} ok o start y) → EndsTyped p {A = A} ok o start (if b then x else y)
  if_ends ok o start true x y h k = h refl
  if_ends ok o start false x y h k = k refl

  -- after the first of two statements
  pub exit_ends : (r : CType) (breaks continues : Bool) (o : Objects) (x : Exit) (st : State) (f : State → Result Exit) → IsExit p r breaks continues o x → IsTypedState p o st → EndsTyped p {A = Exit} (IsExit p r breaks continues) o st.entries (f st) → EndsTyped p {A = Exit} (IsExit p r breaks continues) o st.entries (on_exit x st f)
  exit_ends r breaks continues o on st f h k l = l
  exit_ends r breaks continues o x st f h k l = now {A = Exit} (IsExit p r breaks continues) o x st h k

  -- after the body of a loop
  pub round_ends : (r : CType) (o : Objects) (x : Exit) (st : State) (f : State → Result Exit) → IsExit p r true true o x → IsTypedState p o st → EndsTyped p {A = Exit} (IsExit p r false false) o st.entries (f st) → EndsTyped p {A = Exit} (IsExit p r false false) o st.entries (on_round x st f)
  round_ends r o broken st f h k l = now {A = Exit} (IsExit p r false false) o on st tt k
  round_ends r o (returned None) st f h k l = now {A = Exit} (IsExit p r false false) o (returned None) st tt k
  round_ends r o (returned (Some v)) st f h k l = now {A = Exit} (IsExit p r false false) o (returned (Some v)) st h k
  round_ends r o x st f h k l = l

  -- what is left by neither break nor continue may stand anywhere
  pub looser : (r : CType) (breaks continues : Bool) (o : Objects) (x : Exit) → IsExit p r false false o x → IsExit p r breaks continues o x
  looser r breaks continues o broken h = absurd (false≢true h)
  looser r breaks continues o continued h = absurd (false≢true h)
  looser r breaks continues o (returned (Some v)) h = h
  looser r breaks continues o x h = tt
