-- A part of a program with null calls round its marked calls beside the part of the program itself that it is made of, in one
-- activation: its memory has the same objects, and the temporaries, to which no pointer leads.
use Rattle.std.proofs.Common.{◌≡◌, ℕ, zero, suc, ◌≤◌, ◌<◌, Bool, true, false, List, [], ◌++◌, length, append-nil, append_assoc, None, sym, ap, ◌∙◌, subst, refl, arith}
use Rattle.dm_base.specs.declared.event.Event.{Event}
use Rattle.c_tree.specs.declared.value.ObjectName.{ObjectName}
use Rattle.c_tree.specs.declared.value.Value.{Value}
use Rattle.c_tree.specs.Tree.{Program}
use Rattle.c_tree.specs.Kinds.{Objects}
use Rattle.c_tree.specs.Operators.{Answer, gives, undefined}
use Rattle.c_values.specs.Memory.{Objects as Memory}
use Rattle.c_meaning.specs.Meaning.{Frame, either, name_in}
use Rattle.c_meaning.specs.Results.{State, with_memory, Result, Go, Stop, after, then_do, spend_at, answered, Exit, on, broken, returned, on_exit, on_round}
use Rattle.c_meaning.specs.StoreTyping.{Grows}
use Rattle.c_meaning.specs.TypedResults.{EndsTyped}
use Rattle.c_meaning.specs.FurtherObjects.{IsHidden, IsBeside, DoesAlike}
use Rattle.c_meaning.proofs.Together.{Whenever, Now, alike_on}
use Rattle.null_calls_laws.specs.Pieces.{IsKept}

-- ## Parts one after the other

pub after_none : {A : Type 0} (r : Result A) → after [] r ≡ r
after_none (Go a st w) = refl
after_none (Stop e w) = refl

after_after : {A : Type 0} (u w : List Event) (r : Result A) → after u (after w r) ≡ after (u ++ w) r
after_after u w (Go a st x) = ap (λ y. Go a st y) (sym (append_assoc u w x))
after_after u w (Stop e x) = ap (λ y. Stop e y) (sym (append_assoc u w x))

after_then : {A B : Type 0} (w : List Event) (r : Result A) (f : A → State → Result B) → then_do (after w r) f ≡ after w (then_do r f)
after_then w (Go a st u) f = sym (after_after w u (f a st))
after_then w (Stop e u) f = refl

pub then_then : {A B C : Type 0} (r : Result A) (f : A → State → Result B) (g : B → State → Result C) → then_do (then_do r f) g ≡ then_do r (λ a st. then_do (f a st) g)
then_then (Go a st w) f g = after_then w (f a st) g
then_then (Stop e w) f g = refl

pub then_go : {A : Type 0} (r : Result A) → then_do r (λ a st. Go a st []) ≡ r
then_go (Go a st w) = ap (λ u. Go a st u) (append-nil w)
then_go (Stop e w) = refl

-- ## Beside

-- the second value is the first one, where one is owed
abbrev pub Same : {A : Type 0} → Bool → A → A → Type 0
Same true a b = b ≡ a
Same false a b = Unit {0}

pub same_for : {A : Type 0} (owed : Bool) (a b : A) → b ≡ a → Same {A = A} owed a b
same_for true a b e = e
same_for false a b e = tt

-- temporaries have numbers from those of the activation's variables on, and below the limit
module _ (known : Objects) (fr : Frame) (limit : ℕ) where
  -- each temporary has its one cell
  abbrev pub IsReady : Memory → Type 0
  IsReady l = (j : ℕ) → length fr.types ≤ j → j < limit → (x : Value) × IsKept l fr j x

  -- the further objects stay as they are, but for the temporaries from k on
  abbrev pub StayBut : ℕ → Memory → Memory → Type 0
  StayBut k more l =
      (x : ObjectName) → IsHidden known fr.activation x → (x.activation ≡ fr.activation → k ≤ x.variable → x.variable < limit → ⊥) → l x ≡ more x

  -- the second part goes on like the first, with another memory
  pub record GoesOn (A : Type 0) (owed : Bool) (k : ℕ) (more : Memory) (a : A) (st : State) (w : List Event) (q : Result A) : Type 0 where
    pub other : A
    pub left : Memory
    pub is : q ≡ Go other (with_memory st left) w
    pub same : Same {A = A} owed a other
    pub beside : IsBeside known fr.activation st.memory left
    pub ready : IsReady left
    pub stay : StayBut k more left

  -- the second part, whose memory was `more`, does what the first does
  abbrev pub Does : {A : Type 0} → Bool → ℕ → Memory → Result A → Result A → Type 0
  Does {A} owed k more (Go a st w) q = GoesOn A owed k more a st w q
  Does {A} owed k more (Stop e w) q = q ≡ Stop e w

  pub here : {A : Type 0} (owed : Bool) (k : ℕ) (a b : A) (st : State) (more : Memory) (w : List Event) → Same {A = A} owed a b → IsBeside known fr.activation st.memory more → IsReady more → Does {A = A} owed k more (Go a st w) (Go b (with_memory st more) w)
  here owed k a b st more w s m r = record {
    other = b;
    left = more;
    is = refl;
    same = s;
    beside = m;
    ready = r;
    stay = λ x hid o. refl;
  }

  -- it goes on so after other events, beside another memory, and where less is owed
  goes_on : {A : Type 0} (owed owes : Bool) (k j : ℕ) (more l : Memory) (a : A) (st : State) (u v : List Event) (q r : Result A) → ((b : A) → Same {A = A} owes a b → Same {A = A} owed a b) → ((m : Memory) → StayBut j l m → StayBut k more m) → ((b : A) (m : Memory) → q ≡ Go b (with_memory st m) u → r ≡ Go b (with_memory st m) v) → GoesOn A owes j l a st u q → GoesOn A owed k more a st v r
  goes_on owed owes k j more l a st u v q r same stay is h = record {
    other = h.other;
    left = h.left;
    is = is h.other h.left h.is;
    same = same h.other h.same;
    beside = h.beside;
    ready = h.ready;
    stay = stay h.left h.stay;
  }

  pub after_does : {A : Type 0} (owed : Bool) (k : ℕ) (more : Memory) (w : List Event) (r q : Result A) → Does {A = A} owed k more r q → Does {A = A} owed k more (after w r) (after w q)
  after_does {A} owed k more w (Go a st u) q h =
      goes_on {A = A} owed owed k k more more a st u (w ++ u) q (after w q) (λ b s. s) (λ m s. s) (λ b m e. ap (after w) e) h
  after_does owed k more w (Stop e u) q h = ap (after w) h

  pub later_does : {A : Type 0} (owed : Bool) (k : ℕ) (more l : Memory) (r q : Result A) → StayBut k more l → Does {A = A} owed k l r q → Does {A = A} owed k more r q
  later_does {A} owed k more l (Go a st u) q s h =
      goes_on {A = A} owed owed k k more l a st u u q q (λ b s. s) (λ m i x hid o. i x hid o ∙ s x hid o) (λ b m e. e) h
  later_does owed k more l (Stop e u) q s h = h

  pub stays_wider : (k j : ℕ) (more l : Memory) → k ≤ j → StayBut j more l → StayBut k more l
  stays_wider k j more l less s x hid o = s x hid (λ e a b. o e (omega (arith, less, a)) b)

  pub wider : {A : Type 0} (owed : Bool) (k j : ℕ) (more : Memory) (r q : Result A) → k ≤ j → Does {A = A} owed j more r q → Does {A = A} owed k more r q
  wider {A} owed k j more (Go a st u) q less h =
      goes_on {A = A} owed owed k j more more a st u u q q (λ b s. s) (λ m i. stays_wider k j more m less i) (λ b m e. e) h
  wider owed k j more (Stop e u) q less h = h

  pub loose : {A : Type 0} (owed : Bool) (k : ℕ) (more : Memory) (r q : Result A) → Does {A = A} true k more r q → Does {A = A} owed k more r q
  loose {A} owed k more (Go a st u) q h =
      goes_on {A = A} owed true k k more more a st u u q q (λ b s. same_for {A = A} owed a b s) (λ m s. s) (λ b m e. e) h
  loose owed k more (Stop e u) q h = h

  -- what leaves every further object as it is
  pub lift : {A : Type 0} (k : ℕ) (more : Memory) (r q : Result A) → ((j : ℕ) → length fr.types ≤ j → known (name_in fr false j) ≡ None) → DoesAlike {A = A} known fr.activation more r q → IsReady more → Does {A = A} true k more r q
  lift k more (Go a st w) q untold h ready = record {
    other = a;
    left = h.0;
    is = h.1;
    same = refl;
    beside = h.2;
    ready = λ j a b. let old = ready j a b in (old.0, h.3 (name_in fr false j) (omega arith, untold j a) ∙ old.1);
    stay = λ x hid o. h.3 x hid;
  }
  lift k more (Stop e w) q untold h ready = h

  pub either_does : {A : Type 0} (owed : Bool) (k : ℕ) (holds : Bool) (more : Memory) (a b c d : Result A) → Does {A = A} owed k more a c → Does {A = A} owed k more b d → Does {A = A} owed k more (either holds a b) (either holds c d)
  either_does owed k true more a b c d h i = h
  either_does owed k false more a b c d h i = i

  pub exit_does : (k : ℕ) (x : Exit) (st : State) (more : Memory) (f g : State → Result Exit) → IsBeside known fr.activation st.memory more → IsReady more → Does {A = Exit} true k more (f st) (g (with_memory st more)) → Does {A = Exit} true k more (on_exit x st f) (on_exit x (with_memory st more) g)
  exit_does k on st more f g b r h = h
  exit_does k x st more f g b r h = here {A = Exit} true k x x st more [] refl b r

  pub round_does : (k : ℕ) (x : Exit) (st : State) (more : Memory) (f g : State → Result Exit) → IsBeside known fr.activation st.memory more → IsReady more → Does {A = Exit} true k more (f st) (g (with_memory st more)) → Does {A = Exit} true k more (on_round x st f) (on_round x (with_memory st more) g)
  round_does k broken st more f g b r h = here {A = Exit} true k on on st more [] refl b r
  round_does k (returned v) st more f g b r h = here {A = Exit} true k (returned v) (returned v) st more [] refl b r
  round_does k x st more f g b r h = h

  pub answered_then : {A B : Type 0} (owed : Bool) (k : ℕ) (ok : A → Type 0) (r q : Answer A) (st : State) (more : Memory) (f g : A → State → Result B) → q ≡ r → Whenever {A = A} ok r → ((a : A) → ok a → Does {A = B} owed k more (f a st) (g a (with_memory st more))) → Does {A = B} owed k more (then_do (answered r st) f) (then_do (answered q (with_memory st more)) g)
  answered_then {A} {B} owed k ok r q st more f g e h next = subst (λ q. Does {A = B} owed k more (then_do (answered r st) f) (then_do (answered q (with_memory st more)) g)) (sym e) (at r h)
    where
      at : (r : Answer A) → Whenever {A = A} ok r → Does {A = B} owed k more (then_do (answered r st) f) (then_do (answered r (with_memory st more)) g)
      at (gives a) h = after_does {A = B} owed k more [] (f a st) (g a (with_memory st more)) (next a h)
      at (undefined kind) h = refl

  pub spend_does : {A : Type 0} (owed : Bool) (k : ℕ) (n : ℕ) (st : State) (more : Memory) (f g : State → Result A) → ((st' : State) → st'.memory ≡ st.memory → st'.entries ≡ st.entries → Does {A = A} owed k more (f st') (g (with_memory st' more))) → Does {A = A} owed k more (spend_at n st f) (spend_at n (with_memory st more) g)
  spend_does owed k zero st more f g h = refl
  spend_does owed k (suc n) st more f g h = h (record { memory = st.memory; entries = st.entries; records = st.records; taken = st.taken; turns = n }) refl refl

  module _ (p : Program) where
    -- a typed state, and a memory beside, in which the temporaries have their cells
    pub record Here (o : Objects) (st : State) (more : Memory) : Type 0 where
      pub now : Now known fr.activation p o st more
      pub ready : IsReady more

    -- after a part that goes on
    pub later_here : {A : Type 0} (ok : Objects → A → Type 0) (o : Objects) (st : State) (more l : Memory) (a : A) (z : State) (w : List Event) → Here o st more → (t : EndsTyped p {A = A} ok o st.entries (Go a z w)) → IsBeside known fr.activation z.memory l → IsReady l → Here t.0 z l
    later_here ok o st more l a z w n t beside ready = record {
      now = record {
        state = t.3;
        tells = alike_on fr.activation st.entries known o t.0 n.now.started n.now.tells t.5;
        started = let a = n.now.started in let b = t.6 in omega (arith, a, b);
        beside = beside;
      };
      ready = ready;
    }

    -- one part and then the next
    pub then_does : {A B : Type 0} (owed wants : Bool) (k : ℕ) (ok : Objects → A → Type 0) (o : Objects) (st : State) (more : Memory) (r q : Result A) (f g : A → State → Result B) → Here o st more → EndsTyped p {A = A} ok o st.entries r → Does {A = A} owed k more r q → ((u : Objects) (a b : A) (st : State) (l : Memory) → Grows o u → ok u a → Same {A = A} owed a b → Here u st l → Does {A = B} wants k l (f a st) (g b (with_memory st l))) → Does {A = B} wants k more (then_do r f) (then_do q g)
    then_does {A} {B} owed wants k ok o st more (Go a z w) q f g n t h next =
        subst (λ q. Does {A = B} wants k more (after w (f a z)) (then_do q g)) (sym h.is) (after_does {A = B} wants k more w (f a z) (g h.other (with_memory z h.left)) (later_does {A = B} wants k more h.left (f a z) (g h.other (with_memory z h.left)) h.stay (next t.0 a h.other z h.left t.1 t.2 h.same (later_here {A = A} ok o st more h.left a z w n t h.beside h.ready))))
    then_does owed wants k ok o st more (Stop e w) q f g n t h next = ap (λ q. then_do q g) h

    -- where the first part gives the same
    pub then_same : {A B : Type 0} (wants : Bool) (k : ℕ) (ok : Objects → A → Type 0) (o : Objects) (st : State) (more : Memory) (r q : Result A) (f g : A → State → Result B) → Here o st more → EndsTyped p {A = A} ok o st.entries r → Does {A = A} true k more r q → ((u : Objects) (a : A) (st : State) (l : Memory) → Grows o u → ok u a → Here u st l → Does {A = B} wants k l (f a st) (g a (with_memory st l))) → Does {A = B} wants k more (then_do r f) (then_do q g)
    then_same {A} {B} wants k ok o st more r q f g n t h next =
        then_does {A = A} {B = B} true wants k ok o st more r q f g n t h (λ u a b st l i c s m. subst (λ b. Does {A = B} wants k l (f a st) (g b (with_memory st l))) (sym s) (next u a st l i c m))
