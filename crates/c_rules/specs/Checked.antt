-- What the check of a part of a text finds: the part is fine, with what it gives, or it is faulty, with all the demands
-- on it that fail, in the order of the text. There is one at least, by the form of what is faulty.
use Rattle.std.specs.Prelude.{ℕ, Bool, true, false, List, [], ◌∷◌, ◌++◌}

-- a demand that fails: the number of its code and its place
pub record Fault : Type 0 where
  pub code : ℕ
  pub at : ℕ

pub data Checked (A : Type 0) : Type 0 where
  fine : A → Checked A
  faulty : (first : Fault) (others : List Fault) → Checked A

-- the demands that fail
abbrev pub faults : {A : Type 0} → Checked A → List Fault
faults (fine a) = []
faults (faulty f fs) = f ∷ fs

-- A part, and the demands on its node: they stand only where the part meets its own.
abbrev pub on : {A B : Type 0} → Checked A → (A → Checked B) → Checked B
on (fine a) node = node a
on (faulty f fs) node = faulty f fs

-- Two parts, and the demands on their node. Neither part waits for the other.
abbrev pub both : {A B C : Type 0} → Checked A → Checked B → (A → B → Checked C) → Checked C
both (fine a) (fine b) node = node a b
both (fine a) (faulty g gs) node = faulty g gs
both (faulty f fs) second node = faulty f (fs ++ faults second)

-- what two parts give
pub record Two (A B : Type 0) : Type 0 where
  pub first : A
  pub second : B

-- two parts without a demand on both
abbrev pub beside : {A B : Type 0} → Checked A → Checked B → Checked (Two A B)
beside p q = both p q (λ a b. fine (record { first = a; second = b }))

-- three parts, and the demands on their node
abbrev pub all_three : {A B C D : Type 0} → Checked A → Checked B → Checked C → (A → B → C → Checked D) → Checked D
all_three p q r node = both p (beside q r) (λ a t. node a t.first t.second)

-- a part that gives something else where it is fine
abbrev pub gives : {A B : Type 0} → Checked A → (A → B) → Checked B
gives p f = on p (λ a. fine (f a))

-- one demand that fails
abbrev pub fault : {A : Type 0} → (code at : ℕ) → Checked A
fault code at = faulty (record { code = code; at = at }) []

-- one demand, and what stands where it is met
abbrev pub demand : {A : Type 0} → Bool → (code at : ℕ) → A → Checked A
demand true code at a = fine a
demand false code at a = fault code at

-- What a node gives, beside the parts that it is made of: where it fails and one of them does, their demands alone are listed. So the
-- demands on the node stand only where its parts meet theirs.
abbrev pub parts_first : {A B : Type 0} → (parts : Checked A) → (node : Checked B) → Checked B
parts_first parts (fine b) = fine b
parts_first (fine a) (faulty f fs) = faulty f fs
parts_first (faulty g gs) (faulty f fs) = faulty g gs

-- where the condition holds, whatever fails in a part is this one demand
abbrev pub fails_with : {A : Type 0} → (alone : Bool) → (code at : ℕ) → Checked A → Checked A
fails_with alone code at (fine a) = fine a
fails_with true code at (faulty f fs) = fault code at
fails_with false code at (faulty f fs) = faulty f fs

-- what a demand gives that gives nothing else
pub data Met : Type 0 where
  met : Met

-- demands alone, one beside the other
abbrev pub and_also : Checked Met → Checked Met → Checked Met
and_also p q = both p q (λ _ _. fine met)

-- a part of which only its demands are wanted
abbrev pub demands_of : {A : Type 0} → Checked A → Checked Met
demands_of p = gives p (λ _. met)
