-- What holds of parts that are fine.
use Rattle.std.proofs.Common.{◌≡◌, ℕ, Bool, true, false, if◌then◌else◌, List, [], ◌∷◌, ◌++◌, All, refl, arith}
use Rattle.std.proofs.lemmas.List.Elements.{All-cons}
use Rattle.c_rules.specs.Checked.{Checked, fine, faulty, on, all_three, demand, met}
pub use Rattle.sys_table.proofs.Names.{and_left, and_right}
pub use Rattle.c_rules_laws.proofs.Leads.{parts_first_fine, first_fine, on_fine}
pub use Rattle.c_rules.proofs.Below.{after_demands as after_part}
pub use Rattle.c_rules.proofs.Below.{Holds, held, on_holds, both_hold, Any, anything, all_three_hold, alone_holds, parts_first_holds}

pub holds_map : {A : Type 0} (P Q : A → Type 0) → ((a : A) → P a → Q a) → (r : Checked A) → Holds P r → Holds Q r
holds_map P Q f (fine a) h = f a h
holds_map P Q f (faulty g gs) h = tt

pub holds_two : {A : Type 0} (P Q : A → Type 0) (r : Checked A) → Holds P r → Holds Q r → Holds (λ a. P a × Q a) r
holds_two P Q (fine a) h k = (h, k)
holds_two P Q (faulty g gs) h k = tt

-- where a demand is met
pub demand_holds : {A : Type 0} (P : A → Type 0) (t : Bool) (code at : ℕ) (a : A) → (t ≡ true → P a) → Holds P (demand t code at a)
demand_holds P true code at a h = h refl
demand_holds P false code at a h = tt

-- behind a demand that is met
pub behind_demand : {B : Type 0} (Q : B → Type 0) (t : Bool) (code at : ℕ) (r : Checked B) → (t ≡ true → Holds Q r) → Holds Q (on (demand t code at met) (λ _. r))
behind_demand Q true code at r h = h refl
behind_demand Q false code at r h = tt

-- what holds of both that a test chooses between
pub either : {A : Type 0} (P : A → Type 0) (t : Bool) (x y : A) → (t ≡ true → P x) → P y → P (if t then x else y)
either P true x y h k = h refl
either P false x y h k = k

pub if_holds : {A : Type 0} (P : A → Type 0) (t : Bool) (r s : Checked A) → Holds P r → Holds P s → Holds P (if t then r else s)
if_holds P t r s h k = either (Holds P) t r s (λ _. h) k

pub three_fine : {A B C D : Type 0} (p : Checked A) (q : Checked B) (r : Checked C) (k : A → B → C → Checked D) (d : D) → all_three p q r k ≡ fine d → (a : A) × (b : B) × (c : C) × (p ≡ fine a) × (q ≡ fine b) × (r ≡ fine c) × (k a b c ≡ fine d)
three_fine (fine a) (fine b) (fine c) k d e = (a, b, c, refl, refl, refl, e)
three_fine p q r k d e = absurd (cc)

pub demand_fine : {A : Type 0} (t : Bool) (code at : ℕ) (a b : A) → demand t code at a ≡ fine b → (t ≡ true) × (a ≡ b)
demand_fine true code at a b e = (refl, cc)
demand_fine false code at a b e = absurd (cc)

pub fine_same : {A : Type 0} (a b : A) → fine a ≡ fine b → a ≡ b
fine_same a b e = cc

-- ## What holds of each of a list

abbrev pub Each : {A : Type 0} → (A → Type 0) → List A → Type 0
Each P [] = Unit {0}
Each P (x ∷ xs) = P x × Each P xs

pub each_map : {A : Type 0} (P Q : A → Type 0) → ((x : A) → P x → Q x) → (xs : List A) → Each P xs → Each Q xs
each_map P Q f [] h = tt
each_map P Q f (x ∷ xs) h = (f x h.0, each_map P Q f xs h.1)

pub each_both : {A : Type 0} (P : A → Type 0) (xs ys : List A) → Each P xs → Each P ys → Each P (xs ++ ys)
each_both P [] ys h k = k
each_both P (x ∷ xs) ys h k = (h.0, each_both P xs ys h.1 k)

pub each_all : {A : Type 0} (P : A → Type 0) (xs : List A) → Each P xs → All P xs
each_all P [] h = λ k d l. absurd (omega (arith, l))
each_all P (x ∷ xs) h = All-cons P x xs h.0 (each_all P xs h.1)
