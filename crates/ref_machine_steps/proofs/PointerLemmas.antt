-- Steps of answers one after the other.
use Rattle.std.proofs.Common.{◌≡◌, ℕ, pos, ◌-ℤ◌, Bool, true, false, if◌then◌else◌, refl, ap, sym, ◌∙◌}
use Rattle.c_tree.specs.declared.value.Value.{Value}
use Rattle.c_tree.specs.declared.value.Value.TheVariants.{Int}
use Rattle.c_values.specs.Answers.{Answer, gives, undefined, and_then, U9}
use Rattle.c_values.specs.Memory.{Objects, object}
use Rattle.c_meaning.specs.Pointers.{pointer, same_array, in_one_array, difference}
use Rattle.ref_machine_steps.specs.Words.{in_words, held}

pub one_by_one : {A B C : Type 0} (x : Answer A) (f : A → Answer B) (g : B → Answer C) → and_then (and_then x f) g ≡ and_then x (λ a. and_then (f a) g)
one_by_one (gives a) f g = refl
one_by_one (undefined kind) f g = refl

chosen : {B C : Type 0} (c : Bool) (b : B) (g : B → Answer C) → and_then (if c then gives b else undefined U9) g ≡ (if c then g b else undefined U9)
chosen true b g = refl
chosen false b g = refl

-- what is made of the indices of two pointers into one array
pub of_indices : {C : Type 0} (m : Objects) (v w : Value) (g : ℕ × ℕ → Answer C) → and_then (in_one_array m v w (λ a b. gives (a.index, b.index))) g ≡ in_one_array m v w (λ a b. g (a.index, b.index))
of_indices {C} m v w g =
    one_by_one (pointer v) _ g
    ∙ (λ i. and_then (pointer v) (λ a. (one_by_one (pointer w) (λ b. and_then (object m a.name) (λ o. and_then (object m b.name) (λ o. if same_array a b then gives (a.index, b.index) else undefined U9))) g
    ∙ (λ j. and_then (pointer w) (λ b. (one_by_one (object m a.name) (λ o. and_then (object m b.name) (λ o. if same_array a b then gives (a.index, b.index) else undefined U9)) g
    ∙ (λ k. and_then (object m a.name) (λ o. (one_by_one (object m b.name) (λ o. if same_array a b then gives (a.index, b.index) else undefined U9) g
    ∙ (λ l. and_then (object m b.name) (λ o. chosen (same_array a b) (a.index, b.index) g l))) k))) j))) i))

-- the difference, where an int can be it
pub difference_is : (m : Objects) (v w : Value) → held (difference m v w) ≡ and_then (in_one_array m v w (λ a b. gives (a.index, b.index))) (λ (p : ℕ × ℕ). in_words (Int (pos p.0 -ℤ pos p.1)))
difference_is m v w =
    sym (ap held (of_indices m v w (λ (p : ℕ × ℕ). gives (Int (pos p.0 -ℤ pos p.1)))))
    ∙ one_by_one (in_one_array m v w (λ a b. gives (a.index, b.index))) (λ (p : ℕ × ℕ). gives (Int (pos p.0 -ℤ pos p.1))) in_words
