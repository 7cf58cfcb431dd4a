-- Lemmas that several crates above use.
use Rattle.std.proofs.Common.{List, None, Option, Some, [], ap, arith, length, refl, set, slice_get, suc, zero, ℕ, ◌<◌, ◌∷◌, ◌≡◌}
use Rattle.c_tree.specs.Tree.{CType}

pub none_is_no_list : (ts : List CType) → Some None ≡ Some (Some ts) → ⊥
none_is_no_list ts q = cc

pub no_entry : (o : Option (List CType)) → None ≡ Some o → ⊥
no_entry o q = cc

pub get_set : {A : Type 0} (xs : List A) (n : ℕ) (v : A) → n < length xs → slice_get (set xs n v) n ≡ Some v
get_set [] n v h = absurd (omega arith)
get_set (x ∷ xs) zero v h = refl
get_set (x ∷ xs) (suc n) v h = get_set xs n v (omega arith)

pub get_other : {A : Type 0} (xs : List A) (n s : ℕ) (v : A) → (s ≡ n → ⊥) → slice_get (set xs n v) s ≡ slice_get xs s
get_other (x ∷ xs) zero zero v h = absurd (h refl)
get_other (x ∷ xs) (suc n) (suc s) v h = get_other xs n s v (λ q. h (ap suc q))
get_other xs n s v h = refl
