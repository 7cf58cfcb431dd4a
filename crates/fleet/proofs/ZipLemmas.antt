-- Lists that go together, and a change at one place.
use Rattle.std.proofs.Common.{◌≡◌, ◌≢◌, ℕ, zero, suc, List, [], ◌∷◌, ◌++◌, length, map, Some, refl, sym, ◌∙◌, ap, subst, arith}
use Rattle.std.specs.Prelude.{slice_get}
use Rattle.std.specs.List.{AllZip}
use Rattle.std.proofs.Math.ListN.{set}

pub some_same : {A : Type 0} (x y : A) → Some x ≡ Some y → x ≡ y
some_same x y is = cc

-- what stands at a place of a mapped list
pub map_at : {A B : Type 0} (f : A → B) (xs : List A) (i : ℕ) (y : B) → slice_get (map f xs) i ≡ Some y → (x : A) × (slice_get xs i ≡ Some x) × (f x ≡ y)
map_at f [] i y is = absurd (cc)
map_at f (x ∷ xs) zero y is = (x, refl, some_same (f x) y is)
map_at f (x ∷ xs) (suc i) y is = map_at f xs i y is

-- after a write

pub set_here : {A : Type 0} (xs : List A) (i : ℕ) (x y : A) → slice_get xs i ≡ Some x → slice_get (set xs i y) i ≡ Some y
set_here [] i x y is = absurd (cc)
set_here (a ∷ xs) zero x y is = refl
set_here (a ∷ xs) (suc i) x y is = set_here xs i x y is

pub set_elsewhere : {A : Type 0} (xs : List A) (i j : ℕ) (y : A) → j ≢ i → slice_get (set xs i y) j ≡ slice_get xs j
set_elsewhere [] i j y other = refl
set_elsewhere (a ∷ xs) zero zero y other = absurd (other refl)
set_elsewhere (a ∷ xs) zero (suc j) y other = refl
set_elsewhere (a ∷ xs) (suc i) zero y other = refl
set_elsewhere (a ∷ xs) (suc i) (suc j) y other = set_elsewhere xs i j y (λ same. other (ap suc same))

pub map-set : {A B : Type 0} (f : A → B) (xs : List A) (i : ℕ) (x y : A) → slice_get xs i ≡ Some x → f y ≡ f x → map f (set xs i y) ≡ map f xs
map-set f [] i x y is same = refl
map-set f (a ∷ xs) zero x y is same = ap (λ b. b ∷ map f xs) (same ∙ ap f (sym (some_same a x is)))
map-set f (a ∷ xs) (suc i) x y is same = ap (λ ys. f a ∷ ys) (map-set f xs i x y is same)

-- lists that go together

pub zip_left : {A B : Type 0} (R : A → B → Type 0) (xs : List A) (ys : List B) (i : ℕ) (x : A) → AllZip R xs ys → slice_get xs i ≡ Some x → (y : B) × (slice_get ys i ≡ Some y) × R x y
zip_left R [] ys i x zip is = absurd (cc)
zip_left R (a ∷ xs) [] i x zip is = absurd zip
zip_left R (a ∷ xs) (b ∷ ys) zero x zip is = (b, refl, subst (λ c. R c b) (some_same a x is) zip.0)
zip_left R (a ∷ xs) (b ∷ ys) (suc i) x zip is = zip_left R xs ys i x zip.1 is

pub zip_right : {A B : Type 0} (R : A → B → Type 0) (xs : List A) (ys : List B) (i : ℕ) (y : B) → AllZip R xs ys → slice_get ys i ≡ Some y → (x : A) × (slice_get xs i ≡ Some x) × R x y
zip_right R [] [] i y zip is = absurd (cc)
zip_right R [] (b ∷ ys) i y zip is = absurd zip
zip_right R (a ∷ xs) [] i y zip is = absurd zip
zip_right R (a ∷ xs) (b ∷ ys) zero y zip is = (a, refl, subst (λ c. R a c) (some_same b y is) zip.0)
zip_right R (a ∷ xs) (b ∷ ys) (suc i) y zip is = zip_right R xs ys i y zip.1 is

pub zip_length : {A B : Type 0} (R : A → B → Type 0) (xs : List A) (ys : List B) → AllZip R xs ys → length xs ≡ length ys
zip_length R [] [] zip = refl
zip_length R [] (b ∷ ys) zip = absurd zip
zip_length R (a ∷ xs) [] zip = absurd zip
zip_length R (a ∷ xs) (b ∷ ys) zip = ap suc (zip_length R xs ys zip.1)

pub zip_weaker : {A B : Type 0} (R S : A → B → Type 0) (xs : List A) (ys : List B) → ((a : A) (b : B) → R a b → S a b) → AllZip R xs ys → AllZip S xs ys
zip_weaker R S [] [] weaker zip = tt
zip_weaker R S [] (b ∷ ys) weaker zip = absurd zip
zip_weaker R S (a ∷ xs) [] weaker zip = absurd zip
zip_weaker R S (a ∷ xs) (b ∷ ys) weaker zip = (weaker a b zip.0, zip_weaker R S xs ys weaker zip.1)

pub zip_push : {A B : Type 0} (R : A → B → Type 0) (xs : List A) (ys : List B) (x : A) (y : B) → AllZip R xs ys → R x y → AllZip R (xs ++ x ∷ []) (ys ++ y ∷ [])
zip_push R [] [] x y zip last = (last, tt)
zip_push R [] (b ∷ ys) x y zip last = absurd zip
zip_push R (a ∷ xs) [] x y zip last = absurd zip
zip_push R (a ∷ xs) (b ∷ ys) x y zip last = (zip.0, zip_push R xs ys x y zip.1 last)

-- both lists change at one place
pub zip_set : {A B : Type 0} (R S : A → B → Type 0) (xs : List A) (ys : List B) (i : ℕ) (x : A) (y : B) → ((a : A) (b : B) → R a b → S a b) → S x y → AllZip R xs ys → AllZip S (set xs i x) (set ys i y)
zip_set R S [] [] i x y weaker here zip = tt
zip_set R S [] (b ∷ ys) i x y weaker here zip = absurd zip
zip_set R S (a ∷ xs) [] i x y weaker here zip = absurd zip
zip_set R S (a ∷ xs) (b ∷ ys) zero x y weaker here zip = (here, zip_weaker R S xs ys weaker zip.1)
zip_set R S (a ∷ xs) (b ∷ ys) (suc i) x y weaker here zip = (weaker a b zip.0, zip_set R S xs ys i x y weaker here zip.1)

-- one list changes at one place, the other is mapped
pub zip_map : {A B : Type 0} (R S : A → B → Type 0) (f : B → B) (xs : List A) (ys : List B) → AllZip R xs ys → ((j : ℕ) (a : A) (b : B) → slice_get ys j ≡ Some b → R a b → S a (f b)) → AllZip S xs (map f ys)
zip_map R S f [] [] zip each = tt
zip_map R S f [] (b ∷ ys) zip each = absurd zip
zip_map R S f (a ∷ xs) [] zip each = absurd zip
zip_map R S f (a ∷ xs) (b ∷ ys) zip each = (each 0 a b refl zip.0, zip_map R S f xs ys zip.1 (λ j c d is r. each (suc j) c d is r))

pub zip_one : {A B : Type 0} (R S : A → B → Type 0) (f : B → B) (xs : List A) (ys : List B) (i : ℕ) (x : A) → AllZip R xs ys → ((b : B) → slice_get ys i ≡ Some b → S x (f b)) → ((j : ℕ) (a : A) (b : B) → j ≢ i → slice_get ys j ≡ Some b → R a b → S a (f b)) → AllZip S (set xs i x) (map f ys)
zip_one R S f [] [] i x zip here others = tt
zip_one R S f [] (b ∷ ys) i x zip here others = absurd zip
zip_one R S f (a ∷ xs) [] i x zip here others = absurd zip
zip_one R S f (a ∷ xs) (b ∷ ys) zero x zip here others = (here b refl, zip_map R S f xs ys zip.1 (λ j c d is r. others (suc j) c d (λ same. (let no : suc j ≡ 0 = same in omega arith)) is r))
zip_one R S f (a ∷ xs) (b ∷ ys) (suc i) x zip here others =
    (others 0 a b (λ same. (let no : 0 ≡ suc i = same in omega arith)) refl zip.0, zip_one R S f xs ys i x zip.1 here (λ j c d other is r. others (suc j) c d (λ same. other (let no : suc j ≡ suc i = same in omega arith)) is r))

pub map_length : {A B : Type 0} (f : A → B) (xs : List A) → length (map f xs) ≡ length xs
map_length f [] = refl
map_length f (x ∷ xs) = ap suc (map_length f xs)
