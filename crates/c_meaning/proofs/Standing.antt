-- Parts of what stands in the program.
use Rattle.std.proofs.Common.{◌≡◌, ℕ, zero, suc, true, List, [], ◌∷◌, ◌++◌, flat_map, Contains, Some, slice_get, subst}
use Rattle.std.specs.Cmp.{nat_eq_equiv}
use Rattle.std.proofs.lemmas.List.Elements.{Contains-append_left, Contains-append_right}
use Rattle.c_tree.specs.declared.value.Value.TheVariants.{Func}
use Rattle.c_tree.specs.Tree.{Function, Static, Program}
use Rattle.c_meaning.specs.Mentions.{Mention, Named, mention_of_cell, mentions_of_function, mentions_of_static, mentions_of_program}
use Rattle.c_meaning.specs.CallGraph.{has_one, names, is_taken}
use Rattle.c_meaning.specs.TypedResults.{StandsIn}
use Rattle.c_meaning.proofs.Lists.{one_found, none_in, is_first}

pub left_part : (p : Program) (xs ys : List Mention) → StandsIn p (xs ++ ys) → StandsIn p xs
left_part p xs ys h m k = h m (Contains-append_left xs ys m k)

pub right_part : (p : Program) (xs ys : List Mention) → StandsIn p (xs ++ ys) → StandsIn p ys
right_part p xs ys h m k = h m (Contains-append_right xs ys m k)

pub stands_empty : (p : Program) → StandsIn p []
stands_empty p m h = absurd (none_in m h)

-- a name that is contained is found
named : (f : ℕ) (ms : List Mention) → Contains ms (Named f) → has_one (names f) ms ≡ true
named f ms h = one_found (names f) ms (Named f) h (nat_eq_equiv.refl f)

pub taken_there : (p : Program) (f : ℕ) → StandsIn p (Named f ∷ []) → is_taken p f ≡ true
taken_there p f h = named f (mentions_of_program p) (h (Named f) (is_first (Named f) []))

pub in_flat : {A B : Type 0} (f : A → List B) (xs : List A) (k : ℕ) (x : A) (y : B) → slice_get xs k ≡ Some x → Contains (f x) y → Contains (flat_map f xs) y
in_flat f [] k x y e h = absurd (cc)
in_flat {A} {B} f (z ∷ xs) zero x y e h = let same : x ≡ z = cc in Contains-append_left (f z) (flat_map f xs) y (subst (λ (x : A). Contains (f x) y) same h)
in_flat f (z ∷ xs) (suc k) x y e h = Contains-append_right (f z) (flat_map f xs) y (in_flat f xs k x y e h)

-- a function's body stands in the program
pub body_stands : (p : Program) (k : ℕ) (g : Function) → slice_get p.functions k ≡ Some g → StandsIn p (mentions_of_function g)
body_stands p k g e m h =
    Contains-append_left (flat_map mentions_of_function p.functions) (flat_map mentions_of_static p.statics) m (in_flat mentions_of_function p.functions k g m e h)

-- and so does what its static objects hold
pub static_taken : (p : Program) (k : ℕ) (s : Static) (j f : ℕ) → slice_get p.statics k ≡ Some s → slice_get s.cells j ≡ Some (Func f) → is_taken p f ≡ true
static_taken p k s j f e d =
    named f (mentions_of_program p) (Contains-append_right (flat_map mentions_of_function p.functions) (flat_map mentions_of_static p.statics) (Named f) (in_flat mentions_of_static p.statics k s (Named f) e (in_flat mention_of_cell s.cells j (Func f) (Named f) d (is_first (Named f) []))))
