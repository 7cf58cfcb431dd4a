-- The functions of the graph, one after another.
use Rattle.std.proofs.Common.{◌≡◌, ℕ, zero, suc, ◌+◌, ◌-◌, ◌<◌, ◌≤◌, Bool, true, false, nat_lt, if◌then◌else◌, List, [], ◌∷◌, ◌++◌, map, length, drop, get_or, slice_get, refl, sym, ap, ap₂, ◌∙◌, arith, drop-cons}
use Rattle.std.proofs.lemmas.Bool.Decides.{Decides-ltb}
use Rattle.std.proofs.lemmas.List.{get_or-map, length-map}
use Rattle.sys_table.specs.Table.{name_of}
use Rattle.c_tree.specs.Tree.{Function, Program}
use Rattle.c_tree.specs.Functions.{defined, name_where, name_of_function}
use Rattle.c_tree.specs.Program.{IsProgram}
use Rattle.c_meaning.specs.ShapeOf.{taken_calls, names_of_functions}
use Rattle.flow_graph.specs.declared.shape.Shape.{Shape as Tree}
use Rattle.flow_graph.specs.View.{shape_of, shapes_in}
use Rattle.c_meaning.specs.GraphOf.{functions_from}
use Rattle.c_meaning.specs.GraphLayout.{width}
use Rattle.std.proofs.lemmas.List.{drop_all}
use Rattle.flow_graph.proofs.TakenLemmas.{small_taken}

length_join : {X : Type 0} (xs ys : List X) → length (xs ++ ys) ≡ length xs + length ys
length_join [] ys = omega arith
length_join (x ∷ xs) ys = let k = length_join xs ys in omega (arith, k)

abbrev name_in : Function → List ℕ
name_in f = f.name

pub many_names : (p : Program) → length (names_of_functions p) ≡ defined p + length (taken_calls p)
many_names p =
    let k = length_join (map name_in p.functions) (map name_of (taken_calls p)) in
    let i = length-map p.functions name_in in
    let j = length-map (taken_calls p) name_of in
    omega (arith, k, i, j)

test_is : (f n : ℕ) (b : Bool) → nat_lt f n ≡ b → f < n → nat_lt f n ≡ true
test_is f n b e lt = (Decides-ltb f n).1 lt

test_not : (f n : ℕ) (b : Bool) → nat_lt f n ≡ b → n ≤ f → nat_lt f n ≡ false
test_not f n true e le = let lt = (Decides-ltb f n).0 e in absurd (omega (arith, lt, le))
test_not f n false e le = e

defined_name : (fs : List Function) (ys : List (List ℕ)) (f : ℕ) → f < length fs → name_where (slice_get fs f) ≡ get_or (map name_in fs ++ ys) f []
defined_name [] ys f lt = absurd (omega (arith, lt))
defined_name (g ∷ fs) ys zero lt = refl
defined_name (g ∷ fs) ys (suc f) lt = defined_name fs ys f (omega (arith, lt))

taken_name : (fs : List Function) (xs : List ℕ) (f : ℕ) → length fs ≤ f → f - length fs < length xs → name_of (get_or xs (f - length fs) 0) ≡ get_or (map name_in fs ++ map name_of xs) f []
taken_name [] xs f le lt =
    let z : f - 0 ≡ f = omega arith in
    ap (λ k. name_of (get_or xs k 0)) z ∙ sym (get_or-map name_of xs f 0 [] (omega (arith, lt, z)))
taken_name (g ∷ fs) xs zero le lt = absurd (omega (arith, le))
taken_name (g ∷ fs) xs (suc f) le lt =
    let z : suc f - length (g ∷ fs) ≡ f - length fs = omega arith in
    ap (λ k. name_of (get_or xs k 0)) z ∙ taken_name fs xs f (omega (arith, le)) (omega (arith, lt, z))

-- the name at a place
pub name_of_defined : (p : Program) (f : ℕ) (name : List ℕ) → f < defined p → name ≡ name_of_function p f → name ≡ get_or (names_of_functions p) f []
name_of_defined p f name lt is =
    is ∙ ap (λ b. if b then name_where (slice_get p.functions f) else name_of (f - defined p)) (test_is f (defined p) (nat_lt f (defined p)) refl lt) ∙ defined_name p.functions (map name_of (taken_calls p)) f lt

pub name_of_taken : (p : Program) (f x g : ℕ) (name : List ℕ) → defined p ≤ f → f - defined p < length (taken_calls p) → x ≡ get_or (taken_calls p) (f - defined p) 0 → g ≡ defined p + x → name ≡ name_of_function p g → name ≡ get_or (names_of_functions p) f []
name_of_taken p f x g name le lt at sum is =
    let over : defined p ≤ g = omega (arith, sum) in
    let less : g - defined p ≡ x = omega (arith, sum) in
    is
    ∙ ap (λ b. if b then name_where (slice_get p.functions g) else name_of (g - defined p)) (test_not g (defined p) (nat_lt g (defined p)) refl over)
    ∙ ap name_of (less ∙ at)
    ∙ taken_name p.functions (taken_calls p) f le lt

-- what is known at a place among the taken system calls
pub record IsTaken (p : Program) (taken : List ℕ) (place d : ℕ) : Type 0 where
  pub inside : place - defined p < length (taken_calls p)
  pub small : get_or taken (place - d) 0 < 24
  pub few : d ≤ 4098

pub taken_place : (p : Program) (n : ℕ) → IsProgram p n → (taken : List ℕ) (place d : ℕ) → taken ≡ taken_calls p → place < length (names_of_functions p) → d ≤ place → d ≡ defined p → IsTaken p taken place d
taken_place p n h taken place d are below over is =
    let many = many_names p in
    let within : place - defined p < length (taken_calls p) = omega (arith, many, below, over, is) in
    let low = small_taken p (place - defined p) within in
    let same : get_or taken (place - d) 0 ≡ get_or (taken_calls p) (place - defined p) 0 = ap (λ ts. get_or ts (place - d) 0) are ∙ ap (λ k. get_or (taken_calls p) (place - k) 0) is in
    record { inside = within; small = omega (arith, low, same); few = omega (arith, h.few_functions, is) }

-- the functions from a place on
pub next_function : (names : List (List ℕ)) (ts : List Tree) (i entry next : ℕ) (t : Tree) (name : List ℕ) → i < length names → i < length ts → name ≡ get_or names i [] → t ≡ get_or ts i t → next ≡ entry + 2 + width (shape_of t)
    → functions_from entry (drop i names) (shapes_in (drop i ts)) ≡ record { name = name; entry = entry; exit = entry + 1 } ∷ functions_from next (drop (i + 1) names) (shapes_in (drop (i + 1) ts))
next_function names ts i entry next t name lt within is at step =
    let n : i + 1 ≡ suc i = omega arith in
    let one : drop i names ≡ name ∷ drop (i + 1) names = drop-cons names i [] lt ∙ ap (λ y. y ∷ drop (suc i) names) (sym is) ∙ ap (λ m. name ∷ drop m names) (sym n) in
    let other : shapes_in (drop i ts) ≡ shape_of t ∷ shapes_in (drop (i + 1) ts) = ap shapes_in (drop-cons ts i t within) ∙ ap (λ y. shape_of y ∷ shapes_in (drop (suc i) ts)) (sym at) ∙ ap (λ m. shape_of t ∷ shapes_in (drop m ts)) (sym n) in
    ap₂ (functions_from entry) one other ∙ ap (λ m. record { name = name; entry = entry; exit = entry + 1 } ∷ functions_from m (drop (i + 1) names) (shapes_in (drop (i + 1) ts))) (sym step)

none_left : (n : ℕ) (names : List (List ℕ)) → functions_from n names [] ≡ []
none_left n [] = refl
none_left n (name ∷ names) = refl

pub no_function : (names : List (List ℕ)) (ts : List Tree) (i entry : ℕ) → length ts ≤ i → functions_from entry (drop i names) (shapes_in (drop i ts)) ≡ []
no_function names ts i entry le = ap (λ us. functions_from entry (drop i names) (shapes_in us)) (drop_all i ts le) ∙ none_left entry (drop i names)
