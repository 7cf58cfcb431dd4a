-- Objects whose cells get their values one after the other.
use Rattle.std.proofs.Common.{◌≡◌, ℕ, zero, suc, ◌+◌, ◌<◌, ◌≤◌, Bool, true, false, if◌then◌else◌, List, [], ◌∷◌, length, drop, get_or, drop-cons, Option, Some, slice_set, ap, sym, ◌∙◌, refl, arith}
use Rattle.std.specs.Prelude.{replicate, map}
use Rattle.std.proofs.lemmas.List.{drop-map}
use Rattle.c_tree.specs.declared.value.ObjectName.{ObjectName}
use Rattle.c_tree.specs.declared.value.Value.{Value}
use Rattle.c_tree.specs.declared.value.Value.TheVariants.{Indeterminate}
use Rattle.c_tree.specs.declared.tree.Static.{Static as StaticTree}
use Rattle.c_tree.specs.View.{static_of}
use Rattle.c_values.specs.Memory.{Object, Objects, same_name, changed, declared, sealed, marked}
use Rattle.c_values.specs.Cells.{with_cell, put}
use Rattle.c_meaning.specs.Meaning.{static_name}
use Rattle.c_meaning.specs.Runs.{first_objects}
pub use Rattle.c_values.proofs.StoreLemmas.{changed_there}

twice : (c : Bool) (a b o : Option Object) → (if c then b else (if c then a else o)) ≡ (if c then b else o)
twice true a b o = refl
twice false a b o = refl

pub changed_twice : (m : Objects) (x : ObjectName) (a b : Option Object) → changed (changed m x a) x b ≡ changed m x b
changed_twice m x a b = λ i y. twice (same_name x y) a b (m y) i

-- the first cells have their values, and the others are indeterminate
abbrev pub partly : ℕ → List Value → List Value
partly i [] = []
partly zero (v ∷ vs) = Indeterminate ∷ partly zero vs
partly (suc i) (v ∷ vs) = v ∷ partly i vs

abbrev pub object_of : List Value → Bool → Option Object
object_of vs string = Some (record { cells = vs; string = string })

pub partly_none : (vs : List Value) → replicate (length vs) Indeterminate ≡ partly zero vs
partly_none [] = refl
partly_none (v ∷ vs) = ap (λ us. Indeterminate ∷ us) (partly_none vs)

pub partly_length : (i : ℕ) (vs : List Value) → length (partly i vs) ≡ length vs
partly_length i [] = refl
partly_length zero (v ∷ vs) = ap suc (partly_length zero vs)
partly_length (suc i) (v ∷ vs) = ap suc (partly_length i vs)

pub partly_all : (i : ℕ) (vs : List Value) → length vs ≤ i → partly i vs ≡ vs
partly_all i [] h = refl
partly_all zero (v ∷ vs) h = absurd (omega arith)
partly_all (suc i) (v ∷ vs) h = ap (λ us. v ∷ us) (partly_all i vs (omega arith))

partly_more : (i : ℕ) (vs rest : List Value) (v : Value) → drop i vs ≡ v ∷ rest → slice_set (partly i vs) i v ≡ partly (suc i) vs
partly_more zero [] rest v h = cc
partly_more (suc i) [] rest v h = cc
partly_more zero (u ∷ us) rest v h = let e : u ≡ v = cc in ap (λ w. w ∷ partly zero us) (sym e)
partly_more (suc i) (u ∷ us) rest v h = ap (λ ws. u ∷ ws) (partly_more i us rest v h)

-- one more cell has its value
pub cell_more : (m now : Objects) (x : ObjectName) (i : ℕ) (vs rest : List Value) (v : Value) → now ≡ changed m x (object_of (partly i vs) false) → drop i vs ≡ v ∷ rest → put now x i v ≡ changed m x (object_of (partly (i + 1) vs) false)
cell_more m now x i vs rest v h is =
    let next : suc i ≡ i + 1 = omega arith in
    ap (λ n. put n x i v) h
    ∙ (changed_twice m x (object_of (partly i vs) false) (with_cell i v (changed m x (object_of (partly i vs) false) x))
    ∙ (ap (λ o. changed m x (with_cell i v o)) (changed_there m x (object_of (partly i vs) false))
    ∙ (ap (λ ws. changed m x (object_of ws false)) (partly_more i vs rest v is) ∙ ap (λ k. changed m x (object_of (partly k vs) false)) next)))

-- an object of declared cells that got their values
pub added : (m now new : Objects) (x : ObjectName) (vs : List Value) → now ≡ declared m x (length vs) → new ≡ changed now x (object_of vs false) → new ≡ changed m x (object_of vs false)
added m now new x vs h k = k ∙ (ap (λ n. changed n x (object_of vs false)) h ∙ changed_twice m x (object_of (replicate (length vs) Indeterminate) false) (object_of vs false))

-- the same as that of a string literal
pub added_string : (m now new : Objects) (x : ObjectName) (vs : List Value) → now ≡ changed m x (object_of vs false) → new ≡ sealed now x → new ≡ changed m x (object_of vs true)
added_string m now new x vs h k =
    k ∙ (ap (λ n. sealed n x) h ∙ (changed_twice m x (object_of vs false) (marked (changed m x (object_of vs false) x)) ∙ ap (λ o. changed m x (marked o)) (changed_there m x (object_of vs false))))

-- one static object more
pub static_more : (statics : List StaticTree) (n number : ℕ) (s : StaticTree) (now new : Objects) → number ≡ suc n → number ≤ length statics → s ≡ get_or statics n s → now ≡ first_objects number (drop number (map static_of statics)) → new ≡ changed now (static_name n) (object_of s.cells.items s.string) → new ≡ first_objects n (drop n (map static_of statics))
static_more statics n number s now new is within at h k =
    let below : n < length statics = omega arith in
    let here : drop n (map static_of statics) ≡ static_of s ∷ drop (suc n) (map static_of statics) = drop-map static_of n statics ∙ (ap (λ ys. map static_of ys) (drop-cons statics n s below) ∙ (ap (λ t. static_of t ∷ map static_of (drop (suc n) statics)) (sym at) ∙ ap (λ ys. static_of s ∷ ys) (sym (drop-map static_of (suc n) statics)))) in
    k ∙ (ap (λ m. changed m (static_name n) (object_of s.cells.items s.string)) (h ∙ ap (λ j. first_objects j (drop j (map static_of statics))) is) ∙ ap (first_objects n) (sym here))
