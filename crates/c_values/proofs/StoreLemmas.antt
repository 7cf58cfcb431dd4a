-- What a store that succeeds has found and made.
use Rattle.std.proofs.Common.{◌≡◌, ◌≢◌, ℕ, zero, suc, ◌+◌, Bool, true, false, if◌then◌else◌, nat_eq, List, [], ◌∷◌, Option, Some, None, slice_get, slice_set, ap, sym, ◌∙◌, refl}
use Rattle.std.proofs.lemmas.Option.{none-some}
use Rattle.std.proofs.lemmas.Bool.{eq-eqb, eqb-true}
use Rattle.c_tree.specs.declared.value.ObjectName.{ObjectName}
use Rattle.c_tree.specs.declared.value.Pointer.{Pointer}
use Rattle.c_tree.specs.declared.value.Value.{Value}
use Rattle.c_values.specs.Answers.{Answer, gives, undefined, and_then}
use Rattle.c_values.specs.Memory.{same_name, Object, Objects, changed, there, object, element, cell_value, load, writable, set_cell, store, ended}
use Rattle.c_values.specs.MemoryLaws.{StoredIsLoaded, OthersAreKept, EndedIsUndefined}

pub same_itself : (x : ObjectName) → same_name x x ≡ true
same_itself x =
    ap (λ b. if b then nat_eq x.variable x.variable else false) (eq-eqb x.activation x.activation refl) ∙ eq-eqb x.variable x.variable refl

pub same_is : (x y : ObjectName) → same_name x y ≡ true → x ≡ y
same_is x y h = at (nat_eq x.activation y.activation) refl h
  where
    at : (b : Bool) → nat_eq x.activation y.activation ≡ b → (if b then nat_eq x.variable y.variable else false) ≡ true → x ≡ y
    at true e k = let a = eqb-true x.activation y.activation e in let c = eqb-true x.variable y.variable k in λ i. record { activation = a i; variable = c i }
    at false e k = cc

pub changed_there : (m : Objects) (x : ObjectName) (o : Option Object) → changed m x o x ≡ o
changed_there m x o = ap (λ b. if b then o else m x) (same_itself x)

changed_elsewhere : (m : Objects) (x y : ObjectName) (o : Option Object) → y ≢ x → changed m x o y ≡ m y
changed_elsewhere m x y o apart = at (same_name x y) refl
  where
    at : (b : Bool) → same_name x y ≡ b → (if b then o else m y) ≡ m y
    at true e = absurd (apart (sym (same_is x y e)))
    at false e = refl

abbrev is_given : {A : Type 0} → Answer A → Bool
is_given (gives a) = true
is_given (undefined kind) = false

abbrev given_or : {A : Type 0} → A → Answer A → A
given_or d (gives a) = a
given_or d (undefined kind) = d

not_given : {A : Type 0} (kind : ℕ) (a : A) → undefined kind ≡ gives a → ⊥
not_given kind a e = let h : false ≡ true = ap is_given e in cc

-- the first step of two that give something gives something
first_gives : {A B : Type 0} (x : Answer A) (f : A → Answer B) (b : B) → and_then x f ≡ gives b → (a : A) × (x ≡ gives a) × (f a ≡ gives b)
first_gives (gives a) f b h = (a, refl, h)
first_gives (undefined kind) f b h = absurd (not_given kind b h)

-- what a store that succeeds has found and made
record Stored (m new : Objects) (q : Pointer) (cell : ℕ) (v : Value) : Type 0 where
  first : ℕ
  made : Object
  found : element q ≡ gives first
  has : slice_get made.cells (first + cell) ≡ Some v
  changes : new ≡ changed m q.name (Some made)

set_there : (xs : List Value) (i : ℕ) (v old : Value) → slice_get xs i ≡ Some old → slice_get (slice_set xs i v) i ≡ Some v
set_there [] zero v old h = absurd (none-some old h)
set_there [] (suc i) v old h = absurd (none-some old h)
set_there (x ∷ xs) zero v old h = refl
set_there (x ∷ xs) (suc i) v old h = set_there xs i v old h

cell_set : (xs : List Value) (i : ℕ) (v : Value) (old : Option Value) (o : Object) → slice_get xs i ≡ old → set_cell xs i v old ≡ gives o → slice_get o.cells i ≡ Some v
cell_set xs i v None o e h = absurd (not_given 13 o h)
cell_set xs i v (Some old) o e h = let c : slice_set xs i v ≡ o.cells = ap (λ a. (given_or o a).cells) h in ap (λ ys. slice_get ys i) (sym c) ∙ set_there xs i v old e

stored : (m new : Objects) (q : Pointer) (cell : ℕ) (v : Value) → store m q cell v ≡ gives new → Stored m new q cell v
stored m new q cell v h =
    let a = first_gives {A = Object} {B = Objects} (object m q.name) _ new h in
    let b = first_gives {A = ℕ} {B = Objects} (element q) _ new a.2 in
    let c = first_gives {A = List Value} {B = Objects} (writable a.0) _ new b.2 in
    let d = first_gives {A = Object} {B = Objects} (set_cell c.0 (b.0 + cell) v (slice_get c.0 (b.0 + cell))) _ new c.2 in
    record {
      first = b.0;
      made = d.0;
      found = b.1;
      has = cell_set c.0 (b.0 + cell) v (slice_get c.0 (b.0 + cell)) d.0 refl d.1;
      changes = sym (ap (given_or m) d.2);
    }

pub stored_is_loaded : StoredIsLoaded
stored_is_loaded m new q cell v h = at (stored m new q cell v h)
  where
    at : Stored m new q cell v → load new q cell ≡ cell_value (Some v)
    at s =
        ap (λ n. and_then (there (n q.name)) (λ o. and_then (element q) (λ first. cell_value (slice_get o.cells (first + cell))))) s.changes
        ∙ (ap (λ o. and_then (there o) (λ o. and_then (element q) (λ first. cell_value (slice_get o.cells (first + cell))))) (changed_there m q.name (Some s.made))
        ∙ (ap (λ e. and_then e (λ first. cell_value (slice_get s.made.cells (first + cell)))) s.found ∙ ap cell_value s.has))

pub others_are_kept : OthersAreKept
others_are_kept m new q cell v h x apart = at (stored m new q cell v h)
  where
    at : Stored m new q cell v → new x ≡ m x
    at s = ap (λ n. n x) s.changes ∙ changed_elsewhere m q.name x (Some s.made) apart

pub ended_is_undefined : EndedIsUndefined
ended_is_undefined m q cell v =
    (ap (λ o. and_then (there o) (λ o. and_then (element q) (λ first. cell_value (slice_get o.cells (first + cell))))) (changed_there m q.name None), ap (λ o. and_then (there o) (λ o. and_then (element q) (λ first. and_then (writable o) (λ cells. and_then (set_cell cells (first + cell) v (slice_get cells (first + cell))) (λ new. gives (changed (ended m q.name) q.name (Some new))))))) (changed_there m q.name None))
