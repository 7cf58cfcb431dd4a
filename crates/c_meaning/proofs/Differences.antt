-- Differences of pointers fit an int, since each object has at most 65,536 cells and each element has one.
use Rattle.std.proofs.Common.{◌≡◌, ℕ, zero, suc, ◌+◌, ◌*◌, ◌<◌, ◌≤◌, pos, ◌-ℤ◌, List, [], ◌∷◌, ◌++◌, Some, slice_get, length, length-append, sym, ap, ◌∙◌, subst, refl, arith, FitsSigned}
use Rattle.std.specs.Int.{w32}
use Rattle.std.proofs.lemmas.Int.{ints}
use Rattle.std.proofs.lemmas.List.Elements.{All-head}
use Rattle.std.proofs.lemmas.Slice.Zip.{AllZip-long}
use Rattle.c_tree.specs.declared.value.ObjectName.{ObjectName}
use Rattle.c_tree.specs.declared.value.Pointer.{Pointer}
use Rattle.c_tree.specs.declared.value.Value.{Value}
use Rattle.c_tree.specs.Tree.{CType, integer, pointer, array, struct, Program}
use Rattle.c_tree.specs.Layout.{Structs, repeat, flat, flat_all, cells, struct_cells}
use Rattle.c_tree.specs.Functions.{int}
use Rattle.c_tree.specs.Operands.{IsComplete, IsObject}
use Rattle.c_tree.specs.Kinds.{Objects, IsPointer}
use Rattle.c_tree.specs.Program.{IsBelow, AreStructs, IsProgram}
use Rattle.c_meaning.specs.Memory.{IsInside}
use Rattle.c_meaning.specs.Memory.{Objects as Memory}
use Rattle.c_meaning.specs.Pointers.{difference}
use Rattle.c_meaning.specs.StoreTyping.{HasKind, IsCell, IsTypedMemory}
use Rattle.c_meaning.proofs.Places.{length_repeat, lies_within, struct_is}
use Rattle.c_meaning.proofs.Steps.{Right, in_one_right, cells_there}

times_more : (k c : ℕ) → 1 ≤ c → k ≤ k * c
times_more zero c h = omega arith
times_more (suc k) c h = grind (arith, times_more k c h)

module _ (structs : Structs) (are : AreStructs structs) where
  some_cell : (B : CType → Type 0) → ((t : CType) (n : ℕ) → B (array t n) → B t) → ((s : ℕ) (ts : List CType) → B (struct s) → slice_get structs s ≡ Some (Some ts) → 1 ≤ length (struct_cells structs s)) → (t : CType) → B t → IsComplete structs t → 1 ≤ cells structs t
  some_cell B a h (integer i) b c = omega arith
  some_cell B a h (pointer t) b c = omega arith
  some_cell B a h (array t n) b c =
      let one = some_cell B a h t (a t n b) c.1 in
      let long : cells structs (array t n) ≡ n * cells structs t = length_repeat n (flat structs t) in
      let more = times_more n (cells structs t) one in
      omega (arith, long, more, c.0)
  some_cell B a h (struct s) b c = h s c.0 b c.1
  some_cell B a h t b c = absurd c

  struct_some : (d s : ℕ) (ts : List CType) → are.rank s < d → slice_get structs s ≡ Some (Some ts) → 1 ≤ length (struct_cells structs s)
  struct_some zero s ts l e = absurd (omega (arith, l))
  struct_some (suc d) s [] l e = let m = are.members s [] e in absurd (omega (arith, m))
  struct_some (suc d) s (t ∷ ts) l e =
      let one = some_cell (IsBelow are.rank (are.rank s)) (λ t n b. b) (λ u us b k. struct_some d u us (omega (arith, b, l)) k) t (All-head (IsBelow are.rank (are.rank s)) t ts (are.below s (t ∷ ts) e)) (All-head (IsComplete structs) t ts (are.complete s (t ∷ ts) e)) in
      let long = length-append (flat structs t) (flat_all structs ts) in
      let is : length (struct_cells structs s) ≡ length (flat structs t ++ flat_all structs ts) = ap (λ (xs : List CType). length xs) (struct_is structs are s (t ∷ ts) e) in
      omega (arith, one, long, is)

  pub has_cell : (t : CType) → IsComplete structs t → 1 ≤ cells structs t
  has_cell t c = some_cell (λ t. Unit {0}) (λ t n b. tt) (λ s ts b e. struct_some (suc (are.rank s)) s ts (omega arith) e) t tt c

module _ (p : Program) (n : ℕ) (typed : IsProgram p n) where
  -- the elements lie in the object
  elements_within : (o : Objects) (t : CType) (q : Pointer) (h : IsPointer p.structs o t q) → 0 < q.elements * q.width → q.first + q.elements * q.width ≤ length (h.all)
  elements_within o t q h l =
      let e : length (repeat q.elements (flat p.structs t)) ≡ q.elements * q.width = length_repeat q.elements (flat p.structs t) ∙ ap (λ k. q.elements * k) (sym h.wide) in
      let l' : 0 < length (repeat q.elements (flat p.structs t)) = omega (arith, e, l) in
      let w = lies_within (h.all) (repeat q.elements (flat p.structs t)) q.first h.lies l' in
      omega (arith, e, w)

  pub inside : (o : Objects) (m : Memory) (t : CType) (q : Pointer) → IsTypedMemory p o m → IsPointer p.structs o t q → 0 < q.elements * q.width → IsInside m q
  inside o m t q k h l ob e =
      let long = AllZip-long (IsCell p o) h.all ob.cells (cells_there p n typed o m q.name h.all ob k h.known e) in
      let w = elements_within o t q h l in
      (omega (arith, long, w), h.within)

  elements_few : (o : Objects) (t : CType) (q : Pointer) → ((x : ObjectName) (all : List CType) → o x ≡ Some all → length all ≤ 65536) → IsPointer p.structs o t q → q.elements ≤ 65536
  elements_few o t q few h = at q.elements refl
    where
      at : (k : ℕ) → q.elements ≡ k → k ≤ 65536
      at zero e = omega arith
      at (suc k) e =
          let one = has_cell p.structs typed.structs t h.object.complete in
          let more = times_more q.elements q.width (subst (λ w. 1 ≤ w) (sym h.wide) one) in
          let some : 0 < q.elements * q.width = omega (arith, e, more) in
          let w = elements_within o t q h some in
          let f = few q.name h.all h.known in
          omega (arith, e, more, w, f)

  pub difference_right : (o : Objects) (t : CType) (v w : Value) (m : Memory) → IsObject p.structs t → ((x : ObjectName) (all : List CType) → o x ≡ Some all → length all ≤ 65536) → HasKind p o (pointer t) v → HasKind p o (pointer t) w → Right {A = Value} (HasKind p o int) (difference m v w)
  difference_right o t v w m b few h k =
      in_one_right p n typed {A = Value} (HasKind p o int) o t v w m _ b h k (λ x y i j. (refl, small x.index y.index (less x i) (less y j)))
    where
      less : (x : Pointer) → IsPointer p.structs o t x → x.index ≤ 65536
      less x i = let f = elements_few o t x few i in omega (arith, f, i.within)

      small : (a b : ℕ) → a ≤ 65536 → b ≤ 65536 → FitsSigned w32 (pos a -ℤ pos b)
      small a b f g = grind (arith, ints, f, g)
