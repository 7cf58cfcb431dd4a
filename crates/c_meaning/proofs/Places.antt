-- Lists of cells, and typed memory.
use Rattle.std.proofs.Common.{◌≡◌, ℕ, zero, suc, ◌+◌, ◌*◌, ◌<◌, ◌≤◌, if◌then◌else◌, Bool, true, false, ℤ, FitsSigned, List, [], ◌∷◌, ◌++◌, All, Option, Some, None, slice_get, slice_set, replicate, length, length-append, sym, ap, ◌∙◌, subst, refl, arith}
use Rattle.std.specs.Int.{w32}
use Rattle.std.specs.List.{AllZip}
use Rattle.std.proofs.lemmas.Option.{get_or_from_slice_get, slice_get_within}
use Rattle.std.proofs.lemmas.List.Elements.{All-nil, All-cons, All-append, All-head, All-tail}
use Rattle.c_tree.specs.declared.value.ObjectName.{ObjectName}
use Rattle.c_tree.specs.declared.value.IntType.TheVariants as i
use Rattle.c_tree.specs.declared.value.Pointer.{Pointer}
use Rattle.c_tree.specs.declared.value.Value.{Value}
use Rattle.c_tree.specs.declared.value.Value.TheVariants.{Indeterminate, Int, Uint, Null, Func, At}
use Rattle.c_tree.specs.Tree.{CType, integer, pointer, array, struct, Program}
use Rattle.c_tree.specs.Layout.{Structs, or_none, repeat, flat_with, flat_all_with, layout, struct_cells, flat, flat_all, cells, cells_of_all, first_cell}
use Rattle.c_tree.specs.Operands.{IsScalar, IsObject}
use Rattle.c_tree.specs.Kinds.{Objects, Lies}
use Rattle.c_tree.specs.Program.{IsBelow, AreStructs}
use Rattle.c_meaning.specs.Memory.{Object, same_name, changed, ended}
use Rattle.c_meaning.specs.Memory.{Objects as Memory}
pub use Rattle.c_tree.proofs.CountLemmas.{element_object, length-repeat as length_repeat}
use Rattle.c_meaning.specs.Pointers.{place}
use Rattle.c_meaning.proofs.StoreLemmas.{same_is}
use Rattle.c_meaning.specs.StoreTyping.{HasKind, IsCell, IsGiven, IsPlaced, IsTypedMemory, Grows}

pub all_get : {A : Type 0} (P : A → Type 0) (xs : List A) (k : ℕ) (x : A) → All P xs → slice_get xs k ≡ Some x → P x
all_get P xs k x h e = subst P (get_or_from_slice_get xs k x x e) (h k x (slice_get_within xs k x e))

pub get_right : {A : Type 0} (xs ys : List A) (k : ℕ) → slice_get (xs ++ ys) (length xs + k) ≡ slice_get ys k
get_right [] ys k = ap (λ n. slice_get ys n) (omega arith)
get_right (x ∷ xs) ys k = grind (arith, get_right xs ys k)

pub get_before : {A : Type 0} (xs ys : List A) (k : ℕ) → k < length xs → slice_get (xs ++ ys) k ≡ slice_get xs k
get_before [] ys k h = absurd (omega arith)
get_before (x ∷ xs) ys zero h = refl
get_before (x ∷ xs) ys (suc k) h = get_before xs ys k (omega arith)

pub get_left : {A : Type 0} (xs ys : List A) (k : ℕ) (t : A) → slice_get xs k ≡ Some t → slice_get (xs ++ ys) k ≡ Some t
get_left xs ys k t h = get_before xs ys k (slice_get_within xs k t h) ∙ h

-- at the same place
pub at_place : {A : Type 0} (xs : List A) (t : A) (i j : ℕ) → i ≡ j → slice_get xs i ≡ Some t → slice_get xs j ≡ Some t
at_place xs t i j e h = subst (λ k. slice_get xs k ≡ Some t) e h

-- what lies in a part lies in the whole
pub lies_in : (all part sub : List CType) (i j : ℕ) → Lies all i part → Lies part j sub → Lies all (i + j) sub
lies_in all part sub i j h g k t e = at_place all t (i + (j + k)) ((i + j) + k) (omega arith) (h (j + k) t (g k t e))

pub lies_whole : (all : List CType) → Lies all 0 all
lies_whole all k t e = at_place all t k (0 + k) (omega arith) e

pub repeat_lies : (n k : ℕ) (xs : List CType) → k < n → Lies (repeat n xs) (k * length xs) xs
repeat_lies zero k xs h j t e = absurd (omega arith)
repeat_lies (suc n) zero xs h j t e = at_place (xs ++ repeat n xs) t j (0 * length xs + j) (omega arith) (get_left xs (repeat n xs) j t e)
repeat_lies (suc n) (suc k) xs h j t e =
    at_place (xs ++ repeat n xs) t (length xs + (k * length xs + j)) (suc k * length xs + j) (grind arith) (get_right xs (repeat n xs) (k * length xs + j) ∙ repeat_lies n k xs (omega arith) j t e)

-- one element, and its array of one
pub lies_once : (all xs : List CType) (i : ℕ) → Lies all i xs → Lies all i (repeat 1 xs)
lies_once all xs i h k t e = h k t (once xs k t e)
  where
    once : (xs : List CType) (k : ℕ) (t : CType) → slice_get (xs ++ []) k ≡ Some t → slice_get xs k ≡ Some t
    once (x ∷ xs) (suc k) t e = once xs k t e
    once xs k t e = e

last_get : (x : CType) (xs : List CType) → (t : CType) × (slice_get (x ∷ xs) (length xs) ≡ Some t)
last_get x [] = (x, refl)
last_get x (y ∷ ys) = let e = last_get y ys in (e.0, grind (arith, e.1))

pub lies_within : (all part : List CType) (i : ℕ) → Lies all i part → 0 < length part → i + length part ≤ length all
lies_within all [] i h l = absurd (omega arith)
lies_within all (x ∷ xs) i h l =
    let e = last_get x xs in
    omega (arith, slice_get_within all (i + length xs) e.0 (h (length xs) e.0 e.1))

-- the types of cells are scalars
scalars_repeat : (n : ℕ) (xs : List CType) → All IsScalar xs → All IsScalar (repeat n xs)
scalars_repeat zero xs h = All-nil IsScalar
scalars_repeat (suc n) xs h = All-append IsScalar xs (repeat n xs) h (scalars_repeat n xs h)

with_scalars : (layout : ℕ → List CType) → ((s : ℕ) → All IsScalar (layout s)) → (u : CType) → All IsScalar (flat_with layout u)
with_scalars layout h (integer i) = All-cons IsScalar (integer i) [] tt (All-nil IsScalar)
with_scalars layout h (pointer u) = All-cons IsScalar (pointer u) [] tt (All-nil IsScalar)
with_scalars layout h (array u n) = scalars_repeat n (flat_with layout u) (with_scalars layout h u)
with_scalars layout h (struct s) = h s
with_scalars layout h u = All-nil IsScalar

all_scalars : (layout : ℕ → List CType) → ((s : ℕ) → All IsScalar (layout s)) → (us : List CType) → All IsScalar (flat_all_with layout us)
all_scalars layout h [] = All-nil IsScalar
all_scalars layout h (u ∷ us) = All-append IsScalar (flat_with layout u) (flat_all_with layout us) (with_scalars layout h u) (all_scalars layout h us)

layout_scalars : (structs : Structs) (d s : ℕ) → All IsScalar (layout structs d s)
layout_scalars structs zero s = All-nil IsScalar
layout_scalars structs (suc d) s = all_scalars (layout structs d) (layout_scalars structs d) (or_none (slice_get structs s))

pub flat_scalar : (structs : Structs) (u : CType) (k : ℕ) (t : CType) → slice_get (flat structs u) k ≡ Some t → IsScalar t
flat_scalar structs u k t e = all_get IsScalar (flat structs u) k t (with_scalars (struct_cells structs) (layout_scalars structs (length structs)) u) e

module _ (structs : Structs) where
  pub member_lies : (ms : List CType) (i : ℕ) (t : CType) → slice_get ms i ≡ Some t → Lies (flat_all structs ms) (first_cell structs ms i) (flat structs t)
  member_lies [] i t e k u h = absurd (cc)
  member_lies (m ∷ ms) zero t e k u h =
      let same : t ≡ m = cc in
      at_place (flat structs m ++ flat_all structs ms) u k (0 + k) (omega arith) (get_left (flat structs m) (flat_all structs ms) k u (subst (λ t. slice_get (flat structs t) k ≡ Some u) same h))
  member_lies (m ∷ ms) (suc i) t e k u h =
      at_place (flat structs m ++ flat_all structs ms) u (cells structs m + (first_cell structs ms i + k)) ((cells structs m + first_cell structs ms i) + k) (omega arith) (get_right (flat structs m) (flat_all structs ms) (first_cell structs ms i + k) ∙ member_lies ms i t e k u h)

  pub member_few : (ms : List CType) (i : ℕ) (t : CType) → slice_get ms i ≡ Some t → cells structs t ≤ cells_of_all structs ms
  member_few [] i t e = absurd (cc)
  member_few (m ∷ ms) zero t e = grind (arith, length-append (flat structs m) (flat_all structs ms))
  member_few (m ∷ ms) (suc i) t e = grind (arith, length-append (flat structs m) (flat_all structs ms), member_few ms i t e)

  -- a scalar has one cell
  pub flat_one : (t : CType) → IsScalar t → flat structs t ≡ t ∷ []
  flat_one (integer k) h = refl
  flat_one (pointer t) h = refl
  flat_one t h = absurd h

  pub scalar_cell : (all : List CType) (i : ℕ) (t : CType) → IsScalar t → Lies all i (flat structs t) → slice_get all i ≡ Some t
  scalar_cell all i t h l = at_place all t (i + 0) i (omega arith) (l 0 t (ap (λ xs. slice_get xs 0) (flat_one t h)))

  -- a scalar is an object
  pub scalar_object : (t : CType) → IsScalar t → IsObject structs t
  scalar_object (integer k) h = record { complete = tt; few = omega arith }
  scalar_object (pointer t) h = record { complete = tt; few = omega arith }
  scalar_object t h = absurd h

same_flat : (rank : ℕ → ℕ) (r : ℕ) (f g : ℕ → List CType) (t : CType) → IsBelow rank r t → ((u : ℕ) → rank u < r → f u ≡ g u) → flat_with f t ≡ flat_with g t
same_flat rank r f g (array t n) b e = ap (repeat n) (same_flat rank r f g t b e)
same_flat rank r f g (struct s) b e = e s b
same_flat rank r f g t b e = refl

same_flat_all : (rank : ℕ → ℕ) (r : ℕ) (f g : ℕ → List CType) (ts : List CType) → All (IsBelow rank r) ts → ((u : ℕ) → rank u < r → f u ≡ g u) → flat_all_with f ts ≡ flat_all_with g ts
same_flat_all rank r f g [] b e = refl
same_flat_all rank r f g (t ∷ ts) b e = ap (λ xs. xs ++ flat_all_with f ts) (same_flat rank r f g t (All-head (IsBelow rank r) t ts b) e) ∙ ap (λ ys. flat_with g t ++ ys) (same_flat_all rank r f g ts (All-tail (IsBelow rank r) t ts b) e)

same_members : (rank : ℕ → ℕ) (s : ℕ) (f g : ℕ → List CType) (c : Option (Option (List CType))) → ((ts : List CType) → c ≡ Some (Some ts) → All (IsBelow rank (rank s)) ts) → ((u : ℕ) → rank u < rank s → f u ≡ g u) → flat_all_with f (or_none c) ≡ flat_all_with g (or_none c)
same_members rank s f g (Some (Some ts)) b e = same_flat_all rank (rank s) f g ts (b ts refl) e
same_members rank s f g c b e = refl

-- further rounds find no more cells
settled_layout : (structs : Structs) (rank : ℕ → ℕ) → ((s : ℕ) (ts : List CType) → slice_get structs s ≡ Some (Some ts) → All (IsBelow rank (rank s)) ts) → (n k s : ℕ) → rank s < n → n ≤ k → layout structs n s ≡ layout structs k s
settled_layout structs rank h (suc n) (suc k) s l m =
    same_members rank s (layout structs n) (layout structs k) (slice_get structs s) (λ ts e. h s ts e) (λ u d. settled_layout structs rank h n k u (omega arith) (omega arith))
settled_layout structs rank h n k s l m = absurd (omega arith)

-- the cells of a struct are those of its members
pub struct_is : (structs : Structs) → AreStructs structs → (s : ℕ) (ts : List CType) → slice_get structs s ≡ Some (Some ts) → struct_cells structs s ≡ flat_all structs ts
struct_is structs h s ts e =
    settled_layout structs (h.rank) (h.below) (length structs) (suc (length structs)) s (h.ranked s ts e) (omega arith) ∙ ap (λ c. flat_all_with (struct_cells structs) (or_none c)) e

module _ (P : CType → Value → Type 0) where
  pub zip_get : (ts : List CType) (vs : List Value) (i : ℕ) (t : CType) → AllZip P ts vs → slice_get ts i ≡ Some t → (v : Value) × (slice_get vs i ≡ Some v) × P t v
  zip_get (u ∷ ts) (v ∷ vs) zero t z e = let same : u ≡ t = cc in (v, refl, subst (λ t. P t v) same z.0)
  zip_get (u ∷ ts) (v ∷ vs) (suc i) t z e = zip_get ts vs i t z.1 e
  zip_get ts vs i t z e = absurd (grind (arith, z, e))

  pub zip_set : (ts : List CType) (vs : List Value) (i : ℕ) (t : CType) (v : Value) → AllZip P ts vs → slice_get ts i ≡ Some t → P t v → AllZip P ts (slice_set vs i v)
  zip_set (u ∷ ts) (w ∷ vs) zero t v z e h = let same : t ≡ u = cc in (subst (λ t. P t v) same h, z.1)
  zip_set (u ∷ ts) (w ∷ vs) (suc i) t v z e h = (z.0, zip_set ts vs i t v z.1 e h)
  zip_set ts vs i t v z e h = absurd (grind (arith, z, e))

pub zip_all : (P Q : CType → Value → Type 0) (ts : List CType) (vs : List Value) → ((t : CType) (v : Value) → P t v → Q t v) → AllZip P ts vs → AllZip Q ts vs
zip_all P Q [] [] k z = tt
zip_all P Q (t ∷ ts) (v ∷ vs) k z = (k t v z.0, zip_all P Q ts vs k z.1)
zip_all P Q ts vs k z = absurd z

pub grows_on : (o u v : Objects) → Grows o u → Grows u v → Grows o v
grows_on o u v g h x all e = h x all (g x all e)

pub grows_none : (o : Objects) → Grows o o
grows_none o x all e = e

module _ (p : Program) where
  -- what stands in an object, as a place
  pub placed_at : (o : Objects) (t : CType) (x : ObjectName) (cell width : ℕ) (all : List CType) → IsObject p.structs t → o x ≡ Some all → width ≡ cells p.structs t → Lies all cell (flat p.structs t) → IsPlaced p o t (place x cell width)
  placed_at o t x cell width all b e w l = record { object = b; all = all; known = e; wide = w; alone = refl; first = refl; lies = l }

  -- the values of int, of unsigned int and of pointers
  pub int_value : (o : Objects) (P : Value → Type 0) (v : Value) → HasKind p o (integer i.Int) v → ((z : ℤ) → FitsSigned w32 z → P (Int z)) → P v
  int_value o P (Int z) h k = k z h.1
  int_value o P v h k = absurd (grind (arith, h))

  pub uint_value : (o : Objects) (P : Value → Type 0) (v : Value) → HasKind p o (integer i.Uint) v → ((n : ℕ) → n < 4294967296 → P (Uint n)) → P v
  uint_value o P (Uint n) h k = k n h.1
  uint_value o P v h k = absurd (grind (arith, h))

  pub pointer_value : (o : Objects) (t : CType) (P : Value → Type 0) (v : Value) → HasKind p o (pointer t) v → P Null → ((f : ℕ) → HasKind p o (pointer t) (Func f) → P (Func f)) → ((q : Pointer) → HasKind p o (pointer t) (At q) → P (At q)) → P v
  pointer_value o t P Null h a b c = a
  pointer_value o t P (Func f) h a b c = b f h
  pointer_value o t P (At q) h a b c = c q h
  pointer_value o t P v h a b c = absurd (grind (arith, h))

  pub carry : (o u : Objects) (t : CType) (v : Value) → Grows o u → HasKind p o t v → HasKind p u t v
  carry o u t (At q) g h = (h.0, h.1, record { object = h.2.object; all = h.2.all; known = g _ _ (h.2.known); within = h.2.within; wide = h.2.wide; lies = h.2.lies })
  carry o u t v g h = h

  pub carry_place : (o u : Objects) (t : CType) (v : Value) → Grows o u → IsPlaced p o t v → IsPlaced p u t v
  carry_place o u t (At q) g h = record { object = h.object; all = h.all; known = g _ _ (h.known); wide = h.wide; alone = h.alone; first = h.first; lies = h.lies }
  carry_place o u t v g h = h

  pub kind_cell : (o : Objects) (t : CType) (v : Value) → HasKind p o t v → IsCell p o t v
  kind_cell o t Indeterminate h = tt
  kind_cell o t v h = h

  pub carry_cell : (o u : Objects) (t : CType) (v : Value) → Grows o u → IsCell p o t v → IsCell p u t v
  carry_cell o u t (At q) g h = carry o u t (At q) g h
  carry_cell o u t v g h = h

  pub carry_given : (o u : Objects) (owed : Bool) (t : CType) (v : Value) → Grows o u → IsGiven p o owed t v → IsGiven p u owed t v
  carry_given o u true t v g h = carry o u t v g h
  carry_given o u false t v g h = carry_cell o u t v g h

  -- a value of the type may be given also where none is owed
  pub kind_given : (o : Objects) (owed : Bool) (t : CType) (v : Value) → HasKind p o t v → IsGiven p o owed t v
  kind_given o true t v h = h
  kind_given o false t v h = kind_cell o t v h

  pub carry_all : (o u : Objects) (ts : List CType) (vs : List Value) → Grows o u → AllZip (HasKind p o) ts vs → AllZip (HasKind p u) ts vs
  carry_all o u ts vs g z = zip_all (HasKind p o) (HasKind p u) ts vs (λ t v h. carry o u t v g h) z

  pub blank : (o : Objects) (ts : List CType) → AllZip (IsCell p o) ts (replicate (length ts) Indeterminate)
  blank o [] = tt
  blank o (t ∷ ts) = (tt, blank o ts)

  pub memory_changed : (o : Objects) (m : Memory) (x : ObjectName) (all : List CType) (ob : Object) → IsTypedMemory p o m → o x ≡ Some all → AllZip (IsCell p o) all ob.cells → IsTypedMemory p o (changed m x (Some ob))
  memory_changed o m x all ob h e z y new g = at (same_name x y) refl g
    where
      at : (b : Bool) → same_name x y ≡ b → (if b then Some ob else m y) ≡ Some new → (all : List CType) × (o y ≡ Some all) × AllZip (IsCell p o) all new.cells
      at true s g =
          let same : ob ≡ new = cc in
          (all, ap o (sym (same_is x y s)) ∙ e, subst (λ (ob : Object). AllZip (IsCell p o) all ob.cells) same z)
      at false s g = h y new g

  pub memory_ended : (o : Objects) (m : Memory) (x : ObjectName) → IsTypedMemory p o m → IsTypedMemory p o (ended m x)
  memory_ended o m x h y new g = at (same_name x y) g
    where
      at : (b : Bool) → (if b then None else m y) ≡ Some new → (all : List CType) × (o y ≡ Some all) × AllZip (IsCell p o) all new.cells
      at true g = absurd (cc)
      at false g = h y new g

  pub memory_grows : (o u : Objects) (m : Memory) → Grows o u → IsTypedMemory p o m → IsTypedMemory p u m
  memory_grows o u m g h x ob e =
      let a = h x ob e in
      (a.0, g x a.0 a.1, zip_all (IsCell p o) (IsCell p u) a.0 ob.cells (λ t v h. carry_cell o u t v g h) a.2)
