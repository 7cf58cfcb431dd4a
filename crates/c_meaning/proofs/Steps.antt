-- Steps on values and memory answer rightly, where these are typed.
use Rattle.std.proofs.Common.{◌≡◌, inl, inr, ℕ, ◌+◌, ◌*◌, ◌<◌, ◌≤◌, nat_lt, nat_le, if◌then◌else◌, Bool, true, false, not, ℤ, pos, negsuc, ◌+ℤ◌, ◌-ℤ◌, neg_ℤ, List, map, All, Option, Some, None, slice_get, slice_set, length, sym, ap, subst, refl, arith}
use Rattle.std.specs.List.{AllZip, list_all}
use Rattle.std.proofs.lemmas.Bool.{false≢true}
use Rattle.std.proofs.lemmas.Bool.Decides.{nat_tests}
use Rattle.std.proofs.lemmas.Int.{ints}
use Rattle.std.proofs.lemmas.List.Elements.{All-append, All-map, All-weaker}
use Rattle.std.proofs.lemmas.List.Sums.{AllPass-from_list_all}
use Rattle.c_tree.specs.declared.value.IntType.{IntType}
use Rattle.c_tree.specs.declared.value.IntType.TheVariants as i
use Rattle.c_tree.specs.declared.value.UnOp.{UnOp}
use Rattle.c_tree.specs.declared.value.UnOp.TheVariants.{Minus, Complement, Not}
use Rattle.c_tree.specs.declared.value.BinOp.{BinOp}
use Rattle.c_tree.specs.declared.value.BinOp.TheVariants.{ShiftLeft, ShiftRight, Less, Greater, LessEqual, GreaterEqual, Equal, NotEqual}
use Rattle.c_tree.specs.declared.value.ObjectName.{ObjectName}
use Rattle.c_tree.specs.declared.value.Pointer.{Pointer}
use Rattle.c_tree.specs.declared.value.Value.{Value}
use Rattle.c_tree.specs.declared.value.Value.TheVariants.{Indeterminate, Int, Uint, Null, Func, At}
use Rattle.c_tree.specs.Tree.{CType, void, integer, pointer, array, struct, function, CTypes, list_of, Program}
use Rattle.c_tree.specs.Layout.{Structs, repeat, flat, cells, flat_all, first_cell}
use Rattle.c_tree.specs.Functions.{int, sys_types, null_types, type_of_defined, value_types, called_types, value_type, called_type}
use Rattle.c_tree.specs.Operands.{IsScalar, IsComplete, IsObject, IsTarget, promoted, common, IsPromoted, IsIntegerType, IsObjectPointer, OperatorKind, balanced, shift, ordering, equality, kind_of, AreOperands, FitsArithmetic, FitsUnary, AreComparable, FitsComparison, FitsPointerAdd, FitsRightSide, FitsUpdate, Decays}
use Rattle.c_tree.specs.Kinds.{Objects, Lies, IsPointer, IsConstant}
use Rattle.c_tree.specs.OperatorTypes.{IsAnswer, IsGiven as IsConverted}
use Rattle.c_tree.specs.Operators.{Answer, gives, undefined, and_then, fits_int, fitting, settle, truth, table_of, convert, unary, negated, binary}
use Rattle.c_tree.specs.Program.{IsFunction, IsProgram}
use Rattle.c_tree.specs.Typed.{IsMemberOf}
use Rattle.c_tree.proofs.OperatorLemmas.{converted, arithmetic_fits, below_32}
use Rattle.c_meaning.specs.Memory.{Object, there, element, cell_value, load, set_cell, store, changed}
use Rattle.c_meaning.specs.Memory.{Objects as Memory}
use Rattle.c_meaning.specs.Meaning.{behind_of, decayed, operated, comparing, moving, computing, is_subtraction, updated}
use Rattle.c_meaning.specs.Pointers.{callee, number, truth_value, behind, load_place, store_place, member, to_first, at_index, offset, moved, same_array, in_one_array, alive, equal_pointers, compared, test}
use Rattle.c_meaning.specs.Pointers.{pointer as pointed}
use Rattle.c_meaning.specs.CallGraph.{is_taken}
use Rattle.c_meaning.specs.StoreTyping.{HasKind, IsCell, IsPlaceAt, IsPlaced, IsTypedMemory}
use Rattle.c_meaning.proofs.Places.{placed_at, all_get, at_place, int_value, uint_value, pointer_value, get_left, lies_in, repeat_lies, lies_once, member_lies, member_few, scalar_cell, scalar_object, element_object, struct_is, zip_get, zip_set, kind_cell, memory_changed}

-- an answer is what it should be, or one of the kinds U1 to U12
abbrev pub Right : {A : Type 0} → (A → Type 0) → Answer A → Type 0
Right ok (gives a) = ok a
Right ok (undefined kind) = (1 ≤ kind) × (kind ≤ 12)

pub right_then : {A B : Type 0} (okA : A → Type 0) (okB : B → Type 0) (r : Answer A) (f : A → Answer B) → Right okA r → ((a : A) → okA a → Right okB (f a)) → Right okB (and_then r f)
right_then okA okB (gives a) f h k = k a h
right_then okA okB (undefined kind) f h k = h

-- where the object is there
pub there_right : {B : Type 0} (ok : B → Type 0) (c : Option Object) (f : Object → Answer B) → ((ob : Object) → c ≡ Some ob → Right {A = B} ok (f ob)) → Right {A = B} ok (and_then (there c) f)
there_right ok None f k = (omega arith, omega arith)
there_right ok (Some ob) f k = k ob refl

-- where the test holds
pub tested_right : {B : Type 0} (ok : B → Type 0) (b : Bool) (r : Answer B) (kind : ℕ) → 1 ≤ kind → kind ≤ 12 → (b ≡ true → Right {A = B} ok r) → Right {A = B} ok (if b then r else undefined kind)
tested_right ok true r kind l m h = h refl
tested_right ok false r kind l m h = (l, m)

-- where the object is no string
pub writable_right : {B : Type 0} (ok : B → Type 0) (string : Bool) (cells : List Value) (f : List Value → Answer B) → Right {A = B} ok (f cells) → Right {A = B} ok (and_then (if string then undefined 10 else gives cells) f)
writable_right ok true cells f h = (omega arith, omega arith)
writable_right ok false cells f h = h

-- where the pointer is not one past
pub element_right : {B : Type 0} (ok : B → Type 0) (q : Pointer) (f : ℕ → Answer B) → (q.index < q.elements → Right {A = B} ok (f (q.first + q.index * q.width))) → Right {A = B} ok (and_then (element q) f)
element_right {B} ok q f k = at (nat_lt q.index q.elements) refl
  where
    at : (b : Bool) → nat_lt q.index q.elements ≡ b → Right {A = B} ok (and_then (if b then gives (q.first + q.index * q.width) else undefined 8) f)
    at true e = let less : q.index < q.elements = grind (arith, nat_tests) in k less
    at false e = (omega arith, omega arith)

-- what a test finds of each element
passing : {A : Type 0} (P : A → Type 0) (test : A → Bool) → ((x : A) → test x ≡ true → P x) → (xs : List A) → list_all test xs ≡ true → All P xs
passing P test f xs h = All-weaker (λ x. test x ≡ true) P f xs (AllPass-from_list_all test xs h)

abbrev is_scalar : CType → Bool
is_scalar (integer i) = true
is_scalar (pointer t) = true
is_scalar _ = false

scalar_is : (t : CType) → is_scalar t ≡ true → IsScalar t
scalar_is (integer i) h = tt
scalar_is (pointer t) h = tt
scalar_is t h = absurd (false≢true h)

-- the types of functions whose parameters are scalars
abbrev TakesScalars : CType → Type 0
TakesScalars (function r ts) = All IsScalar (list_of ts)
TakesScalars _ = ⊥

abbrev takes_scalars : CType → Bool
takes_scalars (function r ts) = list_all is_scalar (list_of ts)
takes_scalars _ = false

takes_is : (t : CType) → takes_scalars t ≡ true → TakesScalars t
takes_is (function r ts) h = passing IsScalar is_scalar scalar_is (list_of ts) h
takes_is t h = absurd (false≢true h)

sys_take : All TakesScalars sys_types
unfolding sys_types
sys_take = passing TakesScalars takes_scalars takes_is sys_types all
  where
    all : list_all takes_scalars sys_types ≡ true
    all = refl

-- an object is no function
no_function : (structs : Structs) (t : CType) → IsObject structs t → TakesScalars t → ⊥
no_function structs (function r ts) h e = h.complete
no_function structs t h e = e

-- the type of a function
pub function_parts : (t : CType) → TakesScalars t → (r : CType) × (ts : CTypes) × (t ≡ function r ts)
function_parts (function r ts) e = (r, ts, refl)
function_parts t e = absurd e

pub settled : (t : IntType) (z : ℤ) → IsPromoted t → IsAnswer (integer t) (settle t z)
settled i.Int z h = at (fits_int z) refl
  where
    at : (b : Bool) → fits_int z ≡ b → IsAnswer int (fitting b z 1)
    at true e = (refl, grind (arith, ints, e))
    at false e = (omega arith, omega arith)
settled i.Uint z h = (refl, below_32 z)
settled t z h = absurd h

truth_fits : (b : Bool) → IsConverted int (truth b)
truth_fits true = (refl, grind (arith, ints))
truth_fits false = (refl, grind (arith, ints))

-- comparisons, with what those by order ask
abbrev Comparing : OperatorKind → Type 0 → Type 0
Comparing ordering asked = asked
Comparing equality asked = Unit {0}
Comparing c asked = ⊥

comparison_table : (op : BinOp) (t : IntType) (x y : ℤ) → Comparing (kind_of op) (Unit {0}) → IsConverted int (table_of op t x y)
comparison_table Less t x y h = truth_fits _
comparison_table Greater t x y h = truth_fits _
comparison_table LessEqual t x y h = truth_fits _
comparison_table GreaterEqual t x y h = truth_fits _
comparison_table Equal t x y h = truth_fits _
comparison_table NotEqual t x y h = truth_fits _
comparison_table op t x y h = absurd h

promoted_is : (i : IntType) → IsPromoted (promoted i)
promoted_is i.Char = tt
promoted_is i = tt

common_promoted : (i j : IntType) → IsPromoted (common i j)
common_promoted i.Uint j = tt
common_promoted i j = promoted_is j

-- the operands of a compound assignment
right_operands : (c : OperatorKind) (i k : IntType) → FitsRightSide c i k → AreOperands c k k
right_operands balanced i k e = (subst IsPromoted (sym e) (common_promoted i k), refl)
right_operands shift i k h = (h, h)
right_operands c i k h = absurd h

operands_right : (op : BinOp) (i k : IntType) → FitsRightSide (kind_of op) i k → AreOperands (kind_of op) (computing op i k) k
operands_right ShiftLeft i k h = (promoted_is i, h)
operands_right ShiftRight i k h = (promoted_is i, h)
operands_right op i k h = right_operands (kind_of op) i k h

module _ (p : Program) (n : ℕ) (typed : IsProgram p n) where
  -- what may be called is a function of scalars
  pub called_takes : (f : ℕ) (t : CType) → called_type p f ≡ Some t → TakesScalars t
  called_takes f t e =
      all_get TakesScalars (called_types p) f t (All-append TakesScalars (value_types p) null_types (All-append TakesScalars (map type_of_defined p.functions) sys_types (All-map TakesScalars type_of_defined p.functions (All-weaker (IsFunction p) (λ g. TakesScalars g.ctype) (λ g k. subst TakesScalars (sym k.type) k.scalars) p.functions typed.functions)) sys_take) (passing TakesScalars takes_scalars takes_is null_types refl)) e

  -- the types of its parameters
  pub scalars_of : (f : ℕ) (r : CType) (ts : CTypes) → called_type p f ≡ Some (function r ts) → All IsScalar (list_of ts)
  scalars_of f r ts e = called_takes f (function r ts) e

  pub value_takes : (f : ℕ) (t : CType) → value_type p f ≡ Some t → TakesScalars t
  value_takes f t e = called_takes f t (get_left (value_types p) null_types f t e)

  -- an integer value
  pub constant_of : (o : Objects) (k : IntType) (v : Value) → HasKind p o (integer k) v → IsConstant (integer k) v
  constant_of o k (Func f) h = absurd (cc (h.1))
  constant_of o k (At q) h = absurd (cc (h.1))
  constant_of o k v h = h

  pub of_constant : (o : Objects) (t : CType) (v : Value) → IsConstant t v → HasKind p o t v
  of_constant o t (Func f) h = absurd h
  of_constant o t (At q) h = absurd h
  of_constant o t v h = h

  answer_right : (o : Objects) (t : CType) (r : Answer Value) → IsAnswer t r → Right (HasKind p o t) r
  answer_right o t (gives v) h = of_constant o t v h
  answer_right o t (undefined kind) h = (h.0, omega (arith, h.1))

  converted_right : (o : Objects) (t : CType) (r : Answer Value) → IsConverted t r → Right (HasKind p o t) r
  converted_right o t (gives v) h = of_constant o t v h
  converted_right o t (undefined kind) h = absurd h

  pub truth_kind : (o : Objects) (b : Bool) → HasKind p o int (truth_value b)
  truth_kind o true = (refl, grind (arith, ints))
  truth_kind o false = (refl, grind (arith, ints))

  pub convert_right : (o : Objects) (k to : IntType) (v : Value) → HasKind p o (integer k) v → Right (HasKind p o (integer to)) (convert to v)
  convert_right o k to v h = converted_right o (integer to) (convert to v) (converted to (integer k) k v refl (constant_of o k v h))

  arithmetic_right : (o : Objects) (op : BinOp) (a b : IntType) (v w : Value) → AreOperands (kind_of op) a b → HasKind p o (integer a) v → HasKind p o (integer b) w → Right (HasKind p o (integer a)) (binary op v w)
  arithmetic_right o op a b v w f h k = answer_right o (integer a) (binary op v w) (arithmetic_fits op (integer a) (integer a) (integer b) v w (a, b, refl, refl, refl, f) (constant_of o a v h) (constant_of o b w k))

  pub binary_right : (o : Objects) (op : BinOp) (t u w : CType) (x y : Value) → FitsArithmetic op t u w → HasKind p o u x → HasKind p o w y → Right (HasKind p o t) (binary op x y)
  binary_right o op t u w x y f h k =
      subst (λ t. Right (HasKind p o t) (binary op x y)) (sym f.2) (arithmetic_right o op f.0 f.1 x y f.5 (subst (λ u. HasKind p o u x) f.3 h) (subst (λ w. HasKind p o w y) f.4 k))

  -- a pointer to objects is null or lies in one
  pub pointer_right : (o : Objects) (t : CType) (v : Value) → IsObject p.structs t → HasKind p o (pointer t) v → Right (IsPointer p.structs o t) (pointed v)
  pointer_right o t v b h = pointer_value p o t (λ v. Right (IsPointer p.structs o t) (pointed v)) v h (omega arith, omega arith)
      (λ g h. let same : h.0 ≡ t = cc (h.1) in absurd (no_function p.structs t b (value_takes g t (subst (λ u. value_type p g ≡ Some u) same h.2))))
      (λ q h. let same : h.0 ≡ t = cc (h.1) in subst (λ t. IsPointer p.structs o t q) same h.2)

  pub place_right : (o : Objects) (t : CType) (v : Value) → IsObject p.structs t → IsPlaced p o t v → Right (IsPlaceAt p.structs o t) (pointed v)
  place_right o t (Func g) b h = absurd (no_function p.structs t b (value_takes g t h.3))
  place_right o t (At q) b h = h
  place_right o t v b h = absurd h

  -- a place as a pointer
  pub place_pointer : (o : Objects) (t : CType) (q : Pointer) → IsPlaceAt p.structs o t q → IsPointer p.structs o t q
  place_pointer o t q h = record {
    object = h.object;
    all = h.all;
    known = h.known;
    within = omega (arith, h.alone, h.first);
    wide = h.wide;
    lies = subst (λ n. Lies h.all q.first (repeat n (flat p.structs t))) (sym h.alone) (lies_once h.all (flat p.structs t) q.first h.lies);
  }

  -- the element that is pointed to lies in the object
  element_lies : (o : Objects) (t : CType) (q : Pointer) (h : IsPointer p.structs o t q) → q.index < q.elements → Lies (h.all) (q.first + q.index * q.width) (flat p.structs t)
  element_lies o t q h less =
      subst (λ i. Lies h.all i (flat p.structs t)) (ap (λ n. q.first + q.index * n) (sym h.wide)) (lies_in h.all (repeat q.elements (flat p.structs t)) (flat p.structs t) q.first (q.index * cells p.structs t) h.lies (repeat_lies q.elements q.index (flat p.structs t) less))

  pub behind_right : (o : Objects) (t : CType) (v : Value) (m : Memory) → IsObject p.structs t → HasKind p o (pointer t) v → Right (IsPlaced p o t) (behind m v)
  behind_right o t v m b h =
      right_then (IsPointer p.structs o t) (IsPlaced p o t) (pointed v) _ (pointer_right o t v b h) (λ q k. there_right {B = Value} (IsPlaced p o t) (m q.name) _ (λ ob e. element_right {B = Value} (IsPlaced p o t) q _ (λ less. placed_at p o t q.name (q.first + q.index * q.width) q.width k.all b k.known k.wide (element_lies o t q k less))))

  -- what is called is null or an address-taken function of its type
  abbrev pub IsCallee : CType → ℕ → Type 0
  IsCallee t f = (value_type p f ≡ Some t) × (is_taken p f ≡ true)

  pub callee_right : (o : Objects) (r : CType) (ts : CTypes) (v : Value) → HasKind p o (pointer (function r ts)) v → Right (IsCallee (function r ts)) (callee v)
  callee_right o r ts v h = pointer_value p o (function r ts) (λ v. Right (IsCallee (function r ts)) (callee v)) v h (omega arith, omega arith)
      (λ f h. let same : h.0 ≡ function r ts = cc (h.1) in subst (λ u. IsCallee u f) same (h.2, h.3))
      (λ q h. let same : h.0 ≡ function r ts = cc (h.1) in absurd (subst (IsObject p.structs) same h.2.object).complete)

  pub behind_of_right : (o : Objects) (t : CType) (v : Value) (m : Memory) → IsTarget p.structs t → HasKind p o (pointer t) v → Right (IsPlaced p o t) (behind_of t m v)
  behind_of_right o void v m b h = absurd b
  behind_of_right o (integer k) v m b h = behind_right o (integer k) v m (scalar_object p.structs (integer k) tt) h
  behind_of_right o (pointer t) v m b h = behind_right o (pointer t) v m (scalar_object p.structs (pointer t) tt) h
  behind_of_right o (function r ts) v m b h = right_then (IsCallee (function r ts)) (IsPlaced p o (function r ts)) (callee v) _ (callee_right o r ts v h) (λ f k. (r, ts, refl, k.0, k.1))
  behind_of_right o t v m b h = behind_right o t v m b h

  cell_right : (o : Objects) (t : CType) (v : Value) → IsCell p o t v → Right (HasKind p o t) (cell_value (Some v))
  cell_right o t Indeterminate h = (omega arith, omega arith)
  cell_right o t v h = h

  -- the cells of an object that is there
  pub cells_there : (o : Objects) (m : Memory) (x : ObjectName) (all : List CType) (ob : Object) → IsTypedMemory p o m → o x ≡ Some all → m x ≡ Some ob → AllZip (IsCell p o) all ob.cells
  cells_there o m x all ob k e g =
      let a = k x ob g in
      let same : a.0 ≡ all = cc (a.1, e) in
      subst (λ all. AllZip (IsCell p o) all ob.cells) same a.2

  -- the cell of the element
  pub element_cell : (o : Objects) (t : CType) (q : Pointer) (h : IsPointer p.structs o t q) → IsScalar t → q.index < q.elements → slice_get (h.all) (q.first + q.index * q.width + 0) ≡ Some t
  element_cell o t q h b less =
      at_place h.all t (q.first + q.index * q.width) (q.first + q.index * q.width + 0) (omega arith) (scalar_cell p.structs h.all (q.first + q.index * q.width) t b (element_lies o t q h less))

  pub load_right : (o : Objects) (t : CType) (q : Pointer) (m : Memory) → IsScalar t → IsPointer p.structs o t q → IsTypedMemory p o m → Right (HasKind p o t) (load m q 0)
  load_right o t q m b h k =
      there_right {B = Value} (HasKind p o t) (m q.name) _ (λ ob e. element_right {B = Value} (HasKind p o t) q _ (λ less.
      let c = zip_get (IsCell p o) h.all ob.cells (q.first + q.index * q.width + 0) t (cells_there o m q.name h.all ob k h.known e) (element_cell o t q h b less) in
      subst (λ c. Right (HasKind p o t) (cell_value c)) (sym c.1) (cell_right o t c.0 c.2)))

  pub load_place_right : (o : Objects) (t : CType) (v : Value) (m : Memory) → IsScalar t → IsPlaced p o t v → IsTypedMemory p o m → Right (HasKind p o t) (load_place m v)
  load_place_right o t v m b h k =
      right_then (IsPlaceAt p.structs o t) (HasKind p o t) (pointed v) _ (place_right o t v (scalar_object p.structs t b) h) (λ q i. load_right o t q m b (place_pointer o t q i) k)

  pub store_right : (o : Objects) (t : CType) (q : Pointer) (v : Value) (m : Memory) → IsScalar t → IsPointer p.structs o t q → HasKind p o t v → IsTypedMemory p o m → Right (IsTypedMemory p o) (store m q 0 v)
  store_right o t q v m b h l k =
      there_right {B = Memory} (IsTypedMemory p o) (m q.name) _ (λ ob e. element_right {B = Memory} (IsTypedMemory p o) q _ (λ less.
      let z = cells_there o m q.name h.all ob k h.known e in
      let a = element_cell o t q h b less in
      let c = zip_get (IsCell p o) h.all ob.cells (q.first + q.index * q.width + 0) t z a in
      writable_right {B = Memory} (IsTypedMemory p o) ob.string ob.cells _ (subst (λ c. Right (IsTypedMemory p o) (and_then (set_cell ob.cells (q.first + q.index * q.width + 0) v c) (λ new. gives (changed m q.name (Some new))))) (sym c.1) (memory_changed p o m q.name h.all (record { cells = slice_set ob.cells (q.first + q.index * q.width + 0) v; string = false }) k h.known (zip_set (IsCell p o) h.all ob.cells (q.first + q.index * q.width + 0) t v z a (kind_cell p o t v l))))))

  pub store_place_right : (o : Objects) (t : CType) (a v : Value) (m : Memory) → IsScalar t → IsPlaced p o t a → HasKind p o t v → IsTypedMemory p o m → Right (IsTypedMemory p o) (store_place m a v)
  store_place_right o t a v m b h l k =
      right_then (IsPlaceAt p.structs o t) (IsTypedMemory p o) (pointed a) _ (place_right o t a (scalar_object p.structs t b) h) (λ q i. store_right o t q v m b (place_pointer o t q i) l k)

  member_right : (o : Objects) (s k : ℕ) (ts : List CType) (t : CType) (v : Value) → slice_get p.structs s ≡ Some (Some ts) → slice_get ts k ≡ Some t → IsObject p.structs (struct s) → IsPlaced p o (struct s) v → Right (IsPlaced p o t) (member (first_cell p.structs ts k) (cells p.structs t) v)
  member_right o s k ts t v e c b h =
      let is = struct_is p.structs typed.structs s ts e in
      let few = member_few p.structs ts k t c in
      let size : length (flat_all p.structs ts) ≤ 65536 = subst (λ xs. length xs ≤ 65536) is b.few in
      right_then (IsPlaceAt p.structs o (struct s)) (IsPlaced p o t) (pointed v) _ (place_right o (struct s) v b h) (λ q a. placed_at p o t q.name (q.first + first_cell p.structs ts k) (cells p.structs t) a.all (record { complete = all_get (IsComplete p.structs) ts k t (typed.structs.complete s ts e) c; few = omega (arith, few, size) }) a.known refl (lies_in a.all (flat p.structs (struct s)) (flat p.structs t) q.first (first_cell p.structs ts k) a.lies (subst (λ all. Lies all (first_cell p.structs ts k) (flat p.structs t)) (sym is) (member_lies p.structs ts k t c))))

  struct_object : (o : Objects) (s : ℕ) (v : Value) → IsPlaced p o (struct s) v → IsObject p.structs (struct s)
  struct_object o s (Func f) h = absurd (cc (h.2))
  struct_object o s (At q) h = h.object
  struct_object o s v h = absurd h

  pub field_right : (o : Objects) (u t : CType) (first : ℕ) (v : Value) → IsMemberOf p u first t → IsPlaced p o u v → Right (IsPlaced p o t) (member first (cells p.structs t) v)
  field_right o u t first v (s, ts, k, is, e, c, at) h =
      let g = subst (λ u. IsPlaced p o u v) is h in
      subst (λ first. Right (IsPlaced p o t) (member first (cells p.structs t) v)) (sym at) (member_right o s k ts t v e c (struct_object o s v g) g)

  -- the address of a place
  pub address_is : (o : Objects) (t : CType) (v : Value) → IsPlaced p o t v → HasKind p o (pointer t) v
  address_is o t (Func f) h = (t, refl, h.3, h.4)
  address_is o t (At q) h = (t, refl, place_pointer o t q h)
  address_is o t v h = absurd h

  array_right : (o : Objects) (t : CType) (k : ℕ) (v : Value) → IsPlaced p o (array t k) v → Right (HasKind p o (pointer t)) (to_first (cells p.structs t) k v)
  array_right o t k (Func f) h = absurd (cc (h.2))
  array_right o t k (At q) h = (
    t,
    refl,
    record {
      object = element_object p.structs t k h.object;
      all = h.all;
      known = h.known;
      within = omega arith;
      wide = refl;
      lies = h.lies;
    },
  )
  array_right o t k v h = absurd h

  pub decayed_right : (o : Objects) (u t : CType) (v : Value) → Decays p.structs u t → IsPlaced p o u v → Right (HasKind p o t) (decayed p.structs u v)
  decayed_right o (array u k) t v d h = subst (λ t. Right (HasKind p o t) (to_first (cells p.structs u) k v)) (sym d) (array_right o u k v h)
  decayed_right o (function r ts) t v d h = subst (λ t. HasKind p o t v) (sym d) (address_is o (function r ts) v h)
  decayed_right o u t v d h = absurd d

  pub number_right : (o : Objects) (k : IntType) (v : Value) → HasKind p o (integer k) v → Right (λ z. Unit {0}) (number v)
  number_right o k Indeterminate h = absurd h
  number_right o k Null h = absurd (cc (h.1))
  number_right o k (Func f) h = absurd (cc (h.1))
  number_right o k (At q) h = absurd (cc (h.1))
  number_right o k v h = tt

  index_right : (o : Objects) (t : CType) (q : Pointer) (z : ℤ) → IsPointer p.structs o t q → Right (HasKind p o (pointer t)) (at_index q z)
  index_right o t q (negsuc k) h = (omega arith, omega arith)
  index_right o t q (pos k) h =
      tested_right {B = Value} (HasKind p o (pointer t)) (nat_le k q.elements) _ 7 (omega arith) (omega arith) (λ e.
      let less : k ≤ q.elements = grind (arith, nat_tests) in
      (t, refl, record { object = h.object; all = h.all; known = h.known; within = less; wide = h.wide; lies = h.lies }))

  moved_right : (o : Objects) (t : CType) (k : IntType) (subtracted : Bool) (v w : Value) (m : Memory) → IsObject p.structs t → HasKind p o (pointer t) v → HasKind p o (integer k) w → Right (HasKind p o (pointer t)) (moved m subtracted v w)
  moved_right o t k subtracted v w m b h l =
      right_then (IsPointer p.structs o t) (HasKind p o (pointer t)) (pointed v) _ (pointer_right o t v b h) (λ q i. there_right {B = Value} (HasKind p o (pointer t)) (m q.name) _ (λ ob e. right_then (λ z. Unit {0}) (HasKind p o (pointer t)) (number w) _ (number_right o k w l) (λ z u. index_right o t q (pos q.index +ℤ offset subtracted z) i)))

  pub shifted_right : (o : Objects) (subtracted : Bool) (t u : CType) (v w : Value) (m : Memory) → IsObjectPointer p.structs t → IsIntegerType u → HasKind p o t v → HasKind p o u w → Right (HasKind p o t) (moved m subtracted v w)
  shifted_right o subtracted t u v w m b c h l =
      subst (λ t. Right (HasKind p o t) (moved m subtracted v w)) (sym b.1) (moved_right o b.0 c.0 subtracted v w m b.2 (subst (λ t. HasKind p o t v) b.1 h) (subst (λ u. HasKind p o u w) c.1 l))

  pub moving_right : (o : Objects) (first subtracted : Bool) (t u w : CType) (x y : Value) (m : Memory) → FitsPointerAdd p.structs first subtracted t u w → HasKind p o u x → HasKind p o w y → Right (HasKind p o t) (moving first subtracted m x y)
  moving_right o true subtracted t u w x y m f h k = shifted_right o subtracted t w x y m f.1 f.2 (subst (λ u. HasKind p o u x) f.0 h) k
  moving_right o false subtracted t u w x y m f h k = shifted_right o subtracted t u y x m f.1 f.2 (subst (λ w. HasKind p o w y) f.0 k) h

  pub test_right : (o : Objects) (t : CType) (v : Value) (m : Memory) → HasKind p o t v → Right (λ b. Unit {0}) (test m v)
  test_right o t Indeterminate m h = absurd h
  test_right o t (At q) m h = there_right {B = Bool} (λ b. Unit {0}) (m q.name) _ (λ ob e. tt)
  test_right o t v m h = tt

  -- two pointers to objects of one type
  pub in_one_right : {A : Type 0} (ok : A → Type 0) (o : Objects) (t : CType) (v w : Value) (m : Memory) (f : Pointer → Pointer → Answer A) → IsObject p.structs t → HasKind p o (pointer t) v → HasKind p o (pointer t) w → ((a b : Pointer) → IsPointer p.structs o t a → IsPointer p.structs o t b → Right {A = A} ok (f a b)) → Right {A = A} ok (in_one_array m v w f)
  in_one_right {A} ok o t v w m f b h l k =
      right_then {B = A} (IsPointer p.structs o t) ok (pointed v) _ (pointer_right o t v b h) (λ x i. right_then {B = A} (IsPointer p.structs o t) ok (pointed w) _ (pointer_right o t w b l) (λ y j. there_right {B = A} ok (m x.name) _ (λ ob e. there_right {B = A} ok (m y.name) _ (λ ob e. tested_right {B = A} ok (same_array x y) (f x y) 9 (omega arith) (omega arith) (λ e. k x y i j)))))

  alive_right : (o : Objects) (t : CType) (v : Value) (m : Memory) → HasKind p o t v → Right (HasKind p o t) (alive m v)
  alive_right o t Indeterminate m h = absurd h
  alive_right o t (At q) m h = there_right {B = Value} (HasKind p o t) (m q.name) _ (λ ob e. h)
  alive_right o t v m h = h

  -- a pointer to an object and a function value are of two types
  two_types : (o : Objects) (t : CType) (q : Pointer) (f : ℕ) → HasKind p o (pointer t) (At q) → HasKind p o (pointer t) (Func f) → ⊥
  two_types o t q f h k =
      let same : k.0 ≡ h.0 = cc (h.1, k.1) in
      no_function p.structs h.0 h.2.object (value_takes f h.0 (subst (λ u. value_type p f ≡ Some u) same k.2))

  equal_right : (o : Objects) (t : CType) (v w : Value) → HasKind p o (pointer t) v → HasKind p o (pointer t) w → Right (λ b. Unit {0}) (equal_pointers v w)
  equal_right o t v w h k = pointer_value p o t (λ v. Right (λ b. Unit {0}) (equal_pointers v w)) v h
      (pointer_value p o t (λ w. Right (λ b. Unit {0}) (equal_pointers Null w)) w k tt (λ g k. tt) (λ q k. tt))
      (λ f h. pointer_value p o t (λ w. Right (λ b. Unit {0}) (equal_pointers (Func f) w)) w k tt (λ g k. tt) (λ q k. absurd (two_types o t q f k h)))
      (λ q h. pointer_value p o t (λ w. Right (λ b. Unit {0}) (equal_pointers (At q) w)) w k tt (λ g k. absurd (two_types o t q g h k)) (λ r k. tt))

  equality_right : (o : Objects) (t : CType) (v w : Value) (m : Memory) (f : Bool → Value) → ((b : Bool) → HasKind p o int (f b)) → HasKind p o (pointer t) v → HasKind p o (pointer t) w → Right (HasKind p o int) (and_then (and_then (alive m v) (λ v. and_then (alive m w) (λ w. equal_pointers v w))) (λ b. gives (f b)))
  equality_right o t v w m f g h k =
      right_then {A = Bool} {B = Value} (λ b. Unit {0}) (HasKind p o int) _ _ (right_then {A = Value} {B = Bool} (HasKind p o (pointer t)) (λ b. Unit {0}) (alive m v) _ (alive_right o (pointer t) v m h) (λ v h. right_then {A = Value} {B = Bool} (HasKind p o (pointer t)) (λ b. Unit {0}) (alive m w) _ (alive_right o (pointer t) w m k) (λ w k. equal_right o t v w h k))) (λ b u. g b)

  -- what may be compared by this kind of operator
  ordered_right : (o : Objects) (t : CType) (v w : Value) (m : Memory) (f : ℕ → ℕ → Bool) → IsObject p.structs t → HasKind p o (pointer t) v → HasKind p o (pointer t) w → Right (HasKind p o int) (in_one_array m v w (λ a b. gives (truth_value (f a.index b.index))))
  ordered_right o t v w m f b h k = in_one_right {A = Value} (HasKind p o int) o t v w m _ b h k (λ x y i j. truth_kind o (f x.index y.index))

  compared_right : (o : Objects) (op : BinOp) (t : CType) (v w : Value) (m : Memory) → Comparing (kind_of op) (IsObject p.structs t) → HasKind p o (pointer t) v → HasKind p o (pointer t) w → Right (HasKind p o int) (compared m op v w)
  compared_right o Less t v w m b h k = ordered_right o t v w m (λ a b. nat_lt a b) b h k
  compared_right o Greater t v w m b h k = ordered_right o t v w m (λ a b. nat_lt b a) b h k
  compared_right o LessEqual t v w m b h k = ordered_right o t v w m (λ a b. nat_le a b) b h k
  compared_right o GreaterEqual t v w m b h k = ordered_right o t v w m (λ a b. nat_le b a) b h k
  compared_right o Equal t v w m b h k = equality_right o t v w m (λ same. truth_value same) (λ b. truth_kind o b) h k
  compared_right o NotEqual t v w m b h k = equality_right o t v w m (λ same. truth_value (not same)) (λ b. truth_kind o (not b)) h k
  compared_right o op t v w m b h k = absurd b

  comparing_pointers : (o : Objects) (op : BinOp) (t : CType) (v w : Value) (m : Memory) → Comparing (kind_of op) (IsObject p.structs t) → HasKind p o (pointer t) v → HasKind p o (pointer t) w → Right (HasKind p o int) (comparing op m v w)
  comparing_pointers o op t v w m b h k = pointer_value p o t (λ v. Right (HasKind p o int) (comparing op m v w)) v h (compared_right o op t Null w m b (t, refl) k) (λ f h. compared_right o op t (Func f) w m b h k) (λ q h. compared_right o op t (At q) w m b h k)

  -- integers of a promoted type
  comparing_integers : (o : Objects) (op : BinOp) (a : IntType) (v w : Value) (m : Memory) → Comparing (kind_of op) (Unit {0}) → IsPromoted a → HasKind p o (integer a) v → HasKind p o (integer a) w → Right (HasKind p o int) (comparing op m v w)
  comparing_integers o op i.Int v w m c b h k =
      int_value p o (λ v. Right (HasKind p o int) (comparing op m v w)) v h (λ x f. int_value p o (λ w. Right (HasKind p o int) (comparing op m (Int x) w)) w k (λ y g. converted_right o int _ (comparison_table op i.Int x y c)))
  comparing_integers o op i.Uint v w m c b h k =
      uint_value p o (λ v. Right (HasKind p o int) (comparing op m v w)) v h (λ x f. uint_value p o (λ w. Right (HasKind p o int) (comparing op m (Uint x) w)) w k (λ y g. converted_right o int _ (comparison_table op i.Uint (pos x) (pos y) c)))
  comparing_integers o op a v w m c b h k = absurd b

  comparable_right : (o : Objects) (op : BinOp) (u : CType) (v w : Value) (m : Memory) (c : OperatorKind) → kind_of op ≡ c → AreComparable p.structs c u → HasKind p o u v → HasKind p o u w → Right (HasKind p o int) (comparing op m v w)
  comparable_right o op u v w m ordering e (inl c) h k =
      comparing_integers o op c.0 v w m (subst (λ c. Comparing c (Unit {0})) (sym e) tt) c.2 (subst (λ u. HasKind p o u v) c.1 h) (subst (λ u. HasKind p o u w) c.1 k)
  comparable_right o op u v w m ordering e (inr c) h k =
      comparing_pointers o op c.0 v w m (subst (λ c'. Comparing c' (IsObject p.structs c.0)) (sym e) c.2) (subst (λ u. HasKind p o u v) c.1 h) (subst (λ u. HasKind p o u w) c.1 k)
  comparable_right o op u v w m equality e (inl c) h k =
      comparing_integers o op c.0 v w m (subst (λ c. Comparing c (Unit {0})) (sym e) tt) c.2 (subst (λ u. HasKind p o u v) c.1 h) (subst (λ u. HasKind p o u w) c.1 k)
  comparable_right o op u v w m equality e (inr c) h k =
      comparing_pointers o op c.0 v w m (subst (λ c'. Comparing c' (IsObject p.structs c.0)) (sym e) tt) (subst (λ u. HasKind p o u v) c.1 h) (subst (λ u. HasKind p o u w) c.1 k)
  comparable_right o op u v w m a e c h k = absurd c

  pub comparing_right : (o : Objects) (op : BinOp) (t u w : CType) (x y : Value) (m : Memory) → FitsComparison p.structs op t u w → HasKind p o u x → HasKind p o w y → Right (HasKind p o t) (comparing op m x y)
  comparing_right o op t u w x y m f h k =
      subst (λ t. Right (HasKind p o t) (comparing op m x y)) (sym f.gives) (comparable_right o op u x y m (kind_of op) refl f.comparable h (subst (λ w. HasKind p o w y) f.alike k))

  unary_right : (o : Objects) (op : UnOp) (a : IntType) (v : Value) → ((x : ℤ) (t : IntType) → IsPromoted t → IsAnswer (integer t) (negated op t x)) → ((z : ℤ) → unary op (Int z) ≡ negated op i.Int z) → ((m : ℕ) → unary op (Uint m) ≡ negated op i.Uint (pos m)) → IsPromoted a → HasKind p o (integer a) v → Right (HasKind p o (integer a)) (unary op v)
  unary_right o op i.Int v f g l b h =
      int_value p o (λ v. Right (HasKind p o int) (unary op v)) v h (λ z q. subst (λ r. Right (HasKind p o int) r) (sym (g z)) (answer_right o int _ (f z i.Int tt)))
  unary_right o op i.Uint v f g l b h =
      uint_value p o (λ v. Right (HasKind p o (integer i.Uint)) (unary op v)) v h (λ m q. subst (λ r. Right (HasKind p o (integer i.Uint)) r) (sym (l m)) (answer_right o (integer i.Uint) _ (f (pos m) i.Uint tt)))
  unary_right o op a v f g l b h = absurd b

  pub operated_right : (o : Objects) (op : UnOp) (t u : CType) (v : Value) (m : Memory) → FitsUnary op t u → HasKind p o u v → Right (HasKind p o t) (operated op m v)
  operated_right o Minus t u v m f h =
      subst (λ t. Right (HasKind p o t) (unary Minus v)) (sym f.1) (unary_right o Minus f.0 v (λ x t b. settled t (neg_ℤ x) b) (λ z. refl) (λ m. refl) f.3 (subst (λ u. HasKind p o u v) f.2 h))
  operated_right o Complement t u v m f h =
      subst (λ t. Right (HasKind p o t) (unary Complement v)) (sym f.1) (unary_right o Complement f.0 v (λ x t b. settled t (neg_ℤ x -ℤ pos 1) b) (λ z. refl) (λ m. refl) f.3 (subst (λ u. HasKind p o u v) f.2 h))
  operated_right o Not t u v m f h =
      subst (λ t. Right (HasKind p o t) (and_then (test m v) (λ holds. gives (truth_value (not holds))))) (sym f.0) (right_then (λ b. Unit {0}) (HasKind p o int) (test m v) _ (test_right o u v m h) (λ b u. truth_kind o (not b)))

  integer_updated : (o : Objects) (op : BinOp) (a b : IntType) (before v : Value) (m : Memory) → FitsRightSide (kind_of op) a b → HasKind p o (integer a) before → HasKind p o (integer b) v → Right (HasKind p o (integer a)) (updated op (integer a) (integer b) m before v)
  integer_updated o op a b before v m f h k =
      right_then (HasKind p o (integer (computing op a b))) (HasKind p o (integer a)) (convert (computing op a b) before) _ (convert_right o a (computing op a b) before h) (λ x i. right_then (HasKind p o (integer (computing op a b))) (HasKind p o (integer a)) (binary op x v) _ (arithmetic_right o op (computing op a b) b x v (operands_right op a b f) i k) (λ y j. convert_right o (computing op a b) a y j))

  pub updated_right : (o : Objects) (op : BinOp) (t u : CType) (before v : Value) (m : Memory) → FitsUpdate p.structs op t u → HasKind p o t before → HasKind p o u v → Right (HasKind p o t) (updated op t u m before v)
  updated_right o op t u before v m (inl (a, b, e, g, f)) h k =
      let r = integer_updated o op a b before v m f (subst (λ t. HasKind p o t before) e h) (subst (λ u. HasKind p o u v) g k) in
      subst (λ t. Right (HasKind p o t) (updated op t u m before v)) (sym e) (subst (λ u. Right (HasKind p o (integer a)) (updated op (integer a) u m before v)) (sym g) r)
  updated_right o op t u before v m (inr (moves, (w, e, b), c)) h k =
      let r = moved_right o w c.0 (is_subtraction op) before v m b (subst (λ t. HasKind p o t before) e h) (subst (λ u. HasKind p o u v) c.1 k) in
      subst (λ t. Right (HasKind p o t) (updated op t u m before v)) (sym e) r

  -- a scalar's update is of a scalar
  pub update_scalar : (op : BinOp) (t u : CType) → FitsUpdate p.structs op t u → IsScalar t
  update_scalar op t u (inl f) = subst IsScalar (sym f.2) tt
  update_scalar op t u (inr f) = subst IsScalar (sym f.1.1) tt

  pub update_right_scalar : (op : BinOp) (t u : CType) → FitsUpdate p.structs op t u → IsScalar u
  update_right_scalar op t u (inl f) = subst IsScalar (sym f.3) tt
  update_right_scalar op t u (inr f) = subst IsScalar (sym f.2.1) tt
