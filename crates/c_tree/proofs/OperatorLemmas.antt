-- Operators give values of their types.
use Rattle.std.proofs.Common.{◌≡◌, ℕ, ◌^◌, ◌<◌, ◌≤◌, ℤ, pos, negsuc, Bool, true, false, ◌&&◌, refl, ap, sym, subst, ◌∙◌, arith, int_le, FitsSigned, ◌+ℤ◌, ◌-ℤ◌, ◌*ℤ◌, int_div, int_rem, bit_and, bit_or, bit_xor, unsigned_abs, ◌≢◌}
use Rattle.std.specs.Int.{w8, w32, int_shr}
use Rattle.std.specs.Ordering.{int_eq}
use Rattle.c_tree.specs.declared.value.BinOp.{BinOp}
use Rattle.c_tree.specs.declared.value.BinOp.TheVariants.{Mul, Div, Rem, Add, Sub, ShiftLeft, ShiftRight, BitAnd, BitXor, BitOr}
use Rattle.std.proofs.lemmas.Int.{ints, SFits-int_wrap}
use Rattle.c_tree.specs.declared.value.IntType.{IntType}
use Rattle.c_tree.specs.declared.value.IntType.TheVariants.{Char, Uchar, Int, Uint}
use Rattle.c_tree.specs.declared.value.Value.{Value}
use Rattle.c_tree.specs.declared.value.Value.TheVariants as v
use Rattle.c_tree.specs.Tree.{CType, void, integer, pointer, array, struct, function}
use Rattle.c_tree.specs.Functions.{int}
use Rattle.c_tree.specs.Operands.{IsPromoted, OperatorKind, balanced, shift, ordering, equality, kind_of, AreOperands, FitsArithmetic}
use Rattle.c_tree.specs.Kinds.{IsConstant}
use Rattle.c_tree.specs.Operators.{Answer, gives, undefined, and_then, low_bits, fits_int, fitting, settle, value_of, divided, shifted, shift_left, convert, where_shift, table_of, binary}
use Rattle.c_tree.specs.OperatorTypes.{IsAnswer, IsGiven}
use Rattle.sys_table.proofs.Names.{and_right}

-- the number of a type's form
abbrev pub form : CType → ℕ
form void = 0
form (integer Char) = 1
form (integer Uchar) = 2
form (integer Int) = 3
form (integer Uint) = 4
form (pointer t) = 5
form (array t n) = 6
form (struct s) = 7
form (function r ts) = 8

apart_types : (i j : IntType) → form (integer i) ≢ form (integer j) → integer i ≡ integer j → ⊥
apart_types i j h q = h (ap form q)

no_pointer : (i : IntType) (u : CType) → integer i ≡ pointer u → ⊥
no_pointer i u q = cc

pub fits : (z : ℤ) → fits_int z ≡ true → FitsSigned w32 z
fits z h = grind (arith, ints, h)

pub below_32 : (z : ℤ) → low_bits 32 z < 4294967296
below_32 (pos a) = omega arith
below_32 (negsuc a) = omega arith

below_8 : (z : ℤ) → low_bits 8 z < 256
below_8 (pos a) = omega arith
below_8 (negsuc a) = omega arith

-- a conversion gives a value of its type
pub value_of_type : (to : IntType) (z : ℤ) → IsConstant (integer to) (value_of to z)
value_of_type Char z = (refl, SFits-int_wrap w8 z)
value_of_type Uchar z = (refl, below_8 z)
value_of_type Int z = (refl, SFits-int_wrap w32 z)
value_of_type Uint z = (refl, below_32 z)

pub converted : (to : IntType) (t : CType) (i : IntType) (x : Value) → t ≡ integer i → IsConstant t x → IsGiven (integer to) (convert to x)
converted to t i v.Indeterminate q h = h
converted to t i (v.Int z) q h = value_of_type to z
converted to t i (v.Uint n) q h = value_of_type to (pos n)
converted to t i (v.Char z) q h = value_of_type to z
converted to t i (v.Uchar n) q h = value_of_type to (pos n)
converted to t i v.Null q h = absurd (no_pointer i h.0 (sym q ∙ h.1))
converted to t i x q h = absurd h

fitting_fits : (b : Bool) (z : ℤ) (kind : ℕ) → (b ≡ true → fits_int z ≡ true) → 1 ≤ kind → kind ≤ 3 → IsAnswer int (fitting b z kind)
fitting_fits true z kind h low high = (refl, fits z (h refl))
fitting_fits false z kind h low high = (low, high)

settled : (t : IntType) (z : ℤ) → IsPromoted t → IsAnswer (integer t) (settle t z)
settled Int z h = fitting_fits (fits_int z) z 1 (λ e. e) (omega arith) (omega arith)
settled Uint z h = (refl, below_32 z)
settled t z h = absurd h

divided_fits : (t : CType) (b : Bool) (a : Answer Value) → IsAnswer t a → IsAnswer t (divided b a)
divided_fits t true a h = (omega arith, omega arith)
divided_fits t false a h = h

shifted_fits : (t : CType) (b : Bool) (a : Answer Value) → IsAnswer t a → IsAnswer t (shifted b a)
shifted_fits t true a h = h
shifted_fits t false a h = (omega arith, omega arith)

then_fits : (t u : CType) (a r : Answer Value) → IsAnswer t a → IsAnswer u r → IsAnswer u (and_then a (λ q. r))
then_fits t u (gives x) r h k = k
then_fits t u (undefined kind) r h k = h

shift_left_fits : (t : IntType) (x : ℤ) (k : ℕ) → IsPromoted t → IsAnswer (integer t) (shift_left t x k)
shift_left_fits Int x k h = fitting_fits (int_le (pos 0) x && fits_int (x *ℤ pos (2 ^ k))) (x *ℤ pos (2 ^ k)) 3 (and_right _ _) (omega arith) (omega arith)
shift_left_fits Uint x k h = settled Uint (x *ℤ pos (2 ^ k)) tt
shift_left_fits t x k h = absurd h

-- the operators of this kind are arithmetic
abbrev pub IsArithmetic : OperatorKind → Type 0
IsArithmetic ordering = ⊥
IsArithmetic equality = ⊥
IsArithmetic a = Unit {0}

pub table_fits : (op : BinOp) (t : IntType) (x y : ℤ) → IsArithmetic (kind_of op) → IsPromoted t → IsAnswer (integer t) (table_of op t x y)
table_fits Mul t x y a h = settled t (x *ℤ y) h
table_fits Div t x y a h = divided_fits (integer t) (int_eq y (pos 0)) (settle t (int_div x y)) (settled t (int_div x y) h)
table_fits Rem t x y a h =
    divided_fits (integer t) (int_eq y (pos 0)) (and_then (settle t (int_div x y)) (λ q. settle t (int_rem x y))) (then_fits (integer t) (integer t) (settle t (int_div x y)) (settle t (int_rem x y)) (settled t (int_div x y) h) (settled t (int_rem x y) h))
table_fits Add t x y a h = settled t (x +ℤ y) h
table_fits Sub t x y a h = settled t (x -ℤ y) h
table_fits ShiftLeft t x y a h = shifted_fits (integer t) (int_le (pos 0) y && int_le y (pos 31)) (shift_left t x (unsigned_abs y)) (shift_left_fits t x (unsigned_abs y) h)
table_fits ShiftRight t x y a h = shifted_fits (integer t) (int_le (pos 0) y && int_le y (pos 31)) (settle t (int_shr x (unsigned_abs y))) (settled t (int_shr x (unsigned_abs y)) h)
table_fits BitAnd t x y a h = value_of_type t (pos (bit_and (low_bits 32 x) (low_bits 32 y)))
table_fits BitXor t x y a h = value_of_type t (pos (bit_xor (low_bits 32 x) (low_bits 32 y)))
table_fits BitOr t x y a h = value_of_type t (pos (bit_or (low_bits 32 x) (low_bits 32 y)))
table_fits op t x y a h = absurd a

-- values of int and of unsigned int
as_int : (x : Value) → IsConstant int x → (z : ℤ) × (x ≡ v.Int z)
as_int (v.Int z) h = (z, refl)
as_int (v.Uint n) h = absurd (apart_types Int Uint (omega arith) h.0)
as_int (v.Char z) h = absurd (apart_types Int Char (omega arith) h.0)
as_int (v.Uchar n) h = absurd (apart_types Int Uchar (omega arith) h.0)
as_int v.Null h = absurd (no_pointer Int h.0 h.1)
as_int x h = absurd h

as_unsigned : (x : Value) → IsConstant (integer Uint) x → (n : ℕ) × (x ≡ v.Uint n)
as_unsigned (v.Int z) h = absurd (apart_types Uint Int (omega arith) h.0)
as_unsigned (v.Uint n) h = (n, refl)
as_unsigned (v.Char z) h = absurd (apart_types Uint Char (omega arith) h.0)
as_unsigned (v.Uchar n) h = absurd (apart_types Uint Uchar (omega arith) h.0)
as_unsigned v.Null h = absurd (no_pointer Uint h.0 h.1)
as_unsigned x h = absurd h

arithmetic_operands : (k : OperatorKind) (i j : IntType) → AreOperands k i j → IsArithmetic k
arithmetic_operands ordering i j h = h
arithmetic_operands equality i j h = h
arithmetic_operands k i j h = tt

left_promoted : (k : OperatorKind) (i j : IntType) → AreOperands k i j → IsPromoted i
left_promoted ordering i j h = absurd h
left_promoted equality i j h = absurd h
left_promoted k i j h = h.0

right_promoted : (k : OperatorKind) (i j : IntType) → AreOperands k i j → IsPromoted j
right_promoted balanced i j h = subst IsPromoted (sym h.1) h.0
right_promoted shift i j h = h.1
right_promoted k i j h = absurd h

-- operands of two types are those of a shift
where_shift_fits : (t : CType) (k : OperatorKind) (i j : IntType) (a : Answer Value) → form (integer j) ≢ form (integer i) → AreOperands k i j → IsAnswer t a → IsAnswer t (where_shift k a)
where_shift_fits t balanced i j a apart h f = absurd (apart (ap (λ m. form (integer m)) h.1))
where_shift_fits t shift i j a apart h f = f
where_shift_fits t k i j a apart h f = absurd h

-- arithmetic on two promoted types
operands_fit : (op : BinOp) (i j : IntType) (x y : Value) → AreOperands (kind_of op) i j → IsPromoted i → IsPromoted j → IsConstant (integer i) x → IsConstant (integer j) y → IsAnswer (integer i) (binary op x y)
operands_fit op Char j x y a h k f g = absurd h
operands_fit op Uchar j x y a h k f g = absurd h
operands_fit op Int Int x y a h k f g =
    let p = as_int x f in
    let q = as_int y g in
    let r : IsAnswer int (binary op (v.Int p.0) (v.Int q.0)) = table_fits op Int p.0 q.0 (arithmetic_operands (kind_of op) Int Int a) tt in
    rw (p.1, q.1) r
operands_fit op Int Uint x y a h k f g =
    let p = as_int x f in
    let q = as_unsigned y g in
    let r : IsAnswer int (binary op (v.Int p.0) (v.Uint q.0)) = where_shift_fits int (kind_of op) Int Uint (table_of op Int p.0 (pos q.0)) (omega arith) a (table_fits op Int p.0 (pos q.0) (arithmetic_operands (kind_of op) Int Uint a) tt) in
    rw (p.1, q.1) r
operands_fit op Uint Int x y a h k f g =
    let p = as_unsigned x f in
    let q = as_int y g in
    let r : IsAnswer (integer Uint) (binary op (v.Uint p.0) (v.Int q.0)) = where_shift_fits (integer Uint) (kind_of op) Uint Int (table_of op Uint (pos p.0) q.0) (omega arith) a (table_fits op Uint (pos p.0) q.0 (arithmetic_operands (kind_of op) Uint Int a) tt) in
    rw (p.1, q.1) r
operands_fit op Uint Uint x y a h k f g =
    let p = as_unsigned x f in
    let q = as_unsigned y g in
    let r : IsAnswer (integer Uint) (binary op (v.Uint p.0) (v.Uint q.0)) = table_fits op Uint (pos p.0) (pos q.0) (arithmetic_operands (kind_of op) Uint Uint a) tt in
    rw (p.1, q.1) r
operands_fit op i j x y a h k f g = absurd k

pub arithmetic_fits : (op : BinOp) (t u w : CType) (x y : Value) → FitsArithmetic op t u w → IsConstant u x → IsConstant w y → IsAnswer t (binary op x y)
arithmetic_fits op t u w x y h f g =
    let r = operands_fit op h.0 h.1 x y h.5 (left_promoted (kind_of op) h.0 h.1 h.5) (right_promoted (kind_of op) h.0 h.1 h.5) (subst (λ a. IsConstant a x) h.3 f) (subst (λ a. IsConstant a y) h.4 g) in
    subst (λ a. IsAnswer a (binary op x y)) (sym h.2) r
