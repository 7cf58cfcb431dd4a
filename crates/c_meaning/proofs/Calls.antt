-- System calls with arguments of their types.
use Rattle.std.proofs.Common.{◌≡◌, inl, inr, ℕ, zero, suc, ◌+◌, ◌-◌, ◌*◌, ◌<◌, ◌≤◌, nat_le, nat_eq, if◌then◌else◌, Bool, true, false, ◌&&◌, ℤ, pos, negsuc, List, [], ◌∷◌, Option, Some, None, slice_get, slice_index_or, length, take, drop, sym, ap, subst, refl, arith, FitsSigned}
use Rattle.std.specs.Int.{FitsUnsigned, w8, w32}
use Rattle.std.specs.List.{AllZip}
use Rattle.std.proofs.lemmas.Bool.{false≢true, eqb-true}
use Rattle.std.proofs.lemmas.Bool.Decides.{nat_tests}
use Rattle.std.proofs.lemmas.Int.{ints}
use Rattle.std.proofs.lemmas.List.Elements.{All-nil, All-cons}
use Rattle.dm_base.specs.declared.event.Arg.{Arg}
use Rattle.dm_base.specs.declared.event.Arg.TheVariants as args
use Rattle.dm_base.specs.declared.event.Event.TheVariants.{Sys}
use Rattle.c_meaning.specs.ArgKind.{ArgKind}
use Rattle.c_meaning.specs.ArgKind.TheVariants.{Signed, Unsigned, Bytes}
use Rattle.c_meaning.specs.ResultKind.{ResultKind}
use Rattle.c_meaning.specs.ResultKind.TheVariants as kinds
use Rattle.c_meaning.specs.SysResult.{SysResult}
use Rattle.c_meaning.specs.Table.{Row, table, recorded_of, result_of, FitsArgument, FitsResult, IsRecorded}
use Rattle.c_meaning.specs.Answering.{AnswersRead, AnswersWrite, AnswersOther}
use Rattle.c_tree.specs.declared.value.IntType.TheVariants as i
use Rattle.c_tree.specs.declared.value.Pointer.{Pointer}
use Rattle.c_tree.specs.declared.value.Value.{Value}
use Rattle.c_tree.specs.declared.value.Value.TheVariants.{Indeterminate, Int, Uint, Char, Func, At}
use Rattle.c_tree.specs.Tree.{CType, void, integer, pointer, function, CTypes, no_types, more_types, list_of, Program}
use Rattle.c_tree.specs.Layout.{repeat}
use Rattle.c_tree.specs.Functions.{int, unsigned_int, char_pointer, sys_types}
use Rattle.c_tree.specs.Operands.{IsObject}
use Rattle.c_tree.specs.Kinds.{Objects, IsPointer}
use Rattle.c_tree.specs.Program.{IsProgram}
use Rattle.c_tree.specs.Operators.{Answer, gives}
use Rattle.c_meaning.specs.Memory.{Object}
use Rattle.c_meaning.specs.Memory.{Objects as Memory}
use Rattle.c_meaning.specs.Pointers.{number}
use Rattle.c_meaning.specs.Pointers.{pointer as pointed}
use Rattle.c_meaning.specs.Results.{State}
use Rattle.c_meaning.specs.SystemCalls.{char_of, bytes_in, cells_from, is_zero, put_first, before_zero, bytes_where, string, has_room, bytes_of_buffer, room_for, size, Request, argument, arguments, read_request, write_request, request, does_answer, result_value, next, filled, filled_where, with_records, take_record, exit_call, exit_with, system_call}
use Rattle.c_meaning.proofs.Answering.{records_are_judged}
use Rattle.c_meaning.specs.StoreTyping.{HasKind, IsCell, IsTypedMemory, IsTypedState}
use Rattle.c_meaning.specs.TypedResults.{EndsTyped, Gives}
use Rattle.c_meaning.proofs.Places.{at_place, repeat_lies, int_value, uint_value, pointer_value, scalar_object, kind_given}
use Rattle.c_meaning.proofs.Steps.{Right, tested_right, writable_right, right_then, there_right, pointer_right, cells_there, store_right}
use Rattle.c_meaning.proofs.Ends.{if_ends, after_ends, then_ends, answered_ends, remembered_ends}
use Rattle.c_meaning.proofs.Members.{and_left, and_right}

abbrev char : CType
char = integer i.Char

-- the type is that of arguments of this kind
abbrev is_kind : CType → ArgKind → Bool
is_kind (integer i.Int) Signed = true
is_kind (integer i.Uint) Unsigned = true
is_kind (pointer (integer i.Char)) Bytes = true
is_kind _ _ = false

abbrev are_kinds : CTypes → List ArgKind → Bool
are_kinds no_types [] = true
are_kinds (more_types t ts) (k ∷ ks) = is_kind t k && are_kinds ts ks
are_kinds _ _ = false

abbrev is_result : CType → ResultKind → Bool
is_result (integer i.Int) kinds.Int = true
is_result (integer i.Uint) kinds.UnsignedInt = true
is_result void kinds.Void = true
is_result _ _ = false

abbrev has_arguments : CType → Row → Bool
has_arguments (function r ts) row = are_kinds ts row.recorded
has_arguments _ row = false

abbrev has_result : CType → Row → Bool
has_result (function r ts) row = is_result r row.outcome
has_result _ row = false

abbrev pass : (CType → Row → Bool) → List CType → List Row → Bool
pass test [] [] = true
pass test (t ∷ ts) (row ∷ rows) = test t row && pass test ts rows
pass test _ _ = false

abbrev past_two : {A : Type 0} → List A → List A
past_two (a ∷ b ∷ xs) = xs
past_two _ = []

passes : (test : CType → Row → Bool) (ts : List CType) (rows : List Row) (x : ℕ) (t : CType) (d : Row) → pass test ts rows ≡ true → slice_get ts x ≡ Some t → test t (slice_index_or rows x d) ≡ true
passes test (u ∷ ts) (row ∷ rows) zero t d h e = let same : u ≡ t = cc in subst (λ t. test t row ≡ true) same (and_left (test u row) (pass test ts rows) h)
passes test (u ∷ ts) (row ∷ rows) (suc x) t d h e = passes test ts rows x t d (and_right (test u row) (pass test ts rows) h) e
passes test ts rows x t d h e = absurd (grind (arith, h, e))

results_pass : (x : ℕ) (r : CType) (ts : CTypes) → slice_get sys_types x ≡ Some (function r ts) → is_result r (result_of x) ≡ true
unfolding sys_types table
results_pass x r ts e = passes has_result sys_types table x (function r ts) _ all e
  where
    all : pass has_result sys_types table ≡ true
    all = refl

arguments_pass : (x : ℕ) (r : CType) (ts : CTypes) → slice_get sys_types (suc (suc x)) ≡ Some (function r ts) → are_kinds ts (recorded_of (suc (suc x))) ≡ true
unfolding sys_types table
arguments_pass x r ts e = passes has_arguments (past_two sys_types) (past_two table) x (function r ts) _ all e
  where
    all : pass has_arguments (past_two sys_types) (past_two table) ≡ true
    all = refl

abbrev parameters_of : Option CType → List CType
parameters_of (Some (function r ts)) = list_of ts
parameters_of _ = []

read_types : (r : CType) (ts : CTypes) → slice_get sys_types 0 ≡ Some (function r ts) → int ∷ char_pointer ∷ unsigned_int ∷ [] ≡ list_of ts
unfolding sys_types
read_types r ts e = ap parameters_of e

write_types : (r : CType) (ts : CTypes) → slice_get sys_types 1 ≡ Some (function r ts) → int ∷ char_pointer ∷ unsigned_int ∷ [] ≡ list_of ts
unfolding sys_types
write_types r ts e = ap parameters_of e

char_fits : (b : ℕ) → FitsSigned w8 (char_of b)
char_fits b = grind (arith, ints, nat_tests)

unsigned_fits : (n : ℕ) → n < 4294967296 → FitsUnsigned w32 (pos n)
unsigned_fits n h = grind (arith, ints, h)

-- what a record that answers has
answers_right : (x asked : ℕ) (r : SysResult) → does_answer x asked r ≡ true → (length r.bytes ≤ asked) × FitsResult (result_of x) r.value
unfolding table
answers_right zero asked r h = at ((records_are_judged zero asked r).0 h)
  where
    at : AnswersRead asked r → (length r.bytes ≤ asked) × FitsResult (result_of 0) r.value
    at (inl k) = let e : length r.bytes ≡ 0 = ap length k.1 in (omega (arith, e), subst (λ z. FitsSigned w32 z) (sym k.0) (grind (arith, ints)))
    at (inr k) = (k.1, k.2)
answers_right (suc zero) asked r h = at ((records_are_judged 1 asked r).0 h)
  where
    at : AnswersWrite asked r → (length r.bytes ≤ asked) × FitsResult (result_of 1) r.value
    at k = let e : length r.bytes ≡ 0 = ap length k.none in (omega (arith, e), k.fits)
answers_right (suc (suc x)) asked r h =
    let k : AnswersOther (suc (suc x)) r = (records_are_judged (suc (suc x)) asked r).0 h in
    (omega (arith, ap length k.0), k.1)

module _ (p : Program) (n : ℕ) (typed : IsProgram p n) where
  -- the value that a system call gives
  given_result : (o : Objects) (wanted : Bool) (r : CType) (kind : ResultKind) (z : ℤ) → is_result r kind ≡ true → FitsResult kind z → Gives p wanted r o (result_value kind z)
  given_result o wanted (integer i.Int) kinds.Int z e h = kind_given p o wanted int (Int z) (refl, h)
  given_result o wanted (integer i.Uint) kinds.UnsignedInt (pos k) e h = kind_given p o wanted unsigned_int (Uint k) (refl, grind (arith, ints, h))
  given_result o wanted (integer i.Uint) kinds.UnsignedInt (negsuc k) e h = absurd (grind (arith, ints, h))
  given_result o wanted void kinds.Void z e h = tt
  given_result o wanted _ _ z e h = absurd (false≢true e)

  -- cells of chars
  abbrev AreChars : Objects → List Value → Type 0
  AreChars o [] = Unit {0}
  AreChars o (v ∷ vs) = IsCell p o char v × AreChars o vs

  chars_from : (o : Objects) (all : List CType) (vs : List Value) (at k : ℕ) → AllZip (IsCell p o) all vs → ((j : ℕ) → j < k → slice_get all (at + j) ≡ Some char) → AreChars o (take k (drop at vs))
  chars_from o [] [] zero (suc k) z h = tt
  chars_from o [] [] (suc at) (suc k) z h = tt
  chars_from o [] (v ∷ vs) at k z h = absurd z
  chars_from o (t ∷ ts) [] at k z h = absurd z
  chars_from o (t ∷ ts) (v ∷ vs) zero (suc k) z h =
      let got = at_place (t ∷ ts) char (0 + 0) 0 (omega arith) (h 0 (omega arith)) in
      let same : t ≡ char = cc in
      (subst (λ t. IsCell p o t v) same z.0, chars_from o ts vs zero k z.1 (λ j less. at_place (t ∷ ts) char (0 + suc j) (suc (0 + j)) (omega arith) (h (suc j) (omega (arith, less)))))
  chars_from o (t ∷ ts) (v ∷ vs) (suc at) k z h =
      chars_from o ts vs at k z.1 (λ j less. at_place (t ∷ ts) char (suc at + j) (suc (at + j)) (omega arith) (h j less))
  chars_from o all vs at k z h = tt

  one_of : (k j : ℕ) (t : CType) → j < k → slice_get (repeat k (t ∷ [])) j ≡ Some t
  one_of k j t h = at_place (repeat k (t ∷ [])) t (j * 1 + 0) j (omega arith) (repeat_lies k j (t ∷ []) h 0 t refl)

  -- the cells from a pointer to chars on
  cells_right : (o : Objects) (q : Pointer) (k : ℕ) (m : Memory) (ob : Object) → IsPointer p.structs o char q → q.index + k ≤ q.elements → IsTypedMemory p o m → m q.name ≡ Some ob → AreChars o (cells_from q k ob)
  cells_right o q k m ob h room mem e =
      chars_from o h.all ob.cells (q.first + q.index * q.width) k (cells_there p n typed o m q.name h.all ob mem h.known e) (λ j less.
      let flat_at : q.index * q.width ≡ q.index * 1 = ap (λ w. q.index * w) h.wide in
      at_place h.all char (q.first + (q.index + j)) (q.first + q.index * q.width + j) (omega (arith, flat_at)) (h.lies (q.index + j) char (one_of q.elements (q.index + j) char (omega (arith, less, room)))))

  bytes_right : (o : Objects) (vs : List Value) → AreChars o vs → Right (λ bytes. Unit {0}) (bytes_in vs)
  bytes_right o [] h = tt
  bytes_right o (Indeterminate ∷ vs) h = (omega arith, omega arith)
  bytes_right o (Char z ∷ vs) h = right_then {A = List ℕ} {B = List ℕ} (λ bytes. Unit {0}) (λ bytes. Unit {0}) (bytes_in vs) _ (bytes_right o vs h.1) (λ bytes u. tt)
  bytes_right o vs h = absurd (grind (arith, h))

  abbrev AreCharsWhere : Objects → Option (List Value) → Type 0
  AreCharsWhere o None = Unit {0}
  AreCharsWhere o (Some vs) = AreChars o vs

  put_chars : (o : Objects) (v : Value) (vs : Option (List Value)) → IsCell p o char v → AreCharsWhere o vs → AreCharsWhere o (put_first v vs)
  put_chars o v None h k = tt
  put_chars o v (Some vs) h k = (h, k)

  zero_chars : (o : Objects) (vs : List Value) → AreChars o vs → AreCharsWhere o (before_zero vs)
  zero_chars o [] h = tt
  zero_chars o (v ∷ vs) h = at (is_zero v) (zero_chars o vs h.1)
    where
      at : (b : Bool) → AreCharsWhere o (before_zero vs) → AreCharsWhere o (if b then Some [] else put_first v (before_zero vs))
      at true k = tt
      at false k = put_chars o v (before_zero vs) h.0 k

  where_right : (o : Objects) (vs : Option (List Value)) → AreCharsWhere o vs → Right (λ bytes. Unit {0}) (bytes_where vs)
  where_right o None h = (omega arith, omega arith)
  where_right o (Some vs) h = bytes_right o vs h

  string_right : (o : Objects) (q : Pointer) (m : Memory) → IsPointer p.structs o char q → IsTypedMemory p o m → Right (λ bytes. Unit {0}) (string m q)
  string_right o q m h mem =
      there_right {B = List ℕ} (λ bytes. Unit {0}) (m q.name) _ (λ ob e. where_right o (before_zero (cells_from q (q.elements - q.index) ob)) (zero_chars o (cells_from q (q.elements - q.index) ob) (cells_right o q (q.elements - q.index) m ob h (omega (arith, h.within)) mem e)))

  char_object : IsObject p.structs char
  char_object = scalar_object p.structs char tt

  -- an argument of its kind
  argument_right : (o : Objects) (t : CType) (k : ArgKind) (v : Value) (m : Memory) → is_kind t k ≡ true → HasKind p o t v → IsTypedMemory p o m → Right (FitsArgument k) (argument m v)
  argument_right o (integer i.Int) Signed v m e h mem = int_value p o (λ v. Right (FitsArgument Signed) (argument m v)) v h (λ z f. f)
  argument_right o (integer i.Uint) Unsigned v m e h mem = uint_value p o (λ v. Right (FitsArgument Unsigned) (argument m v)) v h unsigned_fits
  argument_right o (pointer (integer i.Char)) Bytes v m e h mem =
      pointer_value p o char (λ v. Right (FitsArgument Bytes) (argument m v)) v h (omega arith, omega arith) (λ f h. pointer_right p n typed o char (Func f) char_object h) (λ q h. right_then {A = List ℕ} {B = Arg} (λ bytes. Unit {0}) (FitsArgument Bytes) (string m q) _ (string_right o q m (pointer_right p n typed o char (At q) char_object h) mem) (λ bytes u. refl))
  argument_right o _ _ v m e h mem = absurd (false≢true e)

  arguments_right : (o : Objects) (ts : CTypes) (ks : List ArgKind) (vs : List Value) (m : Memory) → are_kinds ts ks ≡ true → AllZip (HasKind p o) (list_of ts) vs → IsTypedMemory p o m → Right (λ xs. AllZip FitsArgument ks xs) (arguments m vs)
  arguments_right o no_types [] [] m e z mem = tt
  arguments_right o (more_types t ts) (k ∷ ks) (v ∷ vs) m e z mem =
      right_then {A = Arg} {B = List Arg} (FitsArgument k) (λ xs. AllZip FitsArgument (k ∷ ks) xs) (argument m v) _ (argument_right o t k v m (and_left (is_kind t k) (are_kinds ts ks) e) z.0 mem) (λ x h. right_then {A = List Arg} {B = List Arg} (λ xs. AllZip FitsArgument ks xs) (λ xs. AllZip FitsArgument (k ∷ ks) xs) (arguments m vs) _ (arguments_right o ts ks vs m (and_right (is_kind t k) (are_kinds ts ks) e) z.1 mem) (λ xs g. (h, g)))
  arguments_right o ts ks vs m e z mem = absurd (grind (arith, e, z))

  signed_right : (o : Objects) (v : Value) → HasKind p o int v → Right (λ z. FitsSigned w32 z) (number v)
  signed_right o v h = int_value p o (λ v. Right (λ z. FitsSigned w32 z) (number v)) v h (λ z f. f)

  size_right : (o : Objects) (v : Value) → HasKind p o unsigned_int v → Right (λ k. k < 4294967296) (size v)
  size_right o v h = uint_value p o (λ v. Right (λ k. k < 4294967296) (size v)) v h (λ k f. f)

  -- the buffer that read fills
  abbrev HasRoom : Objects → ℕ → Option Pointer → Type 0
  HasRoom o asked None = Unit {0}
  HasRoom o asked (Some q) = IsPointer p.structs o char q × (q.index + asked ≤ q.elements)

  room_right : {A : Type 0} (ok : A → Type 0) (q : Pointer) (k : ℕ) (r : Answer A) → (q.index + k ≤ q.elements → Right {A = A} ok r) → Right {A = A} ok (has_room q k r)
  room_right {A} ok q k r h =
      tested_right {B = A} ok (nat_le (q.index + k) q.elements) r 12 (omega arith) (omega arith) (λ e. let less : q.index + k ≤ q.elements = grind (arith, nat_tests) in h less)

  room_for_right : (o : Objects) (v : Value) (k : ℕ) (m : Memory) → HasKind p o char_pointer v → Right (HasRoom o k) (room_for m v k)
  room_for_right o v zero m h = tt
  room_for_right o v (suc k) m h =
      right_then {A = Pointer} {B = Option Pointer} (IsPointer p.structs o char) (HasRoom o (suc k)) (pointed v) _ (pointer_right p n typed o char v char_object h) (λ q i. there_right {B = Option Pointer} (HasRoom o (suc k)) (m q.name) _ (λ ob e. writable_right {B = Option Pointer} (HasRoom o (suc k)) ob.string ob.cells _ (room_right {A = Option Pointer} (HasRoom o (suc k)) q (suc k) (gives (Some q)) (λ less. (i, less)))))

  buffer_right : (o : Objects) (v : Value) (k : ℕ) (m : Memory) → HasKind p o char_pointer v → IsTypedMemory p o m → Right (λ bytes. Unit {0}) (bytes_of_buffer m v k)
  buffer_right o v zero m h mem = tt
  buffer_right o v (suc k) m h mem =
      right_then {A = Pointer} {B = List ℕ} (IsPointer p.structs o char) (λ bytes. Unit {0}) (pointed v) _ (pointer_right p n typed o char v char_object h) (λ q i. there_right {B = List ℕ} (λ bytes. Unit {0}) (m q.name) _ (λ ob e. room_right {A = List ℕ} (λ bytes. Unit {0}) q (suc k) (bytes_in (cells_from q (suc k) ob)) (λ less. bytes_right o (cells_from q (suc k) ob) (cells_right o q (suc k) m ob i less mem e))))

  -- what is asked for can be recorded, and its buffer has room
  record IsRequest (x : ℕ) (o : Objects) (q : Request) : Type 0 where
    arguments : AllZip FitsArgument (recorded_of x) q.arguments
    room : HasRoom o q.asked q.buffer

  read_right : (o : Objects) (fd buffer k : Value) (m : Memory) → HasKind p o int fd → HasKind p o char_pointer buffer → HasKind p o unsigned_int k → Right (IsRequest 0 o) (read_request m fd buffer k)
  unfolding table
  read_right o fd buffer k m h b s =
      right_then {A = ℤ} {B = Request} (λ z. FitsSigned w32 z) (IsRequest 0 o) (number fd) _ (signed_right o fd h) (λ z f. right_then {A = ℕ} {B = Request} (λ k. k < 4294967296) (IsRequest 0 o) (size k) _ (size_right o k s) (λ k g. right_then {A = Option Pointer} {B = Request} (HasRoom o k) (IsRequest 0 o) (room_for m buffer k) _ (room_for_right o buffer k m b) (λ room r. record {
        arguments = (f, (unsigned_fits k g, tt));
        room = r;
      })))

  write_right : (o : Objects) (fd buffer k : Value) (m : Memory) → HasKind p o int fd → HasKind p o char_pointer buffer → HasKind p o unsigned_int k → IsTypedMemory p o m → Right (IsRequest 1 o) (write_request m fd buffer k)
  unfolding table
  write_right o fd buffer k m h b s mem =
      right_then {A = ℤ} {B = Request} (λ z. FitsSigned w32 z) (IsRequest 1 o) (number fd) _ (signed_right o fd h) (λ z f. right_then {A = ℕ} {B = Request} (λ k. k < 4294967296) (IsRequest 1 o) (size k) _ (size_right o k s) (λ k g. right_then {A = List ℕ} {B = Request} (λ bytes. Unit {0}) (IsRequest 1 o) (bytes_of_buffer m buffer k) _ (buffer_right o buffer k m b mem) (λ bytes u. record {
        arguments = (f, (refl, tt));
        room = tt;
      })))

  -- the operands of read and write
  three : (o : Objects) (P : List Value → Type 0) (vs : List Value) → AllZip (HasKind p o) (int ∷ char_pointer ∷ unsigned_int ∷ []) vs → ((a b c : Value) → HasKind p o int a → HasKind p o char_pointer b → HasKind p o unsigned_int c → P (a ∷ b ∷ c ∷ [])) → P vs
  three o P (a ∷ b ∷ c ∷ []) z k = k a b c z.0 z.1.0 z.1.1.0
  three o P vs z k = absurd (grind (arith, z))

  request_right : (x : ℕ) (r : CType) (ts : CTypes) (o : Objects) (vs : List Value) (m : Memory) → slice_get sys_types x ≡ Some (function r ts) → AllZip (HasKind p o) (list_of ts) vs → IsTypedMemory p o m → Right (IsRequest x o) (request x m vs)
  request_right zero r ts o vs m e z mem =
      three o (λ vs. Right (IsRequest 0 o) (request 0 m vs)) vs (subst (λ us. AllZip (HasKind p o) us vs) (sym (read_types r ts e)) z) (λ a b c h k l. read_right o a b c m h k l)
  request_right (suc zero) r ts o vs m e z mem =
      three o (λ vs. Right (IsRequest 1 o) (request 1 m vs)) vs (subst (λ us. AllZip (HasKind p o) us vs) (sym (write_types r ts e)) z) (λ a b c h k l. write_right o a b c m h k l mem)
  request_right (suc (suc x)) r ts o vs m e z mem =
      right_then {A = List Arg} {B = Request} (λ xs. AllZip FitsArgument (recorded_of (suc (suc x))) xs) (IsRequest (suc (suc x)) o) (arguments m vs) _ (arguments_right o ts (recorded_of (suc (suc x))) vs m (arguments_pass x r ts e) z mem) (λ xs h. record { arguments = h; room = tt })

  -- read's data go into its buffer
  filled_right : (o : Objects) (q : Pointer) (bytes : List ℕ) (m : Memory) → IsPointer p.structs o char q → q.index + length bytes ≤ q.elements → IsTypedMemory p o m → Right (IsTypedMemory p o) (filled q bytes m)
  filled_right o q [] m h room mem = mem
  filled_right o q (b ∷ bytes) m h room mem =
      right_then {A = Memory} {B = Memory} (IsTypedMemory p o) (IsTypedMemory p o) _ _ (store_right p n typed o char q (Char (char_of b)) m tt h (refl, char_fits b) mem) (λ m mem. filled_right o (next q) bytes m (record { object = h.object; all = h.all; known = h.known; within = omega (arith, room); wide = h.wide; lies = h.lies }) (omega (arith, room)) mem)

  filled_where_right : (o : Objects) (buffer : Option Pointer) (asked : ℕ) (bytes : List ℕ) (m : Memory) → HasRoom o asked buffer → length bytes ≤ asked → IsTypedMemory p o m → Right (IsTypedMemory p o) (filled_where buffer bytes m)
  filled_where_right o None asked bytes m h short mem = mem
  filled_where_right o (Some q) asked bytes m h short mem = filled_right o q bytes m h.0 (omega (arith, short, h.1)) mem

  record_ends : (x : ℕ) (r : CType) (ts : CTypes) (o : Objects) (wanted : Bool) (q : Request) (rs : List SysResult) (st : State) → slice_get sys_types x ≡ Some (function r ts) → IsRequest x o q → IsTypedState p o st → EndsTyped p {A = Value} (Gives p wanted r) o st.entries (take_record x q rs st)
  record_ends x r ts o wanted q [] st e h k = (tt, All-nil IsRecorded)
  record_ends x r ts o wanted q (a ∷ rs) st e h k =
      if_ends p {A = Value} (Gives p wanted r) o st.entries (does_answer x q.asked a) _ _ (λ d.
      let right = answers_right x q.asked a d in
      after_ends p {A = Value} (Gives p wanted r) o st.entries (Sys x q.arguments a.value ∷ []) _ (All-cons IsRecorded (Sys x q.arguments a.value) [] (h.arguments, right.1) (All-nil IsRecorded)) (remembered_ends p {A = Value} (Gives p wanted r) o _ (result_value (result_of x) a.value) (with_records st rs) (filled_where_right o q.buffer q.asked a.bytes st.memory h.room right.0 k.memory) (given_result o wanted r (result_of x) a.value (results_pass x r ts e) right.1) k)) (λ d. (omega arith, All-nil IsRecorded))

  exit_ends : (o : Objects) (start : ℕ) (ok : Objects → Value → Type 0) (xs : List Arg) → AllZip FitsArgument (recorded_of exit_call) xs → EndsTyped p {A = Value} ok o start (exit_with xs)
  unfolding table
  exit_ends o start ok (args.Int s ∷ []) z = (z.0, All-cons IsRecorded (Sys exit_call (args.Int s ∷ []) (pos 0)) [] (z, refl) (All-nil IsRecorded))
  exit_ends o start ok xs z = absurd (grind (arith, z))

  pub system_call_ends : (x : ℕ) (r : CType) (ts : CTypes) (o : Objects) (wanted : Bool) (vs : List Value) (st : State) → slice_get sys_types x ≡ Some (function r ts) → AllZip (HasKind p o) (list_of ts) vs → IsTypedState p o st → EndsTyped p {A = Value} (Gives p wanted r) o st.entries (system_call x vs st)
  system_call_ends x r ts o wanted vs st e z k =
      then_ends p {A = Request} {B = Value} (IsRequest x) (Gives p wanted r) o _ _ _ (answered_ends p {A = Request} (IsRequest x) o (request x st.memory vs) st (request_right x r ts o vs st.memory e z k.memory) k) (λ u q st g h k. if_ends p {A = Value} (Gives p wanted r) u st.entries (nat_eq x exit_call) _ _ (λ d. exit_ends u st.entries (Gives p wanted r) q.arguments (subst (λ x. AllZip FitsArgument (recorded_of x) q.arguments) (eqb-true x exit_call d) h.arguments)) (λ d. record_ends x r ts u wanted q st.records st e h k))
