-- What a machine can't hold doesn't come where values and memory are typed: the steps answer as they are meant.
use Rattle.std.proofs.Common.{◌≡◌, ℕ, ◌<◌, ◌≤◌, nat_le, if◌then◌else◌, Bool, true, false, List, [], length, Some, slice_get, ap, ◌∙◌, refl, arith}
use Rattle.std.specs.List.{AllZip, list_all}
use Rattle.std.proofs.lemmas.Bool.{lt-ltb, le-leb}
use Rattle.std.proofs.lemmas.Int.{ints}
use Rattle.std.proofs.lemmas.Slice.Zip.{AllZip-long}
use Rattle.c_tree.specs.declared.value.ObjectName.{ObjectName}
use Rattle.c_tree.specs.declared.value.Value.{Value}
use Rattle.c_tree.specs.declared.value.Value.TheVariants.{Int, Func, At}
use Rattle.c_tree.specs.Tree.{CType, void, integer, pointer, array, struct, function, list_of, Program}
use Rattle.c_tree.specs.Layout.{flat, cells}
use Rattle.c_tree.specs.Functions.{int, sys_types}
use Rattle.c_tree.specs.Operands.{IsObject, IsTarget, Decays}
use Rattle.c_tree.specs.Operators.{fits_int}
use Rattle.c_tree.specs.Kinds.{Objects}
use Rattle.c_tree.specs.Program.{IsProgram}
use Rattle.c_tree.specs.Typed.{IsMemberOf}
use Rattle.c_values.specs.Answers.{Answer, gives, undefined, and_then, U13}
use Rattle.c_values.specs.Memory.{Objects as Memory}
use Rattle.c_meaning.specs.Meaning as meaning
use Rattle.c_meaning.specs.Pointers.{place, member, to_first, difference}
use Rattle.c_meaning.specs.Results.{State, Stop}
use Rattle.c_meaning.specs.SystemCalls as calls
use Rattle.dm_base.specs.declared.outcome.Outcome.TheVariants.{Undefined}
use Rattle.std.proofs.lemmas.List.Sums.{AllPass-from_list_all}
use Rattle.c_meaning.specs.StoreTyping.{HasKind, IsPlaced}
use Rattle.c_meaning.proofs.Differences.{has_cell, difference_right}
use Rattle.c_meaning.proofs.Places.{all_get, element_object, lies_within}
use Rattle.c_meaning.proofs.Steps.{Right, behind_of_right, field_right}
use Rattle.ref_machine_frames.specs.Words.{in_words, held}
use Rattle.ref_machine_frames.specs.Cells.{few_cells}
use Rattle.ref_machine_frames.specs.Held.{whole, behind_of, decayed, member_of, system_call}

-- the types of objects are told of with at most 65,536 cells each
abbrev pub AreFew : Objects → Type 0
AreFew o = (x : ObjectName) (all : List CType) → o x ≡ Some all → length all ≤ 65536

pub few_same : (k : ℕ) → k ≤ 65536 → few_cells k ≡ gives k
few_same k le = ap (λ b. if b then gives k else undefined U13) (le-leb k 65536 le)

held_same : (ok : Value → Type 0) (a : Answer Value) → Right {A = Value} ok a → ((v : Value) → ok v → in_words v ≡ gives v) → held a ≡ a
held_same ok (gives v) h k = k v h
held_same ok (undefined kind) h k = refl

int_words : (p : Program) (o : Objects) (v : Value) → HasKind p o int v → in_words v ≡ gives v
int_words p o (Int z) h =
    let fits : fits_int z ≡ true = grind (arith, ints, h.1) in
    ap (λ b. if b then gives (Int z) else undefined U13) fits
int_words p o (At q) h = absurd (cc (h.1))
int_words p o v h = refl

module _ (p : Program) (n : ℕ) (typed : IsProgram p n) where
  place_words : (o : Objects) (t : CType) (v : Value) → AreFew o → IsPlaced p o t v → in_words v ≡ gives v
  place_words o t (Int z) few h = absurd h
  place_words o t (At q) few h =
      let some = has_cell p.structs typed.structs t h.object.complete in
      let within = lies_within h.all (flat p.structs t) q.first h.lies (omega (arith, some)) in
      let all = few q.name h.all h.known in
      let below : q.first < 4294967296 = omega (arith, within, all) in
      ap (λ b. if b then gives (At q) else undefined U13) (lt-ltb q.first 4294967296 below)
  place_words o t v few h = refl

  -- the place of an object
  pub whole_same : (x : ObjectName) (t : CType) → IsObject p.structs t → whole p.structs x t ≡ gives (place x 0 (cells p.structs t))
  whole_same x t b = ap (λ a. and_then a (λ width. gives (place x 0 width))) (few_same (cells p.structs t) b.few)

  pub behind_of_same : (o : Objects) (t : CType) (v : Value) (m : Memory) → AreFew o → IsTarget p.structs t → HasKind p o (pointer t) v → behind_of t m v ≡ meaning.behind_of t m v
  behind_of_same o void v m few b h = absurd b
  behind_of_same o (integer i) v m few b h = held_same (IsPlaced p o (integer i)) _ (behind_of_right p n typed o (integer i) v m b h) (λ v k. place_words o (integer i) v few k)
  behind_of_same o (pointer t) v m few b h = held_same (IsPlaced p o (pointer t)) _ (behind_of_right p n typed o (pointer t) v m b h) (λ v k. place_words o (pointer t) v few k)
  behind_of_same o (array t k) v m few b h = held_same (IsPlaced p o (array t k)) _ (behind_of_right p n typed o (array t k) v m b h) (λ v k. place_words o (array t _) v few k)
  behind_of_same o (struct s) v m few b h = held_same (IsPlaced p o (struct s)) _ (behind_of_right p n typed o (struct s) v m b h) (λ v k. place_words o (struct s) v few k)
  behind_of_same o (function r ts) v m few b h = refl

  array_few : (o : Objects) (t : CType) (k : ℕ) (v : Value) → IsPlaced p o (array t k) v → cells p.structs t ≤ 65536
  array_few o t k (Func f) h = absurd (cc (h.2))
  array_few o t k (At q) h = (element_object p.structs t k h.object).few
  array_few o t k v h = absurd h

  pub decayed_same : (o : Objects) (u t : CType) (v : Value) → Decays p.structs u t → IsPlaced p o u v → decayed p.structs u v ≡ meaning.decayed p.structs u v
  decayed_same o (array u k) t v d h = ap (λ a. and_then a (λ width. to_first width k v)) (few_same (cells p.structs u) (array_few o u k v h))
  decayed_same o (function r ts) t v d h = refl
  decayed_same o u t v d h = absurd d

  member_few : (o : Objects) (u t : CType) (first : ℕ) (v : Value) → IsMemberOf p u first t → IsPlaced p o u v → cells p.structs t ≤ 65536
  member_few o u t first (Func f) b h = absurd (cc (b.3, h.2))
  member_few o u t first (At q) b h = (field_right p n typed o u t first (At q) b h).object.few
  member_few o u t first v b h = absurd h

  pub member_of_same : (o : Objects) (u t : CType) (first : ℕ) (v : Value) → AreFew o → IsMemberOf p u first t → IsPlaced p o u v → member_of p.structs first t v ≡ member first (cells p.structs t) v
  member_of_same o u t first v few b h =
      ap (λ a. and_then a (λ width. held (member first width v))) (few_same (cells p.structs t) (member_few o u t first v b h))
      ∙ held_same (IsPlaced p o t) (member first (cells p.structs t) v) (field_right p n typed o u t first v b h) (λ v k. place_words o t v few k)

  pub difference_same : (o : Objects) (t : CType) (v w : Value) (m : Memory) → AreFew o → IsObject p.structs t → HasKind p o (pointer t) v → HasKind p o (pointer t) w → held (difference m v w) ≡ difference m v w
  difference_same o t v w m few b h k =
      held_same (HasKind p o int) (difference m v w) (difference_right p n typed o t v w m b few h k) (λ v i. int_words p o v i)

-- ## System calls

abbrev is_short : CType → Bool
is_short (function r ts) = nat_le (length (list_of ts)) 3
is_short _ = false

sys_short : list_all is_short sys_types ≡ true
unfolding sys_types
sys_short = refl

-- a system call has at most three arguments
pub system_call_same : (p : Program) (o : Objects) (x : ℕ) (r : CType) (ts : _) (vs : List Value) (st : State) → slice_get sys_types x ≡ Some (function r ts) → AllZip (HasKind p o) (list_of ts) vs → system_call x vs st ≡ calls.system_call x vs st
system_call_same p o x r ts vs st e z =
    let short : nat_le (length (list_of ts)) 3 ≡ true = all_get (λ t. is_short t ≡ true) sys_types x (function r ts) (AllPass-from_list_all is_short sys_types sys_short) e in
    let many : length vs ≡ length (list_of ts) = AllZip-long (HasKind p o) (list_of ts) vs z in
    ap (λ b. if b then calls.system_call x vs st else Stop (Undefined 13) []) (ap (λ k. nat_le k 3) many ∙ short)
