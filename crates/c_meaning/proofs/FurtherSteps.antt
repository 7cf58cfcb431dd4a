-- Steps on values and memory answer the same where the objects that the values lead to are the same.
use Rattle.std.proofs.Common.{◌≡◌, ℕ, zero, suc, Bool, true, false, ℤ, pos, List, [], ◌∷◌, None, ap, refl}
use Rattle.dm_base.specs.declared.event.Arg.TheVariants as args
use Rattle.c_tree.specs.declared.value.UnOp.{UnOp}
use Rattle.c_tree.specs.declared.value.UnOp.TheVariants.{Not}
use Rattle.c_tree.specs.declared.value.BinOp.{BinOp}
use Rattle.c_tree.specs.declared.value.BinOp.TheVariants.{Less, Greater, LessEqual, GreaterEqual, Equal, NotEqual}
use Rattle.c_tree.specs.declared.value.Pointer.{Pointer}
use Rattle.c_tree.specs.declared.value.Value.{Value}
use Rattle.c_tree.specs.declared.value.Value.TheVariants.{Indeterminate, Char, Uchar, Null, Func, At}
use Rattle.c_tree.specs.Tree.{CType, integer, pointer, function}
use Rattle.c_tree.specs.Operators.{Answer, gives, undefined, and_then}
use Rattle.c_meaning.specs.Memory.{Objects as Memory}
use Rattle.c_meaning.specs.Meaning.{behind_of, operated, comparing, moving, is_subtraction, updated}
use Rattle.c_meaning.specs.Pointers.{number, behind, load_place, moved, in_one_array, difference, alive, equality, compared, test}
use Rattle.c_meaning.specs.SystemCalls.{bytes_of_buffer, room_for, size, Request, argument, arguments, read_request, write_request, request}

-- where the value is a pointer, the object that it leads to is the same in both memories
abbrev pub Sees : Memory → Memory → Value → Type 0
Sees m l (At q) = l q.name ≡ m q.name
Sees m l v = Unit {0}

abbrev pub AllSee : Memory → Memory → List Value → Type 0
AllSee m l [] = Unit {0}
AllSee m l (v ∷ vs) = Sees m l v × AllSee m l vs

module _ (m l : Memory) where
  pub test_same : (v : Value) → Sees m l v → test l v ≡ test m v
  test_same (At q) h = cc
  test_same v h = refl

  behind_same : (v : Value) → Sees m l v → behind l v ≡ behind m v
  behind_same (At q) h = cc
  behind_same v h = refl

  pub behind_of_same : (t : CType) (v : Value) → Sees m l v → behind_of t l v ≡ behind_of t m v
  behind_of_same (function r ts) v h = refl
  behind_of_same t v h = behind_same v h

  pub load_place_same : (v : Value) → Sees m l v → load_place l v ≡ load_place m v
  load_place_same (At q) h = cc
  load_place_same v h = refl

  moved_same : (subtracted : Bool) (v w : Value) → Sees m l v → moved l subtracted v w ≡ moved m subtracted v w
  moved_same s (At q) w h = cc
  moved_same s v w h = refl

  pub moving_same : (first subtracted : Bool) (v w : Value) → Sees m l v → Sees m l w → moving first subtracted l v w ≡ moving first subtracted m v w
  moving_same true s v w h k = moved_same s v w h
  moving_same false s v w h k = moved_same s w v k

  in_one_same : {A : Type 0} (v w : Value) (f : Pointer → Pointer → Answer A) → Sees m l v → Sees m l w → in_one_array {A = A} l v w f ≡ in_one_array {A = A} m v w f
  in_one_same (At a) (At b) f h k = rw (h, k) refl
  in_one_same v w f h k = refl

  pub difference_same : (v w : Value) → Sees m l v → Sees m l w → difference l v w ≡ difference m v w
  difference_same v w h k = in_one_same {A = Value} v w _ h k

  alive_same : (v : Value) → Sees m l v → alive l v ≡ alive m v
  alive_same (At q) h = cc
  alive_same v h = refl

  equality_same : (v w : Value) → Sees m l v → Sees m l w → equality l v w ≡ equality m v w
  equality_same v w h k = rw (alive_same v h, alive_same w k) refl

  compared_same : (op : BinOp) (v w : Value) → Sees m l v → Sees m l w → compared l op v w ≡ compared m op v w
  compared_same Less v w h k = in_one_same {A = Value} v w _ h k
  compared_same Greater v w h k = in_one_same {A = Value} v w _ h k
  compared_same LessEqual v w h k = in_one_same {A = Value} v w _ h k
  compared_same GreaterEqual v w h k = in_one_same {A = Value} v w _ h k
  compared_same Equal v w h k = cc (equality_same v w h k)
  compared_same NotEqual v w h k = cc (equality_same v w h k)
  compared_same op v w h k = refl

  pub comparing_same : (op : BinOp) (v w : Value) → Sees m l v → Sees m l w → comparing op l v w ≡ comparing op m v w
  comparing_same op Indeterminate w h k = compared_same op Indeterminate w h k
  comparing_same op (Char z) w h k = compared_same op (Char z) w h k
  comparing_same op (Uchar n) w h k = compared_same op (Uchar n) w h k
  comparing_same op Null w h k = compared_same op Null w h k
  comparing_same op (Func f) w h k = compared_same op (Func f) w h k
  comparing_same op (At q) w h k = compared_same op (At q) w h k
  comparing_same op v w h k = refl

  pub operated_same : (op : UnOp) (v : Value) → Sees m l v → operated op l v ≡ operated op m v
  operated_same Not v h = cc (test_same v h)
  operated_same op v h = refl

  pub updated_same : (op : BinOp) (t u : CType) (before v : Value) → Sees m l before → updated op t u l before v ≡ updated op t u m before v
  updated_same op (integer i) (integer k) before v h = refl
  updated_same op (pointer t) u before v h = moved_same (is_subtraction op) before v h
  updated_same op t u before v h = refl

  -- ## System calls

  then_same : {A B : Type 0} (r : Answer A) (f g : A → Answer B) → ((a : A) → f a ≡ g a) → and_then r f ≡ and_then r g
  then_same (gives a) f g h = h a
  then_same (undefined kind) f g h = refl

  room_for_same : (v : Value) (k : ℕ) → Sees m l v → room_for l v k ≡ room_for m v k
  room_for_same (At q) (suc k) h = cc
  room_for_same v k h = refl

  buffer_same : (v : Value) (k : ℕ) → Sees m l v → bytes_of_buffer l v k ≡ bytes_of_buffer m v k
  buffer_same (At q) (suc k) h = cc
  buffer_same v k h = refl

  argument_same : (v : Value) → Sees m l v → argument l v ≡ argument m v
  argument_same (At q) h = cc
  argument_same v h = refl

  arguments_same : (vs : List Value) → AllSee m l vs → arguments l vs ≡ arguments m vs
  arguments_same [] h = refl
  arguments_same (v ∷ vs) h = rw (argument_same v h.0, arguments_same vs h.1) refl

  read_same : (fd buffer k : Value) → Sees m l buffer → read_request l fd buffer k ≡ read_request m fd buffer k
  read_same fd buffer k h =
      then_same {A = ℤ} {B = Request} (number fd) _ _ (λ fd. then_same {A = ℕ} {B = Request} (size k) _ _ (λ n. ap (λ r. and_then r (λ room. gives (record { arguments = args.Int fd ∷ args.Int (pos n) ∷ []; asked = n; buffer = room }))) (room_for_same buffer n h)))

  write_same : (fd buffer k : Value) → Sees m l buffer → write_request l fd buffer k ≡ write_request m fd buffer k
  write_same fd buffer k h =
      then_same {A = ℤ} {B = Request} (number fd) _ _ (λ fd. then_same {A = ℕ} {B = Request} (size k) _ _ (λ n. ap (λ r. and_then r (λ bytes. gives (record { arguments = args.Int fd ∷ args.Bytes bytes ∷ []; asked = n; buffer = None }))) (buffer_same buffer n h)))

  pub request_same : (x : ℕ) (vs : List Value) → AllSee m l vs → request x l vs ≡ request x m vs
  request_same zero (a ∷ b ∷ c ∷ []) h = read_same a b c h.1.0
  request_same (suc zero) (a ∷ b ∷ c ∷ []) h = write_same a b c h.1.0
  request_same (suc (suc x)) vs h = cc (arguments_same vs h)
  request_same x vs h = refl
