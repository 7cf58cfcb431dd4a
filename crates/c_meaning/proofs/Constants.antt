-- A constant argument has in each run the value that it has in the program, and so an event fits its pattern (C99 6.6).
use Rattle.std.proofs.Common.{◌≡◌, ℕ, zero, suc, ◌<◌, Bool, true, false, not, ◌&&◌, List, [], ◌∷◌, ℤ, pos, Option, Some, None, slice_get, slice_index_or, refl, ap, sym, ◌∙◌, subst, arith}
use Rattle.std.specs.Int.{w32, int_wrap}
use Rattle.std.specs.Ordering.{int_eq}
use Rattle.std.specs.Prelude.{drop}
use Rattle.std.proofs.lemmas.Bool.Decides.{Decides-int_eq}
use Rattle.std.proofs.lemmas.Int.{ints, int_wrap_fits}
use Rattle.dm_base.specs.declared.event.Arg.{Arg}
use Rattle.dm_base.specs.declared.event.Arg.TheVariants as args
use Rattle.dm_base.specs.Fits.{IsNumber, FitArguments}
use Rattle.c_meaning.specs.ArgKind.{ArgKind}
use Rattle.c_meaning.specs.ArgKind.TheVariants.{Signed, Unsigned, Bytes}
use Rattle.c_meaning.specs.ResultKind.TheVariants.{Void}
use Rattle.c_meaning.specs.Table.{Row, row, table, recorded_of}
use Rattle.c_tree.specs.declared.value.IntType.{IntType}
use Rattle.c_tree.specs.declared.value.IntType.TheVariants as i
use Rattle.c_tree.specs.declared.value.UnOp.{UnOp}
use Rattle.c_tree.specs.declared.value.UnOp.TheVariants.{Not}
use Rattle.c_tree.specs.declared.value.Pointer.{Pointer}
use Rattle.c_tree.specs.declared.value.Value.{Value}
use Rattle.c_tree.specs.declared.value.Value.TheVariants.{Int, Uint, Char, Uchar, Null, Func, At}
use Rattle.c_tree.specs.Tree.{CType, integer, function, CTypes, no_types, more_types, Program, type_of}
use Rattle.c_tree.specs.Tree.{Expr, constant, unary_operation, conversion, arithmetic}
use Rattle.c_tree.specs.Tree.{Exprs, no_exprs, more_exprs}
use Rattle.c_tree.specs.Functions.{int, unsigned_int, char_pointer, sys_types}
use Rattle.c_tree.specs.Operands.{FitsUnary}
use Rattle.c_tree.specs.Operators.{Answer, gives, undefined, truth, convert, unary, binary, low_bits}
use Rattle.c_tree.specs.OperatorTypes.{IsAnswer, IsGiven}
use Rattle.c_tree.specs.Kinds.{IsConstant}
use Rattle.c_tree.specs.Program.{IsProgram}
use Rattle.c_tree.specs.Kinds.{static_objects}
use Rattle.c_meaning.specs.StoreTyping.{HasKind}
use Rattle.c_meaning.proofs.Steps.{Right, constant_of, of_constant, operated_right}
use Rattle.c_tree.specs.Typed.{IsValue, AreArguments}
use Rattle.c_tree.specs.Constants.{given, given_of, given_of_two, constant_value, number_in, entry, entries, recorded_arguments, pattern_of}
use Rattle.c_tree.proofs.OperatorLemmas.{converted, arithmetic_fits}
use Rattle.c_meaning.specs.CallGraph.{same_type}
use Rattle.c_meaning.proofs.SameTypes.{types_tell}
use Rattle.c_meaning.specs.Memory.{Objects}
use Rattle.c_meaning.specs.Meaning.{Marks, Frame, World, eval, operated}
use Rattle.c_meaning.specs.Pointers.{truth_value, is_not_zero, number}
use Rattle.c_meaning.specs.Results.{State, Go, after, then_do, answered}
use Rattle.c_meaning.specs.SystemCalls.{Request, argument, arguments, room_for, bytes_of_buffer, read_request, write_request, request, size}
use Rattle.c_meaning.proofs.Together.{Whenever, whenever_then, any_whenever}
use Rattle.c_meaning.proofs.Lists.{and_left, and_right, same_some, no_some}

given_is : {A : Type 0} (x : Answer A) (a : A) → given x ≡ Some a → x ≡ gives a
given_is (gives b) a e = ap gives (same_some b a e)
given_is (undefined kind) a e = absurd (no_some a e)

given_from : (o : Option Value) (f : Value → Answer Value) (y : Value) → given_of o f ≡ Some y → (x : Value) × (o ≡ Some x) × (f x ≡ gives y)
given_from None f y e = absurd (no_some y e)
given_from (Some x) f y e = (x, refl, given_is (f x) y e)

given_from_two : (o q : Option Value) (f : Value → Value → Answer Value) (y : Value) → given_of_two o q f ≡ Some y → (x z : Value) × (o ≡ Some x) × (q ≡ Some z) × (f x z ≡ gives y)
given_from_two (Some x) (Some z) f y e = (x, z, refl, refl, given_is (f x z) y e)
given_from_two o q f y e = absurd (no_some y e)

-- `!` of a number is what a test says
truth_is : (b : Bool) → truth b ≡ gives (truth_value b)
truth_is true = refl
truth_is false = refl

zero_is : (z : ℤ) → not (is_not_zero z) ≡ int_eq z (pos 0)
zero_is (pos zero) = refl
zero_is z = by (int_eq z (pos 0)) refl
  where
    by : (b : Bool) → int_eq z (pos 0) ≡ b → false ≡ int_eq z (pos 0)
    by true e = let same = (Decides-int_eq z (pos 0)).0 e in absurd (grind (arith, ints, same))
    by false e = sym e

not_is : (z : ℤ) → gives (truth_value (not (is_not_zero z))) ≡ truth (int_eq z (pos 0))
not_is z = ap (λ b. gives (truth_value b)) (zero_is z) ∙ sym (truth_is (int_eq z (pos 0)))

operated_is : (op : UnOp) (m : Objects) (x y : Value) → unary op x ≡ gives y → operated op m x ≡ gives y
operated_is Not m (Int z) y e = not_is z ∙ e
operated_is Not m (Uint n) y e = not_is (pos n) ∙ e
operated_is Not m (Char z) y e = not_is z ∙ e
operated_is Not m (Uchar n) y e = not_is (pos n) ∙ e
operated_is Not m Null y e = absurd (cc)
operated_is Not m (Func f) y e = absurd (cc)
operated_is Not m (At q) y e = absurd (cc)
operated_is op m x y e = e

module _ (p : Program) (w : World) (marks : Marks) (fr : Frame) where
  -- one operand, and a step with its value
  one_is : (a : Expr) (x y : Value) (st : State) (f : State → Value → Answer Value) → eval p w marks fr true a st ≡ Go x st [] → f st x ≡ gives y → then_do (eval p w marks fr true a st) (λ v st. answered (f st v) st) ≡ Go y st []
  one_is a x y st f h e =
      ap (λ r. then_do {A = Value} {B = Value} r (λ v st. answered (f st v) st)) h ∙ ap (λ z. after {A = Value} [] (answered z st)) e

  two_is : (a b : Expr) (x z y : Value) (st : State) (f : Value → Value → Answer Value) → eval p w marks fr true a st ≡ Go x st [] → eval p w marks fr true b st ≡ Go z st [] → f x z ≡ gives y → then_do (eval p w marks fr true a st) (λ v st. then_do (eval p w marks fr true b st) (λ u st. answered (f v u) st)) ≡ Go y st []
  two_is a b x z y st f h k e =
      ap (λ r. then_do {A = Value} {B = Value} r (λ v st. then_do (eval p w marks fr true b st) (λ u st. answered (f v u) st))) h ∙ ap (λ r. after {A = Value} [] r) (one_is b z y st (λ s u. f x u) k e)

  -- a constant has its value, and makes no events
  pub constant_is : (wanted : Bool) (e : Expr) (y : Value) (st : State) → constant_value e ≡ Some y → eval p w marks fr wanted e st ≡ Go y st []
  constant_is wanted (constant t x) y st h = ap (λ v. Go v st []) (same_some x y h)
  constant_is wanted (conversion t to a) y st h =
      let r = given_from (constant_value a) (convert to) y h in
      one_is a r.0 y st (λ s v. convert to v) (constant_is true a r.0 st r.1) r.2
  constant_is wanted (unary_operation t op a) y st h =
      let r = given_from (constant_value a) (unary op) y h in
      one_is a r.0 y st (λ s v. operated op s.memory v) (constant_is true a r.0 st r.1) (operated_is op st.memory r.0 y r.2)
  constant_is wanted (arithmetic t op a b) y st h =
      let r = given_from_two (constant_value a) (constant_value b) (binary op) y h in
      two_is a b r.0 r.1 y st (binary op) (constant_is true a r.0 st r.2) (constant_is true b r.1 st r.3) r.4
  constant_is wanted _ y st h = absurd (no_some y h)

unary_integer : (op : UnOp) (t u : CType) → FitsUnary op t u → (k : IntType) × (t ≡ integer k)
unary_integer Not t u h = (i.Int, h.0)
unary_integer op t u h = (h.0, h.1)

module _ (p : Program) (n : ℕ) (right : IsProgram p n) (vars : List CType) (m : Objects) where
  constant_typed : (e : Expr) (y : Value) → IsValue p vars e → constant_value e ≡ Some y → IsConstant (type_of e) y
  constant_typed (constant t x) y h k = subst (λ v. IsConstant t v) (same_some x y k) h
  constant_typed (conversion t to a) y h k =
      let r = given_from (constant_value a) (convert to) y k in
      subst (λ t. IsConstant t y) (sym h.0) (subst (λ a. IsGiven (integer to) a) r.2 (converted to (type_of a) (h.1.0) r.0 (h.1.1) (constant_typed a r.0 h.2 r.1)))
  constant_typed (unary_operation t op a) y h k =
      let r = given_from (constant_value a) (unary op) y k in
      let o = static_objects p in
      let kind = unary_integer op t (type_of a) h.0 in
      let typed : HasKind p o t y = subst (Right {A = Value} (HasKind p o t)) (operated_is op m r.0 y r.2) (operated_right p n right o op t (type_of a) r.0 m h.0 (of_constant p n right o (type_of a) r.0 (constant_typed a r.0 h.1 r.1))) in
      subst (λ t. IsConstant t y) (sym kind.1) (constant_of p n right o kind.0 y (subst (λ t. HasKind p o t y) kind.1 typed))
  constant_typed (arithmetic t op a b) y h k =
      let r = given_from_two (constant_value a) (constant_value b) (binary op) y k in
      subst (λ a. IsAnswer t a) r.4 (arithmetic_fits op t (type_of a) (type_of b) r.0 r.1 h.0 (constant_typed a r.0 h.1 r.2) (constant_typed b r.1 h.2 r.3))
  constant_typed _ y h k = absurd (no_some y k)

-- the entry of a pattern fits the argument
abbrev EntryFits : Option ℤ → Arg → Type 0
EntryFits None a = Unit {0}
EntryFits (Some n) a = IsNumber n a

fit_first : (o : Option ℤ) (pattern : List (Option ℤ)) (a : Arg) (rest : List Arg) → EntryFits o a → FitArguments pattern rest → FitArguments (o ∷ pattern) (a ∷ rest)
fit_first None pattern a rest h k = k
fit_first (Some n) pattern a rest h k = (h, k)

-- a value is that of a constant argument, and has its type
abbrev IsOf : Option Value → CType → Value → Type 0
IsOf o t v = (y : Value) → o ≡ Some y → (v ≡ y) × IsConstant t y

if_map : {A : Type 0} (P Q : A → Type 0) (x : Answer A) → Whenever P x → ((a : A) → P a → Q a) → Whenever Q x
if_map P Q (gives a) h k = k a h
if_map P Q (undefined kind) h k = tt

signed_at : {A : Type 0} (as_arg : A → Arg) (read : Value → Answer A) → ((z : ℤ) → Whenever (λ a. as_arg a ≡ args.Int z) (read (Int z))) → (y : Value) → IsConstant int y → Whenever (λ a. EntryFits (number_in (given (convert i.Int y))) (as_arg a)) (read y)
signed_at {A = A} as_arg read is (Int z) h =
    if_map {A = A} (λ a. as_arg a ≡ args.Int z) (λ a. IsNumber (int_wrap w32 z) (as_arg a)) (read (Int z)) (is z) (λ a e. subst (λ b. IsNumber (int_wrap w32 z) b) (sym e) (sym (int_wrap_fits w32 z h.1)))
signed_at as_arg read is y h = absurd (grind (arith, h))

low_bits_same : (n : ℕ) → n < 4294967296 → pos n ≡ pos (low_bits 32 (pos n))
low_bits_same n h = grind (arith, ints, h)

unsigned_at : {A : Type 0} (as_arg : A → Arg) (read : Value → Answer A) → ((n : ℕ) → Whenever (λ a. as_arg a ≡ args.Int (pos n)) (read (Uint n))) → (y : Value) → IsConstant unsigned_int y → Whenever (λ a. EntryFits (number_in (given (convert i.Uint y))) (as_arg a)) (read y)
unsigned_at {A = A} as_arg read is (Uint n) h =
    if_map {A = A} (λ a. as_arg a ≡ args.Int (pos n)) (λ a. IsNumber (pos (low_bits 32 (pos n))) (as_arg a)) (read (Uint n)) (is n) (λ a e. subst (λ b. IsNumber (pos (low_bits 32 (pos n))) b) (sym e) (low_bits_same n h.1))
unsigned_at as_arg read is y h = absurd (grind (arith, h))

-- an entry that is no number, or that of a constant
at_constant : {A : Type 0} (to : IntType) (as_arg : A → Arg) (read : Value → Answer A) (o : Option Value) (v : Value) → IsOf o (integer to) v → ((y : Value) → IsConstant (integer to) y → Whenever (λ a. EntryFits (number_in (given (convert to y))) (as_arg a)) (read y)) → Whenever (λ a. EntryFits (number_in (given_of o (convert to))) (as_arg a)) (read v)
at_constant {A = A} to as_arg read None v h k = any_whenever {A = A} (read v)
at_constant to as_arg read (Some y) v h k =
    let r = h y refl in
    subst (λ v. Whenever (λ a. EntryFits (number_in (given (convert to y))) (as_arg a)) (read v)) (sym r.0) (k y r.1)

-- the kind of a recorded argument is that of the parameter's type
abbrev kind_is : ArgKind → CType → Bool
kind_is Signed t = same_type t int
kind_is Unsigned t = same_type t unsigned_int
kind_is Bytes t = true

entry_fits : (m : Objects) (kind : ArgKind) (t : CType) (e : Expr) (v : Value) → kind_is kind t ≡ true → IsOf (constant_value e) t v → Whenever (λ a. EntryFits (entry kind e) a) (argument m v)
entry_fits m Signed t e v k h =
    at_constant {A = Arg} i.Int (λ a. a) (argument m) (constant_value e) v (subst (λ t. IsOf (constant_value e) t v) ((types_tell t int).0 k) h) (signed_at {A = Arg} (λ a. a) (argument m) (λ z. refl))
entry_fits m Unsigned t e v k h =
    at_constant {A = Arg} i.Uint (λ a. a) (argument m) (constant_value e) v (subst (λ t. IsOf (constant_value e) t v) ((types_tell t unsigned_int).0 k) h) (unsigned_at {A = Arg} (λ a. a) (argument m) (λ n. refl))
entry_fits m Bytes t e v k h = any_whenever {A = Arg} (argument m v)

-- the values of arguments: those of the constant ones are told
abbrev pub AreConstants : Exprs → List Value → Type 0
AreConstants no_exprs [] = Unit {0}
AreConstants (more_exprs e es) (v ∷ vs) = ((y : Value) → constant_value e ≡ Some y → v ≡ y) × AreConstants es vs
AreConstants a u = ⊥

abbrev kinds_are : List ArgKind → CTypes → Bool
kinds_are (kind ∷ kinds) (more_types t ts) = kind_is kind t && kinds_are kinds ts
kinds_are a ts = true

module _ (p : Program) (n : ℕ) (right : IsProgram p n) (vars : List CType) (m : Objects) where
  is_of : (e : Expr) (t : CType) (v : Value) → type_of e ≡ t → IsValue p vars e → ((y : Value) → constant_value e ≡ Some y → v ≡ y) → IsOf (constant_value e) t v
  is_of e t v h k is = λ y q. (is y q, subst (λ t. IsConstant t y) h (constant_typed p n right vars m e y k q))

  args_fit : (kinds : List ArgKind) (ts : CTypes) (es : Exprs) (vs : List Value) → kinds_are kinds ts ≡ true → AreArguments p vars ts es → AreConstants es vs → Whenever (λ rest. FitArguments (entries kinds es) rest) (arguments m vs)
  args_fit [] ts es vs r h k = any_whenever {A = List Arg} (arguments m vs)
  args_fit (kind ∷ kinds) ts no_exprs [] r h k = tt
  args_fit (kind ∷ kinds) no_types (more_exprs e es) vs r h k = absurd h
  args_fit (kind ∷ kinds) (more_types t ts) (more_exprs e es) (v ∷ vs) r h k =
      whenever_then {A = Arg} {B = List Arg} (λ a. EntryFits (entry kind e) a) (λ rest. FitArguments (entry kind e ∷ entries kinds es) rest) (argument m v) _ (entry_fits m kind t e v (and_left (kind_is kind t) (kinds_are kinds ts) r) (is_of e t v h.0 h.1 k.0)) (λ a j.
      whenever_then {A = List Arg} {B = List Arg} (λ rest. FitArguments (entries kinds es) rest) (λ rest. FitArguments (entry kind e ∷ entries kinds es) rest) (arguments m vs) _ (args_fit kinds ts es vs (and_right (kind_is kind t) (kinds_are kinds ts) r) h.2 k.1) (λ rest l. fit_first (entry kind e) (entries kinds es) a rest j l))
  args_fit (kind ∷ kinds) ts es vs r h k = absurd k

  -- the request fits a pattern
  abbrev RequestFits : List (Option ℤ) → Answer Request → Type 0
  RequestFits pattern x = Whenever (λ (q : Request). FitArguments pattern q.arguments) x

  read_fits : (fd buf n : Expr) (a b c : Value) → IsOf (constant_value fd) int a → IsOf (constant_value n) unsigned_int c → RequestFits (entry Signed fd ∷ entry Unsigned n ∷ []) (read_request m a b c)
  read_fits fd buf n a b c h k =
      whenever_then {A = ℤ} {B = Request} (λ z. EntryFits (entry Signed fd) (args.Int z)) (λ q. FitArguments (entry Signed fd ∷ entry Unsigned n ∷ []) q.arguments) (number a) _ (at_constant {A = ℤ} i.Int (λ z. args.Int z) number (constant_value fd) a h (signed_at {A = ℤ} (λ z. args.Int z) number (λ z. refl))) (λ z j.
      whenever_then {A = ℕ} {B = Request} (λ s. EntryFits (entry Unsigned n) (args.Int (pos s))) (λ q. FitArguments (entry Signed fd ∷ entry Unsigned n ∷ []) q.arguments) (size c) _ (at_constant {A = ℕ} i.Uint (λ s. args.Int (pos s)) size (constant_value n) c k (unsigned_at {A = ℕ} (λ s. args.Int (pos s)) size (λ s. refl))) (λ s l.
      whenever_then {A = Option Pointer} {B = Request} (λ room. Unit {0}) (λ q. FitArguments (entry Signed fd ∷ entry Unsigned n ∷ []) q.arguments) (room_for m b s) _ (any_whenever {A = Option Pointer} (room_for m b s)) (λ room o.
      fit_first (entry Signed fd) (entry Unsigned n ∷ []) (args.Int z) (args.Int (pos s) ∷ []) j (fit_first (entry Unsigned n) [] (args.Int (pos s)) [] l tt))))

  write_fits : (fd : Expr) (a b c : Value) → IsOf (constant_value fd) int a → RequestFits (entry Signed fd ∷ None ∷ []) (write_request m a b c)
  write_fits fd a b c h =
      whenever_then {A = ℤ} {B = Request} (λ z. EntryFits (entry Signed fd) (args.Int z)) (λ q. FitArguments (entry Signed fd ∷ None ∷ []) q.arguments) (number a) _ (at_constant {A = ℤ} i.Int (λ z. args.Int z) number (constant_value fd) a h (signed_at {A = ℤ} (λ z. args.Int z) number (λ z. refl))) (λ z j.
      whenever_then {A = ℕ} {B = Request} (λ s. Unit {0}) (λ q. FitArguments (entry Signed fd ∷ None ∷ []) q.arguments) (size c) _ (any_whenever {A = ℕ} (size c)) (λ s l.
      whenever_then {A = List ℕ} {B = Request} (λ bytes. Unit {0}) (λ q. FitArguments (entry Signed fd ∷ None ∷ []) q.arguments) (bytes_of_buffer m b s) _ (any_whenever {A = List ℕ} (bytes_of_buffer m b s)) (λ bytes o.
      fit_first (entry Signed fd) (None ∷ []) (args.Int z) (args.Bytes bytes ∷ []) j tt)))

  -- the first of the arguments with its value, and the others
  first_of : (P : Exprs → List Value → Type 0) (t : CType) (ts : CTypes) → ((e : Expr) (es : Exprs) (v : Value) (vs : List Value) → IsOf (constant_value e) t v → AreArguments p vars ts es → AreConstants es vs → P (more_exprs e es) (v ∷ vs)) → (es : Exprs) (vs : List Value) → AreArguments p vars (more_types t ts) es → AreConstants es vs → P es vs
  first_of P t ts all (more_exprs e es) (v ∷ vs) h k = all e es v vs (is_of e t v h.0 h.1 k.0) h.2 k.1
  first_of P t ts all no_exprs vs h k = absurd h
  first_of P t ts all es vs h k = absurd k

  three : (P : Exprs → List Value → Type 0) (t u w : CType) → ((d e f : Expr) (a b c : Value) → IsOf (constant_value d) t a → IsOf (constant_value f) w c → P (more_exprs d (more_exprs e (more_exprs f no_exprs))) (a ∷ b ∷ c ∷ [])) → (es : Exprs) (vs : List Value) → AreArguments p vars (more_types t (more_types u (more_types w no_types))) es → AreConstants es vs → P es vs
  three P t u w all =
      first_of P t (more_types u (more_types w no_types)) (λ d es a vs i. first_of (λ es vs. P (more_exprs d es) (a ∷ vs)) u (more_types w no_types) (λ e es b vs j. first_of (λ es vs. P (more_exprs d (more_exprs e es)) (a ∷ b ∷ vs)) w no_types (λ f es c vs l. last d e f a b c i l es vs) es vs) es vs)
    where
      last : (d e f : Expr) (a b c : Value) → IsOf (constant_value d) t a → IsOf (constant_value f) w c → (es : Exprs) (vs : List Value) → AreArguments p vars no_types es → AreConstants es vs → P (more_exprs d (more_exprs e (more_exprs f es))) (a ∷ b ∷ c ∷ vs)
      last d e f a b c i l no_exprs [] h k = all d e f a b c i l
      last d e f a b c i l no_exprs vs h k = absurd k
      last d e f a b c i l es vs h k = absurd h

  -- three arguments
  read_three : (es : Exprs) (vs : List Value) → AreArguments p vars (more_types int (more_types char_pointer (more_types unsigned_int no_types))) es → AreConstants es vs → RequestFits (entries (recorded_of 0) (recorded_arguments 0 es)) (request 0 m vs)
  unfolding table
  read_three =
      three (λ es vs. RequestFits (entries (recorded_of 0) (recorded_arguments 0 es)) (request 0 m vs)) int char_pointer unsigned_int (λ fd buf n a b c i l. read_fits fd buf n a b c i l)

  write_three : (es : Exprs) (vs : List Value) → AreArguments p vars (more_types int (more_types char_pointer (more_types unsigned_int no_types))) es → AreConstants es vs → RequestFits (entries (recorded_of 1) es) (request 1 m vs)
  unfolding table
  write_three =
      three (λ es vs. RequestFits (entries (recorded_of 1) es) (request 1 m vs)) int char_pointer unsigned_int (λ fd buf n a b c i l. write_fits fd a b c i)

-- the kinds in the table of system calls are those of the prototypes' types, but for read, whose buffer is not recorded
abbrev row_is : Row → CType → Bool
row_is r (function t ts) = kinds_are r.recorded ts
row_is r _ = true

abbrev rows_are : List Row → List CType → Bool
rows_are (r ∷ rs) (t ∷ ts) = row_is r t && rows_are rs ts
rows_are a ts = true

abbrev no_row : Row
no_row = row [] [] Void

row_at : (rs : List Row) (all : List CType) (x : ℕ) (t : CType) (ts : CTypes) → rows_are rs all ≡ true → slice_get all x ≡ Some (function t ts) → kinds_are ((slice_index_or rs x no_row).recorded) ts ≡ true
row_at [] all x t ts h e = refl
row_at (r ∷ rs) [] x t ts h e = absurd (no_some (function t ts) e)
row_at (r ∷ rs) (u ∷ all) zero t ts h e = ap (λ u. row_is r u) (sym (same_some u (function t ts) e)) ∙ and_left (row_is r u) (rows_are rs all) h
row_at (r ∷ rs) (u ∷ all) (suc x) t ts h e = row_at rs all x t ts (and_right (row_is r u) (rows_are rs all) h) e

kinds_right : (x : ℕ) (t : CType) (ts : CTypes) → slice_get sys_types (suc (suc x)) ≡ Some (function t ts) → kinds_are (recorded_of (suc (suc x))) ts ≡ true
unfolding table sys_types
kinds_right x t ts e = row_at (drop 2 table) (drop 2 sys_types) x t ts refl e

read_types : (t : CType) (ts : CTypes) → slice_get sys_types 0 ≡ Some (function t ts) → more_types int (more_types char_pointer (more_types unsigned_int no_types)) ≡ ts
unfolding sys_types
read_types t ts e = cc

write_types : (t : CType) (ts : CTypes) → slice_get sys_types 1 ≡ Some (function t ts) → more_types int (more_types char_pointer (more_types unsigned_int no_types)) ≡ ts
unfolding sys_types
write_types t ts e = cc

-- what a direct system call asks for fits the pattern of the call
pub request_fits : (p : Program) (n : ℕ) (right : IsProgram p n) (vars : List CType) (m : Objects) (x : ℕ) (t : CType) (ts : CTypes) (es : Exprs) (vs : List Value) → slice_get sys_types x ≡ Some (function t ts) → AreArguments p vars ts es → AreConstants es vs → (q : Request) → request x m vs ≡ gives q → FitArguments (pattern_of x es) q.arguments
request_fits p n right vars m x t ts es vs e h k q is = subst (λ a. RequestFits p n right vars m (pattern_of x es) a) is (at x e)
  where
    at : (x : ℕ) → slice_get sys_types x ≡ Some (function t ts) → RequestFits p n right vars m (pattern_of x es) (request x m vs)
    at zero e = (read_three p n right vars m es vs (subst (λ ts. AreArguments p vars ts es) (sym (read_types t ts e)) h) k)
    at (suc zero) e = (write_three p n right vars m es vs (subst (λ ts. AreArguments p vars ts es) (sym (write_types t ts e)) h) k)
    at (suc (suc x)) e =
        whenever_then {A = List Arg} {B = Request} (λ rest. FitArguments (pattern_of (suc (suc x)) es) rest) (λ q. FitArguments (pattern_of (suc (suc x)) es) q.arguments) (arguments m vs) _ (args_fit p n right vars m (recorded_of (suc (suc x))) ts es vs (kinds_right x t ts e) h k) (λ rest j. j)
