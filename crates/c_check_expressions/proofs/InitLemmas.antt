-- Initialisers in turn, and what stands before what follows them.
use Rattle.std.proofs.Common.{◌≡◌, ℕ, zero, suc, ◌+◌, ◌-◌, ◌≤◌, ◌<◌, Bool, true, false, ◌&&◌, List, [], ◌∷◌, ◌++◌, length, drop, get_or, Option, Some, None, Result, Ok, Err, OnOk, Vec, Global, nat_lt, slice_get, if◌then◌else◌, refl, ap, sym, subst, ◌∙◌, arith, append_assoc, append-nil}
use Rattle.std.specs.Prelude.{is_some, nat_le}
use Rattle.std.proofs.lemmas.Bool.{ltb-true}
use Rattle.std.proofs.lemmas.Bool.Decides.{nat_tests}
use Rattle.std.proofs.lemmas.List.{drop_all, drop_more}
use Rattle.c_check_initialisers.specs.SlotsLeft.{left_from, slot_at}
use Rattle.c_syntax.proofs.NodeRows.{list_is}
use Rattle.c_check_expressions.proofs.NodeLemmas.{past_none, past_past}
use Rattle.c_check_expressions.proofs.Turns.{next_fine, next_fails}
use Rattle.c_check_types.specs.CheckError.{CheckError}
use Rattle.c_check_types.specs.CheckError.TheVariants as errors
use Rattle.c_check_types.specs.Agreement.{Names, AgreesWith}
use Rattle.c_rules.specs.Checked.{Fault, Checked, fine, faulty, faults, both, demand, met, on}
use Rattle.c_rules.specs.Codes.{C14}
use Rattle.c_rules.specs.Counts.{calls, strings, past}
use Rattle.c_rules.specs.TypedExpression.{TypedExpression}
use Rattle.c_rules.specs.Initialisers.{Slots, copies, each, after_init, array_cells, calls_of_init, calls_of_inits, capacity, cells_of_list, cells_of_one, count_inits, held, held_by_one, held_in_turn, in_turn, initialised, slots, takes_list, text_of, text_fits}
use Rattle.c_rules.specs.Scopes.{Env, Before}
use Rattle.c_syntax.specs.declared.tree.Init.{Init as InitTree}
use Rattle.c_syntax.specs.Tree.{Expr, a_str, Init, Inits, more_inits}
use Rattle.c_syntax.specs.declared.tree.InitKind.TheVariants.{List as listed}
use Rattle.c_syntax.specs.UnitView.{init_at, init_of}
use Rattle.c_syntax.specs.WritesUnit.{inits_of}
use Rattle.c_tree.specs.declared.value.IntType.TheVariants.{Char, Uchar, Int, Uint}
use Rattle.c_tree.specs.Tree.{CType, void, integer, pointer, array, struct, function}

pub count_is : (is : List InitTree) → count_inits (inits_of is) ≡ length is
count_is [] = refl
count_is (i ∷ is) = ap suc (count_is is)

-- ## Arrays of char that a string initialises

none_not_some : (w : List ℕ) → None ≡ Some w → ⊥
none_not_some w h = cc

str_calls : (e : Expr) (w : List ℕ) → text_of e ≡ Some w → calls e ≡ 0
str_calls (a_str at u) w h = refl
str_calls e w h = absurd (none_not_some w h)

pub faulty_not_fine : {A : Type 0} (f : Fault) (fs : List Fault) (a : A) → faulty f fs ≡ fine a → ⊥
faulty_not_fine f fs a h = cc

chars_held : (e : Expr) (n : ℕ) (o : Option (List ℕ)) (at : ℕ) (gs : List TypedExpression) → text_of e ≡ o → array_cells at (integer Char) n o ≡ fine gs → (w : List ℕ) × (text_of e ≡ Some w)
chars_held e n None at gs is h = absurd (faulty_not_fine _ _ gs h)
chars_held e n (Some w) at gs is h = (w, is)

held_none : (e : Expr) (w : List ℕ) (n : ℕ) (b : Before) → text_of e ≡ Some w → past b (calls e) (held_by_one (array (integer Char) n) e) ≡ b
held_none e w n b is =
    ap (λ k. past b k (held_by_one (array (integer Char) n) e)) (str_calls e w is)
    ∙ (ap (λ o. past b 0 (if true && is_some o then [] else strings e)) is ∙ past_none b)

char_array : (e : Expr) (n : ℕ) (b : Before) (at : ℕ) (gs : List TypedExpression) → array_cells at (integer Char) n (text_of e) ≡ fine gs → past b (calls e) (held_by_one (array (integer Char) n) e) ≡ b
char_array e n b at gs h = let t = chars_held e n (text_of e) at gs refl h in held_none e t.0 n b t.1

array_held : (t : CType) (e : Expr) (n : ℕ) (b : Before) (at : ℕ) (gs : List TypedExpression) → array_cells at t n (text_of e) ≡ fine gs → past b (calls e) (held_by_one (array t n) e) ≡ b
array_held (integer Char) e n b at gs h = char_array e n b at gs h
array_held (integer Uchar) e n b at gs h = absurd (faulty_not_fine _ _ gs h)
array_held (integer Int) e n b at gs h = absurd (faulty_not_fine _ _ gs h)
array_held (integer Uint) e n b at gs h = absurd (faulty_not_fine _ _ gs h)
array_held void e n b at gs h = absurd (faulty_not_fine _ _ gs h)
array_held (pointer t) e n b at gs h = absurd (faulty_not_fine _ _ gs h)
array_held (array t m) e n b at gs h = absurd (faulty_not_fine _ _ gs h)
array_held (struct s) e n b at gs h = absurd (faulty_not_fine _ _ gs h)
array_held (function t ts) e n b at gs h = absurd (faulty_not_fine _ _ gs h)

behind_fine : {A B : Type 0} (q : Checked A) (r : Checked B) (b : B) → on q (λ _. r) ≡ fine b → r ≡ fine b
behind_fine (fine a) r b h = h
behind_fine (faulty f fs) r b h = absurd (faulty_not_fine _ _ b h)

-- an array that one expression initialises holds no string, and has no call
pub array_counted : {X : Type 0} (view : X → List TypedExpression) (r : Result X CheckError) (whole t : CType) (e : Expr) (n at : ℕ) (b : Before) → whole ≡ array t n → AgreesWith view r (on (text_fits at (text_of e)) (λ _. array_cells at t n (text_of e))) → OnOk r (b ≡ past b (calls e) (held_by_one whole e))
array_counted view (Ok x) whole t e n at b is h = sym (ap (λ u. past b (calls e) (held_by_one u e)) is ∙ array_held t e n b at (view x) (behind_fine (text_fits at (text_of e)) (array_cells at t n (text_of e)) (view x) h))
array_counted view (Err x) whole t e n at b is h = tt

-- ## Elements and members in turn

abbrev onto_cells : List TypedExpression → Checked (List TypedExpression) → Checked (List TypedExpression)
onto_cells done r = on r (λ gs. fine (done ++ gs))

abbrev pub first_and : Checked (List TypedExpression) → Checked (List TypedExpression) → Checked (List TypedExpression)
first_and p q = both p q (λ gs hs. fine (gs ++ hs))

some_same : {A : Type 0} (a b : A) → Some a ≡ Some b → a ≡ b
some_same a b h = cc

none_not : {A : Type 0} (a : A) → None ≡ Some a → ⊥
none_not a h = cc

copy_there : (b : Bool) (u t : CType) → (if b then Some u else None) ≡ Some t → (b ≡ true) × (u ≡ t)
copy_there true u t h = (refl, some_same u t h)
copy_there false u t h = absurd (none_not t h)

each_there : (ts : List CType) (i : ℕ) (t : CType) → slice_get ts i ≡ Some t → drop i ts ≡ t ∷ drop (i + 1) ts
each_there [] i t h = absurd (none_not t h)
each_there (u ∷ ts) zero t h = ap (λ x. x ∷ ts) (some_same u t h)
each_there (u ∷ ts) (suc i) t h = let one : suc i + 1 ≡ suc (i + 1) = omega arith in each_there ts i t h ∙ ap (λ k. t ∷ drop k (u ∷ ts)) (sym one)

-- what is left from a number on, where one stands there
module _ (env : Env) (k : Bool) (t : CType) (x : Init) (xs : Inits) where
  copy_turn : (b : Before) (n m : ℕ) (u : CType) → u ≡ t → n ≡ suc m → in_turn env b k (copies n u) (more_inits x xs) ≡ first_and (initialised env b k t x) (in_turn env (after_init env b t x) k (copies m t) xs)
  copy_turn b n m u p q = λ i. in_turn env b k (copies (q i) (p i)) (more_inits x xs)

  turn_on : (s : Slots) (i : ℕ) (b : Before) → slot_at s i ≡ Some t
      → in_turn env b k (left_from s i) (more_inits x xs) ≡ first_and (initialised env b k t x) (in_turn env (after_init env b t x) k (left_from s (i + 1)) xs)
  turn_on (copies n u) i b h =
      let there = copy_there (nat_lt i n) u t h in
      let below : i < n = ltb-true i n there.0 in
      let left : n - i ≡ suc (n - (i + 1)) = omega arith in
      copy_turn b (n - i) (n - (i + 1)) u there.1 left ∙ ap (λ v. first_and (initialised env b k t x) (in_turn env (after_init env b t x) k (copies (n - (i + 1)) v) xs)) (sym there.1)
  turn_on (each ts) i b h = ap (λ us. in_turn env b k (each us) (more_inits x xs)) (each_there ts i t h)

  copy_held : (n m : ℕ) (u : CType) → u ≡ t → n ≡ suc m → held_in_turn env (copies n u) (more_inits x xs) ≡ held env t x ++ held_in_turn env (copies m t) xs
  copy_held n m u p q = λ i. held_in_turn env (copies (q i) (p i)) (more_inits x xs)

  held_on : (s : Slots) (i : ℕ) → slot_at s i ≡ Some t → held_in_turn env (left_from s i) (more_inits x xs) ≡ held env t x ++ held_in_turn env (left_from s (i + 1)) xs
  held_on (copies n u) i h =
      let there = copy_there (nat_lt i n) u t h in
      let below : i < n = ltb-true i n there.0 in
      let left : n - i ≡ suc (n - (i + 1)) = omega arith in
      copy_held (n - i) (n - (i + 1)) u there.1 left ∙ ap (λ v. held env t x ++ held_in_turn env (copies (n - (i + 1)) v) xs) (sym there.1)
  held_on (each ts) i h = ap (λ us. held_in_turn env (each us) (more_inits x xs)) (each_there ts i t h)

-- the list of initialisers at a place
inits_at : (is : List InitTree) (i : ℕ) (x : InitTree) → i < length is → x ≡ get_or is i x → inits_of (drop i is) ≡ more_inits (init_of x) (inits_of (drop (i + 1) is))
inits_at is i x lt at = ap inits_of (drop_more is i x lt) ∙ ap (λ y. more_inits (init_of y) (inits_of (drop (i + 1) is))) (sym at)

-- one more
turn_more : (env : Env) (b1 b2 : Before) (k : Bool) (s : Slots) (is : List InitTree) (i : ℕ) (x : InitTree) (t : CType) (done gs new : List TypedExpression) (all : Checked (List TypedExpression)) → i < length is → x ≡ get_or is i x → slot_at s i ≡ Some t
    → all ≡ on (in_turn env b1 k (left_from s i) (inits_of (drop i is))) (λ hs. fine (done ++ hs)) → initialised env b1 k t (init_of x) ≡ fine gs → b2 ≡ after_init env b1 t (init_of x) → new ≡ done ++ gs
    → all ≡ on (in_turn env b2 k (left_from s (i + 1)) (inits_of (drop (i + 1) is))) (λ hs. fine (new ++ hs))
turn_more env b1 b2 k s is i x t done gs new all lt at there before given counted grown =
    let rest : Inits = inits_of (drop (i + 1) is) in
    let behind : Checked (List TypedExpression) = in_turn env (after_init env b1 t (init_of x)) k (left_from s (i + 1)) rest in
    next_fine all (in_turn env b1 k (left_from s i) (inits_of (drop i is))) (initialised env b1 k t (init_of x)) behind (λ gs hs. fine (gs ++ hs)) (λ hs. fine (done ++ hs)) before
    (ap (λ r. in_turn env b1 k (left_from s i) r) (inits_at is i x lt at) ∙ turn_on env k t (init_of x) rest s i b1 there) gs (λ hs. fine ((done ++ gs) ++ hs)) given (λ hs. ap fine (sym (append_assoc done gs hs)))
    ∙ (λ j. onto_cells (sym grown j) (in_turn env (sym counted j) k (left_from s (i + 1)) rest))

counted_more : (env : Env) (whole b1 b2 : Before) (s : Slots) (is : List InitTree) (i : ℕ) (x : InitTree) (t : CType) → i < length is → x ≡ get_or is i x → slot_at s i ≡ Some t
    → whole ≡ past b1 (calls_of_inits (inits_of (drop i is))) (held_in_turn env (left_from s i) (inits_of (drop i is))) → b2 ≡ after_init env b1 t (init_of x)
    → whole ≡ past b2 (calls_of_inits (inits_of (drop (i + 1) is))) (held_in_turn env (left_from s (i + 1)) (inits_of (drop (i + 1) is)))
counted_more env whole b1 b2 s is i x t lt at there before counted =
    let rest : Inits = inits_of (drop (i + 1) is) in
    before
    ∙ (ap (λ r. past b1 (calls_of_inits r) (held_in_turn env (left_from s i) r)) (inits_at is i x lt at)
    ∙ (ap (past b1 (calls_of_init (init_of x) + calls_of_inits rest)) (held_on env true t (init_of x) rest s i there)
    ∙ (sym (past_past b1 (calls_of_init (init_of x)) (calls_of_inits rest) (held env t (init_of x)) (held_in_turn env (left_from s (i + 1)) rest))
    ∙ ap (λ y. past y (calls_of_inits rest) (held_in_turn env (left_from s (i + 1)) rest)) (sym counted))))

-- a demand that fails in the next one
turn_fails : (e : CheckError) (env : Env) (b1 : Before) (k : Bool) (s : Slots) (is : List InitTree) (i : ℕ) (x : InitTree) (t : CType) (done : List TypedExpression) (all : Checked (List TypedExpression)) → i < length is → x ≡ get_or is i x → slot_at s i ≡ Some t
    → all ≡ on (in_turn env b1 k (left_from s i) (inits_of (drop i is))) (λ hs. fine (done ++ hs)) → Names e (faults (initialised env b1 k t (init_of x))) → Names e (faults all)
turn_fails e env b1 k s is i x t done all lt at there before n =
    let rest : Inits = inits_of (drop (i + 1) is) in
    let behind : Checked (List TypedExpression) = in_turn env (after_init env b1 t (init_of x)) k (left_from s (i + 1)) rest in
    next_fails all (in_turn env b1 k (left_from s i) (inits_of (drop i is))) (initialised env b1 k t (init_of x)) behind (λ gs hs. fine (gs ++ hs)) (λ hs. fine (done ++ hs)) before
    (ap (λ r. in_turn env b1 k (left_from s i) r) (inits_at is i x lt at) ∙ turn_on env k t (init_of x) rest s i b1 there) e n

-- ## The end

copy_missing : (b : Bool) (u : CType) → (if b then Some u else None) ≡ None → b ≡ false
copy_missing true u h = absurd (none_not u (sym h))
copy_missing false u h = refl

each_missing : (ts : List CType) (i : ℕ) → slice_get ts i ≡ None → length ts ≤ i
each_missing [] i h = omega arith
each_missing (u ∷ ts) zero h = absurd (none_not u (sym h))
each_missing (u ∷ ts) (suc i) h = omega (arith, each_missing ts i h)

copies_end : (env : Env) (b : Before) (k : Bool) (n : ℕ) (u : CType) (x : Init) (xs : Inits) → n ≡ 0 → in_turn env b k (copies n u) (more_inits x xs) ≡ fine []
copies_end env b k n u x xs none = ap (λ m. in_turn env b k (copies m u) (more_inits x xs)) none

over : (i n : ℕ) → nat_lt i n ≡ false → n ≤ i
over i n h = grind (arith, nat_tests)

-- none stands at the place
missing_turn : (env : Env) (b : Before) (k : Bool) (s : Slots) (i : ℕ) (x : Init) (xs : Inits) → slot_at s i ≡ None → in_turn env b k (left_from s i) (more_inits x xs) ≡ fine []
missing_turn env b k (copies n u) i x xs h =
    let le : n ≤ i = over i n (copy_missing (nat_lt i n) u h) in
    let none : n - i ≡ 0 = omega arith in
    copies_end env b k (n - i) u x xs none
missing_turn env b k (each ts) i x xs h = ap (λ us. in_turn env b k (each us) (more_inits x xs)) (drop_all i ts (each_missing ts i h))

pub none_there : (s : Slots) (i : ℕ) → slot_at s i ≡ None → capacity s ≤ i
none_there (copies n u) i h = over i n (copy_missing (nat_lt i n) u h)
none_there (each ts) i h = each_missing ts i h

-- behind the last one
pub turn_stops : (env : Env) (b1 : Before) (k : Bool) (s : Slots) (is : List InitTree) (i : ℕ) (x : InitTree) (done : List TypedExpression) (all : Checked (List TypedExpression)) → i < length is → x ≡ get_or is i x → slot_at s i ≡ None
    → all ≡ on (in_turn env b1 k (left_from s i) (inits_of (drop i is))) (λ hs. fine (done ++ hs)) → all ≡ fine done
turn_stops env b1 k s is i x done all lt at none before =
    before
    ∙ (ap (λ r. onto_cells done (in_turn env b1 k (left_from s i) r)) (inits_at is i x lt at)
    ∙ (ap (onto_cells done) (missing_turn env b1 k s i (init_of x) (inits_of (drop (i + 1) is)) none) ∙ ap fine (append-nil done)))

-- at the beginning, nothing is left out
pub all_left : (s : Slots) → left_from s 0 ≡ s
all_left (copies n t) = let same : n - 0 ≡ n = omega arith in ap (λ m. copies m t) same
all_left (each ts) = refl

onto_none : (r : Checked (List TypedExpression)) → r ≡ on r (λ hs. fine ([] ++ hs))
onto_none (fine gs) = refl
onto_none (faulty f fs) = refl

pub turn_starts : (env : Env) (b : Before) (k : Bool) (s : Slots) (is : List InitTree) (done : List TypedExpression) → done ≡ [] → in_turn env b k s (inits_of is) ≡ on (in_turn env b k (left_from s 0) (inits_of (drop 0 is))) (λ hs. fine (done ++ hs))
turn_starts env b k s is done none =
    onto_none (in_turn env b k s (inits_of is))
    ∙ (ap (λ u. onto_cells [] (in_turn env b k u (inits_of is))) (sym (all_left s)) ∙ ap (λ d. onto_cells d (in_turn env b k (left_from s 0) (inits_of is))) (sym none))

pub counted_starts : (env : Env) (b : Before) (s : Slots) (is : List InitTree) → past b (calls_of_inits (inits_of is)) (held_in_turn env s (inits_of is)) ≡ past b (calls_of_inits (inits_of (drop 0 is))) (held_in_turn env (left_from s 0) (inits_of (drop 0 is)))
counted_starts env b s is = ap (λ u. past b (calls_of_inits (inits_of is)) (held_in_turn env u (inits_of is))) (sym (all_left s))

-- ## The same where the environment was kept

pub turn_more_in : (env env1 : Env) (b1 b2 : Before) (k : Bool) (s : Slots) (is : List InitTree) (i place : ℕ) (x : InitTree) (t : CType) (done gs new : List TypedExpression) (all : Checked (List TypedExpression)) → env1 ≡ env → place ≡ i → i < length is → x ≡ get_or is i x → Some t ≡ slot_at s place
    → all ≡ on (in_turn env b1 k (left_from s i) (inits_of (drop i is))) (λ hs. fine (done ++ hs)) → initialised env1 b1 k t (init_of x) ≡ fine gs → b2 ≡ after_init env1 b1 t (init_of x) → new ≡ done ++ gs
    → all ≡ on (in_turn env b2 k (left_from s (i + 1)) (inits_of (drop (i + 1) is))) (λ hs. fine (new ++ hs))
turn_more_in env env1 b1 b2 k s is i place x t done gs new all same here lt at there before given counted grown =
    turn_more env b1 b2 k s is i x t done gs new all lt at (ap (slot_at s) (sym here) ∙ sym there) before (subst (λ e. initialised e b1 k t (init_of x) ≡ fine gs) same given) (subst (λ e. b2 ≡ after_init e b1 t (init_of x)) same counted) grown

pub counted_more_in : (env env1 : Env) (whole b1 b2 : Before) (s : Slots) (is : List InitTree) (i place : ℕ) (x : InitTree) (t : CType) → env1 ≡ env → place ≡ i → i < length is → x ≡ get_or is i x → Some t ≡ slot_at s place
    → whole ≡ past b1 (calls_of_inits (inits_of (drop i is))) (held_in_turn env (left_from s i) (inits_of (drop i is))) → b2 ≡ after_init env1 b1 t (init_of x)
    → whole ≡ past b2 (calls_of_inits (inits_of (drop (i + 1) is))) (held_in_turn env (left_from s (i + 1)) (inits_of (drop (i + 1) is)))
counted_more_in env env1 whole b1 b2 s is i place x t same here lt at there before counted =
    counted_more env whole b1 b2 s is i x t lt at (ap (slot_at s) (sym here) ∙ sym there) before (subst (λ e. b2 ≡ after_init e b1 t (init_of x)) same counted)

pub turn_fails_in : (e : CheckError) (env env1 : Env) (b1 : Before) (k : Bool) (s : Slots) (is : List InitTree) (i place : ℕ) (x : InitTree) (t : CType) (done : List TypedExpression) (all : Checked (List TypedExpression)) → env1 ≡ env → place ≡ i → i < length is → x ≡ get_or is i x → Some t ≡ slot_at s place
    → all ≡ on (in_turn env b1 k (left_from s i) (inits_of (drop i is))) (λ hs. fine (done ++ hs)) → Names e (faults (initialised env1 b1 k t (init_of x))) → Names e (faults all)
turn_fails_in e env env1 b1 k s is i place x t done all same here lt at there before n =
    turn_fails e env b1 k s is i x t done all lt at (ap (slot_at s) (sym here) ∙ sym there) before (subst (λ v. Names e (faults (initialised v b1 k t (init_of x)))) same n)

-- an array that one expression initialises
pub array_judged : {X : Type 0} (view : X → List TypedExpression) (r : Result X CheckError) (k : Bool) (at n : ℕ) (whole t : CType) (text : Option (List ℕ)) (v : Checked TypedExpression) → whole ≡ array t n → AgreesWith view r (on (text_fits at text) (λ _. array_cells at t n text)) → AgreesWith view r (cells_of_one k at whole text v)
array_judged view r k at n whole t text v is h = subst (λ u. AgreesWith view r (cells_of_one k at u text v)) (sym is) h

-- ## Lists in braces

init_list : (env : Env) (b : Before) (k : Bool) (t : CType) (i : InitTree) (v : Vec InitTree Global) (is : List InitTree) → i.kind ≡ listed v → is ≡ v.items
    → initialised env b k t (init_of i) ≡ cells_of_list (takes_list t) i.at (capacity (slots env t)) (count_inits (inits_of is)) (in_turn env b k (slots env t) (inits_of is))
init_list env b k t i v is told items =
    ap (λ kind. initialised env b k t (init_at i.at kind)) told
    ∙ (ap (initialised env b k t) (list_is i.at v)
    ∙ ap (λ xs. cells_of_list (takes_list t) i.at (capacity (slots env t)) (count_inits (inits_of xs)) (in_turn env b k (slots env t) (inits_of xs))) (sym items))

pub list_judged : {X : Type 0} (view : X → List TypedExpression) (r : Result X CheckError) (env : Env) (b : Before) (k : Bool) (t : CType) (i : InitTree) (v : Vec InitTree Global) (is : List InitTree) → i.kind ≡ listed v → is ≡ v.items
    → AgreesWith view r (cells_of_list (takes_list t) i.at (capacity (slots env t)) (count_inits (inits_of is)) (in_turn env b k (slots env t) (inits_of is))) → AgreesWith view r (initialised env b k t (init_of i))
list_judged view r env b k t i v is told items h = subst (AgreesWith view r) (sym (init_list env b k t i v is told items)) h

init_past : (env : Env) (b : Before) (t : CType) (i : InitTree) (v : Vec InitTree Global) (is : List InitTree) → i.kind ≡ listed v → is ≡ v.items → past b (calls_of_inits (inits_of is)) (held_in_turn env (slots env t) (inits_of is)) ≡ after_init env b t (init_of i)
init_past env b t i v is told items =
    sym (ap (λ kind. after_init env b t (init_at i.at kind)) told
    ∙ (ap (after_init env b t) (list_is i.at v) ∙ ap (λ xs. past b (calls_of_inits (inits_of xs)) (held_in_turn env (slots env t) (inits_of xs))) (sym items)))

pub list_counted : {X : Type 0} (r : Result X CheckError) (new : Before) (env : Env) (b : Before) (t : CType) (i : InitTree) (v : Vec InitTree Global) (is : List InitTree) → i.kind ≡ listed v → is ≡ v.items
    → OnOk r (new ≡ past b (calls_of_inits (inits_of is)) (held_in_turn env (slots env t) (inits_of is))) → OnOk r (new ≡ after_init env b t (init_of i))
list_counted r new env b t i v is told items h = subst (λ y. OnOk r (new ≡ y)) (init_past env b t i v is told items) h

-- a list that has the form, and whose parts are fine
pub list_as : (takes count : Bool) (at most n : ℕ) (r : Checked (List TypedExpression)) (gs : List TypedExpression) → takes ≡ true → r ≡ fine gs → nat_le n most ≡ count → cells_of_list takes at most n r ≡ demand count C14 at gs
list_as takes count at most n r gs p q h = λ i. on (demand (p i) C14 at met) (λ _. on (q i) (λ hs. demand (h i) C14 at hs))

many : (n most count : ℕ) → n ≡ count → most < count → nat_le n most ≡ false
many n most count is lt = grind (arith, nat_tests)

few : (n most count : ℕ) → n ≡ count → count ≤ most → nat_le n most ≡ true
few n most count is le = grind (arith, nat_tests)

pub list_fits : (is : List InitTree) (env : Env) (b : Before) (k : Bool) (at room : ℕ) (t : CType) (s : Slots) (takes : Bool) (gs : List TypedExpression) → takes ≡ true → s ≡ slots env t → in_turn env b k s (inits_of is) ≡ fine gs → room ≡ capacity s → length is ≤ room
    → cells_of_list takes at (capacity (slots env t)) (count_inits (inits_of is)) (in_turn env b k (slots env t) (inits_of is)) ≡ fine gs
list_fits is env b k at room t s takes gs p same given told le =
    list_as takes true at (capacity (slots env t)) (count_inits (inits_of is)) (in_turn env b k (slots env t) (inits_of is)) gs p (ap (λ u. in_turn env b k u (inits_of is)) (sym same) ∙ given)
    (few (count_inits (inits_of is)) (capacity (slots env t)) (length is) (count_is is) (omega (arith, le, told ∙ ap capacity same)))

pub list_many : (is : List InitTree) (env : Env) (b : Before) (k : Bool) (at room : ℕ) (t : CType) (s : Slots) (takes : Bool) (gs : List TypedExpression) → takes ≡ true → s ≡ slots env t → in_turn env b k s (inits_of is) ≡ fine gs → room ≡ capacity s → room < length is
    → Names (errors.At C14 at) (faults (cells_of_list takes at (capacity (slots env t)) (count_inits (inits_of is)) (in_turn env b k (slots env t) (inits_of is))))
list_many is env b k at room t s takes gs p same given told lt =
    subst (λ r. Names (errors.At C14 at) (faults r))
    (sym (list_as takes false at (capacity (slots env t)) (count_inits (inits_of is)) (in_turn env b k (slots env t) (inits_of is)) gs p (ap (λ u. in_turn env b k u (inits_of is)) (sym same) ∙ given)
    (many (count_inits (inits_of is)) (capacity (slots env t)) (length is) (count_is is) (omega (arith, lt, told ∙ ap capacity same)))))
    (0, omega arith, refl)
