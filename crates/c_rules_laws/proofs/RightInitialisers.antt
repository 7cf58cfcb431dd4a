-- Initialisers give each cell of an object a value of its type.
use Rattle.std.proofs.Common.{◌≡◌, ◌⊎◌, inl, inr, ℕ, zero, suc, ◌+◌, ◌-◌, ◌≤◌, pos, Bool, true, false, List, [], ◌∷◌, ◌++◌, All, map, replicate, length, append_assoc, Option, Some, None, slice_get, unwrap_or, nat_le, refl, ap, sym, subst, ◌∙◌, arith}
use Rattle.std.specs.Prelude.{option_map}
use Rattle.std.specs.List.{range_with_len}
use Rattle.std.proofs.lemmas.Bool.{leb-true}
use Rattle.std.proofs.lemmas.Option.{slice_get-map}
use Rattle.std.proofs.lemmas.List.Elements.{All-head, All-tail}
use Rattle.c_tree.specs.declared.value.IntType.TheVariants.{Char}
use Rattle.c_tree.specs.Tree.{CType, integer, pointer, array, struct, Program}
use Rattle.c_tree.specs.Layout.{Structs, repeat, flat, flat_all}
use Rattle.c_tree.specs.Operands.{IsScalar, IsComplete}
use Rattle.c_tree.specs.Operators.{value_of}
use Rattle.c_tree.specs.Kinds.{Lies}
use Rattle.c_tree.specs.Typed.{AreInits}
use Rattle.c_tree.proofs.OperatorLemmas.{value_of_type}
use Rattle.c_syntax.specs.Tree.{Expr, a_str, Init, one, list, MaybeInit, no_init, an_init}
use Rattle.c_syntax.specs.Tree as syntax
use Rattle.c_rules.specs.Checked.{Checked, fine, on}
use Rattle.c_rules.specs.Scopes.{Env, evaluated, Struct, incomplete, defined_struct, struct_of, types_of_struct, type_of_member, layout_of, Before}
use Rattle.c_rules.specs.Counts.{calls, strings, past}
use Rattle.c_rules.specs.TypedExpression.{TypedExpression, Constant, not_constant}
use Rattle.c_rules.specs.Conversions.{as_if_assigned}
use Rattle.c_rules.specs.PrimaryExpressions.{string_number}
use Rattle.c_rules.specs.Expressions.{value}
use Rattle.c_rules.specs.Initialisers.{Slots, copies, each, members_of_struct, slots, capacity, takes_list, count_inits, text_of, typed_zero, typed_char, zeros, chars, cell_of, scalar_cell, array_cells, cells_of_list, held_by_one, held, held_in_turn, calls_of_init, calls_of_inits, after_init, initialised, in_turn, held_by, calls_of_maybe_init, initialised_local, initialised_static, stores_from, text_fits}
use Rattle.c_meaning.proofs.Places.{struct_is, flat_scalar}
use Rattle.c_rules_laws.specs.Lexical.{IsInitLexical, AreInitsLexical, IsMaybeInitLexical}
use Rattle.c_rules_laws.specs.MadeTypes.{Made}
use Rattle.c_rules_laws.specs.RightScopes.{IsRight, StringsIn}
use Rattle.c_rules_laws.specs.SoundStructs.{AreSound}
use Rattle.c_rules_laws.proofs.Holding.{Holds, holds_map, holds_two, on_holds, both_hold, demand_holds, behind_demand, after_part}
use Rattle.c_rules_laws.proofs.SoundStructs.{are_structs}
use Rattle.c_rules_laws.proofs.RightTypedExpressions.{constant_value, ValueRight, RightAs, null_right, as_if_right}
use Rattle.c_rules_laws.proofs.RightExpressions.{strings_first, strings_rest, ValueBoth, value_right}
pub use Rattle.c_rules_laws.proofs.KnownCells.{IsKnownConstant, AllKnown}
use Rattle.c_rules_laws.proofs.KnownCells.{static_known, zeros_each, slots_each, chars_each, cell_holds}
use Rattle.c_rules.proofs.EntryLemmas.{none_is_no_list}
use Rattle.c_rules.proofs.NothingMore.{nothing_more}
use Rattle.c_rules_laws.specs.ConstantForm.{IsConst}
use Rattle.c_rules_laws.proofs.SitesOfExpressions.{fits_none, fits_both, FitsAt, Span, Counted, holds_with, range_append, value_counted}
use Rattle.c_rules_laws.proofs.GatheredOfTypedExpressions.{Gathers, AllGather, none_both, lists_gathered, all_silent, zero_silent, as_if_gathered}
use Rattle.c_tree.specs.Sites.{all_sites}

-- ## Cells

known_const : (c : Constant) → IsKnownConstant c → IsConst c
known_const not_constant h = h
known_const c h = tt

-- constants have no sites
pub known_sites : (gs : List TypedExpression) (xs : List ℕ) → AllKnown gs → AllGather all_sites xs gs → xs ≡ []
known_sites [] xs h k = k
known_sites (g ∷ gs) xs h k = k.4 ∙ none_both k.0 k.1 (k.2.1 (known_const g.constant h.0)) (known_sites gs k.1 h.1 k.3)

repeat_add : (a b : ℕ) (xs : List CType) → repeat (a + b) xs ≡ repeat a xs ++ repeat b xs
repeat_add zero b xs = (let e : 0 + b ≡ b = omega arith in ap (λ n. repeat n xs) e)
repeat_add (suc a) b xs = (let e : suc a + b ≡ suc (a + b) = omega arith in ap (λ n. repeat n xs) e ∙ (ap (λ ys. xs ++ ys) (repeat_add a b xs) ∙ sym (append_assoc xs (repeat a xs) (repeat b xs))))

scalars_both : (xs ys : List CType) → ((k : ℕ) (t : CType) → slice_get xs k ≡ Some t → IsScalar t) → ((k : ℕ) (t : CType) → slice_get ys k ≡ Some t → IsScalar t) → (k : ℕ) (t : CType) → slice_get (xs ++ ys) k ≡ Some t → IsScalar t
scalars_both [] ys h g k t e = g k t e
scalars_both (x ∷ xs) ys h g zero t e = h zero t e
scalars_both (x ∷ xs) ys h g (suc k) t e = scalars_both xs ys (λ j u d. h (suc j) u d) g k t e

all_scalars : (structs : Structs) (ts : List CType) (k : ℕ) (t : CType) → slice_get (flat_all structs ts) k ≡ Some t → IsScalar t
all_scalars structs [] k t e = absurd (cc)
all_scalars structs (u ∷ us) k t e = scalars_both (flat structs u) (flat_all structs us) (flat_scalar structs u) (all_scalars structs us) k t e

repeat_scalars : (n : ℕ) (xs : List CType) → ((k : ℕ) (t : CType) → slice_get xs k ≡ Some t → IsScalar t) → (k : ℕ) (t : CType) → slice_get (repeat n xs) k ≡ Some t → IsScalar t
repeat_scalars zero xs h k t e = absurd (cc)
repeat_scalars (suc n) xs h k t e = scalars_both xs (repeat n xs) h (repeat_scalars n xs h) k t e

-- the slots of a struct
struct_slots : (env : Env) (s : ℕ) (ts : List CType) → slice_get (layout_of env) s ≡ Some (Some ts) → members_of_struct (struct_of env s) ≡ each ts
struct_slots env s ts e = by_entry (slice_get env.structs s) (sym (slice_get-map types_of_struct env.structs s) ∙ e)
  where
    by_struct : (x : Struct) → Some (types_of_struct x) ≡ Some (Some ts) → members_of_struct x ≡ each ts
    by_struct (defined_struct ms) f = (let g : map type_of_member ms ≡ ts = cc in ap each g)
    by_struct x f = absurd (none_is_no_list ts f)

    by_entry : (o : Option Struct) → option_map types_of_struct o ≡ Some (Some ts) → members_of_struct (unwrap_or o incomplete) ≡ each ts
    by_entry None f = absurd (cc)
    by_entry (Some x) f = by_struct x f

module _ (p : Program) (vars : List CType) where
  -- values of these types
  abbrev pub TypesAre : List CType → List TypedExpression → Type 0
  TypesAre [] [] = Unit {0}
  TypesAre (t ∷ ts) (g ∷ gs) = (g.ctype ≡ t) × ValueRight p vars g × TypesAre ts gs
  TypesAre ts gs = ⊥

  types_both : (xs ys : List CType) (gs hs : List TypedExpression) → TypesAre xs gs → TypesAre ys hs → TypesAre (xs ++ ys) (gs ++ hs)
  types_both [] ys [] hs h k = k
  types_both (x ∷ xs) ys (g ∷ gs) hs h k = (h.0, h.1, types_both xs ys gs hs h.2 k)
  types_both xs ys gs hs h k = absurd h

  zero_right : (t : CType) → IsScalar t → ((typed_zero t).ctype ≡ t) × ValueRight p vars (typed_zero t)
  zero_right (integer i) h = (refl, (refl, value_of_type i (pos 0), tt, constant_value p (integer i) (value_of i (pos 0)) (value_of_type i (pos 0))))
  zero_right (pointer t) h = (refl, null_right p vars (pointer t) t refl)
  zero_right t h = absurd h

  pub zeros_right : (ts : List CType) → ((k : ℕ) (t : CType) → slice_get ts k ≡ Some t → IsScalar t) → TypesAre ts (map typed_zero ts)
  zeros_right [] h = tt
  zeros_right (t ∷ ts) h = (let z = zero_right t (h 0 t refl) in (z.0, z.1, zeros_right ts (λ k u e. h (suc k) u e)))

  char_right : (c : ℕ) → ValueRight p vars (typed_char c)
  char_right c = (refl, value_of_type Char (pos c), tt, constant_value p (integer Char) (value_of Char (pos c)) (value_of_type Char (pos c)))

  chars_of : (w : List ℕ) → TypesAre (repeat (length w) (integer Char ∷ [])) (map typed_char w)
  chars_of [] = tt
  chars_of (c ∷ w) = (refl, char_right c, chars_of w)

  char_ends : (k : ℕ) → TypesAre (repeat k (integer Char ∷ [])) (replicate k (typed_char 0))
  char_ends zero = tt
  char_ends (suc k) = (refl, char_right 0, char_ends k)

  chars_right : (n : ℕ) (w : List ℕ) → length w ≤ n → TypesAre (repeat n (integer Char ∷ [])) (chars n w)
  chars_right n w l =
      let e : length w + (n - length w) ≡ n = omega (arith, l) in
      subst (λ ts. TypesAre ts (chars n w)) (sym (repeat_add (length w) (n - length w) (integer Char ∷ [])) ∙ ap (λ k. repeat k (integer Char ∷ [])) e)
      (types_both (repeat (length w) (integer Char ∷ [])) (repeat (n - length w) (integer Char ∷ [])) (map typed_char w) (replicate (n - length w) (typed_char 0)) (chars_of w) (char_ends (n - length w)))

  cell_right : (k : Bool) (at : ℕ) (t : CType) (g : TypedExpression) → RightAs p vars t g → Holds (TypesAre (t ∷ [])) (cell_of k at g)
  cell_right k at t g h = cell_holds (TypesAre (t ∷ [])) k at g (h.1, h.0, tt)

  scalar_right : (env : Env) (k : Bool) (at : ℕ) (t : CType) (r : Checked TypedExpression) → Holds (ValueBoth p vars env) r → Holds (TypesAre (t ∷ [])) (scalar_cell k at t r)
  scalar_right env k at t r h =
      on_holds (RightAs p vars t) (TypesAre (t ∷ [])) (on r (as_if_assigned at t)) (cell_of k at) (on_holds (ValueBoth p vars env) (RightAs p vars t) r (as_if_assigned at t) h (λ g l. as_if_right p vars at t g l.1)) (λ g l. cell_right k at t g l)

  array_right : (k : Bool) (at : ℕ) (t : CType) (n : ℕ) (o : Option (List ℕ)) (ts : List CType) → ((t ≡ integer Char) → ts ≡ integer Char ∷ []) → Holds (TypesAre (repeat n ts)) (array_cells at t n o)
  array_right k at (integer Char) n (Some w) ts e =
      demand_holds (TypesAre (repeat n ts)) (nat_le (length w) n) 14 at (chars n w) (λ q. subst (λ us. TypesAre (repeat n us) (chars n w)) (sym (e refl)) (chars_right n w (leb-true (length w) n q)))
  array_right k at t n o ts e = tt

  -- ## Initialisers

  abbrev SlotTypes : Structs → Slots → List CType
  SlotTypes structs (copies n t) = repeat n (flat structs t)
  SlotTypes structs (each ts) = flat_all structs ts

  abbrev SlotsMade : Structs → Slots → Type 0
  SlotsMade structs (copies n t) = Made structs t × IsComplete structs t
  SlotsMade structs (each ts) = All (Made structs) ts × All (IsComplete structs) ts

  zeros_of : (structs : Structs) (s : Slots) → TypesAre (SlotTypes structs s) (zeros structs s)
  zeros_of structs (copies n t) = zeros_right (repeat n (flat structs t)) (repeat_scalars n (flat structs t) (flat_scalar structs t))
  zeros_of structs (each ts) = zeros_right (flat_all structs ts) (all_scalars structs ts)

  list_right : (k : Bool) (ts : List CType) (takes : Bool) (at most n : ℕ) (r : Checked (List TypedExpression)) → (takes ≡ true → Holds (TypesAre ts) r) → Holds (TypesAre ts) (cells_of_list takes at most n r)
  list_right k ts takes at most n r h =
      behind_demand (TypesAre ts) takes 14 at _ (λ e. on_holds (TypesAre ts) (TypesAre ts) r _ (h e) (λ gs l. demand_holds (TypesAre ts) (nat_le n most) 14 at gs (λ _. l)))

  mutual
    pub initialised_right : (i : Init) (env : Env) → IsRight p vars env → IsInitLexical i → (b : Before) (k : Bool) (t : CType) → Made (layout_of env) t → IsComplete (layout_of env) t → StringsIn p vars (string_number env b) (held env t i) → Holds (TypesAre (flat (layout_of env) t)) (initialised env b k t i)
    initialised_right (one at e) env w l b k (integer i) m c s = scalar_right env k at (integer i) (value env b e) (value_right p vars e env w l b s)
    initialised_right (one at e) env w l b k (pointer t) m c s = scalar_right env k at (pointer t) (value env b e) (value_right p vars e env w l b s)
    initialised_right (one at e) env w l b k (array t n) m c s =
        after_part (TypesAre (repeat n (flat (layout_of env) t))) (text_fits at (text_of e)) (λ _. array_cells at t n (text_of e)) (λ _. array_right k at t n (text_of e) (flat (layout_of env) t) (λ q. ap (flat (layout_of env)) q))
    initialised_right (list at is) env w l b k (array t n) m c s = list_right k (repeat n (flat (layout_of env) t)) true at n (count_inits is) (in_turn env b k (copies n t) is) (λ _. in_turn_right is env w l b k (copies n t) (m.2, m.1) s)
    initialised_right (list at is) env w l b k (struct n) m c s =
        let q : members_of_struct (struct_of env n) ≡ each c.0 = struct_slots env n c.0 c.1 in
        let f : flat_all (layout_of env) c.0 ≡ flat (layout_of env) (struct n) = sym (struct_is (layout_of env) (are_structs (layout_of env) w.names_known.sound) n c.0 c.1) in
        let sound : AreSound (layout_of env) = w.names_known.sound in
        list_right k (flat (layout_of env) (struct n)) true at (capacity (slots env (struct n))) (count_inits is) (in_turn env b k (slots env (struct n)) is)
        (λ _. subst (λ ts. Holds (TypesAre ts) (in_turn env b k (slots env (struct n)) is)) f
        (subst (λ x. Holds (TypesAre (flat_all (layout_of env) c.0)) (in_turn env b k x is)) (sym q)
        (in_turn_right is env w l b k (each c.0) (sound.made n c.0 c.1, sound.complete n c.0 c.1) (subst (λ x. StringsIn p vars (string_number env b) (held_in_turn env x is)) q s))))
    initialised_right (list at is) env w l b k t m c s = list_right k (flat (layout_of env) t) (takes_list t) at (capacity (slots env t)) (count_inits is) (in_turn env b k (slots env t) is) (λ e. absurd (let q : false ≡ true = e in cc))
    initialised_right i env w l b k t m c s = tt

    in_turn_right : (is : syntax.Inits) (env : Env) → IsRight p vars env → AreInitsLexical is → (b : Before) (k : Bool) (s : Slots) → SlotsMade (layout_of env) s → StringsIn p vars (string_number env b) (held_in_turn env s is) → Holds (TypesAre (SlotTypes (layout_of env) s)) (in_turn env b k s is)
    in_turn_right syntax.no_inits env w l b k s m h = zeros_of (layout_of env) s
    in_turn_right (syntax.more_inits i is) env w l b k (copies (suc n) t) m h =
        both_hold (TypesAre (flat (layout_of env) t)) (TypesAre (repeat n (flat (layout_of env) t))) (TypesAre (flat (layout_of env) t ++ repeat n (flat (layout_of env) t))) (initialised env b k t i) (in_turn env (after_init env b t i) k (copies n t) is) (λ gs hs. fine (gs ++ hs))
        (initialised_right i env w l.0 b k t m.0 m.1 (strings_first p vars (string_number env b) (held env t i) (held_in_turn env (copies n t) is) h))
        (in_turn_right is env w l.1 (after_init env b t i) k (copies n t) m (strings_rest p vars env b (calls_of_init i) (held env t i) (held_in_turn env (copies n t) is) h))
        (λ gs hs x y. types_both (flat (layout_of env) t) (repeat n (flat (layout_of env) t)) gs hs x y)
    in_turn_right (syntax.more_inits i is) env w l b k (each (t ∷ ts)) m h =
        both_hold (TypesAre (flat (layout_of env) t)) (TypesAre (flat_all (layout_of env) ts)) (TypesAre (flat (layout_of env) t ++ flat_all (layout_of env) ts)) (initialised env b k t i) (in_turn env (after_init env b t i) k (each ts) is) (λ gs hs. fine (gs ++ hs))
        (initialised_right i env w l.0 b k t (All-head (Made (layout_of env)) t ts m.0) (All-head (IsComplete (layout_of env)) t ts m.1) (strings_first p vars (string_number env b) (held env t i) (held_in_turn env (each ts) is) h))
        (in_turn_right is env w l.1 (after_init env b t i) k (each ts) (All-tail (Made (layout_of env)) t ts m.0, All-tail (IsComplete (layout_of env)) t ts m.1) (strings_rest p vars env b (calls_of_init i) (held env t i) (held_in_turn env (each ts) is) h))
        (λ gs hs x y. types_both (flat (layout_of env) t) (flat_all (layout_of env) ts) gs hs x y)
    in_turn_right is env w l b k s m h = tt

  -- ## The stores of a variable

  pub stores_right : (all part : List CType) (k : ℕ) (gs : List TypedExpression) → Lies all k part → TypesAre part gs → AreInits p vars all (stores_from k gs)
  stores_right all [] k [] l h = tt
  stores_right all (t ∷ ts) k (g ∷ gs) l h =
      let e : k + 0 ≡ k = omega arith in
      let got : slice_get all k ≡ Some t = subst (λ n. slice_get all n ≡ Some t) e (l 0 t refl) in
      (got ∙ ap Some (sym (h.1.0 ∙ h.0)), h.1.1, stores_right all ts (suc k) gs (λ j u q. (let f : k + suc j ≡ suc k + j = omega arith in subst (λ n. slice_get all n ≡ Some u) f (l (suc j) u q))) h.2)
  stores_right all part k gs l h = absurd h

-- ## The sites in initialisers

abbrev pub InitCounted : Before → ℕ → List (List ℕ) → List TypedExpression → Type 0
InitCounted b n ws gs = AllGather all_sites (Span b n) gs × FitsAt 30000 b n ws

one_given : (xs : List ℕ) (g : TypedExpression) → Gathers all_sites xs g → AllGather all_sites xs (g ∷ [])
one_given xs g h = (xs, [], h, refl, sym (nothing_more xs))

cell_counted : (k : Bool) (at : ℕ) (b : Before) (n : ℕ) (ws : List (List ℕ)) (g : TypedExpression) → Counted 30000 b n ws g → Holds (InitCounted b n ws) (cell_of k at g)
cell_counted k at b n ws g h = cell_holds (InitCounted b n ws) k at g (one_given (Span b n) g h.0, h.1)

scalar_counted : (k : Bool) (at : ℕ) (t : CType) (b : Before) (n : ℕ) (ws : List (List ℕ)) (r : Checked TypedExpression) → Holds (Counted 30000 b n ws) r → Holds (InitCounted b n ws) (scalar_cell k at t r)
scalar_counted k at t b n ws r h =
    on_holds (Counted 30000 b n ws) (InitCounted b n ws) (on r (as_if_assigned at t)) (cell_of k at)
    (on_holds (Counted 30000 b n ws) (Counted 30000 b n ws) r (as_if_assigned at t) h (λ g l. holds_with (Gathers all_sites (Span b n)) (FitsAt 30000 b n ws) (as_if_assigned at t g) l.1 (as_if_gathered all_sites at (Span b n) t g l.0))) (λ g l. cell_counted k at b n ws g l)

array_counted : (at : ℕ) (t : CType) (n : ℕ) (e : Expr) (b : Before) → Holds (InitCounted b (calls e) (held_by_one (array t n) e)) (array_cells at t n (text_of e))
array_counted at (integer Char) n (a_str here w) b = demand_holds (InitCounted b 0 []) (nat_le (length w) n) 14 at (chars n w) (λ _. (all_silent all_sites (chars n w) (chars_each (Gathers all_sites []) (λ _. (refl, λ _. refl)) n w), fits_none 30000 b.sites b.cells))
array_counted at t n e b = tt

list_counted : (b : Before) (n : ℕ) (ws : List (List ℕ)) (takes : Bool) (at most count : ℕ) (r : Checked (List TypedExpression)) → Holds (λ gs. count ≤ most → InitCounted b n ws gs) r → Holds (InitCounted b n ws) (cells_of_list takes at most count r)
list_counted b n ws takes at most count r h =
    behind_demand (InitCounted b n ws) takes 14 at _ (λ _. on_holds (λ gs. count ≤ most → InitCounted b n ws gs) (InitCounted b n ws) r _ h (λ gs k. demand_holds (InitCounted b n ws) (nat_le count most) 14 at gs (λ q. k (leb-true count most q))))

init_both : (b : Before) (n m : ℕ) (xs ys : List (List ℕ)) (gs hs : List TypedExpression) → InitCounted b n xs gs → InitCounted (past b n xs) m ys hs → InitCounted b (n + m) (xs ++ ys) (gs ++ hs)
init_both b n m xs ys gs hs h k =
    (subst (λ zs. AllGather all_sites zs (gs ++ hs)) (sym (range_append b.sites n m)) (lists_gathered all_sites gs hs (Span b n) (range_with_len (b.sites + n) m) h.0 k.0), fits_both 30000 b.sites b.cells n m xs ys h.1 k.1)

mutual
  pub initialised_counted : (i : Init) (env : Env) → env.context ≡ evaluated → (b : Before) (k : Bool) (t : CType) → Holds (InitCounted b (calls_of_init i) (held env t i)) (initialised env b k t i)
  initialised_counted (one at e) env c b k (integer i) = scalar_counted k at (integer i) b (calls e) (strings e) (value env b e) (value_counted e env c b)
  initialised_counted (one at e) env c b k (pointer t) = scalar_counted k at (pointer t) b (calls e) (strings e) (value env b e) (value_counted e env c b)
  initialised_counted (one at e) env c b k (array t n) = after_part (InitCounted b (calls e) (held_by_one (array t n) e)) (text_fits at (text_of e)) (λ _. array_cells at t n (text_of e)) (λ _. array_counted at t n e b)
  initialised_counted (list at is) env c b k t = list_counted b (calls_of_inits is) (held_in_turn env (slots env t) is) (takes_list t) at (capacity (slots env t)) (count_inits is) (in_turn env b k (slots env t) is) (in_turn_counted is env c b k (slots env t))
  initialised_counted i env c b k t = tt

  in_turn_counted : (is : syntax.Inits) (env : Env) → env.context ≡ evaluated → (b : Before) (k : Bool) (s : Slots) → Holds (λ gs. count_inits is ≤ capacity s → InitCounted b (calls_of_inits is) (held_in_turn env s is) gs) (in_turn env b k s is)
  in_turn_counted syntax.no_inits env c b k s = λ _. (all_silent all_sites (zeros (layout_of env) s) (slots_each (Gathers all_sites []) (zero_silent all_sites) (layout_of env) s), fits_none 30000 b.sites b.cells)
  in_turn_counted (syntax.more_inits i is) env c b k (copies (suc n) t) =
      both_hold (InitCounted b (calls_of_init i) (held env t i)) (λ hs. count_inits is ≤ n → InitCounted (after_init env b t i) (calls_of_inits is) (held_in_turn env (copies n t) is) hs) (λ gs. count_inits (syntax.more_inits i is) ≤ suc n → InitCounted b (calls_of_init i + calls_of_inits is) (held env t i ++ held_in_turn env (copies n t) is) gs)
      (initialised env b k t i) (in_turn env (after_init env b t i) k (copies n t) is) (λ gs hs. fine (gs ++ hs)) (initialised_counted i env c b k t) (in_turn_counted is env c (after_init env b t i) k (copies n t))
      (λ gs hs x y l. init_both b (calls_of_init i) (calls_of_inits is) (held env t i) (held_in_turn env (copies n t) is) gs hs x (y (omega (arith, l))))
  in_turn_counted (syntax.more_inits i is) env c b k (each (t ∷ ts)) =
      both_hold (InitCounted b (calls_of_init i) (held env t i)) (λ hs. count_inits is ≤ length ts → InitCounted (after_init env b t i) (calls_of_inits is) (held_in_turn env (each ts) is) hs) (λ gs. count_inits (syntax.more_inits i is) ≤ suc (length ts) → InitCounted b (calls_of_init i + calls_of_inits is) (held env t i ++ held_in_turn env (each ts) is) gs)
      (initialised env b k t i) (in_turn env (after_init env b t i) k (each ts) is) (λ gs hs. fine (gs ++ hs)) (initialised_counted i env c b k t) (in_turn_counted is env c (after_init env b t i) k (each ts))
      (λ gs hs x y l. init_both b (calls_of_init i) (calls_of_inits is) (held env t i) (held_in_turn env (each ts) is) gs hs x (y (omega (arith, l))))
  in_turn_counted is env c b k s = λ l. absurd (omega (arith, l))

-- ## Initialisers that may be left out

abbrev pub LocalRight : Program → List CType → Structs → CType → List TypedExpression → Type 0
LocalRight p vars structs t gs = (gs ≡ []) ⊎ TypesAre p vars (flat structs t) gs

pub local_counted : (m : MaybeInit) (env : Env) → env.context ≡ evaluated → (b : Before) (t : CType) → Holds (InitCounted b (calls_of_maybe_init m) (held_by env t m)) (initialised_local env b t m)
local_counted no_init env c b t = (refl, fits_none 30000 b.sites b.cells)
local_counted (an_init i) env c b t = initialised_counted i env c b false t

pub static_counted : (m : MaybeInit) (env : Env) → env.context ≡ evaluated → (b : Before) (t : CType) → Holds (InitCounted b (calls_of_maybe_init m) (held_by env t m)) (initialised_static env b t m)
static_counted no_init env c b t = (all_silent all_sites (map typed_zero (flat (layout_of env) t)) (zeros_each (Gathers all_sites []) (zero_silent all_sites) (flat (layout_of env) t)), fits_none 30000 b.sites b.cells)
static_counted (an_init i) env c b t = initialised_counted i env c b true t

module _ (p : Program) (vars : List CType) where
  pub local_right : (m : MaybeInit) (env : Env) → IsRight p vars env → IsMaybeInitLexical m → (b : Before) (t : CType) → Made (layout_of env) t → IsComplete (layout_of env) t → StringsIn p vars (string_number env b) (held_by env t m) → Holds (LocalRight p vars (layout_of env) t) (initialised_local env b t m)
  local_right no_init env w l b t m c s = inl refl
  local_right (an_init i) env w l b t m c s = holds_map (TypesAre p vars (flat (layout_of env) t)) (LocalRight p vars (layout_of env) t) (λ gs h. inr h) (initialised env b false t i) (initialised_right p vars i env w l b false t m c s)

  pub static_right : (m : MaybeInit) (env : Env) → IsRight p vars env → IsMaybeInitLexical m → (b : Before) (t : CType) → Made (layout_of env) t → IsComplete (layout_of env) t → StringsIn p vars (string_number env b) (held_by env t m) → Holds (λ gs. TypesAre p vars (flat (layout_of env) t) gs × AllKnown gs) (initialised_static env b t m)
  static_right no_init env w l b t m c s = (zeros_right p vars (flat (layout_of env) t) (flat_scalar (layout_of env) t), static_known no_init env b t)
  static_right (an_init i) env w l b t m c s = holds_two (TypesAre p vars (flat (layout_of env) t)) AllKnown (initialised env b true t i) (initialised_right p vars i env w l b true t m c s) (static_known (an_init i) env b t)
