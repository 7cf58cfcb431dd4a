-- Declarations in blocks that the rules type where each name is right in a program: the variables, and the scopes behind them.
use Rattle.std.proofs.Common.{◌≡◌, inl, inr, ℕ, zero, suc, ◌+◌, ◌≤◌, Bool, true, false, if◌then◌else◌, cond, List, [], ◌∷◌, ◌++◌, length, length-append, Option, Some, None, slice_get, nat_le, refl, ap, ap₂, sym, subst, ◌∙◌, arith}
use Rattle.std.specs.Prelude.{bytes_eq}
use Rattle.std.proofs.lemmas.Bool.{leb-true}
use Rattle.std.proofs.lemmas.Slice.Eq.{bytes_eq-Decides}
use Rattle.c_tree.specs.declared.value.IntType.TheVariants.{Char}
use Rattle.c_tree.specs.Tree.{CType, integer, array, Program}
use Rattle.c_tree.specs.Tree as typed
use Rattle.c_tree.specs.Layout.{Structs, cells, flat}
use Rattle.c_tree.specs.Operands.{IsComplete, IsObject}
use Rattle.c_tree.specs.Kinds.{Lies}
use Rattle.c_tree.specs.Typed.{AreInits, IsDeclare, IsFirst, AreFirst}
use Rattle.c_syntax.specs.Tree.{Ident, Spec, Declarator, Init, one, list, MaybeInit, no_init, an_init, Parts, no_parts, more_parts, Decl, decl}
use Rattle.c_rules.specs.Checked.{Checked, fine, faulty, on, both, Met, gives}
use Rattle.c_rules.specs.Names.{Name, is_added}
use Rattle.c_rules.specs.Scopes.{Env, Binding, Meaning, a_local, inside, with_name, meaning_or_unknown, lookup, layout_of, Before}
use Rattle.c_rules.specs.Counts.{past}
use Rattle.c_rules.specs.TypedExpression.{TypedExpression}
use Rattle.c_rules.specs.Conversions.{complete}
use Rattle.c_rules.specs.PrimaryExpressions.{string_number}
use Rattle.c_rules.specs.Declarators.{name_of, place_or, new_name}
use Rattle.c_rules.specs.Expressions.{type_declared}
use Rattle.c_rules.specs.Initialisers.{count_inits, text_of, calls_of_maybe_init, held_by, initialised_local, stores_from, text_fits}
use Rattle.c_rules.specs.Objects.{Object, sized_by_one, sized_by_init, sized_by, with_size, of_known_size, object_of, object_declared}
use Rattle.c_rules.specs.Variables.{name_or_empty, Next, number_in, past_name, past_names, names_of_parts, names_of_decl}
use Rattle.c_rules.specs.Blocks.{behind_local, behind_named, behind_part, past_part, behind_parts, behind_decl, held_by_object, held_by_named, held_by_part, held_by_parts, held_by_decl, after_part, StatementTree, one_more, laid_variable, local_of, local, local_named, local_part, local_parts, local_decl, is_given, joined}
use Rattle.c_meaning.proofs.Places.{get_left, get_right, lies_whole}
use Rattle.c_rules_laws.specs.Lexical.{IsMaybeInitLexical, ArePartsLexical, IsDeclLexical}
use Rattle.c_rules_laws.specs.MadeTypes.{NotArray, Made, IsSized}
use Rattle.c_rules_laws.specs.RightScopes.{MeaningTyped, Seen, IsThing, MeaningRight, IsRight, StringsIn}
use Rattle.c_rules_laws.proofs.Holding.{Holds, on_holds, both_hold, demand_holds, alone_holds, after_part as behind_demands, Each, each_both}
use Rattle.c_rules_laws.proofs.MadeTypes.{complete_known}
use Rattle.c_rules_laws.proofs.MadeTypes.{sized_few}
use Rattle.c_rules_laws.proofs.TypesOfExpressions.{type_declared_made}
use Rattle.c_rules_laws.proofs.RightTypedExpressions.{complete_thing, complete_in, cells_in}
use Rattle.c_rules_laws.proofs.RightExpressions.{strings_first, strings_rest}
use Rattle.c_rules_laws.proofs.RightInitialisers.{TypesAre, LocalRight, local_right, stores_right}
use Rattle.c_rules_laws.proofs.SitesOfStatements.{held_by_named_same, named_keeps}
use Rattle.c_rules_laws.proofs.SoundStructs.{same_flat}

-- ## Numbers of variables

-- the next numbers behind these variables
abbrev pub ahead : Next → List CType → List CType → Next
ahead next plain added = record { plain = next.plain + length plain; added = next.added + length added }

pub past_both : (xs ys : List Name) (next : Next) → past_names next (xs ++ ys) ≡ past_names (past_names next xs) ys
past_both [] ys next = refl
past_both (x ∷ xs) ys next = past_both xs ys (past_name next x)

abbrev numbered : ℕ → ℕ → Next
numbered a b = record { plain = a; added = b }

same_next : (a b c d : ℕ) → a ≡ c → b ≡ d → numbered a b ≡ numbered c d
same_next a b c d e f = ap₂ numbered e f

-- ## Declared objects

-- an object as it is declared: its type so far and its whole type
pub record IsObjectRight (structs : Structs) (o : Object) : Type 0 where
  pub seen_sized : IsSized structs o.seen
  pub whole_made : Made structs o.whole
  pub known : IsComplete structs o.whole
  pub small : cells structs o.whole ≤ 65536
  pub alike : Seen o.seen o.whole
  pub thing : IsThing o.seen

module _ (structs : Structs) where
  abbrev WithSize : CType → CType → Type 0
  WithSize t u = Made structs u × Seen t u

  one_sized : (at : ℕ) (t : CType) (o : Option (List ℕ)) → NotArray t × IsComplete structs t × Made structs t → Holds (WithSize (array t 0)) (sized_by_one at t o)
  one_sized at (integer Char) (Some w) h = ((tt, tt, tt), inr (record { element = integer Char; size = suc (length w); seen = refl; whole = refl }))
  one_sized at t o h = tt

  init_sized : (name : ℕ) (t : CType) (i : Init) → NotArray t × IsComplete structs t × Made structs t → Holds (WithSize (array t 0)) (sized_by_init name t i)
  init_sized name t (one at e) h = behind_demands (WithSize (array t 0)) (text_fits at (text_of e)) (λ _. sized_by_one at t (text_of e)) (λ _. one_sized at t (text_of e) h)
  init_sized name t (list at is) h = demand_holds (WithSize (array t 0)) (nat_le (count_inits is) 65536) 13 name (array t (count_inits is)) (λ _. (h, inr (record { element = t; size = count_inits is; seen = refl; whole = refl })))

  by_sized : (name : ℕ) (t : CType) (m : MaybeInit) → NotArray t × IsComplete structs t × Made structs t → Holds (WithSize (array t 0)) (sized_by name t m)
  by_sized name t no_init h = tt
  by_sized name t (an_init i) h = init_sized name t i h

  pub size_right : (name : ℕ) (m : MaybeInit) (t : CType) → Made structs t → Holds (WithSize t) (with_size name m t)
  size_right name m (array t zero) h = by_sized name t m h
  size_right name m t h = (h, inl refl)

  few_unsized : (t u : CType) → Seen t u → Made structs t → cells structs u ≤ 65536 → IsSized structs t
  few_unsized t u (inl e) m h = sized_few structs t m (subst (λ x. cells structs x ≤ 65536) (sym e) h)
  few_unsized t u (inr s) m h = sized_few structs t m (subst (λ x. cells structs x ≤ 65536) (sym s.seen) (let z : 0 ≤ 65536 = omega arith in z))

  seen_thing : (t u : CType) → Seen t u → IsComplete structs u → IsThing t
  seen_thing t u (inl e) c = subst IsThing (sym e) (complete_thing structs u c)
  seen_thing t u (inr s) c = subst IsThing (sym s.seen) tt

module _ (env : Env) where
  known_size_right : (place name : ℕ) (t : CType) → Made (layout_of env) t → Holds (λ u. (u ≡ t) × IsComplete (layout_of env) t × (cells (layout_of env) t ≤ 65536)) (of_known_size env place name t)
  known_size_right place name t m =
      on_holds (λ _. IsComplete (layout_of env) t) (λ u. (u ≡ t) × IsComplete (layout_of env) t × (cells (layout_of env) t ≤ 65536)) (complete env place t) _ (complete_known env place t m) (λ _ c.
      demand_holds (λ u. (u ≡ t) × IsComplete (layout_of env) t × (cells (layout_of env) t ≤ 65536)) (nat_le (cells (layout_of env) t) 65536) 13 name t (λ q. (refl, c, leb-true (cells (layout_of env) t) 65536 q)))

  object_right : (place name : ℕ) (m : MaybeInit) (t : CType) → Made (layout_of env) t → Holds (IsObjectRight (layout_of env)) (object_of env place name m t)
  object_right place name m t h =
      on_holds (λ u. Made (layout_of env) u × Seen t u) (IsObjectRight (layout_of env)) (with_size name m t) _ (size_right (layout_of env) name m t h) (λ u k.
      on_holds (λ w. (w ≡ u) × IsComplete (layout_of env) u × (cells (layout_of env) u ≤ 65536)) (IsObjectRight (layout_of env)) (of_known_size env place name u) _ (known_size_right place name u k.0) (λ w l.
      (let s : Seen t w = subst (Seen t) (sym l.0) k.1 in
      let c : IsComplete (layout_of env) w = subst (IsComplete (layout_of env)) (sym l.0) l.1 in
      let f : cells (layout_of env) w ≤ 65536 = subst (λ x. cells (layout_of env) x ≤ 65536) (sym l.0) l.2 in
      record {
        seen_sized = few_unsized (layout_of env) t w s h f;
        whole_made = subst (Made (layout_of env)) (sym l.0) k.0;
        known = c;
        small = f;
        alike = s;
        thing = seen_thing (layout_of env) t w s c;
      })))

  pub declared_right : (at : ℕ) (s : Spec) (d : Declarator) (x : Ident) (m : MaybeInit) → Holds (IsObjectRight (layout_of env)) (object_declared env at s d x m)
  declared_right at s d x m = on_holds (Made (layout_of env)) (IsObjectRight (layout_of env)) (type_declared env at s d) (object_of env (place_or at d) x.at m) (type_declared_made env at s d) (λ t h. object_right (place_or at d) x.at m t h)

-- ## Premises inside

pub holds_given : {A : Type 0} (Q : Type 0) (P : A → Type 0) (r : Checked A) → (Q → Holds P r) → Holds (λ a. Q → P a) r
holds_given Q P (fine a) f = f
holds_given Q P (faulty g gs) f = tt

-- what a name means with another one declared
pub by_name : (P : Binding → Type 0) (b : Bool) (new : Binding) (o : Option Binding) (found : Binding) → cond b (Some new) o ≡ Some found → (b ≡ true → P new) → ((c : Binding) → o ≡ Some c → P c) → P found
by_name P true new o found e h k = subst P (let f : Some new ≡ Some found = e in cc) (h refl)
by_name P false new o found e h k = k found e

lies_first : (all xs ys : List CType) (k : ℕ) → Lies all k (xs ++ ys) → Lies all k xs
lies_first all xs ys k h j t e = h j t (get_left xs ys j t e)

lies_rest : (all xs ys : List CType) (k : ℕ) → Lies all k (xs ++ ys) → Lies all (k + length xs) ys
lies_rest all xs ys k h j t e = (let s : k + (length xs + j) ≡ (k + length xs) + j = omega arith in subst (λ n. slice_get all n ≡ Some t) s (h (length xs + j) t (get_right xs ys j ∙ e)))

module _ (p : Program) (vars : List CType) where
  -- the variables of a part are those of the function from the next numbers on
  abbrev pub Placed : Next → List CType → List CType → Type 0
  Placed next plain added = Lies vars next.plain plain × Lies vars next.added added

  pub placed_first : (next : Next) (a b c d : List CType) → Placed next (a ++ b) (c ++ d) → Placed next a c
  placed_first next a b c d h = (lies_first vars a b next.plain h.0, lies_first vars c d next.added h.1)

  pub placed_rest : (next past : Next) (a b c d : List CType) → past ≡ ahead next a c → Placed next (a ++ b) (c ++ d) → Placed past b d
  placed_rest next past a b c d e h = subst (λ n. Placed n b d) (sym e) (lies_rest vars a b next.plain h.0, lies_rest vars c d next.added h.1)

  pub ahead_both : (next past : Next) (a b c d : List CType) (xs ys : List Name) → past_names next xs ≡ ahead next a c → past_names (past_names next xs) ys ≡ ahead (past_names next xs) b d → past_names next (xs ++ ys) ≡ ahead next (a ++ b) (c ++ d)
  ahead_both next past a b c d xs ys e f =
      let g : past_names next (xs ++ ys) ≡ ahead (ahead next a c) b d = past_both xs ys next ∙ (f ∙ ap (λ n. ahead n b d) e) in
      let q : (next.plain + length a) + length b ≡ next.plain + length (a ++ b) = (let l = length-append a b in omega (arith, l)) in
      let r : (next.added + length c) + length d ≡ next.added + length (c ++ d) = (let l = length-append c d in omega (arith, l)) in
      g ∙ same_next ((next.plain + length a) + length b) ((next.added + length c) + length d) (next.plain + length (a ++ b)) (next.added + length (c ++ d)) q r

  pub ahead_none : (next : Next) → next ≡ ahead next [] []
  ahead_none next = same_next next.plain next.added (next.plain + 0) (next.added + 0) (omega arith) (omega arith)

  -- objects, each of at most 65,536 cells
  abbrev pub AreObjects : List CType → Type 0
  AreObjects = Each (IsObject p.structs)

  -- types of known size
  abbrev pub AreKnownSizes : Structs → List CType → Type 0
  AreKnownSizes structs = Each (IsComplete structs)

  -- what a part of a body gives: its variables have the next numbers and known sizes, and its tree is right where they are placed
  pub record IsStatementTreeRight (A : Type 0) (env : Env) (next : Next) (names : List Name) (T : A → Type 0) (q : StatementTree A) : Type 0 where
    pub numbers : past_names next names ≡ ahead next q.plain q.added
    pub plain_sizes : AreKnownSizes (layout_of env) q.plain
    pub added_sizes : AreKnownSizes (layout_of env) q.added
    pub right : IsRight p vars env → Placed next q.plain q.added → T q.tree × AreObjects q.plain × AreObjects q.added

  -- ## Scopes

  pub right_inside : (env : Env) → IsRight p vars env → IsRight p vars (inside env)
  right_inside env w = record { runs = w.runs; names_known = w.names_known; within = w.within; meanings = w.meanings }

  -- with a name that is right
  pub right_named : (env : Env) (x : Name) (m : Meaning) → IsRight p vars env → MeaningTyped (layout_of env) m → ((y : Name) → x ≡ y → MeaningRight p vars env y m) → IsRight p vars (with_name env x m)
  right_named env x m w h k = record {
    runs = w.runs;
    names_known = record {
      sound = w.names_known.sound;
      meanings = λ y b e. by_name (λ c. MeaningTyped (layout_of env) c.means) (bytes_eq x y) (record { name = x; depth = env.depth; means = m }) (lookup env.names y) b e (λ _. h) (w.names_known.meanings y);
    };
    within = w.within;
    meanings = λ y b e. by_name (λ c. MeaningRight p vars env y c.means) (bytes_eq x y) (record { name = x; depth = env.depth; means = m }) (lookup env.names y) b e (λ t. k y ((bytes_eq-Decides x y).0 t)) (w.meanings y);
  }

  pub right_local : (env : Env) (x : Name) (k : ℕ) (seen whole : CType) → IsRight p vars env → IsSized (layout_of env) seen → IsSized (layout_of env) whole → Seen seen whole → IsThing seen → slice_get vars k ≡ Some whole → IsRight p vars (with_name env x (a_local k seen whole))
  right_local env x k seen whole w h g s t e = right_named env x (a_local k seen whole) w (h, g) (λ y _. (s, t, e))

  -- ## Declarations

  object_in : (env : Env) → IsRight p vars env → (o : Object) → IsObjectRight (layout_of env) o → IsObject p.structs o.whole
  object_in env w o h = record { complete = complete_in (layout_of env) p.structs w.within o.whole h.known; few = subst (λ k. k ≤ 65536) (cells_in (layout_of env) p.structs w.within o.whole h.known) h.small }

  -- one variable with its cells
  laid_right : (env inner behind : Env) (next : Next) (x : Name) (t : CType) (gs : List TypedExpression) → IsComplete (layout_of env) t
      → (IsRight p vars env → slice_get vars (number_in next x) ≡ Some t → IsDeclare p vars (number_in next x) (stores_from 0 gs) × IsObject p.structs t × IsRight p vars behind)
      → IsStatementTreeRight typed.Stmt env next (x ∷ []) (λ s. IsFirst p vars s × IsRight p vars behind) (laid_variable x (number_in next x) t gs)
  laid_right env inner behind next x t gs c f = by_test (is_added x) refl
    where
      by_test : (b : Bool) → is_added x ≡ b → IsStatementTreeRight typed.Stmt env next (x ∷ []) (λ s. IsFirst p vars s × IsRight p vars behind) (if b then record { tree = typed.declare (number_in next x) (stores_from 0 gs); plain = []; added = t ∷ [] } else record { tree = typed.declare (number_in next x) (stores_from 0 gs); plain = t ∷ []; added = [] })
      by_test true e = record {
        numbers = ap (λ b. if b then record next { added = suc next.added } else record next { plain = suc next.plain }) e ∙ same_next next.plain (suc next.added) (next.plain + 0) (next.added + 1) (omega arith) (omega arith);
        plain_sizes = tt;
        added_sizes = (c, tt);
        right = λ w h. (let n : slice_get vars (number_in next x) ≡ Some t = ap (λ b. slice_get vars (if b then next.added else next.plain)) e ∙ (let q : next.added + 0 ≡ next.added = omega arith in subst (λ n. slice_get vars n ≡ Some t) q (h.1 0 t refl)) in let r = f w n in ((r.0, r.2), tt, (r.1, tt)));
      }
      by_test false e = record {
        numbers = ap (λ b. if b then record next { added = suc next.added } else record next { plain = suc next.plain }) e ∙ same_next (suc next.plain) next.added (next.plain + 1) (next.added + 0) (omega arith) (omega arith);
        plain_sizes = (c, tt);
        added_sizes = tt;
        right = λ w h. (let n : slice_get vars (number_in next x) ≡ Some t = ap (λ b. slice_get vars (if b then next.added else next.plain)) e ∙ (let q : next.plain + 0 ≡ next.plain = omega arith in subst (λ n. slice_get vars n ≡ Some t) q (h.0 0 t refl)) in let r = f w n in ((r.0, r.2), (r.1, tt), tt));
      }

  stores_declared : (env : Env) → IsRight p vars env → (n : ℕ) (t : CType) (gs : List TypedExpression) → IsComplete (layout_of env) t → slice_get vars n ≡ Some t → LocalRight p vars (layout_of env) t gs → IsDeclare p vars n (stores_from 0 gs)
  stores_declared env w n t gs c e (inl q) = (t, e, subst (λ gs. AreInits p vars (flat p.structs t) (stores_from 0 gs)) (sym q) tt)
  stores_declared env w n t gs c e (inr h) =
      (t, e, stores_right p vars (flat p.structs t) (flat p.structs t) 0 gs (lies_whole (flat p.structs t)) (subst (λ ts. TypesAre p vars ts gs) (sym (same_flat (layout_of env) p.structs w.within.sound w.within.grows t c)) h))

  whole_sized : (structs : Structs) (o : Object) → IsObjectRight structs o → IsSized structs o.whole
  whole_sized structs o h = sized_few structs o.whole h.whole_made h.small

  local_of_right : (env : Env) (b : Before) (next : Next) (x : Ident) (m : MaybeInit) (o : Object) → IsObjectRight (layout_of env) o → IsMaybeInitLexical m → StringsIn p vars (string_number env b) (held_by env o.whole m)
      → Holds (IsStatementTreeRight typed.Stmt env next (x.name ∷ []) (λ s. IsFirst p vars s × IsRight p vars (with_name env x.name (a_local (number_in next x.name) o.whole o.whole)))) (local_of (with_name env x.name (a_local (number_in next x.name) o.seen o.whole)) b next x m o)
  local_of_right env b next x m o h l s =
      let k : ℕ = number_in next x.name in
      let inner : Env = with_name env x.name (a_local k o.seen o.whole) in
      let behind : Env = with_name env x.name (a_local k o.whole o.whole) in
      on_holds (λ gs. IsRight p vars inner → LocalRight p vars (layout_of env) o.whole gs) (IsStatementTreeRight typed.Stmt env next (x.name ∷ []) (λ s. IsFirst p vars s × IsRight p vars behind)) (initialised_local inner b o.whole m) (λ gs. fine (laid_variable x.name k o.whole gs))
      (holds_given (IsRight p vars inner) (LocalRight p vars (layout_of env) o.whole) (initialised_local inner b o.whole m) (λ w. local_right p vars m inner w l b o.whole h.whole_made h.known (subst (StringsIn p vars (string_number env b)) (sym (held_by_named_same m env x.name (a_local k o.seen o.whole) o.whole)) s)))
      (λ gs f. laid_right env inner behind next x.name o.whole gs h.known (λ w e.
      (let i = right_local env x.name k o.seen o.whole w h.seen_sized (whole_sized (layout_of env) o h) h.alike h.thing e in
      (stores_declared env w k o.whole gs h.known e (f i), object_in env w o h, right_local env x.name k o.whole o.whole w (whole_sized (layout_of env) o h) (whole_sized (layout_of env) o h) (inl refl) (complete_thing (layout_of env) o.whole h.known) e))))

  local_right_at : (env : Env) (b : Before) (next : Next) (x : Ident) (m : MaybeInit) (r : Checked Object) → Holds (IsObjectRight (layout_of env)) r → IsMaybeInitLexical m → StringsIn p vars (string_number env b) (held_by_object env m r)
      → Holds (IsStatementTreeRight typed.Stmt env next (x.name ∷ []) (λ s. IsFirst p vars s × IsRight p vars (behind_local env next x r))) (local env b next x m r)
  local_right_at env b next x m r h l s = by_part (new_name env x) r h s
    where
      by_part : (n : Checked Met) (r : Checked Object) → Holds (IsObjectRight (layout_of env)) r → StringsIn p vars (string_number env b) (held_by_object env m r)
          → Holds (IsStatementTreeRight typed.Stmt env next (x.name ∷ []) (λ s. IsFirst p vars s × IsRight p vars (with_name env x.name (meaning_or_unknown (on r (λ o. gives n (λ _. a_local (number_in next x.name) o.whole o.whole)))))))
          (both n (on r (local_of (with_name env x.name (meaning_or_unknown (on r (λ o. gives n (λ _. a_local (number_in next x.name) o.seen o.whole))))) b next x m)) (λ _ q. fine q))
      by_part (fine a) (fine o) h s =
          both_hold {A = Met} (λ _. Unit {0}) (IsStatementTreeRight typed.Stmt env next (x.name ∷ []) (λ s. IsFirst p vars s × IsRight p vars (with_name env x.name (a_local (number_in next x.name) o.whole o.whole)))) (IsStatementTreeRight typed.Stmt env next (x.name ∷ []) (λ s. IsFirst p vars s × IsRight p vars (with_name env x.name (a_local (number_in next x.name) o.whole o.whole))))
          (fine a) (local_of (with_name env x.name (a_local (number_in next x.name) o.seen o.whole)) b next x m o) (λ _ q. fine q) tt (local_of_right env b next x m o h l s) (λ _ q _ k. k)
      by_part n r h s = tt

  named_right : (env : Env) (b : Before) (next : Next) (at : ℕ) (s : Spec) (d : Declarator) (m : MaybeInit) (o : Option Ident) → IsMaybeInitLexical m → StringsIn p vars (string_number env b) (held_by_named env at s d m o)
      → Holds (IsStatementTreeRight typed.Stmt env next (name_or_empty o ∷ []) (λ t. IsFirst p vars t × IsRight p vars (behind_named env next at s d m o))) (local_named env b next at s d m o)
  named_right env b next at s d m None l h = tt
  named_right env b next at s d m (Some x) l h =
      alone_holds (IsStatementTreeRight typed.Stmt env next (x.name ∷ []) (λ t. IsFirst p vars t × IsRight p vars (behind_named env next at s d m (Some x)))) (is_given env x.name (type_declared env at s d)) 3 (place_or at d) (local env b next x m (object_declared env at s d x m))
      (local_right_at env b next x m (object_declared env at s d x m) (declared_right env at s d x m) l h)

  pub strings_moved : (env other : Env) (b : Before) (ws : List (List ℕ)) → other.whole ≡ env.whole → StringsIn p vars (string_number env b) ws → StringsIn p vars (string_number other b) ws
  strings_moved env other b ws e h = subst (λ w. StringsIn p vars (length w.objects + length b.strings) ws) (sym e) h

  -- two parts, one behind the other
  pub join_right : (A B C : Type 0) (env inner : Env) (next : Next) (xs ys : List Name) (T : A → Type 0) (U : B → Type 0) (V : C → Type 0) (a : StatementTree A) (b : StatementTree B) (c : C) → layout_of inner ≡ layout_of env
      → IsStatementTreeRight A env next xs T a → IsStatementTreeRight B inner (past_names next xs) ys U b → (T a.tree → IsRight p vars env → IsRight p vars inner) → (T a.tree → U b.tree → IsRight p vars env → V c) → IsStatementTreeRight C env next (xs ++ ys) V (joined a b c)
  join_right A B C env inner next xs ys T U V a b c same h k f g = record {
    numbers = ahead_both next (past_names next xs) a.plain b.plain a.added b.added xs ys h.numbers k.numbers;
    plain_sizes = each_both (IsComplete (layout_of env)) a.plain b.plain h.plain_sizes (subst (λ z. AreKnownSizes z b.plain) same k.plain_sizes);
    added_sizes = each_both (IsComplete (layout_of env)) a.added b.added h.added_sizes (subst (λ z. AreKnownSizes z b.added) same k.added_sizes);
    right = λ w q.
        (let x = h.right w (placed_first next a.plain b.plain a.added b.added q) in
        let y = k.right (f x.0 w) (placed_rest next (past_names next xs) a.plain b.plain a.added b.added h.numbers q) in
        (g x.0 y.0 w, each_both (IsObject p.structs) a.plain b.plain x.1 y.1, each_both (IsObject p.structs) a.added b.added x.2 y.2));
  }

  pub parts_right : (ps : Parts) (env : Env) (b : Before) (next : Next) (at : ℕ) (s : Spec) → ArePartsLexical ps → StringsIn p vars (string_number env b) (held_by_parts env next at s ps)
      → Holds (IsStatementTreeRight typed.Stmts env next (names_of_parts ps) (λ t. AreFirst p vars t × IsRight p vars (behind_parts env next at s ps))) (local_parts env b next at s ps)
  parts_right no_parts env b next at s l h = record { numbers = ahead_none next; plain_sizes = tt; added_sizes = tt; right = λ w q. ((tt, w), tt, tt) }
  parts_right (more_parts d m ps) env b next at s l h =
      let inner : Env = behind_part env next at s d m in
      let n : List Name = name_or_empty (name_of d) ∷ [] in
      both_hold (IsStatementTreeRight typed.Stmt env next n (λ t. IsFirst p vars t × IsRight p vars inner)) (IsStatementTreeRight typed.Stmts inner (past_part next d) (names_of_parts ps) (λ t. AreFirst p vars t × IsRight p vars (behind_parts inner (past_part next d) at s ps)))
      (IsStatementTreeRight typed.Stmts env next (names_of_parts (more_parts d m ps)) (λ t. AreFirst p vars t × IsRight p vars (behind_parts env next at s (more_parts d m ps))))
      (local_part env b next at s d m) (local_parts inner (after_part env b at s d m) (past_part next d) at s ps) (λ a c. fine (one_more a c))
      (named_right env b next at s d m (name_of d) l.0 (strings_first p vars (string_number env b) (held_by_part env at s d m) (held_by_parts inner (past_part next d) at s ps) h))
      (parts_right ps inner (after_part env b at s d m) (past_part next d) at s l.1 (strings_moved env inner (after_part env b at s d m) (held_by_parts inner (past_part next d) at s ps) (named_keeps (λ e. e.whole) (λ _ _ _. refl) env next at s d m (name_of d)) (strings_rest p vars env b (calls_of_maybe_init m) (held_by_part env at s d m) (held_by_parts inner (past_part next d) at s ps) h)))
      (λ a c x y. join_right typed.Stmt typed.Stmts typed.Stmts env inner next n (names_of_parts ps) (λ t. IsFirst p vars t × IsRight p vars inner) (λ t. AreFirst p vars t × IsRight p vars (behind_parts inner (past_part next d) at s ps)) (λ t. AreFirst p vars t × IsRight p vars (behind_parts inner (past_part next d) at s ps)) a c (typed.more_stmts a.tree c.tree) (named_keeps layout_of (λ _ _ _. refl) env next at s d m (name_of d)) x y (λ u _. u.1) (λ u v _. ((u.0, v.0), v.1)))

  pub decl_right : (d : Decl) (env : Env) (b : Before) (next : Next) → IsDeclLexical d → StringsIn p vars (string_number env b) (held_by_decl env next d)
      → Holds (IsStatementTreeRight typed.Stmts env next (names_of_decl d) (λ t. AreFirst p vars t × IsRight p vars (behind_decl env next d))) (local_decl env b next d)
  decl_right (decl at class s ps) env b next l h = parts_right ps env b next at s l h
