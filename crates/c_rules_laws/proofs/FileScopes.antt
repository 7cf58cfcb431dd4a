-- Scopes at file scope: what each declaration that is fine makes of them, and what later ones keep.
use Rattle.std.proofs.Common.{◌≡◌, inl, inr, ℕ, zero, suc, ◌≤◌, ◌<◌, Bool, true, false, cond, List, [], ◌∷◌, ◌++◌, All, map, length, Option, Some, None, slice_get, set, unwrap_or, refl, ap, sym, subst, ◌∙◌, arith}
use Rattle.std.specs.Prelude.{bytes_eq}
use Rattle.std.proofs.lemmas.List.{length-map, map-set}
use Rattle.std.proofs.lemmas.List.Elements.{All-cons}
use Rattle.std.proofs.lemmas.Slice.Eq.{bytes_eq-Decides}
use Rattle.c_tree.specs.declared.value.Value.TheVariants as v
use Rattle.c_tree.specs.Tree.{CType, array}
use Rattle.c_tree.specs.Layout.{Structs, repeat, cells, cells_of_all}
use Rattle.c_tree.specs.Functions.{int}
use Rattle.c_tree.specs.Operands.{IsComplete}
use Rattle.c_tree.specs.Kinds.{IsConstant}
use Rattle.c_syntax.specs.Tree.{Ident, Spec, Declarator, no_init, Declarators, no_declarators, more_declarators, Members, no_members, more_members}
use Rattle.c_rules.specs.Checked.{on}
use Rattle.c_rules.specs.Names.{Name, number_among, given_names, given_types}
use Rattle.c_rules.specs.Scopes.{Env, Binding, Meaning, a_static, a_local, a_function, an_enumerator, Struct, incomplete, defined_struct, Member, type_of_member, types_of_struct, struct_of, tag_number, layout_of, with_struct, with_name, lookup, evaluated}
use Rattle.c_rules.specs.Conversions.{complete}
use Rattle.c_rules.specs.Declarators.{name_of, place_or}
use Rattle.c_rules.specs.Expressions.{type_declared}
use Rattle.c_rules.specs.Objects.{with_size}
use Rattle.c_rules.specs.Items.{member_typed, new_member, member_named, member_declared, with_option, names_behind, members_declared, members, is_incomplete}
use Rattle.c_rules_laws.specs.Lexical.{AreSomeMembers}
use Rattle.c_rules_laws.specs.MadeTypes.{Made, FewCells, IsSized}
use Rattle.c_rules_laws.specs.RightScopes.{Seen, IsThing, MeaningTyped, IsKnown}
use Rattle.c_rules_laws.specs.SoundStructs.{AreSound, Grows}
use Rattle.c_rules_laws.proofs.Holding.{Holds, on_holds, both_hold, Any, anything, Each, each_both}
use Rattle.c_rules_laws.proofs.MadeTypes.{complete_known, complete_kept, made_kept}
use Rattle.c_rules_laws.proofs.SoundStructs.{grows_same, grows_on, same_flat, set_grows, set_sound}
use Rattle.c_rules_laws.proofs.TypesOfExpressions.{type_declared_made}
use Rattle.c_rules_laws.proofs.RightDeclarations.{size_right, by_name}
use Rattle.c_rules.proofs.FileScopeLemmas.{within_or}

-- ## Structs

set_past : {A : Type 0} (xs : List A) (n : ℕ) (v : A) → length xs ≤ n → set xs n v ≡ xs
set_past [] n v h = refl
set_past (x ∷ xs) zero v h = absurd (omega (arith, h))
set_past (x ∷ xs) (suc n) v h = ap (λ ys. x ∷ ys) (set_past xs n v (omega (arith, h)))

not_defined : (s : Struct) → is_incomplete s ≡ true → types_of_struct s ≡ None
not_defined incomplete e = refl
not_defined s e = absurd (cc)

entry_empty : (xs : List Struct) (n : ℕ) → n < length xs → is_incomplete (unwrap_or (slice_get xs n) incomplete) ≡ true → slice_get (map types_of_struct xs) n ≡ Some None
entry_empty [] n l e = absurd (omega (arith, l))
entry_empty (x ∷ xs) zero l e = ap Some (not_defined x e)
entry_empty (x ∷ xs) (suc n) l e = entry_empty xs n (omega (arith, l)) e

-- a struct that gets its definition
pub struct_defined : (env : Env) (x : Name) (ms : List Member) → AreSound (layout_of env) → is_incomplete (struct_of env (tag_number env x)) ≡ true → All (IsComplete (layout_of env)) (map type_of_member ms) → All (Made (layout_of env)) (map type_of_member ms)
    → 1 ≤ length (map type_of_member ms) → cells_of_all (layout_of env) (map type_of_member ms) ≤ 65536
    → AreSound (layout_of (with_struct env x (defined_struct ms))) × Grows (layout_of env) (layout_of (with_struct env x (defined_struct ms)))
struct_defined env x ms sound e c m some few =
    let n : ℕ = tag_number env x in
    let ts : List CType = map type_of_member ms in
    let same : set (layout_of env) n (Some ts) ≡ layout_of (with_struct env x (defined_struct ms)) = sym (map-set types_of_struct env.structs n (defined_struct ms)) in
    subst (λ new. AreSound new × Grows (layout_of env) new) same
    (elim (within_or n (length env.structs)) as (λ _. AreSound (set (layout_of env) n (Some ts)) × Grows (layout_of env) (set (layout_of env) n (Some ts))) [
      | inl l ↦ (let long : n < length (layout_of env) = subst (λ k. n < k) (sym (length-map env.structs types_of_struct)) l in
          let o : slice_get (layout_of env) n ≡ Some None = entry_empty env.structs n l e in
          (set_sound (layout_of env) sound n ts o long c m some few, set_grows (layout_of env) sound n ts o long c m some few))
      | inr l ↦ (let long : length (layout_of env) ≤ n = subst (λ k. k ≤ n) (sym (length-map env.structs types_of_struct)) l in
          subst (λ new. AreSound new × Grows (layout_of env) new) (sym (set_past (layout_of env) n (Some ts) long)) (sound, grows_same (layout_of env)))
    ])

-- ## Members

module _ (env : Env) where
  abbrev TypeRight : CType → Type 0
  TypeRight t = Made (layout_of env) t × IsComplete (layout_of env) t

  abbrev pub MembersRight : List Member → Type 0
  MembersRight = Each (λ m. TypeRight m.ctype)

  member_right : (place name : ℕ) (t : CType) → Made (layout_of env) t → Holds TypeRight (member_typed env place name t)
  member_right place name t h =
      on_holds (λ u. Made (layout_of env) u × Seen t u) TypeRight (with_size name no_init t) _ (size_right (layout_of env) name no_init t h)
      (λ u k. on_holds (λ _. IsComplete (layout_of env) u) TypeRight (complete env place u) _ (complete_known env place u k.0) (λ _ c. (k.0, c)))

  named_right : (earlier : List Name) (at : ℕ) (s : Spec) (d : Declarator) (o : Option Ident) → Holds (λ m. TypeRight m.ctype) (member_named env earlier at s d o)
  named_right earlier at s d None = tt
  named_right earlier at s d (Some x) =
      both_hold Any TypeRight (λ m. TypeRight m.ctype) (new_member env earlier x) (on (type_declared env at s d) (member_typed env (place_or at d) x.at)) _ (anything (new_member env earlier x))
      (on_holds (Made (layout_of env)) TypeRight (type_declared env at s d) (member_typed env (place_or at d) x.at) (type_declared_made env at s d) (λ t h. member_right (place_or at d) x.at t h)) (λ _ t _ h. h)

  declared_members : (earlier : List Name) (at : ℕ) (s : Spec) (ds : Declarators) → Holds MembersRight (members_declared env earlier at s ds)
  declared_members earlier at s no_declarators = tt
  declared_members earlier at s (more_declarators d ds) =
      both_hold (λ m. TypeRight m.ctype) MembersRight MembersRight (member_declared env earlier at s d) (members_declared env (with_option (name_of d) earlier) at s ds) _ (named_right earlier at s d (name_of d)) (declared_members (with_option (name_of d) earlier) at s ds) (λ m ms h k. (h, k))

  pub members_right : (earlier : List Name) (ms : Members) → Holds MembersRight (members env earlier ms)
  members_right earlier no_members = tt
  members_right earlier (more_members at s ds rest) =
      both_hold MembersRight MembersRight MembersRight (members_declared env earlier at s ds) (members env (names_behind earlier ds) rest) _ (declared_members earlier at s ds) (members_right (names_behind earlier ds) rest) (λ ms ns h k. each_both (λ m. TypeRight m.ctype) ms ns h k)

  pub all_types : (P : CType → Type 0) → ((t : CType) → TypeRight t → P t) → (ms : List Member) → MembersRight ms → All P (map type_of_member ms)
  all_types P f [] h = λ k d l. absurd (omega (arith, l))
  all_types P f (m ∷ ms) h = All-cons P m.ctype (map type_of_member ms) (f m.ctype h.0) (all_types P f ms h.1)

  some_declared : (earlier : List Name) (at : ℕ) (s : Spec) (d : Declarator) (ds : Declarators) → Holds (λ ms. 1 ≤ length ms) (members_declared env earlier at s (more_declarators d ds))
  some_declared earlier at s d ds = both_hold Any Any (λ ms. 1 ≤ length ms) (member_declared env earlier at s d) (members_declared env (with_option (name_of d) earlier) at s ds) _ (anything _) (anything _) (λ m ms _ _. omega arith)

  longer : (ms ns : List Member) → 1 ≤ length ms → 1 ≤ length (ms ++ ns)
  longer [] ns h = absurd (omega (arith, h))
  longer (m ∷ ms) ns h = omega arith

  pub some_members : (earlier : List Name) (ms : Members) → AreSomeMembers ms → Holds (λ xs. 1 ≤ length xs) (members env earlier ms)
  some_members earlier (more_members at s (more_declarators d ds) rest) h =
      both_hold (λ ms. 1 ≤ length ms) Any (λ ms. 1 ≤ length ms) (members_declared env earlier at s (more_declarators d ds)) (members env (names_behind earlier (more_declarators d ds)) rest) _ (some_declared earlier at s d ds) (anything _) (λ ms ns k _. longer ms ns k)
  some_members earlier ms h = absurd h

-- ## Types where more structs are defined

sized_kept : (old new : Structs) → AreSound old → Grows old new → (t : CType) → IsSized old t → IsSized new t
sized_kept old new s g t h = record { made = made_kept old new g.kept t h.made; few = few t h }
  where
    few : (t : CType) → IsSized old t → FewCells new t
    few (array t n) h = subst (λ xs. length (repeat n xs) ≤ 33554432) (sym (same_flat old new s g t h.made.1)) h.few
    few t h = tt

meaning_kept : (old new : Structs) → AreSound old → Grows old new → (m : Meaning) → MeaningTyped old m → MeaningTyped new m
meaning_kept old new s g (a_static seen whole d) h = (sized_kept old new s g seen h.0, sized_kept old new s g whole h.1)
meaning_kept old new s g (a_local n seen whole) h = (sized_kept old new s g seen h.0, sized_kept old new s g whole h.1)
meaning_kept old new s g (a_function t d) h = (made_kept old new g.kept t h.0, h.1)
meaning_kept old new s g m h = tt

-- ## Scopes at file scope

-- what a name means at file scope
abbrev pub FileMeaning : Env → Name → Meaning → Type 0
FileMeaning env x (a_static seen whole d) = (seen ≡ whole) × IsComplete (layout_of env) whole × (cells (layout_of env) whole ≤ 65536)
FileMeaning env x (a_function t d) = IsThing t × ((i : ℕ) → number_among (given_names env.whole.mode) x ≡ Some i → (slice_get (given_types env.whole.mode) i ≡ Some t) × (d ≡ false))
FileMeaning env x (an_enumerator z) = IsConstant int (v.Int z)
FileMeaning env x a = ⊥

pub record IsFileRight (env : Env) : Type 0 where
  pub runs : env.context ≡ evaluated
  pub shallow : env.depth ≡ 0
  pub names_known : IsKnown env
  pub shallow_names : (x : Name) (b : Binding) → lookup env.names x ≡ Some b → b.depth ≡ 0
  pub meanings : (x : Name) (b : Binding) → lookup env.names x ≡ Some b → FileMeaning env x b.means

-- a later declaration of a name says the same of it
abbrev pub Agrees : Meaning → Meaning → Type 0
Agrees (a_static seen whole d) (a_static s w e) = (whole ≡ w) × (d ≡ true → e ≡ true)
Agrees (a_function t d) (a_function u e) = (t ≡ u) × (d ≡ true → e ≡ true)
Agrees (a_static seen whole d) m = ⊥
Agrees (a_function t d) m = ⊥
Agrees m n = Unit {0}

pub agrees_self : (m : Meaning) → Agrees m m
agrees_self (a_static seen whole d) = (refl, λ h. h)
agrees_self (a_function t d) = (refl, λ h. h)
agrees_self m = tt

pub agrees_on : (a b c : Meaning) → Agrees a b → Agrees b c → Agrees a c
agrees_on (a_static s w d) (a_static t x e) (a_static u y f) h k = (h.0 ∙ k.0, λ q. k.1 (h.1 q))
agrees_on (a_static s w d) (a_static t x e) c h k = absurd k
agrees_on (a_function t d) (a_function u e) (a_function w f) h k = (h.0 ∙ k.0, λ q. k.1 (h.1 q))
agrees_on (a_function t d) (a_function u e) c h k = absurd k
agrees_on (a_static s w d) b c h k = absurd h
agrees_on (a_function t d) b c h k = absurd h
agrees_on a b c h k = tt

-- what a later scope keeps of one
pub record Follows (old new : Env) : Type 0 where
  pub grows : Grows (layout_of old) (layout_of new)
  pub whole : new.whole ≡ old.whole
  pub later : (x : Name) (b : Binding) → lookup old.names x ≡ Some b → (c : Binding) × (lookup new.names x ≡ Some c) × Agrees b.means c.means

pub follows_self : (env : Env) → Follows env env
follows_self env = record { grows = grows_same (layout_of env); whole = refl; later = λ x b e. (b, e, agrees_self b.means) }

pub follows_on : (a b c : Env) → Follows a b → Follows b c → Follows a c
follows_on a b c h k = record {
  grows = grows_on (layout_of a) (layout_of b) (layout_of c) h.grows k.grows;
  whole = k.whole ∙ h.whole;
  later = λ x w e. (let f = h.later x w e in let g = k.later x f.0 f.1 in (g.0, g.1, agrees_on w.means f.0.means g.0.means f.2 g.2));
}

-- with a name declared anew
later_name : (b : Bool) (new w : Binding) (o : Option Binding) → o ≡ Some w → (b ≡ true → Agrees w.means new.means) → (c : Binding) × (cond b (Some new) o ≡ Some c) × Agrees w.means c.means
later_name true new w o e h = (new, refl, h refl)
later_name false new w o e h = (w, e, agrees_self w.means)

pub file_named : (env : Env) (x : Name) (m : Meaning) → IsFileRight env → MeaningTyped (layout_of env) m → ((y : Name) → x ≡ y → FileMeaning env y m) → ((b : Binding) → lookup env.names x ≡ Some b → Agrees b.means m)
    → IsFileRight (with_name env x m) × Follows env (with_name env x m)
file_named env x m w t f a = (
  record {
    runs = w.runs;
    shallow = w.shallow;
    names_known = record {
      sound = w.names_known.sound;
      meanings = λ y b e. by_name (λ c. MeaningTyped (layout_of env) c.means) (bytes_eq x y) (record { name = x; depth = env.depth; means = m }) (lookup env.names y) b e (λ _. t) (w.names_known.meanings y);
    };
    shallow_names = λ y b e. by_name (λ c. c.depth ≡ 0) (bytes_eq x y) (record { name = x; depth = env.depth; means = m }) (lookup env.names y) b e (λ _. w.shallow) (w.shallow_names y);
    meanings = λ y b e. by_name (λ c. FileMeaning env y c.means) (bytes_eq x y) (record { name = x; depth = env.depth; means = m }) (lookup env.names y) b e (λ q. f y ((bytes_eq-Decides x y).0 q)) (w.meanings y);
  },
  record {
    grows = grows_same (layout_of env);
    whole = refl;
    later = λ y b e. later_name (bytes_eq x y) (record { name = x; depth = env.depth; means = m }) b (lookup env.names y) e (λ q. a b (ap (lookup env.names) ((bytes_eq-Decides x y).0 q) ∙ e));
  },
)

-- with a struct defined
file_meaning_kept : (old new : Env) → AreSound (layout_of old) → Grows (layout_of old) (layout_of new) → new.whole ≡ old.whole → (x : Name) (m : Meaning) → FileMeaning old x m → FileMeaning new x m
file_meaning_kept old new s g q x (a_static seen whole d) h =
    (h.0, complete_kept (layout_of old) (layout_of new) g.kept whole h.1, subst (λ xs. length xs ≤ 65536) (sym (same_flat (layout_of old) (layout_of new) s g whole h.1)) h.2)
file_meaning_kept old new s g q x (a_function t d) h = (h.0, subst (λ w. (i : ℕ) → number_among (given_names w.mode) x ≡ Some i → (slice_get (given_types w.mode) i ≡ Some t) × (d ≡ false)) (sym q) h.1)
file_meaning_kept old new s g q x m h = h

pub file_structs : (env : Env) (x : Name) (s : Struct) → IsFileRight env → AreSound (layout_of (with_struct env x s)) → Grows (layout_of env) (layout_of (with_struct env x s)) → IsFileRight (with_struct env x s) × Follows env (with_struct env x s)
file_structs env x s w a g = (
  record {
    runs = w.runs;
    shallow = w.shallow;
    names_known = record { sound = a; meanings = λ y b e. meaning_kept (layout_of env) (layout_of (with_struct env x s)) w.names_known.sound g b.means (w.names_known.meanings y b e) };
    shallow_names = w.shallow_names;
    meanings = λ y b e. file_meaning_kept env (with_struct env x s) w.names_known.sound g refl y b.means (w.meanings y b e);
  },
  record { grows = g; whole = refl; later = λ y b e. (b, e, agrees_self b.means) },
)
