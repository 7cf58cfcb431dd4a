-- What is known behind the items of a unit that is fine.
use Rattle.std.proofs.Common.{◌≡◌, ℕ, ◌+◌, ◌≤◌, ℤ, pos, Bool, true, false, not, ◌&&◌, ◌||◌, if◌then◌else◌, List, [], ◌∷◌, map, length, Option, Some, None, slice_get, nat_le, nat_eq, refl, ap, ap₂, sym, subst, ◌∙◌}
use Rattle.std.specs.Cmp.{nat_eq_equiv}
use Rattle.std.specs.Prelude.{is_none}
use Rattle.std.proofs.lemmas.Bool.{leb-true}
use Rattle.std.proofs.lemmas.List.{length-map}
use Rattle.std.proofs.lemmas.Bool.{or_right, not-true}
use Rattle.c_tree.specs.Tree.{CType, void, array, function, CTypes}
use Rattle.c_tree.specs.Layout.{cells, cells_of_all}
use Rattle.c_tree.specs.Operators.{fits_int}
use Rattle.c_syntax.specs.Tree.{Ident, Storage, Spec, Declarator, MaybeInit, Parts, no_parts, more_parts, decl, Maybe, absent, there, Stmt, Members, Enumerators, no_enumerators, more_enumerators, Tag, no_tag, tag, Item, struct_item, enum_item, tag_item, decl_item, function_item, Items, no_items, more_items}
use Rattle.c_syntax.specs.Tree as syntax
use Rattle.c_rules.specs.Checked.{Checked, fine, on, demand, and_also, Met, met}
use Rattle.c_rules.specs.Names.{Name, with_new, number_among, is_among, may_be_declared, given_names, given_types, is_given_type}
use Rattle.c_rules.specs.Types.{same_type, is_result, count}
use Rattle.c_rules.specs.Scopes.{Env, Binding, Meaning, a_static, a_function, an_enumerator, Struct, defined_struct, Member, type_of_member, struct_of, tag_number, layout_of, with_struct, with_name, meaning_or_unknown, lookup, at_depth, declared_here, Before}
use Rattle.c_rules.specs.Conversions.{few_parts}
use Rattle.c_rules.specs.Constants.{number_of}
use Rattle.c_rules.specs.Counts.{place_of}
use Rattle.c_rules.specs.Declarators.{free_name, constant_value, name_of, place_or, pointer_to, array_of, function_of, new_name}
use Rattle.c_rules.specs.Expressions.{folded_value, declared, size_in, parameters, type_declared}
use Rattle.c_rules.specs.Objects.{Object, object_declared}
use Rattle.c_rules.specs.Tags.{tags_of_enumerators}
use Rattle.c_rules.specs.Functions.{declares_function, given_as, is_as_given, may_follow_function, is_defined_by, is_few, function_meaning, behind_function, function_declared, items_of_body, defined_as}
use Rattle.c_rules.specs.Items.{free_tag, without_init, output_of_function, Output, no_output, with_output, new_struct, struct_definition, struct_laid, members, is_incomplete, struct_or_unknown, int_value, enumerator_value, one_more_than, enumerator_meaning, behind_enumerator, enumerators, behind_enumerators, new_enum, behind_enum_tag, defines, may_follow_object, object_name, few_static, global_object, global_declared, meaning_of_global, behind_global, declared_part, named_part, behind_declared, behind_named_part, behind_file_part, after_file_part, file_parts, behind_file_parts, behind_defined, function_named, behind_function_named, item, behind_by_form, with_tags, behind_item, after_item, items, behind_items}
use Rattle.c_rules.proofs.ModeItems.{global_fine}
use Rattle.c_rules_laws.specs.Lexical.{AreSomeMembers, IsItemLexical, IsUnitLexical}
use Rattle.c_rules_laws.specs.MadeTypes.{NotArray, Made, IsSized}
use Rattle.c_rules_laws.specs.RightScopes.{IsThing}
use Rattle.c_rules_laws.proofs.Holding.{Holds, held, holds_map, holds_two, on_holds, both_hold, Any, anything, demand_holds, behind_demand, after_part, first_fine, on_fine, and_left, and_right, fine_same}
use Rattle.c_rules_laws.proofs.MadeTypes.{type_is}
use Rattle.c_rules_laws.proofs.SoundStructs.{grows_same}
use Rattle.c_rules_laws.proofs.MadeTypes.{sized_few}
use Rattle.c_rules_laws.proofs.TypesOfExpressions.{type_declared_made}
use Rattle.c_rules_laws.proofs.RightDeclarations.{IsObjectRight, declared_right}
use Rattle.c_rules_laws.proofs.FileScopes.{struct_defined, MembersRight, members_right, all_types, some_members, FileMeaning, IsFileRight, Agrees, agrees_self, Follows, follows_self, follows_on, file_named, file_structs}
use Rattle.c_tree.proofs.OperatorLemmas.{fits}
use Rattle.c_tree.specs.Operands.{IsComplete}

-- ## Types of functions

abbrev pub IsFunctionType : CType → Type 0
IsFunctionType (function t ts) = Unit {0}
IsFunctionType t = ⊥

function_type : (at : ℕ) (t : CType) (ts : CTypes) → Holds IsFunctionType (function_of at t ts)
function_type at t ts = behind_demand IsFunctionType (is_result t) 3 at _ (λ _. behind_demand IsFunctionType (nat_le (count ts) 16) 13 at _ (λ _. demand_holds IsFunctionType (few_parts (function t ts)) 13 at (function t ts) (λ _. tt)))

declared_function : (d : Declarator) (env : Env) (t : CType) → declares_function d ≡ true → Holds IsFunctionType (declared env d t)
declared_function (syntax.pointer at d) env t e = after_part IsFunctionType (pointer_to at t) (λ u. declared env d u) (λ u. declared_function d env u e)
declared_function (syntax.array at d size) env t e = after_part IsFunctionType (on (size_in env size) (array_of env at t)) (λ u. declared env d u) (λ u. declared_function d env u e)
declared_function (syntax.function at (syntax.named here x) ps) env t e =
    on_holds IsFunctionType IsFunctionType (on (parameters _ 0 ps) (function_of at t)) (λ u. fine u) (after_part IsFunctionType (parameters _ 0 ps) (function_of at t) (λ ts. function_type at t ts)) (λ u h. h)
declared_function (syntax.function at d ps) env t e = after_part IsFunctionType (on (parameters _ 0 ps) (function_of at t)) (λ u. declared env d u) (λ u. declared_function d env u e)
declared_function d env t e = absurd (cc)

function_thing : (t : CType) → IsFunctionType t → IsThing t
function_thing void h = absurd h
function_thing t h = tt

function_no_array : (t : CType) → IsFunctionType t → NotArray t
function_no_array (array t n) h = absurd h
function_no_array t h = tt

-- ## Names of functions

-- what a declaration of a function asks
pub record IsFunctionNamed (env : Env) (defined : Bool) (x : Ident) (t : CType) (m : Meaning) : Type 0 where
  pub is : m ≡ a_function t (is_defined_by defined (declared_here env x.name))
  pub given : is_as_given env defined x.name t ≡ true
  pub follows : may_follow_function defined t (declared_here env x.name) ≡ true
  pub few : is_few env x.name ≡ true

module _ (env : Env) (defined : Bool) (x : Ident) where
  pub function_meant : (t : CType) → Holds (IsFunctionNamed env defined x t) (function_meaning env defined x t)
  function_meant t =
      on_holds (λ _. (is_as_given env defined x.name t ≡ true) × (may_follow_function defined t (declared_here env x.name) ≡ true) × (is_few env x.name ≡ true)) (IsFunctionNamed env defined x t)
      (and_also (demand (may_be_declared env.whole.mode x.name) 12 x.at met) (and_also (demand (is_as_given env defined x.name t) 11 x.at met) (and_also (demand (may_follow_function defined t (declared_here env x.name)) 2 x.at met) (demand (is_few env x.name) 13 x.at met)))) _
      (both_hold Any (λ _. (is_as_given env defined x.name t ≡ true) × (may_follow_function defined t (declared_here env x.name) ≡ true) × (is_few env x.name ≡ true)) (λ _. (is_as_given env defined x.name t ≡ true) × (may_follow_function defined t (declared_here env x.name) ≡ true) × (is_few env x.name ≡ true)) (demand (may_be_declared env.whole.mode x.name) 12 x.at met) _ _ (anything _)
      (both_hold (λ _. is_as_given env defined x.name t ≡ true) (λ _. (may_follow_function defined t (declared_here env x.name) ≡ true) × (is_few env x.name ≡ true)) (λ _. (is_as_given env defined x.name t ≡ true) × (may_follow_function defined t (declared_here env x.name) ≡ true) × (is_few env x.name ≡ true)) (demand (is_as_given env defined x.name t) 11 x.at met) _ _ (demand_holds (λ _. is_as_given env defined x.name t ≡ true) _ 11 x.at met (λ e. e))
      (both_hold (λ _. may_follow_function defined t (declared_here env x.name) ≡ true) (λ _. is_few env x.name ≡ true) (λ _. (may_follow_function defined t (declared_here env x.name) ≡ true) × (is_few env x.name ≡ true)) (demand (may_follow_function defined t (declared_here env x.name)) 2 x.at met) (demand (is_few env x.name) 13 x.at met) _ (demand_holds (λ _. may_follow_function defined t (declared_here env x.name) ≡ true) _ 2 x.at met (λ e. e)) (demand_holds (λ _. is_few env x.name ≡ true) _ 13 x.at met (λ e. e)) (λ _ _ h k. (h, k)))
      (λ _ _ h k. (h, k.0, k.1))) (λ _ _ _ k. k))
      (λ _ h. record { is = refl; given = h.0; follows = h.1; few = h.2 })

  -- the meaning of a function that is declared, with its type
  pub record IsFunctionDeclared (m : Meaning) : Type 0 where
    pub type : CType
    pub made : Made (layout_of env) type
    pub shape : IsFunctionType type
    pub named : IsFunctionNamed env defined x type m

  pub function_declared_right : (at : ℕ) (s : Spec) (d : Declarator) → declares_function d ≡ true → Holds IsFunctionDeclared (function_declared env defined at s d x)
  function_declared_right at s d e =
      on_holds (λ t. Made (layout_of env) t × IsFunctionType t) IsFunctionDeclared (type_declared env at s d) (function_meaning env defined x)
      (holds_two (Made (layout_of env)) IsFunctionType (type_declared env at s d) (type_declared_made env at s d) (after_part IsFunctionType _ (declared env d) (λ t. declared_function d env t e)))
      (λ t h. holds_map (IsFunctionNamed env defined x t) IsFunctionDeclared (λ m k. record { type = t; made = h.0; shape = h.1; named = k }) (function_meaning env defined x t) (function_meant t))

-- what stands before a declaration at file scope
module _ (env : Env) (w : IsFileRight env) (x : Name) where
  pub here_is : (b : Binding) → lookup env.names x ≡ Some b → declared_here env x ≡ Some b.means
  here_is b e =
      let d : b.depth ≡ env.depth = w.shallow_names x b e ∙ sym w.shallow in
      ap (at_depth env.depth) e ∙ ap (λ t. if t then Some b.means else None) (ap (λ k. nat_eq k env.depth) d ∙ nat_eq_equiv.refl env.depth)

  follows_function : (defined : Bool) (t : CType) (b : Binding) → lookup env.names x ≡ Some b → may_follow_function defined t (declared_here env x) ≡ true → Agrees b.means (a_function t (is_defined_by defined (declared_here env x)))
  follows_function defined t b e f =
      let h = here_is b e in
      by_meaning b.means (w.meanings x b e) (subst (λ o. may_follow_function defined t o ≡ true) h f) (ap (is_defined_by defined) h)
    where
      by_meaning : (m : Meaning) → FileMeaning env x m → may_follow_function defined t (Some m) ≡ true → is_defined_by defined (declared_here env x) ≡ is_defined_by defined (Some m) → Agrees m (a_function t (is_defined_by defined (declared_here env x)))
      by_meaning (a_function u was) g q i = (sym (type_is t u (and_left (same_type t u) (not (defined && was)) q)), λ k. i ∙ or_right defined was k)
      by_meaning (a_static s u d) g q i = absurd (cc)
      by_meaning (an_enumerator z) g q i = absurd (cc)
      by_meaning m g q i = absurd g

  follows_object : (defined : Bool) (t : CType) (b : Binding) → lookup env.names x ≡ Some b → may_follow_object defined t (declared_here env x) ≡ true → Agrees b.means (a_static t t (is_defined_by defined (declared_here env x)))
  follows_object defined t b e f =
      let h = here_is b e in
      by_meaning b.means (w.meanings x b e) (subst (λ o. may_follow_object defined t o ≡ true) h f) (ap (is_defined_by defined) h)
    where
      by_meaning : (m : Meaning) → FileMeaning env x m → may_follow_object defined t (Some m) ≡ true → is_defined_by defined (declared_here env x) ≡ is_defined_by defined (Some m) → Agrees m (a_static t t (is_defined_by defined (declared_here env x)))
      by_meaning (a_static s u was) g q i = (sym (type_is t u (and_left (same_type t u) (not (defined && was)) q)), λ k. i ∙ or_right defined was k)
      by_meaning (a_function u d) g q i = absurd (cc)
      by_meaning (an_enumerator z) g q i = absurd (cc)
      by_meaning m g q i = absurd g

-- ## Steps of a scope

abbrev pub Step : Env → Env → Type 0
Step old new = IsFileRight new × Follows old new

pub step_self : (env : Env) → IsFileRight env → Step env env
step_self env w = (w, follows_self env)

pub step_on : (a b c : Env) → Step a b → Step b c → Step a c
step_on a b c h k = (k.0, follows_on a b c h.1 k.1)

-- ## Structs and enums

new_struct_empty : (env : Env) (x : Ident) → Holds (λ _. is_incomplete (struct_of env (tag_number env x.name)) ≡ true) (new_struct env x)
new_struct_empty env x =
    both_hold Any (λ _. is_incomplete (struct_of env (tag_number env x.name)) ≡ true) (λ _. is_incomplete (struct_of env (tag_number env x.name)) ≡ true) (free_tag env x) _ _ (anything _)
    (demand_holds (λ _. is_incomplete (struct_of env (tag_number env x.name)) ≡ true) (is_incomplete (struct_of env (tag_number env x.name)) && not (is_among env.enums x.name)) 2 x.at met (λ e. and_left (is_incomplete (struct_of env (tag_number env x.name))) (not (is_among env.enums x.name)) e)) (λ _ _ _ k. k)

laid_small : (env : Env) (x : Ident) (ms : List Member) → Holds (λ s. (s ≡ defined_struct ms) × (cells_of_all (layout_of env) (map type_of_member ms) ≤ 65536)) (struct_laid env x ms)
laid_small env x ms =
    on_holds (λ _. cells_of_all (layout_of env) (map type_of_member ms) ≤ 65536) (λ s. (s ≡ defined_struct ms) × (cells_of_all (layout_of env) (map type_of_member ms) ≤ 65536)) (and_also (demand (nat_le (length ms) 256) 13 x.at met) (demand (nat_le (cells_of_all (layout_of env) (map type_of_member ms)) 65536) 13 x.at met)) _
    (both_hold Any (λ _. cells_of_all (layout_of env) (map type_of_member ms) ≤ 65536) (λ _. cells_of_all (layout_of env) (map type_of_member ms) ≤ 65536) (demand (nat_le (length ms) 256) 13 x.at met) _ _ (anything _) (demand_holds (λ _. cells_of_all (layout_of env) (map type_of_member ms) ≤ 65536) (nat_le (cells_of_all (layout_of env) (map type_of_member ms)) 65536) 13 x.at met (λ e. leb-true (cells_of_all (layout_of env) (map type_of_member ms)) 65536 e)) (λ _ _ _ k. k))
    (λ _ h. (refl, h))

struct_step : (env : Env) (x : Ident) (ms : Members) (s : Struct) → IsFileRight env → AreSomeMembers ms → struct_definition env x ms ≡ fine s → Step env (with_struct env x.name (struct_or_unknown (struct_definition env x ms)))
struct_step env x ms s w some e =
    let f = first_fine (new_struct env x) (on (members env [] ms) (struct_laid env x)) (λ _ s. fine s) s e in
    let g = on_fine (members env [] ms) (struct_laid env x) f.1 f.3 in
    let h = held (λ z. (z ≡ defined_struct g.0) × (cells_of_all (layout_of env) (map type_of_member g.0) ≤ 65536)) (struct_laid env x g.0) f.1 (laid_small env x g.0) g.2 in
    let m = held (MembersRight env) (members env [] ms) g.0 (members_right env [] ms) g.1 in
    let n = held (λ xs. 1 ≤ length xs) (members env [] ms) g.0 (some_members env [] ms some) g.1 in
    let o = held (λ _. is_incomplete (struct_of env (tag_number env x.name)) ≡ true) (new_struct env x) f.0 (new_struct_empty env x) f.2 in
    let l : 1 ≤ length (map type_of_member g.0) = subst (λ k. 1 ≤ k) (sym (length-map g.0 type_of_member)) n in
    let d = struct_defined env x.name g.0 w.names_known.sound o (all_types env (IsComplete (layout_of env)) (λ _ h. h.1) g.0 m) (all_types env (Made (layout_of env)) (λ _ h. h.0) g.0 m) l h.1 in
    let same : struct_or_unknown (struct_definition env x ms) ≡ defined_struct g.0 = ap struct_or_unknown e ∙ (sym (fine_same f.1 s f.4) ∙ h.0) in
    subst (λ z. Step env (with_struct env x.name z)) (sym same) (file_structs env x.name (defined_struct g.0) w d.0 d.1)

-- the names of tags, enumerations and functions are free
with_names : (env : Env) (ts es fs : List Name) → IsFileRight env → Step env (record env { tags = ts; enums = es; functions = fs })
with_names env ts es fs w = (record { runs = w.runs; shallow = w.shallow; names_known = w.names_known; shallow_names = w.shallow_names; meanings = w.meanings }, record { grows = grows_same (layout_of env); whole = refl; later = λ x b e. (b, e, agrees_self b.means) })

pub tags_step : (env : Env) (i : Item) → IsFileRight env → Step env (with_tags env i)
tags_step env i w = with_names env _ env.enums env.functions w

enum_tag_step : (env : Env) (x : Tag) → IsFileRight env → Step env (behind_enum_tag env x)
enum_tag_step env no_tag w = step_self env w
enum_tag_step env (tag x) w = with_names env env.tags (x.name ∷ env.enums) env.functions w

value_fits : (env : Env) (before : Checked ℤ) (x : Ident) (m : Maybe) → Holds (λ z. fits_int z ≡ true) (enumerator_value env before x m)
value_fits env before x absent = after_part (λ z. fits_int z ≡ true) before (int_value x.at) (λ z. demand_holds (λ z. fits_int z ≡ true) (fits_int z) 6 x.at z (λ e. e))
value_fits env before x (there y) = after_part (λ z. fits_int z ≡ true) (on (folded_value env y) (constant_value (place_of y))) (λ v. int_value (place_of y) (number_of v)) (λ v. demand_holds (λ z. fits_int z ≡ true) (fits_int (number_of v)) 6 (place_of y) (number_of v) (λ e. e))

-- a new name is not declared here
name_is_new : (env : Env) (x : Ident) → Holds (λ _. is_none (declared_here env x.name) ≡ true) (new_name env x)
name_is_new env x = both_hold Any (λ _. is_none (declared_here env x.name) ≡ true) (λ _. is_none (declared_here env x.name) ≡ true) (free_name env x) _ _ (anything _) (demand_holds (λ _. is_none (declared_here env x.name) ≡ true) (is_none (declared_here env x.name)) 2 x.at met (λ e. e)) (λ _ _ _ k. k)

enumerator_is : (env : Env) (x : Ident) (r : Checked ℤ) → Holds (λ z. fits_int z ≡ true) r → Holds (λ m. (z : ℤ) × (m ≡ an_enumerator z) × (fits_int z ≡ true) × (is_none (declared_here env x.name) ≡ true)) (enumerator_meaning env x r)
enumerator_is env x r h = both_hold (λ _. is_none (declared_here env x.name) ≡ true) (λ z. fits_int z ≡ true) (λ m. (z : ℤ) × (m ≡ an_enumerator z) × (fits_int z ≡ true) × (is_none (declared_here env x.name) ≡ true)) (new_name env x) r _ (name_is_new env x) h (λ _ z k l. (z, refl, l, k))

some_is_no_none : (m : Meaning) (o : Option Meaning) → o ≡ Some m → is_none o ≡ true → ⊥
some_is_no_none m o e f = (let g : is_none (Some m) ≡ true = subst (λ o. is_none o ≡ true) e f in cc)

enumerator_step : (env : Env) (x : Ident) (r : Checked ℤ) (m : Meaning) → IsFileRight env → Holds (λ z. fits_int z ≡ true) r → enumerator_meaning env x r ≡ fine m → Step env (behind_enumerator env x r)
enumerator_step env x r m w h e =
    let k = held (λ m. (z : ℤ) × (m ≡ an_enumerator z) × (fits_int z ≡ true) × (is_none (declared_here env x.name) ≡ true)) (enumerator_meaning env x r) m (enumerator_is env x r h) e in
    let same : meaning_or_unknown (enumerator_meaning env x r) ≡ an_enumerator k.0 = ap meaning_or_unknown e ∙ k.1 in
    subst (λ z. Step env (with_name env x.name z)) (sym same)
    (file_named env x.name (an_enumerator k.0) w tt (λ y _. (refl, fits k.0 k.2)) (λ b f. absurd (some_is_no_none b.means (declared_here env x.name) (here_is env w x.name b f) k.3)))

enumerators_step : (es : Enumerators) (env : Env) (before : Checked ℤ) (a : Met) → IsFileRight env → enumerators env before es ≡ fine a → Step env (behind_enumerators env before es)
enumerators_step no_enumerators env before a w e = step_self env w
enumerators_step (more_enumerators x m es) env before a w e =
    let r : Checked ℤ = enumerator_value env before x m in
    let f = first_fine (enumerator_meaning env x r) (enumerators (behind_enumerator env x r) (one_more_than r) es) (λ _ _. fine met) a e in
    let s = enumerator_step env x r f.0 w (value_fits env before x m) f.2 in
    step_on env (behind_enumerator env x r) (behind_enumerators (behind_enumerator env x r) (one_more_than r) es) s (enumerators_step es (behind_enumerator env x r) (one_more_than r) f.1 s.0 f.3)

-- ## Functions

given_fits : (env : Env) (defined : Bool) (x : Name) (t : CType) (i : ℕ) → is_as_given env defined x t ≡ true → number_among (given_names env.whole.mode) x ≡ Some i → (slice_get (given_types env.whole.mode) i ≡ Some t) × (defined ≡ false)
given_fits env defined x t i h e = by_test (subst (λ o. given_as env defined t o ≡ true) e h)
  where
    by_type : (o : Option CType) → is_given_type o t ≡ true → o ≡ Some t
    by_type None q = absurd (cc)
    by_type (Some u) q = ap Some (sym (type_is t u q))

    by_test : (not defined && is_given_type (slice_get (given_types env.whole.mode) i) t) ≡ true → (slice_get (given_types env.whole.mode) i ≡ Some t) × (defined ≡ false)
    by_test q = (by_type (slice_get (given_types env.whole.mode) i) (and_right (not defined) (is_given_type (slice_get (given_types env.whole.mode) i) t) q), not-true defined (and_left (not defined) (is_given_type (slice_get (given_types env.whole.mode) i) t) q))

-- a given name isn't defined before
not_defined_before : (env : Env) → IsFileRight env → (defined : Bool) (x : Name) (t : CType) (i : ℕ) → number_among (given_names env.whole.mode) x ≡ Some i → defined ≡ false → may_follow_function defined t (declared_here env x) ≡ true → is_defined_by defined (declared_here env x) ≡ false
not_defined_before env w defined x t i e q f = by_lookup (lookup env.names x) refl
  where
    by_meaning : (m : Meaning) → FileMeaning env x m → may_follow_function defined t (Some m) ≡ true → is_defined_by defined (Some m) ≡ false
    by_meaning (a_function u d) g h = (let d_is : d ≡ false = (g.1 i e).1 in ap₂ (λ a b. a || b) q d_is)
    by_meaning (a_static s u d) g h = absurd (cc)
    by_meaning (an_enumerator z) g h = absurd (cc)
    by_meaning m g h = absurd g

    by_lookup : (o : Option Binding) → lookup env.names x ≡ o → is_defined_by defined (declared_here env x) ≡ false
    by_lookup None p = ap (λ o. is_defined_by defined (at_depth env.depth o)) p ∙ q
    by_lookup (Some b) p = (let h = here_is env w x b p in ap (is_defined_by defined) h ∙ by_meaning b.means (w.meanings x b p) (subst (λ o. may_follow_function defined t o ≡ true) h f))

function_step : (env : Env) (defined : Bool) (x : Ident) (r : Checked Meaning) (m : Meaning) → IsFileRight env → r ≡ fine m → IsFunctionDeclared env defined x m → Step env (behind_function env x.name r)
function_step env defined x r m w e h =
    let inner : Env = record env { functions = with_new env.functions x.name } in
    let s = with_names env env.tags env.enums (with_new env.functions x.name) w in
    let d : Bool = is_defined_by defined (declared_here env x.name) in
    let same : meaning_or_unknown r ≡ a_function h.type d = ap meaning_or_unknown e ∙ h.named.is in
    let file : (y : Name) → x.name ≡ y → FileMeaning inner y (a_function h.type d) = (λ y q. subst (λ z. FileMeaning inner z (a_function h.type d)) q
    (function_thing h.type h.shape, λ i n. (let k = given_fits env defined x.name h.type i h.named.given n in (k.0, not_defined_before env w defined x.name h.type i n k.1 h.named.follows)))) in
    subst (λ z. Step env (with_name inner x.name z)) (sym same)
    (step_on env inner (with_name inner x.name (a_function h.type d)) s
    (file_named inner x.name (a_function h.type d) s.0 (h.made, function_no_array h.type h.shape) file (λ b f. follows_function env w x.name defined h.type b f h.named.follows)))

-- ## Objects

-- what a declaration of an object asks
pub record IsObjectNamed (env : Env) (defined : Bool) (b : Before) (x : Ident) (o : Object) : Type 0 where
  pub right : IsObjectRight (layout_of env) o
  pub follows : may_follow_object defined o.whole (declared_here env x.name) ≡ true
  pub few : defined ≡ true → b.cells + cells (layout_of env) o.whole ≤ 1048576

object_follows : (env : Env) (defined : Bool) (x : Ident) (t : CType) → Holds (λ _. may_follow_object defined t (declared_here env x.name) ≡ true) (object_name env defined x t)
object_follows env defined x t =
    both_hold Any (λ _. may_follow_object defined t (declared_here env x.name) ≡ true) (λ _. may_follow_object defined t (declared_here env x.name) ≡ true) (demand (may_be_declared env.whole.mode x.name) 12 x.at met) _ _ (anything _)
    (both_hold Any (λ _. may_follow_object defined t (declared_here env x.name) ≡ true) (λ _. may_follow_object defined t (declared_here env x.name) ≡ true) (demand (not (is_among (given_names env.whole.mode) x.name)) 11 x.at met) _ _ (anything _) (demand_holds (λ _. may_follow_object defined t (declared_here env x.name) ≡ true) _ 2 x.at met (λ e. e)) (λ _ _ _ k. k)) (λ _ _ _ k. k)

object_few : (env : Env) (defined : Bool) (b : Before) (x : Ident) (t : CType) → Holds (λ _. defined ≡ true → b.cells + cells (layout_of env) t ≤ 1048576) (few_static env defined b x t)
object_few env false b x t = λ e. absurd (cc)
object_few env true b x t = demand_holds (λ _. true ≡ true → b.cells + cells (layout_of env) t ≤ 1048576) (nat_le (b.cells + cells (layout_of env) t) 1048576) 13 x.at met (λ e _. leb-true (b.cells + cells (layout_of env) t) 1048576 e)

pub object_named : (env : Env) (defined : Bool) (b : Before) (at : ℕ) (s : Spec) (d : Declarator) (x : Ident) (m : MaybeInit) → Holds (IsObjectNamed env defined b x) (global_declared env defined b at s d x m)
object_named env defined b at s d x m =
    on_holds (IsObjectRight (layout_of env)) (IsObjectNamed env defined b x) (object_declared env at s d x m) (global_object env defined b x) (declared_right env at s d x m)
    (λ o h. on_holds (λ _. (may_follow_object defined o.whole (declared_here env x.name) ≡ true) × (defined ≡ true → b.cells + cells (layout_of env) o.whole ≤ 1048576)) (IsObjectNamed env defined b x) (and_also (object_name env defined x o.whole) (few_static env defined b x o.whole)) _
    (both_hold (λ _. may_follow_object defined o.whole (declared_here env x.name) ≡ true) (λ _. defined ≡ true → b.cells + cells (layout_of env) o.whole ≤ 1048576) (λ _. (may_follow_object defined o.whole (declared_here env x.name) ≡ true) × (defined ≡ true → b.cells + cells (layout_of env) o.whole ≤ 1048576)) (object_name env defined x o.whole) (few_static env defined b x o.whole) _ (object_follows env defined x o.whole) (object_few env defined b x o.whole) (λ _ _ k l. (k, l)))
    (λ _ k. record { right = h; follows = k.0; few = k.1 }))

object_step : (env : Env) (defined : Bool) (b : Before) (x : Ident) (r : Checked Object) (o : Object) → IsFileRight env → r ≡ fine o → IsObjectNamed env defined b x o → Step env (behind_global env defined x r)
object_step env defined b x r o w e h =
    let d : Bool = is_defined_by defined (declared_here env x.name) in
    let same : meaning_or_unknown (meaning_of_global env defined x r) ≡ a_static o.whole o.whole d = ap (λ z. meaning_or_unknown (meaning_of_global env defined x z)) e in
    let sized : IsSized (layout_of env) o.whole = sized_few (layout_of env) o.whole h.right.whole_made h.right.small in
    subst (λ z. Step env (with_name env x.name z)) (sym same)
    (file_named env x.name (a_static o.whole o.whole d) w (sized, sized) (λ y _. (refl, h.right.known, h.right.small)) (λ c f. follows_object env w x.name defined o.whole c f h.follows))

-- ## Items

pub part_step : (env : Env) (b : Before) (at : ℕ) (class : Storage) (s : Spec) (d : Declarator) (m : MaybeInit) (o : Option Ident) (p : Output) → IsFileRight env → named_part env b at class s d m o ≡ fine p → Step env (behind_named_part env b at class s d m o)
part_step env b at class s d m None p w e = absurd (cc)
part_step env b at class s d m (Some x) p w e = by_kind (declares_function d) refl e
  where
    by_kind : (k : Bool) → declares_function d ≡ k → declared_part env b at class s d m k x ≡ fine p → Step env (behind_declared env b at class s d m k x)
    by_kind true q e =
        let r : Checked Meaning = function_declared env false at s d x in
        let f = first_fine r (without_init m) (λ _ _. fine no_output) p e in
        function_step env false x r f.0 w f.2 (held (IsFunctionDeclared env false x) r f.0 (function_declared_right env false x at s d q) f.2)
    by_kind false q e =
        let r : Checked Object = global_declared env (defines class m) b at s d x m in
        let f = global_fine env (defines class m) b x m r p e in
        object_step env (defines class m) b x r f.0 w f.1 (held (IsObjectNamed env (defines class m) b x) r f.0 (object_named env (defines class m) b at s d x m) f.1)

pub parts_step : (ps : Parts) (env : Env) (b : Before) (at : ℕ) (class : Storage) (s : Spec) (p : Output) → IsFileRight env → file_parts env b at class s ps ≡ fine p → Step env (behind_file_parts env b at class s ps)
parts_step no_parts env b at class s p w e = step_self env w
parts_step (more_parts d m ps) env b at class s p w e =
    let inner : Env = behind_file_part env b at class s d m in
    let after : Before = after_file_part env b at class s d m in
    let f = first_fine (named_part env b at class s d m (name_of d)) (file_parts inner after at class s ps) (λ p q. fine (with_output p q)) p e in
    let h = part_step env b at class s d m (name_of d) f.0 w f.2 in
    step_on env inner (behind_file_parts inner after at class s ps) h (parts_step ps inner after at class s f.1 h.0 f.3)

pub definition_step : (env : Env) (b : Before) (at : ℕ) (s : Spec) (d : Declarator) (body : Stmt) (o : Option Ident) (p : Output) (k : Bool) → declares_function d ≡ k → IsFileRight env → function_named env b at s d body k o ≡ fine p → Step env (behind_function_named env at s d o)
definition_step env b at s d body (Some x) p true q w e =
    let r : Checked Meaning = function_declared env true at s d x in
    let f = first_fine r (on (type_declared env at s d) (defined_as (behind_defined env at s d x) b (place_or at d) d x (items_of_body body))) (λ _ f. fine (output_of_function f)) p e in
    function_step env true x r f.0 w f.2 (held (IsFunctionDeclared env true x) r f.0 (function_declared_right env true x at s d q) f.2)
definition_step env b at s d body o p false q w e = absurd (cc)
definition_step env b at s d body None p true q w e = absurd (cc)

pub form_step : (i : Item) (env : Env) (b : Before) (p : Output) → IsFileRight env → IsItemLexical i → item env b i ≡ fine p → Step env (behind_by_form env b i)
form_step (struct_item at x ms) env b p w l e = (let f = on_fine (struct_definition env x ms) (λ _. fine no_output) p e in struct_step env x ms f.0 w l f.1)
form_step (enum_item at x es) env b p w l e =
    let inner : Env = behind_enumerators env (fine (pos 0)) es in
    let f = first_fine (new_enum env x (tags_of_enumerators es)) (enumerators env (fine (pos 0)) es) (λ _ _. fine no_output) p e in
    let h = enumerators_step es env (fine (pos 0)) f.1 w f.3 in
    step_on env inner (behind_enum_tag inner x) h (enum_tag_step inner x h.0)
form_step (tag_item at x) env b p w l e = step_self env w
form_step (decl_item at (decl here class s ps)) env b p w l e = parts_step ps env b here class s p w e
form_step (function_item at class s d body) env b p w l e = definition_step env b at s d body (name_of d) p (declares_function d) refl w e

pub item_step : (i : Item) (env : Env) (b : Before) (p : Output) → IsFileRight env → IsItemLexical i → item env b i ≡ fine p → Step env (behind_item env b i)
item_step i env b p w l e = (let h = form_step i env b p w l e in step_on env (behind_by_form env b i) (behind_item env b i) h (tags_step (behind_by_form env b i) i h.0))

pub items_step : (is : Items) (env : Env) (b : Before) (p : Output) → IsFileRight env → IsUnitLexical is → items env b is ≡ fine p → Step env (behind_items env b is)
items_step no_items env b p w l e = step_self env w
items_step (more_items i is) env b p w l e =
    let f = first_fine (item env b i) (items (behind_item env b i) (after_item env b i) is) (λ p q. fine (with_output p q)) p e in
    let h = item_step i env b f.0 w l.0 f.2 in
    step_on env (behind_item env b i) (behind_items (behind_item env b i) (after_item env b i) is) h (items_step is (behind_item env b i) (after_item env b i) f.1 h.0 l.1 f.3)
