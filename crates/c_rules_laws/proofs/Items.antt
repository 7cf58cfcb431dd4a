-- What items of a unit give without their places, and what stands behind them.
use Rattle.std.proofs.Common.{◌≡◌, ℕ, Bool, true, false, not, ◌&&◌, List, [], ◌∷◌, ◌++◌, Option, Some, None, refl, sym, ap, ap₂, subst, ◌∙◌}
use Rattle.std.specs.Prelude.{ℤ, pos, ◌+ℤ◌, ◌+◌, map, length, nat_le}
use Rattle.c_tree.specs.Tree.{CType, Function}
use Rattle.c_tree.specs.Layout.{cells, cells_of_all}
use Rattle.c_tree.specs.Operators.{fits_int}
use Rattle.c_syntax.specs.Tree.{Ident, Storage, extern, Spec, Declarator, MaybeInit, no_init, an_init, one, list, Parts, no_parts, more_parts, decl}
use Rattle.c_syntax.specs.Tree.{Maybe, absent, there, Declarators, no_declarators, more_declarators, Members, no_members, more_members, Enumerators, no_enumerators, more_enumerators}
use Rattle.c_syntax.specs.Tree.{Tag, no_tag, tag, Stmt, BlockItems, Item, struct_item, enum_item, tag_item, decl_item, function_item, Items, no_items, more_items}
use Rattle.c_syntax.specs.Same.{unplaced_ident, unplaced_spec, unplaced, unplaced_maybe, unplaced_declarator, unplaced_maybe_init, unplaced_parts, unplaced_stmt, unplaced_block_items, unplaced_declarators, unplaced_members, unplaced_enumerators, unplaced_tag, unplaced_item, unplaced_unit}
use Rattle.c_rules.specs.Checked.{Checked, fine, faulty, on, gives, Met, met}
use Rattle.c_rules.specs.Codes.{C2, C3, C6, C11, C12, C13, C14}
use Rattle.c_rules.specs.Constants.{number_of}
use Rattle.c_rules.specs.Limits.{most_cells, most_members, most_static_cells}
use Rattle.c_rules.specs.Names.{Name, is_among, may_be_declared, given_names}
use Rattle.c_rules.specs.Scopes.{Env, Meaning, a_static, an_enumerator, Struct, defined_struct, Member, type_of_member, declared_here, with_name, with_struct, struct_of, tag_number, layout_of, Before, meaning_or_unknown}
use Rattle.c_rules.specs.Counts.{place_of}
use Rattle.c_rules.specs.Conversions.{complete}
use Rattle.c_rules.specs.Declarators.{name_of, place_or, constant_value}
use Rattle.c_rules.specs.Expressions.{type_declared}
use Rattle.c_rules.specs.Initialisers.{held_by, calls_of_maybe_init}
use Rattle.c_rules.specs.Objects.{Object, object_declared}
use Rattle.c_rules.specs.Tags.{tags_of_enumerators}
use Rattle.c_rules.specs.Variables.{calls_of_block}
use Rattle.c_rules.specs.Functions.{declares_function, held_by_typed, is_defined_by, function_declared, items_of_body, defined_as}
use Rattle.c_rules.specs.Items.{Output, no_output, with_output, free_tag, member_typed, new_member, member_named, member_declared, with_option, names_behind, members_declared, members, struct_laid, is_incomplete, new_struct, struct_definition, struct_or_unknown, tag_declaration, int_value, enumerator_value, one_more_than, enumerator_meaning, behind_enumerator, enumerators, behind_enumerators, new_enum, behind_enum_tag, defines, may_follow_object, object_name, few_static, global_object, global_declared, behind_global, within_global, static_of, after_object, definition_of, global, without_init, prototype, declared_part, named_part, behind_declared, behind_named_part, behind_file_part, after_global, after_declared, after_file_part, file_parts, behind_file_parts, after_file_parts, output_of_function, behind_defined, function_named, behind_function_named, after_function, item, behind_by_form, behind_item, after_item, items, behind_items, after_items}
use Rattle.c_rules.proofs.ModeItems.{global_fine}
use Rattle.c_rules_laws.proofs.Leads.{first_fine, on_fine}
use Rattle.c_rules_laws.proofs.Alike.{Alike, alike, fine_there, on_alike, gives_alike, joined_alike, demand_alike, and_alike, fault_alike}
use Rattle.c_rules_laws.proofs.Operators.{complete_alike}
use Rattle.c_rules_laws.proofs.Declared.{unplaced_name, name_same, constant_alike, new_alike, meaning_same}
use Rattle.c_rules_laws.proofs.Expressions.{type_declared_alike, folded_alike, past_same}
use Rattle.c_rules_laws.proofs.Initialisers.{with_size_alike, declared_object_alike, static_init_alike, held_by_same, maybe_init_calls_same}
use Rattle.c_rules_laws.proofs.Counted.{block_same, item_tags}
use Rattle.c_rules_laws.proofs.Functions.{declares_same, body_items_same, defined_alike, held_same, function_declared_alike, behind_function_same}

-- ## Structs

free_tag_alike : (env : Env) (x : Ident) → Alike Met (free_tag env x) (free_tag env (unplaced_ident x))
free_tag_alike env x = demand_alike (may_be_declared env.whole.mode x.name) C12 x.at 0 met

member_typed_alike : (env : Env) (here yonder at to : ℕ) (t : CType) → Alike CType (member_typed env here at t) (member_typed env yonder to t)
member_typed_alike env here yonder at to t =
    on_alike (λ u. gives (complete env here u) (λ _. u)) (λ u. gives (complete env yonder u) (λ _. u)) (with_size_alike at to no_init t) (λ u _. gives_alike (λ _. u) (complete_alike env here yonder u))

new_member_alike : (env : Env) (xs : List Name) (x : Ident) → Alike Met (new_member env xs x) (new_member env xs (unplaced_ident x))
new_member_alike env xs x = and_alike (demand_alike (may_be_declared env.whole.mode x.name) C12 x.at 0 met) (demand_alike (not (is_among xs x.name)) C2 x.at 0 met)

member_named_alike : (env : Env) (xs : List Name) (at to : ℕ) (s : Spec) (d : Declarator) (n : Option Ident) → Alike Member (member_named env xs at s d n) (member_named env xs to (unplaced_spec s) (unplaced_declarator d) (unplaced_name n))
member_named_alike env xs at to s d None = fault_alike C3 (place_or at d) (place_or to (unplaced_declarator d))
member_named_alike env xs at to s d (Some x) =
    joined_alike (on (type_declared env at s d) (member_typed env (place_or at d) x.at)) (on (type_declared env to (unplaced_spec s) (unplaced_declarator d)) (member_typed env (place_or to (unplaced_declarator d)) 0))
    (λ _ t. record { name = x.name; ctype = t }) (new_member_alike env xs x)
    (λ _ _. on_alike (member_typed env (place_or at d) x.at) (member_typed env (place_or to (unplaced_declarator d)) 0) (type_declared_alike env at to s d)
    (λ t _. member_typed_alike env (place_or at d) (place_or to (unplaced_declarator d)) x.at 0 t))

member_alike : (env : Env) (xs : List Name) (at to : ℕ) (s : Spec) (d : Declarator) → Alike Member (member_declared env xs at s d) (member_declared env xs to (unplaced_spec s) (unplaced_declarator d))
member_alike env xs at to s d =
    subst (λ n. Alike Member (member_declared env xs at s d) (member_named env xs to (unplaced_spec s) (unplaced_declarator d) n)) (sym (name_same d)) (member_named_alike env xs at to s d (name_of d))

option_same : (n : Option Ident) (xs : List Name) → with_option (unplaced_name n) xs ≡ with_option n xs
option_same None xs = refl
option_same (Some x) xs = refl

behind_name_same : (d : Declarator) (xs : List Name) → with_option (name_of (unplaced_declarator d)) xs ≡ with_option (name_of d) xs
behind_name_same d xs = ap (λ n. with_option n xs) (name_same d) ∙ option_same (name_of d) xs

names_behind_same : (xs : List Name) (ds : Declarators) → names_behind xs (unplaced_declarators ds) ≡ names_behind xs ds
names_behind_same xs no_declarators = refl
names_behind_same xs (more_declarators d ds) = ap (λ ys. names_behind ys (unplaced_declarators ds)) (behind_name_same d xs) ∙ names_behind_same (with_option (name_of d) xs) ds

declarators_alike : (env : Env) (xs : List Name) (at to : ℕ) (s : Spec) (ds : Declarators) → Alike (List Member) (members_declared env xs at s ds) (members_declared env xs to (unplaced_spec s) (unplaced_declarators ds))
declarators_alike env xs at to s no_declarators = alike (fine [])
declarators_alike env xs at to s (more_declarators d ds) =
    joined_alike (members_declared env (with_option (name_of d) xs) at s ds) (members_declared env (with_option (name_of (unplaced_declarator d)) xs) to (unplaced_spec s) (unplaced_declarators ds)) (λ m ms. m ∷ ms)
    (member_alike env xs at to s d)
    (λ _ _. subst (λ ys. Alike (List Member) (members_declared env (with_option (name_of d) xs) at s ds) (members_declared env ys to (unplaced_spec s) (unplaced_declarators ds))) (sym (behind_name_same d xs)) (declarators_alike env (with_option (name_of d) xs) at to s ds))

members_alike : (env : Env) (xs : List Name) (ms : Members) → Alike (List Member) (members env xs ms) (members env xs (unplaced_members ms))
members_alike env xs no_members = alike (fine [])
members_alike env xs (more_members at s ds rest) =
    joined_alike (members env (names_behind xs ds) rest) (members env (names_behind xs (unplaced_declarators ds)) (unplaced_members rest)) (λ ms others. ms ++ others)
    (declarators_alike env xs at 0 s ds)
    (λ _ _. subst (λ ys. Alike (List Member) (members env (names_behind xs ds) rest) (members env ys (unplaced_members rest))) (sym (names_behind_same xs ds)) (members_alike env (names_behind xs ds) rest))

struct_laid_alike : (env : Env) (x : Ident) (ms : List Member) → Alike Struct (struct_laid env x ms) (struct_laid env (unplaced_ident x) ms)
struct_laid_alike env x ms =
    gives_alike (λ _. defined_struct ms) (and_alike (demand_alike (nat_le (length ms) most_members) C13 x.at 0 met) (demand_alike (nat_le (cells_of_all (layout_of env) (map type_of_member ms)) most_cells) C13 x.at 0 met))

new_struct_alike : (env : Env) (x : Ident) → Alike Met (new_struct env x) (new_struct env (unplaced_ident x))
new_struct_alike env x =
    and_alike (free_tag_alike env x) (demand_alike (is_incomplete (struct_of env (tag_number env x.name)) && not (is_among env.enums x.name)) C2 x.at 0 met)

struct_alike : (env : Env) (x : Ident) (ms : Members) → Alike Struct (struct_definition env x ms) (struct_definition env (unplaced_ident x) (unplaced_members ms))
struct_alike env x ms =
    joined_alike (on (members env [] ms) (struct_laid env x)) (on (members env [] (unplaced_members ms)) (struct_laid env (unplaced_ident x))) (λ _ s. s) (new_struct_alike env x)
    (λ _ _. on_alike (struct_laid env x) (struct_laid env (unplaced_ident x)) (members_alike env [] ms) (λ ms _. struct_laid_alike env x ms))

struct_same : (r s : Checked Struct) (a : Struct) → Alike Struct r s → r ≡ fine a → struct_or_unknown r ≡ struct_or_unknown s
struct_same r s a h e = ap struct_or_unknown e ∙ sym (ap struct_or_unknown (fine_there a h e))

tag_alike : (env : Env) (x : Ident) → Alike Met (tag_declaration env x) (tag_declaration env (unplaced_ident x))
tag_alike env x = and_alike (free_tag_alike env x) (demand_alike (not (is_among env.enums x.name)) C2 x.at 0 met)

-- ## Enums

int_value_alike : (at to : ℕ) (z : ℤ) → Alike ℤ (int_value at z) (int_value to z)
int_value_alike at to z = demand_alike (fits_int z) C6 at to z

enumerator_value_alike : (env : Env) (r s : Checked ℤ) → Alike ℤ r s → (x : Ident) (m : Maybe) → Alike ℤ (enumerator_value env r x m) (enumerator_value env s (unplaced_ident x) (unplaced_maybe m))
enumerator_value_alike env r s h x absent = on_alike (int_value x.at) (int_value 0) h (λ z _. int_value_alike x.at 0 z)
enumerator_value_alike env r s h x (there e) =
    on_alike (λ v. int_value (place_of e) (number_of v)) (λ v. int_value (place_of (unplaced e)) (number_of v))
    (on_alike (constant_value (place_of e)) (constant_value (place_of (unplaced e))) (folded_alike env e) (λ g _. constant_alike (place_of e) (place_of (unplaced e)) g))
    (λ v _. int_value_alike (place_of e) (place_of (unplaced e)) (number_of v))

one_more_alike : (r s : Checked ℤ) → Alike ℤ r s → Alike ℤ (one_more_than r) (one_more_than s)
one_more_alike (fine z) (fine w) h = subst (λ (y : Checked ℤ). Alike ℤ (fine (z +ℤ pos 1)) (one_more_than y)) (sym h.forth.0) (alike (fine (z +ℤ pos 1)))
one_more_alike (fine z) (faulty f fs) h = let no : faulty f fs ≡ fine z = h.forth.0 in cc
one_more_alike (faulty f fs) (fine z) h = let no : faulty f fs ≡ fine z = h.back.0 in cc
one_more_alike (faulty f fs) (faulty g gs) h = record { forth = tt; back = tt }

enumerator_alike : (env : Env) (x : Ident) (r s : Checked ℤ) → Alike ℤ r s → Alike Meaning (enumerator_meaning env x r) (enumerator_meaning env (unplaced_ident x) s)
enumerator_alike env x r s h = joined_alike r s (λ _ z. an_enumerator z) (new_alike env x) (λ _ _. h)

behind_enumerator_same : (env : Env) (x : Ident) (r s : Checked ℤ) (m : Meaning) → Alike ℤ r s → enumerator_meaning env x r ≡ fine m → behind_enumerator env x r ≡ behind_enumerator env (unplaced_ident x) s
behind_enumerator_same env x r s m h e = ap (with_name env x.name) (meaning_same (enumerator_meaning env x r) (enumerator_meaning env (unplaced_ident x) s) m (enumerator_alike env x r s h) e)

enumerators_alike : (env : Env) (p q : Checked ℤ) → Alike ℤ p q → (es : Enumerators) → Alike Met (enumerators env p es) (enumerators env q (unplaced_enumerators es))
enumerators_alike env p q h no_enumerators = alike (fine met)
enumerators_alike env p q h (more_enumerators x m es) =
    let r : Checked ℤ = enumerator_value env p x m in
    let s : Checked ℤ = enumerator_value env q (unplaced_ident x) (unplaced_maybe m) in
    let k : Alike ℤ r s = enumerator_value_alike env p q h x m in
    joined_alike (enumerators (behind_enumerator env x r) (one_more_than r) es) (enumerators (behind_enumerator env (unplaced_ident x) s) (one_more_than s) (unplaced_enumerators es)) (λ _ _. met)
    (enumerator_alike env x r s k)
    (λ a e. subst (λ y. Alike Met (enumerators (behind_enumerator env x r) (one_more_than r) es) (enumerators y (one_more_than s) (unplaced_enumerators es))) (behind_enumerator_same env x r s a k e)
    (enumerators_alike (behind_enumerator env x r) (one_more_than r) (one_more_than s) (one_more_alike r s k) es))

behind_enumerators_same : (env : Env) (p q : Checked ℤ) → Alike ℤ p q → (es : Enumerators) (a : Met) → enumerators env p es ≡ fine a → behind_enumerators env p es ≡ behind_enumerators env q (unplaced_enumerators es)
behind_enumerators_same env p q h no_enumerators a e = refl
behind_enumerators_same env p q h (more_enumerators x m es) a e =
    let r : Checked ℤ = enumerator_value env p x m in
    let s : Checked ℤ = enumerator_value env q (unplaced_ident x) (unplaced_maybe m) in
    let k : Alike ℤ r s = enumerator_value_alike env p q h x m in
    let f = first_fine (enumerator_meaning env x r) (enumerators (behind_enumerator env x r) (one_more_than r) es) (λ _ _. fine met) a e in
    behind_enumerators_same (behind_enumerator env x r) (one_more_than r) (one_more_than s) (one_more_alike r s k) es f.1 f.3
    ∙ ap (λ y. behind_enumerators y (one_more_than s) (unplaced_enumerators es)) (behind_enumerator_same env x r s f.0 k f.2)

enum_alike : (env : Env) (x : Tag) (ts : List Name) → Alike Met (new_enum env x ts) (new_enum env (unplaced_tag x) ts)
enum_alike env no_tag ts = alike (fine met)
enum_alike env (tag x) ts = and_alike (free_tag_alike env x) (demand_alike (not (is_among env.enums x.name) && (not (is_among env.tags x.name) && not (is_among ts x.name))) C2 x.at 0 met)

enum_tag_same : (env : Env) (x : Tag) → behind_enum_tag env (unplaced_tag x) ≡ behind_enum_tag env x
enum_tag_same env no_tag = refl
enum_tag_same env (tag x) = refl

-- ## Objects at file scope

pub defines_same : (class : Storage) (m : MaybeInit) → defines class (unplaced_maybe_init m) ≡ defines class m
defines_same extern no_init = refl
defines_same class m = refl

object_name_alike : (env : Env) (defined : Bool) (x : Ident) (t : CType) → Alike Met (object_name env defined x t) (object_name env defined (unplaced_ident x) t)
object_name_alike env defined x t =
    and_alike (demand_alike (may_be_declared env.whole.mode x.name) C12 x.at 0 met)
    (and_alike (demand_alike (not (is_among (given_names env.whole.mode) x.name)) C11 x.at 0 met) (demand_alike (may_follow_object defined t (declared_here env x.name)) C2 x.at 0 met))

few_static_alike : (env : Env) (defined : Bool) (b c : Before) → c ≡ b → (x : Ident) (t : CType) → Alike Met (few_static env defined b x t) (few_static env defined c (unplaced_ident x) t)
few_static_alike env false b c h x t = alike (fine met)
few_static_alike env true b c h x t =
    subst (λ y. Alike Met (few_static env true b x t) (few_static env true y (unplaced_ident x) t)) (sym h) (demand_alike (nat_le (b.cells + cells (layout_of env) t) most_static_cells) C13 x.at 0 met)

global_object_alike : (env : Env) (defined : Bool) (b c : Before) → c ≡ b → (x : Ident) (o : Object) → Alike Object (global_object env defined b x o) (global_object env defined c (unplaced_ident x) o)
global_object_alike env defined b c h x o = gives_alike (λ _. o) (and_alike (object_name_alike env defined x o.whole) (few_static_alike env defined b c h x o.whole))

global_declared_alike : (env : Env) (defined : Bool) (b c : Before) → c ≡ b → (at to : ℕ) (s : Spec) (d : Declarator) (x : Ident) (m : MaybeInit) → Alike Object (global_declared env defined b at s d x m) (global_declared env defined c to (unplaced_spec s) (unplaced_declarator d) (unplaced_ident x) (unplaced_maybe_init m))
global_declared_alike env defined b c h at to s d x m =
    on_alike (global_object env defined b x) (global_object env defined c (unplaced_ident x)) (declared_object_alike env at to s d x m) (λ o _. global_object_alike env defined b c h x o)

-- behind an object that is fine, with any type of it
meant_global_same : (env : Env) (seen : Object → CType) (defined : Bool) (x : Ident) (r s : Checked Object) (o : Object) → Alike Object r s → r ≡ fine o
    → with_name env x.name (meaning_or_unknown (gives r (λ o. a_static (seen o) o.whole (is_defined_by defined (declared_here env x.name))))) ≡ with_name env x.name (meaning_or_unknown (gives s (λ o. a_static (seen o) o.whole (is_defined_by defined (declared_here env x.name)))))
meant_global_same env seen defined x r s o h e =
    let f : Object → Meaning = λ o. a_static (seen o) o.whole (is_defined_by defined (declared_here env x.name)) in
    ap (with_name env x.name) (meaning_same (gives r f) (gives s f) (f o) (gives_alike f h) (ap (λ y. gives y f) e))

definition_alike : (env : Env) (b c : Before) → c ≡ b → (m : MaybeInit) (o : Object) → Alike Output (definition_of env b m o) (definition_of env c (unplaced_maybe_init m) o)
definition_alike env b c h m o = gives_alike (static_of o) (static_init_alike env (after_object env b o.whole) (after_object env c o.whole) (ap (λ y. after_object env y o.whole) h) o.whole m)

global_alike : (env : Env) (defined : Bool) (b c : Before) → c ≡ b → (x : Ident) (m : MaybeInit) (r s : Checked Object) → Alike Object r s → Alike Output (global env defined b x m r) (global env defined c (unplaced_ident x) (unplaced_maybe_init m) s)
global_alike env false b c h x m r s g = gives_alike (λ _. no_output) g
global_alike env true b c h x m r s g =
    on_alike (definition_of (within_global env true x r) b m) (definition_of (within_global env true (unplaced_ident x) s) c (unplaced_maybe_init m)) g
    (λ o e. subst (λ y. Alike Output (definition_of (within_global env true x r) b m o) (definition_of y c (unplaced_maybe_init m) o)) (meant_global_same env (λ o. o.seen) true x r s o g e) (definition_alike (within_global env true x r) b c h m o))

without_init_alike : (m : MaybeInit) → Alike Met (without_init m) (without_init (unplaced_maybe_init m))
without_init_alike no_init = alike (fine met)
without_init_alike (an_init (one at e)) = fault_alike C14 at 0
without_init_alike (an_init (list at is)) = fault_alike C14 at 0

prototype_alike : (m : MaybeInit) (r s : Checked Meaning) → Alike Meaning r s → Alike Output (prototype m r) (prototype (unplaced_maybe_init m) s)
prototype_alike m r s h = joined_alike (without_init m) (without_init (unplaced_maybe_init m)) (λ _ _. no_output) h (λ _ _. without_init_alike m)

-- ## Declarators at file scope

module _ (env : Env) (b c : Before) (h : c ≡ b) (at to : ℕ) (class : Storage) (s : Spec) (d : Declarator) (m : MaybeInit) where
  abbrev spec' : Spec
  spec' = unplaced_spec s

  abbrev declarator' : Declarator
  declarator' = unplaced_declarator d

  abbrev init' : MaybeInit
  init' = unplaced_maybe_init m

  declared_part_alike : (function : Bool) (x : Ident) → Alike Output (declared_part env b at class s d m function x) (declared_part env c to class spec' declarator' init' function (unplaced_ident x))
  declared_part_alike true x = prototype_alike m (function_declared env false at s d x) (function_declared env false to spec' declarator' (unplaced_ident x)) (function_declared_alike env false at to s d x)
  declared_part_alike false x =
      subst (λ t. Alike Output (declared_part env b at class s d m false x) (global env t c (unplaced_ident x) init' (global_declared env t c to spec' declarator' (unplaced_ident x) init'))) (sym (defines_same class m))
      (global_alike env (defines class m) b c h x m (global_declared env (defines class m) b at s d x m) (global_declared env (defines class m) c to spec' declarator' (unplaced_ident x) init') (global_declared_alike env (defines class m) b c h at to s d x m))

  option_alike : (x : Option Ident) → Alike Output (named_part env b at class s d m x) (named_part env c to class spec' declarator' init' (unplaced_name x))
  option_alike None = fault_alike C3 (place_or at d) (place_or to declarator')
  option_alike (Some x) =
      subst (λ t. Alike Output (declared_part env b at class s d m (declares_function d) x) (declared_part env c to class spec' declarator' init' t (unplaced_ident x))) (sym (declares_same d)) (declared_part_alike (declares_function d) x)

  pub part_alike : Alike Output (named_part env b at class s d m (name_of d)) (named_part env c to class spec' declarator' init' (name_of declarator'))
  part_alike = subst (λ x. Alike Output (named_part env b at class s d m (name_of d)) (named_part env c to class spec' declarator' init' x)) (sym (name_same d)) (option_alike (name_of d))

  behind_declared_same : (function : Bool) (x : Ident) (p : Output) → declared_part env b at class s d m function x ≡ fine p → behind_declared env b at class s d m function x ≡ behind_declared env c to class spec' declarator' init' function (unplaced_ident x)
  behind_declared_same true x p e =
      let r : Checked Meaning = function_declared env false at s d x in
      let f = first_fine r (without_init m) (λ _ _. fine no_output) p e in
      behind_function_same env x.name r (function_declared env false to spec' declarator' (unplaced_ident x)) f.0 (function_declared_alike env false at to s d x) f.2
  behind_declared_same false x p e =
      let r : Checked Object = global_declared env (defines class m) b at s d x m in
      let f = global_fine env (defines class m) b x m r p e in
      meant_global_same env (λ o. o.whole) (defines class m) x r (global_declared env (defines class m) c to spec' declarator' (unplaced_ident x) init') f.0 (global_declared_alike env (defines class m) b c h at to s d x m) f.1
      ∙ ap (λ t. behind_global env t (unplaced_ident x) (global_declared env t c to spec' declarator' (unplaced_ident x) init')) (sym (defines_same class m))

  behind_option_same : (x : Option Ident) (p : Output) → named_part env b at class s d m x ≡ fine p → behind_named_part env b at class s d m x ≡ behind_named_part env c to class spec' declarator' init' (unplaced_name x)
  behind_option_same None p e = refl
  behind_option_same (Some x) p e =
      behind_declared_same (declares_function d) x p e ∙ ap (λ t. behind_declared env c to class spec' declarator' init' t (unplaced_ident x)) (sym (declares_same d))

  pub behind_part_same : (p : Output) → named_part env b at class s d m (name_of d) ≡ fine p → behind_file_part env b at class s d m ≡ behind_file_part env c to class spec' declarator' init'
  behind_part_same p e = behind_option_same (name_of d) p e ∙ ap (behind_named_part env c to class spec' declarator' init') (sym (name_same d))

  after_global_same : (r q : Checked Object) → Alike Object r q → after_global env c init' q ≡ after_global env b m r
  after_global_same (fine o) q g =
      ap (after_global env c init') g.forth.0
      ∙ past_same (after_object env b o.whole) (after_object env c o.whole) (calls_of_maybe_init init') (calls_of_maybe_init m) (held_by env o.whole init') (held_by env o.whole m) (ap (λ y. after_object env y o.whole) h) (maybe_init_calls_same m) (held_by_same env o.whole m)
  after_global_same (faulty f fs) (faulty g gs) k = h
  after_global_same (faulty f fs) (fine o) k = let no : faulty f fs ≡ fine o = k.back.0 in cc

  after_declared_same : (t : Bool) (x : Option Ident) → after_declared env c to spec' declarator' init' t (unplaced_name x) ≡ after_declared env b at s d m t x
  after_declared_same true (Some x) = after_global_same (object_declared env at s d x m) (object_declared env to spec' declarator' (unplaced_ident x) init') (declared_object_alike env at to s d x m)
  after_declared_same t x = h

  pub after_part_same : after_file_part env c to class spec' declarator' init' ≡ after_file_part env b at class s d m
  after_part_same =
      ap₂ (λ t x. after_declared env c to spec' declarator' init' t x) (ap₂ (λ u v. not u && v) (declares_same d) (defines_same class m)) (name_same d)
      ∙ after_declared_same (not (declares_function d) && defines class m) (name_of d)

parts_alike : (env : Env) (b c : Before) → c ≡ b → (at to : ℕ) (class : Storage) (s : Spec) (ps : Parts) → Alike Output (file_parts env b at class s ps) (file_parts env c to class (unplaced_spec s) (unplaced_parts ps))
parts_alike env b c h at to class s no_parts = alike (fine no_output)
parts_alike env b c h at to class s (more_parts d m ps) =
    let t : Spec = unplaced_spec s in let e : Declarator = unplaced_declarator d in let i : MaybeInit = unplaced_maybe_init m in
    let rest : Checked Output = file_parts (behind_file_part env b at class s d m) (after_file_part env b at class s d m) at class s ps in
    joined_alike rest (file_parts (behind_file_part env c to class t e i) (after_file_part env c to class t e i) to class t (unplaced_parts ps)) (λ p q. with_output p q)
    (part_alike env b c h at to class s d m)
    (λ p f. subst (λ y. Alike Output rest (file_parts y (after_file_part env c to class t e i) to class t (unplaced_parts ps))) (behind_part_same env b c h at to class s d m p f)
    (parts_alike (behind_file_part env b at class s d m) (after_file_part env b at class s d m) (after_file_part env c to class t e i) (after_part_same env b c h at to class s d m) at to class s ps))

behind_parts_same : (env : Env) (b c : Before) → c ≡ b → (at to : ℕ) (class : Storage) (s : Spec) (ps : Parts) (p : Output) → file_parts env b at class s ps ≡ fine p
    → (behind_file_parts env b at class s ps ≡ behind_file_parts env c to class (unplaced_spec s) (unplaced_parts ps)) × (after_file_parts env c to class (unplaced_spec s) (unplaced_parts ps) ≡ after_file_parts env b at class s ps)
behind_parts_same env b c h at to class s no_parts p e = (refl, h)
behind_parts_same env b c h at to class s (more_parts d m ps) p e =
    let f = first_fine (named_part env b at class s d m (name_of d)) (file_parts (behind_file_part env b at class s d m) (after_file_part env b at class s d m) at class s ps) (λ p q. fine (with_output p q)) p e in
    let c1 : Before = after_file_part env c to class (unplaced_spec s) (unplaced_declarator d) (unplaced_maybe_init m) in
    let q = behind_part_same env b c h at to class s d m f.0 f.2 in
    let k = behind_parts_same (behind_file_part env b at class s d m) (after_file_part env b at class s d m) c1 (after_part_same env b c h at to class s d m) at to class s ps f.1 f.3 in
    (k.0 ∙ ap (λ y. behind_file_parts y c1 to class (unplaced_spec s) (unplaced_parts ps)) q, ap (λ y. after_file_parts y c1 to class (unplaced_spec s) (unplaced_parts ps)) (sym q) ∙ k.1)

-- ## Definitions of functions

module _ (env : Env) (b c : Before) (h : c ≡ b) (at to : ℕ) (s : Spec) (d : Declarator) (body : Stmt) where
  abbrev spec₁ : Spec
  spec₁ = unplaced_spec s

  abbrev declarator₁ : Declarator
  declarator₁ = unplaced_declarator d

  behind_defined_same : (x : Ident) (m : Meaning) → function_declared env true at s d x ≡ fine m → behind_defined env at s d x ≡ behind_defined env to spec₁ declarator₁ (unplaced_ident x)
  behind_defined_same x m e = behind_function_same env x.name (function_declared env true at s d x) (function_declared env true to spec₁ declarator₁ (unplaced_ident x)) m (function_declared_alike env true at to s d x) e

  function_option_alike : (function : Bool) (x : Option Ident) → Alike Output (function_named env b at s d body function x) (function_named env c to spec₁ declarator₁ (unplaced_stmt body) function (unplaced_name x))
  function_option_alike true (Some x) =
      let made : Env = behind_defined env at s d x in
      let other : Env = behind_defined env to spec₁ declarator₁ (unplaced_ident x) in
      let is : BlockItems = items_of_body body in
      joined_alike (on (type_declared env at s d) (defined_as made b (place_or at d) d x is)) (on (type_declared env to spec₁ declarator₁) (defined_as other c (place_or to declarator₁) declarator₁ (unplaced_ident x) (items_of_body (unplaced_stmt body))))
      (λ _ f. output_of_function f) (function_declared_alike env true at to s d x)
      (λ m e. on_alike (defined_as made b (place_or at d) d x is) (defined_as other c (place_or to declarator₁) declarator₁ (unplaced_ident x) (items_of_body (unplaced_stmt body))) (type_declared_alike env at to s d)
      (λ t _. subst (λ y. Alike Function (defined_as made b (place_or at d) d x is t) (defined_as y c (place_or to declarator₁) declarator₁ (unplaced_ident x) (items_of_body (unplaced_stmt body)) t)) (behind_defined_same x m e)
      (subst (λ ks. Alike Function (defined_as made b (place_or at d) d x is t) (defined_as made c (place_or to declarator₁) declarator₁ (unplaced_ident x) ks t)) (sym (body_items_same body))
      (defined_alike made b c h (place_or at d) (place_or to declarator₁) d x is t))))
  function_option_alike function x = fault_alike C3 (place_or at d) (place_or to declarator₁)

  pub function_alike : Alike Output (function_named env b at s d body (declares_function d) (name_of d)) (function_named env c to spec₁ declarator₁ (unplaced_stmt body) (declares_function declarator₁) (name_of declarator₁))
  function_alike =
      subst (λ t. Alike Output (function_named env b at s d body (declares_function d) (name_of d)) (function_named env c to spec₁ declarator₁ (unplaced_stmt body) t (name_of declarator₁))) (sym (declares_same d))
      (subst (λ x. Alike Output (function_named env b at s d body (declares_function d) (name_of d)) (function_named env c to spec₁ declarator₁ (unplaced_stmt body) (declares_function d) x)) (sym (name_same d)) (function_option_alike (declares_function d) (name_of d)))

  -- behind a definition that is fine
  behind_named_same : (function : Bool) (x : Option Ident) (p : Output) → function_named env b at s d body function x ≡ fine p → behind_function_named env at s d x ≡ behind_function_named env to spec₁ declarator₁ (unplaced_name x)
  behind_named_same true (Some x) p e =
      let f = first_fine (function_declared env true at s d x) (on (type_declared env at s d) (defined_as (behind_defined env at s d x) b (place_or at d) d x (items_of_body body))) (λ _ f. fine (output_of_function f)) p e in
      behind_defined_same x f.0 f.2
  behind_named_same false (Some x) p e = let no : function_named env b at s d body false (Some x) ≡ fine p = e in cc
  behind_named_same function x p e = refl

  pub behind_function_fine : (p : Output) → function_named env b at s d body (declares_function d) (name_of d) ≡ fine p → behind_function_named env at s d (name_of d) ≡ behind_function_named env to spec₁ declarator₁ (name_of declarator₁)
  behind_function_fine p e = behind_named_same (declares_function d) (name_of d) p e ∙ ap (behind_function_named env to spec₁ declarator₁) (sym (name_same d))

  -- the strings that its body holds
  held_typed_same : (at' to' : ℕ) (made : Env) (x : Ident) (r q : Checked CType) (g : Function) → Alike CType r q → on r (defined_as made b at' d x (items_of_body body)) ≡ fine g
      → held_by_typed made declarator₁ (unplaced_block_items (items_of_body body)) q ≡ held_by_typed made d (items_of_body body) r
  held_typed_same at' to' made x (fine t) q g k e =
      ap (held_by_typed made declarator₁ (unplaced_block_items (items_of_body body))) k.forth.0 ∙ held_same made b at' d x (items_of_body body) t g e
  held_typed_same at' to' made x (faulty f fs) q g k e = let no : faulty f fs ≡ fine g = e in cc

  held_option_same : (function : Bool) (x : Option Ident) (p : Output) → function_named env b at s d body function x ≡ fine p
      → held_by_typed (behind_function_named env to spec₁ declarator₁ (unplaced_name x)) declarator₁ (unplaced_block_items (items_of_body body)) (type_declared env to spec₁ declarator₁)
      ≡ held_by_typed (behind_function_named env at s d x) d (items_of_body body) (type_declared env at s d)
  held_option_same true (Some x) p e =
      let made : Env = behind_defined env at s d x in
      let f = first_fine (function_declared env true at s d x) (on (type_declared env at s d) (defined_as made b (place_or at d) d x (items_of_body body))) (λ _ f. fine (output_of_function f)) p e in
      ap (λ y. held_by_typed y declarator₁ (unplaced_block_items (items_of_body body)) (type_declared env to spec₁ declarator₁)) (sym (behind_defined_same x f.0 f.2))
      ∙ held_typed_same (place_or at d) (place_or to declarator₁) made x (type_declared env at s d) (type_declared env to spec₁ declarator₁) f.1 (type_declared_alike env at to s d) f.3
  held_option_same function x p e = let no : function_named env b at s d body function x ≡ fine p = e in cc

  pub after_function_same : (p : Output) → function_named env b at s d body (declares_function d) (name_of d) ≡ fine p → after_function env c to spec₁ declarator₁ (unplaced_stmt body) ≡ after_function env b at s d body
  after_function_same p e =
      past_same b c (calls_of_block (items_of_body (unplaced_stmt body))) (calls_of_block (items_of_body body))
      (held_by_typed (behind_function_named env to spec₁ declarator₁ (name_of declarator₁)) declarator₁ (items_of_body (unplaced_stmt body)) (type_declared env to spec₁ declarator₁))
      (held_by_typed (behind_function_named env at s d (name_of d)) d (items_of_body body) (type_declared env at s d)) h
      (ap calls_of_block (body_items_same body) ∙ (block_same (items_of_body body)).0)
      (ap₂ (λ x ks. held_by_typed (behind_function_named env to spec₁ declarator₁ x) declarator₁ ks (type_declared env to spec₁ declarator₁)) (name_same d) (body_items_same body)
      ∙ held_option_same (declares_function d) (name_of d) p e)

-- ## Items

item_alike : (env : Env) (b c : Before) → c ≡ b → (i : Item) → Alike Output (item env b i) (item env c (unplaced_item i))
item_alike env b c h (struct_item at x ms) = gives_alike (λ _. no_output) (struct_alike env x ms)
item_alike env b c h (enum_item at x es) =
    joined_alike (enumerators env (fine (pos 0)) es) (enumerators env (fine (pos 0)) (unplaced_enumerators es)) (λ _ _. no_output)
    (subst (λ ts. Alike Met (new_enum env x (tags_of_enumerators es)) (new_enum env (unplaced_tag x) ts)) (sym (item_tags false (enum_item at x es))) (enum_alike env x (tags_of_enumerators es)))
    (λ _ _. enumerators_alike env (fine (pos 0)) (fine (pos 0)) (alike (fine (pos 0))) es)
item_alike env b c h (tag_item at x) = gives_alike (λ _. no_output) (tag_alike env x)
item_alike env b c h (decl_item at (decl here class s ps)) = parts_alike env b c h here 0 class s ps
item_alike env b c h (function_item at class s d body) = function_alike env b c h at 0 s d body

behind_form_same : (env : Env) (b c : Before) → c ≡ b → (i : Item) (p : Output) → item env b i ≡ fine p → behind_by_form env b i ≡ behind_by_form env c (unplaced_item i)
behind_form_same env b c h (struct_item at x ms) p e =
    let f = on_fine (struct_definition env x ms) (λ _. fine no_output) p e in
    ap (with_struct env x.name) (struct_same (struct_definition env x ms) (struct_definition env (unplaced_ident x) (unplaced_members ms)) f.0 (struct_alike env x ms) f.1)
behind_form_same env b c h (enum_item at x es) p e =
    let f = first_fine (new_enum env x (tags_of_enumerators es)) (enumerators env (fine (pos 0)) es) (λ _ _. fine no_output) p e in
    ap (λ y. behind_enum_tag y x) (behind_enumerators_same env (fine (pos 0)) (fine (pos 0)) (alike (fine (pos 0))) es f.1 f.3)
    ∙ sym (enum_tag_same (behind_enumerators env (fine (pos 0)) (unplaced_enumerators es)) x)
behind_form_same env b c h (tag_item at x) p e = refl
behind_form_same env b c h (decl_item at (decl here class s ps)) p e = (behind_parts_same env b c h here 0 class s ps p e).0
behind_form_same env b c h (function_item at class s d body) p e = behind_function_fine env b c h at 0 s d body p e

behind_item_same : (env : Env) (b c : Before) → c ≡ b → (i : Item) (p : Output) → item env b i ≡ fine p → behind_item env b i ≡ behind_item env c (unplaced_item i)
behind_item_same env b c h i p e =
    ap₂ (λ (y : Env) (w : List Name). record y { tags = w ++ y.tags }) (behind_form_same env b c h i p e) (sym (item_tags false i))

after_item_same : (env : Env) (b c : Before) → c ≡ b → (i : Item) (p : Output) → item env b i ≡ fine p → after_item env c (unplaced_item i) ≡ after_item env b i
after_item_same env b c h (decl_item at (decl here class s ps)) p e = (behind_parts_same env b c h here 0 class s ps p e).1
after_item_same env b c h (function_item at class s d body) p e = after_function_same env b c h at 0 s d body p e
after_item_same env b c h i p e = h

pub items_alike : (env : Env) (b c : Before) → c ≡ b → (u : Items) → Alike Output (items env b u) (items env c (unplaced_unit u))
items_alike env b c h no_items = alike (fine no_output)
items_alike env b c h (more_items i is) =
    let rest : Checked Output = items (behind_item env b i) (after_item env b i) is in
    let c1 : Before = after_item env c (unplaced_item i) in
    joined_alike rest (items (behind_item env c (unplaced_item i)) c1 (unplaced_unit is)) (λ p q. with_output p q) (item_alike env b c h i)
    (λ p f. subst (λ y. Alike Output rest (items y c1 (unplaced_unit is))) (behind_item_same env b c h i p f)
    (items_alike (behind_item env b i) (after_item env b i) c1 (after_item_same env b c h i p f) is))

pub behind_items_same : (env : Env) (b c : Before) → c ≡ b → (u : Items) (p : Output) → items env b u ≡ fine p
    → (behind_items env b u ≡ behind_items env c (unplaced_unit u)) × (after_items env c (unplaced_unit u) ≡ after_items env b u)
behind_items_same env b c h no_items p e = (refl, h)
behind_items_same env b c h (more_items i is) p e =
    let f = first_fine (item env b i) (items (behind_item env b i) (after_item env b i) is) (λ p q. fine (with_output p q)) p e in
    let c1 : Before = after_item env c (unplaced_item i) in
    let q = behind_item_same env b c h i f.0 f.2 in
    let k = behind_items_same (behind_item env b i) (after_item env b i) c1 (after_item_same env b c h i f.0 f.2) is f.1 f.3 in
    (k.0 ∙ ap (λ y. behind_items y c1 (unplaced_unit is)) q, ap (λ y. after_items y c1 (unplaced_unit is)) (sym q) ∙ k.1)
