-- Which functions the items of a unit that is fine define.
use Rattle.std.proofs.Common.{◌≡◌, ◌⊎◌, inl, inr, ℕ, ◌≤◌, ℤ, pos, Bool, true, false, not, ◌&&◌, if◌then◌else◌, cond, List, [], ◌∷◌, Option, Some, None, refl, ap, sym, subst, ◌∙◌, arith, ◌++◌}
use Rattle.std.specs.Prelude.{is_some, bytes_eq}
use Rattle.std.proofs.lemmas.Slice.Eq.{bytes_eq-Decides}
use Rattle.dm_base.specs.declared.mode.Mode.{Mode}
use Rattle.dm_base.specs.declared.mode.Mode.TheVariants.{Plain, Instrumented}
use Rattle.c_tree.specs.Tree.{CType, Function}
use Rattle.c_syntax.specs.Tree.{Ident, Storage, Spec, Declarator, MaybeInit, Parts, no_parts, more_parts, decl, Stmt, Enumerators, no_enumerators, more_enumerators, Tag, no_tag, tag, Item, struct_item, enum_item, tag_item, decl_item, function_item, Items, no_items, more_items, BlockItems}
use Rattle.c_rules.specs.Checked.{Checked, fine, faulty, on, both, Met}
use Rattle.c_rules.specs.Limits.{most_functions}
use Rattle.c_rules.specs.Names.{Name, is_among, number_among, given_names}
use Rattle.c_rules.specs.Types.{same_type}
use Rattle.c_rules.specs.Scopes.{Env, Binding, Meaning, a_static, a_function, an_enumerator, lookup, at_depth, declared_here, with_struct, meaning_or_unknown, Before, Struct}
use Rattle.c_rules.specs.Declarators.{name_of, place_or, new_name}
use Rattle.c_rules.specs.Expressions.{type_declared}
use Rattle.c_rules.specs.Objects.{Object, object_declared}
use Rattle.c_rules.specs.Variables.{name_or_empty, calls_of_block}
use Rattle.c_rules.specs.Functions.{declares_function, given_as, is_as_given, may_follow_function, is_defined_by, behind_function, function_declared, items_of_body, defined_as, held_by_typed, held_by_type, function_meaning}
use Rattle.c_rules.specs.Items.{Output, no_output, with_output, without_init, output_of_function, defines, struct_definition, struct_or_unknown, enumerator_value, one_more_than, enumerator_meaning, behind_enumerator, behind_enumerators, behind_enum_tag, global_declared, meaning_of_global, declared_part, named_part, behind_declared, behind_named_part, behind_file_part, after_file_part, file_parts, behind_file_parts, behind_defined, function_named, behind_function_named, item, behind_by_form, behind_item, after_item, items, behind_items, global, within_global, definition_of, after_declared, after_global, after_file_parts, after_items, new_enum, enumerators, tag_declaration, behind_global, static_of, after_object}
use Rattle.c_rules.specs.Units.{functions_of_item, functions_of, objects_of_parts, objects_of_item, objects_of}
use Rattle.c_rules_laws.specs.Lexical.{IsUnitLexical, IsNamed, IsMaybeInitLexical, ArePartsLexical, IsStmtLexical, IsItemLexical}
use Rattle.c_rules_laws.proofs.Holding.{held, first_fine, and_right, on_fine, fine_same}
use Rattle.c_rules_laws.proofs.FileScopes.{IsFileRight}
use Rattle.c_rules.proofs.ModeItems.{same_object}
use Rattle.c_rules_laws.proofs.FileItems.{IsFunctionDeclared, function_declared_right, form_step, tags_step, Step, step_self, step_on, IsObjectNamed, object_named, part_step, definition_step, here_is, IsFunctionNamed, function_meant}
use Rattle.c_rules_laws.proofs.DistinctNames.{itself, among_first, new_kept, new_there, new_few}
use Rattle.c_rules_laws.proofs.DefinedNames.{IsDefined, Defines, defines_both, nothing_both, nothing_same, newest_or_older, IsNoFunction, static_no_function, enumerator_no_function, unknown_no_function, nothing_named, nothing_new}
use Rattle.c_rules.specs.Tags.{tags_of_enumerators}
use Rattle.dm_base.specs.Name.{IsName}
use Rattle.c_rules.specs.Counts.{past}
use Rattle.c_rules.proofs.NothingMore.{nothing_more}
use Rattle.c_rules.specs.TypedExpression.{TypedExpression}
use Rattle.c_rules.specs.Initialisers.{initialised_static}

-- ## Enumerators and objects

enumerator_means : (n : Checked Met) (r : Checked ℤ) → IsNoFunction (meaning_or_unknown (both n r (λ _ z. fine (an_enumerator z))))
enumerator_means (fine a) (fine z) = enumerator_no_function z
enumerator_means (fine a) (faulty f fs) = unknown_no_function f fs
enumerator_means (faulty f fs) r = unknown_no_function f _

enumerators_define : (es : Enumerators) (env : Env) (before : Checked ℤ) → Defines env (behind_enumerators env before es) []
enumerators_define no_enumerators env before = nothing_same env env refl refl
enumerators_define (more_enumerators x m es) env before =
    let r : Checked ℤ = enumerator_value env before x m in
    let inner : Env = behind_enumerator env x r in
    nothing_both env inner (behind_enumerators inner (one_more_than r) es) (nothing_named env x.name (meaning_or_unknown (enumerator_meaning env x r)) (enumerator_means (new_name env x) r)) (enumerators_define es inner (one_more_than r))

tag_defines : (env : Env) (x : Tag) → Defines env (behind_enum_tag env x) []
tag_defines env no_tag = nothing_same env env refl refl
tag_defines env (tag x) = nothing_same env (behind_enum_tag env (tag x)) refl refl

object_means : (env : Env) (defined : Bool) (x : Ident) (r : Checked Object) → IsNoFunction (meaning_or_unknown (meaning_of_global env defined x r))
object_means env defined x (fine o) = static_no_function o.whole o.whole (is_defined_by defined (declared_here env x.name))
object_means env defined x (faulty f fs) = unknown_no_function f fs

-- ## Functions

-- what is defined behind a declaration that is no definition was so before it
defined_before : (env : Env) → IsFileRight env → (x : Name) (t : CType) → may_follow_function false t (declared_here env x) ≡ true → is_defined_by false (declared_here env x) ≡ true → IsDefined env.names x
defined_before env w x t f d = by_lookup (lookup env.names x) refl f d
  where
    by_meaning : (b : Binding) → lookup env.names x ≡ Some b → (m : Meaning) → b.means ≡ m → may_follow_function false t (Some m) ≡ true → is_defined_by false (Some m) ≡ true → IsDefined env.names x
    by_meaning b e (a_function u was) q f d = (b, u, e, q ∙ ap (a_function u) d)
    by_meaning b e m q f d = absurd (cc)

    by_lookup : (o : Option Binding) → lookup env.names x ≡ o → may_follow_function false t (at_depth env.depth o) ≡ true → is_defined_by false (at_depth env.depth o) ≡ true → IsDefined env.names x
    by_lookup None e f d = absurd (cc)
    by_lookup (Some b) e f d =
        let here : at_depth env.depth (Some b) ≡ Some b.means = ap (at_depth env.depth) (sym e) ∙ here_is env w x b e in
        by_meaning b e b.means refl (subst (λ o. may_follow_function false t o ≡ true) here f) (subst (λ o. is_defined_by false o ≡ true) here d)

defined_flag : (t u : CType) (d : Bool) → a_function t d ≡ a_function u true → d ≡ true
defined_flag t u d e = cc

most_within : (m : Mode) → most_functions m ≤ 4098
most_within Plain = omega arith
most_within Instrumented = omega arith

module _ (env : Env) (w : IsFileRight env) (x : Ident) (r : Checked Meaning) (m : Meaning) (e : r ≡ fine m) where
  -- the newest declaration
  abbrev new : Binding
  new = record { name = x.name; depth = env.depth; means = meaning_or_unknown r }

  prototype_defines : IsFunctionDeclared env false x m → Defines env (behind_function env x.name r) []
  prototype_defines h =
      nothing_new env (behind_function env x.name r) (λ y d. older y d (newest_or_older (bytes_eq x.name y) new (lookup env.names y) d.0 d.2)) (λ y k. new_kept env.functions x.name y k)
      (λ l. new_few env.functions x.name (most_functions env.whole.mode) 4098 (most_within env.whole.mode) l h.named.few)
    where
      older : (y : Name) (d : IsDefined (behind_function env x.name r).names y) → ((bytes_eq x.name y ≡ true) × (d.0 ≡ new)) ⊎ (lookup env.names y ≡ Some d.0) → IsDefined env.names y
      older y d (inl q) =
          let means : meaning_or_unknown r ≡ a_function d.1 true = sym (ap (λ b. b.means) q.1) ∙ d.3 in
          let same : a_function h.type (is_defined_by false (declared_here env x.name)) ≡ a_function d.1 true = sym (ap meaning_or_unknown e ∙ h.named.is) ∙ means in
          subst (IsDefined env.names) ((bytes_eq-Decides x.name y).0 q.0) (defined_before env w x.name h.type h.named.follows (defined_flag h.type d.1 (is_defined_by false (declared_here env x.name)) same))
      older y d (inr q) = (d.0, d.1, q, d.3)

-- a definition
pub defined_true : (o : Option Meaning) → is_defined_by true o ≡ true
defined_true (Some (a_static s t d)) = refl
defined_true o = refl

-- it was not defined before
not_before : (env : Env) → IsFileRight env → (x : Name) (t : CType) → may_follow_function true t (declared_here env x) ≡ true → IsDefined env.names x → ⊥
not_before env w x t f d =
    let same : declared_here env x ≡ Some (a_function d.1 true) = here_is env w x d.0 d.2 ∙ ap Some d.3 in
    let q : (same_type t d.1 && not (true && true)) ≡ true = subst (λ o. may_follow_function true t o ≡ true) same f in
    let no : false ≡ true = and_right (same_type t d.1) (not (true && true)) q in
    cc

-- and is no system call
no_given : (env : Env) (x : Name) (t : CType) → is_as_given env true x t ≡ true → is_among (given_names env.whole.mode) x ≡ false
no_given env x t h = by_number (number_among (given_names env.whole.mode) x) h
  where
    by_number : (o : Option ℕ) → given_as env true t o ≡ true → is_some o ≡ false
    by_number None h = refl
    by_number (Some i) h = absurd (let q : false ≡ true = h in cc)

module _ (env : Env) (w : IsFileRight env) (x : Ident) (r : Checked Meaning) (m : Meaning) (e : r ≡ fine m) (h : IsFunctionDeclared env true x m) where
  abbrev newest : Binding
  newest = record { name = x.name; depth = env.depth; means = meaning_or_unknown r }

  found : lookup (behind_function env x.name r).names x.name ≡ Some newest
  found = ap (λ b. cond b (Some (record { name = x.name; depth = env.depth; means = meaning_or_unknown r })) (lookup env.names x.name)) (itself x.name)

  means_function : newest.means ≡ a_function h.type true
  means_function = ap meaning_or_unknown e ∙ (h.named.is ∙ ap (a_function h.type) (defined_true (declared_here env x.name)))

  definition_defines : Defines env (behind_function env x.name r) (x.name ∷ [])
  definition_defines = record {
    fresh = (not_before env w x.name h.type h.named.follows, tt);
    differ = (tt, tt);
    defined = ((newest, h.type, found, means_function), tt);
    only = λ y d. older y d (newest_or_older (bytes_eq x.name y) (record { name = x.name; depth = env.depth; means = meaning_or_unknown r }) (lookup env.names y) d.0 d.2);
    listed = λ y k. new_kept env.functions x.name y k;
    own = (new_there env.functions x.name, tt);
    few = λ l. new_few env.functions x.name (most_functions env.whole.mode) 4098 (most_within env.whole.mode) l h.named.few;
    apart = (no_given env x.name h.type h.named.given, tt);
  }
    where
      older : (y : Name) (d : IsDefined (behind_function env x.name r).names y) → ((bytes_eq x.name y ≡ true) × (d.0 ≡ record { name = x.name; depth = env.depth; means = meaning_or_unknown r })) ⊎ (lookup env.names y ≡ Some d.0) → IsDefined env.names y ⊎ (is_among (x.name ∷ []) y ≡ true)
      older y d (inl q) = inr (among_first x.name y [] q.0)
      older y d (inr q) = inl (d.0, d.1, q, d.3)

-- ## Items

-- What items that are fine give, part by part: the scopes before and behind them, what stands before and behind them, what they give, and the
-- names of the functions and of the objects that they define.
pub data Gives : Env → Before → Env → Before → Output → List Name → List Name → Type 0 where
  starts : {env : Env} {b : Before} → IsFileRight env → Gives env b env b no_output [] []
  declares : {env middle inner : Env} {b a : Before} {q : Output} {xs ys : List Name} → Gives env b middle a q xs ys → Step middle inner → Defines middle inner [] → Gives env b inner a q xs ys
  an_object : {env : Env} {b : Before} (x : Ident) (m : MaybeInit) (o : Object) (gs : List TypedExpression) → IsFileRight env → IsMaybeInitLexical m → IsObjectNamed env true b x o
      → initialised_static (within_global env true x (fine o)) (after_object (within_global env true x (fine o)) b o.whole) o.whole m ≡ fine gs → Step env (behind_global env true x (fine o))
      → Gives env b (behind_global env true x (fine o)) (after_global env b m (fine o)) (static_of o gs) [] (x.name ∷ [])
  a_definition : {env : Env} {b : Before} (at : ℕ) (s : Spec) (d : Declarator) (body : Stmt) (x : Ident) (m : Meaning) (u : CType) (f : Function) → IsFileRight env → IsName x.name → IsStmtLexical body → declares_function d ≡ true → function_declared env true at s d x ≡ fine m
      → type_declared env at s d ≡ fine u → IsFunctionNamed env true x u m → defined_as (behind_defined env at s d x) b (place_or at d) d x (items_of_body body) u ≡ fine f → Step env (behind_defined env at s d x)
      → Gives env b (behind_defined env at s d x) (past b (calls_of_block (items_of_body body)) (held_by_type (behind_defined env at s d x) d (items_of_body body) u)) (output_of_function f) (x.name ∷ []) []
  one_and_more : {env middle inner : Env} {b c a : Before} {q r : Output} {xs ys zs ws : List Name} → Gives env b middle c q xs ys → Gives middle c inner a r zs ws → Gives env b inner a (with_output q r) (xs ++ zs) (ys ++ ws)

pub gives_step : {env inner : Env} {b a : Before} {q : Output} {xs ys : List Name} → Gives env b inner a q xs ys → Step env inner
gives_step (starts {env = e} w) = step_self e w
gives_step {env} {inner} (declares {middle = c} h s d) = step_on env c inner (gives_step h) s
gives_step (an_object x m o gs w l n f s) = s
gives_step (a_definition at s d body x m u f w n l k c e h g t) = t
gives_step {env} {inner} (one_and_more {middle = c} h k) = step_on env c inner (gives_step h) (gives_step k)

-- a declaration that gives nothing
nothing_given : (env inner : Env) (b : Before) (q : Output) → IsFileRight env → Step env inner → Defines env inner [] → fine no_output ≡ fine q → Gives env b inner b q [] []
nothing_given env inner b q w s d e = subst (λ q. Gives env b inner b q [] []) (fine_same no_output q e) (declares (starts w) s d)

part_gives : (env : Env) → IsFileRight env → (b : Before) (at : ℕ) (class : Storage) (s : Spec) (d : Declarator) (m : MaybeInit) (o : Option Ident) (q : Output) → IsMaybeInitLexical m → named_part env b at class s d m o ≡ fine q
    → Gives env b (behind_named_part env b at class s d m o) (after_declared env b at s d m (not (declares_function d) && defines class m) o) q [] (if not (declares_function d) && defines class m then name_or_empty o ∷ [] else [])
part_gives env w b at class s d m None q l e = absurd (cc)
part_gives env w b at class s d m (Some x) q l e = by_kind (declares_function d) (defines class m) refl refl e (part_step env b at class s d m (Some x) q w e)
  where
    r : Checked Object
    r = global_declared env (defines class m) b at s d x m

    by_object : (k : Bool) → defines class m ≡ k → global env k b x m r ≡ fine q → Step env (behind_global env k x r) → Gives env b (behind_global env k x r) (after_declared env b at s d m k (Some x)) q [] (if k then x.name ∷ [] else [])
    by_object false n e z = (let i = on_fine r (λ _. fine no_output) q e in nothing_given env (behind_global env false x r) b q w z (nothing_named env x.name (meaning_or_unknown (meaning_of_global env false x r)) (object_means env false x r)) i.2)
    by_object true n e z =
        let i = on_fine r (definition_of (within_global env true x r) b m) q e in
        let o : Object = i.0 in
        let inner : Env = within_global env true x (fine o) in
        let named : IsObjectNamed env (defines class m) b x o = held (IsObjectNamed env (defines class m) b x) r o (object_named env (defines class m) b at s d x m) i.1 in
        let declared : object_declared env at s d x m ≡ fine o = same_object env (defines class m) b at s d x m o i.1 in
        let j = on_fine (initialised_static inner (after_object inner b o.whole) o.whole m) (λ gs. fine (static_of o gs)) q (subst (λ y. definition_of (within_global env true x y) b m o ≡ fine q) i.1 i.2) in
        subst (λ y. Gives env b (behind_global env true x r) (after_global env b m y) q [] (x.name ∷ [])) (sym declared)
        (subst (λ y. Gives env b (behind_global env true x y) (after_global env b m (fine o)) q [] (x.name ∷ [])) (sym i.1)
        (subst (λ p. Gives env b (behind_global env true x (fine o)) (after_global env b m (fine o)) p [] (x.name ∷ [])) (fine_same (static_of o j.0) q j.2)
        (an_object x m o j.0 w l (subst (λ k. IsObjectNamed env k b x o) n named) j.1 (subst (λ y. Step env (behind_global env true x y)) i.1 z))))

    by_kind : (f k : Bool) → declares_function d ≡ f → defines class m ≡ k → declared_part env b at class s d m f x ≡ fine q → Step env (behind_declared env b at class s d m f x) → Gives env b (behind_declared env b at class s d m f x) (after_declared env b at s d m (not f && k) (Some x)) q [] (if not f && k then x.name ∷ [] else [])
    by_kind true k g n e z =
        let t : Checked Meaning = function_declared env false at s d x in
        let i = first_fine t (without_init m) (λ _ _. fine no_output) q e in
        nothing_given env (behind_function env x.name t) b q w z (prototype_defines env w x t i.0 i.2 (held (IsFunctionDeclared env false x) t i.0 (function_declared_right env false x at s d g) i.2)) i.4
    by_kind false k g n e z =
        subst (λ y. Gives env b (behind_global env y x r) (after_declared env b at s d m k (Some x)) q [] (if k then x.name ∷ [] else [])) (sym n)
        (by_object k n (subst (λ y. global env y b x m r ≡ fine q) n e) (subst (λ y. Step env (behind_global env y x r)) n z))

names_joined : (k : Bool) (x : Name) (xs : List Name) → (if k then x ∷ [] else []) ++ xs ≡ (if k then x ∷ xs else xs)
names_joined true x xs = refl
names_joined false x xs = refl

parts_give : (ps : Parts) (env : Env) → IsFileRight env → (b : Before) (at : ℕ) (class : Storage) (s : Spec) (q : Output) → ArePartsLexical ps → file_parts env b at class s ps ≡ fine q → Gives env b (behind_file_parts env b at class s ps) (after_file_parts env b at class s ps) q [] (objects_of_parts class ps)
parts_give no_parts env w b at class s q l e = nothing_given env env b q w (step_self env w) (nothing_same env env refl refl) e
parts_give (more_parts d m ps) env w b at class s q l e =
    let inner : Env = behind_file_part env b at class s d m in
    let after : Before = after_file_part env b at class s d m in
    let i = first_fine (named_part env b at class s d m (name_of d)) (file_parts inner after at class s ps) (λ p q. fine (with_output p q)) q e in
    let h = part_gives env w b at class s d m (name_of d) i.0 l.0 i.2 in
    subst (λ ys. Gives env b (behind_file_parts inner after at class s ps) (after_file_parts inner after at class s ps) q [] ys) (names_joined (not (declares_function d) && defines class m) (name_or_empty (name_of d)) (objects_of_parts class ps))
    (subst (λ p. Gives env b (behind_file_parts inner after at class s ps) (after_file_parts inner after at class s ps) p [] ((if not (declares_function d) && defines class m then name_or_empty (name_of d) ∷ [] else []) ++ objects_of_parts class ps)) (fine_same (with_output i.0 i.1) q i.4)
    (one_and_more h (parts_give ps inner (gives_step h).0 after at class s i.1 l.1 i.3)))

definition_gives : (env : Env) → IsFileRight env → (b : Before) (at : ℕ) (s : Spec) (d : Declarator) (body : Stmt) (o : Option Ident) (q : Output) (k : Bool) → declares_function d ≡ k → IsNamed o → IsStmtLexical body → function_named env b at s d body k o ≡ fine q
    → Gives env b (behind_function_named env at s d o) (past b (calls_of_block (items_of_body body)) (held_by_typed (behind_function_named env at s d o) d (items_of_body body) (type_declared env at s d))) q (name_or_empty o ∷ []) []
definition_gives env w b at s d body (Some x) q true k n l e =
    let is : BlockItems = items_of_body body in
    let inner : Env = behind_defined env at s d x in
    let i = first_fine (function_declared env true at s d x) (on (type_declared env at s d) (defined_as inner b (place_or at d) d x is)) (λ _ f. fine (output_of_function f)) q e in
    let j = on_fine (type_declared env at s d) (function_meaning env true x) i.0 i.2 in
    let h = on_fine (type_declared env at s d) (defined_as inner b (place_or at d) d x is) i.1 i.3 in
    let same : j.0 ≡ h.0 = fine_same j.0 h.0 (sym j.1 ∙ h.1) in
    let named : IsFunctionNamed env true x h.0 i.0 = held (IsFunctionNamed env true x h.0) (function_meaning env true x h.0) i.0 (function_meant env true x h.0) (subst (λ t. function_meaning env true x t ≡ fine i.0) same j.2) in
    subst (λ r. Gives env b inner (past b (calls_of_block is) (held_by_typed inner d is r)) q (x.name ∷ []) []) (sym h.1)
    (subst (λ p. Gives env b inner (past b (calls_of_block is) (held_by_type inner d is h.0)) p (x.name ∷ []) []) (fine_same (output_of_function i.1) q i.4)
    (a_definition at s d body x i.0 h.0 i.1 w n l k i.2 h.1 named h.2 (definition_step env b at s d body (Some x) q true k w e)))
definition_gives env w b at s d body o q false k n l e = absurd (cc)
definition_gives env w b at s d body None q true k n l e = absurd (cc)

form_gives : (i : Item) (env : Env) → IsFileRight env → (b : Before) (q : Output) → IsItemLexical i → item env b i ≡ fine q → Gives env b (behind_by_form env b i) (after_item env b i) q (functions_of_item i) (objects_of_item i)
form_gives (struct_item at x ms) env w b q l e =
    let t : Checked Struct = struct_definition env x ms in
    let i = on_fine t (λ _. fine no_output) q e in
    let inner : Env = with_struct env x.name (struct_or_unknown t) in
    nothing_given env inner b q w (form_step (struct_item at x ms) env b q w l e) (nothing_same env inner refl refl) i.2
form_gives (enum_item at x es) env w b q l e =
    let i = first_fine (new_enum env x (tags_of_enumerators es)) (enumerators env (fine (pos 0)) es) (λ _ _. fine no_output) q e in
    let inner : Env = behind_enumerators env (fine (pos 0)) es in
    nothing_given env (behind_enum_tag inner x) b q w (form_step (enum_item at x es) env b q w l e) (nothing_both env inner (behind_enum_tag inner x) (enumerators_define es env (fine (pos 0))) (tag_defines inner x)) i.4
form_gives (tag_item at x) env w b q l e = (let i = on_fine (tag_declaration env x) (λ _. fine no_output) q e in nothing_given env env b q w (step_self env w) (nothing_same env env refl refl) i.2)
form_gives (decl_item at (decl here class s ps)) env w b q l e = parts_give ps env w b here class s q l e
form_gives (function_item at class s d body) env w b q l e = definition_gives env w b at s d body (name_of d) q (declares_function d) refl l.0 l.1 e

pub items_give : (is : Items) (env : Env) → IsFileRight env → (b : Before) (q : Output) → IsUnitLexical is → items env b is ≡ fine q → Gives env b (behind_items env b is) (after_items env b is) q (functions_of is) (objects_of is)
items_give no_items env w b q l e = nothing_given env env b q w (step_self env w) (nothing_same env env refl refl) e
items_give (more_items i is) env w b q l e =
    let middle : Env = behind_by_form env b i in
    let inner : Env = behind_item env b i in
    let after : Before = after_item env b i in
    let f = first_fine (item env b i) (items inner after is) (λ p q. fine (with_output p q)) q e in
    let h = form_gives i env w b f.0 l.0 f.2 in
    let tags = tags_step middle i (gives_step h).0 in
    subst (λ p. Gives env b (behind_items inner after is) (after_items inner after is) p (functions_of_item i ++ functions_of is) (objects_of_item i ++ objects_of is)) (fine_same (with_output f.0 f.1) q f.4)
    (one_and_more (declares h tags (nothing_same middle inner refl refl)) (items_give is inner tags.0 after f.1 l.1 f.3))

-- the functions that they define
pub gives_defined : {env inner : Env} {b a : Before} {q : Output} {xs ys : List Name} → Gives env b inner a q xs ys → Defines env inner xs
gives_defined (starts {env = e} w) = nothing_same e e refl refl
gives_defined {env} {inner} {xs = xs} (declares {middle = c} h s d) = subst (Defines env inner) (nothing_more xs) (defines_both env c inner xs [] (gives_step h).1 s.1 (gives_defined h) d)
gives_defined {env} (an_object x m o gs w l n f s) = nothing_named env x.name (meaning_or_unknown (meaning_of_global env true x (fine o))) (object_means env true x (fine o))
gives_defined {env} (a_definition at s d body x m u f w n l k c e h g t) =
    definition_defines env w x (function_declared env true at s d x) m c (held (IsFunctionDeclared env true x) (function_declared env true at s d x) m (function_declared_right env true x at s d k) c)
gives_defined {env} {inner} (one_and_more {middle = c} {xs = xs} {zs = zs} h k) = defines_both env c inner xs zs (gives_step h).1 (gives_step k).1 (gives_defined h) (gives_defined k)
