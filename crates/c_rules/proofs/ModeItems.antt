-- Items and units in the two modes.
use Rattle.std.proofs.Common.{◌≡◌, ℕ, ℤ, pos, Bool, true, false, not, ◌&&◌, List, [], ◌∷◌, ◌++◌, map, Option, Some, None, refl, ap, sym, subst, ◌∙◌, codes}
use Rattle.c_tree.specs.Mode.TheVariants.{Plain, Instrumented}
use Rattle.c_tree.specs.Tree.{CType, Program}
use Rattle.c_syntax.specs.Tree.{Ident, Storage, Spec, Declarator, MaybeInit, Parts, no_parts, more_parts, decl, Maybe, absent, there, Declarators, no_declarators, more_declarators, Members, no_members, more_members, Enumerators, no_enumerators, more_enumerators}
use Rattle.c_syntax.specs.Tree.{Tag, no_tag, tag, Stmt, BlockItems, Item, struct_item, enum_item, tag_item, decl_item, function_item, Items, no_items, more_items}
use Rattle.c_rules.specs.Checked.{Checked, fine, faulty, on, demand, and_also, met}
use Rattle.c_rules.specs.Codes.{C2, C11, C12, C9}
use Rattle.c_rules.specs.Names.{Name, is_among, is_reserved, given_names, may_be_declared, number_among}
use Rattle.c_rules.specs.Scopes.{Env, Meaning, meaning_or_unknown, a_static, an_enumerator, Struct, Before, layout_of, struct_of, tag_number, declared_here, with_name, with_struct, nothing_before, binding_of}
use Rattle.c_rules.specs.Counts.{place_of, past}
use Rattle.c_rules.specs.Declarators.{name_of, place_or, constant_value, new_name}
use Rattle.c_rules.specs.Expressions.{type_declared, folded_value}
use Rattle.c_rules.specs.Initialisers.{calls_of_maybe_init, held_by, initialised_static}
use Rattle.c_rules.specs.Objects.{Object, object_declared}
use Rattle.c_rules.specs.Tags.{tags_of_enumerators}
use Rattle.c_rules.specs.Variables.{calls_of_block}
use Rattle.c_rules.specs.Functions.{declares_function, held_by_typed, is_defined_by, function_declared, items_of_body, defined_as}
use Rattle.c_rules.specs.Items.{Output, no_output, with_output, free_tag, member_typed, new_member, member_named, member_declared, with_option, names_behind, members_declared, members, struct_laid, is_incomplete, new_struct, struct_definition, struct_or_unknown, tag_declaration, int_value, enumerator_value, one_more_than, enumerator_meaning, behind_enumerator, enumerators, behind_enumerators, new_enum, behind_enum_tag, defines, may_follow_object, object_name, few_static, global_object, global_declared, behind_global, within_global, static_of, after_object, definition_of, global, without_init, declared_part, named_part, behind_declared, behind_named_part, behind_file_part, after_global, after_declared, after_file_part, file_parts, behind_file_parts, after_file_parts, output_of_function, behind_defined, function_named, behind_function_named, item, with_tags, behind_item, after_item, items, behind_items, after_items}
use Rattle.std.specs.Prelude.{unwrap_or}
use Rattle.c_tree.specs.Layout.{Structs}
use Rattle.c_rules.specs.Units.{env_before, env_behind, is_main_bound, has_main, strings_of, static_string, functions_of, program_of, IsTyped}
use Rattle.c_rules.proofs.CheckedLemmas.{items_fine, names_fine, items_typed}
use Rattle.c_rules.proofs.Modes.{fact, Leads, LeadsTo, same_leads, fine_leads, with_fact, without, on_leads, then_leads, both_leads, gives_leads, demand_leads, and_also_leads, first_fine, on_fine, demand_met, in_mode, MeanAlike, More, Alike, alike, twin_alike, Twin, twin, named_twin, leads_twin, twin_same}
use Rattle.c_rules.proofs.ModeNames.{left, right, here_same, unreserved, may_more, name_leads, given_leads, new_name_leads, new_name_plain}
use Rattle.c_rules.proofs.ModeExpressions.{type_declared_leads}
use Rattle.c_rules.proofs.ModeBlocks.{parts_to, both_to, weaken, always, moved, static_init_leads, object_leads, held_same}
use Rattle.c_rules.proofs.ModeStatements.{folded_leads}
use Rattle.c_rules.proofs.ModeFunctions.{declared_twin, function_twin, definition_leads}

-- ## Structs

tag_leads : (env : Env) (v : More) (x : Ident) → Leads (free_tag (left env) x) (free_tag (right env v) x)
tag_leads env v x = demand_leads _ _ 12 x.at met (may_more x.name)

member_leads : (e f : Env) → Alike e f → (earlier : List Name) (at : ℕ) (s : Spec) (d : Declarator) → Leads (member_declared e earlier at s d) (member_declared f earlier at s d)
member_leads e f (alike env v p l) earlier at s d = by_name (name_of d)
  where
    by_name : (n : Option Ident) → Leads (member_named (left env) earlier at s d n) (member_named (right env v) earlier at s d n)
    by_name None = tt
    by_name (Some x) =
        both_leads (new_member (left env) earlier x) (new_member (right env v) earlier x) (on (type_declared (left env) at s d) (member_typed (left env) (place_or at d) x.at)) (on (type_declared (right env v) at s d) (member_typed (right env v) (place_or at d) x.at)) (λ _ t. fine (record { name = x.name; ctype = t })) (λ _ t. fine (record { name = x.name; ctype = t }))
        (and_also_leads _ _ _ _ (tag_leads env v x) (same_leads (demand (not (is_among earlier x.name)) C2 x.at met))) (λ _ _. then_leads (type_declared (left env) at s d) (type_declared (right env v) at s d) (member_typed (left env) (place_or at d) x.at) (type_declared_leads _ _ (alike env v p l) at s d)) (λ _ t. (refl, tt))

declarators_lead : (e f : Env) → Alike e f → (earlier : List Name) (at : ℕ) (s : Spec) (ds : Declarators) → Leads (members_declared e earlier at s ds) (members_declared f earlier at s ds)
declarators_lead e f w earlier at s no_declarators = (refl, tt)
declarators_lead e f w earlier at s (more_declarators d ds) =
    both_leads (member_declared e earlier at s d) (member_declared f earlier at s d) (members_declared e (with_option (name_of d) earlier) at s ds) (members_declared f (with_option (name_of d) earlier) at s ds) (λ m ms. fine (m ∷ ms)) (λ m ms. fine (m ∷ ms))
    (member_leads e f w earlier at s d) (λ _ _. declarators_lead e f w (with_option (name_of d) earlier) at s ds) (λ m ms. (refl, tt))

members_lead : (e f : Env) → Alike e f → (earlier : List Name) (ms : Members) → Leads (members e earlier ms) (members f earlier ms)
members_lead e f w earlier no_members = (refl, tt)
members_lead e f w earlier (more_members at s ds rest) =
    both_leads (members_declared e earlier at s ds) (members_declared f earlier at s ds) (members e (names_behind earlier ds) rest) (members f (names_behind earlier ds) rest) (λ ms others. fine (ms ++ others)) (λ ms others. fine (ms ++ others))
    (declarators_lead e f w earlier at s ds) (λ _ _. members_lead e f w (names_behind earlier ds) rest) (λ ms others. (refl, tt))

pub struct_leads : (e f : Env) → Alike e f → (x : Ident) (ms : Members) → Leads (struct_definition e x ms) (struct_definition f x ms)
struct_leads e f (alike env v p l) x ms =
    both_leads (new_struct (left env) x) (new_struct (right env v) x) (on (members (left env) [] ms) (struct_laid (left env) x)) (on (members (right env v) [] ms) (struct_laid (right env v) x)) (λ _ s. fine s) (λ _ s. fine s)
    (and_also_leads _ _ _ _ (tag_leads env v x) (same_leads (demand (is_incomplete (struct_of env (tag_number env x.name)) && not (is_among env.enums x.name)) C2 x.at met)))
    (λ _ _. then_leads (members (left env) [] ms) (members (right env v) [] ms) (struct_laid (left env) x) (members_lead _ _ (alike env v p l) [] ms)) (λ _ s. (refl, tt))

struct_twin : (e f : Env) → Twin e f → (x : Ident) (ms : Members) (s : Struct) → struct_definition e x ms ≡ fine s → Twin (with_struct e x.name (struct_or_unknown (struct_definition e x ms))) (with_struct f x.name (struct_or_unknown (struct_definition f x ms)))
struct_twin e f (twin env p) x ms s g =
    leads_twin (λ y. with_struct (left env) x.name (struct_or_unknown y)) (λ y. with_struct (in_mode Instrumented env) x.name (struct_or_unknown y)) _ _ s (struct_leads _ _ (twin_alike _ _ (twin env p)) x ms) g (twin (with_struct env x.name s) p)

pub tag_declaration_leads : (e f : Env) → Alike e f → (x : Ident) → Leads (tag_declaration e x) (tag_declaration f x)
tag_declaration_leads e f (alike env v p l) x = and_also_leads _ _ _ _ (tag_leads env v x) (same_leads (demand (not (is_among env.enums x.name)) C2 x.at met))

behind_name : (e f : Env) → Twin e f → (x : Name) (r s : Checked Meaning) (m : Meaning) → is_reserved x ≡ false → r ≡ fine m → s ≡ fine m → Twin (with_name e x (meaning_or_unknown r)) (with_name f x (meaning_or_unknown s))
behind_name e f (twin env p) x r s m u g h = named_twin env x r s m p u g h

-- ## Enums

not_both : (a b c d : Bool) → (c ≡ true → b ≡ true) → (not a && (not b && d)) ≡ true → (not a && (not c && d)) ≡ true
not_both true b c d h e = e
not_both false true c d h e = cc
not_both false false true d h e = let k : false ≡ true = h refl in cc
not_both false false false d h e = e

-- where the tags that stand before on the right stand before on the left
pub new_enum_leads : (e f : Env) → Alike e f → ((x : Name) → is_among f.tags x ≡ true → is_among e.tags x ≡ true) → (t : Tag) (ts : List Name) → Leads (new_enum e t ts) (new_enum f t ts)
new_enum_leads e f (alike env v p l) h no_tag ts = (refl, tt)
new_enum_leads e f (alike env v p l) h (tag x) ts =
    and_also_leads _ _ _ _ (tag_leads env v x)
    (demand_leads (not (is_among env.enums x.name) && (not (is_among env.tags x.name) && not (is_among ts x.name))) (not (is_among env.enums x.name) && (not (is_among v.tags x.name) && not (is_among ts x.name))) C2 x.at met
    (not_both (is_among env.enums x.name) (is_among env.tags x.name) (is_among v.tags x.name) (not (is_among ts x.name)) (h x.name)))

enum_tag_twin : (e f : Env) → Twin e f → (t : Tag) → Twin (behind_enum_tag e t) (behind_enum_tag f t)
enum_tag_twin e f (twin env p) no_tag = twin env p
enum_tag_twin e f (twin env p) (tag x) = twin (behind_enum_tag env (tag x)) p

enumerator_value_leads : (e f : Env) → Alike e f → (r s : Checked ℤ) → Leads r s → (x : Ident) (m : Maybe) → Leads (enumerator_value e r x m) (enumerator_value f s x m)
enumerator_value_leads e f w r s h x absent = then_leads r s (int_value x.at) h
enumerator_value_leads e f w r s h x (there y) =
    on_leads _ _ _ _ (then_leads (folded_value e y) (folded_value f y) (constant_value (place_of y)) (folded_leads e f w y)) (λ v _. same_leads _)

pub one_more_leads : (r s : Checked ℤ) → Leads r s → Leads (one_more_than r) (one_more_than s)
one_more_leads (fine z) s h = (ap one_more_than h.0, tt)
one_more_leads (faulty f fs) s h = tt

enumerator_meaning_leads : (e f : Env) → Alike e f → (x : Ident) (q t : Checked ℤ) → Leads q t → Leads (enumerator_meaning e x q) (enumerator_meaning f x t)
enumerator_meaning_leads e f (alike env v p l) x q t h = both_leads (new_name (left env) x) (new_name (right env v) x) q t (λ _ z. fine (an_enumerator z)) (λ _ z. fine (an_enumerator z)) (new_name_leads env v l x) (λ _ _. h) (λ _ z. (refl, tt))

enumerator_plain : (e f : Env) → Alike e f → (x : Ident) (q : Checked ℤ) (a : Meaning) → enumerator_meaning e x q ≡ fine a → is_reserved x.name ≡ false
enumerator_plain e f (alike env v p l) x q a g = let u = first_fine (new_name (left env) x) q (λ _ z. fine (an_enumerator z)) a g in new_name_plain env x u.0 u.2

-- behind enumerators the scopes are related as before, where they are so behind each name that has the same meaning in both
pub enumerators_lead : (R : Env → Env → Type 0) → ((e f : Env) → R e f → Alike e f)
    → ((e f : Env) → R e f → (x : Name) (r s : Checked Meaning) (m : Meaning) → is_reserved x ≡ false → r ≡ fine m → s ≡ fine m → R (with_name e x (meaning_or_unknown r)) (with_name f x (meaning_or_unknown s)))
    → (es : Enumerators) (e f : Env) → R e f → (r s : Checked ℤ) → Leads r s → LeadsTo (R (behind_enumerators e r es) (behind_enumerators f s es)) (enumerators e r es) (enumerators f s es)
enumerators_lead R are named no_enumerators e f w r s h = (refl, w)
enumerators_lead R are named (more_enumerators x m es) e f w r s h =
    let q : Checked ℤ = enumerator_value e r x m in
    let t : Checked ℤ = enumerator_value f s x m in
    let v : Leads q t = enumerator_value_leads e f (are e f w) r s h x m in
    let k : Leads (enumerator_meaning e x q) (enumerator_meaning f x t) = enumerator_meaning_leads e f (are e f w) x q t v in
    parts_to (R (behind_enumerator e x q) (behind_enumerator f x t)) (R (behind_enumerators (behind_enumerator e x q) (one_more_than q) es) (behind_enumerators (behind_enumerator f x t) (one_more_than t) es)) _
    (enumerator_meaning e x q) (enumerator_meaning f x t) (enumerators (behind_enumerator e x q) (one_more_than q) es) (enumerators (behind_enumerator f x t) (one_more_than t) es) (λ _ _. fine met) (λ _ y. y)
    (with_fact _ _ _ k (λ a g. named e f w x.name (enumerator_meaning e x q) (enumerator_meaning f x t) a (enumerator_plain e f (are e f w) x q a g) g (fine_leads _ _ a k g)))
    (λ y. enumerators_lead R are named es (behind_enumerator e x q) (behind_enumerator f x t) y (one_more_than q) (one_more_than t) (one_more_leads q t v))

-- ## Static objects

object_name_leads : (env : Env) (v : More) → MeanAlike env.names v.names → (d : Bool) (x : Ident) (t : CType) → Leads (object_name (left env) d x t) (object_name (right env v) d x t)
object_name_leads env v l d x t =
    name_leads x.name x.at _ _ (λ u. and_also_leads _ _ _ _ (given_leads x u)
    (subst (λ h. Leads (demand (may_follow_object d t (declared_here (left env) x.name)) C2 x.at met) (demand (may_follow_object d t h) C2 x.at met)) (sym (here_same env v l x.name u)) (same_leads _)))

few_leads : (env : Env) (v : More) (d : Bool) (b : Before) (n : ℕ) (x : Ident) (t : CType) → Leads (few_static (left env) d b x t) (few_static (right env v) d (record b { sites = n }) x t)
few_leads env v false b n x t = (refl, tt)
few_leads env v true b n x t = same_leads (few_static (left env) true b x t)

-- however many calls stand before it
pub global_declared_leads : (e f : Env) → Alike e f → (d : Bool) (b : Before) (n at : ℕ) (s : Spec) (p : Declarator) (x : Ident) (m : MaybeInit) → Leads (global_declared e d b at s p x m) (global_declared f d (record b { sites = n }) at s p x m)
global_declared_leads e f (alike env v p l) d b n at s c x m =
    on_leads (object_declared (left env) at s c x m) (object_declared (right env v) at s c x m) (global_object (left env) d b x) (global_object (right env v) d (record b { sites = n }) x) (object_leads _ _ (alike env v p l) at s c x m)
    (λ o _. gives_leads _ _ (λ _. o) (and_also_leads _ _ _ _ (object_name_leads env v l d x o.whole) (few_leads env v d b n x o.whole)))

pub global_plain : (env : Env) (d : Bool) (b : Before) (at : ℕ) (s : Spec) (p : Declarator) (x : Ident) (m : MaybeInit) (o : Object) → global_declared (left env) d b at s p x m ≡ fine o → is_reserved x.name ≡ false
global_plain env d b at s p x m o g =
    let k = on_fine (object_declared (left env) at s p x m) (global_object (left env) d b x) o g in
    let l = on_fine (and_also (object_name (left env) d x k.0.whole) (few_static (left env) d b x k.0.whole)) (λ _. fine k.0) o k.2 in
    let n = first_fine (object_name (left env) d x k.0.whole) (few_static (left env) d b x k.0.whole) (λ _ _. fine met) l.0 l.1 in
    let i = first_fine (demand (may_be_declared Plain x.name) C12 x.at met) (and_also (demand (not (is_among (given_names Plain) x.name)) C11 x.at met) (demand (may_follow_object d k.0.whole (declared_here env x.name)) C2 x.at met)) (λ _ _. fine met) n.0 n.2 in
    unreserved x.name (demand_met _ 12 x.at met i.0 i.2)

-- an object of which only its declaration is asked has the type that its declarator gives
pub same_object : (e : Env) (d : Bool) (b : Before) (at : ℕ) (s : Spec) (p : Declarator) (x : Ident) (m : MaybeInit) (o : Object) → global_declared e d b at s p x m ≡ fine o → object_declared e at s p x m ≡ fine o
same_object e d b at s p x m o g =
    let k = on_fine (object_declared e at s p x m) (global_object e d b x) o g in
    let l = on_fine (and_also (object_name e d x k.0.whole) (few_static e d b x k.0.whole)) (λ _. fine k.0) o k.2 in
    k.1 ∙ l.2

static_leads : (e f : Env) → Twin e f → (b : Before) (m : MaybeInit) (o : Object) → Leads (definition_of e b m o) (definition_of f b m o)
static_leads e f w b m o =
    gives_leads _ _ (static_of o) (moved (Unit {0}) _ (λ y. initialised_static f y o.whole m) (after_object e b o.whole) (after_object f b o.whole) (twin_same (λ y. after_object y b o.whole) (λ _. refl) e f w) (static_init_leads e f (twin_alike e f w) (after_object e b o.whole) o.whole m))

global_leads : (e f : Env) → Twin e f → (d : Bool) (b : Before) (at : ℕ) (s : Spec) (p : Declarator) (x : Ident) (m : MaybeInit) → Leads (global e d b x m (global_declared e d b at s p x m)) (global f d b x m (global_declared f d b at s p x m))
global_leads e f w false b at s p x m = gives_leads _ _ (λ _. no_output) (global_declared_leads e f (twin_alike e f w) false b b.sites at s p x m)
global_leads e f (twin env w) true b at s p x m =
    let r : Checked Object = global_declared (left env) true b at s p x m in
    let q : Checked Object = global_declared (in_mode Instrumented env) true b at s p x m in
    let h : Leads r q = global_declared_leads _ _ (twin_alike _ _ (twin env w)) true b b.sites at s p x m in
    on_leads r q (definition_of (within_global (left env) true x r) b m) (definition_of (within_global (in_mode Instrumented env) true x q) b m) h
    (λ o g. let t : Twin (within_global (left env) true x r) (within_global (in_mode Instrumented env) true x q) = leads_twin (within_global (left env) true x) (within_global (in_mode Instrumented env) true x) r q o h g (twin (with_name env x.name (a_static o.seen o.whole (is_defined_by true (declared_here env x.name)))) (global_plain env true b at s p x m o g, w)) in static_leads _ _ t b m o)

pub global_fine : (e : Env) (d : Bool) (b : Before) (x : Ident) (m : MaybeInit) (r : Checked Object) (c : Output) → global e d b x m r ≡ fine c → (o : Object) × (r ≡ fine o)
global_fine e false b x m r c g = let k = on_fine r (λ _. fine no_output) c g in (k.0, k.1)
global_fine e true b x m r c g = let k = on_fine r (definition_of (within_global e true x r) b m) c g in (k.0, k.1)

-- what stands behind an item, and how much before what follows it
abbrev FileFacts : Env → Env → Before → Before → Type 0
FileFacts e f b c = Twin e f × (b ≡ c)

after_fine : (e f : Env) → Twin e f → (b : Before) (m : MaybeInit) (r s : Checked Object) (o : Object) → r ≡ fine o → s ≡ fine o → after_global e b m r ≡ after_global f b m s
after_fine e f w b m r s o g h =
    ap (after_global e b m) g ∙ (ap (λ ws. past (after_object e b o.whole) (calls_of_maybe_init m) ws) (held_same e f (twin_alike e f w) o.whole m) ∙ (ap (λ y. past y (calls_of_maybe_init m) (held_by f o.whole m)) (twin_same (λ y. after_object y b o.whole) (λ _. refl) e f w) ∙ sym (ap (after_global f b m) h)))

object_after : (e f : Env) → Twin e f → (b : Before) (at : ℕ) (s : Spec) (d : Declarator) (m : MaybeInit) (x : Ident) (t : Bool) (o : Object) → object_declared e at s d x m ≡ fine o → after_declared e b at s d m t (Some x) ≡ after_declared f b at s d m t (Some x)
object_after e f w b at s d m x false o g = refl
object_after e f w b at s d m x true o g = after_fine e f w b m (object_declared e at s d x m) (object_declared f at s d x m) o g (fine_leads _ _ o (object_leads e f (twin_alike e f w) at s d x m) g)

global_behind : (e f : Env) → Twin e f → (t : Bool) (b : Before) (at : ℕ) (s : Spec) (d : Declarator) (x : Ident) (m : MaybeInit) (o : Object) → global_declared e t b at s d x m ≡ fine o → Twin (behind_global e t x (global_declared e t b at s d x m)) (behind_global f t x (global_declared f t b at s d x m))
global_behind e f (twin env w) t b at s d x m o g =
    leads_twin (behind_global (left env) t x) (behind_global (in_mode Instrumented env) t x) _ _ o (global_declared_leads _ _ (twin_alike _ _ (twin env w)) t b b.sites at s d x m) g (twin (with_name env x.name (a_static o.whole o.whole (is_defined_by t (declared_here env x.name)))) (global_plain env t b at s d x m o g, w))

declared_part_leads : (e f : Env) → Twin e f → (b : Before) (at : ℕ) (class : Storage) (s : Spec) (d : Declarator) (m : MaybeInit) (x : Ident) (t : Bool) → LeadsTo (FileFacts (behind_declared e b at class s d m t x) (behind_declared f b at class s d m t x) (after_declared e b at s d m (not t && defines class m) (Some x)) (after_declared f b at s d m (not t && defines class m) (Some x))) (declared_part e b at class s d m t x) (declared_part f b at class s d m t x)
declared_part_leads e f w b at class s d m x true =
    with_fact _ _ _ (both_leads (function_declared e false at s d x) (function_declared f false at s d x) (without_init m) (without_init m) (λ _ _. fine no_output) (λ _ _. fine no_output) (declared_twin e f w false at s d x) (λ _ _. same_leads (without_init m)) (λ _ _. (refl, tt)))
    (λ c g. let k = first_fine (function_declared e false at s d x) (without_init m) (λ _ _. fine no_output) c g in (function_twin e f w false at s d x k.0 k.2, refl))
declared_part_leads e f w b at class s d m x false =
    with_fact _ _ _ (global_leads e f w (defines class m) b at s d x m)
    (λ c g. let k = global_fine e (defines class m) b x m (global_declared e (defines class m) b at s d x m) c g in
    (global_behind e f w (defines class m) b at s d x m k.0 k.1, object_after e f w b at s d m x (defines class m) k.0 (same_object e (defines class m) b at s d x m k.0 k.1)))

part_leads : (e f : Env) → Twin e f → (b : Before) (at : ℕ) (class : Storage) (s : Spec) (d : Declarator) (m : MaybeInit) (n : Option Ident) → LeadsTo (FileFacts (behind_named_part e b at class s d m n) (behind_named_part f b at class s d m n) (after_declared e b at s d m (not (declares_function d) && defines class m) n) (after_declared f b at s d m (not (declares_function d) && defines class m) n)) (named_part e b at class s d m n) (named_part f b at class s d m n)
part_leads e f w b at class s d m None = tt
part_leads e f w b at class s d m (Some x) = declared_part_leads e f w b at class s d m x (declares_function d)

parts_lead : (e f : Env) → Twin e f → (b : Before) (at : ℕ) (class : Storage) (s : Spec) (ps : Parts) → LeadsTo (FileFacts (behind_file_parts e b at class s ps) (behind_file_parts f b at class s ps) (after_file_parts e b at class s ps) (after_file_parts f b at class s ps)) (file_parts e b at class s ps) (file_parts f b at class s ps)
parts_lead e f w b at class s no_parts = (refl, (w, refl))
parts_lead e f w b at class s (more_parts d m ps) =
    let e' : Env = behind_file_part e b at class s d m in
    let f' : Env = behind_file_part f b at class s d m in
    let b' : Before = after_file_part e b at class s d m in
    let Q : Before → Type 0 = λ y. FileFacts (behind_file_parts e' b' at class s ps) (behind_file_parts f' y at class s ps) (after_file_parts e' b' at class s ps) (after_file_parts f' y at class s ps) in
    parts_to (FileFacts e' f' b' (after_file_part f b at class s d m)) _ (Q (after_file_part f b at class s d m)) (named_part e b at class s d m (name_of d)) (named_part f b at class s d m (name_of d)) (file_parts e' b' at class s ps) (file_parts f' (after_file_part f b at class s d m) at class s ps) (λ p q. fine (with_output p q))
    (λ _ i. i) (part_leads e f w b at class s d m (name_of d)) (λ h. subst (λ y. LeadsTo (Q y) (file_parts e' b' at class s ps) (file_parts f' y at class s ps)) h.1 (parts_lead e' f' h.0 b' at class s ps))

-- ## Definitions of functions

function_item_leads : (e f : Env) → Twin e f → (b : Before) (at : ℕ) (s : Spec) (d : Declarator) (body : Stmt) (t : Bool) (n : Option Ident) → declares_function d ≡ t → LeadsTo (Twin (behind_function_named e at s d n) (behind_function_named f at s d n) × (held_by_typed (behind_function_named e at s d n) d (items_of_body body) (type_declared e at s d) ≡ held_by_typed (behind_function_named f at s d n) d (items_of_body body) (type_declared f at s d))) (function_named e b at s d body t n) (function_named f b at s d body t n)
function_item_leads e f w b at s d body true (Some x) h =
    let e' : Env = behind_defined e at s d x in
    let f' : Env = behind_defined f at s d x in
    let is : BlockItems = items_of_body body in
    both_to (Twin e' f') (held_by_typed e' d is (type_declared e at s d) ≡ held_by_typed f' d is (type_declared f at s d)) (function_declared e true at s d x) (function_declared f true at s d x) (on (type_declared e at s d) (defined_as e' b (place_or at d) d x is)) (on (type_declared f at s d) (defined_as f' b (place_or at d) d x is)) (λ _ p. fine (output_of_function p)) (λ _ p. fine (output_of_function p))
    (with_fact (Twin e' f') _ _ (declared_twin e f w true at s d x) (λ m g. function_twin e f w true at s d x m g))
    (λ _ _ v. definition_leads e f w at s d h e' f' v b x is)
    (λ _ p. (refl, tt))
function_item_leads e f w b at s d body t n h = tt

-- ## Items

abbrev ItemFacts : Env → Env → Before → Item → Type 0
ItemFacts e f b i = FileFacts (behind_item e b i) (behind_item f b i) (after_item e b i) (after_item f b i)

tags_twin : (e f : Env) → Twin e f → (i : Item) → Twin (with_tags e i) (with_tags f i)
tags_twin e f (twin env p) i = twin (with_tags env i) p

item_leads : (e f : Env) → Twin e f → (b : Before) (i : Item) → LeadsTo (ItemFacts e f b i) (item e b i) (item f b i)
item_leads e f w b (struct_item at x ms) =
    with_fact _ _ _ (gives_leads (struct_definition e x ms) (struct_definition f x ms) (λ _. no_output) (struct_leads e f (twin_alike e f w) x ms))
    (λ c g. let k = on_fine (struct_definition e x ms) (λ _. fine no_output) c g in (tags_twin _ _ (struct_twin e f w x ms k.0 k.1) (struct_item at x ms), refl))
item_leads e f w b (enum_item at x es) =
    let e' : Env = behind_enumerators e (fine (pos 0)) es in
    let f' : Env = behind_enumerators f (fine (pos 0)) es in
    let ts : List Name = tags_of_enumerators es in
    parts_to (Unit {0}) (Twin e' f') _ (new_enum e x ts) (new_enum f x ts) (enumerators e (fine (pos 0)) es) (enumerators f (fine (pos 0)) es) (λ _ _. fine no_output)
    (λ _ h. (tags_twin _ _ (enum_tag_twin e' f' h x) (enum_item at x es), refl)) (new_enum_leads e f (twin_alike e f w) (λ y h. subst (λ ys. is_among ys y ≡ true) (sym (twin_same (λ e. e.tags) (λ _. refl) e f w)) h) x ts) (λ _. enumerators_lead Twin twin_alike behind_name es e f w (fine (pos 0)) (fine (pos 0)) (refl, tt))
item_leads e f w b (tag_item at x) = always _ _ _ (tags_twin _ _ w (tag_item at x), refl) (gives_leads (tag_declaration e x) (tag_declaration f x) (λ _. no_output) (tag_declaration_leads e f (twin_alike e f w) x))
item_leads e f w b (decl_item at (decl here class s ps)) = weaken _ _ _ _ (λ h. (tags_twin _ _ h.0 (decl_item at (decl here class s ps)), h.1)) (parts_lead e f w b here class s ps)
item_leads e f w b (function_item at class s d body) = weaken _ _ _ _ (λ h. (tags_twin _ _ h.0 (function_item at class s d body), ap (past b (calls_of_block (items_of_body body))) h.1)) (function_item_leads e f w b at s d body (declares_function d) (name_of d) refl)

items_lead : (e f : Env) → Twin e f → (b : Before) (is : Items) → LeadsTo (FileFacts (behind_items e b is) (behind_items f b is) (after_items e b is) (after_items f b is)) (items e b is) (items f b is)
items_lead e f w b no_items = (refl, (w, refl))
items_lead e f w b (more_items i is) =
    let e' : Env = behind_item e b i in
    let f' : Env = behind_item f b i in
    let b' : Before = after_item e b i in
    let Q : Before → Type 0 = λ y. FileFacts (behind_items e' b' is) (behind_items f' y is) (after_items e' b' is) (after_items f' y is) in
    parts_to (FileFacts e' f' b' (after_item f b i)) _ (Q (after_item f b i)) (item e b i) (item f b i) (items e' b' is) (items f' (after_item f b i) is) (λ p q. fine (with_output p q))
    (λ _ i. i) (item_leads e f w b i) (λ h. subst (λ y. LeadsTo (Q y) (items e' b' is) (items f' y is)) h.1 (items_lead e' f' h.0 b' is))

-- ## Units

program_same : (u : Items) (p : Output) → FileFacts (env_behind Plain u) (env_behind Instrumented u) (after_items (env_before Plain u) nothing_before u) (after_items (env_before Instrumented u) nothing_before u) → program_of Plain u p ≡ program_of Instrumented u p
program_same u p h =
    ap (λ s. program_with s (strings_of Plain u)) (twin_same layout_of (λ _. refl) _ _ h.0) ∙ ap (λ y. program_with (layout_of (env_behind Instrumented u)) y.strings) h.1
  where
    program_with : Structs → List (List ℕ) → Program
    program_with s ws = record {
      structs = s;
      functions = p.functions;
      main = unwrap_or (number_among (functions_of u) (codes "main")) 0;
      statics = p.statics ++ map static_string ws;
    }

-- what is typed in a plain unit is typed in an instrumented one
pub typed_leads : (u : Items) (p : Program) → IsTyped u Plain p → IsTyped u Instrumented p
typed_leads u p g =
    let k = on_fine (items (env_before Plain u) nothing_before u) (λ q. demand (has_main Plain u) C9 0 (program_of Plain u q)) p (items_fine u Plain p g) in
    let l = items_lead (env_before Plain u) (env_before Instrumented u) (twin (env_before Plain u) tt) nothing_before u in
    let facts = fact _ _ _ k.0 l k.1 in
    let met' : has_main Plain u ≡ true = demand_met (has_main Plain u) 9 0 (program_of Plain u k.0) p k.2 in
    let right_items : items (env_before Instrumented u) nothing_before u ≡ fine k.0 = fine_leads _ _ k.0 (without _ _ _ l) k.1 in
    let right_main : has_main Instrumented u ≡ true = sym (twin_same (λ e. is_main_bound (binding_of e (codes "main"))) (λ _. refl) _ _ facts.0) ∙ met' in
    let given : demand (has_main Plain u) C9 0 (program_of Plain u k.0) ≡ fine p = k.2 in
    let same : program_of Plain u k.0 ≡ p = (let e : fine (program_of Plain u k.0) ≡ fine p = sym (ap (λ t. demand t C9 0 (program_of Plain u k.0)) met') ∙ given in cc) in
    items_typed u Instrumented p (names_fine u Plain p g)
    (ap (λ r. on r (λ q. demand (has_main Instrumented u) C9 0 (program_of Instrumented u q))) right_items
    ∙ (ap (λ t. demand t C9 0 (program_of Instrumented u k.0)) right_main ∙ ap fine (sym (program_same u k.0 facts) ∙ same)))
