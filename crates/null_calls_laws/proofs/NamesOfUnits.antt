-- Names of functions and tags of a unit with null calls round its marked calls.
use Rattle.std.proofs.Common.{◌≡◌, ℕ, suc, ◌+◌, Bool, true, false, if◌then◌else◌, List, [], ◌∷◌, ◌++◌, Option, Some, None, refl, ap, ap₂, sym, subst, ◌∙◌}
use Rattle.std.specs.Prelude.{option_map}
use Rattle.c_syntax.specs.Tree.{Ident, Spec, Declarator, Stmt, Item, struct_item, function_item, Items, no_items, more_items}
use Rattle.c_rules.specs.Checked.{on}
use Rattle.c_rules.specs.Names.{Name, number_among, is_among, is_reserved, with_new, each_once}
use Rattle.c_rules.specs.Scopes.{Env, Before}
use Rattle.c_rules.specs.Declarators.{name_of, place_or}
use Rattle.c_rules.specs.Expressions.{type_declared}
use Rattle.c_rules.specs.Functions.{declares_function, function_declared, defined_as, items_of_body}
use Rattle.c_rules.specs.Tags.{tags_of_item, tags_of_items}
use Rattle.c_rules.specs.Variables.{name_or_empty}
use Rattle.c_rules.specs.Items.{behind_defined, function_named, item, behind_item, after_item, items}
use Rattle.c_rules.specs.Units.{functions_of_item, functions_of, objects_of_item, objects_of}
use Rattle.c_tree.specs.Tree.{Program}
use Rattle.null_calls_laws.specs.MarkedCalls.{Sites, sites_of}
use Rattle.null_calls_laws.specs.Instrumented as units
use Rattle.null_calls_laws.specs.Instrumented.{calls_of_item}
use Rattle.null_calls_laws.specs.Spelled.{AreAmong}
use Rattle.null_calls_laws.proofs.FileNames.{other_name}
use Rattle.c_rules_laws.proofs.Holding.{Holds, Each, each_both, both_hold, Any, anything}
use Rattle.null_calls_laws.proofs.Declared.{among_left, among_right, among_both}
use Rattle.c_rules_laws.proofs.DistinctNames.{new_kept, new_there}
use Rattle.null_calls_laws.proofs.FunctionTags.{among_each, is_in, among_on, among_itself}
use Rattle.null_calls_laws.proofs.FunctionItems.{item_tags}
use Rattle.c_rules_laws.proofs.Callers.{form_tags, form_whole}
use Rattle.null_calls_laws.proofs.Aside.{IsPlain, always, function_plain}
use Rattle.null_calls_laws.proofs.Facts.{UnitFacts}

-- ## Lists in which each name stands once

pub each_app : (ys xs zs : List Name) → each_once ys (xs ++ zs) ≡ each_once (each_once ys xs) zs
each_app ys [] zs = refl
each_app ys (x ∷ xs) zs = each_app (with_new ys x) xs zs

pub each_none : (ys xs : List Name) → AreAmong ys xs → each_once ys xs ≡ ys
each_none ys [] h = refl
each_none ys (x ∷ xs) h = ap (λ t. each_once (if t then ys else ys ++ x ∷ []) xs) h.0 ∙ each_none ys xs h.1

with_has : (ys : List Name) (x : Name) → AreAmong (with_new ys x) ys × (is_among (with_new ys x) x ≡ true)
with_has ys x = (among_each ys (with_new ys x) (new_kept ys x) ys (among_itself ys), new_there ys x)

pub each_has : (ys xs : List Name) → AreAmong (each_once ys xs) ys × AreAmong (each_once ys xs) xs
each_has ys [] = (among_itself ys, tt)
each_has ys (x ∷ xs) =
    let zs : List Name = with_new ys x in
    let r = each_has zs xs in
    let w = with_has ys x in
    (among_on (each_once zs xs) zs ys r.0 w.0, (is_in (each_once zs xs) zs r.0 x w.1, r.1))

-- ## Tags

-- those of the unit stand among these names, and those that are counted stay
pub tags_go : (p : Program) (tags : List Name) (is : Items) (e : Env) (b : Before) → UnitFacts p tags e b is → (S : List Name) → AreAmong S (tags_of_items false is) → AreAmong S e.tags
    → (tags_of_items true (units.items (sites_of p) tags b.sites is) ≡ tags_of_items true is) × AreAmong S (tags_of_items false (units.items (sites_of p) tags b.sites is))
tags_go p tags no_items e b facts S among here = (refl, tt)
tags_go p tags (more_items i is) e b facts S among here =
    let own : AreAmong S (tags_of_item false i) = among_left S (tags_of_item false i) (tags_of_items false is) among in
    let all : AreAmong S (tags_of_item false i ++ e.tags) = among_both S (tags_of_item false i) e.tags own here in
    let one = item_tags p tags e b i facts.0 in
    let j : Item = units.item (sites_of p) tags b.sites i in
    let behind : AreAmong S (behind_item e b i).tags = subst (λ ts. AreAmong S (tags_of_item false i ++ ts)) (sym (form_tags i e b)) all in
    let later = tags_go p tags is (behind_item e b i) (after_item e b i) facts.2 S (among_right S (tags_of_item false i) (tags_of_items false is) among) behind in
    let rest : (tags_of_items true (units.items (sites_of p) tags (b.sites + calls_of_item i) is) ≡ tags_of_items true is) × AreAmong S (tags_of_items false (units.items (sites_of p) tags (b.sites + calls_of_item i) is)) =
    subst (λ c. (tags_of_items true (units.items (sites_of p) tags c is) ≡ tags_of_items true is) × AreAmong S (tags_of_items false (units.items (sites_of p) tags c is))) facts.1 later in (
      ap₂ (λ ts us. ts ++ us) one.aside rest.0,
      among_both S (tags_of_item false j) (tags_of_items false (units.items (sites_of p) tags (b.sites + calls_of_item i) is)) (among_on S (tags_of_item false i ++ e.tags) (tags_of_item false j) all one.stand) rest.1,
    )

-- ## Functions and objects

item_names : (sites : Sites) (tags : List Name) (b : ℕ) (i : Item) → (functions_of_item (units.item sites tags b i) ≡ functions_of_item i) × (objects_of_item (units.item sites tags b i) ≡ objects_of_item i)
item_names sites tags b (struct_item at x ms) = (refl, refl)
item_names sites tags b i = (refl, refl)

pub names_same : (sites : Sites) (tags : List Name) (is : Items) (b : ℕ) → (functions_of (units.items sites tags b is) ≡ functions_of is) × (objects_of (units.items sites tags b is) ≡ objects_of is)
names_same sites tags no_items b = (refl, refl)
names_same sites tags (more_items i is) b =
    let first = item_names sites tags b i in
    let rest = names_same sites tags is (b + calls_of_item i) in
    (ap₂ (λ xs ys. xs ++ ys) first.0 rest.0, ap₂ (λ xs ys. xs ++ ys) first.1 rest.1)

-- ## No function of the unit has a name that is reserved

abbrev pub AllPlain : List Name → Type 0
AllPlain xs = Each (λ x. is_reserved x ≡ false) xs

named_functions : (env : Env) → IsPlain env → (b : Before) (at : ℕ) (s : Spec) (d : Declarator) (body : Stmt) (k : Bool) (o : Option Ident) → Holds (λ _. AllPlain (name_or_empty o ∷ [])) (function_named env b at s d body k o)
named_functions env e b at s d body true (Some x) =
    both_hold (λ _. is_reserved x.name ≡ false) Any (λ _. AllPlain (x.name ∷ [])) (function_declared env true at s d x) (on (type_declared env at s d) (defined_as (behind_defined env at s d x) b (place_or at d) d x (items_of_body body))) _ (function_plain env e true at s d x) (anything _) (λ _ _ h _. (h, tt))
named_functions env e b at s d body k o = tt

item_plain : (i : Item) (env : Env) → IsPlain env → (b : Before) → Holds (λ _. AllPlain (functions_of_item i)) (item env b i)
item_plain (function_item at class s d body) env e b = named_functions env e b at s d body (declares_function d) (name_of d)
item_plain i env e b = always (AllPlain []) (item env b i) tt

pub functions_plain : (is : Items) (env : Env) → IsPlain env → (b : Before) → Holds (λ _. AllPlain (functions_of is)) (items env b is)
functions_plain no_items env e b = tt
functions_plain (more_items i is) env e b =
    both_hold (λ _. AllPlain (functions_of_item i)) (λ _. AllPlain (functions_of is)) (λ _. AllPlain (functions_of (more_items i is))) (item env b i) (items (behind_item env b i) (after_item env b i) is) _
    (item_plain i env e b) (functions_plain is (behind_item env b i) (ap (λ w. w.mode) (form_whole i env b) ∙ e) (after_item env b i)) (λ _ _ h k. each_both (λ x. is_reserved x ≡ false) (functions_of_item i) (functions_of is) h k)

pub none_reserved : (y : Name) (xs : List Name) → is_reserved y ≡ true → AllPlain xs → number_among xs y ≡ None
none_reserved y [] r h = refl
none_reserved y (x ∷ xs) r h = ap (λ t. if t then Some 0 else option_map suc (number_among xs y)) (other_name x y h.0 r) ∙ ap (option_map suc) (none_reserved y xs r h.1)
