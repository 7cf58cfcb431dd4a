-- Units without their places are typed as they are with them.
use Rattle.std.proofs.Common.{◌≡◌, ℕ, true, false, not, ◌&&◌, if◌then◌else◌, List, [], ◌∷◌, ◌++◌, refl, sym, ap, ap₂, subst, ◌∙◌, codes, map, unwrap_or, ◌^◌, length, nat_lt}
use Rattle.dm_base.specs.declared.mode.Mode.{Mode}
use Rattle.c_tree.specs.Tree.{Program}
use Rattle.c_syntax.specs.Tree.{Storage, Parts, no_parts, more_parts, Decl, decl, Item, decl_item, function_item, Items, no_items, more_items}
use Rattle.c_syntax.specs.Same.{unplaced_declarator, unplaced_maybe_init, unplaced_parts, unplaced_decl, unplaced_item, unplaced_unit}
use Rattle.c_rules.specs.Checked.{fine, demand, on, met}
use Rattle.c_rules.specs.Codes.{C9, C13}
use Rattle.c_rules.specs.Names.{Name, number_among, each_once}
use Rattle.c_rules.specs.Scopes.{Env, empty_env, binding_of, layout_of, Before, nothing_before}
use Rattle.c_rules.specs.Declarators.{name_of}
use Rattle.c_rules.specs.Variables.{name_or_empty}
use Rattle.c_rules.specs.Functions.{declares_function}
use Rattle.c_rules.specs.Items.{Output, defines, items, behind_items, after_items}
use Rattle.c_rules.specs.Units.{functions_of_item, functions_of, objects_of_parts, objects_of_decl, objects_of_item, objects_of, tags_of, whole_of, env_before, env_behind, strings_of, is_main_bound, has_main, static_string, program_of, checked, few_names}
use Rattle.c_rules.proofs.CheckedLemmas.{typed_items}
use Rattle.c_rules_laws.specs.PlaceLaws.{UnitsAreTypedAlike}
use Rattle.c_rules_laws.proofs.Alike.{Alike, alike, fine_there, fine_here, on_alike}
use Rattle.c_rules_laws.proofs.Expressions.{joins}
use Rattle.c_rules_laws.proofs.Counted.{declared_name_same, items_tags}
use Rattle.c_rules_laws.proofs.Functions.{declares_same}
use Rattle.c_rules_laws.proofs.Items.{defines_same, items_alike, behind_items_same}

-- ## What is known of the whole unit from its syntax

parts_objects_same : (class : Storage) (ps : Parts) → objects_of_parts class (unplaced_parts ps) ≡ objects_of_parts class ps
parts_objects_same class no_parts = refl
parts_objects_same class (more_parts d m ps) =
    ap (λ t. if not t && defines class (unplaced_maybe_init m) then name_or_empty (name_of (unplaced_declarator d)) ∷ objects_of_parts class (unplaced_parts ps) else objects_of_parts class (unplaced_parts ps)) (declares_same d)
    ∙ (ap (λ t. if not (declares_function d) && t then name_or_empty (name_of (unplaced_declarator d)) ∷ objects_of_parts class (unplaced_parts ps) else objects_of_parts class (unplaced_parts ps)) (defines_same class m)
    ∙ ap₂ (λ (x : Name) (xs : List Name). if not (declares_function d) && defines class m then x ∷ xs else xs) (declared_name_same d) (parts_objects_same class ps))

decl_objects_same : (d : Decl) → objects_of_decl (unplaced_decl d) ≡ objects_of_decl d
decl_objects_same (decl at class s ps) = parts_objects_same class ps

item_same : (i : Item) → (functions_of_item (unplaced_item i) ≡ functions_of_item i) × (objects_of_item (unplaced_item i) ≡ objects_of_item i)
item_same (function_item at class s d body) = (ap (λ (x : Name). x ∷ []) (declared_name_same d), refl)
item_same (decl_item at d) = (refl, decl_objects_same d)
item_same i = (refl, refl)

names_same : (u : Items) → (functions_of (unplaced_unit u) ≡ functions_of u) × (objects_of (unplaced_unit u) ≡ objects_of u)
names_same no_items = (refl, refl)
names_same (more_items i is) = (let h = item_same i in let g = names_same is in (joins h.0 g.0, joins h.1 g.1))

tags_same : (u : Items) → tags_of (unplaced_unit u) ≡ tags_of u
tags_same u = ap₂ (λ (v w : List Name). each_once [] (v ++ w)) (items_tags true u) (items_tags false u)

whole_same : (m : Mode) (u : Items) → whole_of m (unplaced_unit u) ≡ whole_of m u
whole_same m u =
    ap₂ (λ (fs os : List Name). record { mode = m; functions = fs; objects = os; tags = tags_of (unplaced_unit u) }) ((names_same u).0) ((names_same u).1)
    ∙ ap (λ (ts : List Name). record { mode = m; functions = functions_of u; objects = objects_of u; tags = ts }) (tags_same u)

before_same : (m : Mode) (u : Items) → env_before m (unplaced_unit u) ≡ env_before m u
before_same m u = ap empty_env (whole_same m u)

-- ## The unit

units_items_alike : (m : Mode) (u : Items) → Alike Output (items (env_before m u) nothing_before u) (items (env_before m (unplaced_unit u)) nothing_before (unplaced_unit u))
units_items_alike m u =
    subst (λ y. Alike Output (items (env_before m u) nothing_before u) (items y nothing_before (unplaced_unit u))) (sym (before_same m u)) (items_alike (env_before m u) nothing_before nothing_before refl u)

behind_same : (m : Mode) (u : Items) (p : Output) → items (env_before m u) nothing_before u ≡ fine p → env_behind m (unplaced_unit u) ≡ env_behind m u
behind_same m u p e =
    ap (λ y. behind_items y nothing_before (unplaced_unit u)) (before_same m u) ∙ sym ((behind_items_same (env_before m u) nothing_before nothing_before refl u p e).0)

strings_same : (m : Mode) (u : Items) (p : Output) → items (env_before m u) nothing_before u ≡ fine p → strings_of m (unplaced_unit u) ≡ strings_of m u
strings_same m u p e =
    ap (λ (b : Before). b.strings) (ap (λ y. after_items y nothing_before (unplaced_unit u)) (before_same m u) ∙ (behind_items_same (env_before m u) nothing_before nothing_before refl u p e).1)

program_same : (m : Mode) (u : Items) (p : Output) → items (env_before m u) nothing_before u ≡ fine p → program_of m (unplaced_unit u) p ≡ program_of m u p
program_same m u p e =
    ap₂ (λ (y : Env) (fs : List Name). record {
      structs = layout_of y;
      functions = p.functions;
      main = unwrap_or (number_among fs (codes "main")) 0;
      statics = p.statics ++ map static_string (strings_of m (unplaced_unit u));
    }) (behind_same m u p e) ((names_same u).0)
    ∙ ap (λ (ws : List (List ℕ)). record {
      structs = layout_of (env_behind m u);
      functions = p.functions;
      main = unwrap_or (number_among (functions_of u) (codes "main")) 0;
      statics = p.statics ++ map static_string ws;
    }) (strings_same m u p e)

items_typed_alike : (m : Mode) (u : Items) → Alike Program (typed_items u m) (typed_items (unplaced_unit u) m)
items_typed_alike m u =
    on_alike (λ p. demand (has_main m u) C9 0 (program_of m u p)) (λ p. demand (has_main m (unplaced_unit u)) C9 0 (program_of m (unplaced_unit u) p)) (units_items_alike m u)
    (λ p e. subst (λ t. Alike Program (demand (has_main m u) C9 0 (program_of m u p)) (demand t C9 0 (program_of m (unplaced_unit u) p))) (sym (ap (λ (y : Env). is_main_bound (binding_of y (codes "main"))) (behind_same m u p e)))
    (subst (λ q. Alike Program (demand (has_main m u) C9 0 (program_of m u p)) (demand (has_main m u) C9 0 q)) (sym (program_same m u p e)) (alike (demand (has_main m u) C9 0 (program_of m u p)))))

few_names_same : (u : Items) → few_names (unplaced_unit u) ≡ few_names u
few_names_same u =
    ap₂ (λ (fs os : List Name). demand (nat_lt (length fs) (2 ^ 31) && (nat_lt (length os) (2 ^ 31) && nat_lt (length (tags_of (unplaced_unit u))) (2 ^ 31))) C13 0 met) ((names_same u).0) ((names_same u).1)
    ∙ ap (λ (ts : List Name). demand (nat_lt (length (functions_of u)) (2 ^ 31) && (nat_lt (length (objects_of u)) (2 ^ 31) && nat_lt (length ts) (2 ^ 31))) C13 0 met) (tags_same u)

unit_alike : (m : Mode) (u : Items) → Alike Program (checked u m) (checked (unplaced_unit u) m)
unit_alike m u =
    subst (λ r. Alike Program (checked u m) (on r (λ _. typed_items (unplaced_unit u) m))) (sym (few_names_same u))
    (on_alike (λ _. typed_items u m) (λ _. typed_items (unplaced_unit u) m) (alike (few_names u)) (λ _ _. items_typed_alike m u))

pub typed_alike : UnitsAreTypedAlike
typed_alike u v m p same typed =
    let here : checked (unplaced_unit u) m ≡ fine p = fine_there p (unit_alike m u) typed in
    let yonder : checked (unplaced_unit v) m ≡ fine p = subst (λ (w : Items). checked w m ≡ fine p) same here in
    fine_here p (unit_alike m v) yonder
