-- The items of a unit that is fine: what they leave as it is, and that their call expressions are the sites of the functions that they give.
use Rattle.std.proofs.Common.{◌≡◌, ℕ, ℤ, pos, zero, suc, ◌+◌, Bool, true, false, List, [], ◌∷◌, ◌++◌, map, length, Option, Some, None, nat_le, refl, ap, ap₂, sym, subst, ◌∙◌, arith, append-nil}
use Rattle.std.specs.Prelude.{flat_map}
use Rattle.std.specs.List.{range_with_len}
use Rattle.std.proofs.lemmas.Grind.{flat_map-append}
use Rattle.c_tree.specs.Tree.{CType, function, Function, Program}
use Rattle.c_tree.specs.Tree as typed
use Rattle.c_tree.specs.Layout.{cells_of_all}
use Rattle.c_tree.specs.Sites.{sites_of_function}
use Rattle.c_syntax.specs.Tree.{Ident, Storage, Spec, Declarator, MaybeInit, Parts, no_parts, more_parts, Decl, decl, Tag, no_tag, tag, Enumerators, no_enumerators, more_enumerators, Stmt, BlockItems, Item, struct_item, enum_item, tag_item, decl_item, function_item, Items, no_items, more_items}
use Rattle.c_syntax.specs.Tree as syntax
use Rattle.dm_base.specs.declared.mode.Mode.{Mode}
use Rattle.c_rules.specs.Checked.{Checked, fine, on, demand, met}
use Rattle.c_rules.specs.Limits.{most_local_cells}
use Rattle.c_rules.specs.Names.{Name}
use Rattle.c_rules.specs.Scopes.{Env, evaluated, inside, layout_of, Before, nothing_before, Whole, Context}
use Rattle.c_rules.specs.Declarators.{name_of, place_or}
use Rattle.c_rules.specs.Expressions.{type_declared}
use Rattle.c_rules.specs.Variables.{Next, name_or_empty, calls_of_stmt, calls_of_block}
use Rattle.c_rules.specs.Blocks.{StatementTree, held_by_block}
use Rattle.c_rules.specs.Statements.{Around, items_of_block}
use Rattle.c_rules.specs.Functions.{declares_function, parameters_of, are_named, variables_of, function_laid, body_env, body_numbers, body_of, function_declared, items_of_body, defined_as}
use Rattle.c_rules.specs.Items.{Output, no_output, with_output, static_of, without_init, output_of_function, defines, global_declared, within_global, definition_of, global, declared_part, named_part, enumerator_value, behind_enumerator, one_more_than, behind_enumerators, behind_enum_tag, behind_declared, behind_named_part, behind_file_part, after_file_part, behind_file_parts, file_parts, file_decl, behind_defined, function_named, behind_function_named, item, behind_item, after_item, items, behind_by_form}
use Rattle.c_rules.specs.Units.{env_before, has_main, program_of, IsTyped}
use Rattle.c_rules_laws.proofs.Holding.{held, first_fine, on_fine, demand_fine, Holds, both_hold, Any, anything, after_part as behind_any, fine_same}
use Rattle.c_rules.proofs.CheckedLemmas.{items_fine}
use Rattle.c_rules_laws.proofs.Definitions.{definition_fine}
use Rattle.c_rules_laws.proofs.SitesOfStatements.{StmtsSpan, block_span}
use Rattle.c_rules.specs.CallPlaces.{CallPlace, called_in, declared_name, call_places_of_item, call_places}
use Rattle.c_rules.specs.PlacesOfCalls.{places_of_stmt}
use Rattle.c_rules_laws.specs.AreSites.{caller_of, callers_of_function, callers_of_program, AreSitesOf}
use Rattle.c_rules_laws.proofs.CountedCalls.{stmt_counted, block_counted}
use Rattle.c_rules_laws.proofs.Spans.{params_context}

-- ## Lists

callers_append : (xs ys : List CallPlace) → map caller_of (xs ++ ys) ≡ map caller_of xs ++ map caller_of ys
callers_append [] ys = refl
callers_append (x ∷ xs) ys = ap (λ zs. caller_of x ∷ zs) (callers_append xs ys)

-- one name, as often
repeated : (name other : List ℕ) (xs ys : List ℕ) → other ≡ name → length xs ≡ length ys → map caller_of (map (called_in name) xs) ≡ map (λ (site : ℕ). other) ys
repeated name other [] [] e l = refl
repeated name other [] (y ∷ ys) e l = absurd (omega (arith, l))
repeated name other (x ∷ xs) [] e l = absurd (omega (arith, l))
repeated name other (x ∷ xs) (y ∷ ys) e l = ap₂ (λ (z : List ℕ) (zs : List (List ℕ)). z ∷ zs) (sym e) (repeated name other xs ys e (omega (arith, l)))

range_long : (a n : ℕ) → length (range_with_len a n) ≡ n
range_long a zero = refl
range_long a (suc n) = ap suc (range_long (a + 1) n)

names_long : (name : List ℕ) (xs : List ℕ) → length (map (λ (site : ℕ). name) xs) ≡ length xs
names_long name [] = refl
names_long name (x ∷ xs) = ap suc (names_long name xs)

callers_long : (cs : List CallPlace) → length (map caller_of cs) ≡ length cs
callers_long [] = refl
callers_long (c ∷ cs) = ap suc (callers_long cs)

-- ## Items that define no function

abbrev pub NoFunctions : Output → Type 0
NoFunctions o = o.functions ≡ []

nothing : (q : Output) → fine no_output ≡ fine q → NoFunctions q
nothing q e = sym (ap (λ z. z.functions) (fine_same no_output q e))

part_none : (e : Env) (b : Before) (at : ℕ) (class : Storage) (s : Spec) (d : Declarator) (m : MaybeInit) (o : Option Ident) → Holds NoFunctions (named_part e b at class s d m o)
part_none e b at class s d m None = tt
part_none e b at class s d m (Some x) = by_kind (declares_function d)
  where
    by_global : (k : Bool) (r : Checked _) → Holds NoFunctions (global e k b x m r)
    by_global false r = behind_any NoFunctions r (λ _. fine no_output) (λ _. refl)
    by_global true r = behind_any NoFunctions r (definition_of (within_global e true x r) b m) (λ o. behind_any NoFunctions _ (λ gs. fine (static_of o gs)) (λ _. refl))

    by_kind : (t : Bool) → Holds NoFunctions (declared_part e b at class s d m t x)
    by_kind true = both_hold Any Any NoFunctions (function_declared e false at s d x) (without_init m) (λ _ _. fine no_output) (anything _) (anything _) (λ _ _ _ _. refl)
    by_kind false = by_global (defines class m) (global_declared e (defines class m) b at s d x m)

parts_none : (ps : Parts) (e : Env) (b : Before) (at : ℕ) (class : Storage) (s : Spec) → Holds NoFunctions (file_parts e b at class s ps)
parts_none no_parts e b at class s = refl
parts_none (more_parts d m ps) e b at class s =
    both_hold NoFunctions NoFunctions NoFunctions (named_part e b at class s d m (name_of d)) (file_parts (behind_file_part e b at class s d m) (after_file_part e b at class s d m) at class s ps) (λ p q. fine (with_output p q))
    (part_none e b at class s d m (name_of d)) (parts_none ps (behind_file_part e b at class s d m) (after_file_part e b at class s d m) at class s) (λ p q h k. ap₂ (λ xs ys. xs ++ ys) h k)

pub decl_none : (d : Decl) (e : Env) (b : Before) → Holds NoFunctions (file_decl e b d)
decl_none (decl at class s ps) e b = parts_none ps e b at class s

-- ## Functions

declared_is : (d : Declarator) → declared_name d ≡ name_or_empty (name_of d)
declared_is syntax.nothing = refl
declared_is (syntax.named at x) = refl
declared_is (syntax.pointer at d) = declared_is d
declared_is (syntax.array at d size) = declared_is d
declared_is (syntax.function at d ps) = declared_is d

-- a definition gives a function of its name with as many sites as calls stand in its body
function_callers : (env : Env) → env.context ≡ evaluated → (b : Before) (place : ℕ) (d : Declarator) (x : Ident) (is : BlockItems) (u : CType) (f : Function) → defined_as env b place d x is u ≡ fine f → (f.name ≡ x.name) × (length (sites_of_function f) ≡ calls_of_block is)
function_callers env c b place d x is (function t ts) f e =
    let i = first_fine (demand (are_named (parameters_of d)) 3 place met) (body_of env b t d ts is) (λ _ q. function_laid env x t ts q) f (definition_fine env b place d x is t ts f e) in
    let q : StatementTree typed.Stmts = i.1 in
    let j = demand_fine (nat_le (cells_of_all (layout_of env) (variables_of ts q)) (most_local_cells env.whole.mode)) 13 x.at (record { name = x.name; ctype = function t ts; variables = variables_of ts q; body = typed.block q.tree }) f i.4 in
    let inner : Env = body_env env d ts in
    let next : Next = body_numbers d is in
    let around : Around = record { breaks = false; continues = false; returns = t } in
    let runs : inner.context ≡ evaluated = params_context (parameters_of d) ts (inside env) 0 ∙ c in
    let h : StmtsSpan b (calls_of_block is) (held_by_block inner next is) q = held (StmtsSpan b (calls_of_block is) (held_by_block inner next is)) (items_of_block inner around b next is) q (block_span is inner runs around b next) i.3 in
    (ap (λ (g : Function). g.name) (sym j.1), subst (λ (g : Function). length (sites_of_function g) ≡ calls_of_block is) j.1 (ap length h.0 ∙ range_long b.sites (calls_of_block is)))
function_callers env c b place d x is u f e = absurd (cc)

alone : (s : Stmt) → length (places_of_stmt s) ≡ calls_of_stmt s + 0
alone s = (let e = stmt_counted s in omega (arith, e))

body_counted : (s : Stmt) → length (places_of_stmt s) ≡ calls_of_block (items_of_body s)
body_counted (syntax.block at is) = block_counted is
body_counted s = alone s

definition_callers : (env : Env) → env.context ≡ evaluated → (b : Before) (at : ℕ) (s : Spec) (d : Declarator) (body : Stmt) (k : Bool) (o : Option Ident) (q : Output) → name_of d ≡ o → function_named env b at s d body k o ≡ fine q
    → map caller_of (map (called_in (declared_name d)) (places_of_stmt body)) ≡ flat_map callers_of_function q.functions
definition_callers env w b at s d body false o q n e = absurd (cc)
definition_callers env w b at s d body true None q n e = absurd (cc)
definition_callers env w b at s d body true (Some x) q n e =
    let is : BlockItems = items_of_body body in
    let inner : Env = behind_defined env at s d x in
    let i = first_fine (function_declared env true at s d x) (on (type_declared env at s d) (defined_as inner b (place_or at d) d x is)) (λ _ f. fine (output_of_function f)) q e in
    let j = on_fine (type_declared env at s d) (defined_as inner b (place_or at d) d x is) i.1 i.3 in
    let f : Function = i.1 in
    let h = function_callers inner w b (place_or at d) d x is j.0 f j.2 in
    let name : f.name ≡ declared_name d = h.0 ∙ sym (declared_is d ∙ ap name_or_empty n) in
    let long : length (places_of_stmt body) ≡ length (sites_of_function f) = body_counted body ∙ sym h.1 in
    repeated (declared_name d) f.name (places_of_stmt body) (sites_of_function f) name long
    ∙ sym (append-nil (callers_of_function f))
    ∙ ap (λ (z : Output). flat_map callers_of_function z.functions) (fine_same (output_of_function f) q i.4)

-- ## Scopes: the form changes neither the tags that stand before, nor what is known of the whole unit, nor where calls stand

abbrev kept : Env → List Name × Whole × Context
kept env = (env.tags, env.whole, env.context)

enumerators_kept : (es : Enumerators) (env : Env) (before : Checked ℤ) → kept (behind_enumerators env before es) ≡ kept env
enumerators_kept no_enumerators env before = refl
enumerators_kept (more_enumerators x m es) env before =
    enumerators_kept es (behind_enumerator env x (enumerator_value env before x m)) (one_more_than (enumerator_value env before x m))

tag_kept : (env : Env) (t : Tag) → kept (behind_enum_tag env t) ≡ kept env
tag_kept env no_tag = refl
tag_kept env (tag x) = refl

declared_kept : (env : Env) (b : Before) (at : ℕ) (class : Storage) (s : Spec) (d : Declarator) (m : MaybeInit) (k : Bool) (x : Ident) → kept (behind_declared env b at class s d m k x) ≡ kept env
declared_kept env b at class s d m true x = refl
declared_kept env b at class s d m false x = refl

part_kept : (env : Env) (b : Before) (at : ℕ) (class : Storage) (s : Spec) (d : Declarator) (m : MaybeInit) (o : Option Ident) → kept (behind_named_part env b at class s d m o) ≡ kept env
part_kept env b at class s d m None = refl
part_kept env b at class s d m (Some x) = declared_kept env b at class s d m (declares_function d) x

parts_kept : (ps : Parts) (env : Env) (b : Before) (at : ℕ) (class : Storage) (s : Spec) → kept (behind_file_parts env b at class s ps) ≡ kept env
parts_kept no_parts env b at class s = refl
parts_kept (more_parts d m ps) env b at class s =
    parts_kept ps (behind_file_part env b at class s d m) (after_file_part env b at class s d m) at class s ∙ part_kept env b at class s d m (name_of d)

definition_kept : (env : Env) (at : ℕ) (s : Spec) (d : Declarator) (o : Option Ident) → kept (behind_function_named env at s d o) ≡ kept env
definition_kept env at s d None = refl
definition_kept env at s d (Some x) = refl

form_kept : (i : Item) (env : Env) (b : Before) → kept (behind_by_form env b i) ≡ kept env
form_kept (struct_item at x ms) env b = refl
form_kept (enum_item at x es) env b = tag_kept (behind_enumerators env (fine (pos 0)) es) x ∙ enumerators_kept es env (fine (pos 0))
form_kept (tag_item at x) env b = refl
form_kept (decl_item at (decl here class s ps)) env b = parts_kept ps env b here class s
form_kept (function_item at class s d body) env b = definition_kept env at s d (name_of d)

pub form_tags : (i : Item) (env : Env) (b : Before) → (behind_by_form env b i).tags ≡ env.tags
form_tags i env b = ap (λ k. k.0) (form_kept i env b)

pub form_whole : (i : Item) (env : Env) (b : Before) → (behind_by_form env b i).whole ≡ env.whole
form_whole i env b = ap (λ k. k.1) (form_kept i env b)

-- ## Items

none_here : (q : Output) → NoFunctions q → [] ≡ flat_map callers_of_function q.functions
none_here q e = sym (ap (flat_map callers_of_function) e)

form_callers : (i : Item) (env : Env) → env.context ≡ evaluated → (b : Before) (q : Output) → item env b i ≡ fine q → map caller_of (call_places_of_item i) ≡ flat_map callers_of_function q.functions
form_callers (struct_item at x ms) env w b q e = (let i = on_fine _ (λ _. fine no_output) q e in none_here q (nothing q i.2))
form_callers (enum_item at x es) env w b q e = (let i = first_fine _ _ (λ _ _. fine no_output) q e in none_here q (nothing q i.4))
form_callers (tag_item at x) env w b q e = (let i = on_fine _ (λ _. fine no_output) q e in none_here q (nothing q i.2))
form_callers (decl_item at d) env w b q e = none_here q (held NoFunctions (file_decl env b d) q (decl_none d env b) e)
form_callers (function_item at class s d body) env w b q e = definition_callers env w b at s d body (declares_function d) (name_of d) q refl e

items_callers : (is : Items) (env : Env) → env.context ≡ evaluated → (b : Before) (q : Output) → items env b is ≡ fine q → map caller_of (call_places is) ≡ flat_map callers_of_function q.functions
items_callers no_items env w b q e = none_here q (nothing q e)
items_callers (more_items i is) env w b q e =
    let inner : Env = behind_item env b i in
    let after : Before = after_item env b i in
    let f = first_fine (item env b i) (items inner after is) (λ p q. fine (with_output p q)) q e in
    callers_append (call_places_of_item i) (call_places is)
    ∙ ap₂ (λ xs ys. xs ++ ys) (form_callers i env w b f.0 f.2) (items_callers is inner (ap (λ k. k.2) (form_kept i env b) ∙ w) after f.1 f.3)
    ∙ sym (flat_map-append callers_of_function f.0.functions f.1.functions)
    ∙ ap (λ (z : Output). flat_map callers_of_function z.functions) (fine_same (with_output f.0 f.1) q f.4)

-- ## Units

-- as many names as sites
program_long : (fs : List Function) → length (flat_map callers_of_function fs) ≡ length (flat_map sites_of_function fs)
program_long [] = refl
program_long (f ∷ fs) =
    length_two (callers_of_function f) (flat_map callers_of_function fs) (sites_of_function f) (flat_map sites_of_function fs) (names_long f.name (sites_of_function f)) (program_long fs)
  where
    length_two : (xs ys : List (List ℕ)) (zs ws : List ℕ) → length xs ≡ length zs → length ys ≡ length ws → length (xs ++ ys) ≡ length (zs ++ ws)
    length_two [] ys [] ws e f = f
    length_two [] ys (z ∷ zs) ws e f = absurd (omega (arith, e))
    length_two (x ∷ xs) ys [] ws e f = absurd (omega (arith, e))
    length_two (x ∷ xs) ys (z ∷ zs) ws e f = ap suc (length_two xs ys zs ws (omega (arith, e)) f)

pub unit_sites : (u : Items) (m : Mode) (p : Program) → IsTyped u m p → AreSitesOf u p
unit_sites u m p e =
    let i = on_fine (items (env_before m u) nothing_before u) (λ q. demand (has_main m u) 9 0 (program_of m u q)) p (items_fine u m p e) in
    let j = demand_fine (has_main m u) 9 0 (program_of m u i.0) p i.2 in
    let callers : map caller_of (call_places u) ≡ callers_of_program p = items_callers u (env_before m u) refl nothing_before i.0 i.1 ∙ ap callers_of_program j.1 in
    record { callers = callers; count = sym (callers_long (call_places u)) ∙ ap length callers ∙ program_long p.functions }
