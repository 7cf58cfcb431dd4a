-- The unit with null calls round its marked calls is typed.
use Rattle.std.proofs.Common.{◌≡◌, ℕ, true, false, List, [], ◌++◌, map, length, unwrap_or, codes, refl, ap, ap₂, sym, subst, ◌∙◌, arith, ◌^◌, ◌&&◌, nat_lt, ◌+◌, ◌*◌, ◌≤◌}
use Rattle.dm_base.specs.declared.mode.Mode.TheVariants.{Plain, Instrumented}
use Rattle.c_tree.specs.Tree.{Program}
use Rattle.c_tree.specs.Program.{IsProgram}
use Rattle.c_syntax.specs.Tree.{Items, Item, struct_item, enum_item, tag_item, decl_item, function_item, no_items, more_items}
use Rattle.c_rules.specs.Checked.{fine, on, demand, met}
use Rattle.c_rules.specs.Codes.{C9, C13}
use Rattle.c_rules.specs.Names.{Name, number_among, is_reserved, each_once}
use Rattle.c_rules.specs.Scopes.{Env, empty_env, binding_of, layout_of, nothing_before, Before}
use Rattle.c_rules.specs.Tags.{tags_of_items}
use Rattle.c_rules.specs.Items.{Output, items, behind_items, after_items, no_output, with_output, struct_definition, tag_declaration, new_enum, enumerators, item, behind_item, after_item}
use Rattle.c_rules.specs.Units.{functions_of, objects_of, tags_of, whole_of, env_before, env_behind, strings_of, is_main_bound, has_main, static_string, program_of, IsTyped, few_names}
use Rattle.c_rules.proofs.CheckedLemmas.{items_fine, names_fine, items_typed}
use Rattle.null_calls_laws.specs.MarkedCalls.{sites_of}
use Rattle.null_calls_laws.specs.Temporaries.{pre_name, post_name}
use Rattle.null_calls_laws.specs.Instrumented as units
use Rattle.null_calls_laws.specs.Instrumented.{instrumented_unit, calls_of_item}
use Rattle.null_calls_laws.specs.IsWithNullCalls.{IsWithNullCalls}
use Rattle.c_rules_laws.proofs.MadeTypes.{defined_at}
use Rattle.c_rules.specs.Scopes.{type_of_member}
use Rattle.null_calls_laws.specs.Spelled.{AreAmong}
use Rattle.null_calls_laws.specs.FileScopes.{FilesBeside, files_beside, at_site}
use Rattle.c_rules_laws.specs.Lexical.{IsUnitLexical}
use Rattle.c_rules_laws.proofs.Holding.{held, on_fine, demand_fine, Holds, both_hold, Any, anything, first_fine, after_part as behind_any, fine_same}
use Rattle.c_rules_laws.proofs.FileScopes.{IsFileRight, Follows, follows_self}
use Rattle.c_rules_laws.proofs.FileItems.{items_step}
use Rattle.c_rules_laws.proofs.UnitScopes.{IsTable}
use Rattle.c_rules_laws.proofs.UnitTable.{table, no_binding, none_defined, before_right}
use Rattle.c_rules_laws.proofs.WholeUnits.{unit_program}
use Rattle.null_calls_laws.specs.AbstractCasts.{UnitNamesNoType}
use Rattle.null_calls_laws.proofs.Declared.{among_right}
use Rattle.null_calls_laws.proofs.Tables.{body_in_table}
use Rattle.null_calls_laws.specs.Functions.{HasFunctions, FunctionFacts, ItemGoes}
use Rattle.null_calls_laws.specs.Units.{InstrumentedUnitsAreTyped, InstrumentedTextsRunMarked}
use Rattle.null_calls_laws.proofs.FileWritten.{IsWrittenFile}
use Rattle.c_rules_laws.proofs.Callers.{NoFunctions, decl_none, form_whole}
use Rattle.null_calls_laws.proofs.Aside.{items_aside}
use Rattle.null_calls_laws.proofs.Facts.{UnitFacts, unit_facts, all_in}
use Rattle.null_calls_laws.proofs.NamesOfUnits.{each_app, each_none, each_has, tags_go, names_same, AllPlain, functions_plain, none_reserved}
use Rattle.null_calls_laws.proofs.Prototypes.{start, new_env, items_start, env_start, strings_start, start_files}
use Rattle.c_rules_laws.proofs.Fine.{spelled_lexical}
use Rattle.null_calls_laws.proofs.Worlds.{instrumented_run_marked}
use Rattle.null_calls_laws.proofs.TagsOfUnits.{spelled_names}
use Rattle.null_calls_laws.specs.InstrumentedPrograms.{instrumented_function}
use Rattle.null_calls_laws.specs.WithoutSites.{unsited_function}
use Rattle.null_calls_laws.proofs.Nodes.{both_gives}
use Rattle.std.proofs.lemmas.List.{map-append}
use Rattle.null_calls_laws.specs.OtherItems.{IsOther}
use Rattle.null_calls_laws.proofs.Items.{other_items_go}
use Rattle.null_calls_laws.proofs.FunctionItems.{function_item_goes}

-- ## Items that define no function

other_none : (i : Item) → IsOther i → (e : Env) (b : Before) → Holds NoFunctions (item e b i)
other_none (struct_item at x ms) o e b = behind_any NoFunctions (struct_definition e x ms) (λ _. fine no_output) (λ _. refl)
other_none (enum_item at x es) o e b = both_hold Any Any NoFunctions (new_enum e x _) (enumerators e (fine _) es) (λ _ _. fine no_output) (anything _) (anything _) (λ _ _ _ _. refl)
other_none (tag_item at x) o e b = behind_any NoFunctions (tag_declaration e x) (λ _. fine no_output) (λ _. refl)
other_none (decl_item at d) o e b = decl_none d e b
other_none (function_item at class s d body) o e b = absurd o

other_goes : (p : Program) (e f : Env) → FilesBeside e f → (b : Before) (n : ℕ) (i : Item) → IsOther i → (out : Output) → n ≤ 3 * b.sites → item e b i ≡ fine out → ItemGoes p e f b n i i out
other_goes p e f w b n i o out few h =
    let goes = other_items_go e f w b n i o out h in
    let none : out.functions ≡ [] = held NoFunctions (item e b i) out (other_none i o e b) h in
    record {
      output = out;
      count = n;
      follows = goes.follows;
      functions = ap (map unsited_function) none ∙ sym (ap (map (instrumented_function p)) none);
      statics = refl;
      files = goes.files;
      after = goes.after;
      few = subst (λ c. n ≤ 3 * c) (sym goes.sites) few;
    }

item_goes : (p : Program) (tags : List Name) (e f : Env) → FilesBeside e f → HasFunctions p e.whole.functions → (b : Before) (n : ℕ) (i : Item) (out : Output) → FunctionFacts p tags e b i → n ≤ 3 * b.sites → b.sites ≤ 10000 → item e b i ≡ fine out
    → ItemGoes p e f b n i (units.item (sites_of p) tags b.sites i) out
item_goes p tags e f w g b n (function_item at class s d body) out facts few low h = function_item_goes p tags e f w g b n at class s d body out facts few low h
item_goes p tags e f w g b n i out facts few low h = other_goes p e f w b n i tt out few h

item_low : (p : Program) (tags : List Name) (e : Env) (b : Before) (i : Item) → FunctionFacts p tags e b i → b.sites ≤ 10000 → b.sites + calls_of_item i ≤ 10000
item_low p tags e b (function_item at class s d body) facts low = facts.3.temporaries.within low
item_low p tags e b i facts low = omega (arith, low)

-- ## All items

pub record ItemsGo (p : Program) (e f : Env) (b : Before) (n : ℕ) (is js : Items) (out : Output) : Type 0 where
  pub output : Output
  pub follows : items f (at_site b n) js ≡ fine output
  pub functions : map unsited_function output.functions ≡ map (instrumented_function p) out.functions
  pub statics : output.statics ≡ out.statics
  pub files : FilesBeside (behind_items e b is) (behind_items f (at_site b n) js)
  pub strings : (after_items f (at_site b n) js).strings ≡ (after_items e b is).strings

pub items_go : (p : Program) (tags : List Name) (is : Items) (e f : Env) → FilesBeside e f → HasFunctions p e.whole.functions → (b : Before) (n : ℕ) (out : Output) → UnitFacts p tags e b is → n ≤ 3 * b.sites → b.sites ≤ 10000 → items e b is ≡ fine out
    → ItemsGo p e f b n is (units.items (sites_of p) tags b.sites is) out
items_go p tags no_items e f w g b n out facts few low h =
    let same : no_output ≡ out = fine_same no_output out h in
    record {
      output = no_output;
      follows = refl;
      functions = ap (λ o. map (instrumented_function p) o.functions) same;
      statics = ap (λ o. o.statics) same;
      files = w;
      strings = refl;
    }
items_go p tags (more_items i is) e f w g b n out facts few low h =
    let inner : Env = behind_item e b i in
    let after : Before = after_item e b i in
    let j : Item = units.item (sites_of p) tags b.sites i in
    let js : Items = units.items (sites_of p) tags (b.sites + calls_of_item i) is in
    let f1 : Env = behind_item f (at_site b n) j in
    let k = first_fine (item e b i) (items inner after is) (λ p q. fine (with_output p q)) out h in
    let goes : ItemGoes p e f b n i j k.0 = item_goes p tags e f w g b n i k.0 facts.0 few low k.2 in
    let still : HasFunctions p inner.whole.functions = subst (HasFunctions p) (sym (ap (λ w. w.functions) (form_whole i e b))) g in
    let below : after.sites ≤ 10000 = subst (λ c. c ≤ 10000) (sym facts.1) (item_low p tags e b i facts.0 low) in
    let later : ItemsGo p inner f1 after goes.count is (units.items (sites_of p) tags after.sites is) k.1 = items_go p tags is inner f1 goes.files still after goes.count k.1 facts.2 goes.few below k.3 in
    let rest : ItemsGo p inner f1 after goes.count is js k.1 = subst (λ c. ItemsGo p inner f1 after goes.count is (units.items (sites_of p) tags c is) k.1) facts.1 later in
    let same : with_output k.0 k.1 ≡ out = fine_same (with_output k.0 k.1) out k.4 in
    record {
      output = with_output goes.output rest.output;
      follows = both_gives (item f (at_site b n) j) (items f1 (after_item f (at_site b n) j) js) (λ p q. fine (with_output p q)) goes.output rest.output goes.follows (ap (λ c. items f1 c js) goes.after ∙ rest.follows);
      functions =
          map-append unsited_function goes.output.functions rest.output.functions
          ∙ (ap₂ (λ xs ys. xs ++ ys) goes.functions rest.functions
          ∙ (sym (map-append (instrumented_function p) k.0.functions k.1.functions) ∙ ap (λ o. map (instrumented_function p) o.functions) same));
      statics = ap₂ (λ xs ys. xs ++ ys) goes.statics rest.statics ∙ ap (λ o. o.statics) same;
      files = subst (λ c. FilesBeside (behind_items inner after is) (behind_items f1 c js)) (sym goes.after) rest.files;
      strings = ap (λ c. (after_items f1 c js).strings) goes.after ∙ rest.strings;
    }

-- ## Before all items

before_written : (u : Items) → IsWrittenFile (tags_of u) [] (env_before Plain u)
before_written u = record { plain = refl; tags_are = refl; has = record { names = λ x b e. absurd (no_binding x b e); members = λ s ms e. absurd (none_defined (length (tags_of u)) s (map type_of_member ms) (defined_at (env_before Plain u) s ms e)) } }

-- ## Scopes beside each other

same_binding : (e f : Env) → FilesBeside e f → (x : Name) → is_reserved x ≡ false → binding_of f x ≡ binding_of e x
same_binding e f (files_beside env w p q l) x u = q x u

same_layout : (e f : Env) → FilesBeside e f → layout_of f ≡ layout_of e
same_layout e f (files_beside env w p q l) = refl

-- ## The unit

module _ (u : Items) (out : Output) (lexical : IsUnitLexical u) (names : UnitNamesNoType u) (few : few_names u ≡ fine met) (typed : items (env_before Plain u) nothing_before u ≡ fine out) (main : has_main Plain u ≡ true) (n : ℕ) (program : IsProgram (program_of Plain u out) n) where
  abbrev later : Items
  later = units.items (sites_of (program_of Plain u out)) (tags_of u) 0 u

  abbrev new_unit : Items
  new_unit = instrumented_unit (program_of Plain u out) u

  abbrev S : List Name
  S = each_once [] (tags_of_items true u)

  same_tags : tags_of_items true u ≡ tags_of_items false u
  same_tags = held (λ _. tags_of_items true u ≡ tags_of_items false u) (items (env_before Plain u) nothing_before u) out (items_aside u (env_before Plain u) refl names nothing_before) typed

  step : IsFileRight (env_behind Plain u) × Follows (env_before Plain u) (env_behind Plain u)
  step = items_step u (env_before Plain u) nothing_before out (before_right (whole_of Plain u)) lexical typed

  the_table : IsTable (program_of Plain u out) (env_behind Plain u)
  the_table = table Plain u out lexical typed

  facts : UnitFacts (program_of Plain u out) (tags_of u) (env_before Plain u) nothing_before u
  facts =
      unit_facts (program_of Plain u out) (tags_of u) (env_behind Plain u) the_table u (env_before Plain u) (before_right (whole_of Plain u)) (before_written u) nothing_before out
      (among_right (tags_of u) (tags_of_items true u) (tags_of_items false u) (each_has [] (tags_of_items true u ++ tags_of_items false u)).1) names lexical typed (follows_self (env_behind Plain u))
      (all_in (program_of Plain u out) out.functions (body_in_table (program_of Plain u out) n program))

  -- its tags
  among_true : AreAmong S (tags_of_items true u)
  among_true = (each_has [] (tags_of_items true u)).1

  among_false : AreAmong S (tags_of_items false u)
  among_false = subst (AreAmong S) same_tags among_true

  tags_here : tags_of u ≡ S
  tags_here = each_app [] (tags_of_items true u) (tags_of_items false u) ∙ each_none S (tags_of_items false u) among_false

  gone : (tags_of_items true later ≡ tags_of_items true u) × AreAmong S (tags_of_items false later)
  gone = tags_go (program_of Plain u out) (tags_of u) u (env_before Plain u) nothing_before facts S among_false tt

  tags_stay : tags_of new_unit ≡ tags_of u
  tags_stay =
      ap (λ ts. each_once [] (ts ++ tags_of_items false later)) gone.0
      ∙ (each_app [] (tags_of_items true u) (tags_of_items false later) ∙ (each_none S (tags_of_items false later) gone.1 ∙ sym tags_here))

  functions_stay : functions_of new_unit ≡ functions_of u
  functions_stay = (names_same (sites_of (program_of Plain u out)) (tags_of u) u 0).0

  objects_stay : objects_of new_unit ≡ objects_of u
  objects_stay = (names_same (sites_of (program_of Plain u out)) (tags_of u) u 0).1

  whole_stays : whole_of Instrumented new_unit ≡ record (whole_of Plain u) { mode = Instrumented }
  whole_stays = λ i. record { mode = Instrumented; functions = functions_stay i; objects = objects_stay i; tags = tags_stay i }

  -- its functions
  plain_names : AllPlain (functions_of u)
  plain_names = held (λ _. AllPlain (functions_of u)) (items (env_before Plain u) nothing_before u) out (functions_plain u (env_before Plain u) refl nothing_before) typed

  has_functions : HasFunctions (program_of Plain u out) (functions_of u)
  has_functions = record {
    long = sym (the_table.long ∙ ap (λ w. length w.functions) step.1.whole);
    pre_free = none_reserved pre_name (functions_of u) refl plain_names;
    post_free = none_reserved post_name (functions_of u) refl plain_names;
  }

  goes : ItemsGo (program_of Plain u out) (env_before Plain u) (start (whole_of Plain u)) nothing_before 0 u later out
  goes = items_go (program_of Plain u out) (tags_of u) u (env_before Plain u) (start (whole_of Plain u)) (start_files (whole_of Plain u) refl) has_functions nothing_before 0 out facts (omega arith) (omega arith) typed

  env_is : env_before Instrumented new_unit ≡ new_env (whole_of Plain u)
  env_is = ap (λ w. empty_env w) whole_stays

  new_items : items (env_before Instrumented new_unit) nothing_before new_unit ≡ fine goes.output
  new_items = ap (λ e. items e nothing_before new_unit) env_is ∙ items_start (whole_of Plain u) nothing_before later goes.output goes.follows

  behind_is : env_behind Instrumented new_unit ≡ behind_items (start (whole_of Plain u)) nothing_before later
  behind_is = ap (λ e. behind_items e nothing_before new_unit) env_is ∙ env_start (whole_of Plain u) nothing_before later

  strings_stay : strings_of Instrumented new_unit ≡ strings_of Plain u
  strings_stay = ap (λ e. (after_items e nothing_before new_unit).strings) env_is ∙ (strings_start (whole_of Plain u) nothing_before later ∙ goes.strings)

  main_stays : has_main Instrumented new_unit ≡ true
  main_stays =
      ap (λ e. is_main_bound (binding_of e (codes "main"))) behind_is
      ∙ (ap is_main_bound (same_binding (env_behind Plain u) (behind_items (start (whole_of Plain u)) nothing_before later) goes.files (codes "main") refl) ∙ main)

  layout_stays : layout_of (env_behind Instrumented new_unit) ≡ layout_of (env_behind Plain u)
  layout_stays = ap layout_of behind_is ∙ same_layout (env_behind Plain u) (behind_items (start (whole_of Plain u)) nothing_before later) goes.files

  few_stay : few_names new_unit ≡ fine met
  few_stay =
      (λ i. demand (nat_lt (length (functions_stay i)) (2 ^ 31) && (nat_lt (length (objects_stay i)) (2 ^ 31) && nat_lt (length (tags_stay i)) (2 ^ 31))) C13 0 met) ∙ few

  new_typed : IsTyped new_unit Instrumented (program_of Instrumented new_unit goes.output)
  new_typed =
      items_typed new_unit Instrumented (program_of Instrumented new_unit goes.output) few_stay
      (ap (λ r. on r (λ o. demand (has_main Instrumented new_unit) C9 0 (program_of Instrumented new_unit o))) new_items
      ∙ ap (λ t. demand t C9 0 (program_of Instrumented new_unit goes.output)) main_stays)

  new_null_calls : IsWithNullCalls (program_of Plain u out) (program_of Instrumented new_unit goes.output)
  new_null_calls =
      let statics = ap₂ (λ ss ws. ss ++ map static_string ws) goes.statics strings_stay in
      λ i. record { structs = layout_stays i; functions = goes.functions i; main = unwrap_or (number_among (functions_stay i) (codes "main")) 0; statics = statics i }

  pub unit_goes : (q : Program) × IsTyped (instrumented_unit (program_of Plain u out) u) Instrumented q × IsWithNullCalls (program_of Plain u out) q
  unit_goes = (program_of Instrumented new_unit goes.output, new_typed, new_null_calls)

pub instrumented_units_typed : InstrumentedUnitsAreTyped
instrumented_units_typed u p lexical names typed =
    let i = on_fine (items (env_before Plain u) nothing_before u) (λ q. demand (has_main Plain u) C9 0 (program_of Plain u q)) p (items_fine u Plain p typed) in
    let j = demand_fine (has_main Plain u) C9 0 (program_of Plain u i.0) p i.2 in
    let program : IsProgram (program_of Plain u i.0) (after_items (env_before Plain u) nothing_before u).sites = subst (λ z. IsProgram z (after_items (env_before Plain u) nothing_before u).sites) (sym j.1) (unit_program u Plain p lexical typed) in
    subst (λ z. (q : Program) × IsTyped (instrumented_unit z u) Instrumented q × IsWithNullCalls z q) j.1 (unit_goes u i.0 lexical names (names_fine u Plain p typed) i.1 j.0 (after_items (env_before Plain u) nothing_before u).sites program)

-- what is known of the bodies of a typed unit
pub typed_facts : (u : Items) (p : Program) → IsUnitLexical u → UnitNamesNoType u → IsTyped u Plain p → UnitFacts p (tags_of u) (env_before Plain u) nothing_before u
typed_facts u p lexical names typed =
    let i = on_fine (items (env_before Plain u) nothing_before u) (λ q. demand (has_main Plain u) C9 0 (program_of Plain u q)) p (items_fine u Plain p typed) in
    let j = demand_fine (has_main Plain u) C9 0 (program_of Plain u i.0) p i.2 in
    let program : IsProgram (program_of Plain u i.0) (after_items (env_before Plain u) nothing_before u).sites = subst (λ z. IsProgram z (after_items (env_before Plain u) nothing_before u).sites) (sym j.1) (unit_program u Plain p lexical typed) in
    subst (λ z. UnitFacts z (tags_of u) (env_before Plain u) nothing_before u) j.1 (facts u i.0 lexical names (names_fine u Plain p typed) i.1 j.0 (after_items (env_before Plain u) nothing_before u).sites program)

pub texts_run_marked : InstrumentedTextsRunMarked
texts_run_marked text tokens u p spells reads typed =
    let lexical = spelled_lexical text Plain tokens u spells reads in
    let x = instrumented_units_typed u p lexical (spelled_names reads) typed in
    (x.0, x.1, x.2, λ records turns. instrumented_run_marked p x.0 (after_items (env_before Plain u) nothing_before u).sites (unit_program u Plain p lexical typed) x.2 records turns)
