-- The generated unit is typed as the program in closed form.
use Rattle.std.proofs.Common.{◌≡◌, ℕ, zero, suc, ◌+◌, ◌<◌, Bool, true, false, List, [], ◌∷◌, ◌++◌, map, Option, Some, codes, refl, ap, ap₂, subst, ◌∙◌, arith, ◌^◌, ◌&&◌, length, nat_lt}
use Rattle.std.specs.Prelude.{unwrap_or, ◌/◌}
use Rattle.std.proofs.lemmas.Nat.{mod_below}
use Rattle.std.proofs.lemmas.Bool.{lt-ltb}
use Rattle.dm_base.specs.declared.mode.Mode.TheVariants.{Plain}
use Rattle.sys_table.specs.Table.{table}
use Rattle.c_tree.specs.Functions.{int}
use Rattle.c_tree.specs.Tree.{Function, Program}
use Rattle.c_tree.specs.Tree as typed
use Rattle.c_syntax.specs.Tree.{BlockItems, block_decl, block_stmt, Items, more_items}
use Rattle.c_rules.specs.Checked.{Checked, fine, on, demand, Met, met}
use Rattle.c_rules.specs.Codes.{C9, C13}
use Rattle.c_rules.specs.Names.{Name, number_among, each_once}
use Rattle.c_rules.specs.Scopes.{Whole, Env, Before, empty_env, nothing_before, binding_of, layout_of}
use Rattle.c_rules.specs.Tags.{tags_of_items}
use Rattle.c_rules.specs.Blocks.{bare}
use Rattle.c_rules.specs.Items.{Output, no_output, items, behind_items, after_items, output_of_function}
use Rattle.c_rules.specs.Units.{functions_of, objects_of, tags_of, whole_of, is_main_bound, static_string, IsTyped}
use Rattle.generated_program.specs.Generator.{drawn, called_by, system_call_by, function_name, first_function, later_function, main_function, functions_behind, main_items, generated_unit, prototype, and_call, return_zero, counter, counted_loop}
use Rattle.generated_program.specs.Typed.{getpid_number, system_number_by, typed_call, typed_return, typed_loop, call_site, system_site, typed_first, typed_later, typed_main, typed_behind, generated_functions, generated_program}
use Rattle.generated_program.proofs.Names.{not_given}
use Rattle.generated_program.proofs.Scopes.{all_names, names_behind, known, scope, at_site, function_bound, bindings, declared, main_numbered, not_found, main_not_found, counter_not_found, not_declared, main_not_declared, length_declared, IsCalled, called_behind, function_called, getpid_called, system_called, length_all}
use Rattle.generated_program.proofs.Bodies.{counter_bound, call_and_return_given, calls_given, main_given}
use Rattle.generated_program.proofs.Definitions.{IsItem, AreItems, one_item, item_and_items, getpid_declared, getppid_declared, IsNew, defined_so}

abbrev only : List Function → Output
only fs = record { functions = fs; statics = [] }

module _ (number last : ℕ) (small : last < 500) where
  abbrev fs : List Name
  fs = all_names last

  abbrev scope_behind : ℕ → Env
  scope_behind i = scope fs (bindings i) 0 (declared i)

  -- ## The first function

  first_new : IsNew (function_bound (codes "getppid") false ∷ function_bound (codes "getpid") false ∷ []) (codes "getpid" ∷ codes "getppid" ∷ []) (function_name 0)
  first_new = record { allowed = refl; not_given = not_given 0 (omega arith); not_bound = refl; not_declared = refl; few = omega arith }

  first_defined : IsItem (scope fs (function_bound (codes "getppid") false ∷ function_bound (codes "getpid") false ∷ []) 0 (codes "getpid" ∷ codes "getppid" ∷ [])) (at_site 0) first_function (output_of_function (typed_first last)) (scope_behind 0) (at_site 1)
  first_defined =
      defined_so fs (function_bound (codes "getppid") false ∷ function_bound (codes "getpid") false ∷ []) (codes "getpid" ∷ codes "getppid" ∷ []) (function_name 0) first_new
      (and_call (codes "getpid") return_zero) 0 (bare (typed.more_stmts (typed_call 0 (getpid_number last)) typed_return)) refl refl (λ f. refl)
      (call_and_return_given fs (bindings 0) 1 (declared 0) (record { plain = 0; added = 0 }) 0 (getpid_number last) (codes "getpid") (getpid_called last 0) (omega arith)) refl

  -- ## Later functions

  later_new : (i : ℕ) → i < last → IsNew (bindings i) (declared i) (function_name (suc i))
  later_new i below = record {
    allowed = refl;
    not_given = not_given (suc i) (omega (arith, below, small));
    not_bound = not_found i (suc i) (omega arith) (omega (arith, below, small));
    not_declared = not_declared i (suc i) (omega arith) (omega (arith, below, small));
    few = let k = length_declared i in omega (arith, k, below, small);
  }

  later_defined : (i x : ℕ) → i < last → IsItem (scope_behind i) (at_site (call_site i)) (later_function x (suc i)) (output_of_function (typed_later last x i)) (scope_behind (suc i)) (at_site (call_site (suc i)))
  later_defined i x below =
      let callee : ℕ = called_by x (suc i) in
      let before : callee < suc i = mod_below (x / 65536) (suc i) (omega arith) in
      let body : BlockItems = and_call (function_name callee) (and_call (system_call_by x) return_zero) in
      let next : i + i + 1 + 1 ≡ i + i + 2 = omega arith in
      let after : i + i + 1 + 2 ≡ suc i + suc i + 1 = omega arith in
      let typed_body =
      calls_given fs (bindings (suc i)) 1 (declared (suc i)) (record { plain = 0; added = 0 }) (call_site i) callee (system_number_by last x) (function_name callee) (system_call_by x) (function_called last (suc i) callee (omega (arith, before)) (omega (arith, below)) small) (system_called last (suc i) x) (omega (arith, below, small))
      ∙ ap (λ s. fine (bare (typed.more_stmts (typed_call (call_site i) callee) (typed.more_stmts (typed_call s (system_number_by last x)) typed_return)))) next in
      subst (λ s. IsItem (scope_behind i) (at_site (call_site i)) (later_function x (suc i)) (output_of_function (typed_later last x i)) (scope_behind (suc i)) (at_site s)) after
      (defined_so fs (bindings i) (declared i) (function_name (suc i)) (later_new i below) body (call_site i) (bare (typed.more_stmts (typed_call (call_site i) callee) (typed.more_stmts (typed_call (system_site i) (system_number_by last x)) typed_return))) refl refl (λ f. refl) typed_body refl)

  -- ## main

  main_new : IsNew (bindings last) (declared last) (codes "main")
  unfolding table
  main_new = record {
    allowed = refl;
    not_given = refl;
    not_bound = main_not_found last;
    not_declared = main_not_declared last;
    few = let k = length_declared last in omega (arith, k, small);
  }

  abbrev scope_at_end : Env
  scope_at_end = scope fs (function_bound (codes "main") true ∷ bindings last) 0 (declared last ++ (codes "main" ∷ []))

  last_called : IsCalled fs (counter_bound ∷ function_bound (codes "main") true ∷ bindings last) (function_name last) last
  last_called =
      called_behind fs counter_bound (function_bound (codes "main") true ∷ bindings last) (function_name last) last refl
      (called_behind fs (function_bound (codes "main") true) (bindings last) (function_name last) last refl (function_called last last last (omega arith) (omega arith) small))

  main_defined : IsItem (scope_behind last) (at_site (call_site last)) (main_function last) (output_of_function (typed_main last)) scope_at_end (at_site (call_site last + 1))
  main_defined =
      defined_so fs (bindings last) (declared last) (codes "main") main_new (block_decl counter (block_stmt (counted_loop (last + 1) (function_name last)) return_zero)) (call_site last)
      (record { tree = typed.more_stmts (typed.declare 0 typed.no_inits) (typed.more_stmts (typed_loop (last + 1) (call_site last) last) typed_return); plain = int ∷ []; added = [] }) refl refl (λ f. refl)
      (main_given fs (function_bound (codes "main") true ∷ bindings last) (declared last ++ (codes "main" ∷ [])) 1 (call_site last) last (last + 1) (function_name last) (omega (arith, small)) (counter_not_found last) last_called (omega (arith, small))) refl

  -- ## All items

  behind_typed : (i count : ℕ) → i + count ≡ last
      → AreItems (scope_behind i) (at_site (call_site i)) (functions_behind number i count (main_items last)) (only (typed_behind number last i count (typed_main last ∷ []))) scope_at_end (at_site (call_site last + 1))
  behind_typed i zero e =
      let same : last ≡ i = omega (arith, e) in
      subst (λ k. AreItems (scope_behind k) (at_site (call_site k)) (main_items last) (only (typed_main last ∷ [])) scope_at_end (at_site (call_site last + 1))) same
      (one_item (scope_behind last) (at_site (call_site last)) (main_function last) (output_of_function (typed_main last)) scope_at_end (at_site (call_site last + 1)) main_defined)
  behind_typed i (suc count) e =
      item_and_items (scope_behind i) (at_site (call_site i)) (later_function (drawn number (suc i)) (suc i)) (output_of_function (typed_later last (drawn number (suc i)) i)) (scope_behind (suc i)) (at_site (call_site (suc i))) (functions_behind number (suc i) count (main_items last)) (only (typed_behind number last (suc i) count (typed_main last ∷ []))) scope_at_end (at_site (call_site last + 1))
      (later_defined i (drawn number (suc i)) (omega (arith, e))) (behind_typed (suc i) count (omega (arith, e)))

  all_typed : AreItems (empty_env (known fs)) nothing_before (generated_unit number last) (only (generated_functions number last)) scope_at_end (at_site (call_site last + 1))
  all_typed =
      let later : Items = functions_behind number 0 last (main_items last) in
      let two : Env = scope fs (function_bound (codes "getppid") false ∷ function_bound (codes "getpid") false ∷ []) 0 (codes "getpid" ∷ codes "getppid" ∷ []) in
      let end : Before = at_site (call_site last + 1) in
      item_and_items (empty_env (known fs)) nothing_before (prototype (codes "getpid")) no_output (scope fs (function_bound (codes "getpid") false ∷ []) 0 (codes "getpid" ∷ [])) (at_site 0) (more_items (prototype (codes "getppid")) (more_items first_function later)) (only (generated_functions number last)) scope_at_end end (getpid_declared fs)
      (item_and_items (scope fs (function_bound (codes "getpid") false ∷ []) 0 (codes "getpid" ∷ [])) (at_site 0) (prototype (codes "getppid")) no_output two (at_site 0) (more_items first_function later) (only (generated_functions number last)) scope_at_end end (getppid_declared fs)
      (item_and_items two (at_site 0) first_function (output_of_function (typed_first last)) (scope_behind 0) (at_site 1) later (only (typed_behind number last 0 last (typed_main last ∷ []))) scope_at_end end first_defined (behind_typed 0 last (omega arith))))

-- ## What is known of the whole unit

functions_are : (number last i count : ℕ) → functions_of (functions_behind number i count (main_items last)) ≡ names_behind i count (codes "main" ∷ [])
functions_are number last i zero = refl
functions_are number last i (suc count) = ap (λ ws. function_name (suc i) ∷ ws) (functions_are number last (suc i) count)

objects_are : (number last i count : ℕ) → objects_of (functions_behind number i count (main_items last)) ≡ []
objects_are number last i zero = refl
objects_are number last i (suc count) = objects_are number last (suc i) count

tags_are : (number last i count : ℕ) (aside : Bool) → tags_of_items aside (functions_behind number i count (main_items last)) ≡ []
tags_are number last i zero true = refl
tags_are number last i zero false = refl
tags_are number last i (suc count) aside = tags_are number last (suc i) count aside

no_tags : (number last : ℕ) (aside : Bool) → tags_of_items aside (generated_unit number last) ≡ []
no_tags number last true = tags_are number last 0 last true
no_tags number last false = tags_are number last 0 last false

whole_known : (number last : ℕ) → whole_of Plain (generated_unit number last) ≡ known (all_names last)
whole_known number last =
    ap₂ (λ ws os. record { mode = Plain; functions = function_name 0 ∷ ws; objects = os; tags = tags_of (generated_unit number last) }) (functions_are number last 0 last) (objects_are number last 0 last)
    ∙ ap₂ (λ vs ws. record { mode = Plain; functions = all_names last; objects = []; tags = each_once [] (vs ++ ws) }) (no_tags number last true) (no_tags number last false)

-- the limits on so many functions, objects and structs
abbrev few_by : (functions objects tags : ℕ) → Checked Met
few_by functions objects tags = demand (nat_lt functions (2 ^ 31) && (nat_lt objects (2 ^ 31) && nat_lt tags (2 ^ 31))) C13 0 met

-- the check of a unit of which this is known
abbrev checked_by : Whole → Items → Checked Program
checked_by w u =
    on (few_by (length w.functions) (length w.objects) (length w.tags)) (λ _. on (items (empty_env w) nothing_before u) (λ p. demand (is_main_bound (binding_of (behind_items (empty_env w) nothing_before u) (codes "main"))) C9 0 (record {
      structs = layout_of (behind_items (empty_env w) nothing_before u);
      functions = p.functions;
      main = unwrap_or (number_among (functions_of u) (codes "main")) 0;
      statics = p.statics ++ map static_string (after_items (empty_env w) nothing_before u).strings;
    })))

abbrev checked_of : Checked Output → Env → Before → Option ℕ → Checked Program
checked_of r e b main =
    on r (λ p. demand (is_main_bound (binding_of e (codes "main"))) C9 0 (record { structs = layout_of e; functions = p.functions; main = unwrap_or main 0; statics = p.statics ++ map static_string b.strings }))

pub generated_typed : (number last : ℕ) → last < 500 → IsTyped (generated_unit number last) Plain (generated_program number last)
generated_typed number last small =
    let u : Items = generated_unit number last in
    let e : Env = empty_env (known (all_names last)) in
    let h = all_typed number last small in
    let numbered : number_among (functions_of u) (codes "main") ≡ Some (suc last) = ap (λ ws. number_among (function_name 0 ∷ ws) (codes "main")) (functions_are number last 0 last) ∙ main_numbered last in
    let one : suc last ≡ last + 1 = omega arith in
    let few : nat_lt (length (all_names last)) (2 ^ 31) ≡ true = (let k = length_all last in lt-ltb (length (all_names last)) (2 ^ 31) (omega (arith, k, small))) in
    ap (λ w. checked_by w u) (whole_known number last)
    ∙ ap (λ t. on (demand (t && true) C13 0 met) (λ _. checked_of (items e nothing_before u) (behind_items e nothing_before u) (after_items e nothing_before u) (number_among (functions_of u) (codes "main")))) few
    ∙ ap₂ (λ r f. checked_of r f (after_items e nothing_before u) (number_among (functions_of u) (codes "main"))) h.gives h.known
    ∙ ap₂ (λ b m. checked_of (fine (only (generated_functions number last))) (scope_at_end number last small) b m) h.before numbered
    ∙ ap (λ k. fine (record { structs = []; functions = generated_functions number last; main = k; statics = [] })) one
