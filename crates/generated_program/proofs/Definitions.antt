-- What the items of the generated unit give, and what is known behind them.
use Rattle.std.proofs.Common.{◌≡◌, ℕ, ◌+◌, ◌<◌, Bool, true, false, ◌||◌, List, [], ◌∷◌, ◌++◌, length, Option, None, codes, refl, ap, ap₂, ◌∙◌}
use Rattle.std.specs.Prelude.{nat_le, nat_lt, if◌then◌else◌}
use Rattle.std.proofs.lemmas.Bool.{lt-ltb}
use Rattle.dm_base.specs.declared.mode.Mode.TheVariants.{Plain}
use Rattle.sys_table.specs.Table.{table}
use Rattle.c_tree.specs.Functions.{sys_types, int, of_none}
use Rattle.c_tree.specs.Layout.{cells_of_all}
use Rattle.c_tree.specs.Tree.{Function}
use Rattle.c_tree.specs.Tree as typed
use Rattle.c_syntax.specs.Tree.{BlockItems, Item, Items, no_items, more_items}
use Rattle.c_syntax.specs.Tree as syntax
use Rattle.c_rules.specs.Checked.{Checked, fine, on, both, demand, and_also, met, parts_first}
use Rattle.c_rules.specs.Codes.{C2, C3, C11, C12, C13}
use Rattle.c_rules.specs.Names.{Name, number_among, is_among, system_calls, may_be_declared}
use Rattle.c_rules.specs.Scopes.{Binding, Meaning, a_function, Env, empty_env, lookup, at_depth, inside, Before, nothing_before}
use Rattle.c_rules.specs.Counts.{past}
use Rattle.c_rules.specs.Tags.{tags_of_block}
use Rattle.c_rules.specs.Variables.{first_numbers, names_of_block, calls_of_block}
use Rattle.c_rules.specs.Blocks.{StatementTree, held_by_block}
use Rattle.c_rules.specs.Statements.{items_of_block}
use Rattle.c_rules.specs.Functions.{given_as, may_follow_function, is_defined_by, is_few, behind_function, function_declared, function_laid, defined_as}
use Rattle.c_rules.specs.Items.{Output, no_output, with_output, output_of_function, item, behind_item, after_item, with_tags, items, behind_items, after_items}
use Rattle.generated_program.specs.Generator.{ident, of_void, prototype, definition}
use Rattle.generated_program.proofs.Scopes.{known, scope, at_site, function_bound}
use Rattle.generated_program.proofs.Bodies.{in_function}

-- ## Items one after another

-- what an item gives, what is known behind it, and how much stands before what follows it
pub record IsItem (e : Env) (b : Before) (i : Item) (p : Output) (behind : Env) (after : Before) : Type 0 where
  pub gives : item e b i ≡ fine p
  pub known : behind_item e b i ≡ behind
  pub before : after_item e b i ≡ after

-- the same of items
pub record AreItems (e : Env) (b : Before) (is : Items) (p : Output) (behind : Env) (after : Before) : Type 0 where
  pub gives : items e b is ≡ fine p
  pub known : behind_items e b is ≡ behind
  pub before : after_items e b is ≡ after

pub one_item : (e : Env) (b : Before) (i : Item) (p : Output) (behind : Env) (after : Before) → IsItem e b i p behind after → AreItems e b (more_items i no_items) (with_output p no_output) behind after
one_item e b i p behind after h = record {
  gives = ap (λ r. both r (fine no_output) (λ p q. fine (with_output p q))) h.gives;
  known = h.known;
  before = h.before;
}

pub item_and_items : (e : Env) (b : Before) (i : Item) (p : Output) (f : Env) (c : Before) (is : Items) (q : Output) (behind : Env) (after : Before)
    → IsItem e b i p f c → AreItems f c is q behind after → AreItems e b (more_items i is) (with_output p q) behind after
item_and_items e b i p f c is q behind after h k = record {
  gives =
      ap (λ r. both r (items (behind_item e b i) (after_item e b i) is) (λ p q. fine (with_output p q))) h.gives
      ∙ ap₂ (λ g d. both (fine p) (items g d is) (λ p q. fine (with_output p q))) h.known h.before
      ∙ ap (λ r. both (fine p) r (λ p q. fine (with_output p q))) k.gives;
  known = ap₂ (λ g d. behind_items g d is) h.known h.before ∙ k.known;
  before = ap₂ (λ g d. after_items g d is) h.known h.before ∙ k.before;
}

-- ## Prototypes

pub getpid_declared : (fs : List Name)
    → IsItem (empty_env (known fs)) nothing_before (prototype (codes "getpid")) no_output (scope fs (function_bound (codes "getpid") false ∷ []) 0 (codes "getpid" ∷ [])) (at_site 0)
unfolding table sys_types
getpid_declared fs = record { gives = refl; known = refl; before = refl }

pub getppid_declared : (fs : List Name)
    → IsItem (scope fs (function_bound (codes "getpid") false ∷ []) 0 (codes "getpid" ∷ [])) (at_site 0) (prototype (codes "getppid")) no_output
    (scope fs (function_bound (codes "getppid") false ∷ function_bound (codes "getpid") false ∷ []) 0 (codes "getpid" ∷ codes "getppid" ∷ [])) (at_site 0)
unfolding table sys_types
getppid_declared fs = record { gives = refl; known = refl; before = refl }

-- ## Definitions

-- a function may be defined by the name
pub record IsNew (bs : List Binding) (ds : List Name) (x : Name) : Type 0 where
  pub allowed : may_be_declared Plain x ≡ true
  pub not_given : number_among system_calls x ≡ None
  pub not_bound : lookup bs x ≡ None
  pub not_declared : is_among ds x ≡ false
  pub few : length ds < 4096

abbrev meaning_by : Env → Bool → Option ℕ → Option Binding → Bool → Checked Meaning
meaning_by e allowed given o few =
    on (and_also (demand allowed C12 0 met)
    (and_also (demand (given_as e true (of_none int) given) C11 0 met)
    (and_also (demand (may_follow_function true (of_none int) (at_depth 0 o)) C2 0 met) (demand few C13 0 met))))
    (λ _. fine (a_function (of_none int) (is_defined_by true (at_depth 0 o))))

module _ (fs : List Name) (bs : List Binding) (ds : List Name) (x : Name) (new : IsNew bs ds x) where
  abbrev e : Env
  e = scope fs bs 0 ds

  abbrev e_behind : Env
  e_behind = scope fs (function_bound x true ∷ bs) 0 (ds ++ (x ∷ []))

  abbrev meant : Meaning
  meant = a_function (of_none int) true

  few_declared : is_few e x ≡ true
  few_declared = ap (λ b. b || nat_lt (length ds) 4096) new.not_declared ∙ lt-ltb (length ds) 4096 new.few

  name_meant : function_declared e true 0 syntax.int (of_void x) (ident x) ≡ fine meant
  name_meant =
      ap₂ (λ a g. meaning_by e a g (lookup bs x) (is_few e x)) new.allowed new.not_given ∙ ap₂ (λ o c. meaning_by e true None o c) new.not_bound few_declared

  module _ (is : BlockItems) where
    behind : (b : Before) → tags_of_block false is ≡ [] → behind_item e b (definition x is) ≡ e_behind
    behind b tagless =
        ap (λ r. with_tags (behind_function e x r) (definition x is)) name_meant
        ∙ ap (λ t. with_tags (scope fs (function_bound x true ∷ bs) 0 (if t then ds else ds ++ (x ∷ []))) (definition x is)) new.not_declared
        ∙ ap (λ w. record e_behind { tags = w ++ [] }) tagless

    after : (s : ℕ) → ((f : Env) → held_by_block f (first_numbers 0 is) is ≡ []) → after_item e (at_site s) (definition x is) ≡ at_site (s + calls_of_block is)
    after s held = ap (λ w. past (at_site s) (calls_of_block is) w) (held (inside (behind_function e x (function_declared e true 0 syntax.int (of_void x) (ident x)))))

    module _ (b : Before) (p : StatementTree typed.Stmts) where
      abbrev made : Function
      made = record { name = x; ctype = of_none int; variables = p.plain ++ p.added; body = typed.block p.tree }

      given : nat_le (0 + length (names_of_block is)) 65536 ≡ true → items_of_block (inside e_behind) in_function b (first_numbers 0 is) is ≡ fine p → nat_le (cells_of_all [] (p.plain ++ p.added)) 65536 ≡ true → item e b (definition x is) ≡ fine (output_of_function made)
      given few body small =
          ap (λ r. both r (on (fine (of_none int)) (defined_as (behind_function e x r) b 0 (of_void x) (ident x) is)) (λ _ f. fine (output_of_function f))) name_meant
          ∙ ap (λ t. both (fine meant) (defined_as (scope fs (function_bound x true ∷ bs) 0 (if t then ds else ds ++ (x ∷ []))) b 0 (of_void x) (ident x) is (of_none int)) (λ _ f. fine (output_of_function f))) new.not_declared
          ∙ ap (λ t. both (fine meant) (on (demand t C13 0 met) (λ _. parts_first (items_of_block (inside e_behind) in_function b (first_numbers 0 is) is) (both (demand true C3 0 met) (items_of_block (inside e_behind) in_function b (first_numbers 0 is) is) (λ _ p. function_laid e_behind (ident x) int typed.no_types p)))) (λ _ f. fine (output_of_function f))) few
          ∙ ap (λ r. both (fine meant) (parts_first r (both (demand true C3 0 met) r (λ _ p. function_laid e_behind (ident x) int typed.no_types p))) (λ _ f. fine (output_of_function f))) body
          ∙ ap (λ t. both (fine meant) (parts_first (fine p) (demand t C13 0 made)) (λ _ f. fine (output_of_function f))) small

  -- a definition with a body that is typed, and has no tags and no strings
  pub defined_so : (is : BlockItems) (s : ℕ) (p : StatementTree typed.Stmts) → nat_le (0 + length (names_of_block is)) 65536 ≡ true → tags_of_block false is ≡ [] → ((f : Env) → held_by_block f (first_numbers 0 is) is ≡ [])
      → items_of_block (scope fs (function_bound x true ∷ bs) 1 (ds ++ (x ∷ []))) in_function (at_site s) (first_numbers 0 is) is ≡ fine p → nat_le (cells_of_all [] (p.plain ++ p.added)) 65536 ≡ true
      → IsItem (scope fs bs 0 ds) (at_site s) (definition x is) (output_of_function (record { name = x; ctype = of_none int; variables = p.plain ++ p.added; body = typed.block p.tree }))
      (scope fs (function_bound x true ∷ bs) 0 (ds ++ (x ∷ []))) (at_site (s + calls_of_block is))
  defined_so is s p few tagless held body small = record { gives = given is (at_site s) p few body small; known = behind is (at_site s) tagless; before = after is s held }
