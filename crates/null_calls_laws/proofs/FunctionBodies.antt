-- The body of a function with its temporaries declared before it, beside the plain one.
use Rattle.std.proofs.Common.{◌≡◌, ℕ, suc, ◌+◌, ◌*◌, ◌≤◌, true, List, [], ◌∷◌, ◌++◌, map, length, length-append, append_assoc, append-nil, nat_le, refl, ap, sym, subst, ◌∙◌, arith}
use Rattle.std.proofs.lemmas.Bool.{leb-true, le-leb, false≢true}
use Rattle.c_tree.specs.Tree.{CType, integer, pointer, function, CTypes, list_of, Function, Program}
use Rattle.c_tree.specs.Tree as typed
use Rattle.c_tree.specs.Layout.{Structs, struct_cells, flat_with, flat_all_with, cells_of_all}
use Rattle.c_syntax.specs.Tree.{Ident, BlockItems, Declarator}
use Rattle.c_rules.specs.Checked.{fine, on, demand, Met, met}
use Rattle.c_rules.specs.Codes.{C13}
use Rattle.c_rules.specs.Names.{Name}
use Rattle.c_rules.specs.Types.{is_scalar}
use Rattle.c_rules.specs.Scopes.{Env, Binding, Before, layout_of}
use Rattle.c_rules.specs.Counts.{past}
use Rattle.c_rules.specs.Variables.{Next, past_names, names_of_block, first_numbers, calls_of_block}
use Rattle.c_rules.specs.Blocks.{StatementTree, with_tree, held_by_block}
use Rattle.c_rules.specs.Statements.{Around, items_of_block}
use Rattle.c_rules.specs.Functions.{variables_of, function_laid, parameters_of, count_params, few_variables}
use Rattle.null_calls_laws.specs.MarkedCalls.{Sites}
use Rattle.null_calls_laws.specs.Temporaries.{Temporary, declared_before}
use Rattle.null_calls_laws.specs.InstrumentedStatements.{kept_of_block}
use Rattle.null_calls_laws.specs.InstrumentedStatements as marked_statements
use Rattle.null_calls_laws.specs.InstrumentedPrograms.{kept_of_stmts, stmts, declared_from, instrumented_function}
use Rattle.null_calls_laws.specs.WithoutSites.{unsited_stmts, unsited_function}
use Rattle.null_calls_laws.specs.TemporaryDeclarations.{type_of_temporary, with_temporaries, AreNew, behind_declarations}
use Rattle.null_calls_laws.proofs.Counted.{temporaries_are_declared}
use Rattle.c_rules_laws.specs.TypedAlike.{More, plain_scope, instrumented_scope, AreUnreserved, MeanAlike}
use Rattle.null_calls_laws.specs.Follow.{types_of}
use Rattle.null_calls_laws.specs.Counts.{Near}
use Rattle.null_calls_laws.specs.CountedStatements.{BlockNamed}
use Rattle.null_calls_laws.proofs.StatementCounts.{blocks_stay}
use Rattle.null_calls_laws.specs.DeclarationsBeside.{StatementTreeFollow}
use Rattle.null_calls_laws.proofs.Numbers.{numbers_stay}
use Rattle.null_calls_laws.specs.StatementsBeside.{BlockTabled, BlockGoes, after_block}
use Rattle.null_calls_laws.proofs.StatementsGo.{blocks_go}
use Rattle.null_calls_laws.specs.FileScopes.{HasNullCalls, FilesBeside, files_beside, at_site}
use Rattle.null_calls_laws.specs.Scopes.{AreWrittenTemporaries, AreTemporaries}
use Rattle.c_rules_laws.proofs.Holding.{demand_fine}
use Rattle.null_calls_laws.specs.Functions.{HasFunctions, BodyFacts}
use Rattle.null_calls_laws.proofs.Temporaries.{AllFree, all_free, names_behind, found_all, temporaries_new, stand_behind}
use Rattle.null_calls_laws.proofs.Counted.{held_behind, calls_behind, plain_behind}

-- ## Types of temporaries

types_same : (xs : List Temporary) → map type_of_temporary xs ≡ types_of xs
types_same [] = refl
types_same (x ∷ xs) = ap (λ ts. x.ctype ∷ ts) (types_same xs)

-- ## Trees

unsited_declared : (p : Program) (k : ℕ) (ts : List CType) (ss : typed.Stmts) → unsited_stmts (declared_from p k ts ss) ≡ declared_from p k ts (unsited_stmts ss)
unsited_declared p k [] ss = refl
unsited_declared p k (t ∷ ts) ss = ap (λ us. typed.more_stmts (typed.declare k typed.no_inits) us) (unsited_declared p (suc k) ts ss)

-- ## Bodies

module _ (p : Program) (sites : Sites) (tags : List Name) (e f : Env) (b : Before) (n at count : ℕ) (is : BlockItems) where
  abbrev pub temporaries : List Temporary
  temporaries = kept_of_block sites b.sites is

  -- the body with null calls, and with the declarations before it
  abbrev pub all_items : BlockItems
  all_items = declared_before tags at (kept_of_block sites b.sites is) (marked_statements.items_of_block sites b.sites is)

  abbrev pub numbers : Next
  numbers = first_numbers count is

  pub record BodyGoes (a : Around) (q : StatementTree typed.Stmts) : Type 0 where
    pub tree : typed.Stmts
    pub follows : items_of_block f a (at_site b n) (first_numbers count all_items) all_items ≡ fine (record { tree = declared_from p numbers.added (types_of temporaries) tree; plain = q.plain; added = types_of temporaries })
    pub none : q.added ≡ []
    pub kept : kept_of_stmts p q.tree ≡ types_of temporaries
    pub instrumented_tree : unsited_stmts tree ≡ stmts p numbers.added q.tree
    pub after : past (at_site b n) (calls_of_block all_items) (held_by_block f (first_numbers count all_items) all_items) ≡ at_site (past b (calls_of_block is) (held_by_block e numbers is)) (n + calls_of_block all_items)
    pub near : n + calls_of_block all_items ≤ 3 * (b.sites + calls_of_block is)

module _ (p : Program) (sites : Sites) (env : Env) (more : More) (b : Before) (n at count : ℕ) (is : BlockItems)
    (u : AreUnreserved env.names) (m : MeanAlike env.names more.names) (l : HasNullCalls env more) (g : HasFunctions p env.whole.functions) (stood : List Name)
    (named : BlockNamed sites b.sites is) (tabled : BlockTabled p sites (plain_scope env) b (first_numbers count is) is)
    (temps : AreTemporaries env.enums env.whole.tags stood b.sites (calls_of_block is) (kept_of_block sites b.sites is)) (few : n ≤ 3 * b.sites) where
  abbrev xs : List Temporary
  xs = kept_of_block sites b.sites is

  abbrev items_in : BlockItems
  items_in = marked_statements.items_of_block sites b.sites is

  abbrev items_all : BlockItems
  items_all = declared_before env.whole.tags at xs items_in

  abbrev first : Next
  first = first_numbers count is

  abbrev the_right : Env
  the_right = instrumented_scope env more

  abbrev the_inner : Env
  the_inner = with_temporaries (instrumented_scope env more) first.added xs

  free : AllFree xs
  free = all_free b.sites (calls_of_block is) xs temps.sites

  new : AreNew the_right at first.added xs
  new = temporaries_new env more l stood at first.added xs temps.written free temps.differ

  abbrev the_names : List Binding
  the_names = names_behind env.depth first.added xs more.names

  abbrev later : Next
  later = record { plain = count; added = first.added + length xs }

  goes : (a : Around) → BlockGoes p sites (plain_scope env) the_inner a b (at_site b n) first later first.added is
  goes a =
      blocks_go p sites the_names (plain_scope env) the_inner (stand_behind p env more u m l g first.added xs free) a b (at_site b n) first later first.added is named tabled
      (found_all env.depth first.added xs more.names temps.differ) (record { sites = few; strings = refl; cells = refl }) refl

  same_numbers : first_numbers count items_all ≡ first
  same_numbers =
      ap (λ k. record { plain = count; added = k })
      (plain_behind env.whole.tags at count 0 xs items_in free (λ c. numbers_stay (record { plain = count; added = 0 }) (record { plain = count; added = c }) (names_of_block items_in) refl) 0
      ∙ ap (λ ys. (past_names (record { plain = count; added = 0 }) ys).plain) (blocks_stay sites b.sites is named).names_same)

  by_goes : (a : Around) (q : StatementTree typed.Stmts) → Near (after_block (plain_scope env) b first is) (after_block the_inner (at_site b n) later items_in)
      → StatementTreeFollow p first.added (types_of xs) (fine q) (items_of_block the_inner a (at_site b n) later items_in) → BodyGoes p sites env.whole.tags (plain_scope env) the_right b n at count is a q
  by_goes a q near f =
      let ts : List CType = types_of xs in
      let k : ℕ = first.added in
      let calls : calls_of_block items_all ≡ calls_of_block items_in = calls_behind env.whole.tags at xs items_in in
      record {
        tree = f.0;
        follows =
            ap (λ v. items_of_block the_right a (at_site b n) v items_all) same_numbers
            ∙ (temporaries_are_declared p the_right a (at_site b n) at count k xs items_in new
            ∙ (ap (λ r. on r (λ q. fine (behind_declarations p k (map type_of_temporary xs) q))) f.1
            ∙ (ap (λ us. fine (behind_declarations p k us (with_tree q f.0))) (types_same xs)
            ∙ (ap (λ vs. fine (record { tree = declared_from p k ts f.0; plain = q.plain; added = ts ++ vs })) f.2
            ∙ ap (λ vs. fine (record { tree = declared_from p k ts f.0; plain = q.plain; added = vs })) (append-nil ts)))));
        none = f.2;
        kept = f.3;
        instrumented_tree = f.4;
        after =
            ap (λ ws. past (at_site b n) (calls_of_block items_all) ws)
            (ap (λ v. held_by_block the_right v items_all) same_numbers ∙ held_behind the_right at count k xs items_in new)
            ∙ (λ i. record { sites = n + calls_of_block items_all; strings = near.strings i; cells = near.cells i });
        near = subst (λ c. n + c ≤ 3 * (b.sites + calls_of_block is)) (sym calls) near.sites;
      }

  scopes_go : (a : Around) (q : StatementTree typed.Stmts) → items_of_block (plain_scope env) a b first is ≡ fine q → BodyGoes p sites env.whole.tags (plain_scope env) the_right b n at count is a q
  scopes_go a q e =
      by_goes a q ((goes a).near q e) (subst (λ r. StatementTreeFollow p first.added (types_of xs) r (items_of_block the_inner a (at_site b n) later items_in)) e (goes a).laid)

own_facts : (p : Program) (sites : Sites) (enums tags stood : List Name) (e : Env) (b : Before) (count : ℕ) (is : BlockItems) → BodyFacts p sites enums tags stood e b count is → AreTemporaries e.enums e.whole.tags stood b.sites (calls_of_block is) (kept_of_block sites b.sites is)
own_facts p sites enums tags stood e b count is k =
    subst (λ y. AreTemporaries y e.whole.tags stood b.sites (calls_of_block is) (kept_of_block sites b.sites is)) (sym k.enums_are)
    (subst (λ z. AreTemporaries enums z stood b.sites (calls_of_block is) (kept_of_block sites b.sites is)) (sym k.tags_are) k.temporaries)

files_go : (p : Program) (sites : Sites) (stood : List Name) (e f : Env) → FilesBeside e f → HasFunctions p e.whole.functions → (b : Before) (n at count : ℕ) (is : BlockItems) → BlockNamed sites b.sites is → BlockTabled p sites e b (first_numbers count is) is
    → AreTemporaries e.enums e.whole.tags stood b.sites (calls_of_block is) (kept_of_block sites b.sites is) → n ≤ 3 * b.sites → (a : Around) (q : StatementTree typed.Stmts) → items_of_block e a b (first_numbers count is) is ≡ fine q → BodyGoes p sites e.whole.tags e f b n at count is a q
files_go p sites stood e f (files_beside env more u m l) g b n at count is named tabled temps few a q h =
    scopes_go p sites env more b n at count is u m l g stood named tabled temps few a q h

pub body_goes : (p : Program) (sites : Sites) (enums tags stood : List Name) (e f : Env) → FilesBeside e f → HasFunctions p e.whole.functions → (b : Before) (n at count : ℕ) (is : BlockItems) → BodyFacts p sites enums tags stood e b count is
    → n ≤ 3 * b.sites → (a : Around) (q : StatementTree typed.Stmts) → items_of_block e a b (first_numbers count is) is ≡ fine q → BodyGoes p sites tags e f b n at count is a q
body_goes p sites enums tags stood e f w g b n at count is k few a q h =
    subst (λ z. BodyGoes p sites z e f b n at count is a q) k.tags_are (files_go p sites stood e f w g b n at count is k.named k.tabled (own_facts p sites enums tags stood e b count is k) few a q h)

-- ## Cells

cells_both : (structs : Structs) (xs ys : List CType) → cells_of_all structs (xs ++ ys) ≡ cells_of_all structs xs + cells_of_all structs ys
cells_both structs [] ys = (let e : cells_of_all structs ys ≡ 0 + cells_of_all structs ys = omega arith in e)
cells_both structs (x ∷ xs) ys =
    let f : List CType = flat_with (struct_cells structs) x in
    let one = length-append f (flat_all_with (struct_cells structs) (xs ++ ys)) in
    let two = length-append f (flat_all_with (struct_cells structs) xs) in
    let rest = cells_both structs xs ys in
    omega (arith, one, two, rest)

scalar_one : (layout : ℕ → List CType) (t : CType) → is_scalar t ≡ true → length (flat_with layout t) ≡ 1
scalar_one layout (integer i) h = refl
scalar_one layout (pointer t) h = refl
scalar_one layout t h = absurd (false≢true h)

temporary_cells : (structs : Structs) (enums tags stood : List Name) (xs : List Temporary) → AreWrittenTemporaries enums tags stood xs → cells_of_all structs (types_of xs) ≡ length xs
temporary_cells structs enums tags stood [] h = refl
temporary_cells structs enums tags stood (x ∷ xs) h =
    let one = length-append (flat_with (struct_cells structs) x.ctype) (flat_all_with (struct_cells structs) (types_of xs)) in
    let c = scalar_one (struct_cells structs) x.ctype h.0 in
    let rest = temporary_cells structs enums tags stood xs h.2 in
    omega (arith, one, c, rest)

pub temporaries_count : (enums tags stood : List Name) (lo n : ℕ) (xs : List Temporary) → AreTemporaries enums tags stood lo n xs → lo ≤ 10000 → length xs ≤ 180000
temporaries_count enums tags stood lo n xs h l = (let few = h.few in let most : lo + n ≤ 10000 = h.within l in omega (arith, few, most))

pub temporaries_few : (structs : Structs) (enums tags stood : List Name) (lo n : ℕ) (xs : List Temporary) → AreTemporaries enums tags stood lo n xs → lo ≤ 10000 → cells_of_all structs (types_of xs) ≤ 180000
temporaries_few structs enums tags stood lo n xs h l =
    let c = temporary_cells structs enums tags stood xs h.written in
    let few = temporaries_count enums tags stood lo n xs h l in
    omega (arith, c, few)

-- ## Functions

-- the variables of the function in the instrumented unit are few, where so many temporaries are declared in it
pub variables_right : (e f : Env) → FilesBeside e f → (x : Ident) (d : Declarator) (is js : BlockItems) (added : ℕ) → added ≤ 180000 → length (names_of_block js) ≡ added + length (names_of_block is) → (a : Met) → few_variables e x d is ≡ fine a → few_variables f x d js ≡ fine met
variables_right e f (files_beside env more u m l) x d is js added few long a h =
    let count : ℕ = count_params (parameters_of d) in
    let low = leb-true (count + length (names_of_block is)) 65536 (demand_fine (nat_le (count + length (names_of_block is)) 65536) C13 x.at met a h).0 in
    ap (λ t. demand t C13 x.at met) (le-leb (count + length (names_of_block js)) 262144 (omega (arith, low, few, long)))

module _ (p : Program) (x : Ident) (t : CType) (ts : CTypes) (k : ℕ) (us : List CType) (tree : typed.Stmts) where
  -- the function in the instrumented unit
  abbrev pub right_laid : StatementTree typed.Stmts → StatementTree typed.Stmts
  right_laid q = record { tree = declared_from p k us tree; plain = q.plain; added = us }

  abbrev pub right_function : StatementTree typed.Stmts → Function
  right_function q = record { name = x.name; ctype = function t ts; variables = variables_of ts (right_laid q); body = typed.block (declared_from p k us tree) }

  abbrev pub left_function : StatementTree typed.Stmts → Function
  left_function q = record { name = x.name; ctype = function t ts; variables = variables_of ts q; body = typed.block q.tree }

  -- its cells are few
  laid_as : (env : Env) (more : More) (q : StatementTree typed.Stmts) → cells_of_all (layout_of env) us ≤ 180000 → nat_le (cells_of_all (layout_of env) (variables_of ts q)) 65536 ≡ true → function_laid (instrumented_scope env more) x t ts (right_laid q) ≡ fine (right_function q)
  laid_as env more q h e =
      let low = leb-true (cells_of_all (layout_of env) (variables_of ts q)) 65536 e in
      let a = cells_both (layout_of env) (list_of ts) (q.plain ++ q.added) in
      let c = cells_both (layout_of env) q.plain q.added in
      let d = cells_both (layout_of env) (list_of ts) (q.plain ++ us) in
      let f = cells_both (layout_of env) q.plain us in
      ap (λ v. demand v C13 x.at (right_function q)) (le-leb (cells_of_all (layout_of env) (list_of ts ++ (q.plain ++ us))) 262144 (omega (arith, low, a, c, d, f, h)))

  pub laid_right : (e f : Env) → FilesBeside e f → (q : StatementTree typed.Stmts) → cells_of_all (layout_of e) us ≤ 180000 → (g : Function) → function_laid e x t ts q ≡ fine g → (function_laid f x t ts (right_laid q) ≡ fine (right_function q)) × (left_function q ≡ g)
  laid_right e f (files_beside env more u m l) q h g r =
      let j = demand_fine (nat_le (cells_of_all (layout_of env) (variables_of ts q)) 65536) C13 x.at (left_function q) g r in
      (laid_as env more q h j.0, j.1)

  -- it is the instrumented one
  pub function_instrumented : (q : StatementTree typed.Stmts) → q.added ≡ [] → kept_of_stmts p q.tree ≡ us → unsited_stmts tree ≡ stmts p k q.tree → k ≡ length (list_of ts) + length q.plain → unsited_function (right_function q) ≡ instrumented_function p (left_function q)
  function_instrumented q none kept same number =
      let variables : list_of ts ++ (q.plain ++ us) ≡ (list_of ts ++ (q.plain ++ q.added)) ++ kept_of_stmts p q.tree =
      ap (λ vs. list_of ts ++ (q.plain ++ vs)) (sym kept) ∙ (sym (append_assoc (list_of ts) q.plain (kept_of_stmts p q.tree)) ∙ ap (λ vs. vs ++ kept_of_stmts p q.tree) (ap (λ vs. list_of ts ++ vs) (sym (append-nil q.plain) ∙ ap (λ vs. q.plain ++ vs) (sym none)))) in
      let long : k ≡ length (list_of ts ++ (q.plain ++ q.added)) =
      (let a = length-append (list_of ts) (q.plain ++ q.added) in let c = length-append q.plain q.added in let d : length q.added ≡ 0 = ap length none in omega (arith, a, c, d, number)) in
      let body : unsited_stmts (declared_from p k us tree) ≡ declared_from p (length (list_of ts ++ (q.plain ++ q.added))) (kept_of_stmts p q.tree) (stmts p (length (list_of ts ++ (q.plain ++ q.added))) q.tree) =
      unsited_declared p k us tree ∙ (ap (λ ss. declared_from p k us ss) same ∙ (ap (λ vs. declared_from p k vs (stmts p k q.tree)) (sym kept) ∙ ap (λ c. declared_from p c (kept_of_stmts p q.tree) (stmts p c q.tree)) long)) in
      λ i. record { name = x.name; ctype = function t ts; variables = variables i; body = typed.block (body i) }
