-- What the bodies of the generated functions give: calls without arguments, the loop of main, and return 0.
use Rattle.std.proofs.Common.{◌≡◌, ℕ, ◌+◌, ◌<◌, false, List, [], ◌∷◌, None, codes, refl, ap, ◌∙◌, arith, ◌^◌, pos, if◌then◌else◌}
use Rattle.std.specs.Int.{int_wrap}
use Rattle.std.proofs.lemmas.Bool.{lt-ltb}
use Rattle.sys_table.specs.Table.{table}
use Rattle.c_tree.specs.Functions.{int, of_none}
use Rattle.c_tree.specs.Tree as typed
use Rattle.c_syntax.specs.Tree.{BlockItems, no_block_items, block_decl, block_stmt, first_expr, there, a_name, an_int, assign, binary, operator, postfix, post_increment}
use Rattle.c_syntax.specs.Tree as syntax
use Rattle.c_lexer.specs.declared.punctuator.TheConstants.{ASSIGN, LESS}
use Rattle.c_rules.specs.Checked.{fine, on, all_three, beside, gives, demand, both, Checked}
use Rattle.c_rules.specs.Codes.{C13}
use Rattle.c_rules.specs.Names.{Name}
use Rattle.c_rules.specs.Scopes.{Binding, a_local, Env, lookup, evaluated}
use Rattle.c_rules.specs.TypedExpression.{not_constant, typed_value, tree_of, TypedExpression}
use Rattle.c_rules.specs.PrimaryExpressions.{bound, used, typed_int, typed_unsigned}
use Rattle.c_rules.specs.PostfixExpressions.{Callee, direct, callee_of_type, site_in, site_of, called}
use Rattle.c_rules.specs.Expressions.{value_at, value, callee_bound, infix_rule}
use Rattle.c_rules.specs.Variables.{Next}
use Rattle.c_rules.specs.Blocks.{StatementTree, bare, with_tree, one_more, some_more, local_decl, behind_decl}
use Rattle.c_rules.specs.Statements.{Around, in_loop, first_of, test_of, step_of, for_of, stmt, items_of_block, condition_at}
use Rattle.generated_program.specs.Generator.{call_of, and_call, return_zero, counted_loop, counter}
use Rattle.generated_program.specs.Typed.{typed_call, typed_return, typed_loop}
use Rattle.generated_program.proofs.Scopes.{scope, at_site, IsCalled}

-- in a function that returns an int
abbrev pub in_function : Around
in_function = record { breaks = false; continues = false; returns = int }

-- the variable of main
abbrev pub counter_bound : Binding
counter_bound = record { name = codes "i"; depth = 1; means = a_local 0 int int }

module _ (fs : List Name) (bs : List Binding) (depth : ℕ) (ds : List Name) where
  -- a call is typed, at its site
  call_given : (s f : ℕ) (x : Name) → IsCalled fs bs x f → s < 10000 → value (scope fs bs depth ds) (at_site s) (call_of x) ≡ fine (typed_value int (typed.call int s f typed.no_exprs) not_constant)
  call_given s f x h few =
      let e : Env = scope fs bs depth ds in
      let meant : Callee = record { designator = direct f; returns = int; parameters = typed.no_types } in
      let same : s + 0 ≡ s = omega arith in
      ap (λ o. value_at e 0 (all_three (callee_bound e 0 0 x (value_at e 0 (bound e 0 x o)) o) (site_of e (s + 0) 0) (fine []) (called 0))) h.found
      ∙ ap (λ k. value_at e 0 (all_three (on (used evaluated 0 k) (callee_of_type 0 (of_none int))) (site_of e (s + 0) 0) (fine []) (called 0))) h.numbered
      ∙ ap (λ k. value_at e 0 (all_three (fine meant) (site_in evaluated 10000 k 0) (fine []) (called 0))) same
      ∙ ap (λ b. value_at e 0 (all_three (fine meant) (demand b C13 0 s) (fine []) (called 0))) (lt-ltb s 10000 few)

  -- a call, and what follows it
  pub and_call_given : (a : Around) (next : Next) (s f : ℕ) (x : Name) (rest : BlockItems) (q : StatementTree typed.Stmts) → IsCalled fs bs x f → s < 10000
      → items_of_block (scope fs bs depth ds) a (at_site (s + 1)) next rest ≡ fine q
      → items_of_block (scope fs bs depth ds) a (at_site s) next (and_call x rest) ≡ fine (one_more (bare (typed_call s f)) q)
  and_call_given a next s f x rest q h few k =
      let e : Env = scope fs bs depth ds in
      ap (λ r. both (gives r (λ g. bare (typed.evaluate (tree_of g)))) (items_of_block e a (at_site (s + 1)) next rest) (λ p q. fine (one_more p q))) (call_given s f x h few)
      ∙ ap (λ r. both (fine (bare (typed_call s f))) r (λ p q. fine (one_more p q))) k

  pub return_given : (next : Next) (s : ℕ) → items_of_block (scope fs bs depth ds) in_function (at_site s) next return_zero ≡ fine (bare typed_return)
  return_given next s = refl

  -- two calls and a return
  pub calls_given : (next : Next) (s f g : ℕ) (x y : Name) → IsCalled fs bs x f → IsCalled fs bs y g → s + 1 < 10000
      → items_of_block (scope fs bs depth ds) in_function (at_site s) next (and_call x (and_call y return_zero)) ≡ fine (bare (typed.more_stmts (typed_call s f) (typed.more_stmts (typed_call (s + 1) g) typed_return)))
  calls_given next s f g x y h k few =
      and_call_given in_function next s f x (and_call y return_zero) (bare (typed.more_stmts (typed_call (s + 1) g) typed_return)) h (omega (arith, few))
      (and_call_given in_function next (s + 1) g y return_zero (bare typed_return) k few (return_given next (s + 1 + 1)))

  -- one call and a return
  pub call_and_return_given : (next : Next) (s f : ℕ) (x : Name) → IsCalled fs bs x f → s < 10000
      → items_of_block (scope fs bs depth ds) in_function (at_site s) next (and_call x return_zero) ≡ fine (bare (typed.more_stmts (typed_call s f) typed_return))
  call_and_return_given next s f x h few = and_call_given in_function next s f x return_zero (bare typed_return) h few (return_given next (s + 1))

  -- one call alone
  pub call_alone_given : (a : Around) (next : Next) (s f : ℕ) (x : Name) → IsCalled fs bs x f → s < 10000
      → items_of_block (scope fs bs depth ds) a (at_site s) next (and_call x no_block_items) ≡ fine (bare (typed.more_stmts (typed_call s f) typed.no_stmts))
  call_alone_given a next s f x h few = and_call_given a next s f x no_block_items (bare typed.no_stmts) h few refl

module _ (fs : List Name) (bs : List Binding) (ds : List Name) where
  -- the declaration of the counter
  counter_given : (k s : ℕ) → lookup bs (codes "i") ≡ None
      → local_decl (scope fs bs 1 ds) (at_site s) (record { plain = 0; added = k }) counter ≡ fine (record { tree = typed.more_stmts (typed.declare 0 typed.no_inits) typed.no_stmts; plain = int ∷ []; added = [] })
  unfolding table
  counter_given k s h = rw h refl

  counter_behind : (k : ℕ) → lookup bs (codes "i") ≡ None → behind_decl (scope fs bs 1 ds) (record { plain = 0; added = k }) counter ≡ scope fs (counter_bound ∷ bs) 1 ds
  unfolding table
  counter_behind k h = rw h refl

  -- the loop
  loop_given : (next : Next) (s f count : ℕ) (x : Name) → count < 2 ^ 31 → IsCalled fs (counter_bound ∷ bs) x f → s < 10000
      → stmt (scope fs (counter_bound ∷ bs) 1 ds) in_function (at_site s) next (counted_loop count x) ≡ fine (bare (typed_loop count s f))
  unfolding int_wrap
  loop_given next s f count x low h few =
      let outer : Env = scope fs (counter_bound ∷ bs) 2 ds in
      let inner : Env = scope fs (counter_bound ∷ bs) 3 ds in
      let first : syntax.First = first_expr (assign 0 ASSIGN (a_name 0 (codes "i")) (an_int 0 0 false)) in
      let test : syntax.Maybe = there (binary 0 (operator LESS) (a_name 0 (codes "i")) (an_int 0 count false)) in
      let test_by : TypedExpression → Checked typed.Maybe = (λ g. gives (condition_at 0 (value_at outer 0 (both (value outer (at_site (s + 0)) (a_name 0 (codes "i"))) (value_at outer 0 (fine g)) (infix_rule outer 0 (operator LESS))))) typed.there) in
      let step : syntax.Maybe = there (postfix 0 post_increment (a_name 0 (codes "i"))) in
      let same : s + 0 + 0 + 0 ≡ s = omega arith in
      ap (λ k. all_three (first_of outer (at_site s) next first) (beside (test_of outer (at_site (s + 0)) 0 test) (step_of outer (at_site (s + 0 + 0)) step)) (gives (items_of_block inner (in_loop in_function) (at_site k) next (and_call x no_block_items)) (λ p. with_tree p (typed.block p.tree))) (λ p tests q. fine (for_of p tests q))) same
      ∙ ap (λ r. all_three (first_of outer (at_site s) next first) (beside (test_of outer (at_site (s + 0)) 0 test) (step_of outer (at_site (s + 0 + 0)) step)) (gives r (λ p. with_tree p (typed.block p.tree))) (λ p tests q. fine (for_of p tests q)))
      (call_alone_given fs (counter_bound ∷ bs) 3 ds (in_loop in_function) next s f x h few)
      ∙ ap (λ t. all_three (first_of outer (at_site s) next first) (beside (test_by (if t then typed_int (pos count) else typed_unsigned count)) (step_of outer (at_site (s + 0 + 0)) step)) (fine (bare (typed.block (typed.more_stmts (typed_call s f) typed.no_stmts)))) (λ p tests q. fine (for_of p tests q))) (lt-ltb count (2 ^ 31) low)

  -- the body of main
  pub main_given : (k s f count : ℕ) (x : Name) → count < 2 ^ 31 → lookup bs (codes "i") ≡ None → IsCalled fs (counter_bound ∷ bs) x f → s < 10000
      → items_of_block (scope fs bs 1 ds) in_function (at_site s) (record { plain = 0; added = k }) (block_decl counter (block_stmt (counted_loop count x) return_zero))
      ≡ fine (record { tree = typed.more_stmts (typed.declare 0 typed.no_inits) (typed.more_stmts (typed_loop count s f) typed_return); plain = int ∷ []; added = [] })
  main_given k s f count x low h c few =
      let e : Env = scope fs bs 1 ds in
      let now : Next = record { plain = 0; added = k } in
      let next : Next = record { plain = 1; added = k } in
      let declared : StatementTree typed.Stmts = record { tree = typed.more_stmts (typed.declare 0 typed.no_inits) typed.no_stmts; plain = int ∷ []; added = [] } in
      let same : s + 0 ≡ s = omega arith in
      let rest : BlockItems = block_stmt (counted_loop count x) return_zero in
      ap (λ r. both r (items_of_block (behind_decl e now counter) in_function (at_site (s + 0)) next rest) (λ p q. fine (some_more p q))) (counter_given k s h)
      ∙ ap (λ o. both (fine declared) (items_of_block o in_function (at_site (s + 0)) next rest) (λ p q. fine (some_more p q))) (counter_behind k h)
      ∙ ap (λ t. both (fine declared) (items_of_block (scope fs (counter_bound ∷ bs) 1 ds) in_function (at_site t) next rest) (λ p q. fine (some_more p q))) same
      ∙ ap (λ r. both (fine declared) (both r (items_of_block (scope fs (counter_bound ∷ bs) 1 ds) in_function (at_site (s + 1)) next return_zero) (λ p q. fine (one_more p q))) (λ p q. fine (some_more p q))) (loop_given next s f count x low c few)
