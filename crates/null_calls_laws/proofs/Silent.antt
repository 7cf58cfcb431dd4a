-- Initialisers of static objects have no calls; and what has no calls doesn't depend on how many stand before it.
use Rattle.std.proofs.Common.{◌≡◌, ℕ, suc, ◌+◌, ◌≤◌, Bool, true, List, ◌∷◌, ◌++◌, length, nat_le, refl, ap, ap₂, sym, subst, arith}
use Rattle.std.proofs.lemmas.Bool.{leb-true}
use Rattle.c_tree.specs.declared.value.IntType.TheVariants.{Char}
use Rattle.c_tree.specs.Tree.{CType, integer, pointer, array}
use Rattle.c_syntax.specs.Tree.{Expr, a_str, comma, cast, call, member, postfix, prefix, unary, index, binary, assign, conditional, Exprs, no_exprs, more_exprs, Init, one, list, MaybeInit, no_init, an_init, Ident, Spec, Declarator}
use Rattle.c_syntax.specs.Tree.{pre_increment, pre_decrement}
use Rattle.c_syntax.specs.Tree as syntax
use Rattle.c_rules.specs.Checked.{Checked, fine, on, both, all_three, gives}
use Rattle.c_rules.specs.Scopes.{Env, evaluated, sized, in_context, Before, nothing_before}
use Rattle.c_rules.specs.Counts.{place_of, calls, calls_of_all, strings, after}
use Rattle.c_rules.specs.TypedExpression.{Constant, known, TypedExpression}
use Rattle.c_rules.specs.Conversions.{as_if_assigned}
use Rattle.c_rules.specs.BinaryExpressions.{sum, choice}
use Rattle.c_rules.specs.UnaryExpressions.{indirection}
use Rattle.c_rules.specs.Assignments.{assignment_by, comma_of}
use Rattle.c_rules.specs.Declarators.{is_void_pointer}
use Rattle.c_rules.specs.Expressions.{value_at, place_at, access, after_operand, before_operand, unary_rule, infix_rule, cast_rule, tree, trees, type_named, value}
use Rattle.c_rules.specs.Initialisers.{Slots, copies, each, slots, capacity, takes_list, count_inits, text_of, defined_cell, cell_of, scalar_cell, array_cells, cells_of_one, cells_of_list, after_init, calls_of_init, calls_of_inits, calls_of_maybe_init, initialised, in_turn, initialised_static, text_fits}
use Rattle.c_rules_laws.proofs.Holding.{Holds, on_holds, both_hold, demand_holds, behind_demand, after_part, held, on_fine}
use Rattle.c_rules_laws.specs.ConstantForm.{IsConst}
use Rattle.c_rules_laws.proofs.Spans.{no_range}
use Rattle.c_rules_laws.proofs.SitesOfExpressions.{Span, Counted, value_counted}
use Rattle.c_syntax.proofs.BackTokens.{ap_three}
use Rattle.null_calls_laws.specs.FileScopes.{at_site}
use Rattle.c_rules_laws.proofs.GatheredOfTypedExpressions.{Gathers, as_if_gathered}
use Rattle.c_tree.specs.Sites.{all_sites}
use Rattle.c_rules.specs.Objects.{Object}
use Rattle.c_rules.specs.Items.{Output, static_of, global_declared, within_global, after_object, definition_of, global}

-- ## Static initialisers

known_silent : (at : ℕ) (b : Before) (n : ℕ) (g : TypedExpression) → Gathers all_sites (Span b n) g → Holds (λ _. n ≡ 0) (cell_of true at g)
known_silent at b n g h = by_constant g.constant refl
  where
    by_constant : (c : Constant) → g.constant ≡ c → Holds (λ _. n ≡ 0) (defined_cell at g c)
    by_constant (known x) e = no_range b.sites n (h.1 (subst IsConst (sym e) tt))
    by_constant c e = tt

array_silent : (at : ℕ) (t : CType) (n : ℕ) (x : Expr) → Holds (λ _. calls x ≡ 0) (array_cells at t n (text_of x))
array_silent at (integer Char) n (a_str here w) = demand_holds (λ _. 0 ≡ 0) (nat_le (length w) n) 14 at _ (λ _. refl)
array_silent at t n x = tt

scalar_silent : (env : Env) → env.context ≡ evaluated → (b : Before) (at : ℕ) (t : CType) (x : Expr) → Holds (λ _. calls x ≡ 0) (scalar_cell true at t (value env b x))
scalar_silent env e b at t x =
    on_holds (Gathers all_sites (Span b (calls x))) (λ _. calls x ≡ 0) (on (value env b x) (as_if_assigned at t)) (cell_of true at)
    (on_holds (Counted 30000 b (calls x) (strings x)) (Gathers all_sites (Span b (calls x))) (value env b x) (as_if_assigned at t) (value_counted x env e b) (λ g h. as_if_gathered all_sites at (Span b (calls x)) t g h.0)) (λ g h. known_silent at b (calls x) g h)

list_silent : (n : ℕ) (takes : Bool) (at most count : ℕ) (r : Checked (List TypedExpression)) → Holds (λ _. count ≤ most → n ≡ 0) r → Holds (λ _. n ≡ 0) (cells_of_list takes at most count r)
list_silent n takes at most count r h = behind_demand (λ _. n ≡ 0) takes 14 at _ (λ _. on_holds (λ _. count ≤ most → n ≡ 0) (λ _. n ≡ 0) r _ h (λ gs k. demand_holds (λ _. n ≡ 0) (nat_le count most) 14 at gs (λ q. k (leb-true count most q))))

mutual
  init_silent : (i : Init) (env : Env) → env.context ≡ evaluated → (b : Before) (t : CType) → Holds (λ _. calls_of_init i ≡ 0) (initialised env b true t i)
  init_silent (one at x) env e b (integer i) = scalar_silent env e b at (integer i) x
  init_silent (one at x) env e b (pointer t) = scalar_silent env e b at (pointer t) x
  init_silent (one at x) env e b (array t n) = after_part (λ _. calls x ≡ 0) (text_fits at (text_of x)) (λ _. array_cells at t n (text_of x)) (λ _. array_silent at t n x)
  init_silent (list at is) env e b t = list_silent (calls_of_inits is) (takes_list t) at (capacity (slots env t)) (count_inits is) (in_turn env b true (slots env t) is) (turn_silent is env e b (slots env t))
  init_silent (one at x) env e b t = tt

  turn_silent : (is : syntax.Inits) (env : Env) → env.context ≡ evaluated → (b : Before) (s : Slots) → Holds (λ _. count_inits is ≤ capacity s → calls_of_inits is ≡ 0) (in_turn env b true s is)
  turn_silent syntax.no_inits env e b s = λ _. refl
  turn_silent (syntax.more_inits i is) env e b (copies (suc n) t) =
      both_hold (λ _. calls_of_init i ≡ 0) (λ _. count_inits is ≤ n → calls_of_inits is ≡ 0) (λ _. count_inits (syntax.more_inits i is) ≤ suc n → calls_of_init i + calls_of_inits is ≡ 0)
      (initialised env b true t i) (in_turn env (after_init env b t i) true (copies n t) is) (λ gs hs. fine (gs ++ hs)) (init_silent i env e b t) (turn_silent is env e (after_init env b t i) (copies n t))
      (λ gs hs x y m. (let z : calls_of_inits is ≡ 0 = y (omega (arith, m)) in omega (arith, x, z)))
  turn_silent (syntax.more_inits i is) env e b (each (t ∷ ts)) =
      both_hold (λ _. calls_of_init i ≡ 0) (λ _. count_inits is ≤ length ts → calls_of_inits is ≡ 0) (λ _. count_inits (syntax.more_inits i is) ≤ suc (length ts) → calls_of_init i + calls_of_inits is ≡ 0)
      (initialised env b true t i) (in_turn env (after_init env b t i) true (each ts) is) (λ gs hs. fine (gs ++ hs)) (init_silent i env e b t) (turn_silent is env e (after_init env b t i) (each ts))
      (λ gs hs x y m. (let z : calls_of_inits is ≡ 0 = y (omega (arith, m)) in omega (arith, x, z)))
  turn_silent (syntax.more_inits i is) env e b s = λ n. absurd (omega (arith, n))

pub static_silent : (m : MaybeInit) (env : Env) → env.context ≡ evaluated → (b : Before) (t : CType) → Holds (λ _. calls_of_maybe_init m ≡ 0) (initialised_static env b t m)
static_silent no_init env e b t = refl
static_silent (an_init i) env e b t = init_silent i env e b t

-- what a definition at file scope says of its calls
pub global_silent : (e : Env) → e.context ≡ evaluated → (b : Before) (at : ℕ) (s : Spec) (d : Declarator) (x : Ident) (m : MaybeInit) (c : Output) → global e true b x m (global_declared e true b at s d x m) ≡ fine c → calls_of_maybe_init m ≡ 0
global_silent e w b at s d x m c g =
    let r : Checked Object = global_declared e true b at s d x m in
    let inner : Env = within_global e true x r in
    let k = on_fine r (definition_of inner b m) c g in
    let j = on_fine (initialised_static inner (after_object inner b k.0.whole) k.0.whole m) (λ gs. fine (static_of k.0 gs)) c k.2 in
    held (λ _. calls_of_maybe_init m ≡ 0) (initialised_static inner (after_object inner b k.0.whole) k.0.whole m) j.0 (static_silent m inner w (after_object inner b k.0.whole) k.0.whole) j.1

-- ## Sites

no_first : (m n : ℕ) → m + n ≡ 0 → m ≡ 0
no_first m n e = omega (arith, e)

no_second : (m n : ℕ) → m + n ≡ 0 → n ≡ 0
no_second m n e = omega (arith, e)

module _ (env : Env) where
  mutual
    tree_alone : (x : Expr) (b : Before) (n : ℕ) → calls x ≡ 0 → tree env (at_site b n) x ≡ tree env b x
    tree_alone (comma at es) b n e = ap (λ r. gives r comma_of) (trees_alone es b n e)
    tree_alone (cast at t x) b n e = ap (λ r. cast_rule (is_void_pointer t) at (type_named env t) (value_at env (place_of x) r)) (tree_alone x b n e)
    tree_alone (call at d es) b n e = absurd (let z : calls d + suc (calls_of_all es) ≡ 0 = e in omega (arith, z))
    tree_alone (member at how x y) b n e = ap (access env at (place_of x) how y.name) (tree_alone x b n e)
    tree_alone (postfix at op x) b n e = ap (after_operand env at (place_of x) op) (tree_alone x b n e)
    tree_alone (prefix at pre_increment x) b n e = ap (λ r. before_operand env at (place_of x) pre_increment r (tree (in_context env sized) nothing_before x)) (tree_alone x b n e)
    tree_alone (prefix at pre_decrement x) b n e = ap (λ r. before_operand env at (place_of x) pre_decrement r (tree (in_context env sized) nothing_before x)) (tree_alone x b n e)
    tree_alone (unary at op x) b n e = ap (unary_rule env at (place_of x) op) (tree_alone x b n e)
    tree_alone (index at x y) b n e =
        ap₂ (λ r s. on (both (value_at env (place_of x) r) (value_at env (place_of y) s) (sum env at)) (indirection at)) (tree_alone x b n (no_first (calls x) (calls y) e)) (tree_alone y (after b x) (n + calls x) (no_second (calls x) (calls y) e))
    tree_alone (binary at op x y) b n e =
        ap₂ (λ r s. both (value_at env (place_of x) r) (value_at env (place_of y) s) (infix_rule env at op)) (tree_alone x b n (no_first (calls x) (calls y) e)) (tree_alone y (after b x) (n + calls x) (no_second (calls x) (calls y) e))
    tree_alone (assign at op x y) b n e =
        ap₂ (λ r s. both (place_at (place_of x) r) (value_at env (place_of y) s) (assignment_by env at op)) (tree_alone x b n (no_first (calls x) (calls y) e)) (tree_alone y (after b x) (n + calls x) (no_second (calls x) (calls y) e))
    tree_alone (conditional at c x y) b n e =
        let z : calls x + calls y ≡ 0 = no_second (calls c) (calls x + calls y) e in
        ap_three (λ q r s. all_three (value_at env (place_of c) q) (value_at env (place_of x) r) (value_at env (place_of y) s) (choice at))
        (tree_alone c b n (no_first (calls c) (calls x + calls y) e)) (tree_alone x (after b c) (n + calls c) (no_first (calls x) (calls y) z)) (tree_alone y (after (after b c) x) (n + calls c + calls x) (no_second (calls x) (calls y) z))
    tree_alone x b n e = refl

    trees_alone : (xs : Exprs) (b : Before) (n : ℕ) → calls_of_all xs ≡ 0 → trees env (at_site b n) xs ≡ trees env b xs
    trees_alone no_exprs b n e = refl
    trees_alone (more_exprs x xs) b n e =
        ap₂ (λ r s. both (value_at env (place_of x) r) s (λ g gs. fine (g ∷ gs))) (tree_alone x b n (no_first (calls x) (calls_of_all xs) e)) (trees_alone xs (after b x) (n + calls x) (no_second (calls x) (calls_of_all xs) e))

  mutual
    init_alone : (i : Init) (b : Before) (n : ℕ) (k : Bool) (t : CType) → calls_of_init i ≡ 0 → initialised env (at_site b n) k t i ≡ initialised env b k t i
    init_alone (one at x) b n k t e = ap (λ r. cells_of_one k at t (text_of x) (value_at env (place_of x) r)) (tree_alone x b n e)
    init_alone (list at is) b n k t e = ap (cells_of_list (takes_list t) at (capacity (slots env t)) (count_inits is)) (turn_alone is b n k (slots env t) e)

    turn_alone : (is : syntax.Inits) (b : Before) (n : ℕ) (k : Bool) (s : Slots) → calls_of_inits is ≡ 0 → in_turn env (at_site b n) k s is ≡ in_turn env b k s is
    turn_alone (syntax.more_inits i is) b n k (copies (suc m) t) e =
        ap₂ (λ r s. both r s (λ gs hs. fine (gs ++ hs))) (init_alone i b n k t (no_first (calls_of_init i) (calls_of_inits is) e)) (turn_alone is (after_init env b t i) (n + calls_of_init i) k (copies m t) (no_second (calls_of_init i) (calls_of_inits is) e))
    turn_alone (syntax.more_inits i is) b n k (each (t ∷ ts)) e =
        ap₂ (λ r s. both r s (λ gs hs. fine (gs ++ hs))) (init_alone i b n k t (no_first (calls_of_init i) (calls_of_inits is) e)) (turn_alone is (after_init env b t i) (n + calls_of_init i) k (each ts) (no_second (calls_of_init i) (calls_of_inits is) e))
    turn_alone is b n k s e = refl

  pub static_alone : (m : MaybeInit) (b : Before) (n : ℕ) (t : CType) → calls_of_maybe_init m ≡ 0 → initialised_static env (at_site b n) t m ≡ initialised_static env b t m
  static_alone no_init b n t e = refl
  static_alone (an_init i) b n t e = init_alone i b n true t e
