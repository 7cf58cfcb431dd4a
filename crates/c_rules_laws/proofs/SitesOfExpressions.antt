-- The sites in an expression are the numbers from that of the calls before it on; and the limits on calls and strings hold.
use Rattle.std.proofs.Common.{◌≡◌, ℕ, zero, suc, ◌+◌, ◌≤◌, ◌<◌, Bool, true, false, List, [], ◌∷◌, ◌++◌, length, nat_le, nat_lt, nat_eq, refl, ap, ap₂, sym, subst, ◌∙◌, arith}
use Rattle.std.specs.List.{range_with_len}
use Rattle.std.proofs.lemmas.Bool.{leb-true, ltb-true}
use Rattle.dm_base.specs.declared.mode.Mode.{Mode}
use Rattle.dm_base.specs.declared.mode.Mode.TheVariants.{Plain, Instrumented}
use Rattle.c_lexer.specs.declared.punctuator.TheConstants.{AMPERSAND}
use Rattle.c_tree.specs.declared.value.BinOp.TheVariants.{Add, Sub}
use Rattle.c_tree.specs.Tree.{CType}
use Rattle.c_syntax.specs.Tree.{Expr, a_name, an_int, a_char, a_str, comma, sizeof_type, cast, call, member, postfix, prefix, unary, index, binary, assign, conditional, Exprs, no_exprs, more_exprs}
use Rattle.c_syntax.specs.Tree.{Postfix, post_increment, post_decrement, pre_increment, pre_decrement, sizeof, Access, dot, arrow}
use Rattle.c_rules.specs.Checked.{Checked, fine, on, both, gives, demand, met}
use Rattle.c_rules.specs.Limits.{most_calls}
use Rattle.c_rules.specs.Names.{Name}
use Rattle.c_rules.specs.Scopes.{Env, Context, evaluated, sized, in_context, Before, nothing_before, binding_of}
use Rattle.c_rules.specs.Counts.{place_of, calls, calls_of_all, strings, strings_of_all, string_cells, past, after, after_designator}
use Rattle.c_rules.specs.TypedExpression.{TypedExpression}
use Rattle.c_rules.specs.Conversions.{valued}
use Rattle.c_rules.specs.PrimaryExpressions.{used, function_number, bound, string_fits, string_number, typed_string}
use Rattle.c_rules.specs.PostfixExpressions.{Designator, direct, through, site_in, site_of, callee_of_type, callee_by_value, called, member_of, Callee}
use Rattle.c_rules.specs.UnaryExpressions.{address, indirection, unary_of_value, size_of, size_of_expression, size_of_type, cast_of, null_cast}
use Rattle.c_rules.specs.BinaryExpressions.{sum, choice}
use Rattle.c_rules.specs.Assignments.{assignable, assignment_by, step, comma_of}
use Rattle.c_rules.specs.Declarators.{place_of_type, is_void_pointer}
use Rattle.c_rules.specs.Expressions.{value_at, place_at, callee, access, after_operand, unary_rule, infix_rule, cast_rule, tree, trees, type_named, value}
use Rattle.c_rules.proofs.Integers.{integer_cases}
use Rattle.c_rules_laws.proofs.Holding.{Holds, holds_map, on_holds, both_hold, all_three_hold, Any, anything, demand_holds, after_part, if_holds, Each, each_both}
use Rattle.c_rules_laws.proofs.GatheredOfTypedExpressions.{called_at, Gathers, AllGather, CalleeGathers, meant_gathered, valued_gathered, called_gathered, callee_type_gathered, callee_through_gathered, member_gathered, address_gathered, indirection_gathered, unary_gathered, size_gathered, cast_of_gathered, null_cast_gathered, sum_gathered, infix_gathered, assignment_by_gathered, step_gathered, choice_gathered, comma_gathered}
use Rattle.c_tree.specs.Sites.{all_sites}
use Rattle.c_rules_laws.proofs.Operators.{bound_holds, callee_holds}

-- a call gives its site
site_called : (site : ℕ) (d : Designator) → called_at all_sites site d ≡ site
site_called site (direct f) = refl
site_called site (through e) = refl

-- ## Limits

-- strings that are objects
abbrev pub AreShort : List (List ℕ) → Type 0
AreShort = Each (λ w. suc (length w) ≤ 65536)

pub cells_both : (xs ys : List (List ℕ)) → string_cells (xs ++ ys) ≡ string_cells xs + string_cells ys
cells_both [] ys = omega arith
cells_both (x ∷ xs) ys = (let r = cells_both xs ys in omega (arith, r))

pub range_append : (a n m : ℕ) → range_with_len a (n + m) ≡ range_with_len a n ++ range_with_len (a + n) m
range_append a zero m = (let e : 0 + m ≡ m = omega arith in let f : a ≡ a + 0 = omega arith in ap₂ (λ x y. range_with_len y x) e f)
range_append a (suc n) m =
    let e : suc n + m ≡ suc (n + m) = omega arith in
    let f : (a + 1) + n ≡ a + suc n = omega arith in
    ap (range_with_len a) e ∙ ap (λ xs. a ∷ xs) (range_append (a + 1) n m ∙ ap (λ k. range_with_len (a + 1) n ++ range_with_len k m) f)

pub holds_with : {A : Type 0} (P : A → Type 0) (Q : Type 0) (r : Checked A) → Q → Holds P r → Holds (λ a. P a × Q) r
holds_with P Q r q h = holds_map P (λ a. P a × Q) (λ a k. (k, q)) r h

abbrev pub Span : Before → ℕ → List ℕ
Span b n = range_with_len b.sites n

call_span : (s n m site : ℕ) → site ≡ s + n → range_with_len s n ++ site ∷ range_with_len (s + suc n) m ≡ range_with_len s (n + suc m)
call_span s n m site e =
    let f : (s + n) + 1 ≡ s + suc n = omega arith in
    ap (λ k. range_with_len s n ++ k ∷ range_with_len (s + suc n) m) e ∙ (ap (λ k. range_with_len s n ++ (s + n) ∷ range_with_len k m) (sym f) ∙ sym (range_append s n (suc m)))

-- the limit on calls is this one at most
few_calls : (m : Mode) → most_calls m ≤ 30000
few_calls Plain = omega arith
few_calls Instrumented = omega arith

below : (a b c : ℕ) → a < b → b ≤ c → suc a ≤ c
below a b c h k = omega (arith, h, k)

module _ (most : ℕ) where
  -- so many calls and these strings pass no limit, of which that on calls is given, where so many calls and cells stand before them
  pub record Fits (sites cells n : ℕ) (ws : List (List ℕ)) : Type 0 where
    pub sites_fit : sites ≤ most → sites + n ≤ most
    pub cells_fit : cells ≤ 1048576 → cells + string_cells ws ≤ 1048576
    pub short : AreShort ws

  pub fits_none : (s c : ℕ) → Fits s c 0 []
  fits_none s c = record { sites_fit = λ h. omega (arith, h); cells_fit = λ h. omega (arith, h); short = tt }

  pub fits_both : (s c n m : ℕ) (xs ys : List (List ℕ)) → Fits s c n xs → Fits (s + n) (c + string_cells xs) m ys → Fits s c (n + m) (xs ++ ys)
  fits_both s c n m xs ys h k = record {
    sites_fit = λ l. (let a = h.sites_fit l in let b = k.sites_fit a in omega (arith, b));
    cells_fit = λ l. (let a = h.cells_fit l in let b = k.cells_fit a in let e = cells_both xs ys in omega (arith, b, e));
    short = each_both (λ w. suc (length w) ≤ 65536) xs ys h.short k.short;
  }

  -- ## Expressions

  abbrev pub FitsAt : Before → ℕ → List (List ℕ) → Type 0
  FitsAt b n ws = Fits b.sites b.cells n ws

  abbrev pub Counted : Before → ℕ → List (List ℕ) → TypedExpression → Type 0
  Counted b n ws g = Gathers all_sites (Span b n) g × FitsAt b n ws

  string_counted : (c : Context) → c ≡ evaluated → (at n : ℕ) (b : Before) (w : List ℕ) → Holds (Counted b 0 (w ∷ [])) (gives (string_fits c at b.cells (suc (length w))) (λ _. typed_string n (length w)))
  string_counted evaluated e at n b w =
      on_holds (λ _. (suc (length w) ≤ 65536) × (b.cells + suc (length w) ≤ 1048576)) (Counted b 0 (w ∷ [])) (string_fits evaluated at b.cells (suc (length w))) _
      (both_hold (λ _. suc (length w) ≤ 65536) (λ _. b.cells + suc (length w) ≤ 1048576) (λ _. (suc (length w) ≤ 65536) × (b.cells + suc (length w) ≤ 1048576)) (demand (nat_le (suc (length w)) 65536) 13 at met) (demand (nat_le (b.cells + suc (length w)) 1048576) 13 at met) _
      (demand_holds (λ _. suc (length w) ≤ 65536) (nat_le (suc (length w)) 65536) 13 at met (λ q. leb-true (suc (length w)) 65536 q))
      (demand_holds (λ _. b.cells + suc (length w) ≤ 1048576) (nat_le (b.cells + suc (length w)) 1048576) 13 at met (λ q. leb-true (b.cells + suc (length w)) 1048576 q)) (λ _ _ h k. (h, k)))
      (λ _ h. ((refl, λ _. refl), record { sites_fit = λ l. omega (arith, l); cells_fit = λ l. (let k = h.1 in omega (arith, k)); short = (h.0, tt) }))
  string_counted c e at n b w = absurd (cc)

  site_counted : (c : Context) → c ≡ evaluated → (m : Mode) → most_calls m ≤ most → (n at : ℕ) → Holds (λ k. (k ≡ n) × (suc n ≤ most)) (site_in c (most_calls m) n at)
  site_counted evaluated e m few n at = demand_holds (λ k. (k ≡ n) × (suc n ≤ most)) (nat_lt n (most_calls m)) 13 at n (λ q. (refl, below n (most_calls m) most (ltb-true n (most_calls m) q) few))
  site_counted c e m few n at = absurd (cc)

  pub value_at_counted : (env : Env) (place : ℕ) (b : Before) (n : ℕ) (ws : List (List ℕ)) (r : Checked TypedExpression) → Holds (Counted b n ws) r → Holds (Counted b n ws) (value_at env place r)
  value_at_counted env place b n ws r h = on_holds (Counted b n ws) (Counted b n ws) r (valued env place) h (λ g k. holds_with (Gathers all_sites (Span b n)) (FitsAt b n ws) (valued env place g) k.1 (valued_gathered all_sites env place (Span b n) g k.0))

  place_at_counted : (place : ℕ) (b : Before) (n : ℕ) (ws : List (List ℕ)) (r : Checked TypedExpression) → Holds (Counted b n ws) r → Holds (Counted b n ws) (place_at place r)
  place_at_counted place b n ws r h = on_holds (Counted b n ws) (Counted b n ws) r (assignable place) h (λ g k. demand_holds (Counted b n ws) _ 4 place g (λ _. k))

  -- a rule on one part
  one_part : (b : Before) (n : ℕ) (ws : List (List ℕ)) (r : Checked TypedExpression) (k : TypedExpression → Checked TypedExpression) → Holds (Counted b n ws) r → ((g : TypedExpression) → Gathers all_sites (Span b n) g → Holds (Gathers all_sites (Span b n)) (k g)) → Holds (Counted b n ws) (on r k)
  one_part b n ws r k h f = on_holds (Counted b n ws) (Counted b n ws) r k h (λ g w. holds_with (Gathers all_sites (Span b n)) (FitsAt b n ws) (k g) w.1 (f g w.0))

  -- a rule on two parts, one behind the other
  two_parts : (b : Before) (n m : ℕ) (xs ys : List (List ℕ)) (p q : Checked TypedExpression) (k : TypedExpression → TypedExpression → Checked TypedExpression) → Holds (Counted b n xs) p → Holds (Counted (past b n xs) m ys) q
      → ((g h : TypedExpression) → Gathers all_sites (range_with_len b.sites n) g → Gathers all_sites (range_with_len (b.sites + n) m) h → Holds (Gathers all_sites (range_with_len b.sites n ++ range_with_len (b.sites + n) m)) (k g h)) → Holds (Counted b (n + m) (xs ++ ys)) (both p q k)
  two_parts b n m xs ys p q k h g f =
      both_hold (Counted b n xs) (Counted (past b n xs) m ys) (Counted b (n + m) (xs ++ ys)) p q k h g
      (λ x y v w. holds_with (Gathers all_sites (Span b (n + m))) (FitsAt b (n + m) (xs ++ ys)) (k x y) (fits_both b.sites b.cells n m xs ys v.1 w.1)
      (subst (λ zs. Holds (Gathers all_sites zs) (k x y)) (sym (range_append b.sites n m)) (f x y v.0 w.0)))

  abbrev CalleeCounted : Before → Expr → Callee → Type 0
  CalleeCounted b d f = CalleeGathers all_sites (Span b (calls d)) f × FitsAt b (calls d) (strings d)

  callee_counted : (env : Env) (b : Before) (at : ℕ) (d : Expr) (r : Checked TypedExpression) → Holds (Counted b (calls d) (strings d)) r → Holds (CalleeCounted b d) (callee env at d r)
  callee_counted env b at d r h =
      callee_holds (CalleeCounted b) env at d r
      (on_holds (Counted b (calls d) (strings d)) (CalleeCounted b d) r (callee_by_value at) h (λ g k. holds_with (CalleeGathers all_sites (Span b (calls d))) (FitsAt b (calls d) (strings d)) (callee_by_value at g) k.1 (callee_through_gathered all_sites at (Span b (calls d)) _ g.ctype k.0.0)))
      (λ place x c t e _ _. after_part (CalleeCounted b (a_name place x)) (used env.context place (function_number env x)) (callee_of_type place t) (λ f. holds_with (CalleeGathers all_sites []) (FitsAt b 0 []) (callee_of_type place t f) (fits_none b.sites b.cells) (callee_type_gathered all_sites place t f)))

  access_counted : (env : Env) (at place : ℕ) (how : Access) (x : Name) (b : Before) (n : ℕ) (ws : List (List ℕ)) (r : Checked TypedExpression) → Holds (Counted b n ws) r → Holds (Counted b n ws) (access env at place how x r)
  access_counted env at place dot x b n ws r h = one_part b n ws r (member_of env at x) h (λ g k. member_gathered all_sites env at (Span b n) x g k)
  access_counted env at place arrow x b n ws r h =
      one_part b n ws (on (value_at env place r) (indirection at)) (member_of env at x)
      (one_part b n ws (value_at env place r) (indirection at) (value_at_counted env place b n ws r h) (λ g k. indirection_gathered all_sites at (Span b n) g k)) (λ g k. member_gathered all_sites env at (Span b n) x g k)

  after_operand_counted : (env : Env) (at place : ℕ) (o : Postfix) (b : Before) (n : ℕ) (ws : List (List ℕ)) (r : Checked TypedExpression) → Holds (Counted b n ws) r → Holds (Counted b n ws) (after_operand env at place o r)
  after_operand_counted env at place post_increment b n ws r h = one_part b n ws (place_at place r) (step env at Add true) (place_at_counted place b n ws r h) (λ g k. step_gathered all_sites env at Add true (Span b n) g k)
  after_operand_counted env at place post_decrement b n ws r h = one_part b n ws (place_at place r) (step env at Sub true) (place_at_counted place b n ws r h) (λ g k. step_gathered all_sites env at Sub true (Span b n) g k)

  unary_rule_counted : (env : Env) (at place o : ℕ) (b : Before) (n : ℕ) (ws : List (List ℕ)) (r : Checked TypedExpression) → Holds (Counted b n ws) r → Holds (Counted b n ws) (unary_rule env at place o r)
  unary_rule_counted env at place o b n ws r h =
      if_holds (Counted b n ws) (nat_eq o AMPERSAND) _ _ (one_part b n ws r (address at place) h (λ g k. address_gathered all_sites at place (Span b n) g k))
      (one_part b n ws (value_at env place r) (unary_of_value at o) (value_at_counted env place b n ws r h) (λ g k. unary_gathered all_sites at o (Span b n) g k))

  cast_rule_counted : (v : Bool) (at : ℕ) (t : Checked CType) (b : Before) (n : ℕ) (ws : List (List ℕ)) (r : Checked TypedExpression) → Holds (Counted b n ws) r → Holds (Counted b n ws) (cast_rule v at t r)
  cast_rule_counted true at t b n ws r h = one_part b n ws r (null_cast at) h (λ g k. null_cast_gathered all_sites at (Span b n) g k)
  cast_rule_counted false at t b n ws r h = both_hold Any (Counted b n ws) (Counted b n ws) t r (cast_of at) (anything t) h (λ u g _ k. holds_with (Gathers all_sites (Span b n)) (FitsAt b n ws) (cast_of at u g) k.1 (cast_of_gathered all_sites at (Span b n) u g k.0))

  call_fits : (s c n m : ℕ) (xs ys : List (List ℕ)) → Fits s c n xs → suc (s + n) ≤ most → Fits (s + suc n) (c + string_cells xs) m ys → Fits s c (n + suc m) (xs ++ ys)
  call_fits s c n m xs ys h l k =
      let more : Fits (s + n) (c + string_cells xs) (suc m) ys = record { sites_fit = λ q. (let b = k.sites_fit (omega (arith, l)) in omega (arith, b)); cells_fit = k.cells_fit; short = k.short } in
      fits_both s c n (suc m) xs ys h more

  -- what is evaluated, in a mode with this limit at most
  abbrev pub Runs : Env → Type 0
  Runs env = (env.context ≡ evaluated) × (most_calls env.whole.mode ≤ most)

  mutual
    pub tree_counted : (x : Expr) (env : Env) → Runs env → (b : Before) → Holds (Counted b (calls x) (strings x)) (tree env b x)
    tree_counted (a_name at x) env e b = holds_with (Gathers all_sites []) (FitsAt b 0 []) (bound env at x (binding_of env x)) (fits_none b.sites b.cells) (bound_holds (Gathers all_sites []) env at x (binding_of env x) (λ c _. meant_gathered all_sites (λ _. refl) env at x c.means))
    tree_counted (an_int at n u) env e b = (integer_cases (Gathers all_sites []) n u (λ _. (refl, λ _. refl)) (refl, λ _. refl), fits_none b.sites b.cells)
    tree_counted (a_char at c) env e b = ((refl, λ _. refl), fits_none b.sites b.cells)
    tree_counted (a_str at w) env e b = string_counted env.context e.0 at (string_number env b) b w
    tree_counted (comma at es) env e b =
        on_holds (λ gs. AllGather all_sites (Span b (calls_of_all es)) gs × FitsAt b (calls_of_all es) (strings_of_all es)) (Counted b (calls_of_all es) (strings_of_all es)) (trees env b es) (λ gs. fine (comma_of gs)) (trees_counted es env e b) (λ gs h. (comma_gathered all_sites gs (Span b (calls_of_all es)) h.0, h.1))
    tree_counted (sizeof_type at t) env e b =
        after_part (Counted b 0 []) (type_named env t) (size_of_type env at (place_of_type t)) (λ u. holds_with (Gathers all_sites []) (FitsAt b 0 []) (size_of env at (place_of_type t) u) (fits_none b.sites b.cells) (size_gathered all_sites env at (place_of_type t) u))
    tree_counted (cast at t x) env e b = cast_rule_counted (is_void_pointer t) at (type_named env t) b (calls x) (strings x) (value_at env (place_of x) (tree env b x)) (value_at_counted env (place_of x) b (calls x) (strings x) (tree env b x) (tree_counted x env e b))
    tree_counted (call at d es) env e b =
        all_three_hold (CalleeCounted b d) (λ k. (k ≡ b.sites + calls d) × (suc (b.sites + calls d) ≤ most)) (λ gs. AllGather all_sites (Span (after_designator b d) (calls_of_all es)) gs × FitsAt (after_designator b d) (calls_of_all es) (strings_of_all es)) (Counted b (calls d + suc (calls_of_all es)) (strings d ++ strings_of_all es))
        (callee env at d (value_at env (place_of d) (tree env b d))) (site_of env (b.sites + calls d) at) (trees env (after_designator b d) es) (called at)
        (callee_counted env b at d (value_at env (place_of d) (tree env b d)) (value_at_counted env (place_of d) b (calls d) (strings d) (tree env b d) (tree_counted d env e b)))
        (site_counted env.context e.0 env.whole.mode e.1 (b.sites + calls d) at)
        (trees_counted es env e (after_designator b d))
        (λ f site gs h l k. holds_with (Gathers all_sites (Span b (calls d + suc (calls_of_all es)))) (FitsAt b (calls d + suc (calls_of_all es)) (strings d ++ strings_of_all es)) (called at f site gs)
        (call_fits b.sites b.cells (calls d) (calls_of_all es) (strings d) (strings_of_all es) h.1 l.1 k.1)
        (subst (λ xs. Holds (Gathers all_sites xs) (called at f site gs)) (call_span b.sites (calls d) (calls_of_all es) site l.0) (subst (λ k. Holds (Gathers all_sites (Span b (calls d) ++ k ∷ Span (after_designator b d) (calls_of_all es))) (called at f site gs)) (site_called site f.designator) (called_gathered all_sites at (Span b (calls d)) (Span (after_designator b d) (calls_of_all es)) f site gs h.0 k.0))))
    tree_counted (member at how x y) env e b = access_counted env at (place_of x) how y.name b (calls x) (strings x) (tree env b x) (tree_counted x env e b)
    tree_counted (postfix at o x) env e b = after_operand_counted env at (place_of x) o b (calls x) (strings x) (tree env b x) (tree_counted x env e b)
    tree_counted (prefix at pre_increment x) env e b = one_part b (calls x) (strings x) (place_at (place_of x) (tree env b x)) (step env at Add false) (place_at_counted (place_of x) b (calls x) (strings x) (tree env b x) (tree_counted x env e b)) (λ g k. step_gathered all_sites env at Add false (Span b (calls x)) g k)
    tree_counted (prefix at pre_decrement x) env e b = one_part b (calls x) (strings x) (place_at (place_of x) (tree env b x)) (step env at Sub false) (place_at_counted (place_of x) b (calls x) (strings x) (tree env b x) (tree_counted x env e b)) (λ g k. step_gathered all_sites env at Sub false (Span b (calls x)) g k)
    tree_counted (prefix at sizeof x) env e b = after_part (Counted b 0 []) (tree (in_context env sized) nothing_before x) (size_of_expression env at) (λ g. holds_with (Gathers all_sites []) (FitsAt b 0 []) (size_of env at at g.ctype) (fits_none b.sites b.cells) (size_gathered all_sites env at at g.ctype))
    tree_counted (unary at o x) env e b = unary_rule_counted env at (place_of x) o b (calls x) (strings x) (tree env b x) (tree_counted x env e b)
    tree_counted (index at x y) env e b =
        one_part b (calls x + calls y) (strings x ++ strings y) (both (value_at env (place_of x) (tree env b x)) (value_at env (place_of y) (tree env (after b x) y)) (sum env at)) (indirection at)
        (two_parts b (calls x) (calls y) (strings x) (strings y) (value_at env (place_of x) (tree env b x)) (value_at env (place_of y) (tree env (after b x) y)) (sum env at) (value_at_counted env (place_of x) b (calls x) (strings x) (tree env b x) (tree_counted x env e b)) (value_at_counted env (place_of y) (after b x) (calls y) (strings y) (tree env (after b x) y) (tree_counted y env e (after b x)))
        (λ g h k l. sum_gathered all_sites (Span b (calls x)) (Span (after b x) (calls y)) env at g h k l)) (λ g k. indirection_gathered all_sites at (Span b (calls x + calls y)) g k)
    tree_counted (binary at o x y) env e b =
        two_parts b (calls x) (calls y) (strings x) (strings y) (value_at env (place_of x) (tree env b x)) (value_at env (place_of y) (tree env (after b x) y)) (infix_rule env at o) (value_at_counted env (place_of x) b (calls x) (strings x) (tree env b x) (tree_counted x env e b)) (value_at_counted env (place_of y) (after b x) (calls y) (strings y) (tree env (after b x) y) (tree_counted y env e (after b x)))
        (λ g h k l. infix_gathered all_sites (Span b (calls x)) (Span (after b x) (calls y)) env at o g h k l)
    tree_counted (assign at o x y) env e b =
        two_parts b (calls x) (calls y) (strings x) (strings y) (place_at (place_of x) (tree env b x)) (value_at env (place_of y) (tree env (after b x) y)) (assignment_by env at o) (place_at_counted (place_of x) b (calls x) (strings x) (tree env b x) (tree_counted x env e b)) (value_at_counted env (place_of y) (after b x) (calls y) (strings y) (tree env (after b x) y) (tree_counted y env e (after b x)))
        (λ g h k l. assignment_by_gathered all_sites (Span b (calls x)) (Span (after b x) (calls y)) env at o g h k l)
    tree_counted (conditional at c x y) env e b =
        all_three_hold (Counted b (calls c) (strings c)) (Counted (after b c) (calls x) (strings x)) (Counted (after (after b c) x) (calls y) (strings y)) (Counted b (calls c + (calls x + calls y)) (strings c ++ (strings x ++ strings y)))
        (value_at env (place_of c) (tree env b c)) (value_at env (place_of x) (tree env (after b c) x)) (value_at env (place_of y) (tree env (after (after b c) x) y)) (choice at)
        (value_at_counted env (place_of c) b (calls c) (strings c) (tree env b c) (tree_counted c env e b)) (value_at_counted env (place_of x) (after b c) (calls x) (strings x) (tree env (after b c) x) (tree_counted x env e (after b c)))
        (value_at_counted env (place_of y) (after (after b c) x) (calls y) (strings y) (tree env (after (after b c) x) y) (tree_counted y env e (after (after b c) x)))
        (λ f g h i k l. holds_with (Gathers all_sites (Span b (calls c + (calls x + calls y)))) (FitsAt b (calls c + (calls x + calls y)) (strings c ++ (strings x ++ strings y))) (choice at f g h)
        (fits_both b.sites b.cells (calls c) (calls x + calls y) (strings c) (strings x ++ strings y) i.1 (fits_both (b.sites + calls c) (b.cells + string_cells (strings c)) (calls x) (calls y) (strings x) (strings y) k.1 l.1))
        (subst (λ zs. Holds (Gathers all_sites zs) (choice at f g h)) (ap (λ zs. Span b (calls c) ++ zs) (sym (range_append (b.sites + calls c) (calls x) (calls y))) ∙ sym (range_append b.sites (calls c) (calls x + calls y))) (choice_gathered all_sites (Span b (calls c)) (Span (after b c) (calls x)) (Span (after (after b c) x) (calls y)) at f g h i.0 k.0 l.0)))

    trees_counted : (xs : Exprs) (env : Env) → Runs env → (b : Before) → Holds (λ gs. AllGather all_sites (Span b (calls_of_all xs)) gs × FitsAt b (calls_of_all xs) (strings_of_all xs)) (trees env b xs)
    trees_counted no_exprs env e b = (refl, fits_none b.sites b.cells)
    trees_counted (more_exprs x xs) env e b =
        both_hold (Counted b (calls x) (strings x)) (λ gs. AllGather all_sites (Span (after b x) (calls_of_all xs)) gs × FitsAt (after b x) (calls_of_all xs) (strings_of_all xs)) (λ gs. AllGather all_sites (Span b (calls x + calls_of_all xs)) gs × FitsAt b (calls x + calls_of_all xs) (strings x ++ strings_of_all xs))
        (value_at env (place_of x) (tree env b x)) (trees env (after b x) xs) (λ g gs. fine (g ∷ gs)) (value_at_counted env (place_of x) b (calls x) (strings x) (tree env b x) (tree_counted x env e b)) (trees_counted xs env e (after b x))
        (λ g gs h k. ((Span b (calls x), Span (after b x) (calls_of_all xs), h.0, k.0, range_append b.sites (calls x) (calls_of_all xs)), fits_both b.sites b.cells (calls x) (calls_of_all xs) (strings x) (strings_of_all xs) h.1 k.1))

pub value_counted : (x : Expr) (env : Env) → env.context ≡ evaluated → (b : Before) → Holds (Counted 30000 b (calls x) (strings x)) (value env b x)
value_counted x env e b = value_at_counted 30000 env (place_of x) b (calls x) (strings x) (tree env b x) (tree_counted 30000 x env (e, few_calls env.whole.mode) b)
