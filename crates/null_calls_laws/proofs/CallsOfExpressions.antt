-- The calls of an expression that is fine stand at their sites, where those of its tree stand in the table of the program.
use Rattle.std.proofs.Common.{◌≡◌, inl, inr, ℕ, suc, ◌+◌, ◌<◌, Bool, true, false, if◌then◌else◌, List, [], ◌∷◌, ◌++◌, length, Option, Some, None, map, length-append, nat_eq, nat_lt, refl, ap, sym, subst, ◌∙◌, arith}
use Rattle.std.proofs.lemmas.Bool.{leb-true, cond_both, cases_lt}
use Rattle.std.proofs.lemmas.Bool.Decides.{Decides-ltb}
use Rattle.std.proofs.lemmas.List.{length-map}
use Rattle.dm_base.specs.declared.mode.Mode.{Mode}
use Rattle.dm_base.specs.declared.mode.Mode.TheVariants.{Plain}
use Rattle.c_lexer.specs.declared.punctuator.TheConstants.{AMPERSAND}
use Rattle.c_tree.specs.declared.value.BinOp.TheVariants.{Add, Sub}
use Rattle.c_tree.specs.Tree.{CType, pointer, function, CTypes, Program, type_of}
use Rattle.c_tree.specs.Tree as typed
use Rattle.c_tree.specs.Functions.{defined, value_type, called_type, value_types, type_of_defined, sys_types, null_types}
use Rattle.c_tree.specs.Operands.{IsResult}
use Rattle.c_meaning.specs.Mentions.{Mention, Calls, Direct, Through, mentions_of_program, Callee as Shape}
use Rattle.c_meaning.specs.CallGraph.{is_marked, reaches, callee_at}
use Rattle.c_syntax.specs.Tree.{Expr, a_name, an_int, a_char, a_str, comma, sizeof_type, cast, call, member, postfix, prefix, unary, index, binary, assign, conditional, Exprs, no_exprs, more_exprs}
use Rattle.c_syntax.specs.Tree.{Postfix, post_increment, post_decrement, pre_increment, pre_decrement, sizeof, Access, dot, arrow}
use Rattle.c_rules.specs.Checked.{Checked, fine, on, both, all_three}
use Rattle.c_rules.specs.Names.{Name}
use Rattle.c_rules.specs.Limits.{most_calls}
use Rattle.c_rules.specs.Types.{is_scalar, count}
use Rattle.c_rules.specs.Scopes.{Env, Context, evaluated, sized, in_context, Before, nothing_before, binding_of}
use Rattle.c_rules.specs.Counts.{place_of, calls, calls_of_all, after, after_designator}
use Rattle.c_rules.specs.TypedExpression.{TypedExpression, tree_of}
use Rattle.c_rules.specs.Conversions.{valued}
use Rattle.c_rules.specs.PrimaryExpressions.{used, function_number, integer_expression, string_fits}
use Rattle.c_rules.specs.PostfixExpressions.{Designator, direct, through, Callee, site_in, site_of, callee_of_type, callee_through, callee_by_value, called, member_of}
use Rattle.c_rules.specs.UnaryExpressions.{address, indirection, unary_of_value, size_of, size_of_expression, size_of_type, cast_of, null_cast}
use Rattle.c_rules.specs.BinaryExpressions.{sum, choice}
use Rattle.c_rules.specs.Assignments.{assignable, assignment_by, step, comma_of}
use Rattle.c_rules.specs.Declarators.{place_of_type, is_void_pointer}
use Rattle.c_rules.specs.Expressions.{value_at, place_at, callee, access, after_operand, unary_rule, infix_rule, cast_rule, tree, trees, type_named, value}
use Rattle.c_rules.proofs.Integers.{integer_cases}
use Rattle.null_calls_laws.specs.MarkedCalls.{Called, Sites, sites_of, called_through, called_by_type, marked_of}
use Rattle.null_calls_laws.specs.Counts.{IsName, IsDesignator, AreNamed, AllNamed}
use Rattle.null_calls_laws.specs.Tabled.{called_by, HasTypes, IsCalledAt, AreTabled, AllTabled}
use Rattle.null_calls_laws.proofs.TreeTypes.{ValueTyped, value_typed as trees_have_types}
use Rattle.c_rules_laws.proofs.Holding.{Holds, fine_same, held, holds_map, on_holds, both_hold, all_three_hold, Any, anything, demand_holds, after_part, if_holds, and_left}
use Rattle.c_rules_laws.proofs.MadeTypes.{result_is}
use Rattle.c_rules_laws.proofs.Operators.{bound_holds, callee_holds}
use Rattle.null_calls_laws.proofs.FunctionPlaces.{get_left}
use Rattle.null_calls_laws.specs.CallsIn.{calls_in, all_calls}
use Rattle.c_rules_laws.specs.ClosedTypes.{CalledTypeHas, CalleeHas}
use Rattle.null_calls_laws.specs.WrittenTypes.{Written, IsValueType}
use Rattle.null_calls_laws.specs.AbstractCasts.{NamesNoType, NameNoTypes}
use Rattle.null_calls_laws.specs.Scopes.{IsWrittenScope}
use Rattle.null_calls_laws.proofs.Closed.{written_closed}
use Rattle.null_calls_laws.proofs.Kept.{CalledGood, CallsGood}
use Rattle.c_rules_laws.proofs.TypesOfExpressions.{callee_typed, value_typed}
use Rattle.null_calls_laws.proofs.Tables.{Table, InTable, in_first, in_rest}
use Rattle.c_rules_laws.proofs.GatheredOfTypedExpressions.{called_at, Gathers, AllGather, CalleeGathers, meant_gathered, valued_gathered, called_gathered, callee_type_gathered, callee_through_gathered, member_gathered, address_gathered, indirection_gathered, unary_gathered, size_gathered, cast_of_gathered, null_cast_gathered, sum_gathered, infix_gathered, assignment_by_gathered, step_gathered, choice_gathered, comma_gathered}
use Rattle.c_rules_laws.specs.ConstantForm.{IsConst}

-- what a call has
abbrev shape_of : Designator → Shape
shape_of (direct f) = Direct f
shape_of (through e) = Through (type_of e)

called_is : (site : ℕ) (d : Designator) → called_at all_calls site d ≡ Calls site (shape_of d)
called_is site (direct f) = refl
called_is site (through e) = refl

-- ## Calls in parts

all_three_known : {A B C D : Type 0} (S : D → Type 0) (p : Checked A) (q : Checked B) (r : Checked C) (k : A → B → C → Checked D) → ((a : A) (b : B) (c : C) → p ≡ fine a → q ≡ fine b → r ≡ fine c → Holds S (k a b c)) → Holds S (all_three p q r k)
all_three_known S (fine a) (fine b) (fine c) k h = h a b c refl refl refl
all_three_known S p q r k h = tt

module _ (T : Table) where
  -- a constant has no calls; and where those of the tree stand in the table, the fact holds
  abbrev pub Tells : Type 0 → TypedExpression → Type 0
  Tells X g = (IsConst g.constant → calls_in (tree_of g) ≡ []) × (InTable T (calls_in (tree_of g)) → X)

  -- one part
  told : (X : Type 0) (xs : List Mention) (g : TypedExpression) → (InTable T xs → X) → Gathers all_calls xs g → Tells X g
  told X xs g f s = (λ c. s.0 ∙ s.1 c, λ t. f (subst (InTable T) s.0 t))

  as_sites : (X : Type 0) (g : TypedExpression) → Tells X g → Gathers all_calls (calls_in (tree_of g)) g
  as_sites X g h = (refl, h.0)

  one_tells : (X : Type 0) (r : Checked TypedExpression) (k : TypedExpression → Checked TypedExpression) → Holds (Tells X) r → ((g : TypedExpression) (xs : List Mention) → Gathers all_calls xs g → Holds (Gathers all_calls xs) (k g)) → Holds (Tells X) (on r k)
  one_tells X r k h f = on_holds (Tells X) (Tells X) r k h (λ g w. holds_map (Gathers all_calls (calls_in (tree_of g))) (Tells X) (λ a s. told X (calls_in (tree_of g)) a w.1 s) (k g) (f g (calls_in (tree_of g)) (as_sites X g w)))

  value_tells : (X : Type 0) (env : Env) (place : ℕ) (r : Checked TypedExpression) → Holds (Tells X) r → Holds (Tells X) (value_at env place r)
  value_tells X env place r h = one_tells X r (valued env place) h (λ g xs s. valued_gathered all_calls env place xs g s)

  place_tells : (X : Type 0) (place : ℕ) (r : Checked TypedExpression) → Holds (Tells X) r → Holds (Tells X) (place_at place r)
  place_tells X place r h = on_holds (Tells X) (Tells X) r (assignable place) h (λ g k. demand_holds (Tells X) _ 4 place g (λ _. k))

  two_tell : (X Y Z : Type 0) (r s : Checked TypedExpression) (k : TypedExpression → TypedExpression → Checked TypedExpression) → (X → Y → Z) → Holds (Tells X) r → Holds (Tells Y) s → ((a b : TypedExpression) (xs ys : List Mention) → Gathers all_calls xs a → Gathers all_calls ys b → Holds (Gathers all_calls (xs ++ ys)) (k a b)) → Holds (Tells Z) (both r s k)
  two_tell X Y Z r s k z h g f =
      both_hold (Tells X) (Tells Y) (Tells Z) r s k h g
      (λ a b u v.
      (let xs : List Mention = calls_in (tree_of a) in
      let ys : List Mention = calls_in (tree_of b) in
      holds_map (Gathers all_calls (xs ++ ys)) (Tells Z) (λ c w. told Z (xs ++ ys) c (λ t. z (u.1 (in_first T xs ys t)) (v.1 (in_rest T xs ys t))) w) (k a b) (f a b xs ys (as_sites X a u) (as_sites Y b v))))

  three_tell : (X Y Z R : Type 0) (q r s : Checked TypedExpression) (k : TypedExpression → TypedExpression → TypedExpression → Checked TypedExpression) → (X → Y → Z → R) → Holds (Tells X) q → Holds (Tells Y) r → Holds (Tells Z) s
      → ((a b c : TypedExpression) (xs ys zs : List Mention) → Gathers all_calls xs a → Gathers all_calls ys b → Gathers all_calls zs c → Holds (Gathers all_calls (xs ++ (ys ++ zs))) (k a b c)) → Holds (Tells R) (all_three q r s k)
  three_tell X Y Z R q r s k z h g l f =
      all_three_hold (Tells X) (Tells Y) (Tells Z) (Tells R) q r s k h g l
      (λ a b c u v w.
      (let xs : List Mention = calls_in (tree_of a) in
      let ys : List Mention = calls_in (tree_of b) in
      let zs : List Mention = calls_in (tree_of c) in
      holds_map (Gathers all_calls (xs ++ (ys ++ zs))) (Tells R) (λ d e. told R (xs ++ (ys ++ zs)) d (λ t. z (u.1 (in_first T xs (ys ++ zs) t)) (v.1 (in_first T ys zs (in_rest T xs (ys ++ zs) t))) (w.1 (in_rest T ys zs (in_rest T xs (ys ++ zs) t)))) e) (k a b c)
      (f a b c xs ys zs (as_sites X a u) (as_sites Y b v) (as_sites Z c w))))

  none_tells : (X : Type 0) (g : TypedExpression) → X → Gathers all_calls [] g → Tells X g
  none_tells X g x s = told X [] g (λ _. x) s

  -- ## Rules

  access_tells : (X : Type 0) (env : Env) (at place : ℕ) (how : Access) (x : Name) (r : Checked TypedExpression) → Holds (Tells X) r → Holds (Tells X) (access env at place how x r)
  access_tells X env at place dot x r h = one_tells X r (member_of env at x) h (λ g xs s. member_gathered all_calls env at xs x g s)
  access_tells X env at place arrow x r h = one_tells X (on (value_at env place r) (indirection at)) (member_of env at x) (one_tells X (value_at env place r) (indirection at) (value_tells X env place r h) (λ g xs s. indirection_gathered all_calls at xs g s)) (λ g xs s. member_gathered all_calls env at xs x g s)

  after_tells : (X : Type 0) (env : Env) (at place : ℕ) (o : Postfix) (r : Checked TypedExpression) → Holds (Tells X) r → Holds (Tells X) (after_operand env at place o r)
  after_tells X env at place post_increment r h = one_tells X (place_at place r) (step env at Add true) (place_tells X place r h) (λ g xs s. step_gathered all_calls env at Add true xs g s)
  after_tells X env at place post_decrement r h = one_tells X (place_at place r) (step env at Sub true) (place_tells X place r h) (λ g xs s. step_gathered all_calls env at Sub true xs g s)

  unary_tells : (X : Type 0) (env : Env) (at place o : ℕ) (r : Checked TypedExpression) → Holds (Tells X) r → Holds (Tells X) (unary_rule env at place o r)
  unary_tells X env at place o r h =
      if_holds (Tells X) (nat_eq o AMPERSAND) _ _ (one_tells X r (address at place) h (λ g xs s. address_gathered all_calls at place xs g s)) (one_tells X (value_at env place r) (unary_of_value at o) (value_tells X env place r h) (λ g xs s. unary_gathered all_calls at o xs g s))

  cast_tells : (X : Type 0) (to_null : Bool) (at : ℕ) (t : Checked CType) (r : Checked TypedExpression) → Holds (Tells X) r → Holds (Tells X) (cast_rule to_null at t r)
  cast_tells X true at t r h = one_tells X r (null_cast at) h (λ g xs s. null_cast_gathered all_calls at xs g s)
  cast_tells X false at t r h =
      both_hold Any (Tells X) (Tells X) t r (cast_of at) (anything t) h (λ u g _ w. holds_map (Gathers all_calls (calls_in (tree_of g))) (Tells X) (λ a s. told X (calls_in (tree_of g)) a w.1 s) (cast_of at u g) (cast_of_gathered all_calls at (calls_in (tree_of g)) u g (as_sites X g w)))

  integer_tells : (n : ℕ) (u : Bool) → Gathers all_calls [] (integer_expression n u)
  integer_tells n u = integer_cases (Gathers all_calls []) n u (λ _. (refl, λ _. refl)) (refl, λ _. refl)

-- ## Callees

module _ (p : Program) where
  abbrev Right : Callee → Type 0
  Right f = HasTypes p f.designator f.returns f.parameters

  through_right : (at : ℕ) (e : typed.Expr) (t : CType) → type_of e ≡ t → Holds Right (callee_through at e t)
  through_right at e (pointer (function t ts)) h = h
  through_right at e t h = tt

  by_value_right : (at : ℕ) (r : Checked TypedExpression) → Holds ValueTyped r → Holds Right (on r (callee_by_value at))
  by_value_right at r h = on_holds ValueTyped Right r (callee_by_value at) h (λ g k. through_right at (tree_of g) g.ctype k)

  type_right : (place : ℕ) (t : CType) (n : ℕ) → called_type p n ≡ Some t → Holds Right (callee_of_type place t n)
  type_right place (function t ts) n h = h
  type_right place t n h = tt

  used_right : (c : Context) → c ≡ evaluated → (place : ℕ) (o : Option ℕ) (t : CType) → ((n : ℕ) → o ≡ Some n → called_type p n ≡ Some t) → Holds Right (on (used c place o) (callee_of_type place t))
  used_right c e place (Some n) t h = type_right place t n (h n refl)
  used_right evaluated e place None t h = tt
  used_right c e place None t h = absurd (cc)

  -- what is called has its types
  callee_right : (enums tags stood : List Name) (env : Env) → IsWrittenScope p enums tags stood env → (at : ℕ) (d : Expr) (r : Checked TypedExpression) → Holds ValueTyped r → Holds Right (callee env at d r)
  callee_right enums tags stood env w at d r h =
      callee_holds (λ _. Right) env at d r (by_value_right at r h) (λ place x b t k e q. used_right env.context w.runs place (function_number env x) t (λ n f. w.functions x b t k n e q f))

abbrev IsDirect : Designator → Type 0
IsDirect (direct n) = Unit {0}
IsDirect (through e) = ⊥

no_direct : (P : Type 0) (at : ℕ) (e : typed.Expr) (t : CType) → Holds (λ f. IsDirect f.designator → P) (callee_through at e t)
no_direct P at e (pointer (function t ts)) = λ k. absurd k
no_direct P at e t = tt

-- what is called directly is named
named_directly : (env : Env) (at : ℕ) (d : Expr) (r : Checked TypedExpression) → Holds (λ f. IsDirect f.designator → IsName d) (callee env at d r)
named_directly env at (a_name place x) r = holds_map Any (λ f. IsDirect f.designator → Unit {0}) (λ _ _ _. tt) (callee env at (a_name place x) r) (anything (callee env at (a_name place x) r))
named_directly env at d r = after_part (λ f. IsDirect f.designator → IsName d) r (callee_by_value at) (λ g. no_direct (IsName d) at (tree_of g) g.ctype)

-- ## What the instrumenter knows of a call

same_if : (b : Bool) (x y : Option Called) → (b ≡ true → x ≡ y) → (if b then x else None) ≡ (if b then y else None)
same_if true x y h = h refl
same_if false x y h = refl

module _ (p : Program) where
  value_of_marked : (n : ℕ) (t : CType) → is_marked p (Direct n) ≡ true → called_type p n ≡ Some t → value_type p n ≡ Some t
  value_of_marked n t m h =
      let l : n < defined p = (Decides-ltb n (defined p)).0 (and_left (nat_lt n (defined p)) (reaches p n) m) in
      let long : length (value_types p) ≡ defined p + length sys_types = length-append (map type_of_defined p.functions) sys_types ∙ ap (λ k. k + length sys_types) (length-map p.functions type_of_defined) in
      let within : n < length (value_types p) = omega (arith, l, long) in
      sym (get_left (value_types p) null_types n within) ∙ h

  entry_of : (d : Designator) (t : CType) (ts : CTypes) → HasTypes p d t ts → marked_of p (Some (shape_of d)) ≡ called_by p d t ts
  entry_of (direct n) t ts h = same_if (is_marked p (Direct n)) (called_by_type None (value_type p n)) (Some (record { pointer_type = None; returns = t; parameters = ts })) (λ m. ap (called_by_type None) (value_of_marked n (function t ts) m h))
  entry_of (through e) t ts h =
      same_if (is_marked p (Through (type_of e))) (called_through (type_of e)) (Some (record { pointer_type = Some (type_of e); returns = t; parameters = ts }))
      (λ _. subst (λ u. called_through u ≡ Some (record { pointer_type = Some u; returns = t; parameters = ts })) (sym h) refl)

  module _ (enums tags stood : List Name) where
    abbrev V : CType → Type 0
    V = IsValueType enums tags stood

    good_of : (site : ℕ) → site < 10000 → (d : Designator) (t : CType) (ts : CTypes) → HasTypes p d t ts → CalledTypeHas V d (function t ts) → CalledGood enums tags stood site (called_by p d t ts)
    good_of site l (direct n) t ts h k = cond_both (is_marked p (Direct n)) (Some (record { pointer_type = None; returns = t; parameters = ts })) None (CalledGood enums tags stood site) (λ _. (tt, k.4, k.3, k.0, leb-true (count ts) 16 k.1, l)) (λ _. l)
    good_of site l (through e) t ts h k =
        cond_both (is_marked p (Through (type_of e))) (Some (record { pointer_type = Some (type_of e); returns = t; parameters = ts })) None (CalledGood enums tags stood site)
        (λ _. (subst (λ u. (is_scalar u ≡ true) × Written enums tags stood u) (sym h) (refl, k), k.2.4, k.2.3, k.2.0, leb-true (count ts) 16 k.2.1, l)) (λ _. l)

    result_of : (d : Designator) (t : CType) (ts : CTypes) → CalledTypeHas V d (function t ts) → IsResult t
    result_of (direct n) t ts k = result_is t k.0
    result_of (through e) t ts k = result_is t k.2.0

  designator_of : (x : Designator) (t : CType) (ts : CTypes) (d : Expr) → (IsDirect x → IsName d) → IsDesignator (called_by p x t ts) d
  designator_of (direct n) t ts d h = cond_both (is_marked p (Direct n)) (Some (record { pointer_type = None; returns = t; parameters = ts })) None (λ o. IsDesignator o d) (λ _ _. h tt) (λ _. tt)
  designator_of (through e) t ts d h = cond_both (is_marked p (Through (type_of e))) (Some (record { pointer_type = Some (type_of e); returns = t; parameters = ts })) None (λ o. IsDesignator o d) (λ _ q. absurd (let z : Some (type_of e) ≡ None = q in cc)) (λ _. tt)

-- ## Expressions

module _ (p : Program) (enums tags stood : List Name) where
  abbrev pub T : Table
  T = λ s. callee_at s (mentions_of_program p)

  abbrev sites : Sites
  sites = sites_of p

  abbrev Good : (lo n : ℕ) → Type 0
  Good = CallsGood enums tags stood sites

  no_calls : (lo : ℕ) → Good lo 0
  no_calls lo = λ s l m. absurd (omega (arith, l, m))

  more_calls : (lo m n : ℕ) → Good lo m → Good (lo + m) n → Good lo (m + n)
  more_calls lo m n h k = λ s l q. elim (cases_lt s (lo + m)) as (λ _. CalledGood enums tags stood s (sites s)) [ inl f ↦ h s l f | inr r ↦ k s r (omega (arith, q)) ]

  -- a call, between its designator and its arguments
  one_call : (lo m n : ℕ) → Good lo m → CalledGood enums tags stood (lo + m) (sites (lo + m)) → Good (lo + suc m) n → Good lo (m + suc n)
  one_call lo m n h c k =
      more_calls lo m (suc n) h (λ s l q. elim (cases_lt (lo + m) s) as (λ _. CalledGood enums tags stood s (sites s)) [
        | inl f ↦ k s (omega (arith, f)) (omega (arith, q))
        | inr r ↦ (let e : lo + m ≡ s = omega (arith, l, r) in subst (λ s. CalledGood enums tags stood s (sites s)) e c)
      ])

  -- each call of the expression stands at its site, names what it calls, and calls something of a type that declarators make
  abbrev pub Passes : Env → Before → Expr → Type 0
  Passes env b x = AreTabled p sites env b x × AreNamed sites b.sites x × Good b.sites (calls x)

  abbrev pub AllPass : Env → Before → Exprs → Type 0
  AllPass env b xs = AllTabled p sites env b xs × AllNamed sites b.sites xs × Good b.sites (calls_of_all xs)

  abbrev Scope : Env → Type 0
  Scope = IsWrittenScope p enums tags stood

  abbrev TypedExpressionsTell : Type 0 → List TypedExpression → Type 0
  TypedExpressionsTell X gs = (xs : List Mention) × AllGather all_calls xs gs × (InTable T xs → X)

  abbrev CalleeTells : Type 0 → Callee → Type 0
  CalleeTells X f = (xs : List Mention) × CalleeGathers all_calls xs f × (InTable T xs → X)

  by_value_tells : (X : Type 0) (at : ℕ) (r : Checked TypedExpression) → Holds (Tells T X) r → Holds (CalleeTells X) (on r (callee_by_value at))
  by_value_tells X at r h = on_holds (Tells T X) (CalleeTells X) r (callee_by_value at) h (λ g k. holds_map (CalleeGathers all_calls (calls_in (tree_of g))) (CalleeTells X) (λ f s. (calls_in (tree_of g), s, k.1)) (callee_through at (tree_of g) g.ctype) (callee_through_gathered all_calls at (calls_in (tree_of g)) (tree_of g) g.ctype refl))

  callee_tells : (env : Env) (b : Before) (at : ℕ) (d : Expr) (r : Checked TypedExpression) → Holds (Tells T (Passes env b d)) r → Holds (CalleeTells (Passes env b d)) (callee env at d r)
  callee_tells env b at d r h =
      callee_holds (λ e. CalleeTells (Passes env b e)) env at d r (by_value_tells (Passes env b d) at r h)
      (λ place x c t k _ _. after_part (CalleeTells (Passes env b (a_name place x))) (used env.context place (function_number env x)) (callee_of_type place t)
      (λ n. holds_map (CalleeGathers all_calls []) (CalleeTells (Passes env b (a_name place x))) (λ f s. ([], s, λ _. (tt, tt, no_calls b.sites))) (callee_of_type place t n) (callee_type_gathered all_calls place t n)))

  site_is : (c : Context) → c ≡ evaluated → (m : Mode) → m ≡ Plain → (n at : ℕ) → Holds (λ k. (k ≡ n) × (n < 10000)) (site_in c (most_calls m) n at)
  site_is evaluated e Plain f n at = demand_holds (λ k. (k ≡ n) × (n < 10000)) (nat_lt n 10000) 13 at n (λ q. (refl, (Decides-ltb n 10000).0 q))
  site_is c e m f n at = absurd (cc)

  -- what is known of a call whose site has its callee in the table
  module _ (env : Env) (w : Scope env) (b : Before) (at : ℕ) (d : Expr) (f : Callee) (e : callee env at d (value_at env (place_of d) (tree env b d)) ≡ fine f) (entry : T (b.sites + calls d) ≡ Some (shape_of f.designator)) (low : b.sites + calls d < 10000) where
    abbrev r : Checked TypedExpression
    r = value_at env (place_of d) (tree env b d)

    types : HasTypes p f.designator f.returns f.parameters
    types = held (Right p) (callee env at d r) f (callee_right p enums tags stood env w at d r (trees_have_types d env b)) e

    has : CalleeHas (IsValueType enums tags stood) f
    has = held (CalleeHas (IsValueType enums tags stood)) (callee env at d r) f (callee_typed (Written enums tags stood) (IsValueType enums tags stood) (written_closed enums tags stood) env w.has at d r (value_typed (Written enums tags stood) (IsValueType enums tags stood) (written_closed enums tags stood) env w.has b d)) e

    there : sites (b.sites + calls d) ≡ called_by p f.designator f.returns f.parameters
    there = ap (marked_of p) entry ∙ entry_of p f.designator f.returns f.parameters types

    called_there : (g : Callee) → callee env at d r ≡ fine g → IsCalledAt p sites (b.sites + calls d) g
    called_there g q = subst (IsCalledAt p sites (b.sites + calls d)) (fine_same f g (sym e ∙ q)) (record { entry = there; types = types; result = result_of p enums tags stood f.designator f.returns f.parameters has })

    named_there : IsDesignator (sites (b.sites + calls d)) d
    named_there = subst (λ o. IsDesignator o d) (sym there) (designator_of p f.designator f.returns f.parameters d (held (λ f. IsDirect f.designator → IsName d) (callee env at d r) f (named_directly env at d r) e))

    good_there : CalledGood enums tags stood (b.sites + calls d) (sites (b.sites + calls d))
    good_there = subst (CalledGood enums tags stood (b.sites + calls d)) (sym there) (good_of p enums tags stood (b.sites + calls d) low f.designator f.returns f.parameters types has)

  call_passes : (env : Env) → Scope env → (b : Before) (at : ℕ) (d : Expr) (es : Exprs) → Holds (Tells T (Passes env b d)) (tree env b d) → Holds (TypedExpressionsTell (AllPass env (after_designator b d) es)) (trees env (after_designator b d) es) → Holds (Tells T (Passes env b (call at d es))) (tree env b (call at d es))
  call_passes env w b at d es hd he =
      let r : Checked TypedExpression = value_at env (place_of d) (tree env b d) in
      let b1 : Before = after_designator b d in
      all_three_known (Tells T (Passes env b (call at d es))) (callee env at d r) (site_of env (b.sites + calls d) at) (trees env b1 es) (called at)
      (λ f s gs ef es' eg.
      (let c : CalleeTells (Passes env b d) f = held (CalleeTells (Passes env b d)) (callee env at d r) f (callee_tells env b at d r (value_tells T (Passes env b d) env (place_of d) (tree env b d) hd)) ef in
      let g : TypedExpressionsTell (AllPass env b1 es) gs = held (TypedExpressionsTell (AllPass env b1 es)) (trees env b1 es) gs he eg in
      let n = held (λ k. (k ≡ b.sites + calls d) × (b.sites + calls d < 10000)) (site_of env (b.sites + calls d) at) s (site_is env.context w.runs env.whole.mode w.plain (b.sites + calls d) at) es' in
      let later : b.sites + suc (calls d) ≡ suc (b.sites + calls d) = omega arith in
      holds_map (Gathers all_calls (c.0 ++ Calls s (shape_of f.designator) ∷ g.0)) (Tells T (Passes env b (call at d es)))
      (λ h q. told T (Passes env b (call at d es)) (c.0 ++ Calls s (shape_of f.designator) ∷ g.0) h
      (λ t.
      (let x : Passes env b d = c.2 (in_first T c.0 (Calls s (shape_of f.designator) ∷ g.0) t) in
      let y = in_rest T c.0 (Calls s (shape_of f.designator) ∷ g.0) t in
      let z : AllPass env b1 es = g.2 y.1 in
      let entry : T (b.sites + calls d) ≡ Some (shape_of f.designator) = subst (λ k. T k ≡ Some (shape_of f.designator)) n.0 y.0 in
      ((called_there env w b at d f ef entry n.1, x.0, z.0), (named_there env w b at d f ef entry n.1, x.1, subst (λ k. AllNamed sites k es) later z.1), one_call b.sites (calls d) (calls_of_all es) x.2 (good_there env w b at d f ef entry n.1) z.2))) q)
      (called at f s gs) (subst (λ k. Holds (Gathers all_calls (c.0 ++ k ∷ g.0)) (called at f s gs)) (called_is s f.designator) (called_gathered all_calls at c.0 g.0 f s gs c.1 g.1))))

  mutual
    pub tree_passes : (x : Expr) (env : Env) → Scope env → (b : Before) → NamesNoType x → Holds (Tells T (Passes env b x)) (tree env b x)
    tree_passes (a_name at x) env w b l = holds_map (Gathers all_calls []) (Tells T (Passes env b (a_name at x))) (λ g s. none_tells T (Passes env b (a_name at x)) g (tt, tt, no_calls b.sites) s) (tree env b (a_name at x)) (bound_holds (Gathers all_calls []) env at x (binding_of env x) (λ c _. meant_gathered all_calls (λ _. refl) env at x c.means))
    tree_passes (an_int at n u) env w b l = none_tells T (Passes env b (an_int at n u)) (integer_expression n u) (tt, tt, no_calls b.sites) (integer_tells T n u)
    tree_passes (a_char at c) env w b l = (λ _. refl, λ _. (tt, tt, no_calls b.sites))
    tree_passes (a_str at s) env w b l = after_part (Tells T (Passes env b (a_str at s))) (string_fits env.context at b.cells (suc (length s))) _ (λ _. (λ _. refl, λ _. (tt, tt, no_calls b.sites)))
    tree_passes (comma at es) env w b l =
        on_holds (TypedExpressionsTell (AllPass env b es)) (Tells T (Passes env b (comma at es))) (trees env b es) (λ gs. fine (comma_of gs)) (trees_pass es env w b l) (λ gs k. told T (Passes env b (comma at es)) k.0 (comma_of gs) k.2 (comma_gathered all_calls gs k.0 k.1))
    tree_passes (sizeof_type at t) env w b l =
        after_part (Tells T (Passes env b (sizeof_type at t))) (type_named env t) (size_of_type env at (place_of_type t))
        (λ u. holds_map (Gathers all_calls []) (Tells T (Passes env b (sizeof_type at t))) (λ g s. none_tells T (Passes env b (sizeof_type at t)) g (tt, tt, no_calls b.sites) s) (size_of env at (place_of_type t) u) (size_gathered all_calls env at (place_of_type t) u))
    tree_passes (cast at t e) env w b l =
        cast_tells T (Passes env b (cast at t e)) (is_void_pointer t) at (type_named env t) (value_at env (place_of e) (tree env b e))
        (holds_map (Tells T (Passes env b e)) (Tells T (Passes env b (cast at t e))) (λ g k. (k.0, λ z. (let y = k.1 z in ((l.0, y.0), y.1, y.2)))) (value_at env (place_of e) (tree env b e)) (value_tells T (Passes env b e) env (place_of e) (tree env b e) (tree_passes e env w b l.1)))
    tree_passes (call at d es) env w b l = call_passes env w b at d es (tree_passes d env w b l.0) (trees_pass es env w (after_designator b d) l.1)
    tree_passes (member at how e x) env w b l = access_tells T (Passes env b e) env at (place_of e) how x.name (tree env b e) (tree_passes e env w b l)
    tree_passes (postfix at o e) env w b l = after_tells T (Passes env b e) env at (place_of e) o (tree env b e) (tree_passes e env w b l)
    tree_passes (prefix at pre_increment e) env w b l = one_tells T (Passes env b e) (place_at (place_of e) (tree env b e)) (step env at Add false) (place_tells T (Passes env b e) (place_of e) (tree env b e) (tree_passes e env w b l)) (λ g xs s. step_gathered all_calls env at Add false xs g s)
    tree_passes (prefix at pre_decrement e) env w b l = one_tells T (Passes env b e) (place_at (place_of e) (tree env b e)) (step env at Sub false) (place_tells T (Passes env b e) (place_of e) (tree env b e) (tree_passes e env w b l)) (λ g xs s. step_gathered all_calls env at Sub false xs g s)
    tree_passes (prefix at sizeof e) env w b l =
        after_part (Tells T (Passes env b (prefix at sizeof e))) (tree (in_context env sized) nothing_before e) (size_of_expression env at)
        (λ g. holds_map (Gathers all_calls []) (Tells T (Passes env b (prefix at sizeof e))) (λ h s. none_tells T (Passes env b (prefix at sizeof e)) h (tt, tt, no_calls b.sites) s) (size_of env at at g.ctype) (size_gathered all_calls env at at g.ctype))
    tree_passes (unary at o e) env w b l = unary_tells T (Passes env b e) env at (place_of e) o (tree env b e) (tree_passes e env w b l)
    tree_passes (index at e f) env w b l =
        one_tells T (Passes env b (index at e f)) (both (value_at env (place_of e) (tree env b e)) (value_at env (place_of f) (tree env (after b e) f)) (sum env at)) (indirection at)
        (two_tell T (Passes env b e) (Passes env (after b e) f) (Passes env b (index at e f)) (value_at env (place_of e) (tree env b e)) (value_at env (place_of f) (tree env (after b e) f)) (sum env at) (λ x y. ((x.0, y.0), (x.1, y.1), more_calls b.sites (calls e) (calls f) x.2 y.2))
        (value_tells T (Passes env b e) env (place_of e) (tree env b e) (tree_passes e env w b l.0)) (value_tells T (Passes env (after b e) f) env (place_of f) (tree env (after b e) f) (tree_passes f env w (after b e) l.1)) (λ g h xs ys s t. sum_gathered all_calls xs ys env at g h s t))
        (λ g xs s. indirection_gathered all_calls at xs g s)
    tree_passes (binary at o e f) env w b l =
        two_tell T (Passes env b e) (Passes env (after b e) f) (Passes env b (binary at o e f)) (value_at env (place_of e) (tree env b e)) (value_at env (place_of f) (tree env (after b e) f)) (infix_rule env at o) (λ x y. ((x.0, y.0), (x.1, y.1), more_calls b.sites (calls e) (calls f) x.2 y.2))
        (value_tells T (Passes env b e) env (place_of e) (tree env b e) (tree_passes e env w b l.0)) (value_tells T (Passes env (after b e) f) env (place_of f) (tree env (after b e) f) (tree_passes f env w (after b e) l.1)) (λ g h xs ys s t. infix_gathered all_calls xs ys env at o g h s t)
    tree_passes (assign at o e f) env w b l =
        two_tell T (Passes env b e) (Passes env (after b e) f) (Passes env b (assign at o e f)) (place_at (place_of e) (tree env b e)) (value_at env (place_of f) (tree env (after b e) f)) (assignment_by env at o) (λ x y. ((x.0, y.0), (x.1, y.1), more_calls b.sites (calls e) (calls f) x.2 y.2))
        (place_tells T (Passes env b e) (place_of e) (tree env b e) (tree_passes e env w b l.0)) (value_tells T (Passes env (after b e) f) env (place_of f) (tree env (after b e) f) (tree_passes f env w (after b e) l.1)) (λ g h xs ys s t. assignment_by_gathered all_calls xs ys env at o g h s t)
    tree_passes (conditional at c e f) env w b l =
        three_tell T (Passes env b c) (Passes env (after b c) e) (Passes env (after (after b c) e) f) (Passes env b (conditional at c e f)) (value_at env (place_of c) (tree env b c)) (value_at env (place_of e) (tree env (after b c) e)) (value_at env (place_of f) (tree env (after (after b c) e) f)) (choice at)
        (λ x y z. ((x.0, y.0, z.0), (x.1, y.1, z.1), more_calls b.sites (calls c) (calls e + calls f) x.2 (more_calls (b.sites + calls c) (calls e) (calls f) y.2 z.2)))
        (value_tells T (Passes env b c) env (place_of c) (tree env b c) (tree_passes c env w b l.0)) (value_tells T (Passes env (after b c) e) env (place_of e) (tree env (after b c) e) (tree_passes e env w (after b c) l.1)) (value_tells T (Passes env (after (after b c) e) f) env (place_of f) (tree env (after (after b c) e) f) (tree_passes f env w (after (after b c) e) l.2))
        (λ g h i xs ys zs s t u. choice_gathered all_calls xs ys zs at g h i s t u)

    pub trees_pass : (xs : Exprs) (env : Env) → Scope env → (b : Before) → NameNoTypes xs → Holds (TypedExpressionsTell (AllPass env b xs)) (trees env b xs)
    trees_pass no_exprs env w b l = ([], refl, λ _. (tt, tt, no_calls b.sites))
    trees_pass (more_exprs x xs) env w b l =
        both_hold (Tells T (Passes env b x)) (TypedExpressionsTell (AllPass env (after b x) xs)) (TypedExpressionsTell (AllPass env b (more_exprs x xs))) (value_at env (place_of x) (tree env b x)) (trees env (after b x) xs) (λ g gs. fine (g ∷ gs))
        (value_tells T (Passes env b x) env (place_of x) (tree env b x) (tree_passes x env w b l.0)) (trees_pass xs env w (after b x) l.1)
        (λ g gs h k. (calls_in (tree_of g) ++ k.0, (calls_in (tree_of g), k.0, (refl, h.0), k.1, refl), λ t. (let y = h.1 (in_first T (calls_in (tree_of g)) k.0 t) in let z = k.2 (in_rest T (calls_in (tree_of g)) k.0 t) in ((y.0, z.0), (y.1, z.1), more_calls b.sites (calls x) (calls_of_all xs) y.2 z.2))))

  pub value_passes : (x : Expr) (env : Env) → Scope env → (b : Before) → NamesNoType x → Holds (Tells T (Passes env b x)) (value env b x)
  value_passes x env w b l = value_tells T (Passes env b x) env (place_of x) (tree env b x) (tree_passes x env w b l)
