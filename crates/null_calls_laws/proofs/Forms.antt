-- The forms of expressions but casts, calls and commas: where their parts go, they do.
use Rattle.std.proofs.Common.{◌≡◌, ℕ, suc, ◌+◌, ℤ, Bool, true, false, ◌&&◌, nat_eq, if◌then◌else◌, List, [], ◌∷◌, ◌++◌, length, Option, Some, None, refl, ap, ap₂, sym, subst, ◌∙◌, arith}
use Rattle.std.proofs.lemmas.Bool.Decides.{Decides-eqb}
use Rattle.c_lexer.specs.declared.punctuator.TheConstants.{AMPERSAND, ASTERISK}
use Rattle.c_tree.specs.declared.value.BinOp.{BinOp}
use Rattle.c_tree.specs.declared.value.BinOp.TheVariants.{Add, Sub}
use Rattle.c_tree.specs.Tree.{CType, Program}
use Rattle.c_syntax.specs.Tree.{Ident, Expr, a_name, an_int, a_char, a_str, comma, sizeof_type, call, member, postfix, prefix, unary, index, binary, assign, conditional, Exprs}
use Rattle.c_syntax.specs.Tree.{Access, dot, Postfix, post_increment, Prefix, pre_increment, pre_decrement, sizeof, Infix, TypeName}
use Rattle.c_syntax.specs.Tree as syntax
use Rattle.c_tree.specs.Tree as typed
use Rattle.c_rules.specs.Checked.{Checked, fine, faulty, demand, on, both, met}
use Rattle.c_rules.specs.Names.{Name}
use Rattle.c_rules.specs.Scopes.{Env, Binding, sized, in_context, Before, nothing_before}
use Rattle.c_rules.specs.Counts.{place_of, calls, after, after_designator}
use Rattle.c_rules.specs.TypedExpression.{TypedExpression}
use Rattle.c_rules.specs.PrimaryExpressions.{typed_int, integer_expression, named_expression, string_expression}
use Rattle.c_rules.specs.PostfixExpressions.{as_many_as, all_fit, called, site_of}
use Rattle.c_rules.specs.UnaryExpressions.{led_to, indirection, address}
use Rattle.c_rules.specs.BinaryExpressions.{sum, choice}
use Rattle.c_rules.specs.Assignments.{assignment_by, step, comma_of}
use Rattle.c_rules.specs.Declarators.{place_of_type}
use Rattle.c_rules.specs.Expressions.{value_at, place_at, access, after_operand, unary_rule, infix_rule, callee, tree, trees, value, type_named}
use Rattle.null_calls_laws.specs.MarkedCalls.{Called, Sites}
use Rattle.null_calls_laws.specs.Temporaries.{Temporary}
use Rattle.null_calls_laws.specs.InstrumentedExpressions.{is_address_of_indirection, call_where, expr, kept}
use Rattle.c_rules_laws.specs.TypedAlike.{More, plain_scope, instrumented_scope, AreUnreserved, MeanAlike, beside}
use Rattle.c_rules_laws.proofs.Holding.{and_left, and_right}
use Rattle.c_rules_laws.proofs.Leads.{Leads, same_leads}
use Rattle.c_rules_laws.proofs.Names.{named_leads}
use Rattle.c_rules_laws.proofs.Parts.{tree_leads}
use Rattle.null_calls_laws.specs.Remade.{remade, IsRemade, Follows}
use Rattle.null_calls_laws.proofs.Operands.{operand, on_follows}
use Rattle.null_calls_laws.proofs.Unary.{indirection_follows, value_at_follows, place_at_follows, access_follows, unary_follows}
use Rattle.null_calls_laws.proofs.Binary.{sum_follows, infix_follows, assignment_by_follows, both_follow, stepped_follows, after_follows, choice_follows, three_follow}
use Rattle.null_calls_laws.specs.Counts.{AreNamed, Near}
use Rattle.null_calls_laws.proofs.ExpressionCounts.{places_near}
use Rattle.null_calls_laws.specs.Tabled.{AreTabled, AreFound}
use Rattle.null_calls_laws.specs.Follow.{types_of, UnusedFollows, ExprFollows, UnusedExprFollows, Goes}
use Rattle.null_calls_laws.proofs.Leaves.{Holds, after_part, demand_holds, leaf_follows, named_leaf, integer_leaf, string_leaf, size_given_leaf, size_type_leaf, string_same}
use Rattle.null_calls_laws.proofs.Solid.{SolidValue, IsFirm, LeadsFirmly, given_firm, given_led, value_solid, unary_firm, unary_led, index_firm, index_leads}
use Rattle.null_calls_laws.proofs.Given.{IsSimple, tree_given, after_three}

-- ## Temporaries of two parts

pub types_both : (xs ys : List Temporary) → types_of (xs ++ ys) ≡ types_of xs ++ types_of ys
types_both [] ys = refl
types_both (x ∷ xs) ys = ap (λ ts. x.ctype ∷ ts) (types_both xs ys)

pub found_first : (names : List Binding) (k : ℕ) (xs ys : List Temporary) → AreFound names k (xs ++ ys) → AreFound names k xs
found_first names k [] ys h = tt
found_first names k (x ∷ xs) ys h = (h.0, found_first names (suc k) xs ys h.1)

pub found_rest : (names : List Binding) (k : ℕ) (xs ys : List Temporary) → AreFound names k (xs ++ ys) → AreFound names (k + length (types_of xs)) ys
found_rest names k [] ys h = (let e : k ≡ k + 0 = omega arith in subst (λ n. AreFound names n ys) e h)
found_rest names k (x ∷ xs) ys h = (let e : suc k + length (types_of xs) ≡ k + length (types_of (x ∷ xs)) = omega arith in subst (λ n. AreFound names n ys) e (found_rest names (suc k) xs ys h.1))

-- ## Places

call_place : (at site : ℕ) (wanted : Bool) (o : Option Called) (d : Expr) (es : Exprs) → place_of (call_where at site wanted o d es) ≡ at
call_place at site wanted None d es = refl
call_place at site wanted (Some c) d es = refl

pub place_same : (sites : Sites) (b : ℕ) (x : Expr) → place_of (expr sites b true x) ≡ place_of x
place_same sites b (call at d es) = call_place at (b + calls d) true (sites (b + calls d)) _ _
place_same sites b x = refl

-- an expression that isn't `*` of a pointer
abbrev IsNoDereference : Expr → Type 0
IsNoDereference (unary at op e) = op ≡ ASTERISK → ⊥
IsNoDereference e = Unit {0}

module _ (p : Program) (k : ℕ) (ts : List CType) where
  -- `& * e` has the tree of e (6.5.3.2 paragraph 3)
  address_unused : (env : Env) (at place : ℕ) (r s : Checked TypedExpression) → UnusedFollows p k ts r s → UnusedFollows p k ts (value_at env at (on (on r (indirection place)) (address at place))) s
  address_unused env at place (fine g) s h = by_type g.ctype
    where
      by_type : (t : CType) → UnusedFollows p k ts (value_at env at (on (led_to place g t) (address at place))) s
      by_type (typed.pointer typed.void) = tt
      by_type (typed.pointer (typed.array t n)) = tt
      by_type (typed.pointer t) = h
      by_type t = tt
  address_unused env at place (faulty f fs) s h = tt

  both_operators : (env : Env) (at place q o inner : ℕ) (r s : Checked TypedExpression) → is_address_of_indirection o inner ≡ true → UnusedFollows p k ts (value_at env q r) s → UnusedFollows p k ts (value_at env at (unary_rule env at place o (unary_rule env place q inner r))) s
  both_operators env at place q o inner r s h u =
      subst (λ a. UnusedFollows p k ts (value_at env at (unary_rule env at place a (unary_rule env place q inner r))) s) (sym ((Decides-eqb o AMPERSAND).0 (and_left (nat_eq o AMPERSAND) (nat_eq inner ASTERISK) h)))
      (subst (λ a. UnusedFollows p k ts (value_at env at (unary_rule env at place AMPERSAND (unary_rule env place q a r))) s) (sym ((Decides-eqb inner ASTERISK).0 (and_right (nat_eq o AMPERSAND) (nat_eq inner ASTERISK) h))) (address_unused env at place (value_at env q r) s u))

module _ (p : Program) (sites : Sites) (env : Env) (w : More) where
  abbrev L : Env
  L = plain_scope env

  abbrev R : Env
  R = instrumented_scope env w

  abbrev Types : Before → Expr → List CType
  Types b x = types_of (kept sites b.sites true x)

  abbrev Made : Before → Expr → Expr
  Made b x = expr sites b.sites true x

  -- a value that is wanted, and a place
  pub value_goes : (x : Expr) → ExprFollows p sites env w x → (b b' : Before) (k : ℕ) → AreNamed sites b.sites x → AreTabled p sites L b x → AreFound w.names k (kept sites b.sites true x) → Near b b' → Follows p k (Types b x) (value_at L (place_of x) (tree L b x)) (value_at R (place_of (Made b x)) (tree R b' (Made b x)))
  value_goes x h b b' k n t f r =
      subst (λ z. Follows p k (Types b x) (value_at L (place_of x) (tree L b x)) (value_at R z (tree R b' (Made b x)))) (sym (place_same sites b.sites x)) (value_at_follows p k (Types b x) L (place_of x) (tree L b x) (tree R b' (Made b x)) (h b b' k n t f r))

  pub place_goes : (x : Expr) → ExprFollows p sites env w x → (b b' : Before) (k : ℕ) → AreNamed sites b.sites x → AreTabled p sites L b x → AreFound w.names k (kept sites b.sites true x) → Near b b' → Follows p k (Types b x) (place_at (place_of x) (tree L b x)) (place_at (place_of (Made b x)) (tree R b' (Made b x)))
  place_goes x h b b' k n t f r =
      subst (λ z. Follows p k (Types b x) (place_at (place_of x) (tree L b x)) (place_at z (tree R b' (Made b x)))) (sym (place_same sites b.sites x)) (place_at_follows p k (Types b x) (place_of x) (tree L b x) (tree R b' (Made b x)) (h b b' k n t f r))

  -- a value that isn't wanted, where the temporaries don't depend on that
  pub unused_same : (k : ℕ) (ts : List CType) (r s : Checked TypedExpression) → Follows p k ts r s → Holds (SolidValue p) r → UnusedFollows p k ts r s
  unused_same k ts (fine g) s h l = (let o = operand p k ts g h.0 h.2 in (remade g h.0, h.1, l.types ∙ o.types, o.tree ∙ sym (l.tree k)))
  unused_same k ts (faulty f fs) s h l = tt

  pub unused_goes : (x : Expr) → ExprFollows p sites env w x → (b b' : Before) (k : ℕ) → AreNamed sites b.sites x → AreTabled p sites L b x → AreFound w.names k (kept sites b.sites true x) → Near b b' → Holds (IsFirm p) (tree L b x) → UnusedFollows p k (Types b x) (value L b x) (value R b' (Made b x))
  unused_goes x h b b' k n t f r m = unused_same k (Types b x) (value L b x) (value R b' (Made b x)) (value_goes x h b b' k n t f r) (value_solid p L (place_of x) (tree L b x) m)

  -- a form that is the same whether its value is wanted or not
  goes_firmly : (x : Expr) → ((n : ℕ) → (kept sites n false x ≡ kept sites n true x) × (expr sites n false x ≡ expr sites n true x)) → ((b : Before) → Holds (IsFirm p) (tree L b x)) → ExprFollows p sites env w x → Goes p sites env w x
  goes_firmly x e m h = record {
    wanted = h;
    unused = λ b b' k n t f r. subst (λ ts. UnusedFollows p k (types_of ts) (value L b x) (value R b' (expr sites b.sites false x))) (sym (e b.sites).0)
        (subst (λ y. UnusedFollows p k (Types b x) (value L b x) (value R b' y)) (sym (e b.sites).1) (unused_goes x h b b' k n t (subst (AreFound w.names k) (e b.sites).0 f) r (m b)));
  }

  same_simple : (x : Expr) → IsSimple x → (n : ℕ) → (kept sites n false x ≡ kept sites n true x) × (expr sites n false x ≡ expr sites n true x)
  same_simple (comma at es) s n = absurd s
  same_simple (call at d es) s n = absurd s
  same_simple (unary at o e) s n = absurd s
  same_simple x s n = (refl, refl)

  pub goes_simply : (x : Expr) → IsSimple x → ExprFollows p sites env w x → Goes p sites env w x
  goes_simply x s h = goes_firmly x (same_simple x s) (λ b. given_firm p (tree L b x) (tree_given x s L b)) h

  -- an operand of & that isn't * of a pointer
  leads_firmly : (e : Expr) (env : Env) (b : Before) → IsNoDereference e → Holds (LeadsFirmly p) (tree env b e)
  leads_firmly (comma at es) env b h = after_part (LeadsFirmly p) (trees env b es) (λ gs. fine (comma_of gs)) (λ _. tt)
  leads_firmly (call at d es) env b h =
      after_three (LeadsFirmly p) (callee env at d (value_at env (place_of d) (tree env b d))) (site_of env (b.sites + calls d) at) (trees env (after_designator b d) es) (called at)
      (λ f site gs. after_part (LeadsFirmly p) (demand (as_many_as f.parameters gs) 5 at met) _ (λ _. demand_holds (LeadsFirmly p) (all_fit f.parameters gs) 3 at _ tt))
  leads_firmly (unary at o e) env b h = unary_led p env at (place_of e) o (tree env b e) h
  leads_firmly (index at e f) env b h = index_leads p env at (value_at env (place_of e) (tree env b e)) (value_at env (place_of f) (tree env (after b e) f))
  leads_firmly x env b h = given_led p (tree env b x) (tree_given x tt env b)

  -- the operand of an operator, where it is unary itself: both operators may be left out where the value isn't wanted
  abbrev pub OperandGoes : Expr → Type 0
  OperandGoes (unary place inner e) = UnusedExprFollows p sites env w e
  OperandGoes e = Unit {0}

  module _ (plain : AreUnreserved env.names) (alike : MeanAlike env.names w.names) where
    -- ## Names, constants, and what isn't evaluated

    pub name_goes : (at : ℕ) (y : Name) → Goes p sites env w (a_name at y)
    name_goes at y = goes_simply (a_name at y) tt (λ b b' k n t f r. leaf_follows p k (named_expression L at y) (named_expression R at y) (named_leads env w plain alike at y) (named_leaf p L at y))

    pub int_goes : (at m : ℕ) (u : Bool) → Goes p sites env w (an_int at m u)
    int_goes at m u = goes_simply (an_int at m u) tt (λ b b' k n t f r. leaf_follows p k (fine (integer_expression m u)) (fine (integer_expression m u)) (refl, tt) (integer_leaf p m u))

    pub char_goes : (at : ℕ) (c : ℤ) → Goes p sites env w (a_char at c)
    char_goes at c = goes_simply (a_char at c) tt (λ b b' k n t f r. leaf_follows p k (fine (typed_int c)) (fine (typed_int c)) (refl, tt) (record { types = refl; tree = λ k. refl }))

    pub string_goes : (at : ℕ) (text : List ℕ) → Goes p sites env w (a_str at text)
    string_goes at text =
        goes_simply (a_str at text) tt (λ b b' k n t f r.
        leaf_follows p k (string_expression L b at text) (string_expression R b' at text) (subst (λ s. Leads (string_expression L b at text) s) (sym (string_same env w b b' at text r)) (same_leads (string_expression L b at text))) (string_leaf p L b at text))

    pub size_type_goes : (at : ℕ) (u : TypeName) → Goes p sites env w (sizeof_type at u)
    size_type_goes at u =
        goes_simply (sizeof_type at u) tt (λ b b' k n t f r.
        leaf_follows p k (tree L b (sizeof_type at u)) (tree R b (sizeof_type at u)) (tree_leads L R (beside env w plain alike) b (sizeof_type at u)) (size_type_leaf p L at (place_of_type u) (type_named L u)))

    -- ## One part

    step_wanted : (o : BinOp) (at : ℕ) (x e : Expr) → (b b' : Before) (k : ℕ) → ExprFollows p sites env w e → AreNamed sites b.sites e → AreTabled p sites L b e → AreFound w.names k (kept sites b.sites true e) → Near b b'
        → Follows p k (Types b e) (on (place_at (place_of e) (tree L b e)) (step L at o false)) (on (place_at (place_of (Made b e)) (tree R b' (Made b e))) (step R at o false))
    step_wanted o at x e b b' k h n t f r =
        subst (λ z. Follows p k (Types b e) (on (place_at (place_of e) (tree L b e)) (step L at o false)) (on (place_at z (tree R b' (Made b e))) (step R at o false))) (sym (place_same sites b.sites e))
        (stepped_follows p k (Types b e) L at (place_of e) o false (tree L b e) (tree R b' (Made b e)) (h b b' k n t f r))

    prefix_wanted : (at : ℕ) (o : Prefix) (e : Expr) → ExprFollows p sites env w e → ExprFollows p sites env w (prefix at o e)
    prefix_wanted at pre_increment e h b b' k n t f r = step_wanted Add at e e b b' k h n t f r
    prefix_wanted at pre_decrement e h b b' k n t f r = step_wanted Sub at e e b b' k h n t f r
    prefix_wanted at sizeof e h b b' k n t f r =
        leaf_follows p k (tree L b (prefix at sizeof e)) (tree R b (prefix at sizeof e)) (tree_leads L R (beside env w plain alike) b (prefix at sizeof e)) (size_given_leaf p L at (tree (in_context L sized) nothing_before e))

    pub prefix_goes : (at : ℕ) (o : Prefix) (e : Expr) → Goes p sites env w e → Goes p sites env w (prefix at o e)
    prefix_goes at o e h = goes_simply (prefix at o e) tt (prefix_wanted at o e h.wanted)

    postfix_wanted : (at : ℕ) (o : Postfix) (e : Expr) → ExprFollows p sites env w e → ExprFollows p sites env w (postfix at o e)
    postfix_wanted at o e h b b' k n t f r =
        subst (λ z. Follows p k (Types b e) (after_operand L at (place_of e) o (tree L b e)) (after_operand R at z o (tree R b' (Made b e)))) (sym (place_same sites b.sites e)) (by_operator o)
      where
        by_operator : (o : Postfix) → Follows p k (Types b e) (after_operand L at (place_of e) o (tree L b e)) (after_operand R at (place_of e) o (tree R b' (Made b e)))
        by_operator post_increment = after_follows p k (Types b e) L at (place_of e) post_increment (tree L b e) (tree R b' (Made b e)) (h b b' k n t f r)
        by_operator o = after_follows p k (Types b e) L at (place_of e) o (tree L b e) (tree R b' (Made b e)) (h b b' k n t f r)

    pub postfix_goes : (at : ℕ) (o : Postfix) (e : Expr) → Goes p sites env w e → Goes p sites env w (postfix at o e)
    postfix_goes at o e h = goes_simply (postfix at o e) tt (postfix_wanted at o e h.wanted)

    member_wanted : (at : ℕ) (how : Access) (e : Expr) (y : Ident) → ExprFollows p sites env w e → ExprFollows p sites env w (member at how e y)
    member_wanted at how e y h b b' k n t f r =
        subst (λ z. Follows p k (Types b e) (access L at (place_of e) how y.name (tree L b e)) (access R at z how y.name (tree R b' (Made b e)))) (sym (place_same sites b.sites e)) (by_access how)
      where
        by_access : (how : Access) → Follows p k (Types b e) (access L at (place_of e) how y.name (tree L b e)) (access R at (place_of e) how y.name (tree R b' (Made b e)))
        by_access dot = access_follows p k (Types b e) L at (place_of e) dot y.name (tree L b e) (tree R b' (Made b e)) (h b b' k n t f r)
        by_access how = access_follows p k (Types b e) L at (place_of e) how y.name (tree L b e) (tree R b' (Made b e)) (h b b' k n t f r)

    pub member_goes : (at : ℕ) (how : Access) (e : Expr) (y : Ident) → Goes p sites env w e → Goes p sites env w (member at how e y)
    member_goes at how e y h = goes_simply (member at how e y) tt (member_wanted at how e y h.wanted)

    unary_wanted : (at o : ℕ) (e : Expr) → ExprFollows p sites env w e → ExprFollows p sites env w (unary at o e)
    unary_wanted at o e h b b' k n t f r =
        subst (λ z. Follows p k (Types b e) (unary_rule L at (place_of e) o (tree L b e)) (unary_rule R at z o (tree R b' (Made b e)))) (sym (place_same sites b.sites e)) (unary_follows p k (Types b e) L at (place_of e) o (tree L b e) (tree R b' (Made b e)) (h b b' k n t f r))

    -- where the operators stay
    unary_unused : (at o : ℕ) (e : Expr) → Goes p sites env w e → (b b' : Before) (k : ℕ) → AreNamed sites b.sites e → AreTabled p sites L b e → AreFound w.names k (kept sites b.sites true e) → Near b b' → (o ≡ AMPERSAND → IsNoDereference e)
        → UnusedFollows p k (Types b e) (value L b (unary at o e)) (value R b' (unary at o (Made b e)))
    unary_unused at o e h b b' k n t f r v = unused_goes (unary at o e) (unary_wanted at o e h.wanted) b b' k n t f r (unary_firm p L at (place_of e) o (tree L b e) (λ q. leads_firmly e L b (v q)))

    unused_operand : (at o : ℕ) (e : Expr) → Goes p sites env w e → OperandGoes e → UnusedExprFollows p sites env w (unary at o e)
    unused_operand at o (unary place inner e) h l b b' k n t f r = by_test (is_address_of_indirection o inner) refl f
      where
        by_test : (c : Bool) → is_address_of_indirection o inner ≡ c → AreFound w.names k (if c then kept sites b.sites false e else kept sites b.sites true e)
            → UnusedFollows p k (types_of (if c then kept sites b.sites false e else kept sites b.sites true e)) (value L b (unary at o (unary place inner e))) (value R b' (if c then expr sites b.sites false e else unary at o (unary place inner (expr sites b.sites true e))))
        by_test true q f = both_operators p k (types_of (kept sites b.sites false e)) L at place (place_of e) o inner (tree L b e) (value R b' (expr sites b.sites false e)) q (l b b' k n t f r)
        by_test false q f =
            unary_unused at o (unary place inner e) h b b' k n t f r (λ a d. (let c : false ≡ true = sym q ∙ ap₂ (λ x y. x && y) ((Decides-eqb o AMPERSAND).1 a) ((Decides-eqb inner ASTERISK).1 d) in cc))
    unused_operand at o e h l b b' k n t fo r = unary_unused at o e h b b' k n t fo r (λ _. tt)

    pub unary_goes : (at o : ℕ) (e : Expr) → Goes p sites env w e → OperandGoes e → Goes p sites env w (unary at o e)
    unary_goes at o e h l = record { wanted = unary_wanted at o e h.wanted; unused = unused_operand at o e h l }

    -- ## Two parts

    two_parts : (e f : Expr) → ExprFollows p sites env w f → (b b' : Before) (k : ℕ) → AreNamed sites b.sites e → AreNamed sites (b.sites + calls e) f → AreTabled p sites L (after b e) f → AreFound w.names k (kept sites b.sites true e ++ kept sites (b.sites + calls e) true f) → Near b b'
        → (r s : Checked TypedExpression) → (AreFound w.names k (kept sites b.sites true e) → Follows p k (Types b e) r s) → (u v : TypedExpression → TypedExpression → Checked TypedExpression)
        → ((a c : TypedExpression) (x y : typed.Expr) → IsRemade p k (Types b e) a x → IsRemade p (k + length (Types b e)) (Types (after b e) f) c y → Follows p k (Types b e ++ Types (after b e) f) (u a c) (v (remade a x) (remade c y)))
        → Follows p k (types_of (kept sites b.sites true e ++ kept sites (b.sites + calls e) true f)) (both r (value L (after b e) f) u) (both s (value R (after b' (Made b e)) (Made (after b e) f)) v)
    two_parts e f hf b b' k n m t fo near r s first u v h =
        let xs : List Temporary = kept sites b.sites true e in
        let ys : List Temporary = kept sites (b.sites + calls e) true f in
        let l : Expr = Made (after b e) f in
        let b1 : Before = after b' (Made b e) in
        subst (λ ts. Follows p k ts (both r (value L (after b e) f) u) (both s (value R b1 l) v)) (sym (types_both xs ys))
        (both_follow p k (types_of xs) (types_of ys) (types_of xs ++ types_of ys) r (value L (after b e) f) s (value R b1 l) u v (first (found_first w.names k xs ys fo)) (value_goes f hf (after b e) b1 (k + length (types_of xs)) m t (found_rest w.names k xs ys fo) (places_near sites b b' true e n near)) h)

    pub index_goes : (at : ℕ) (e f : Expr) → Goes p sites env w e → Goes p sites env w f → Goes p sites env w (index at e f)
    index_goes at e f h l =
        goes_firmly (index at e f) (λ n. (refl, refl)) (λ b. index_firm p L at (value L b e) (value L (after b e) f)) (λ b b' k n t fo r.
        (let ts : List CType = types_of (kept sites b.sites true e ++ kept sites (b.sites + calls e) true f) in
        on_follows p k ts ts (both (value L b e) (value L (after b e) f) (sum L at)) (both (value R b' (Made b e)) (value R (after b' (Made b e)) (Made (after b e) f)) (sum R at)) (indirection at) (indirection at)
        (two_parts e f l.wanted b b' k n.0 n.1 t.1 fo r (value L b e) (value R b' (Made b e)) (λ fe. value_goes e h.wanted b b' k n.0 t.0 fe r) (sum L at) (sum R at) (λ a c x y g m. sum_follows p k (Types b e) (Types (after b e) f) L at a c x y g m)) (λ g x m. indirection_follows p k ts at g x m)))

    infix_goes : (k : ℕ) (ts us : List CType) (at : ℕ) (o : Infix) (a c : TypedExpression) (x y : typed.Expr) → IsRemade p k ts a x → IsRemade p (k + length ts) us c y → Follows p k (ts ++ us) (infix_rule L at o a c) (infix_rule R at o (remade a x) (remade c y))
    infix_goes k ts us at syntax.and a c x y g h = infix_follows p k ts us L at syntax.and a c x y g h
    infix_goes k ts us at o a c x y g h = infix_follows p k ts us L at o a c x y g h

    pub binary_goes : (at : ℕ) (o : Infix) (e f : Expr) → Goes p sites env w e → Goes p sites env w f → Goes p sites env w (binary at o e f)
    binary_goes at o e f h l =
        goes_simply (binary at o e f) tt (λ b b' k n t fo r.
        two_parts e f l.wanted b b' k n.0 n.1 t.1 fo r (value L b e) (value R b' (Made b e)) (λ fe. value_goes e h.wanted b b' k n.0 t.0 fe r) (infix_rule L at o) (infix_rule R at o) (λ a c x y g m. infix_goes k (Types b e) (Types (after b e) f) at o a c x y g m))

    pub assign_goes : (at o : ℕ) (e f : Expr) → Goes p sites env w e → Goes p sites env w f → Goes p sites env w (assign at o e f)
    assign_goes at o e f h l =
        goes_simply (assign at o e f) tt (λ b b' k n t fo r.
        two_parts e f l.wanted b b' k n.0 n.1 t.1 fo r (place_at (place_of e) (tree L b e)) (place_at (place_of (Made b e)) (tree R b' (Made b e))) (λ fe. place_goes e h.wanted b b' k n.0 t.0 fe r) (assignment_by L at o) (assignment_by R at o)
        (λ a c x y g m. assignment_by_follows p k (Types b e) (Types (after b e) f) L at o a c x y g m))

    -- ## Three parts

    choice_wanted : (at : ℕ) (c e f : Expr) → ExprFollows p sites env w c → ExprFollows p sites env w e → ExprFollows p sites env w f → ExprFollows p sites env w (conditional at c e f)
    choice_wanted at c e f hc he hf b b' k n t fo r =
        let zs : List Temporary = kept sites b.sites true c in
        let xs : List Temporary = kept sites (b.sites + calls c) true e in
        let ys : List Temporary = kept sites (b.sites + calls c + calls e) true f in
        let b1 : Before = after b c in
        let b2 : Before = after b1 e in
        let c1 : Before = after b' (Made b c) in
        let c2 : Before = after c1 (Made b1 e) in
        let r1 = places_near sites b b' true c n.0 r in
        let r2 = places_near sites b1 c1 true e n.1 r1 in
        let rest : AreFound w.names (k + length (types_of zs)) (xs ++ ys) = found_rest w.names k zs (xs ++ ys) fo in
        subst (λ ts. Follows p k ts (tree L b (conditional at c e f)) (tree R b' (Made b (conditional at c e f)))) (sym (types_both zs (xs ++ ys) ∙ ap (λ ts. types_of zs ++ ts) (types_both xs ys)))
        (three_follow p k (types_of zs) (types_of xs) (types_of ys) (types_of zs ++ (types_of xs ++ types_of ys)) (value_at L (place_of c) (tree L b c)) (value_at L (place_of e) (tree L b1 e)) (value_at L (place_of f) (tree L b2 f))
        (value_at R (place_of (Made b c)) (tree R b' (Made b c))) (value_at R (place_of (Made b1 e)) (tree R c1 (Made b1 e))) (value_at R (place_of (Made b2 f)) (tree R c2 (Made b2 f))) (choice at) (choice at)
        (value_goes c hc b b' k n.0 t.0 (found_first w.names k zs (xs ++ ys) fo) r)
        (value_goes e he b1 c1 (k + length (types_of zs)) n.1 t.1 (found_first w.names (k + length (types_of zs)) xs ys rest) r1)
        (value_goes f hf b2 c2 ((k + length (types_of zs)) + length (types_of xs)) n.2 t.2 (found_rest w.names (k + length (types_of zs)) xs ys rest) r2)
        (λ d a g v x y h l m. choice_follows p k (types_of zs) (types_of xs) (types_of ys) at d a g v x y h l m))

    pub choice_goes : (at : ℕ) (c e f : Expr) → Goes p sites env w c → Goes p sites env w e → Goes p sites env w f → Goes p sites env w (conditional at c e f)
    choice_goes at c e f h l m = goes_simply (conditional at c e f) tt (choice_wanted at c e f h.wanted l.wanted m.wanted)
