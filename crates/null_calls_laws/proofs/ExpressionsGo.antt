-- Every expression goes where calls do.
use Rattle.std.proofs.Common.{◌≡◌, ℕ, Bool, true, false, if◌then◌else◌, List, refl, ap, sym, subst}
use Rattle.c_tree.specs.Tree.{CType, void, discard, Program}
use Rattle.c_syntax.specs.Tree.{Expr, a_name, an_int, a_char, a_str, comma, sizeof_type, cast, call, member, postfix, prefix, unary, index, binary, assign, conditional, Exprs, no_exprs, more_exprs, TypeName}
use Rattle.c_rules.specs.Checked.{Checked, fine, faulty, both}
use Rattle.c_rules.specs.Scopes.{Env}
use Rattle.c_rules.specs.TypedExpression.{TypedExpression, tree_of}
use Rattle.c_rules.specs.UnaryExpressions.{cast_of, null_cast}
use Rattle.c_rules.specs.Declarators.{is_void_pointer}
use Rattle.c_rules.specs.Expressions.{cast_rule, value, type_named}
use Rattle.null_calls_laws.specs.MarkedCalls.{Sites}
use Rattle.null_calls_laws.specs.InstrumentedExpressions.{is_void_type, expr, kept}
use Rattle.c_rules_laws.specs.TypedAlike.{More, plain_scope, instrumented_scope, AreUnreserved, MeanAlike, beside}
use Rattle.c_rules_laws.proofs.Leads.{Leads}
use Rattle.c_rules_laws.proofs.Parts.{type_named_leads}
use Rattle.null_calls_laws.specs.Remade.{Follows}
use Rattle.null_calls_laws.proofs.Operands.{on_follows}
use Rattle.null_calls_laws.proofs.Unary.{cast_of_follows, null_cast_follows}
use Rattle.null_calls_laws.specs.Tabled.{AreFound}
use Rattle.null_calls_laws.specs.Follow.{types_of, UnusedFollows, ExprFollows, Goes, AllGo, CallsGo, ExpressionsGo}
use Rattle.null_calls_laws.proofs.Leaves.{Holds}
use Rattle.null_calls_laws.proofs.Types.{IsThing, void_named, thing_named}
use Rattle.null_calls_laws.proofs.Commas.{comma_goes}
use Rattle.null_calls_laws.proofs.Forms.{OperandGoes, value_goes, goes_simply, name_goes, int_goes, char_goes, string_goes, size_type_goes, prefix_goes, postfix_goes, member_goes, unary_goes, index_goes, binary_goes, assign_goes, choice_goes}

-- ## Casts

module _ (p : Program) (k : ℕ) (ts : List CType) where
  -- a cast to void
  void_cast : (at : ℕ) (r s : Checked TypedExpression) → UnusedFollows p k ts r s → Follows p k ts (both (fine void) r (cast_of at)) (both (fine void) s (cast_of at))
  void_cast at (fine g) s h = (discard void (tree_of h.0), ap (λ z. both (fine void) z (cast_of at)) h.1, record { types = h.2; tree = ap (discard void) h.3; none = λ c. absurd c })
  void_cast at (faulty f fs) s h = tt

  named_cast : (at : ℕ) (t u : Checked CType) (r s : Checked TypedExpression) → Leads t u → Holds IsThing t → Follows p k ts r s → Follows p k ts (both t r (cast_of at)) (both u s (cast_of at))
  named_cast at (fine v) u (fine g) s l n h =
      subst (λ z. Follows p k ts (cast_of at v g) (both z s (cast_of at))) (sym l.0) (subst (λ z. Follows p k ts (cast_of at v g) (both (fine v) z (cast_of at))) (sym h.1) (cast_of_follows p k ts at v g h.0 (λ q. subst IsThing q n) h.2))
  named_cast at t u r s l n h = tt

  rule_cast : (v : Bool) (at : ℕ) (t u : Checked CType) (r s : Checked TypedExpression) → Leads t u → Holds IsThing t → Follows p k ts r s → Follows p k ts (cast_rule v at t r) (cast_rule v at u s)
  rule_cast true at t u r s l n h = on_follows p k ts ts r s (null_cast at) (null_cast at) h (λ g x m. null_cast_follows p k ts at g x m)
  rule_cast false at t u r s l n h = named_cast at t u r s l n h

module _ (p : Program) (sites : Sites) (env : Env) (w : More) (plain : AreUnreserved env.names) (alike : MeanAlike env.names w.names) where
  abbrev Left : Env
  Left = plain_scope env

  abbrev Right : Env
  Right = instrumented_scope env w

  cast_wanted : (at : ℕ) (u : TypeName) (e : Expr) → Goes p sites env w e → ExprFollows p sites env w (cast at u e)
  cast_wanted at u e h b b' k n t f r = by_test (is_void_type u) refl f
    where
      void_goes : is_void_type u ≡ true → AreFound w.names k (kept sites b.sites false e) → Follows p k (types_of (kept sites b.sites false e)) (cast_rule (is_void_pointer u) at (type_named Left u) (value Left b e)) (cast_rule (is_void_pointer u) at (type_named Right u) (value Right b' (expr sites b.sites false e)))
      void_goes q f =
          let v = void_named u q in
          let ts : List CType = types_of (kept sites b.sites false e) in
          let r0 : Checked TypedExpression = value Left b e in
          let s0 : Checked TypedExpression = value Right b' (expr sites b.sites false e) in
          subst (λ z. Follows p k ts (cast_rule z at (type_named Left u) r0) (cast_rule z at (type_named Right u) s0)) (sym v.1)
          (subst (λ z. Follows p k ts (both z r0 (cast_of at)) (both (type_named Right u) s0 (cast_of at))) (sym (v.0 Left)) (subst (λ z. Follows p k ts (both (fine void) r0 (cast_of at)) (both z s0 (cast_of at))) (sym (v.0 Right)) (void_cast p k ts at r0 s0 (h.unused b b' k n t.1 f r))))

      by_test : (v : Bool) → is_void_type u ≡ v → AreFound w.names k (if v then kept sites b.sites false e else kept sites b.sites true e)
          → Follows p k (types_of (if v then kept sites b.sites false e else kept sites b.sites true e)) (cast_rule (is_void_pointer u) at (type_named Left u) (value Left b e)) (cast_rule (is_void_pointer u) at (type_named Right u) (value Right b' (if v then expr sites b.sites false e else expr sites b.sites true e)))
      by_test true q f = void_goes q f
      by_test false q f =
          rule_cast p k (types_of (kept sites b.sites true e)) (is_void_pointer u) at (type_named Left u) (type_named Right u) (value Left b e) (value Right b' (expr sites b.sites true e)) (type_named_leads Left Right (beside env w plain alike) u) (thing_named u Left t.0 q) (value_goes p sites env w e h.wanted b b' k n t.1 f r)

  cast_goes : (at : ℕ) (u : TypeName) (e : Expr) → Goes p sites env w e → Goes p sites env w (cast at u e)
  cast_goes at u e h = goes_simply p sites env w (cast at u e) tt (cast_wanted at u e h)

  -- ## All forms

  module _ (calls_go : CallsGo p sites env w) where
    mutual
      goes : (x : Expr) → Goes p sites env w x
      goes (a_name at y) = name_goes p sites env w plain alike at y
      goes (an_int at n u) = int_goes p sites env w plain alike at n u
      goes (a_char at c) = char_goes p sites env w plain alike at c
      goes (a_str at text) = string_goes p sites env w plain alike at text
      goes (comma at es) = comma_goes p sites env w at es (all_go es)
      goes (sizeof_type at t) = size_type_goes p sites env w plain alike at t
      goes (cast at t e) = cast_goes at t e (goes e)
      goes (call at d es) = calls_go at d es (goes d) (all_go es)
      goes (member at how e y) = member_goes p sites env w plain alike at how e y (goes e)
      goes (postfix at o e) = postfix_goes p sites env w plain alike at o e (goes e)
      goes (prefix at o e) = prefix_goes p sites env w plain alike at o e (goes e)
      goes (unary at o e) = unary_goes p sites env w plain alike at o e (goes e) (operand_goes e)
      goes (index at e f) = index_goes p sites env w plain alike at e f (goes e) (goes f)
      goes (binary at o e f) = binary_goes p sites env w plain alike at o e f (goes e) (goes f)
      goes (assign at o e f) = assign_goes p sites env w plain alike at o e f (goes e) (goes f)
      goes (conditional at c e f) = choice_goes p sites env w plain alike at c e f (goes c) (goes e) (goes f)

      -- the operand of a unary operator that is the operand of another one
      operand_goes : (x : Expr) → OperandGoes p sites env w x
      operand_goes (unary at o e) = (goes e).unused
      operand_goes x = tt

      all_go : (es : Exprs) → AllGo p sites env w es
      all_go no_exprs = tt
      all_go (more_exprs e es) = (goes e, all_go es)

pub expressions_go : ExpressionsGo
expressions_go p sites env w plain alike calls_go x = goes p sites env w plain alike calls_go x
