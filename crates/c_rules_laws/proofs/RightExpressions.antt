-- Expressions that the rules type where each name is right in a program give what is right in it.
use Rattle.std.proofs.Common.{◌≡◌, inl, ℕ, suc, ◌+◌, ◌*◌, ◌≤◌, ◌<◌, pos, Bool, true, false, if◌then◌else◌, List, [], ◌∷◌, ◌++◌, map, length, length-append, Option, Some, None, nat_le, nat_eq, refl, sym, subst, ◌∙◌, arith}
use Rattle.std.proofs.lemmas.List.{length-map}
use Rattle.std.proofs.lemmas.Bool.{leb-true}
use Rattle.c_lexer.specs.declared.punctuator.TheConstants.{AMPERSAND}
use Rattle.c_tree.specs.declared.value.IntType.TheVariants.{Char}
use Rattle.c_tree.specs.declared.value.BinOp.TheVariants.{Add, Sub}
use Rattle.c_tree.specs.declared.value.Value.TheVariants as v
use Rattle.c_tree.specs.Tree.{CType, integer, Program}
use Rattle.c_tree.specs.Layout.{cells}
use Rattle.c_tree.specs.Functions.{int}
use Rattle.c_tree.specs.Operands.{IsObject}
use Rattle.c_tree.specs.Kinds.{IsConstant}
use Rattle.c_tree.specs.Typed.{IsStaticOf}
use Rattle.c_syntax.specs.Tree.{Expr, a_name, an_int, a_char, a_str, comma, sizeof_type, cast, call, member, postfix, prefix, unary, index, binary, assign, conditional, Exprs, no_exprs, more_exprs}
use Rattle.c_syntax.specs.Tree.{Postfix, post_increment, post_decrement, pre_increment, pre_decrement, sizeof, Access, dot, arrow}
use Rattle.c_rules.specs.Checked.{Checked, fine, on, both, gives, demand, met}
use Rattle.c_rules.specs.Names.{Name, is_among, null_calls}
use Rattle.c_rules.specs.Scopes.{Env, Meaning, a_static, a_local, a_function, an_enumerator, unknown, Member, type_of_member, Context, evaluated, sized, in_context, Before, nothing_before, binding_of, layout_of}
use Rattle.c_rules.specs.Counts.{place_of, calls, strings, strings_of_all, past, after, after_designator}
use Rattle.c_rules.specs.TypedExpression.{TypedExpression, is_place}
use Rattle.c_rules.specs.Conversions.{valued}
use Rattle.c_rules.specs.PrimaryExpressions.{used, object_number, function_number, function_value_number, meant, integer_expression, string_type, string_fits, string_number, typed_string}
use Rattle.c_rules.specs.PostfixExpressions.{site_of, callee_of_type, callee_by_value, called, name_of_member, member_of}
use Rattle.c_rules.specs.UnaryExpressions.{address, indirection, unary_of_value, size_of_expression, size_of_type, cast_of, null_cast}
use Rattle.c_rules.specs.BinaryExpressions.{sum, choice}
use Rattle.c_rules.specs.Assignments.{assignable, assignment_by, step, comma_of}
use Rattle.c_rules.specs.Declarators.{place_of_type, is_void_pointer}
use Rattle.c_rules.specs.Expressions.{value_at, place_at, callee, access, after_operand, unary_rule, infix_rule, cast_rule, tree, trees, type_named, value}
use Rattle.c_rules.proofs.Integers.{integer_cases}
use Rattle.c_meaning.proofs.Places.{get_left, get_right, length_repeat}
use Rattle.c_rules_laws.specs.Lexical.{IsLexical, AreLexical, AreSomeExprs}
use Rattle.c_rules_laws.specs.ClosedTypes.{CalleeHas}
use Rattle.c_rules_laws.specs.MadeTypes.{Made}
use Rattle.c_rules_laws.specs.RightScopes.{MeaningRight, IsRight, StringsIn}
use Rattle.c_rules_laws.proofs.Holding.{Holds, holds_map, holds_two, on_holds, both_hold, all_three_hold, Any, anything, demand_holds, after_part, if_holds}
use Rattle.c_rules_laws.proofs.TypesOfExpressions.{type_named_made, result_made, TypeMade, valued_made, sum_made, tree_made, callee_made}
use Rattle.c_rules_laws.proofs.RightTypedExpressions.{complete_in, cells_in, static_address_right, static_right, TypedExpressionRight, ValueRight, ValuesRight, valued_right}
use Rattle.c_rules_laws.proofs.RightRules.{CalleeRight, called_right, callee_type_right, callee_through_right, member_right, address_right, indirection_right, unary_right, number_right, size_right, cast_of_right, null_cast_right, SumRight, operation_right, infix_right, choice_right, assignment_by_right, step_right, comma_right}
pub use Rattle.c_rules.proofs.BelowUnits.{number_below}
use Rattle.c_rules_laws.proofs.Operators.{bound_holds, callee_holds}

-- ## Numbers of names

as_long : (ms : List Member) → length (map name_of_member ms) ≡ length (map type_of_member ms)
as_long ms = length-map ms name_of_member ∙ sym (length-map ms type_of_member)

-- ## Scopes

module _ (p : Program) (vars : List CType) where
  pub strings_first : (k : ℕ) (xs ys : List (List ℕ)) → StringsIn p vars k (xs ++ ys) → StringsIn p vars k xs
  strings_first k xs ys h j w e = h j w (get_left xs ys j w e)

  pub strings_rest : (env : Env) (b : Before) (n : ℕ) (xs ys : List (List ℕ)) → StringsIn p vars (string_number env b) (xs ++ ys) → StringsIn p vars (string_number env (past b n xs)) ys
  strings_rest env b n xs ys h j w e =
      let a = length-append b.strings xs in
      let s : string_number env b + (length xs + j) ≡ string_number env (past b n xs) + j = omega (arith, a) in
      subst (λ k. IsStaticOf p true k (string_type (length w))) s (h (length xs + j) w (get_right xs ys j ∙ e))

  -- ## Names, constants and strings

  used_right : (c : Context) → c ≡ evaluated → (at : ℕ) (o : Option ℕ) → Holds (λ n. o ≡ Some n) (used c at o)
  used_right c e at (Some n) = refl
  used_right evaluated e at None = tt
  used_right c e at o = absurd (cc)

  value_number_right : (env : Env) → env.context ≡ evaluated → (at : ℕ) (x : Name) → Holds (λ n. (function_number env x ≡ Some n) × (is_among null_calls x ≡ false)) (function_value_number env at x)
  value_number_right env e at x = by_test (is_among null_calls x) refl
    where
      by_test : (b : Bool) → is_among null_calls x ≡ b → Holds (λ n. (function_number env x ≡ Some n) × (is_among null_calls x ≡ false)) (on (demand (if b then false else true) 12 at met) (λ _. used env.context at (function_number env x)))
      by_test true q = tt
      by_test false q = holds_map (λ n. function_number env x ≡ Some n) (λ n. (function_number env x ≡ Some n) × (is_among null_calls x ≡ false)) (λ n k. (k, q)) (used env.context at (function_number env x)) (used_right env.context e at (function_number env x))

  meant_right : (env : Env) → IsRight p vars env → (at : ℕ) (x : Name) (m : Meaning) → MeaningRight p vars env x m → Holds (TypedExpressionRight p vars) (meant env at x m)
  meant_right env r at x (a_static seen whole d) h =
      on_holds (λ n. object_number env x ≡ Some n) (TypedExpressionRight p vars) (used env.context at (object_number env x)) _ (used_right env.context r.runs at (object_number env x)) (λ n e.
      (let s = h.4 n e in
      let same = cells_in (layout_of env) p.structs r.within whole h.2 in
      let o : IsObject p.structs whole = record { complete = complete_in (layout_of env) p.structs r.within whole h.2; few = subst (λ k. k ≤ 65536) same h.3 } in
      (h.0, s, h.1, static_right p false n (cells (layout_of env) whole) whole s o same)))
  meant_right env r at x (a_local n seen whole) h = (h.0, h.2, h.1, tt)
  meant_right env r at x (a_function t d) h =
      on_holds (λ n. (function_number env x ≡ Some n) × (is_among null_calls x ≡ false)) (TypedExpressionRight p vars) (function_value_number env at x) _ (value_number_right env r.runs at x) (λ n e.
      (let f = h.2 n e.0 e.1 in (inl refl, f, h.0, (t, refl, f))))
  meant_right env r at x (an_enumerator z) h = (refl, h, tt, h)
  meant_right env r at x (unknown f fs) h = tt

  integer_right : (n : ℕ) (u : Bool) → n < 4294967296 → TypedExpressionRight p vars (integer_expression n u)
  integer_right n u h = integer_cases (TypedExpressionRight p vars) n u (λ l. (let c : IsConstant int (v.Int (pos n)) = (refl, grind (arith, l)) in (refl, c, tt, c))) (number_right p vars n h)

  constant_below : (n : ℕ) (u : Bool) → IsLexical (an_int 0 n u) → n < 4294967296
  constant_below n true h = h
  constant_below n false h = omega (arith, h)

  string_right : (env : Env) → IsRight p vars env → (at : ℕ) (b : Before) (w : List ℕ) → StringsIn p vars (string_number env b) (w ∷ []) → Holds (TypedExpressionRight p vars) (gives (string_fits env.context at b.cells (suc (length w))) (λ _. typed_string (string_number env b) (length w)))
  string_right env r at b w h = by_context env.context r.runs
    where
      n : ℕ
      n = string_number env b

      stands : IsStaticOf p true n (string_type (length w))
      stands = (let s : n + 0 ≡ n = omega arith in subst (λ k. IsStaticOf p true k (string_type (length w))) s (h 0 w refl))

      long : suc (length w) ≡ cells p.structs (string_type (length w))
      long = (let l = length_repeat (suc (length w)) (integer Char ∷ []) in let m : suc (length w) * 1 ≡ suc (length w) = omega arith in sym (l ∙ m))

      given : suc (length w) ≤ 65536 → TypedExpressionRight p vars (typed_string n (length w))
      given l = (let o : IsObject p.structs (string_type (length w)) = record { complete = (omega arith, tt); few = subst (λ k. k ≤ 65536) long l } in (inl refl, stands, tt, static_address_right p true n (suc (length w)) (string_type (length w)) stands o long))

      by_context : (c : Context) → c ≡ evaluated → Holds (TypedExpressionRight p vars) (gives (string_fits c at b.cells (suc (length w))) (λ _. typed_string n (length w)))
      by_context evaluated e = on_holds (λ _. suc (length w) ≤ 65536) (TypedExpressionRight p vars) (string_fits evaluated at b.cells (suc (length w))) _ (both_hold (λ _. suc (length w) ≤ 65536) Any (λ _. suc (length w) ≤ 65536) (demand (nat_le (suc (length w)) 65536) 13 at met) _ _ (demand_holds (λ _. suc (length w) ≤ 65536) (nat_le (suc (length w)) 65536) 13 at met (λ q. leb-true (suc (length w)) 65536 q)) (anything _) (λ _ _ k _. k)) (λ _ l. given l)
      by_context c e = absurd (cc)

  -- ## Parts

  abbrev pub ValueBoth : Env → TypedExpression → Type 0
  ValueBoth env g = TypeMade env g × ValueRight p vars g

  abbrev pub PlaceBoth : Env → TypedExpression → Type 0
  PlaceBoth env g = TypeMade env g × (TypedExpressionRight p vars g × (is_place g ≡ true))

  pub value_at_right : (env : Env) → IsRight p vars env → (place : ℕ) (r : Checked TypedExpression) → Holds (TypeMade env) r → Holds (TypedExpressionRight p vars) r → Holds (ValueBoth env) (value_at env place r)
  value_at_right env w place r h k =
      on_holds (λ g. TypeMade env g × TypedExpressionRight p vars g) (ValueBoth env) r (valued env place) (holds_two (TypeMade env) (TypedExpressionRight p vars) r h k)
      (λ g l. holds_two (TypeMade env) (ValueRight p vars) (valued env place g) (valued_made env place g l.0) (valued_right p vars env w.within place g l.0 l.1))

  place_at_right : (env : Env) → IsRight p vars env → (place : ℕ) (r : Checked TypedExpression) → Holds (TypeMade env) r → Holds (TypedExpressionRight p vars) r → Holds (PlaceBoth env) (place_at place r)
  place_at_right env w place r h k =
      on_holds (λ g. TypeMade env g × TypedExpressionRight p vars g) (PlaceBoth env) r (assignable place) (holds_two (TypeMade env) (TypedExpressionRight p vars) r h k)
      (λ g l. demand_holds (PlaceBoth env) (is_place g) 4 place g (λ e. (l.0, (l.1, e))))

  callee_right : (env : Env) → IsRight p vars env → (at : ℕ) (d : Expr) (r : Checked TypedExpression) → Holds (ValueBoth env) r → Holds (CalleeRight p vars) (callee env at d r)
  callee_right env w at d r h =
      callee_holds (λ _. CalleeRight p vars) env at d r (on_holds (ValueBoth env) (CalleeRight p vars) r (callee_by_value at) h (λ g k. callee_through_right p vars at _ g.ctype k.1.0 k.1.1))
      (λ place x b t d q m. (let k : MeaningRight p vars env x (a_function t d) = subst (MeaningRight p vars env x) m (w.meanings x b q) in
      on_holds (λ n. function_number env x ≡ Some n) (CalleeRight p vars) (used env.context place (function_number env x)) (callee_of_type place t) (used_right env.context w.runs place (function_number env x)) (λ f e. callee_type_right p vars place t f (k.1 f e))))

  member_at : (env : Env) → IsRight p vars env → (at : ℕ) (x : Name) (g : TypedExpression) → TypedExpressionRight p vars g → Holds (TypedExpressionRight p vars) (member_of env at x g)
  member_at env w at x g h = member_right p vars env w.within number_below as_long at x g h

  access_right : (env : Env) → IsRight p vars env → (at place : ℕ) (how : Access) (x : Name) (r : Checked TypedExpression) → Holds (TypeMade env) r → Holds (TypedExpressionRight p vars) r → Holds (TypedExpressionRight p vars) (access env at place how x r)
  access_right env w at place dot x r h k = on_holds (TypedExpressionRight p vars) (TypedExpressionRight p vars) r (member_of env at x) k (λ g l. member_at env w at x g l)
  access_right env w at place arrow x r h k =
      on_holds (TypedExpressionRight p vars) (TypedExpressionRight p vars) (on (value_at env place r) (indirection at)) (member_of env at x)
      (on_holds (ValueBoth env) (TypedExpressionRight p vars) (value_at env place r) (indirection at) (value_at_right env w place r h k) (λ g l. indirection_right p vars (layout_of env) at g l.0 l.1)) (λ g l. member_at env w at x g l)

  after_operand_right : (env : Env) → IsRight p vars env → (at place : ℕ) (o : Postfix) (r : Checked TypedExpression) → Holds (PlaceBoth env) (place_at place r) → Holds (TypedExpressionRight p vars) (after_operand env at place o r)
  after_operand_right env w at place post_increment r h = on_holds (PlaceBoth env) (TypedExpressionRight p vars) (place_at place r) (step env at Add true) h (λ g k. step_right p vars env w.within at Add true g tt k.0 k.1)
  after_operand_right env w at place post_decrement r h = on_holds (PlaceBoth env) (TypedExpressionRight p vars) (place_at place r) (step env at Sub true) h (λ g k. step_right p vars env w.within at Sub true g tt k.0 k.1)

  unary_rule_right : (env : Env) → IsRight p vars env → (at place o : ℕ) (r : Checked TypedExpression) → Holds (TypeMade env) r → Holds (TypedExpressionRight p vars) r → Holds (TypedExpressionRight p vars) (unary_rule env at place o r)
  unary_rule_right env w at place o r h k =
      if_holds (TypedExpressionRight p vars) (nat_eq o AMPERSAND) _ _ (on_holds (TypedExpressionRight p vars) (TypedExpressionRight p vars) r (address at place) k (λ g l. address_right p vars at place g l))
      (on_holds (ValueBoth env) (TypedExpressionRight p vars) (value_at env place r) (unary_of_value at o) (value_at_right env w place r h k) (λ g l. unary_right p vars (layout_of env) at o g l.0 l.1))

  cast_rule_right : (env : Env) (v : Bool) (at : ℕ) (t : Checked CType) (r : Checked TypedExpression) → Holds (ValueBoth env) r → Holds (TypedExpressionRight p vars) (cast_rule v at t r)
  cast_rule_right env true at t r h = after_part (TypedExpressionRight p vars) r (null_cast at) (λ g. null_cast_right p vars at g)
  cast_rule_right env false at t r h = both_hold Any (ValueBoth env) (TypedExpressionRight p vars) t r (cast_of at) (anything t) h (λ u g _ k. cast_of_right p vars at u g k.1)

  -- ## Expressions

  abbrev pub TreesBoth : Exprs → List TypedExpression → Type 0
  TreesBoth es gs = ValuesRight p vars gs × (AreSomeExprs es → 1 ≤ length gs)

  mutual
    pub tree_right : (x : Expr) (env : Env) → IsRight p vars env → IsLexical x → (b : Before) → StringsIn p vars (string_number env b) (strings x) → Holds (TypedExpressionRight p vars) (tree env b x)
    tree_right (a_name at x) env w l b s = bound_holds (TypedExpressionRight p vars) env at x (binding_of env x) (λ c e. meant_right env w at x c.means (w.meanings x c e))
    tree_right (an_int at n u) env w l b s = integer_right n u (constant_below n u l)
    tree_right (a_char at c) env w l b s = (let k : IsConstant int (v.Int c) = (refl, grind (arith, l)) in (refl, k, tt, k))
    tree_right (a_str at t) env w l b s = string_right env w at b t s
    tree_right (comma at es) env w l b s = on_holds (TreesBoth es) (TypedExpressionRight p vars) (trees env b es) (λ gs. fine (comma_of gs)) (trees_right es env w l.1 b s) (λ gs k. comma_right p vars gs (k.1 l.0) k.0)
    tree_right (sizeof_type at t) env w l b s = on_holds (Made (layout_of env)) (TypedExpressionRight p vars) (type_named env t) (size_of_type env at (place_of_type t)) (type_named_made env t) (λ u m. size_right p vars env w.names_known.sound at (place_of_type t) u m)
    tree_right (cast at t e) env w l b s = cast_rule_right env (is_void_pointer t) at (type_named env t) (value_at env (place_of e) (tree env b e)) (value_at_right env w (place_of e) (tree env b e) (tree_made env e w.names_known b) (tree_right e env w l b s))
    tree_right (call at d es) env w l b s =
        all_three_hold (λ f. CalleeHas (Made (layout_of env)) f × CalleeRight p vars f) Any (TreesBoth es) (TypedExpressionRight p vars) (callee env at d (value_at env (place_of d) (tree env b d))) (site_of env (b.sites + calls d) at) (trees env (after_designator b d) es) (called at)
        (holds_two (CalleeHas (Made (layout_of env))) (CalleeRight p vars) (callee env at d (value_at env (place_of d) (tree env b d))) (callee_made env at d w.names_known b)
        (callee_right env w at d (value_at env (place_of d) (tree env b d)) (value_at_right env w (place_of d) (tree env b d) (tree_made env d w.names_known b) (tree_right d env w l.0 b (strings_first (string_number env b) (strings d) (strings_of_all es) s)))))
        (anything (site_of env (b.sites + calls d) at)) (trees_right es env w l.1 (after_designator b d) (strings_rest env b (suc (calls d)) (strings d) (strings_of_all es) s))
        (λ f n gs h _ k. called_right p vars at f n gs (result_made (layout_of env) f.designator f.returns f.parameters h.0) h.1 k.0)
    tree_right (member at how e y) env w l b s = access_right env w at (place_of e) how y.name (tree env b e) (tree_made env e w.names_known b) (tree_right e env w l b s)
    tree_right (postfix at o e) env w l b s = after_operand_right env w at (place_of e) o (tree env b e) (place_at_right env w (place_of e) (tree env b e) (tree_made env e w.names_known b) (tree_right e env w l b s))
    tree_right (prefix at pre_increment e) env w l b s =
        on_holds (PlaceBoth env) (TypedExpressionRight p vars) (place_at (place_of e) (tree env b e)) (step env at Add false) (place_at_right env w (place_of e) (tree env b e) (tree_made env e w.names_known b) (tree_right e env w l b s)) (λ g k. step_right p vars env w.within at Add false g tt k.0 k.1)
    tree_right (prefix at pre_decrement e) env w l b s =
        on_holds (PlaceBoth env) (TypedExpressionRight p vars) (place_at (place_of e) (tree env b e)) (step env at Sub false) (place_at_right env w (place_of e) (tree env b e) (tree_made env e w.names_known b) (tree_right e env w l b s)) (λ g k. step_right p vars env w.within at Sub false g tt k.0 k.1)
    tree_right (prefix at sizeof e) env w l b s =
        on_holds (TypeMade env) (TypedExpressionRight p vars) (tree (in_context env sized) nothing_before e) (size_of_expression env at) (tree_made (in_context env sized) e w.names_known nothing_before) (λ g k. size_right p vars env w.names_known.sound at at g.ctype k)
    tree_right (unary at o e) env w l b s = unary_rule_right env w at (place_of e) o (tree env b e) (tree_made env e w.names_known b) (tree_right e env w l b s)
    tree_right (index at e f) env w l b s =
        on_holds (λ g. TypeMade env g × SumRight p vars env w.within g) (TypedExpressionRight p vars) (both (value_at env (place_of e) (tree env b e)) (value_at env (place_of f) (tree env (after b e) f)) (sum env at)) (indirection at)
        (both_hold (ValueBoth env) (ValueBoth env) (λ g. TypeMade env g × SumRight p vars env w.within g) (value_at env (place_of e) (tree env b e)) (value_at env (place_of f) (tree env (after b e) f)) (sum env at)
        (value_at_right env w (place_of e) (tree env b e) (tree_made env e w.names_known b) (tree_right e env w l.0 b (strings_first (string_number env b) (strings e) (strings f) s)))
        (value_at_right env w (place_of f) (tree env (after b e) f) (tree_made env f w.names_known (after b e)) (tree_right f env w l.1 (after b e) (strings_rest env b (calls e) (strings e) (strings f) s)))
        (λ g h k m. holds_two (TypeMade env) (SumRight p vars env w.within) (sum env at g h) (sum_made env at g h k.0 m.0) (operation_right p vars env w.within at Add g h k m)))
        (λ g k. indirection_right p vars (layout_of env) at g k.0 k.1.1)
    tree_right (binary at o e f) env w l b s =
        both_hold (ValueBoth env) (ValueBoth env) (TypedExpressionRight p vars) (value_at env (place_of e) (tree env b e)) (value_at env (place_of f) (tree env (after b e) f)) (infix_rule env at o)
        (value_at_right env w (place_of e) (tree env b e) (tree_made env e w.names_known b) (tree_right e env w l.0 b (strings_first (string_number env b) (strings e) (strings f) s)))
        (value_at_right env w (place_of f) (tree env (after b e) f) (tree_made env f w.names_known (after b e)) (tree_right f env w l.1 (after b e) (strings_rest env b (calls e) (strings e) (strings f) s)))
        (λ g h k m. holds_map (SumRight p vars env w.within) (TypedExpressionRight p vars) (λ _ r. r.0) (infix_rule env at o g h) (infix_right p vars env w.within at o g h k m))
    tree_right (assign at o e f) env w l b s =
        both_hold (PlaceBoth env) (ValueBoth env) (TypedExpressionRight p vars) (place_at (place_of e) (tree env b e)) (value_at env (place_of f) (tree env (after b e) f)) (assignment_by env at o)
        (place_at_right env w (place_of e) (tree env b e) (tree_made env e w.names_known b) (tree_right e env w l.0 b (strings_first (string_number env b) (strings e) (strings f) s)))
        (value_at_right env w (place_of f) (tree env (after b e) f) (tree_made env f w.names_known (after b e)) (tree_right f env w l.1 (after b e) (strings_rest env b (calls e) (strings e) (strings f) s)))
        (λ g h k m. assignment_by_right p vars env w.within at o g h k.0 k.1 m.1)
    tree_right (conditional at c e f) env w l b s =
        all_three_hold (ValueBoth env) (ValueBoth env) (ValueBoth env) (TypedExpressionRight p vars) (value_at env (place_of c) (tree env b c)) (value_at env (place_of e) (tree env (after b c) e)) (value_at env (place_of f) (tree env (after (after b c) e) f)) (choice at)
        (value_at_right env w (place_of c) (tree env b c) (tree_made env c w.names_known b) (tree_right c env w l.0 b (strings_first (string_number env b) (strings c) (strings e ++ strings f) s)))
        (value_at_right env w (place_of e) (tree env (after b c) e) (tree_made env e w.names_known (after b c)) (tree_right e env w l.1 (after b c) (strings_first (string_number env (after b c)) (strings e) (strings f) (strings_rest env b (calls c) (strings c) (strings e ++ strings f) s))))
        (value_at_right env w (place_of f) (tree env (after (after b c) e) f) (tree_made env f w.names_known (after (after b c) e)) (tree_right f env w l.2 (after (after b c) e) (strings_rest env (after b c) (calls e) (strings e) (strings f) (strings_rest env b (calls c) (strings c) (strings e ++ strings f) s))))
        (λ g h i k m n. choice_right p vars env w.within at g h i k.1 m.1 n.1)

    pub trees_right : (xs : Exprs) (env : Env) → IsRight p vars env → AreLexical xs → (b : Before) → StringsIn p vars (string_number env b) (strings_of_all xs) → Holds (TreesBoth xs) (trees env b xs)
    trees_right no_exprs env w l b s = (tt, λ n. absurd n)
    trees_right (more_exprs x xs) env w l b s =
        both_hold (ValueBoth env) (TreesBoth xs) (TreesBoth (more_exprs x xs)) (value_at env (place_of x) (tree env b x)) (trees env (after b x) xs) (λ g gs. fine (g ∷ gs))
        (value_at_right env w (place_of x) (tree env b x) (tree_made env x w.names_known b) (tree_right x env w l.0 b (strings_first (string_number env b) (strings x) (strings_of_all xs) s)))
        (trees_right xs env w l.1 (after b x) (strings_rest env b (calls x) (strings x) (strings_of_all xs) s))
        (λ g gs h k. ((h.1, k.0), λ _. omega arith))

  -- the value of an expression
  pub value_right : (x : Expr) (env : Env) → IsRight p vars env → IsLexical x → (b : Before) → StringsIn p vars (string_number env b) (strings x) → Holds (ValueBoth env) (value env b x)
  value_right x env w l b s = value_at_right env w (place_of x) (tree env b x) (tree_made env x w.names_known b) (tree_right x env w l b s)
