-- What expressions, initialisers and statements give calls functions of the unit and system calls alone.
use Rattle.std.proofs.Common.{◌≡◌, ℕ, zero, suc, ◌+◌, ◌<◌, Bool, true, false, List, [], ◌∷◌, ◌++◌, map, length, replicate, Option, Some, None, nat_eq, nat_le, refl}
use Rattle.c_syntax.specs.TheConstants.{AMPERSAND}
use Rattle.c_tree.specs.declared.value.IntType.TheVariants.{Char}
use Rattle.c_tree.specs.declared.value.BinOp.TheVariants.{Add, Sub}
use Rattle.c_tree.specs.Tree.{CType, integer, pointer, array, function}
use Rattle.c_tree.specs.Layout.{flat, flat_all, repeat}
use Rattle.c_syntax.specs.Tree.{Expr, a_name, an_int, a_char, a_str, comma, sizeof_type, cast, call, member, postfix, prefix, unary, index, binary, assign, conditional, Exprs, no_exprs, more_exprs}
use Rattle.c_syntax.specs.Tree.{Postfix, post_increment, post_decrement, Prefix, pre_increment, pre_decrement, sizeof, Access, dot, arrow, Infix, and, or, operator, Init, one, list, MaybeInit, no_init, an_init}
use Rattle.c_syntax.specs.Tree as syntax
use Rattle.c_rules.specs.Checked.{Checked, fine, on, both, demand, met}
use Rattle.c_rules.specs.Names.{Name}
use Rattle.c_rules.specs.Scopes.{Env, Binding, Meaning, a_static, a_function, Context, evaluated, sized, Before, nothing_before, in_context, layout_of, binding_of}
use Rattle.c_rules.specs.Counts.{place_of, calls, after, after_designator}
use Rattle.c_rules.specs.TypedExpression.{TypedExpression, Constant, known}
use Rattle.c_rules.specs.Conversions.{kind_of, valued, as_if_assigned}
use Rattle.c_rules.specs.PrimaryExpressions.{used, object_number, function_number, function_value_number, static_given, typed_function, meant, bound, string_fits}
use Rattle.c_rules.specs.PostfixExpressions.{site_of, callee_of_type, callee_through, callee_by_value, called, member_of}
use Rattle.c_rules.specs.UnaryExpressions.{address, indirection, unary_of_value, size_of_expression, size_of_type, cast_of, null_cast}
use Rattle.c_rules.specs.BinaryExpressions.{operator_of_code, sum, choice}
use Rattle.c_rules.specs.Assignments.{assignable, assignment_by, step, comma_of}
use Rattle.c_rules.specs.Declarators.{place_of_type, is_void_pointer}
use Rattle.c_rules.specs.Expressions.{value_at, place_at, callee_meant, callee_bound, callee, access, after_operand, before_operand, unary_rule, infix_rule, cast_rule, tree, trees, type_named, value}
use Rattle.c_rules.specs.Initialisers.{Slots, copies, each, slots, capacity, takes_list, count_inits, text_of, typed_zero, typed_char, zeros, chars, defined_cell, cell_of, scalar_cell, array_cells, cells_of_one, cells_of_list, after_init, initialised, in_turn, initialised_local, text_fits}
use Rattle.c_rules.specs.NullCalls.{CallsBelow}
use Rattle.c_rules.proofs.Integers.{integer_cases, size_holds}
use Rattle.c_rules.proofs.Below.{Holds, either_has, on_holds, both_hold, all_three_hold, Any, anything, demand_holds, after_demands, TypedExpressionBelow, TypedExpressionsBelow, tree_below, valued_as_below, as_if_below, CalleeBelow, called_below, member_type_below, address_below, led_below, unary_below, cast_below, null_cast_below, sum_of_below, operation_below, conjunction_below, disjunction_below, choice_below, assignment_by_below, step_below, assignable_below, trees_below}

-- every function that may be named has a number below n
abbrev pub Within : ℕ → Env → Type 0
Within n e = ((x : Name) (f : ℕ) → function_number e x ≡ Some f → f < n) × (0 < n)

module _ (n : ℕ) where
  used_below : (c : Context) (at : ℕ) (o : Option ℕ) → ((f : ℕ) → o ≡ Some f → f < n) → 0 < n → Holds (λ f. f < n) (used c at o)
  used_below c at (Some f) h z = h f refl
  used_below evaluated at None h z = tt
  used_below c at None h z = z

  meant_below : (e : Env) (at : ℕ) (x : Name) (m : Meaning) → Holds (TypedExpressionBelow n) (meant e at x m)
  meant_below e at x (a_static seen whole d) = after_demands (TypedExpressionBelow n) (used e.context at (object_number e x)) (λ k. fine (static_given e seen whole k)) (λ _. tt)
  meant_below e at x (a_function t d) = after_demands (TypedExpressionBelow n) (function_value_number e at x) (λ k. fine (typed_function t k)) (λ _. tt)
  meant_below e at x m = tt

  bound_below : (e : Env) (at : ℕ) (x : Name) (o : Option Binding) → Holds (TypedExpressionBelow n) (bound e at x o)
  bound_below e at x None = tt
  bound_below e at x (Some b) = meant_below e at x b.means

  of_type_below : (at : ℕ) (t : CType) (f : ℕ) → f < n → Holds (CalleeBelow n) (callee_of_type at t f)
  of_type_below at (function t ts) f h = h
  of_type_below at t f h = tt

  through_below : (at : ℕ) (x : _) (t : CType) → CallsBelow n x → Holds (CalleeBelow n) (callee_through at x t)
  through_below at x (pointer (function t ts)) h = h
  through_below at x t h = tt

  by_value_below : (at : ℕ) (r : Checked TypedExpression) → Holds (TypedExpressionBelow n) r → Holds (CalleeBelow n) (on r (callee_by_value at))
  by_value_below at r h = on_holds (TypedExpressionBelow n) (CalleeBelow n) r (callee_by_value at) h (λ g k. through_below at _ g.ctype (tree_below n g k))

  callee_meant_below : (e : Env) → Within n e → (at place : ℕ) (x : Name) (r : Checked TypedExpression) (m : Meaning) → Holds (TypedExpressionBelow n) r → Holds (CalleeBelow n) (callee_meant e at place x r m)
  callee_meant_below e w at place x r (a_function t d) h = on_holds (λ f. f < n) (CalleeBelow n) (used e.context place (function_number e x)) (callee_of_type place t) (used_below e.context place (function_number e x) (w.0 x) w.1) (λ f k. of_type_below place t f k)
  callee_meant_below e w at place x r m h = by_value_below at r h

  callee_bound_below : (e : Env) → Within n e → (at place : ℕ) (x : Name) (r : Checked TypedExpression) (o : Option Binding) → Holds (TypedExpressionBelow n) r → Holds (CalleeBelow n) (callee_bound e at place x r o)
  callee_bound_below e w at place x r None h = by_value_below at r h
  callee_bound_below e w at place x r (Some b) h = callee_meant_below e w at place x r b.means h

  callee_below : (e : Env) → Within n e → (at : ℕ) (d : Expr) (r : Checked TypedExpression) → Holds (TypedExpressionBelow n) r → Holds (CalleeBelow n) (callee e at d r)
  callee_below e w at (a_name place x) r h = callee_bound_below e w at place x r (binding_of e x) h
  callee_below e w at _ r h = by_value_below at r h

  pub value_at_below : (e : Env) (place : ℕ) (r : Checked TypedExpression) → Holds (TypedExpressionBelow n) r → Holds (TypedExpressionBelow n) (value_at e place r)
  value_at_below e place r h = on_holds (TypedExpressionBelow n) (TypedExpressionBelow n) r (valued e place) h (λ g k. valued_as_below n e place g g.ctype k)

  place_at_below : (place : ℕ) (r : Checked TypedExpression) → Holds (TypedExpressionBelow n) r → Holds (TypedExpressionBelow n) (place_at place r)
  place_at_below place r h = on_holds (TypedExpressionBelow n) (TypedExpressionBelow n) r (assignable place) h (λ g k. assignable_below n place g k)

  access_below : (e : Env) (at place : ℕ) (how : Access) (x : Name) (r : Checked TypedExpression) → Holds (TypedExpressionBelow n) r → Holds (TypedExpressionBelow n) (access e at place how x r)
  access_below e at place dot x r h = on_holds (TypedExpressionBelow n) (TypedExpressionBelow n) r (member_of e at x) h (λ g k. member_type_below n e at x g g.ctype k)
  access_below e at place arrow x r h =
      on_holds (TypedExpressionBelow n) (TypedExpressionBelow n) (on (value_at e place r) (indirection at)) (member_of e at x) (on_holds (TypedExpressionBelow n) (TypedExpressionBelow n) (value_at e place r) (indirection at) (value_at_below e place r h) (λ g k. led_below n at g g.ctype k)) (λ g k. member_type_below n e at x g g.ctype k)

  after_operand_below : (e : Env) (at place : ℕ) (o : Postfix) (r : Checked TypedExpression) → Holds (TypedExpressionBelow n) r → Holds (TypedExpressionBelow n) (after_operand e at place o r)
  after_operand_below e at place post_increment r h = on_holds (TypedExpressionBelow n) (TypedExpressionBelow n) (place_at place r) (step e at Add true) (place_at_below place r h) (λ g k. step_below n e at Add true g k)
  after_operand_below e at place post_decrement r h = on_holds (TypedExpressionBelow n) (TypedExpressionBelow n) (place_at place r) (step e at Sub true) (place_at_below place r h) (λ g k. step_below n e at Sub true g k)

  before_operand_below : (e : Env) (at place : ℕ) (o : Prefix) (r s : Checked TypedExpression) → Holds (TypedExpressionBelow n) r → Holds (TypedExpressionBelow n) (before_operand e at place o r s)
  before_operand_below e at place pre_increment r s h = on_holds (TypedExpressionBelow n) (TypedExpressionBelow n) (place_at place r) (step e at Add false) (place_at_below place r h) (λ g k. step_below n e at Add false g k)
  before_operand_below e at place pre_decrement r s h = on_holds (TypedExpressionBelow n) (TypedExpressionBelow n) (place_at place r) (step e at Sub false) (place_at_below place r h) (λ g k. step_below n e at Sub false g k)
  before_operand_below e at place sizeof r s h = after_demands (TypedExpressionBelow n) s (size_of_expression e at) (λ g. size_holds (TypedExpressionBelow n) e at at g.ctype (λ _. tt))

  unary_rule_below : (e : Env) (at place o : ℕ) (r : Checked TypedExpression) → Holds (TypedExpressionBelow n) r → Holds (TypedExpressionBelow n) (unary_rule e at place o r)
  unary_rule_below e at place o r h =
      either_has (Holds (TypedExpressionBelow n)) (nat_eq o AMPERSAND) (on r (address at place)) (on (value_at e place r) (unary_of_value at o)) (on_holds (TypedExpressionBelow n) (TypedExpressionBelow n) r (address at place) h (λ g k. address_below n at place g k))
      (on_holds (TypedExpressionBelow n) (TypedExpressionBelow n) (value_at e place r) (unary_of_value at o) (value_at_below e place r h) (λ g k. unary_below n at o g k))

  infix_below : (e : Env) (at : ℕ) (o : Infix) (a b : TypedExpression) → TypedExpressionBelow n a → TypedExpressionBelow n b → Holds (TypedExpressionBelow n) (infix_rule e at o a b)
  infix_below e at and a b g h = conjunction_below n at a b g h
  infix_below e at or a b g h = disjunction_below n at a b g h
  infix_below e at (operator code) a b g h = operation_below n e at (operator_of_code code) a b g h

  cast_rule_below : (v : Bool) (at : ℕ) (t : Checked CType) (r : Checked TypedExpression) → Holds (TypedExpressionBelow n) r → Holds (TypedExpressionBelow n) (cast_rule v at t r)
  cast_rule_below true at t r h = after_demands (TypedExpressionBelow n) r (null_cast at) (λ g. null_cast_below n at g)
  cast_rule_below false at t r h = both_hold Any (TypedExpressionBelow n) (TypedExpressionBelow n) t r (cast_of at) (anything t) h (λ u g _ k. cast_below n at u g k)

  mutual
    pub tree_holds : (e : Env) → Within n e → (b : Before) (x : Expr) → Holds (TypedExpressionBelow n) (tree e b x)
    tree_holds e w b (a_name at x) = bound_below e at x (binding_of e x)
    tree_holds e w b (an_int at k u) = integer_cases (TypedExpressionBelow n) k u (λ _. tt) tt
    tree_holds e w b (a_char at c) = tt
    tree_holds e w b (a_str at t) = after_demands (TypedExpressionBelow n) (string_fits e.context at b.cells (suc (length t))) _ (λ _. tt)
    tree_holds e w b (comma at es) = on_holds (TypedExpressionsBelow n) (TypedExpressionBelow n) (trees e b es) (λ gs. fine (comma_of gs)) (trees_hold e w b es) (λ gs k. trees_below n gs k)
    tree_holds e w b (sizeof_type at t) = after_demands (TypedExpressionBelow n) (type_named e t) (size_of_type e at (place_of_type t)) (λ u. size_holds (TypedExpressionBelow n) e at (place_of_type t) u (λ _. tt))
    tree_holds e w b (cast at t x) = cast_rule_below (is_void_pointer t) at (type_named e t) (value_at e (place_of x) (tree e b x)) (value_at_below e (place_of x) (tree e b x) (tree_holds e w b x))
    tree_holds e w b (call at d es) =
        all_three_hold (CalleeBelow n) Any (TypedExpressionsBelow n) (TypedExpressionBelow n) (callee e at d (value_at e (place_of d) (tree e b d))) (site_of e (b.sites + calls d) at) (trees e (after_designator b d) es) (called at)
        (callee_below e w at d (value_at e (place_of d) (tree e b d)) (value_at_below e (place_of d) (tree e b d) (tree_holds e w b d))) (anything (site_of e (b.sites + calls d) at)) (trees_hold e w (after_designator b d) es) (λ f s gs h _ k. called_below n at f s gs h k)
    tree_holds e w b (member at how x y) = access_below e at (place_of x) how y.name (tree e b x) (tree_holds e w b x)
    tree_holds e w b (postfix at o x) = after_operand_below e at (place_of x) o (tree e b x) (tree_holds e w b x)
    tree_holds e w b (prefix at o x) = before_operand_below e at (place_of x) o (tree e b x) (tree (in_context e sized) nothing_before x) (tree_holds e w b x)
    tree_holds e w b (unary at o x) = unary_rule_below e at (place_of x) o (tree e b x) (tree_holds e w b x)
    tree_holds e w b (index at x y) =
        on_holds (TypedExpressionBelow n) (TypedExpressionBelow n) (both (value_at e (place_of x) (tree e b x)) (value_at e (place_of y) (tree e (after b x) y)) (sum e at)) (indirection at)
        (both_hold (TypedExpressionBelow n) (TypedExpressionBelow n) (TypedExpressionBelow n) (value_at e (place_of x) (tree e b x)) (value_at e (place_of y) (tree e (after b x) y)) (sum e at) (value_at_below e (place_of x) (tree e b x) (tree_holds e w b x)) (value_at_below e (place_of y) (tree e (after b x) y) (tree_holds e w (after b x) y)) (λ g h i j. sum_of_below n e at g h (kind_of g.ctype) (kind_of h.ctype) i j)) (λ g k. led_below n at g g.ctype k)
    tree_holds e w b (binary at o x y) =
        both_hold (TypedExpressionBelow n) (TypedExpressionBelow n) (TypedExpressionBelow n) (value_at e (place_of x) (tree e b x)) (value_at e (place_of y) (tree e (after b x) y)) (infix_rule e at o) (value_at_below e (place_of x) (tree e b x) (tree_holds e w b x)) (value_at_below e (place_of y) (tree e (after b x) y) (tree_holds e w (after b x) y)) (λ g h i j. infix_below e at o g h i j)
    tree_holds e w b (assign at o x y) =
        both_hold (TypedExpressionBelow n) (TypedExpressionBelow n) (TypedExpressionBelow n) (place_at (place_of x) (tree e b x)) (value_at e (place_of y) (tree e (after b x) y)) (assignment_by e at o) (place_at_below (place_of x) (tree e b x) (tree_holds e w b x)) (value_at_below e (place_of y) (tree e (after b x) y) (tree_holds e w (after b x) y)) (λ g h i j. assignment_by_below n e at o g h i j)
    tree_holds e w b (conditional at c x y) =
        all_three_hold (TypedExpressionBelow n) (TypedExpressionBelow n) (TypedExpressionBelow n) (TypedExpressionBelow n) (value_at e (place_of c) (tree e b c)) (value_at e (place_of x) (tree e (after b c) x)) (value_at e (place_of y) (tree e (after (after b c) x) y)) (choice at)
        (value_at_below e (place_of c) (tree e b c) (tree_holds e w b c)) (value_at_below e (place_of x) (tree e (after b c) x) (tree_holds e w (after b c) x)) (value_at_below e (place_of y) (tree e (after (after b c) x) y) (tree_holds e w (after (after b c) x) y)) (λ g h i j k l. choice_below n at g h i j k l)

    pub trees_hold : (e : Env) → Within n e → (b : Before) (xs : Exprs) → Holds (TypedExpressionsBelow n) (trees e b xs)
    trees_hold e w b no_exprs = tt
    trees_hold e w b (more_exprs x xs) =
        both_hold (TypedExpressionBelow n) (TypedExpressionsBelow n) (TypedExpressionsBelow n) (value_at e (place_of x) (tree e b x)) (trees e (after b x) xs) (λ g gs. fine (g ∷ gs)) (value_at_below e (place_of x) (tree e b x) (tree_holds e w b x)) (trees_hold e w (after b x) xs) (λ g gs h k. (h, k))

  pub value_holds : (e : Env) → Within n e → (b : Before) (x : Expr) → Holds (TypedExpressionBelow n) (value e b x)
  value_holds e w b x = value_at_below e (place_of x) (tree e b x) (tree_holds e w b x)

  -- initialisers

  both_below : (gs hs : List TypedExpression) → TypedExpressionsBelow n gs → TypedExpressionsBelow n hs → TypedExpressionsBelow n (gs ++ hs)
  both_below [] hs g h = h
  both_below (x ∷ gs) hs g h = (g.0, both_below gs hs g.1 h)

  zero_below : (t : CType) → TypedExpressionBelow n (typed_zero t)
  zero_below (integer i) = tt
  zero_below t = tt

  all_zero : (ts : List CType) → TypedExpressionsBelow n (map typed_zero ts)
  all_zero [] = tt
  all_zero (t ∷ ts) = (zero_below t, all_zero ts)

  zeros_below : (e : Env) (s : Slots) → TypedExpressionsBelow n (zeros (layout_of e) s)
  zeros_below e (copies k t) = all_zero (repeat k (flat (layout_of e) t))
  zeros_below e (each ts) = all_zero (flat_all (layout_of e) ts)

  all_chars : (w : List ℕ) → TypedExpressionsBelow n (map typed_char w)
  all_chars [] = tt
  all_chars (c ∷ w) = (tt, all_chars w)

  ends : (k : ℕ) → TypedExpressionsBelow n (replicate k (typed_char 0))
  ends zero = tt
  ends (suc k) = (tt, ends k)

  cell_below : (k : Bool) (at : ℕ) (g : TypedExpression) → TypedExpressionBelow n g → Holds (TypedExpressionsBelow n) (cell_of k at g)
  cell_below false at g h = (h, tt)
  cell_below true at g h = by_constant g.constant
    where
      by_constant : (c : Constant) → Holds (TypedExpressionsBelow n) (defined_cell at g c)
      by_constant (known v) = (h, tt)
      by_constant c = tt

  scalar_below : (k : Bool) (at : ℕ) (t : CType) (r : Checked TypedExpression) → Holds (TypedExpressionBelow n) r → Holds (TypedExpressionsBelow n) (scalar_cell k at t r)
  scalar_below k at t r h =
      on_holds (TypedExpressionBelow n) (TypedExpressionsBelow n) (on r (as_if_assigned at t)) (cell_of k at) (on_holds (TypedExpressionBelow n) (TypedExpressionBelow n) r (as_if_assigned at t) h (λ g l. as_if_below n at t g l)) (λ g l. cell_below k at g l)

  array_below : (at : ℕ) (t : CType) (k : ℕ) (o : Option (List ℕ)) → Holds (TypedExpressionsBelow n) (array_cells at t k o)
  array_below at (integer Char) k (Some w) = demand_holds (TypedExpressionsBelow n) (nat_le (length w) k) 14 at (chars k w) (both_below (map typed_char w) _ (all_chars w) (ends _))
  array_below at t k o = tt

  one_below : (k : Bool) (at : ℕ) (t : CType) (o : Option (List ℕ)) (r : Checked TypedExpression) → Holds (TypedExpressionBelow n) r → Holds (TypedExpressionsBelow n) (cells_of_one k at t o r)
  one_below k at (integer i) o r h = scalar_below k at (integer i) r h
  one_below k at (pointer t) o r h = scalar_below k at (pointer t) r h
  one_below k at (array t m) o r h = after_demands (TypedExpressionsBelow n) (text_fits at o) (λ _. array_cells at t m o) (λ _. array_below at t m o)
  one_below k at t o r h = tt

  list_below : (takes : Bool) (at most m : ℕ) (r : Checked (List TypedExpression)) → Holds (TypedExpressionsBelow n) r → Holds (TypedExpressionsBelow n) (cells_of_list takes at most m r)
  list_below takes at most m r h =
      after_demands (TypedExpressionsBelow n) (demand takes 14 at met) (λ _. on r (λ gs. demand (nat_le m most) 14 at gs)) (λ _. on_holds (TypedExpressionsBelow n) (TypedExpressionsBelow n) r (λ gs. demand (nat_le m most) 14 at gs) h (λ gs k. demand_holds (TypedExpressionsBelow n) (nat_le m most) 14 at gs k))

  mutual
    pub initialised_holds : (e : Env) → Within n e → (b : Before) (k : Bool) (t : CType) (i : Init) → Holds (TypedExpressionsBelow n) (initialised e b k t i)
    initialised_holds e w b k t (one at x) = one_below k at t (text_of x) (value e b x) (value_holds e w b x)
    initialised_holds e w b k t (list at is) = list_below (takes_list t) at (capacity (slots e t)) (count_inits is) (in_turn e b k (slots e t) is) (in_turn_holds e w b k (slots e t) is)

    in_turn_holds : (e : Env) → Within n e → (b : Before) (k : Bool) (s : Slots) (is : syntax.Inits) → Holds (TypedExpressionsBelow n) (in_turn e b k s is)
    in_turn_holds e w b k s syntax.no_inits = zeros_below e s
    in_turn_holds e w b k (copies (suc m) t) (syntax.more_inits i is) =
        both_hold (TypedExpressionsBelow n) (TypedExpressionsBelow n) (TypedExpressionsBelow n) (initialised e b k t i) (in_turn e (after_init e b t i) k (copies m t) is) (λ gs hs. fine (gs ++ hs)) (initialised_holds e w b k t i) (in_turn_holds e w (after_init e b t i) k (copies m t) is) (λ gs hs g h. both_below gs hs g h)
    in_turn_holds e w b k (each (t ∷ ts)) (syntax.more_inits i is) =
        both_hold (TypedExpressionsBelow n) (TypedExpressionsBelow n) (TypedExpressionsBelow n) (initialised e b k t i) (in_turn e (after_init e b t i) k (each ts) is) (λ gs hs. fine (gs ++ hs)) (initialised_holds e w b k t i) (in_turn_holds e w (after_init e b t i) k (each ts) is) (λ gs hs g h. both_below gs hs g h)
    in_turn_holds e w b k s (syntax.more_inits i is) = tt

  pub local_init_holds : (e : Env) → Within n e → (b : Before) (t : CType) (m : MaybeInit) → Holds (TypedExpressionsBelow n) (initialised_local e b t m)
  local_init_holds e w b t no_init = tt
  local_init_holds e w b t (an_init i) = initialised_holds e w b false t i
