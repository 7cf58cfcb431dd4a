-- Rules with two operands and more, where the operands have other trees.
use Rattle.std.proofs.Common.{◌≡◌, ℕ, ◌+◌, Bool, true, false, ◌&&◌, if◌then◌else◌, List, [], ◌++◌, length, nat_eq, refl, ap, ap₂, sym, subst, ◌∙◌}
use Rattle.std.proofs.lemmas.List.{append-nil}
use Rattle.std.specs.Prelude.{neg_ℤ}
use Rattle.c_lexer.specs.declared.punctuator.TheConstants.{ASSIGN}
use Rattle.c_tree.specs.declared.value.IntType.{IntType}
use Rattle.c_tree.specs.declared.value.BinOp.{BinOp}
use Rattle.c_tree.specs.declared.value.BinOp.TheVariants as op
use Rattle.c_tree.specs.Tree.{CType, void, integer, pointer, Expr, Program}
use Rattle.c_tree.specs.Tree as typed
use Rattle.c_tree.specs.Functions.{int}
use Rattle.c_tree.specs.Operands.{promoted, common, OperatorKind, balanced, shift, ordering, equality}
use Rattle.c_tree.specs.Operands.{kind_of as kind_of_operator}
use Rattle.c_syntax.specs.Tree.{Infix, and, or, operator, Postfix, post_increment, post_decrement}
use Rattle.c_rules.specs.Checked.{Checked, fine, demand, on, both, all_three, gives, met}
use Rattle.c_rules.specs.Types.{same_type, is_integer, is_scalar, is_void}
use Rattle.c_rules.specs.Scopes.{Env}
use Rattle.c_rules.specs.TypedExpression.{Constant, not_constant, TypedExpression, typed_value, tree_of, is_null, integer_constant_if, integer_constant}
use Rattle.c_rules.specs.Constants.{constant_binary, constant_and, constant_or, constant_conditional}
use Rattle.c_rules.specs.Conversions.{Kind, an_integer, a_pointer, kind_of, complete, converted_to, null_of, fits_kind, fits, assigned}
use Rattle.c_rules.specs.BinaryExpressions.{operator_of_code, shifted, compared_integers, compared_pointers, pointer_plus, plus_pointer, pointer_minus, difference, sum_of, sum, minus_of, balanced_of, shift_of, ordered_of, Alike, alike_integers, alike_pointers, unlike, pointers_alike, alike_of, alike, equality_of, arithmetic_of, operation_of, both_scalars, chosen, arms_of, choice}
use Rattle.c_rules.specs.Assignments.{assignment, operator_of_assignment, right_type, updated, moves, update_of, assignment_by, one_for, step}
use Rattle.c_rules.specs.Expressions.{place_at, after_operand, infix_rule}
use Rattle.null_calls_laws.specs.InstrumentedPrograms.{expr, kept}
use Rattle.null_calls_laws.specs.WithoutSites.{unsited}
use Rattle.c_rules_laws.specs.ConstantForm.{IsConst}
use Rattle.null_calls_laws.specs.Remade.{remade, IsRemade, Follows, IsOperand}
use Rattle.c_rules_laws.proofs.GatheredOfTypedExpressions.{none_both}
use Rattle.c_rules_laws.proofs.ConstantForms.{integer_const, two_const, binary_const, and_const, or_const, conditional_const, moved_const}
use Rattle.null_calls_laws.proofs.Operands.{operand, value_remade, demand_follows, behind_follows, on_follows, if_follows, converted_operand, null_operand, assigned_operand}
use Rattle.null_calls_laws.proofs.Unary.{place_at_follows}

-- ## Two operands

module _ (p : Program) (k : ℕ) (ts us : List CType) where
  abbrev First : TypedExpression → TypedExpression → Type 0
  First a b = IsOperand p k ts a b

  abbrev Second : TypedExpression → TypedExpression → Type 0
  Second a b = IsOperand p (k + length ts) us a b

  abbrev SameFirst : TypedExpression → Expr → Type 0
  SameFirst g x = IsRemade p k ts g x

  abbrev SameSecond : TypedExpression → Expr → Type 0
  SameSecond g x = IsRemade p (k + length ts) us g x

  abbrev Goes : Checked TypedExpression → Checked TypedExpression → Type 0
  Goes r s = Follows p k (ts ++ us) r s

  -- a form whose temporaries are those of its two operands
  operated_follows : (t : CType) (c : Expr → Expr → Expr) → ((v w : Expr) → kept p true (c v w) ≡ kept p true v ++ kept p true w) → ((v w : Expr) → unsited (c v w) ≡ c (unsited v) (unsited w))
      → ((v w : Expr) → expr p k true (c v w) ≡ c (expr p k true v) (expr p (k + length (kept p true v)) true w)) → (a a' b b' : TypedExpression) (z z' : Constant) → First a a' → Second b b' → (IsConst z → IsConst a.constant × IsConst b.constant) → z' ≡ z
      → Goes (fine (typed_value t (c (tree_of a) (tree_of b)) z)) (fine (typed_value t (c (tree_of a') (tree_of b')) z'))
  operated_follows t c q r s a a' b b' z z' g h f e =
      value_remade p k (ts ++ us) t (c (tree_of a) (tree_of b)) (c (tree_of a') (tree_of b')) z z' (q (tree_of a) (tree_of b) ∙ ap₂ (λ v w. v ++ w) g.types h.types)
      (r (tree_of a') (tree_of b') ∙ (ap₂ c g.tree (h.tree ∙ ap (λ vs. expr p (k + length vs) true (tree_of b)) (sym g.types)) ∙ sym (s (tree_of a) (tree_of b)))) (λ v. (let w = f v in none_both ts us (g.none w.0) (h.none w.1))) e

  -- ## Integers

  shifted_follows : (o : BinOp) (i j : IntType) (a b : TypedExpression) (x y : Expr) → SameFirst a x → SameSecond b y → Goes (fine (shifted o i j a b)) (fine (shifted o i j (remade a x) (remade b y)))
  shifted_follows o i j a b x y g h =
      let a1 : TypedExpression = converted_to i a in
      let b1 : TypedExpression = converted_to j b in
      let m = converted_operand p k ts i a x g in
      let n = converted_operand p (k + length ts) us j b y h in
      operated_follows (integer i) (typed.arithmetic (integer i) o) (λ _ _. refl) (λ _ _. refl) (λ _ _. refl) a1 (converted_to i (remade a x)) b1 (converted_to j (remade b y)) _ _ m n (binary_const o a1.constant b1.constant) (ap₂ (constant_binary o) m.constant n.constant)

  compared_follows : (o : BinOp) (i : IntType) (a b : TypedExpression) (x y : Expr) → SameFirst a x → SameSecond b y → Goes (fine (compared_integers o i a b)) (fine (compared_integers o i (remade a x) (remade b y)))
  compared_follows o i a b x y g h =
      let a1 : TypedExpression = converted_to i a in
      let b1 : TypedExpression = converted_to i b in
      let m = converted_operand p k ts i a x g in
      let n = converted_operand p (k + length ts) us i b y h in
      operated_follows int (typed.comparison int o) (λ _ _. refl) (λ _ _. refl) (λ _ _. refl) a1 (converted_to i (remade a x)) b1 (converted_to i (remade b y)) _ _ m n (binary_const o a1.constant b1.constant) (ap₂ (constant_binary o) m.constant n.constant)

  -- ## Pointers

  pointers_follow : (o : BinOp) (a a' b b' : TypedExpression) → First a a' → Second b b' → Goes (fine (compared_pointers o a b)) (fine (compared_pointers o a' b'))
  pointers_follow o a a' b b' g h = operated_follows int (typed.comparison int o) (λ _ _. refl) (λ _ _. refl) (λ _ _. refl) a a' b b' not_constant not_constant g h (λ c. absurd c) refl

  plus_follows : (t : CType) (a b : TypedExpression) (x y : Expr) → SameFirst a x → SameSecond b y → Goes (fine (pointer_plus t a b)) (fine (pointer_plus t (remade a x) (remade b y)))
  plus_follows t a b x y g h = operated_follows (pointer t) (typed.pointer_add (pointer t) true false) (λ _ _. refl) (λ _ _. refl) (λ _ _. refl) a (remade a x) b (remade b y) _ _ (operand p k ts a x g) (operand p (k + length ts) us b y h) (moved_const a.constant (λ z. z) b.constant) refl

  turned_follows : (t : CType) (a b : TypedExpression) (x y : Expr) → SameFirst a x → SameSecond b y → Goes (fine (plus_pointer t a b)) (fine (plus_pointer t (remade a x) (remade b y)))
  turned_follows t a b x y g h =
      operated_follows (pointer t) (typed.pointer_add (pointer t) false false) (λ _ _. refl) (λ _ _. refl) (λ _ _. refl) a (remade a x) b (remade b y) _ _ (operand p k ts a x g) (operand p (k + length ts) us b y h) (λ z. (let w = moved_const b.constant (λ z. z) a.constant z in (w.1, w.0))) refl

  less_follows : (t : CType) (a b : TypedExpression) (x y : Expr) → SameFirst a x → SameSecond b y → Goes (fine (pointer_minus t a b)) (fine (pointer_minus t (remade a x) (remade b y)))
  less_follows t a b x y g h = operated_follows (pointer t) (typed.pointer_add (pointer t) true true) (λ _ _. refl) (λ _ _. refl) (λ _ _. refl) a (remade a x) b (remade b y) _ _ (operand p k ts a x g) (operand p (k + length ts) us b y h) (moved_const a.constant (λ z. neg_ℤ z) b.constant) refl

  difference_follows : (a b : TypedExpression) (x y : Expr) → SameFirst a x → SameSecond b y → Goes (fine (difference a b)) (fine (difference (remade a x) (remade b y)))
  difference_follows a b x y g h = operated_follows int (typed.pointer_diff int) (λ _ _. refl) (λ _ _. refl) (λ _ _. refl) a (remade a x) b (remade b y) not_constant not_constant (operand p k ts a x g) (operand p (k + length ts) us b y h) (λ c. absurd c) refl

  sum_of_follows : (env : Env) (at : ℕ) (a b : TypedExpression) (x y : Expr) (d e : Kind) → SameFirst a x → SameSecond b y → Goes (sum_of env at a b d e) (sum_of env at (remade a x) (remade b y) d e)
  sum_of_follows env at a b x y (an_integer i) (an_integer j) g h = shifted_follows op.Add (common i j) (common i j) a b x y g h
  sum_of_follows env at a b x y (a_pointer t) (an_integer j) g h = behind_follows p k (ts ++ us) (complete env at t) _ _ (λ _. plus_follows t a b x y g h)
  sum_of_follows env at a b x y (an_integer i) (a_pointer t) g h = behind_follows p k (ts ++ us) (complete env at t) _ _ (λ _. turned_follows t a b x y g h)
  sum_of_follows env at a b x y d e g h = tt

  pub sum_follows : (env : Env) (at : ℕ) (a b : TypedExpression) (x y : Expr) → SameFirst a x → SameSecond b y → Goes (sum env at a b) (sum env at (remade a x) (remade b y))
  sum_follows env at a b x y g h = sum_of_follows env at a b x y (kind_of a.ctype) (kind_of b.ctype) g h

  minus_follows : (env : Env) (at : ℕ) (a b : TypedExpression) (x y : Expr) (d e : Kind) → SameFirst a x → SameSecond b y → Goes (minus_of env at a b d e) (minus_of env at (remade a x) (remade b y) d e)
  minus_follows env at a b x y (an_integer i) (an_integer j) g h = shifted_follows op.Sub (common i j) (common i j) a b x y g h
  minus_follows env at a b x y (a_pointer t) (an_integer j) g h = behind_follows p k (ts ++ us) (complete env at t) _ _ (λ _. less_follows t a b x y g h)
  minus_follows env at a b x y (a_pointer t) (a_pointer u) g h =
      behind_follows p k (ts ++ us) (demand (same_type t u) 3 at met) (λ _. gives (complete env at t) (λ _. difference a b)) (λ _. gives (complete env at t) (λ _. difference (remade a x) (remade b y))) (λ _. behind_follows p k (ts ++ us) (complete env at t) _ _ (λ _. difference_follows a b x y g h))
  minus_follows env at a b x y d e g h = tt

  balanced_follows : (at : ℕ) (o : BinOp) (a b : TypedExpression) (x y : Expr) (d e : Kind) → SameFirst a x → SameSecond b y → Goes (balanced_of at o a b d e) (balanced_of at o (remade a x) (remade b y) d e)
  balanced_follows at o a b x y (an_integer i) (an_integer j) g h = shifted_follows o (common i j) (common i j) a b x y g h
  balanced_follows at o a b x y d e g h = tt

  shift_follows : (at : ℕ) (o : BinOp) (a b : TypedExpression) (x y : Expr) (d e : Kind) → SameFirst a x → SameSecond b y → Goes (shift_of at o a b d e) (shift_of at o (remade a x) (remade b y) d e)
  shift_follows at o a b x y (an_integer i) (an_integer j) g h = shifted_follows o (promoted i) (promoted j) a b x y g h
  shift_follows at o a b x y d e g h = tt

  ordered_follows : (env : Env) (at : ℕ) (o : BinOp) (a b : TypedExpression) (x y : Expr) (d e : Kind) → SameFirst a x → SameSecond b y → Goes (ordered_of env at o a b d e) (ordered_of env at o (remade a x) (remade b y) d e)
  ordered_follows env at o a b x y (an_integer i) (an_integer j) g h = compared_follows o (common i j) a b x y g h
  ordered_follows env at o a b x y (a_pointer t) (a_pointer u) g h =
      behind_follows p k (ts ++ us) (demand (same_type t u) 3 at met) (λ _. gives (complete env at t) (λ _. compared_pointers o a b)) (λ _. gives (complete env at t) (λ _. compared_pointers o (remade a x) (remade b y)))
      (λ _. behind_follows p k (ts ++ us) (complete env at t) _ _ (λ _. pointers_follow o a (remade a x) b (remade b y) (operand p k ts a x g) (operand p (k + length ts) us b y h)))
  ordered_follows env at o a b x y d e g h = tt

  -- ## Operands that are made alike

  abbrev pub AlikeRemade : Alike → Alike → Type 0
  AlikeRemade (alike_integers i) z = z ≡ alike_integers i
  AlikeRemade (alike_pointers g h) z = (g' : TypedExpression) × (h' : TypedExpression) × (z ≡ alike_pointers g' h') × First g g' × Second h h'
  AlikeRemade unlike z = z ≡ unlike

  if_alike : (b : Bool) (x y z w : Alike) → (b ≡ true → AlikeRemade x z) → AlikeRemade y w → AlikeRemade (if b then x else y) (if b then z else w)
  if_alike true x y z w h l = h refl
  if_alike false x y z w h l = l

  module _ (a b : TypedExpression) (x y : Expr) (g : SameFirst a x) (h : SameSecond b y) where
    as_they_are : AlikeRemade (alike_pointers a b) (alike_pointers (remade a x) (remade b y))
    as_they_are = (remade a x, remade b y, refl, operand p k ts a x g, operand p (k + length ts) us b y h)

    null_first : is_null a ≡ true → AlikeRemade (alike_pointers (null_of b.ctype) b) (alike_pointers (null_of b.ctype) (remade b y))
    null_first e = (null_of b.ctype, remade b y, refl, null_operand p k ts b.ctype a x e g, operand p (k + length ts) us b y h)

    null_second : is_null b ≡ true → AlikeRemade (alike_pointers a (null_of a.ctype)) (alike_pointers (remade a x) (null_of a.ctype))
    null_second e = (remade a x, null_of a.ctype, refl, operand p k ts a x g, null_operand p (k + length ts) us a.ctype b y e h)

    pointers_alike_remade : AlikeRemade (pointers_alike a b) (pointers_alike (remade a x) (remade b y))
    pointers_alike_remade =
        if_alike (same_type a.ctype b.ctype) (alike_pointers a b) _ (alike_pointers (remade a x) (remade b y)) _ (λ _. as_they_are)
        (if_alike (is_null a) (alike_pointers (null_of b.ctype) b) _ (alike_pointers (null_of b.ctype) (remade b y)) _ null_first
        (if_alike (is_null b) (alike_pointers a (null_of a.ctype)) unlike (alike_pointers (remade a x) (null_of a.ctype)) unlike null_second refl))

    alike_of_remade : (d e : Kind) → AlikeRemade (alike_of a b d e) (alike_of (remade a x) (remade b y) d e)
    alike_of_remade (a_pointer t) (a_pointer u) = pointers_alike_remade
    alike_of_remade (a_pointer t) (an_integer j) = if_alike (is_null b) (alike_pointers a (null_of a.ctype)) unlike (alike_pointers (remade a x) (null_of a.ctype)) unlike null_second refl
    alike_of_remade (an_integer i) (a_pointer u) = if_alike (is_null a) (alike_pointers (null_of b.ctype) b) unlike (alike_pointers (null_of b.ctype) (remade b y)) unlike null_first refl
    alike_of_remade d e = refl

    pub alike_remade : AlikeRemade (alike a b) (alike (remade a x) (remade b y))
    alike_remade = alike_of_remade (kind_of a.ctype) (kind_of b.ctype)

    equality_follows : (at : ℕ) (o : BinOp) (z w : Alike) → AlikeRemade z w → Goes (equality_of at o a b z) (equality_of at o (remade a x) (remade b y) w)
    equality_follows at o (alike_integers i) w s = subst (λ v. Goes (fine (compared_integers o i a b)) (equality_of at o (remade a x) (remade b y) v)) (sym s) (compared_follows o i a b x y g h)
    equality_follows at o (alike_pointers c d) w s = subst (λ v. Goes (fine (compared_pointers o c d)) (equality_of at o (remade a x) (remade b y) v)) (sym s.2) (pointers_follow o c s.0 d s.1 s.3 s.4)
    equality_follows at o unlike w s = tt

  -- ## All operators

  arithmetic_follows : (env : Env) (at : ℕ) (o : BinOp) (a b : TypedExpression) (x y : Expr) → SameFirst a x → SameSecond b y → Goes (arithmetic_of env at o a b) (arithmetic_of env at o (remade a x) (remade b y))
  arithmetic_follows env at op.Add a b x y g h = sum_follows env at a b x y g h
  arithmetic_follows env at op.Sub a b x y g h = minus_follows env at a b x y (kind_of a.ctype) (kind_of b.ctype) g h
  arithmetic_follows env at o a b x y g h = balanced_follows at _ a b x y (kind_of a.ctype) (kind_of b.ctype) g h

  operation_of_follows : (env : Env) (at : ℕ) (o : BinOp) (a b : TypedExpression) (x y : Expr) (d : OperatorKind) → SameFirst a x → SameSecond b y → Goes (operation_of env at o a b d) (operation_of env at o (remade a x) (remade b y) d)
  operation_of_follows env at o a b x y balanced g h = arithmetic_follows env at o a b x y g h
  operation_of_follows env at o a b x y shift g h = shift_follows at o a b x y (kind_of a.ctype) (kind_of b.ctype) g h
  operation_of_follows env at o a b x y ordering g h = ordered_follows env at o a b x y (kind_of a.ctype) (kind_of b.ctype) g h
  operation_of_follows env at o a b x y equality g h = equality_follows a b x y g h at o (alike a b) (alike (remade a x) (remade b y)) (alike_remade a b x y g h)

  pub infix_follows : (env : Env) (at : ℕ) (o : Infix) (a b : TypedExpression) (x y : Expr) → SameFirst a x → SameSecond b y → Goes (infix_rule env at o a b) (infix_rule env at o (remade a x) (remade b y))
  infix_follows env at and a b x y g h =
      demand_follows p k (ts ++ us) (both_scalars a b) 3 at _ _ (operated_follows int (typed.and int) (λ _ _. refl) (λ _ _. refl) (λ _ _. refl) a (remade a x) b (remade b y) _ _ (operand p k ts a x g) (operand p (k + length ts) us b y h) (two_const a b constant_and and_const) refl)
  infix_follows env at or a b x y g h =
      demand_follows p k (ts ++ us) (both_scalars a b) 3 at _ _ (operated_follows int (typed.or int) (λ _ _. refl) (λ _ _. refl) (λ _ _. refl) a (remade a x) b (remade b y) _ _ (operand p k ts a x g) (operand p (k + length ts) us b y h) (two_const a b constant_or or_const) refl)
  infix_follows env at (operator code) a b x y g h = operation_of_follows env at (operator_of_code code) a b x y (kind_of_operator (operator_of_code code)) g h

  -- ## Assignments

  pub fits_same : (t : CType) (d : Kind) (g : TypedExpression) (x : Expr) → fits_kind d t (remade g x) ≡ fits_kind d t g
  fits_same t (an_integer i) g x = refl
  fits_same t d g x = refl

  assignment_follows : (at : ℕ) (a b : TypedExpression) (x y : Expr) → SameFirst a x → SameSecond b y → Goes (assignment at a b) (assignment at (remade a x) (remade b y))
  assignment_follows at a b x y g h =
      let b2 : TypedExpression = assigned a.ctype (remade b y) in
      subst (λ z. Goes (assignment at a b) (demand z 3 at (typed_value a.ctype (typed.assign a.ctype (tree_of (remade a x)) (tree_of b2)) not_constant))) (sym (fits_same a.ctype (kind_of a.ctype) b y))
      (demand_follows p k (ts ++ us) (fits a.ctype b) 3 at _ _ (operated_follows a.ctype (typed.assign a.ctype) (λ _ _. refl) (λ _ _. refl) (λ _ _. refl) a (remade a x) (assigned a.ctype b) b2 not_constant not_constant (operand p k ts a x g) (assigned_operand p (k + length ts) us a.ctype b y h) (λ c. absurd c) refl))

  updated_follows : (o : BinOp) (old : Bool) (a b b' : TypedExpression) (x : Expr) → SameFirst a x → Second b b' → Goes (fine (updated o old a (tree_of b))) (fine (updated o old (remade a x) (tree_of b')))
  updated_follows o old a b b' x g n = operated_follows a.ctype (typed.update a.ctype o old) (λ _ _. refl) (λ _ _. refl) (λ _ _. refl) a (remade a x) b b' not_constant not_constant (operand p k ts a x g) n (λ c. absurd c) refl

  update_follows : (env : Env) (at : ℕ) (o : BinOp) (old : Bool) (a b : TypedExpression) (x y : Expr) (d e : Kind) → SameFirst a x → SameSecond b y → Goes (update_of env at o old a b d e) (update_of env at o old (remade a x) (remade b y) d e)
  update_follows env at o old a b x y (an_integer i) (an_integer j) g h =
      (let r : IntType = right_type (kind_of_operator o) i j in updated_follows o old a (converted_to r b) (converted_to r (remade b y)) x g (converted_operand p (k + length ts) us r b y h))
  update_follows env at o old a b x y (a_pointer t) (an_integer j) g h =
      behind_follows p k (ts ++ us) (demand (moves o) 3 at met) (λ _. gives (complete env at t) (λ _. updated o old a (tree_of b))) (λ _. gives (complete env at t) (λ _. updated o old (remade a x) (tree_of (remade b y))))
      (λ _. behind_follows p k (ts ++ us) (complete env at t) _ _ (λ _. updated_follows o old a b (remade b y) x g (operand p (k + length ts) us b y h)))
  update_follows env at o old a b x y d e g h = tt

  pub assignment_by_follows : (env : Env) (at code : ℕ) (a b : TypedExpression) (x y : Expr) → SameFirst a x → SameSecond b y → Goes (assignment_by env at code a b) (assignment_by env at code (remade a x) (remade b y))
  assignment_by_follows env at code a b x y g h =
      if_follows p k (ts ++ us) (nat_eq code ASSIGN) _ _ _ _ (assignment_follows at a b x y g h) (update_follows env at (operator_of_assignment code) false a b x y (kind_of a.ctype) (kind_of b.ctype) g h)

  -- ## Two parts

  pub both_follow : (vs : List CType) (r s r' s' : Checked TypedExpression) (f g : TypedExpression → TypedExpression → Checked TypedExpression) → Follows p k ts r r' → Follows p (k + length ts) us s s'
      → ((a b : TypedExpression) (x y : Expr) → SameFirst a x → SameSecond b y → Follows p k vs (f a b) (g (remade a x) (remade b y))) → Follows p k vs (both r s f) (both r' s' g)
  both_follow vs (fine a) (fine b) r' s' f g h l t =
      subst (λ z. Follows p k vs (f a b) (both z s' g)) (sym h.1) (subst (λ z. Follows p k vs (f a b) (both (fine (remade a h.0)) z g)) (sym l.1) (t a b h.0 l.0 h.2 l.2))
  both_follow vs r s r' s' f g h l t = tt

-- ## Steps

module _ (p : Program) (k : ℕ) (ts : List CType) where
  one_remade : (d : Kind) → (x : Expr) × (remade (one_for d) x ≡ one_for d) × IsRemade p (k + length ts) [] (one_for d) x
  one_remade (an_integer i) = (tree_of (one_for (an_integer i)), refl, record { types = refl; tree = refl; none = λ _. refl })
  one_remade d = (tree_of (one_for d), refl, record { types = refl; tree = refl; none = λ _. refl })

  pub step_follows : (env : Env) (at : ℕ) (o : BinOp) (old : Bool) (a : TypedExpression) (x : Expr) → IsRemade p k ts a x → Follows p k ts (step env at o old a) (step env at o old (remade a x))
  step_follows env at o old a x h =
      let d : Kind = kind_of a.ctype in
      let one = one_remade d in
      let e : Kind = kind_of (one_for d).ctype in
      subst (λ us. Follows p k us (step env at o old a) (step env at o old (remade a x))) (append-nil ts)
      (subst (λ z. Follows p k (ts ++ []) (update_of env at o old a (one_for d) d e) (update_of env at o old (remade a x) z d e)) one.1 (update_follows p k ts [] env at o old a (one_for d) x one.0 d e h one.2))

  pub stepped_follows : (env : Env) (at place : ℕ) (o : BinOp) (old : Bool) (r s : Checked TypedExpression) → Follows p k ts r s → Follows p k ts (on (place_at place r) (step env at o old)) (on (place_at place s) (step env at o old))
  stepped_follows env at place o old r s h = on_follows p k ts ts (place_at place r) (place_at place s) (step env at o old) (step env at o old) (place_at_follows p k ts place r s h) (λ g x l. step_follows env at o old g x l)

  pub after_follows : (env : Env) (at place : ℕ) (o : Postfix) (r s : Checked TypedExpression) → Follows p k ts r s → Follows p k ts (after_operand env at place o r) (after_operand env at place o s)
  after_follows env at place post_increment r s h = stepped_follows env at place op.Add true r s h
  after_follows env at place post_decrement r s h = stepped_follows env at place op.Sub true r s h

-- ## Three operands

module _ (p : Program) (k : ℕ) (zs ts us : List CType) where
  chosen_follows : (t t' : CType) (c c' a a' b b' : TypedExpression) → t' ≡ t → IsOperand p k zs c c' → IsOperand p (k + length zs) ts a a' → IsOperand p ((k + length zs) + length ts) us b b' → Follows p k (zs ++ (ts ++ us)) (fine (chosen t c a b)) (fine (chosen t' c' a' b'))
  chosen_follows t t' c c' a a' b b' q f g h =
      let whole : (x y : TypedExpression) → x.ctype ≡ y.ctype → x.constant ≡ y.constant → integer_constant x ≡ integer_constant y = λ x y e l. ap₂ (λ v w. integer_constant_if (is_integer v) w) e l in
      let z : Constant = constant_conditional (integer_constant c) (integer_constant a) (integer_constant b) in
      let z' : Constant = constant_conditional (integer_constant c') (integer_constant a') (integer_constant b') in
      let same : z' ≡ z = ap (λ w. constant_conditional w (integer_constant a') (integer_constant b')) (whole c' c f.ctype f.constant) ∙ ap₂ (constant_conditional (integer_constant c)) (whole a' a g.ctype g.constant) (whole b' b h.ctype h.constant) in
      let e : Expr = typed.conditional t (tree_of c) (tree_of a) (tree_of b) in
      let e' : Expr = typed.conditional t (tree_of c') (tree_of a') (tree_of b') in
      let first : expr p (k + length zs) true (tree_of a) ≡ expr p (k + length (kept p true (tree_of c))) true (tree_of a) = ap (λ vs. expr p (k + length vs) true (tree_of a)) (sym f.types) in
      let second : expr p ((k + length zs) + length ts) true (tree_of b) ≡ expr p ((k + length (kept p true (tree_of c))) + length (kept p true (tree_of a))) true (tree_of b) = ap₂ (λ vs ws. expr p ((k + length vs) + length ws) true (tree_of b)) (sym f.types) (sym g.types) in
      let tree : unsited e' ≡ expr p k true e = ap (λ w. typed.conditional t w (unsited (tree_of a')) (unsited (tree_of b'))) f.tree ∙ ap₂ (typed.conditional t (expr p k true (tree_of c))) (g.tree ∙ first) (h.tree ∙ second) in
      let types : kept p true e ≡ zs ++ (ts ++ us) = ap₂ (λ x y. x ++ y) f.types (ap₂ (λ x y. x ++ y) g.types h.types) in
      let none : IsConst z → zs ++ (ts ++ us) ≡ [] = λ w. (let v = conditional_const (integer_constant c) (integer_constant a) (integer_constant b) w in none_both zs (ts ++ us) (f.none (integer_const (is_integer c.ctype) c.constant v.0)) (none_both ts us (g.none (integer_const (is_integer a.ctype) a.constant v.1)) (h.none (integer_const (is_integer b.ctype) b.constant v.2)))) in
      subst (λ w. Follows p k (zs ++ (ts ++ us)) (fine (chosen t c a b)) (fine (chosen w c' a' b'))) (sym q) (value_remade p k (zs ++ (ts ++ us)) t e e' z z' types tree none same)

  arms_follow : (at : ℕ) (c a b : TypedExpression) (w x y : Expr) (z v : Alike) → IsRemade p k zs c w → IsRemade p (k + length zs) ts a x → IsRemade p ((k + length zs) + length ts) us b y → AlikeRemade p (k + length zs) ts us z v
      → Follows p k (zs ++ (ts ++ us)) (arms_of at c a b z) (arms_of at (remade c w) (remade a x) (remade b y) v)
  arms_follow at c a b w x y (alike_integers i) v f g h s =
      subst (λ n. Follows p k (zs ++ (ts ++ us)) (fine (chosen (integer i) c (converted_to i a) (converted_to i b))) (arms_of at (remade c w) (remade a x) (remade b y) n)) (sym s)
      (chosen_follows (integer i) (integer i) c (remade c w) (converted_to i a) (converted_to i (remade a x)) (converted_to i b) (converted_to i (remade b y)) refl (operand p k zs c w f) (converted_operand p (k + length zs) ts i a x g) (converted_operand p ((k + length zs) + length ts) us i b y h))
  arms_follow at c a b w x y (alike_pointers d e) v f g h s =
      subst (λ n. Follows p k (zs ++ (ts ++ us)) (fine (chosen d.ctype c d e)) (arms_of at (remade c w) (remade a x) (remade b y) n)) (sym s.2)
      (chosen_follows d.ctype s.0.ctype c (remade c w) d s.0 e s.1 s.3.ctype (operand p k zs c w f) s.3 s.4)
  arms_follow at c a b w x y unlike v f g h s =
      subst (λ n. Follows p k (zs ++ (ts ++ us)) (demand (is_void a.ctype && is_void b.ctype) 3 at (chosen void c a b)) (arms_of at (remade c w) (remade a x) (remade b y) n)) (sym s)
      (demand_follows p k (zs ++ (ts ++ us)) (is_void a.ctype && is_void b.ctype) 3 at (chosen void c a b) (chosen void (remade c w) (remade a x) (remade b y))
      (chosen_follows void void c (remade c w) a (remade a x) b (remade b y) refl (operand p k zs c w f) (operand p (k + length zs) ts a x g) (operand p ((k + length zs) + length ts) us b y h)))

  pub choice_follows : (at : ℕ) (c a b : TypedExpression) (w x y : Expr) → IsRemade p k zs c w → IsRemade p (k + length zs) ts a x → IsRemade p ((k + length zs) + length ts) us b y → Follows p k (zs ++ (ts ++ us)) (choice at c a b) (choice at (remade c w) (remade a x) (remade b y))
  choice_follows at c a b w x y f g h =
      behind_follows p k (zs ++ (ts ++ us)) (demand (is_scalar c.ctype) 3 at met) (λ _. arms_of at c a b (alike a b)) (λ _. arms_of at (remade c w) (remade a x) (remade b y) (alike (remade a x) (remade b y)))
      (λ _. arms_follow at c a b w x y (alike a b) (alike (remade a x) (remade b y)) f g h (alike_remade p (k + length zs) ts us a b x y g h))

  -- three parts
  pub three_follow : (vs : List CType) (r s t r' s' t' : Checked TypedExpression) (f g : TypedExpression → TypedExpression → TypedExpression → Checked TypedExpression) → Follows p k zs r r' → Follows p (k + length zs) ts s s' → Follows p ((k + length zs) + length ts) us t t'
      → ((c a b : TypedExpression) (w x y : Expr) → IsRemade p k zs c w → IsRemade p (k + length zs) ts a x → IsRemade p ((k + length zs) + length ts) us b y → Follows p k vs (f c a b) (g (remade c w) (remade a x) (remade b y)))
      → Follows p k vs (all_three r s t f) (all_three r' s' t' g)
  three_follow vs (fine c) (fine a) (fine b) r' s' t' f g h l m n =
      subst (λ z. Follows p k vs (f c a b) (all_three z s' t' g)) (sym h.1) (subst (λ z. Follows p k vs (f c a b) (all_three (fine (remade c h.0)) z t' g)) (sym l.1)
      (subst (λ z. Follows p k vs (f c a b) (all_three (fine (remade c h.0)) (fine (remade a l.0)) z g)) (sym m.1) (n c a b h.0 l.0 m.0 h.2 l.2 m.2)))
  three_follow vs r s t r' s' t' f g h l m n = tt
