-- What each form of an expression gives, by its parts in Rust.
use Rattle.std.proofs.Common.{◌≡◌, inl, inr, ℕ, ℤ, ◌+◌, Bool, true, false, Option, Result, List, Vec, Global, refl, ap, sym, subst, ◌∙◌}
use Rattle.std.specs.Prelude.{Box, if◌then◌else◌, nat_eq}
use Rattle.c_lexer.specs.declared.punctuator.TheConstants.{AMPERSAND}
use Rattle.c_syntax.specs.declared.tree.Declarator.{Declarator as DeclaratorTree}
use Rattle.c_syntax.specs.declared.tree.Param.{Param as ParamTree}
use Rattle.c_syntax.specs.declared.tree.DeclaratorKind.TheVariants as dk
use Rattle.c_tree.specs.Tree.{CType}
use Rattle.c_check_types.specs.CheckError.{CheckError}
use Rattle.c_check_types.specs.Agreement.{AgreesWith, Names}
use Rattle.c_check_types.specs.TypedExpression.{TypedExpression as TypedTree}
use Rattle.c_check_types.specs.TypedExpressionView.{typed_expression_of}
use Rattle.c_check_types.proofs.Parts.{names_on, names_second}
use Rattle.c_rules.specs.TypedExpression.{TypedExpression}
use Rattle.c_rules.specs.Declarators.{pointer_to, array_of, function_of}
use Rattle.c_syntax.specs.declared.tree.Expr.{Expr as ExprTree}
use Rattle.c_syntax.specs.declared.tree.Ident.{Ident as Named}
use Rattle.c_syntax.specs.declared.tree.TypeName.{TypeName as TypeTree, out-TypeName}
use Rattle.c_syntax.specs.declared.tree.ExprKind.{ExprKind, Member', Arrow', PostInc', PostDec', PreInc', PreDec', Unary'}
use Rattle.c_syntax.specs.declared.tree.ExprKind.TheVariants as k
use Rattle.c_syntax.specs.Tree.{Expr, post_increment, post_decrement, pre_increment, pre_decrement, sizeof, dot, arrow}
use Rattle.c_syntax.specs.View.{expr_of, expr_at, type_name_of, ident_of, declarator_of, declarator_at}
use Rattle.c_syntax.specs.Writes.{exprs_of, params_of, declarator_behind, expr_behind}
use Rattle.c_syntax.proofs.NodeRows.{type_name_is, comma_is, call_is, pointer_is, array_is, function_is}
use Rattle.c_rules.specs.Checked.{Checked, Fault, fine, faulty, faults, on, both, all_three, gives}
use Rattle.c_rules.specs.Conversions.{valued}
use Rattle.c_rules.specs.Counts.{place_of, calls, after, after_designator}
use Rattle.c_rules.specs.Scopes.{Env, Before, nothing_before, in_context, inside, sized}
use Rattle.c_rules.specs.Declarators.{is_void_pointer, place_of_type}
use Rattle.c_rules.specs.PrimaryExpressions.{typed_int, integer_expression, named_expression, string_expression}
use Rattle.c_rules.specs.PostfixExpressions.{site_of, called}
use Rattle.c_rules.specs.UnaryExpressions.{size_of_type, indirection, address, unary_of_value, null_cast, cast_of}
use Rattle.c_rules.specs.BinaryExpressions.{sum, choice}
use Rattle.c_rules.specs.Assignments.{comma_of}
use Rattle.c_rules.specs.Expressions.{tree, trees, value, value_at, declared, size_in, parameters, type_named, access, after_operand, before_operand, unary_rule, cast_rule, callee}
use Rattle.c_check_expressions.specs.Parts.{first_rule, one_rule, two_rule}
use Rattle.c_check_expressions.proofs.NodeLemmas.{of_one_operand, of_two_operands, place_is}

pub tree-Name : (env : Env) (b : Before) (e : ExprTree) (n : List ℕ) → e.kind ≡ k.Name n → tree env b (expr_of e) ≡ named_expression env e.at n
tree-Name env b e n is = ap (λ kind. tree env b (expr_at e.at kind)) is

pub tree-Int : (env : Env) (b : Before) (e : ExprTree) (v : ℕ) (u : Bool) → e.kind ≡ k.Int v u → tree env b (expr_of e) ≡ fine (integer_expression v u)
tree-Int env b e v u is = ap (λ kind. tree env b (expr_at e.at kind)) is

pub tree-Char : (env : Env) (b : Before) (e : ExprTree) (c : ℤ) → e.kind ≡ k.Char c → tree env b (expr_of e) ≡ fine (typed_int c)
tree-Char env b e c is = ap (λ kind. tree env b (expr_at e.at kind)) is

pub tree-SizeofExpr : (env : Env) (b : Before) (e : ExprTree) (a : Box ExprTree Global) (x : ExprTree) → e.kind ≡ k.SizeofExpr a → x ≡ a.value → tree env b (expr_of e) ≡ before_operand env e.at (place_of (expr_of x)) sizeof (tree env b (expr_of x)) (tree (in_context env sized) nothing_before (expr_of x))
tree-SizeofExpr env b e a x is p = ap (λ kind. tree env b (expr_at e.at kind)) is ∙ (λ i. before_operand env e.at (place_of (expr_of (sym p i))) sizeof (tree env b (expr_of (sym p i))) (tree (in_context env sized) nothing_before (expr_of (sym p i))))

pub tree-Cast : (env : Env) (b : Before) (e : ExprTree) (t : TypeTree) (a : Box ExprTree Global) (x : ExprTree) → e.kind ≡ k.Cast t a → x ≡ a.value → tree env b (expr_of e) ≡ cast_rule (is_void_pointer (type_name_of t)) e.at (type_named env (type_name_of t)) (value env b (expr_of x))
tree-Cast env b e t a x is p = ap (λ kind. tree env b (expr_at e.at kind)) is ∙ (λ i. cast_rule (is_void_pointer (type_name_of t)) e.at (type_named env (type_name_of t)) (value env b (expr_of (sym p i))))

-- ## The forms with one operand that is evaluated

-- a rule that fails where its operand does
strict : (rule : Checked TypedExpression → Checked TypedExpression) → ((f : Fault) (fs : List Fault) → rule (faulty f fs) ≡ faulty f fs) → (r : Checked TypedExpression) → rule r ≡ on r (λ g. rule (fine g))
strict rule h (fine g) = refl
strict rule h (faulty f fs) = h f fs

-- a rule for a unary operator, where its operand is fine
unary_chosen : (env : Env) (at place op : ℕ) (chosen : Bool) (r : Checked TypedExpression) → (if chosen then on r (address at place) else on (value_at env place r) (unary_of_value at op)) ≡ on r (λ g. if chosen then address at place g else on (valued env place g) (unary_of_value at op))
unary_chosen env at place op true (fine g) = refl
unary_chosen env at place op true (faulty f fs) = refl
unary_chosen env at place op false (fine g) = refl
unary_chosen env at place op false (faulty f fs) = refl

unary_is : (env : Env) (at place op : ℕ) (r : Checked TypedExpression) → unary_rule env at place op r ≡ on r (λ g. unary_rule env at place op (fine g))
unary_is env at place op r = unary_chosen env at place op (nat_eq op AMPERSAND) r

abbrev one_by : Env → Before → Box ExprTree Global → Expr → Checked TypedExpression
one_by env b a form = on (tree env b (expr_of a.value)) (one_rule env form (place_of (expr_of a.value)))

one_from : (env : Env) (b : Before) (e : ExprTree) (a : Box ExprTree Global) (kind : ExprKind) → e.kind ≡ kind → tree env b (expr_at e.at kind) ≡ one_by env b a (expr_at e.at kind) → tree env b (expr_of e) ≡ one_by env b a (expr_of e)
one_from env b e a kind is h = ap (λ x. tree env b (expr_at e.at x)) is ∙ h ∙ ap (λ x. one_by env b a (expr_at e.at x)) (sym is)

tree_by_one : (env : Env) (b : Before) (e : ExprTree) (a : Box ExprTree Global) → of_one_operand e a → tree env b (expr_of e) ≡ one_by env b a (expr_of e)
tree_by_one env b e a (inl h) =
    one_from env b e a (k.Member a h.0) h.1 (strict (access env e.at (place_of (expr_of a.value)) dot (ident_of h.0).name) (λ f fs. refl) (tree env b (expr_of a.value)))
tree_by_one env b e a (inr (inl h)) =
    one_from env b e a (k.Arrow a h.0) h.1 (strict (access env e.at (place_of (expr_of a.value)) arrow (ident_of h.0).name) (λ f fs. refl) (tree env b (expr_of a.value)))
tree_by_one env b e a (inr (inr (inl is))) =
    one_from env b e a (k.PostInc a) is (strict (after_operand env e.at (place_of (expr_of a.value)) post_increment) (λ f fs. refl) (tree env b (expr_of a.value)))
tree_by_one env b e a (inr (inr (inr (inl is)))) =
    one_from env b e a (k.PostDec a) is (strict (after_operand env e.at (place_of (expr_of a.value)) post_decrement) (λ f fs. refl) (tree env b (expr_of a.value)))
tree_by_one env b e a (inr (inr (inr (inr (inl is))))) =
    one_from env b e a (k.PreInc a) is (strict (λ r. before_operand env e.at (place_of (expr_of a.value)) pre_increment r r) (λ f fs. refl) (tree env b (expr_of a.value)))
tree_by_one env b e a (inr (inr (inr (inr (inr (inl is)))))) =
    one_from env b e a (k.PreDec a) is (strict (λ r. before_operand env e.at (place_of (expr_of a.value)) pre_decrement r r) (λ f fs. refl) (tree env b (expr_of a.value)))
tree_by_one env b e a (inr (inr (inr (inr (inr (inr h)))))) =
    one_from env b e a (k.Unary h.0 a) h.1 (unary_is env e.at (place_of (expr_of a.value)) h.0 (tree env b (expr_of a.value)))

pub tree_of_one : (env : Env) (b : Before) (e : ExprTree) (a : Box ExprTree Global) (x : ExprTree) → of_one_operand e a → x ≡ a.value → tree env b (expr_of e) ≡ on (tree env b (expr_of x)) (one_rule env (expr_of e) (place_of (expr_of x)))
tree_of_one env b e a x form p =
    tree_by_one env b e a form ∙ (λ i. on (tree env b (expr_of (sym p i))) (one_rule env (expr_of e) (place_of (expr_of (sym p i)))))

pub one_as : {kind : ExprKind} (result : Result TypedTree CheckError) (env : Env) (e : ExprTree) (place : ℕ) (g : TypedExpression) → e.kind ≡ kind → AgreesWith typed_expression_of result (one_rule env (expr_at e.at kind) place g) → AgreesWith typed_expression_of result (one_rule env (expr_of e) place g)
one_as result env e place g is h = subst (λ x. AgreesWith typed_expression_of result (one_rule env (expr_at e.at x) place g)) (sym is) h

-- an expression of another form gives it as it is
pub one_of_other : (env : Env) (at place : ℕ) (g : TypedExpression) (kind : ExprKind)
    → ((a : Box ExprTree Global) (x : Named) → kind ≡ k.Member a x → ⊥)
    → ((a : Box ExprTree Global) (x : Named) → kind ≡ k.Arrow a x → ⊥)
    → ((a : Box ExprTree Global) → kind ≡ k.PostInc a → ⊥)
    → ((a : Box ExprTree Global) → kind ≡ k.PostDec a → ⊥)
    → ((a : Box ExprTree Global) → kind ≡ k.PreInc a → ⊥)
    → ((a : Box ExprTree Global) → kind ≡ k.PreDec a → ⊥)
    → ((op : ℕ) (a : Box ExprTree Global) → kind ≡ k.Unary op a → ⊥)
    → one_rule env (expr_at at kind) place g ≡ fine g
one_of_other env at place g (Member' p a1 k1 x) dots arrows post_incs post_decs pre_incs pre_decs unaries = absurd (dots (record { ptr = p.ptr; alloc = p.alloc; value = record { at = a1; kind = k1 } }) x refl)
one_of_other env at place g (Arrow' p a1 k1 x) dots arrows post_incs post_decs pre_incs pre_decs unaries = absurd (arrows (record { ptr = p.ptr; alloc = p.alloc; value = record { at = a1; kind = k1 } }) x refl)
one_of_other env at place g (PostInc' p a1 k1) dots arrows post_incs post_decs pre_incs pre_decs unaries = absurd (post_incs (record { ptr = p.ptr; alloc = p.alloc; value = record { at = a1; kind = k1 } }) refl)
one_of_other env at place g (PostDec' p a1 k1) dots arrows post_incs post_decs pre_incs pre_decs unaries = absurd (post_decs (record { ptr = p.ptr; alloc = p.alloc; value = record { at = a1; kind = k1 } }) refl)
one_of_other env at place g (PreInc' p a1 k1) dots arrows post_incs post_decs pre_incs pre_decs unaries = absurd (pre_incs (record { ptr = p.ptr; alloc = p.alloc; value = record { at = a1; kind = k1 } }) refl)
one_of_other env at place g (PreDec' p a1 k1) dots arrows post_incs post_decs pre_incs pre_decs unaries = absurd (pre_decs (record { ptr = p.ptr; alloc = p.alloc; value = record { at = a1; kind = k1 } }) refl)
one_of_other env at place g (Unary' op p a1 k1) dots arrows post_incs post_decs pre_incs pre_decs unaries = absurd (unaries op (record { ptr = p.ptr; alloc = p.alloc; value = record { at = a1; kind = k1 } }) refl)
one_of_other env at place g kind dots arrows post_incs post_decs pre_incs pre_decs unaries = refl

-- ## The forms with two operands

on_both : {A B C D : Type 0} (p : Checked A) (q : Checked B) (node : A → B → Checked C) (next : C → Checked D) → on (both p q node) next ≡ both p q (λ a b. on (node a b) next)
on_both (fine a) (fine b) node next = refl
on_both (fine a) (faulty g gs) node next = refl
on_both (faulty f fs) q node next = refl

abbrev two_by : Env → Before → Box ExprTree Global → Box ExprTree Global → Expr → Checked TypedExpression
two_by env b l r form = both (on (tree env b (expr_of l.value)) (first_rule env form (place_of (expr_of l.value)))) (value env (after b (expr_of l.value)) (expr_of r.value)) (two_rule env form)

two_from : (env : Env) (b : Before) (e : ExprTree) (l r : Box ExprTree Global) (kind : ExprKind) → e.kind ≡ kind → tree env b (expr_at e.at kind) ≡ two_by env b l r (expr_at e.at kind) → tree env b (expr_of e) ≡ two_by env b l r (expr_of e)
two_from env b e l r kind is h = ap (λ x. tree env b (expr_at e.at x)) is ∙ h ∙ ap (λ x. two_by env b l r (expr_at e.at x)) (sym is)

tree_by_two : (env : Env) (b : Before) (e : ExprTree) (l r : Box ExprTree Global) → of_two_operands e l r → tree env b (expr_of e) ≡ two_by env b l r (expr_of e)
tree_by_two env b e l r (inl is) =
    two_from env b e l r (k.Index l r) is (on_both (value env b (expr_of l.value)) (value env (after b (expr_of l.value)) (expr_of r.value)) (sum env e.at) (indirection e.at))
tree_by_two env b e l r (inr (inl is)) = two_from env b e l r (k.And l r) is refl
tree_by_two env b e l r (inr (inr (inl is))) = two_from env b e l r (k.Or l r) is refl
tree_by_two env b e l r (inr (inr (inr (inl h)))) = two_from env b e l r (k.Binary h.0 l r) h.1 refl
tree_by_two env b e l r (inr (inr (inr (inr h)))) = two_from env b e l r (k.Assign h.0 l r) h.1 refl

pub tree_of_two : (env : Env) (b : Before) (e : ExprTree) (l r : Box ExprTree Global) (x y : ExprTree) → of_two_operands e l r → x ≡ l.value → y ≡ r.value → tree env b (expr_of e) ≡ both (on (tree env b (expr_of x)) (first_rule env (expr_of e) (place_of (expr_of x)))) (value env (after b (expr_of x)) (expr_of y)) (two_rule env (expr_of e))
tree_of_two env b e l r x y form p q =
    tree_by_two env b e l r form
    ∙ (λ i. both (on (tree env b (expr_of (sym p i))) (first_rule env (expr_of e) (place_of (expr_of (sym p i))))) (value env (after b (expr_of (sym p i))) (expr_of (sym q i))) (two_rule env (expr_of e)))

pub first_as : {kind : ExprKind} (result : Result TypedTree CheckError) (env : Env) (e : ExprTree) (place : ℕ) (g : TypedExpression) → e.kind ≡ kind → AgreesWith typed_expression_of result (first_rule env (expr_at e.at kind) place g) → AgreesWith typed_expression_of result (first_rule env (expr_of e) place g)
first_as result env e place g is h = subst (λ x. AgreesWith typed_expression_of result (first_rule env (expr_at e.at x) place g)) (sym is) h

pub two_as : {kind : ExprKind} (result : Result TypedTree CheckError) (env : Env) (e : ExprTree) (a b : TypedExpression) → e.kind ≡ kind → AgreesWith typed_expression_of result (two_rule env (expr_at e.at kind) a b) → AgreesWith typed_expression_of result (two_rule env (expr_of e) a b)
two_as result env e a b is h = subst (λ x. AgreesWith typed_expression_of result (two_rule env (expr_at e.at x) a b)) (sym is) h

-- ## Other forms

pub tree-Cond : (env : Env) (b : Before) (e : ExprTree) (c : Box ExprTree Global) (l : Box ExprTree Global) (r : Box ExprTree Global) (x : ExprTree) (y : ExprTree) (z : ExprTree) → e.kind ≡ k.Cond c l r → x ≡ c.value → y ≡ l.value → z ≡ r.value → tree env b (expr_of e) ≡ all_three (value env b (expr_of x)) (value env (after b (expr_of x)) (expr_of y)) (value env (after (after b (expr_of x)) (expr_of y)) (expr_of z)) (choice e.at)
tree-Cond env b e c l r x y z is p q s = ap (λ kind. tree env b (expr_at e.at kind)) is ∙ (λ i. all_three (value env b (expr_of (sym p i))) (value env (after b (expr_of (sym p i))) (expr_of (sym q i))) (value env (after (after b (expr_of (sym p i))) (expr_of (sym q i))) (expr_of (sym s i))) (choice e.at))

pub tree-SizeofType : (env : Env) (b : Before) (e : ExprTree) (t : TypeTree) → e.kind ≡ k.SizeofType t → tree env b (expr_of e) ≡ on (type_named env (type_name_of t)) (size_of_type env e.at (place_of_type (type_name_of t)))
tree-SizeofType env b e t is = ap (λ kind. tree env b (expr_at e.at kind)) is

pub tree-Str : (env : Env) (b : Before) (e : ExprTree) (w : List ℕ) → e.kind ≡ k.Str w → tree env b (expr_of e) ≡ string_expression env b e.at w
tree-Str env b e w is = ap (λ kind. tree env b (expr_at e.at kind)) is

pub tree-Comma : (env : Env) (b : Before) (e : ExprTree) (v : Vec ExprTree Global) (es : List ExprTree) → e.kind ≡ k.Comma v → es ≡ v.items → tree env b (expr_of e) ≡ gives (trees env b (exprs_of es)) comma_of
tree-Comma env b e v es is p = ap (λ kind. tree env b (expr_at e.at kind)) is ∙ (ap (tree env b) (comma_is e.at v) ∙ (λ i. gives (trees env b (exprs_of (sym p i))) comma_of))

pub tree-Call : (env : Env) (b : Before) (e : ExprTree) (d : Box ExprTree Global) (v : Vec ExprTree Global) (x : ExprTree) (es : List ExprTree) → e.kind ≡ k.Call d v → x ≡ d.value → es ≡ v.items → tree env b (expr_of e) ≡ all_three (callee env e.at (expr_of x) (value env b (expr_of x))) (site_of env (b.sites + calls (expr_of x)) e.at) (trees env (after_designator b (expr_of x)) (exprs_of es)) (called e.at)
tree-Call env b e d v x es is p q = ap (λ kind. tree env b (expr_at e.at kind)) is ∙ (ap (tree env b) (call_is e.at d v) ∙ (λ i. all_three (callee env e.at (expr_of (sym p i)) (value env b (expr_of (sym p i)))) (site_of env (b.sites + calls (expr_of (sym p i))) e.at) (trees env (after_designator b (expr_of (sym p i))) (exprs_of (sym q i))) (called e.at)))

-- ## Declarators

pub declared-Name : (env : Env) (d : DeclaratorTree) (t : CType) (x : Named) → d.kind ≡ dk.Name x → declared env (declarator_of d) t ≡ fine t
declared-Name env d t x is = ap (λ kind. declared env (declarator_at d.at kind) t) is

pub declared-Pointer : (env : Env) (d : DeclaratorTree) (t : CType) (i : Option (Box DeclaratorTree Global)) → d.kind ≡ dk.Pointer i → declared env (declarator_of d) t ≡ on (pointer_to d.at t) (λ u. declared env (declarator_behind i) u)
declared-Pointer env d t i is = ap (λ kind. declared env (declarator_at d.at kind) t) is ∙ ap (λ x. declared env x t) (pointer_is d.at i)

pub declared-Array : (env : Env) (d : DeclaratorTree) (t : CType) (i : Option (Box DeclaratorTree Global)) (size : Option (Box ExprTree Global)) → d.kind ≡ dk.Array i size → declared env (declarator_of d) t ≡ on (on (size_in env (expr_behind size)) (array_of env d.at t)) (λ u. declared env (declarator_behind i) u)
declared-Array env d t i size is = ap (λ kind. declared env (declarator_at d.at kind) t) is ∙ ap (λ x. declared env x t) (array_is d.at i size)

pub declared-Function : (env : Env) (d : DeclaratorTree) (t : CType) (i : Option (Box DeclaratorTree Global)) (v : Vec ParamTree Global) (ps : List ParamTree) → d.kind ≡ dk.Function i v → ps ≡ v.items → declared env (declarator_of d) t ≡ on (on (parameters (inside env) 0 (params_of ps)) (function_of d.at t)) (λ u. declared env (declarator_behind i) u)
declared-Function env d t i v ps is p =
    ap (λ kind. declared env (declarator_at d.at kind) t) is
    ∙ (ap (λ x. declared env x t) (function_is d.at i v) ∙ (λ j. on (on (parameters (inside env) 0 (params_of (sym p j))) (function_of d.at t)) (λ u. declared env (declarator_behind i) u)))

-- ## Places, and casts

-- the place of an expression in a box
pub box_place : (a : Box ExprTree Global) (x y : ExprTree) → x ≡ a.value → y ≡ a.value → y.at ≡ place_of (expr_of x)
box_place a x y p q = ap (λ (z : ExprTree). z.at) (q ∙ sym p) ∙ sym (place_is x.at x.kind)

-- an error of the operand of a cast is one of the cast
pub operand_fails : (e : CheckError) (void_pointer : Bool) (at : ℕ) (t : Checked CType) (r : Checked TypedExpression) → Names e (faults r) → Names e (faults (cast_rule void_pointer at t r))
operand_fails e true at t r h = names_on e r (null_cast at) h
operand_fails e false at t r h = names_second e t r (cast_of at) h

pub type_place : (n : TypeTree) → place_of_type (type_name_of n) ≡ (out-TypeName n).at
type_place n = ap place_of_type (type_name_is n)
