-- Operands that have another tree: conversions keep that they are the same but for it.
use Rattle.std.proofs.Common.{◌≡◌, ℕ, Bool, true, false, if◌then◌else◌, List, [], refl, ap, sym, subst, ◌∙◌}
use Rattle.c_tree.specs.declared.value.IntType.{IntType}
use Rattle.c_tree.specs.Tree.{CType, integer, pointer, array, struct, function, Expr, load, decay, conversion, dereference, Program}
use Rattle.c_tree.specs.Layout.{cells}
use Rattle.c_rules.specs.Checked.{Checked, fine, faulty, demand, on}
use Rattle.c_rules.specs.Scopes.{Env, layout_of}
use Rattle.c_rules.specs.TypedExpression.{Form, a_value, behind, Constant, not_constant, TypedExpression, typed_value, tree_of_form, tree_of, is_null}
use Rattle.c_rules.specs.Constants.{constant_converted, constant_decayed}
use Rattle.c_rules.specs.Conversions.{Kind, an_integer, a_pointer, neither, kind_of, few_parts, loaded, valued_as, valued, cast_to, has_integer, converted_to, null_of, assigned_as, assigned}
use Rattle.null_calls_laws.specs.InstrumentedPrograms.{expr, kept}
use Rattle.null_calls_laws.specs.WithoutSites.{unsited}
use Rattle.c_rules_laws.specs.ConstantForm.{IsConst}
use Rattle.null_calls_laws.specs.Remade.{inner_of, with_inner, remade, IsRemade, Follows, IsOperand}
use Rattle.c_rules_laws.proofs.ConstantForms.{decayed_const, zero_const}
pub use Rattle.c_rules_laws.proofs.ConstantForms.{converted_const}

module _ (p : Program) where
  -- ## Trees

  form_types : (t : CType) (f : Form) → kept p true (tree_of_form t f) ≡ kept p true (inner_of f)
  form_types t (a_value e) = refl
  form_types t f = refl

  form_tree : (t : CType) (k : ℕ) (f : Form) (x : Expr) → unsited x ≡ expr p k true (inner_of f) → unsited (tree_of_form t (with_inner f x)) ≡ expr p k true (tree_of_form t f)
  form_tree t k (behind e) x h = ap (dereference t) h
  form_tree t k f x h = h

  pub operand : (k : ℕ) (ts : List CType) (g : TypedExpression) (x : Expr) → IsRemade p k ts g x → IsOperand p k ts g (remade g x)
  operand k ts g x h = record { types = form_types g.ctype g.form ∙ h.types; tree = form_tree g.ctype k g.form x h.tree; none = h.none; constant = refl; ctype = refl }

  -- a value with such a tree
  pub value_remade : (k : ℕ) (ts : List CType) (t : CType) (e e' : Expr) (c c' : Constant) → kept p true e ≡ ts → unsited e' ≡ expr p k true e → (IsConst c → ts ≡ []) → c' ≡ c → Follows p k ts (fine (typed_value t e c)) (fine (typed_value t e' c'))
  value_remade k ts t e e' c c' h l n q = (e', ap (λ c. fine (typed_value t e' c)) q, record { types = h; tree = l; none = n })

  pub same_remade : (k : ℕ) (ts : List CType) (g : TypedExpression) (x : Expr) → IsRemade p k ts g x → Follows p k ts (fine g) (fine (remade g x))
  same_remade k ts g x h = (x, refl, h)

  -- ## Combinators

  pub demand_follows : (k : ℕ) (ts : List CType) (t : Bool) (code at : ℕ) (g h : TypedExpression) → Follows p k ts (fine g) (fine h) → Follows p k ts (demand t code at g) (demand t code at h)
  demand_follows k ts true code at g h f = f
  demand_follows k ts false code at g h f = tt

  pub behind_follows : {A : Type 0} (k : ℕ) (ts : List CType) (r : Checked A) (f g : A → Checked TypedExpression) → ((a : A) → Follows p k ts (f a) (g a)) → Follows p k ts (on r f) (on r g)
  behind_follows k ts (fine a) f g h = h a
  behind_follows k ts (faulty e es) f g h = tt

  pub on_follows : (k : ℕ) (ts us : List CType) (r s : Checked TypedExpression) (f g : TypedExpression → Checked TypedExpression) → Follows p k ts r s → ((a : TypedExpression) (x : Expr) → IsRemade p k ts a x → Follows p k us (f a) (g (remade a x))) → Follows p k us (on r f) (on s g)
  on_follows k ts us (fine a) s f g h l = subst (λ z. Follows p k us (f a) (on z g)) (sym h.1) (l a h.0 h.2)
  on_follows k ts us (faulty e es) s f g h l = tt

  pub if_follows : (k : ℕ) (ts : List CType) (t : Bool) (a b c d : Checked TypedExpression) → Follows p k ts a c → Follows p k ts b d → Follows p k ts (if t then a else b) (if t then c else d)
  if_follows k ts true a b c d h l = h
  if_follows k ts false a b c d h l = l

  -- ## Values

  loaded_follows : (k : ℕ) (ts : List CType) (g : TypedExpression) (x : Expr) (f : Form) → g.form ≡ f → IsRemade p k ts g x → Follows p k ts (fine (loaded g f)) (fine (loaded (remade g x) (with_inner f x)))
  loaded_follows k ts g x (a_value e) q h = same_remade k ts g x h
  loaded_follows k ts g x f q h = (let o = operand k ts g x h in value_remade k ts g.ctype (load g.ctype (tree_of g)) (load g.ctype (tree_of (remade g x))) not_constant not_constant o.types (ap (load g.ctype) o.tree) (λ c. absurd c) refl)

  valued_as_follows : (env : Env) (at k : ℕ) (ts : List CType) (g : TypedExpression) (x : Expr) (t : CType) → IsRemade p k ts g x → Follows p k ts (valued_as env at g t) (valued_as env at (remade g x) t)
  valued_as_follows env at k ts g x (array t n) h =
      (let o = operand k ts g x h in value_remade k ts (pointer t) (decay (pointer t) (tree_of g)) (decay (pointer t) (tree_of (remade g x))) (constant_decayed (cells (layout_of env) t) g.constant) (constant_decayed (cells (layout_of env) t) g.constant) o.types (ap (decay (pointer t)) o.tree) (λ c. h.none (decayed_const (cells (layout_of env) t) g.constant c)) refl)
  valued_as_follows env at k ts g x (struct s) h = tt
  valued_as_follows env at k ts g x (function t us) h =
      (let o = operand k ts g x h in demand_follows k ts (few_parts (pointer g.ctype)) 13 at (typed_value (pointer g.ctype) (decay (pointer g.ctype) (tree_of g)) g.constant) (typed_value (pointer g.ctype) (decay (pointer g.ctype) (tree_of (remade g x))) g.constant)
      (value_remade k ts (pointer g.ctype) (decay (pointer g.ctype) (tree_of g)) (decay (pointer g.ctype) (tree_of (remade g x))) g.constant g.constant o.types (ap (decay (pointer g.ctype)) o.tree) h.none refl))
  valued_as_follows env at k ts g x t h = loaded_follows k ts g x g.form refl h

  pub valued_follows : (env : Env) (at k : ℕ) (ts : List CType) (g : TypedExpression) (x : Expr) → IsRemade p k ts g x → Follows p k ts (valued env at g) (valued env at (remade g x))
  valued_follows env at k ts g x h = valued_as_follows env at k ts g x g.ctype h

  -- ## Conversions

  pub cast_operand : (k : ℕ) (ts : List CType) (i : IntType) (g h : TypedExpression) → IsOperand p k ts g h → IsOperand p k ts (cast_to i g) (cast_to i h)
  cast_operand k ts i g h o = record { types = o.types; tree = ap (conversion (integer i) i) o.tree; none = λ c. o.none (converted_const i g.constant c); constant = ap (constant_converted i) o.constant; ctype = refl }

  if_operand : (k : ℕ) (ts : List CType) (t : Bool) (a b c d : TypedExpression) → IsOperand p k ts a c → IsOperand p k ts b d → IsOperand p k ts (if t then a else b) (if t then c else d)
  if_operand k ts true a b c d h l = h
  if_operand k ts false a b c d h l = l

  pub converted_operand : (k : ℕ) (ts : List CType) (i : IntType) (g : TypedExpression) (x : Expr) → IsRemade p k ts g x → IsOperand p k ts (converted_to i g) (converted_to i (remade g x))
  converted_operand k ts i g x h =
      if_operand k ts (has_integer i g.ctype) g (cast_to i g) (remade g x) (cast_to i (remade g x)) (operand k ts g x h) (cast_operand k ts i g (remade g x) (operand k ts g x h))

  -- a null pointer in place of a constant
  pub null_operand : (k : ℕ) (ts : List CType) (t : CType) (g : TypedExpression) (x : Expr) → is_null g ≡ true → IsRemade p k ts g x → IsOperand p k ts (null_of t) (null_of t)
  null_operand k ts t g x e h = (let n = h.none (zero_const g.constant e) in record { types = sym n; tree = refl; none = λ _. n; constant = refl; ctype = refl })

  assigned_kind : (k : ℕ) (ts : List CType) (d : Kind) (t : CType) (g : TypedExpression) (x : Expr) → IsRemade p k ts g x → IsOperand p k ts (assigned_as d t g) (assigned_as d t (remade g x))
  assigned_kind k ts (an_integer i) t g x h = converted_operand k ts i g x h
  assigned_kind k ts (a_pointer u) t g x h = by_test (is_null g) refl
    where
      by_test : (b : Bool) → is_null g ≡ b → IsOperand p k ts (if b then null_of t else g) (if b then null_of t else remade g x)
      by_test true e = null_operand k ts t g x e h
      by_test false e = operand k ts g x h
  assigned_kind k ts neither t g x h = operand k ts g x h

  pub assigned_operand : (k : ℕ) (ts : List CType) (t : CType) (g : TypedExpression) (x : Expr) → IsRemade p k ts g x → IsOperand p k ts (assigned t g) (assigned t (remade g x))
  assigned_operand k ts t g x h = assigned_kind k ts (kind_of t) t g x h
