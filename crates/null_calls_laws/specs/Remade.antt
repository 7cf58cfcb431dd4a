-- What an expression gives in an instrumented unit beside what it gives in the plain one: the same with another tree.
use Rattle.std.specs.Prelude.{◌≡◌, ℕ, ◌+◌, true, List, [], ◌∷◌, ◌++◌, length}
use Rattle.c_tree.specs.Tree.{CType, Expr, Program}
use Rattle.c_rules.specs.Checked.{Checked, fine, faulty}
use Rattle.c_rules.specs.TypedExpression.{Form, a_value, a_place, behind, Constant, not_constant, undefined, known, TypedExpression, tree_of}
use Rattle.null_calls_laws.specs.InstrumentedPrograms.{expr, kept}
use Rattle.null_calls_laws.specs.WithoutSites.{unsited}
use Rattle.c_rules_laws.specs.ConstantForm.{IsConst}

-- the tree in a form
abbrev pub inner_of : Form → Expr
inner_of (a_value e) = e
inner_of (a_place e) = e
inner_of (behind e) = e

abbrev pub with_inner : Form → Expr → Form
with_inner (a_value e) x = a_value x
with_inner (a_place e) x = a_place x
with_inner (behind e) x = behind x

-- the same with another tree
abbrev pub remade : TypedExpression → Expr → TypedExpression
remade g x = record { ctype = g.ctype; form = with_inner g.form x; constant = g.constant }

module _ (p : Program) where
  -- the tree with its temporaries, whose numbers begin with k and whose types are ts; a constant has none
  pub record IsRemade (k : ℕ) (ts : List CType) (g : TypedExpression) (x : Expr) : Type 0 where
    pub types : kept p true (inner_of g.form) ≡ ts
    pub tree : unsited x ≡ expr p k true (inner_of g.form)
    pub none : IsConst g.constant → ts ≡ []

  -- where the first one is fine, the second one is, and gives the same with such a tree
  abbrev pub Follows : (k : ℕ) → List CType → Checked TypedExpression → Checked TypedExpression → Type 0
  Follows k ts (fine g) s = (x : Expr) × (s ≡ fine (remade g x)) × IsRemade k ts g x
  Follows k ts (faulty f fs) s = Unit {0}

  -- two values as the operands of a rule, by their trees
  pub record IsOperand (k : ℕ) (ts : List CType) (g h : TypedExpression) : Type 0 where
    pub types : kept p true (tree_of g) ≡ ts
    pub tree : unsited (tree_of h) ≡ expr p k true (tree_of g)
    pub none : IsConst g.constant → ts ≡ []
    pub constant : h.constant ≡ g.constant
    pub ctype : h.ctype ≡ g.ctype
