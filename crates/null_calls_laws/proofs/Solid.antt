-- Trees that have the same temporaries whether their value is wanted or not.
use Rattle.std.proofs.Common.{◌≡◌, ℕ, nat_eq, refl, sym, subst}
use Rattle.std.proofs.lemmas.Bool.Decides.{Decides-eqb}
use Rattle.c_lexer.specs.declared.punctuator.TheConstants.{AMPERSAND, ASTERISK}
use Rattle.c_tree.specs.Tree.{CType, void, pointer, array, struct, function, Program}
use Rattle.c_rules.specs.Checked.{Checked, on, both}
use Rattle.c_rules.specs.Scopes.{Env}
use Rattle.c_rules.specs.TypedExpression.{Form, a_value, behind, TypedExpression, tree_of_form, tree_of}
use Rattle.c_rules.specs.Conversions.{few_parts, loaded, valued_as, valued}
use Rattle.c_rules.specs.UnaryExpressions.{address, led_to, indirection, unary_of_value}
use Rattle.c_rules.specs.BinaryExpressions.{sum}
use Rattle.c_rules.specs.Expressions.{value_at, unary_rule}
use Rattle.c_rules_laws.proofs.Holding.{on_holds, if_holds, holds_map}
use Rattle.c_rules_laws.proofs.Operators.{IsAddress, of_place, of_leader, address_agrees}
use Rattle.null_calls_laws.proofs.Leaves.{Holds, after_part, demand_holds}
use Rattle.null_calls_laws.proofs.Given.{IsSolid, IsOwn, IsGiven, by_own, by_given, own_given, after_two, if_known, rest_own, sum_own}

module _ (p : Program) where
  -- what leads to a place by a tree that is so
  abbrev pub FirmBehind : Form → Type 0
  FirmBehind (behind e) = IsSolid p e
  FirmBehind f = Unit {0}

  abbrev pub LeadsFirmly : TypedExpression → Type 0
  LeadsFirmly g = FirmBehind g.form

  -- what gives a value whose tree is so, or a place
  abbrev pub FirmForm : Form → Type 0
  FirmForm (a_value e) = IsSolid p e
  FirmForm f = Unit {0}

  abbrev pub IsFirm : TypedExpression → Type 0
  IsFirm g = FirmForm g.form

  pub given_firm : (r : Checked TypedExpression) → Holds IsGiven r → Holds IsFirm r
  given_firm r h = by_given (λ t c f. FirmForm f) (λ t c e l. l.solid p) (λ t c e l. tt) r h

  pub given_led : (r : Checked TypedExpression) → Holds IsGiven r → Holds LeadsFirmly r
  given_led r h = by_given (λ t c f. FirmBehind f) (λ t c e l. tt) (λ t c e l. tt) r h

  abbrev pub SolidValue : TypedExpression → Type 0
  SolidValue g = IsSolid p (tree_of g)

  own_solid : (g : TypedExpression) → IsOwn g → SolidValue g
  own_solid g h = by_own (λ t c f. IsSolid p (tree_of_form t f)) (λ t c e l. l.solid p) g.ctype g.constant g.form h

  loaded_solid : (g : TypedExpression) (f : Form) → g.form ≡ f → FirmForm f → SolidValue (loaded g f)
  loaded_solid g (a_value e) q h = subst (λ z. IsSolid p (tree_of_form g.ctype z)) (sym q) h
  loaded_solid g f q h = record { types = refl; tree = λ k. refl }

  valued_as_solid : (env : Env) (at : ℕ) (g : TypedExpression) (t : CType) → IsFirm g → Holds SolidValue (valued_as env at g t)
  valued_as_solid env at g (array t n) h = record { types = refl; tree = λ k. refl }
  valued_as_solid env at g (struct s) h = tt
  valued_as_solid env at g (function t ts) h = demand_holds SolidValue (few_parts (pointer g.ctype)) 13 at _ (record { types = refl; tree = λ k. refl })
  valued_as_solid env at g t h = loaded_solid g g.form refl h

  pub value_solid : (env : Env) (at : ℕ) (r : Checked TypedExpression) → Holds IsFirm r → Holds SolidValue (value_at env at r)
  value_solid env at r h = on_holds IsFirm SolidValue r (valued env at) h (λ g l. valued_as_solid env at g g.ctype l)

  -- ## Unary operators

  led_firm : (at : ℕ) (g : TypedExpression) (t : CType) → Holds IsFirm (led_to at g t)
  led_firm at g (pointer void) = tt
  led_firm at g t = tt

  address_is_firm : (g h : TypedExpression) → IsAddress g h → LeadsFirmly g → IsFirm h
  address_is_firm g h (of_place e q n) l = record { types = refl; tree = λ k. refl }
  address_is_firm g h (of_leader e q n) l = subst FirmBehind q l

  address_firm : (at place : ℕ) (g : TypedExpression) → LeadsFirmly g → Holds IsFirm (address at place g)
  address_firm at place g l = holds_map (IsAddress g) IsFirm (λ h a. address_is_firm g h a l) (address at place g) (address_agrees at at g place place).has

  pub unary_firm : (env : Env) (at place code : ℕ) (r : Checked TypedExpression) → (code ≡ AMPERSAND → Holds LeadsFirmly r) → Holds IsFirm (unary_rule env at place code r)
  unary_firm env at place code r h =
      if_known IsFirm (nat_eq code AMPERSAND) _ _ (λ e. on_holds LeadsFirmly IsFirm r (address at place) (h ((Decides-eqb code AMPERSAND).0 e)) (λ g m. address_firm at place g m))
      (after_part IsFirm (value_at env place r) (unary_of_value at code) (λ g. if_holds IsFirm (nat_eq code ASTERISK) _ _ (led_firm at g g.ctype) (given_firm _ (own_given _ (rest_own at code g)))))

  -- ## Indices

  index_led : (at : ℕ) (g : TypedExpression) (t : CType) → SolidValue g → Holds LeadsFirmly (led_to at g t)
  index_led at g (pointer void) h = tt
  index_led at g (pointer t) h = h
  index_led at g t h = tt

  pub index_leads : (env : Env) (at : ℕ) (r s : Checked TypedExpression) → Holds LeadsFirmly (on (both r s (sum env at)) (indirection at))
  index_leads env at r s = on_holds IsOwn LeadsFirmly (both r s (sum env at)) (indirection at) (after_two IsOwn r s (sum env at) (sum_own env at)) (λ g h. index_led at g g.ctype (own_solid g h))

  pub index_firm : (env : Env) (at : ℕ) (r s : Checked TypedExpression) → Holds IsFirm (on (both r s (sum env at)) (indirection at))
  index_firm env at r s = after_part IsFirm (both r s (sum env at)) (indirection at) (λ g. led_firm at g g.ctype)

  -- ## Operands of &

  address_leads : (g h : TypedExpression) → IsAddress g h → LeadsFirmly h
  address_leads g h (of_place e q n) = tt
  address_leads g h a = tt

  address_led : (at place : ℕ) (g : TypedExpression) → Holds LeadsFirmly (address at place g)
  address_led at place g = holds_map (IsAddress g) LeadsFirmly (address_leads g) (address at place g) (address_agrees at at g place place).has

  unary_value_led : (at code : ℕ) (g : TypedExpression) → (code ≡ ASTERISK → ⊥) → Holds LeadsFirmly (unary_of_value at code g)
  unary_value_led at code g n = if_known LeadsFirmly (nat_eq code ASTERISK) _ _ (λ e. absurd (n ((Decides-eqb code ASTERISK).0 e))) (given_led _ (own_given _ (rest_own at code g)))

  pub unary_led : (env : Env) (at place code : ℕ) (r : Checked TypedExpression) → (code ≡ ASTERISK → ⊥) → Holds LeadsFirmly (unary_rule env at place code r)
  unary_led env at place code r n =
      if_holds LeadsFirmly (nat_eq code AMPERSAND) _ _ (after_part LeadsFirmly r (address at place) (λ g. address_led at place g)) (after_part LeadsFirmly (value_at env place r) (unary_of_value at code) (λ g. unary_value_led at code g n))
