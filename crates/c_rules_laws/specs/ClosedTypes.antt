-- For proofs alone: properties of types that pass from names and members to expressions.
use Rattle.std.specs.Prelude.{◌≡◌, ℕ, true, List, [], ◌∷◌, map, Some}
use Rattle.c_tree.specs.declared.value.IntType.{IntType}
use Rattle.c_tree.specs.declared.value.IntType.TheVariants.{Char}
use Rattle.c_tree.specs.Tree.{CType, void, integer, pointer, array, function, CTypes}
use Rattle.c_rules.specs.Names.{Name}
use Rattle.c_rules.specs.Scopes.{Env, Binding, Meaning, a_static, a_local, a_function, an_enumerator, unknown, Member, defined_struct, struct_of, type_of_member, lookup}
use Rattle.c_rules.specs.Conversions.{few_parts}
use Rattle.c_rules.specs.PostfixExpressions.{Designator, direct, through, Callee}
use Rattle.c_rules_laws.specs.MadeTypes.{NotArray}
use Rattle.c_rules_laws.specs.RightScopes.{IsThing}

-- Types that objects and functions may have, and types that values may have. The latter ones are made of the former: values of objects, of
-- arrays and of functions (6.3.2.1), what a pointer leads to, what a function gives, and pointers (6.5.3.2). A null pointer constant has
-- a type that no object has (6.3.2.3 paragraph 3).
pub record AreClosed (W V : CType → Type 0) : Type 0 where
  pub nothing : W void
  pub integers : (i : IntType) → W (integer i)
  pub strings : (n : ℕ) → W (array (integer Char) n)
  pub null : V (pointer void)
  pub loaded : (t : CType) → W t → V t
  pub decayed : (t : CType) (n : ℕ) → V (array t n) → V (pointer t)
  pub functions : (t : CType) (ts : CTypes) → V (function t ts) → few_parts (pointer (function t ts)) ≡ true → V (pointer (function t ts))
  pub led : (t : CType) → IsThing t → V (pointer t) → W t
  pub results : (t : CType) (ts : CTypes) → V (function t ts) → V t
  pub pointers : (t : CType) → NotArray t → W t → few_parts (pointer t) ≡ true → V (pointer t)

abbrev pub AllHave : (CType → Type 0) → List CType → Type 0
AllHave W [] = Unit {0}
AllHave W (t ∷ ts) = W t × AllHave W ts

-- what a name means has a type with the property
abbrev pub MeaningHas : (CType → Type 0) → Meaning → Type 0
MeaningHas W (a_static seen whole d) = W seen
MeaningHas W (a_local n seen whole) = W seen
MeaningHas W (a_function t d) = W t
MeaningHas W (an_enumerator z) = Unit {0}
MeaningHas W (unknown f fs) = Unit {0}

-- names and members of structs have such types
pub record ScopeHas (W : CType → Type 0) (env : Env) : Type 0 where
  pub names : (x : Name) (b : Binding) → lookup env.names x ≡ Some b → MeaningHas W b.means
  pub members : (s : ℕ) (ms : List Member) → struct_of env s ≡ defined_struct ms → AllHave W (map type_of_member ms)

-- the type of the function that is called, or that of the pointer that leads to it
abbrev pub CalledTypeHas : (CType → Type 0) → Designator → CType → Type 0
CalledTypeHas V (direct n) t = V t
CalledTypeHas V (through e) t = V (pointer t)

abbrev pub CalleeHas : (CType → Type 0) → Callee → Type 0
CalleeHas V f = CalledTypeHas V f.designator (function f.returns f.parameters)
