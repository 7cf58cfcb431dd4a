-- Scopes that are right in a program: what each name means where a part stands is there in the program.
use Rattle.std.specs.Prelude.{◌≡◌, ◌⊎◌, ℕ, ◌+◌, ◌≤◌, true, false, List, length, Some, slice_get}
use Rattle.c_tree.specs.declared.value.Value.TheVariants as v
use Rattle.c_tree.specs.Tree.{CType, void, integer, pointer, array, struct, function, Program}
use Rattle.c_tree.specs.Layout.{Structs, cells}
use Rattle.c_tree.specs.Functions.{int, called_type, value_type}
use Rattle.c_tree.specs.Operands.{IsComplete}
use Rattle.c_tree.specs.Kinds.{IsConstant}
use Rattle.c_tree.specs.Typed.{IsStaticOf}
use Rattle.c_rules.specs.Names.{Name, is_among, null_calls}
use Rattle.c_rules.specs.Scopes.{Env, Binding, Meaning, a_static, a_local, a_function, an_enumerator, unknown, evaluated, lookup, binding_of, layout_of}
use Rattle.c_rules.specs.PrimaryExpressions.{object_number, function_number, string_type}
use Rattle.c_rules_laws.specs.MadeTypes.{NotArray, Made, IsSized}
use Rattle.c_rules_laws.specs.SoundStructs.{AreSound, AreWithin}

-- ## Types

-- a type as it is seen, and the whole type: an array has no size within its own initialiser
pub record IsUnsized (t u : CType) : Type 0 where
  pub element : CType
  pub size : ℕ
  pub seen : t ≡ array element 0
  pub whole : u ≡ array element size

abbrev pub Seen : CType → CType → Type 0
Seen t u = (t ≡ u) ⊎ IsUnsized t u

-- no void
abbrev pub IsThing : CType → Type 0
IsThing void = ⊥
IsThing (integer i) = Unit {0}
IsThing (pointer t) = Unit {0}
IsThing (array t n) = Unit {0}
IsThing (struct s) = Unit {0}
IsThing (function t ts) = Unit {0}

-- what a name means has a type that declarators make
abbrev pub MeaningTyped : Structs → Meaning → Type 0
MeaningTyped structs (a_static seen whole d) = IsSized structs seen × IsSized structs whole
MeaningTyped structs (a_local n seen whole) = IsSized structs seen × IsSized structs whole
MeaningTyped structs (a_function t d) = Made structs t × NotArray t
MeaningTyped structs (an_enumerator z) = Unit {0}
MeaningTyped structs (unknown f fs) = Unit {0}

-- what is known of the names and structs where an expression stands
pub record AreKnown (structs : Structs) (names : List Binding) : Type 0 where
  pub sound : AreSound structs
  pub meanings : (x : Name) (b : Binding) → lookup names x ≡ Some b → MeaningTyped structs b.means

abbrev pub IsKnown : Env → Type 0
IsKnown env = AreKnown (layout_of env) env.names

-- ## Names in a program

module _ (p : Program) (vars : List CType) where
  -- what a name means is right in the program, in a function with these variables
  abbrev pub MeaningRight : Env → Name → Meaning → Type 0
  MeaningRight env x (a_static seen whole d) =
      Seen seen whole × IsThing seen × IsComplete (layout_of env) whole × (cells (layout_of env) whole ≤ 65536) × ((n : ℕ) → object_number env x ≡ Some n → IsStaticOf p false n whole)
  MeaningRight env x (a_local n seen whole) = Seen seen whole × IsThing seen × (slice_get vars n ≡ Some whole)
  MeaningRight env x (a_function t d) =
      IsThing t × ((f : ℕ) → function_number env x ≡ Some f → called_type p f ≡ Some t) × ((f : ℕ) → function_number env x ≡ Some f → is_among null_calls x ≡ false → value_type p f ≡ Some t)
  MeaningRight env x (an_enumerator z) = IsConstant int (v.Int z)
  MeaningRight env x (unknown f fs) = Unit {0}

  -- each name is right
  pub record IsRight (env : Env) : Type 0 where
    pub runs : env.context ≡ evaluated
    pub names_known : IsKnown env
    pub within : AreWithin (layout_of env) p.structs
    pub meanings : (x : Name) (b : Binding) → binding_of env x ≡ Some b → MeaningRight env x b.means

  -- the strings are those of the program from a number on
  abbrev pub StringsIn : ℕ → List (List ℕ) → Type 0
  StringsIn k ws = (j : ℕ) (w : List ℕ) → slice_get ws j ≡ Some w → IsStaticOf p true (k + j) (string_type (length w))
