-- What is known of the scope of a part of a function's body in a plain unit: its names have types that declarators make, and its functions are those of the program.
use Rattle.std.specs.Prelude.{◌≡◌, ◌≢◌, ◌⊎◌, ℕ, ◌+◌, ◌*◌, ◌≤◌, ◌<◌, Bool, true, List, [], ◌∷◌, length, Some}
use Rattle.c_tree.specs.Tree.{CType, Program}
use Rattle.c_tree.specs.Functions.{called_type}
use Rattle.dm_base.specs.declared.mode.Mode.TheVariants.{Plain}
use Rattle.c_rules.specs.Limits.{most_calls}
use Rattle.c_rules.specs.Names.{Name}
use Rattle.c_rules.specs.Types.{is_scalar}
use Rattle.c_rules.specs.Scopes.{Env, Binding, a_function, evaluated, lookup}
use Rattle.c_rules.specs.PrimaryExpressions.{function_number}
use Rattle.null_calls_laws.specs.Temporaries.{Temporary, designator_name, argument_name, result_name}
use Rattle.null_calls_laws.specs.TemporaryNames.{limit}
use Rattle.c_rules_laws.specs.ClosedTypes.{ScopeHas}
use Rattle.null_calls_laws.specs.WrittenTypes.{Written}

pub record IsWrittenScope (p : Program) (enums tags stood : List Name) (env : Env) : Type 0 where
  pub plain : env.whole.mode ≡ Plain
  pub runs : env.context ≡ evaluated
  pub enums_are : env.enums ≡ enums
  pub tags_are : env.whole.tags ≡ tags
  pub has : ScopeHas (Written enums tags stood) env
  pub functions : (x : Name) (b : Binding) (t : CType) (d : Bool) (f : ℕ) → lookup env.names x ≡ Some b → b.means ≡ a_function t d → function_number env x ≡ Some f → called_type p f ≡ Some t

-- temporaries have scalar types that declarators make
abbrev pub AreWrittenTemporaries : (enums tags stood : List Name) → List Temporary → Type 0
AreWrittenTemporaries enums tags stood [] = Unit {0}
AreWrittenTemporaries enums tags stood (x ∷ xs) = (is_scalar x.ctype ≡ true) × Written enums tags stood x.ctype × AreWrittenTemporaries enums tags stood xs

-- a temporary of a call at one of the sites from lo on, of which there are n
pub record IsOfSite (lo n : ℕ) (x : Temporary) : Type 0 where
  pub site : ℕ
  pub argument : ℕ
  pub least : lo ≤ site
  pub most : site < lo + n
  pub low : site < limit
  pub few : argument < limit
  pub named : (x.name ≡ designator_name site) ⊎ ((x.name ≡ argument_name site argument) ⊎ (x.name ≡ result_name site))

abbrev pub AreOfSites : (lo n : ℕ) → List Temporary → Type 0
AreOfSites lo n [] = Unit {0}
AreOfSites lo n (x ∷ xs) = IsOfSite lo n x × AreOfSites lo n xs

abbrev pub DiffersFrom : Temporary → List Temporary → Type 0
DiffersFrom x [] = Unit {0}
DiffersFrom x (y ∷ ys) = (x.name ≢ y.name) × DiffersFrom x ys

-- their names differ
abbrev pub AllDiffer : List Temporary → Type 0
AllDiffer [] = Unit {0}
AllDiffer (x ∷ xs) = DiffersFrom x xs × AllDiffer xs

-- the temporaries of a part with n calls, of which the first one has the site lo; and the calls are within the limit (5.2.4.1)
pub record AreTemporaries (enums tags stood : List Name) (lo n : ℕ) (xs : List Temporary) : Type 0 where
  pub written : AreWrittenTemporaries enums tags stood xs
  pub sites : AreOfSites lo n xs
  pub differ : AllDiffer xs
  pub few : length xs ≤ 18 * n
  pub within : lo ≤ most_calls Plain → lo + n ≤ most_calls Plain
