-- The names of temporaries: which may be declared, and that they differ.
use Rattle.std.specs.Prelude.{◌≡◌, ◌≢◌, ℕ, ◌<◌, true, false}
use Rattle.dm_base.specs.declared.mode.Mode.TheVariants.{Instrumented}
use Rattle.c_rules.specs.Names.{Name, is_added, is_among, may_be_declared, given_names}
use Rattle.null_calls_laws.specs.Temporaries.{designator_name, argument_name, result_name}

-- a name of the instrumenter, which an instrumented unit may declare, and which has no meaning of its own
pub record IsFreeName (x : Name) : Type 0 where
  pub added : is_added x ≡ true
  pub declarable : may_be_declared Instrumented x ≡ true
  pub other : is_among (given_names Instrumented) x ≡ false

pub record HasFreeNames (site i : ℕ) : Type 0 where
  pub designator : IsFreeName (designator_name site)
  pub argument : IsFreeName (argument_name site i)
  pub result : IsFreeName (result_name site)

abbrev pub NamesAreFree : Type 0
NamesAreFree = (site i : ℕ) → HasFreeNames site i

-- numbers of at most ten digits
abbrev pub limit : ℕ
limit = 10000000000

-- two temporaries have different names
pub record HaveOtherNames (s t i j : ℕ) : Type 0 where
  pub designators : designator_name s ≡ designator_name t → s ≡ t
  pub results : result_name s ≡ result_name t → s ≡ t
  pub arguments : argument_name s i ≡ argument_name t j → (s ≡ t) × (i ≡ j)
  pub designator_argument : designator_name s ≢ argument_name t j
  pub designator_result : designator_name s ≢ result_name t
  pub argument_result : argument_name s i ≢ result_name t

abbrev pub NamesDiffer : Type 0
NamesDiffer = (s t i j : ℕ) → s < limit → t < limit → i < limit → j < limit → HaveOtherNames s t i j
