-- The prototypes of the system calls agree with what a trace records of them.
use Rattle.std.proofs.Common.{◌≡◌, ℕ, zero, suc, List, [], ◌∷◌, map, refl}
use Rattle.sys_table.specs.declared.kinds.ArgKind.{ArgKind}
use Rattle.sys_table.specs.declared.kinds.ArgKind.TheVariants.{Signed, Unsigned, Bytes}
use Rattle.sys_table.specs.declared.kinds.ResultKind.{ResultKind}
use Rattle.sys_table.specs.declared.kinds.ResultKind.TheVariants as r
use Rattle.sys_table.specs.Table.{Row, table}
use Rattle.c_tree.specs.declared.value.IntType.TheVariants.{Int, Uint}
use Rattle.c_tree.specs.Tree.{CType, integer, pointer, function, CTypes, no_types, more_types}
use Rattle.c_tree.specs.Functions.{sys_types}

-- an argument of this type, before others
abbrev kind_before : CType → List ArgKind → List ArgKind
kind_before (integer Int) ks = Signed ∷ ks
kind_before (integer Uint) ks = Unsigned ∷ ks
kind_before (pointer t) ks = Bytes ∷ ks
kind_before _ ks = ks

abbrev kinds_of : CTypes → List ArgKind
kinds_of no_types = []
kinds_of (more_types t ts) = kind_before t (kinds_of ts)

abbrev kinds_in : CType → List ArgKind
kinds_in (function t ts) = kinds_of ts
kinds_in _ = []

abbrev result_in : CType → ResultKind
result_in (function (integer Int) ts) = r.Int
result_in (function (integer Uint) ts) = r.UnsignedInt
result_in _ = r.Void

-- the buffer of read, the second argument, is not recorded, and neither is the size that is passed to write, the third
abbrev recorded_in : ℕ → List ArgKind → List ArgKind
recorded_in zero (descriptor ∷ buffer ∷ ks) = descriptor ∷ ks
recorded_in (suc zero) (descriptor ∷ buffer ∷ ks) = descriptor ∷ buffer ∷ []
recorded_in _ ks = ks

abbrev recorded_from : ℕ → List CType → List (List ArgKind)
recorded_from n [] = []
recorded_from n (t ∷ ts) = recorded_in n (kinds_in t) ∷ recorded_from (suc n) ts

abbrev recorded_of_row : Row → List ArgKind
recorded_of_row row = row.recorded

abbrev result_of_row : Row → ResultKind
result_of_row row = row.outcome

arguments_agree : recorded_from 0 sys_types ≡ map recorded_of_row table
unfolding sys_types table
arguments_agree = refl

results_agree : map result_in sys_types ≡ map result_of_row table
unfolding sys_types table
results_agree = refl
