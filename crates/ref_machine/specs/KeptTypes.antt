-- Function values: at every moment of a run each cell has a value of its type, and each callee is a candidate of its call's site.
use Rattle.std.specs.Prelude.{ℕ, List}
use Rattle.sys_table.specs.declared.sys_result.SysResult.{SysResult}
use Rattle.c_tree.specs.Tree.{Program}
use Rattle.c_meaning.specs.Meaning.{Marks}
use Rattle.c_meaning.specs.Callees.{NamedIsCandidate, ValueIsCandidate}
use Rattle.c_meaning.specs.Laws.{BeginsTyped, PartsAreTyped}
use Rattle.c_meaning.specs.TypedResults.{AreRecorded}

-- The run begins in a typed state, and each of its parts keeps types: so a function value in memory is an address-taken function of the type that its cell points to (C99 6.3.2.3 paragraph 8, 6.5.2.2). And each function that a call calls is a candidate of the site.
pub record HasFunctionValues (p : Program) (records : List SysResult) (turns : ℕ) : Type 0 where
  pub beginning : BeginsTyped p records turns
  pub parts : (marks : Marks) → AreRecorded marks → PartsAreTyped p marks turns
  pub named : NamedIsCandidate p
  pub pointed : ValueIsCandidate p
