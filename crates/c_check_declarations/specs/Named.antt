-- For private contracts and proofs alone: names of parameters, and declarators that are names.
use Rattle.std.specs.Prelude.{Bool, true, false, Option}
use Rattle.c_syntax.specs.declared.tree.Param.{Param as ParamTree, out-Param}
use Rattle.c_syntax.specs.Tree.{Ident, Declarator, nothing, named, pointer, array, function}
use Rattle.c_syntax.specs.Writes.{declarator_in}
use Rattle.c_rules.specs.Declarators.{name_of}

abbrev pub name_of_param : ParamTree → Option Ident
name_of_param p = name_of (declarator_in (out-Param p).declarator)

abbrev pub stands_alone : Declarator → Bool
stands_alone nothing = false
stands_alone (named at x) = true
stands_alone (pointer at d) = false
stands_alone (array at d size) = false
stands_alone (function at d ps) = false
