-- For private contracts and proofs alone: declarators that are names.
use Rattle.std.specs.Prelude.{Bool, true, false}
use Rattle.c_syntax.specs.Tree.{Declarator, nothing, named, pointer, array, function}

abbrev pub stands_alone : Declarator → Bool
stands_alone nothing = false
stands_alone (named at x) = true
stands_alone (pointer at d) = false
stands_alone (array at d size) = false
stands_alone (function at d ps) = false
