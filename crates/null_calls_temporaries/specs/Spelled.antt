-- For private contracts and proofs alone: one parameter of a function type as it is written.
use Rattle.std.specs.Prelude.{ℕ, List}
use Rattle.c_tree.specs.declared.tree.CType.{CType as TypeTree}
use Rattle.c_tree.specs.View.{ctype_of}
use Rattle.c_syntax.specs.Tree.{nothing, Params, no_params, more_params}
use Rattle.c_rules.specs.Names.{Name}
use Rattle.null_calls_laws.specs.SpelledTypes.{spec_of, declarator_of}

abbrev pub spelled_param : List Name → ℕ → TypeTree → Params
spelled_param tags at t = more_params at (spec_of tags at (ctype_of t)) (declarator_of tags at (ctype_of t) nothing) no_params
