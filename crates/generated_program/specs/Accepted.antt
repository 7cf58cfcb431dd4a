-- The texts that are generated are accepted by the rules, each as the program in closed form.
use Rattle.std.specs.Prelude.{ℕ, ◌<◌}
use Rattle.dm_base.specs.declared.mode.Mode.TheVariants.{Plain}
use Rattle.c_rules.specs.Accepted.{IsAcceptedAs}
use Rattle.generated_program.specs.Generator.{generated_source}
use Rattle.generated_program.specs.Typed.{generated_program}

-- with at most 500 functions before main
abbrev pub GeneratedTextsAreAccepted : Type 0
GeneratedTextsAreAccepted = (number last : ℕ) → last < 500 → IsAcceptedAs (generated_source number last) Plain (generated_program number last)
