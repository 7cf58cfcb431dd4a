-- Words that are no command line.
use Rattle.std.proofs.Common.{◌≡◌, ℕ, List, ◌∷◌, Option, Some, None, IfNone, subst}
use Rattle.tool_monitors.specs.declared.asked.Asked.{Asked}
use Rattle.tool_words.specs.Command.{TraceCommand, IsCommandLine, IsAskedBy}
use Rattle.tool_words.specs.Command.Command.{OfTrace}
use Rattle.tool_words.specs.Command.TraceCommand.{Expected, Judge, Watch}

-- what follows the files asks for no monitors
pub no_such_command : (command : TraceCommand) (word model trace : List ℕ) (words : List (List ℕ)) → ((asked : Asked) (bound : ℕ) → IsAskedBy asked bound words → ⊥) → (m t : List ℕ) (asked : Asked) (bound : ℕ) → IsCommandLine (OfTrace command m t asked bound) (word ∷ model ∷ trace ∷ words) → ⊥
no_such_command command word model trace words none m t asked bound line =
    let same : line.0 ≡ words = cc in
    none asked bound (subst (IsAskedBy asked bound) same line.2)

module _ (words : List (List ℕ)) where
  abbrev IsNoLine : TraceCommand → Type 0
  IsNoLine command = (m t : List ℕ) (asked : Asked) (bound : ℕ) → IsCommandLine (OfTrace command m t asked bound) words → ⊥

  none_of_all : IsNoLine Expected → IsNoLine Judge → IsNoLine Watch → (command : TraceCommand) → IsNoLine command
  none_of_all expected judge watch Expected = expected
  none_of_all expected judge watch Judge = judge
  none_of_all expected judge watch Watch = watch

  -- the last two are told of one result
  pub none_of_these : {A : Type 0} (r : Option A) → ((m t : List ℕ) (asked : Asked) (bound : ℕ) → IsCommandLine (OfTrace Judge m t asked bound) words → ⊥)
      → IfNone r ((m t : List ℕ) (asked : Asked) (bound : ℕ) → IsCommandLine (OfTrace Watch m t asked bound) words → ⊥)
      → IfNone r ((m t : List ℕ) (asked : Asked) (bound : ℕ) → IsCommandLine (OfTrace Expected m t asked bound) words → ⊥)
      → IfNone r ((command : TraceCommand) (m t : List ℕ) (asked : Asked) (bound : ℕ) → IsCommandLine (OfTrace command m t asked bound) words → ⊥)
  none_of_these (Some x) judge watch expected = tt
  none_of_these None judge watch expected = none_of_all expected judge watch
