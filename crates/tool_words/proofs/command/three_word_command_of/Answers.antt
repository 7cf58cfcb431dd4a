use Rattle.std.proofs.Common.{◌≡◌, ℕ, List, [], ◌∷◌, Option, Some, None, IfNone, inl, inr}
use Rattle.flow_model.specs.declared.which.Which.{Which}
use Rattle.tool_words.specs.Command.{Command, IsAskedBy, IsCommandLine}
use Rattle.tool_words.specs.Command.Command.{Version, OfWord, OfFile, OfTrace, Measure, Fleet, Run, Audit, Confirm, Certify, Selftest}
use Rattle.tool_monitors.specs.declared.asked.Asked.{Asked}
use Rattle.tool_words.proofs.command.three_word_command_of.Goals as goal

-- monitors are asked for by one word at least
some_word : (which : Asked) (bound : ℕ) (words : List (List ℕ)) → IsAskedBy which bound words → words ≡ [] → ⊥
some_word which bound words (inl asked) none = cc (asked.0, none)
some_word which bound words (inr asked) none = cc (asked.0, none)

-- no other command has three words
no_other : (word schedule which : List ℕ) → ((n s : ℕ) → IsCommandLine (Selftest n s) (word ∷ schedule ∷ which ∷ []) → ⊥)
    → ((s : List ℕ) (w : Which) → IsCommandLine (Fleet s w) (word ∷ schedule ∷ which ∷ []) → ⊥) → (c : Command) → IsCommandLine c (word ∷ schedule ∷ which ∷ []) → ⊥
no_other word schedule which selftest fleet Version line = elim line [ inl is ↦ cc is | inr is ↦ cc is ]
no_other word schedule which selftest fleet (OfWord command) line = cc line
no_other word schedule which selftest fleet (OfFile command file) line = cc line
no_other word schedule which selftest fleet (OfTrace command m t asked bound) line =
    let rest : line.0 ≡ [] = cc line.1 in
    some_word asked bound line.0 line.2 rest
no_other word schedule which selftest fleet (Measure m t asked) line = cc line
no_other word schedule which selftest fleet (Fleet s w) line = fleet s w line
no_other word schedule which selftest fleet (Run s r turns) line = cc (line.0)
no_other word schedule which selftest fleet (Audit s r turns bound) line = cc (line.0)
no_other word schedule which selftest fleet (Confirm m t q) line = cc line
no_other word schedule which selftest fleet (Certify m t judge) line = cc line
no_other word schedule which selftest fleet (Selftest n s) line = selftest n s line

none_of_three : {A : Type 0} (word second third : List ℕ) (r : Option A) → ((n s : ℕ) → IsCommandLine (Selftest n s) (word ∷ second ∷ third ∷ []) → ⊥)
    → IfNone r ((s : List ℕ) (w : Which) → IsCommandLine (Fleet s w) (word ∷ second ∷ third ∷ []) → ⊥)
    → IfNone r ((c : Command) → IsCommandLine c (word ∷ second ∷ third ∷ []) → ⊥)
none_of_three word second third (Some x) selftest fleet = tt
none_of_three word second third None selftest fleet = no_other word second third selftest fleet

pub returns-in-None-clause-none : goal.returns-in-None-clause-none
returns-in-None-clause-none c = none_of_three c.args.word.now c.args.second.now c.args.third.now c.fleet_of.result c.in-None.ensures.none c.fleet_of.ensures.none
