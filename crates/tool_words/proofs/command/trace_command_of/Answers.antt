use Rattle.std.proofs.Common.{◌≡◌, ℕ, ◌≤◌, List, [], ◌∷◌, length, map, string_bytes, Option, Some, None, IfNone, inl, inr, ap, arith}
use Rattle.std.proofs.lemmas.List.{length-map}
use Rattle.certify_facts.specs.declared.fact.Judge.{Judge}
use Rattle.tool_monitors.specs.declared.asked.Asked.{Asked}
use Rattle.tool_words.specs.Command.{Command, TraceCommand, IsCommandLine}
use Rattle.tool_words.specs.Command.Command.{Version, OfWord, OfFile, OfTrace, Measure, Fleet, Run, Audit, Confirm, Certify, Selftest}
use Rattle.tool_words.proofs.command.trace_command_of.Goals as goal

neither : (word model trace : List ℕ) (words : List (List ℕ))
    → 1 ≤ length words
    → ((command : TraceCommand) (m t : List ℕ) (asked : Asked) (bound : ℕ) → IsCommandLine (OfTrace command m t asked bound) (word ∷ model ∷ trace ∷ words) → ⊥)
    → ((m t : List ℕ) (asked : Asked) → IsCommandLine (Measure m t asked) (word ∷ model ∷ trace ∷ words) → ⊥)
    → ((s r : List ℕ) (turns : ℕ) → IsCommandLine (Run s r turns) (word ∷ model ∷ trace ∷ words) → ⊥)
    → ((s r : List ℕ) (turns bound : ℕ) → IsCommandLine (Audit s r turns bound) (word ∷ model ∷ trace ∷ words) → ⊥)
    → ((m t q : List ℕ) → IsCommandLine (Confirm m t q) (word ∷ model ∷ trace ∷ words) → ⊥)
    → ((m t : List ℕ) (judge : Judge) → IsCommandLine (Certify m t judge) (word ∷ model ∷ trace ∷ words) → ⊥)
    → (c : Command) → IsCommandLine c (word ∷ model ∷ trace ∷ words) → ⊥
neither word model trace words some bounded measure run audit confirm certify Version line = elim line [ inl is ↦ cc | inr is ↦ cc ]
neither word model trace words some bounded measure run audit confirm certify (OfWord which) line = cc
neither word model trace words some bounded measure run audit confirm certify (OfFile which file) line = cc
neither word model trace words some bounded measure run audit confirm certify (OfTrace command m t asked bound) line = bounded command m t asked bound line
neither word model trace words some bounded measure run audit confirm certify (Measure m t asked) line = measure m t asked line
neither word model trace words some bounded measure run audit confirm certify (Fleet s which) line = let none : words ≡ [] = cc line in omega (arith, some, ap length none)
neither word model trace words some bounded measure run audit confirm certify (Run s r turns) line = run s r turns line
neither word model trace words some bounded measure run audit confirm certify (Audit s r turns bound) line = audit s r turns bound line
neither word model trace words some bounded measure run audit confirm certify (Confirm m t q) line = confirm m t q line
neither word model trace words some bounded measure run audit confirm certify (Certify m t judge) line = certify m t judge line
neither word model trace words some bounded measure run audit confirm certify (Selftest number size) line = let none : words ≡ [] = cc (line.0) in omega (arith, some, ap length none)

none_of_both : {A : Type 0} (word model trace : List ℕ) (words : List (List ℕ)) (r : Option A)
    → 1 ≤ length words
    → ((command : TraceCommand) (m t : List ℕ) (asked : Asked) (bound : ℕ) → IsCommandLine (OfTrace command m t asked bound) (word ∷ model ∷ trace ∷ words) → ⊥)
    → IfNone r ((m t : List ℕ) (asked : Asked) → IsCommandLine (Measure m t asked) (word ∷ model ∷ trace ∷ words) → ⊥)
    → IfNone r ((s x : List ℕ) (turns : ℕ) → IsCommandLine (Run s x turns) (word ∷ model ∷ trace ∷ words) → ⊥)
    → IfNone r ((s x : List ℕ) (turns bound : ℕ) → IsCommandLine (Audit s x turns bound) (word ∷ model ∷ trace ∷ words) → ⊥)
    → IfNone r ((m t q : List ℕ) → IsCommandLine (Confirm m t q) (word ∷ model ∷ trace ∷ words) → ⊥)
    → IfNone r ((m t : List ℕ) (judge : Judge) → IsCommandLine (Certify m t judge) (word ∷ model ∷ trace ∷ words) → ⊥)
    → IfNone r ((c : Command) → IsCommandLine c (word ∷ model ∷ trace ∷ words) → ⊥)
none_of_both word model trace words (Some x) some bounded measure run audit confirm certify = tt
none_of_both word model trace words None some bounded measure run audit confirm certify = neither word model trace words some bounded measure run audit confirm certify

pub returns-in-None-clause-none : goal.returns-in-None-clause-none
returns-in-None-clause-none c =
    let some : 1 ≤ length (map string_bytes c.args.words.now) = omega (arith, length-map c.args.words.now string_bytes) in
    none_of_both c.args.word.now c.args.model.now c.args.trace.now _ c.unbounded_command_of.result some c.in-None.ensures.none c.unbounded_command_of.ensures.measure c.unbounded_command_of.ensures.run c.unbounded_command_of.ensures.audit c.unbounded_command_of.ensures.confirm c.unbounded_command_of.ensures.certify
