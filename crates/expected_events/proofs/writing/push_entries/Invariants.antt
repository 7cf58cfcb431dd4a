use Rattle.std.proofs.Common.{◌≡◌, ◌∷◌, ◌++◌, take, flat_map}
use Rattle.model_file.specs.ModelText.{entry_text}
use Rattle.expected_events.proofs.writing.push_entries.Given as goal

abbrev pub invariant-loop-i : goal.invariant-loop-i
invariant-loop-i l = l.text.items ≡ l.fn.text.items ++ flat_map (λ entry. 32 ∷ entry_text entry) (take l.i l.pattern)
