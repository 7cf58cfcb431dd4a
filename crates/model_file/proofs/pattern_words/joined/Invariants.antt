use Rattle.std.proofs.Common.{◌≡◌, ◌∷◌}
use Rattle.model_file.proofs.PatternLemmas.{filled}
use Rattle.model_file.proofs.pattern_words.joined.Given as goal

abbrev pub invariant-loop-i : goal.invariant-loop-i
invariant-loop-i l = l.pattern ≡ l.fn.entry ∷ filled l.rest l.i
