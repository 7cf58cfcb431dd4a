use Rattle.std.proofs.Common.{◌≡◌, ◌++◌, map, take}
use Rattle.inline_model.proofs.table.add_candidates.Given as goal

abbrev pub invariant-loop-candidate : goal.invariant-loop-candidate
invariant-loop-candidate l = l.entries.items ≡ l.fn.entries.items ++ map (λ h. record { function = l.function; place = l.place; candidate = h }) (take l.candidate-index l.candidate-items)
