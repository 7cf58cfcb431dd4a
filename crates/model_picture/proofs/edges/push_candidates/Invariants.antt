use Rattle.std.proofs.Common.{◌≡◌, ◌∷◌, ◌++◌, take, flat_map}
use Rattle.model_picture.specs.Picture.{name_at}
use Rattle.model_picture.proofs.edges.push_candidates.Given as goal

abbrev pub invariant-loop-candidate : goal.invariant-loop-candidate
invariant-loop-candidate l = l.text.items ≡ l.fn.text.items ++ flat_map (λ f. 32 ∷ name_at l.functions f) (take l.candidate-index l.candidates)
