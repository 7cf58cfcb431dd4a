use Rattle.std.proofs.Common.{◌≡◌, ◌<◌, ℕ, ◌∷◌, ◌++◌, take, flat_map, decimal, slice_index_or}
use Rattle.model_file.specs.ModelText.{IsSmall}
use Rattle.model_file.proofs.line_writing.push_numbers.Given as goal

abbrev pub invariant-loop-number : goal.invariant-loop-number
invariant-loop-number l = record {
  text : l.text.items ≡ l.fn.text.items ++ flat_map (λ n. 32 ∷ decimal n) (take l.number-index l.numbers);
  small : (k : ℕ) (d : ℕ) → k < l.number-index → IsSmall (slice_index_or l.numbers k d);
}
