-- Lemmas that several crates above use.
use Rattle.std.proofs.Common.{List, None, Option, Some, arith, refl, subst, unwrap_or, ℕ, ◌+◌, ◌<◌, ◌≡◌, ◌≤◌}
use Rattle.std.proofs.lemmas.Option.{get_or_from_slice_get, slice_get_within}
use Rattle.std.specs.Prelude.{option_map, slice_get}
use Rattle.flow_model.specs.Graph.{Owns}
use Rattle.flow_model.specs.Rules.{HasRightEntries}
use Rattle.flow_model.specs.declared.records.ModelFunction.{ModelFunction}

-- each function begins at a node
pub entry_below : (functions : List ModelFunction) (nodes f : ℕ) (one : ModelFunction) → HasRightEntries functions nodes → slice_get functions f ≡ Some one → one.entry < nodes
entry_below functions nodes f one right has =
    let within = slice_get_within functions f one has in
    subst (λ (m : ModelFunction). m.entry < nodes) (get_or_from_slice_get functions f one one has) (right.below f one within)

pub end_within : (functions : List ModelFunction) (nodes f : ℕ) (r : Option ModelFunction) → HasRightEntries functions nodes → slice_get functions f ≡ r → unwrap_or (option_map (λ one. one.entry) r) nodes ≤ nodes
end_within functions nodes f None right is = omega arith
end_within functions nodes f (Some one) right is = omega (arith, entry_below functions nodes f one right is)

-- a node that is owned is a node
pub owned_below : (functions : List ModelFunction) (nodes f a : ℕ) → HasRightEntries functions nodes → Owns functions nodes f a → a < nodes
owned_below functions nodes f a right owns = omega (arith, owns.to, end_within functions nodes (f + 1) (slice_get functions (f + 1)) right refl)
