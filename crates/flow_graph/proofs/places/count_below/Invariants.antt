use Rattle.std.proofs.Common.{◌≡◌, ◌≤◌, nat_lt, length, filter, take}
use Rattle.flow_graph.proofs.places.count_below.Given as goal

abbrev pub invariant-loop-x : goal.invariant-loop-x
invariant-loop-x l = record { count : l.count ≡ length (filter (λ x. nat_lt x l.bound) (take l.x-index l.numbers)); few : l.count ≤ l.x-index }
