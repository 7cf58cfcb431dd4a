use Rattle.std.proofs.Common.{◌≡◌, ℕ, length, None}
use Rattle.std.specs.Prelude.{slice_index_or}
use Rattle.flow_graph.proofs.call_sites.no_places.Given as goal

abbrev pub invariant-loop-site : goal.invariant-loop-site
invariant-loop-site l = record {
  many : length l.places.items ≡ l._site;
  none : (s : ℕ) → slice_index_or l.places.items s None ≡ None;
}
