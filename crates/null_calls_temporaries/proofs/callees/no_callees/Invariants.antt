use Rattle.std.proofs.Common.{◌≡◌, ℕ, length, None}
use Rattle.std.specs.Prelude.{slice_index_or}
use Rattle.null_calls_temporaries.proofs.callees.no_callees.Given as goal

abbrev pub invariant-loop-site : goal.invariant-loop-site
invariant-loop-site l = record {
  many : length l.callees.items ≡ l._site;
  none : (s : ℕ) → slice_index_or l.callees.items s None ≡ None;
}
