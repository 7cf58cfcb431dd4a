use Rattle.std.proofs.Common.{◌≡◌, ◌≤◌, ◌-◌, ℕ, List, [], length, vec_len}
use Rattle.dm_io.specs.Front.{ReadsFront}
use Rattle.trace_file.specs.Trace.{longest}
use Rattle.tool_files.proofs.reading.read_to_end.Given as goal

-- a first part of the file was read and followed
abbrev pub invariant-loop-given : goal.invariant-loop-given
invariant-loop-given g l = record {
  given : l.given ≤ 67108865;
  room : vec_len l.room ≡ 4096;
  same : g.S.Store.files l.store ≡ g.S.Store.files l.fn.store;
  faults : g.S.Store.faults l.fn.store ≤ g.S.Store.faults l.store;
  read : (k : ℕ) → g.F.Follower.followed l.fn.follower l.fn.model k []
      → (text : List ℕ) × (length text ≡ l.given) × ReadsFront (g.S.Store.files l.fn.store) l.name text
      × (length text ≤ longest → g.F.Follower.followed l.follower l.model k text);
}

abbrev pub decreases-loop-given : goal.decreases-loop-given
decreases-loop-given g l = 67108865 - l.given
