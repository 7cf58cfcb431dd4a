use Rattle.std.proofs.Common.{◌≡◌, drop, map}
use Rattle.std.specs.Ordering.{nat_cmp}
use Rattle.std.specs.Cmp.Lexicographic.{slice_cmp}
use Rattle.std.specs.FinMap.{find}
use Rattle.dm_io.specs.Memory.{entry_of}
use Rattle.dm_io.proofs.memory_store.find.Given as goal

-- the file is one of those that are left
abbrev pub invariant-loop-key : goal.invariant-loop-key
invariant-loop-key l = find (slice_cmp nat_cmp) l.name (map entry_of (drop l.key-index l.entries)) ≡ find (slice_cmp nat_cmp) l.name (map entry_of l.entries)
